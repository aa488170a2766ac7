-- The state that is read in an image is one in which an exploration begins.
use Rattle.std.proofs.Common.{◌≡◌, ◌+◌, ◌*◌, ◌/◌, ◌%◌, ◌<◌, ℕ, zero, suc, Bool, true, false, List, [], ◌∷◌, map, Option, Some, None, inl, inr, slice_get, replicate, refl, sym, ap, subst, ◌∙◌, if◌then◌else◌, arith}
use Rattle.std.specs.Prelude.{IsTrue, slice_index}
use Rattle.std.specs.List.{AllByRecursion}
use Rattle.std.proofs.lemmas.Bool.{cases_lt}
use Rattle.std.proofs.lemmas.List.{get_or-replicate, get_or_past, length-replicate}
use Rattle.line_device.specs.Device.{Device}
use Rattle.line_device.specs.History.{newest}
use Rattle.line_device.specs.Medium.{last_image}
use Rattle.line_device.specs.Panel.{Image, Panel}
use Rattle.line_device.specs.Word.{word_at, word_from}
use Rattle.line_device.specs.declared.line.LineState.{LineState}
use Rattle.line_device.specs.declared.line.LineState.TheVariants.{Healthy, Weak, Bad}
use Rattle.word_tables.specs.declared.geometry.Geometry.{Geometry}
use Rattle.word_tables.specs.Bounds.{IsValid}
use Rattle.word_tables.specs.Layout.{total_lines, volume_line}
use Rattle.nvm_model.specs.Cell.{Cell, read_cell}
use Rattle.nvm_model.specs.Cell.Cell.{Bad as BadCell, Kept}
use Rattle.nvm_model.specs.Numbered.{list_from}
use Rattle.nvm_model.specs.Page.{read_pages}
use Rattle.nvm_model.proofs.PageLemmas.{cell_of-read_pages, read_pages-there}
use Rattle.pm_volume.specs.Presence.{presence_read}
use Rattle.file_journal.specs.Files.{UnitFile, files_of}
use Rattle.file_journal.specs.Reading.{tables_read, wrong_file_place}
use Rattle.file_journal.specs.Standing.{file_read, files_read, line_of_file, pages_there}
use Rattle.image_file.specs.Devices.{image_of, medium_of, told_values, told_word}
use Rattle.image_file.specs.Text.{AreFileBytes, IsImageLine, IsOfBytes, Snapshot}
use Rattle.recovery.specs.Findings.{first_finding, geometry_told}
use Rattle.recovery.proofs.FindingLemmas.{nothing_found}
use Rattle.outcome_lists.specs.MachineModel.Lines.{bad_metadata}
use Rattle.outcome_lists.specs.MachineModel.Machine.{Machine}
use Rattle.outcome_lists.specs.MachineModel.Restarting.{reading}
use Rattle.outcome_lists.specs.MachineHost.Stands.{HostState, Stands}
use Rattle.outcome_lists.proofs.MachineHost.MountedLemmas.{layout_found}
use Rattle.outcome_lists.proofs.MachineHost.ReadingLemmas.{read_whole}
use Rattle.outcome_lists.specs.OutcomeTest.Finds.{IsReady}
use Rattle.outcome_lists.specs.OutcomeRuns.Kept.{IsKept}
use Rattle.outcome_lists.specs.Explorer.Starting.{AreDurable, AreOfBytes, Begins, HaveDurable}
use Rattle.program_base.specs.Begins as base
use Rattle.program_base.specs.Opening.{Mounts, opened}
use Rattle.program_base.proofs.OpenLemmas.{flushed_of_image, good_image}

-- what a mount finds nothing wrong with is ready, and is kept
abbrev pub Mounted : Type 0
Mounted = (geo : Geometry) (image : Image) → IsValid geo → image.count ≡ total_lines geo → image.unit ≡ 8 → bad_metadata geo image.is_bad ≡ [] → wrong_file_place geo image.word ≡ None
    → IsReady (reading geo image) × IsKept (reading geo image)

-- each word of an image is as it was last stored
last_told : (line : Option LineState) (w : ℕ) → newest (told_values line w) ≡ told_word line w
last_told None w = refl
last_told (Some (Healthy bytes)) w = refl
last_told (Some (Weak bytes)) w = refl
last_told (Some Bad) w = refl

last_is : (unit : ℕ) (lines : List LineState) → last_image (medium_of lines) ≡ (image_of unit lines).word
last_is unit lines = λ i p. last_told (slice_get lines (p / 8)) (p % 8) i

pub kept_opened : Mounted → (image : Snapshot) → image.unit ≡ 8 → first_finding (medium_of image.lines) ≡ None → IsReady (opened image) × IsKept (opened image)
kept_opened mounted image words right =
    let m = medium_of image.lines in
    let geo = geometry_told m in
    let layout = layout_found m (flushed_of_image image.lines) right in
    mounted geo (image_of image.unit image.lines) layout.valid layout.lines words (good_image image.lines right) (subst (λ word. wrong_file_place geo word ≡ None) (last_is image.unit image.lines) (nothing_found m right).3)

-- a line has 64 bytes, if any
abbrev IsOfLine : Option LineState → Type 0
IsOfLine None = Unit {0}
IsOfLine (Some line) = IsImageLine line × IsOfBytes line

is_of_line : (lines : List LineState) (n : ℕ) → AllByRecursion IsImageLine lines → AllByRecursion IsOfBytes lines → IsOfLine (slice_get lines n)
is_of_line [] n whole bytes = tt
is_of_line (line ∷ lines) zero whole bytes = (whole.0, bytes.0)
is_of_line (line ∷ lines) (suc n) whole bytes = is_of_line lines n whole.1 bytes.1

zeros_small : AreFileBytes (replicate 64 0)
zeros_small i = elim (cases_lt i 64) as (λ _. slice_index (replicate 64 0) i < 256) [
  | inl below ↦ subst (λ b. b < 256) (sym (get_or-replicate 64 i 0 0 below)) (omega arith)
  | inr past ↦ subst (λ b. b < 256) (sym (get_or_past (replicate 64 0) i 0 (omega (arith, past, length-replicate {A = ℕ} 64 0)))) (omega arith)
]

zeros_are : list_from (λ w. 0 ∷ []) 0 8 ≡ list_from (λ w. word_at (replicate 64 0) w ∷ []) 0 8
unfolding word_from
zeros_are = refl

of_zeros : AreOfBytes (list_from (λ w. 0 ∷ []) 0 8)
of_zeros = record { bytes = replicate 64 0; size = length-replicate {A = ℕ} 64 0; small = zeros_small; are = zeros_are }

words_of : (line : Option LineState) → IsOfLine line → AreOfBytes (list_from (λ w. told_word line w ∷ []) 0 8)
words_of None of = of_zeros
words_of (Some (Healthy bytes)) of = record { bytes = bytes; size = of.0; small = of.1; are = refl }
words_of (Some (Weak bytes)) of = record { bytes = bytes; size = of.0; small = of.1; are = refl }
words_of (Some Bad) of = of_zeros

-- eight words of a line, by their places
words_at : (f g : ℕ → List ℕ) (a b count : ℕ) → ((k : ℕ) → k < count → f (a + k) ≡ g (b + k)) → list_from f a count ≡ list_from g b count
words_at f g a b zero each = refl
words_at f g a b (suc count) each =
    let first : f a ≡ g b = (let a0 : a ≡ a + 0 = omega arith in let b0 : b + 0 ≡ b = omega arith in ap f a0 ∙ each 0 (omega arith) ∙ ap g b0) in
    let rest = words_at f g (suc a) (suc b) count
    (λ k below.
    let a1 : suc a + k ≡ a + suc k = omega arith in
    let b1 : b + suc k ≡ suc b + k = omega arith in
    ap f a1 ∙ each (suc k) (omega arith) ∙ ap g b1) in
    (λ i. first i ∷ rest i)

line_words : (unit : ℕ) (lines : List LineState) (m : ℕ) → list_from (λ p. (image_of unit lines).word p ∷ []) (8 * m) 8 ≡ list_from (λ w. told_word (slice_get lines m) w ∷ []) 0 8
line_words unit lines m =
    words_at (λ p. (image_of unit lines).word p ∷ []) (λ w. told_word (slice_get lines m) w ∷ []) (8 * m) 0 8
    (λ k below.
    let line : (8 * m + k) / 8 ≡ m = omega (arith, below) in
    let place : (8 * m + k) % 8 ≡ 0 + k = omega (arith, below) in
    (λ i. told_word (slice_get lines (line i)) (place i) ∷ []))

-- of each line of pages that are read, each word has one value
of_cell : (unit : ℕ) (lines : List LineState) (m : ℕ) (weak : Bool) (words : List (List ℕ)) → IsOfLine (slice_get lines m) → read_cell (image_of unit lines) m ≡ Kept weak words → AreOfBytes words
of_cell unit lines m weak words of is = by_mark ((image_of unit lines).is_bad m) is
  where
    by_mark : (b : Bool) → (if b then BadCell else Kept ((image_of unit lines).is_weak m) (list_from (λ p. (image_of unit lines).word p ∷ []) (8 * m) 8)) ≡ Kept weak words → AreOfBytes words
    by_mark true same = absurd (cc same)
    by_mark false same =
        let are : list_from (λ p. (image_of unit lines).word p ∷ []) (8 * m) 8 ≡ words = cc same in
        subst AreOfBytes (sym (line_words unit lines m) ∙ are) (words_of (slice_get lines m) of)

same_cell : (a b : Cell) → Some a ≡ Some b → a ≡ b
same_cell a b is = cc is

durable_read : (unit : ℕ) (place : ℕ → ℕ) (there : List Bool) (lines : List LineState) → AllByRecursion IsImageLine lines → AllByRecursion IsOfBytes lines
    → AreDurable (read_pages place (image_of unit lines) there)
durable_read unit place there lines whole bytes n weak words is =
    let cell = cell_of-read_pages place (image_of unit lines) there n (read_pages-there place (image_of unit lines) there n (Kept weak words) is) in
    of_cell unit lines (place n) weak words (is_of_line lines (place n) whole bytes) (same_cell (read_cell (image_of unit lines) (place n)) (Kept weak words) (sym cell ∙ is))

files_durable : (unit : ℕ) (geo : Geometry) (lines : List LineState) → AllByRecursion IsImageLine lines → AllByRecursion IsOfBytes lines → (on : List UnitFile)
    → HaveDurable (map (file_read geo (image_of unit lines)) on)
files_durable unit geo lines whole bytes [] = tt
files_durable unit geo lines whole bytes (file ∷ on) = (durable_read unit (line_of_file geo file) (pages_there file) lines whole bytes, files_durable unit geo lines whole bytes on)

all_durable : (unit : ℕ) (geo : Geometry) (lines : List LineState) → AllByRecursion IsImageLine lines → AllByRecursion IsOfBytes lines → HaveDurable (files_read geo (image_of unit lines))
unfolding files_read
all_durable unit geo lines whole bytes = files_durable unit geo lines whole bytes (files_of (tables_read geo (image_of unit lines).word))

pub begins_opened : Mounted → (image : Snapshot) → image.unit ≡ 8 → first_finding (medium_of image.lines) ≡ None → AllByRecursion IsImageLine image.lines → AllByRecursion IsOfBytes image.lines
    → Begins (opened image)
begins_opened mounted image words right whole bytes =
    let lines = image.lines in
    let geo = geometry_told (medium_of lines) in
    let shown = image_of image.unit lines in
    let there = presence_read geo shown.word in
    let kept = kept_opened mounted image words right in
    let read = read_whole geo shown (good_image lines right) in
    record {
      ready = kept.0;
      durable = subst AreDurable (sym (ap (λ (h : Machine). h.volume) read)) (durable_read image.unit (volume_line geo) there lines whole bytes);
      files = subst HaveDurable (sym (ap (λ (h : Machine). h.files) read)) (all_durable image.unit geo lines whole bytes);
      in_order = kept.1.listed.in_order;
      mappings = ap (λ (h : Machine). h.mappings) read;
      handles = ap (λ (h : Machine). h.next_handle) read;
    }

-- where nothing is armed, a run begins in just this state
not_armed : (b : Bool) (armed : Bool) → (IsTrue b → IsTrue armed) → armed ≡ false → b ≡ false
not_armed true armed was none = sym (was refl) ∙ none
not_armed false armed was none = refl

pub begin_is : (image : Snapshot) (p : Panel) (h : Machine) → first_finding (medium_of image.lines) ≡ None → base.Begins (opened image) p h → p.cut_armed ≡ false → p.fail_armed ≡ false
    → h ≡ opened image
begin_is image p h right begins no_cut no_failure =
    let whole = read_whole (geometry_told (medium_of image.lines)) (image_of image.unit image.lines) (good_image image.lines right) in
    begins.state
    ∙ (λ i. record (opened image) { cut_armed = not_armed h.cut_armed p.cut_armed begins.cut no_cut i; fail_armed = not_armed h.fail_armed p.fail_armed begins.fail no_failure i })
    ∙ ap (λ (k : Machine). record k { cut_armed = false; fail_armed = false }) whole
    ∙ sym whole

-- so a host that was mounted on it stands for that state
pub at_start : (image : Snapshot) (host : HostState) (old new : Device) → Mounts image host old new → old.panel.cut_armed ≡ false → old.panel.fail_armed ≡ false → Stands host new (opened image)
at_start image host old new mounted no_cut no_failure = subst (Stands host new) (begin_is image old.panel mounted.begin mounted.right mounted.begins no_cut no_failure) mounted.stands

-- its sizes are those of the image, and valid
pub mounted_sizes : (image : Snapshot) (host : HostState) (old new : Device) → Mounts image host old new → host.geometry ≡ (opened image).geometry
mounted_sizes image host old new mounted = mounted.stands.geometry ∙ ap (λ (h : Machine). h.geometry) mounted.begins.state

pub mounted_valid : (image : Snapshot) (host : HostState) (old new : Device) → Mounts image host old new → IsValid host.geometry
mounted_valid image host old new mounted = mounted.serves.layout.valid
