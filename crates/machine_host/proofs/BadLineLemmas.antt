-- Which lines of metadata are bad: the lowest one, what a search for it finds, and one more.
use Rattle.std.proofs.Common.{◌≡◌, inl, inr, ℕ, ◌+◌, ◌*◌, ◌<◌, ◌≤◌, ◌==◌, Bool, zero, suc, true, false, cond, List, [], ◌∷◌, Option, Some, None, option_map, position, refl, sym, ◌∙◌, ap, ap₂, arith}
use Rattle.std.specs.Prelude.{filter}
use Rattle.std.specs.List.{range_with_len}
use Rattle.std.proofs.lemmas.Bool.{cases_Bool, cases_lt, lt-ltb, le-ltb, ne_eqb, eq-eqb, false≢true}
use Rattle.line_device.specs.Medium.{Medium, IsSound, WritesBack, last_image, poisoned, with_at}
use Rattle.word_tables.specs.declared.geometry.Geometry.{Geometry}
use Rattle.word_tables.specs.Layout.{first_line, meta_lines, size, total_lines}
use Rattle.std.specs.Prelude.{unwrap_or}
use Rattle.word_log.specs.Mount.{Finding}
use Rattle.word_log.specs.Mount.Finding.{bad_line, wrong_word}
use Rattle.nvm_model.specs.Blocks.{first_there}
use Rattle.block_device.specs.Object.{HasGoodMetadata}
use Rattle.recovery.specs.Findings.{geometry_told, superblock_finding, meta_finding, early_finding, inspection_finding, first_finding, wrong_log, wrong_table}
use Rattle.recovery.proofs.FindingLemmas.{superblock_bad}
use Rattle.recovery.proofs.SuperblockLemmas.{early_none, some_lines, superblock_none, superblock-poisoned, superblock_told}
use Rattle.machine_host.specs.Lines.{HasLayout, MetadataStands}
use Rattle.machine_model.specs.Lines.{bad_metadata, lowest}
use Rattle.machine_model.specs.OnMedia.{with_line}
use Rattle.machine_model.proofs.FirstLemmas.{IsFirst, first_of, head, none_of, searched}
use Rattle.machine_host.proofs.LayoutLemmas.{filter-same}

-- one more line is bad: behind it nothing changes
same_behind : (test : ℕ → Bool) (line from len : ℕ) → line < from → filter (with_at test line true) (range_with_len from len) ≡ filter test (range_with_len from len)
same_behind test line from zero past = refl
same_behind test line from (suc len) past =
    ap₂ (λ b (ns : List ℕ). cond b (from ∷ ns) ns) (ap (λ b. cond b true (test from)) (ne_eqb from line (λ e. omega (arith, past, e)))) (same_behind test line (from + 1) len (omega (arith, past)))

-- it comes before those behind it
front : (test : ℕ → Bool) (line from len : ℕ) → line < from → (lines : List ℕ) → filter test (range_with_len from len) ≡ lines → line ∷ lines ≡ with_line line lines
front test line from len past [] is = refl
front test line from len past (next ∷ lines) is =
    let first = first_of test from len next lines is in
    ap (λ b. cond b (line ∷ next ∷ lines) (cond (line == next) (next ∷ lines) (next ∷ with_line line lines))) (sym (lt-ltb line next (let after = first.from in omega (arith, past, after))))

module _ (test : ℕ → Bool) (line start len : ℕ) where
  abbrev before : List ℕ
  before = filter test (range_with_len (start + 1) len)

  abbrev now : List ℕ
  now = filter (with_at test line true) (range_with_len (start + 1) len)

  here : start ≡ line → (was : Bool) → start ∷ now ≡ with_line line (cond was (start ∷ before) before)
  here at true =
      ap (λ ns. start ∷ ns) (same_behind test line (start + 1) len (omega (arith, at)))
      ∙ ap (λ b. cond b (start ∷ before) (start ∷ with_line line before)) (sym (eq-eqb line start (sym at)))
      ∙ ap (λ b. cond b (line ∷ start ∷ before) (cond (line == start) (start ∷ before) (start ∷ with_line line before))) (sym (le-ltb line start (omega (arith, at))))
  here at false =
      ap (λ ns. start ∷ ns) (same_behind test line (start + 1) len (omega (arith, at))) ∙ ap (λ n. n ∷ before) at ∙ front test line (start + 1) len (omega (arith, at)) before refl

  later : start < line → now ≡ with_line line before → (was : Bool) → cond was (start ∷ now) now ≡ with_line line (cond was (start ∷ before) before)
  later past more true =
      ap (λ ns. start ∷ ns) more
      ∙ ap (λ b. cond b (start ∷ before) (start ∷ with_line line before)) (sym (ne_eqb line start (λ e. omega (arith, past, e))))
      ∙ ap (λ b. cond b (line ∷ start ∷ before) (cond (line == start) (start ∷ before) (start ∷ with_line line before))) (sym (le-ltb line start (omega (arith, past))))
  later past more false = more

one_more : (test : ℕ → Bool) (line start len : ℕ) → start ≤ line → line < start + len
    → filter (with_at test line true) (range_with_len start len) ≡ with_line line (filter test (range_with_len start len))
one_more test line start zero from below = absurd (omega (arith, from, below))
one_more test line start (suc len) from below =
    let step : Bool → List ℕ = λ at. cond (cond at true (test start)) (start ∷ now test line start len) (now test line start len) in
    elim (cases_lt start line) as (λ _. step (start == line) ≡ with_line line (cond (test start) (start ∷ before test line start len) (before test line start len))) [
      | inl past ↦
          ap step (ne_eqb start line (λ e. omega (arith, past, e)))
          ∙ later test line start len past (one_more test line (start + 1) len (omega (arith, past)) (omega (arith, below))) (test start)
      | inr up_to ↦ let at : start ≡ line = omega (arith, from, up_to) in ap step (eq-eqb start line at) ∙ here test line start len at (test start)
    ]

-- so the lowest line, 0 where there is none
pub lowest_found : (geo : Geometry) (m : Medium) (lines result : ℕ) (found : Option ℕ) → lines ≡ meta_lines geo → found ≡ position m.is_bad (range_with_len 0 lines) → result ≡ unwrap_or found 0
    → result ≡ lowest (bad_metadata geo m.is_bad)
lowest_found geo m lines result found many is told =
    told ∙ ap (λ o. unwrap_or o 0) (is ∙ ap (λ n. position m.is_bad (range_with_len 0 n)) many ∙ searched m.is_bad (meta_lines geo)) ∙ by_list (bad_metadata geo m.is_bad)
  where
    by_list : (lines : List ℕ) → unwrap_or (head lines) 0 ≡ lowest lines
    by_list [] = refl
    by_list (line ∷ lines) = refl

-- the lines of metadata are on the device
pub meta_within : (geo : Geometry) → meta_lines geo ≤ total_lines geo
unfolding first_line size total_lines
meta_within geo = omega arith

pub meta_on_device : (geo : Geometry) (m : Medium) → HasLayout geo m → (lines : ℕ) → lines ≡ meta_lines geo → 0 + lines ≤ m.count
meta_on_device geo m layout lines many = let within = meta_within geo in omega (arith, many, within, layout.lines)

pub meta_there : (geo : Geometry) (m : Medium) → HasLayout geo m → (line : ℕ) → line < meta_lines geo → line < m.count
meta_there geo m layout line within = let all = meta_within geo in omega (arith, within, all, layout.lines)

module _ (geo : Geometry) (m : Medium) where
  -- where none is bad
  pub good_lines : bad_metadata geo m.is_bad ≡ [] → HasGoodMetadata geo m
  good_lines none n below = none_of m.is_bad 0 (meta_lines geo) none n (omega arith) (omega (arith, below))

  module _ (layout : HasLayout geo m) (sound : IsSound m) where
    some : 1 ≤ m.count
    some = omega (arith, layout.lines, some_lines geo)

    -- a mount finds the host's sizes, if it can read them
    pub sizes_told : m.is_bad 0 ≡ false → geometry_told m ≡ geo
    sizes_told good = superblock_told geo m sound some good layout.superblock layout.valid

    pub nothing_early : bad_metadata geo m.is_bad ≡ [] → early_finding m ≡ None
    nothing_early none = early_none geo m sound layout.valid layout.lines (good_lines none) layout.strong layout.superblock

    -- a mount finds the lowest bad line, before any log is read
    pub bad_early : (line : ℕ) (lines : List ℕ) → bad_metadata geo m.is_bad ≡ line ∷ lines → early_finding m ≡ Some (bad_line line)
    unfolding early_finding
    bad_early line lines is = elim (cases_Bool (m.is_bad 0)) as (λ _. first_there (superblock_finding m) (meta_finding (geometry_told m) m) ≡ Some (bad_line line)) [
      | inl bad ↦
          let at : line ≡ 0 = elim (cases_lt 0 line) as (λ _. line ≡ 0) [ inl past ↦ absurd (false≢true (sym (first.before 0 (omega arith) past) ∙ bad)) | inr none ↦ omega (arith, none) ] in
          ap (λ o. first_there o (meta_finding (geometry_told m) m)) (superblock_bad m bad) ∙ ap (λ n. Some (bad_line n)) (sym at)
      | inr good ↦
          ap (λ o. first_there o (meta_finding (geometry_told m) m)) (superblock_none geo m sound some good layout.superblock layout.valid layout.lines)
          ∙ ap (λ g. meta_finding g m) (sizes_told good)
          ∙ ap (λ o. first_there (option_map bad_line o) (option_map (λ n. wrong_word (8 * n)) (position m.is_weak (range_with_len 0 (meta_lines geo))))) (searched m.is_bad (meta_lines geo) ∙ ap head is)
    ]
      where
        first : IsFirst m.is_bad 0 (meta_lines geo) line
        first = first_of m.is_bad 0 (meta_lines geo) line lines is

    pub bad_found : (line : ℕ) (lines : List ℕ) → bad_metadata geo m.is_bad ≡ line ∷ lines → first_finding m ≡ Some (bad_line line)
    unfolding first_finding inspection_finding
    bad_found line lines is =
        ap (λ o. first_there (first_there o (option_map wrong_word (wrong_log (geometry_told m) (last_image m)))) (option_map wrong_word (wrong_table (geometry_told m) (last_image m)))) (bad_early line lines is)

    -- and where it finds a bad line, that is the lowest one
    pub found_bad : (line : ℕ) → first_finding m ≡ Some (bad_line line) → (lines : List ℕ) × (bad_metadata geo m.is_bad ≡ line ∷ lines)
    unfolding first_finding inspection_finding
    found_bad line found = by_list (bad_metadata geo m.is_bad) refl
      where
        number_in : Option Finding → ℕ
        number_in None = 0
        number_in (Some (bad_line n)) = n
        number_in (Some (wrong_word n)) = n

        -- no word of logs and tables is a line
        never : (log table : Option ℕ) → first_there (first_there None (option_map wrong_word log)) (option_map wrong_word table) ≡ Some (bad_line line) → ⊥
        never None None is = cc is
        never None (Some at) is = cc is
        never (Some at) table is = cc is

        by_list : (lines : List ℕ) → bad_metadata geo m.is_bad ≡ lines → (lines : List ℕ) × (bad_metadata geo m.is_bad ≡ line ∷ lines)
        by_list [] is =
            absurd (never (wrong_log (geometry_told m) (last_image m)) (wrong_table (geometry_told m) (last_image m))
            (sym (ap (λ o. first_there (first_there o (option_map wrong_word (wrong_log (geometry_told m) (last_image m)))) (option_map wrong_word (wrong_table (geometry_told m) (last_image m)))) (nothing_early is)) ∙ found))
        by_list (first ∷ lines) is = (lines, is ∙ ap (λ n. n ∷ lines) (ap number_in (sym (bad_found first lines is) ∙ found)))

-- a media error takes one more line of metadata
module _ (geo : Geometry) (line : ℕ) (old new : Medium) (within : line < meta_lines geo) (w : WritesBack (poisoned old line) new) where
  pub layout-poisoned : HasLayout geo old → HasLayout geo new
  layout-poisoned layout = record {
    valid = layout.valid;
    lines = w.count ∙ layout.lines;
    strong = λ n below. w.weak n ∙ stays_strong n (n == line) (layout.strong n below);
    superblock = superblock-poisoned geo line old new w layout.superblock;
  }
    where
      stays_strong : (n : ℕ) (b : Bool) → old.is_weak n ≡ false → cond b false (old.is_weak n) ≡ false
      stays_strong n true strong = refl
      stays_strong n false strong = strong

  pub metadata-poisoned : (bad_meta : List ℕ) → MetadataStands geo old bad_meta → MetadataStands geo new (with_line line bad_meta)
  metadata-poisoned bad_meta stands = record {
    layout = layout-poisoned stands.layout;
    bad = filter-same new.is_bad (with_at old.is_bad line true) 0 (meta_lines geo) (λ n lt. w.bad n) ∙ one_more old.is_bad line 0 (meta_lines geo) (omega arith) (omega (arith, within)) ∙ ap (with_line line) stands.bad;
  }
