-- A device that was made anew.
use Rattle.std.proofs.Common.{◌≡◌, ◌/◌, ◌%◌, ◌<◌, ◌≤◌, inl, inr, ℕ, Bool, false, List, [], ◌∷◌, None, Result, Ok, Err, OnOk, if◌then◌else◌, refl, sym, ◌∙◌, ap, subst, arith}
use Rattle.std.proofs.lemmas.Bool.{cases_lt, lt-ltb}
use Rattle.line_device.specs.History.{IsIn, IsTorn, WordWritesBack}
use Rattle.line_device.specs.Medium.{Medium, WritesBack, IsSound, last_image, zeros, installed}
use Rattle.line_device.specs.Word.{word_at}
use Rattle.line_device.specs.declared.line.LineState.TheVariants.{Healthy}
use Rattle.line_device.proofs.HistoryLemmas.{word_write_back-one, is_in-one}
use Rattle.line_device.proofs.WriteBackLemmas.{write_back-refl, on_line-in, on_line-out}
use Rattle.word_tables.specs.declared.geometry.Geometry.{Geometry}
use Rattle.word_tables.specs.Bounds.{IsValid}
use Rattle.word_tables.specs.Layout.{first_line, total_lines}
use Rattle.word_tables.specs.Superblock.{superblock_word}
use Rattle.block_device.specs.Area.{IsBlockLine, IsBlockPlace}
use Rattle.block_device.specs.Images.{EachReads, AreReadable}
use Rattle.block_device.specs.Mounting.{wrong_place}
use Rattle.block_device.specs.Reading.{blocks_read}
use Rattle.block_device.proofs.FrameLemmas.{each_reads-kept}
use Rattle.block_device.proofs.ImageLemmas.{each_reads-then}
use Rattle.block_device.proofs.ReachLemmas.{reads_right}
use Rattle.block_device.proofs.RestartLemmas.{block_image-last, block_on_device, is_only-one as is_only_one}
use Rattle.block_device.proofs.ZerosLemmas.{zeros_read}
use Rattle.recovery.specs.Findings.{geometry_told, early_finding, first_finding}
use Rattle.pm_volume.specs.Presence.{wrong_volume_place}
use Rattle.file_journal.specs.Reading.{wrong_file_place}
use Rattle.recovery.specs.Fresh.{IsFresh, HasSuperblock, fresh_word}
use Rattle.recovery.specs.Mounting.{IsMountable}
use Rattle.recovery.proofs.FindingLemmas.{all_right}
use Rattle.recovery.proofs.FreshFileLemmas.{fresh_tables}
use Rattle.recovery.proofs.FreshPageLemmas.{fresh-first, fresh-later, fresh_presence}
use Rattle.recovery.proofs.SuperblockLemmas.{some_lines, superblock_told, early_none}
use Rattle.line_words.proofs.BesideLemmas.{with_at-false as none_marked}

-- lines of zeros, and the first one installed
module _ (geo : Geometry) (lines : ℕ) (mid new : Medium) (bytes : List ℕ) (valid : IsValid geo) (all : lines ≡ total_lines geo) (zeroed : WritesBack (zeros lines) mid)
    (put : WritesBack (installed mid 0 (Healthy bytes)) new) (spells : (w : ℕ) → w < 8 → word_at bytes w ≡ superblock_word geo w) where
  first_word : (p : ℕ) → p < 8 → new.history p ≡ superblock_word geo p ∷ []
  first_word p below =
      let on : p / 8 ≡ 0 = omega arith in
      let at : p % 8 ≡ p = omega arith in
      let was = on_line-in 0 (λ w _. word_at bytes w ∷ []) mid.history p on ∙ ap (λ w. word_at bytes w ∷ []) at ∙ ap (λ v. v ∷ []) (spells p below) in
      let weak : Bool = (installed mid 0 (Healthy bytes)).is_weak (p / 8) in
      word_write_back-one weak (superblock_word geo p) (new.history p) (subst (λ h. WordWritesBack weak h (new.history p)) was (put.word_write_back p))

  later_word : (p : ℕ) → 8 ≤ p → p / 8 < lines → new.history p ≡ 0 ∷ []
  later_word p from within =
      let zero = word_write_back-one false 0 (mid.history p) (subst (λ b. WordWritesBack false (if b then 0 ∷ [] else []) (mid.history p)) (lt-ltb (p / 8) lines within) (zeroed.word_write_back p)) in
      let was = on_line-out 0 (λ w _. word_at bytes w ∷ []) mid.history p (λ on. absurd (omega (arith, on))) ∙ zero in
      let weak : Bool = (installed mid 0 (Healthy bytes)).is_weak (p / 8) in
      word_write_back-one weak 0 (new.history p) (subst (λ h. WordWritesBack weak h (new.history p)) was (put.word_write_back p))

  made_fresh : IsFresh geo new
  made_fresh = record {
    valid = valid;
    count = put.count ∙ zeroed.count ∙ all;
    good = λ n. put.bad n ∙ none_marked mid.is_bad 0 n (zeroed.bad n);
    strong = λ n. put.weak n ∙ none_marked mid.is_weak 0 n (zeroed.weak n);
    words = λ p within.
        elim (cases_lt p 8) as (λ _. new.history p ≡ fresh_word geo p ∷ []) [
          | inl below ↦ first_word p below ∙ ap (λ v. v ∷ []) (sym (fresh-first geo p below))
          | inr from ↦
              later_word p from (subst (λ c. p / 8 < c) (put.count ∙ zeroed.count) within)
              ∙ ap (λ v. v ∷ []) (sym (fresh-later geo p from))
        ];
  }

pub fresh_installed : {A E : Type 0} (r : Result A E) (geo : Geometry) (lines : ℕ) (mid new : Medium) (bytes : List ℕ) → IsValid geo → lines ≡ total_lines geo → WritesBack (zeros lines) mid
    → OnOk r (WritesBack (installed mid 0 (Healthy bytes)) new) → ((w : ℕ) → w < 8 → word_at bytes w ≡ superblock_word geo w) → OnOk r (IsFresh geo new)
fresh_installed (Ok x) geo lines mid new bytes valid all zeroed put spells = made_fresh geo lines mid new bytes valid all zeroed put spells
fresh_installed (Err e) geo lines mid new bytes valid all zeroed put spells = tt

-- the blocks' lines lie behind the first one
behind_first : (geo : Geometry) (n : ℕ) → IsBlockLine geo n → 1 ≤ n
unfolding first_line
behind_first geo n of =
    elim of as (λ _. 1 ≤ n) [
      | inl log ↦ omega (arith, log.0)
      | inr rest ↦ elim rest as (λ _. 1 ≤ n) [ inl map ↦ omega (arith, map.0) | inr unit ↦ omega (arith, unit.0) ]
    ]

module _ (geo : Geometry) (m : Medium) (fresh : IsFresh geo m) where
  some : 1 ≤ m.count
  some = omega (arith, fresh.count, some_lines geo)

  first_only : (p : ℕ) → p < 8 → m.history p ≡ superblock_word geo p ∷ []
  first_only p below =
      let on : p / 8 ≡ 0 = omega arith in
      fresh.words p (omega (arith, on, some)) ∙ ap (λ v. v ∷ []) (fresh-first geo p below)

  pub fresh_superblock : HasSuperblock geo m
  fresh_superblock p below v at = is_in-one v (superblock_word geo p) (subst (IsIn v) (first_only p below) at)

  -- the words of the blocks are as in lines of zeros
  block_word : (p : ℕ) → IsBlockPlace geo p → (m.history p ≡ 0 ∷ []) × ((zeros (total_lines geo)).history p ≡ 0 ∷ [])
  block_word p of =
      let there = block_on_device geo fresh.valid (p / 8) of in
      let behind = behind_first geo (p / 8) of in (
        fresh.words p (subst (λ c. p / 8 < c) (sym fresh.count) there) ∙ ap (λ v. v ∷ []) (fresh-later geo p (omega (arith, behind))),
        ap (λ b. if b then 0 ∷ [] else []) (lt-ltb (p / 8) (total_lines geo) there),
      )

  -- no block is allocated, whatever a cut leaves
  pub fresh_reads : EachReads geo m (λ bs. bs ≡ blocks_read geo (λ _. false) (λ _. 0))
  fresh_reads =
      each_reads-kept geo (zeros (total_lines geo)) m (λ bs. bs ≡ blocks_read geo (λ _. false) (λ _. 0)) fresh.valid
      (record {
        bad = λ n _. fresh.good n;
        was = λ p v of _ at.
            let word = block_word p of in
            subst (IsTorn v) (sym word.1) (subst (IsTorn v) word.0 at);
        durable = λ p has _. is_only_one 0 (m.history p) (block_word p (inr (inr has))).0;
      })
      (zeros_read geo fresh.valid (total_lines geo) (zeros (total_lines geo)) refl (write_back-refl (zeros (total_lines geo))))

  module _ (sound : IsSound m) where
    -- its sizes are told, and nothing is found
    pub fresh_told : geometry_told m ≡ geo
    fresh_told = superblock_told geo m sound some (fresh.good 0) fresh_superblock fresh.valid

    pub fresh_early : early_finding m ≡ None
    fresh_early = early_none geo m sound fresh.valid fresh.count (λ n _. fresh.good n) (λ n _. fresh.strong n) fresh_superblock

    pub fresh_mountable : IsMountable m
    fresh_mountable = record {
      some = some;
      first = λ p below. is_only_one (superblock_word geo p) (m.history p) (first_only p below);
      readable = λ _.
          subst (λ g. AreReadable g m) (sym fresh_told)
          (each_reads-then geo m (λ bs. bs ≡ blocks_read geo (λ _. false) (λ _. 0)) (λ _. Unit {0}) (λ _ _. tt) fresh_reads);
    }

    pub fresh_first : first_finding m ≡ None
    fresh_first =
        let image = block_image-last geo fresh.valid m sound fresh.count in
        let right = reads_right geo m (λ bs. bs ≡ blocks_read geo (λ _. false) (λ _. 0)) (last_image m) (fresh_reads (last_image m) image) in
        all_right m fresh_early
        (ap (λ g. wrong_place g (last_image m)) fresh_told ∙ right)
        (ap (λ g. wrong_volume_place g (last_image m)) fresh_told ∙ fresh_presence geo m fresh)
        (ap (λ g. wrong_file_place g (last_image m)) fresh_told ∙ fresh_tables geo m fresh)
