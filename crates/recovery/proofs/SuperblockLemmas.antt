-- A device whose first line is the superblock of some sizes.
use Rattle.std.proofs.Common.{◌≡◌, slice_index, ◌+◌, ◌/◌, ◌<◌, ◌≤◌, ◌==◌, ◌*◌, ℕ, Bool, true, false, List, [], Some, None, if◌then◌else◌, option_map, inl, inr, sym, ◌∙◌, ap, ap₂, subst, arith}
use Rattle.std.proofs.lemmas.Bool.{cases_Bool}
use Rattle.line_device.specs.History.{IsIn}
use Rattle.line_device.specs.Medium.{Medium, IsSound, WritesBack, Survivors, Waits, Weakens, last_image, poisoned}
use Rattle.line_device.specs.declared.line.Choice.{Choice}
use Rattle.line_device.proofs.HistoryLemmas.{is_in-word_write_back, is_in-one}
use Rattle.line_device.proofs.TornLemmas.{may_keep-only}
use Rattle.line_words.specs.Words.{IsOnly, WritesBackOutside, WritesBackBeside}
use Rattle.line_words.proofs.FrameLemmas.{is_only-outside, is_only-write_back}
use Rattle.line_words.proofs.BesideLemmas.{is_only-beside}
use Rattle.nvm_model.specs.Numbered.{list_from}
use Rattle.nvm_model.specs.Blocks.{first_there}
use Rattle.nvm_model.proofs.NumberedLemmas.{list_from-same}
use Rattle.word_tables.specs.declared.geometry.Geometry.{Geometry}
use Rattle.word_tables.specs.Bounds.{IsValid}
use Rattle.word_tables.specs.Layout.{first_line, meta_lines, total_lines}
use Rattle.word_tables.specs.Superblock.{superblock_word, geometry_of, first_wrong_word}
use Rattle.word_tables.proofs.SuperblockLemmas.{told}
use Rattle.block_device.specs.Object.{HasStrongMetadata, HasGoodMetadata}
use Rattle.block_device.proofs.PositionLemmas.{none_below}
use Rattle.recovery.specs.Findings.{geometry_told, superblock_finding, meta_finding, early_finding}
use Rattle.word_log.specs.Mount.Finding.{bad_line, wrong_word}
use Rattle.recovery.specs.Fresh.{HasSuperblock}
use Rattle.recovery.specs.Mounting.{IsMountable}
use Rattle.recovery.proofs.FindingLemmas as found
use Rattle.recovery.proofs.FindingLemmas.{is_superblock, words_alone}

module _ (geo : Geometry) (m : Medium) (sound : IsSound m) (some : 1 ≤ m.count) (good : m.is_bad 0 ≡ false) (has : HasSuperblock geo m) where
  -- its words, as last stored
  pub superblock_last : (p : ℕ) → p < 8 → last_image m p ≡ superblock_word geo p
  superblock_last p below =
      let on : p / 8 ≡ 0 = omega arith in
      has p below (last_image m p) (sound.last p (omega (arith, on, some), ap m.is_bad on ∙ good))

  first_words : list_from (last_image m) 0 8 ≡ list_from (superblock_word geo) 0 8
  first_words = list_from-same (last_image m) (superblock_word geo) 0 0 8 (λ k below. superblock_last (0 + k) (omega arith))

  -- tell these sizes
  pub superblock_told : IsValid geo → geometry_told m ≡ geo
  superblock_told valid = ap (λ (ws : List ℕ). geometry_of (slice_index ws)) first_words ∙ (told geo valid).sizes

  -- and are right
  pub superblock_none : IsValid geo → m.count ≡ total_lines geo → superblock_finding m ≡ None
  superblock_none valid count =
      ap (λ (bad : Bool). if bad then Some (bad_line 0) else option_map wrong_word (first_wrong_word m.count (last_image m))) good
      ∙ ap (option_map wrong_word)
      (sym (words_alone m.count (last_image m))
      ∙ ap₂ (λ n (ws : List ℕ). first_wrong_word n (slice_index ws)) count first_words
      ∙ words_alone (total_lines geo) (superblock_word geo)
      ∙ (told geo valid).right)

-- no line of metadata is bad or weak
pub meta_none : (geo : Geometry) (m : Medium) → HasGoodMetadata geo m → HasStrongMetadata geo m → meta_finding geo m ≡ None
meta_none geo m good strong =
    ap₂ (λ bad weak. first_there (option_map bad_line bad) (option_map (λ n. wrong_word (8 * n)) weak))
    (none_below m.is_bad (meta_lines geo) good)
    (none_below m.is_weak (meta_lines geo) strong)

pub some_lines : (geo : Geometry) → 1 ≤ total_lines geo
unfolding total_lines
some_lines geo = omega arith

pub some_meta : (geo : Geometry) → 0 < meta_lines geo
unfolding first_line
some_meta geo = omega arith

-- nothing is found before the log
pub early_none : (geo : Geometry) (m : Medium) → IsSound m → IsValid geo → m.count ≡ total_lines geo → HasGoodMetadata geo m → HasStrongMetadata geo m → HasSuperblock geo m → early_finding m ≡ None
unfolding early_finding
early_none geo m sound valid count good strong has =
    let some : 1 ≤ m.count = omega (arith, count, some_lines geo) in
    let first = good 0 (some_meta geo) in
    ap₂ first_there (superblock_none geo m sound some first has valid count)
    (ap (λ g. meta_finding g m) (superblock_told geo m sound some first has valid) ∙ meta_none geo m good strong)

-- where nothing is found, the first line is the superblock of the sizes that it tells
pub superblock_found : (m : Medium) → early_finding m ≡ None → IsMountable m → HasSuperblock (geometry_told m) m
superblock_found m early may p below =
    let is = is_superblock m (found.early_none m early).0 in
    subst (λ v. IsOnly v (m.history p)) (is.words p below) (may.first p below)

-- what calls and cuts leave of it
pub superblock-outside : (geo : Geometry) (inside : ℕ → Type 0) (old new : Medium) → WritesBackOutside inside old new → ((p : ℕ) → p < 8 → inside p → ⊥) → HasSuperblock geo old → HasSuperblock geo new
superblock-outside geo inside old new x out has p below = is_only-outside inside old new p (superblock_word geo p) x (out p below) (has p below)

pub superblock-beside : (geo : Geometry) (lines : ℕ → Type 0) (old new : Medium) → WritesBackBeside lines old new → (lines 0 → ⊥) → HasSuperblock geo old → HasSuperblock geo new
superblock-beside geo lines old new x out has p below =
    let on : p / 8 ≡ 0 = omega arith in
    is_only-beside lines old new p (superblock_word geo p) x (λ of. out (subst lines on of)) (has p below)

pub superblock-write_back : (geo : Geometry) (old new : Medium) → WritesBack old new → HasSuperblock geo old → HasSuperblock geo new
superblock-write_back geo old new x has p below = is_only-write_back old new p (superblock_word geo p) x (has p below)

pub superblock-restarted : (geo : Geometry) (unit : ℕ) (choice : Choice) (old new : Medium) → IsSound old → 1 ≤ old.count → Survivors unit choice old new → HasSuperblock geo old → HasSuperblock geo new
superblock-restarted geo unit choice old new sound some x has p below =
    let on : p / 8 ≡ 0 = omega arith in
    elim (cases_Bool (old.is_bad (p / 8))) as (λ _. IsOnly (superblock_word geo p) (new.history p)) [
      | inl bad ↦ let none = x.lost p (sound.lost p bad) in (λ v at. absurd (subst (IsIn v) none at))
      | inr good ↦
          let word = x.words p (omega (arith, on, some), good) in
          (λ v at. is_in-one v word.0 (subst (IsIn v) word.1.one at) ∙ may_keep-only unit (superblock_word geo p) word.0 (old.history p) (has p below) word.1.was)
    ]

pub superblock-waits : (geo : Geometry) (unit : ℕ) (old new : Medium) → Waits unit old new → HasSuperblock geo old → HasSuperblock geo new
superblock-waits geo unit old new x has p below =
    elim (x.words p) as (λ _. IsOnly (superblock_word geo p) (new.history p)) [
      | inl word_write_back ↦ λ v at. has p below v (is_in-word_write_back (old.is_weak (p / 8)) v (old.history p) (new.history p) word_write_back at)
      | inr one ↦ λ v at. is_in-one v one.0 (subst (IsIn v) one.2 at) ∙ may_keep-only unit (superblock_word geo p) one.0 (old.history p) (has p below) one.1
    ]

-- a line that became bad has no words, and a weak one keeps them
pub superblock-poisoned : (geo : Geometry) (line : ℕ) (old new : Medium) → WritesBack (poisoned old line) new → HasSuperblock geo old → HasSuperblock geo new
superblock-poisoned geo line old new x has p below v at =
    fewer (p / 8 == line) (is_in-word_write_back ((poisoned old line).is_weak (p / 8)) v ((poisoned old line).history p) (new.history p) (x.word_write_back p) at)
  where
    fewer : (b : Bool) → IsIn v (if b then [] else old.history p) → v ≡ superblock_word geo p
    fewer true none = absurd none
    fewer false was = has p below v was

pub superblock-weakens : (geo : Geometry) (line : ℕ) (old new : Medium) → Weakens line old new → HasSuperblock geo old → HasSuperblock geo new
superblock-weakens geo line old new x has = superblock-write_back geo old (record new { is_weak = old.is_weak }) x.write_back has
