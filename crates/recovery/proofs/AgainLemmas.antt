-- What a mount, a restart and waiting for one leave for the next mount.
use Rattle.std.proofs.Common.{◌≡◌, slice_index, ◌+◌, ◌/◌, ◌<◌, ◌≤◌, ◌*◌, ℕ, Bool, List, [], ◌∷◌, Option, Some, None, if◌then◌else◌, option_map, position, inl, inr, sym, ◌∙◌, ap, ap₂, subst, arith}
use Rattle.std.specs.List.{range_with_len}
use Rattle.std.proofs.lemmas.Bool.{cases_Bool}
use Rattle.line_device.specs.History.{newest, IsIn, MayKeep}
use Rattle.line_device.specs.Medium.{Medium, IsSound, Survivors, Waits, last_image}
use Rattle.line_device.specs.declared.line.Choice.{Choice}
use Rattle.line_device.proofs.HistoryLemmas.{newest-word_write_back, is_in-word_write_back, is_in-one}
use Rattle.line_device.proofs.TornLemmas.{may_keep-only}
use Rattle.line_words.specs.Words.{IsOnly, WritesBackOutside}
use Rattle.line_words.proofs.FrameLemmas.{newest-outside, is_only-outside}
use Rattle.nvm_model.specs.Numbered.{list_from}
use Rattle.nvm_model.specs.Blocks.{first_there}
use Rattle.nvm_model.proofs.NumberedLemmas.{list_from-same}
use Rattle.word_tables.specs.declared.geometry.Geometry.{Geometry}
use Rattle.word_tables.specs.Layout.{meta_lines}
use Rattle.word_tables.specs.Superblock.{geometry_of, first_wrong_word, IsSuperblock}
use Rattle.block_device.specs.Images.{KeepsReads, AreReadable}
use Rattle.block_device.proofs.ReachLemmas.{each_reads-kept}
use Rattle.block_device.proofs.RestartLemmas.{block_image-last, each_reads-restarted, each_reads-waits}
use Rattle.recovery.specs.Findings.{geometry_told, superblock_finding, meta_finding, early_finding}
use Rattle.word_log.specs.Mount.Finding.{bad_line, wrong_word}
use Rattle.recovery.specs.Mounting.{HasDurableBlocks, IsMountable, IsOfLogs, GoesOn}
use Rattle.recovery.proofs.LogLemmas.{logs_behind}
use Rattle.recovery.proofs.FindingLemmas.{early_none, is_superblock, nothing_early, words_alone}

-- the first line lies before the logs
not_first : (geo : Geometry) (p : ℕ) → p < 8 → IsOfLogs geo p → ⊥
not_first geo p below of = omega (arith, below, logs_behind geo p of)

-- a word that has one value now, which is an old one, where there was one alone
was_only : (unit : ℕ) (old new : List ℕ) (v : ℕ) → IsOnly (newest old) old → MayKeep unit v old → new ≡ v ∷ [] → (newest new ≡ newest old) × IsOnly (newest new) new
was_only unit old new v only was one =
    let same : newest new ≡ newest old = ap newest one ∙ may_keep-only unit (newest old) v old only was in
    (same, λ x at. is_in-one x v (subst (IsIn x) one at) ∙ sym (ap newest one))

-- the same marks, and the same words of the first line, which are durable
record SameStart (old new : Medium) : Type 0 where
  count : new.count ≡ old.count
  bad : (n : ℕ) → new.is_bad n ≡ old.is_bad n
  weak : (n : ℕ) → new.is_weak n ≡ old.is_weak n
  words : (p : ℕ) → p < 8 → (last_image new p ≡ last_image old p) × IsOnly (last_image new p) (new.history p)

module _ (old new : Medium) (x : SameStart old new) where
  first_words : list_from (last_image new) 0 8 ≡ list_from (last_image old) 0 8
  first_words = list_from-same (last_image new) (last_image old) 0 0 8 (λ k below. (x.words (0 + k) (omega arith)).0)

  sizes_same : geometry_told new ≡ geometry_told old
  sizes_same = ap (λ (ws : List ℕ). geometry_of (slice_index ws)) first_words

  wrong_same : first_wrong_word new.count (last_image new) ≡ first_wrong_word old.count (last_image old)
  wrong_same =
      sym (words_alone new.count (last_image new))
      ∙ ap₂ (λ n (ws : List ℕ). first_wrong_word n (slice_index ws)) x.count first_words
      ∙ words_alone old.count (last_image old)

  bad_same : new.is_bad ≡ old.is_bad
  bad_same = λ i n. x.bad n i

  weak_same : new.is_weak ≡ old.is_weak
  weak_same = λ i n. x.weak n i

  first_same : superblock_finding new ≡ superblock_finding old
  first_same =
      ap₂ (λ (bad : ℕ → Bool) (wrong : Option ℕ). if bad 0 then Some (bad_line 0) else option_map wrong_word wrong) bad_same wrong_same

  meta_same : meta_finding (geometry_told new) new ≡ meta_finding (geometry_told old) old
  meta_same =
      ap (λ geo. meta_finding geo new) sizes_same
      ∙ ap₂ (λ (bad weak : ℕ → Bool). first_there (option_map bad_line (position bad (range_with_len 0 (meta_lines (geometry_told old)))))
      (option_map (λ n. wrong_word (8 * n)) (position weak (range_with_len 0 (meta_lines (geometry_told old))))))
      bad_same weak_same

  early_same : early_finding new ≡ early_finding old
  unfolding early_finding
  early_same = ap₂ first_there first_same meta_same

  goes_on : IsMountable old → (early_finding old ≡ None → AreReadable (geometry_told old) new) → GoesOn old new
  goes_on may readable = record {
    mountable =
        record {
          some = subst (λ n. 1 ≤ n) (sym x.count) may.some;
          first = λ p below. (x.words p below).1;
          readable = λ none. subst (λ geo. AreReadable geo new) (sym sizes_same) (readable (sym early_same ∙ none));
        };
    sizes = sizes_same;
    same = early_same;
  }

-- sizes that are told where nothing is found
told : (m : Medium) → early_finding m ≡ None → IsSuperblock m.count (last_image m)
told m early = is_superblock m (early_none m early).0

-- after a mount
pub goes_on-mounted : (old new : Medium) → IsMountable old → WritesBackOutside (IsOfLogs (geometry_told old)) old new
    → (early_finding old ≡ None → KeepsReads (geometry_told old) old new) → GoesOn old new
goes_on-mounted old new may x keeps =
    let area = IsOfLogs (geometry_told old) in
    let start : SameStart old new =
    record {
      count = x.count;
      bad = x.bad;
      weak = x.weak;
      words = λ p below.
          let same = newest-outside area old new p x (not_first (geometry_told old) p below) in
          (same, subst (λ v. IsOnly v (new.history p)) (sym same) (is_only-outside area old new p (last_image old p) x (not_first (geometry_told old) p below) (may.first p below)));
    } in
    goes_on old new start may (λ early. each_reads-kept (geometry_told old) old new (λ _. Unit {0}) (keeps early) (may.readable early))

-- after a restart
pub goes_on-restarted : (unit : ℕ) (choice : Choice) (old new : Medium) → IsSound old → IsMountable old → Survivors unit choice old new → GoesOn old new
goes_on-restarted unit choice old new sound may x =
    let start : SameStart old new =
    record {
      count = x.count;
      bad = x.bad;
      weak = x.weak;
      words = λ p below.
          let at : p / 8 ≡ 0 = omega arith in
          elim (cases_Bool (old.is_bad (p / 8))) as (λ _. (last_image new p ≡ last_image old p) × IsOnly (last_image new p) (new.history p)) [
            | inl bad ↦
                let was = sound.lost p bad in
                let is = x.lost p was in
                (ap newest (is ∙ sym was), λ v in_. absurd (subst (IsIn v) is in_))
            | inr good ↦
                let word = x.words p (subst (λ n. n < old.count) (sym at) (omega (arith, may.some)), good) in
                was_only unit (old.history p) (new.history p) word.0 (may.first p below) word.1.was word.1.one
          ];
    } in
    goes_on old new start may
    (λ early. let is = told old early in
    each_reads-restarted (geometry_told old) is.valid unit choice old new (λ _. Unit {0}) sound is.count x (may.readable early))

-- after a restart that was refused
pub goes_on-waited : (unit : ℕ) (old new : Medium) → IsMountable old → Waits unit old new → GoesOn old new
goes_on-waited unit old new may x =
    let start : SameStart old new =
    record {
      count = x.count;
      bad = x.bad;
      weak = x.weak;
      words = λ p below.
          elim (x.words p) as (λ _. (last_image new p ≡ last_image old p) × IsOnly (last_image new p) (new.history p)) [
            | inl word_write_back ↦
                let same = newest-word_write_back (old.is_weak (p / 8)) (old.history p) (new.history p) word_write_back in
                (same, λ v at. may.first p below v (is_in-word_write_back (old.is_weak (p / 8)) v (old.history p) (new.history p) word_write_back at) ∙ sym same)
            | inr one ↦ was_only unit (old.history p) (new.history p) one.0 (may.first p below) one.1 one.2
          ];
    } in
    goes_on old new start may
    (λ early. each_reads-waits (geometry_told old) (told old early).valid unit old new (λ _. Unit {0}) x (may.readable early))

-- blocks that can be read after any cut are durable
pub durable_blocks : (m : Medium) → IsSound m → IsMountable m → HasDurableBlocks m
durable_blocks m sound may none =
    let early = nothing_early m none in
    let is = told m early in
    (may.readable early (last_image m) (block_image-last (geometry_told m) is.valid m sound is.count)).durable
