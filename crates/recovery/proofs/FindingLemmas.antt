-- What is found of a device, by what is found of its parts.
use Rattle.std.proofs.Common.{◌≡◌, ◌≢◌, slice_index, length, ◌+◌, ◌<◌, arith, ◌*◌, inl, inr, ℕ, Bool, true, false, List, Option, Some, None, Result, Ok, Err, if◌then◌else◌, option_map, position, refl, sym, ◌∙◌, ap, ap₂, subst}
use Rattle.std.specs.List.{range_with_len}
use Rattle.std.specs.Result.{IsErrAnd}
use Rattle.std.proofs.lemmas.Bool.{cases_Bool}
use Rattle.std.proofs.lemmas.Option.{none-some}
use Rattle.nvm_base.proofs.FirstLemmas.{neither_there, none_there, not_mapped}
use Rattle.line_device.specs.Medium.{Medium, WritesBack, last_image}
use Rattle.line_words.specs.Told.{Told, IfRefused, IsStop, told_outcome}
use Rattle.nvm_model.specs.Numbered.{list_from}
use Rattle.nvm_model.specs.Blocks.{first_there}
use Rattle.nvm_model.proofs.NumberedLemmas.{list_from-is}
use Rattle.word_tables.specs.declared.geometry.Geometry.{Geometry}
use Rattle.word_tables.specs.Layout.{meta_lines}
use Rattle.word_tables.specs.Superblock.{first_wrong_word, geometry_of, IsSuperblock}
use Rattle.word_tables.proofs.SuperblockLemmas.{right}
use Rattle.block_device.specs.Object.{HasStrongMetadata, HasGoodMetadata}
use Rattle.block_device.specs.Area.{block_area}
use Rattle.block_device.specs.Mounting.{wrong_map, wrong_place}
use Rattle.word_log.specs.Replay as log
use Rattle.pm_volume.specs.Area.{volume_area}
use Rattle.pm_volume.specs.Presence.{wrong_presence, wrong_volume_place}
use Rattle.file_journal.specs.Area.{file_area}
use Rattle.file_journal.specs.Reading as files
use Rattle.file_journal.specs.Reading.{wrong_file_place}
use Rattle.recovery.specs.declared.fault.MountFault.{MountFault}
use Rattle.recovery.specs.declared.fault.MountFault.TheVariants.{Meta, Layout, Device, PowerLost, Memory}
use Rattle.word_log.specs.Mount.{Finding}
use Rattle.recovery.specs.Findings.{geometry_told, superblock_finding, meta_finding, early_finding, inspection_finding, first_finding, wrong_log, wrong_table}
use Rattle.word_log.specs.Mount.Finding.{bad_line, wrong_word}
use Rattle.recovery.specs.Mounting.{Finds, device_says, mount_outcome}
use Rattle.block_device.proofs.PositionLemmas.{fails_below}

-- what the first of two searches finds, and what the second does where the first finds nothing
pub finds_first : (T U : Type 0) (a b : Option Finding) (f : MountFault) → Finds {T = U} a (Err f) → Finds {T = T} (first_there a b) (Err f)
finds_first T U a b (Meta line) h = ap (λ o. first_there o b) h
finds_first T U a b (Layout place) h = ap (λ o. first_there o b) h
finds_first T U a b Device h = tt
finds_first T U a b PowerLost h = tt
finds_first T U a b Memory h = tt

pub finds_second : {T : Type 0} (a b : Option Finding) (r : Result T MountFault) → a ≡ None → Finds b r → Finds (first_there a b) r
finds_second a b r none h = subst (λ o. Finds (first_there o b) r) (sym none) h

-- a fault that tells what another one told
pub finds_told : {T : Type 0} (found : Option Finding) (r : Result T MountFault) (t : Told Finding) → IsErrAnd r (λ e. device_says e ≡ t) → IfRefused t (λ why. found ≡ Some why) → Finds found r
finds_told found (Ok x) t is h = absurd is
finds_told found (Err e) t is h = subst (λ u. IfRefused u (λ why. found ≡ Some why)) (sym is) h

pub ended_told : {T : Type 0} (r : Result T MountFault) (t : Told Finding) → IsErrAnd r (λ e. device_says e ≡ t) → mount_outcome r ≡ told_outcome t
ended_told (Ok x) t is = absurd is
ended_told (Err e) t is = ap told_outcome is

-- a fault that is handed on
pub handed : {T : Type 0} (r : Result T MountFault) (f : MountFault) → IsErrAnd r (λ e. e ≡ f) → r ≡ Err f
handed (Ok x) f is = absurd is
handed (Err e) f is = ap Err is

-- the same fault on another result
pub finds_on : {T : Type 0} (found : Option Finding) (r : Result T MountFault) (f : MountFault) → r ≡ Err f → Finds {T = T} found (Err f) → Finds found r
finds_on found r f is h = subst (λ q. Finds found q) (sym is) h

-- the first line
pub superblock_bad : (m : Medium) → m.is_bad 0 ≡ true → superblock_finding m ≡ Some (bad_line 0)
superblock_bad m bad = ap (λ b. if b then Some (bad_line 0) else option_map wrong_word (first_wrong_word m.count (last_image m))) bad

superblock_good : (m : Medium) → m.is_bad 0 ≡ false → superblock_finding m ≡ option_map wrong_word (first_wrong_word m.count (last_image m))
superblock_good m good = ap (λ b. if b then Some (bad_line 0) else option_map wrong_word (first_wrong_word m.count (last_image m))) good

-- only its words are looked at
pub words_alone : (lines : ℕ) (word : ℕ → ℕ) → first_wrong_word lines (slice_index (list_from word 0 8)) ≡ first_wrong_word lines word
unfolding first_wrong_word
words_alone lines word = refl

pub sizes_alone : (word : ℕ → ℕ) → geometry_of (slice_index (list_from word 0 8)) ≡ geometry_of word
sizes_alone word = refl

-- as they are loaded
pub first_words : (m : Medium) (words : List ℕ) → length words ≡ 8 → ((w : ℕ) → w < 8 → slice_index words w ≡ last_image m (8 * 0 + w)) → words ≡ list_from (last_image m) 0 8
first_words m words eight same = list_from-is (last_image m) 0 words (λ w below. same w (omega (arith, below, eight))) ∙ ap (list_from (last_image m) 0) eight

pub sizes_loaded : (m : Medium) (words : List ℕ) → length words ≡ 8 → ((w : ℕ) → w < 8 → slice_index words w ≡ last_image m (8 * 0 + w)) → geometry_of (slice_index words) ≡ geometry_told m
sizes_loaded m words eight same = ap (λ (ws : List ℕ). geometry_of (slice_index ws)) (first_words m words eight same)

pub superblock_checked : {T : Type 0} (m : Medium) (lines : ℕ) (words : List ℕ) (r : Result T MountFault) → m.is_bad 0 ≡ false → lines ≡ m.count → length words ≡ 8 → ((w : ℕ) → w < 8 → slice_index words w ≡ last_image m (8 * 0 + w))
    → Finds (option_map wrong_word (first_wrong_word lines (slice_index words))) r → Finds (superblock_finding m) r
superblock_checked m lines words r good count eight same h =
    let is = first_words m words eight same in
    subst (λ o. Finds o r)
    (ap₂ (λ n (ws : List ℕ). option_map wrong_word (first_wrong_word n (slice_index ws))) count is ∙ ap (option_map wrong_word) (words_alone m.count (last_image m)) ∙ sym (superblock_good m good)) h

-- where it is as it has to be
pub is_superblock : (m : Medium) → superblock_finding m ≡ None → IsSuperblock m.count (last_image m)
is_superblock m none =
    elim (cases_Bool (m.is_bad 0)) as (λ _. IsSuperblock m.count (last_image m)) [
      | inl bad ↦ absurd (none-some (bad_line 0) (sym none ∙ superblock_bad m bad))
      | inr good ↦ right m.count (last_image m) (not_mapped wrong_word (first_wrong_word m.count (last_image m)) (sym (superblock_good m good) ∙ none))
    ]

-- where nothing is found at all, nothing is found before a log is replayed
pub nothing_inspected : (m : Medium) → first_finding m ≡ None → inspection_finding m ≡ None
unfolding first_finding
nothing_inspected m none = (neither_there (inspection_finding m) (option_map wrong_word (wrong_table (geometry_told m) (last_image m))) none).0

-- nor before one is read
pub inspected_parts : (m : Medium) → inspection_finding m ≡ None → (early_finding m ≡ None) × (wrong_log (geometry_told m) (last_image m) ≡ None)
unfolding inspection_finding
inspected_parts m none =
    let parts = neither_there (early_finding m) (option_map wrong_word (wrong_log (geometry_told m) (last_image m))) none in
    (parts.0, not_mapped wrong_word (wrong_log (geometry_told m) (last_image m)) parts.1)

pub nothing_early : (m : Medium) → first_finding m ≡ None → early_finding m ≡ None
nothing_early m none = (inspected_parts m (nothing_inspected m none)).0

pub early_inspection : (m : Medium) → early_finding m ≢ None → inspection_finding m ≢ None
early_inspection m some none = some (inspected_parts m none).0

-- three searches
pub three_none : {A : Type 0} (a b c : Option A) → first_there a (first_there b c) ≡ None → (a ≡ None) × (b ≡ None) × (c ≡ None)
three_none a b c h =
    let one = neither_there a (first_there b c) h in
    let two = neither_there b c one.1 in
    (one.0, two.0, two.1)

pub all_none : {A : Type 0} (a b c : Option A) → a ≡ None → b ≡ None → c ≡ None → first_there a (first_there b c) ≡ None
all_none a b c first second third = none_there a (first_there b c) first (none_there b c second third)

-- each log is in order
pub logs_right : (geo : Geometry) (word : ℕ → ℕ) → wrong_log geo word ≡ None
    → (log.first_wrong (block_area geo) word ≡ None) × (log.first_wrong (volume_area geo) word ≡ None) × (log.first_wrong (file_area geo) word ≡ None)
logs_right geo word = three_none (log.first_wrong (block_area geo) word) (log.first_wrong (volume_area geo) word) (log.first_wrong (file_area geo) word)

-- Nothing is found where nothing is wrong with blocks, volume and files.
pub nothing_found : (m : Medium) → first_finding m ≡ None → (early_finding m ≡ None) × (wrong_place (geometry_told m) (last_image m) ≡ None) × (wrong_volume_place (geometry_told m) (last_image m) ≡ None)
    × (wrong_file_place (geometry_told m) (last_image m) ≡ None)
unfolding first_finding
nothing_found m none =
    let geo = geometry_told m in
    let word = last_image m in
    let parts = inspected_parts m (nothing_inspected m none) in
    let logs = logs_right geo word parts.1 in
    let tables = three_none (wrong_map geo word) (wrong_presence geo word) (files.wrong_table geo (files.words_read geo word))
    (not_mapped wrong_word (wrong_table geo word) (neither_there (inspection_finding m) (option_map wrong_word (wrong_table geo word)) none).1) in (
      parts.0,
      none_there (log.first_wrong (block_area geo) word) (wrong_map geo word) logs.0 tables.0,
      none_there (log.first_wrong (volume_area geo) word) (wrong_presence geo word) logs.1 tables.1,
      none_there (log.first_wrong (file_area geo) word) (files.wrong_table geo (files.words_read geo word)) logs.2 tables.2,
    )

pub all_right : (m : Medium) → early_finding m ≡ None → wrong_place (geometry_told m) (last_image m) ≡ None → wrong_volume_place (geometry_told m) (last_image m) ≡ None
    → wrong_file_place (geometry_told m) (last_image m) ≡ None → first_finding m ≡ None
unfolding first_finding inspection_finding
all_right m early place volume file =
    let geo = geometry_told m in
    let word = last_image m in
    let blocks = neither_there (log.first_wrong (block_area geo) word) (wrong_map geo word) place in
    let pages = neither_there (log.first_wrong (volume_area geo) word) (wrong_presence geo word) volume in
    let inodes = neither_there (log.first_wrong (file_area geo) word) (files.wrong_table geo (files.words_read geo word)) file in
    none_there (first_there (early_finding m) (option_map wrong_word (wrong_log geo word))) (option_map wrong_word (wrong_table geo word))
    (none_there (early_finding m) (option_map wrong_word (wrong_log geo word)) early
    (ap (option_map wrong_word) (all_none (log.first_wrong (block_area geo) word) (log.first_wrong (volume_area geo) word) (log.first_wrong (file_area geo) word) blocks.0 pages.0 inodes.0)))
    (ap (option_map wrong_word) (all_none (wrong_map geo word) (wrong_presence geo word) (files.wrong_table geo (files.words_read geo word)) blocks.1 pages.1 inodes.1))

pub early_none : (m : Medium) → early_finding m ≡ None → (superblock_finding m ≡ None) × (meta_finding (geometry_told m) m ≡ None)
unfolding early_finding
early_none m none = neither_there (superblock_finding m) (meta_finding (geometry_told m) m) none

-- lines of metadata of which none is found
pub good_metadata : (geo : Geometry) (m : Medium) → meta_finding geo m ≡ None → HasGoodMetadata geo m
good_metadata geo m none n below =
    let parts = neither_there (option_map bad_line (position m.is_bad (range_with_len 0 (meta_lines geo)))) (option_map (λ k. wrong_word (8 * k)) (position m.is_weak (range_with_len 0 (meta_lines geo)))) none in
    fails_below m.is_bad (meta_lines geo) n (not_mapped bad_line _ parts.0) below

pub strong_metadata : (geo : Geometry) (m : Medium) → meta_finding geo m ≡ None → HasStrongMetadata geo m
strong_metadata geo m none n below =
    let parts = neither_there (option_map bad_line (position m.is_bad (range_with_len 0 (meta_lines geo)))) (option_map (λ k. wrong_word (8 * k)) (position m.is_weak (range_with_len 0 (meta_lines geo)))) none in
    fails_below m.is_weak (meta_lines geo) n (not_mapped (λ k. wrong_word (8 * k)) _ parts.1) below

-- lines that are written back keep their marks
pub bad-write_back : (old new : Medium) → WritesBack old new → new.is_bad ≡ old.is_bad
bad-write_back old new x = λ i n. x.bad n i

weak-write_back : (old new : Medium) → WritesBack old new → new.is_weak ≡ old.is_weak
weak-write_back old new x = λ i n. x.weak n i

pub meta-write_back : (geo : Geometry) (old new : Medium) → WritesBack old new → meta_finding geo new ≡ meta_finding geo old
meta-write_back geo old new x =
    ap₂ (λ (bad weak : ℕ → Bool). first_there (option_map bad_line (position bad (range_with_len 0 (meta_lines geo)))) (option_map (λ n. wrong_word (8 * n)) (position weak (range_with_len 0 (meta_lines geo)))))
    (bad-write_back old new x) (weak-write_back old new x)

pub finds_superblock : (T U : Type 0) (m : Medium) (f : MountFault) → Finds {T = U} (superblock_finding m) (Err f) → Finds {T = T} (early_finding m) (Err f)
unfolding early_finding
finds_superblock T U m f h = finds_first T U (superblock_finding m) (meta_finding (geometry_told m) m) f h

-- once the superblock is found to be right
pub finds_early : {T : Type 0} (geo : Geometry) (old new : Medium) (r : Result T MountFault) → geo ≡ geometry_told old → WritesBack old new → superblock_finding old ≡ None
    → Finds (meta_finding geo new) r → Finds (early_finding old) r
unfolding early_finding
finds_early geo old new r is x none h =
    finds_second (superblock_finding old) (meta_finding (geometry_told old) old) r none
    (subst (λ o. Finds o r) (meta-write_back geo old new x ∙ ap (λ g. meta_finding g old) is) h)

-- and once nothing is found before the logs
pub finds_inspected : {T : Type 0} (m : Medium) (r : Result T MountFault) → early_finding m ≡ None → Finds (option_map wrong_word (wrong_log (geometry_told m) (last_image m))) r → Finds (inspection_finding m) r
unfolding inspection_finding
finds_inspected m r early h = finds_second (early_finding m) (option_map wrong_word (wrong_log (geometry_told m) (last_image m))) r early h

pub finds_early_one : (T U : Type 0) (m : Medium) (f : MountFault) → Finds {T = U} (early_finding m) (Err f) → Finds {T = T} (inspection_finding m) (Err f)
unfolding inspection_finding
finds_early_one T U m f h = finds_first T U (early_finding m) (option_map wrong_word (wrong_log (geometry_told m) (last_image m))) f h

-- or before they are replayed
pub finds_judged : {T : Type 0} (m : Medium) (r : Result T MountFault) → inspection_finding m ≡ None → Finds (option_map wrong_word (wrong_table (geometry_told m) (last_image m))) r → Finds (first_finding m) r
unfolding first_finding
finds_judged m r right h = finds_second (inspection_finding m) (option_map wrong_word (wrong_table (geometry_told m) (last_image m))) r right h

pub finds_before : (T U : Type 0) (m : Medium) (f : MountFault) → Finds {T = U} (inspection_finding m) (Err f) → Finds {T = T} (first_finding m) (Err f)
unfolding first_finding
finds_before T U m f h = finds_first T U (inspection_finding m) (option_map wrong_word (wrong_table (geometry_told m) (last_image m))) f h

-- a fault that only stopped
pub finds_stopped : {T : Type 0} (found : Option Finding) (r : Result T MountFault) (f : MountFault) → r ≡ Err f → IsStop device_says f → Finds found r
finds_stopped found r f is stop = finds_on found r f is (stopped f stop)
  where
    stopped : (e : MountFault) → IsStop device_says e → IfRefused (device_says e) (λ why. found ≡ Some why)
    stopped (Meta line) stop = cc
    stopped (Layout place) stop = cc
    stopped Device stop = tt
    stopped PowerLost stop = tt
    stopped Memory stop = tt
