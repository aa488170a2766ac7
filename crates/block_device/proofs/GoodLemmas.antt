-- What a device with no bad line says of the lines of its blocks: none is bad.
use Rattle.std.proofs.Common.{◌≡◌, ℕ, zero, suc, Bool, false, ◌+◌, ◌*◌, ◌<◌, ◌≤◌, List, [], ◌∷◌, Option, Some, None, is_none, if◌then◌else◌, cond, count_by, refl, sym, ◌∙◌, ap, ap₂, subst, arith}
use Rattle.std.proofs.lemmas.List.Sums.{sum_by-cons}
use Rattle.line_device.specs.Medium.{Medium, Survivors}
use Rattle.line_device.specs.Panel.{Image}
use Rattle.line_device.specs.Device.{Depicts}
use Rattle.line_device.specs.declared.line.Choice.{Choice}
use Rattle.word_tables.specs.declared.geometry.Geometry.{Geometry}
use Rattle.word_tables.specs.Bounds.{IsValid}
use Rattle.word_tables.specs.Layout.{block_line, total_lines}
use Rattle.block_map.specs.declared.state.BlockState.{BlockState}
use Rattle.block_map.specs.declared.state.BlockState.TheVariants as state
use Rattle.block_map.specs.States.{IsMap}
use Rattle.nvm_model.specs.Blocks.{bad_lines_in, bad_block_lines}
use Rattle.nvm_model.specs.Lines.{IsIntact}
use Rattle.nvm_model.specs.Numbered.{list_from}
use Rattle.nvm_model.specs.Storage.{Block}
use Rattle.block_device.specs.Reading.{byte_of, line_read, block_read, map_read, states_read, blocks_read}
use Rattle.block_device.specs.Images.{EachReads}
use Rattle.block_device.proofs.ReadLemmas.{IsNamed}
use Rattle.block_device.proofs.PlaceLemmas.{named_is_data, data_on_device}
use Rattle.block_device.proofs.FrameLemmas.{length-states_read}
use Rattle.block_device.proofs.RestartLemmas.{block_image-restarted}

-- where each item is there
none_missing : {A : Type 0} (f : ℕ → Option A) (n count : ℕ) → ((k : ℕ) → n ≤ k → k < n + count → is_none (f k) ≡ false) → count_by is_none (list_from f n count) ≡ 0
none_missing f n zero there = refl
none_missing f n (suc count) there =
    sum_by-cons (λ x. cond (is_none x) 1 0) (f n) (list_from f (suc n) count)
    ∙ ap₂ ◌+◌ (ap (λ b. cond b 1 0) (there n (omega arith) (omega arith))) (none_missing f (suc n) count (λ k from to. there k (omega arith) (omega arith)))

good_line : (bad : ℕ → Bool) (word : ℕ → ℕ) (n : ℕ) → bad n ≡ false → is_none (line_read bad word n) ≡ false
good_line bad word n good = ap (λ b. is_none (if b then None else Some (list_from (byte_of word) (64 * n) 64))) good

good_block : (geo : Geometry) (bad : ℕ → Bool) (word : ℕ → ℕ) (s : BlockState) → ((unit n : ℕ) → s ≡ state.At unit → block_line geo unit ≤ n → n < block_line geo unit + 8 → bad n ≡ false) → bad_lines_in (block_read geo bad word s) ≡ 0
good_block geo bad word state.Absent good = refl
good_block geo bad word state.Scarred good = refl
good_block geo bad word (state.At unit) good =
    none_missing (line_read bad word) (block_line geo unit) 8 (λ n from to. good_line bad word n (good unit n refl from to))

good_map : (geo : Geometry) (bad : ℕ → Bool) (word : ℕ → ℕ) (states : List BlockState) → ((n : ℕ) → IsNamed geo states n → bad n ≡ false) → bad_block_lines (map_read geo bad word states) ≡ 0
good_map geo bad word [] good = refl
good_map geo bad word (s ∷ ss) good =
    sum_by-cons bad_lines_in (block_read geo bad word s) (map_read geo bad word ss)
    ∙ ap₂ ◌+◌
    (good_block geo bad word s (λ unit n is from to. good n (record { block = 0; unit = unit; at = ap Some is; from = from; to = to })))
    (good_map geo bad word ss (λ n named. good n (record { block = suc named.block; unit = named.unit; at = named.at; from = named.from; to = named.to })))

-- where no line is bad, none of the blocks' is
pub no_bad_block_lines : (geo : Geometry) (bad : ℕ → Bool) (word : ℕ → ℕ) → IsValid geo → IsMap (states_read geo word) → ((n : ℕ) → n < total_lines geo → bad n ≡ false) → bad_block_lines (blocks_read geo bad word) ≡ 0
unfolding blocks_read
no_bad_block_lines geo bad word valid is_map good =
    let states = states_read geo word in
    good_map geo bad word states (λ n named. good n (data_on_device geo valid n (named_is_data geo valid states n (length-states_read geo word) is_map named)))

-- nor after a restart
pub no_bad_blocks-restarted : (geo : Geometry) (unit : ℕ) (choice : Choice) (old new : Medium) (image : Image) (P : List Block → Type 0) → IsValid geo → IsIntact old → old.count ≡ total_lines geo → Survivors unit choice old new → Depicts new image → EachReads geo old P → bad_block_lines (blocks_read geo image.is_bad image.word) ≡ 0
no_bad_blocks-restarted geo unit choice old new image P valid intact count x shows each =
    let was = each image.word (block_image-restarted geo valid unit choice old new image count x shows) in
    no_bad_block_lines geo image.is_bad image.word valid was.map
    (λ n below. shows.bad n (subst (λ c. n < c) (sym (x.count ∙ count)) below) ∙ x.bad n ∙ (intact n (subst (λ c. n < c) (sym count) below)).0)
