-- The commands on blocks.
use Rattle.std.specs.Prelude.{◌+◌, ◌*◌, ◌/◌, ℕ, true, List, [], ◌∷◌, Option, Some, None, length, nat_lt, option_map, if◌then◌else◌}
use Rattle.nvm_base.specs.declared.units.Span.{Span}
use Rattle.word_tables.specs.declared.geometry.Geometry.{Geometry}
use Rattle.nvm_model.specs.Storage.{Block}
use Rattle.nvm_model.specs.Storage.Block.{Absent, Scarred as Scar}
use Rattle.nvm_model.specs.Blocks.{first_there, first_obstacle, nth, write, write_ranges, change, is_there, look_blocks}
use Rattle.nvm_model.specs.Blocks.Obstacle.{scar, bad_line}
use Rattle.block_device.specs.Refusals.{Refusal, bytes_refusal, ranges_refusal, spans_refusal, together_refusal, where_}
use Rattle.block_device.specs.Refusals.Refusal.{Range, Length, Limit, Overlap, Meta, Unreadable}
use Rattle.reply_text.specs.declared.reply.Why.{Why}
use Rattle.reply_text.specs.declared.reply.Why.TheVariants as because
use Rattle.reply_text.specs.Answer.{Answer}
use Rattle.reply_text.specs.Answer.Answer.{Done, Bytes, Yes, No, Scarred, PoisonBlock, Refused, RefusedMeta}
use Rattle.machine_model.specs.Machine.Fate.{Gives, Works}
use Rattle.machine_model.specs.Meaning.{BlocksLeft, Meaning, anywhere, most_refusal, no_reasons, placed, quiet}
use Rattle.machine_model.specs.Meaning.BlocksLeft.{Either, Mixed}
use Rattle.machine_model.specs.declared.needs.Needs.TheVariants.{Usable}

-- how a refusal by the blocks is answered
abbrev pub refusal_answer : Refusal → Answer
refusal_answer Range = Refused because.Range
refusal_answer Length = Refused because.Length
refusal_answer Limit = Refused because.Limit
refusal_answer Overlap = Refused because.Overlap
refusal_answer (Meta line) = RefusedMeta line
refusal_answer (Unreadable (scar block)) = Scarred block
refusal_answer (Unreadable (bad_line block line)) = PoisonBlock block line

-- a span of blocks
abbrev pub blocks_from : ℕ → ℕ → List Span
blocks_from block count = record { start = block; len = count } ∷ []

-- a change of the blocks, refused for these places by their number
abbrev pub changing_blocks : (ℕ → Option Refusal) → (List Block → List Block) → BlocksLeft → ℕ → ℕ → Meaning
changing_blocks places to left calls persists = record (quiet Usable anywhere (λ h. Works Done (record h { blocks = to h.blocks }))) {
  reasons = λ h. record no_reasons { places = option_map refusal_answer (places h.geometry.blocks); changes_metadata = true };
  blocks = to;
  blocks_left = left;
  spends = λ h. record { calls = calls; persists = persists };
}

-- for each block its unit's lines, made healthy, stored and persisted, and a commit
abbrev pub bwrite : ℕ → List ℕ → Meaning
bwrite block bytes =
    changing_blocks (λ blocks. bytes_refusal blocks block (length bytes)) (write block bytes) Mixed (35 * (length bytes / 512)) (13 * (length bytes / 512))

abbrev pub batomic : ℕ → List ℕ → Meaning
batomic block bytes =
    changing_blocks (λ blocks. first_there (bytes_refusal blocks block (length bytes)) (where_ (nat_lt 64 (length bytes / 512)) Limit)) (write block bytes) Either
    (29 * (length bytes / 512) + 6) (10 * (length bytes / 512) + 3)

abbrev pub bmulti : List Span → List ℕ → Meaning
bmulti ranges bytes =
    changing_blocks (λ blocks. ranges_refusal blocks ranges) (write_ranges ranges bytes) Either (29 * (length bytes / 512) + 6) (10 * (length bytes / 512) + 3)

-- a commit of at most 64 words
abbrev pub bdiscard : ℕ → ℕ → Meaning
bdiscard block count = changing_blocks (λ blocks. together_refusal blocks (blocks_from block count)) (change (blocks_from block count) Absent) Either 326 131

abbrev pub bscar : List Span → Meaning
bscar ranges = changing_blocks (λ blocks. together_refusal blocks ranges) (change ranges Scar) Either 326 131

-- a commit for each block
abbrev pub bdiscardif : ℕ → ℕ → Meaning
bdiscardif block count = changing_blocks (λ blocks. spans_refusal blocks (blocks_from block count)) (change (blocks_from block count) Absent) Mixed (11 * count) (5 * count)

-- each line of the blocks is loaded
abbrev pub bread : ℕ → ℕ → Meaning
bread block count =
    let past : Geometry → Option Why = λ geo. most_refusal 128 geo.blocks block count in
    record (quiet Usable past (λ h. Works (Bytes (look_blocks h.blocks block count)) h)) {
      reasons = λ h. record (placed past h) {
        unreadable = option_map (λ obstacle. refusal_answer (Unreadable obstacle)) (first_obstacle h.blocks block count);
      };
      spends = λ h. record { calls = 8 * count; persists = 0 };
      room = 72 + 3 * (512 * count);
    }

abbrev pub bexists : ℕ → Meaning
bexists block = record (quiet Usable anywhere (λ h. Gives (if is_there (nth h.blocks block) then Yes else No) h)) {
  reasons = λ h. record no_reasons { places = if nat_lt block h.geometry.blocks then None else Some (Refused because.Range) };
}
