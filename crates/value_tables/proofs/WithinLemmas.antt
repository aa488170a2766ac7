-- What reads touch that are not refused is within the sizes.
use Rattle.std.proofs.Common.{◌≡◌, ℕ, zero, suc, ◌+◌, ◌-◌, ◌*◌, ◌/◌, ◌<◌, ◌≤◌, Option, Some, None, List, [], ◌∷◌, ◌++◌, refl, subst, sym, arith}
use Rattle.std.specs.List.{range_with_len}
use Rattle.word_tables.specs.declared.geometry.Geometry.{Geometry}
use Rattle.reply_text.specs.declared.reply.Why.{Why}
use Rattle.cut_places.proofs.MachineModel.RefusalLemmas.{read_within}
use Rattle.cut_places.specs.AskedReads.declared.read.Read.{Read}
use Rattle.cut_places.specs.AskedReads.declared.read.Read.TheVariants.{Blocks, File, Volume}
use Rattle.cut_places.specs.SightsSeen.declared.line_seen.LineSeen.{LineSeen}
use Rattle.cut_places.specs.SightsSeen.declared.block_seen.BlockSeen.{BlockSeen}
use Rattle.cut_places.specs.declared.sight.Sight.{Sight}
use Rattle.cut_places.specs.Following.{IsWithin}
use Rattle.cut_places.specs.SightsSeen.Units.{AreAmong, AreWithin, block_numbers, line_numbers}
use Rattle.cut_places.proofs.SightsSeen.PassLemmas.{EachUnit}
use Rattle.value_tables.specs.Looking.{IsOf, blocks_looked_at, blocks_touched, lines_looked_at, lines_touched, none_refused}
use Rattle.value_tables.specs.Rows.{read_refusal}

abbrev AreBelow : ℕ → List ℕ → Type 0
AreBelow limit numbers = EachUnit (λ n. n < limit) numbers

range_below : (limit start count : ℕ) → start + count ≤ limit → AreBelow limit (range_with_len start count)
range_below limit start zero le = tt
range_below limit start (suc count) le = (omega (arith, le), range_below limit (start + 1) count (omega (arith, le)))

both_below : (limit : ℕ) (xs ys : List ℕ) → AreBelow limit xs → AreBelow limit ys → AreBelow limit (xs ++ ys)
both_below limit [] ys some others = others
both_below limit (x ∷ xs) ys some others = (some.0, both_below limit xs ys some.1 others)

unless_refused : (limit : ℕ) (o : Option Why) (numbers : List ℕ) → (o ≡ None → AreBelow limit numbers) → AreBelow limit (none_refused o numbers)
unless_refused limit None numbers below = below refl
unless_refused limit (Some why) numbers below = tt

lines_below : (geo : Geometry) (read : Read) → read_refusal geo read ≡ None → AreBelow (64 * geo.vpages) (lines_touched read)
lines_below geo (Volume start len) allowed =
    let place = read_within 65536 (4096 * geo.vpages) start len allowed in
    let some = place.0 in
    let fits = place.1 in
    range_below (64 * geo.vpages) (start / 64) ((start + len - 1) / 64 + 1 - start / 64) (omega (arith, some, fits))
lines_below geo (Blocks first count) allowed = tt
lines_below geo (File name start len) allowed = tt

blocks_below : (geo : Geometry) (read : Read) → read_refusal geo read ≡ None → AreBelow geo.blocks (blocks_touched read)
blocks_below geo (Volume start len) allowed = tt
blocks_below geo (Blocks first count) allowed = range_below geo.blocks first count (read_within 128 geo.blocks first count allowed).1
blocks_below geo (File name start len) allowed = tt

all_lines : (geo : Geometry) (look : List Read) → AreBelow (64 * geo.vpages) (lines_looked_at geo look)
all_lines geo [] = tt
all_lines geo (read ∷ look) =
    both_below (64 * geo.vpages) (none_refused (read_refusal geo read) (lines_touched read)) (lines_looked_at geo look)
    (unless_refused (64 * geo.vpages) (read_refusal geo read) (lines_touched read) (lines_below geo read)) (all_lines geo look)

all_blocks : (geo : Geometry) (look : List Read) → AreBelow geo.blocks (blocks_looked_at geo look)
all_blocks geo [] = tt
all_blocks geo (read ∷ look) =
    both_below geo.blocks (none_refused (read_refusal geo read) (blocks_touched read)) (blocks_looked_at geo look)
    (unless_refused geo.blocks (read_refusal geo read) (blocks_touched read) (blocks_below geo read)) (all_blocks geo look)

lines_within : (geo : Geometry) (lines : List LineSeen) → AreBelow (64 * geo.vpages) (line_numbers lines) → AreWithin geo lines
lines_within geo [] below = tt
lines_within geo (s ∷ lines) below = (below.0, lines_within geo lines below.1)

blocks_among : (geo : Geometry) (blocks : List BlockSeen) → AreBelow geo.blocks (block_numbers blocks) → AreAmong geo blocks
blocks_among geo [] below = tt
blocks_among geo (s ∷ blocks) below = (below.0, blocks_among geo blocks below.1)

pub is_within : (sight : Sight) (geo : Geometry) (look : List Read) → IsOf sight geo look → IsWithin sight geo
is_within sight geo look of = record {
  lines = lines_within geo sight.lines.items (subst (AreBelow (64 * geo.vpages)) (sym of.lines) (all_lines geo look));
  blocks = blocks_among geo sight.blocks.items (subst (AreBelow geo.blocks) (sym of.blocks) (all_blocks geo look));
}
