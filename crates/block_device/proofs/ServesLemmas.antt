-- Blocks are served while others work elsewhere.
use Rattle.std.proofs.Common.{◌≡◌, inr, ℕ, Bool, ◌/◌, length, refl, ◌∙◌}
use Rattle.line_device.specs.Medium.{Medium, WritesBack}
use Rattle.line_device.proofs.HistoryLemmas.{is_in-word_write_back}
use Rattle.line_words.specs.Words.{WritesBackOutside, WritesBackBeside}
use Rattle.word_tables.specs.declared.geometry.Geometry.{Geometry}
use Rattle.word_tables.specs.Bounds.{IsValid}
use Rattle.word_tables.specs.Layout.{total_lines}
use Rattle.word_log.specs.Area.{IsOf}
use Rattle.word_log.specs.Rest.{IsAtRest}
use Rattle.word_log.proofs.HeldLemmas.{rest-kept}
use Rattle.word_log.proofs.PhaseLemmas.{gate_of, rest-write_back}
use Rattle.word_log.proofs.RestLemmas.{rest-elsewhere}
use Rattle.block_map.specs.States.{IsMap}
use Rattle.block_device.specs.Area.{block_area, IsBlockLine}
use Rattle.block_device.specs.Object.{BlocksState, BlocksServe, HasStrongMetadata, blocks_of, map_words}
use Rattle.block_device.proofs.ReadLemmas.{IsNamed, Stays, stays-beside, durable-beside, durable-outside, durable-stays, durable-write_back, map_read-stays, map_read-write_back}
use Rattle.block_device.proofs.PlaceLemmas.{area_fits, area_is_block, named_is_data}

-- where the lines of log and map stay, the log stays at rest
pub rest-stays : (geo : Geometry) (words : ℕ → ℕ) (old new : Medium) → IsValid geo → old.count ≡ total_lines geo → ((p : ℕ) → IsOf (block_area geo) p → Stays old new (p / 8)) → IsAtRest (block_area geo) old words → IsAtRest (block_area geo) new words
rest-stays geo words old new valid count stays rest =
    rest-kept (block_area geo) words old new (gate_of (block_area geo) old (area_fits geo valid old count))
    (λ p of v. is_in-word_write_back (old.is_weak (p / 8)) v (old.history p) (new.history p) ((stays p of).word_write_back p refl)) rest

-- where those of the units stay too, all does
pub serves-stays : (s : BlocksState) (old new : Medium) → ((n : ℕ) → IsBlockLine s.geo n → Stays old new n) → HasStrongMetadata s.geo new → new.count ≡ old.count → BlocksServe s old → BlocksServe s new
serves-stays s old new stays strong count serves = record {
  valid = serves.valid;
  all = serves.all;
  is_map = serves.is_map;
  count = count ∙ serves.count;
  strong = strong;
  rest = rest-stays s.geo (map_words s.geo s.map) old new serves.valid serves.count (λ p of. stays (p / 8) (area_is_block s.geo serves.valid p of)) serves.rest;
  durable = durable-stays s.geo s.map old new (λ n named. stays n (inr (inr (named_is_data s.geo serves.valid s.map n serves.all serves.is_map named)))) serves.durable;
}

pub blocks_of-stays : (s : BlocksState) (old new : Medium) → IsValid s.geo → ((n : ℕ) → IsBlockLine s.geo n → Stays old new n) → length s.map ≡ s.geo.blocks → IsMap s.map → blocks_of s new ≡ blocks_of s old
blocks_of-stays s old new valid stays all is_map =
    map_read-stays s.geo s.map old new (λ n named. stays n (inr (inr (named_is_data s.geo valid s.map n all is_map named))))

-- work on lines apart from those of the log, the map and the named units
pub serves-beside : (s : BlocksState) (inside : ℕ → Type 0) (old new : Medium) → IsValid s.geo → ((p : ℕ) → IsOf (block_area s.geo) p → inside (p / 8) → ⊥) → ((n : ℕ) → IsNamed s.geo s.map n → inside n → ⊥) → WritesBackBeside inside old new → BlocksServe s old → BlocksServe s new
serves-beside s inside old new valid apart named x serves = record {
  valid = serves.valid;
  all = serves.all;
  is_map = serves.is_map;
  count = x.count ∙ serves.count;
  strong = λ n below. x.stays_strong n (serves.strong n below);
  rest = rest-stays s.geo (map_words s.geo s.map) old new valid serves.count (λ p of. stays-beside inside old new (p / 8) x (apart p of)) serves.rest;
  durable = durable-beside s.geo s.map old new inside x named serves.durable;
}

-- work on words apart from the log, the map and the named units
pub serves-outside : (s : BlocksState) (inside : ℕ → Type 0) (old new : Medium) → IsValid s.geo → ((p : ℕ) → IsOf (block_area s.geo) p → inside p → ⊥) → ((p : ℕ) → IsNamed s.geo s.map (p / 8) → inside p → ⊥) → WritesBackOutside inside old new → BlocksServe s old → BlocksServe s new
serves-outside s inside old new valid apart named x serves = record {
  valid = serves.valid;
  all = serves.all;
  is_map = serves.is_map;
  count = x.count ∙ serves.count;
  strong = λ n below. x.weak n ∙ serves.strong n below;
  rest = rest-elsewhere (block_area s.geo) inside (map_words s.geo s.map) old new apart (area_fits s.geo valid old serves.count) serves.rest x;
  durable = durable-outside s.geo s.map old new inside x named serves.durable;
}

-- lines that are only written back
pub serves-write_back : (s : BlocksState) (old new : Medium) → WritesBack old new → BlocksServe s old → BlocksServe s new
serves-write_back s old new x serves = record {
  valid = serves.valid;
  all = serves.all;
  is_map = serves.is_map;
  count = x.count ∙ serves.count;
  strong = λ n below. x.weak n ∙ serves.strong n below;
  rest = rest-write_back (block_area s.geo) (map_words s.geo s.map) old new serves.rest x;
  durable = durable-write_back s.geo s.map old new x serves.durable;
}

pub blocks_of-write_back : (s : BlocksState) (old new : Medium) → WritesBack old new → blocks_of s new ≡ blocks_of s old
blocks_of-write_back s old new x = map_read-write_back s.geo s.map old new x

-- whether the object is settled is not the device's
pub serves_settled : (s : BlocksState) (m : Medium) (settled : Bool) → BlocksServe s m → BlocksServe (record s { settled = settled }) m
serves_settled s m settled serves = record { valid = serves.valid; all = serves.all; is_map = serves.is_map; count = serves.count; strong = serves.strong; rest = serves.rest; durable = serves.durable }
