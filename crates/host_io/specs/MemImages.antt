-- Images in memory.
use Rattle.std.specs.Prelude.{ℕ, List, Option}
use Rattle.std.specs.Option.{option_map}
use Rattle.std.specs.BTreeMap.{get_by_text}
use Rattle.host_io.specs.declared.images.ImageCounts.{ImageCounts}
use Rattle.host_io.specs.declared.mem_images.MemImages.{MemImages}
use Rattle.host_io.specs.Schedule.{Schedule}

-- the bytes held under a name
abbrev pub held_in : MemImages → List ℕ → Option (List ℕ)
held_in m name = option_map (λ bytes. bytes.items) (get_by_text m.images name)

-- the calls of `fetch` and `replace` that fail
abbrev pub calls_of : MemImages → Schedule
calls_of m = m.failures

abbrev pub counts_of : MemImages → ImageCounts
counts_of m = m.counts
