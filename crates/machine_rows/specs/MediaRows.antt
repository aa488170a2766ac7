-- Worked scripts with lines that go bad, wear out and are cleared, and with words that a seed picks.
use Rattle.std.specs.Prelude.{ℕ, List, [], ◌∷◌, codes, ◌==◌}
use Rattle.std.specs.List.{list_any}
use Rattle.line_device.specs.Panel.{Start}
use Rattle.line_device.specs.declared.line.Choice.{Choice}
use Rattle.line_device.specs.declared.line.Choice.TheVariants.{Firsts, Lasts, Seed}
use Rattle.machine_model.specs.WorkedScripts.{text}
use Rattle.machine_rows.specs.Rows.{leaving, with_page, Writes}

-- a restart that left zeros but for these words, and these lines bad, or weak
abbrev pub leaving_lines : Choice → List (ℕ × ℕ) → List ℕ → List ℕ → Start
leaving_lines choice words bad weak = record {
  choice = choice;
  image = record (leaving choice words).image {
    is_bad = λ n. list_any (λ line. line == n) bad;
    is_weak = λ n. list_any (λ line. line == n) weak;
  };
}

pub record MediaRows : Type 0 where
  pub bad_line_of_the_volume : Writes
      (text (codes "vstore 0 07*128" ∷ codes "poison volume 64" ∷ codes "vload 0 64" ∷ codes "vload 0 128" ∷ codes "vstore 64 08*64"
      ∷ codes "vload 64 1" ∷ codes "poison volume 4096" ∷ []))
      []
      (codes "ok" ∷ codes "ok" ∷ codes "data 07*64" ∷ codes "poison volume 64 64" ∷ codes "ok" ∷ codes "data 08" ∷ codes "refused nothing" ∷ [])
  pub bad_line_of_a_block : Writes
      (text (codes "bwrite 0 01*1024" ∷ codes "poison block 1 3" ∷ codes "bread 0 1" ∷ codes "bread 0 2" ∷ codes "bdiscard 1 1"
      ∷ codes "bread 1 1" ∷ []))
      []
      (codes "ok" ∷ codes "ok" ∷ codes "data 01*512" ∷ codes "poison block 1 3" ∷ codes "ok" ∷ codes "data 00*512" ∷ [])
  pub value_between_kept_by_a_seed : Writes
      (text (codes "vstore 0 00*64" ∷ codes "vsync 0 64" ∷ codes "vstore 0 11*8" ∷ codes "vstore 0 22*8" ∷ codes "cut" ∷ codes "restart seed 1"
      ∷ codes "vload 0 8" ∷ []))
      (leaving (Seed 1) (with_page 0 1229782938247303441) ∷ [])
      (codes "ok" ∷ codes "ok" ∷ codes "ok" ∷ codes "ok" ∷ codes "ok" ∷ codes "ok bad 0" ∷ codes "data 11*8" ∷ [])
  pub one_word_kept_and_one_lost : Writes
      (text (codes "vstore 0 00*64" ∷ codes "vsync 0 64" ∷ codes "vstore 4 ff*8" ∷ codes "cut" ∷ codes "restart seed 2" ∷ codes "vload 0 16"
      ∷ []))
      (leaving (Seed 2) (with_page 0 18446744069414584320) ∷ [])
      (codes "ok" ∷ codes "ok" ∷ codes "ok" ∷ codes "ok" ∷ codes "ok bad 0" ∷ codes "data 00*4,ff*4,00*8" ∷ [])
  pub weak_line_until_its_sync : Writes
      (text (codes "vstore 0 07*8" ∷ codes "weaken volume 63" ∷ codes "vload 0 8" ∷ codes "vsync 0 8" ∷ codes "vload 0 8" ∷ codes "vstore 0 01*64"
      ∷ codes "vsync 0 64" ∷ codes "vload 0 2" ∷ []))
      []
      (codes "ok" ∷ codes "ok" ∷ codes "data 07*8" ∷ codes "ok" ∷ codes "poison volume 0 64" ∷ codes "ok" ∷ codes "ok" ∷ codes "data 01*2" ∷ [])
  pub weak_line_cut_before_its_sync : Writes
      (text (codes "vstore 0 01" ∷ codes "vsync 0 1" ∷ codes "weaken volume 0" ∷ codes "vstore 0 02" ∷ codes "cut" ∷ codes "restart none"
      ∷ codes "vload 0 1" ∷ codes "vsync 0 1" ∷ codes "vload 0 1" ∷ []))
      (leaving_lines Firsts (with_page 0 1) [] (2304 ∷ []) ∷ [])
      (codes "ok" ∷ codes "ok" ∷ codes "ok" ∷ codes "ok" ∷ codes "ok" ∷ codes "ok bad 0" ∷ codes "data 01" ∷ codes "ok"
      ∷ codes "poison volume 0 64" ∷ [])
  pub cleared_line : Writes
      (text (codes "vstore 0 05" ∷ codes "poison volume 9" ∷ codes "clear volume 63" ∷ codes "vload 0 1" ∷ codes "clear volume 0"
      ∷ codes "clear volume 4096" ∷ codes "clear volume 8192" ∷ []))
      []
      (codes "ok" ∷ codes "ok" ∷ codes "ok" ∷ codes "data 00" ∷ codes "refused notpoisoned" ∷ codes "refused nothing" ∷ codes "refused range" ∷ [])
  pub no_such_line : Writes
      (text (codes "poison block 0 0" ∷ codes "poison block 8 0" ∷ codes "poison block 0 8" ∷ codes "poison volume 8191"
      ∷ codes "poison volume 8192" ∷ codes "weaken volume 0" ∷ codes "weaken volume 8192" ∷ []))
      []
      (codes "refused nothing" ∷ codes "refused range" ∷ codes "refused range" ∷ codes "refused nothing" ∷ codes "refused range"
      ∷ codes "refused nothing" ∷ codes "refused range" ∷ [])
  pub scar_has_no_lines : Writes
      (text (codes "bscar 2 1" ∷ codes "poison block 2 0" ∷ codes "bwrite 2 05*512" ∷ codes "poison block 2 0" ∷ codes "bread 2 1"
      ∷ codes "bwrite 2 06*512" ∷ codes "bread 2 1" ∷ []))
      []
      (codes "ok" ∷ codes "refused nothing" ∷ codes "ok" ∷ codes "ok" ∷ codes "poison block 2 0" ∷ codes "ok" ∷ codes "data 06*512" ∷ [])
  pub lowest_bad_line_named : Writes
      (text (codes "bwrite 0 01*1024" ∷ codes "poison block 1 0" ∷ codes "poison block 0 5" ∷ codes "poison block 0 2" ∷ codes "bread 0 2"
      ∷ codes "poison block 0 2" ∷ codes "bread 1 1" ∷ []))
      []
      (codes "ok" ∷ codes "ok" ∷ codes "ok" ∷ codes "ok" ∷ codes "poison block 0 2" ∷ codes "ok" ∷ codes "poison block 1 0" ∷ [])
  pub sync_refused_whole : Writes
      (text (codes "vstore 0 03*192" ∷ codes "poison volume 64" ∷ codes "vsync 0 192" ∷ codes "cut" ∷ codes "restart none" ∷ codes "vload 0 1"
      ∷ codes "vload 0 65" ∷ []))
      (leaving_lines Firsts ((672, 1) ∷ []) (2305 ∷ []) [] ∷ [])
      (codes "ok" ∷ codes "ok" ∷ codes "poison volume 64 64" ∷ codes "ok" ∷ codes "ok bad 1" ∷ codes "data 00" ∷ codes "poison volume 64 64" ∷ [])
  pub store_over_half_a_bad_line : Writes
      (text (codes "vstore 0 07*128" ∷ codes "poison volume 0" ∷ codes "vstore 60 05*68" ∷ codes "vload 64 1" ∷ codes "vstore 0 05*65"
      ∷ codes "vload 63 3" ∷ []))
      []
      (codes "ok" ∷ codes "ok" ∷ codes "poison volume 0 64" ∷ codes "data 07" ∷ codes "ok" ∷ codes "data 05*2,07" ∷ [])
  pub bad_lines_counted : Writes
      (text (codes "bwrite 0 01*512" ∷ codes "vstore 0 01" ∷ codes "poison block 0 7" ∷ codes "poison volume 0" ∷ codes "cut"
      ∷ codes "poison volume 0" ∷ codes "restart all" ∷ codes "vload 0 1" ∷ codes "bread 0 1" ∷ []))
      (leaving_lines Lasts ((144, 2) ∷ (672, 1) ∷ []) (2304 ∷ 2375 ∷ []) [] ∷ [])
      (codes "ok" ∷ codes "ok" ∷ codes "ok" ∷ codes "ok" ∷ codes "ok" ∷ codes "refused off" ∷ codes "ok bad 2" ∷ codes "poison volume 0 64"
      ∷ codes "poison block 0 7" ∷ [])
  pub discarded_with_its_bad_line : Writes
      (text (codes "vstore 0 09" ∷ codes "poison volume 0" ∷ codes "vdiscard 0 1" ∷ codes "vload 0 1" ∷ codes "vstore 0 08" ∷ codes "vload 0 2"
      ∷ []))
      []
      (codes "ok" ∷ codes "ok" ∷ codes "ok" ∷ codes "data 00" ∷ codes "ok" ∷ codes "data 08,00" ∷ [])
