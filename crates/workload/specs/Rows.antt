-- Worked lines and summaries.
use Rattle.std.specs.Prelude.{◌≡◌, ℕ, List, [], ◌∷◌, codes}
use Rattle.workload.specs.Lines.{drawn, lines, stepped}
use Rattle.workload.specs.Summary.{added, told}
use Rattle.workload.specs.declared.summary.Summary.{Summary}

abbrev pub nothing : Summary
nothing = record { commands = 0; oks = 0; reads = 0; cuts = 0; sum = 0 }

-- each number at its last value
abbrev pub full : Summary
full = record {
  commands = 18446744073709551615;
  oks = 18446744073709551615;
  reads = 18446744073709551615;
  cuts = 18446744073709551615;
  sum = 18446744073709551615;
}

-- the files made and the first one mapped
abbrev pub opened : List (List ℕ) → List (List ℕ)
opened rest = codes "create f0 16" ∷ codes "create f1 16" ∷ codes "map f0 0 65536 shared" ∷ rest

-- the summary of these lines, each with its reply
abbrev pub summed : Summary → List (List ℕ × List ℕ) → Summary
summed s [] = s
summed s ((line, reply) ∷ rest) = summed (added s line reply) rest

pub record LineRows : Type 0 where
  pub first_draw : drawn (stepped 1) ≡ 908834774
  pub no_round : lines 5 0 ≡ opened []
  pub volume_store : lines 1 1 ≡ opened (codes "vstore 6856 cc*8" ∷ [])
  pub block_writes : lines 1 3
      ≡ opened (codes "vstore 6856 cc*8" ∷ codes "bwrite 26 f3*512" ∷ codes "bwrite 54 29*512" ∷ [])
  pub atomic_write : lines 6 1 ≡ opened (codes "batomic 53 75*1024" ∷ [])
  pub block_read : lines 5 1 ≡ opened (codes "bread 29 1" ∷ [])
  pub block_discarded : lines 9 1 ≡ opened (codes "bdiscard 33 1" ∷ [])
  pub volume_synced : lines 12 1 ≡ opened (codes "vsync 13568 64" ∷ [])
  pub mapping_stored_to : lines 4 1 ≡ opened (codes "store 0 16992 fe*8" ∷ [])
  pub mapping_flushed : lines 0 1 ≡ opened (codes "flush 0 49664 64" ∷ [])
  pub file_written_whole : lines 7 1 ≡ opened (codes "fatomic f1 20416 31*64" ∷ [])
  pub file_read : lines 40 1 ≡ opened (codes "fread f0 60416 64" ∷ [])
  pub power_cut : lines 3 1 ≡ opened (codes "cut" ∷ codes "restart seed 1577179715" ∷ codes "map f0 0 65536 shared" ∷ [])

pub record SummaryRows : Type 0 where
  pub first_round : summed nothing
      ((codes "create f0 16", codes "ok") ∷ (codes "create f1 16", codes "ok") ∷ (codes "map f0 0 65536 shared", codes "handle 0")
      ∷ (codes "vstore 6856 cc*8", codes "ok") ∷ [])
      ≡ record { commands = 4; oks = 3; reads = 0; cuts = 0; sum = 0 }
  pub cut : summed nothing ((codes "cut", codes "ok") ∷ (codes "restart seed 1577179715", codes "ok bad 0") ∷ [])
      ≡ record { commands = 2; oks = 2; reads = 0; cuts = 1; sum = 0 }
  pub cut_refused : added nothing (codes "cut") (codes "refused off") ≡ record { commands = 1; oks = 0; reads = 0; cuts = 1; sum = 0 }
  pub armed_cut : added nothing (codes "cut in 5") (codes "ok") ≡ record { commands = 1; oks = 1; reads = 0; cuts = 0; sum = 0 }
  pub read : added nothing (codes "fread head 0 8") (codes "data 02,00*7") ≡ record { commands = 1; oks = 0; reads = 1; cuts = 0; sum = 2 }
  pub runs : told (codes "data 72,65,63,20,33,01*59") ≡ 456
  pub run_of_the_greatest : told (codes "data ff*512") ≡ 130560
  pub word_alone : told (codes "data") ≡ 0
  pub numbers_stand : added full (codes "cut") (codes "ok") ≡ full
  pub sum_wraps : added full (codes "bread 0 1") (codes "data 05") ≡ record full { sum = 4 }
