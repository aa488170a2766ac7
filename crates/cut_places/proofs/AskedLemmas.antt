-- The reads of one file among those that are asked for.
use Rattle.std.proofs.Common.{◌≡◌, ◌&&◌, ◌||◌, ℕ, Bool, true, false, cond, not, List, [], ◌∷◌, refl, ap}
use Rattle.std.specs.List.{list_all}
use Rattle.std.specs.Str.{bytes_eq}
use Rattle.sights.specs.Outcomes.Files.{reads_of}
use Rattle.sights.specs.Outcomes.Pages.{PageRead}
use Rattle.sights.specs.AskedReads.Reads.{page_read}
use Rattle.sights.specs.AskedReads.declared.reads.FileRead.{FileRead as Asked}
use Rattle.sights.specs.AskedReads.Reads.{file_reads_asked}

-- those of other files are passed over
pub all_of_file : (f : PageRead → Bool) (name : List ℕ) (reads : List Asked)
    → list_all (λ (r : Asked). not (bytes_eq r.name name) || f (page_read r.pages)) reads ≡ list_all f (reads_of name (file_reads_asked reads))
all_of_file f name [] = refl
all_of_file f name (r ∷ reads) = by_name (bytes_eq r.name name) (all_of_file f name reads)
  where
    by_name : (b : Bool) → list_all (λ (q : Asked). not (bytes_eq q.name name) || f (page_read q.pages)) reads ≡ list_all f (reads_of name (file_reads_asked reads))
        → ((not b || f (page_read r.pages)) && list_all (λ (q : Asked). not (bytes_eq q.name name) || f (page_read q.pages)) reads)
        ≡ list_all f (cond b (page_read r.pages ∷ reads_of name (file_reads_asked reads)) (reads_of name (file_reads_asked reads)))
    by_name true rest = ap (λ b. f (page_read r.pages) && b) rest
    by_name false rest = rest
