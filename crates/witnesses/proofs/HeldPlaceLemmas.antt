-- Lines of files that are held, by the places at which reads look.
use Rattle.std.proofs.Common.{◌≡◌, inl, inr, ℕ, true, List, [], ◌∷◌, map, refl, sym, ap, subst}
use Rattle.std.specs.List.{list_all}
use Rattle.cut_places.specs.Outcomes.Files.{FileRead}
use Rattle.cut_places.specs.SeesFiles.{are_held, is_held}
use Rattle.cut_places.proofs.ReadLemmas.{lines_of_read}
use Rattle.witnesses.specs.Files.{places_read}
use Rattle.witnesses.proofs.ListLemmas.{IsAmong, all_from, all_of, among_first, among_last, among_map, among_parts}

-- line n of the file of a name
abbrev pub spot : List ℕ → ℕ → List ℕ × ℕ
spot name n = (name, n)

-- each line at which one of the reads looks is a place
pub place_among : (reads : List FileRead) (r : FileRead) → IsAmong r reads → (n : ℕ) → IsAmong n (lines_of_read r.pages) → IsAmong (spot r.name n) (places_read reads)
place_among [] r is n among = absurd is
place_among (q ∷ reads) r (inl same) n among =
    among_first (spot r.name n) (map (spot q.name) (lines_of_read q.pages)) (places_read reads)
    (subst (λ (p : FileRead). IsAmong (spot r.name n) (map (spot p.name) (lines_of_read p.pages))) same (among_map (spot r.name) n (lines_of_read r.pages) among))
place_among (q ∷ reads) r (inr later) n among = among_last (spot r.name n) (map (spot q.name) (lines_of_read q.pages)) (places_read reads) (place_among reads r later n among)

-- and each place is such a line
abbrev pub OfRead : List FileRead → List ℕ × ℕ → Type 0
OfRead reads place = (r : FileRead) × IsAmong r reads × (r.name ≡ place.0) × IsAmong place.1 (lines_of_read r.pages)

pub of_first : (name : List ℕ) (place : List ℕ × ℕ) (ns : List ℕ) → IsAmong place (map (spot name) ns) → (name ≡ place.0) × IsAmong place.1 ns
of_first name place [] among = absurd among
of_first name place (n ∷ ns) (inl same) = (sym (ap (λ (p : List ℕ × ℕ). p.0) same), inl (ap (λ (p : List ℕ × ℕ). p.1) same))
of_first name place (n ∷ ns) (inr later) = let rest = of_first name place ns later in (rest.0, inr rest.1)

of_later : (q : FileRead) (reads : List FileRead) (place : List ℕ × ℕ) → OfRead reads place → OfRead (q ∷ reads) place
of_later q reads place one = (one.0, inr one.1, one.2, one.3)

pub place_of_read : (reads : List FileRead) (place : List ℕ × ℕ) → IsAmong place (places_read reads) → OfRead reads place
place_of_read [] place is = absurd is
place_of_read (q ∷ reads) place is =
    elim (among_parts place (map (spot q.name) (lines_of_read q.pages)) (places_read reads) is) as (λ _. OfRead (q ∷ reads) place) [
      | inl here ↦ let one = of_first q.name place (lines_of_read q.pages) here in (q, inl refl, one.0, one.1)
      | inr later ↦ of_later q reads place (place_of_read reads place later)
    ]

-- a line of a place is held where the lines of all reads are
pub place_held : (numbers : List ℕ) (reads : List FileRead) (place : List ℕ × ℕ) → are_held numbers reads ≡ true → IsAmong place (places_read reads) → is_held numbers place.1 ≡ true
place_held numbers reads place held is =
    let one = place_of_read reads place is in
    all_of (is_held numbers) place.1 (lines_of_read one.0.pages)
    (all_of (λ (r : FileRead). list_all (is_held numbers) (lines_of_read r.pages)) one.0 reads held one.1) one.3

-- so are the lines of reads that look at no other place
pub asked_held : (numbers : List ℕ) (reads looked : List FileRead) → ((place : List ℕ × ℕ) → IsAmong place (places_read reads) → IsAmong place (places_read looked)) → are_held numbers looked ≡ true
    → are_held numbers reads ≡ true
asked_held numbers reads looked covers held =
    all_from (λ (r : FileRead). list_all (is_held numbers) (lines_of_read r.pages)) reads
    (λ r is. all_from (is_held numbers) (lines_of_read r.pages) (λ n among. place_held numbers looked (spot r.name n) held (covers (spot r.name n) (place_among reads r is n among))))
