-- The files of slots with their units, after one inode changed.
use Rattle.std.proofs.Common.{◌≡◌, ℕ, zero, suc, ◌+◌, ◌*◌, ◌/◌, ◌<◌, List, [], ◌∷◌, Option, Some, None, option_map, length, slice_get, slice_set, refl, sym, ap, ap₂, ◌∙◌, arith}
use Rattle.std.proofs.lemmas.Option.{slice_get_within}
use Rattle.nvm_base.specs.declared.files.FileEntry.{FileEntry}
use Rattle.nvm_model.specs.Numbered.{list_from, map_from}
use Rattle.inode_table.specs.Slots as names
use Rattle.file_journal.specs.Changes.{changed_tables, switched_page}
use Rattle.file_journal.specs.Files.{unit_file, unit_slots}
use Rattle.file_journal.specs.Tables.{Tables, unit_at}
use Rattle.file_journal.proofs.HoldLemmas.{get_or-switched, switched_elsewhere}

map_from-alike : {A B : Type 0} (f g : ℕ → A → B) (n : ℕ) (xs : List A)
    → ((j : ℕ) (y : A) → slice_get xs j ≡ Some y → f (n + j) y ≡ g (n + j) y) → map_from f n xs ≡ map_from g n xs
map_from-alike f g n [] same = refl
map_from-alike f g n (x ∷ xs) same =
    let e : n + 0 ≡ n = omega arith in
    let head : f n x ≡ g n x = sym (ap (λ k. f k x) e) ∙ same zero x refl ∙ ap (λ k. g k x) e in
    let rest : (j : ℕ) (y : _) → slice_get xs j ≡ Some y → f (suc n + j) y ≡ g (suc n + j) y =
    λ j y is. let e2 : n + suc j ≡ suc n + j = omega arith in sym (ap (λ k. f k y) e2) ∙ same (suc j) y is ∙ ap (λ k. g k y) e2 in
    ap₂ (λ v vs. v ∷ vs) head (map_from-alike f g (suc n) xs rest)

-- one item changed, and the others made alike
pub map_from-set : {A B : Type 0} (f g : ℕ → A → B) (n : ℕ) (xs : List A) (i : ℕ) (x : A) → i < length xs
    → ((j : ℕ) (y : A) → slice_get xs j ≡ Some y → (j ≡ i → ⊥) → f (n + j) y ≡ g (n + j) y)
    → map_from f n (slice_set xs i x) ≡ slice_set (map_from g n xs) i (f (n + i) x)
map_from-set f g n [] i x within same = absurd (omega (arith, within))
map_from-set f g n (y ∷ ys) zero x within same =
    let e : n ≡ n + 0 = omega arith in
    let rest : (j : ℕ) (z : _) → slice_get ys j ≡ Some z → f (suc n + j) z ≡ g (suc n + j) z =
    λ j z is. let e2 : n + suc j ≡ suc n + j = omega arith in
    sym (ap (λ k. f k z) e2) ∙ same (suc j) z is (λ zero_is. omega (arith, zero_is)) ∙ ap (λ k. g k z) e2 in
    ap₂ (λ v vs. v ∷ vs) (ap (λ k. f k x) e) (map_from-alike f g (suc n) ys rest)
map_from-set f g n (y ∷ ys) (suc i) x within same =
    let e : n + 0 ≡ n = omega arith in
    let head : f n y ≡ g n y = sym (ap (λ k. f k y) e) ∙ same zero y refl (λ zero_is. omega (arith, zero_is)) ∙ ap (λ k. g k y) e in
    let rest : (j : ℕ) (z : _) → slice_get ys j ≡ Some z → (j ≡ i → ⊥) → f (suc n + j) z ≡ g (suc n + j) z =
    λ j z is out. let e2 : n + suc j ≡ suc n + j = omega arith in
    sym (ap (λ k. f k z) e2) ∙ same (suc j) z is (λ both. out (omega (arith, both))) ∙ ap (λ k. g k z) e2 in
    let at : n + suc i ≡ suc n + i = omega arith in
    ap₂ (λ v vs. v ∷ vs) head (map_from-set f g (suc n) ys i x (omega (arith, within)) rest ∙ ap (λ k. slice_set (map_from g (suc n) ys) i (f k x)) (sym at))

pub list_from-alike : {A : Type 0} (f g : ℕ → A) (n count : ℕ) → ((k : ℕ) → k < n + count → f k ≡ g k) → list_from f n count ≡ list_from g n count
list_from-alike f g n zero same = refl
list_from-alike f g n (suc count) same =
    ap₂ (λ v vs. v ∷ vs) (same n (omega arith)) (list_from-alike f g (suc n) count (λ k below. same k (omega (arith, below))))

-- the unit of a page after switches of an inode: its own and those of others
pub unit_at-switched : (inode : ℕ) (switches : List (ℕ × Option ℕ)) (slot : Option FileEntry) (t : Tables) (j page : ℕ) → length t.pages ≡ 16384 → j < 64 → page < 256
    → unit_at (changed_tables inode slot switches t) j page ≡ switched_page inode switches (256 * j + page) (unit_at t j page)
unit_at-switched inode switches slot t j page all low below = get_or-switched inode switches t.pages (256 * j + page) (omega (arith, all))

pub unit_at-beside : (inode : ℕ) (switches : List (ℕ × Option ℕ)) (slot : Option FileEntry) (t : Tables) (j page : ℕ) → length t.pages ≡ 16384 → j < 64 → page < 256
    → (j ≡ inode → ⊥) → unit_at (changed_tables inode slot switches t) j page ≡ unit_at t j page
unit_at-beside inode switches slot t j page all low below out =
    let at : (256 * j + page) / 256 ≡ j = omega (arith, below) in
    unit_at-switched inode switches slot t j page all low below ∙ switched_elsewhere inode switches (256 * j + page) (unit_at t j page) (λ same. out (sym at ∙ same))

pub unit_slots-changed : (inode : ℕ) (switches : List (ℕ × Option ℕ)) (slot : Option FileEntry) (t : Tables) → length t.pages ≡ 16384 → names.IsTable t.files → inode < 64
    → unit_slots (changed_tables inode slot switches t)
    ≡ slice_set (unit_slots t) inode (option_map (unit_file (changed_tables inode slot switches t) inode) slot)
unit_slots-changed inode switches slot t all are low =
    let e : 0 + inode ≡ inode = omega arith in
    map_from-set (λ j s. option_map (unit_file new j) s) (λ j s. option_map (unit_file t j) s) 0 t.files inode slot (omega (arith, are.all)) same
    ∙ ap (λ k. slice_set (unit_slots t) inode (option_map (unit_file new k) slot)) e
  where
    new : Tables
    new = changed_tables inode slot switches t

    same : (j : ℕ) (s : Option FileEntry) → slice_get t.files j ≡ Some s → (j ≡ inode → ⊥) → option_map (unit_file new (0 + j)) s ≡ option_map (unit_file t (0 + j)) s
    same j None is out = refl
    same j (Some file) is out =
        let within : j < 64 = omega (arith, slice_get_within t.files j (Some file) is, are.all) in
        ap (λ us. Some (record { name = file.name; units = us }))
        (list_from-alike (unit_at new (0 + j)) (unit_at t (0 + j)) 0 file.pages
        (λ p below. unit_at-beside inode switches slot t (0 + j) p all (omega (arith, within)) (omega (arith, below, are.pages j file is)) (λ at. out (omega (arith, at)))))
