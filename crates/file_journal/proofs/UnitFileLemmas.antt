-- A file with its units, after its inode changed.
use Rattle.std.proofs.Common.{◌≡◌, ℕ, zero, suc, ◌+◌, ◌-◌, ◌*◌, ◌/◌, ◌%◌, ◌<◌, ◌≤◌, List, ◌∷◌, ◌++◌, Option, Some, None, length, get_or, map, take, replicate, slice_get, refl, sym, ap, ap₂, subst, ◌∙◌, inl, inr, arith}
use Rattle.std.proofs.lemmas.Option.{get_or_from_slice_get, slice_get-get_or}
use Rattle.nvm_base.specs.declared.files.FileEntry.{FileEntry}
use Rattle.nvm_model.specs.Numbered.{list_from, map_from}
use Rattle.inode_table.specs.Slots.{pages_at, pages_of}
use Rattle.page_table.specs.Pages.{IsOn}
use Rattle.file_journal.specs.Changes.{changed_tables, holes, replaced, unit_for}
use Rattle.file_journal.specs.Files.{hole_file, named_file, resized_file, switched_file, unit_file}
use Rattle.file_journal.specs.Tables.{AreTables, Tables, unit_at}
use Rattle.file_journal.proofs.HoldLemmas.{switched_here}
use Rattle.file_journal.proofs.HoleLemmas.{hole_at}
use Rattle.file_journal.proofs.ReplaceLemmas.{get_or-counts}
use Rattle.file_journal.proofs.SlotFileLemmas.{list_from-alike, unit_at-switched}
use Rattle.file_journal.proofs.SwitchLemmas.{unit_for_by}

-- a page past its file's count is a hole
pub unit_at-past : (size : ℕ) (t : Tables) (inode page : ℕ) → AreTables size t → inode < 64 → page < 256 → pages_at t.files inode ≤ page → unit_at t inode page ≡ None
unit_at-past size t inode page are low below past = by_unit (unit_at t inode page) refl
  where
    by_unit : (o : Option ℕ) → unit_at t inode page ≡ o → o ≡ None
    by_unit None is = refl
    by_unit (Some unit) is =
        let entry = 256 * inode + page in
        let on : IsOn t.pages entry unit =
        slice_get-get_or t.pages entry None (omega (arith, are.table.all)) ∙ ap (λ (o : Option ℕ). Some o) is in
        let column : entry % 256 ≡ page = omega (arith, below) in
        let row : entry / 256 ≡ inode = omega (arith, below) in
        let counted : page < get_or (map pages_of t.files) (entry / 256) 0 = subst (λ k. k < get_or (map pages_of t.files) (entry / 256) 0) column (are.counted entry unit on) in
        let of_inode : get_or (map pages_of t.files) (entry / 256) 0 ≡ pages_at t.files inode = ap (λ k. get_or (map pages_of t.files) k 0) row ∙ get_or-counts t.files inode in
        absurd (omega (arith, counted, of_inode, past))

-- the inode's own pages after switches
pub unit_at-own : (inode : ℕ) (switches : List (ℕ × Option ℕ)) (slot : Option FileEntry) (t : Tables) (page : ℕ) → length t.pages ≡ 16384 → inode < 64 → page < 256
    → unit_at (changed_tables inode slot switches t) inode page ≡ unit_for switches page (unit_at t inode page)
unit_at-own inode switches slot t page all low below =
    let column : (256 * inode + page) % 256 ≡ page = omega (arith, below) in
    unit_at-switched inode switches slot t inode page all low below
    ∙ switched_here inode switches (256 * inode + page) (unit_at t inode page) (omega (arith, below))
    ∙ ap (λ k. unit_for switches k (unit_at t inode page)) column

-- pages before those that become holes stay
pub unit_for-kept : (first count page : ℕ) (old : Option ℕ) → page < first → unit_for (holes first count) page old ≡ old
unit_for-kept first count page old below =
    elim (unit_for_by (holes first count) page old) as (λ _. unit_for (holes first count) page old ≡ old) [
      | inl found ↦ absurd (omega (arith, below, (hole_at first count found.0 page (unit_for (holes first count) page old) found.1).1))
      | inr kept ↦ kept
    ]

list_from-all : {A : Type 0} (f : ℕ → A) (n count : ℕ) (v : A) → ((k : ℕ) → n ≤ k → k < n + count → f k ≡ v) → list_from f n count ≡ replicate count v
list_from-all f n zero v same = refl
list_from-all f n (suc count) v same =
    ap₂ (λ x xs. x ∷ xs) (same n (omega arith) (omega arith)) (list_from-all f (suc n) count v (λ k from below. same k (omega (arith, from)) (omega (arith, below))))

list_from-map : {A B : Type 0} (f : ℕ → B) (g : ℕ → A) (h : ℕ → A → B) (n count : ℕ) → ((k : ℕ) → k < n + count → f k ≡ h k (g k))
    → list_from f n count ≡ map_from h n (list_from g n count)
list_from-map f g h n zero same = refl
list_from-map f g h n (suc count) same =
    ap₂ (λ x xs. x ∷ xs) (same n (omega arith)) (list_from-map f g h (suc n) count (λ k below. same k (omega (arith, below))))

list_from-resized : {A : Type 0} (f g : ℕ → A) (v : A) (n old new : ℕ) → ((k : ℕ) → k < n + new → k < n + old → f k ≡ g k)
    → ((k : ℕ) → k < n + new → n + old ≤ k → n ≤ k → f k ≡ v)
    → list_from f n new ≡ take new (list_from g n old) ++ replicate (new - length (list_from g n old)) v
list_from-resized f g v n old zero same fresh = let e : 0 - length (list_from g n old) ≡ 0 = omega arith in ap (λ k. replicate k v) (sym e)
list_from-resized f g v n zero (suc new) same fresh =
    let e : suc new - 0 ≡ suc new = omega arith in
    list_from-all f n (suc new) v (λ k from below. fresh k below (omega (arith, from)) from) ∙ ap (λ k. replicate k v) (sym e)
list_from-resized f g v n (suc old) (suc new) same fresh =
    let size = length (list_from g (suc n) old) in
    let e : new - size ≡ suc new - suc size = omega arith in
    ap₂ (λ x xs. x ∷ xs) (same n (omega arith) (omega arith))
    (list_from-resized f g v (suc n) old new (λ k one two. same k (omega (arith, one)) (omega (arith, two)))
    (λ k one two three. fresh k (omega (arith, one)) (omega (arith, two)) (omega (arith, three)))
    ∙ ap (λ k. take new (list_from g (suc n) old) ++ replicate k v) e)

module _ (size : ℕ) (t : Tables) (are : AreTables size t) (inode : ℕ) (low : inode < 64) where
  -- an inode that was free
  pub unit_file-created : (name : List ℕ) (pages : ℕ) → pages ≤ 256 → pages_at t.files inode ≡ 0
      → unit_file (replaced inode (Some (record { name = name; pages = pages })) t) inode (record { name = name; pages = pages }) ≡ hole_file name pages
  unit_file-created name pages few none =
      ap (λ us. record { name = name; units = us })
      (list_from-all (unit_at (replaced inode (Some (record { name = name; pages = pages })) t) inode) 0 pages None
      (λ p from below. let small : p < 256 = omega (arith, below) in
      unit_at-own inode (holes pages (pages_at t.files inode - pages)) (Some (record { name = name; pages = pages })) t p are.table.all low small
      ∙ unit_for-kept pages (pages_at t.files inode - pages) p (unit_at t inode p) (omega (arith, below))
      ∙ unit_at-past size t inode p are low small (omega (arith, none))))

  module _ (file : FileEntry) (is : slice_get t.files inode ≡ Some (Some file)) where
    pages_is : pages_at t.files inode ≡ file.pages
    pages_is = ap pages_of (get_or_from_slice_get t.files inode (Some file) None is)

    few : file.pages ≤ 256
    few = are.names.pages inode file is

    -- the same inode under another name, with other pages, or with pages switched
    pub unit_file-renamed : (to : List ℕ)
        → unit_file (replaced inode (Some (record { name = to; pages = pages_at t.files inode })) t) inode (record { name = to; pages = pages_at t.files inode })
        ≡ named_file to (unit_file t inode file)
    unit_file-renamed to =
        let count = pages_at t.files inode in
        let slot : Option FileEntry = Some (record { name = to; pages = count }) in
        ap (λ us. record { name = to; units = us })
        (list_from-alike (unit_at (replaced inode slot t) inode) (unit_at t inode) 0 count
        (λ p below. unit_at-own inode (holes count (count - count)) slot t p are.table.all low (omega (arith, below, pages_is, few))
        ∙ unit_for-kept count (count - count) p (unit_at t inode p) (omega (arith, below)))
        ∙ ap (list_from (unit_at t inode) 0) pages_is)

    pub unit_file-resized : (name : List ℕ) (pages : ℕ) → pages ≤ 256 → file.name ≡ name
        → unit_file (replaced inode (Some (record { name = name; pages = pages })) t) inode (record { name = name; pages = pages })
        ≡ resized_file pages (unit_file t inode file)
    unit_file-resized name pages small named =
        let count = pages_at t.files inode in
        let slot : Option FileEntry = Some (record { name = name; pages = pages }) in
        let own : (p : ℕ) → p < 0 + pages → unit_at (replaced inode slot t) inode p ≡ unit_at t inode p =
        λ p below. unit_at-own inode (holes pages (count - pages)) slot t p are.table.all low (omega (arith, below, small))
        ∙ unit_for-kept pages (count - pages) p (unit_at t inode p) (omega (arith, below)) in
        ap₂ (λ n us. record { name = n; units = us }) (sym named)
        (list_from-resized (unit_at (replaced inode slot t) inode) (unit_at t inode) None 0 file.pages pages (λ p below kept. own p below)
        (λ p below past from. own p below ∙ unit_at-past size t inode p are low (omega (arith, below, small)) (omega (arith, past, pages_is))))

    pub unit_file-switched : (switches : List (ℕ × Option ℕ))
        → unit_file (changed_tables inode (Some file) switches t) inode file ≡ switched_file switches (unit_file t inode file)
    unit_file-switched switches =
        ap (λ us. record { name = file.name; units = us })
        (list_from-map (unit_at (changed_tables inode (Some file) switches t) inode) (unit_at t inode) (unit_for switches) 0 file.pages
        (λ p below. unit_at-own inode switches (Some file) t p are.table.all low (omega (arith, below, few))))
