-- The tables after an inode became another slot.
use Rattle.std.proofs.Common.{◌≡◌, ◌≢◌, ◌⊎◌, inl, inr, ℕ, zero, suc, ◌-◌, ◌/◌, ◌%◌, ◌<◌, ◌≤◌, true, List, [], ◌∷◌, Option, Some, None, IfSome, length, get_or, map, set, refl, sym, ap, ap₂, ◌∙◌, subst, arith, length-set, get_or-set_same, get_or-set_other}
use Rattle.std.proofs.lemmas.Bool.{cases_eq, cases_lt}
use Rattle.std.proofs.lemmas.Option.{get_or_from_slice_get, none-some, same_Some, slice_get-get_or, slice_get_within}
use Rattle.nvm_base.specs.Names.{is_name}
use Rattle.nvm_base.specs.declared.files.FileEntry.{FileEntry}
use Rattle.nvm_model.proofs.NumberedLemmas.{length-map_from}
use Rattle.inode_table.specs.Slots as names
use Rattle.inode_table.specs.Slots.{IsFile, MayTake, free_inode, pages_at, pages_of}
use Rattle.inode_table.proofs.SlotLemmas.{free_slot_is_free}
use Rattle.page_table.specs.Pages.{IsOn, IsWithinCounts}
use Rattle.file_journal.specs.Changes.{holes, replaced, replaced_at, switched_page, switched_pages, unit_for}
use Rattle.file_journal.specs.Tables.{AreTables, Tables}
use Rattle.file_journal.proofs.HoldLemmas.{get_or-switched, switched_elsewhere, switched_here}
use Rattle.file_journal.proofs.HoleLemmas.{hole_at, unit_for-hole, used_fewer}
use Rattle.file_journal.proofs.StepLemmas.{on_switched}
use Rattle.file_journal.proofs.SwitchLemmas.{unit_for_by}

pub get_or-counts : (files : List (Option FileEntry)) (k : ℕ) → get_or (map pages_of files) k 0 ≡ pages_of (get_or files k None)
get_or-counts [] k = refl
get_or-counts (f ∷ fs) zero = refl
get_or-counts (f ∷ fs) (suc k) = get_or-counts fs k

-- a slot that is a file afterwards is the one that was set, or was there before
file_after : (files : List (Option FileEntry)) (inode : ℕ) (slot : Option FileEntry) (i : ℕ) (file : FileEntry) → IsFile (set files inode slot) i file → ((i ≡ inode) × (slot ≡ Some file)) ⊎ ((i ≢ inode) × IsFile files i file)
file_after files inode slot i file is =
    let within : i < length files = omega (arith, slice_get_within (set files inode slot) i (Some file) is, length-set files inode slot) in
    let at = get_or_from_slice_get (set files inode slot) i (Some file) None is in
    elim (cases_eq i inode) as (λ _. ((i ≡ inode) × (slot ≡ Some file)) ⊎ ((i ≢ inode) × IsFile files i file)) [
      | inl same ↦ inl (same, sym (get_or-set_same files i slot None within) ∙ ap (λ k. get_or (set files k slot) i None) same ∙ at)
      | inr apart ↦ inr (apart, slice_get-get_or files i None within ∙ ap (λ (f : Option FileEntry). Some f) (sym (get_or-set_other files inode i slot None apart) ∙ at))
    ]

-- what holds of the file in a slot
if_some : (slot : Option FileEntry) (P : FileEntry → Type 0) → IfSome slot P → (file : FileEntry) → slot ≡ Some file → P file
if_some None P holds file is = cc is
if_some (Some f) P holds file is = subst P (same_Some f file is) holds

module _ (inode : ℕ) (slot : Option FileEntry) (files : List (Option FileEntry)) (are : names.IsTable files) (name : IfSome slot (λ file. MayTake files inode file.name)) (named : IfSome slot (λ file. is_name file.name ≡ true)) (few : IfSome slot (λ file. file.pages ≤ 256)) where
  pub set_names : names.IsTable (set files inode slot)
  set_names = record {
    all = length-set files inode slot ∙ are.all;
    name = λ i file is. elim (file_after files inode slot i file is) as (λ _. is_name file.name ≡ true) [
      | inl here ↦ if_some slot (λ f. is_name f.name ≡ true) named file here.1
      | inr there ↦ are.name i file there.1
    ];
    pages = λ i file is. elim (file_after files inode slot i file is) as (λ _. file.pages ≤ 256) [
      | inl here ↦ if_some slot (λ f. f.pages ≤ 256) few file here.1
      | inr there ↦ are.pages i file there.1
    ];
    apart = λ i j a b is_a is_b same. elim (file_after files inode slot i a is_a) as (λ _. i ≡ j) [
      | inl a_here ↦ elim (file_after files inode slot j b is_b) as (λ _. i ≡ j) [
        | inl b_here ↦ a_here.0 ∙ sym b_here.0
        | inr b_there ↦ a_here.0 ∙ sym (if_some slot (λ f. MayTake files inode f.name) name a a_here.1 j b b_there.1 (sym same))
      ]
      | inr a_there ↦ elim (file_after files inode slot j b is_b) as (λ _. i ≡ j) [
        | inl b_here ↦ if_some slot (λ f. MayTake files inode f.name) name b b_here.1 i a a_there.1 same ∙ sym b_here.0
        | inr b_there ↦ are.apart i j a b a_there.1 b_there.1 same
      ]
    ];
  }

module _ (size inode : ℕ) (slot : Option FileEntry) (t : Tables) (are : AreTables size t) (below : inode < 64) where
  abbrev cut : List (ℕ × Option ℕ)
  cut = holes (pages_of slot) (pages_at t.files inode - pages_of slot)

  still_on : (e unit : ℕ) → IsOn (switched_pages inode cut t.pages) e unit → IsOn t.pages e unit
  still_on e unit on =
      elim (on_switched inode cut t.pages e unit on) [
        | inl found ↦ absurd (none-some unit (sym (hole_at (pages_of slot) (pages_at t.files inode - pages_of slot) found.0 (e % 256) (Some unit) found.2).2))
        | inr there ↦ there
      ]

  cut_page : (k : ℕ) (page : Option ℕ) → (switched_page inode cut k page ≡ None) ⊎ (switched_page inode cut k page ≡ page)
  cut_page k page =
      elim (cases_eq (k / 256) inode) as (λ _. (switched_page inode cut k page ≡ None) ⊎ (switched_page inode cut k page ≡ page)) [
        | inl here ↦ elim (unit_for_by cut (k % 256) page) as (λ _. (switched_page inode cut k page ≡ None) ⊎ (switched_page inode cut k page ≡ page)) [
          | inl found ↦ inl (switched_here inode cut k page here ∙ (hole_at (pages_of slot) (pages_at t.files inode - pages_of slot) found.0 (k % 256) (unit_for cut (k % 256) page) found.1).2)
          | inr kept ↦ inr (switched_here inode cut k page here ∙ kept)
        ]
        | inr other ↦ inr (switched_elsewhere inode cut k page other)
      ]

  -- what is left of the inode lies below its new count
  counted_here : (e unit : ℕ) → IsOn (switched_pages inode cut t.pages) e unit → e / 256 ≡ inode → e % 256 < pages_of slot
  counted_here e unit on here =
      let before = still_on e unit on in
      let within = slice_get_within t.pages e (Some unit) before in
      let low : e % 256 < pages_at t.files inode = subst (λ n. e % 256 < n) (ap (λ k. get_or (map pages_of t.files) k 0) here ∙ get_or-counts t.files inode) (are.counted e unit before) in
      let old = get_or t.pages e None in
      let is : switched_page inode cut e old ≡ Some unit = sym (get_or-switched inode cut t.pages e within) ∙ get_or_from_slice_get (switched_pages inode cut t.pages) e (Some unit) None on in
      elim (cases_lt (e % 256) (pages_of slot)) [
        | inl less ↦ less
        | inr past ↦
            let none = unit_for-hole (pages_of slot) (pages_at t.files inode - pages_of slot) (e % 256) old past (omega arith) in
            absurd (none-some unit (sym none ∙ sym (switched_here inode cut e old here) ∙ is))
      ]

  counted_after : IsWithinCounts (map pages_of (set t.files inode slot)) (switched_pages inode cut t.pages)
  counted_after e unit on =
      subst (λ n. e % 256 < n) (sym (get_or-counts (set t.files inode slot) (e / 256)))
      (elim (cases_eq (e / 256) inode) as (λ _. e % 256 < pages_of (get_or (set t.files inode slot) (e / 256) None)) [
        | inl here ↦
            subst (λ n. e % 256 < pages_of n) (sym (ap (λ k. get_or (set t.files inode slot) k None) here ∙ get_or-set_same t.files inode slot None (omega (arith, are.names.all))))
            (counted_here e unit on here)
        | inr other ↦
            subst (λ n. e % 256 < pages_of n) (sym (get_or-set_other t.files inode (e / 256) slot None other))
            (subst (λ n. e % 256 < n) (get_or-counts t.files (e / 256)) (are.counted e unit (still_on e unit on)))
      ])

  pub replaced_are : names.IsTable (set t.files inode slot) → AreTables size (replaced inode slot t)
  replaced_are right = record {
    names = right;
    table = record {
      few = are.table.few;
      all = length-map_from (switched_page inode cut) 0 t.pages ∙ are.table.all;
      within = λ e unit on. are.table.within e unit (still_on e unit on);
      apart = λ a b unit on_a on_b. are.table.apart a b unit (still_on a unit on_a) (still_on b unit on_b);
    };
    counted = counted_after;
    room = omega (arith, are.room, used_fewer (switched_page inode cut) cut_page 0 t.pages);
  }

-- an inode has at most 256 pages
pages_few : (slot : Option FileEntry) → ((file : FileEntry) → slot ≡ Some file → file.pages ≤ 256) → pages_of slot ≤ 256
pages_few None few = omega arith
pages_few (Some file) few = few file refl

pub pages_at_most : (files : List (Option FileEntry)) (inode : ℕ) → names.IsTable files → inode < 64 → pages_at files inode ≤ 256
pages_at_most files inode are below = pages_few (get_or files inode None) (λ file is. are.pages inode file (slice_get-get_or files inode None (omega (arith, are.all)) ∙ ap (λ (f : Option FileEntry). Some f) is))

pub pages_of_most : (slot : Option FileEntry) → IfSome slot (λ file. file.pages ≤ 256) → pages_of slot ≤ 256
pages_of_most None few = omega arith
pages_of_most (Some file) few = few

-- of an inode that was found
pub replaced_found : (found : Option ℕ) (inode : ℕ) (slot : ℕ → Option FileEntry) (t : Tables) → found ≡ Some inode → replaced_at found slot t ≡ replaced inode (slot inode) t
replaced_found found inode slot t is = ap (λ o. replaced_at o slot t) is

-- the pages that are cut
pub cut_is : (switches : List (ℕ × Option ℕ)) (before after count inode : ℕ) (slot : Option FileEntry) (files : List (Option FileEntry)) → switches ≡ holes after count → after ≡ pages_of slot → count ≡ before - after → before ≡ pages_at files inode → switches ≡ holes (pages_of slot) (pages_at files inode - pages_of slot)
cut_is switches before after count inode slot files is after_is count_is before_is = is ∙ ap₂ holes after_is (count_is ∙ ap₂ ◌-◌ before_is after_is)

-- which inode may take a name: any, where no file has it, and the one that has it
pub may_unnamed : (files : List (Option FileEntry)) (inode : ℕ) (name : List ℕ) → ((i : ℕ) → names.IsNamed files i name → ⊥) → MayTake files inode name
may_unnamed files inode name none other file is same = absurd (none other (record { file = file; is = is; named = same }))

pub may_named : (files : List (Option FileEntry)) (inode : ℕ) (name : List ℕ) → names.IsTable files → names.IsNamed files inode name → MayTake files inode name
may_named files inode name are here other file is same = are.apart other inode file here.file is here.is (same ∙ sym here.named)

-- a free inode has no pages
pub pages_at_free : (files : List (Option FileEntry)) (inode : ℕ) → free_inode files ≡ Some inode → pages_at files inode ≡ 0
pages_at_free files inode found = ap pages_of (get_or_from_slice_get files inode None None (free_slot_is_free files inode found))
