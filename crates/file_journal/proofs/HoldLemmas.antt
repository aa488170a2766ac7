-- Words that hold tables, after the words of a change are committed.
use Rattle.std.proofs.Common.{◌≡◌, ◌⊎◌, ◌≢◌, inl, inr, ℕ, suc, ◌+◌, ◌*◌, ◌/◌, ◌%◌, ◌<◌, ◌≤◌, true, false, List, [], ◌∷◌, Option, Some, None, length, get_or, set, if◌then◌else◌, refl, sym, ◌∙◌, ap, ap₂, subst, arith, get_or-set_other, get_or-set_same, length-set}
use Rattle.std.proofs.lemmas.Bool.{cases_eq, cases_lt, eq-eqb, ne_eqb}
use Rattle.std.proofs.lemmas.List.{length-append, length-map}
use Rattle.std.proofs.lemmas.Option.{get_or_from_slice_get, slice_get-get_or}
use Rattle.std.specs.Option.{option_map}
use Rattle.nvm_base.specs.Names.{is_name, name_in}
use Rattle.nvm_base.specs.declared.files.FileEntry.{FileEntry}
use Rattle.nvm_base.proofs.NameLemmas.{name_in-padded}
use Rattle.word_tables.specs.declared.geometry.Geometry.{Geometry}
use Rattle.word_tables.specs.Words.{place, of_inode, of_file_page}
use Rattle.word_log.specs.Area.{IsHome}
use Rattle.word_log.specs.Changes.{changed, lists, IsDistinct, MayCommit}
use Rattle.word_log.proofs.ChangeLemmas.{listed_or, changed-unlisted}
use Rattle.inode_table.specs.Holds.{HoldsSlot}
use Rattle.inode_table.specs.Words.{spelled_name, name_words, words_of}
use Rattle.inode_table.proofs.NameWordLemmas.{bytes_in-name}
use Rattle.page_table.specs.Pages.{word_of}
use Rattle.nvm_model.specs.Numbered.{list_from}
use Rattle.nvm_model.proofs.NumberedLemmas.{list_from-same, slice_get-list_from, slice_get-map_from}
use Rattle.file_journal.specs.Area.{file_area}
use Rattle.file_journal.specs.Changes.{change_words, changed_tables, numbered, slot_words, switch_words, switched_page, switched_pages, unit_for}
use Rattle.file_journal.specs.Holds.{Holds, Turns, inode_at}
use Rattle.file_journal.specs.Switches.{AreSwitches, IsSwitch}
use Rattle.file_journal.specs.Tables.{AreTables, Tables, unit_at}
use Rattle.file_journal.proofs.AreaLemmas.{page_is_home, tables_follow}
use Rattle.file_journal.proofs.SwitchLemmas.{page_of, switch_is, unit_of}
use Rattle.file_journal.proofs.WordLemmas.{changed-append, distinct-append, length-numbered, listed_in, numbered-at, numbered-distinct, numbered-out, numbered-within, slot_words_few, switch-at, switch-listed}

get_or-list_from : (f : ℕ → ℕ) (count k : ℕ) → k < count → get_or (list_from f 0 count) k 0 ≡ f k
get_or-list_from f count k below =
    let e : 0 + k ≡ k = omega arith in
    get_or_from_slice_get (list_from f 0 count) k (f (0 + k)) 0 (slice_get-list_from f 0 count k below) ∙ ap f e

-- the unit of an entry after switches
pub get_or-switched : (inode : ℕ) (switches : List (ℕ × Option ℕ)) (pages : List (Option ℕ)) (entry : ℕ) → entry < length pages → get_or (switched_pages inode switches pages) entry None ≡ switched_page inode switches entry (get_or pages entry None)
get_or-switched inode switches pages entry below =
    let e : 0 + entry ≡ entry = omega arith in
    get_or_from_slice_get (switched_pages inode switches pages) entry (switched_page inode switches (0 + entry) (get_or pages entry None)) None
    (slice_get-map_from (switched_page inode switches) 0 pages entry ∙ ap (option_map (switched_page inode switches (0 + entry))) (slice_get-get_or pages entry None below))
    ∙ ap (λ k. switched_page inode switches k (get_or pages entry None)) e

-- the same by inode and page
pub switched_here : (inode : ℕ) (switches : List (ℕ × Option ℕ)) (entry : ℕ) (old : Option ℕ) → entry / 256 ≡ inode → switched_page inode switches entry old ≡ unit_for switches (entry % 256) old
switched_here inode switches entry old same = ap (λ b. if b then unit_for switches (entry % 256) old else old) (eq-eqb (entry / 256) inode same)

pub switched_elsewhere : (inode : ℕ) (switches : List (ℕ × Option ℕ)) (entry : ℕ) (old : Option ℕ) → entry / 256 ≢ inode → switched_page inode switches entry old ≡ old
switched_elsewhere inode switches entry old other = ap (λ b. if b then unit_for switches (entry % 256) old else old) (ne_eqb (entry / 256) inode other)

pub switch-distinct : (geo : Geometry) (inode : ℕ) (switches : List (ℕ × Option ℕ)) → ((i j page : ℕ) (a b : Option ℕ) → IsSwitch switches i page a → IsSwitch switches j page b → i ≡ j) → IsDistinct (switch_words geo inode switches)
switch-distinct geo inode [] own = tt
switch-distinct geo inode (c ∷ cs) own =
    let p = place geo (of_file_page inode c.0) in (
      elim (listed_or (lists (switch_words geo inode cs) p)) as (λ _. lists (switch_words geo inode cs) p ≡ false) [
        | inl listed ↦
            let at = switch-listed geo inode cs p listed in
            let same : page_of cs at.0 ≡ c.0 = omega (arith, at.2) in
            let none : 0 ≡ suc at.0 = own 0 (suc at.0) c.0 c.1 (unit_of cs at.0) refl (switch_is cs at.0 at.1 ∙ ap (λ (q : ℕ). Some (q, unit_of cs at.0)) same) in
            absurd (omega arith)
        | inr unlisted ↦ unlisted
      ],
      switch-distinct geo inode cs (λ i j page a b x y. let e = own (suc i) (suc j) page a b x y in omega arith),
    )

module _ (geo : Geometry) (units inode : ℕ) (below : inode < 64) (slot : Option FileEntry) (switches : List (ℕ × Option ℕ)) (are : AreSwitches units switches) where
  slot_changes : List (ℕ × ℕ)
  slot_changes = numbered (place geo (of_inode inode 0)) (slot_words slot)

  pub may_commit : MayCommit (file_area geo) (change_words geo inode slot switches)
  may_commit =
      let first = place geo (of_inode inode 0) in
      let one = numbered first (slot_words slot) in
      let two = switch_words geo inode switches in
      let few = slot_words_few slot in
      let size : length two ≡ length switches = length-map switches _ in
      record {
        some = omega (arith, length-append one two, length-numbered first (slot_words slot), few);
        few = omega (arith, length-append one two, length-numbered first (slot_words slot), few, size, are.few);
        home = λ p h. elim (listed_in one two p h) as (λ _. IsHome (file_area geo) p) [
          | inl of_slot ↦ let at = numbered-within first (slot_words slot) p of_slot in (omega arith, omega (arith, at, few))
          | inr of_page ↦
              let at = switch-listed geo inode switches p of_page in
              subst (IsHome (file_area geo)) (sym at.2) (page_is_home geo inode (page_of switches at.0) below (are.within at.0 (page_of switches at.0) (unit_of switches at.0) (switch_is switches at.0 at.1)))
        ];
        distinct = distinct-append one two (numbered-distinct first (slot_words slot)) (switch-distinct geo inode switches are.distinct)
            (λ p h. elim (listed_or (lists two p)) as (λ _. lists two p ≡ false) [
              | inl listed ↦
                  let low = numbered-within first (slot_words slot) p h in
                  let at = switch-listed geo inode switches p listed in
                  absurd (omega (arith, low, few, at.2, tables_follow geo))
              | inr unlisted ↦ unlisted
            ]);
      }

  module _ (word : ℕ → ℕ) where
    abbrev after : ℕ → ℕ
    after = changed (change_words geo inode slot switches) word

    beside_slot : (p : ℕ) → (p < place geo (of_inode inode 0)) ⊎ (place geo (of_inode inode 0) + 5 ≤ p) → after p ≡ changed (switch_words geo inode switches) word p
    beside_slot p out =
        let few = slot_words_few slot in
        let past : (p < place geo (of_inode inode 0)) ⊎ (place geo (of_inode inode 0) + length (slot_words slot) ≤ p) = elim out [ inl low ↦ inl low | inr high ↦ inr (omega (arith, few)) ] in
        changed-append (numbered (place geo (of_inode inode 0)) (slot_words slot)) (switch_words geo inode switches) word p
        ∙ changed-unlisted (numbered (place geo (of_inode inode 0)) (slot_words slot)) (changed (switch_words geo inode switches) word) p (numbered-out (place geo (of_inode inode 0)) (slot_words slot) p past)

    beside_pages : (p : ℕ) → ((page : ℕ) → page < 256 → p ≡ place geo (of_file_page inode page) → ⊥) → changed (switch_words geo inode switches) word p ≡ word p
    beside_pages p out =
        changed-unlisted (switch_words geo inode switches) word p
        (elim (listed_or (lists (switch_words geo inode switches) p)) as (λ _. lists (switch_words geo inode switches) p ≡ false) [
          | inl listed ↦
              let at = switch-listed geo inode switches p listed in
              absurd (out (page_of switches at.0) (are.within at.0 (page_of switches at.0) (unit_of switches at.0) (switch_is switches at.0 at.1)) at.2)
          | inr unlisted ↦ unlisted
        ])

    slot_word : (k : ℕ) → k < length (slot_words slot) → after (place geo (of_inode inode k)) ≡ get_or (slot_words slot) k 0
    slot_word k small =
        let e : place geo (of_inode inode k) ≡ place geo (of_inode inode 0) + k = omega arith in
        ap after e
        ∙ changed-append (numbered (place geo (of_inode inode 0)) (slot_words slot)) (switch_words geo inode switches) word (place geo (of_inode inode 0) + k)
        ∙ numbered-at (place geo (of_inode inode 0)) (slot_words slot) (changed (switch_words geo inode switches) word) k small

    -- other words of inodes stay
    inode_word_stays : (other k : ℕ) → other < 64 → k < 8 → (other ≢ inode) ⊎ (5 ≤ k) → after (place geo (of_inode other k)) ≡ word (place geo (of_inode other k))
    inode_word_stays other k low small apart =
        let p = place geo (of_inode other k) in
        let out : (p < place geo (of_inode inode 0)) ⊎ (place geo (of_inode inode 0) + 5 ≤ p) = away in
        beside_slot p out ∙ beside_pages p (λ page lt e. omega (arith, tables_follow geo))
      where
        away : (place geo (of_inode other k) < place geo (of_inode inode 0)) ⊎ (place geo (of_inode inode 0) + 5 ≤ place geo (of_inode other k))
        away = elim (cases_lt other inode) [
          | inl less ↦ inl (omega arith)
          | inr more ↦ elim apart [ inl differs ↦ inr (omega arith) | inr past ↦ inr (omega arith) ]
        ]

    rest_stays : (old : Option FileEntry) → HoldsSlot (inode_at geo word inode) old → (k : ℕ) → 5 ≤ k → k < 8 → get_or (inode_at geo after inode) k 0 ≡ 0
    rest_stays old holds k from to =
        get_or-list_from (λ j. after (place geo (of_inode inode j))) 8 k to
        ∙ inode_word_stays inode k below to (inr from)
        ∙ sym (get_or-list_from (λ j. word (place geo (of_inode inode j))) 8 k to)
        ∙ holds.rest k from to

    held_slot : (s old : Option FileEntry) → slot ≡ s → ((file : FileEntry) → s ≡ Some file → is_name file.name ≡ true) → HoldsSlot (inode_at geo word inode) old → HoldsSlot (inode_at geo after inode) s
    held_slot None old is good holds = record {
      first = slot_word 0 (omega (arith, slot_words_few slot)) ∙ ap (λ s. get_or (slot_words s) 0 0) is;
      name = tt;
      rest = rest_stays old holds;
    }
    held_slot (Some file) old is good holds =
        let long : length (slot_words slot) ≡ 5 = ap (λ s. length (slot_words s)) is in
        let at : (k : ℕ) → k < 5 → after (place geo (of_inode inode k)) ≡ get_or (words_of file) k 0 =
        λ k small. slot_word k (omega arith) ∙ ap (λ s. get_or (slot_words s) k 0) is in
        let spelled : spelled_name (name_words file.name) ≡ Some file.name =
        ap name_in (bytes_in-name file.name (good file refl)) ∙ name_in-padded file.name (good file refl) in
        record {
          first = at 0 (omega arith);
          name = ap spelled_name (ap₂ ◌∷◌ (at 1 (omega arith)) (ap₂ ◌∷◌ (at 2 (omega arith)) (ap₂ ◌∷◌ (at 3 (omega arith)) (ap (λ w. w ∷ []) (at 4 (omega arith)))))) ∙ spelled;
          rest = rest_stays old holds;
        }

    other_inode : (other : ℕ) → other < 64 → other ≢ inode → inode_at geo after other ≡ inode_at geo word other
    other_inode other low differs =
        list_from-same (λ k. after (place geo (of_inode other k))) (λ k. word (place geo (of_inode other k))) 0 0 8
        (λ k small. inode_word_stays other (0 + k) low (omega arith) (inl differs))

    module _ (t : Tables) (files : length t.files ≡ 64) (pages : length t.pages ≡ 16384) (holds : Holds geo word t) where
      abbrev next : Tables
      next = changed_tables inode slot switches t

      held_slots : ((file : FileEntry) → slot ≡ Some file → is_name file.name ≡ true) → (other : ℕ) → other < 64 → HoldsSlot (inode_at geo after other) (get_or next.files other None)
      held_slots good other low =
          elim (cases_eq other inode) as (λ _. HoldsSlot (inode_at geo after other) (get_or next.files other None)) [
            | inl same ↦
                subst (λ n. HoldsSlot (inode_at geo after n) (get_or next.files n None)) (sym same)
                (subst (HoldsSlot (inode_at geo after inode)) (sym (get_or-set_same t.files inode slot None (omega (arith, files))))
                (held_slot slot (get_or t.files inode None) refl good (holds.slots inode below)))
            | inr differs ↦
                subst (HoldsSlot (inode_at geo after other)) (sym (get_or-set_other t.files inode other slot None differs))
                (subst (λ ws. HoldsSlot ws (get_or t.files other None)) (sym (other_inode other low differs)) (holds.slots other low))
          ]

      held_pages : (other page : ℕ) → other < 64 → page < 256 → after (place geo (of_file_page other page)) ≡ word_of (unit_at next other page)
      held_pages other page low small =
          let entry = 256 * other + page in
          let e1 : entry / 256 ≡ other = omega arith in
          let e2 : entry % 256 ≡ page = omega arith in
          let p = place geo (of_file_page other page) in
          let first : after p ≡ changed (switch_words geo inode switches) word p = beside_slot p (inr (omega (arith, tables_follow geo))) in
          let unit : unit_at next other page ≡ switched_page inode switches entry (unit_at t other page) = get_or-switched inode switches t.pages entry (omega (arith, pages)) in
          elim (cases_eq other inode) as (λ _. after p ≡ word_of (unit_at next other page)) [
            | inl same ↦
                first
                ∙ ap (λ n. changed (switch_words geo inode switches) word (place geo (of_file_page n page))) same
                ∙ switch-at geo inode switches word page (unit_at t other page) (ap (λ n. word (place geo (of_file_page n page))) (sym same) ∙ holds.pages other page low small)
                ∙ ap word_of (sym (unit ∙ switched_here inode switches entry (unit_at t other page) (e1 ∙ same) ∙ ap (λ k. unit_for switches k (unit_at t other page)) e2))
            | inr differs ↦
                first
                ∙ beside_pages p (λ other_page lt e. differs (omega arith))
                ∙ holds.pages other page low small
                ∙ ap word_of (sym (unit ∙ switched_elsewhere inode switches entry (unit_at t other page) (λ same. differs (sym e1 ∙ same))))
          ]

      held_next : ((file : FileEntry) → slot ≡ Some file → is_name file.name ≡ true) → Holds geo after next
      held_next good = record { slots = held_slots good; pages = held_pages }

-- a slot's name is one, where the tables after are right
pub slot_named : (size inode : ℕ) (slot : Option FileEntry) (switches : List (ℕ × Option ℕ)) (t : Tables) → inode < length t.files → AreTables size (changed_tables inode slot switches t) → (file : FileEntry) → slot ≡ Some file → is_name file.name ≡ true
slot_named size inode slot switches t within are file is =
    are.names.name inode file
    (slice_get-get_or (set t.files inode slot) inode None (omega (arith, length-set t.files inode slot)) ∙ ap Some (get_or-set_same t.files inode slot None within ∙ is))

pub turns : (geo : Geometry) (inode : ℕ) → inode < 64 → (slot : Option FileEntry) (switches : List (ℕ × Option ℕ)) → AreSwitches geo.fpages switches → (words : List (ℕ × ℕ)) → words ≡ change_words geo inode slot switches → (t : Tables) → AreTables geo.fpages t → AreTables geo.fpages (changed_tables inode slot switches t) → Turns geo words t (changed_tables inode slot switches t)
turns geo inode below slot switches are words is t old new =
    subst (λ ws. Turns geo ws t (changed_tables inode slot switches t)) (sym is)
    (record {
      may = may_commit geo geo.fpages inode below slot switches are;
      holds = λ word holds. held_next geo geo.fpages inode below slot switches are word t old.names.all old.table.all holds (slot_named geo.fpages inode slot switches t (omega (arith, old.names.all)) new);
    })
