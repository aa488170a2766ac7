-- A look at distinct words of the volume is shown where each word alone is, group by group.
use Rattle.std.proofs.Common.{◌≡◌, inl, inr, ℕ, ◌+◌, ◌-◌, ◌*◌, ◌/◌, ◌%◌, ◌<◌, ◌==◌, ◌&&◌, ◌||◌, nat_lt, not, Bool, true, false, cond, Option, Some, None, List, [], ◌∷◌, ◌++◌, length, map, refl, sym, ap, subst, ◌∙◌, arith}
use Rattle.std.specs.List.{AllByRecursion, list_all, range_with_len}
use Rattle.std.proofs.lemmas.Bool.{eq-eqb, eqb-false, eqb-true, ltb-true, or_left}
use Rattle.std.proofs.lemmas.List.Folds.{list_all-map}
use Rattle.word_tables.specs.declared.geometry.Geometry.{Geometry}
use Rattle.nvm_model.specs.Cell.{Cell, flush_cell, persist_cell}
use Rattle.nvm_model.specs.Page.{Page, cell_of, fill, persist, put}
use Rattle.pm_volume.specs.Refusals.{physical_offset}
use Rattle.script_text.specs.Action.{Action}
use Rattle.script_text.specs.Action.Action.{VStore, VSync, VPSync, VDiscard, VDiscardIf, ClearVolume}
use Rattle.explorer.specs.MachineModel.Commands.{meaning}
use Rattle.explorer.specs.MachineModel.OnVolume.{part_synced_at, persist_at}
use Rattle.explorer.specs.Durable.Durable.{HaveLines}
use Rattle.explorer.specs.Outcomes.Left.{stored_passes, volume_may_pass, volume_passes}
use Rattle.explorer.specs.Outcomes.Pages.{PageRead, PageReply, all_lines_read, line_fits, lines_read}
use Rattle.explorer.specs.Outcomes.Pages.PageReply.{Shows, Poison, Refuses}
use Rattle.explorer.specs.Outcomes.Ways.{all_pass, each_passes, group_passes, groups_pass}
use Rattle.explorer.specs.AskedReads.Fitting.{cell_fits}
use Rattle.explorer.specs.SightsSeen.Seeing.{or_zeros, seen}
use Rattle.explorer.proofs.SightsSeen.SeenLemmas.{seen-fill, seen-persist}
use Rattle.explorer.proofs.SightsSeen.ShowLemmas.{fits_seen, tests_same}
use Rattle.explorer.specs.ValueTables.Listed.{HasWords}
use Rattle.explorer.proofs.ValueTables.HistoryLemmas.{made_has}
use Rattle.explorer.proofs.Witnesses.ListLemmas.{IsAmong, all_from, all_of}
use Rattle.outcome_lists.specs.Apart.{AreThere, AreWords, EachAlone, GroupsAlone, IsInside, IsWordRead, IsWordReply, OneAlone, always, fits_alone, grouped, groups_left, line_of, same_line}
use Rattle.outcome_lists.proofs.ApartLemmas.{all_true, line_alone, other_line}

-- tests that follow from each other are one
same_test : (a b : Bool) → (a ≡ true → b ≡ true) → (b ≡ true → a ≡ true) → a ≡ b
same_test true b one other = sym (one refl)
same_test false true one other = other refl
same_test false false one other = refl

-- a test that follows from another one, beside a third or beside that one
beside_so : (a b c : Bool) → (b ≡ true → c ≡ true) → (a || b) ≡ true → (a || c) ≡ true
beside_so true b c so some = refl
beside_so false b c so some = so some

absorbed : (a b : Bool) → (a ≡ true → b ≡ true) → (a || b) ≡ b
absorbed true b so = sym (so refl)
absorbed false b so = refl

-- tests that are the same of each item
tests_alike : {A : Type 0} (f g : A → Bool) (xs : List A) → ((x : A) → IsAmong x xs → f x ≡ g x) → list_all f xs ≡ list_all g xs
tests_alike f g [] same = refl
tests_alike f g (x ∷ xs) same = ap (λ b. b && list_all f xs) (same x (inl refl)) ∙ ap (λ b. g x && b) (tests_alike f g xs (λ y is. same y (inr is)))

-- what holds of all holds of each
pub each_of : {A : Type 0} (P : A → Type 0) (x : A) (xs : List A) → AllByRecursion P xs → IsAmong x xs → P x
each_of P x [] all is = absurd is
each_of P x (y ∷ ys) all (inl same) = subst P (sym same) all.0
each_of P x (y ∷ ys) all (inr later) = each_of P x ys all.1 later

-- what tells nothing of the items is so once, or for each of them
constant : {A : Type 0} (c : Bool) (x : A) (xs : List A) → c ≡ list_all (λ (y : A). c) (x ∷ xs)
constant true x xs = sym (all_true xs)
constant false x xs = refl

all_together : {A : Type 0} (old new : A → Bool) (xs : List A) → (list_all old xs || list_all new xs) ≡ list_all (λ (x : A). list_all old xs || list_all new xs) xs
all_together old new [] = refl
all_together old new (x ∷ xs) = constant (list_all old (x ∷ xs) || list_all new (x ∷ xs)) x xs

-- a number among others that is its own group
own_group : (f : ℕ → Bool) (n : ℕ) (ns : List ℕ) → IsAmong n ns → list_all (λ m. not (m == n) || f m) ns ≡ f n
own_group f n ns is =
    same_test (list_all (λ m. not (m == n) || f m) ns) (f n)
    (λ all. sym (ap (λ b. not b || f n) (eq-eqb n n refl)) ∙ all_of (λ m. not (m == n) || f m) n ns all is)
    (λ own. all_from (λ m. not (m == n) || f m) ns (λ m among. by_number m (m == n) refl own))
  where
    by_number : (m : ℕ) (b : Bool) → (m == n) ≡ b → f n ≡ true → (not b || f m) ≡ true
    by_number m true same own = ap f (eqb-true m n same) ∙ own
    by_number m false same own = refl

each_as_groups : (fits : ℕ → Option Cell → Bool) (one other : ℕ → Option Cell) (ns : List ℕ) → each_passes fits one other ns ≡ groups_pass fits (λ n. n) one other ns
each_as_groups fits one other ns =
    tests_alike (λ n. fits n (one n) || fits n (other n)) (λ n. group_passes fits (λ m. m) n one ns || group_passes fits (λ m. m) n other ns) ns
    (λ n is. ap (λ b. b || fits n (other n)) (sym (own_group (λ m. fits m (one m)) n ns is)) ∙ ap (λ b. group_passes fits (λ m. m) n one ns || b) (sym (own_group (λ m. fits m (other m)) n ns is)))

-- states that pass alike
each_alike : (fits : ℕ → Option Cell → Bool) (one other to from : ℕ → Option Cell) (ns : List ℕ) → ((n : ℕ) → IsAmong n ns → fits n (one n) ≡ fits n (to n))
    → ((n : ℕ) → IsAmong n ns → fits n (other n) ≡ fits n (from n)) → each_passes fits one other ns ≡ each_passes fits to from ns
each_alike fits one other to from ns same alike =
    tests_alike (λ n. fits n (one n) || fits n (other n)) (λ n. fits n (to n) || fits n (from n)) ns
    (λ n is. ap (λ b. b || fits n (other n)) (same n is) ∙ ap (λ b. fits n (to n) || b) (alike n is))

-- the lines of words
word_line : (start len : ℕ) (reply : PageReply) → start % 8 ≡ 0 → len ≡ 8 → IsWordReply start reply → lines_read start len reply ≡ start / 64 ∷ []
word_line start len (Shows bytes) place eight told = let one : (start + len - 1) / 64 + 1 - start / 64 ≡ 1 = omega (arith, place, eight) in ap (range_with_len (start / 64)) one
word_line start len (Poison at) place eight told = let one : (start + len - 1) / 64 + 1 - start / 64 ≡ 1 = omega (arith, place, eight) in ap (range_with_len (start / 64)) one
word_line start len (Refuses why) place eight told = absurd told

one_line : (r : PageRead) → IsWordRead r → lines_read r.start r.len r.reply ≡ line_of r ∷ []
one_line r is = word_line r.start r.len r.reply is.place is.eight is.told

word_lines : (rs : List PageRead) → AllByRecursion IsWordRead rs → all_lines_read rs ≡ map line_of rs
word_lines [] each = refl
word_lines (r ∷ rs) each = ap (λ ns. ns ++ all_lines_read rs) (one_line r each.0) ∙ ap (λ ns. line_of r ∷ ns) (word_lines rs each.1)

lines_inside : (pages : List Page) (rs : List PageRead) → AllByRecursion (IsInside pages) rs → (n : ℕ) → IsAmong n (map line_of rs) → n / 64 < length pages
lines_inside pages [] inside n is = absurd is
lines_inside pages (r ∷ rs) inside n (inl same) = subst (λ m. m / 64 < length pages) (sym same) inside.0
lines_inside pages (r ∷ rs) inside n (inr later) = lines_inside pages rs inside.1 n later

-- a read of a word is of its line alone
pub one_alone : OneAlone
one_alone geo r pages is = ap (λ ns. all_pass (line_fits (r ∷ [])) (cell_of pages) (ns ++ [])) (one_line r is) ∙ and_true (fits_alone pages r)
  where
    and_true : (a : Bool) → (a && true) ≡ a
    and_true true = refl
    and_true false = refl

-- Lines as some state has them, each with its words.
module _ (rs : List PageRead) (are : AreWords rs) where
  -- an absent line too may be read so as each read alone may
  fit_alone : (n : ℕ) (o : Option Cell) → HasWords (or_zeros o) → line_fits rs n o ≡ list_all (λ r. line_fits (r ∷ []) n o) rs
  fit_alone n o have =
      fits_seen rs n o ∙ line_alone rs n (or_zeros o) are have
      ∙ tests_same (λ r. cell_fits (r ∷ []) n (or_zeros o)) (λ r. line_fits (r ∷ []) n o) rs (λ r. sym (fits_seen (r ∷ []) n o))

  abbrev AllHave : (ℕ → Option Cell) → Type 0
  AllHave state = (r : PageRead) → IsAmong r rs → HasWords (or_zeros (state (line_of r)))

  module _ (state : ℕ → Option Cell) (have : AllHave state) where
    abbrev all_fit : PageRead → Bool
    all_fit y = line_fits rs (line_of y) (state (line_of y))

    abbrev alone : PageRead → Bool
    alone y = line_fits (y ∷ []) (line_of y) (state (line_of y))

    abbrev of_line : PageRead → PageRead → Bool
    of_line y z = line_fits (z ∷ []) (line_of y) (state (line_of y))

    line_is : (y : PageRead) → IsAmong y rs → all_fit y ≡ list_all (of_line y) rs
    line_is y is = fit_alone (line_of y) (state (line_of y)) (have y is)

    -- the lines of a group
    module _ (group_of : ℕ → ℕ) (k : ℕ) where
      abbrev fits_in : (PageRead → Bool) → PageRead → Bool
      fits_in test y = not (group_of (line_of y) == k) || test y

      -- where all reads fit each line, each alone fits its own
      to_alone : list_all (fits_in all_fit) rs ≡ true → list_all (fits_in alone) rs ≡ true
      to_alone all = all_from (fits_in alone) rs (λ y is. beside_so (not (group_of (line_of y) == k)) (all_fit y) (alone y)
          (λ fit. all_of (of_line y) y rs (sym (line_is y is) ∙ fit) is) (all_of (fits_in all_fit) y rs all is))

      -- each alone fits another's line of the group
      on_line : list_all (fits_in alone) rs ≡ true → (y : PageRead) → IsAmong y rs → (group_of (line_of y) == k) ≡ true → (z : PageRead) → IsAmong z rs → of_line y z ≡ true
      on_line all y is group z among = by_line (line_of z == line_of y) refl
        where
          by_line : (b : Bool) → (line_of z == line_of y) ≡ b → of_line y z ≡ true
          by_line true same =
              let at = eqb-true (line_of z) (line_of y) same in
              let own = all_of (fits_in alone) z rs all among in
              ap (λ n. line_fits (z ∷ []) n (state n)) (sym at) ∙ sym (ap (λ b. not b || alone z) (ap (λ n. group_of n == k) at ∙ group)) ∙ own
          by_line false other =
              fits_seen (z ∷ []) (line_of y) (state (line_of y))
              ∙ other_line z (line_of y) (or_zeros (state (line_of y))) (each_of IsWordRead z rs are.each among) (eqb-false (line_of z) (line_of y) other) (have y is)

      from_alone : list_all (fits_in alone) rs ≡ true → list_all (fits_in all_fit) rs ≡ true
      from_alone all = all_from (fits_in all_fit) rs (λ y is. by_group y is (group_of (line_of y) == k) refl)
        where
          by_group : (y : PageRead) → IsAmong y rs → (b : Bool) → (group_of (line_of y) == k) ≡ b → (not b || all_fit y) ≡ true
          by_group y is true group = line_is y is ∙ all_from (of_line y) rs (on_line all y is group)
          by_group y is false group = refl

      group_alone : group_passes (line_fits rs) group_of k state (map line_of rs) ≡ list_all (fits_in alone) rs
      group_alone =
          list_all-map (λ n. not (group_of n == k) || line_fits rs n (state n)) line_of rs
          ∙ same_test (list_all (fits_in all_fit) rs) (list_all (fits_in alone) rs) to_alone from_alone

    -- all of them
    all_alone : all_pass (line_fits rs) state (map line_of rs) ≡ list_all alone rs
    all_alone = group_alone (λ n. 0) 0

  -- each group in the one state or in the other
  module _ (one other : ℕ → Option Cell) (have : AllHave one) (others : AllHave other) where
    groups_alone : (group_of : ℕ → ℕ) → groups_pass (line_fits rs) group_of one other (map line_of rs)
        ≡ grouped (λ x y. group_of (line_of y) == group_of (line_of x)) (alone one have) (alone other others) rs
    groups_alone group_of =
        list_all-map (λ n. group_passes (line_fits rs) group_of (group_of n) one (map line_of rs) || group_passes (line_fits rs) group_of (group_of n) other (map line_of rs)) line_of rs
        ∙ tests_same (λ x. group_passes (line_fits rs) group_of (group_of (line_of x)) one (map line_of rs) || group_passes (line_fits rs) group_of (group_of (line_of x)) other (map line_of rs))
        (λ x. list_all (fits_in one have group_of (group_of (line_of x)) (alone one have)) rs || list_all (fits_in other others group_of (group_of (line_of x)) (alone other others)) rs) rs
        (λ x. ap (λ b. b || group_passes (line_fits rs) group_of (group_of (line_of x)) other (map line_of rs)) (group_alone one have group_of (group_of (line_of x)))
        ∙ ap (λ b. list_all (fits_in one have group_of (group_of (line_of x)) (alone one have)) rs || b) (group_alone other others group_of (group_of (line_of x))))

    each_line : each_passes (line_fits rs) one other (map line_of rs) ≡ grouped same_line (alone one have) (alone other others) rs
    each_line = each_as_groups (line_fits rs) one other (map line_of rs) ∙ groups_alone (λ n. n)

    either_way : (all_pass (line_fits rs) one (map line_of rs) || all_pass (line_fits rs) other (map line_of rs)) ≡ grouped always (alone one have) (alone other others) rs
    either_way =
        ap (λ b. b || all_pass (line_fits rs) other (map line_of rs)) (all_alone one have) ∙ ap (λ b. list_all (alone one have) rs || b) (all_alone other others)
        ∙ all_together (alone one have) (alone other others) rs

-- a span of no bytes makes nothing durable
nothing_persisted : (n : ℕ) (cell : Cell) → persist_cell 0 0 n cell ≡ cell
nothing_persisted n cell = ap (λ b. cond b (flush_cell cell) cell) (untouched (nat_lt 0 (64 * n + 64)) (nat_lt (64 * n) 0) refl)
  where
    untouched : (a b : Bool) → nat_lt (64 * n) 0 ≡ b → (a && b) ≡ false
    untouched a true is = absurd (omega (arith, ltb-true (64 * n) 0 is))
    untouched true false is = refl
    untouched false false is = refl

-- Lines of the volume, as it is and as a command makes it.
module _ (geo : Geometry) (rs : List PageRead) (pages : List Page) (are : AreWords rs) (there : AreThere pages rs) where
  have_now : AllHave rs are (cell_of pages)
  have_now r is = there.words (line_of r) (each_of (IsInside pages) r rs there.inside is)

  now_alone : all_pass (line_fits rs) (cell_of pages) (map line_of rs) ≡ list_all (fits_alone pages) rs
  now_alone = all_alone rs are (cell_of pages) have_now

  seen_alike : (old new : List Page) (n : ℕ) → seen old n ≡ seen new n → line_fits rs n (cell_of old n) ≡ line_fits rs n (cell_of new n)
  seen_alike old new n same = fits_seen rs n (cell_of old n) ∙ ap (cell_fits rs n) same ∙ sym (fits_seen rs n (cell_of new n))

  synced : (o : Option ℕ) (len : ℕ) → AllHave rs are (cell_of (persist_at o len pages))
      → volume_passes (part_synced_at o len) (line_fits rs) pages (persist_at o len pages) (map line_of rs) ≡ groups_left (part_synced_at o len) (fits_alone pages) (fits_alone (persist_at o len pages)) rs
  synced None len have =
      each_alike (line_fits rs) (cell_of pages) (cell_of (persist 0 0 pages)) (cell_of pages) (cell_of pages) (map line_of rs) (λ n is. refl)
      (λ n is. seen_alike (persist 0 0 pages) pages n (seen-persist 0 0 pages n ∙ nothing_persisted n (seen pages n)))
      ∙ each_line rs are (cell_of pages) (cell_of pages) have_now have
  synced (Some offset) len have = each_line rs are (cell_of pages) (cell_of (persist offset len pages)) have_now have

  module _ (whole : HaveLines pages) where
    have_made : (action : Action) → AllHave rs are (cell_of ((meaning action).volume geo pages))
    have_made action r is = made_has pages whole (line_of r) (have_now r is) geo action (each_of (IsInside pages) r rs there.inside is)

    -- pages that are filled first are seen as they were
    stored : (offset : ℕ) (bytes : List ℕ) → stored_passes offset bytes (line_fits rs) pages (map line_of rs) ≡ grouped same_line (fits_alone pages) (fits_alone (put offset bytes (fill offset (length bytes) pages))) rs
    stored offset bytes =
        let ns = map line_of rs in
        let first = fill offset (length bytes) pages in
        let to = put offset bytes first in
        ap (λ b. all_pass (line_fits rs) (cell_of pages) ns || b)
        (each_alike (line_fits rs) (cell_of first) (cell_of to) (cell_of pages) (cell_of to) ns
        (λ n is. seen_alike first pages n (seen-fill offset (length bytes) pages n whole (lines_inside pages rs there.inside n is))) (λ n is. refl))
        ∙ absorbed (all_pass (line_fits rs) (cell_of pages) ns) (each_passes (line_fits rs) (cell_of pages) (cell_of to) ns)
        (λ all. all_from (λ n. line_fits rs n (cell_of pages n) || line_fits rs n (cell_of to n)) ns
        (λ n is. or_left (line_fits rs n (cell_of pages n)) (line_fits rs n (cell_of to n)) (all_of (λ m. line_fits rs m (cell_of pages m)) n ns all is)))
        ∙ each_line rs are (cell_of pages) (cell_of to) have_now (have_made (VStore offset bytes))

    -- what a command may leave
    left_alone : (action : Action) → volume_passes ((meaning action).volume_left geo) (line_fits rs) pages ((meaning action).volume geo pages) (map line_of rs)
        ≡ groups_left ((meaning action).volume_left geo) (fits_alone pages) (fits_alone ((meaning action).volume geo pages)) rs
    left_alone (VStore offset bytes) = stored offset bytes
    left_alone (VSync offset len) = synced (Some offset) len (have_made (VSync offset len))
    left_alone (VPSync address len) = synced (physical_offset geo address len) len (have_made (VPSync address len))
    left_alone (VDiscard page count) = either_way rs are (cell_of pages) (cell_of ((meaning (VDiscard page count)).volume geo pages)) have_now (have_made (VDiscard page count))
    left_alone (VDiscardIf page count) = groups_alone rs are (cell_of pages) (cell_of ((meaning (VDiscardIf page count)).volume geo pages)) have_now (have_made (VDiscardIf page count)) (λ n. n / 64)
    left_alone (ClearVolume offset) = either_way rs are (cell_of pages) (cell_of ((meaning (ClearVolume offset)).volume geo pages)) have_now (have_made (ClearVolume offset))
    left_alone action = now_alone

-- at rest, each word alone
pub each_alone : EachAlone
each_alone geo rs pages are there =
    ap (all_pass (line_fits rs) (cell_of pages)) (word_lines rs are.each) ∙ now_alone geo rs pages are there
    ∙ tests_alike (fits_alone pages) (λ r. volume_may_pass geo None (line_fits (r ∷ [])) pages (all_lines_read (r ∷ []))) rs
    (λ r is. sym (one_alone geo r pages (each_of IsWordRead r rs are.each is)))

-- inside a command, each group as it was or as the command makes it
pub groups_apart : GroupsAlone
groups_apart geo action rs pages are whole there =
    ap (volume_passes ((meaning action).volume_left geo) (line_fits rs) pages ((meaning action).volume geo pages)) (word_lines rs are.each)
    ∙ left_alone geo rs pages are there whole action
