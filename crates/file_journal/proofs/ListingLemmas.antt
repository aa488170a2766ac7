-- Files put in order one after the other.
use Rattle.std.proofs.Common.{◌≡◌, ℕ, suc, ◌+◌, ◌-◌, ◌<◌, ◌≤◌, not, List, [], ◌∷◌, length, drop, position, slice_index_or, Option, Some, None, nat_lt, refl, sym, ap, ◌∙◌, inl, inr, arith}
use Rattle.std.proofs.lemmas.Bool.{cases_Bool, cond-true, cond-false, ltb-false}
use Rattle.std.proofs.lemmas.List.{drop_all, drop_more, take_at}
use Rattle.std.proofs.lemmas.List.Sums.{prefix_len-le-length}
use Rattle.std.specs.List.{insert, position_or_len, refill}
use Rattle.std.specs.Option.{unwrap_or}
use Rattle.nvm_base.specs.declared.files.FileEntry.{FileEntry}
use Rattle.nvm_model.specs.Listing.{in_order, is_before, put_file}
use Rattle.nvm_model.proofs.OrderLemmas.{put-first, put-later}
use Rattle.file_journal.specs.Listing.{entry_name, place_of}

pub position-or_len : {A : Type 0} (p : A → _) (xs : List A) → unwrap_or (position p xs) (length xs) ≡ position_or_len p xs
position-or_len p xs =
    elim (cases_Bool (nat_lt (position_or_len p xs) (length xs))) [
      | inl there ↦ ap (λ o. unwrap_or o (length xs)) (cond-true (nat_lt (position_or_len p xs) (length xs)) _ _ there)
      | inr none ↦
          ap (λ o. unwrap_or o (length xs)) (cond-false (nat_lt (position_or_len p xs) (length xs)) _ _ none)
          ∙ omega (arith, ltb-false (position_or_len p xs) (length xs) none, prefix_len-le-length (λ x. not (p x)) xs)
    ]

pub place_of-low : (name : List ℕ) (files : List FileEntry) → place_of name files ≤ length files
place_of-low name files = prefix_len-le-length (λ (file : FileEntry). not (is_before name file.name)) files

-- a file is put at its place
pub put-at : (x : FileEntry) (ys : List FileEntry) → put_file entry_name x ys ≡ insert ys (place_of x.name ys) x
put-at x [] = refl
put-at x (y ∷ ys) =
    elim (cases_Bool (is_before x.name y.name)) [
      | inl first ↦
          put-first entry_name x y ys first
          ∙ sym (ap (λ k. insert (y ∷ ys) k x) (cond-false (not (is_before x.name y.name)) _ _ (ap not first)))
      | inr later ↦
          let one_more : 1 + place_of x.name ys ≡ suc (place_of x.name ys) = omega arith in
          put-later entry_name x y ys later ∙ ap (λ l. y ∷ l) (put-at x ys)
          ∙ sym (ap (λ k. insert (y ∷ ys) k x) (cond-true (not (is_before x.name y.name)) _ _ (ap not later) ∙ one_more))
    ]

pub refill-all : {A : Type 0} (n : ℕ) (xs ws : List A) → length ws ≡ n → refill n xs ws ≡ ws
refill-all n xs ws all = take_at ws (drop (length ws) xs) n all

next-slot : (files : List (Option FileEntry)) (done : ℕ) → length files ≡ 64 → done < 64
    → in_order entry_name (drop (64 - (done + 1)) files) ≡ in_order entry_name (slice_index_or files (63 - done) None ∷ drop (64 - done) files)
next-slot files done all more =
    let last : 64 - (done + 1) ≡ 63 - done = omega arith in
    let next : 63 - done + 1 ≡ 64 - done = omega (arith, more) in
    ap (λ k. in_order entry_name (drop k files)) last ∙ ap (in_order entry_name) (drop_more files (63 - done) None (omega (arith, all)))
    ∙ ap (λ k. in_order entry_name (slice_index_or files (63 - done) None ∷ drop k files)) next

-- after the last inode
pub in_order-none : (files : List (Option FileEntry)) → length files ≡ 64 → in_order entry_name (drop 64 files) ≡ []
in_order-none files all = ap (in_order entry_name) (drop_all 64 files (omega (arith, all)))

-- one inode more, from the last one down
pub in_order-file : (files : List (Option FileEntry)) (done : ℕ) (file : FileEntry) → length files ≡ 64 → done < 64
    → slice_index_or files (63 - done) None ≡ Some file
    → in_order entry_name (drop (64 - (done + 1)) files) ≡ put_file entry_name file (in_order entry_name (drop (64 - done) files))
in_order-file files done file all more is = next-slot files done all more ∙ ap (λ slot. in_order entry_name (slot ∷ drop (64 - done) files)) is

pub in_order-free : (files : List (Option FileEntry)) (done : ℕ) → length files ≡ 64 → done < 64 → slice_index_or files (63 - done) None ≡ None
    → in_order entry_name (drop (64 - (done + 1)) files) ≡ in_order entry_name (drop (64 - done) files)
in_order-free files done all more is = next-slot files done all more ∙ ap (λ slot. in_order entry_name (slot ∷ drop (64 - done) files)) is
