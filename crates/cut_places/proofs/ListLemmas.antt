-- Files and mappings that are looked for, put and removed in the lists that are held.
use Rattle.std.proofs.Common.{◌≡◌, ℕ, suc, ◌+◌, ◌<◌, ◌==◌, Bool, true, false, cond, not, List, [], ◌∷◌, length, drop, map, position, Some, None, slice_index_or, refl, sym, ap, ◌∙◌, inl, inr, arith}
use Rattle.std.specs.List.{filter, insert, position_or_len}
use Rattle.std.specs.Option.{unwrap_or}
use Rattle.std.proofs.lemmas.Bool.{cases_Bool, cond-true, cond-false}
use Rattle.std.proofs.lemmas.List.{drop_more}
use Rattle.nvm_model.specs.Listing.{file_of, is_before, is_named, put_file, without_file}
use Rattle.nvm_model.specs.Mappings.{mapping_of, without_mapping}
use Rattle.nvm_model.proofs.OrderLemmas.{put-first, put-later}
use Rattle.file_journal.proofs.ListingLemmas.{position-or_len}
use Rattle.cut_places.specs.declared.map.MapSeen.{MapSeen}
use Rattle.cut_places.specs.Maps.{mapping_held}
use Rattle.cut_places.specs.FilesState.{FileState, name_seen}

-- a file is put before the first that its name comes before, or at the end
abbrev pub place : List ℕ → List FileState → ℕ
place name files = unwrap_or (position (λ (file : FileState). is_before name (name_seen file)) files) (length files)

at_place : (x : FileState) (ys : List FileState) → put_file name_seen x ys ≡ insert ys (position_or_len (λ (file : FileState). is_before x.name (name_seen file)) ys) x
at_place x [] = refl
at_place x (y ∷ ys) =
    elim (cases_Bool (is_before x.name y.name)) [
      | inl first ↦
          put-first name_seen x y ys first
          ∙ sym (ap (λ k. insert (y ∷ ys) k x) (cond-false (not (is_before x.name y.name)) _ _ (ap not first)))
      | inr later ↦
          let one_more : 1 + position_or_len (λ (file : FileState). is_before x.name (name_seen file)) ys ≡ suc (position_or_len (λ (file : FileState). is_before x.name (name_seen file)) ys) = omega arith in
          put-later name_seen x y ys later ∙ ap (λ l. y ∷ l) (at_place x ys)
          ∙ sym (ap (λ k. insert (y ∷ ys) k x) (cond-true (not (is_before x.name y.name)) _ _ (ap not later) ∙ one_more))
    ]

pub put_at : (x : FileState) (ys : List FileState) → insert ys (place x.name ys) x ≡ put_file name_seen x ys
put_at x ys = ap (λ k. insert ys k x) (position-or_len (λ (file : FileState). is_before x.name (name_seen file)) ys) ∙ sym (at_place x ys)

-- where there is no file of a name, none is removed
pub without_missing : (text : List ℕ) (files : List FileState) → None ≡ file_of name_seen text files → files ≡ without_file name_seen text files
without_missing text [] none = refl
without_missing text (x ∷ files) none = by_test (is_named name_seen text x) none (without_missing text files)
  where
    by_test : (b : Bool) → None ≡ cond b (Some x) (file_of name_seen text files) → (None ≡ file_of name_seen text files → files ≡ without_file name_seen text files)
        → x ∷ files ≡ cond (not b) (x ∷ without_file name_seen text files) (without_file name_seen text files)
    by_test true is rest = cc is
    by_test false is rest = ap (λ l. x ∷ l) (rest is)

-- the mapping of a handle
pub found_here : (maps : List MapSeen) (i handle : ℕ) (d m : MapSeen) → i < length maps → m ≡ slice_index_or maps i d → m.handle ≡ handle
    → Some (mapping_held m) ≡ mapping_of handle (map mapping_held (drop i maps))
found_here maps i handle d m lt is same =
    ap (λ (x : MapSeen). Some (mapping_held x)) is ∙ sym (cond-true (handle == (slice_index_or maps i d).handle) _ _ (same_handle handle (slice_index_or maps i d).handle (sym same ∙ ap (λ (x : MapSeen). x.handle) is)))
    ∙ sym (ap (λ ms. mapping_of handle (map mapping_held ms)) (drop_more maps i d lt))
  where
    same_handle : (a b : ℕ) → a ≡ b → (a == b) ≡ true
    same_handle a b e = grind arith

pub found_later : (maps : List MapSeen) (i handle : ℕ) (d m : MapSeen) → i < length maps → m ≡ slice_index_or maps i d → (m.handle ≡ handle → ⊥)
    → mapping_of handle (map mapping_held (drop i maps)) ≡ mapping_of handle (map mapping_held (drop (i + 1) maps))
found_later maps i handle d m lt is other =
    ap (λ ms. mapping_of handle (map mapping_held ms)) (drop_more maps i d lt)
    ∙ cond-false (handle == (slice_index_or maps i d).handle) _ _ (not_same handle (slice_index_or maps i d).handle (λ e. other (ap (λ (x : MapSeen). x.handle) is ∙ sym e)))
  where
    not_same : (a b : ℕ) → (a ≡ b → ⊥) → (a == b) ≡ false
    not_same a b apart = grind arith

pub maps_left : (handle : ℕ) (maps : List MapSeen) → map mapping_held (filter (λ (m : MapSeen). not (m.handle == handle)) maps) ≡ without_mapping handle (map mapping_held maps)
maps_left handle [] = refl
maps_left handle (m ∷ maps) = by_test (m.handle == handle) (handle == m.handle) (both_same m.handle handle) (maps_left handle maps)
  where
    both_same : (a b : ℕ) → (a == b) ≡ (b == a)
    both_same a b = grind arith

    by_test : (s t : Bool) → s ≡ t → map mapping_held (filter (λ (n : MapSeen). not (n.handle == handle)) maps) ≡ without_mapping handle (map mapping_held maps)
        → map mapping_held (cond (not s) (m ∷ filter (λ (n : MapSeen). not (n.handle == handle)) maps) (filter (λ (n : MapSeen). not (n.handle == handle)) maps))
        ≡ cond (not t) (mapping_held m ∷ without_mapping handle (map mapping_held maps)) (without_mapping handle (map mapping_held maps))
    by_test true true same rest = rest
    by_test true false same rest = cc same
    by_test false true same rest = cc same
    by_test false false same rest = ap (λ l. mapping_held m ∷ l) rest
