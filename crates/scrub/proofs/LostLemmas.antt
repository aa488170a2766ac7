-- Blocks of which a media error took a line.
use Rattle.std.proofs.Common.{◌≡◌, ◌+◌, ◌*◌, ◌/◌, ◌<◌, ◌≤◌, ◌==◌, ℕ, zero, suc, true, false, if◌then◌else◌, Some, None, List, [], ◌∷◌, map, slice_get, inl, inr, refl, sym, ap, ap₂, subst, ◌∙◌, arith}
use Rattle.std.proofs.lemmas.Bool.{cases_eq, eq-eqb, ne_eqb}
use Rattle.std.proofs.lemmas.Option.{same_Some}
use Rattle.line_device.specs.Medium.{Medium, WritesBack, poisoned, last_image}
use Rattle.word_tables.specs.Layout.{block_line}
use Rattle.block_map.specs.declared.state.BlockState.{BlockState}
use Rattle.block_map.specs.declared.state.BlockState.TheVariants as state
use Rattle.nvm_model.specs.Numbered.{list_from, map_from}
use Rattle.nvm_model.specs.Storage.Block.{Data}
use Rattle.nvm_model.specs.Blocks.{lose, lose_line_of, lose_line}
use Rattle.nvm_model.proofs.MediaLemmas.{cell_stands-poisoned}
use Rattle.block_device.specs.Reading.{block_read, byte_of, line_read}
use Rattle.block_device.specs.Object.{BlocksServe, BlocksState, blocks_of}
use Rattle.block_device.proofs.PlaceLemmas.{data_on_device}
use Rattle.block_device.proofs.ReadLemmas.{Stays, block_read-same, line_read-same, newest-stays}
use Rattle.scrub.specs.Lines.{IsLineOf}
use Rattle.scrub.specs.Others.{WritesBackBut}
use Rattle.scrub.proofs.OthersLemmas.{but-renewed, but-wider, stays-but}
use Rattle.scrub.proofs.UnitLemmas.{unit_line, unit_of}

-- lists whose items are changed by number
mapped : {A B : Type 0} (f g : A → B) (h : ℕ → B → B) (n : ℕ) (xs : List A) → ((i : ℕ) (x : A) → slice_get xs i ≡ Some x → g x ≡ h (n + i) (f x)) → map g xs ≡ map_from h n (map f xs)
mapped f g h n [] each = refl
mapped f g h n (x ∷ xs) each =
    let e : n + 0 ≡ n = omega arith in
    ap₂ ◌∷◌ (each 0 x refl ∙ ap (λ k. h k (f x)) e)
    (mapped f g h (suc n) xs (λ i y is. let e2 : n + suc i ≡ suc n + i = omega arith in each (suc i) y is ∙ ap (λ k. h k (f y)) e2))

list_from-mapped : {A : Type 0} (f g : ℕ → A) (h : ℕ → A → A) (a b count : ℕ) → ((k : ℕ) → k < count → g (a + k) ≡ h (b + k) (f (a + k))) → list_from g a count ≡ map_from h b (list_from f a count)
list_from-mapped f g h a b zero each = refl
list_from-mapped f g h a b (suc count) each =
    let e : a + 0 ≡ a = omega arith in
    let e2 : b + 0 ≡ b = omega arith in
    ap₂ ◌∷◌ (sym (ap g e) ∙ each 0 (omega arith) ∙ ap₂ (λ i j. h i (f j)) e2 e)
    (list_from-mapped f g h (suc a) (suc b) count
    (λ k less.
    let e3 : suc a + k ≡ a + suc k = omega arith in
    let e4 : b + suc k ≡ suc b + k = omega arith in
    ap g e3 ∙ each (suc k) (omega arith) ∙ ap₂ (λ i j. h i (f j)) e4 (sym e3)))

pub lost-on_device : (s : BlocksState) (m : Medium) (block line n : ℕ) → BlocksServe s m → line < 8 → IsLineOf s block line n → n < m.count
lost-on_device s m block line n serves small of =
    let has = (unit_line s.geo of.unit line n serves.valid (unit_of s block of.unit serves.all serves.is_map of.at) small of.is).0 in
    omega (arith, data_on_device s.geo serves.valid n has, serves.count)

module _ (s : BlocksState) (old new : Medium) (block line n : ℕ) (serves : BlocksServe s old) (small : line < 8) (of : IsLineOf s block line n) (x : WritesBack (poisoned old n) new) where
  others : WritesBackBut (λ k. k ≡ n) old new
  others = but-renewed old new n true false (λ _. []) x

  pub lost-outside : WritesBackBut (IsLineOf s block line) old new
  lost-outside = but-wider (λ k. k ≡ n) (IsLineOf s block line) old new (λ k same. subst (IsLineOf s block line) (sym same) of) others

  -- the lines of the block, and of the others
  a_line : (k : ℕ) → line_read new.is_bad (last_image new) (block_line s.geo of.unit + k) ≡ (if (0 + k) == line then None else line_read old.is_bad (last_image old) (block_line s.geo of.unit + k))
  a_line k =
      let first = block_line s.geo of.unit in
      elim (cases_eq k line) as (λ _. line_read new.is_bad (last_image new) (first + k) ≡ (if (0 + k) == line then None else line_read old.is_bad (last_image old) (first + k))) [
        | inl same ↦
            let there : first + k ≡ n = omega (arith, same, of.is) in
            ap (λ b. if b then None else Some (list_from (byte_of (last_image new)) (64 * (first + k)) 64)) (ap new.is_bad there ∙ cell_stands-poisoned old new n x)
            ∙ sym (ap (λ b. if b then None else line_read old.is_bad (last_image old) (first + k)) (eq-eqb (0 + k) line (omega (arith, same))))
        | inr apart ↦
            let out : first + k ≡ n → ⊥ = λ there. apart (omega (arith, there, of.is)) in
            let stays = stays-but (λ l. l ≡ n) old new (first + k) others out in
            line_read-same old.is_bad new.is_bad (last_image old) (last_image new) (first + k) stays.bad (λ p is _. newest-stays old new p (subst (Stays old new) (sym is) stays))
            ∙ sym (ap (λ b. if b then None else line_read old.is_bad (last_image old) (first + k)) (ne_eqb (0 + k) line (λ same. apart (omega (arith, same)))))
      ]

  each_block : (i : ℕ) (st : BlockState) → slice_get s.map i ≡ Some st
      → block_read s.geo new.is_bad (last_image new) st ≡ lose_line_of block line (0 + i) (block_read s.geo old.is_bad (last_image old) st)
  each_block i st is =
      let read = block_read s.geo old.is_bad (last_image old) in
      let now = block_read s.geo new.is_bad (last_image new) in
      elim (cases_eq i block) as (λ _. now st ≡ lose_line_of block line (0 + i) (read st)) [
        | inl same ↦
            let here : st ≡ state.At of.unit = same_Some st (state.At of.unit) (sym is ∙ ap (slice_get s.map) same ∙ of.at) in
            ap now here
            ∙ ap Data (list_from-mapped (line_read old.is_bad (last_image old)) (line_read new.is_bad (last_image new)) (λ k bytes. if k == line then None else bytes) (block_line s.geo of.unit) 0 8 (λ k _. a_line k))
            ∙ sym (ap (λ b. if b then lose_line line (read st) else read st) (eq-eqb (0 + i) block (omega (arith, same))) ∙ ap (λ t. lose_line line (read t)) here)
        | inr apart ↦
            let out : (unit l : ℕ) → st ≡ state.At unit → block_line s.geo unit ≤ l → l < block_line s.geo unit + 8 → l ≡ n → ⊥ = λ unit l at from to there.
            let beside : unit ≡ of.unit → ⊥ = λ one. apart (serves.is_map.apart i block of.unit (is ∙ ap Some (at ∙ ap state.At one)) of.at) in
            omega (arith, from, to, there, of.is, small, beside) in
            block_read-same s.geo old.is_bad new.is_bad (last_image old) (last_image new) st
            (λ unit l at from to. others.bad l (out unit l at from to))
            (λ unit p at from to _. newest-stays old new p (stays-but (λ k. k ≡ n) old new (p / 8) others (out unit (p / 8) at from to)))
            ∙ sym (ap (λ b. if b then lose_line line (read st) else read st) (ne_eqb (0 + i) block (λ same. apart (omega (arith, same)))))
      ]

  pub lost-blocks : blocks_of s new ≡ lose block line (blocks_of s old)
  unfolding lose
  lost-blocks =
      mapped (block_read s.geo old.is_bad (last_image old)) (block_read s.geo new.is_bad (last_image new)) (lose_line_of block line) 0 s.map each_block
