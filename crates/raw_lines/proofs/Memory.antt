-- What the walks share: one line is taken out of the room, put back, or seen through a `&`. Assumes `Logic`.
use mathlib.Core.Path.{◌≡◌, refl, sym, ap, subst, ◌∙◌}
use Prim.Native.Nat.{ℕ, zero, suc, ◌+◌, ◌*◌, ◌<◌, ◌≤◌}
use native.Mathlib.Omega.{arith}
use mathlib.Core.List.{List, [], ◌∷◌, ◌++◌}
use lib.ListN.{length, take, drop, set, get_or, replicate, take-append-drop, length-take}
use lib.Seq.{drop-cons, set_split}
use seplogic.Ra.Ura.{Ura}
use base.Fraction.{full_share}
use mir.Syntax.{Ty, ty_array}
use mir.Val.{Val}
use base.Logic.{ent, sep, via, snd∗, id⊢}
use base.Fml.{Fml, Lft, ftrue, fsep, fat, froom}
use types.Logic.{Logic, sem}
use types.Kit.{‵, some, ◌⊛◌, ◌$◌, ◌∵◌, !, qed, by, move, keep, drop as skip, use1, use2, pick, split, frame, fsplit, fjoin, rewrite, done}
use denote.Memory.{lone, part_at}
use denote.Steps.{nothing}
use borrow.Table.OneValue.{part_out}
use Rattle.std.specs.Prelude.{Option, Some, None}
use Rattle.raw_lines.specs.Ownership.{Bytes, line_at, line_lent, lines_at, lines_lent}

abbrev pub Line : Type 0
Line = Option (List ℕ)

-- the type of a line's bytes, as the machine sees it
abbrev pub τ : Ty
τ = lone Bytes.mir

pub held_within : {X : Type 0} (cs : List (Option X)) (i : ℕ) (x : X) → get_or cs i None ≡ Some x → i < length cs
held_within [] i x e = cc
held_within (c ∷ cs) zero x e = omega arith
held_within (c ∷ cs) (suc i) x e = omega (arith, held_within cs i x e)

module _ {M : Type 1} {𝓤 : Ura M} (𝓛 : Logic 𝓤) (b : ℕ) where
  open 𝓛 use {H}

  cut : (xs ys : List Line) (o at : ℕ) → at ≡ length xs * 64 + o → ent 𝓤 (sem 𝓛 (lines_at b o (xs ++ ys))) (sep 𝓤 (sem 𝓛 (lines_at b o xs)) (sem 𝓛 (lines_at b at ys)))
  cut [] ys o at e = qed 𝓛 (‵ (lines_at b o ys) ∷ []) ∵ rewrite ! 0 (λ (k : ℕ). ‵ (lines_at b k ys)) {x = at} (omega arith) refl $ nothing ! $ done !
  cut (x ∷ xs) ys o at e = let more : at ≡ suc (length xs) * 64 + o = e in qed 𝓛 (‵ (lines_at b o (x ∷ xs ++ ys)) ∷ []) ∵ fsplit ! $ move ! (1 ∷ []) $
      use1 𝓛 (‵ (lines_at b (o + 64) xs) ⊛ ‵ (lines_at b at ys)) (cut xs ys (o + 64) at (omega arith)) $ split ! $ move ! (2 ∷ 0 ∷ []) $ fjoin ! $ done !

  glue : (xs ys : List Line) (o at : ℕ) → at ≡ length xs * 64 + o → ent 𝓤 (sep 𝓤 (sem 𝓛 (lines_at b o xs)) (sem 𝓛 (lines_at b at ys))) (sem 𝓛 (lines_at b o (xs ++ ys)))
  glue [] ys o at e = qed 𝓛 (‵ ftrue ∷ ‵ (lines_at b at ys) ∷ []) ∵ skip ! $ rewrite ! 0 (λ (k : ℕ). ‵ (lines_at b k ys)) {x = o} (omega arith) refl $ done !
  glue (x ∷ xs) ys o at e = let more : at ≡ suc (length xs) * 64 + o = e in qed 𝓛 (‵ (lines_at b o (x ∷ xs)) ∷ ‵ (lines_at b at ys) ∷ []) ∵ fsplit ! $ move ! (1 ∷ 2 ∷ []) $
      use2 𝓛 (‵ (lines_at b (o + 64) (xs ++ ys))) (glue xs ys (o + 64) at (omega arith)) $ move ! (1 ∷ 0 ∷ []) $ fjoin ! $ done !

  module _ (o : ℕ) (lines : List Line) (i : ℕ) where
    -- the lines but for the i-th
    abbrev pub Besides : Fml
    Besides = fsep (lines_at b o (take i lines)) (lines_at b (i * 64 + o + 64) (drop (suc i) lines))

    before : i ≤ length lines → i * 64 + o ≡ length (take i lines) * 64 + o
    before le = let long : i ≡ length (take i lines) = omega (arith, length-take i lines) in ap (λ k. k * 64 + o) long

    pub line_out : i < length lines → ent 𝓤 (sem 𝓛 (lines_at b o lines)) (sep 𝓤 (sem 𝓛 (line_at b (i * 64 + o) (get_or lines i None))) (sem 𝓛 Besides))
    line_out lt = qed 𝓛 (‵ (lines_at b o lines) ∷ []) ∵
        rewrite ! 0 (λ (l : List Line). ‵ (lines_at b o l)) (sym (take-append-drop i lines) ∙ ap (λ l. take i lines ++ l) (drop-cons lines i None lt)) refl $
        use1 𝓛 (‵ (lines_at b o (take i lines)) ⊛ ‵ (lines_at b (i * 64 + o) (get_or lines i None ∷ drop (suc i) lines))) (cut (take i lines) (get_or lines i None ∷ drop (suc i) lines) o (i * 64 + o) (before (omega arith))) $
        split ! $ move ! (1 ∷ []) $ fsplit ! $ move ! (2 ∷ 1 ∷ []) $ fjoin ! $ move ! (1 ∷ []) $ done !

    pub line_in : i < length lines → (line : Line) → ent 𝓤 (sep 𝓤 (sem 𝓛 (line_at b (i * 64 + o) line)) (sem 𝓛 Besides)) (sem 𝓛 (lines_at b o (set lines i line)))
    line_in lt line = qed 𝓛 (‵ (line_at b (i * 64 + o) line) ∷ ‵ Besides ∷ []) ∵ move ! (1 ∷ []) $ fsplit ! $ move ! (2 ∷ 1 ∷ []) $ fjoin ! $ move ! (1 ∷ 0 ∷ []) $
        use2 𝓛 (‵ (lines_at b o (take i lines ++ line ∷ drop (suc i) lines))) (glue (take i lines) (line ∷ drop (suc i) lines) o (i * 64 + o) (before (omega arith))) $
        rewrite ! 0 (λ (l : List Line). ‵ (lines_at b o l)) (sym (set_split lines i line lt)) refl $ done !

  pub emptied : (line : Line) (o : ℕ) → ent 𝓤 (sem 𝓛 (line_at b o line)) (H.room τ b o)
  emptied None o = 𝓛.laws.raw-room τ b o
  emptied (Some bytes) o = qed 𝓛 (‵ (part_at Bytes full_share bytes b o) ∷ []) ∵
      use1 𝓛 (some (λ (v : Val). ‵ (fat full_share τ b o v) ⊛ ‵ (Bytes.own_val bytes (v ∷ [])))) (part_out 𝓛 Bytes refl full_share bytes b o) $ pick ! (λ v. split ! $
      keep ! (0 ∷ []) $ by ! (𝓛.laws.at_room τ b o v))

  -- room for lines is bare lines, and lines of either kind are room
  pub of_room : (n o : ℕ) → ent 𝓤 (H.room (ty_array τ n) b o) (sem 𝓛 (lines_at b o (replicate n None)))
  of_room zero o = qed 𝓛 (‵ (froom (ty_array τ 0) b o) ∷ []) ∵ keep ! [] $ done !
  of_room (suc n) o = qed 𝓛 (‵ (froom (ty_array τ (suc n)) b o) ∷ []) ∵
      use1 𝓛 (‵ (froom τ b o) ⊛ ‵ (froom (ty_array τ n) b (o + 64))) (𝓛.laws.room_uncons τ n b o) $ split ! $
      use1 𝓛 (‵ (line_at b o None)) (𝓛.laws.room-raw τ b o) $ frame ! $ by ! (of_room n (o + 64))

  pub to_room : (lines : List Line) (o : ℕ) → ent 𝓤 (sem 𝓛 (lines_at b o lines)) (H.room (ty_array τ (length lines)) b o)
  to_room [] o = 𝓛.laws.room_nil τ b o
  to_room (line ∷ lines) o = qed 𝓛 (‵ (line_at b o line) ∷ ‵ (lines_at b (o + 64) lines) ∷ []) ∵
      use1 𝓛 (‵ (froom τ b o)) (emptied line o) $ move ! (1 ∷ []) $
      use1 𝓛 (‵ (froom (ty_array τ (length lines)) b (o + 64))) (to_room lines (o + 64)) $ move ! (1 ∷ []) $ by ! (𝓛.laws.room_cons τ (length lines) b o)

  module _ (κ : Lft) where
    from_on : (lines : List Line) (i o at : ℕ) → i ≤ length lines → at ≡ i * 64 + o → ent 𝓤 (sem 𝓛 (lines_lent b o lines κ)) (sem 𝓛 (lines_lent b at (drop i lines) κ))
    from_on lines zero o at le e = let same : o ≡ at = omega arith in subst (λ k. ent 𝓤 (sem 𝓛 (lines_lent b o lines κ)) (sem 𝓛 (lines_lent b k lines κ))) same (id⊢ 𝓤 _)
    from_on [] (suc i) o at le e = absurd (omega arith)
    from_on (line ∷ lines) (suc i) o at le e =
        via 𝓤 (sem 𝓛 (lines_lent b (o + 64) lines κ)) (snd∗ 𝓤 (sem 𝓛 (line_lent b o line κ)) (sem 𝓛 (lines_lent b (o + 64) lines κ))) (from_on lines i (o + 64) at (omega arith) (omega arith))

    pub line_seen : (o : ℕ) (lines : List Line) (i : ℕ) → i < length lines → ent 𝓤 (sem 𝓛 (lines_lent b o lines κ)) (sem 𝓛 (line_lent b (i * 64 + o) (get_or lines i None) κ))
    line_seen o lines i lt = qed 𝓛 (‵ (lines_lent b o lines κ) ∷ []) ∵ use1 𝓛 (‵ (lines_lent b (i * 64 + o) (drop i lines) κ)) (from_on lines i o (i * 64 + o) (omega arith) refl) $
        rewrite ! 0 (λ (l : List Line). ‵ (lines_lent b (i * 64 + o) l κ)) (drop-cons lines i None lt) refl $ fsplit ! $ keep ! (0 ∷ []) $ done !
