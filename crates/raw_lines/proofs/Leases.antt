-- The block of a room as the allocator sees it, and the machine values of a room and a lease. Assumes `Logic`.
use mathlib.Core.Path.{◌≡◌, refl, ap, ◌∙◌}
use Prim.Native.Nat.{ℕ, ◌*◌, ◌<◌, ◌^◌}
use mathlib.Core.List.{List, [], ◌∷◌, ◌++◌}
use seplogic.Ra.Ura.{Ura}
use mir.Syntax.{Ty, ty_array}
use mir.Raw.{raw}
use mir.Val.{Val, vstruct, vcons, vnil, of_list}
use prog.Capped.{capped_is}
use prog.Memory.{align, capped, size}
use prog.RawLaws.{align-raw, size-raw}
use base.Fml.{Fml}
use base.Logic.{ent, emp, sep}
use types.Logic.{Logic, sem}
use types.Kit.{‵, ◌$◌, ◌∵◌, !, qed, move, fjoin, fpack, feq_i, done}
use denote.RattleType.{RattleType, Valss}
use denote.Shadow.{makes_shadow, shadow}
use denote.Steps.{nothing}
use denote.Struct.Declared.{shape}
use denote.Struct.Struct.{Struct, within}
use denote.Struct.Tuple.{Tuple, tuple_type}
use Rattle.raw_lines.proofs.Memory.{τ}

-- the type that room for n lines is allocated for
abbrev pub block : ℕ → Ty
block n = raw (ty_array τ n)

pub block_size : (n : ℕ) → n * 64 < 2 ^ 64 → capped (size (block n)) ≡ n * 64
block_size n fits = ap capped (size-raw (ty_array τ n)) ∙ capped_is (n * 64) fits

pub block_align : (n : ℕ) → capped (align (block n)) ≡ 1
block_align n = ap capped (align-raw (ty_array τ n))

-- a struct by its fields alone: what it owns does not read its name
abbrev plainly : List RattleType → RattleType
plainly Rs = Struct (record { name = []; args = []; types = []; fields = Rs })

abbrev pub mark : Val
mark = vstruct (vcons (vstruct vnil) vnil)

-- what a lease owns but for the token
abbrev pub mark_own : List Val → Fml
mark_own = (plainly (plainly [] ∷ [])).own_val (tt, tt)

pub mark_told : (vs : List Val) → shadow (mark_own vs) → vs ≡ mark ∷ []
mark_told vs s = s.1.0 ∙ (λ i. vstruct (of_list (s.1.1.0.1.0 i ++ [])) ∷ [])

pub mark_made : {M : Type 1} {𝓤 : Ura M} (𝓛 : Logic 𝓤) → ent 𝓤 (emp 𝓤) (sem 𝓛 (mark_own (mark ∷ [])))
mark_made 𝓛 = makes_shadow 𝓛 (mark_own (mark ∷ [])) (λ _. (tt, ((λ _. (tt, tt)), tt))) ((vstruct vnil ∷ [], tt), (refl, ((tt, (refl, tt)), tt)))

abbrev pub pair_val : Val → Val → Val
pair_val u v = vstruct (vcons u (vcons v vnil))

-- a pair of the rows S and T, at one machine value each
pub pair_of : {M : Type 1} {𝓤 : Ura M} (𝓛 : Logic 𝓤) (S T : RattleType) (x : S.Denot) (y : T.Denot) (u v : Val)
    → ent 𝓤 (sep 𝓤 (sem 𝓛 (S.own_val x (u ∷ []))) (sem 𝓛 (T.own_val y (v ∷ [])))) (sem 𝓛 ((Tuple (S ∷ T ∷ [])).own_val (x, y) (pair_val u v ∷ [])))
pair_of 𝓛 S T x y u v =
    qed 𝓛 (‵ (S.own_val x (u ∷ [])) ∷ ‵ (T.own_val y (v ∷ [])) ∷ []) ∵ nothing ! $ move ! (2 ∷ 0 ∷ []) $ fjoin ! $ move ! (1 ∷ 0 ∷ []) $ fjoin ! $ feq_i ! (List Val) (pair_val u v ∷ []) (pair_val u v ∷ []) refl $ fjoin ! $
    fpack ! (Valss (S ∷ T ∷ [])) (within (shape (tuple_type (S ∷ T ∷ []))) (x, (y, tt)) (pair_val u v ∷ [])) (u ∷ [], (v ∷ [], tt)) $ done !
