-- `forget` leaves room where the line is. Assumes `Logic`.
use mathlib.Core.Path.{refl, sym, subst}
use Prim.Native.Nat.{◌+◌, ◌*◌, ◌<◌, ◌^◌}
use mathlib.Core.List.{List, [], ◌∷◌}
use lib.ListN.{length, set, get_or, length-set}
use mir.Syntax.{named, w64}
use mir.Val.{Val, vunit}
use base.Fml.{ftrue, froom, flft}
use contract.Monad.{fact}
use types.Kit.{‵, raw, ◌⊛◌, ◌$◌, ◌∵◌, !, qed, move, keep, use1, use2, split, join, group, fsplit3, feq_i, suffices, frame, done}
use types.Run.{unit_lit, of_opd, returns, enter}
use types.ByLocal.{alloc_all, pass_all, free_all, look_at, sets}
use denote.Builtin.{usize}
use denote.Plain.{uint_vals, uint_Tells}
use denote.Ref.{MutRef, mut_vals, mut_Tells}
use denote.Signature.{plain}
use denote.Steps.{nothing, heard}
use denote.Triple.Walked.{Stays, says, stay_dropped, stay_ref, walk_of, ends_at, Goes-dropped, Goes-ref}
use Rattle.std.proofs.raw_atomic.Walks.{proved}
use Rattle.std.specs.Prelude.{None}
use Rattle.raw_lines.specs.Ownership.{line_at, lines_at}
use Rattle.raw_lines.specs.declared.room.Room.{Room}
use Rattle.raw_lines.specs.contracts.room.Room.{the_row as R}
use Rattle.raw_lines.specs.contracts.room.Room.forget as f
use Rattle.raw_lines.proofs.Memory.{Besides, emptied, line_in, line_out, τ}
use Rattle.raw_lines.proofs.Opens.{room_closes, room_opens}
use Rattle.raw_lines.proofs.room.Room.forget.Statement.{statement}
use Rattle.raw_lines.proofs.room.Room.forget.Code as code

abbrev stayed : Stays f.ended.signature.params f.ended.kept
stayed = (stay_ref (0 ∷ []) tt (plain (λ _. R)), (stay_dropped (plain (λ _. usize)) f.ended.kept.1.0, tt))

pub forget_spec : {M : Type 1} → statement M
forget_spec 𝓤 𝓛 𝓜 𝓡 wired =
    let c = f.clauses 𝓛 𝓜.mem 𝓡.returns in let W = walk_of 𝓛 f.ended stayed c in
    proved 𝓛 f.ended stayed c 𝓜 𝓡 (Goes-ref 𝓛 1 0 tt (plain (λ _. R)), (Goes-dropped 𝓛 1 (plain (λ _. usize)) f.ended.kept.1.0 (λ κs x w. refl), tt))
    f.Key.name code.function (code.unfolded 𝓤 𝓛.H 𝓜 𝓡 wired)
    (λ κs. (mut_vals, (uint_vals w64, tt))) (λ κs. (mut_Tells (named 0) κs.0 R, (uint_Tells w64, tt))) (λ κs qs bounds a _ are.
    let κ = κs.0 in let q = qs.0 in let rb = a.0.ref_ptr.0 in let ro = a.0.ref_ptr.1 in let d : Room = a.0.now in let i = a.1.0 in
    let y : W.Ghost = ((κs, qs, bounds, a, (mut_vals a.0, (uint_vals w64 i, tt))), tt) in
    let new : Room = record { start = d.start; lines = set d.lines i None } in
    qed 𝓛 (((‵ (flft κ q) ⊛ ‵ ftrue) ⊛ ‵ ((MutRef (named 0) κ R).own_val a.0 (mut_vals a.0)) ⊛ ‵ (usize.own_val i (uint_vals w64 i)) ⊛ ‵ ftrue) ∷ raw (fact 𝓤 (i < length d.lines)) ∷ []) ∵
    move ! (1 ∷ []) $ heard ! (i < length d.lines) (λ within. split ! $ split ! $ move ! (2 ∷ []) $ split ! $ keep ! (0 ∷ 2 ∷ []) $
    enter ! _ _ _ _ _ $ alloc_all ! (λ l. pass_all ! refl ((tt, tt), ((tt, record { fits = are.1.0.1 }), tt)) $
    fsplit3 ! $ move ! (1 ∷ 2 ∷ 3 ∷ []) $ room_opens ! tt d rb ro (λ b o at small.
    use1 𝓛 (‵ (line_at b (i * 64 + o) (get_or d.lines i None)) ⊛ ‵ (Besides 𝓛 b o d.lines i)) (line_out 𝓛 b o d.lines i within) $ split ! $
    use1 𝓛 (‵ (froom τ b (i * 64 + o))) (emptied 𝓛 b (get_or d.lines i None) (i * 64 + o)) $
    use1 𝓛 (‵ (line_at b (i * 64 + o) None)) (𝓛.laws.room-raw τ b (i * 64 + o)) $
    use2 𝓛 (‵ (lines_at b o new.lines)) (line_in 𝓛 b o d.lines i within None) $
    room_closes ! tt new b o rb ro at (subst (λ k. k * 64 < 2 ^ 63) (sym (length-set d.lines i None)) small) $
    -- [obs; the borrow; the token; the first part of self]
    sets ! (of_opd ! (unit_lit !)) refl (tt, tt) $ returns ! (look_at ! 0 refl) $ free_all ! refl $ move ! (3 ∷ []) $
    suffices ! _ (ends_at 𝓛 f.ended stayed c y vunit tt (new, (tt, tt)) (tt, (tt, tt))) $ says ! (refl, refl) $
    group ! 3 $ nothing ! $ nothing ! $ join ! $ move ! (1 ∷ 0 ∷ []) $ join ! $ nothing ! $ move ! (2 ∷ 0 ∷ []) $ join ! $ frame ! $ frame ! $
    feq_i ! (List Val) (vunit ∷ []) (vunit ∷ []) refl $ done !))))
