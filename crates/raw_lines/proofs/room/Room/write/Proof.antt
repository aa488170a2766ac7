-- `write` stores the bytes where the line is, over what was there. Assumes `Logic`.
use mathlib.Core.Path.{refl, sym, subst}
use Prim.Native.Nat.{ℕ, ◌+◌, ◌*◌, ◌<◌, ◌^◌}
use native.Mathlib.Omega.{arith}
use mathlib.Core.List.{List, [], ◌∷◌, map}
use lib.ListN.{length, set, get_or, length-set}
use mir.Syntax.{named, w8, w64}
use mir.Val.{Val, vint, vunit}
use base.Fraction.{full_share}
use base.Fml.{ftrue, froom, flft}
use contract.Monad.{fact}
use contract.Running.{tables}
use types.Kit.{‵, raw, ◌⊛◌, at_ret, ◌$◌, ◌∵◌, !, qed, move, keep, use1, use2, split, join, group, fsplit3, feq_i, suffices, frame, done}
use types.Part.{whole, sub, look_in}
use types.Run.{init, stop, fld, load, lit, unit_lit, of_opd, bin, assigns_last, first, blocks, exec, returns, enter}
use types.ByLocal.{alloc_all, pass_all, free_all, look_at, get, through, sets, env}
use denote.Array.{array_val, array_vals, Array-Tells}
use denote.Builtin.{u8, usize}
use denote.Plain.{uint_vals, uint_Tells}
use denote.Ref.{MutRef, mut_vals, mut_Tells}
use denote.Signature.{plain}
use denote.Steps.{nothing, heard}
use denote.Triple.Walked.{Stays, says, stay_dropped, stay_ref, walk_of, ends_at, Goes-dropped, Goes-ref}
use borrow.Table.OneValue.{part_in}
use Rattle.std.proofs.raw_atomic.Walks.{proved}
use Rattle.std.proofs.VecSteps.Shapes.{after}
use Rattle.std.specs.Prelude.{None, Some}
use Rattle.raw_lines.specs.Ownership.{Bytes, line_at, lines_at}
use Rattle.raw_lines.specs.declared.room.Room.{Room}
use Rattle.raw_lines.specs.contracts.room.Room.{the_row as R}
use Rattle.raw_lines.specs.contracts.room.Room.write as f
use Rattle.raw_lines.proofs.Memory.{Besides, emptied, line_in, line_out, τ}
use Rattle.raw_lines.proofs.Opens.{room_closes, room_opens}
use Rattle.raw_lines.proofs.Sharing.{bytes_laws}
use Rattle.raw_lines.proofs.room.Room.write.Statement.{statement}
use Rattle.raw_lines.proofs.room.Room.write.Code as code

abbrev stayed : Stays f.ended.signature.params f.ended.kept
stayed = (stay_ref (0 ∷ []) tt (plain (λ _. R)), (stay_dropped (plain (λ _. usize)) f.ended.kept.1.0, (stay_dropped (plain (λ _. Bytes)) f.ended.kept.1.1.0, tt)))

-- the one machine value of a line's bytes
abbrev value : List ℕ → Val
value x = array_val (map (λ k. vint w8 k) x)

pub write_spec : {M : Type 1} → statement M
write_spec 𝓤 𝓛 𝓜 𝓡 wired =
    let c = f.clauses 𝓛 𝓜.mem 𝓡.returns in let W = walk_of 𝓛 f.ended stayed c in let 𝓣 = tables 𝓤 𝓛.H 𝓜 𝓡 𝓡.env in
    proved 𝓛 f.ended stayed c 𝓜 𝓡
    (Goes-ref 𝓛 1 0 tt (plain (λ _. R)), (Goes-dropped 𝓛 1 (plain (λ _. usize)) f.ended.kept.1.0 (λ κs x w. refl), (Goes-dropped 𝓛 1 (plain (λ _. Bytes)) f.ended.kept.1.1.0 (λ κs x w. refl), tt)))
    f.Key.name code.function (code.unfolded 𝓤 𝓛.H 𝓜 𝓡 wired)
    (λ κs. (mut_vals, (uint_vals w64, (array_vals (uint_vals w8), tt)))) (λ κs. (mut_Tells (named 0) κs.0 R, (uint_Tells w64, (Array-Tells u8 (uint_vals w8) (uint_Tells w8) 64, tt)))) (λ κs qs bounds a _ are.
    let κ = κs.0 in let q = qs.0 in let rb = a.0.ref_ptr.0 in let ro = a.0.ref_ptr.1 in let d : Room = a.0.now in let i = a.1.0 in let x = a.1.1.0 in let v = value x in
    let y : W.Ghost = ((κs, qs, bounds, a, (mut_vals a.0, (uint_vals w64 i, (v ∷ [], tt)))), tt) in
    let good = ((bytes_laws.lawful 𝓛).typed x (v ∷ []) are.1.1.0).0 in
    let new : Room = record { start = d.start; lines = set d.lines i (Some x) } in
    qed 𝓛 (((‵ (flft κ q) ⊛ ‵ ftrue) ⊛ ‵ ((MutRef (named 0) κ R).own_val a.0 (mut_vals a.0)) ⊛ ‵ (usize.own_val i (uint_vals w64 i)) ⊛ ‵ (Bytes.own_val x (v ∷ [])) ⊛ ‵ ftrue) ∷ raw (fact 𝓤 (i < length d.lines)) ∷ []) ∵
    move ! (1 ∷ []) $ heard ! (i < length d.lines) (λ within. split ! $ split ! $ move ! (2 ∷ []) $ split ! $ move ! (1 ∷ []) $ split ! $ move ! (1 ∷ []) $ split ! $ keep ! (3 ∷ 4 ∷ 0 ∷ []) $
    enter ! _ _ _ _ _ $ alloc_all ! (λ l. pass_all ! refl ((tt, tt), ((tt, record { fits = are.1.0.1 }), (good, tt))) $
    fsplit3 ! $ move ! (1 ∷ 2 ∷ 3 ∷ []) $ room_opens ! tt d rb ro (λ b o at small.
    let far : i * 64 < 2 ^ 64 = omega arith in
    use1 𝓛 (‵ (line_at b (i * 64 + o) (get_or d.lines i None)) ⊛ ‵ (Besides 𝓛 b o d.lines i)) (line_out 𝓛 b o d.lines i within) $ split ! $
    use1 𝓛 (‵ (froom τ b (i * 64 + o))) (emptied 𝓛 b (get_or d.lines i None) (i * 64 + o)) $
    -- [the room; the other lines; the pointer; the open borrow; obs; auth; the first part of self; what the bytes own]
    first ! $ blocks ! $
    sets ! (of_opd ! (load ! (through ! refl (fld ! refl (stop !))) (look_in ! 2 (sub ! 0 refl (whole !))))) refl (tt, tt) $
    sets ! (bin ! (get ! refl) (lit ! tt) (record { fits = far })) refl (tt, record { fits = far }) $
    sets ! (bin ! (get ! refl) (get ! refl) tt) refl (tt, tt) $
    assigns_last ! (of_opd ! (get ! refl)) (through ! refl (stop !)) (init ! 0 refl good) $
    exec ! 𝓣.C 𝓣.Λ (env code.Mir.locals l) (after 1 (code.function).body) (at_ret _ (W.post y)) $ sets ! (of_opd ! (unit_lit !)) refl (tt, tt) $
    move ! (0 ∷ 7 ∷ []) $ use2 𝓛 (‵ (line_at b (i * 64 + o) (Some x))) (part_in 𝓛 Bytes refl full_share x b (i * 64 + o) v) $
    use2 𝓛 (‵ (lines_at b o new.lines)) (line_in 𝓛 b o d.lines i within (Some x)) $
    room_closes ! tt new b o rb ro at (subst (λ k. k * 64 < 2 ^ 63) (sym (length-set d.lines i (Some x))) small) $
    -- [obs; the borrow; the token; the first part of self]
    returns ! (look_at ! 0 refl) $ free_all ! refl $ move ! (3 ∷ []) $
    suffices ! _ (ends_at 𝓛 f.ended stayed c y vunit tt (new, (tt, (tt, tt))) (tt, (tt, (tt, tt)))) $ says ! (refl, refl) $
    group ! 3 $ nothing ! $ nothing ! $ join ! $ nothing ! $ join ! $ move ! (1 ∷ 0 ∷ []) $ join ! $ nothing ! $ move ! (2 ∷ 0 ∷ []) $ join ! $ frame ! $ frame ! $
    feq_i ! (List Val) (vunit ∷ []) (vunit ∷ []) refl $ done !))))
