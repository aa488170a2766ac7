-- `read_mut` lends a line's bytes, and the room follows them. Assumes `Logic`.
use mathlib.Core.Path.{◌≡◌, refl, sym, subst}
use Prim.Native.Nat.{ℕ, ◌+◌, ◌*◌, ◌<◌, ◌^◌}
use native.Mathlib.Omega.{arith}
use mathlib.Core.List.{List, [], ◌∷◌}
use lib.ListN.{length, get_or, length-set}
use seplogic.Ra.Ura.{Ura}
use base.Fraction.{full_share}
use mir.Syntax.{named, w64}
use mir.Val.{Val, vptr}
use base.Logic.{ent, sep}
use base.Fml.{GName, Fml, ftrue, fsep, flft}
use contract.Monad.{fact}
use contract.Running.{tables}
use types.Logic.{Logic, sem}
use types.Kit.{‵, raw, ◌⊛◌, some, later, at_ret, ◌$◌, ◌∵◌, !, qed, move, keep, use1, use2, split, split3, join, group, pick, await, fsplit, fsplit3, fjoin, fpack, rewrite, suffices, frame, done}
use types.Part.{whole, sub, look_in}
use types.Run.{stop, fld, load, addr, lit, of_opd, bin, first, blocks, exec, returns, enter}
use types.ByLocal.{alloc_all, pass_all, free_all, look_at, get, through, sets, sets_last, env}
use denote.Builtin.{usize, RefMutOf}
use denote.Exit.{no}
use denote.Follow.{follows, lends_Part}
use denote.Memory.{cell_at, mem, part_of}
use denote.Plain.{uint_vals, uint_Tells}
use denote.RawPtr.{block_ptr}
use denote.Ref.{MutRef, mut_vals, mut_Tells}
use denote.Signature.{plain}
use denote.Steps.{nothing, heard}
use denote.Triple.Walked.{Stays, says, stay_dropped, walk_of, ends_at, Goes-dropped, Goes-spent_ref}
use Rattle.std.proofs.raw_atomic.Walks.{proved}
use Rattle.std.proofs.RcSteps.{word}
use Rattle.std.proofs.VecSteps.Shapes.{after}
use Rattle.std.specs.Prelude.{None, Some}
use Rattle.raw_lines.specs.Lends.{with_bytes}
use Rattle.raw_lines.specs.Lines.{IsHeld}
use Rattle.raw_lines.specs.Ownership.{Bytes, line_at, lines_at}
use Rattle.raw_lines.specs.declared.room.Room.{Room}
use Rattle.raw_lines.specs.contracts.room.Room.{the_row as R}
use Rattle.raw_lines.specs.contracts.room.Room.read_mut as f
use Rattle.raw_lines.proofs.Memory.{Besides, Line, held_within, line_in, line_out}
use Rattle.raw_lines.proofs.Opens.{room_made, room_opens}
use Rattle.raw_lines.proofs.room.Room.read_mut.Statement.{statement}
use Rattle.raw_lines.proofs.room.Room.read_mut.Code as code

abbrev stayed : Stays f.ended.signature.params f.ended.kept
stayed = (stay_dropped (RefMutOf (0 ∷ []) tt (plain (λ _. R)) (λ _. tt)) no, (stay_dropped (plain (λ _. usize)) f.ended.kept.1.0, tt))

module _ {M : Type 1} {𝓤 : Ura M} (𝓛 : Logic 𝓤) (rb ro b o : ℕ) (d : Room) (i : ℕ) where
  -- all of the room but the bytes of that line
  abbrev Rest : Fml
  Rest = fsep (Besides 𝓛 b o d.lines i) (cell_at full_share R.mir (word (block_ptr b o) ∷ []) rb ro)

  back : d.start ≡ block_ptr b o → length d.lines * 64 < 2 ^ 63 → i < length d.lines → (x : List ℕ)
      → ent 𝓤 (sep 𝓤 (sem 𝓛 ((mem Bytes).own_at x b (i * 64 + o))) (sem 𝓛 Rest)) (sem 𝓛 ((mem R).own_at (with_bytes d i x) rb ro))
  unfolding part_of
  back at small within x = let new = with_bytes d i x in
      qed 𝓛 (‵ (line_at b (i * 64 + o) (Some x)) ∷ ‵ Rest ∷ []) ∵ move ! (1 ∷ []) $ fsplit ! $ move ! (2 ∷ 0 ∷ []) $ use2 𝓛 (‵ (lines_at b o new.lines)) (line_in 𝓛 b o d.lines i within (Some x)) $
      room_made ! new b o at (subst (λ k. k * 64 < 2 ^ 63) (sym (length-set d.lines i (Some x))) small) $ move ! (1 ∷ 0 ∷ []) $ fjoin ! $
      fpack ! (List Val) (λ us. fsep (cell_at full_share R.mir us rb ro) (R.own_val new us)) (word (block_ptr b o) ∷ []) $ done !

pub read_mut_spec : {M : Type 1} → statement M
read_mut_spec 𝓤 𝓛 𝓜 𝓡 wired =
    let c = f.clauses 𝓛 𝓜.mem 𝓡.returns in let W = walk_of 𝓛 f.ended stayed c in let 𝓣 = tables 𝓤 𝓛.H 𝓜 𝓡 𝓡.env in
    proved 𝓛 f.ended stayed c 𝓜 𝓡 (Goes-spent_ref 𝓛 1 (0 ∷ []) tt (plain (λ _. R)), (Goes-dropped 𝓛 1 (plain (λ _. usize)) f.ended.kept.1.0 (λ κs x w. refl), tt))
    f.Key.name code.function (code.unfolded 𝓤 𝓛.H 𝓜 𝓡 wired)
    (λ κs. (mut_vals, (uint_vals w64, tt))) (λ κs. (mut_Tells (named 0) κs.0 R, (uint_Tells w64, tt))) (λ κs qs bounds a _ are.
    let κ = κs.0 in let q = qs.0 in let rb = a.0.ref_ptr.0 in let ro = a.0.ref_ptr.1 in let γ = a.0.ghost_name in let d : Room = a.0.now in let i = a.1.0 in
    let y : W.Ghost = ((κs, qs, bounds, a, (mut_vals a.0, (uint_vals w64 i, tt))), tt) in
    qed 𝓛 (((‵ (flft κ q) ⊛ ‵ ftrue) ⊛ ‵ ((MutRef (named 0) κ R).own_val a.0 (mut_vals a.0)) ⊛ ‵ (usize.own_val i (uint_vals w64 i)) ⊛ ‵ ftrue) ∷ raw (fact 𝓤 (IsHeld d.lines i)) ∷ []) ∵
    move ! (1 ∷ []) $ heard ! (IsHeld d.lines i) (λ held. let x = held.0 in let within = held_within d.lines i x held.1 in
    split ! $ split ! $ move ! (2 ∷ []) $ split ! $ keep ! (0 ∷ 2 ∷ []) $ fsplit3 ! $ keep ! (1 ∷ 2 ∷ 3 ∷ []) $
    enter ! _ _ _ _ _ $ alloc_all ! (λ l. pass_all ! refl ((tt, tt), ((tt, record { fits = are.1.0.1 }), tt)) $
    room_opens ! tt d rb ro (λ b o at small.
    let far : i * 64 < 2 ^ 64 = omega arith in let offset = i * 64 + o in
    use1 𝓛 (‵ (line_at b offset (get_or d.lines i None)) ⊛ ‵ (Besides 𝓛 b o d.lines i)) (line_out 𝓛 b o d.lines i within) $ split ! $
    rewrite ! 0 (λ (line : Line). ‵ (line_at b offset line)) held.1 refl $
    -- [the bytes; the other lines; the pointer; the open borrow; obs; auth]
    first ! $ blocks ! $
    sets ! (of_opd ! (load ! (through ! refl (fld ! refl (stop !))) (look_in ! 2 (sub ! 0 refl (whole !))))) refl (tt, tt) $
    sets ! (bin ! (get ! refl) (lit ! tt) (record { fits = far })) refl (tt, record { fits = far }) $
    sets ! (bin ! (get ! refl) (get ! refl) tt) refl (tt, tt) $
    sets_last ! (addr ! (through ! refl (stop !))) refl (tt, tt) $
    exec ! 𝓣.C 𝓣.Λ (env code.Mir.locals l) (after 1 (code.function).body) (at_ret _ (W.post y)) $
    sets ! (of_opd ! (get ! refl)) refl (tt, tt) $
    move ! (1 ∷ 2 ∷ []) $ fjoin ! $ move ! (2 ∷ 3 ∷ 4 ∷ 1 ∷ 0 ∷ []) $ group ! 5 $
    let way = back 𝓛 rb ro b o d i at small within in
    use1 𝓛 (later (some (λ (δ : GName). ‵ ((MutRef (named 0) κ Bytes).own_val (record { ref_ptr = (b, offset); ghost_name = δ; now = x }) (vptr b offset ∷ [])) ⊛ ‵ (flft κ q) ⊛ ‵ (follows R Bytes γ δ (with_bytes d i)))))
    (lends_Part 𝓛 R Bytes (with_bytes d i) (named 0) κ q rb ro b offset γ (sem 𝓛 (Rest 𝓛 rb ro b o d i)) way (R.coded.code d) (R.coded.code d) x) $ await ! tt $ pick ! (λ δ. split3 ! $
    returns ! (look_at ! 0 refl) $ free_all ! refl $
    suffices ! _ (ends_at 𝓛 f.ended stayed c y (vptr b offset) (record { ref_ptr = (b, offset); ghost_name = δ; now = x }) (tt, (tt, tt)) (tt, (tt, tt))) $
    nothing ! $ nothing ! $ fjoin ! $ nothing ! $ fjoin ! $ join ! $ nothing ! $ move ! (2 ∷ 0 ∷ []) $ join ! $ join ! $ frame ! $ says ! held.1 $ done !)))))
