-- `allocate` makes bare lines of the new block, and keeps the right to free it. Assumes `Logic`.
use mathlib.Core.Path.{refl, sym, subst}
use mathlib.Core.Bool.{true, false}
use Prim.Native.Nat.{◌*◌, ◌<◌, ◌^◌}
use native.Mathlib.Omega.{arith}
use mathlib.Core.List.{[], ◌∷◌}
use lib.Dec.{lit<}
use lib.ListN.{length-replicate, replicate}
use mir.Syntax.{Args, Body, Fn, a_type, dcons, dnil, named, ty_array, w64}
use mir.MapTy.{inst_fn}
use mir.Val.{Val, vcons, vnil, vstruct}
use base.Logic.{SProp}
use base.Fml.{ftrue, flft}
use prog.Wp.{Env, Wp, after_seq, at_return}
use contract.BorrowLft.{◌⊑◌, ⊑_trans}
use contract.Monad.{fact}
use contract.Running.{tables}
use types.Kit.{Post as After, any_q, ‵, raw, ◌⊛◌, later, at_ret, ◌$◌, ◌∵◌, !, qed, move, keep, drop, use0, use1, use2, split, join, fsplit, fjoin, suffices, frame, await, done}
use types.Part.{whole, agg}
use types.Match.{live, vrt, in_variant}
use types.Run.{stop, fld, lit, of_opd, bin, and_then, no_more, first, switches_on, exec, returns, enter}
use types.ByLocal.{alloc_all, pass_all, free_all, look_at, get, get_in, get_tag, sets, sets_last, lands_as, env}
use denote.Builtin.{usize, RefOf}
use denote.Laws.{Is}
use denote.Param.{bounded, layout, param}
use denote.Plain.{uint_vals, uint_Tells}
use denote.RattleType.{RattleType}
use denote.RawPtr.{Ptr, block_ptr}
use denote.Ref.{ShrRef, shr_vals, shr_Tells}
use denote.Signature.{plain}
use denote.Steps.{nothing, heard, owned}
use denote.Struct.Declared as Declared
use denote.Struct.Struct.{Struct, Struct-Makes}
use denote.Struct.Tuple.{Tuple}
use denote.Triple.Call.{calls_at}
use denote.Triple.Table.{framed}
use denote.Triple.Walked.{Stays, says, stay_dropped, walk_of, ends_at, Goes-dropped}
use Rattle.std.proofs.alloc.Calls.{Al, Answer-typed, Answered, Takes, Takes-gives, Takes-goes, answers, at_takes}
use Rattle.std.proofs.raw_atomic.Walks.{proved}
use Rattle.std.proofs.RawLayout.{as_written}
use Rattle.std.proofs.RcSteps.{Good, first_Good, word}
use Rattle.std.proofs.ResultValues.{err_of, ok_of}
use Rattle.std.proofs.VecSteps.Shapes.{after, arm_body, head}
use Rattle.std.specs.Prelude.{Err, None, Ok}
use Rattle.std.specs.contracts.alloc.AllocError as AE
use Rattle.std.specs.contracts.result.Result as RS
use Rattle.raw_lines.specs.Ownership.{lines_at}
use Rattle.raw_lines.specs.declared.room.Room.{Room}
use Rattle.raw_lines.specs.contracts.room.Lease as lease_type
use Rattle.raw_lines.specs.contracts.room.Room.{the_row as R}
use Rattle.raw_lines.specs.contracts.block.allocate as f
use Rattle.raw_lines.proofs.Leases.{block, block_align, block_size, mark, mark_made, mark_own, pair_of, pair_val}
use Rattle.raw_lines.proofs.Memory.{of_room, τ}
use Rattle.raw_lines.proofs.Opens.{room_made}
use Rattle.raw_lines.proofs.block.allocate.Statement.{statement}
use Rattle.raw_lines.proofs.block.allocate.Code as code

pub allocate_spec : {M : Type 1} → statement M
allocate_spec 𝓤 𝓛 𝓜 𝓡 wired A L g d dd met md =
    let H = 𝓛.H in let P : RattleType = param 0 A in let En₀ = f.ended A g d dd in let c = f.clauses A g d dd 𝓛 𝓜.mem 𝓡.returns in
    let Z : Al = record { row = A; laws = L; g = g; d = d; drops = dd } in
    let args : Args = bounded (a_type ∷ []) (A, tt) (dcons d (dcons dd dnil)) in let fn : Fn = inst_fn args code.function in
    let 𝓣 = tables 𝓤 H 𝓜 𝓡 𝓡.env in
    let handle = RefOf (0 ∷ []) tt (plain (λ _. P)) (λ _. tt) in
    let stays : Stays En₀.signature.params En₀.kept = (stay_dropped handle En₀.kept.0, (stay_dropped (plain (λ _. usize)) En₀.kept.1.0, tt)) in let W = walk_of 𝓛 En₀ stays c in
    proved 𝓛 En₀ stays c 𝓜 𝓡 (Goes-dropped 𝓛 2 handle En₀.kept.0 (λ κs x w. refl), (Goes-dropped 𝓛 2 (plain (λ _. usize)) En₀.kept.1.0 (λ κs x w. refl), tt))
    (f.Key.name args) fn (code.unfolded 𝓤 H 𝓜 𝓡 wired (A, tt) d dd)
    (λ κs. (shr_vals, (uint_vals w64, tt))) (λ κs. (shr_Tells (named 0) κs.0 P, (uint_Tells w64, tt))) (λ κs qs bounds a _ are.
    let κ = κs.0 in let q = qs.0 in let κ₁ = κs.1.0 in let q₁ = qs.1.0 in let at = a.0.ref_ptr in let h = a.0.now in let n = a.1.0 in
    let y : W.Ghost = ((κs, qs, bounds, a, (shr_vals a.0, (uint_vals w64 n, tt))), tt) in let Post : Val → SProp 𝓤 = W.post y in
    let Lr : RattleType = lease_type.the_row P g in let Pair : RattleType = Tuple (R ∷ Lr ∷ []) in let Out : RattleType = RS.the_row Pair AE.the_row in
    let Asked : Type 0 = n * 64 < 2 ^ 63 in
    qed 𝓛 (((‵ (flft κ q) ⊛ ‵ (flft κ₁ q₁) ⊛ ‵ ftrue) ⊛ ‵ ((ShrRef (named 0) κ P).own_val a.0 (shr_vals a.0)) ⊛ ‵ (usize.own_val n (uint_vals w64 n)) ⊛ ‵ ftrue) ∷ (raw (fact 𝓤 (κ₁ ⊑ A.lives)) ⊛ raw (fact 𝓤 Asked)) ∷ []) ∵
    move ! (1 ∷ []) $ split ! $ heard ! (κ₁ ⊑ A.lives) (λ le. heard ! Asked (λ small. let bytes : n * 64 < 2 ^ 64 = omega arith in
    split ! $ split ! $ move ! (2 ∷ []) $ split ! $ fsplit ! $ drop ! $ keep ! (0 ∷ 2 ∷ 3 ∷ []) $
    -- [a `&` to the handle; its token; the other token]
    enter ! _ _ _ _ _ $ alloc_all ! (λ l. pass_all ! refl ((tt, tt), ((tt, record { fits = are.1.0.1 }), tt)) $
    let En : Env 𝓤 H = env fn.locals l in let arms : Body = head (after 2 fn.body) in
    let Then : After 𝓤 H = any_q (after_seq 𝓤 H (Wp 𝓤 H 𝓣.C 𝓣.Λ En (after 3 fn.body) (at_return 𝓤 H En Post)) (at_return 𝓤 H En Post)) in
    let x = at_takes Z 𝓛 𝓜.mem 𝓡.returns κ q at h (n * 64) 1 (block n) in
    sets ! (bin ! (get ! refl) (lit ! tt) (record { fits = bytes })) refl (tt, record { fits = bytes }) $
    use2 𝓛 (raw ((Takes Z 𝓛 𝓜.mem 𝓡.returns).pre x)) (Takes-goes Z 𝓛 𝓜.mem 𝓡.returns κ q at h (⊑_trans κ κ₁ A.lives bounds.0 le) (n * 64) 1 (block n) (block_size n bytes) (block_align n) bytes (lit< tt)) $
    calls_at ! (framed 𝓤 H 𝓜 𝓣) (Takes Z 𝓛 𝓜.mem 𝓡.returns) (met.allocate dd) x (and_then ! (get ! refl) (and_then ! (get ! refl) (and_then ! (lit ! tt) (no_more !)))) (λ v.
    use1 𝓛 (later (raw (Answered Z 𝓛 𝓜.mem 𝓡.returns h (block n) v) ⊛ ‵ (flft κ q))) (Takes-gives Z 𝓛 𝓜.mem 𝓡.returns κ q at h (n * 64) 1 (block n) v) $ await ! tt $ split ! $
    answers Z ! 𝓜.mem 𝓡.returns h (block n) v
    (λ b o e.
    let p : Ptr = block_ptr b o in let room : Room = record { start = p; lines = replicate n None } in let lease : Lr.Denot = record { marker = record {}; alloc = h; start = p; count = n } in
    let made : Val = pair_val (word p) mark in let typed : Good (layout Pair) made = (tt, ((tt, tt), ((tt, tt), tt))) in let ok = first_Good (layout Pair) made typed in
    lands_as ! e refl (Answer-typed true b o) $ first ! $ switches_on ! (get_tag ! (vrt ! refl (fld ! refl (stop !))) (whole !)) $ exec ! 𝓣.C 𝓣.Λ En (arm_body 0 arms) Then $
    sets ! (of_opd ! (get_in ! (vrt ! refl (fld ! refl (stop !))) (in_variant ! 0 0 refl refl (whole !)))) refl (tt, tt) $ sets ! (of_opd ! (get ! refl)) refl (tt, tt) $
    sets ! (agg ! (no_more !)) refl (tt, tt) $ sets ! (agg ! (and_then ! (get ! refl) (no_more !))) refl (tt, (tt, tt)) $ sets ! (agg ! (and_then ! (get ! refl) (no_more !))) refl (tt, (tt, tt)) $
    sets ! (agg ! (and_then ! (get ! refl) (and_then ! (get ! refl) (no_more !)))) refl typed $ sets_last ! (agg ! (and_then ! (lit ! tt) (and_then ! (get ! refl) (no_more !)))) refl ok $
    exec ! 𝓣.C 𝓣.Λ En (after 3 fn.body) (at_ret En Post) $ sets ! (of_opd ! (get ! refl)) refl ok $
    move ! (1 ∷ []) $ use0 𝓛 (‵ (mark_own (mark ∷ []))) (mark_made 𝓛) $ fjoin ! $
    move ! (1 ∷ []) $ as_written ! (ty_array τ n) b o $ use1 𝓛 (‵ (lines_at b o room.lines)) (of_room 𝓛 b n o) $
    room_made ! room b o refl (subst (λ k. k * 64 < 2 ^ 63) (sym (length-replicate n None)) small) $
    use2 𝓛 (‵ (Pair.own_val (room, lease) (made ∷ []))) (pair_of 𝓛 R Lr room lease (word p) mark) $
    use1 𝓛 (‵ (Out.own_val (Ok (room, lease)) (live 0 (vcons made vnil) ∷ []))) (ok_of 𝓛 Pair AE.the_row (room, lease) made) $
    returns ! (look_at ! 0 refl) $ free_all ! refl $
    suffices ! _ (ends_at 𝓛 En₀ stays c y (live 0 (vcons made vnil)) (Ok (room, lease)) (tt, (tt, tt)) (tt, (tt, tt))) $ says ! (refl, (refl, sym (length-replicate n None), refl)) $
    move ! (1 ∷ 2 ∷ []) $ join ! $ frame ! $ nothing ! $ nothing ! $ fjoin ! $ nothing ! $ fjoin ! $ done !)
    (λ e.
    let Refusal : RattleType = Struct (Declared.shape AE.the_type) in let none : Val = live 1 (vcons (vstruct vnil) vnil) in
    lands_as ! e refl (Answer-typed false 0 0) $ first ! $ switches_on ! (get_tag ! (vrt ! refl (fld ! refl (stop !))) (whole !)) $ exec ! 𝓣.C 𝓣.Λ En (arm_body 1 arms) Then $
    sets ! (of_opd ! (get_in ! (vrt ! refl (fld ! refl (stop !))) (in_variant ! 1 0 refl refl (whole !)))) refl (tt, tt) $
    sets_last ! (agg ! (and_then ! (lit ! tt) (and_then ! (get ! refl) (no_more !)))) refl (tt, (record { fits = lit< tt }, (tt, tt))) $
    exec ! 𝓣.C 𝓣.Λ En (after 3 fn.body) (at_ret En Post) $ sets ! (of_opd ! (get ! refl)) refl (tt, (record { fits = lit< tt }, (tt, tt))) $
    owned ! Refusal (Is Refusal) (Struct-Makes 𝓛 (Declared.shape AE.the_type) tt) tt (vstruct vnil ∷ []) (tt, (refl, tt)) $
    use1 𝓛 (‵ (Out.own_val (Err (record {})) (none ∷ []))) (err_of 𝓛 Pair AE.the_row (record {}) (vstruct vnil)) $
    returns ! (look_at ! 0 refl) $ free_all ! refl $
    suffices ! _ (ends_at 𝓛 En₀ stays c y none (Err (record {})) (tt, (tt, tt)) (tt, (tt, tt))) $ says ! tt $
    move ! (1 ∷ 2 ∷ []) $ join ! $ frame ! $ nothing ! $ nothing ! $ fjoin ! $ nothing ! $ fjoin ! $ done !))))))
