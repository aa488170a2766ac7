-- `free` makes room of the lines, and gives the block back with its token. Assumes `Logic`.
use mathlib.Core.Path.{◌≡◌, refl, sym, subst, ◌∙◌}
use Prim.Native.Nat.{ℕ, ◌*◌, ◌<◌, ◌^◌}
use native.Mathlib.Omega.{arith}
use mathlib.Core.List.{List, [], ◌∷◌, ◌++◌}
use lib.Dec.{T, lit<}
use lib.ListN.{length}
use mir.Syntax.{Args, Fn, a_type, dcons, dnil, ty_array, ty_unit, w64}
use mir.MapTy.{inst_fn}
use mir.Val.{Val, WT, has_ty, vint, vptr, vunit}
use base.Logic.{SProp}
use base.Fml.{ftrue, flft, froom}
use prog.Wp.{Env, WpFn}
use contract.BorrowLft.{◌⊑◌, ⊑_trans}
use contract.Monad.{fact}
use contract.Running.{tables}
use types.Kit.{‵, raw, ◌⊛◌, given, later, prop, at_ret, ◌$◌, ◌∵◌, !, qed, move, keep, drop, use1, split, join, group, learn, rewrite, regoal, fsplit, fsplit3, fjoin, feq_i, suffices, await, done}
use types.Part.{whole, sub}
use types.Run.{stop, fld, lit, unit_lit, of_opd, bin, and_then, no_more, first, blocks, exec, returns, enter}
use types.ByLocal.{alloc_all, pass_all, free_all, look_at, get, get_in, sets, lands_last, env}
use denote.Builtin.{usize, RefOf}
use denote.Param.{bounded, param}
use denote.RattleType.{RattleType, owns}
use denote.RawPtr.{Ptr, block_ptr}
use denote.Signature.{plain, types_at}
use denote.Steps.{nothing, heard}
use denote.Triple.Call.{calls_at_last}
use denote.Triple.Table.{framed}
use denote.Triple.Walked.{Stays, stay_dropped, walk_of, ends_at, Goes-dropped}
use Rattle.std.proofs.alloc.Calls.{Al, Gives, Gives-Gives, Gives-goes, Goes-blank, at_gives}
use Rattle.std.proofs.raw_atomic.Walks.{proved_at}
use Rattle.std.proofs.RawLayout.{as_raw}
use Rattle.std.proofs.RcSteps.{word}
use Rattle.std.proofs.VecSteps.Shapes.{after}
use Rattle.raw_lines.specs.Kept.{IsLeaseOf}
use Rattle.raw_lines.specs.Ownership.{lease_owns}
use Rattle.raw_lines.specs.declared.room.Room.{Room}
use Rattle.raw_lines.specs.contracts.room.Lease as lease_type
use Rattle.raw_lines.specs.contracts.room.Room.{the_row as R}
use Rattle.raw_lines.specs.contracts.block.free as f
use Rattle.raw_lines.proofs.Leases.{block, block_align, block_size, mark, mark_told}
use Rattle.raw_lines.proofs.Memory.{to_room, τ}
use Rattle.raw_lines.proofs.Opens.{room_had}
use Rattle.raw_lines.proofs.block.free.Statement.{statement}
use Rattle.raw_lines.proofs.block.free.Code as code

pub free_spec : {M : Type 1} → statement M
free_spec 𝓤 𝓛 𝓜 𝓡 wired A L g d dd met md =
    let H = 𝓛.H in let P : RattleType = param 0 A in let En₀ = f.ended A g d dd in let c = f.clauses A g d dd 𝓛 𝓜.mem 𝓡.returns in
    let Z : Al = record { row = A; laws = L; g = g; d = d; drops = dd } in let Lr : RattleType = lease_type.the_row P g in
    let args : Args = bounded (a_type ∷ []) (A, tt) (dcons d (dcons dd dnil)) in let fn : Fn = inst_fn args code.function in
    let 𝓣 = tables 𝓤 H 𝓜 𝓡 𝓡.env in
    let handle = RefOf (0 ∷ []) tt (plain (λ _. P)) (λ _. tt) in let k = En₀.kept in
    let stays : Stays En₀.signature.params En₀.kept = (stay_dropped handle k.0, (stay_dropped (plain (λ _. usize)) k.1.0, (stay_dropped (plain (λ _. R)) k.1.1.0, (stay_dropped (plain (λ _. Lr)) k.1.1.1.0, tt)))) in let W = walk_of 𝓛 En₀ stays c in
    proved_at 𝓛 En₀ stays c 𝓜 𝓡
    (Goes-dropped 𝓛 2 handle k.0 (λ κs x w. refl), (Goes-dropped 𝓛 2 (plain (λ _. usize)) k.1.0 (λ κs x w. refl), (Goes-blank 𝓛 2 (plain (λ _. R)) k.1.1.0 (λ κs x w. tt), (Goes-blank 𝓛 2 (plain (λ _. Lr)) k.1.1.1.0 (λ κs x w. tt), tt))))
    (f.Key.name args) fn (code.unfolded 𝓤 H 𝓜 𝓡 wired (A, tt) d dd) (λ z are.
    let κ = z.0.0.0 in let q = z.0.1.0 in let κ₁ = z.0.0.1.0 in let q₁ = z.0.1.1.0 in let a = z.0.3 in let vss = z.0.4 in
    let hp = a.0.ref_ptr in let h = a.0.now in let n = a.1.0 in let room : Room = a.1.1.0 in let lease = a.1.1.1.0 in let Post : Val → SProp 𝓤 = W.post z in
    let Asked : Type 0 = (length room.lines ≡ n) × IsLeaseOf room lease h in
    qed 𝓛 (((‵ (flft κ q) ⊛ ‵ (flft κ₁ q₁) ⊛ ‵ ftrue) ⊛ ‵ (owns (types_at En₀.signature.params z.0.0) a vss)) ∷ (raw (fact 𝓤 (κ₁ ⊑ A.lives)) ⊛ raw (fact 𝓤 Asked)) ∷ []) ∵
    move ! (1 ∷ []) $ split ! $ heard ! (κ₁ ⊑ A.lives) (λ le. heard ! Asked (λ asked.
    split ! $ split ! $ move ! (2 ∷ []) $ fsplit3 ! $ fsplit ! $ drop ! $ move ! (2 ∷ []) $ fsplit3 ! $
    room_had ! room vss.1.1.0 (λ b o at is_word small.
    let fits : n * 64 < 2 ^ 63 = subst (λ j. j * 64 < 2 ^ 63) asked.0 small in let bytes : n * 64 < 2 ^ 64 = omega arith in
    use1 𝓛 (‵ (froom (ty_array τ (length room.lines)) b o)) (to_room 𝓛 b room.lines o) $ rewrite ! 0 (λ (j : ℕ). ‵ (froom (ty_array τ j) b o)) asked.0 refl $ as_raw ! (ty_array τ n) b o $
    move ! (1 ∷ []) $ fsplit ! $ drop ! $
    rewrite ! 0 (λ (u : A.Denot × ℕ × Ptr). ‵ (lease_owns (g.dealloc_token u.0) u.2 u.1)) (λ i. (asked.1.2 i, (asked.1.1 ∙ asked.0) i, (asked.1.0 ∙ at) i)) refl $ keep ! (1 ∷ 0 ∷ 3 ∷ 5 ∷ 6 ∷ []) $
    -- [the room; the token of the block; a `&` to the handle; its token; the other token]
    regoal ! (λ (us : List Val). prop (WpFn 𝓤 H 𝓣.C 𝓣.Λ fn us Post)) (λ i. are.0.0 i ++ (are.1.0.0 i ++ (is_word i ++ (mark_told vss.1.1.1.0 are.1.1.1.0.0 i ++ [])))) refl $
    enter ! 𝓣.C 𝓣.Λ fn (vptr hp.0 hp.1 ∷ vint w64 n ∷ word (block_ptr b o) ∷ mark ∷ []) Post $
    alloc_all ! (λ l. pass_all ! refl ((tt, tt), ((tt, record { fits = are.1.0.1 }), ((tt, (tt, tt)), ((tt, (tt, tt)), tt)))) $
    let En : Env 𝓤 H = env fn.locals l in let x = at_gives Z 𝓛 𝓜.mem 𝓡.returns κ q hp h b o (n * 64) 1 (block n) in
    sets ! (of_opd ! (get_in ! (fld ! refl (stop !)) (sub ! 0 refl (whole !)))) refl (tt, tt) $ first ! $ blocks ! $ sets ! (of_opd ! (get ! refl)) refl (tt, tt) $
    sets ! (bin ! (get ! refl) (lit ! tt) (record { fits = bytes })) refl (tt, record { fits = bytes }) $
    group ! 4 $ use1 𝓛 (raw ((Gives Z 𝓛 𝓜.mem 𝓡.returns).pre x)) (Gives-goes Z 𝓛 𝓜.mem 𝓡.returns κ q hp h (⊑_trans κ κ₁ A.lives z.0.2.0 le) b o (n * 64) 1 (block n) (block_size n bytes) (block_align n) bytes (lit< tt)) $
    calls_at_last ! (framed 𝓤 H 𝓜 𝓣) (Gives Z 𝓛 𝓜.mem 𝓡.returns) (met.deallocate dd) x (and_then ! (get ! refl) (and_then ! (get ! refl) (and_then ! (get ! refl) (and_then ! (lit ! tt) (no_more !))))) (λ v.
    use1 𝓛 (later (given (v ≡ vunit) (‵ (flft κ q)))) (Gives-Gives Z 𝓛 𝓜.mem 𝓡.returns κ q hp h b o (n * 64) 1 (block n) v) $ await ! tt $ learn ! (λ e.
    lands_last ! refl (subst (λ (u : Val). T (has_ty ty_unit u) × WT u) (sym e) (tt, tt)) $ exec ! 𝓣.C 𝓣.Λ En (after 2 fn.body) (at_ret En Post) $
    sets ! (of_opd ! (unit_lit !)) refl (tt, tt) $ returns ! (look_at ! 0 refl) $ free_all ! refl $
    suffices ! _ (ends_at 𝓛 En₀ stays c z vunit tt (tt, (tt, (tt, (tt, tt)))) (tt, (tt, (tt, (tt, tt))))) $
    join ! $ feq_i ! (List Val) (vunit ∷ []) (vunit ∷ []) refl $ nothing ! $ nothing ! $ fjoin ! $ nothing ! $ fjoin ! $ nothing ! $ fjoin ! $ nothing ! $ fjoin ! $ join ! $
    move ! (1 ∷ 0 ∷ []) $ join ! $ nothing ! $ move ! (1 ∷ 0 ∷ []) $ done !)))))))
