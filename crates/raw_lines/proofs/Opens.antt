-- A `&mut` to the room is opened and closed, and the room's one word is read and made. Assumes `Logic`.
use mathlib.Core.Path.{◌≡◌, refl, sym, ap, subst, ◌∙◌}
use Prim.Native.Nat.{ℕ, ◌+◌, ◌*◌, ◌<◌, ◌^◌}
use mathlib.Core.List.{List, [], ◌∷◌, ◌++◌}
use lib.ListN.{length}
use seplogic.Ra.Ura.{Ura}
use base.Fraction.{full_share}
use mir.Syntax.{ty_ptr}
use mir.Val.{Val, vptr, vstruct, of_list}
use base.Logic.{ent, sep, id⊢, never}
use base.Stored.{Gv}
use base.Fml.{Lft, GName, Share, fsep, flft, fobs, fauth, fbor, fobor, fat, fhide}
use types.Logic.{Logic, sem}
use types.Kit.{Goal, Soaks, Step, step, Seq, Item, ‵, ◌⊛◌, ◌$◌, ◌∵◌, !, qed, use1, split, keep, done, move, drop as skip, rewrite, fsplit, fjoin, fpick, fpack, feq_l, feq_i, flt_l, flt_i}
use types.SemTy.{Body}
use denote.RattleType.{RattleType, Valss}
use denote.Copied.{plain_Copied}
use denote.Memory.{cell_at, hidden_shr, mem, part_at}
use denote.Opens.{Shut, unhide}
use denote.RawPtr.{Ptr, RawPtr, block_ptr, coded_ptr, ptr_own, ptr_val, rawptr_pure, in_a_block}
use denote.Steps.{opens, closes, looks, nothing, shuts}
use denote.Struct.Struct.{Struct, within}
use denote.Struct.Laws.{RawPtr-laws}
use denote.Struct.Lending.{lent_out}
use denote.Struct.Owning.{shape}
use Rattle.std.proofs.RcSteps.{word}
use Rattle.raw_lines.specs.Ownership.{lines_at, room_lends, room_owns}
use Rattle.raw_lines.specs.declared.room.Room.{Room}
use Rattle.raw_lines.specs.contracts.room.Room.{struct, the_codes, the_heap, the_lent, the_row, the_type}

-- the pointer alone, as a plain struct
abbrev Word : RattleType
Word = Struct (shape the_type)

module _ {M : Type 1} {𝓤 : Ura M} {𝓛 : Logic 𝓤} {K : Type 0} {Γ : List (Item 𝓤)} {G : Goal 𝓤 𝓛.H} where
  pub room_had : K → (d : Room) (vs : List Val)
      → ((b o : ℕ) → d.start ≡ block_ptr b o → vs ≡ word (block_ptr b o) ∷ [] → length d.lines * 64 < 2 ^ 63 → Seq K 𝓛 (‵ (lines_at b o d.lines) ∷ Γ) G)
      → Seq K 𝓛 (‵ (the_row.own_val d vs) ∷ Γ) G
  room_had t d vs k =
      fsplit t $ fpick t (λ vss. fsplit t $ feq_l t (λ ev. fsplit t $ feq_l t (λ e. skip t $
      in_a_block t d.start (λ p. room_owns p d.lines) (id⊢ 𝓤 (never 𝓤)) (λ b o at. fsplit t $ flt_l t (λ small.
      k b o at (subst (λ (ws : List Val). vs ≡ vstruct (of_list (ws ++ [])) ∷ []) e ev ∙ ap (λ (p : Ptr). word p ∷ []) at) small)))))

  pub room_made : K → (d : Room) (b o : ℕ) → d.start ≡ block_ptr b o → length d.lines * 64 < 2 ^ 63
      → Step K 𝓛 (‵ (the_row.own_val d (word (block_ptr b o) ∷ [])) ∷ Γ) G (‵ (lines_at b o d.lines) ∷ Γ) G
  room_made t d b o at small = step (λ s.
      flt_i t (length d.lines * 64) (2 ^ 63) small $ fjoin t $
      nothing t $ feq_i t (List Val) (ptr_val (block_ptr b o) ∷ []) (ptr_val (block_ptr b o) ∷ []) refl $ fjoin t $ feq_i t (List Val) (word (block_ptr b o) ∷ []) (word (block_ptr b o) ∷ []) refl $ fjoin t $
      fpack t (Valss (RawPtr ∷ [])) (within (shape the_type) (block_ptr b o, tt) (word (block_ptr b o) ∷ [])) (ptr_val (block_ptr b o) ∷ [], tt) $ fjoin t $
      rewrite t 0 (λ (p : Ptr). ‵ (fsep (Word.own_val (p, tt) (word (block_ptr b o) ∷ [])) (room_owns p d.lines))) (sym at) refl $ s)

module _ {M : Type 1} {𝓤 : Ura M} {𝓛 : Logic 𝓤} {K : Type 0} {Γ : List (Item 𝓤)} {G : Goal 𝓤 𝓛.H} where
  -- [the lines; the pointer; the open borrow; obs; auth]
  pub room_opens : K → Soaks G → {κ : Lft} {q : Share} {γ : GName} (d : Room) (rb ro : ℕ)
      → ((b o : ℕ) → d.start ≡ block_ptr b o → length d.lines * 64 < 2 ^ 63
      → Seq K 𝓛 (‵ (lines_at b o d.lines) ∷ ‵ (cell_at full_share the_row.mir (word (block_ptr b o) ∷ []) rb ro) ∷ ‵ (fobor κ q (Body (mem the_row) rb ro γ)) ∷ ‵ (fobs γ (the_row.coded.code d)) ∷ ‵ (fauth γ (the_row.coded.code d)) ∷ Γ) G)
      → Seq K 𝓛 (‵ (fobs γ (the_row.coded.code d)) ∷ ‵ (fbor κ (Body (mem the_row) rb ro γ)) ∷ ‵ (flft κ q) ∷ Γ) G
  room_opens t z d rb ro k =
      opens t z the_row {h = d} rb ro (λ vs. move t (1 ∷ []) $ room_had t d vs (λ b o at is small.
      rewrite t 1 (λ (ws : List Val). ‵ (cell_at full_share the_row.mir ws rb ro)) is refl $ k b o at small))

module _ {M : Type 1} {𝓤 : Ura M} {𝓛 : Logic 𝓤} {K : Type 0} {Γ : List (Item 𝓤)} {G : Goal 𝓤 𝓛.H} where
  pub room_closes : K → Soaks G → {κ : Lft} {q : Share} {u v : Gv} {γ : GName} (d : Room) (b o rb ro : ℕ) → d.start ≡ block_ptr b o → length d.lines * 64 < 2 ^ 63
      → Step K 𝓛 (‵ (fobs γ (the_row.coded.code d)) ∷ ‵ (fbor κ (Body (mem the_row) rb ro γ)) ∷ ‵ (flft κ q) ∷ Γ) G
      (‵ (lines_at b o d.lines) ∷ ‵ (cell_at full_share the_row.mir (word (block_ptr b o) ∷ []) rb ro) ∷ ‵ (fobor κ q (Body (mem the_row) rb ro γ)) ∷ ‵ (fobs γ u) ∷ ‵ (fauth γ v) ∷ Γ) G
  room_closes t z d b o rb ro at small = step (λ s. room_made t d b o at small $ move t (1 ∷ 0 ∷ []) $ closes t z the_row d (word (block_ptr b o) ∷ []) rb ro $ s)

module _ {M : Type 1} {𝓤 : Ura M} (𝓛 : Logic 𝓤) (κ : Lft) where
  -- what a `&` to the room reaches: the pointer, and the lines
  pub shown : (d : Room) (b o : ℕ) → ent 𝓤 (sem 𝓛 (hidden_shr the_row κ d b o)) (sep 𝓤 (sem 𝓛 (hidden_shr RawPtr κ d.start b (o + 0))) (sem 𝓛 (room_lends d.start d.lines κ)))
  shown d b o = qed 𝓛 (‵ (hidden_shr the_row κ d b o) ∷ []) ∵
      use1 𝓛 (‵ (hidden_shr Word κ (d.start, tt) b o) ⊛ ‵ (fhide (the_lent d d.start κ))) (lent_out 𝓛 struct the_codes the_heap the_lent κ d b o) $ split ! $
      unhide ! $ fsplit ! $ move ! (2 ∷ []) $ unhide ! $ move ! (1 ∷ []) $ fsplit ! $ keep ! (0 ∷ 2 ∷ []) $ done !

module _ {M : Type 1} {𝓤 : Ura M} {𝓛 : Logic 𝓤} {K : Type 0} {Γ : List (Item 𝓤)} {G : Goal 𝓤 𝓛.H} where
  -- the pointer is read behind a `&`: [the pointer; the way back]
  pub pointer_in : K → Soaks G → {κ : Lft} {q : Share} (p : Ptr) (pb po : ℕ) → p ≡ block_ptr pb po → (b at : ℕ)
      → ((q' : Share) → Seq K 𝓛 (‵ (fat q' ty_ptr b at (vptr pb po)) ∷ Shut 𝓛 κ q (part_at RawPtr q' p b at) ∷ Γ) G) → Seq K 𝓛 (‵ (hidden_shr RawPtr κ p b at) ∷ ‵ (flft κ q) ∷ Γ) G
  pointer_in t z p pb po is b at k =
      looks t z RawPtr (plain_Copied 𝓛 Ptr coded_ptr (ty_ptr ∷ []) ptr_own rawptr_pure ptr_val RawPtr-laws.tells).opens p b at (λ q' vs. move t (1 ∷ []) $ feq_l t (λ e.
      rewrite t 0 (λ (us : List Val). ‵ (cell_at q' RawPtr.mir us b at)) (e ∙ ap (λ (r : Ptr). ptr_val r ∷ []) is) refl $ move t (2 ∷ []) $ skip t $ k q'))

  pub pointer_out : K → Soaks G → {κ : Lft} {q q' : Share} (p : Ptr) (pb po : ℕ) → p ≡ block_ptr pb po → (b at : ℕ)
      → Step K 𝓛 (‵ (flft κ q) ∷ Γ) G (‵ (fat q' ty_ptr b at (vptr pb po)) ∷ Shut 𝓛 κ q (part_at RawPtr q' p b at) ∷ Γ) G
  pointer_out t z {q' = q'} p pb po is b at = step (λ s.
      feq_i t (List Val) (vptr pb po ∷ []) (ptr_val p ∷ []) (ap (λ (r : Ptr). ptr_val r ∷ []) (sym is)) $ move t (1 ∷ 0 ∷ []) $ shuts t z RawPtr q' p (vptr pb po ∷ []) b at $ s)
