-- Work on blocks that nothing refuses: step by step, and by one switch.
use Rattle.std.proofs.Common.{Result, Ok, Err, IsErrAnd, OnOk, ◌≡◌, inl, inr, ℕ, ◌+◌, ◌<◌, ◌≤◌, List, length, refl, sym, ◌∙◌, ap, subst, arith}
use Rattle.line_device.specs.Device.{Device}
use Rattle.line_device.specs.Medium.{Medium, last_image}
use Rattle.line_device.specs.Panel.{Runs}
use Rattle.line_device.specs.Panel.Outcome.{went}
use Rattle.line_device.proofs.PanelLemmas.{runs-refl, runs_then, runs_within}
use Rattle.line_words.specs.declared.interruption.Interruption.{Interruption}
use Rattle.line_words.specs.Ending.{stop_outcome}
use Rattle.line_words.specs.Words.{WritesBackBeside, WritesBackOutside}
use Rattle.line_words.proofs.BesideLemmas.{beside-outside, beside-refl, beside-trans}
use Rattle.word_log.specs.Area.{IsOf}
use Rattle.word_log.specs.Changes.{commit_calls, commit_persists}
use Rattle.word_log.proofs.AnswerLemmas.{is_fault}
use Rattle.word_log.proofs.StepLemmas.{on_ok-then}
use Rattle.nvm_model.specs.Storage.{Block}
use Rattle.nvm_model.specs.Blocks.{IsMixed}
use Rattle.block_device.specs.declared.change.Change.{Change}
use Rattle.block_device.specs.Area.{block_area, IsBlockLine}
use Rattle.block_device.specs.Calls.{AreReady, SwitchesBlocks, WorksOnBlocks}
use Rattle.block_device.specs.Changes.{changed_map, MayChange}
use Rattle.block_device.specs.Images.{EachReads, IsEither}
use Rattle.block_device.specs.Object.{BlocksState, BlocksServe, HasGoodMetadata, blocks_of}
use Rattle.block_device.specs.Prepared.{AreAsBefore, blocks_with}
use Rattle.block_device.specs.Reading.{map_read}
use Rattle.block_device.proofs.ChangeLemmas.{is_map-changed, length-changed_map}
use Rattle.block_device.proofs.ImageLemmas.{each_reads-then, served_reads}
use Rattle.block_device.proofs.MadeLemmas.{before-images}
use Rattle.block_device.proofs.PartLemmas.{given, given-mixed, given-next, given-none}
use Rattle.block_device.proofs.PlaceLemmas.{area_is_block, named_apart}
use Rattle.block_device.proofs.ReadLemmas.{map_read-outside}

on_ok-both : {E P Q R : Type 0} (r : Result (Unit {0}) E) → OnOk r P → OnOk r Q → (P → Q → R) → OnOk r R
on_ok-both (Ok x) p q then_ = then_ p q
on_ok-both (Err e) p q then_ = tt

-- the blocks after a switch
blocks_switched : (s t : BlocksState) (old new : Medium) (cs : List Change) → BlocksServe s old → MayChange s.map cs → t.geo ≡ s.geo → t.map ≡ changed_map cs s.map → WritesBackOutside (IsOf (block_area s.geo)) old new → blocks_of t new ≡ blocks_with cs s old
blocks_switched s t old new cs serves may geo map x =
    ap (λ g. map_read g new.is_bad (last_image new) t.map) geo
    ∙ ap (map_read s.geo new.is_bad (last_image new)) map
    ∙ map_read-outside s.geo (changed_map cs s.map) old new (IsOf (block_area s.geo)) x
    (λ p named of. named_apart s.geo serves.valid (changed_map cs s.map) p (length-changed_map cs s.map ∙ serves.all) (is_map-changed cs s.map may serves.is_map) named of)

module _ {D : Type 0} (state : D → Device) where
  -- what it makes and spends, said otherwise
  pub works_as : (s t : BlocksState) (before after : D) (r : Result (Unit {0}) Interruption) (f to : List Block → List Block) (Between : List Block → List Block → List Block → Type 0) (a b calls persists : ℕ) → ((bs : List Block) → f bs ≡ to bs) → a ≤ calls → b ≤ persists
      → WorksOnBlocks state s t before after r f Between a b → WorksOnBlocks state s t before after r to Between calls persists
  works_as s t before after r f to Between a b calls persists same few few_persists work =
      let old = blocks_of s (state before).medium in
      record {
        ok = on_ok-then r work.ok (λ is. is ∙ same old);
        images = subst (λ bs. EachReads s.geo (state after).medium (Between old bs)) (same old) work.images;
        outside = work.outside;
        serves = work.serves;
        object = work.object;
        runs = runs_within a b calls persists _ _ _ work.runs few few_persists;
      }

  -- no block has its new one yet
  pub works_none : (to : ℕ → Block) (at : ℕ) (s : BlocksState) (d : D) → AreReady s (state d) → HasGoodMetadata s.geo (state d).medium → WorksOnBlocks state s s d d (Ok tt) (given to at 0) IsMixed 0 0
  works_none to at s d ready good =
      let old = blocks_of s (state d).medium in
      let mixed = IsMixed old (given to at 0 old) in
      record {
        ok = sym (given-none to at old);
        images =
            each_reads-then s.geo (state d).medium (λ bs. bs ≡ old) mixed (λ bs is. subst mixed (sym (is ∙ sym (given-none to at old))) (given-mixed to at 0 0 old (omega arith)))
            (served_reads s (state d).medium good ready.serves);
        outside = beside-refl (IsBlockLine s.geo) (state d).medium;
        serves = ready.serves;
        object = (refl, ready.settled);
        runs = runs-refl (state d).panel;
      }

  -- One block more, by a call that makes `f`, of `n` in all, which make `h`: it is the last, or the work is stopped at it.
  pub works_more : (to : ℕ → Block) (at k n : ℕ) (f h : List Block → List Block) (s l t : BlocksState) (before mid after : D) (r : Result (Unit {0}) Interruption) (a b c d calls persists : ℕ) → ((bs : List Block) → f bs ≡ given to (at + k) 1 bs) → ((bs : List Block) → given to at n bs ≡ h bs) → k < n → OnOk r (n ≡ k + 1)
      → a + c ≤ calls → b + d ≤ persists → WorksOnBlocks state s l before mid (Ok tt) (given to at k) IsMixed a b → WorksOnBlocks state l t mid after r f IsEither c d → WorksOnBlocks state s t before after r h IsMixed calls persists
  works_more to at k n f h s l t before mid after r a b c d calls persists one all less last few few_persists work step =
      let old = blocks_of s (state before).medium in
      let now = blocks_of l (state mid).medium in
      let mixed = IsMixed old (h old) in
      let next : f now ≡ given to at (k + 1) old = one now ∙ ap (given to (at + k) 1) work.ok ∙ given-next to at k old in
      let between : (m : ℕ) → m ≤ n → mixed (given to at m old) = λ m few. subst (λ bs. IsMixed old bs (given to at m old)) (all old) (given-mixed to at m n old few) in
      record {
        ok = on_ok-both r step.ok last (λ made is. made ∙ next ∙ ap (λ m. given to at m old) (sym is) ∙ all old);
        images =
            subst (λ g. EachReads g (state after).medium mixed) work.object.0
            (each_reads-then l.geo (state after).medium (IsEither now (f now)) mixed
            (λ bs either. elim either as (λ _. mixed bs) [
              | inl was ↦ subst mixed (sym (was ∙ work.ok)) (between k (omega arith))
              | inr is ↦ subst mixed (sym (is ∙ next)) (between (k + 1) (omega arith))
            ])
            step.images);
        outside =
            beside-trans (IsBlockLine s.geo) _ _ _ work.outside
            (subst (λ g. WritesBackBeside (IsBlockLine g) (state mid).medium (state after).medium) work.object.0 step.outside);
        serves = step.serves;
        object = (step.object.0 ∙ work.object.0, step.object.1);
        runs = runs_within _ _ calls persists _ _ _ (runs_then a b c d _ _ _ _ work.runs step.runs) few few_persists;
      }

  -- a stop that is handed on
  pub works_handed : (s t : BlocksState) (before after : D) (r : Result (Unit {0}) Interruption) (stop : Interruption) (to : List Block → List Block) (Between : List Block → List Block → List Block → Type 0) (calls persists : ℕ) → IsErrAnd r (λ e. e ≡ stop)
      → WorksOnBlocks state s t before after (Err stop) to Between calls persists → WorksOnBlocks state s t before after r to Between calls persists
  works_handed s t before after r stop to Between calls persists is work = subst (λ q. WorksOnBlocks state s t before after q to Between calls persists) (sym (is_fault r stop is)) work

  -- one switch makes all
  pub works_switched : (s t : BlocksState) (before after : D) (r : Result (Unit {0}) Interruption) (cs : List Change) (to : List Block → List Block) → BlocksServe s (state before).medium → MayChange s.map cs
      → blocks_with cs s (state before).medium ≡ to (blocks_of s (state before).medium) → SwitchesBlocks state s t before after r cs → WorksOnBlocks state s t before after r to IsEither (commit_calls (length cs)) (commit_persists (length cs))
  works_switched s t before after r cs to serves may is switch = record {
    ok = on_ok-then r switch.ok (λ map. blocks_switched s t _ _ cs serves may switch.object.0 map switch.outside ∙ is);
    images = subst (λ bs. EachReads s.geo (state after).medium (IsEither (blocks_of s (state before).medium) bs)) is switch.images;
    outside = beside-outside (IsOf (block_area s.geo)) (IsBlockLine s.geo) _ _ (area_is_block s.geo serves.valid) switch.outside;
    serves = switch.serves;
    object = switch.object;
    runs = switch.runs;
  }

  -- changes were prepared before
  pub works_prepared : (s l t : BlocksState) (before mid after : D) (r : Result (Unit {0}) Interruption) (f to : List Block → List Block) (a b c d : ℕ) → AreAsBefore s l (state before).medium (state mid).medium → Runs a b went (state before).panel (state mid).panel
      → f (blocks_of l (state mid).medium) ≡ to (blocks_of s (state before).medium) → WorksOnBlocks state l t mid after r f IsEither c d → WorksOnBlocks state s t before after r to IsEither (a + c) (b + d)
  works_prepared s l t before mid after r f to a b c d kept runs is work =
      let new = (state after).medium in
      let all = to (blocks_of s (state before).medium) in
      record {
        ok = on_ok-then r work.ok (λ made. made ∙ is);
        images =
            subst (λ g. EachReads g new (IsEither (blocks_of s (state before).medium) all)) kept.geo
            (subst (λ bs. EachReads l.geo new (IsEither bs all)) kept.blocks (subst (λ bs. EachReads l.geo new (IsEither (blocks_of l (state mid).medium) bs)) is work.images));
        outside = beside-trans (IsBlockLine s.geo) _ _ _ kept.outside (subst (λ g. WritesBackBeside (IsBlockLine g) (state mid).medium new) kept.geo work.outside);
        serves = work.serves;
        object = (work.object.0 ∙ kept.geo, work.object.1);
        runs = runs_then a b c d _ _ _ _ runs work.runs;
      }

  -- and the work was stopped then
  pub works_stopped : (s t : BlocksState) (before after : D) (r : Result (Unit {0}) Interruption) (stop : Interruption) (to : List Block → List Block) (calls persists : ℕ) → IsErrAnd r (λ e. e ≡ stop) → AreAsBefore s t (state before).medium (state after).medium
      → Runs calls persists (stop_outcome stop) (state before).panel (state after).panel → WorksOnBlocks state s t before after r to IsEither calls persists
  works_stopped s t before after (Ok x) stop to calls persists is kept runs = absurd is
  works_stopped s t before after (Err e) stop to calls persists is kept runs = record {
    ok = tt;
    images = before-images s t _ _ (to (blocks_of s (state before).medium)) kept;
    outside = kept.outside;
    serves = tt;
    object = (kept.geo, kept.unsettled);
    runs = subst (λ o. Runs calls persists (stop_outcome o) (state before).panel (state after).panel) (sym is) runs;
  }
