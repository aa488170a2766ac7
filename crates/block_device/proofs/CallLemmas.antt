-- Calls whose work is done by an inner one, after tests.
use Rattle.std.proofs.Common.{Result, Ok, Err, IsErrAnd, inl, ◌≡◌, ◌≢◌, ℕ, List, Option, Some, None, refl, sym, ◌∙◌, subst, arith}
use Rattle.line_device.specs.Device.{Device}
use Rattle.line_device.specs.Panel.{Panel, Runs}
use Rattle.line_device.proofs.WriteBackLemmas.{write_back-refl}
use Rattle.line_device.proofs.PanelLemmas.{runs-refl, runs_within}
use Rattle.line_words.specs.declared.interruption.Interruption.{Interruption}
use Rattle.line_words.specs.Ending.{stop_outcome}
use Rattle.line_words.specs.Told.{refusal_of}
use Rattle.line_words.proofs.BesideLemmas.{beside-refl}
use Rattle.line_words.proofs.ToldLemmas.{checks_answers, refused_done, refused_went}
use Rattle.word_log.proofs.AnswerLemmas.{is_fault}
use Rattle.nvm_model.specs.Storage.{Block}
use Rattle.nvm_model.specs.Blocks.{first_there}
use Rattle.block_device.specs.declared.change.Change.{Change}
use Rattle.block_device.specs.declared.fault.BlockFault.{BlockFault}
use Rattle.block_device.specs.Area.{IsBlockLine}
use Rattle.block_device.specs.Calls.{AreReady, ChangesBlocks, FillsBuffer, PreparesBlocks}
use Rattle.block_device.specs.Object.{BlocksState}
use Rattle.block_device.specs.Prepared.{AreAsBefore}
use Rattle.block_device.specs.Refusals.{Checks, Refusal, block_outcome, block_says, meta_refusal}
use Rattle.block_device.proofs.CheckLemmas.{checks_first, checks_second}

tells_reason : (o : Option Refusal) (f : BlockFault) → Checks {T = Unit {0}} o (Err f) → refusal_of (block_says f) ≢ None
tells_reason None f checks = absurd checks
tells_reason (Some why) f checks = λ none. some_none (sym checks ∙ none)
  where
    some_none : Some why ≡ None → ⊥
    some_none e = cc e

-- a call that a test refuses makes no counted call
refused_runs : (o : Option Refusal) (f : BlockFault) → Checks {T = Unit {0}} o (Err f) → (p : Panel) (calls persists : ℕ) → Runs calls persists (block_outcome {T = Unit {0}} (Err f)) p p
refused_runs o f checks p calls persists =
    subst (λ e. Runs calls persists e p p) (sym (refused_went (block_says f) (tells_reason o f checks))) (runs_within 0 0 calls persists _ _ _ (runs-refl p) (omega arith) (omega arith))

-- and fills no buffer
pub fills_refused : (d : Device) (old bytes : List ℕ) (calls : ℕ) (o : Option Refusal) (r : Result (Unit {0}) BlockFault) (f : BlockFault) → IsErrAnd r (λ e. e ≡ f) → Checks {T = Unit {0}} o (Err f) → FillsBuffer d d old old r (block_outcome r) bytes calls
fills_refused d old bytes calls o r f fault checks =
    subst (λ q. FillsBuffer d d old old q (block_outcome q) bytes calls) (sym (is_fault r f fault))
    (record { ok = tt; err = record { length = refl; each = λ i. inl refl }; lines = write_back-refl d.medium; runs = refused_runs o f checks d.panel calls 0 })

-- A call that makes its own test first, and then looks for bad metadata, and that one of the two refuses. `view` is how code sees the blocks.
module _ {D : Type 0} (state : D → Device) (view s : BlocksState) (is : view ≡ s) (d : D) (ready : AreReady s (state d)) (first : BlocksState → Option Refusal) (to : List Block → List Block) (Between : List Block → List Block → List Block → Type 0) (calls persists : ℕ) (r : Result (Unit {0}) BlockFault) (f : BlockFault) (fault : IsErrAnd r (λ e. e ≡ f)) where
  abbrev why : BlocksState → Option Refusal
  why b = first_there (first b) (meta_refusal b.geo (state d).medium)

  refused_by : Checks {T = Unit {0}} (why view) (Err f) → ChangesBlocks state s s d d r (why s) to Between calls persists
  refused_by here =
      let checks = subst (λ (b : BlocksState). Checks {T = Unit {0}} (why b) (Err f)) is here in
      let reason = tells_reason (why s) f checks in
      subst (λ q. ChangesBlocks state s s d d q (why s) to Between calls persists) (sym (is_fault r f fault)) (record {
        refused = checks_answers block_says (why s) (Err f) checks;
        untouched = λ _. (refl, refl);
        ok = tt;
        images = λ stop. absurd (reason stop);
        outside = beside-refl (IsBlockLine s.geo) (state d).medium;
        serves = λ _. ready.serves;
        object = (refl, ready.settled ∙ sym (refused_done (block_says f) reason));
        runs = refused_runs (why s) f checks (state d).panel calls persists;
      })

  pub refused_first : Checks {T = Unit {0}} (first view) (Err f) → ChangesBlocks state s s d d r (why s) to Between calls persists
  refused_first checks = refused_by (checks_first (Unit {0}) (first view) (meta_refusal view.geo (state d).medium) f checks)

  pub refused_meta : (x : Unit {0}) → Checks (first view) (Ok x) → Checks {T = Unit {0}} (meta_refusal view.geo (state d).medium) (Err f) → ChangesBlocks state s s d d r (why s) to Between calls persists
  refused_meta x passed checks = refused_by (checks_second (first view) (meta_refusal view.geo (state d).medium) x (Err f) passed checks)

-- a call that was stopped while it prepared changes
pub prepares_stopped : {D : Type 0} (state : D → Device) (s t : BlocksState) (before after : D) (r : Result (Unit {0}) Interruption) (stop : Interruption) (cs ds : List Change) (numbers : List ℕ) (to : List Block → List Block) (calls persists : ℕ) → IsErrAnd r (λ e. e ≡ stop)
    → AreAsBefore s t (state before).medium (state after).medium → Runs calls persists (stop_outcome stop) (state before).panel (state after).panel → PreparesBlocks state s t before after r cs ds numbers to calls persists
prepares_stopped state s t before after (Ok x) stop cs ds numbers to calls persists is kept runs = absurd is
prepares_stopped state s t before after (Err e) stop cs ds numbers to calls persists is kept runs = record {
  as_before = kept;
  prepared = tt;
  numbered = tt;
  written = tt;
  runs = subst (λ o. Runs calls persists (stop_outcome o) (state before).panel (state after).panel) (sym is) runs;
}
