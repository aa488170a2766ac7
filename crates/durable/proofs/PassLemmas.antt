-- A run as it comes to one of its commands, and to a later state.
use Rattle.std.proofs.Common.{◌≡◌, ℕ, ◌+◌, List, [], ◌∷◌, ◌++◌, refl, sym, ap, subst, ◌∙◌, append_assoc, arith}
use Rattle.line_device.specs.Panel.{Start}
use Rattle.line_device.specs.declared.order.Order.{Order}
use Rattle.reply_text.specs.Answer.{Answer}
use Rattle.script_text.specs.Action.{Action}
use Rattle.script_text.specs.Script.{Input}
use Rattle.script_text.specs.Script.Input.{Skipped, Malformed, Overlong, Asked}
use Rattle.machine_model.specs.Machine.{Machine}
use Rattle.machine_model.specs.Run.{Run, Transcript, followed_by, silence}
use Rattle.durable.specs.Place.{Place}
use Rattle.durable.specs.Durable.{BringBytes, Comes, IsComplete, KeepsThrough, Passes}
use Rattle.durable.proofs.LawLemmas.{finished_durable}
use Rattle.durable.proofs.WholeLemmas.{whole-run}

-- nothing, and then what was said
silent : (t : Transcript) → followed_by silence t ≡ t
silent t =
    ap (λ n. said n (0 + t.spent.calls) (0 + t.spent.persists)) (none t.cuts) ∙ ap (λ n. said t.cuts n (0 + t.spent.persists)) (none t.spent.calls)
    ∙ ap (λ n. said t.cuts t.spent.calls n) (none t.spent.persists)
  where
    said : ℕ → ℕ → ℕ → Transcript
    said cuts calls persists =
        record { starts = t.starts; orders = t.orders; cuts = cuts; spent = record { calls = calls; persists = persists }; answers = t.answers }

    none : (n : ℕ) → 0 + n ≡ n
    none n = omega arith

-- what was said in three parts
in_three : (a b c : Transcript) → followed_by a (followed_by b c) ≡ followed_by (followed_by a b) c
in_three a b c =
    ap (λ xs. said xs (a.orders ++ (b.orders ++ c.orders)) (a.cuts + (b.cuts + c.cuts)) (a.spent.calls + (b.spent.calls + c.spent.calls)) (a.spent.persists + (b.spent.persists + c.spent.persists)) (a.answers ++ (b.answers ++ c.answers)))
    (sym (append_assoc a.starts b.starts c.starts))
    ∙ ap (λ xs. said ((a.starts ++ b.starts) ++ c.starts) xs (a.cuts + (b.cuts + c.cuts)) (a.spent.calls + (b.spent.calls + c.spent.calls)) (a.spent.persists + (b.spent.persists + c.spent.persists)) (a.answers ++ (b.answers ++ c.answers)))
    (sym (append_assoc a.orders b.orders c.orders))
    ∙ ap (λ xs. said ((a.starts ++ b.starts) ++ c.starts) ((a.orders ++ b.orders) ++ c.orders) (a.cuts + (b.cuts + c.cuts)) (a.spent.calls + (b.spent.calls + c.spent.calls)) (a.spent.persists + (b.spent.persists + c.spent.persists)) xs)
    (sym (append_assoc a.answers b.answers c.answers))
    ∙ ap (λ n. said ((a.starts ++ b.starts) ++ c.starts) ((a.orders ++ b.orders) ++ c.orders) n (a.spent.calls + (b.spent.calls + c.spent.calls)) (a.spent.persists + (b.spent.persists + c.spent.persists)) ((a.answers ++ b.answers) ++ c.answers))
    (sum a.cuts b.cuts c.cuts)
    ∙ ap (λ n. said ((a.starts ++ b.starts) ++ c.starts) ((a.orders ++ b.orders) ++ c.orders) ((a.cuts + b.cuts) + c.cuts) n (a.spent.persists + (b.spent.persists + c.spent.persists)) ((a.answers ++ b.answers) ++ c.answers))
    (sum a.spent.calls b.spent.calls c.spent.calls)
    ∙ ap (λ n. said ((a.starts ++ b.starts) ++ c.starts) ((a.orders ++ b.orders) ++ c.orders) ((a.cuts + b.cuts) + c.cuts) ((a.spent.calls + b.spent.calls) + c.spent.calls) n ((a.answers ++ b.answers) ++ c.answers))
    (sum a.spent.persists b.spent.persists c.spent.persists)
  where
    said : List Start → List Order → ℕ → ℕ → ℕ → List Answer → Transcript
    said starts orders cuts calls persists answers =
        record { starts = starts; orders = orders; cuts = cuts; spent = record { calls = calls; persists = persists }; answers = answers }

    sum : (x y z : ℕ) → x + (y + z) ≡ (x + y) + z
    sum x y z = omega arith

-- a run as it comes to some of its inputs
comes : (before : List Input) (h end : Machine) (after : List Input) (said : Transcript) → Run h (before ++ after) said end → Comes h before after said end
comes [] h end after said run = record { early = silence; here = h; run = (refl, refl); late = said; rest = run; whole = sym (silent said) }
comes (input ∷ before) h end after said run =
    let later = comes before run.2 end after run.1 run.5 in
    record {
      early = followed_by run.0 later.early;
      here = later.here;
      run = (run.0, later.early, run.2, refl, run.4, later.run);
      late = later.late;
      rest = later.rest;
      whole = run.3 ∙ ap (followed_by run.0) later.whole ∙ in_three run.0 later.early later.late;
    }

pub pass : (before : List Input) (h end : Machine) (action : Action) (after : List Input) (said : Transcript) → Run h (before ++ Asked action ∷ after) said end
    → Passes h before action after said end
pass before h end action after said run =
    let at = comes before h end (Asked action ∷ after) said run in
    record {
      early = at.early;
      here = at.here;
      run = at.run;
      middle = at.rest.0;
      next = at.rest.2;
      came = at.rest.4;
      late = at.rest.1;
      rest = at.rest.5;
      whole = at.whole ∙ ap (followed_by at.early) at.rest.3;
    }

-- the first of some inputs bring bytes
bring-first : (between rest : List Input) → BringBytes (between ++ rest) → BringBytes between
bring-first [] rest bytes = tt
bring-first (Skipped ∷ between) rest bytes = bring-first between rest bytes
bring-first (Malformed ∷ between) rest bytes = bring-first between rest bytes
bring-first (Overlong ∷ between) rest bytes = bring-first between rest bytes
bring-first (Asked action ∷ between) rest bytes = (bytes.0, bring-first between rest bytes.1)

pub keeps_through : (h end : Machine) (before after : List Input) (action : Action) (said : Transcript) (x : Place) → IsComplete h → BringBytes after
    → Run h (before ++ Asked action ∷ after) said end → KeepsThrough h before action after said end x
keeps_through h end before after action said x whole bytes run =
    let passes = pass before h end action after said run in
    record {
      passes = passes;
      keeps = λ covered done between rest split.
          let later = comes between passes.next end rest passes.late (subst (λ inputs. Run passes.next inputs passes.late end) split passes.rest) in (
            later,
            finished_durable passes.here passes.next action x
                (record { whole = whole-run before h passes.here passes.early whole passes.run; said = passes.middle; came = passes.came; done = done }) covered between later.early
                later.here (bring-first between rest (subst BringBytes split bytes)) later.run,
          );
    }
