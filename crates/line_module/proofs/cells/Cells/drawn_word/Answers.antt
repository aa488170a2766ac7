use Rattle.std.proofs.Common.{◌≡◌, ◌+◌, ◌*◌, ◌<◌, ◌==◌, ◌∷◌, ℕ, [], Some, get_or, length, sym, ◌∙◌, ap}
use Rattle.std.specs.Prelude.{slice_get}
use Rattle.std.proofs.lemmas.Option.{slice_get_read}
use Rattle.line_device.specs.declared.line.Choice.TheVariants.{Firsts, Seed}
use Rattle.line_module.specs.Cells.{cells_medium}
use Rattle.line_module.specs.Chains.{after_durable}
use Rattle.line_module.specs.Held.{history_in}
use Rattle.line_module.specs.Survivors.{drawn_word, survivor_of}
use Rattle.line_module.specs.declared.cells.Cells.{Cells}
use Rattle.line_module.specs.declared.state.State.{State}
use Rattle.line_module.specs.declared.state.State.TheVariants.{Clean, Dirty, Weak}
use Rattle.line_module.proofs.HeldLemmas.{history-line}
use Rattle.line_module.proofs.RestartLemmas.{drawn-line, survivor-one}
use Rattle.line_module.proofs.cells.Cells.drawn_word.Goals as goal

by_state : (s : Cells) (line w unit seed first result : ℕ) (state : State) → w < 8 → slice_get s.states.items line ≡ Some state
    → survivor_of unit Firsts (8 * line + w) ((cells_medium s).history (8 * line + w)) ≡ first ∷ []
    → result ≡ drawn_word (unit == 1) seed (8 * line + w) first (after_durable (Some state) w)
    → survivor_of unit (Seed seed) (8 * line + w) ((cells_medium s).history (8 * line + w)) ≡ result ∷ []
by_state s line w unit seed first result state word at durable drew =
    drawn-line unit seed (8 * line + w) first result (slice_get s.durable line) (Some state) w ((cells_medium s).history (8 * line + w))
    (history-line s.durable s.states.items line w word ∙ ap (λ o. history_in (slice_get s.durable line) o w) at) durable drew

state_of : (s : Cells) (line : ℕ) (state : State) → line < (cells_medium s).count → state ≡ get_or s.states.items line state → slice_get s.states.items line ≡ Some state
state_of s line state within is = slice_get_read s.states.items (length s.durable) line state (sym s.kept.states_each) within is

same_first : {x y : ℕ} → x ∷ [] ≡ y ∷ [] → y ≡ x
same_first e = cc

pub returns-in-Clean : goal.returns-in-Clean
returns-in-Clean c =
    let s = c.args.self.now in
    let line = c.args.line.0 in
    let at = state_of s line c.index.result.now c.requires.within c.index.ensures in
    by_state s line c.args.w c.args.unit c.args.seed c.args.first c.args.first Clean c.requires.word (at ∙ ap Some c.in-Clean.is) c.requires.first
    (same_first (survivor-one c.args.unit (Seed c.args.seed) (8 * line + c.args.w) c.args.first))

pub returns-in-Dirty : goal.returns-in-Dirty
returns-in-Dirty c =
    let s = c.args.self.now in
    let line = c.args.line.0 in
    let at = state_of s line c.index.result.now c.requires.within c.index.ensures in
    by_state s line c.args.w c.args.unit c.args.seed c.args.first c.survivor.result (Dirty c.in-Dirty.chain) c.requires.word (at ∙ ap Some c.in-Dirty.is) c.requires.first c.survivor.ensures

pub returns-in-Weak : goal.returns-in-Weak
returns-in-Weak c =
    let s = c.args.self.now in
    let line = c.args.line.0 in
    let at = state_of s line c.index.result.now c.requires.within c.index.ensures in
    by_state s line c.args.w c.args.unit c.args.seed c.args.first c.survivor-in-Weak.result (Weak c.in-Weak.chain) c.requires.word (at ∙ ap Some c.in-Weak.is) c.requires.first c.survivor-in-Weak.ensures
