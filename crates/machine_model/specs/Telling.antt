-- What a device tells of what was said to it.
use Rattle.std.specs.Prelude.{◌≡◌, ◌+◌, ◌≤◌, ℕ, List, [], ◌∷◌, Option, Some, None}
use Rattle.nvm_base.specs.Counts.{raised}
use Rattle.line_device.specs.Panel.{Panel, ordered, told}
use Rattle.line_device.specs.declared.order.Order.{Order}
use Rattle.line_device.specs.declared.order.Order.TheVariants.{Cut, Fail, Evict}
use Rattle.line_words.specs.declared.interruption.Interruption.{Interruption}
use Rattle.line_words.specs.declared.interruption.Interruption.TheVariants.{Failed, PowerLost}
use Rattle.reply_text.specs.Answer.{Answer}
use Rattle.machine_model.specs.Interrupted.{stop_in}
use Rattle.machine_model.specs.Run.{Transcript}

-- a count after one more for each of these
abbrev pub bumped_by : {A : Type 0} → List A → ℕ → ℕ
bumped_by [] count = count
bumped_by (x ∷ xs) count = bumped_by xs (raised count)

-- the counts of what was armed and of write-backs, after an order
abbrev pub arms_after : Order → ℕ → ℕ
arms_after (Cut calls) count = raised count
arms_after (Fail calls) count = raised count
arms_after (Evict lines) count = count

abbrev pub evicts_after : Order → ℕ → ℕ
evicts_after (Cut calls) count = count
evicts_after (Fail calls) count = count
evicts_after (Evict lines) count = raised count

-- such a count after all these orders
abbrev pub ordered_by : (Order → ℕ → ℕ) → List Order → ℕ → ℕ
ordered_by after [] count = count
ordered_by after (order ∷ orders) count = ordered_by after orders (after order count)

-- the last order, after these
abbrev pub last_of : List Order → Option (Option Order) → Option (Option Order)
last_of [] before = before
last_of (order ∷ orders) before = last_of orders (ordered before order)

-- the counts of failures and of cuts, after what an answer tells
abbrev pub faults_after : Option Interruption → ℕ → ℕ
faults_after None count = count
faults_after (Some Failed) count = raised count
faults_after (Some PowerLost) count = count

abbrev pub cuts_after : Option Interruption → ℕ → ℕ
cuts_after None count = count
cuts_after (Some Failed) count = count
cuts_after (Some PowerLost) count = raised count

-- such a count after all these answers
abbrev pub counted_by : (Option Interruption → ℕ → ℕ) → List Answer → ℕ → ℕ
counted_by after [] count = count
counted_by after (answer ∷ answers) count = counted_by after answers (after (stop_in answer) count)

-- The device tells what was said to it: the starts, in how many restarts, the last order, how often it was armed and how often
-- it was told to write back. Its failures and losses of power are at least those that were answered, its power was cut by no
-- other command, and it was asked for no more than the commands need.
pub record Tells (said : Transcript) (old new : Panel) : Type 0 where
  pub starts : new.starts ≡ told old.starts said.starts
  pub restarts : new.counts.restarts ≡ bumped_by said.starts old.counts.restarts
  pub orders : new.last_order ≡ last_of said.orders old.last_order
  pub arms : new.counts.arms ≡ ordered_by arms_after said.orders old.counts.arms
  pub offs : new.counts.offs ≤ old.counts.offs + said.cuts
  pub faults : counted_by faults_after said.answers old.counts.faults ≤ new.counts.faults
  pub cuts : counted_by cuts_after said.answers old.counts.cuts ≤ new.counts.cuts
  pub calls : new.counts.calls ≤ old.counts.calls + said.spent.calls
  pub persists : new.counts.persists ≤ old.counts.persists + said.spent.persists
  pub evicts : new.counts.evicts ≡ ordered_by evicts_after said.orders old.counts.evicts
  pub disarms : new.counts.disarms ≡ old.counts.disarms
  pub setups : old.counts.setups ≤ new.counts.setups
