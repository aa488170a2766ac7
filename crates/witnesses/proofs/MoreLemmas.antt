-- Storage that may be left so that it passes one test passes another, of some of its units, where each unit that passes the one passes
-- the other.
use Rattle.std.proofs.Common.{◌≡◌, ℕ, ◌==◌, ◌/◌, ◌||◌, Bool, true, not, inl, inr, List, length, Option, Some, None}
use Rattle.std.specs.List.{list_all}
use Rattle.std.proofs.lemmas.Bool.{or_cases, or_left, or_right}
use Rattle.nvm_model.specs.Blocks.{nth}
use Rattle.nvm_model.specs.Cell.{Cell}
use Rattle.nvm_model.specs.Page.{Page, cell_of, fill, persist, put}
use Rattle.nvm_model.specs.Storage.{Block}
use Rattle.word_tables.specs.declared.geometry.Geometry.{Geometry}
use Rattle.script_text.specs.Action.{Action}
use Rattle.cut_places.specs.MachineModel.Commands.{meaning}
use Rattle.cut_places.specs.MachineModel.Meaning.{BlocksLeft, VolumeLeft}
use Rattle.cut_places.specs.MachineModel.Meaning.BlocksLeft.{Same, Either, Mixed}
use Rattle.cut_places.specs.MachineModel.Meaning.VolumeLeft.{Kept, PartStored, PartSynced, AllOrNone, PageByPage}
use Rattle.cut_places.specs.Outcomes.Left.{blocks_may_pass, blocks_pass, volume_may_pass, volume_passes}
use Rattle.cut_places.specs.Outcomes.Ways.{all_pass, each_passes, group_passes, groups_pass}
use Rattle.witnesses.proofs.ListLemmas.{IsAmong, all_from, all_of}

module _ {A : Type 0} (f g : ℕ → A → Bool) (ns ms : List ℕ) (among : (n : ℕ) → IsAmong n ms → IsAmong n ns) (more : (n : ℕ) → IsAmong n ns → (x : A) → f n x ≡ true → g n x ≡ true) where
  -- what each passes all of these pass
  each_of : (p q : ℕ → Bool) → ((n : ℕ) → IsAmong n ns → p n ≡ true → q n ≡ true) → list_all p ns ≡ true → list_all q ms ≡ true
  each_of p q each all = all_from q ms (λ n is. each n (among n is) (all_of p n ns all (among n is)))

  either : (a b c d : Bool) → (a ≡ true → c ≡ true) → (b ≡ true → d ≡ true) → (a || b) ≡ true → (c || d) ≡ true
  either a b c d first second some = elim (or_cases a b some) as (λ _. (c || d) ≡ true) [
    | inl is ↦ or_left c d (first is)
    | inr is ↦ or_right c d (second is)
  ]

  pub all_more : (state : ℕ → A) → all_pass f state ns ≡ true → all_pass g state ms ≡ true
  all_more state all = each_of (λ n. f n (state n)) (λ n. g n (state n)) (λ n is. more n is (state n)) all

  pub each_more : (one other : ℕ → A) → each_passes f one other ns ≡ true → each_passes g one other ms ≡ true
  each_more one other all =
      each_of (λ n. f n (one n) || f n (other n)) (λ n. g n (one n) || g n (other n))
      (λ n is. either (f n (one n)) (f n (other n)) (g n (one n)) (g n (other n)) (more n is (one n)) (more n is (other n))) all

  pub either_more : (one other : ℕ → A) → (all_pass f one ns || all_pass f other ns) ≡ true → (all_pass g one ms || all_pass g other ms) ≡ true
  either_more one other some =
      either (all_pass f one ns) (all_pass f other ns) (all_pass g one ms) (all_pass g other ms) (all_more one) (all_more other) some

  module _ (group_of : ℕ → ℕ) where
    in_group : (k : ℕ) (state : ℕ → A) → group_passes f group_of k state ns ≡ true → group_passes g group_of k state ms ≡ true
    in_group k state all =
        each_of (λ n. not (group_of n == k) || f n (state n)) (λ n. not (group_of n == k) || g n (state n))
        (λ n is. either (not (group_of n == k)) (f n (state n)) (not (group_of n == k)) (g n (state n)) (λ out. out) (more n is (state n))) all

    pub groups_more : (one other : ℕ → A) → groups_pass f group_of one other ns ≡ true → groups_pass g group_of one other ms ≡ true
    groups_more one other all =
        each_of (λ n. group_passes f group_of (group_of n) one ns || group_passes f group_of (group_of n) other ns)
        (λ n. group_passes g group_of (group_of n) one ms || group_passes g group_of (group_of n) other ms)
        (λ n is. either (group_passes f group_of (group_of n) one ns) (group_passes f group_of (group_of n) other ns)
        (group_passes g group_of (group_of n) one ms) (group_passes g group_of (group_of n) other ms)
        (in_group (group_of n) one) (in_group (group_of n) other)) all

module _ (f g : ℕ → Option Cell → Bool) (ns ms : List ℕ) (among : (n : ℕ) → IsAmong n ms → IsAmong n ns) (more : (n : ℕ) → IsAmong n ns → (o : Option Cell) → f n o ≡ true → g n o ≡ true) where
  volume_passes_more : (left : VolumeLeft) (old to : List Page) → volume_passes left f old to ns ≡ true → volume_passes left g old to ms ≡ true
  volume_passes_more Kept old to all = all_more f g ns ms among more (cell_of old) all
  volume_passes_more (PartStored offset bytes) old to some =
      let first = fill offset (length bytes) old in
      let then = put offset bytes first in
      either f g ns ms among more (all_pass f (cell_of old) ns) (each_passes f (cell_of first) (cell_of then) ns)
      (all_pass g (cell_of old) ms) (each_passes g (cell_of first) (cell_of then) ms)
      (all_more f g ns ms among more (cell_of old)) (each_more f g ns ms among more (cell_of first) (cell_of then)) some
  volume_passes_more (PartSynced offset len) old to all = each_more f g ns ms among more (cell_of old) (cell_of (persist offset len old)) all
  volume_passes_more AllOrNone old to some = either_more f g ns ms among more (cell_of old) (cell_of to) some
  volume_passes_more PageByPage old to all = groups_more f g ns ms among more (λ n. n / 64) (cell_of old) (cell_of to) all

  pub volume_more : (geo : Geometry) (o : Option Action) (old : List Page) → volume_may_pass geo o f old ns ≡ true → volume_may_pass geo o g old ms ≡ true
  volume_more geo None old all = all_more f g ns ms among more (cell_of old) all
  volume_more geo (Some action) old all = volume_passes_more ((meaning action).volume_left geo) old ((meaning action).volume geo old) all

module _ (f g : ℕ → Block → Bool) (ns ms : List ℕ) (among : (n : ℕ) → IsAmong n ms → IsAmong n ns) (more : (n : ℕ) → IsAmong n ns → (block : Block) → f n block ≡ true → g n block ≡ true) where
  blocks_pass_more : (left : BlocksLeft) (old to : List Block) → blocks_pass left f old to ns ≡ true → blocks_pass left g old to ms ≡ true
  blocks_pass_more Same old to all = all_more f g ns ms among more (nth old) all
  blocks_pass_more Either old to some = either_more f g ns ms among more (nth old) (nth to) some
  blocks_pass_more Mixed old to all = each_more f g ns ms among more (nth old) (nth to) all

  pub blocks_more : (o : Option Action) (old : List Block) → blocks_may_pass o f old ns ≡ true → blocks_may_pass o g old ms ≡ true
  blocks_more None old all = all_more f g ns ms among more (nth old) all
  blocks_more (Some action) old all = blocks_pass_more (meaning action).blocks_left old ((meaning action).blocks old) all
