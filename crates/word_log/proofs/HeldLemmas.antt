-- Tables that the words of a log hold: kept by work elsewhere, read by images, and turned by a commit.
use Rattle.std.proofs.Common.{◌≡◌, ◌⊎◌, inl, inr, ℕ, List, refl, subst}
use Rattle.line_device.specs.History.{IsIn}
use Rattle.line_device.specs.Medium.{Medium, WritesBack}
use Rattle.line_words.specs.Words.{IsOnly}
use Rattle.line_device.proofs.TornLemmas.{torn-only}
use Rattle.word_log.specs.declared.area.LogArea.{LogArea}
use Rattle.word_log.specs.Area.{IsHome, IsOf, gate_place}
use Rattle.word_log.specs.Changes.{changed}
use Rattle.word_log.specs.Held.{EachReadsTables, EachReplays, IsEither, ReadsTables, RestsWith, Turns}
use Rattle.word_log.specs.Replay.{Replays}
use Rattle.word_log.specs.Rest.{EachImage, IsAtRest}
use Rattle.word_log.proofs.PhaseLemmas.{image_closed, rest-write_back}
use Rattle.word_log.proofs.RestLemmas.{replays-then}

-- the words at rest are known by their home words
pub rest-then : (a : LogArea) (m : Medium) (v w : ℕ → ℕ) → ((p : ℕ) → IsHome a p → v p ≡ w p) → IsAtRest a m v → IsAtRest a m w
rest-then a m v w same rest = record { gate = rest.gate; home = λ p home. subst (λ x. IsOnly x (m.history p)) (same p home) (rest.home p home) }

-- a log whose words have no values more stays at rest
pub rest-kept : (a : LogArea) (words : ℕ → ℕ) (old new : Medium) → IsOf a (gate_place a) → ((p : ℕ) → IsOf a p → (v : ℕ) → IsIn v (new.history p) → IsIn v (old.history p)) → IsAtRest a old words → IsAtRest a new words
rest-kept a words old new gate fewer rest = record {
  gate = λ v at. rest.gate v (fewer (gate_place a) gate v at);
  home = λ p home v at. rest.home p home v (fewer p (inr home) v at);
}

-- and each image replays to them
pub images_at_rest : (a : LogArea) (words : ℕ → ℕ) (m : Medium) → IsOf a (gate_place a) → IsAtRest a m words → EachImage a m (λ image. Replays a image words)
images_at_rest a words m gate rest image is = image_closed a words image m rest.home is (torn-only 0 (image (gate_place a)) (m.history (gate_place a)) rest.gate (is (gate_place a) gate))

module _ {T : Type 0} (a : LogArea) (held : (ℕ → ℕ) → T → Type 0) where
  pub rests-kept : (old new : Medium) (t : T) → IsOf a (gate_place a) → ((p : ℕ) → IsOf a p → (v : ℕ) → IsIn v (new.history p) → IsIn v (old.history p)) → RestsWith a held old t → RestsWith a held new t
  rests-kept old new t gate fewer rests = record { word = rests.word; rest = rest-kept a rests.word old new gate fewer rests.rest; holds = rests.holds }

  pub rests-write_back : (old new : Medium) (t : T) → WritesBack old new → RestsWith a held old t → RestsWith a held new t
  rests-write_back old new t x rests = record { word = rests.word; rest = rest-write_back a rests.word old new rests.rest x; holds = rests.holds }

-- what a commit of changes says of all words at rest, before it ends and at its end
abbrev pub ChangesImages : LogArea → Medium → Medium → List (ℕ × ℕ) → Type 0
ChangesImages a old new changes = (word : ℕ → ℕ) → IsAtRest a old word → EachReplays a new word (changed changes word)

abbrev pub ChangesRest : LogArea → Medium → Medium → List (ℕ × ℕ) → Type 0
ChangesRest a old new changes = (word : ℕ → ℕ) → IsAtRest a old word → IsAtRest a new (changed changes word)

-- by a log whose area is that one
module _ (area a : LogArea) (is : area ≡ a) (old new : Medium) (changes : List (ℕ × ℕ)) where
  of_images : ChangesImages area old new changes → ChangesImages a old new changes
  of_images images = subst (λ b. ChangesImages b old new changes) is images

  of_rest : ChangesRest area old new changes → ChangesRest a old new changes
  of_rest rests = subst (λ b. ChangesRest b old new changes) is rests

  -- tables that it turns into others: wherever the power goes an image reads as these or as those
  module _ {T : Type 0} (held : (ℕ → ℕ) → T → Type 0) (before after : T) (rest : RestsWith a held old before) (turns : Turns a held changes before after) where
    pub commit-images : ChangesImages area old new changes → EachReadsTables a held new (IsEither before after)
    commit-images images image at =
        elim (of_images images rest.word rest.rest image at) as (λ _. ReadsTables a held (IsEither before after) image) [
          | inl was ↦ record { tables = before; is = inl refl; word = rest.word; replays = was; holds = rest.holds }
          | inr now ↦ record { tables = after; is = inr refl; word = changed changes rest.word; replays = now; holds = turns.holds rest.word rest.holds }
        ]

    pub commit-rest : ChangesRest area old new changes → RestsWith a held new after
    commit-rest rests = record { word = changed changes rest.word; rest = of_rest rests rest.word rest.rest; holds = turns.holds rest.word rest.holds }

  -- the same of words that it makes others
  module _ (before after : ℕ → ℕ) (rest : IsAtRest a old before) (turns : (p : ℕ) → IsHome a p → changed changes before p ≡ after p) where
    pub words-images : ChangesImages area old new changes → EachReplays a new before after
    words-images images image at =
        elim (of_images images before rest image at) as (λ _. Replays a image before ⊎ Replays a image after) [
          | inl was ↦ inl was
          | inr now ↦ inr (replays-then a image (changed changes before) after turns now)
        ]

    pub words-rest : ChangesRest area old new changes → IsAtRest a new after
    words-rest rests = rest-then a new (changed changes before) after turns (of_rest rests before rest)
