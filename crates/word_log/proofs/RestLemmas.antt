-- For what stands on a log: what its rest says of words and images, and how both are kept.
use Rattle.std.proofs.Common.{◌≡◌, inl, inr, ℕ, length, sym, ◌∙◌, ap, arith}
use Rattle.line_device.specs.Medium.{Medium, IsSound, IsImage, last_image}
use Rattle.word_log.specs.declared.area.LogArea.{LogArea}
use Rattle.word_log.specs.Area.{gate_place, count_place, entry_place, IsShaped, Fits, IsWhole, IsOf, IsHome}
use Rattle.word_log.specs.Changes.{changed}
use Rattle.word_log.specs.Replay.{entries, listed, Replays}
use Rattle.line_words.specs.Words.{WritesBackOutside}
use Rattle.word_log.specs.Rest.{IsAtRest, IsImageOn, IsReached}
use Rattle.word_log.proofs.EntryLemmas.{entries-cong}
use Rattle.line_words.proofs.FrameLemmas.{is_only-outside}
use Rattle.word_log.proofs.PhaseLemmas.{gate_of, on_device}
use Rattle.word_log.proofs.ReplayLemmas.{replays_closed, replays_open}
use Rattle.word_log.proofs.ReadLemmas.{listed-closed, listed-open}
use Rattle.word_log.proofs.ValidLemmas.{valid_cases}

-- an image of the device is one of log and home
pub image_on-image : (a : LogArea) (m : Medium) (image : ℕ → ℕ) → Fits a m → IsWhole a m → IsImage m image → IsImageOn a m image
image_on-image a m image fits whole is p of = is p (on_device a m p fits of, whole p of)

-- a log at rest has its words in the last image
pub rest-last_image : (a : LogArea) (m : Medium) (words : ℕ → ℕ) (p : ℕ) → Fits a m → IsWhole a m → IsSound m → IsAtRest a m words → IsHome a p → last_image m p ≡ words p
rest-last_image a m words p fits whole sound rest in_home = rest.home p in_home (last_image m p) (sound.last p (on_device a m p fits (inr in_home), whole p (inr in_home)))

-- work elsewhere leaves a log at rest
pub rest-elsewhere : (a : LogArea) (inside : ℕ → Type 0) (words : ℕ → ℕ) (old new : Medium) → ((p : ℕ) → IsOf a p → inside p → ⊥) → Fits a old → IsAtRest a old words → WritesBackOutside inside old new → IsAtRest a new words
rest-elsewhere a inside words old new apart fits rest x = record {
  gate = is_only-outside inside old new (gate_place a) 0 x (apart (gate_place a) (gate_of a old fits)) rest.gate;
  home = λ p in_home. is_only-outside inside old new p (words p) x (apart p (inr in_home)) (rest.home p in_home);
}

pub replays-then : (a : LogArea) (image v w : ℕ → ℕ) → ((p : ℕ) → IsHome a p → v p ≡ w p) → Replays a image v → Replays a image w
replays-then a image v w same replays = record { valid = replays.valid; home = λ p in_home. replays.home p in_home ∙ same p in_home }

-- a replay goes by the words of log and home alone
pub replays-same : (a : LogArea) (v w words : ℕ → ℕ) → IsShaped a → ((p : ℕ) → IsOf a p → v p ≡ w p) → Replays a w words → Replays a v words
replays-same a v w words shape same replays =
    let gate : v (gate_place a) ≡ w (gate_place a) = same (gate_place a) (inl (omega arith, omega (arith, shape.len))) in
    let count : v (count_place a) ≡ w (count_place a) = same (count_place a) (inl (omega arith, omega (arith, shape.len))) in
    elim (valid_cases a w replays.valid) as (λ _. Replays a v words) [
      | inl closed_ ↦
          replays_closed a v words (gate ∙ closed_)
          (λ p in_home. same p (inr in_home) ∙ sym (ap (λ cs. changed cs w p) (listed-closed a w closed_)) ∙ replays.home p in_home)
      | inr open_ ↦
          let cs = listed a w in
          let read : entries w (entry_place a 0) (length cs) ≡ cs = ap (entries w (entry_place a 0)) open_.count ∙ sym (listed-open a w open_.gate) in
          replays-then a v (changed cs w) words replays.home
          (replays_open a cs v w (gate ∙ open_.gate) (count ∙ sym open_.count)
          (entries-cong v w (entry_place a 0) (length cs) (λ p from to. same p (inl (omega arith, omega (arith, shape.len, shape.whole, open_.taken.few)))) ∙ read)
          open_.taken
          (λ p in_home _. same p (inr in_home)))
    ]

-- what an image before replayed to, this one does
pub replays-reached : (a : LogArea) (old : Medium) (image words : ℕ → ℕ) → IsShaped a → (reached : IsReached a old image) → Replays a reached.before words → Replays a image words
replays-reached a old image words shape reached before =
    elim reached.same as (λ _. Replays a image words) [
      | inl same ↦ replays-same a image reached.before words shape same before
      | inr (valid, replays) ↦ replays-then a image _ words before.home replays
    ]
