-- What a refused restart leaves of lines.
use Rattle.std.proofs.Common.{◌≡◌, ℕ, [], ◌∷◌, subst, ◌∙◌, ◌⊎◌, inl, inr, ◌/◌}
use Rattle.line_device.specs.Medium.{WritesBack, Medium, Waits}
use Rattle.line_device.specs.History.{MayKeep, WordWritesBack}
use Rattle.line_device.proofs.HistoryLemmas.{word_write_back-trans}
use Rattle.line_device.proofs.TornLemmas.{may_keep-part}

-- what a refused restart may leave, it may leave of lines that were written back before
pub waits-after : (unit : ℕ) (old mid new : Medium) → WritesBack old mid → Waits unit mid new → Waits unit old new
waits-after unit old mid new x y = record {
  count = y.count ∙ x.count;
  bad = λ n. y.bad n ∙ x.bad n;
  weak = λ n. y.weak n ∙ x.weak n;
  words = λ p.
      elim (y.words p) as (λ _. WordWritesBack (old.is_weak (p / 8)) (old.history p) (new.history p) ⊎ ((value : ℕ) × MayKeep unit value (old.history p) × (new.history p ≡ value ∷ []))) [
        | inl more ↦ inl (word_write_back-trans (old.is_weak (p / 8)) (old.history p) (mid.history p) (new.history p) (x.word_write_back p) (subst (λ b. WordWritesBack b (mid.history p) (new.history p)) (x.weak (p / 8)) more))
        | inr one ↦ inr (one.0, may_keep-part unit one.0 (mid.history p) (old.history p) (x.word_write_back p).part one.1, one.2)
      ];
}
