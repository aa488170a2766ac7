-- Frames of calls: what stays of the lines that they don't change, and of all.
use Rattle.std.proofs.Common.{ℕ, ◌/◌, ◌<◌, refl, sym, subst, ◌∙◌}
use Rattle.line_device.specs.History.{WordWritesBack}
use Rattle.line_device.specs.Medium.{Medium, WritesBack}
use Rattle.line_device.proofs.HistoryLemmas.{word_write_back-refl, word_write_back-trans}
use Rattle.line_words.specs.Words.{IsGoodLine, WritesBackBeside}
use Rattle.page_lines.specs.Turns.{WritesBackOthers}

pub others-refl : (lines : ℕ → Type 0) (m : Medium) → WritesBackOthers lines m m
others-refl lines m = record { count = refl; bad = λ _ _. refl; weak = λ _ _. refl; stays_strong = λ _ h. h; stays_good = λ _ h _. h; word_write_back = λ p _. word_write_back-refl (m.is_weak (p / 8)) (m.history p) }

pub others-trans : (lines : ℕ → Type 0) (a b c : Medium) → WritesBackOthers lines a b → WritesBackOthers lines b c → WritesBackOthers lines a c
others-trans lines a b c x y = record {
  count = y.count ∙ x.count;
  bad = λ n out. y.bad n out ∙ x.bad n out;
  weak = λ n out. y.weak n out ∙ x.weak n out;
  stays_strong = λ n strong. y.stays_strong n (x.stays_strong n strong);
  stays_good = λ n healthy strong. y.stays_good n (x.stays_good n healthy strong) (x.stays_strong n strong);
  word_write_back = λ p out. word_write_back-trans (a.is_weak (p / 8)) (a.history p) (b.history p) (c.history p) (x.word_write_back p out) (subst (λ w. WordWritesBack w (b.history p) (c.history p)) (x.weak (p / 8) out) (y.word_write_back p out));
}

pub others-wider : (some more : ℕ → Type 0) (a b : Medium) → ((n : ℕ) → some n → more n) → WritesBackOthers some a b → WritesBackOthers more a b
others-wider some more a b wider x = record {
  count = x.count;
  bad = λ n out. x.bad n (λ h. out (wider n h));
  weak = λ n out. x.weak n (λ h. out (wider n h));
  stays_strong = x.stays_strong;
  stays_good = x.stays_good;
  word_write_back = λ p out. x.word_write_back p (λ h. out (wider (p / 8) h));
}

pub others-write_back : (lines : ℕ → Type 0) (a b : Medium) → WritesBack a b → WritesBackOthers lines a b
others-write_back lines a b x = record {
  count = x.count;
  bad = λ n _. x.bad n;
  weak = λ n _. x.weak n;
  stays_strong = λ n strong. x.weak n ∙ strong;
  stays_good = λ n healthy _. x.bad n ∙ healthy;
  word_write_back = λ p _. x.word_write_back p;
}

pub others-beside : (lines : ℕ → Type 0) (a b : Medium) → WritesBackBeside lines a b → WritesBackOthers lines a b
others-beside lines a b x = record {
  count = x.count;
  bad = x.bad;
  weak = x.weak;
  stays_strong = x.stays_strong;
  stays_good = λ n healthy _. x.stays_good n healthy;
  word_write_back = x.word_write_back;
}

-- a line that is neither bad nor weak stays so, whether it is changed or not
pub good_line-others : (lines : ℕ → Type 0) (a b : Medium) (line : ℕ) → IsGoodLine a line → WritesBackOthers lines a b → IsGoodLine b line
good_line-others lines a b line good x = record {
  healthy = (subst (λ n. line < n) (sym x.count) good.healthy.0, x.stays_good line good.healthy.1 good.strong);
  strong = x.stays_strong line good.strong;
}
