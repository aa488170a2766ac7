-- What stays where only some words are changed.
use Rattle.std.proofs.Common.{◌≡◌, inl, inr, ℕ, false, ◌+◌, ◌*◌, ◌/◌, ◌<◌, ◌≤◌, IsTrue, sym, ◌∙◌, subst, arith}
use Rattle.line_device.specs.Device.{Device}
use Rattle.line_device.specs.Medium.{Medium}
use Rattle.word_log.specs.declared.area.LogArea.{LogArea}
use Rattle.word_log.specs.Area.{Fits, IsStrong, IsUsable, IsWhole, IsOf, IsHome}
use Rattle.line_words.proofs.FrameLemmas.{good_line-outside}
use Rattle.line_words.specs.Words.{IsGoodLine, WritesBackOutside}

-- what the lines are stays
pub fits-outside : (area : LogArea) (inside : ℕ → Type 0) (a b : Medium) → Fits area a → WritesBackOutside inside a b → Fits area b
fits-outside area inside a b fits x = record {
  shape = fits.shape;
  log = subst (λ n. area.log.start + area.log.len ≤ n) (sym x.count) fits.log;
  home = subst (λ n. area.home.start + area.home.len ≤ 8 * n) (sym x.count) fits.home;
}

pub strong-outside : (area : LogArea) (inside : ℕ → Type 0) (a b : Medium) → IsStrong area a → WritesBackOutside inside a b → IsStrong area b
strong-outside area inside a b strong x p of = x.weak (p / 8) ∙ strong p of

pub whole-outside : (area : LogArea) (inside : ℕ → Type 0) (a b : Medium) → IsWhole area a → WritesBackOutside inside a b → IsWhole area b
whole-outside area inside a b whole x p of = x.bad (p / 8) ∙ whole p of

pub usable-outside : (area : LogArea) (inside : ℕ → Type 0) (a b : Device) → IsUsable area a → IsTrue b.panel.power → WritesBackOutside inside a.medium b.medium → IsUsable area b
usable-outside area inside a b usable on x = record {
  on = on;
  fits = fits-outside area inside a.medium b.medium usable.fits x;
  strong = strong-outside area inside a.medium b.medium usable.strong x;
  whole = whole-outside area inside a.medium b.medium usable.whole x;
}

-- lines of log and home can be worked on
pub log_good_line : (area : LogArea) (m : Medium) (line : ℕ) → Fits area m → IsStrong area m → IsWhole area m → area.log.start ≤ line → line < area.log.start + area.log.len → IsGoodLine m line
log_good_line area m line fits strong whole from to =
    let is : 8 * line / 8 ≡ line = omega arith in
    let of : IsOf area (8 * line) = inl (omega arith, omega arith) in
    record {
      healthy = (omega (arith, fits.log), subst (λ n. m.is_bad n ≡ false) is (whole (8 * line) of));
      strong = subst (λ n. m.is_weak n ≡ false) is (strong (8 * line) of);
    }

pub home_good_line : (area : LogArea) (m : Medium) (p : ℕ) → Fits area m → IsStrong area m → IsWhole area m → IsHome area p → IsGoodLine m (p / 8)
home_good_line area m p fits strong whole home = record {
  healthy = (omega (arith, fits.home, home), whole p (inr home));
  strong = strong p (inr home);
}

pub log_len_some : (area : LogArea) (m : Medium) → Fits area m → 0 < area.log.len
log_len_some area m fits = omega (arith, fits.shape.len)

pub gate_line : (area : LogArea) (inside : ℕ → Type 0) (a b : Medium) → Fits area a → IsStrong area a → IsWhole area a → WritesBackOutside inside a b → IsGoodLine b area.log.start
gate_line area inside a b fits strong whole x =
    good_line-outside inside a b area.log.start
    (log_good_line area a area.log.start fits strong whole (omega arith) (omega (arith, fits.shape.len)))
    x
