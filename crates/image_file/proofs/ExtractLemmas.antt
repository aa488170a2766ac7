-- Lines that are read out, one after another.
use Rattle.std.proofs.Common.{◌≡◌, ◌⊎◌, inl, inr, ℕ, zero, suc, ◌+◌, ◌*◌, List, [], ◌∷◌, ◌++◌, length, Some, refl, sym, ap, subst, ◌∙◌, length-append}
use Rattle.std.specs.List.{slice_get}
use Rattle.line_device.specs.Medium.{Medium, WritesBack, Shows, IsLine}
use Rattle.line_device.specs.Panel.{SetsUp}
use Rattle.line_device.specs.Panel.Outcome.{went}
use Rattle.line_device.specs.Device.{Device}
use Rattle.line_device.specs.declared.line.LineState.{LineState}
use Rattle.line_device.specs.declared.line.LineState.TheVariants.{Healthy, Weak, Bad}
use Rattle.line_device.proofs.WriteBackLemmas.{newest-write_back, write_back-refl, write_back-trans}
use Rattle.image_file.proofs.SetUpLemmas.{sets_up-refl, sets_up_then}

-- So many lines are read out, each as it was when the reading began.
pub record Extracting (old now : Device) (done : ℕ) (lines : List LineState) : Type 0 where
  pub number : length lines ≡ done
  pub shows : (n : ℕ) (line : LineState) → slice_get lines n ≡ Some line → Shows old.medium n line
  pub wrote : WritesBack old.medium now.medium
  pub power : now.panel.power ≡ old.panel.power
  pub sets_up : SetsUp went old.panel now.panel

is_line-before : (old now : Medium) (n : ℕ) (bytes : List ℕ) → WritesBack old now → IsLine now n bytes → IsLine old n bytes
is_line-before old now n bytes x is = record { length = is.length; words = λ w below. sym (newest-write_back old now x (8 * n + w)) ∙ is.words w below }

-- what a line shows now, it showed before it was written back
shows-before : (old now : Medium) (n : ℕ) (line : LineState) → WritesBack old now → Shows now n line → Shows old n line
shows-before old now n (Healthy bytes) x s = (sym (x.bad n) ∙ s.0, sym (x.weak n) ∙ s.1, is_line-before old now n bytes x s.2)
shows-before old now n (Weak bytes) x s = (sym (x.bad n) ∙ s.0, sym (x.weak n) ∙ s.1, is_line-before old now n bytes x s.2)
shows-before old now n Bad x s = sym (x.bad n) ∙ s

-- a line of a list with one more is one of the list or the last
pub among : (lines : List LineState) (last line : LineState) (n : ℕ) → slice_get (lines ++ last ∷ []) n ≡ Some line → (slice_get lines n ≡ Some line) ⊎ ((n ≡ length lines) × (last ≡ line))
among [] last line zero is = inr (refl, cc)
among [] last line (suc n) is = absurd (cc)
among (x ∷ lines) last line zero is = inl is
among (x ∷ lines) last line (suc n) is = elim (among lines last line n is) [ inl e ↦ inl e | inr e ↦ inr (ap suc e.0, e.1) ]

pub extracting-starts : (old : Device) (lines : List LineState) → lines ≡ [] → Extracting old old 0 lines
extracting-starts old lines none = rw none (record { number = refl; shows = λ n line is. absurd (cc); wrote = write_back-refl old.medium; power = refl; sets_up = sets_up-refl old.panel })

pub extracting-next : (old now new : Device) (done : ℕ) (lines more : List LineState) (line : LineState) → more ≡ lines ++ line ∷ [] → Shows now.medium done line → WritesBack now.medium new.medium → new.panel.power ≡ now.panel.power → SetsUp went now.panel new.panel
    → Extracting old now done lines → Extracting old new (done + 1) more
extracting-next old now new done lines more line is shown wrote power set e = rw is (record {
  number = length-append lines (line ∷ []) ∙ ap (λ n. n + 1) e.number;
  shows = λ n x at. elim (among lines line x n at) [
    | inl before ↦ e.shows n x before
    | inr last ↦ subst (Shows old.medium n) last.1 (subst (λ k. Shows old.medium k line) (sym (last.0 ∙ e.number)) (shows-before old.medium now.medium done line e.wrote shown))
  ];
  wrote = write_back-trans old.medium now.medium new.medium e.wrote wrote;
  power = power ∙ e.power;
  sets_up = sets_up_then went old.panel now.panel new.panel e.sets_up set;
})
