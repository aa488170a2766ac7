-- What calls that spoil lines leave of the others, and what is served on then.
use Rattle.std.proofs.Common.{◌≡◌, ◌≤◌, ◌/◌, ℕ, Bool, cond, not, List, refl, ap, subst, ◌∙◌, arith}
use Rattle.std.proofs.lemmas.Bool.{ne_eqb}
use Rattle.line_device.specs.History.{WordWritesBack}
use Rattle.line_device.specs.Medium.{Medium, WritesBack, Weakens, renewed, with_at}
use Rattle.line_device.proofs.HistoryLemmas.{is_in-word_write_back, word_write_back-refl}
use Rattle.line_device.proofs.WriteBackLemmas.{on_line-out}
use Rattle.word_tables.specs.Layout.{meta_lines, IsVolumeLine}
use Rattle.word_log.specs.Area.{IsOf}
use Rattle.nvm_model.specs.Lines.{AreStrong}
use Rattle.block_device.proofs.ReadLemmas.{Stays}
use Rattle.page_lines.specs.Turns.{WritesBackOthers}
use Rattle.pm_volume.specs.Area.{volume_area}
use Rattle.pm_volume.specs.Object.{VolumeServes, VolumeState}
use Rattle.pm_volume.proofs.AreaLemmas.{area_in_metadata}
use Rattle.pm_volume.proofs.PlaceLemmas.{volume_behind_metadata}
use Rattle.pm_volume.proofs.StandingLemmas.{volume_serves-kept}
use Rattle.scrub.specs.Others.{WritesBackBut}

pub but-write_back : (lines : ℕ → Type 0) (old new : Medium) → WritesBack old new → WritesBackBut lines old new
but-write_back lines old new x = record { count = x.count; bad = λ n _. x.bad n; weak = λ n _. x.weak n; word_write_back = λ p _. x.word_write_back p }

pub but-refl : (lines : ℕ → Type 0) (m : Medium) → WritesBackBut lines m m
but-refl lines m = record { count = refl; bad = λ _ _. refl; weak = λ _ _. refl; word_write_back = λ p _. word_write_back-refl (m.is_weak (p / 8)) (m.history p) }

pub but-wider : (some more : ℕ → Type 0) (old new : Medium) → ((n : ℕ) → some n → more n) → WritesBackBut some old new → WritesBackBut more old new
but-wider some more old new wider x = record {
  count = x.count;
  bad = λ n out. x.bad n (λ h. out (wider n h));
  weak = λ n out. x.weak n (λ h. out (wider n h));
  word_write_back = λ p out. x.word_write_back p (λ h. out (wider (p / 8) h));
}

-- a clear does no more
pub but-others : (lines : ℕ → Type 0) (old new : Medium) → WritesBackOthers lines old new → WritesBackBut lines old new
but-others lines old new x = record { count = x.count; bad = x.bad; weak = x.weak; word_write_back = x.word_write_back }

with_at-out : (f : ℕ → Bool) (line : ℕ) (v : Bool) (n : ℕ) → (n ≡ line → ⊥) → with_at f line v n ≡ f n
with_at-out f line v n out = ap (λ t. cond t v (f n)) (ne_eqb n line out)

-- a line that was made something else
pub but-renewed : (old new : Medium) (line : ℕ) (bad weak : Bool) (words : ℕ → List ℕ) → WritesBack (renewed old line bad weak words) new → WritesBackBut (λ n. n ≡ line) old new
but-renewed old new line bad weak words x = record {
  count = x.count;
  bad = λ n out. x.bad n ∙ with_at-out old.is_bad line bad n out;
  weak = λ n out. x.weak n ∙ with_at-out old.is_weak line weak n out;
  word_write_back = λ p out.
      subst (λ w. WordWritesBack w (old.history p) (new.history p)) (with_at-out old.is_weak line weak (p / 8) out)
      (subst (λ h. WordWritesBack (with_at old.is_weak line weak (p / 8)) h (new.history p)) (on_line-out line (λ w _. words w) old.history p out) (x.word_write_back p));
}

-- a line that became weak
pub but-weakens : (old new : Medium) (line : ℕ) → Weakens line old new → WritesBackBut (λ n. n ≡ line) old new
but-weakens old new line x = record {
  count = x.write_back.count;
  bad = λ n _. x.write_back.bad n;
  weak = λ n out. x.marks n ∙ with_at-out old.is_weak line (not (old.is_bad line)) n out;
  word_write_back = λ p _. x.write_back.word_write_back p;
}

-- the others stay
pub stays-but : (lines : ℕ → Type 0) (old new : Medium) (n : ℕ) → WritesBackBut lines old new → (lines n → ⊥) → Stays old new n
stays-but lines old new n x out = record {
  bad = x.bad n out;
  word_write_back = λ p is. subst (λ k. WordWritesBack (old.is_weak k) (old.history p) (new.history p)) is (x.word_write_back p (λ h. out (subst lines is h)));
}

-- no line before these becomes weak
pub strong-but : (lines : ℕ → Type 0) (old new : Medium) (count : ℕ) → ((n : ℕ) → lines n → count ≤ n) → WritesBackBut lines old new → AreStrong old count → AreStrong new count
strong-but lines old new count behind x strong n below = x.weak n (λ h. let from = behind n h in absurd (omega arith)) ∙ strong n below

-- work on lines of pages
pub volume_serves-but : (s : VolumeState) (old new : Medium) (lines : ℕ → Type 0) → ((n : ℕ) → lines n → IsVolumeLine s.geo n) → WritesBackBut lines old new → VolumeServes s old → VolumeServes s new
volume_serves-but s old new lines are x serves =
    let behind : (n : ℕ) → lines n → meta_lines s.geo ≤ n = λ n h. (volume_behind_metadata s.geo serves.valid n (are n h)).0 in
    let apart : (p : ℕ) → IsOf (volume_area s.geo) p → lines (p / 8) → ⊥ = λ p of h.
    let meta = area_in_metadata s.geo serves.valid p of in
    let data_ = behind (p / 8) h in
    omega (arith, meta, data_) in
    volume_serves-kept s old new
    (λ p of v at. is_in-word_write_back (old.is_weak (p / 8)) v (old.history p) (new.history p) (x.word_write_back p (apart p of)) at)
    (strong-but lines old new (meta_lines s.geo) behind x serves.strong)
    x.count serves
