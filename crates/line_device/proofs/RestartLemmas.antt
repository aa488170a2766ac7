-- Restarts after which each word has its first value, or its last one.
use Rattle.std.proofs.Common.{◌≡◌, inl, ℕ, Bool, List, [], ◌∷◌, ◌/◌, ◌<◌, take, refl, sym, ◌∙◌, ap, subst, arith}
use Rattle.line_device.specs.History.{latest, newest, IsIn}
use Rattle.line_device.specs.Medium.{Medium, IsSound, Survives, Survivors, last_image}
use Rattle.line_device.specs.Panel.{Image}
use Rattle.line_device.specs.Device.{Device, Depicts, Waited}
use Rattle.line_device.specs.Cells.{kept}
use Rattle.line_device.specs.declared.line.Choice.{Choice}
use Rattle.line_device.specs.declared.line.Choice.TheVariants.{Firsts, Lasts, Seed}
use Rattle.line_device.proofs.HistoryLemmas.{latest-cons, is_in-newest, word_write_back-refl}
use Rattle.line_device.proofs.TornLemmas.{may_keep-in}
use Rattle.line_device.proofs.PanelLemmas.{arms_nothing-refl}

survives-first : (unit : ℕ) (choice : Choice) (weak : Bool) (h : List ℕ) → IsIn (newest h) h → (choice ≡ Lasts → ⊥) → (value : ℕ) × Survives unit choice weak h (take 1 h) value
survives-first unit choice weak [] some other = absurd some
survives-first unit choice weak (x ∷ xs) some other = (x, record { one = refl; was = may_keep-in unit x (x ∷ xs) (inl refl); last = λ is. absurd (other is); whole = λ _. inl refl; first = λ _ _. refl })

survives-last : (unit : ℕ) (choice : Choice) (weak : Bool) (h : List ℕ) → IsIn (newest h) h → (choice ≡ Firsts → ⊥) → (value : ℕ) × Survives unit choice weak h (latest h) value
survives-last unit choice weak [] some other = absurd some
survives-last unit choice weak (x ∷ xs) some other =
    (newest (x ∷ xs), record { one = latest-cons x xs; was = may_keep-in unit (newest (x ∷ xs)) (x ∷ xs) (is_in-newest x xs); last = λ _. refl; whole = λ is. absurd (other is); first = λ is _. absurd (other is) })

pub survivors-kept : (unit : ℕ) (choice : Choice) (m : Medium) → IsSound m → Survivors unit choice m (kept choice m)
survivors-kept unit Firsts m sound = record {
  count = refl;
  bad = λ n. refl;
  weak = λ n. refl;
  lost = λ p none. ap (take 1) none;
  words = λ p healthy. survives-first unit Firsts (m.is_weak (p / 8)) (m.history p) (sound.last p healthy) (λ is. cc);
}
survivors-kept unit Lasts m sound = record {
  count = refl;
  bad = λ n. refl;
  weak = λ n. refl;
  lost = λ p none. ap latest none;
  words = λ p healthy. survives-last unit Lasts (m.is_weak (p / 8)) (m.history p) (sound.last p healthy) (λ is. cc);
}
survivors-kept unit (Seed seed) m sound = record {
  count = refl;
  bad = λ n. refl;
  weak = λ n. refl;
  lost = λ p none. ap (take 1) none;
  words = λ p healthy. survives-first unit (Seed seed) (m.is_weak (p / 8)) (m.history p) (sound.last p healthy) (λ is. cc);
}

-- the image that a restart left
abbrev pub image_of : ℕ → Medium → Image
image_of unit m = record { count = m.count; is_bad = m.is_bad; is_weak = m.is_weak; unit = unit; word = last_image m }

pub depicts-survivors : (unit : ℕ) (choice : Choice) (old new : Medium) → Survivors unit choice old new → Depicts new (image_of unit new)
depicts-survivors unit choice old new x = record {
  count = refl;
  bad = λ n _. refl;
  weak = λ n _. refl;
  words = λ p healthy.
      let one = (x.words p (subst (λ c. p / 8 < c) x.count healthy.0, sym (x.bad (p / 8)) ∙ healthy.1)).1.one in
      one ∙ ap (λ v. v ∷ []) (sym (ap newest one));
}

-- a restart that was refused at once
-- what an image shows, it shows under any unit
pub depicts-any_unit : (m : Medium) (image : Image) (unit : ℕ) → Depicts m image → Depicts m (record image { unit = unit })
depicts-any_unit m image unit x = record { count = x.count; bad = x.bad; weak = x.weak; words = x.words }

pub waited-refl : (d : Device) → Waited d d
waited-refl d = record {
  lines = record { count = refl; bad = λ n. refl; weak = λ n. refl; words = λ p. inl (word_write_back-refl (d.medium.is_weak (p / 8)) (d.medium.history p)) };
  panel = record { power = refl; armed = arms_nothing-refl d.panel; restarts = omega arith; once = omega arith; counts = refl; starts = refl; last_order = refl; unit = refl; loans = refl };
}

pub waited_same : (a b : Device) → b ≡ a → Waited a b
waited_same a b same = subst (Waited a) (sym same) (waited-refl a)
