-- The lines that were looked at after a restart are the image that it left.
use Rattle.std.proofs.Common.{◌≡◌, ℕ, false, ◌+◌, ◌*◌, ◌/◌, ◌%◌, ◌<◌, List, [], ◌∷◌, ◌++◌, length, get_or, Option, Some, refl, sym, ◌∙◌, ap, subst, arith}
use Rattle.std.specs.List.{slice_get}
use Rattle.std.specs.Option.{IfSome}
use Rattle.std.proofs.lemmas.Option.{slice_get-get_or}
use Rattle.line_device.specs.History.{newest}
use Rattle.line_device.specs.Medium.{Medium, IsSound, Shows, Survivors}
use Rattle.line_device.specs.Panel as panel
use Rattle.line_device.specs.Device.{Device, Depicts, Restarted}
use Rattle.line_device.specs.declared.line.Choice.{Choice}
use Rattle.line_device.specs.declared.line.LineState.{LineState}
use Rattle.line_device.specs.declared.line.LineState.TheVariants.{Healthy, Weak, Bad}
use Rattle.line_device.specs.declared.order.Order.{Order}
use Rattle.test_devices.specs.Starts.{is_bad_line, is_weak_line, word_of_line, image_of_lines}

bad_shown : (m : Medium) (n : ℕ) (s : LineState) → Shows m n s → is_bad_line (Some s) ≡ m.is_bad n
bad_shown m n (Healthy bytes) x = sym x.0
bad_shown m n (Weak bytes) x = sym x.0
bad_shown m n Bad x = sym x

weak_shown : (m : Medium) (n : ℕ) (s : LineState) → IsSound m → Shows m n s → is_weak_line (Some s) ≡ m.is_weak n
weak_shown m n (Healthy bytes) sound x = sym x.1
weak_shown m n (Weak bytes) sound x = sym x.1
weak_shown m n Bad sound x = sym (sound.unmarked n x)

word_shown : (m : Medium) (n w : ℕ) (s : LineState) → w < 8 → m.is_bad n ≡ false → Shows m n s → newest (m.history (8 * n + w)) ≡ word_of_line (Some s) w
word_shown m n w (Healthy bytes) below good x = x.2.words w below
word_shown m n w (Weak bytes) below good x = x.2.words w below
word_shown m n w Bad below good x = cc

depicts-lines : (kept unit : ℕ) (choice : Choice) (old m : Medium) (lines : List LineState) → IsSound m → Survivors kept choice old m → length lines ≡ m.count → ((n : ℕ) → n < m.count → IfSome (slice_get lines n) (Shows m n)) → Depicts m (image_of_lines unit lines)
depicts-lines kept unit choice old m lines sound survivors long shows = record {
  count = long;
  bad = λ n below. ap is_bad_line (found n below) ∙ bad_shown m n (line n) (shown n below);
  weak = λ n below. ap is_weak_line (found n below) ∙ weak_shown m n (line n) sound (shown n below);
  words = λ p healthy.
      let one = (survivors.words p (subst (λ c. p / 8 < c) survivors.count healthy.0, sym (survivors.bad (p / 8)) ∙ healthy.1)).1.one in
      let place : 8 * (p / 8) + p % 8 ≡ p = omega arith in
      let word = ap (λ q. newest (m.history q)) (sym place) ∙ word_shown m (p / 8) (p % 8) (line (p / 8)) (omega arith) healthy.1 (shown (p / 8) healthy.0) in
      one ∙ ap (λ v. v ∷ []) (sym (ap newest one) ∙ word ∙ sym (ap (λ o. word_of_line o (p % 8)) (found (p / 8) healthy.0)));
}
  where
    line : ℕ → LineState
    line n = get_or lines n Bad

    found : (n : ℕ) → n < m.count → slice_get lines n ≡ Some (line n)
    found n below = slice_get-get_or lines n Bad (omega arith)

    shown : (n : ℕ) → n < m.count → Shows m n (line n)
    shown n below = subst (λ o. IfSome o (Shows m n)) (found n below) (shows n below)

-- the device as a recorder tells it
abbrev pub telling : List panel.Start → Option Order → Device → Device
telling starts last d = record { medium = d.medium; panel = record d.panel { starts = Some starts; last_order = Some last } }

pub restarted-telling : (unit : ℕ) (choice : Choice) (old new : Device) (start : panel.Start) (starts : List panel.Start) (last : Option Order) (lines : List LineState) → IsSound new.medium → unit ≡ old.panel.unit → Restarted choice old new start → length lines ≡ new.medium.count → ((n : ℕ) → n < new.medium.count → IfSome (slice_get lines n) (Shows new.medium n)) → Restarted choice (telling starts last old) (telling (starts ++ record { choice = choice; image = image_of_lines unit lines } ∷ []) last new) (record { choice = choice; image = image_of_lines unit lines })
restarted-telling unit choice old new start starts last lines sound same r long shows = record {
  lines = r.lines;
  asked = refl;
  unit = same;
  image = depicts-lines old.panel.unit unit choice old.medium new.medium lines sound r.lines long shows;
  panel = ap (λ (p : panel.Panel). record p { starts = Some (starts ++ record { choice = choice; image = image_of_lines unit lines } ∷ []); last_order = Some last }) r.panel;
}
