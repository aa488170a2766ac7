-- Lines that are written back: what stays of them, and that each effect of a call keeps one write-back after another.
use Rattle.std.proofs.Common.{◌≡◌, inl, inr, ℕ, Bool, true, false, ◌/◌, ◌%◌, ◌<◌, ◌==◌, List, [], ◌∷◌, ◌++◌, length, if◌then◌else◌, refl, sym, ◌∙◌, ap, subst}
use Rattle.std.proofs.lemmas.Bool.{cases_eq, eq-eqb, ne_eqb}
use Rattle.line_device.specs.Word.{word_over, reaches}
use Rattle.line_device.specs.History.{latest, newest, WordWritesBack}
use Rattle.line_device.specs.Medium.{Medium, WritesBack, IsHealthy, IsSound, IsImage, last_image, with_at, on_line, word_stored, stored, renewed, poisoned, flushed, persisted, cleared, IsBetweenWriteBacks}
use Rattle.line_device.proofs.HistoryLemmas.{word_write_back-refl, word_write_back-trans, word_write_back-latest, word_write_back-latest_both, word_write_back-push, newest-word_write_back}
use Rattle.line_device.proofs.TornLemmas.{torn-in, torn-word_write_back}

pub write_back-refl : (m : Medium) → WritesBack m m
write_back-refl m = record { count = refl; bad = λ _. refl; weak = λ _. refl; word_write_back = λ p. word_write_back-refl (m.is_weak (p / 8)) (m.history p) }

pub write_back_same : (a b : Medium) → b ≡ a → WritesBack a b
write_back_same a b same = subst (WritesBack a) (sym same) (write_back-refl a)

pub write_back-trans : (a b c : Medium) → WritesBack a b → WritesBack b c → WritesBack a c
write_back-trans a b c x y = record {
  count = y.count ∙ x.count;
  bad = λ n. y.bad n ∙ x.bad n;
  weak = λ n. y.weak n ∙ x.weak n;
  word_write_back = λ p. word_write_back-trans (a.is_weak (p / 8)) (a.history p) (b.history p) (c.history p) (x.word_write_back p) (subst (λ w. WordWritesBack w (b.history p) (c.history p)) (x.weak (p / 8)) (y.word_write_back p));
}

-- the places of a line, and the others
pub on_line-in : (line : ℕ) (change : ℕ → List ℕ → List ℕ) (history : ℕ → List ℕ) (p : ℕ) → p / 8 ≡ line → on_line line change history p ≡ change (p % 8) (history p)
on_line-in line change history p is = ap (λ b. if b then change (p % 8) (history p) else history p) (eq-eqb (p / 8) line is)

pub on_line-out : (line : ℕ) (change : ℕ → List ℕ → List ℕ) (history : ℕ → List ℕ) (p : ℕ) → (p / 8 ≡ line → ⊥) → on_line line change history p ≡ history p
on_line-out line change history p out = ap (λ b. if b then change (p % 8) (history p) else history p) (ne_eqb (p / 8) line out)

with_at-cong : {A : Type 0} → (f g : ℕ → A) (n : ℕ) (v : A) (k : ℕ) → g k ≡ f k → with_at g n v k ≡ with_at f n v k
with_at-cong {A} f g n v k same = elim (k == n) as (λ b. (if b then v else g k) ≡ (if b then v else f k)) [ true ↦ refl | false ↦ same ]

-- a line's words are changed, each by its values alone
write_back-on_line : (line : ℕ) (change : ℕ → List ℕ → List ℕ) → ((weak : Bool) (w : ℕ) (x y : List ℕ) → WordWritesBack weak x y → WordWritesBack weak (change w x) (change w y)) → (a b : Medium) → WritesBack a b → WritesBack (record a { history = on_line line change a.history }) (record b { history = on_line line change b.history })
write_back-on_line line change keeps a b x = record {
  count = x.count;
  bad = x.bad;
  weak = x.weak;
  word_write_back = λ p.
      let weak = a.is_weak (p / 8) in
      elim (p / 8 == line) as (λ c. WordWritesBack weak (if c then change (p % 8) (a.history p) else a.history p) (if c then change (p % 8) (b.history p) else b.history p)) [
        | true ↦ keeps weak (p % 8) (a.history p) (b.history p) (x.word_write_back p)
        | false ↦ x.word_write_back p
      ];
}

pub write_back-renewed : (line : ℕ) (bad weak : Bool) (words : ℕ → List ℕ) (a b : Medium) → WritesBack a b → WritesBack (renewed a line bad weak words) (renewed b line bad weak words)
write_back-renewed line bad weak words a b x = record {
  count = x.count;
  bad = λ n. with_at-cong a.is_bad b.is_bad line bad n (x.bad n);
  weak = λ n. with_at-cong a.is_weak b.is_weak line weak n (x.weak n);
  word_write_back = λ p.
      elim (p / 8 == line) as (λ c. WordWritesBack (if c then weak else a.is_weak (p / 8)) (if c then words (p % 8) else a.history p) (if c then words (p % 8) else b.history p)) [
        | true ↦ word_write_back-refl weak (words (p % 8))
        | false ↦ x.word_write_back p
      ];
}

word_write_back-word_stored : (at : ℕ) (bytes : List ℕ) (weak : Bool) (w : ℕ) (x y : List ℕ) → WordWritesBack weak x y → WordWritesBack weak (word_stored at bytes w x) (word_stored at bytes w y)
word_write_back-word_stored at bytes weak w x y word_write_back =
    let value = word_over at bytes w in
    let last : value (newest y) ≡ value (newest x) = ap value (newest-word_write_back weak x y word_write_back) in
    elim (reaches at (length bytes) w) as (λ c. WordWritesBack weak (if c then x ++ value (newest x) ∷ [] else x) (if c then y ++ value (newest y) ∷ [] else y)) [
      | true ↦ subst (λ v. WordWritesBack weak (x ++ value (newest x) ∷ []) (y ++ v ∷ [])) (sym last) (word_write_back-push weak x y (value (newest x)) word_write_back)
      | false ↦ word_write_back
    ]

pub write_back-stored : (line at : ℕ) (bytes : List ℕ) (a b : Medium) → WritesBack a b → WritesBack (stored a line at bytes) (stored b line at bytes)
write_back-stored line at bytes = write_back-on_line line (word_stored at bytes) (word_write_back-word_stored at bytes)

pub write_back-flushed : (line : ℕ) (a b : Medium) → WritesBack a b → WritesBack (flushed a line) (flushed b line)
write_back-flushed line = write_back-on_line line (λ _ old. latest old) (λ weak w x y word_write_back. word_write_back-latest_both weak x y word_write_back)

pub write_back-poisoned : (line : ℕ) (a b : Medium) → WritesBack a b → WritesBack (poisoned a line) (poisoned b line)
write_back-poisoned line = write_back-renewed line true false (λ _. [])

pub write_back-cleared : (line : ℕ) (a b : Medium) → WritesBack a b → WritesBack (cleared a line) (cleared b line)
write_back-cleared line = write_back-renewed line false false (λ _. 0 ∷ [])

pub write_back-persisted : (line : ℕ) (a b : Medium) → WritesBack a b → WritesBack (persisted a line) (persisted b line)
write_back-persisted line a b x =
    subst (λ w. WritesBack (persisted a line) (if w then poisoned b line else flushed b line)) (sym (x.weak line))
    (elim (a.is_weak line) as (λ w. WritesBack (if w then poisoned a line else flushed a line) (if w then poisoned b line else flushed b line)) [
      | true ↦ write_back-poisoned line a b x
      | false ↦ write_back-flushed line a b x
    ])

-- a persist of a line that is not weak is itself write-back
pub writes_back-flushed : (m : Medium) (line : ℕ) → m.is_weak line ≡ false → WritesBack m (flushed m line)
writes_back-flushed m line strong = record {
  count = refl;
  bad = λ _. refl;
  weak = λ _. refl;
  word_write_back = λ p.
      elim (cases_eq (p / 8) line) as (λ _. WordWritesBack (m.is_weak (p / 8)) (m.history p) (on_line line (λ _ old. latest old) m.history p)) [
        | inl is ↦
            subst (WordWritesBack (m.is_weak (p / 8)) (m.history p)) (sym (on_line-in line (λ _ old. latest old) m.history p is))
            (word_write_back-latest (m.is_weak (p / 8)) (m.history p) (ap m.is_weak is ∙ strong))
        | inr out ↦
            subst (WordWritesBack (m.is_weak (p / 8)) (m.history p)) (sym (on_line-out line (λ _ old. latest old) m.history p out)) (word_write_back-refl (m.is_weak (p / 8)) (m.history p))
      ];
}

pub persisted-strong : (m : Medium) (line : ℕ) → m.is_weak line ≡ false → persisted m line ≡ flushed m line
persisted-strong m line strong = ap (λ w. if w then poisoned m line else flushed m line) strong

pub persisted-weak : (m : Medium) (line : ℕ) → m.is_weak line ≡ true → persisted m line ≡ poisoned m line
persisted-weak m line weak = ap (λ w. if w then poisoned m line else flushed m line) weak

pub writes_back-persisted : (m : Medium) (line : ℕ) → m.is_weak line ≡ false → WritesBack m (persisted m line)
writes_back-persisted m line strong = subst (WritesBack m) (sym (persisted-strong m line strong)) (writes_back-flushed m line strong)

pub is_healthy-write_back : (a b : Medium) (n : ℕ) → WritesBack a b → IsHealthy a n → IsHealthy b n
is_healthy-write_back a b n x h = (subst (λ c. n < c) (sym x.count) h.0, x.bad n ∙ h.1)

pub is_healthy-back : (a b : Medium) (n : ℕ) → WritesBack a b → IsHealthy b n → IsHealthy a n
is_healthy-back a b n x h = (subst (λ c. n < c) x.count h.0, sym (x.bad n) ∙ h.1)

-- a cut after some writing_back leaves what one before might have left
pub is_image-write_back : (a b : Medium) (image : ℕ → ℕ) → WritesBack a b → IsImage b image → IsImage a image
is_image-write_back a b image x is p healthy =
    torn-word_write_back (a.is_weak (p / 8)) (image p) (a.history p) (b.history p) (x.word_write_back p) (is p (is_healthy-write_back a b (p / 8) x healthy))

pub is_image-last : (m : Medium) → IsSound m → IsImage m (last_image m)
is_image-last m sound p healthy = torn-in (last_image m p) (m.history p) (sound.last p healthy)

pub newest-write_back : (a b : Medium) → WritesBack a b → (p : ℕ) → newest (b.history p) ≡ newest (a.history p)
newest-write_back a b x p = newest-word_write_back (a.is_weak (p / 8)) (a.history p) (b.history p) (x.word_write_back p)

pub is_between_write_backs : (effect : Medium → Medium) → ((a b : Medium) → WritesBack a b → WritesBack (effect a) (effect b)) → IsBetweenWriteBacks effect
is_between_write_backs effect keeps old new =
    (λ x. (old, write_back-refl old, x), λ (between, before, after). write_back-trans (effect old) (effect between) new (keeps old between before) after)
