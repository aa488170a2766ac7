-- What stays where only some words are changed.
use Rattle.std.proofs.Common.{Result, Ok, Err, MatchResult, OnOk, ◌≡◌, ◌⊎◌, inl, inr, ℕ, false, ◌/◌, ◌<◌, [], ◌∷◌, ◌++◌, if◌then◌else◌, refl, sym, ◌∙◌, ap, subst}
use Rattle.std.proofs.lemmas.Bool.{eq-eqb, ne_eqb}
use Rattle.line_device.specs.History.{latest, newest, IsIn, WordWritesBack}
use Rattle.line_device.specs.Medium.{Medium, WritesBack, IsHealthy, last_image, flushed}
use Rattle.line_device.proofs.HistoryLemmas.{word_write_back-refl, word_write_back-trans, newest-word_write_back, is_in-word_write_back, is_in-push, newest-push, is_in-latest}
use Rattle.line_device.proofs.WriteBackLemmas.{write_back-trans, newest-write_back, on_line-in, writes_back-flushed}
use Rattle.line_words.specs.Words.{IsOnly, IsGoodLine, WritesBackOutside, with_word}

pub outside-refl : (inside : ℕ → Type 0) (m : Medium) → WritesBackOutside inside m m
outside-refl inside m = record { count = refl; bad = λ _. refl; weak = λ _. refl; word_write_back = λ p _. word_write_back-refl (m.is_weak (p / 8)) (m.history p) }

pub outside-trans : (inside : ℕ → Type 0) (a b c : Medium) → WritesBackOutside inside a b → WritesBackOutside inside b c → WritesBackOutside inside a c
outside-trans inside a b c x y = record {
  count = y.count ∙ x.count;
  bad = λ n. y.bad n ∙ x.bad n;
  weak = λ n. y.weak n ∙ x.weak n;
  word_write_back = λ p out. word_write_back-trans (a.is_weak (p / 8)) (a.history p) (b.history p) (c.history p) (x.word_write_back p out) (subst (λ w. WordWritesBack w (b.history p) (c.history p)) (x.weak (p / 8)) (y.word_write_back p out));
}

pub outside-wider : (some more : ℕ → Type 0) (a b : Medium) → ((p : ℕ) → some p → more p) → WritesBackOutside some a b → WritesBackOutside more a b
outside-wider some more a b wider x = record { count = x.count; bad = x.bad; weak = x.weak; word_write_back = λ p out. x.word_write_back p (λ h. out (wider p h)) }

pub outside-write_back : (inside : ℕ → Type 0) (a b : Medium) → WritesBack a b → WritesBackOutside inside a b
outside-write_back inside a b x = record { count = x.count; bad = x.bad; weak = x.weak; word_write_back = λ p _. x.word_write_back p }

pub healthy-outside : (inside : ℕ → Type 0) (a b : Medium) (line : ℕ) → IsHealthy a line → WritesBackOutside inside a b → IsHealthy b line
healthy-outside inside a b line h x = (subst (λ n. line < n) (sym x.count) h.0, x.bad line ∙ h.1)

pub good_line-outside : (inside : ℕ → Type 0) (a b : Medium) (line : ℕ) → IsGoodLine a line → WritesBackOutside inside a b → IsGoodLine b line
good_line-outside inside a b line h x = record { healthy = healthy-outside inside a b line h.healthy x; strong = x.weak line ∙ h.strong }

pub good_line-write_back : (a b : Medium) (line : ℕ) → IsGoodLine a line → WritesBack a b → IsGoodLine b line
good_line-write_back a b line h x = good_line-outside (λ _. ⊥) a b line h (outside-write_back (λ _. ⊥) a b x)

-- what a word has stays, or less of it
pub newest-outside : (inside : ℕ → Type 0) (a b : Medium) (p : ℕ) → WritesBackOutside inside a b → (inside p → ⊥) → newest (b.history p) ≡ newest (a.history p)
newest-outside inside a b p x out = newest-word_write_back (a.is_weak (p / 8)) (a.history p) (b.history p) (x.word_write_back p out)

pub is_in-outside : (inside : ℕ → Type 0) (a b : Medium) (p v : ℕ) → WritesBackOutside inside a b → (inside p → ⊥) → IsIn v (b.history p) → IsIn v (a.history p)
is_in-outside inside a b p v x out at = is_in-word_write_back (a.is_weak (p / 8)) v (a.history p) (b.history p) (x.word_write_back p out) at

pub is_only-outside : (inside : ℕ → Type 0) (a b : Medium) (p v : ℕ) → WritesBackOutside inside a b → (inside p → ⊥) → IsOnly v (a.history p) → IsOnly v (b.history p)
is_only-outside inside a b p v x out only w at = only w (is_in-outside inside a b p w x out at)

pub is_only-write_back : (a b : Medium) (p v : ℕ) → WritesBack a b → IsOnly v (a.history p) → IsOnly v (b.history p)
is_only-write_back a b p v x only w at = only w (is_in-word_write_back (a.is_weak (p / 8)) w (a.history p) (b.history p) (x.word_write_back p) at)

-- a word that got a value
pub with_word-in : (m : Medium) (place value : ℕ) → (with_word m place value).history place ≡ m.history place ++ value ∷ []
with_word-in m place value = ap (λ b. if b then m.history place ++ value ∷ [] else m.history place) (eq-eqb place place refl)

pub with_word-out : (m : Medium) (place value p : ℕ) → (p ≡ place → ⊥) → (with_word m place value).history p ≡ m.history p
with_word-out m place value p out = ap (λ b. if b then m.history p ++ value ∷ [] else m.history p) (ne_eqb p place out)

pub outside-stored : (m new : Medium) (place value : ℕ) → WritesBack (with_word m place value) new → WritesBackOutside (λ p. p ≡ place) m new
outside-stored m new place value x = record {
  count = x.count;
  bad = x.bad;
  weak = x.weak;
  word_write_back = λ p out. subst (λ h. WordWritesBack (m.is_weak (p / 8)) h (new.history p)) (with_word-out m place value p out) (x.word_write_back p);
}

pub newest-stored : (m new : Medium) (place value : ℕ) → WritesBack (with_word m place value) new → newest (new.history place) ≡ value
newest-stored m new place value x =
    newest-word_write_back (m.is_weak (place / 8)) ((with_word m place value).history place) (new.history place) (x.word_write_back place)
    ∙ ap newest (with_word-in m place value)
    ∙ newest-push (m.history place) value

pub is_in-stored : (m new : Medium) (place value v : ℕ) → WritesBack (with_word m place value) new → IsIn v (new.history place) → IsIn v (m.history place) ⊎ (v ≡ value)
is_in-stored m new place value v x at =
    is_in-push v value (m.history place)
    (subst (IsIn v) (with_word-in m place value)
    (is_in-word_write_back (m.is_weak (place / 8)) v ((with_word m place value).history place) (new.history place) (x.word_write_back place) at))

-- a line that was persisted
pub write_back-persisted : (m new : Medium) (line : ℕ) → m.is_weak line ≡ false → WritesBack (flushed m line) new → WritesBack m new
write_back-persisted m new line strong x = write_back-trans m (flushed m line) new (writes_back-flushed m line strong) x

pub is_only-persisted : (m new : Medium) (line p : ℕ) → p / 8 ≡ line → WritesBack (flushed m line) new → IsOnly (newest (m.history p)) (new.history p)
is_only-persisted m new line p on x v at =
    is_in-latest v (m.history p)
    (subst (IsIn v) (on_line-in line (λ _ old. latest old) m.history p on)
    (is_in-word_write_back (m.is_weak (p / 8)) v ((flushed m line).history p) (new.history p) (x.word_write_back p) at))

-- one persist more: what was durable before it, and what stands in its line
pub is_only-one_more : (old now new : Medium) (line p : ℕ) → WritesBack old now → old.is_weak line ≡ false → WritesBack (flushed now line) new → IsOnly (newest (old.history p)) (now.history p) ⊎ (p / 8 ≡ line) → IsOnly (newest (old.history p)) (new.history p)
is_only-one_more old now new line p before strong x durable =
    elim durable as (λ _. IsOnly (newest (old.history p)) (new.history p)) [
      | inl was ↦ is_only-write_back now new p (newest (old.history p)) (write_back-persisted now new line (before.weak line ∙ strong) x) was
      | inr on ↦ subst (λ v. IsOnly v (new.history p)) (newest-write_back old now before p) (is_only-persisted now new line p on x)
    ]

pub write_back-one_more : (old now new : Medium) (line : ℕ) → WritesBack old now → old.is_weak line ≡ false → WritesBack (flushed now line) new → WritesBack old new
write_back-one_more old now new line before strong x = write_back-trans old now new before (write_back-persisted now new line (before.weak line ∙ strong) x)

-- a call that stored a word, or failed to
pub outside-store : {A E : Type 0} (r : Result A E) (m new : Medium) (place value : ℕ) → MatchResult r (λ _. WritesBack (with_word m place value) new) (λ _. WritesBack m new) → WritesBackOutside (λ p. p ≡ place) m new
outside-store (Ok x) m new place value h = outside-stored m new place value h
outside-store (Err e) m new place value h = outside-write_back (λ p. p ≡ place) m new h

pub newest-store : {A E : Type 0} (r : Result A E) (m new : Medium) (place value : ℕ) → MatchResult r (λ _. WritesBack (with_word m place value) new) (λ _. WritesBack m new) → OnOk r (newest (new.history place) ≡ value)
newest-store (Ok x) m new place value h = newest-stored m new place value h
newest-store (Err e) m new place value h = tt

-- a call that persisted a line, or failed to
pub write_back-persist : {A E : Type 0} (r : Result A E) (m new : Medium) (line : ℕ) → m.is_weak line ≡ false → MatchResult r (λ _. WritesBack (flushed m line) new) (λ _. WritesBack m new) → WritesBack m new
write_back-persist (Ok x) m new line strong h = write_back-persisted m new line strong h
write_back-persist (Err e) m new line strong h = h

pub is_only-persist : {A E : Type 0} (r : Result A E) (m new : Medium) (line p : ℕ) → p / 8 ≡ line → MatchResult r (λ _. WritesBack (flushed m line) new) (λ _. WritesBack m new) → OnOk r (IsOnly (newest (m.history p)) (new.history p))
is_only-persist (Ok x) m new line p on h = is_only-persisted m new line p on h
is_only-persist (Err e) m new line p on h = tt

-- writing_back keeps the last image, as a whole
pub last_image-write_back : (a b : Medium) → WritesBack a b → last_image b ≡ last_image a
last_image-write_back a b x = λ i p. newest-write_back a b x p i
