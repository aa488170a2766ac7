-- What stays beside lines that are changed, and what a line has that was given new bytes.
use Rattle.std.proofs.Common.{Result, Ok, Err, MatchResult, OnOk, ◌≡◌, ℕ, Bool, true, false, ◌==◌, ◌+◌, ◌-◌, ◌*◌, ◌/◌, ◌%◌, ◌<◌, ◌≤◌, List, [], ◌∷◌, ◌++◌, length, get_or, if◌then◌else◌, refl, sym, ◌∙◌, ap, subst, arith}
use Rattle.std.proofs.lemmas.Bool.{eq-eqb, ne_eqb}
use Rattle.line_device.specs.Word.{word_at, word_over}
use Rattle.line_device.specs.History.{latest, newest, WordWritesBack}
use Rattle.line_device.specs.Medium.{Medium, WritesBack, cleared, flushed, stored, with_at, word_stored}
use Rattle.line_device.proofs.HistoryLemmas.{word_write_back-refl, word_write_back-trans, newest-push, is_in-word_write_back}
use Rattle.line_device.proofs.WriteBackLemmas.{newest-write_back, on_line-in, on_line-out}
use Rattle.line_device.proofs.WordLemmas.{reaches-in, word_from-cong, word_over-whole}
use Rattle.line_words.specs.Words.{HoldsLine, IsOnly, IsGoodLine, WritesBackBeside, WritesBackOutside}
use Rattle.line_words.proofs.FrameLemmas.{is_only-persisted}

pub beside-refl : (lines : ℕ → Type 0) (m : Medium) → WritesBackBeside lines m m
beside-refl lines m = record { count = refl; stays_good = λ _ h. h; stays_strong = λ _ h. h; bad = λ _ _. refl; weak = λ _ _. refl; word_write_back = λ p _. word_write_back-refl (m.is_weak (p / 8)) (m.history p) }

pub beside-trans : (lines : ℕ → Type 0) (a b c : Medium) → WritesBackBeside lines a b → WritesBackBeside lines b c → WritesBackBeside lines a c
beside-trans lines a b c x y = record {
  count = y.count ∙ x.count;
  stays_good = λ n h. y.stays_good n (x.stays_good n h);
  stays_strong = λ n h. y.stays_strong n (x.stays_strong n h);
  bad = λ n out. y.bad n out ∙ x.bad n out;
  weak = λ n out. y.weak n out ∙ x.weak n out;
  word_write_back = λ p out. word_write_back-trans (a.is_weak (p / 8)) (a.history p) (b.history p) (c.history p) (x.word_write_back p out) (subst (λ w. WordWritesBack w (b.history p) (c.history p)) (x.weak (p / 8) out) (y.word_write_back p out));
}

pub beside-wider : (some more : ℕ → Type 0) (a b : Medium) → ((n : ℕ) → some n → more n) → WritesBackBeside some a b → WritesBackBeside more a b
beside-wider some more a b wider x = record {
  count = x.count;
  stays_good = x.stays_good;
  stays_strong = x.stays_strong;
  bad = λ n out. x.bad n (λ h. out (wider n h));
  weak = λ n out. x.weak n (λ h. out (wider n h));
  word_write_back = λ p out. x.word_write_back p (λ h. out (wider (p / 8) h));
}

pub beside-write_back : (lines : ℕ → Type 0) (a b : Medium) → WritesBack a b → WritesBackBeside lines a b
beside-write_back lines a b x = record { count = x.count; stays_good = λ n h. x.bad n ∙ h; stays_strong = λ n h. x.weak n ∙ h; bad = λ n _. x.bad n; weak = λ n _. x.weak n; word_write_back = λ p _. x.word_write_back p }

pub beside-outside : (places lines : ℕ → Type 0) (a b : Medium) → ((p : ℕ) → places p → lines (p / 8)) → WritesBackOutside places a b → WritesBackBeside lines a b
beside-outside places lines a b within x = record {
  count = x.count;
  stays_good = λ n h. x.bad n ∙ h;
  stays_strong = λ n h. x.weak n ∙ h;
  bad = λ n _. x.bad n;
  weak = λ n _. x.weak n;
  word_write_back = λ p out. x.word_write_back p (λ h. out (within p h));
}

-- a line stored, flushed or cleared
pub beside-stored : (m new : Medium) (line at : ℕ) (bytes : List ℕ) → WritesBack (stored m line at bytes) new → WritesBackBeside (λ n. n ≡ line) m new
beside-stored m new line at bytes x = record {
  count = x.count;
  stays_good = λ n h. x.bad n ∙ h;
  stays_strong = λ n h. x.weak n ∙ h;
  bad = λ n _. x.bad n;
  weak = λ n _. x.weak n;
  word_write_back = λ p out. subst (λ h. WordWritesBack (m.is_weak (p / 8)) h (new.history p)) (on_line-out line (word_stored at bytes) m.history p out) (x.word_write_back p);
}

pub beside-flushed : (m new : Medium) (line : ℕ) → WritesBack (flushed m line) new → WritesBackBeside (λ n. n ≡ line) m new
beside-flushed m new line x = record {
  count = x.count;
  stays_good = λ n h. x.bad n ∙ h;
  stays_strong = λ n h. x.weak n ∙ h;
  bad = λ n _. x.bad n;
  weak = λ n _. x.weak n;
  word_write_back = λ p out. subst (λ h. WordWritesBack (m.is_weak (p / 8)) h (new.history p)) (on_line-out line (λ _ old. latest old) m.history p out) (x.word_write_back p);
}

pub with_at-out : (f : ℕ → Bool) (line : ℕ) (v : Bool) (n : ℕ) → (n ≡ line → ⊥) → with_at f line v n ≡ f n
with_at-out f line v n out = ap (λ b. if b then v else f n) (ne_eqb n line out)

with_at-in : (f : ℕ → Bool) (line : ℕ) (v : Bool) → with_at f line v line ≡ v
with_at-in f line v = ap (λ b. if b then v else f line) (eq-eqb line line refl)

pub with_at-false : (f : ℕ → Bool) (line n : ℕ) → f n ≡ false → with_at f line false n ≡ false
with_at-false f line n h = elim (n == line) as (λ b. (if b then false else f n) ≡ false) [ true ↦ refl | false ↦ h ]

pub beside-cleared : (m new : Medium) (line : ℕ) → WritesBack (cleared m line) new → WritesBackBeside (λ n. n ≡ line) m new
beside-cleared m new line x = record {
  count = x.count;
  stays_good = λ n h. x.bad n ∙ with_at-false m.is_bad line n h;
  stays_strong = λ n h. x.weak n ∙ with_at-false m.is_weak line n h;
  bad = λ n out. x.bad n ∙ with_at-out m.is_bad line false n out;
  weak = λ n out. x.weak n ∙ with_at-out m.is_weak line false n out;
  word_write_back = λ p out.
      subst (λ w. WordWritesBack w (m.history p) (new.history p)) (with_at-out m.is_weak line false (p / 8) out)
      (subst (λ h. WordWritesBack ((cleared m line).is_weak (p / 8)) h (new.history p)) (on_line-out line (λ _ _. 0 ∷ []) m.history p out) (x.word_write_back p));
}

good_line-cleared : (m new : Medium) (line : ℕ) → line < m.count → WritesBack (cleared m line) new → IsGoodLine new line
good_line-cleared m new line there x = record {
  healthy = (subst (λ n. line < n) (sym x.count) there, x.bad line ∙ with_at-in m.is_bad line false);
  strong = x.weak line ∙ with_at-in m.is_weak line false;
}

-- calls that did so, or failed to
pub beside-store : {A E : Type 0} (r : Result A E) (m new : Medium) (line at : ℕ) (bytes : List ℕ) → MatchResult r (λ _. WritesBack (stored m line at bytes) new) (λ _. WritesBack m new) → WritesBackBeside (λ n. n ≡ line) m new
beside-store (Ok x) m new line at bytes h = beside-stored m new line at bytes h
beside-store (Err e) m new line at bytes h = beside-write_back (λ n. n ≡ line) m new h

pub beside-persist : {A E : Type 0} (r : Result A E) (m new : Medium) (line : ℕ) → MatchResult r (λ _. WritesBack (flushed m line) new) (λ _. WritesBack m new) → WritesBackBeside (λ n. n ≡ line) m new
beside-persist (Ok x) m new line h = beside-flushed m new line h
beside-persist (Err e) m new line h = beside-write_back (λ n. n ≡ line) m new h

pub beside-clear : {A E : Type 0} (r : Result A E) (m new : Medium) (line : ℕ) → MatchResult r (λ _. WritesBack (cleared m line) new) (λ _. WritesBack m new) → WritesBackBeside (λ n. n ≡ line) m new
beside-clear (Ok x) m new line h = beside-cleared m new line h
beside-clear (Err e) m new line h = beside-write_back (λ n. n ≡ line) m new h

pub good_line-clear : {A E : Type 0} (r : Result A E) (m new : Medium) (line : ℕ) → line < m.count → MatchResult r (λ _. WritesBack (cleared m line) new) (λ _. WritesBack m new) → OnOk r (IsGoodLine new line)
good_line-clear (Ok x) m new line there h = good_line-cleared m new line there h
good_line-clear (Err e) m new line there h = tt

-- a word of a line whose bytes were all stored
newest-line : (m new : Medium) (line w : ℕ) (bytes : List ℕ) → length bytes ≡ 64 → w < 8 → WritesBack (stored m line 0 bytes) new → newest (new.history (8 * line + w)) ≡ word_at bytes w
newest-line m new line w bytes whole h x =
    let p : ℕ = 8 * line + w in
    let on : p / 8 ≡ line = omega arith in
    let at : p % 8 ≡ w = omega arith in
    let old : ℕ = newest (m.history p) in
    newest-write_back (stored m line 0 bytes) new x p
    ∙ ap newest (on_line-in line (word_stored 0 bytes) m.history p on)
    ∙ ap (λ v. newest (word_stored 0 bytes v (m.history p))) at
    ∙ ap (λ b. newest (if b then m.history p ++ word_over 0 bytes w old ∷ [] else m.history p)) (reaches-in 0 (length bytes) w (omega arith) (omega arith))
    ∙ newest-push (m.history p) (word_over 0 bytes w old)
    ∙ word_over-whole 0 w old bytes (omega arith) (omega arith)
    ∙ word_from-cong (λ k. get_or bytes (8 * w + k - 0) 0) (λ k. get_or bytes (8 * w + k) 0) (λ k _. let same : 8 * w + k - 0 ≡ 8 * w + k = omega arith in ap (λ i. get_or bytes i 0) same)

-- a line stored whole and persisted
pub holds-persisted : (a b c : Medium) (line : ℕ) (bytes : List ℕ) → IsGoodLine a line → length bytes ≡ 64 → WritesBack (stored a line 0 bytes) b → WritesBack (flushed b line) c → HoldsLine c line bytes
holds-persisted a b c line bytes h whole x y = record {
  good_line = record {
    healthy = (subst (λ n. line < n) (sym (y.count ∙ x.count)) h.healthy.0, y.bad line ∙ x.bad line ∙ h.healthy.1);
    strong = y.weak line ∙ x.weak line ∙ h.strong;
  };
  words = λ w less.
      let on : (8 * line + w) / 8 ≡ line = omega arith in
      subst (λ v. IsOnly v (c.history (8 * line + w))) (newest-line a b line w bytes whole less x) (is_only-persisted b c line (8 * line + w) on y);
}

pub holds-persist : {A E : Type 0} (r : Result A E) (a b c : Medium) (line : ℕ) (bytes : List ℕ) → IsGoodLine a line → length bytes ≡ 64 → WritesBack (stored a line 0 bytes) b → MatchResult r (λ _. WritesBack (flushed b line) c) (λ _. WritesBack b c) → OnOk r (HoldsLine c line bytes)
holds-persist (Ok x) a b c line bytes h whole before y = holds-persisted a b c line bytes h whole before y
holds-persist (Err e) a b c line bytes h whole before y = tt

-- a line beside those that are changed
pub good_line-beside : (lines : ℕ → Type 0) (a b : Medium) (line : ℕ) → IsGoodLine a line → WritesBackBeside lines a b → (lines line → ⊥) → IsGoodLine b line
good_line-beside lines a b line h x out = record { healthy = (subst (λ n. line < n) (sym x.count) h.healthy.0, x.bad line out ∙ h.healthy.1); strong = x.weak line out ∙ h.strong }

pub is_only-beside : (lines : ℕ → Type 0) (a b : Medium) (p v : ℕ) → WritesBackBeside lines a b → (lines (p / 8) → ⊥) → IsOnly v (a.history p) → IsOnly v (b.history p)
is_only-beside lines a b p v x out only w at = only w (is_in-word_write_back (a.is_weak (p / 8)) w (a.history p) (b.history p) (x.word_write_back p out) at)

pub holds-beside : (lines : ℕ → Type 0) (a b : Medium) (line : ℕ) (bytes : List ℕ) → HoldsLine a line bytes → WritesBackBeside lines a b → (lines line → ⊥) → HoldsLine b line bytes
holds-beside lines a b line bytes h x out = record {
  good_line = good_line-beside lines a b line h.good_line x out;
  words = λ w less.
      let on : (8 * line + w) / 8 ≡ line = omega arith in
      is_only-beside lines a b (8 * line + w) (word_at bytes w) x (λ inside. out (subst lines on inside)) (h.words w less);
}

-- one line more of those that follow each other
pub beside-one_more : (a b c : Medium) (first k end : ℕ) → first + k < end → WritesBackBeside (λ n. (first ≤ n) × (n < first + k)) a b → WritesBackBeside (λ n. n ≡ first + k) b c → WritesBackBeside (λ n. (first ≤ n) × (n < end)) a c
beside-one_more a b c first k end less x y =
    let all : ℕ → Type 0 = λ n. (first ≤ n) × (n < end) in
    beside-trans all a b c
    (beside-wider (λ n. (first ≤ n) × (n < first + k)) all a b (λ n h. (h.0, omega (arith, h.1))) x)
    (beside-wider (λ n. n ≡ first + k) all b c (λ n h. (omega (arith, h), omega (arith, h))) y)
