-- What the steps of a commit leave, from what their calls leave.
use Rattle.std.proofs.Common.{Result, Ok, Err, MatchResult, OnOk, ◌≡◌, ◌⊎◌, inl, inr, ℕ, ◌+◌, ◌*◌, ◌/◌, ◌<◌, ◌≤◌, List, [], ◌∷◌, ◌++◌, length, take, get_or, sym, ◌∙◌, ap, subst, arith}
use Rattle.std.proofs.lemmas.Bool.{cases_eq}
use Rattle.std.proofs.lemmas.List.{take_more}
use Rattle.line_device.specs.History.{IsIn}
use Rattle.line_device.specs.Medium.{Medium, WritesBack, last_image, flushed}
use Rattle.line_device.proofs.HistoryLemmas.{is_in-word_write_back}
use Rattle.line_device.proofs.WriteBackLemmas.{newest-write_back}
use Rattle.word_log.specs.declared.area.LogArea.{LogArea}
use Rattle.word_log.specs.Area.{Fits, IsStrong, IsWhole, gate_place, count_place, entry_place}
use Rattle.line_words.specs.Words.{WritesBackOutside, with_word}
use Rattle.line_words.specs.Words.{IsOnly}
use Rattle.word_log.specs.Changes.{changed, IsDistinct}
use Rattle.word_log.specs.Replay.{entries}
use Rattle.word_log.specs.Protocol.{IsBehindGate, IsRecorded}
use Rattle.word_log.proofs.ChangeLemmas.{changed-push_at, changed-push_other, distinct_at}
use Rattle.word_log.proofs.EntryLemmas.{entries-cong, entries-push}
use Rattle.word_log.proofs.FrameLemmas.{gate_line}
use Rattle.line_words.proofs.FrameLemmas.{outside-trans, outside-wider, outside-write_back, outside-stored, outside-store, newest-stored, newest-store, newest-outside, is_in-stored, write_back-persist, is_only-persist}

-- the gate was stored, and its line persisted
pub record SetsGate {A E : Type 0} (r : Result A E) (a : LogArea) (gate : ℕ) (old new : Medium) : Type 0 where
  pub outside : WritesBackOutside (λ p. p ≡ gate_place a) old new
  pub either : (x : ℕ) → IsIn x (new.history (gate_place a)) → IsIn x (old.history (gate_place a)) ⊎ (x ≡ gate)
  pub ok : OnOk r (IsOnly gate (new.history (gate_place a)))

pub sets_gate : {A E : Type 0} (r : Result A E) (a : LogArea) (gate place : ℕ) (old now new : Medium) → Fits a old → IsStrong a old → IsWhole a old → place ≡ gate_place a → WritesBack (with_word old place gate) now → MatchResult r (λ _. WritesBack (flushed now a.log.start) new) (λ _. WritesBack now new) → SetsGate r a gate old new
sets_gate r a gate place old now new fits strong whole is stored persisted =
    let at_gate = subst (λ p. WritesBack (with_word old p gate) now) is stored in
    let outside = outside-stored old now (gate_place a) gate at_gate in
    let line = gate_line a (λ p. p ≡ gate_place a) old now fits strong whole outside in
    let written_back = write_back-persist r now new a.log.start line.strong persisted in
    let on : gate_place a / 8 ≡ a.log.start = omega arith in
    record {
      outside = outside-trans (λ p. p ≡ gate_place a) old now new outside (outside-write_back (λ p. p ≡ gate_place a) now new written_back);
      either = λ x at. is_in-stored old now (gate_place a) gate x at_gate (is_in-word_write_back (now.is_weak (gate_place a / 8)) x (now.history (gate_place a)) (new.history (gate_place a)) (written_back.word_write_back (gate_place a)) at);
      ok =
          subst (λ v. OnOk r (IsOnly v (new.history (gate_place a)))) (newest-stored old now (gate_place a) gate at_gate)
          (is_only-persist r now new a.log.start (gate_place a) on persisted);
    }

-- two words next to each other were stored
pub record StoresPair {A E : Type 0} (r : Result A E) (at place value : ℕ) (old new : Medium) : Type 0 where
  pub outside : WritesBackOutside (λ p. (at ≤ p) × (p < at + 2)) old new
  pub first : OnOk r (last_image new at ≡ place)
  pub second : OnOk r (last_image new (at + 1) ≡ value)

pub on_ok-then : {A E P Q : Type 0} (r : Result A E) → OnOk r P → (P → Q) → OnOk r Q
on_ok-then (Ok x) p then_ = then_ p
on_ok-then (Err e) p then_ = tt

stays_ok : {A E : Type 0} {P : Type 0} (r : Result A E) → P → OnOk r P
stays_ok (Ok x) p = p
stays_ok (Err e) p = tt

pub stores_pair : {A E : Type 0} (r : Result A E) (at place value : ℕ) (old now new : Medium) → WritesBack (with_word old at place) now → MatchResult r (λ _. WritesBack (with_word now (at + 1) value) new) (λ _. WritesBack now new) → StoresPair r at place value old new
stores_pair r at place value old now new first second =
    let inside : ℕ → Type 0 = λ p. (at ≤ p) × (p < at + 2) in
    let one = outside-stored old now at place first in
    let two = outside-store r now new (at + 1) value second in
    record {
      outside =
          outside-trans inside old now new
          (outside-wider (λ p. p ≡ at) inside old now (λ p e. (omega arith, omega arith)) one)
          (outside-wider (λ p. p ≡ at + 1) inside now new (λ p e. (omega arith, omega arith)) two);
      first = stays_ok r (newest-outside (λ p. p ≡ at + 1) now new at two (λ e. omega arith) ∙ newest-stored old now at place first);
      second = newest-store r now new (at + 1) value second;
    }

-- one entry more was stored
pub entries-more : (a : LogArea) (cs : List (ℕ × ℕ)) (k : ℕ) (d : ℕ × ℕ) (now new : Medium) → k < length cs → entries (last_image now) (entry_place a 0) k ≡ take k cs → WritesBackOutside (λ p. (entry_place a k ≤ p) × (p < entry_place a (k + 1))) now new → last_image new (entry_place a k) ≡ (get_or cs k d).0 → last_image new (entry_place a k + 1) ≡ (get_or cs k d).1 → entries (last_image new) (entry_place a 0) (k + 1) ≡ take (k + 1) cs
entries-more a cs k d now new below before outside first second =
    let at = entry_place a 0 in
    let w = last_image new in
    let is : at + 2 * k ≡ entry_place a k = omega arith in
    let kept : entries w at k ≡ take k cs =
    entries-cong w (last_image now) at k (λ p from to. newest-outside (λ q. (entry_place a k ≤ q) × (q < entry_place a (k + 1))) now new p outside (λ inside. omega (arith, inside))) ∙ before in
    entries-push w at k
    ∙ ap (λ q. entries w at k ++ (w q, w (q + 1)) ∷ []) is
    ∙ ap (λ es. es ++ (w (entry_place a k), w (entry_place a k + 1)) ∷ []) kept
    ∙ ap (λ v. take k cs ++ (v, w (entry_place a k + 1)) ∷ []) first
    ∙ ap (λ v. take k cs ++ ((get_or cs k d).0, v) ∷ []) second
    ∙ sym (take_more cs k d below)

-- one home word more was stored
pub changed-more : (cs : List (ℕ × ℕ)) (i : ℕ) (d : ℕ × ℕ) (w : ℕ → ℕ) (now new : Medium) → i < length cs → IsDistinct cs → ((p : ℕ) → last_image now p ≡ changed (take i cs) w p) → WritesBack (with_word now (get_or cs i d).0 (get_or cs i d).1) new → (p : ℕ) → last_image new p ≡ changed (take (i + 1) cs) w p
changed-more cs i d w now new below distinct before stored p =
    let c = get_or cs i d in
    let more = sym (ap (λ ds. changed ds w p) (take_more cs i d below)) in
    elim (cases_eq p c.0) as (λ _. last_image new p ≡ changed (take (i + 1) cs) w p) [
      | inl is ↦
          subst (λ q. last_image new q ≡ changed (take i cs ++ c ∷ []) w q) (sym is)
          (newest-stored now new c.0 c.1 stored ∙ sym (changed-push_at (take i cs) c w (distinct_at cs i d distinct below)))
          ∙ more
      | inr other ↦
          newest-outside (λ q. q ≡ c.0) now new p (outside-stored now new c.0 c.1 stored) other
          ∙ before p
          ∙ sym (changed-push_other (take i cs) c w p other)
          ∙ more
    ]

-- entries and count were stored, and their lines persisted
pub record WritesEntries {A E : Type 0} (r : Result A E) (a : LogArea) (cs : List (ℕ × ℕ)) (old new : Medium) : Type 0 where
  pub outside : WritesBackOutside (IsBehindGate a) old new
  pub ok : OnOk r (IsRecorded a cs new)

pub behind_gate-entries : (a : LogArea) (cs : List (ℕ × ℕ)) (m : Medium) (p : ℕ) → Fits a m → length cs ≤ a.cap → entry_place a 0 ≤ p → p < entry_place a (length cs) → IsBehindGate a p
behind_gate-entries a cs m p fits few from to = (omega arith, omega (arith, fits.shape.len, fits.shape.whole))

pub outside-counted : (a : LogArea) (cs : List (ℕ × ℕ)) (place : ℕ) (old stored counted : Medium) → Fits a old → length cs ≤ a.cap → WritesBackOutside (λ p. (entry_place a 0 ≤ p) × (p < entry_place a (length cs))) old stored → place ≡ count_place a → WritesBack (with_word stored place (length cs)) counted → WritesBackOutside (IsBehindGate a) old counted
outside-counted a cs place old stored counted fits few outside is count =
    let inside = IsBehindGate a in
    let counts = outside-stored stored counted place (length cs) count in
    outside-trans inside old stored counted
    (outside-wider (λ p. (entry_place a 0 ≤ p) × (p < entry_place a (length cs))) inside old stored (λ p within. behind_gate-entries a cs old p fits few within.0 within.1) outside)
    (outside-wider (λ p. p ≡ place) inside stored counted (λ p e. (omega arith, omega (arith, fits.shape.len))) counts)

pub writes_entries : {A E : Type 0} (r : Result A E) (a : LogArea) (cs : List (ℕ × ℕ)) (place lines : ℕ) (old stored counted new : Medium) → Fits a old → length cs ≤ a.cap → WritesBackOutside (λ p. (entry_place a 0 ≤ p) × (p < entry_place a (length cs))) old stored → entries (last_image stored) (entry_place a 0) (length cs) ≡ cs → place ≡ count_place a → WritesBack (with_word stored place (length cs)) counted → length cs ≤ 4 * lines → WritesBack counted new → OnOk r ((p : ℕ) → a.log.start ≤ p / 8 → p / 8 < a.log.start + (1 + lines) → IsOnly (last_image counted p) (new.history p)) → WritesEntries r a cs old new
writes_entries r a cs place lines old stored counted new fits few outside words is count enough written_back durable =
    let inside = IsBehindGate a in
    let at_count = subst (λ p. WritesBack (with_word stored p (length cs)) counted) is count in
    let counts = outside-stored stored counted (count_place a) (length cs) at_count in
    let kept : entries (last_image new) (entry_place a 0) (length cs) ≡ cs =
    entries-cong (last_image new) (last_image stored) (entry_place a 0) (length cs)
    (λ p from to. newest-write_back counted new written_back p ∙ newest-outside (λ q. q ≡ count_place a) stored counted p counts (λ e. omega arith))
    ∙ words in
    record {
      outside = outside-trans inside old counted new (outside-counted a cs place old stored counted fits few outside is count) (outside-write_back inside counted new written_back);
      ok = on_ok-then r durable (λ lasting. record {
        count = subst (λ v. IsOnly v (new.history (count_place a))) (newest-stored stored counted (count_place a) (length cs) at_count) (lasting (count_place a) (omega arith) (omega arith));
        entries = kept;
        durable = λ p from to. subst (λ v. IsOnly v (new.history p)) (sym (newest-write_back counted new written_back p)) (lasting p (omega arith) (omega arith));
      });
    }
