-- What calls on one line leave of it, and of the others.
use Rattle.std.proofs.Common.{◌≡◌, ℕ, ◌+◌, ◌*◌, ◌/◌, ◌<◌, ◌==◌, Bool, true, false, Option, Some, Result, Ok, Err, MatchResult, OnOk, List, [], if◌then◌else◌, refl, sym, ap, subst, ◌∙◌, inl, inr, arith}
use Rattle.std.proofs.lemmas.Bool.{cases_Bool, eqb-true, false≢true}
use Rattle.std.proofs.lemmas.Option.{slice_get_within}
use Rattle.line_device.specs.History.{WordWritesBack, latest}
use Rattle.line_device.specs.Medium.{IsSound, Medium, WritesBack, on_line, with_at, renewed, persisted}
use Rattle.line_device.proofs.HistoryLemmas.{word_write_back-refl, word_write_back-trans}
use Rattle.line_device.proofs.WriteBackLemmas.{on_line-out, persisted-strong, persisted-weak}
use Rattle.line_words.proofs.BesideLemmas.{beside-flushed, with_at-out}
use Rattle.nvm_model.specs.Cell.{Cell, CellStands, flush_cell}
use Rattle.nvm_model.specs.Cell.Cell.{Bad, Kept}
use Rattle.nvm_model.proofs.StandLemmas.{word_write_back-strong, cell_stands-persisted}
use Rattle.page_lines.specs.Turns.{Turns, WritesBackOthers}
use Rattle.page_lines.proofs.OthersLemmas.{others-wider, others-write_back, others-beside}

-- a line whose marks stay and whose words are only written back
pub stands-same : (a b : Medium) (line : ℕ) (cell : Cell) → b.is_bad line ≡ a.is_bad line → b.is_weak line ≡ a.is_weak line
    → ((p : ℕ) → p / 8 ≡ line → WordWritesBack false (a.history p) (b.history p)) → CellStands a line cell → CellStands b line cell
stands-same a b line Bad bad weak words stands = bad ∙ stands
stands-same a b line (Kept mark kept) bad weak words stands = (
  bad ∙ stands.0,
  weak ∙ stands.1,
  stands.2,
  λ w history found.
      let small : w < 8 = omega (arith, slice_get_within kept w history found, stands.2) in
      let on : (8 * line + w) / 8 ≡ line = omega arith in
      word_write_back-trans false _ _ _ (stands.3 w history found) (words (8 * line + w) on),
)

pub stands-others : (lines : ℕ → Type 0) (a b : Medium) (line : ℕ) (cell : Cell) → WritesBackOthers lines a b → (lines line → ⊥) → CellStands a line cell → CellStands b line cell
stands-others lines a b line cell x out stands =
    stands-same a b line cell (x.bad line out) (x.weak line out)
    (λ p on. word_write_back-strong (a.is_weak (p / 8)) _ _ (x.word_write_back p (λ h. out (subst lines on h)))) stands

pub stands-write_back : (a b : Medium) (line : ℕ) (cell : Cell) → WritesBack a b → CellStands a line cell → CellStands b line cell
stands-write_back a b line cell x stands =
    stands-same a b line cell (x.bad line) (x.weak line) (λ p on. word_write_back-strong (a.is_weak (p / 8)) _ _ (x.word_write_back p)) stands

with_at-keeps : (f : ℕ → Bool) (line : ℕ) (v : Bool) (n : ℕ) → (n ≡ line → v ≡ false) → f n ≡ false → with_at f line v n ≡ false
with_at-keeps f line v n here h =
    elim (cases_Bool (n == line)) as (λ _. with_at f line v n ≡ false) [
      | inl same ↦ ap (λ b. if b then v else f n) same ∙ here (eqb-true n line same)
      | inr other ↦ ap (λ b. if b then v else f n) other ∙ h
    ]

-- a line made something else that is not weak, and bad only where it was weak
pub others-renewed : (m new : Medium) (line : ℕ) (bad : Bool) (words : ℕ → List ℕ) → (m.is_weak line ≡ false → bad ≡ false)
    → WritesBack (renewed m line bad false words) new → WritesBackOthers (λ n. n ≡ line) m new
others-renewed m new line bad words fails x = record {
  count = x.count;
  bad = λ n out. x.bad n ∙ with_at-out m.is_bad line bad n out;
  weak = λ n out. x.weak n ∙ with_at-out m.is_weak line false n out;
  stays_strong = λ n strong. x.weak n ∙ with_at-keeps m.is_weak line false n (λ _. refl) strong;
  stays_good = λ n healthy strong. x.bad n ∙ with_at-keeps m.is_bad line bad n (λ same. fails (ap m.is_weak (sym same) ∙ strong)) healthy;
  word_write_back = λ p out.
      subst (λ w. WordWritesBack w (m.history p) (new.history p)) (with_at-out m.is_weak line false (p / 8) out)
      (subst (λ h. WordWritesBack ((renewed m line bad false words).is_weak (p / 8)) h (new.history p)) (on_line-out line (λ w _. words w) m.history p out) (x.word_write_back p));
}

pub others-persisted : (m new : Medium) (line : ℕ) → WritesBack (persisted m line) new → WritesBackOthers (λ n. n ≡ line) m new
others-persisted m new line x =
    elim (cases_Bool (m.is_weak line)) as (λ _. WritesBackOthers (λ n. n ≡ line) m new) [
      | inl weak ↦
          others-renewed m new line true (λ _. []) (λ strong. absurd (false≢true (sym strong ∙ weak)))
          (subst (λ after. WritesBack after new) (persisted-weak m line weak) x)
      | inr strong ↦ others-beside (λ n. n ≡ line) m new (beside-flushed m new line (subst (λ after. WritesBack after new) (persisted-strong m line strong) x))
    ]

pub turns-persisted : (m new : Medium) (line : ℕ) → WritesBack (persisted m line) new → Turns flush_cell line m new
turns-persisted m new line x = record { stands = λ cell stands. stands-write_back (persisted m line) new line (flush_cell cell) x (cell_stands-persisted m line cell stands) }

-- a call that made a line durable, or failed to, told of the line that is there
pub turns-persist : {A F : Type 0} (r : Result A F) (there : Option ℕ) (line : ℕ) (m new : Medium) → there ≡ Some line
    → MatchResult r (λ _. WritesBack (persisted m line) new) (λ _. WritesBack m new) → OnOk r ((at : ℕ) → there ≡ Some at → Turns flush_cell at m new)
turns-persist (Ok x) there line m new is h = λ at here.
    let same : line ≡ at = cc in
    subst (λ i. Turns flush_cell i m new) same (turns-persisted m new line h)
turns-persist (Err e) there line m new is h = tt

pub others-persist : {A F : Type 0} (r : Result A F) (there : Option ℕ) (line : ℕ) (m new : Medium) → there ≡ Some line
    → MatchResult r (λ _. WritesBack (persisted m line) new) (λ _. WritesBack m new) → WritesBackOthers (λ at. there ≡ Some at) m new
others-persist (Ok x) there line m new is h = others-wider (λ n. n ≡ line) (λ at. there ≡ Some at) m new (λ n same. is ∙ ap (λ i. Some i) (sym same)) (others-persisted m new line h)
others-persist (Err e) there line m new is h = others-write_back (λ at. there ≡ Some at) m new h

-- a persist leaves a bad line as it is
pub bad-persisted : (m : Medium) (line : ℕ) → IsSound m → m.is_bad line ≡ true → WritesBack (persisted m line) m
bad-persisted m line sound bad =
    subst (λ (after : Medium). WritesBack after m) (sym (persisted-strong m line (sound.unmarked line bad)))
    (record {
      count = refl;
      bad = λ n. refl;
      weak = λ n. refl;
      word_write_back = λ p. subst (λ h. WordWritesBack (m.is_weak (p / 8)) h (m.history p)) (sym (same p)) (word_write_back-refl (m.is_weak (p / 8)) (m.history p));
    })
  where
    same : (p : ℕ) → on_line line (λ _ old. latest old) m.history p ≡ m.history p
    same p = elim (cases_Bool (p / 8 == line)) as (λ _. on_line line (λ _ old. latest old) m.history p ≡ m.history p) [
      | inl on ↦
          let lost = sound.lost p (ap m.is_bad (eqb-true (p / 8) line on) ∙ bad) in
          ap (λ b. if b then latest (m.history p) else m.history p) on ∙ ap latest lost ∙ sym lost
      | inr out ↦ ap (λ b. if b then latest (m.history p) else m.history p) out
    ]
