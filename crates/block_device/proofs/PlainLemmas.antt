-- Blocks after the power came back: each word has one value.
use Rattle.std.proofs.Common.{Result, Ok, Err, IfOk, IsTrue, Option, Some, None, slice_get, if◌then◌else◌, refl, ◌≡◌, inl, inr, ℕ, ◌/◌, ◌≤◌, List, [], ◌∷◌, sym, ◌∙◌, subst, arith}
use Rattle.std.proofs.lemmas.Bool.{cases_lt, cases_Bool}
use Rattle.std.proofs.lemmas.Option.{slice_get_past, none-some}
use Rattle.line_device.specs.Word.{word_at}
use Rattle.line_device.specs.Cells.{first_and_last, has_words}
use Rattle.line_device.specs.Plain.{device_of}
use Rattle.line_device.specs.declared.plain.cells.Mark.{Mark}
use Rattle.line_device.specs.declared.plain.Plain.{Plain}
use Rattle.line_device.specs.History.{IsIn, WordWritesBack}
use Rattle.line_device.specs.Medium.{Medium, IsSound, Survivors, WritesBack, last_image}
use Rattle.line_device.specs.declared.line.Choice.{Choice}
use Rattle.line_device.proofs.HistoryLemmas.{word_write_back-none, is_in-one}
use Rattle.line_words.specs.Words.{IsOnly}
use Rattle.word_tables.specs.declared.geometry.Geometry.{Geometry}
use Rattle.block_map.specs.declared.state.BlockState.{BlockState}
use Rattle.block_device.specs.Object.{AreDurable, BlocksServe, BlocksState}
use Rattle.block_device.proofs.ByteLemmas.{is_only-newest}
use Rattle.block_device.proofs.RestartLemmas.{is_only-none}

one_is_only : (h : List ℕ) (v : ℕ) → h ≡ v ∷ [] → IsOnly v h
one_is_only h v one x at = is_in-one x v (subst (IsIn x) one at)

-- each word has one value, or none
one_value : (unit : ℕ) (choice : Choice) (old off new : Medium) → IsSound new → WritesBack old off → ((p : ℕ) → old.count ≤ p / 8 → old.history p ≡ []) → Survivors unit choice off new → (p : ℕ) → IsOnly (last_image new p) (new.history p)
one_value unit choice old off new sound before end x p =
    elim (cases_lt (p / 8) new.count) as (λ _. IsOnly (last_image new p) (new.history p)) [
      | inl on ↦
          elim (cases_Bool (new.is_bad (p / 8))) as (λ _. IsOnly (last_image new p) (new.history p)) [
            | inl bad ↦ is_only-none (last_image new p) (new.history p) (sound.lost p bad)
            | inr good ↦
                let word = x.words p (omega (arith, x.count, on), sym (x.bad (p / 8)) ∙ good) in
                is_only-newest word.0 (new.history p) (one_is_only (new.history p) word.0 word.1.one)
          ]
      | inr past ↦
          let none : off.history p ≡ [] = word_write_back-none (old.is_weak (p / 8)) (off.history p) (subst (λ h. WordWritesBack (old.is_weak (p / 8)) h (off.history p)) (end p (omega (arith, x.count, before.count, past))) (before.word_write_back p)) in
          is_only-none (last_image new p) (new.history p) (x.lost p none)
    ]

pub names_durable : (geo : Geometry) (unit : ℕ) (choice : Choice) (old off new : Medium) → IsSound new → WritesBack old off → ((p : ℕ) → old.count ≤ p / 8 → old.history p ≡ []) → Survivors unit choice off new → (states : List BlockState) → AreDurable geo new states
names_durable geo unit choice old off new sound before end x states block own at p from to = one_value unit choice old off new sound before end x p

-- a plain device has no words past its end
none_past : (mark : Option Mark) (x y : ℕ) → mark ≡ None → (if has_words mark then first_and_last x y else []) ≡ []
none_past None x y past = refl
none_past (Some mark) x y past = absurd (none-some mark (sym past))

pub plain_ends : (device : Plain) (p : ℕ) → (device_of device).medium.count ≤ p / 8 → (device_of device).medium.history p ≡ []
plain_ends device p past =
    none_past (slice_get device.cells.marks.items (p / 8)) (word_at device.cells.durable.items p) (word_at device.cells.last.items p)
    (slice_get_past device.cells.marks.items (p / 8) (omega (arith, device.cells.marks.ok.0, past)))

-- blocks that are mounted then can be used
pub served : (P : Type 0) (m : Medium) {E : Type 0} (r : Result BlocksState E) → P → IfOk r (λ b. P → BlocksServe b m) → IfOk r (λ b. IsTrue b.settled → BlocksServe b m)
served P m (Ok b) p q = λ _. q p
served P m (Err e) p q = tt
