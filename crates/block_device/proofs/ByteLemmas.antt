-- What lines that hold bytes read as.
use Rattle.std.proofs.Common.{◌≡◌, ℕ, zero, suc, ◌+◌, ◌*◌, ◌/◌, ◌%◌, ◌<◌, List, [], ◌∷◌, Some, None, if◌then◌else◌, get_or, get_or-take, get_or-drop, take, drop, refl, sym, ◌∙◌, ap, ap₂, subst, arith}
use Rattle.std.specs.Int.{byte_at}
use Rattle.line_device.specs.Word.{word_at}
use Rattle.line_device.specs.History.{newest}
use Rattle.line_device.specs.Medium.{Medium, IsHealthy, IsSound, last_image}
use Rattle.line_device.proofs.HistoryLemmas.{is_in-newest}
use Rattle.line_device.proofs.WordLemmas.{byte_at-word_from}
use Rattle.line_words.specs.Words.{HoldsLine, IsOnly}
use Rattle.nvm_model.specs.Numbered.{list_from}
use Rattle.block_device.specs.Reading.{byte_of, line_read}

-- a stretch like another one elsewhere
pub list_from-shift : {A : Type 0} (f g : ℕ → A) (a b count : ℕ) → ((k : ℕ) → k < count → f (a + k) ≡ g (b + k)) → list_from f a count ≡ list_from g b count
list_from-shift f g a b zero same = refl
list_from-shift f g a b (suc count) same =
    let e : a + 0 ≡ a = omega arith in
    let e2 : b + 0 ≡ b = omega arith in
    let rest : (k : ℕ) → k < count → f (suc a + k) ≡ g (suc b + k) =
    λ k less. let e3 : suc a + k ≡ a + suc k = omega arith in let e4 : b + suc k ≡ suc b + k = omega arith in
    ap f e3 ∙ same (suc k) (omega arith) ∙ ap g e4 in
    ap₂ ◌∷◌ (sym (ap f e) ∙ same 0 (omega arith) ∙ ap g e2) (list_from-shift f g (suc a) (suc b) count rest)

-- a word that has one value and no other has it as its last
pub is_only-newest : (v : ℕ) (h : List ℕ) → IsOnly v h → IsOnly (newest h) h
is_only-newest v [] only x at = absurd at
is_only-newest v (y ∷ ys) only x at = only x at ∙ sym (only (newest (y ∷ ys)) (is_in-newest y ys))

pub holds-newest : (m : Medium) (line w : ℕ) (bytes : List ℕ) → IsSound m → HoldsLine m line bytes → w < 8 → last_image m (8 * line + w) ≡ word_at bytes w
holds-newest m line w bytes sound holds less =
    let on : (8 * line + w) / 8 ≡ line = omega arith in
    holds.words w less (last_image m (8 * line + w)) (sound.last (8 * line + w) (subst (λ n. IsHealthy m n) (sym on) holds.good_line.healthy))

-- byte i of a line that holds bytes
byte_of-holds : (m : Medium) (line i : ℕ) (bytes : List ℕ) → IsSound m → HoldsLine m line bytes → ((k : ℕ) → k < 64 → get_or bytes k 0 < 256) → i < 64 → byte_of (last_image m) (64 * line + i) ≡ get_or bytes i 0
byte_of-holds m line i bytes sound holds small less =
    let at : (64 * line + i) % 8 ≡ i % 8 = omega arith in
    let place : (64 * line + i) / 8 ≡ 8 * line + i / 8 = omega arith in
    let back : 8 * (i / 8) + i % 8 ≡ i = omega arith in
    ap (λ r. byte_at r (last_image m ((64 * line + i) / 8))) at
    ∙ ap (λ p. byte_at (i % 8) (last_image m p)) place
    ∙ ap (byte_at (i % 8)) (holds-newest m line (i / 8) bytes sound holds (omega arith))
    ∙ byte_at-word_from (λ k. get_or bytes (8 * (i / 8) + k) 0) (i % 8) (λ k lt. small (8 * (i / 8) + k) (omega arith)) (omega arith)
    ∙ ap (λ j. get_or bytes j 0) back

-- a line that holds the 64 bytes of number n reads as these
pub line_read-holds : (m : Medium) (line n : ℕ) (bytes : List ℕ) → IsSound m → HoldsLine m line (take 64 (drop (64 * n) bytes)) → ((k : ℕ) → get_or bytes k 0 < 256) → line_read m.is_bad (last_image m) line ≡ Some (list_from (λ i. get_or bytes i 0) (64 * n) 64)
line_read-holds m line n bytes sound holds small =
    let piece : List ℕ = take 64 (drop (64 * n) bytes) in
    ap (λ b. if b then None else Some (list_from (byte_of (last_image m)) (64 * line) 64)) holds.good_line.healthy.1
    ∙ ap Some
    (list_from-shift (byte_of (last_image m)) (λ i. get_or bytes i 0) (64 * line) (64 * n) 64
    (λ k less. byte_of-holds m line k piece sound holds (λ j lt. subst (λ v. v < 256) (sym (inside j lt)) (small (64 * n + j))) less ∙ inside k less))
  where
    inside : (k : ℕ) → k < 64 → get_or (take 64 (drop (64 * n) bytes)) k 0 ≡ get_or bytes (64 * n + k) 0
    inside k less = get_or-take 64 (drop (64 * n) bytes) k 0 less ∙ get_or-drop (64 * n) bytes k 0
