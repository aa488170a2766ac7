-- Lines that a restart leaves: what is durable stays, and what is left is durable.
use Rattle.std.proofs.Common.{◌≡◌, inl, inr, ℕ, ◌+◌, ◌*◌, ◌/◌, ◌%◌, ◌<◌, true, cond, option_and_then, Option, Some, None, option_map, List, [], ◌∷◌, length, map, slice_get, refl, sym, ap, subst, ◌∙◌, arith}
use Rattle.std.proofs.lemmas.Bool.{cases_lt}
use Rattle.std.proofs.lemmas.Option.{none-some, same_Some, slice_get-get_or, slice_get-map, slice_get_past, slice_get_within}
use Rattle.line_device.specs.History.{MayKeep, latest, newest}
use Rattle.line_device.proofs.HistoryLemmas.{latest-cons}
use Rattle.line_device.proofs.TornLemmas.{may_keep-byte, may_keep-latest}
use Rattle.line_device.specs.Panel.{Image}
use Rattle.line_device.specs.declared.line.Choice.{Choice}
use Rattle.nvm_model.specs.Cell.{Cell, KeepsCell, read_cell}
use Rattle.nvm_model.specs.Cell.Cell.{Bad, Kept}
use Rattle.nvm_model.specs.Interrupted.{Became}
use Rattle.nvm_model.specs.Numbered.{list_from}
use Rattle.nvm_model.specs.Page.{KeepsPages, Page, cell_in, cell_of, is_present, presence_of, read_pages}
use Rattle.nvm_model.specs.Page.Page.{Absent, Present}
use Rattle.nvm_model.proofs.NumberedLemmas.{length-list_from, slice_get-list_from}
use Rattle.nvm_model.proofs.PageLemmas.{cell_of-read_pages, page_of_line, presence_of-read_pages, read_pages-there}
use Rattle.pm_volume.proofs.BadLemmas.{has_line}
use Rattle.pm_volume.specs.Left.{HasWords, IsDurable, LeavesCell, MayLeave}
use Rattle.pm_volume.proofs.LeftLemmas.{same_gets}

-- of a durable word its one value is kept
pub only_kept : (unit : ℕ) (history : List ℕ) (value : ℕ) → latest history ≡ history → MayKeep unit value history → history ≡ value ∷ []
only_kept unit [] value durable was = absurd (may_keep-byte unit value [] 0 was).1
only_kept unit (x ∷ xs) value durable was =
    let same : value ≡ newest (x ∷ xs) = may_keep-latest unit value (x ∷ xs) (subst (MayKeep unit value) (sym durable) was) in
    sym durable ∙ latest-cons x xs ∙ ap (λ v. v ∷ []) (sym same)

pub durable_word : (words : List (List ℕ)) (w : ℕ) (history : List ℕ) → map latest words ≡ words → slice_get words w ≡ Some history → latest history ≡ history
durable_word words w history durable is =
    same_Some _ _ (sym (slice_get-map latest words w ∙ ap (option_map latest) is) ∙ ap (λ (ws : List (List ℕ)). slice_get ws w) durable ∙ is)

-- the word that a word of what is left was
pub word_before : (words left : List (List ℕ)) (w : ℕ) (word : List ℕ) → length left ≡ length words → slice_get left w ≡ Some word
    → (history : List ℕ) × (slice_get words w ≡ Some history)
word_before words left w word size is = (_, slice_get-get_or words w [] (omega (arith, slice_get_within left w word is, size)))

durable-same : (unit : ℕ) (a b : Cell) → IsDurable (Some a) → LeavesCell unit a b → b ≡ a
durable-same unit Bad b durable same = same
durable-same unit (Kept weak words) Bad durable may = absurd may
durable-same unit (Kept weak words) (Kept mark left) durable may =
    let same : left ≡ words = same_gets left words (λ w. by_word w (slice_get left w) refl) in
    let mark_same : mark ≡ weak = may.0 in
    cc
  where
    by_word : (w : ℕ) (o : Option (List ℕ)) → slice_get left w ≡ o → o ≡ slice_get words w
    by_word w None is =
        elim (cases_lt w (length words)) as (λ _. None ≡ slice_get words w) [
          | inl within ↦ absurd (none-some _ (sym is ∙ slice_get-get_or left w [] (omega (arith, within, may.1))))
          | inr past ↦ sym (slice_get_past words w past)
        ]
    by_word w (Some word) is =
        let was = word_before words left w word may.1 is in
        let one = may.2 w was.0 word was.1 is in
        ap Some (one.is ∙ sym (only_kept unit was.0 one.value (durable_word words w was.0 durable was.1) one.was)) ∙ sym was.1

durable-left : (unit : ℕ) (a b : Cell) → LeavesCell unit a b → IsDurable (Some b)
durable-left unit Bad Bad may = tt
durable-left unit Bad (Kept mark left) may = let no : Kept mark left ≡ Bad = may in cc
durable-left unit (Kept weak words) Bad may = tt
durable-left unit (Kept weak words) (Kept mark left) may = same_gets (map latest left) left (λ w. slice_get-map latest left w ∙ by_word w (slice_get left w) refl)
  where
    by_word : (w : ℕ) (o : Option (List ℕ)) → slice_get left w ≡ o → option_map latest o ≡ o
    by_word w None is = refl
    by_word w (Some word) is =
        let was = word_before words left w word may.1 is in
        let one = may.2 w was.0 word was.1 is in
        ap Some (ap latest one.is ∙ sym one.is)

-- A restart leaves durable lines as they are.
pub restart-keeps : (unit : ℕ) (pages left : List Page) (n : ℕ) → IsDurable (cell_of pages n) → MayLeave unit pages left → cell_of left n ≡ cell_of pages n
restart-keeps unit pages left n durable may = by_line (cell_of pages n) (cell_of left n) durable (may.each n)
  where
    by_line : (old new : Option Cell) → IsDurable old → Became (LeavesCell unit) old new → new ≡ old
    by_line None None durable is = refl
    by_line None (Some b) durable is = absurd is
    by_line (Some a) None durable is = absurd is
    by_line (Some a) (Some b) durable is = ap Some (durable-same unit a b durable is)

-- All that it leaves is durable.
pub restart-durable : (unit : ℕ) (pages left : List Page) (n : ℕ) → MayLeave unit pages left → IsDurable (cell_of left n)
restart-durable unit pages left n may = by_line (cell_of pages n) (cell_of left n) (may.each n)
  where
    by_line : (old new : Option Cell) → Became (LeavesCell unit) old new → IsDurable new
    by_line old None is = tt
    by_line None (Some b) is = absurd is
    by_line (Some a) (Some b) is = durable-left unit a b is

-- What a restart left is one value of each word.
module _ (choice : Choice) (place : ℕ → ℕ) (image : Image) (pages : List Page)
    (whole : (i : ℕ) (cells : List Cell) → slice_get pages i ≡ Some (Present cells) → length cells ≡ 64) (sizes : (n : ℕ) → HasWords (cell_of pages n))
    (keeps : KeepsPages choice place image pages) where
  left_cell : (n : ℕ) (cell : Cell) → HasWords (Some cell) → KeepsCell choice image (place n) cell → LeavesCell image.unit cell (read_cell image (place n))
  left_cell n Bad size kept = ap (λ b. cond b Bad (Kept (image.is_weak (place n)) (list_from (λ p. image.word p ∷ []) (8 * place n) 8))) kept
  left_cell n (Kept weak words) size kept =
      subst (λ b. LeavesCell image.unit (Kept weak words) (cond b Bad (Kept (image.is_weak (place n)) (list_from (λ p. image.word p ∷ []) (8 * place n) 8)))) (sym kept.0) (
        kept.1,
        length-list_from (λ p. image.word p ∷ []) (8 * place n) 8 ∙ sym size,
        λ w history word was now.
            let small : w < 8 = omega (arith, slice_get_within words w history was, size) in
            record {
              value = image.word (8 * place n + w);
              was = (kept.2 w history was).was;
              is = same_Some _ _ (sym now ∙ slice_get-list_from (λ p. image.word p ∷ []) (8 * place n) 8 w small);
            },
      )

  pub leaves-read : MayLeave image.unit pages (read_pages place image (presence_of pages))
  leaves-read = record { there = presence_of-read_pages place image (presence_of pages); each = λ n. by_line n (cell_of pages n) refl }
    where
      there : (n : ℕ) → slice_get (presence_of pages) (n / 64) ≡ Some true → (cell : Cell) × (cell_of pages n ≡ Some cell)
      there n is = by_page (slice_get pages (n / 64)) refl (sym (slice_get-map is_present pages (n / 64)) ∙ is)
        where
          by_page : (o : Option Page) → slice_get pages (n / 64) ≡ o → option_map is_present o ≡ Some true → (cell : Cell) × (cell_of pages n ≡ Some cell)
          by_page None was is = cc
          by_page (Some Absent) was is = cc
          by_page (Some (Present cells)) was is =
              let has = has_line cells (n % 64) (whole (n / 64) cells was) (omega arith) in
              (has.0, ap (option_and_then (λ page. cell_in page (n % 64))) was ∙ has.1)

      by_read : (n : ℕ) (o : Option Cell) → cell_of pages n ≡ None → cell_of (read_pages place image (presence_of pages)) n ≡ o → Became (LeavesCell image.unit) None o
      by_read n None none is = tt
      by_read n (Some cell) none is = let has = there n (read_pages-there place image (presence_of pages) n cell is) in absurd (none-some has.0 (sym none ∙ has.1))

      by_line : (n : ℕ) (o : Option Cell) → cell_of pages n ≡ o → Became (LeavesCell image.unit) o (cell_of (read_pages place image (presence_of pages)) n)
      by_line n None is = by_read n (cell_of (read_pages place image (presence_of pages)) n) is refl
      by_line n (Some cell) is =
          subst (Became (LeavesCell image.unit) (Some cell)) (sym (cell_of-read_pages place image (presence_of pages) n (page_of_line pages n cell is)))
          (left_cell n cell (subst HasWords is (sizes n)) (keeps n cell is))
