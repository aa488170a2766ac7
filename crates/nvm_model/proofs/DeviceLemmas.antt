-- The pages that a device's lines are.
use Rattle.std.proofs.Common.{◌≡◌, ℕ, suc, Bool, true, false, ◌+◌, ◌*◌, ◌/◌, ◌%◌, Option, Some, None, option_map, option_and_then, slice_get, List, [], ◌∷◌, length, if◌then◌else◌, refl, sym, ◌∙◌, ap, subst, arith}
use Rattle.std.proofs.lemmas.Option.{same_Some, slice_get_within}
use Rattle.line_device.specs.Medium.{Medium}
use Rattle.line_device.specs.History.{WordWritesBack}
use Rattle.line_device.proofs.HistoryLemmas.{word_write_back-refl}
use Rattle.nvm_model.specs.Cell.{Cell, CellStands}
use Rattle.nvm_model.specs.Cell.Cell.{Bad, Kept}
use Rattle.nvm_model.specs.Numbered.{list_from, map_from}
use Rattle.nvm_model.specs.Page.{cell_in, cell_of, presence_of, PagesStand}
use Rattle.nvm_model.specs.Page.Page.{Present}
use Rattle.nvm_model.proofs.NumberedLemmas.{slice_get-map_from, slice_get-list_from, length-list_from}
use Rattle.nvm_model.specs.Device.{device_cell, device_page, device_pages}

pub presence_of-device : (place : ℕ → ℕ) (m : Medium) (there : List Bool) → presence_of (device_pages place m there) ≡ there
unfolding device_pages
presence_of-device place m there = from 0 there
  where
    from : (n : ℕ) (there : List Bool) → presence_of (map_from (device_page place m) n there) ≡ there
    from n [] = refl
    from n (true ∷ there) = ap (λ xs. true ∷ xs) (from (suc n) there)
    from n (false ∷ there) = ap (λ xs. false ∷ xs) (from (suc n) there)

-- each line stands for its cell
device_cell-stands : (m : Medium) (line : ℕ) → CellStands m line (device_cell m line)
device_cell-stands m line = by_mark (m.is_bad line) refl
  where
    words : List (List ℕ)
    words = list_from m.history (8 * line) 8

    each : (w : ℕ) (history : List ℕ) → slice_get words w ≡ Some history → WordWritesBack false history (m.history (8 * line + w))
    each w history at =
        let same : m.history (8 * line + w) ≡ history = same_Some _ _ (sym (slice_get-list_from m.history (8 * line) 8 w (slice_get_within words w history at)) ∙ at) in
        subst (λ h. WordWritesBack false h (m.history (8 * line + w))) same (word_write_back-refl false (m.history (8 * line + w)))

    by_mark : (bad : Bool) → m.is_bad line ≡ bad → CellStands m line (if bad then Bad else Kept (m.is_weak line) words)
    by_mark true is = is
    by_mark false is = (is, refl, refl, each)

module _ (place : ℕ → ℕ) (m : Medium) (there : List Bool) where
  -- a line of a page that is there
  cell_of-device : (n : ℕ) → slice_get there (n / 64) ≡ Some true → cell_of (device_pages place m there) n ≡ Some (device_cell m (place n))
  unfolding device_pages
  cell_of-device n is =
      ap (option_and_then (λ page. cell_in page (n % 64))) (slice_get-map_from (device_page place m) 0 there (n / 64) ∙ ap (option_map (device_page place m (0 + n / 64))) is)
      ∙ slice_get-list_from (λ k. device_cell m (place k)) (64 * (0 + n / 64)) 64 (n % 64) (omega arith)
      ∙ ap (λ k. Some (device_cell m (place k))) line
    where
      line : 64 * (0 + n / 64) + n % 64 ≡ n
      line = omega arith

  -- no other line is there
  device_pages-there : (n : ℕ) (cell : Cell) → cell_of (device_pages place m there) n ≡ Some cell → slice_get there (n / 64) ≡ Some true
  unfolding device_pages
  device_pages-there n cell is =
      by_page (slice_get there (n / 64)) (sym (ap (option_and_then (λ page. cell_in page (n % 64))) (slice_get-map_from (device_page place m) 0 there (n / 64))) ∙ is)
    where
      by_page : (o : Option Bool) → option_and_then (λ p. cell_in p (n % 64)) (option_map (device_page place m (0 + n / 64)) o) ≡ Some cell → o ≡ Some true
      by_page None is = cc
      by_page (Some false) is = cc
      by_page (Some true) is = refl

  whole-device : (i : ℕ) (cells : List Cell) → slice_get (device_pages place m there) i ≡ Some (Present cells) → length cells ≡ 64
  unfolding device_pages
  whole-device i cells is = by_page (slice_get there i) (sym (slice_get-map_from (device_page place m) 0 there i) ∙ is)
    where
      by_page : (o : Option Bool) → option_map (device_page place m (0 + i)) o ≡ Some (Present cells) → length cells ≡ 64
      by_page None is = cc
      by_page (Some false) is = cc
      by_page (Some true) is =
          let same : list_from (λ n. device_cell m (place n)) (64 * (0 + i)) 64 ≡ cells = cc in
          ap length (sym same) ∙ length-list_from (λ n. device_cell m (place n)) (64 * (0 + i)) 64

  pub device_pages-stand : PagesStand place m (device_pages place m there)
  device_pages-stand = record {
    whole = whole-device;
    lines = λ n cell is.
        let same : device_cell m (place n) ≡ cell = same_Some _ _ (sym (cell_of-device n (device_pages-there n cell is)) ∙ is) in
        subst (λ c. CellStands m (place n) c) same (device_cell-stands m (place n));
  }
