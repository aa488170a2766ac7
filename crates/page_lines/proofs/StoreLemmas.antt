-- What a store may leave of pages.
use Rattle.std.proofs.Common.{◌≡◌, ◌⊎◌, inl, inr, ℕ, Option, Some, None, List, length, refl, sym, subst}
use Rattle.nvm_model.specs.Cell.{Cell}
use Rattle.nvm_model.specs.Interrupted.{Became, LineByLine, MayPut, MayStore}
use Rattle.nvm_model.specs.Page.{Page, cell_of, fill}
use Rattle.page_lines.proofs.PutLemmas.{may_put-left}

-- a put that got nowhere
pub unput : (at : ℕ) (bytes : List ℕ) (pages : List Page) → LineByLine (MayPut at bytes) pages pages
unput at bytes pages = record { there = refl; each = λ n. by_cell n (cell_of pages n) }
  where
    by_cell : (n : ℕ) (o : Option Cell) → Became (MayPut at bytes n) o o
    by_cell n None = tt
    by_cell n (Some cell) = may_put-left at n bytes cell

-- pages that are filled or not, before any is put
pub may_store-filled : (at : ℕ) (bytes : List ℕ) (pages left : List Page) → (left ≡ pages) ⊎ (left ≡ fill at (length bytes) pages) → MayStore at bytes pages left
may_store-filled at bytes pages left (inl same) = inl same
may_store-filled at bytes pages left (inr filled) = inr (subst (LineByLine (MayPut at bytes) (fill at (length bytes) pages)) (sym filled) (unput at bytes (fill at (length bytes) pages)))
