-- A line with its new bytes, and a page of them.
use Rattle.std.proofs.Common.{◌≡◌, ℕ, ◌+◌, ◌*◌, ◌-◌, ◌<◌, ◌++◌, false, List, length, length-append, length-take, length-drop, take, drop, get_or, inl, inr, sym, ap, subst, ◌∙◌, arith}
use Rattle.std.proofs.lemmas.Bool.{cases_Bool, cases_lt}
use Rattle.std.proofs.lemmas.Option.{get_or_from_slice_get}
use Rattle.std.proofs.lemmas.Slice.{between-put_mid, take-put_mid_below}
use Rattle.std.proofs.lemmas.List.{drop-take}
use borrow.Rule.Slice.PartMut.{put_mid}
use Rattle.nvm_base.specs.declared.units.Span.{Span}
use Rattle.line_device.specs.Medium.{Medium, WritesBack}
use Rattle.nvm_model.specs.Numbered.{list_from}
use Rattle.nvm_model.specs.Page.{Page, byte_in, look}
use Rattle.nvm_model.specs.Storage.{File}
use Rattle.nvm_model.proofs.KeptLemmas.{line_kept-write_back}
use Rattle.nvm_model.proofs.NumberedLemmas.{list_from-is, slice_get-list_from}
use Rattle.file_journal.specs.Object.{JournalState}
use Rattle.file_journal.specs.Tables.{AreTables}
use Rattle.file_journal.proofs.StandingLemmas.{files-kept}
use Rattle.file_pages.specs.Object.{IsFileAt}
use Rattle.file_actions.specs.Made.{IsNewLine, new_byte, new_line}
use Rattle.file_actions.specs.Rewriting.{covers_any, byte_laid}
use Rattle.file_actions.proofs.DataLemmas.{byte_laid-covered}

pub shown_byte : (pages : List Page) (start len k : ℕ) → k < len → get_or (look pages start len) k 0 ≡ byte_in pages (start + k)
unfolding look
shown_byte pages start len k below = get_or_from_slice_get (list_from (byte_in pages) start len) k (byte_in pages (start + k)) 0 (slice_get-list_from (byte_in pages) start len k below)

-- bytes laid over a line that is as last stored, or that one range covers
pub built_line : (ranges : List Span) (bytes : List ℕ) (pages : List Page) (line : ℕ) (mid out : List ℕ) → length out ≡ 64 → (covers_any ranges line ≡ false → mid ≡ look pages (64 * line) 64)
    → ((i : ℕ) → i < 64 → get_or out i 0 ≡ byte_laid ranges bytes (64 * line + i) (get_or mid i 0)) → out ≡ new_line ranges bytes pages line
built_line ranges bytes pages line mid out size shown laid =
    list_from-is (new_byte ranges bytes pages) (64 * line) out each ∙ ap (list_from (new_byte ranges bytes pages) (64 * line)) size
  where
    each : (k : ℕ) → k < length out → get_or out k 0 ≡ new_byte ranges bytes pages (64 * line + k)
    each k lt =
        let below : k < 64 = omega (arith, lt, size) in
        laid k below ∙
        (elim (cases_Bool (covers_any ranges line)) as (λ _. byte_laid ranges bytes (64 * line + k) (get_or mid k 0) ≡ new_byte ranges bytes pages (64 * line + k)) [
          | inl covered ↦ byte_laid-covered ranges bytes line (64 * line + k) (get_or mid k 0) (byte_in pages (64 * line + k)) covered (omega arith) (omega (arith, below))
          | inr out_of ↦ ap (byte_laid ranges bytes (64 * line + k)) (ap (λ xs. get_or xs k 0) (shown out_of) ∙ shown_byte pages (64 * line) 64 k below)
        ])

-- files stay while lines are only written back
pub file_at-write_back : (s : JournalState) (old new : Medium) (inode : ℕ) (files : List File) (file : File) → AreTables s.geo.fpages s.tables → WritesBack old new → IsFileAt s old inode files file → IsFileAt s new inode files file
file_at-write_back s old new inode files file are x at = record {
  named = at.named;
  stand = files-kept s.geo old new s.tables files are (λ n _. line_kept-write_back old new n x) at.stand;
  found = at.found;
}

-- one line more of a page
module _ (s : JournalState) (old : Medium) (inode : ℕ) (ranges : List Span) (bytes : List ℕ) (first k a size : ℕ) (out piece : List ℕ) (long : length out ≡ 4096) (below : k < 64) (at : a ≡ 64 * k) (is : size ≡ 64) (fits : length piece ≡ 64)
    (before : (j : ℕ) → j < k → IsNewLine s old inode ranges bytes (first + j) (take 64 (drop (64 * j) out))) (here : IsNewLine s old inode ranges bytes (first + k) piece) where
  pub size_more : length (put_mid a size out piece) ≡ 4096
  size_more =
      omega (
        arith,
        length-append (take a out) (piece ++ drop size (drop a out)),
        length-append piece (drop size (drop a out)),
        length-take {A = ℕ},
        length-drop {A = ℕ},
        long,
        below,
        at,
        is,
        fits,
      )

  front_of : (j : ℕ) → j < k → take 64 (drop (64 * j) (put_mid a size out piece)) ≡ take 64 (drop (64 * j) out)
  front_of j lt =
      sym (drop-take (64 * j) 64 (put_mid a size out piece))
      ∙ ap (drop (64 * j)) (take-put_mid_below a size out piece (64 * j + 64) (omega (arith, lt, at)) (omega (arith, long, at, below)))
      ∙ drop-take (64 * j) 64 out

  pub lines_more : (j : ℕ) → j < k + 1 → IsNewLine s old inode ranges bytes (first + j) (take 64 (drop (64 * j) (put_mid a size out piece)))
  lines_more j lt =
      elim (cases_lt j k) as (λ _. IsNewLine s old inode ranges bytes (first + j) (take 64 (drop (64 * j) (put_mid a size out piece)))) [
        | inl earlier ↦ subst (IsNewLine s old inode ranges bytes (first + j)) (sym (front_of j earlier)) (before j earlier)
        | inr last ↦
            let same : j ≡ k = omega (arith, lt, last) in
            let whole : 64 ≡ a + 64 - a = omega arith in
            let place : 64 * j ≡ a = omega (arith, same, at) in
            let is_piece : take 64 (drop (64 * j) (put_mid a size out piece)) ≡ piece =
            ap (λ n. take n (drop (64 * j) (put_mid a size out piece))) whole ∙ ap (λ n. take (a + 64 - a) (drop n (put_mid a size out piece))) place
            ∙ between-put_mid a size out piece (a + 64) (omega (arith, long, at, below)) (omega (arith, fits)) in
            subst (IsNewLine s old inode ranges bytes (first + j)) (sym is_piece) (subst (λ n. IsNewLine s old inode ranges bytes (first + n) piece) (sym same) here)
      ]
