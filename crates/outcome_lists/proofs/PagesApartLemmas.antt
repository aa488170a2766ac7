-- Pages of which each line has a value of each word, as reads of words show them.
use Rattle.std.proofs.Common.{◌≡◌, ℕ, ◌/◌, ◌==◌, ◌&&◌, ◌||◌, Bool, true, false, not, Some, List, [], ◌∷◌, refl, sym, ap, ◌∙◌}
use Rattle.std.specs.List.{list_all}
use Rattle.std.proofs.lemmas.Bool.{and_parts, eqb-false, eqb-true, or_left, or_right}
use Rattle.nvm_model.specs.Page.{Page, cell_of}
use Rattle.explorer.specs.Outcomes.Files.{file_fits}
use Rattle.explorer.specs.Outcomes.Pages.{PageRead, all_lines_read, line_fits}
use Rattle.explorer.specs.SightsSeen.Seeing.{seen}
use Rattle.explorer.proofs.SightsSeen.ShowLemmas.{fits_seen}
use Rattle.explorer.proofs.CutPlaces.AllLemmas.{same_test}
use Rattle.explorer.specs.ValueTables.Listed.{HasWords}
use Rattle.explorer.proofs.Witnesses.ListLemmas.{IsAmong, all_from, all_of}
use Rattle.outcome_lists.specs.ApartFiles.{IsOfOneWord}
use Rattle.outcome_lists.proofs.ApartBlocksLemmas.{all_same, and_true, then_so, where_so}
use Rattle.outcome_lists.proofs.WordReadLemmas.{AreApart, by_any, cell_apart, each_word, is_looking, lines_apart, other_line, unlooking}

-- Pages of which each line has a value of each word.
module _ (pages : List Page) (have : (n : ℕ) → HasWords (seen pages n)) where
  abbrev fits_alone : PageRead → Bool
  fits_alone r = file_fits (r ∷ []) pages

  abbrev line_now : List PageRead → ℕ → Bool
  line_now rs n = line_fits rs n (cell_of pages n)

  -- a read alone
  alone_is : (r : PageRead) → IsOfOneWord r → fits_alone r ≡ (not (is_looking r.reply) || line_now (r ∷ []) (r.start / 64))
  alone_is r word = lines_apart (line_now (r ∷ [])) (r ∷ []) (word, refl, tt) ∙ and_true (not (is_looking r.reply) || line_now (r ∷ []) (r.start / 64))

  -- with others it asks of its own line what it asks alone, and nothing of other lines
  asks : (r : PageRead) → IsOfOneWord r → (n : ℕ) → line_now (r ∷ []) n ≡ (not (n == r.start / 64) || fits_alone r)
  asks r word n = by_line (n == r.start / 64) refl
    where
      free : line_fits (r ∷ []) n (Some (seen pages n)) ≡ true → line_now (r ∷ []) n ≡ true
      free so = fits_seen (r ∷ []) n (cell_of pages n) ∙ so

      by_look : (n ≡ r.start / 64) → (b : Bool) → is_looking r.reply ≡ b → line_now (r ∷ []) n ≡ (not b || line_now (r ∷ []) (r.start / 64))
      by_look same true is = ap (line_now (r ∷ [])) same
      by_look same false is = free (unlooking r.start r.len r.reply is n (seen pages n) (have n))

      by_line : (b : Bool) → (n == r.start / 64) ≡ b → line_now (r ∷ []) n ≡ (not b || fits_alone r)
      by_line true same = by_look (eqb-true n (r.start / 64) same) (is_looking r.reply) refl ∙ sym (alone_is r word)
      by_line false other = free (other_line r word n (seen pages n) (have n) (eqb-false n (r.start / 64) other))

  -- and reads that are apart
  abbrev pub on_line : List PageRead → ℕ → Bool
  on_line rs n = list_all (λ (r : PageRead). not (n == r.start / 64) || fits_alone r) rs

  line_apart : (rs : List PageRead) → AreApart rs → (n : ℕ) → line_now rs n ≡ on_line rs n
  line_apart rs are n =
      fits_seen rs n (cell_of pages n) ∙ cell_apart rs are n (seen pages n) (have n)
      ∙ all_same (λ r. line_fits (r ∷ []) n (Some (seen pages n))) (λ (r : PageRead). not (n == r.start / 64) || fits_alone r) rs
      (λ r is. sym (fits_seen (r ∷ []) n (cell_of pages n)) ∙ asks r (each_word rs are r is) n)

  -- a line that no read looks at
  unlooked : (rs : List PageRead) → AreApart rs → (n : ℕ) → ((r : PageRead) → IsAmong r rs → ((n == r.start / 64) && is_looking r.reply) ≡ false) → on_line rs n ≡ true
  unlooked rs are n none =
      all_from (λ (r : PageRead). not (n == r.start / 64) || fits_alone r) rs
      (λ r is. where_so (n == r.start / 64) (fits_alone r) (λ same. alone_is r (each_word rs are r is) ∙ by_look r (n == r.start / 64) (is_looking r.reply) same (none r is)))
    where
      by_look : (r : PageRead) (a b : Bool) → a ≡ true → (a && b) ≡ false → (not b || line_now (r ∷ []) (r.start / 64)) ≡ true
      by_look r true true same none_is = cc none_is
      by_look r true false same none_is = refl
      by_look r false b same none_is = cc same

-- Lines of which each may be old or new.
module _ (old new : List Page) (have : (n : ℕ) → HasWords (seen old n)) (had : (n : ℕ) → HasWords (seen new n)) (rs : List PageRead) (are : AreApart rs) where
  abbrev either_line : ℕ → Bool
  either_line n = on_line old have rs n || on_line new had rs n

  -- lines that some read looks at, and those of all reads
  looked_at : list_all (λ (r : PageRead). not (is_looking r.reply) || either_line (r.start / 64)) rs ≡ list_all (λ (r : PageRead). either_line (r.start / 64)) rs
  looked_at =
      same_test (list_all (λ (r : PageRead). not (is_looking r.reply) || either_line (r.start / 64)) rs) (list_all (λ (r : PageRead). either_line (r.start / 64)) rs)
      (λ all. all_from (λ (r : PageRead). either_line (r.start / 64)) rs
      (λ r is. by_any (λ (q : PageRead). (r.start / 64 == q.start / 64) && is_looking q.reply) rs (either_line (r.start / 64)) (looks all r)
      (λ none. or_left (on_line old have rs (r.start / 64)) (on_line new had rs (r.start / 64)) (unlooked old have rs are (r.start / 64) none))))
      (λ all. all_from (λ (r : PageRead). not (is_looking r.reply) || either_line (r.start / 64)) rs
      (λ r is. or_right (not (is_looking r.reply)) (either_line (r.start / 64)) (all_of (λ (q : PageRead). either_line (q.start / 64)) r rs all is)))
    where
      looks : list_all (λ (r : PageRead). not (is_looking r.reply) || either_line (r.start / 64)) rs ≡ true → (r q : PageRead) → IsAmong q rs
          → ((r.start / 64 == q.start / 64) && is_looking q.reply) ≡ true → either_line (r.start / 64) ≡ true
      looks all r q is so =
          let parts = and_parts (r.start / 64 == q.start / 64) (is_looking q.reply) so in
          ap either_line (eqb-true (r.start / 64) (q.start / 64) parts.0)
          ∙ then_so (is_looking q.reply) (either_line (q.start / 64)) parts.1 (all_of (λ (t : PageRead). not (is_looking t.reply) || either_line (t.start / 64)) q rs all is)

  pub part_apart : list_all (λ n. line_fits rs n (cell_of old n) || line_fits rs n (cell_of new n)) (all_lines_read rs) ≡ list_all (λ (r : PageRead). either_line (r.start / 64)) rs
  part_apart =
      lines_apart (λ n. line_fits rs n (cell_of old n) || line_fits rs n (cell_of new n)) rs are
      ∙ all_same (λ (r : PageRead). not (is_looking r.reply) || (line_now old have rs (r.start / 64) || line_now new had rs (r.start / 64)))
      (λ (r : PageRead). not (is_looking r.reply) || either_line (r.start / 64)) rs
      (λ r is.
      ap (λ b. not (is_looking r.reply) || (b || line_now new had rs (r.start / 64))) (line_apart old have rs are (r.start / 64))
      ∙ ap (λ b. not (is_looking r.reply) || (on_line old have rs (r.start / 64) || b)) (line_apart new had rs are (r.start / 64)))
      ∙ looked_at
