-- Pages whose lines fit the reads are read so.
use Rattle.std.proofs.Common.{◌≡◌, ◌⊎◌, inl, inr, ℕ, zero, suc, ◌+◌, ◌-◌, ◌*◌, ◌/◌, ◌%◌, ◌<◌, ◌≤◌, ◌==◌, Bool, true, false, not, ◌&&◌, ◌||◌, nat_lt, Option, Some, None, option_map, List, [], ◌∷◌, length, replicate, slice_get, slice_index_or, refl, sym, ap, subst, ◌∙◌, arith}
use Rattle.std.specs.Prelude.{slice_index}
use Rattle.std.specs.Int.{byte_at}
use Rattle.std.specs.List.{list_any, range_with_len}
use Rattle.std.proofs.lemmas.Bool.{and_from, and_parts, both_ways, cases_lt, eq-eqb, eqb-true, lt-ltb}
use Rattle.std.proofs.lemmas.Bool.Decides.{nat_tests}
use Rattle.std.proofs.lemmas.List.{get_or-replicate}
use Rattle.std.proofs.lemmas.Option.{get_or_from_slice_get}
use Rattle.nvm_model.specs.Cell.{Cell, touches}
use Rattle.nvm_model.specs.Cell.Cell.{Bad, Kept}
use Rattle.nvm_model.specs.Numbered.{is_among, list_from, map_from}
use Rattle.nvm_model.specs.Page.{Page, byte_in, cell_of, first_bad_line, is_bad_cell, look}
use Rattle.nvm_model.proofs.NumberedLemmas.{list_from-is, slice_get-map_from}
use Rattle.page_lines.proofs.LoopLemmas.{touches-within, within-touches}
use Rattle.reply_text.specs.declared.reply.Why.{Why}
use Rattle.machine_model.specs.Meaning.{most_refusal}
use Rattle.machine_model.proofs.RefusalLemmas.{read_within}
use Rattle.durable.specs.Naming.{IsLowestBad}
use Rattle.durable.proofs.LineLemmas.{byte_at-zero}
use Rattle.outcomes.specs.Pages.{PageRead, PageReply, agrees, all_agree, all_allow_good, all_lines_read, allows_bad, allows_good, is_given, is_refused_for, is_reply, is_reply_by, line_fits, lines_read, words_fit}
use Rattle.outcomes.specs.Pages.PageReply.{Shows, Poison, Refuses}
use Rattle.outcomes.proofs.AmongLemmas.{IsAmong, all_of, among_back, among_front, among_range}
use Rattle.outcomes.proofs.LineLemmas.{byte_of_line, kept_byte, lowest_of, none_bad}
use Rattle.outcomes.proofs.PickLemmas.{cell_of-picked, chosen, chosen-agrees, picked, picked_pages, picked_word}
use Rattle.outcomes.proofs.TestLemmas.{below_each, range_each}
use Rattle.outcomes.proofs.WordLemmas.{same_word}

-- what a reply tells, by why the span is wrong and the lowest bad line
abbrev pub Matches : List Page → PageRead → Option Why → Option ℕ → Type 0
Matches pages r (Some why) line = r.reply ≡ Refuses why
Matches pages r None (Some n) = r.reply ≡ Poison (64 * n)
Matches pages r None None = r.reply ≡ Shows (look pages r.start r.len)

pub record IsRead (size : ℕ) (pages : List Page) (r : PageRead) : Type 0 where
  pub why : Option Why
  pub line : Option ℕ
  pub refusal : most_refusal 65536 size r.start r.len ≡ why
  pub bad : first_bad_line pages r.start r.len ≡ line
  pub matches : Matches pages r why line

none_past : {A : Type 0} (xs : List A) (w : ℕ) → slice_get xs w ≡ None → length xs ≤ w
none_past [] w is = omega arith
none_past (x ∷ xs) zero is = cc is
none_past (x ∷ xs) (suc w) is = let rest = none_past xs w is in omega (arith, rest)

only_one : (b : Bool) → (b || false) ≡ true → b ≡ true
only_one true is = refl
only_one false is = is

-- a reply that fits, and one that can't be
pub refused_right : (why : Why) (reply : PageReply) → is_refused_for why reply ≡ true → reply ≡ Refuses why
refused_right why (Shows bytes) right = cc right
refused_right why (Poison at) right = cc right
refused_right why (Refuses other) right = ap Refuses (same_word other why right)

both_tests : (among same : Bool) → (not among || same) ≡ true → among ≡ true → same ≡ true
both_tests true same either is = either
both_tests false same either is = cc is

module _ (reads : List PageRead) (left : List Page) (lines : (n : ℕ) (weak : Bool) (words : List (List ℕ)) → cell_of left n ≡ Some (Kept weak words) → length words ≡ 8)
    (fit : (n : ℕ) → IsAmong n (all_lines_read reads) → line_fits reads n (cell_of left n) ≡ true) where
  pages : List Page
  pages = picked_pages reads left

  -- a line that a read touches is one of those that are looked at
  looked_at : (some : List PageRead) (r : PageRead) (n : ℕ) → IsAmong r some → IsAmong n (lines_read r.start r.len r.reply) → IsAmong n (all_lines_read some)
  looked_at [] r n is at = absurd is
  looked_at (x ∷ some) r n (inl same) at =
      among_front n (lines_read x.start x.len x.reply) (all_lines_read some) (subst (λ (y : PageRead). IsAmong n (lines_read y.start y.len y.reply)) same at)
  looked_at (x ∷ some) r n (inr later) at = among_back n (lines_read x.start x.len x.reply) (all_lines_read some) (looked_at some r n later at)

  touched_at : (r : PageRead) (n : ℕ) (reply : PageReply) → r.reply ≡ reply → (lines_read r.start r.len reply ≡ range_with_len (r.start / 64) ((r.start + r.len - 1) / 64 + 1 - r.start / 64))
      → 1 ≤ r.len → IsAmong r reads → touches r.start r.len n ≡ true → line_fits reads n (cell_of left n) ≡ true
  touched_at r n reply is range some among touched =
      let within = within-touches r.start r.len n some touched in
      fit n (looked_at reads r n among (subst (IsAmong n) (sym (ap (lines_read r.start r.len) is ∙ range))
      (among_range n (r.start / 64) ((r.start + r.len - 1) / 64 + 1 - r.start / 64) within.0 within.1)))

  -- what the fit of a line tells of it, as it was picked
  bad_is_allowed : (n : ℕ) (r : PageRead) → IsAmong r reads → line_fits reads n (cell_of left n) ≡ true → is_bad_cell (cell_of (picked_pages reads left) n) ≡ true
      → allows_bad n r.start r.len r.reply ≡ true
  bad_is_allowed n r among fits bad = by_cell (cell_of left n) fits (sym (ap is_bad_cell (cell_of-picked reads left n)) ∙ bad)
    where
      by_cell : (o : Option Cell) → line_fits reads n o ≡ true → is_bad_cell (option_map (picked reads n) o) ≡ true → allows_bad n r.start r.len r.reply ≡ true
      by_cell None good is = cc is
      by_cell (Some Bad) all is = all_of (λ (x : PageRead). allows_bad n x.start x.len x.reply) r reads all among
      by_cell (Some (Kept weak words)) good is = cc is

  good_is_allowed : (n : ℕ) (r : PageRead) → IsAmong r reads → line_fits reads n (cell_of left n) ≡ true → is_bad_cell (cell_of (picked_pages reads left) n) ≡ false
      → allows_good n r.reply ≡ true
  good_is_allowed n r among fits good = by_cell (cell_of left n) fits (sym (ap is_bad_cell (cell_of-picked reads left n)) ∙ good)
    where
      by_cell : (o : Option Cell) → line_fits reads n o ≡ true → is_bad_cell (option_map (picked reads n) o) ≡ false → allows_good n r.reply ≡ true
      by_cell None all is = all_of (λ (x : PageRead). allows_good n x.reply) r reads (and_parts (all_allow_good reads n) (words_fit reads n (replicate 8 (0 ∷ []))) all).0 among
      by_cell (Some Bad) all is = cc is
      by_cell (Some (Kept weak words)) all is = all_of (λ (x : PageRead). allows_good n x.reply) r reads (and_parts (all_allow_good reads n) (words_fit reads n words) all).0 among

  -- word w of a line that is not bad has a value on which the reads agree, and its bytes are those of it
  word_read : (n w : ℕ) → w < 8 → line_fits reads n (cell_of left n) ≡ true → is_bad_cell (cell_of (picked_pages reads left) n) ≡ false
      → (v : ℕ) × (all_agree reads (8 * n + w) v ≡ true) × ((j : ℕ) → j < 8 → byte_in (picked_pages reads left) (8 * (8 * n + w) + j) ≡ byte_at j v)
  word_read n w lt fits good = by_cell (cell_of left n) refl fits (sym (ap is_bad_cell (cell_of-picked reads left n)) ∙ good)
    where
      Result : Type 0
      Result = (v : ℕ) × (all_agree reads (8 * n + w) v ≡ true) × ((j : ℕ) → j < 8 → byte_in (picked_pages reads left) (8 * (8 * n + w) + j) ≡ byte_at j v)

      by_word : (weak : Bool) (words : List (List ℕ)) → cell_of left n ≡ Some (Kept weak words) → words_fit reads n words ≡ true
          → (o : Option (List ℕ)) → slice_get words w ≡ o → Result
      by_word weak words is all None none = absurd (omega (arith, lt, lines n weak words is, none_past words w none))
      by_word weak words is all (Some history) found =
          let some : list_any (all_agree reads (8 * n + w)) history ≡ true =
          sym (ap (list_any (all_agree reads (8 * n + w))) (get_or_from_slice_get words w history [] found))
          ∙ below_each (λ k. list_any (all_agree reads (8 * n + k)) (slice_index_or words k [])) 8 all w lt in
          let now : cell_of (picked_pages reads left) n ≡ Some (Kept weak (map_from (picked_word reads) (8 * n) words)) = cell_of-picked reads left n ∙ ap (option_map (picked reads n)) is in
          let value : slice_index_or (map_from (picked_word reads) (8 * n) words) w [] ≡ chosen reads (8 * n + w) history ∷ [] =
          get_or_from_slice_get (map_from (picked_word reads) (8 * n) words) w (picked_word reads (8 * n + w) history) []
          (slice_get-map_from (picked_word reads) (8 * n) words w ∙ ap (option_map (picked_word reads (8 * n + w))) found) in (
            chosen reads (8 * n + w) history,
            chosen-agrees reads (8 * n + w) history some,
            λ j less. byte_of_line (picked_pages reads left) n w j lt less (Some (Kept weak (map_from (picked_word reads) (8 * n) words))) now
                ∙ kept_byte (picked_pages reads left) weak (map_from (picked_word reads) (8 * n) words) w j (chosen reads (8 * n + w) history) lt less value,
          )

      by_cell : (o : Option Cell) → cell_of left n ≡ o → line_fits reads n o ≡ true → is_bad_cell (option_map (picked reads n) o) ≡ false → Result
      by_cell None is all none =
          let some : list_any (all_agree reads (8 * n + w)) (0 ∷ []) ≡ true =
          sym (ap (list_any (all_agree reads (8 * n + w))) (get_or-replicate 8 w (0 ∷ []) [] lt))
          ∙ below_each (λ k. list_any (all_agree reads (8 * n + k)) (slice_index_or (replicate 8 (0 ∷ [])) k [])) 8
          (and_parts (all_allow_good reads n) (words_fit reads n (replicate 8 (0 ∷ []))) all).1 w lt in (
            0,
            only_one (all_agree reads (8 * n + w) 0) some,
            λ j less. byte_of_line (picked_pages reads left) n w j lt less None (cell_of-picked reads left n ∙ ap (option_map (picked reads n)) is) ∙ sym (byte_at-zero j),
          )
      by_cell (Some Bad) is all none = cc none
      by_cell (Some (Kept weak words)) is all none =
          by_word weak words is (and_parts (all_allow_good reads n) (words_fit reads n words) all).1 (slice_get words w) refl

  -- the bytes of a read of which no line is bad
  bytes_read : (size : ℕ) (r : PageRead) (bytes : List ℕ) → IsAmong r reads → 1 ≤ r.len → r.reply ≡ Shows bytes → length bytes ≡ r.len
      → first_bad_line (picked_pages reads left) r.start r.len ≡ None → bytes ≡ look (picked_pages reads left) r.start r.len
  unfolding look
  bytes_read size r bytes among some is long none =
      list_from-is (byte_in (picked_pages reads left)) r.start bytes each ∙ ap (list_from (byte_in (picked_pages reads left)) r.start) long
    where
      test : ℕ → ℕ → Bool
      test v i = not (is_among r.start r.len i) || (slice_index bytes (i - r.start) == byte_at (i % 8) v)

      at_byte : (k i n w j : ℕ) → k < length bytes → i ≡ r.start + k → n ≡ i / 64 → w ≡ (i % 64) / 8 → j ≡ i % 8 → slice_index bytes k ≡ byte_in (picked_pages reads left) i
      at_byte k i n w j lt at_i at_n at_w at_j =
          let small : w < 8 = omega (arith, at_w) in
          let less : j < 8 = omega (arith, at_j) in
          let here : 8 * (8 * n + w) + j ≡ i = omega (arith, at_n, at_w, at_j) in
          let touched : touches r.start r.len n ≡ true =
          touches-within r.start r.len n some (omega (arith, at_n, at_i)) (omega (arith, at_n, at_i, lt, long, some)) in
          let fits = touched_at r n (Shows bytes) is refl some among touched in
          let word = word_read n w small fits (none_bad (picked_pages reads left) r.start r.len n some none touched) in
          let agreed : agrees (8 * n + w) word.0 r.start r.len (Shows bytes) ≡ true =
          sym (ap (agrees (8 * n + w) word.0 r.start r.len) is) ∙ all_of (λ (x : PageRead). agrees (8 * n + w) word.0 x.start x.len x.reply) r reads word.1 among in
          let tested : test word.0 i ≡ true = range_each (test word.0) (8 * (8 * n + w)) 8 agreed i (omega (arith, here)) (omega (arith, here, less)) in
          let inside : is_among r.start r.len i ≡ true = grind (arith, nat_tests, at_i, lt, long) in
          let same : slice_index bytes (i - r.start) ≡ byte_at (i % 8) word.0 = eqb-true _ _ (both_tests (is_among r.start r.len i) _ tested inside) in
          let index : i - r.start ≡ k = omega (arith, at_i) in
          sym (ap (slice_index bytes) index) ∙ same ∙ ap (λ d. byte_at d word.0) (sym at_j) ∙ sym (word.2 j less) ∙ ap (byte_in (picked_pages reads left)) here

      each : (k : ℕ) → k < length bytes → slice_index bytes k ≡ byte_in (picked_pages reads left) (r.start + k)
      each k lt = at_byte k (r.start + k) ((r.start + k) / 64) (((r.start + k) % 64) / 8) ((r.start + k) % 8) lt refl refl refl refl

  -- a read that names a line
  line_named : (r : PageRead) (at m : ℕ) → IsAmong r reads → 1 ≤ r.len → r.reply ≡ Poison at → touches r.start r.len (at / 64) ≡ true
      → first_bad_line (picked_pages reads left) r.start r.len ≡ Some m → m ≡ at / 64
  line_named r at m among some is touched found = by_order (cases_lt m (at / 64)) (cases_lt (at / 64) m)
    where
      lowest : IsLowestBad (picked_pages reads left) r.start r.len m
      lowest = lowest_of (picked_pages reads left) r.start r.len m some found

      not_below : m < at / 64 → ⊥
      not_below lt =
          let allowed : allows_bad m r.start r.len (Poison at) ≡ true =
          sym (ap (allows_bad m r.start r.len) is) ∙ bad_is_allowed m r among (touched_at r m (Poison at) is refl some among lowest.touched) lowest.bad in
          let both : (touches r.start r.len m && nat_lt m (at / 64)) ≡ true = and_from _ _ lowest.touched (lt-ltb m (at / 64) lt) in
          both_ways (not (touches r.start r.len m && nat_lt m (at / 64))) (ap not both) allowed

      not_above : at / 64 < m → ⊥
      not_above lt =
          let good : is_bad_cell (cell_of (picked_pages reads left) (at / 64)) ≡ false = lowest.before (at / 64) lt touched in
          both_ways (allows_good (at / 64) (Poison at)) (ap not (eq-eqb (at / 64) (at / 64) refl))
          (sym (ap (allows_good (at / 64)) is) ∙ good_is_allowed (at / 64) r among (touched_at r (at / 64) (Poison at) is refl some among touched) good)

      by_order : (m < at / 64) ⊎ (at / 64 ≤ m) → (at / 64 < m) ⊎ (m ≤ at / 64) → m ≡ at / 64
      by_order (inl below) up = absurd (not_below below)
      by_order (inr from) (inl above) = absurd (not_above above)
      by_order (inr from) (inr to) = omega (arith, from, to)

  pub is_read : (size : ℕ) (r : PageRead) → IsAmong r reads → is_reply size r ≡ true → IsRead size (picked_pages reads left) r
  is_read size r among right = by_why (most_refusal 65536 size r.start r.len) refl right
    where
      by_line : (bytes : List ℕ) → 1 ≤ r.len → most_refusal 65536 size r.start r.len ≡ None → r.reply ≡ Shows bytes → (length bytes == r.len) ≡ true
          → (o : Option ℕ) → first_bad_line (picked_pages reads left) r.start r.len ≡ o → IsRead size (picked_pages reads left) r
      by_line bytes some allowed is long (Some m) found =
          let lowest = lowest_of (picked_pages reads left) r.start r.len m some found in
          absurd (both_ways (allows_bad m r.start r.len (Shows bytes)) (ap not lowest.touched)
          (sym (ap (allows_bad m r.start r.len) is) ∙ bad_is_allowed m r among (touched_at r m (Shows bytes) is refl some among lowest.touched) lowest.bad))
      by_line bytes some allowed is long None none = record {
        why = None;
        line = None;
        refusal = allowed;
        bad = none;
        matches = is ∙ ap Shows (bytes_read size r bytes among some is (eqb-true (length bytes) r.len long) none);
      }

      by_name : (at : ℕ) → 1 ≤ r.len → most_refusal 65536 size r.start r.len ≡ None → r.reply ≡ Poison at → touches r.start r.len (at / 64) ≡ true → at ≡ 64 * (at / 64)
          → (o : Option ℕ) → first_bad_line (picked_pages reads left) r.start r.len ≡ o → IsRead size (picked_pages reads left) r
      by_name at some allowed is touched whole None none =
          absurd (both_ways (allows_good (at / 64) (Poison at)) (ap not (eq-eqb (at / 64) (at / 64) refl))
          (sym (ap (allows_good (at / 64)) is) ∙ good_is_allowed (at / 64) r among (touched_at r (at / 64) (Poison at) is refl some among touched)
          (none_bad (picked_pages reads left) r.start r.len (at / 64) some none touched)))
      by_name at some allowed is touched whole (Some m) found = record {
        why = None;
        line = Some m;
        refusal = allowed;
        bad = found;
        matches = is ∙ ap Poison (whole ∙ ap (λ k. 64 * k) (sym (line_named r at m among some is touched found)));
      }

      by_reply : (reply : PageReply) → most_refusal 65536 size r.start r.len ≡ None → r.reply ≡ reply → is_given r.start r.len reply ≡ true → IsRead size (picked_pages reads left) r
      by_reply (Shows bytes) allowed is given =
          by_line bytes (read_within 65536 size r.start r.len allowed).0 allowed is given (first_bad_line (picked_pages reads left) r.start r.len) refl
      by_reply (Poison at) allowed is given =
          let parts = and_parts (touches r.start r.len (at / 64)) (at == 64 * (at / 64)) given in
          by_name at (read_within 65536 size r.start r.len allowed).0 allowed is parts.0 (eqb-true at (64 * (at / 64)) parts.1) (first_bad_line (picked_pages reads left) r.start r.len) refl
      by_reply (Refuses why) allowed is given = cc given

      by_why : (o : Option Why) → most_refusal 65536 size r.start r.len ≡ o → is_reply_by o r.start r.len r.reply ≡ true → IsRead size (picked_pages reads left) r
      by_why (Some why) refused reply = record {
        why = Some why;
        line = first_bad_line (picked_pages reads left) r.start r.len;
        refusal = refused;
        bad = refl;
        matches = refused_right why r.reply reply;
      }
      by_why None allowed reply = by_reply r.reply allowed refl reply
