-- Lines and blocks that no read looks at: all reads fit them.
use Rattle.std.proofs.Common.{◌≡◌, ℕ, ◌+◌, ◌-◌, ◌*◌, ◌/◌, ◌%◌, ◌<◌, ◌≤◌, ◌==◌, ◌&&◌, ◌||◌, nat_le, nat_lt, not, Bool, true, false, Option, Some, None, List, [], ◌∷◌, length, slice_index, slice_index_or, refl, sym, ap, ◌∙◌, arith, eq-eqb}
use Rattle.std.specs.Int.{byte_at}
use Rattle.std.specs.List.{list_all, list_any, range_with_len}
use Rattle.std.proofs.lemmas.Bool.{and_from, and_parts, eqb-true, leb-true, lt-ltb, ltb-true, or_left}
use Rattle.std.proofs.lemmas.List.Folds.{list_all-append}
use Rattle.nvm_model.specs.Cell.{Cell, touches}
use Rattle.nvm_model.specs.Cell.Cell.{Bad, Kept}
use Rattle.nvm_model.specs.Numbered.{is_among}
use Rattle.block_sights.specs.Sights.{Sight}
use Rattle.reply_text.specs.declared.reply.Why.{Why}
use Rattle.sights.specs.MachineModel.Meaning.{most_refusal}
use Rattle.sights.proofs.MachineModel.RefusalLemmas.{read_within}
use Rattle.sights.specs.Outcomes.Blocks.{BlockRead, BlockReply, all_numbers_read, numbers_read}
use Rattle.sights.specs.Outcomes.Blocks.BlockReply.{Shows as ShowsBlock, Scar, BadLine, Refuses as RefusesBlock}
use Rattle.sights.specs.Outcomes.Pages.{PageRead, PageReply, agrees, all_agree, all_allow_good, all_lines_read, allows_bad, allows_good, is_reply, is_reply_by, lines_read, words_fit}
use Rattle.sights.specs.Outcomes.Pages.PageReply.{Shows, Poison, Refuses}
use Rattle.sights.specs.AskedReads.Fitting.{cell_fits, sight_allows, sight_fits}
use Rattle.cut_places.proofs.AllLemmas.{one_of_range}
use Rattle.cut_places.specs.Enough.{HasEach}
use Rattle.cut_places.proofs.AmongLemmas.{range_all}

-- a line that a read touches is one at which it looks
touched_at : (start len n : ℕ) → 1 ≤ len → touches start len n ≡ true → (start / 64 ≤ n) × (n < start / 64 + ((start + len - 1) / 64 + 1 - start / 64))
touched_at start len n some is =
    let parts = and_parts (nat_lt start (64 * n + 64)) (nat_lt (64 * n) (start + len)) is in
    let low = ltb-true start (64 * n + 64) parts.0 in
    let high = ltb-true (64 * n) (start + len) parts.1 in
    (omega (arith, low), omega (arith, low, high, some))

-- where a list has a value, and each value passes
some_passes : (f : ℕ → Bool) (xs : List ℕ) → 1 ≤ length xs → ((x : ℕ) → f x ≡ true) → list_any f xs ≡ true
some_passes f [] some each = absurd (omega (arith, some))
some_passes f (x ∷ xs) some each = or_left (f x) (list_any f xs) (each x)

module _ (n : ℕ) where
  -- it is none of these
  abbrev pub is_none_of : List ℕ → Bool
  is_none_of ns = list_all (λ m. not (m == n)) ns

  out_of_range : (start count : ℕ) → is_none_of (range_with_len start count) ≡ true → start ≤ n → n < start + count → ⊥
  out_of_range start count out from below = wrong (sym (ap not (eq-eqb n n refl)) ∙ one_of_range (λ m. not (m == n)) start count n from below out)
    where
      wrong : false ≡ true → ⊥
      wrong e = cc

  module _ (start len : ℕ) (some : 1 ≤ len) (out : is_none_of (lines_read start len (Poison 0)) ≡ true) where
    untouched : touches start len n ≡ false
    untouched = by_touch (touches start len n) refl
      where
        by_touch : (b : Bool) → touches start len n ≡ b → b ≡ false
        by_touch true is =
            let at = touched_at start len n some is in absurd (out_of_range (start / 64) ((start + len - 1) / 64 + 1 - start / 64) out at.0 at.1)
        by_touch false is = refl

    aside_good : (at : ℕ) → touches start len (at / 64) ≡ true → not (n == at / 64) ≡ true
    aside_good at touched = by_line (n == at / 64) refl
      where
        by_line : (b : Bool) → (n == at / 64) ≡ b → not b ≡ true
        by_line true is = absurd (wrong (sym untouched ∙ ap (touches start len) (eqb-true n (at / 64) is) ∙ touched))
          where
            wrong : false ≡ true → ⊥
            wrong e = cc
        by_line false is = refl

    aside_agrees : (w v : ℕ) (bytes : List ℕ) → w < 8 → agrees (8 * n + w) v start len (Shows bytes) ≡ true
    aside_agrees w v bytes word =
        range_all (λ i. not (is_among start len i) || (slice_index bytes (i - start) == byte_at (i % 8) v)) (8 * (8 * n + w)) 8
        (λ i from to. ap (λ b. not b || (slice_index bytes (i - start) == byte_at (i % 8) v)) (outside i from to))
      where
        outside : (i : ℕ) → 8 * (8 * n + w) ≤ i → i < 8 * (8 * n + w) + 8 → is_among start len i ≡ false
        outside i from to = by_tests (nat_le start i) (nat_lt i (start + len)) refl refl
          where
            by_tests : (a b : Bool) → nat_le start i ≡ a → nat_lt i (start + len) ≡ b → (a && b) ≡ false
            by_tests true true low high =
                let before : start < 64 * n + 64 = omega (arith, leb-true _ _ low, from, to, word) in
                let behind : 64 * n < start + len = omega (arith, ltb-true _ _ high, from, to, word) in
                absurd (wrong (sym untouched ∙ and_from (nat_lt start (64 * n + 64)) (nat_lt (64 * n) (start + len)) (lt-ltb start (64 * n + 64) before) (lt-ltb (64 * n) (start + len) behind)))
              where
                wrong : false ≡ true → ⊥
                wrong e = cc
            by_tests true false low high = refl
            by_tests false b low high = refl

  -- one read
  module _ (size start len : ℕ) where
    given : (o : Option Why) (at : ℕ) → most_refusal 65536 size start len ≡ o → is_reply_by o start len (Poison at) ≡ true → (1 ≤ len) × (touches start len (at / 64) ≡ true)
    given None at none is = ((read_within 65536 size start len none).0, (and_parts (touches start len (at / 64)) (at == 64 * (at / 64)) is).0)
    given (Some why) at refused is = cc is

    shown : (o : Option Why) (bytes : List ℕ) → most_refusal 65536 size start len ≡ o → is_reply_by o start len (Shows bytes) ≡ true → 1 ≤ len
    shown None bytes none is = (read_within 65536 size start len none).0
    shown (Some why) bytes refused is = cc is

    abbrev IsAside : PageReply → Type 0
    IsAside reply =
        (allows_bad n start len reply ≡ true) × (allows_good n reply ≡ true) × ((w v : ℕ) → w < 8 → agrees (8 * n + w) v start len reply ≡ true)

    aside : (reply : PageReply) → is_reply size (record { start = start; len = len; reply = reply }) ≡ true → is_none_of (lines_read start len reply) ≡ true → IsAside reply
    aside (Shows bytes) is out =
        let some = shown (most_refusal 65536 size start len) bytes refl is in
        (ap not (untouched start len some out), refl, λ w v word. aside_agrees start len some out w v bytes word)
    aside (Poison at) is out =
        let told = given (most_refusal 65536 size start len) at refl is in
        (ap (λ b. not (b && nat_lt n (at / 64))) (untouched start len told.0 out), aside_good start len told.0 out at told.1, λ w v word. refl)
    aside (Refuses why) is out = (refl, refl, λ w v word. refl)

  -- all of them
  module _ (size : ℕ) where
    each_read : (test : PageRead → Bool) → ((r : PageRead) → IsAside size r.start r.len r.reply → test r ≡ true) → (reads : List PageRead)
        → list_all (is_reply size) reads ≡ true → is_none_of (all_lines_read reads) ≡ true → list_all test reads ≡ true
    each_read test each [] is out = refl
    each_read test each (r ∷ reads) is out =
        let replies = and_parts (is_reply size r) (list_all (is_reply size) reads) is in
        let parts = and_parts (is_none_of (lines_read r.start r.len r.reply)) (is_none_of (all_lines_read reads))
        (sym (list_all-append (λ m. not (m == n)) (lines_read r.start r.len r.reply) (all_lines_read reads)) ∙ out) in
        and_from (test r) (list_all test reads) (each r (aside size r.start r.len r.reply replies.0 parts.0)) (each_read test each reads replies.1 parts.1)

    pub line_aside : (reads : List PageRead) → list_all (is_reply size) reads ≡ true → is_none_of (all_lines_read reads) ≡ true → (line : Cell) → HasEach line → cell_fits reads n line ≡ true
    line_aside reads is out Bad has = each_read (λ (r : PageRead). allows_bad n r.start r.len r.reply) (λ r so. so.0) reads is out
    line_aside reads is out (Kept weak words) has =
        and_from (all_allow_good reads n) (words_fit reads n words)
        (each_read (λ (r : PageRead). allows_good n r.reply) (λ r so. so.1) reads is out)
        (range_all (λ w. list_any (all_agree reads (8 * n + w)) (slice_index_or words w [])) 0 8
        (λ w from word.
        let below : w < 8 = omega (arith, word) in
        some_passes (all_agree reads (8 * n + w)) (slice_index_or words w []) (has w below)
        (λ v. each_read (λ (r : PageRead). agrees (8 * n + w) v r.start r.len r.reply) (λ r so. so.2 w v below) reads is out)))

  -- and a block
  not_one : (first count : ℕ) → is_none_of (range_with_len first count) ≡ true → is_among first count n ≡ false
  not_one first count out = by_tests (nat_le first n) (nat_lt n (first + count)) refl refl
    where
      by_tests : (a b : Bool) → nat_le first n ≡ a → nat_lt n (first + count) ≡ b → (a && b) ≡ false
      by_tests true true low high = absurd (out_of_range first count out (leb-true _ _ low) (ltb-true _ _ high))
      by_tests true false low high = refl
      by_tests false b low high = refl

  block_out : (o : Sight) (first count : ℕ) (reply : BlockReply) → is_none_of (numbers_read first count reply) ≡ true → (not (is_among first count n) || sight_allows n o first reply) ≡ true
  block_out o first count (RefusesBlock why) out = or_true (not (is_among first count n))
    where
      or_true : (b : Bool) → (b || true) ≡ true
      or_true true = refl
      or_true false = refl
  block_out o first count (ShowsBlock bytes) out = ap (λ b. not b || sight_allows n o first (ShowsBlock bytes)) (not_one first count out)
  block_out o first count (Scar block) out = ap (λ b. not b || sight_allows n o first (Scar block)) (not_one first count out)
  block_out o first count (BadLine block line) out = ap (λ b. not b || sight_allows n o first (BadLine block line)) (not_one first count out)

  pub block_aside : (reads : List BlockRead) → is_none_of (all_numbers_read reads) ≡ true → (o : Sight) → sight_fits reads n o ≡ true
  block_aside [] out o = refl
  block_aside (r ∷ reads) out o =
      let parts = and_parts (is_none_of (numbers_read r.first r.count r.reply)) (is_none_of (all_numbers_read reads))
      (sym (list_all-append (λ m. not (m == n)) (numbers_read r.first r.count r.reply) (all_numbers_read reads)) ∙ out) in
      and_from (not (is_among r.first r.count n) || sight_allows n o r.first r.reply) (sight_fits reads n o) (block_out o r.first r.count r.reply parts.0) (block_aside reads parts.1 o)
