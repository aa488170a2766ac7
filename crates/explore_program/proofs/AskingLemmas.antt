-- The questions of a script ask of what its look's reads look at.
use Rattle.std.proofs.Common.{◌≡◌, inl, inr, ℕ, Option, Some, None, List, [], ◌∷◌, map, refl, sym, subst}
use Rattle.word_tables.specs.declared.geometry.Geometry.{Geometry}
use Rattle.script_text.specs.Action.{Action}
use Rattle.outcome_lists.specs.AskedReads.declared.read.Read.{Read}
use Rattle.outcome_lists.specs.OutcomeTest.Blocks.{all_numbers_read, numbers_read}
use Rattle.outcome_lists.specs.OutcomeTest.Pages.{all_lines_read, lines_read}
use Rattle.outcome_lists.specs.OutcomeTest.Seen.{Seen, block_reads, file_reads, volume_reads}
use Rattle.outcome_lists.specs.OutcomeTest.Seen.Seen.{of_blocks, of_file, of_volume}
use Rattle.exploration.specs.Answerable.{AllSeenBy, AreSeenBy, IsReadBy, read_seen}
use Rattle.exploration.specs.Exploration.{Asked}
use Rattle.exploration.specs.Reads.{read_of}
use Rattle.outcome_lists.specs.Explorer.Tabulating.{LooksWithin, looked}
use Rattle.outcome_lists.specs.Witnesses.Files.{places_read}
use Rattle.outcome_lists.specs.Witnesses.Keeping.{IsAmong}
use Rattle.outcome_lists.proofs.Explorer.LookedLemmas.{blocks_looked, file_looked, volume_looked}
use Rattle.outcome_lists.proofs.Explorer.Witnesses.ListLemmas.{among_parts}
use Rattle.explore_program.specs.Calls.{AllAskOf, and_read, reads_of}

-- the read is one of those that these commands are
read_among : (seen : Seen) (actions : List Action) → IsReadBy seen actions → IsAmong (read_seen seen) (reads_of actions)
read_among seen [] is = absurd is
read_among seen (action ∷ actions) (inl here) = subst (λ o. IsAmong (read_seen seen) (and_read o (reads_of actions))) (sym here) (inl refl)
read_among seen (action ∷ actions) (inr later) = by_read (read_of action) (read_among seen actions later)
  where
    by_read : (o : Option Read) → IsAmong (read_seen seen) (reads_of actions) → IsAmong (read_seen seen) (and_read o (reads_of actions))
    by_read None is = is
    by_read (Some read) is = inr is

-- one read's lines of a file, with its name
place_of_read : (name : List ℕ) (place : List ℕ × ℕ) (ns : List ℕ) → IsAmong place (map (λ n. (name, n)) ns) → (n : ℕ) × IsAmong n ns × (place ≡ (name, n))
place_of_read name place [] is = absurd is
place_of_read name place (n ∷ ns) (inl same) = (n, inl refl, same)
place_of_read name place (n ∷ ns) (inr later) = let rest = place_of_read name place ns later in (rest.0, inr rest.1, rest.2)

module _ (geo : Geometry) (actions : List Action) where
  abbrev all : List Seen
  all = looked geo (reads_of actions)

  lines_within : (look : List Seen) → AreSeenBy geo actions look → (n : ℕ) → IsAmong n (all_lines_read (volume_reads look)) → IsAmong n (all_lines_read (volume_reads all))
  lines_within [] are n is = absurd is
  lines_within (of_volume r ∷ look) are n is = elim (among_parts n (lines_read r.start r.len r.reply) (all_lines_read (volume_reads look)) is) as (λ _. IsAmong n (all_lines_read (volume_reads all))) [
    | inl here ↦ volume_looked geo (reads_of actions) r (read_among (of_volume r) actions are.0) are.1 n here
    | inr later ↦ lines_within look are.2 n later
  ]
  lines_within (of_blocks r ∷ look) are n is = lines_within look are.2 n is
  lines_within (of_file r ∷ look) are n is = lines_within look are.2 n is

  blocks_within : (look : List Seen) → AreSeenBy geo actions look → (b : ℕ) → IsAmong b (all_numbers_read (block_reads look)) → IsAmong b (all_numbers_read (block_reads all))
  blocks_within [] are b is = absurd is
  blocks_within (of_volume r ∷ look) are b is = blocks_within look are.2 b is
  blocks_within (of_blocks r ∷ look) are b is = elim (among_parts b (numbers_read r.first r.count r.reply) (all_numbers_read (block_reads look)) is) as (λ _. IsAmong b (all_numbers_read (block_reads all))) [
    | inl here ↦ blocks_looked geo (reads_of actions) r (read_among (of_blocks r) actions are.0) are.1 b here
    | inr later ↦ blocks_within look are.2 b later
  ]
  blocks_within (of_file r ∷ look) are b is = blocks_within look are.2 b is

  files_within : (look : List Seen) → AreSeenBy geo actions look → (place : List ℕ × ℕ) → IsAmong place (places_read (file_reads look)) → IsAmong place (places_read (file_reads all))
  files_within [] are place is = absurd is
  files_within (of_volume r ∷ look) are place is = files_within look are.2 place is
  files_within (of_blocks r ∷ look) are place is = files_within look are.2 place is
  files_within (of_file r ∷ look) are place is =
      let ns = lines_read r.pages.start r.pages.len r.pages.reply in
      elim (among_parts place (map (λ n. (r.name, n)) ns) (places_read (file_reads look)) is) as (λ _. IsAmong place (places_read (file_reads all))) [
        | inl here ↦
            let one = place_of_read r.name place ns here in
            subst (λ p. IsAmong p (places_read (file_reads all))) (sym one.2) (file_looked geo (reads_of actions) r (read_among (of_file r) actions are.0) are.1 one.0 one.1)
        | inr later ↦ files_within look are.2 place later
      ]

  within : (look : List Seen) → AreSeenBy geo actions look → LooksWithin all look
  within look are = record { lines = lines_within look are; blocks = blocks_within look are; files = files_within look are }

  pub all_ask : (asked : List Asked) → AllSeenBy geo actions asked → AllAskOf geo (reads_of actions) asked
  all_ask [] are = tt
  all_ask (first ∷ asked) are = (within first.look are.0, all_ask asked are.1)
