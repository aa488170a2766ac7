-- Blocks are served on when a line becomes bad.
use Rattle.std.proofs.Common.{◌≡◌, inl, inr, ℕ, Bool, true, false, ◌==◌, ◌/◌, if◌then◌else◌, [], refl, ◌∙◌, subst}
use Rattle.std.proofs.lemmas.Bool.{cases_eq}
use Rattle.line_device.specs.History.{IsIn}
use Rattle.line_device.specs.Medium.{Medium, WritesBack, last_image, poisoned, with_at}
use Rattle.line_device.proofs.HistoryLemmas.{is_in-word_write_back}
use Rattle.line_device.proofs.WriteBackLemmas.{on_line-in, on_line-out}
use Rattle.line_words.specs.Words.{IsOnly}
use Rattle.word_log.specs.Area.{gate_place}
use Rattle.block_device.specs.Area.{block_area}
use Rattle.block_device.specs.Object.{BlocksState, BlocksServe, map_words}
use Rattle.block_device.proofs.ByteLemmas.{is_only-newest}

stays_strong : (weak : ℕ → Bool) (line n : ℕ) → weak n ≡ false → with_at weak line false n ≡ false
stays_strong weak line n strong = elim (n == line) as (λ b. (if b then false else weak n) ≡ false) [ true ↦ refl | false ↦ strong ]

-- a word that has one value keeps it, or has none
is_only-poisoned : (old new : Medium) (line p v : ℕ) → WritesBack (poisoned old line) new → IsOnly v (old.history p) → IsOnly v (new.history p)
is_only-poisoned old new line p v x only w at =
    let was : IsIn w ((poisoned old line).history p) = is_in-word_write_back ((poisoned old line).is_weak (p / 8)) w ((poisoned old line).history p) (new.history p) (x.word_write_back p) at in
    elim (cases_eq (p / 8) line) as (λ _. w ≡ v) [
      | inl on ↦ absurd (subst (IsIn w) (on_line-in line (λ _ _. []) old.history p on) was)
      | inr off ↦ only w (subst (IsIn w) (on_line-out line (λ _ _. []) old.history p off) was)
    ]

pub serves-poisoned : (s : BlocksState) (old new : Medium) (line : ℕ) → WritesBack (poisoned old line) new → BlocksServe s old → BlocksServe s new
serves-poisoned s old new line x serves = record {
  valid = serves.valid;
  all = serves.all;
  is_map = serves.is_map;
  count = x.count ∙ serves.count;
  strong = λ n below. x.weak n ∙ stays_strong old.is_weak line n (serves.strong n below);
  rest = record {
    gate = is_only-poisoned old new line (gate_place (block_area s.geo)) 0 x serves.rest.gate;
    home = λ p in_home. is_only-poisoned old new line p (map_words s.geo s.map p) x (serves.rest.home p in_home);
  };
  durable = λ block unit at p from to. is_only-newest (last_image old p) (new.history p) (is_only-poisoned old new line p (last_image old p) x (serves.durable block unit at p from to));
}
