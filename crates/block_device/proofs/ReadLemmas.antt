-- What a map reads as, on lines that stay or are only written back.
use Rattle.std.proofs.Common.{◌≡◌, ℕ, zero, suc, Bool, true, false, ◌+◌, ◌*◌, ◌/◌, ◌%◌, ◌<◌, ◌≤◌, List, [], ◌∷◌, Some, None, if◌then◌else◌, refl, sym, ◌∙◌, ap, ap₂, subst, arith}
use Rattle.std.specs.Int.{byte_at}
use Rattle.line_device.specs.History.{WordWritesBack}
use Rattle.line_device.specs.Medium.{Medium, WritesBack, last_image}
use Rattle.line_device.proofs.HistoryLemmas.{newest-word_write_back, is_in-word_write_back}
use Rattle.line_words.specs.Words.{IsOnly, WritesBackOutside, WritesBackBeside}
use Rattle.word_tables.specs.declared.geometry.Geometry.{Geometry}
use Rattle.word_tables.specs.Layout.{block_line}
use Rattle.block_map.specs.declared.state.BlockState.{BlockState}
use Rattle.block_map.specs.declared.state.BlockState.TheVariants.{Absent, Scarred, At}
use Rattle.block_map.specs.States.{IsAt}
use Rattle.nvm_model.specs.Numbered.{list_from}
use Rattle.nvm_model.specs.Storage.Block.{Data}
use Rattle.block_device.specs.Object.{AreDurable}
use Rattle.block_device.specs.Reading.{byte_of, line_read, block_read, map_read}

pub list_from-cong : {A : Type 0} (f g : ℕ → A) (n count : ℕ) → ((k : ℕ) → n ≤ k → k < n + count → f k ≡ g k) → list_from f n count ≡ list_from g n count
list_from-cong f g n zero same = refl
list_from-cong f g n (suc count) same =
    ap₂ ◌∷◌ (same n (omega arith) (omega arith)) (list_from-cong f g (suc n) count (λ k from to. same k (omega arith) (omega arith)))

-- a line of a unit that the map names
pub record IsNamed (geo : Geometry) (states : List BlockState) (n : ℕ) : Type 0 where
  pub block : ℕ
  pub unit : ℕ
  pub at : IsAt states block unit
  pub from : block_line geo unit ≤ n
  pub to : n < block_line geo unit + 8

pub line_read-same : (bad bad' : ℕ → Bool) (word word' : ℕ → ℕ) (n : ℕ) → bad' n ≡ bad n → ((p : ℕ) → p / 8 ≡ n → bad n ≡ false → word' p ≡ word p) → line_read bad' word' n ≡ line_read bad word n
line_read-same bad bad' word word' n mark same =
    ap (λ b. if b then None else Some (list_from (byte_of word') (64 * n) 64)) mark ∙ rest (bad n) same
  where
    rest : (b : Bool) → ((p : ℕ) → p / 8 ≡ n → b ≡ false → word' p ≡ word p) → (if b then None else Some (list_from (byte_of word') (64 * n) 64)) ≡ (if b then None else Some (list_from (byte_of word) (64 * n) 64))
    rest true same = refl
    rest false same =
        ap Some (list_from-cong (byte_of word') (byte_of word) (64 * n) 64 (λ k from to. ap (byte_at (k % 8)) (same (k / 8) (omega arith) refl)))

-- Blocks go by the marks of their lines, and by the words of those that are good.
pub block_read-same : (geo : Geometry) (bad bad' : ℕ → Bool) (word word' : ℕ → ℕ) (state : BlockState) → ((unit n : ℕ) → state ≡ At unit → block_line geo unit ≤ n → n < block_line geo unit + 8 → bad' n ≡ bad n) → ((unit p : ℕ) → state ≡ At unit → block_line geo unit ≤ p / 8 → p / 8 < block_line geo unit + 8 → bad (p / 8) ≡ false → word' p ≡ word p) → block_read geo bad' word' state ≡ block_read geo bad word state
block_read-same geo bad bad' word word' Absent marks same = refl
block_read-same geo bad bad' word word' Scarred marks same = refl
block_read-same geo bad bad' word word' (At unit) marks same =
    ap Data (list_from-cong (line_read bad' word') (line_read bad word) (block_line geo unit) 8 (λ n from to. line_read-same bad bad' word word' n (marks unit n refl from to) (at n from to)))
  where
    at : (n : ℕ) → block_line geo unit ≤ n → n < block_line geo unit + 8 → (p : ℕ) → p / 8 ≡ n → bad n ≡ false → word' p ≡ word p
    at n from to p is good = same unit p refl (omega arith) (omega arith) (ap bad is ∙ good)

pub map_read-same : (geo : Geometry) (bad bad' : ℕ → Bool) (word word' : ℕ → ℕ) (states : List BlockState) → ((n : ℕ) → IsNamed geo states n → bad' n ≡ bad n) → ((p : ℕ) → IsNamed geo states (p / 8) → bad (p / 8) ≡ false → word' p ≡ word p) → map_read geo bad' word' states ≡ map_read geo bad word states
map_read-same geo bad bad' word word' [] marks same = refl
map_read-same geo bad bad' word word' (s ∷ ss) marks same =
    ap₂ ◌∷◌
    (block_read-same geo bad bad' word word' s
    (λ unit n is from to. marks n (record { block = 0; unit = unit; at = ap Some is; from = from; to = to }))
    (λ unit p is from to. same p (record { block = 0; unit = unit; at = ap Some is; from = from; to = to })))
    (map_read-same geo bad bad' word word' ss (λ n named. marks n (later n named)) (λ p named. same p (later (p / 8) named)))
  where
    later : (n : ℕ) → IsNamed geo ss n → IsNamed geo (s ∷ ss) n
    later n named = record { block = suc named.block; unit = named.unit; at = named.at; from = named.from; to = named.to }

-- the mark of a line stays, and its words are only written back
pub record Stays (old new : Medium) (n : ℕ) : Type 0 where
  pub bad : new.is_bad n ≡ old.is_bad n
  pub word_write_back : (p : ℕ) → p / 8 ≡ n → WordWritesBack (old.is_weak n) (old.history p) (new.history p)

pub stays-beside : (inside : ℕ → Type 0) (old new : Medium) (n : ℕ) → WritesBackBeside inside old new → (inside n → ⊥) → Stays old new n
stays-beside inside old new n x out = record {
  bad = x.bad n out;
  word_write_back = λ p is. subst (λ k. WordWritesBack (old.is_weak k) (old.history p) (new.history p)) is (x.word_write_back p (λ h. out (subst inside is h)));
}

pub stays-outside : (inside : ℕ → Type 0) (old new : Medium) (n : ℕ) → WritesBackOutside inside old new → ((p : ℕ) → p / 8 ≡ n → inside p → ⊥) → Stays old new n
stays-outside inside old new n x out = record {
  bad = x.bad n;
  word_write_back = λ p is. subst (λ k. WordWritesBack (old.is_weak k) (old.history p) (new.history p)) is (x.word_write_back p (out p is));
}

pub newest-stays : (old new : Medium) (p : ℕ) → Stays old new (p / 8) → last_image new p ≡ last_image old p
newest-stays old new p x = newest-word_write_back (old.is_weak (p / 8)) (old.history p) (new.history p) (x.word_write_back p refl)

pub is_only-stays : (old new : Medium) (p v : ℕ) → Stays old new (p / 8) → IsOnly v (old.history p) → IsOnly v (new.history p)
is_only-stays old new p v x only w at = only w (is_in-word_write_back (old.is_weak (p / 8)) w (old.history p) (new.history p) (x.word_write_back p refl) at)

module _ (geo : Geometry) (states : List BlockState) (old new : Medium) where
  -- where the lines of the units that a map names stay, so do its blocks
  pub map_read-stays : ((n : ℕ) → IsNamed geo states n → Stays old new n) → map_read geo new.is_bad (last_image new) states ≡ map_read geo old.is_bad (last_image old) states
  map_read-stays stays =
      map_read-same geo old.is_bad new.is_bad (last_image old) (last_image new) states
      (λ n named. (stays n named).bad)
      (λ p named _. newest-stays old new p (stays (p / 8) named))

  -- and they stay durable
  pub durable-stays : ((n : ℕ) → IsNamed geo states n → Stays old new n) → AreDurable geo old states → AreDurable geo new states
  durable-stays stays durable block unit at p from to =
      let x = stays (p / 8) (record { block = block; unit = unit; at = at; from = from; to = to }) in
      subst (λ v. IsOnly v (new.history p)) (sym (newest-stays old new p x)) (is_only-stays old new p (last_image old p) x (durable block unit at p from to))

  -- work on other lines
  pub map_read-beside : (inside : ℕ → Type 0) → WritesBackBeside inside old new → ((n : ℕ) → IsNamed geo states n → inside n → ⊥) → map_read geo new.is_bad (last_image new) states ≡ map_read geo old.is_bad (last_image old) states
  map_read-beside inside x apart = map_read-stays (λ n named. stays-beside inside old new n x (apart n named))

  pub durable-beside : (inside : ℕ → Type 0) → WritesBackBeside inside old new → ((n : ℕ) → IsNamed geo states n → inside n → ⊥) → AreDurable geo old states → AreDurable geo new states
  durable-beside inside x apart = durable-stays (λ n named. stays-beside inside old new n x (apart n named))

  -- work on other words
  pub map_read-outside : (inside : ℕ → Type 0) → WritesBackOutside inside old new → ((p : ℕ) → IsNamed geo states (p / 8) → inside p → ⊥) → map_read geo new.is_bad (last_image new) states ≡ map_read geo old.is_bad (last_image old) states
  map_read-outside inside x apart = map_read-stays (λ n named. stays-outside inside old new n x (λ p is. apart p (subst (IsNamed geo states) (sym is) named)))

  pub durable-outside : (inside : ℕ → Type 0) → WritesBackOutside inside old new → ((p : ℕ) → IsNamed geo states (p / 8) → inside p → ⊥) → AreDurable geo old states → AreDurable geo new states
  durable-outside inside x apart = durable-stays (λ n named. stays-outside inside old new n x (λ p is. apart p (subst (IsNamed geo states) (sym is) named)))

  -- lines that are only written back
  pub map_read-write_back : WritesBack old new → map_read geo new.is_bad (last_image new) states ≡ map_read geo old.is_bad (last_image old) states
  map_read-write_back x = map_read-stays (λ n named. stays-write_back n x)
    where
      stays-write_back : (n : ℕ) → WritesBack old new → Stays old new n
      stays-write_back n x = record { bad = x.bad n; word_write_back = λ p is. subst (λ k. WordWritesBack (old.is_weak k) (old.history p) (new.history p)) is (x.word_write_back p) }

  pub durable-write_back : WritesBack old new → AreDurable geo old states → AreDurable geo new states
  durable-write_back x = durable-stays (λ n named. record { bad = x.bad n; word_write_back = λ p is. subst (λ k. WordWritesBack (old.is_weak k) (old.history p) (new.history p)) is (x.word_write_back p) })
