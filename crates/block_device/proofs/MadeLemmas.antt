-- Blocks prepared one after the other, and made together.
use Rattle.std.proofs.Common.{IsTrue, ◌≡◌, inl, ℕ, zero, suc, false, ◌||◌, ◌==◌, ◌+◌, ◌≤◌, List, [], ◌∷◌, ◌++◌, length, refl, sym, ◌∙◌, ap, ap₂, subst, arith, length-append, append_assoc}
use Rattle.std.specs.List.{list_any}
use Rattle.std.proofs.lemmas.Bool.{ne_eqb, or_from}
use Rattle.std.proofs.lemmas.List.{length-map}
use Rattle.std.proofs.lemmas.List.Folds.{list_any-append}
use Rattle.line_device.specs.Device.{Device}
use Rattle.line_device.specs.Medium.{Medium}
use Rattle.line_words.specs.Words.{WritesBackBeside}
use Rattle.line_words.proofs.BesideLemmas.{beside-refl, beside-trans}
use Rattle.word_log.specs.declared.area.LogArea.{LogArea}
use Rattle.nvm_model.specs.Numbered.{list_from}
use Rattle.nvm_model.specs.Storage.{Block}
use Rattle.nvm_model.proofs.NumberedLemmas.{length-list_from}
use Rattle.block_device.specs.declared.change.Change.{Change}
use Rattle.block_device.specs.Calls.{AreReady, MayPrepare}
use Rattle.block_device.specs.Area.{IsBlockLine}
use Rattle.block_device.specs.Object.{BlocksState, IsKept, BlocksServe, HasGoodMetadata, blocks_of}
use Rattle.block_device.specs.Images.{EachReads, IsEither}
use Rattle.block_device.specs.Changes.{names}
use Rattle.block_device.specs.Prepared.{ArePrepared, AreAsBefore, blocks_with, numbers_of}
use Rattle.block_device.proofs.ImageLemmas.{each_reads-then, served_reads}
use Rattle.block_device.proofs.SpanLemmas.{list_from-push}
use Rattle.block_device.proofs.ServesLemmas.{serves_settled}
use Rattle.block_device.proofs.UnitsOfLemmas.{taken_none}

pub before-refl : (s : BlocksState) (m : Medium) → BlocksServe s m → HasGoodMetadata s.geo m → s.settled ≡ false → AreAsBefore s s m m
before-refl s m serves good unsettled = record {
  geo = refl;
  map = refl;
  quiet = refl;
  unsettled = unsettled;
  blocks = refl;
  serves = serves;
  good = good;
  outside = beside-refl (IsBlockLine s.geo) m;
}

pub before-trans : (s t u : BlocksState) (l m n : Medium) → AreAsBefore s t l m → AreAsBefore t u m n → AreAsBefore s u l n
before-trans s t u l m n x y = record {
  geo = y.geo ∙ x.geo;
  map = y.map ∙ x.map;
  quiet = y.quiet ∙ x.quiet;
  unsettled = y.unsettled;
  blocks = y.blocks ∙ x.blocks;
  serves = y.serves;
  good = y.good;
  outside = beside-trans (IsBlockLine s.geo) l m n x.outside (subst (λ g. WritesBackBeside (IsBlockLine g) m n) x.geo y.outside);
}

-- a stop leaves the old blocks
pub before-images : (s t : BlocksState) (m n : Medium) (other : List Block) → AreAsBefore s t m n → EachReads s.geo n (IsEither (blocks_of s m) other)
before-images s t m n other x =
    each_reads-then s.geo n (λ bs. bs ≡ blocks_of t n) (IsEither (blocks_of s m) other) (λ bs is. inl (is ∙ x.blocks))
    (subst (λ g. EachReads g n (λ bs. bs ≡ blocks_of t n)) x.geo (served_reads t n x.good x.serves))

-- which blocks change goes by their numbers
pub names_by : (cs : List Change) (b : ℕ) → names cs b ≡ list_any (λ k. k == b) (numbers_of cs)
names_by [] b = refl
names_by (c ∷ cs) b = ap (λ t. c.block == b || t) (names_by cs b)

past_numbers : (b start count : ℕ) → start + count ≤ b → list_any (λ k. k == b) (list_from (λ k. k) start count) ≡ false
past_numbers b start zero past = refl
past_numbers b start (suc count) past =
    or_from (start == b) (list_any (λ k. k == b) (list_from (λ k. k) (suc start) count)) (ne_eqb start b (λ e. omega arith)) (past_numbers b (suc start) count (omega arith))

module _ (cs before : List Change) (block k : ℕ) (is : numbers_of cs ≡ numbers_of before ++ list_from (λ b. b) block k) where
  -- the next block is none of them
  pub next_fresh : names before (block + k) ≡ false → names cs (block + k) ≡ false
  next_fresh fresh =
      let b : ℕ = block + k in
      names_by cs b
      ∙ ap (list_any (λ n. n == b)) is
      ∙ list_any-append (λ n. n == b) (numbers_of before) (list_from (λ n. n) block k)
      ∙ or_from (list_any (λ n. n == b) (numbers_of before)) (list_any (λ n. n == b) (list_from (λ n. n) block k)) (sym (names_by before b) ∙ fresh) (past_numbers b block k (omega arith))

  pub numbers_len : length cs ≡ length before + k
  numbers_len =
      sym (length-map cs (λ (c : Change). c.block))
      ∙ ap length is
      ∙ length-append (numbers_of before) (list_from (λ b. b) block k)
      ∙ ap₂ ◌+◌ (length-map before (λ (c : Change). c.block)) (length-list_from (λ b. b) block k)

  pub numbers_more : (ds : List Change) → numbers_of ds ≡ numbers_of cs ++ (block + k) ∷ [] → numbers_of ds ≡ numbers_of before ++ list_from (λ b. b) block (k + 1)
  numbers_more ds next =
      next
      ∙ ap (λ xs. xs ++ (block + k) ∷ []) is
      ∙ append_assoc (numbers_of before) (list_from (λ b. b) block k) ((block + k) ∷ [])
      ∙ ap (λ xs. numbers_of before ++ xs) (sym (list_from-push (λ b. b) block k))

-- blocks that are settled, before the first change is prepared
pub may_begin : (v s : BlocksState) (area : LogArea) (d : Device) (cs : List Change) → v ≡ s → IsKept v area → AreReady s d → HasGoodMetadata s.geo d.medium → cs ≡ [] → MayPrepare (record v { settled = false }) d cs
may_begin v s area d cs same kept ready good none =
    let serves : BlocksServe v d.medium = subst (λ z. BlocksServe z d.medium) (sym same) ready.serves in
    record {
      serves = serves_settled v d.medium false serves;
      unsettled = refl;
      on = ready.on;
      good = subst (λ (z : BlocksState). HasGoodMetadata z.geo d.medium) (sym same) good;
      prepared =
          subst (ArePrepared (record v { settled = false }) d.medium) (sym none) (record {
            may = tt;
            taken = taken_none v.free;
            in_step = kept.in_step (subst (λ (z : BlocksState). IsTrue z.settled) (sym same) ready.settled);
            durable = serves.durable;
          });
    }

pub none_with : (v s : BlocksState) (m : Medium) (cs : List Change) → v ≡ s → cs ≡ [] → blocks_with cs (record v { settled = false }) m ≡ blocks_of s m
none_with v s m cs same none = ap (λ ds. blocks_with ds v m) none ∙ ap (λ z. blocks_of z m) same

pub before_from : (v s t : BlocksState) (m n : Medium) → v ≡ s → AreAsBefore (record v { settled = false }) t m n → AreAsBefore s t m n
before_from v s t m n same x =
    let y : AreAsBefore (record s { settled = false }) t m n = subst (λ (z : BlocksState). AreAsBefore (record z { settled = false }) t m n) same x in
    record { geo = y.geo; map = y.map; quiet = y.quiet; unsettled = y.unsettled; blocks = y.blocks; serves = y.serves; good = y.good; outside = y.outside }
