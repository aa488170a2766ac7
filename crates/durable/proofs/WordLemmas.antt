use Rattle.nvm_model.specs.Numbered.{is_among}
-- A byte of a word that each of its values has.
use Rattle.std.proofs.Common.{◌≡◌, inl, inr, ℕ, ◌+◌, ◌*◌, ◌-◌, ◌<◌, Bool, true, false, cond, Option, Some, List, [], ◌∷◌, ◌++◌, length, get_or, refl, sym, ap, ◌∙◌}
use Rattle.std.specs.Int.{byte_at}
use Rattle.line_device.specs.Word.{byte_over, reaches, word_over}
use Rattle.line_device.specs.History.{IsIn, MayKeep, latest, newest}
use Rattle.line_device.specs.Medium.{word_stored}
use Rattle.line_device.proofs.HistoryLemmas.{is_in-latest, is_in-one, is_in-push, newest-latest, newest-push}
use Rattle.line_device.proofs.TornLemmas.{may_keep-byte}
use Rattle.nvm_model.proofs.PutLemmas.{byte_at-word_stored}

byte_over-spared : (at i old : ℕ) (bytes : List ℕ) → is_among at (length bytes) i ≡ false → byte_over at bytes i old ≡ old
unfolding byte_over
byte_over-spared at i old bytes out = ap (λ b. cond b (get_or bytes (i - at) 0) old) out

module _ (cut : Bool) where
  -- byte k of the last value is v, and of each value where the power may be cut
  pub record WordKeeps (history : List ℕ) (k : ℕ) (v : Option ℕ) : Type 0 where
    pub each : cut ≡ true → (u : ℕ) → IsIn u history → Some (byte_at k u) ≡ v
    pub last : Some (byte_at k (newest history)) ≡ v

  -- once it is durable, once a restart left one of its values
  pub word_keeps-latest : (history : List ℕ) (k : ℕ) → WordKeeps (latest history) k (Some (byte_at k (newest (latest history))))
  word_keeps-latest history k = record {
    each = λ cuts u at. ap (λ n. Some (byte_at k n)) (is_in-latest u history at ∙ sym (newest-latest history));
    last = refl;
  }

  pub word_keeps-flushed : (history : List ℕ) (k : ℕ) (v : Option ℕ) → WordKeeps history k v → WordKeeps (latest history) k v
  word_keeps-flushed history k v keeps = record {
    each = λ cuts u at. ap (λ n. Some (byte_at k n)) (is_in-latest u history at) ∙ keeps.last;
    last = ap (λ n. Some (byte_at k n)) (newest-latest history) ∙ keeps.last;
  }

  pub word_keeps-one : (unit : ℕ) (history : List ℕ) (k value : ℕ) (v : Option ℕ) → WordKeeps history k v → cut ≡ true → MayKeep unit value history → WordKeeps (value ∷ []) k v
  word_keeps-one unit history k value v keeps cuts was = record {
    each = λ same u at. ap (λ n. Some (byte_at k n)) (is_in-one u value at) ∙ kept;
    last = kept;
  }
    where
      -- the byte that is kept is that of a value
      kept : Some (byte_at k value) ≡ v
      kept = let one = may_keep-byte unit value history k was in ap (λ n. Some n) one.2 ∙ keeps.each cuts one.0 one.1

  -- once bytes are stored elsewhere
  pub word_keeps-stored : (at p k : ℕ) (bytes history : List ℕ) (v : Option ℕ) → ((j : ℕ) → get_or bytes j 0 < 256) → k < 8
      → is_among at (length bytes) (8 * p + k) ≡ false → WordKeeps history k v → WordKeeps (word_stored at bytes p history) k v
  word_keeps-stored at p k bytes history v small below out keeps = record {
    each = λ cuts u. by_test cuts u (reaches at (length bytes) p) refl;
    last = last;
  }
    where
      last : Some (byte_at k (newest (word_stored at bytes p history))) ≡ v
      last =
          ap (λ n. Some n) (byte_at-word_stored at p k bytes history small below ∙ byte_over-spared at (8 * p + k) (byte_at k (newest history)) bytes out)
          ∙ keeps.last

      pushed : (b : Bool) → reaches at (length bytes) p ≡ b → b ≡ true → Some (byte_at k (word_over at bytes p (newest history))) ≡ v
      pushed b is reached =
          ap (λ n. Some (byte_at k n)) (sym (newest-push history (word_over at bytes p (newest history))))
          ∙ ap (λ t. Some (byte_at k (newest (cond t (history ++ word_over at bytes p (newest history) ∷ []) history)))) (sym (is ∙ reached))
          ∙ last

      by_test : cut ≡ true → (u : ℕ) (b : Bool) → reaches at (length bytes) p ≡ b → IsIn u (cond b (history ++ word_over at bytes p (newest history) ∷ []) history)
          → Some (byte_at k u) ≡ v
      by_test cuts u false is at_u = keeps.each cuts u at_u
      by_test cuts u true is at_u = elim (is_in-push u (word_over at bytes p (newest history)) history at_u) as (λ _. Some (byte_at k u) ≡ v) [
        | inl old ↦ keeps.each cuts u old
        | inr new ↦ ap (λ n. Some (byte_at k n)) new ∙ pushed true is refl
      ]
