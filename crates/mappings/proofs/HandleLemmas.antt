-- Handles that rise: none stands twice, and the next one is new.
use Rattle.std.proofs.Common.{◌≡◌, ◌+◌, ◌<◌, ◌≤◌, ◌==◌, ℕ, Bool, true, false, not, List, [], ◌∷◌, ◌++◌, length, refl, ap, arith}
use Rattle.std.proofs.lemmas.Bool.{ne_eqb}
use Rattle.std.proofs.lemmas.List.Filters.{length-filter_both}
use Rattle.nvm_model.specs.Mappings.{has_handle, without_mapping}
use Rattle.nvm_model.specs.Storage.{Mapping}
use Rattle.mappings.specs.Object.{HandlesRise}

-- from one that is no higher
pub rise-lower : (low start high : ℕ) (ms : List Mapping) → low ≤ start → HandlesRise start ms high → HandlesRise low ms high
rise-lower low start high [] l h = omega arith
rise-lower low start high (m ∷ ms) l h = (omega (arith, h.0), h.1)

-- up to one that is no lower
pub rise-below : (low high : ℕ) (ms : List Mapping) → HandlesRise low ms high → low ≤ high
rise-below low high [] h = h
rise-below low high (m ∷ ms) h = omega (arith, h.0, rise-below (m.handle + 1) high ms h.1)

-- one more at the end
pub rise-more : (low high : ℕ) (ms : List Mapping) (m : Mapping) → m.handle ≡ high → HandlesRise low ms high → HandlesRise low (ms ++ m ∷ []) (high + 1)
rise-more low high [] m is h = (omega arith, omega arith)
rise-more low high (x ∷ ms) m is h = (h.0, rise-more (x.handle + 1) high ms m is h.1)

-- a handle below all of them has no mapping
pub without-below : (handle low high : ℕ) (ms : List Mapping) → handle < low → HandlesRise low ms high → without_mapping handle ms ≡ ms
without-below handle low high [] l h = refl
without-below handle low high (m ∷ ms) l h =
    let other : (handle == m.handle) ≡ false = ne_eqb handle m.handle (λ e. omega (arith, h.0)) in
    rw other (ap (λ t. m ∷ t) (without-below handle (m.handle + 1) high ms (omega (arith, h.0)) h.1))

-- one less
pub rise-without : (handle low high : ℕ) (ms : List Mapping) → HandlesRise low ms high → HandlesRise low (without_mapping handle ms) high
rise-without handle low high [] h = h
rise-without handle low high (m ∷ ms) h = by (handle == m.handle) refl (rise-without handle (m.handle + 1) high ms h.1)
  where
    by : (b : Bool) → (handle == m.handle) ≡ b → HandlesRise (m.handle + 1) (without_mapping handle ms) high
        → HandlesRise low (without_mapping handle (m ∷ ms)) high
    by true e rest = rw e (rise-lower low (m.handle + 1) high (without_mapping handle ms) (omega (arith, h.0)) rest)
    by false e rest = rw e (h.0, rest)

-- and no more of them
pub length-without : (handle : ℕ) (ms : List Mapping) → length (without_mapping handle ms) ≤ length ms
length-without handle ms = omega (arith, length-filter_both (λ m. not (has_handle handle m)) (λ m. not (not (has_handle handle m))) (λ m. refl) ms)
