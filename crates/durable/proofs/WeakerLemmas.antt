-- A byte that is kept of a line that is not weak is kept of one that may be.
use Rattle.std.proofs.Common.{◌≡◌, inl, inr, ℕ, ◌/◌, ◌%◌, ◌||◌, Bool, true, false, Option, Some, None, List, refl, sym, subst}
use Rattle.nvm_model.specs.Cell.{Cell}
use Rattle.nvm_model.specs.Cell.Cell.{Bad, Kept}
use Rattle.nvm_model.specs.Page.{Page, cell_of}
use Rattle.machine_model.specs.Machine.{Machine}
use Rattle.machine_model.specs.OnPages.{pages_named}
use Rattle.durable.specs.Place.{Place}
use Rattle.durable.specs.Place.Place.{of_volume, of_blocks, of_file}
use Rattle.durable.proofs.KeepLemmas.{Keeps, PlaceKeeps}
use Rattle.durable.proofs.LineLemmas.{LineKeeps, MayBe}
use Rattle.durable.proofs.SparedLemmas.{SparedBy}
use Rattle.durable.proofs.VolumeLemmas.{VolumeKeeps}

-- what may have become of a line that is weak, or is not
abbrev pub since_then : Bool → Bool → Bool → MayBe
since_then lost cut weak = record { weak = weak; lost = lost; cut = cut }

module _ (lost cut : Bool) where
  abbrev since : Bool → MayBe
  since weak = since_then lost cut weak

  -- a line that is not weak may be one that is
  line-weaker : (o : Option Cell) (i : ℕ) (v : Option ℕ) → LineKeeps (since false) o i v → LineKeeps (since true) o i v
  line-weaker None i v keeps = keeps
  line-weaker (Some Bad) i v keeps = keeps
  line-weaker (Some (Kept weak words)) i v keeps = (λ is. refl, record { history = keeps.1.history; there = keeps.1.there; word = keeps.1.word })

  pages-weaker : (pages : List Page) (i : ℕ) (v : Option ℕ) → VolumeKeeps (since false) pages i v → VolumeKeeps (since true) pages i v
  pages-weaker pages i v (inl keeps) = inl (record { absent = keeps.absent; zero = keeps.zero })
  pages-weaker pages i v (inr keeps) = inr (line-weaker (cell_of pages (i / 64)) (i % 64) v keeps)

  place-weaker : (h : Machine) (x : Place) (v : Option ℕ) → PlaceKeeps (since false) h x v → PlaceKeeps (since true) h x v
  place-weaker h (of_volume i) v keeps = pages-weaker h.volume i v keeps
  place-weaker h (of_blocks i) v keeps = keeps
  place-weaker h (of_file name i) v keeps = pages-weaker (pages_named name h.files) i v keeps

  pub weaker : (h : Machine) (x : Place) (v : Option ℕ) (weak weakened : Bool) → (weakened ≡ true → h.interrupted ≡ None) → Keeps (since weak) h x v → Keeps (since (weak || weakened)) h x v
  weaker h x v true weakened free keeps = keeps
  weaker h x v false false free keeps = keeps
  weaker h x v false true free keeps = record {
    place = place-weaker h x v keeps.place;
    spared = subst (λ o. SparedBy (since true) h.geometry h.mappings o x) (sym (free refl)) tt;
    fine = keeps.fine;
    settled = keeps.settled;
  }
