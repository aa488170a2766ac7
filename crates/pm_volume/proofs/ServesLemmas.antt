-- The volume is served on while its lines are worked on, and each image reads as its pages.
use Rattle.std.proofs.Common.{◌≡◌, inr, ℕ, ◌/◌, Bool, List, length, refl, sym, subst, ◌∙◌, arith}
use Rattle.line_device.specs.Medium.{Medium, WritesBack}
use Rattle.line_device.proofs.HistoryLemmas.{is_in-word_write_back}
use Rattle.line_words.specs.Words.{WritesBackOutside}
use Rattle.word_tables.specs.declared.geometry.Geometry.{Geometry}
use Rattle.word_tables.specs.Bounds.{IsValid}
use Rattle.word_tables.specs.Layout.{total_lines, volume_line, IsVolumeLine}
use Rattle.word_log.specs.Area.{IsOf}
use Rattle.word_log.specs.Replay.{Replays}
use Rattle.word_log.specs.Rest.{IsAtRest}
use Rattle.word_log.proofs.HeldLemmas.{rest-kept}
use Rattle.word_log.proofs.PhaseLemmas.{gate_of, images_rest, rest-write_back}
use Rattle.nvm_model.specs.Page.{Page, PagesStand, presence_of}
use Rattle.page_lines.specs.Turns.{WritesBackOthers}
use Rattle.pm_volume.specs.Area.{volume_area, IsOfVolume}
use Rattle.pm_volume.specs.Images.{EachReadsPages}
use Rattle.pm_volume.specs.Object.{VolumeHolds, VolumeServes, VolumeState}
use Rattle.pm_volume.specs.Presence.{presence_words}
use Rattle.pm_volume.proofs.AreaLemmas.{area_fits, area_in_metadata}
use Rattle.pm_volume.proofs.PlaceLemmas.{area_of_volume, volume_behind_metadata}

-- work on lines of pages
pub rest-others : (geo : Geometry) (words : ℕ → ℕ) (old new : Medium) (lines : ℕ → Type 0) → IsValid geo → old.count ≡ total_lines geo → ((n : ℕ) → lines n → IsVolumeLine geo n) → WritesBackOthers lines old new → IsAtRest (volume_area geo) old words → IsAtRest (volume_area geo) new words
rest-others geo words old new lines valid count are x rest =
    let area = volume_area geo in
    let apart : (p : ℕ) → IsOf area p → lines (p / 8) → ⊥ = λ p of is.
    let meta = area_in_metadata geo valid p of in
    let data_ = volume_behind_metadata geo valid (p / 8) (are (p / 8) is) in
    omega (arith, meta, data_.0) in
    rest-kept area words old new (gate_of area old (area_fits geo valid old count))
    (λ p of v. is_in-word_write_back (old.is_weak (p / 8)) v (old.history p) (new.history p) (x.word_write_back p (apart p of))) rest

pub serves-others : (s : VolumeState) (old new : Medium) (lines : ℕ → Type 0) → ((n : ℕ) → lines n → IsVolumeLine s.geo n) → WritesBackOthers lines old new → VolumeServes s old → VolumeServes s new
serves-others s old new lines are x serves = record {
  valid = serves.valid;
  all = serves.all;
  count = x.count ∙ serves.count;
  strong = λ n below. x.stays_strong n (serves.strong n below);
  rest = rest-others s.geo (presence_words s.geo s.present) old new lines serves.valid serves.count are x serves.rest;
}

pub serves-write_back : (s : VolumeState) (old new : Medium) → WritesBack old new → VolumeServes s old → VolumeServes s new
serves-write_back s old new x serves = record {
  valid = serves.valid;
  all = serves.all;
  count = x.count ∙ serves.count;
  strong = λ n below. x.weak n ∙ serves.strong n below;
  rest = rest-write_back (volume_area s.geo) (presence_words s.geo s.present) old new serves.rest x;
}

-- a volume of the same sizes and pages
pub serves-same : (s t : VolumeState) (m : Medium) → t.geo ≡ s.geo → t.present ≡ s.present → VolumeServes s m → VolumeServes t m
serves-same s t m geo there serves =
    subst (λ g. VolumeServes (record t { geo = g }) m) (sym geo)
    (subst (λ (ps : List Bool). VolumeServes (record t { geo = s.geo; present = ps }) m) (sym there)
    (record { valid = serves.valid; all = serves.all; count = serves.count; strong = serves.strong; rest = serves.rest }))

-- and one inside a call that has only loaded
pub serves-loaded : (v s : VolumeState) (seen : v ≡ s) (settled : Bool) (old new : Medium) → WritesBack old new → VolumeServes s old → VolumeServes (record v { settled = settled }) new
serves-loaded v s seen settled old new x serves = subst (λ (v : VolumeState). VolumeServes (record v { settled = settled }) new) (sym seen) (serves-same s _ new refl refl (serves-write_back s old new x serves))

pub holds-same : (s t : VolumeState) (m : Medium) (pages : List Page) → t.geo ≡ s.geo → t.present ≡ s.present → VolumeHolds s m pages → VolumeHolds t m pages
holds-same s t m pages geo there holds = record {
  there = holds.there ∙ sym there;
  stand = subst (λ (g : Geometry). PagesStand (volume_line g) m pages) (sym geo) holds.stand;
}

-- lines of pages are lines of the volume
pub of_volume : (geo : Geometry) (n : ℕ) → IsVolumeLine geo n → IsOfVolume geo n
of_volume geo n is = inr (inr is)

-- work on the log and the presence words is work on the volume
pub others-outside : (geo : Geometry) (old new : Medium) → IsValid geo → WritesBackOutside (IsOf (volume_area geo)) old new → WritesBackOthers (IsOfVolume geo) old new
others-outside geo old new valid x = record {
  count = x.count;
  bad = λ n _. x.bad n;
  weak = λ n _. x.weak n;
  stays_strong = λ n strong. x.weak n ∙ strong;
  stays_good = λ n good strong. x.bad n ∙ good;
  word_write_back = λ p apart. x.word_write_back p (λ of. apart (area_of_volume geo valid p of));
}

-- at rest each image reads as the pages that stand there
pub reads_rest : (geo : Geometry) (m : Medium) (there : List Bool) (pages : List Page) (P : List Page → Type 0) → IsValid geo → m.count ≡ total_lines geo → length there ≡ geo.vpages → length pages ≡ geo.vpages → IsAtRest (volume_area geo) m (presence_words geo there) → presence_of pages ≡ there → PagesStand (volume_line geo) m pages → P pages → EachReadsPages geo m P
reads_rest geo m there pages P valid count all long rest is stand holds image at = record {
  pages = pages;
  is = holds;
  all = long;
  replays = subst (λ (ps : List Bool). Replays (volume_area geo) image (presence_words geo ps)) (sym is) (images_rest (volume_area geo) (presence_words geo there) m (area_fits geo valid m count) rest image at);
  stand = stand;
}
