-- What stands of the volume while other lines are worked on, and where a mount replays its log.
use Rattle.std.proofs.Common.{◌≡◌, inl, inr, ℕ, zero, suc, ◌+◌, ◌-◌, ◌*◌, ◌/◌, ◌%◌, ◌<◌, ◌==◌, Bool, true, false, Option, Some, None, option_map, option_and_then, get_or, nat_lt, List, [], ◌∷◌, length, map, slice_get, slice_index_or, refl, sym, ap, ◌∙◌, arith}
use Rattle.std.proofs.lemmas.List.{length-map}
use Rattle.std.proofs.lemmas.Option.{slice_get_within}
use Rattle.line_device.specs.History.{IsIn}
use Rattle.line_device.specs.Medium.{Medium}
use Rattle.line_device.proofs.TornLemmas.{torn-only, torn-part}
use Rattle.word_tables.specs.declared.geometry.Geometry.{Geometry}
use Rattle.word_tables.specs.Bounds.{IsValid}
use Rattle.word_tables.specs.Layout.{presence, first_line, size, meta_lines, volume_line}
use Rattle.word_tables.specs.Words.{place, of_volume_page}
use Rattle.word_log.specs.Area.{IsOf, IsShaped, gate_place}
use Rattle.word_log.specs.Replay.{Replays, replayed}
use Rattle.word_log.specs.Rest.{EachImage, IsImageOn, IsReached}
use Rattle.word_log.proofs.ReplayLemmas.{replays_closed}
use Rattle.word_log.proofs.RestLemmas.{replays-same, replays-reached}
use Rattle.nvm_model.specs.Numbered.{list_from}
use Rattle.nvm_model.specs.Cell.{Cell}
use Rattle.nvm_model.specs.Lines.{AreStrong}
use Rattle.nvm_model.specs.Page.{Page, cell_in, cell_of, presence_of, PagesStand}
use Rattle.nvm_model.proofs.KeptLemmas.{LineKept, pages_stand-kept}
use Rattle.pm_volume.specs.Area.{volume_area}
use Rattle.pm_volume.specs.Images.{EachReadsPages}
use Rattle.pm_volume.specs.Object.{VolumeState, VolumeHolds, VolumeServes}
use Rattle.pm_volume.specs.Presence.{first_wrong_page, presence_read, presence_word, presence_words, words_read, wrong_presence, wrong_volume_place}
use Rattle.nvm_model.specs.Blocks.{first_there}
use Rattle.line_words.proofs.PositionLemmas.{no_place}

-- a line that is there is one of the volume's
pub line_of_volume : (geo : Geometry) (pages : List Page) (n : ℕ) (cell : Cell) → length pages ≡ geo.vpages → cell_of pages n ≡ Some cell → n < 64 * geo.vpages
line_of_volume geo pages n cell all is = by_page (slice_get pages (n / 64)) refl is
  where
    by_page : (page : Option Page) → slice_get pages (n / 64) ≡ page → option_and_then (λ p. cell_in p (n % 64)) page ≡ Some cell → n < 64 * geo.vpages
    by_page None found is = cc
    by_page (Some page) found is = omega (arith, all, slice_get_within pages (n / 64) page found)

pub pages-kept : (geo : Geometry) (old new : Medium) (pages : List Page) → length pages ≡ geo.vpages → ((n : ℕ) → n < 64 * geo.vpages → LineKept old new (volume_line geo n))
    → PagesStand (volume_line geo) old pages → PagesStand (volume_line geo) new pages
pages-kept geo old new pages all kept stand = pages_stand-kept (volume_line geo) old new pages (λ n cell is. kept n (line_of_volume geo pages n cell all is)) stand

-- the volume's log and presence words lie apart
pub volume_shaped : (geo : Geometry) → IsValid geo → IsShaped (volume_area geo)
unfolding first_line size
volume_shaped geo valid = record {
  len = refl;
  whole = refl;
  apart = λ p log home. omega (arith, log, home);
}

-- the gate is a word of the log
pub gate_of_volume : (geo : Geometry) → IsOf (volume_area geo) (gate_place (volume_area geo))
unfolding size
gate_of_volume geo = inl (omega arith, omega arith)

-- what each image read as, it reads as where lines are only written back
pub each_pages-kept : (geo : Geometry) (old new : Medium) (P : List Page → Type 0) → ((image : ℕ → ℕ) → IsImageOn (volume_area geo) new image → IsImageOn (volume_area geo) old image)
    → ((n : ℕ) → n < 64 * geo.vpages → LineKept old new (volume_line geo n)) → EachReadsPages geo old P → EachReadsPages geo new P
each_pages-kept geo old new P images kept each image is =
    let was = each image (images image is) in
    record { pages = was.pages; is = was.is; all = was.all; replays = was.replays; stand = pages-kept geo old new was.pages was.all kept was.stand }

-- and where a mount replays the log
pub each_pages-reached : (geo : Geometry) (old new : Medium) (P : List Page → Type 0) → IsValid geo → EachImage (volume_area geo) new (IsReached (volume_area geo) old)
    → ((n : ℕ) → n < 64 * geo.vpages → LineKept old new (volume_line geo n)) → EachReadsPages geo old P → EachReadsPages geo new P
each_pages-reached geo old new P valid reaches kept each image is =
    let reached = reaches image is in
    let was = each reached.before reached.was in
    record {
      pages = was.pages;
      is = was.is;
      all = was.all;
      replays = replays-reached (volume_area geo) old image (presence_words geo (presence_of was.pages)) (volume_shaped geo valid) reached was.replays;
      stand = pages-kept geo old new was.pages was.all kept was.stand;
    }

pub each_pages-then : (geo : Geometry) (m : Medium) (P Q : List Page → Type 0) → ((pages : List Page) → P pages → Q pages) → EachReadsPages geo m P → EachReadsPages geo m Q
each_pages-then geo m P Q so each image is =
    let was = each image is in record { pages = was.pages; is = so was.pages was.is; all = was.all; replays = was.replays; stand = was.stand }

-- images of a medium whose words were only written back were its own
pub images-kept : (geo : Geometry) (old new : Medium) → ((p : ℕ) → IsOf (volume_area geo) p → LineKept old new (p / 8)) → (image : ℕ → ℕ) → IsImageOn (volume_area geo) new image
    → IsImageOn (volume_area geo) old image
images-kept geo old new kept image is p of = torn-part (image p) _ _ ((kept p of).words p refl).part (is p of)

words_are : (f : ℕ → ℕ) (n : ℕ) (there : List Bool) → ((k : ℕ) → k < length there → f (n + k) ≡ presence_word (slice_index_or there k false))
    → list_from f n (length there) ≡ map presence_word there
words_are f n [] is = refl
words_are f n (b ∷ there) is =
    let e : n + 0 ≡ n = omega arith in
    let head : f n ≡ presence_word b = sym (ap f e) ∙ is 0 (omega arith) in
    rw head (ap (λ xs. presence_word b ∷ xs) (words_are f (suc n) there (λ k lt. let e2 : suc n + k ≡ n + suc k = omega arith in ap f e2 ∙ is (suc k) (omega arith))))

-- an image whose words are those of these pages has these presence words
pub words_read-replays : (geo : Geometry) (image : ℕ → ℕ) (there : List Bool) → length there ≡ geo.vpages → Replays (volume_area geo) image (presence_words geo there)
    → words_read geo image ≡ map presence_word there
unfolding words_read
words_read-replays geo image there all replays = ap (list_from word 0) (sym all) ∙ words_are word 0 there each
  where
    word : ℕ → ℕ
    word i = replayed (volume_area geo) image (place geo (of_volume_page i))

    each : (k : ℕ) → k < length there → word (0 + k) ≡ presence_word (slice_index_or there k false)
    each k lt =
        let e : 0 + k ≡ k = omega arith in
        let at : place geo (of_volume_page k) - 8 * first_line geo presence ≡ k = omega arith in
        ap word e ∙ replays.home (place geo (of_volume_page k)) (omega arith, omega (arith, all)) ∙ ap (λ i. presence_word (slice_index_or there i false)) at

-- so it names these pages, and nothing is wrong with it
pub presence_read-replays : (geo : Geometry) (image : ℕ → ℕ) (there : List Bool) → length there ≡ geo.vpages → Replays (volume_area geo) image (presence_words geo there)
    → presence_read geo image ≡ there
presence_read-replays geo image there all replays = ap (map (λ w. w == 1)) (words_read-replays geo image there all replays) ∙ ones there
  where
    ones : (there : List Bool) → map (λ w. w == 1) (map presence_word there) ≡ there
    ones [] = refl
    ones (true ∷ there) = ap (λ xs. true ∷ xs) (ones there)
    ones (false ∷ there) = ap (λ xs. false ∷ xs) (ones there)

pub nothing_wrong : (geo : Geometry) (image : ℕ → ℕ) (there : List Bool) → length there ≡ geo.vpages → Replays (volume_area geo) image (presence_words geo there)
    → wrong_volume_place geo image ≡ None
nothing_wrong geo image there all replays =
    ap (λ o. first_there o (wrong_presence geo image)) replays.valid
    ∙ ap (λ words. option_map (λ i. place geo (of_volume_page i)) (first_wrong_page words)) (words_read-replays geo image there all replays)
    ∙ ap (option_map (λ i. place geo (of_volume_page i))) (none there)
  where
    small : (there : List Bool) (k : ℕ) → nat_lt 1 (get_or (map presence_word there) k 0) ≡ false
    small [] k = refl
    small (true ∷ there) zero = refl
    small (false ∷ there) zero = refl
    small (b ∷ there) (suc k) = small there k

    none : (there : List Bool) → first_wrong_page (map presence_word there) ≡ None
    none there = no_place (λ w. nat_lt 1 w) (map presence_word there) 0 (λ k lt. small there k)

-- images that agree on log and presence words name the same pages
pub reads_same : (geo : Geometry) (v w : ℕ → ℕ) (there : List Bool) → IsValid geo → ((p : ℕ) → IsOf (volume_area geo) p → v p ≡ w p)
    → Replays (volume_area geo) w (presence_words geo there) → Replays (volume_area geo) v (presence_words geo there)
reads_same geo v w there valid same replays = replays-same (volume_area geo) v w (presence_words geo there) (volume_shaped geo valid) same replays

-- a volume goes on serving a device whose log and presence words have no other values
pub volume_serves-kept : (s : VolumeState) (old new : Medium) → ((p : ℕ) → IsOf (volume_area s.geo) p → (v : ℕ) → IsIn v (new.history p) → IsIn v (old.history p))
    → AreStrong new (meta_lines s.geo) → new.count ≡ old.count → VolumeServes s old → VolumeServes s new
volume_serves-kept s old new fewer strong count serves = record {
  valid = serves.valid;
  all = serves.all;
  count = count ∙ serves.count;
  strong = strong;
  rest = record {
    gate = λ v at. serves.rest.gate v (fewer (gate_place (volume_area s.geo)) (gate_of_volume s.geo) v at);
    home = λ p home v at. serves.rest.home p home v (fewer p (inr home) v at);
  };
}

-- Each image reads as the pages that volume and device stand for.
pub served_pages : (s : VolumeState) (m : Medium) (pages : List Page) → VolumeServes s m → VolumeHolds s m pages → EachReadsPages s.geo m (λ x. x ≡ pages)
served_pages s m pages serves holds image is = record {
  pages = pages;
  is = refl;
  all = sym (length-map pages _) ∙ ap length holds.there ∙ serves.all;
  replays = replays_closed (volume_area s.geo) image (presence_words s.geo (presence_of pages))
      (torn-only 0 (image gate) (m.history gate) serves.rest.gate (is gate (gate_of_volume s.geo)))
      (λ p home. torn-only _ (image p) (m.history p) (serves.rest.home p home) (is p (inr home)) ∙ ap (λ there. presence_words s.geo there p) (sym holds.there));
  stand = holds.stand;
}
  where
    gate : ℕ
    gate = gate_place (volume_area s.geo)
