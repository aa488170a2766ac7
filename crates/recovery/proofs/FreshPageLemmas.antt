-- The volume of a device that was made anew: no page is there.
use Rattle.std.proofs.Common.{◌≡◌, ◌+◌, ◌-◌, ◌*◌, ◌/◌, ◌%◌, ◌<◌, ◌≤◌, inl, inr, ℕ, zero, suc, false, List, [], ◌∷◌, get_or, nat_lt, slice_get, Option, Some, None, option_map, option_and_then, if◌then◌else◌, refl, sym, ◌∙◌, ap, subst, arith}
use Rattle.std.proofs.lemmas.Bool.{lt-ltb, le-ltb}
use Rattle.std.proofs.lemmas.Option.{none-some, same_Some}
use Rattle.line_device.specs.History.{newest, IsTorn}
use Rattle.line_device.specs.Medium.{Medium, last_image}
use Rattle.line_device.proofs.TornLemmas.{torn-one}
use Rattle.word_tables.specs.declared.geometry.Geometry.{Geometry}
use Rattle.word_tables.specs.Layout.{first_line, presence, size, volume_line}
use Rattle.word_tables.specs.Superblock.{superblock_word}
use Rattle.word_tables.specs.Words.{place, of_volume_page}
use Rattle.word_log.specs.Area.{IsOf, gate_place}
use Rattle.word_log.specs.Replay.{Replays, replayed}
use Rattle.word_log.proofs.ReplayLemmas.{replays_closed}
use Rattle.nvm_model.specs.Blocks.{first_there}
use Rattle.nvm_model.specs.Cell.{Cell}
use Rattle.nvm_model.specs.Numbered.{list_from}
use Rattle.nvm_model.specs.Page.{Page, cell_in, presence_of, PagesStand}
use Rattle.nvm_model.specs.Page.Page.{Absent, Present}
use Rattle.nvm_model.proofs.NumberedLemmas.{length-list_from}
use Rattle.block_device.proofs.AreaLemmas.{meta_within}
use Rattle.block_device.proofs.PositionLemmas.{none_made}
use Rattle.pm_volume.specs.Area.{volume_area}
use Rattle.pm_volume.specs.Images.{EachReadsPages}
use Rattle.pm_volume.specs.Presence.{first_wrong_page, presence_word, presence_words, words_read, wrong_presence, wrong_volume_place}
use Rattle.pm_volume.proofs.AreaLemmas.{page_is_home}
use Rattle.recovery.specs.Fresh.{IsFresh, fresh_word}
use Rattle.recovery.specs.Mounting.{IsOfLogs}
use Rattle.recovery.proofs.LogLemmas.{logs_behind, logs_in_metadata}

pub fresh-first : (geo : Geometry) (p : ℕ) → p < 8 → fresh_word geo p ≡ superblock_word geo p
fresh-first geo p below = ap (λ b. if b then superblock_word geo p else 0) (lt-ltb p 8 below)

pub fresh-later : (geo : Geometry) (p : ℕ) → 8 ≤ p → fresh_word geo p ≡ 0
fresh-later geo p from = ap (λ b. if b then superblock_word geo p else 0) (le-ltb p 8 from)

-- absent pages
none_there : (n count i : ℕ) (page : Page) → slice_get (list_from (λ _. Absent) n count) i ≡ Some page → page ≡ Absent
none_there n zero i page at = absurd (none-some page at)
none_there n (suc count) zero page at = sym (same_Some _ _ at)
none_there n (suc count) (suc i) page at = none_there (suc n) count i page at

-- have words of 0
zero_words : (n count k : ℕ) → presence_word (get_or (presence_of (list_from (λ _. Absent) n count)) k false) ≡ 0
zero_words n zero k = refl
zero_words n (suc count) zero = refl
zero_words n (suc count) (suc k) = zero_words (suc n) count k

-- and stand on no line
pub absent_stand : (place : ℕ → ℕ) (m : Medium) (count : ℕ) → PagesStand place m (list_from (λ _. Absent) 0 count)
absent_stand place m count = record { whole = λ i cells at. no_cells cells (none_there 0 count i (Present cells) at); lines = λ n cell at. no_line n cell (slice_get (list_from (λ _. Absent) 0 count) (n / 64)) refl at }
  where
    no_cells : {P : Type 0} (cells : List Cell) → Present cells ≡ Absent → P
    no_cells cells is = cc

    no_line : {P : Type 0} (n : ℕ) (cell : Cell) (o : Option Page) → slice_get (list_from (λ _. Absent) 0 count) (n / 64) ≡ o → option_and_then (λ page. cell_in page (n % 64)) o ≡ Some cell → P
    no_line n cell None was is = cc
    no_line n cell (Some Absent) was is = cc
    no_line n cell (Some (Present cells)) was is = no_cells cells (none_there 0 count (n / 64) (Present cells) was)

module _ (geo : Geometry) (m : Medium) (fresh : IsFresh geo m) where
  -- the words of logs and of their tables are 0
  only_zero : (p : ℕ) → IsOfLogs geo p → m.history p ≡ 0 ∷ []
  only_zero p of =
      fresh.words p (omega (arith, logs_in_metadata geo fresh.valid p of, meta_within geo, fresh.count)) ∙ ap (λ v. v ∷ []) (fresh-later geo p (logs_behind geo p of))

  pub zero_in : (v p : ℕ) → IsOfLogs geo p → IsTorn v (m.history p) → v ≡ 0
  zero_in v p of torn = torn-one 0 v (subst (IsTorn v) (only_zero p of) torn)

  pub zero_last : (p : ℕ) → IsOfLogs geo p → last_image m p ≡ 0
  zero_last p of = ap newest (only_zero p of)

  -- its volume
  fresh_replays : (image : ℕ → ℕ) → ((p : ℕ) → IsOf (volume_area geo) p → image p ≡ 0) → Replays (volume_area geo) image (presence_words geo (presence_of (list_from (λ _. Absent) 0 geo.vpages)))
  unfolding size
  fresh_replays image zeros =
      replays_closed (volume_area geo) image (presence_words geo (presence_of (list_from (λ _. Absent) 0 geo.vpages)))
      (zeros (gate_place (volume_area geo)) (inl (omega arith, omega arith)))
      (λ p home. zeros p (inr home) ∙ sym (zero_words 0 geo.vpages (p - 8 * first_line geo presence)))

  -- whatever a cut leaves
  pub fresh_pages : EachReadsPages geo m (λ ps. ps ≡ list_from (λ _. Absent) 0 geo.vpages)
  fresh_pages image is = record {
    pages = list_from (λ _. Absent) 0 geo.vpages;
    is = refl;
    all = length-list_from (λ _. Absent) 0 geo.vpages;
    replays = fresh_replays image (λ p of. zero_in (image p) p (inr (inl of)) (is p of));
    stand = absent_stand (volume_line geo) m geo.vpages;
  }

  -- nothing is wrong with it
  pub fresh_presence : wrong_volume_place geo (last_image m) ≡ None
  unfolding words_read
  fresh_presence =
      let replays = fresh_replays (last_image m) (λ p of. zero_last p (inr (inl of))) in
      let words : ℕ → ℕ = λ i. replayed (volume_area geo) (last_image m) (place geo (of_volume_page i)) in
      let none : first_wrong_page (list_from words 0 geo.vpages) ≡ None =
      none_made words (λ w. nat_lt 1 w) 0 geo.vpages (λ k below.
      ap (nat_lt 1) (replays.home (place geo (of_volume_page (0 + k))) (page_is_home geo fresh.valid (0 + k) (omega (arith, below)))
      ∙ zero_words 0 geo.vpages (place geo (of_volume_page (0 + k)) - 8 * first_line geo presence))) in
      ap (λ o. first_there o (wrong_presence geo (last_image m))) replays.valid ∙ ap (option_map (λ i. place geo (of_volume_page i))) none
