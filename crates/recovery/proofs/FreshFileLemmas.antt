-- The files of a device that was made anew: there are none.
use Rattle.std.proofs.Common.{◌≡◌, ◌+◌, ◌*◌, ◌<◌, ◌≤◌, inl, inr, ℕ, zero, suc, [], replicate, Option, None, option_map, refl, sym, ◌∙◌, ap, subst, arith}
use Rattle.std.proofs.lemmas.List.{length-replicate}
use Rattle.line_device.specs.Medium.{Medium, last_image}
use Rattle.nvm_model.specs.Blocks.{first_there}
use Rattle.nvm_model.specs.Listing.{AreAlike, file_name, in_order}
use Rattle.nvm_model.specs.Numbered.{list_from, map_from}
use Rattle.word_tables.specs.declared.geometry.Geometry.{Geometry}
use Rattle.word_tables.specs.Layout.{first_line, inodes, size}
use Rattle.word_log.specs.Area.{IsOf, gate_place}
use Rattle.word_log.specs.Replay.{Replays}
use Rattle.word_log.proofs.ReplayLemmas.{replays_closed}
use Rattle.block_device.proofs.PositionLemmas.{get_or-list_from}
use Rattle.inode_table.specs.Holds.{HoldsSlot}
use Rattle.page_table.specs.Pages as units
use Rattle.page_table.specs.Pages.{used_pages}
use Rattle.file_journal.specs.Area.{file_area}
use Rattle.file_journal.specs.Files.{files_of, unit_file, unit_file_name}
use Rattle.file_journal.specs.Holds.{Holds}
use Rattle.file_journal.specs.Reading.{words_read, wrong_file_place, wrong_table}
use Rattle.file_journal.specs.Standing.{EachReadsFiles, FileStands}
use Rattle.file_journal.specs.Tables.{AreTables, Tables}
use Rattle.recovery.specs.Fresh.{IsFresh}
use Rattle.recovery.proofs.FreshPageLemmas.{zero_in, zero_last}
use Rattle.recovery.proofs.ZeroFileLemmas.{no_names, none_at, none_there, words_all, words_at, zero_tables}

-- nothing, so many times
none_used : (n : ℕ) → used_pages (replicate n None) ≡ 0
none_used zero = refl
none_used (suc n) = none_used n

none_listed : (t : Tables) (k n : ℕ) → in_order unit_file_name (map_from (λ inode slot. option_map (unit_file t inode) slot) k (replicate n None)) ≡ []
none_listed t k zero = refl
none_listed t k (suc n) = none_listed t (suc k) n

-- tables without a file
no_tables : Tables
no_tables = record { files = replicate 64 None; pages = replicate 16384 None }

no_tables_right : (units : ℕ) → 16 ≤ units → units ≤ 1024 → AreTables units no_tables
unfolding no_tables
no_tables_right units least most = record {
  names = no_names;
  table = record {
    few = most;
    all = length-replicate {A = Option ℕ} 16384 None;
    within = λ entry unit at. absurd (none_there 16384 entry unit at);
    apart = λ a b unit at other. absurd (none_there 16384 a unit at);
  };
  counted = λ entry unit at. absurd (none_there 16384 entry unit at);
  room = omega (arith, none_used 16384);
}

no_tables_held : (geo : Geometry) → Holds geo (λ _. 0) no_tables
unfolding no_tables
no_tables_held geo = record {
  slots = λ inode below. subst (HoldsSlot (list_from (λ _. 0) 0 8)) (sym (none_at 64 inode)) (record { first = refl; name = tt; rest = λ k from small. get_or-list_from (λ _. 0) 0 8 k 0 small });
  pages = λ inode page below small. ap units.word_of (sym (none_at 16384 (256 * inode + page)));
}

no_files : files_of no_tables ≡ []
unfolding no_tables
no_files = none_listed no_tables 0 64

gate_in : (geo : Geometry) → IsOf (file_area geo) (gate_place (file_area geo))
unfolding size
gate_in geo = inl (omega arith, omega arith)

module _ (geo : Geometry) (m : Medium) (fresh : IsFresh geo m) where
  zeros_replay : (image : ℕ → ℕ) → ((p : ℕ) → IsOf (file_area geo) p → image p ≡ 0) → Replays (file_area geo) image (λ _. 0)
  zeros_replay image zeros = replays_closed (file_area geo) image (λ _. 0) (zeros (gate_place (file_area geo)) (gate_in geo)) (λ p home. zeros p (inr home))

  -- whatever a cut leaves
  pub fresh_files : EachReadsFiles geo m (λ files. files ≡ [])
  fresh_files image is = record {
    tables = no_tables;
    right = no_tables_right geo.fpages (omega (arith, fresh.valid.least_fpages)) fresh.valid.most_fpages;
    word = λ _. 0;
    replays = zeros_replay image (λ p of. zero_in geo m fresh (image p) p (inr (inr of)) (is p of));
    holds = no_tables_held geo;
    files = [];
    is = refl;
    stand = subst (λ fs. AreAlike unit_file_name file_name (FileStands geo m) fs []) (sym no_files) tt;
  }

  -- nothing is wrong with them
  pub fresh_tables : wrong_file_place geo (last_image m) ≡ None
  fresh_tables =
      let word = last_image m in
      let last = λ (p : ℕ) (of : IsOf (file_area geo) p). zero_last geo m fresh p (inr (inr of)) in
      let zero = λ (k : ℕ) (below : k < 16896). words_at geo word (last (gate_place (file_area geo)) (gate_in geo)) k below ∙ last (8 * first_line geo inodes + k) (inr (omega arith, omega arith)) in
      ap (λ o. first_there o (wrong_table geo (words_read geo word))) (zeros_replay word last).valid
      ∙ zero_tables geo (words_read geo word) (words_all geo word) (λ k below. zero k (omega arith)) (λ k _ below. zero k below)
