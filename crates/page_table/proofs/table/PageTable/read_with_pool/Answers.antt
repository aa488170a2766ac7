use Rattle.std.proofs.Common.{◌≡◌, ◌<◌, ◌≤◌, ℕ, false, None, List, map, length, refl, subst, sym, ◌∙◌, arith}
use Rattle.std.proofs.lemmas.List.{length-map}
use Rattle.page_table.specs.Pages.{unit_of}
use Rattle.page_table.specs.Reading.{HasFree, Reads}
use Rattle.page_table.specs.Wrong.{first_wrong_entry, is_wrong}
use Rattle.page_table.proofs.TableLemmas.{is_table, room_left, within_counts, words_of_units}
use Rattle.page_table.proofs.WrongLemmas.{all_right}
use Rattle.page_table.proofs.table.PageTable.read_with_pool.Goals as goal

module _ (units : ℕ) (counts words : List ℕ) (few : units ≤ 1024) (some : 32 ≤ units) (all : length words ≡ 16384) (none : first_wrong_entry units counts words ≡ None) where
  right : (k : ℕ) → k < length (map unit_of words) → is_wrong units counts (map unit_of words) k ≡ false
  right k within = all_right units counts words none k (omega (arith, length-map words unit_of))

  reads_words : Reads units counts words (record { units = units; pages = map unit_of words })
  reads_words = record {
    is = refl;
    written = words_of_units words;
    right = none;
    is_table = is_table units counts (map unit_of words) right few (length-map words unit_of ∙ all);
    counted = within_counts units counts (map unit_of words) right;
    room = room_left units counts (map unit_of words) right (omega arith);
  }

  reads : (kept : List ℕ) → kept ≡ words → Reads units counts words (record { units = units; pages = map unit_of kept })
  reads kept is = subst (λ (ws : List ℕ). Reads units counts words (record { units = units; pages = map unit_of ws })) (sym is) reads_words

pub invariant_of-table : goal.invariant_of-table
invariant_of-table c =
    let items = c.in_ok-kept.ensures.items in
    let v = c.requires.valid in (
      (reads c.args.geo.fpages c.args.counts.now c.args.words.now v.most_fpages v.least_fpages c.requires.words c.in_ok-free.ensures.ok _ items).is_table,
      rw items (omega (arith, c.free-2.ensures, c.in_ok-free.ensures.free.count)),
    )

pub returns-clause-ok : goal.returns-clause-ok
returns-clause-ok c =
    let v = c.requires.valid in
    reads c.args.geo.fpages c.args.counts.now c.args.words.now v.most_fpages v.least_fpages c.requires.words c.in_ok-free.ensures.ok _ c.in_ok-kept.ensures.items

pub returns-clause-free : goal.returns-clause-free
returns-clause-free c =
    subst (λ (words : List ℕ). HasFree (record { units = c.args.geo.fpages; pages = map unit_of words }) c.in_ok-free.free)
    (sym c.in_ok-kept.ensures.items) c.in_ok-free.ensures.free
