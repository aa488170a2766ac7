-- Pages of a file that are holes.
use Rattle.std.proofs.Common.{◌≡◌, ℕ, suc, ◌+◌, ◌<◌, Bool, true, false, not, is_none, is_some, if◌then◌else◌, List, Option, Some, None, slice_index_or, refl, sym, ap, ◌∙◌, arith}
use Rattle.std.proofs.lemmas.List.{get_or-map}
use Rattle.std.proofs.lemmas.Option.{none-some}
use Rattle.inode_table.specs.Slots.{pages_at}
use Rattle.nvm_model.specs.Page.{absent_among}
use Rattle.file_journal.specs.Object.{JournalState}
use Rattle.file_journal.specs.Tables.{unit_at}
use Rattle.file_pages.specs.Object.{pages_there, units_of}
use Rattle.file_pages.proofs.PlaceLemmas.{length-units, unit_here}

pub page_there : (s : JournalState) (inode page : ℕ) → page < pages_at s.tables.files inode → is_some (unit_at s.tables inode page) ≡ slice_index_or (pages_there s inode) page true
page_there s inode page within =
    sym (get_or-map is_some (units_of s.tables inode) page None true (omega (arith, within, length-units s.tables inode)) ∙ ap is_some (unit_here s.tables inode page within))

pub negated : (b x : Bool) → not b ≡ x → b ≡ not x
negated true x is = ap not is
negated false x is = ap not is

pub none_is : (o : Option ℕ) → is_none o ≡ true → o ≡ None
none_is None is = refl
none_is (Some u) is = cc

pub some_is : (o : Option ℕ) → is_none o ≡ false → o ≡ None → ⊥
some_is None is none = cc
some_is (Some u) is none = none-some u (sym none)

pub absent_more : (there : List Bool) (first k one : ℕ) (b : Bool) → b ≡ not (slice_index_or there (first + k) true) → (b ≡ true → one ≡ 1) → (b ≡ false → one ≡ 0)
    → absent_among there first k + one ≡ absent_among there first (k + 1)
absent_more there first k one b is some none =
    let next : k + 1 ≡ suc k = omega arith in
    by_test (slice_index_or there (first + k) true) refl ∙ sym (ap (absent_among there first) next)
  where
    none_of : Bool → ℕ
    none_of t = if t then 0 else 1

    by_test : (t : Bool) → slice_index_or there (first + k) true ≡ t → absent_among there first k + one ≡ absent_among there first (suc k)
    by_test true at =
        let zero_is : one ≡ 0 = none (is ∙ ap not at) in
        ap (λ n. absent_among there first k + n) (zero_is ∙ sym (ap none_of at))
    by_test false at =
        let one_is : one ≡ 1 = some (is ∙ ap not at) in
        ap (λ n. absent_among there first k + n) (one_is ∙ sym (ap none_of at))
