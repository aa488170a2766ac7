use Rattle.std.proofs.Common.{ℕ, [], ◌∷◌, length, ap, sym, ◌∙◌, arith, length-append}
use Rattle.std.specs.List.{insert}
use Rattle.file_journal.specs.Listing.{place_of}
use Rattle.file_journal.proofs.ListingLemmas.{place_of-low, put-at, refill-all}
use Rattle.file_journal.proofs.listing.insert.Goals as goal

pub move_last-requires : goal.move_last-requires
move_last-requires c =
    let old = c.args.list.now.items in
    let shown = ap length (c.as_mut_slice.ensures.value ∙ c.in_ok-push.ensures.ok) ∙ length-append old (c.args.file ∷ []) in
    let place = ap (place_of c.args.file.name) c.as_slice.ensures in
    omega (arith, shown, place, c.place_of-place.ensures, place_of-low c.args.file.name old)

pub returns-clause-ok : goal.returns-clause-ok
returns-clause-ok c =
    let old = c.args.list.now.items in
    let moved = c.move_last.ensures old c.args.file (c.as_mut_slice.ensures.value ∙ c.in_ok-push.ensures.ok) in
    let place = c.place_of-place.ensures ∙ ap (place_of c.args.file.name) c.as_slice.ensures in
    refill-all (length c.push.new.self.items) c.push.new.self.items c.move_last.new.files (c.move_last.auto.files ∙ ap length c.as_mut_slice.ensures.value)
    ∙ moved ∙ ap (λ (k : ℕ). insert old k c.args.file) place ∙ sym (put-at c.args.file old)
