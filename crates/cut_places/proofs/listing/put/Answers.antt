use Rattle.std.proofs.Common.{◌≡◌, ℕ, List, length, position, Option, sym, ap, ◌∙◌}
use Rattle.std.specs.List.{insert}
use Rattle.std.specs.Option.{unwrap_or}
use Rattle.nvm_model.specs.Listing.{is_before}
use Rattle.cut_places.specs.FilesState.{FileState, name_seen}
use Rattle.cut_places.proofs.ListLemmas.{place, put_at}
use Rattle.cut_places.proofs.listing.put.Goals as goal

placed : (files shown : List FileState) (own name : List ℕ) (o : Option ℕ) (count k : ℕ) → shown ≡ files → own ≡ name → o ≡ position (λ (file : FileState). is_before own (name_seen file)) shown
    → count ≡ length files → k ≡ unwrap_or o count → k ≡ place name files
placed files shown own name o count k same is found all at =
    at ∙ ap (λ p. unwrap_or p count) (found ∙ ap (λ n. position (λ (file : FileState). is_before n (name_seen file)) shown) is ∙ ap (position (λ (file : FileState). is_before name (name_seen file))) same)
    ∙ ap (unwrap_or (position (λ (file : FileState). is_before name (name_seen file)) files)) all

pub returns : goal.returns
returns c =
    let files = c.args.files.now.items in
    c.in_ok-insert.ensures.items
    ∙ ap (λ k. insert files k c.args.file)
    (placed files c.deref.result.now c.file.inside.name c.args.file.name c.first_behind.result c.len.result c.unwrap_or-place.result c.deref.ensures.value (ap (λ (f : FileState). f.name) c.file.view_is)
    c.first_behind.ensures (c.len.ensures ∙ sym c.deref.ensures.len ∙ ap length c.deref.ensures.value) c.unwrap_or-place.ensures)
    ∙ put_at c.args.file files
