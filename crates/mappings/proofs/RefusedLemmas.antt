-- Why a stretch of the file of a name is not mapped.
use Rattle.std.proofs.Common.{◌≡◌, ◌≢◌, ◌*◌, ◌∙◌, ℕ, List, Option, Some, None, Result, Ok, Err, IsErrAnd, refl, sym, ap, subst}
use Rattle.line_device.specs.Medium.{Medium}
use Rattle.line_words.specs.Told.{Answers, Checks, refusal_of}
use Rattle.nvm_base.specs.declared.files.Kind.{Kind}
use Rattle.nvm_base.specs.declared.units.Span.{Span}
use Rattle.inode_table.specs.Slots.{inode_of, pages_at}
use Rattle.inode_table.proofs.SlotLemmas.{found_is_named}
use Rattle.nvm_model.specs.Blocks.{first_there}
use Rattle.nvm_model.specs.Storage.{File}
use Rattle.file_journal.specs.Object.{JournalState}
use Rattle.file_journal.specs.Standing.{FilesStand}
use Rattle.file_journal.specs.Tables.{AreTables}
use Rattle.file_pages.specs.Object.{IsFileAt}
use Rattle.file_pages.proofs.FoundLemmas.{FoundFile, file-found, file-missing}
use Rattle.mappings.specs.declared.fault.MapFault.{MapFault}
use Rattle.mappings.specs.declared.fault.MapFault.TheVariants as fault
use Rattle.mappings.specs.Object.{MappingsState}
use Rattle.mappings.specs.Refusals.{MapRefusal, copy_refusal, extent_refusal, found_refusal, inode_refusal, limit_refusal, map_refusal, map_says}
use Rattle.mappings.specs.Refusals.MapRefusal.{Missing}

-- what a first and a second test tell, whatever a third one does
early-told : (S : Type 0) {T : Type 0} (a b c : Option MapRefusal) (f : MapFault) (r : Result T MapFault) → IsErrAnd r (λ e. e ≡ f) → Checks {T = S} map_says (first_there a b) (Err f)
    → Answers map_says (first_there a (first_there b c)) r
early-told S a b c f (Ok x) is told = absurd is
early-told S None None c f (Err e) is told = absurd told
early-told S None (Some why) c f (Err e) is told = ap (λ g. refusal_of (map_says g)) is ∙ told
early-told S (Some why) b c f (Err e) is told = ap (λ g. refusal_of (map_says g)) is ∙ told

-- where both found nothing
late-told : (a b c : Option MapRefusal) → first_there a b ≡ None → first_there a (first_there b c) ≡ c
late-told None None c none = refl
late-told None (Some why) c none = cc
late-told (Some why) b c none = cc

pub checks-none : {T : Type 0} (o : Option MapRefusal) (x : T) → Checks map_says o (Ok x) → o ≡ None
checks-none None x h = refl
checks-none (Some why) x h = absurd h

pub answers-ok : {S T : Type 0} (o : Option MapRefusal) (x : S) (y : T) → Answers map_says o (Ok x) → Answers map_says o (Ok y)
answers-ok None x y h = tt
answers-ok (Some why) x y h = absurd h

pub answers-err : (S : Type 0) {T : Type 0} (o : Option MapRefusal) (f : MapFault) (r : Result T MapFault) → IsErrAnd r (λ e. e ≡ f) → Answers {T = S} map_says o (Err f) → Answers map_says o r
answers-err S o f (Ok x) is h = absurd is
answers-err S None f (Err e) is h = ap (λ g. refusal_of (map_says g)) is ∙ h
answers-err S (Some why) f (Err e) is h = ap (λ g. refusal_of (map_says g)) is ∙ h

-- an error that is handed on was no want of memory before
pub fed-inner : (S : Type 0) {T : Type 0} (f : MapFault) (r : Result T MapFault) → IsErrAnd r (λ e. e ≡ f) → r ≢ Err fault.Memory → ◌≢◌ {A = Result S MapFault} (Err f) (Err fault.Memory)
fed-inner S f (Ok x) is fed e = absurd is
fed-inner S f (Err g) is fed e = let same : f ≡ fault.Memory = cc in fed (ap (λ x. Err x) (is ∙ same))

-- a file that is missing is not mapped
pub missing-answers : {T : Type 0} (s : MappingsState) (j : JournalState) (m : Medium) (name : List ℕ) (span : Span) (kind : Kind) (files : List File) → FilesStand j.geo m j.tables files
    → inode_of name j.tables.files ≡ None → (f : MapFault) → f ≡ fault.Missing → (r : Result T MapFault) → IsErrAnd r (λ e. e ≡ f) → Answers map_says (map_refusal s files name span kind) r
missing-answers {T} s j m name span kind files stand none f missing r is =
    subst (λ o. Answers map_says (found_refusal s o span kind) r) (sym (file-missing j m name files stand none))
    (answers-err T (Some Missing) f r is (ap (λ g. refusal_of (map_says g)) missing))

module _ (s : MappingsState) (j : JournalState) (m : Medium) (are : AreTables j.geo.fpages j.tables) (name : List ℕ) (span : Span) (kind : Kind) (files : List File) (stand : FilesStand j.geo m j.tables files)
    (inode : ℕ) (here : inode_of name j.tables.files ≡ Some inode) where
  named-file : FoundFile j m inode name files
  named-file = file-found j m are name files stand inode (found_is_named name j.tables.files inode here)

  -- a refusal for which the device is not asked
  pub early-answers : (S : Type 0) {T : Type 0} (f : MapFault) (r : Result T MapFault) → IsErrAnd r (λ e. e ≡ f) → Checks {T = S} map_says (inode_refusal s j.tables (Some inode) span) (Err f)
      → Answers map_says (map_refusal s files name span kind) r
  early-answers S f r is told =
      let file = named-file in
      let told_file = early-told S (extent_refusal (4096 * pages_at j.tables.files inode) span) (limit_refusal s) (copy_refusal kind file.file.pages span) f r is told in
      let sized = subst (λ n. Answers map_says (first_there (extent_refusal (4096 * n) span) (first_there (limit_refusal s) (copy_refusal kind file.file.pages span))) r) (sym file.size) told_file in
      subst (λ o. Answers map_says (found_refusal s o span kind) r) (sym file.found) sized

  -- where there is none, only a bad line is left
  pub late-answers : (S : Type 0) {T : Type 0} (x : S) (r : Result T MapFault) → Checks map_says (inode_refusal s j.tables (Some inode) span) (Ok x)
      → ((file : File) → IsFileAt j m inode files file → Answers map_says (copy_refusal kind file.pages span) r) → Answers map_says (map_refusal s files name span kind) r
  late-answers S x r none told =
      let file = named-file in
      let only : map_refusal s files name span kind ≡ copy_refusal kind file.file.pages span =
      ap (λ o. found_refusal s o span kind) file.found ∙ ap (λ n. first_there (extent_refusal (4096 * n) span) (first_there (limit_refusal s) (copy_refusal kind file.file.pages span))) file.size
      ∙ late-told (extent_refusal (4096 * pages_at j.tables.files inode) span) (limit_refusal s) (copy_refusal kind file.file.pages span) (checks-none _ x none) in
      subst (λ o. Answers map_says o r) (sym only) (told file.file file.at)
