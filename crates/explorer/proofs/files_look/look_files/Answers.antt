use Rattle.std.proofs.Common.{◌+◌, ◌≤◌, List, length, take, ap, ◌∙◌, sym, subst}
use Rattle.std.proofs.lemmas.List.{length-map}
use Rattle.nvm_base.specs.declared.files.FileEntry.{FileEntry}
use Rattle.nvm_model.specs.Files.{entry_of_file}
use Rattle.nvm_model.specs.Listing.{AreAlike, file_name}
use Rattle.cut_places.specs.SeesFiles.{SeesFile}
use Rattle.cut_places.specs.FilesState.{FilesState, name_seen}
use Rattle.explorer.specs.Stopping.{DeviceStopped}
use Rattle.explorer.proofs.CauseLemmas.{fell_later, handed_on, stopped_later}
use Rattle.explorer.proofs.FileListLemmas.{files_more, listed_at, sees_all}
use Rattle.explorer.proofs.files_look.look_files.Goals as goal

pub loop-entry-preserved : goal.loop-entry-preserved
loop-entry-preserved g c =
    let i = c.loop-entry.invariant in
    let told = c.in_ok-file.ensures in
    let added = c.in_ok-add_file.ensures in
    let numbers = c.in_ok-numbers.numbers.items in
    let entries = c.as_slice-entry-items.result.now in
    let index = c.loop-entry.entry-index in
    let one = c.in_ok-file.file in
    record {
      known = told.known;
      geometry = told.geometry ∙ i.geometry;
      counts = fell_later (g.D.Lines.state c.args.device.now).panel (g.D.Lines.state c.loop-entry.device).panel (g.D.Lines.state c.look_file.new.device).panel i.counts told.counts;
      small = i.small;
      numbers = ap (λ (s : FilesState). s.numbers) added ∙ i.numbers;
      mappings = ap (λ (s : FilesState). s.mappings) added ∙ i.mappings;
      sees = λ h stands begins.
          let before = i.sees h stands begins in
          let at = listed_at h.files entries index c.entry-item.result begins.in_order before.0 c.loop-entry-test.true c.entry-item.is in
          let is = told.sees h at.0.file before.2 begins at.1 in
          let sees : SeesFile numbers one at.0.file = subst (λ ns. SeesFile ns one at.0.file) c.deref-in-loop-entry.ensures.value is.0 in (
            before.0,
            subst (λ (s : FilesState). AreAlike name_seen file_name (SeesFile numbers) s.files (take (index + 1) h.files)) (sym added)
                (files_more numbers c.loop-entry.files.files one h.files index c.entry-item.result at.0 before.1 told.named sees),
            is.1,
          );
    }

pub returns-clause-sees : goal.returns-clause-sees
returns-clause-sees g c = λ h stands begins.
    let i = c.loop-entry.invariant in
    let sees = i.sees h stands begins in
    let all : length h.files ≤ c.loop-entry.entry-index =
    subst (λ n. n ≤ c.loop-entry.entry-index) (ap (λ (l : List FileEntry). length l) sees.0 ∙ length-map h.files entry_of_file) c.loop-entry-test.false in
    let alike : AreAlike name_seen file_name (SeesFile c.loop-entry.files.numbers) c.loop-entry.files.files (take c.loop-entry.entry-index h.files) =
    subst (λ ns. AreAlike name_seen file_name (SeesFile ns) c.loop-entry.files.files (take c.loop-entry.entry-index h.files)) (sym i.numbers) sees.1 in
    (sees_all c.loop-entry.files h c.loop-entry.entry-index i.mappings alike all begins, sees.2)

pub returns-in_err-file-clause-cause : goal.returns-in_err-file-clause-cause
returns-in_err-file-clause-cause g c = λ h stands begins.
    let i = c.loop-entry.invariant in
    let sees = i.sees h stands begins in
    let at = listed_at h.files c.as_slice-entry-items.result.now c.loop-entry.entry-index c.entry-item.result begins.in_order sees.0 c.loop-entry-test.true c.entry-item.is in
    let old = (g.D.Lines.state c.args.device.now).panel in
    let new = (g.D.Lines.state c.look_file.new.device).panel in
    handed_on (DeviceStopped old new) c.in_err-file.field-0.0 c.from_residual-in_err-file.result c.from_residual-in_err-file.ensures.1
    (λ is. stopped_later old (g.D.Lines.state c.loop-entry.device).panel new i.counts (c.in_err-file.ensures.cause h at.0.file sees.2 begins at.1 is))
