-- What a list of the files is answered.
use Rattle.std.proofs.Common.{◌≡◌, ◌≤◌, is_some, List, length, refl, sym, ap, subst, ◌∙◌, arith}
use Rattle.std.proofs.lemmas.List.Sums.{count_by-le-length}
use Rattle.line_device.specs.Device.{Device}
use Rattle.nvm_base.specs.declared.files.FileEntry.{FileEntry}
use Rattle.nvm_model.proofs.ListedLemmas.{length-in_order}
use Rattle.file_journal.specs.Listing.{entry_name, listed}
use Rattle.file_journal.specs.Tables.{AreTables}
use Rattle.reply_text.specs.Answer.Answer.{Files}
use Rattle.script_text.specs.Action.Action.{ListFiles}
use Rattle.machine_model.specs.declared.mode.Mode.TheVariants.{On}
use Rattle.machine_model.specs.Machine.Fate.{Gives}
use Rattle.machine_host.specs.Responding.{Answered}
use Rattle.machine_host.specs.Stands.{HostState, HostServes, Comes}
use Rattle.machine_host.proofs.ExistsLemmas.{same_state}
use Rattle.machine_host.proofs.FilesCallLemmas.{listed_seen}
use Rattle.machine_model.proofs.RefusalLemmas.{fate_usable}
use Rattle.line_device.proofs.WriteBackLemmas.{write_back-refl}

pub list_answered : (now host : HostState) (d : Device) (files : List FileEntry) → host ≡ now → now.mode ≡ On → HostServes now d → files ≡ listed host.files.pages.journal.tables
    → Answered ListFiles (Files files) now now d d
list_answered now host d files inside on serves is = record {
  step = λ h stands.
      subst (λ f. Comes h ListFiles f (Files files) now d d)
      (sym (fate_usable h ListFiles refl (sym stands.mode ∙ on) ∙ ap (λ l. Gives (Files l) h) (sym (is ∙ listed_seen now host d h inside on serves stands))))
      (same_state now d h ListFiles (Files files) refl stands);
  keeps = write_back-refl d.medium;
  printable = tt;
  room = omega (arith, few);
  serves = serves;
}
  where
    right : AreTables now.geometry.fpages host.files.pages.journal.tables
    right = subst (λ k. AreTables now.geometry.fpages k.files.pages.journal.tables) (sym inside) (serves.mounted on).journal_right

    few : length files ≤ 64
    few =
        let slots = host.files.pages.journal.tables.files in
        omega (arith, ap length is, length-in_order entry_name slots, count_by-le-length is_some slots, right.names.all)
