-- A file that is mapped is neither deleted, renamed nor resized.
use Rattle.std.proofs.Common.{◌≡◌, ◌≤◌, ◌∙◌, ℕ, Bool, true, false, Option, Some, None, is_some, List, refl, sym, ap, ap₂, subst, arith, if◌then◌else◌}
use Rattle.line_device.specs.Device.{Device}
use Rattle.inode_table.specs.Slots.{inode_of}
use Rattle.nvm_model.specs.Blocks.{first_there}
use Rattle.nvm_model.specs.Listing.{file_name, has_file}
use Rattle.nvm_model.specs.Mappings.{is_mapped}
use Rattle.file_journal.specs.Tables.{AreTables}
use Rattle.mappings.specs.Object.{MappingsState}
use Rattle.reply_text.specs.declared.reply.Why.TheVariants as because
use Rattle.reply_text.specs.Answer.{Answer}
use Rattle.reply_text.specs.Answer.Answer.{Refused}
use Rattle.script_text.specs.Action.{Action}
use Rattle.script_text.specs.Action.Action.{Rename}
use Rattle.machine_model.specs.declared.mode.Mode.TheVariants.{On}
use Rattle.machine_model.specs.declared.needs.Needs.TheVariants.{Usable}
use Rattle.machine_model.specs.Commands.{longest, meaning}
use Rattle.machine_model.specs.Machine.{Machine}
use Rattle.machine_model.specs.OnFiles.{if_mapped, if_missing}
use Rattle.machine_host.specs.Responding.{Answered}
use Rattle.machine_host.specs.Stands.{HostServes, HostState, Stands}
use Rattle.machine_host.proofs.FilesCallLemmas.{sees_files}
use Rattle.machine_host.proofs.HandledLemmas.{refused_answered}
use Rattle.machine_host.proofs.MappedLemmas.{mapped_there}

module _ (now : HostState) (d : Device) (on : now.mode ≡ On) (serves : HostServes now d) (name : List ℕ) (is : is_mapped name now.files.mappings.mappings ≡ true) where
  right : AreTables now.files.pages.journal.geo.fpages now.files.pages.journal.tables
  right = let was = serves.mounted on in subst (λ g. AreTables g.fpages now.files.pages.journal.tables) (sym was.journal_geometry) was.journal_right

  -- it is there, and mapped, in each state that they stand for
  there : (h : Machine) → Stands now d h → has_file file_name name h.files ≡ true
  there h stands = mapped_there now.files.pages.journal d.medium right h.files (stands.files on) name now.files.mappings.mappings (serves.mounted on).mapped is

  mapped : (h : Machine) → Stands now d h → is_mapped name h.mappings ≡ true
  mapped h stands = ap (λ (s : MappingsState). is_mapped name s.mappings) (sym (stands.mappings on)) ∙ is

  -- and so it is refused, unless for something else before
  pub mapped_answered : (action : Action) → (meaning action).needs ≡ Usable → 72 ≤ longest action
      → ((h : Machine) → ((meaning action).reasons h).named ≡ first_there (if_missing name h.files) (if_mapped name h.mappings)) → Answered action (Refused because.Mapped) now now d d
  mapped_answered action needs room named =
      refused_answered now d action (Refused because.Mapped) on serves needs refl refl tt room
      (λ h stands.
      ap (λ (o : Option Answer). first_there o ((meaning action).reasons h).places)
      (named h ∙ ap₂ (λ (a b : Bool). first_there (if a then None else Some (Refused because.Missing)) (if b then Some (Refused because.Mapped) else None)) (there h stands) (mapped h stands)))

  -- a renaming is refused for the new name first
  module _ (to : List ℕ) where
    new_name : (h : Machine) → Stands now d h → (o : Option ℕ) → o ≡ inode_of to now.files.pages.journal.tables.files → has_file file_name to h.files ≡ is_some o
    new_name h stands o found = (sees_files now now d h refl on serves stands).names to ∙ ap is_some (sym found)

    why : (h : Machine) → Stands now d h → (o : Option ℕ) → o ≡ inode_of to now.files.pages.journal.tables.files
        → ((meaning (Rename name to)).reasons h).named ≡ (if is_some o then Some (Refused because.Exists) else Some (Refused because.Mapped))
    why h stands o found =
        ap₂ (λ (a b : Bool). first_there (if a then None else Some (Refused because.Missing)) (first_there (if b then Some (Refused because.Exists) else None) (if_mapped name h.mappings))) (there h stands)
        (new_name h stands o found)
        ∙ ap (λ (m : Bool). first_there (if is_some o then Some (Refused because.Exists) else None) (if m then Some (Refused because.Mapped) else None)) (mapped h stands) ∙ either (is_some o)
      where
        either : (b : Bool) → first_there (if b then Some (Refused because.Exists) else None) (Some (Refused because.Mapped)) ≡ (if b then Some (Refused because.Exists) else Some (Refused because.Mapped))
        either true = refl
        either false = refl

    pub exists_answered : (o : Option ℕ) → o ≡ inode_of to now.files.pages.journal.tables.files → is_some o ≡ true → Answered (Rename name to) (Refused because.Exists) now now d d
    exists_answered o found some =
        refused_answered now d (Rename name to) (Refused because.Exists) on serves refl refl refl tt (omega arith)
        (λ h stands. ap (λ (r : Option Answer). first_there r None) (why h stands o found ∙ ap (λ (b : Bool). if b then Some (Refused because.Exists) else Some (Refused because.Mapped)) some))

    pub renamed_answered : (o : Option ℕ) → o ≡ inode_of to now.files.pages.journal.tables.files → is_some o ≡ false → Answered (Rename name to) (Refused because.Mapped) now now d d
    renamed_answered o found none =
        refused_answered now d (Rename name to) (Refused because.Mapped) on serves refl refl refl tt (omega arith)
        (λ h stands. ap (λ (r : Option Answer). first_there r None) (why h stands o found ∙ ap (λ (b : Bool). if b then Some (Refused because.Exists) else Some (Refused because.Mapped)) none))
