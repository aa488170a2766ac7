-- A run over an image where nothing is armed.
use Rattle.std.proofs.Common.{◌≡◌, ℕ, Bool, true, false, IsTrue, List, [], ◌∷◌, refl, sym, subst, ◌∙◌}
use Rattle.std.proofs.lemmas.Bool.{both_ways}
use Rattle.image_file.specs.Devices.{image_of, medium_of}
use Rattle.image_file.specs.Text.{Snapshot}
use Rattle.recovery.specs.Findings.{geometry_told}
use Rattle.line_device.specs.Panel.{Image, Panel}
use Rattle.machine_host.specs.Lines.{bad_metadata}
use Rattle.machine_host.specs.Machine.{Machine}
use Rattle.machine_host.specs.Restarting.{read_with, reading}
use Rattle.machine_host.specs.Run.{Run, Transcript}
use Rattle.machine_model.specs.Performing.{perform}
use Rattle.machine_model.specs.Unarmed.{ArmNothing, IsUnarmed}
use Rattle.machine_model.proofs.UnarmedLemmas.{unarmed_performs}
use Rattle.program_base.specs.Begins.{Begins}
use Rattle.program_base.specs.Opening.{opened}
use Rattle.script_text.specs.Script.{Input}
use Rattle.word_tables.specs.declared.geometry.Geometry.{Geometry}

not_armed : (b p : Bool) → (IsTrue b → IsTrue p) → p ≡ false → b ≡ false
not_armed true p rises off = absurd (both_ways p off (rises refl))
not_armed false p rises off = refl

-- what is read in an image has nothing armed
unarmed_reading : (geo : Geometry) (image : Image) → IsUnarmed (reading geo image)
unfolding reading
unarmed_reading geo image = by_bad (bad_metadata geo image.is_bad)
  where
    by_bad : (bad : List ℕ) → IsUnarmed (record (read_with bad geo image) { unit = image.unit })
    by_bad [] = record { cut = refl; failure = refl; settled = λ is. cc is }
    by_bad (line ∷ lines) = record { cut = refl; failure = refl; settled = λ is. cc is }

-- the state as a run begins is just that, where nothing was armed before
begins_unarmed : (first begin : Machine) (p : Panel) → IsUnarmed first → Begins first p begin → p.cut_armed ≡ false → p.fail_armed ≡ false → begin ≡ first
begins_unarmed first begin p un begins cut fail =
    let no_cut = not_armed begin.cut_armed p.cut_armed begins.cut cut ∙ sym un.cut in
    let no_failure = not_armed begin.fail_armed p.fail_armed begins.fail fail ∙ sym un.failure in
    begins.state ∙ (λ i. record first { cut_armed = no_cut i; fail_armed = no_failure i })

-- so it went as the machine alone performs it
pub performs_unarmed : (image : Snapshot) (p : Panel) (inputs : List Input) (said : Transcript) (begin end : Machine) → Begins (opened image) p begin → Run begin inputs said end
    → p.cut_armed ≡ false → p.fail_armed ≡ false → ArmNothing inputs → perform (opened image) inputs said.starts ≡ record { said = said; state = end }
performs_unarmed image p inputs said begin end begins run cut fail arm =
    let un = unarmed_reading (geometry_told (medium_of image.lines)) (image_of image.unit image.lines) in
    unarmed_performs (opened image) inputs said end un arm (subst (λ m. Run m inputs said end) (begins_unarmed (opened image) begin p un begins cut fail) run)
