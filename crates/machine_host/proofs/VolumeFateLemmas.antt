-- What comes of the commands on the volume, by what the volume refuses.
use Rattle.std.proofs.Common.{◌≡◌, ℕ, ◌+◌, ◌*◌, ◌≤◌, Bool, true, Option, Some, None, option_map, option_and_then, List, length, refl, sym, ap, ap₂, ◌∙◌}
use Rattle.line_device.specs.Medium.{Medium}
use Rattle.nvm_model.specs.Blocks.{first_there}
use Rattle.nvm_model.specs.Page.{Page, discard, fill, first_bad_line, first_uncovered_line, look, persist, presence_of, put, touches_absent}
use Rattle.pm_volume.specs.Object.{VolumeState}
use Rattle.pm_volume.specs.Refusals.{VolumeRefusal, address_refusal, bytes_refusal, discard_refusal, extent_refusal, load_refusal, metadata_refusal_if, physical_offset, physical_refusal, poisoned_at, store_refusal, sync_refusal}
use Rattle.reply_text.specs.Answer.Answer.{Done, Bytes, Refused}
use Rattle.script_text.specs.Action.Action.{VLoad, VStore, VSync, VPSync, VDiscard, VDiscardIf}
use Rattle.machine_model.specs.declared.mode.Mode.TheVariants.{On}
use Rattle.machine_model.specs.Machine.{Machine, Fate}
use Rattle.machine_model.specs.Machine.Fate.{Works}
use Rattle.machine_model.specs.Commands.{fate, unless_refused}
use Rattle.machine_model.specs.OnVolume.{persist_at, volume_answer}
use Rattle.machine_model.proofs.RefusalLemmas.{fate_worked, first_alone, mapped_first, read_right}
use Rattle.machine_model.specs.Meaning.{metadata_refusal}
use Rattle.word_tables.specs.declared.geometry.Geometry.{Geometry}

module _ (h : Machine) (s : VolumeState) (on : h.mode ≡ On) (sizes : s.geo ≡ h.geometry) where
  abbrev by_reason : Option VolumeRefusal → List Page → Fate
  by_reason why pages = unless_refused h (option_map volume_answer why) (Works Done (record h { volume = pages }))

  pub fate_vsync : (offset len : ℕ) → fate h (VSync offset len) ≡ by_reason (sync_refusal s h.volume offset len) (persist offset len h.volume)
  fate_vsync offset len =
      fate_worked h (VSync offset len) refl on refl refl
      ∙ ap (λ o. unless_refused h o (Works Done (record h { volume = persist offset len h.volume })))
      (mapped_first volume_answer (bytes_refusal h.geometry offset len) (poisoned_at (first_bad_line h.volume offset len))
      ∙ ap (λ g. option_map volume_answer (first_there (bytes_refusal g offset len) (poisoned_at (first_bad_line h.volume offset len)))) (sym sizes))

  pub fate_vpsync : (address len : ℕ) → fate h (VPSync address len) ≡ by_reason (physical_refusal s h.volume address len) (persist_at (physical_offset h.geometry address len) len h.volume)
  fate_vpsync address len =
      fate_worked h (VPSync address len) refl on refl refl
      ∙ ap (λ o. unless_refused h o (Works Done (record h { volume = persist_at (physical_offset h.geometry address len) len h.volume })))
      (ap (first_there (option_map volume_answer (address_refusal h.geometry address len))) (mapped_then (physical_offset h.geometry address len))
      ∙ mapped_first volume_answer (address_refusal h.geometry address len) (option_and_then (λ offset. poisoned_at (first_bad_line h.volume offset len)) (physical_offset h.geometry address len))
      ∙ ap (λ g. option_map volume_answer (first_there (address_refusal g address len) (option_and_then (λ offset. poisoned_at (first_bad_line h.volume offset len)) (physical_offset g address len)))) (sym sizes))
    where
      mapped_then : (o : Option ℕ) → option_and_then (λ offset. option_map volume_answer (poisoned_at (first_bad_line h.volume offset len))) o
          ≡ option_map volume_answer (option_and_then (λ offset. poisoned_at (first_bad_line h.volume offset len)) o)
      mapped_then None = refl
      mapped_then (Some offset) = refl

  -- by the bad lines of metadata
  module _ (m : Medium) (meta : (changes : Bool) → metadata_refusal changes h.bad_meta ≡ option_map volume_answer (metadata_refusal_if changes s.geo m)) (seen : presence_of h.volume ≡ s.present) where
    pub fate_vstore : (offset : ℕ) (bytes : List ℕ) → fate h (VStore offset bytes)
        ≡ by_reason (store_refusal s m h.volume offset (length bytes)) (put offset bytes (fill offset (length bytes) h.volume))
    fate_vstore offset bytes =
        let len = length bytes in
        let poison = poisoned_at (first_uncovered_line h.volume offset len) in
        let touches = touches_absent offset len s.present in
        fate_worked h (VStore offset bytes) refl on refl refl
        ∙ ap (λ o. unless_refused h o (Works Done (record h { volume = put offset bytes (fill offset len h.volume) })))
        (ap₂ (λ (g : Geometry) o. first_there (option_map volume_answer (bytes_refusal g offset len)) (first_there o (option_map volume_answer poison))) (sym sizes)
        (ap (λ there. metadata_refusal (touches_absent offset len there) h.bad_meta) seen ∙ meta touches)
        ∙ ap (first_there (option_map volume_answer (bytes_refusal s.geo offset len))) (mapped_first volume_answer (metadata_refusal_if touches s.geo m) poison)
        ∙ mapped_first volume_answer (bytes_refusal s.geo offset len) (first_there (metadata_refusal_if touches s.geo m) poison))

    discarded : (page count : ℕ) → first_there (option_map volume_answer (extent_refusal h.geometry.vpages page count)) (first_there (metadata_refusal true h.bad_meta) None) ≡ option_map volume_answer (discard_refusal s m page count)
    discarded page count =
        ap₂ (λ (g : Geometry) o. first_there (option_map volume_answer (extent_refusal g.vpages page count)) o) (sym sizes) (first_alone (metadata_refusal true h.bad_meta) ∙ meta true)
        ∙ mapped_first volume_answer (extent_refusal s.geo.vpages page count) (metadata_refusal_if true s.geo m)

    pub fate_vdiscard : (page count : ℕ) → fate h (VDiscard page count) ≡ by_reason (discard_refusal s m page count) (discard page count h.volume)
    fate_vdiscard page count =
        fate_worked h (VDiscard page count) refl on refl refl
        ∙ ap (λ o. unless_refused h o (Works Done (record h { volume = discard page count h.volume }))) (discarded page count)

    pub fate_vdiscardif : (page count : ℕ) → fate h (VDiscardIf page count) ≡ by_reason (discard_refusal s m page count) (discard page count h.volume)
    fate_vdiscardif page count =
        fate_worked h (VDiscardIf page count) refl on refl refl
        ∙ ap (λ o. unless_refused h o (Works Done (record h { volume = discard page count h.volume }))) (discarded page count)

  -- a load of bytes that are there is refused by what can't be read alone
  pub fate_vload : (offset len : ℕ) → 1 ≤ len → offset + len ≤ 4096 * h.geometry.vpages → len ≤ 65536 → bytes_refusal h.geometry offset len ≡ None
      → fate h (VLoad offset len) ≡ unless_refused h (option_map volume_answer (load_refusal s h.volume offset len)) (Works (Bytes (look h.volume offset len)) h)
  fate_vload offset len some within few none =
      let poison = poisoned_at (first_bad_line h.volume offset len) in
      let comes : Fate = Works (Bytes (look h.volume offset len)) h in
      fate_worked h (VLoad offset len) refl on refl refl
      ∙ ap (λ o. unless_refused h (first_there (option_map Refused o) (option_map volume_answer poison)) comes) (read_right 65536 (4096 * h.geometry.vpages) offset len some within few)
      ∙ ap (λ o. unless_refused h (option_map volume_answer (first_there o poison)) comes) (sym none)
      ∙ ap (λ g. unless_refused h (option_map volume_answer (first_there (bytes_refusal g offset len) poison)) comes) (sym sizes)
