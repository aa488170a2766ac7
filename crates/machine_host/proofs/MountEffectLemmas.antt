-- What a mount leaves of lines with the host's layout.
use Rattle.std.proofs.Common.{◌≡◌, ℕ, ◌<◌, List, [], ◌∷◌, None, refl, sym, subst, ◌∙◌}
use Rattle.std.proofs.lemmas.Option.{none-some}
use Rattle.line_device.specs.Medium.{IsSound, WritesBack, last_image}
use Rattle.line_device.specs.Device.{Device}
use Rattle.line_words.specs.Words.{WritesBackOutside}
use Rattle.word_tables.specs.declared.geometry.Geometry.{Geometry}
use Rattle.word_tables.specs.Layout.{meta_lines}
use Rattle.word_log.specs.Mount.Finding.{bad_line}
use Rattle.block_device.specs.Images.{AreReadable, KeepsReads, ReadsAs}
use Rattle.block_device.proofs.ReachLemmas.{each_reads-kept}
use Rattle.block_device.proofs.RestartLemmas.{block_image-last}
use Rattle.recovery.specs.Calls.{LeavesDevice}
use Rattle.recovery.specs.Findings.{first_finding}
use Rattle.recovery.specs.Mounting.{HasDurableBlocks, IsOfLogs}
use Rattle.recovery.proofs.FindingLemmas.{early_inspection}
use Rattle.machine_host.specs.Lines.{HasLayout}
use Rattle.machine_model.specs.Lines.{bad_metadata}
use Rattle.machine_host.proofs.BadLineLemmas.{bad_early, bad_found, good_lines}
use Rattle.machine_host.proofs.LayoutLemmas.{IsGood, is_good, layout-outside, layout-write_back, same_bad}
use Rattle.machine_host.proofs.MountLemmas.{first_not_area, is_told}

-- a mount of lines with the host's layout
module _ (geo : Geometry) (old new : Device) (layout : HasLayout geo old.medium) (sound : IsSound old.medium) (x : LeavesDevice old.medium new.medium) where
  pub good_of : bad_metadata geo old.medium.is_bad ≡ [] → IsGood geo old.medium
  good_of none = is_good layout (good_lines geo old.medium none)

  -- where a line of metadata is bad it leaves all as it is
  left_bad : (line : ℕ) (lines : List ℕ) → bad_metadata geo old.medium.is_bad ≡ line ∷ lines → WritesBack old.medium new.medium
  left_bad line lines is = x.refused (early_inspection old.medium (λ none. none-some (bad_line line) (sym none ∙ bad_early geo old.medium layout sound line lines is)))

  -- and else it changes logs and tables
  pub outside_of : bad_metadata geo old.medium.is_bad ≡ [] → WritesBackOutside (IsOfLogs geo) old.medium new.medium
  outside_of none = subst (λ g. WritesBackOutside (IsOfLogs g) old.medium new.medium) (is_told geo old.medium (good_of none) sound).sizes x.outside

  pub layout_mount : HasLayout geo new.medium
  layout_mount = by_lines (bad_metadata geo old.medium.is_bad) refl
    where
      by_lines : (lines : List ℕ) → bad_metadata geo old.medium.is_bad ≡ lines → HasLayout geo new.medium
      by_lines [] none = layout-outside geo old.medium new.medium layout (IsOfLogs geo) (first_not_area geo layout.valid) (outside_of none)
      by_lines (line ∷ lines) is = layout-write_back geo old.medium new.medium layout (left_bad line lines is)

  pub marks_mount : (n : ℕ) → n < meta_lines geo → new.medium.is_bad n ≡ old.medium.is_bad n
  marks_mount n below = x.outside.bad n

  pub readable_mount : (bad_metadata geo old.medium.is_bad ≡ [] → AreReadable geo old.medium) → bad_metadata geo new.medium.is_bad ≡ [] → AreReadable geo new.medium
  readable_mount readable none =
      let none_was = sym (same_bad geo old.medium new.medium marks_mount) ∙ none in
      let told = is_told geo old.medium (good_of none_was) sound in
      each_reads-kept geo old.medium new.medium (λ _. Unit {0}) (subst (λ g. KeepsReads g old.medium new.medium) told.sizes (x.reads told.early)) (readable none_was)

  -- what the map names is durable
  pub durable_mount : (bad_metadata geo old.medium.is_bad ≡ [] → AreReadable geo old.medium) → bad_metadata geo old.medium.is_bad ≡ [] → HasDurableBlocks old.medium
  durable_mount readable none found =
      let good = good_of none in
      let told = is_told geo old.medium good sound in
      let reads = readable none (last_image old.medium) (block_image-last geo layout.valid old.medium sound layout.lines) in
      (subst (λ g. ReadsAs g old.medium (λ _. Unit {0}) (last_image old.medium)) (sym told.sizes) reads).durable

  -- where nothing was found, none was bad
  pub none_found : first_finding old.medium ≡ None → bad_metadata geo old.medium.is_bad ≡ []
  none_found found = by_lines (bad_metadata geo old.medium.is_bad) refl
    where
      by_lines : (lines : List ℕ) → bad_metadata geo old.medium.is_bad ≡ lines → bad_metadata geo old.medium.is_bad ≡ []
      by_lines [] is = is
      by_lines (line ∷ lines) is = absurd (none-some (bad_line line) (sym found ∙ bad_found geo old.medium layout sound line lines is))
