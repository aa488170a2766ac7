-- What the machine reads, by the bad lines of metadata.
use Rattle.std.proofs.Common.{◌≡◌, ℕ, List, [], ◌∷◌, refl, sym, ap, subst, ◌∙◌, arith}
use Rattle.line_device.specs.Medium.{Medium}
use Rattle.line_device.specs.Panel.{Image}
use Rattle.line_device.specs.Device.{Depicts}
use Rattle.word_tables.specs.declared.geometry.Geometry.{Geometry}
use Rattle.word_tables.specs.Layout.{meta_lines, total_lines, volume_line}
use Rattle.nvm_model.specs.Page.{read_pages}
use Rattle.pm_volume.specs.Presence.{presence_read}
use Rattle.block_device.specs.Reading.{blocks_read}
use Rattle.file_journal.specs.Standing.{files_read}
use Rattle.machine_model.specs.Lines.{bad_metadata}
use Rattle.machine_model.specs.Machine.{Machine}
use Rattle.machine_model.specs.Recovering.{RecoveryMayLeave, RecoversTo}
use Rattle.machine_model.specs.Restarting.{holding, read_with, reading, restarted, stopped_by}
use Rattle.machine_model.specs.declared.mode.Mode.TheVariants as modes
use Rattle.machine_host.proofs.BadLineLemmas.{meta_within}
use Rattle.machine_host.proofs.LayoutLemmas.{filter-same}

pub read_whole : (geo : Geometry) (image : Image) → bad_metadata geo image.is_bad ≡ []
    → reading geo image ≡ record (holding geo (blocks_read geo image.is_bad image.word) (read_pages (volume_line geo) image (presence_read geo image.word)) (files_read geo image)) { unit = image.unit }
unfolding reading
read_whole geo image none = ap (λ lines. record (read_with lines geo image) { unit = image.unit }) none

pub read_stopped : (geo : Geometry) (image : Image) (line : ℕ) (lines : List ℕ) → bad_metadata geo image.is_bad ≡ line ∷ lines → reading geo image ≡ record (stopped_by geo (line ∷ lines)) { unit = image.unit }
unfolding reading
read_stopped geo image line lines some = ap (λ lines. record (read_with lines geo image) { unit = image.unit }) some

-- an image that shows a medium has its bad lines
pub bad_shown : (geo : Geometry) (m : Medium) (image : Image) → m.count ≡ total_lines geo → Depicts m image → bad_metadata geo image.is_bad ≡ bad_metadata geo m.is_bad
bad_shown geo m image lines shows = filter-same image.is_bad m.is_bad 0 (meta_lines geo) (λ n below. let within = meta_within geo in shows.bad n (omega (arith, lines, below, within)))

-- where the power came back and nothing was mounted yet, a recovery finds what the restart left
pub recovered_back : (h next : Machine) (image : Image) → RecoveryMayLeave (record (restarted h image) { mode = modes.Unsettled }) next → next ≡ restarted h image
recovered_back h next image may = by_lines (bad_metadata h.geometry image.is_bad) refl
  where
    back : Machine → Machine
    back k = record k { mode = modes.Unsettled; cut_armed = h.cut_armed; fail_armed = h.fail_armed }

    by_lines : (lines : List ℕ) → bad_metadata h.geometry image.is_bad ≡ lines → next ≡ restarted h image
    by_lines [] none =
        let read = read_whole h.geometry image none in
        let is = subst (λ (k : Machine). RecoversTo k.bad_meta (back k) next) read may in
        let pages = read_pages (volume_line h.geometry) image (presence_read h.geometry image.word) in
        let blocks = blocks_read h.geometry image.is_bad image.word in
        is.state
        ∙ ap (λ bs. record (holding h.geometry bs next.volume next.files) { unit = image.unit; cut_armed = h.cut_armed; fail_armed = h.fail_armed }) is.blocks
        ∙ ap (λ ps. record (holding h.geometry blocks ps next.files) { unit = image.unit; cut_armed = h.cut_armed; fail_armed = h.fail_armed }) is.volume
        ∙ ap (λ files. record (holding h.geometry blocks pages files) { unit = image.unit; cut_armed = h.cut_armed; fail_armed = h.fail_armed }) is.files
        ∙ ap (λ (k : Machine). record k { cut_armed = h.cut_armed; fail_armed = h.fail_armed }) (sym read)
    by_lines (line ∷ lines) some =
        let read = read_stopped h.geometry image line lines some in
        subst (λ (k : Machine). RecoversTo k.bad_meta (back k) next) read may ∙ ap (λ (k : Machine). record k { cut_armed = h.cut_armed; fail_armed = h.fail_armed }) (sym read)
