-- What is kept of each line, block and line of a file is told.
use Rattle.std.proofs.Common.{◌≡◌, ap, map, option_map, subst, ◌∙◌}
use Rattle.std.specs.Option.{option_copied}
use Rattle.script_text.specs.Action.{action_of}
use Rattle.cut_places.specs.AskedReads.Asking.{blocks_of, files_asked, volume_asked}
use Rattle.cut_places.specs.AskedReads.Reads.{file_reads_asked}
use Rattle.witnesses.specs.Blocks.{block_kept, numbers_of_blocks}
use Rattle.witnesses.specs.Files.{files_kept, files_made, left_there}
use Rattle.witnesses.specs.Lines.{line_kept, numbers_of_lines}
use Rattle.witnesses.specs.Sizes.{names_of_sizes, sizes_kept}
use Rattle.witnesses.proofs.FilesLemmas.{names_kept}
use Rattle.witnesses.proofs.KeepLemmas.{kept_so, lines_there, numbers_kept, numbers_kept_of_blocks}
use Rattle.witnesses.proofs.keeping.keep.Goals as goal

pub returns-clause-lines : goal.returns-clause-lines
returns-clause-lines c =
    let inside = option_map action_of (option_copied c.args.inside) in
    subst (λ ls. c.in_ok-lines.lines.items ≡ map (line_kept c.args.geometry inside (volume_asked c.args.question.now) ls) ls) c.deref.ensures.value c.in_ok-lines.ensures

pub returns-clause-blocks : goal.returns-clause-blocks
returns-clause-blocks c =
    let inside = option_map action_of (option_copied c.args.inside) in
    subst (λ us. c.in_ok-blocks.blocks.items ≡ map (block_kept c.args.geometry inside (blocks_of c.args.question.now) us) us) c.deref-2.ensures.value c.in_ok-blocks.ensures

pub returns-clause-sizes : goal.returns-clause-sizes
returns-clause-sizes c =
    let inside = option_map action_of (option_copied c.args.inside) in
    subst (λ reads. c.in_ok-sizes.field-0.sizes.items ≡ sizes_kept inside (files_asked c.args.question.now) (file_reads_asked reads) c.args.sight.now.files) c.deref-4.ensures.value
    (subst (λ reads. c.in_ok-sizes.field-0.sizes.items ≡ sizes_kept inside (file_reads_asked reads) (file_reads_asked c.deref-4.result.now) c.args.sight.now.files) c.deref-3.ensures.value
    c.in_ok-sizes.ensures.sizes)

pub returns-clause-files : goal.returns-clause-files
returns-clause-files c =
    let inside = option_map action_of (option_copied c.args.inside) in
    subst (λ reads. c.in_ok-sizes.field-0.lines.items ≡ files_kept inside (files_asked c.args.question.now) (file_reads_asked reads) c.args.sight.now.files) c.deref-4.ensures.value
    (subst (λ reads. c.in_ok-sizes.field-0.lines.items ≡ files_kept inside (file_reads_asked reads) (file_reads_asked c.deref-4.result.now) c.args.sight.now.files) c.deref-3.ensures.value
    c.in_ok-sizes.ensures.lines)

pub returns-clause-kept : goal.returns-clause-kept
returns-clause-kept c = λ h look follows is reached looks shown.
    kept_so h look c.args.question.now c.args.looked.now (option_map action_of (option_copied c.args.inside)) c.args.sight.now c.args.geometry
    (record { lines = c.in_ok-lines.lines; blocks = c.in_ok-blocks.blocks; sizes = c.in_ok-sizes.field-0.sizes; files = c.in_ok-sizes.field-0.lines })
    follows is looks shown reached (returns-clause-lines c) (returns-clause-blocks c) (returns-clause-sizes c) (returns-clause-files c)

pub returns-clause-all_lines : goal.returns-clause-all_lines
returns-clause-all_lines c =
    let lines = c.args.sight.now.lines.items in
    ap numbers_of_lines (returns-clause-lines c) ∙ numbers_kept c.args.geometry (option_map action_of (option_copied c.args.inside)) (volume_asked c.args.question.now) lines lines

pub returns-clause-all_blocks : goal.returns-clause-all_blocks
returns-clause-all_blocks c =
    let units = c.args.sight.now.blocks.items in
    ap numbers_of_blocks (returns-clause-blocks c) ∙ numbers_kept_of_blocks c.args.geometry (option_map action_of (option_copied c.args.inside)) (blocks_of c.args.question.now) units units

pub returns-clause-all_sizes : goal.returns-clause-all_sizes
returns-clause-all_sizes c =
    let inside = option_map action_of (option_copied c.args.inside) in
    let asked = files_asked c.args.question.now in
    let now = c.args.sight.now.files in
    ap names_of_sizes (returns-clause-sizes c) ∙ names_kept asked now (files_made inside now) (left_there inside asked now) (files_asked c.args.looked.now)

pub returns-clause-all_files : goal.returns-clause-all_files
returns-clause-all_files c = λ h follows reached held.
    lines_there h (option_map action_of (option_copied c.args.inside)) (files_asked c.args.question.now) (files_asked c.args.looked.now) c.args.sight.now.files follows.sees.files follows.ready.whole reached held
    c.in_ok-sizes.field-0.sizes.items c.in_ok-sizes.field-0.lines.items (returns-clause-sizes c) (returns-clause-files c)
