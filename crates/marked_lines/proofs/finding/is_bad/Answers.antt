use Rattle.std.proofs.Common.{◌*◌, ◌/◌, sym}
use Rattle.marked_lines.proofs.ApartLemmas.{file_apart}
use Rattle.marked_lines.proofs.finding.is_bad.Goals as goal

pub is_bad-requires : goal.is_bad-requires
is_bad-requires g c =
    (file_apart c.args.files.now.journal (g.L.Lines.state c.args.dev.now).medium c.args.inode c.requires.tables c.requires.inode c.requires.serves).on (64 * c.args.n / 64) c.in-Some.line.0
    (sym c.in-Some.ensures.line)
