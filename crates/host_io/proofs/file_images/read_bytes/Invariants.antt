use Rattle.std.proofs.Common.{◌≤◌, length}
use Rattle.host_io.proofs.file_images.read_bytes.Given as goal

abbrev pub invariant-loop : goal.invariant-loop
invariant-loop g l = length l.bytes.items ≤ l.fn.most
