use Rattle.std.proofs.Common.{◌≡◌, ◌^◌, ◌<◌, IfSome, List, take}
use Rattle.nvm_model.specs.Storage.{File}
use Rattle.nvm_model.specs.Touched.{next_bad_touched}
use Rattle.file_pages.specs.Object.{IsFileAt}
use Rattle.flush_engine.proofs.finding.next_bad.Given as goal

abbrev pub invariant-loop-span : goal.invariant-loop-span
invariant-loop-span g l =
    let m = (g.L.Lines.state l.dev).medium in
    record {
      next : (listed : List File) (file : File) → IsFileAt l.files.journal m l.inode listed file → l.lowest ≡ next_bad_touched (take l.span-index l.spans) file.pages l.from;
      below : IfSome l.lowest (λ n. n < 2 ^ 14);
    }
