use Rattle.std.proofs.Common.{◌≡◌, sym, ap, ◌∙◌}
use Rattle.std.proofs.lemmas.Bool.{true≢false}
use Rattle.script_text.specs.Streaming.{Stream}
use Rattle.script_text.proofs.ExitLemmas.{ahead-fewer, next-line, next-long}
use Rattle.script_text.proofs.streaming.LineReader.next.Goals as goal

pub returns-then-is_overlong-clause-reads : goal.returns-then-is_overlong-clause-reads
returns-then-is_overlong-clause-reads g c =
    let out = c.in_ok-read_line.ensures.reads in
    let line : c.self.inside.line ≡ c.read_line.new.self.line = ap (λ (s : Stream). s.line) c.self.view_is in
    next-long _ _ _ _ (rw c.if-not-branch.false at out) (sym line ∙ c.is_overlong.ensures.0 c.if-is_overlong.true)

pub returns-clause-reads : goal.returns-clause-reads
returns-clause-reads g c =
    let out = c.in_ok-read_line.ensures.reads in
    let line : c.self.inside.line ≡ c.read_line.new.self.line = ap (λ (s : Stream). s.line) c.self.view_is in
    next-line _ _ _ _ (rw c.if-not-branch.false at out) (λ none. true≢false (sym (c.is_overlong.ensures.1 (line ∙ none)) ∙ c.if-is_overlong.false))

pub returns-then-is_overlong-clause-fewer : goal.returns-then-is_overlong-clause-fewer
returns-then-is_overlong-clause-fewer g c _ =
    let out = c.in_ok-read_line.ensures.reads in
    let taken : c.self.inside.taken ≡ c.read_line.new.self.taken = ap (λ (s : Stream). s.taken) c.self.view_is in
    ahead-fewer _ _ _ _ (rw c.if-not-branch.false at out) (let most = c.self.invariant.0 in rw taken at most)

pub returns-clause-fewer : goal.returns-clause-fewer
returns-clause-fewer g c _ =
    let out = c.in_ok-read_line.ensures.reads in
    let taken : c.self.inside.taken ≡ c.read_line.new.self.taken = ap (λ (s : Stream). s.taken) c.self.view_is in
    ahead-fewer _ _ _ _ (rw c.if-not-branch.false at out) (let most = c.self.invariant.0 in rw taken at most)
