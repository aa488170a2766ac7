-- One line more of a program.
use Rattle.std.proofs.Common.{◌≡◌, ◌==◌, ◌&&◌, ◌||◌, Bool, true, false, not, List, [], ◌∷◌, ◌++◌, None, if◌then◌else◌, length, replicate, refl, ap, ◌∙◌, rules, tests}
use Rattle.std.specs.Prelude.{suc, is_some}
use Rattle.exploration.specs.Lines.{ProgramLine}
use Rattle.exploration.specs.Lines.ProgramLine.{Begins}
use Rattle.exploration.specs.Program.{action_in, first_of, has_begin, is_begin, marks_after, marks_from, program_of, refused_from}

or_true : (b : Bool) → (b || true) ≡ true
or_true true = refl
or_true false = refl

-- one that is no `# begin`
begin-more : (lines : List ProgramLine) (line : ProgramLine) → is_begin line ≡ false → has_begin (lines ++ line ∷ []) ≡ has_begin lines
begin-more [] line e = rw e refl
begin-more (l ∷ ls) line e = ap (λ b. is_begin l || b) (begin-more ls line e)

pub first-more : (lines : List ProgramLine) (line : ProgramLine) → is_begin line ≡ false → first_of (lines ++ line ∷ []) ≡ first_of lines
first-more [] line e = rw e refl
first-more (l ∷ ls) line e =
    ap (λ b. if is_begin l || b then action_in l ∷ first_of (ls ++ line ∷ []) else []) (begin-more ls line e)
    ∙ ap (λ rest. if is_begin l || has_begin ls then action_in l ∷ rest else []) (first-more ls line e)

pub program-more : (lines : List ProgramLine) (line : ProgramLine) → is_begin line ≡ false → program_of (lines ++ line ∷ []) ≡ program_of lines ++ action_in line ∷ []
program-more [] line e = rw e refl
program-more (l ∷ ls) line e =
    ap (λ b. (if is_begin l || b then None else action_in l) ∷ program_of (ls ++ line ∷ [])) (begin-more ls line e)
    ∙ ap (λ rest. (if is_begin l || has_begin ls then None else action_in l) ∷ rest) (program-more ls line e)

-- a `# begin`
begin-begun : (lines : List ProgramLine) → has_begin (lines ++ Begins ∷ []) ≡ true
begin-begun [] = refl
begin-begun (l ∷ ls) = ap (λ b. is_begin l || b) (begin-begun ls) ∙ or_true (is_begin l)

pub first-begun : (lines : List ProgramLine) → has_begin lines ≡ false → first_of (lines ++ Begins ∷ []) ≡ program_of lines ++ None ∷ []
first-begun [] none = refl
first-begun (l ∷ ls) none = go (is_begin l) (has_begin ls) refl none (first-begun ls)
  where
    go : (b more : Bool) → has_begin ls ≡ more → (b || more) ≡ false → (has_begin ls ≡ false → first_of (ls ++ Begins ∷ []) ≡ program_of ls ++ None ∷ [])
        → (if b || has_begin (ls ++ Begins ∷ []) then action_in l ∷ first_of (ls ++ Begins ∷ []) else []) ≡ (if b || has_begin ls then None else action_in l) ∷ program_of ls ++ None ∷ []
    go true more e not_so rest = absurd (cc)
    go false true e not_so rest = absurd (cc)
    go false false e not_so rest = rw (begin-begun ls, e) (ap (λ items. action_in l ∷ items) (rest e))

pub program-begun : (lines : List ProgramLine) → program_of (lines ++ Begins ∷ []) ≡ replicate (length (lines ++ Begins ∷ [])) None
program-begun [] = refl
program-begun (l ∷ ls) =
    ap (λ b. (if is_begin l || b then None else action_in l) ∷ program_of (ls ++ Begins ∷ [])) (begin-begun ls)
    ∙ ap (λ b. (if b then None else action_in l) ∷ program_of (ls ++ Begins ∷ [])) (or_true (is_begin l))
    ∙ ap (λ rest. None ∷ rest) (program-begun ls)

-- what is to be refused
pub refused-more : (marks : Bool) (lines : List ProgramLine) (line : ProgramLine)
    → refused_from marks (lines ++ line ∷ []) ≡ refused_from marks lines ++ (marks_from marks lines && is_some (action_in line)) ∷ []
refused-more marks [] line = refl
refused-more marks (l ∷ ls) line = ap (λ rest. (marks && is_some (action_in l)) ∷ rest) (refused-more (marks_after marks l) ls line)

pub marks-more : (marks : Bool) (lines : List ProgramLine) (line : ProgramLine) → marks_from marks (lines ++ line ∷ []) ≡ marks_after (marks_from marks lines) line
marks-more marks [] line = refl
marks-more marks (l ∷ ls) line = marks-more (marks_after marks l) ls line

-- one item a line
pub program-length : (lines : List ProgramLine) → length (program_of lines) ≡ length lines
program-length [] = refl
program-length (l ∷ ls) = ap suc (program-length ls)

pub refused-length : (marks : Bool) (lines : List ProgramLine) → length (refused_from marks lines) ≡ length lines
refused-length marks [] = refl
refused-length marks (l ∷ ls) = ap suc (refused-length (marks_after marks l) ls)

-- there are first ones where there is a `# begin`
pub first-some : (lines : List ProgramLine) → (length (first_of lines) == 0) ≡ not (has_begin lines)
first-some [] = refl
first-some (l ∷ ls) = go (has_begin (l ∷ ls))
  where
    go : (b : Bool) → (length (if b then action_in l ∷ first_of ls else []) == 0) ≡ not b
    go true = search (rules, tests)
    go false = refl
