-- A line that was to be written.
use Rattle.std.proofs.Common.{◌≡◌, List, ℕ, [], take, drop, Option, Result, Ok, Err, refl, sym, subst, append-nil}
use Rattle.std.proofs.lemmas.List.{take-append-drop}
use Rattle.std.specs.Prelude.{IfOk, MatchResult}
use Rattle.std.specs.Io.KnownBytes.{Appends}
use Rattle.nvm_base.specs.Stock.{Stock}
use Rattle.host_io.specs.Writing.{WritesAll}
use Rattle.host_io.specs.declared.sink.WriteFault.{WriteFault}
use Rattle.host_io.specs.declared.sink.WriteFault.TheVariants as write
use Rattle.program_base.specs.Writing.{WritesFront}
use Rattle.program_base.proofs.BytesLemmas.{appends-none}

-- a line that was to be written, as far as it was
front_written : (r : Result (Unit {0}) WriteFault) (text : List ℕ) (old new : Option (List ℕ)) → WritesAll text r old new → WritesFront text old new
front_written (Ok x) text old new wrote = record { part = text; front = record { rest = []; joined = append-nil text }; wrote = wrote }
front_written (Err fault) text old new wrote = record {
  part = take wrote.count text;
  front = record { rest = drop wrote.count text; joined = take-append-drop wrote.count text };
  wrote = wrote.part;
}

pub told_front : {E : Type 0} (line : Result (Stock ℕ) E) (r : Result (Unit {0}) WriteFault) (text : List ℕ) (old new : Option (List ℕ)) → IfOk line (λ l. l.items ≡ text)
    → MatchResult line (λ l. WritesAll l.items r old new) (λ _. (r ≡ Err write.Memory) × (new ≡ old)) → WritesFront text old new
told_front (Ok l) r text old new is told = front_written r text old new (subst (λ t. WritesAll t r old new) is told)
told_front (Err e) r text old new is told = record {
  part = [];
  front = record { rest = text; joined = refl };
  wrote = subst (λ w. Appends old w []) (sym told.1) (appends-none old);
}

-- and one that was
pub told_all : {E : Type 0} (line : Result (Stock ℕ) E) (r : Result (Unit {0}) WriteFault) (text : List ℕ) (old new : Option (List ℕ)) (x : Unit {0}) → IfOk line (λ l. l.items ≡ text)
    → MatchResult line (λ l. WritesAll l.items r old new) (λ _. (r ≡ Err write.Memory) × (new ≡ old)) → r ≡ Ok x → Appends old new text
told_all (Ok l) (Ok y) text old new x is told ok = subst (Appends old new) is told
told_all (Err e) (Ok y) text old new x is told ok = cc told.0
told_all line (Err e) text old new x is told ok = cc ok
