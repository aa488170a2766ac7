use Rattle.std.proofs.Common.{◌≡◌, ◌∙◌, Bool, List, [], ◌∷◌, All, Result, Ok, Err, IsErrAnd, rules, map, string_bytes, true, false, ap, subst, sym, true≢false}
use Rattle.std.proofs.lemmas.List.Elements.{All-cons, All-head, All-map, All-nil, All-tail}
use Rattle.clap.specs.Words.{App, HasKind, HasMatchesOf, Text, fault_of, is_simple_and_free, kind_of, subcommand_rows_of}
use Rattle.clap.specs.declared.error.kind.ErrorKind.{ErrorKind}
use Rattle.clap.specs.declared.error.kind.ErrorKind.TheVariants.{OutOfMemory}
use Rattle.command_line.specs.declared.fault.WordsFault.{WordsFault}
use Rattle.command_line.specs.declared.fault.WordsFault.TheVariants.{Usage, Memory}
use Rattle.command_line.specs.Faults.{words_fault}
use Rattle.command_line.specs.Words.{IsPlain, named}
use Rattle.command_line.specs.Commands.{met_form}
use Rattle.command_line.proofs.ProgramLemmas.{form_met, program_is_free, program_is_simple, refused_for_memory}
use Rattle.command_line.proofs.words.read_words.Goals as goal

unmapped : {X : Type 0} (f : X → Text) (xs : List X) → All IsPlain (map f xs) → All (λ x. IsPlain (f x)) xs
unmapped f [] h = All-nil (λ x. IsPlain (f x))
unmapped f (x ∷ xs) h = All-cons (λ y. IsPlain (f y)) x xs (All-head IsPlain (f x) (map f xs) h) (unmapped f xs (All-tail IsPlain (f x) (map f xs) h))

abbrev is_memory : WordsFault → Bool
is_memory Memory = true
is_memory Usage = false

abbrev tells_memory : {T : Type 0} → Result T WordsFault → Bool
tells_memory (Ok x) = true
tells_memory (Err e) = is_memory e

memory_is_no_usage : {T : Type 0} (r : Result T WordsFault) (k : ErrorKind) → IsErrAnd r (λ e. e ≡ words_fault k) → k ≡ OutOfMemory → r ≡ Err Usage → ⊥
memory_is_no_usage (Ok x) k told memory is = absurd told
memory_is_no_usage (Err e) k told memory is = true≢false (sym (ap is_memory (told ∙ ap words_fault memory)) ∙ ap tells_memory is)

pub returns-then-not-are_plain-clause-usage : goal.returns-then-not-are_plain-clause-usage
returns-then-not-are_plain-clause-usage c is form f =
    let other = c.are_plain.ensures.1 (unmapped (λ word. string_bytes word) c.args.words.now f.plain) in
    search rules

pub returns-in_err-matches-clause-usage : goal.returns-in_err-matches-clause-usage
returns-in_err-matches-clause-usage c is form f =
    let texts = map (λ word. string_bytes word) c.args.words.now in
    let plain = All-map IsPlain (λ word. string_bytes word) c.args.words.now (c.are_plain.ensures.0 (search rules)) in
    let has = subst (λ (a : App). is_simple_and_free a ≡ true → HasKind (fault_of a texts) c.in_err-matches.field-0.0) c.in_ok-program.ensures c.in_err-matches.ensures.kinds program_is_free in
    let memory = refused_for_memory texts plain c.in_err-matches.field-0.0 has form f.named in
    memory_is_no_usage c.from_residual-in_err-matches.result (kind_of c.in_err-matches.field-0.0) c.from_residual-in_err-matches.ensures.1 memory is

pub returns-in-Some-clause-form : goal.returns-in-Some-clause-form
returns-in-Some-clause-form c =
    let texts = map (λ word. string_bytes word) c.args.words.now in
    let plain = All-map IsPlain (λ word. string_bytes word) c.args.words.now (c.are_plain.ensures.0 (search rules)) in
    let taken = subst (λ (a : App). is_simple_and_free a ≡ true → fault_of a texts ≡ []) c.in_ok-program.ensures c.in_ok-matches.ensures.kinds program_is_free in
    let rows = (subst (λ (a : App). HasMatchesOf a texts c.in_ok-matches.matches) c.in_ok-program.ensures c.in_ok-matches.ensures.matches program_is_simple).1 in
    let met : met_form (subcommand_rows_of c.in_ok-matches.matches) ≡ named texts = ap met_form rows ∙ form_met texts plain taken in
    record { named = sym met ∙ c.in-Some.ensures.form.0; plain = plain; sizes = c.in-Some.ensures.form.1 }

pub returns-clause-usage : goal.returns-clause-usage
returns-clause-usage c is form f =
    let texts = map (λ word. string_bytes word) c.args.words.now in
    let plain = All-map IsPlain (λ word. string_bytes word) c.args.words.now (c.are_plain.ensures.0 (search rules)) in
    let taken = subst (λ (a : App). is_simple_and_free a ≡ true → fault_of a texts ≡ []) c.in_ok-program.ensures c.in_ok-matches.ensures.kinds program_is_free in
    let rows = (subst (λ (a : App). HasMatchesOf a texts c.in_ok-matches.matches) c.in_ok-program.ensures c.in_ok-matches.ensures.matches program_is_simple).1 in
    let met : met_form (subcommand_rows_of c.in_ok-matches.matches) ≡ named texts = ap met_form rows ∙ form_met texts plain taken in
    c.in-None.ensures.none form (met ∙ f.named) f.sizes
