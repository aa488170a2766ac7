-- A refusal is told by its word.
use Rattle.std.proofs.Common.{◌≡◌, ℕ, true, List, cond, codes, refl, sym, ap, ◌∙◌}
use Rattle.std.specs.Str.{bytes_eq}
use Rattle.std.proofs.lemmas.Slice.Eq.{bytes_eq-Decides}
use Rattle.reply_text.specs.Answer.{why_text}
use Rattle.reply_text.specs.declared.reply.Why.{Why}
use Rattle.reply_text.specs.declared.reply.Why.TheVariants.{Syntax, TooLong, Off, On, Recover, Missing, Exists, Handle, Mapped, Range, Length, Limit, Overlap, Address, Slots, Full, Nothing, NotPoisoned, Unknown}

-- the refusal of a word
abbrev told_by : List ℕ → Why
told_by text =
    cond (bytes_eq text (codes "syntax")) Syntax (
    cond (bytes_eq text (codes "toolong")) TooLong (
    cond (bytes_eq text (codes "off")) Off (
    cond (bytes_eq text (codes "on")) On (
    cond (bytes_eq text (codes "recover")) Recover (
    cond (bytes_eq text (codes "missing")) Missing (
    cond (bytes_eq text (codes "exists")) Exists (
    cond (bytes_eq text (codes "handle")) Handle (
    cond (bytes_eq text (codes "mapped")) Mapped (
    cond (bytes_eq text (codes "range")) Range (
    cond (bytes_eq text (codes "length")) Length (
    cond (bytes_eq text (codes "limit")) Limit (
    cond (bytes_eq text (codes "overlap")) Overlap (
    cond (bytes_eq text (codes "address")) Address (
    cond (bytes_eq text (codes "slots")) Slots (
    cond (bytes_eq text (codes "full")) Full (
    cond (bytes_eq text (codes "nothing")) Nothing (
    cond (bytes_eq text (codes "notpoisoned")) NotPoisoned (
    Unknown))))))))))))))))))

back : (why : Why) → told_by (why_text why) ≡ why
back Syntax = refl
back TooLong = refl
back Off = refl
back On = refl
back Recover = refl
back Missing = refl
back Exists = refl
back Handle = refl
back Mapped = refl
back Range = refl
back Length = refl
back Limit = refl
back Overlap = refl
back Address = refl
back Slots = refl
back Full = refl
back Nothing = refl
back NotPoisoned = refl
back Unknown = refl

pub same_word : (a b : Why) → bytes_eq (why_text a) (why_text b) ≡ true → a ≡ b
same_word a b same = sym (back a) ∙ ap told_by ((bytes_eq-Decides (why_text a) (why_text b)).0 same) ∙ back b
