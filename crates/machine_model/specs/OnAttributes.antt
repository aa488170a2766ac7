-- Attributes: what the table tells of the medium, in each mode.
use Rattle.std.specs.Prelude.{ℕ, List, Option, Some, None}
use Rattle.attributes.specs.Attributes.{attribute}
use Rattle.reply_text.specs.declared.reply.Why.TheVariants as because
use Rattle.reply_text.specs.Answer.{Answer}
use Rattle.reply_text.specs.Answer.Answer.{Attribute, Refused}
use Rattle.machine_model.specs.declared.needs.Needs.TheVariants.{Anytime}
use Rattle.machine_model.specs.Machine.Fate.{Gives}
use Rattle.machine_model.specs.Meaning.{Meaning, anywhere, no_reasons, quiet}

-- the table has no such name
abbrev pub unknown : Option ℕ → Option Answer
unknown None = Some (Refused because.Unknown)
unknown (Some value) = None

abbrev pub told_value : Option ℕ → Answer
told_value None = Refused because.Unknown
told_value (Some value) = Attribute value

abbrev pub attr : List ℕ → Meaning
attr name = record (quiet Anytime anywhere (λ h. Gives (told_value (attribute name h.geometry h.unit)) h)) {
  reasons = λ h. record no_reasons { named = unknown (attribute name h.geometry h.unit) };
}
