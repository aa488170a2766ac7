-- Media errors: lines that go bad or weak, and bad lines that are made good again.
use Rattle.std.specs.Prelude.{◌/◌, ◌==◌, ℕ, true, List, [], ◌∷◌, Option, Some, None, option_map, nat_lt, if◌then◌else◌}
use Rattle.nvm_model.specs.Blocks.{lose}
use Rattle.nvm_model.specs.Cell.{Cell, clear_cell, lose_cell, weaken_cell}
use Rattle.nvm_model.specs.Page.{change_line}
use Rattle.word_tables.specs.Layout.{meta_lines}
use Rattle.marked_lines.specs.Refusals.{ScrubRefusal, block_refusal, clear_refusal, place_refusal}
use Rattle.marked_lines.specs.Refusals.ScrubRefusal.{Range, Nothing, NotPoisoned}
use Rattle.reply_text.specs.declared.reply.Why.TheVariants as because
use Rattle.reply_text.specs.Answer.{Answer}
use Rattle.reply_text.specs.Answer.Answer.{Done, Refused}
use Rattle.machine_model.specs.Machine.{Machine}
use Rattle.machine_model.specs.Machine.Fate.{Gives, Works}
use Rattle.machine_model.specs.Meaning.{Meaning, anywhere, no_reasons, quiet}
use Rattle.machine_model.specs.declared.needs.Needs.TheVariants.{Usable, Anytime}
use Rattle.machine_model.specs.Meaning.Starved.{WrittenBack}
use Rattle.machine_model.specs.Meaning.VolumeLeft.{AllOrNone}

-- how a refusal of a line is answered
abbrev pub line_answer : ScrubRefusal → Answer
line_answer Range = Refused because.Range
line_answer Nothing = Refused because.Nothing
line_answer NotPoisoned = Refused because.NotPoisoned

-- A line is marked, which needs no counted call, and is refused for the line alone.
abbrev pub marking : (Machine → Option ScrubRefusal) → (Machine → Machine) → Meaning
marking refuses to = record (quiet Usable anywhere (λ h. Gives Done (to h))) {
  reasons = λ h. record no_reasons { places = option_map line_answer (refuses h) };
}

abbrev pub poison_block : ℕ → ℕ → Meaning
poison_block block line = marking (λ h. block_refusal h.geometry.blocks h.blocks block line) (λ h. record h { blocks = lose block line h.blocks })

-- the line of a byte of the volume
abbrev pub marking_volume : (Cell → Cell) → ℕ → Meaning
marking_volume mark offset =
    marking (λ h. place_refusal h.geometry h.volume offset) (λ h. record h { volume = change_line mark (offset / 64) h.volume })

abbrev pub poison_volume : ℕ → Meaning
poison_volume offset = marking_volume lose_cell offset

-- lines, rising, with one more where it is not among them
abbrev pub with_line : ℕ → List ℕ → List ℕ
with_line line [] = line ∷ []
with_line line (next ∷ lines) =
    if nat_lt line next then line ∷ next ∷ lines else (if line == next then next ∷ lines else next ∷ with_line line lines)

-- a line of metadata, in each mode
abbrev pub poison_meta : ℕ → Meaning
poison_meta line =
    quiet Anytime (λ geo. if nat_lt line (meta_lines geo) then None else Some because.Range) (λ h. Gives Done (record h { bad_meta = with_line line h.bad_meta }))

abbrev pub weaken_volume : ℕ → Meaning
weaken_volume offset = record (marking_volume weaken_cell offset) {
  starved = WrittenBack;
  wants_memory = true;
}

-- one call of the device
abbrev pub clear_volume : ℕ → Meaning
clear_volume offset = record (quiet Usable anywhere (λ h. Works Done (record h { volume = change_line clear_cell (offset / 64) h.volume }))) {
  reasons = λ h. record no_reasons { places = option_map line_answer (clear_refusal h.geometry h.volume offset) };
  volume = λ geo. change_line clear_cell (offset / 64);
  volume_left = λ geo. AllOrNone;
  spends = λ h. record { calls = 1; persists = 0 };
}
