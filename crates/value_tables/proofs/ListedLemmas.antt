-- What is listed of a word or of a block is what a look of it alone may show.
use Rattle.std.proofs.Common.{◌≡◌, ℕ, ◌+◌, ◌-◌, ◌*◌, ◌/◌, ◌%◌, ◌<◌, ◌&&◌, Bool, true, false, cond, Option, Some, None, List, [], ◌∷◌, ◌++◌, length, refl, sym, ap, subst, ◌∙◌, arith}
use Rattle.std.specs.List.{list_any, range_with_len}
use Rattle.std.proofs.lemmas.Bool.{eq-eqb, le-ltb}
use Rattle.word_tables.specs.declared.geometry.Geometry.{Geometry}
use Rattle.nvm_model.specs.Blocks.{first_there}
use Rattle.nvm_model.specs.Cell.{Cell}
use Rattle.nvm_model.specs.Page.{Page, is_bad_cell}
use Rattle.nvm_model.specs.Storage.{Block}
use Rattle.reply_text.specs.declared.reply.Why.TheVariants.{Range}
use Rattle.script_text.specs.Action.{Action}
use Rattle.cut_places.specs.MachineModel.Commands.{meaning}
use Rattle.cut_places.specs.MachineModel.Machine.{Machine}
use Rattle.cut_places.specs.MachineModel.Meaning.{BlocksLeft, VolumeLeft, most_refusal}
use Rattle.cut_places.specs.MachineModel.Meaning.BlocksLeft.{Same, Either, Mixed}
use Rattle.cut_places.specs.MachineModel.Meaning.VolumeLeft.{Kept as Unchanged, PartStored, PartSynced, AllOrNone, PageByPage}
use Rattle.cut_places.specs.Durable.Durable.{HaveLines}
use Rattle.cut_places.specs.Outcomes.Blocks.{block_fits}
use Rattle.cut_places.specs.Outcomes.Left.{blocks_may_pass, blocks_pass, volume_may_pass}
use Rattle.cut_places.specs.Outcomes.Pages.{PageReply, all_lines_read, is_given, is_reply, is_reply_by, line_fits}
use Rattle.cut_places.specs.Outcomes.Pages.PageReply.{Shows, Poison}
use Rattle.cut_places.specs.Outcomes.Seen.{files_may_show, may_show}
use Rattle.cut_places.specs.AskedReads.Fitting.{cell_fits}
use Rattle.cut_places.specs.SightsSeen.Seeing.{seen}
use Rattle.cut_places.proofs.MayShowLemmas.{files_show_none}
use Rattle.cut_places.proofs.SightsSeen.PassLemmas.{EachUnit}
use Rattle.value_tables.specs.Left.{line_left, lines_left, of_lines}
use Rattle.value_tables.specs.Listed.{HasWords, IsSound, has_bytes, lists_bytes, word_read}
use Rattle.value_tables.specs.Values.{history_of, may_be_bad, word_values}
use Rattle.value_tables.proofs.HistoryLemmas.{made_has}
use Rattle.value_tables.proofs.LeftLemmas.{line_passes}
use Rattle.value_tables.proofs.OnceLemmas.{any_of, any_value}
use Rattle.value_tables.proofs.WordLemmas.{poison_given, read_of, shows_poison, shows_word, word_line}

-- each line that may be left has its words
both_have : (left : VolumeLeft) (old new : Cell) → HasWords old → HasWords new → EachUnit HasWords (of_lines left old new)
both_have Unchanged old new has had = (has, tt)
both_have (PartStored offset bytes) old new has had = (has, (had, tt))
both_have (PartSynced offset len) old new has had = (has, (had, tt))
both_have AllOrNone old new has had = (has, (had, tt))
both_have PageByPage old new has had = (has, (had, tt))

all_have : (geo : Geometry) (o : Option Action) (pages : List Page) (n : ℕ) → HaveLines pages → n / 64 < length pages → HasWords (seen pages n) → EachUnit HasWords (lines_left geo o pages n)
all_have geo None pages n lines within have = (have, tt)
all_have geo (Some action) pages n lines within have =
    both_have ((meaning action).volume_left geo) (seen pages n) (seen ((meaning action).volume geo pages) n) have (made_has pages lines n have geo action within)

pub always : {A : Type 0} (xs : List A) → EachUnit (λ x. Unit {0}) xs
always [] = tt
always (x ∷ xs) = (tt, always xs)

-- nothing is asked of blocks
nothing_left : (left : BlocksLeft) (old to : List Block) → blocks_pass left (block_fits []) old to [] ≡ true
nothing_left Same old to = refl
nothing_left Either old to = refl
nothing_left Mixed old to = refl

pub no_block : (o : Option Action) (blocks : List Block) → blocks_may_pass o (block_fits []) blocks [] ≡ true
no_block None blocks = refl
no_block (Some action) blocks = nothing_left (meaning action).blocks_left blocks ((meaning action).blocks blocks)

of_parts : (a b c d : Bool) → a ≡ true → c ≡ true → d ≡ true → (((a && true) && b) && ((true && c) && d)) ≡ b
of_parts true true true true x y z = refl
of_parts true false true true x y z = refl
of_parts false b c d x y z = cc x
of_parts true b false d x y z = cc y
of_parts true b true false x y z = cc z

module _ (off : Machine) (p : ℕ) (sound : IsSound off) (within : p < 512 * off.geometry.vpages) where
  one_line : (reply : PageReply) → ((start len : ℕ) → all_lines_read (record { start = start; len = len; reply = reply } ∷ []) ≡ range_with_len (start / 64) ((start + len - 1) / 64 + 1 - start / 64) ++ [])
      → all_lines_read (read_of p reply) ≡ p / 8 ∷ []
  one_line reply are =
      are (8 * p) 8 ∙ ap (λ lines. lines ++ []) (word_line p)

  allowed : most_refusal 65536 (4096 * off.geometry.vpages) (8 * p) 8 ≡ None
  allowed = ap (λ b. first_there (cond b (Some Range) None) None) (le-ltb (4096 * off.geometry.vpages) (8 * p + 8) (omega (arith, within)))

  there : p / 8 / 64 < length off.volume
  there = subst (λ m. p / 8 / 64 < m) (sym sound.counted.pages) (omega (arith, within))

  module _ (reply : PageReply) (given : is_given (8 * p) 8 reply ≡ true) (line : all_lines_read (read_of p reply) ≡ p / 8 ∷ []) where
    shown : may_show (word_read p reply) off ≡ list_any (cell_fits (read_of p reply) (p / 8)) (line_left off (p / 8))
    shown =
        of_parts (is_reply (4096 * off.geometry.vpages) (record { start = 8 * p; len = 8; reply = reply }))
        (volume_may_pass off.geometry off.interrupted (line_fits (read_of p reply)) off.volume (all_lines_read (read_of p reply)))
        (blocks_may_pass off.interrupted (block_fits []) off.blocks []) (files_may_show off [])
        (ap (λ o. is_reply_by o (8 * p) 8 reply) allowed ∙ given) (no_block off.interrupted off.blocks) (files_show_none off.mappings off.interrupted off.files)
        ∙ ap (volume_may_pass off.geometry off.interrupted (line_fits (read_of p reply)) off.volume) line
        ∙ line_passes (read_of p reply) off.geometry off.volume (p / 8) sound.lines there off.interrupted

  pub words_listed : (bytes : List ℕ) → length bytes ≡ 8 → lists_bytes bytes (word_values (p % 8) (line_left off (p / 8))) ≡ may_show (word_read p (Shows bytes)) off
  words_listed bytes eight =
      any_value (has_bytes bytes) (p % 8) [] (line_left off (p / 8))
      ∙ sym (any_of HasWords (cell_fits (read_of p (Shows bytes)) (p / 8)) (λ cell. lists_bytes bytes (history_of (p % 8) cell)) (line_left off (p / 8))
      (all_have off.geometry off.interrupted off.volume (p / 8) sound.lines there (sound.words (p / 8) there)) (λ cell have. shows_word p bytes cell have eight))
      ∙ sym (shown (Shows bytes) (eq-eqb (length bytes) 8 eight) (one_line (Shows bytes) (λ start len. refl)))

  pub poison_listed : may_be_bad (line_left off (p / 8)) ≡ may_show (word_read p (Poison (64 * (p / 8)))) off
  poison_listed =
      sym (any_of (λ cell. Unit {0}) (cell_fits (read_of p (Poison (64 * (p / 8)))) (p / 8)) (λ cell. is_bad_cell (Some cell)) (line_left off (p / 8))
      (always (line_left off (p / 8))) (λ cell have. shows_poison p cell))
      ∙ sym (shown (Poison (64 * (p / 8))) (poison_given p) (one_line (Poison (64 * (p / 8))) (λ start len. refl)))
