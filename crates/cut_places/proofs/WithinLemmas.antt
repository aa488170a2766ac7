-- What an exploration looks at is within the sizes of the device, and a question that no device answers so is found nowhere.
use Rattle.std.proofs.Common.{◌≡◌, ◌+◌, ◌-◌, ◌*◌, ◌/◌, ◌<◌, ◌≤◌, ◌&&◌, ℕ, zero, suc, Bool, true, false, cond, Option, Some, None, List, [], ◌∷◌, ◌++◌, map, refl, sym, ap, subst, ◌∙◌, arith}
use Rattle.std.specs.List.{list_all, range_with_len}
use Rattle.std.proofs.lemmas.Bool.{and_parts}
use Rattle.word_tables.specs.declared.geometry.Geometry.{Geometry}
use Rattle.reply_text.specs.Answer.{Answer}
use Rattle.reply_text.specs.declared.reply.Why.{Why}
use Rattle.script_text.specs.Action.{Action}
use Rattle.script_text.specs.Script.{Input}
use Rattle.script_text.specs.Script.Input.{Skipped, Malformed, Overlong, Asked}
use Rattle.sights.specs.MachineModel.Machine.{Machine, Fate}
use Rattle.sights.specs.MachineModel.Machine.Fate.{Gives, Works, Orders, Cuts, Restarts, Recovers}
use Rattle.sights.specs.MachineModel.Commands.{fate, meaning, refusal, unless_refused, while_interrupted}
use Rattle.sights.specs.MachineModel.Meaning.{most_refusal}
use Rattle.sights.proofs.MachineModel.RefusalLemmas.{read_within}
use Rattle.sights.specs.Outcomes.Blocks.{BlockRead, BlockReply, all_numbers_read, block_fits, is_block_reply, is_block_reply_by, numbers_read}
use Rattle.sights.specs.Outcomes.Blocks.BlockReply.{Shows as ShowsBlocks, Scar, BadLine, Refuses as RefusesBlocks}
use Rattle.sights.specs.Outcomes.Left.{blocks_may_pass, files_may_pass, volume_may_pass}
use Rattle.sights.specs.Outcomes.Pages.{PageRead, PageReply, all_lines_read, is_reply, is_reply_by, line_fits, lines_read}
use Rattle.sights.specs.Outcomes.Pages.PageReply.{Shows, Poison, Refuses}
use Rattle.sights.specs.Outcomes.Seen.{Seen, may_show}
use Rattle.sights.specs.Outcomes.Stops.{inside, led_to}
use Rattle.sights.specs.AskedReads.declared.question.Question.{Question}
use Rattle.sights.specs.AskedReads.Asking.{IsLook, blocks_of, files_asked, may_be_replies, volume_asked}
use Rattle.sights.specs.declared.line_seen.LineSeen.{LineSeen}
use Rattle.sights.specs.declared.block_seen.BlockSeen.{BlockSeen}
use Rattle.cut_places.specs.declared.place.CutPlace.TheVariants.{Before, Inside}
use Rattle.cut_places.specs.Following.{command_stops}
use Rattle.cut_places.specs.Places.{cut_places, first_stop}
use Rattle.sights.specs.Units.{AreAmong, AreWithin, block_numbers, line_numbers}
use Rattle.cut_places.proofs.MayShowLemmas.{shows_parts}
use Rattle.sights.proofs.SizeLemmas.{geometry_stays}
use Rattle.cut_places.proofs.StopLemmas.{none_before}

-- all of these are less
abbrev AreBelow : ℕ → List ℕ → Type 0
AreBelow bound [] = Unit {0}
AreBelow bound (n ∷ ns) = (n < bound) × AreBelow bound ns

range_below : (bound a k : ℕ) → a + k ≤ bound → AreBelow bound (range_with_len a k)
range_below bound a zero within = tt
range_below bound a (suc k) within = (omega (arith, within), range_below bound (a + 1) k (omega (arith, within)))

append_below : (bound : ℕ) (xs ys : List ℕ) → AreBelow bound xs → AreBelow bound ys → AreBelow bound (xs ++ ys)
append_below bound [] ys below more = more
append_below bound (x ∷ xs) ys below more = (below.0, append_below bound xs ys below.1 more)

lines_touched : (pages start len : ℕ) (reply : PageReply) (o : Option Why) → most_refusal 65536 (4096 * pages) start len ≡ o → is_reply_by o start len reply ≡ true
    → AreBelow (64 * pages) (lines_read start len reply)
lines_touched pages start len (Shows bytes) None none is =
    let places = read_within 65536 (4096 * pages) start len none in
    let some = places.0 in
    let within = places.1 in
    range_below (64 * pages) (start / 64) ((start + len - 1) / 64 + 1 - start / 64) (omega (arith, some, within))
lines_touched pages start len (Poison at) None none is =
    let places = read_within 65536 (4096 * pages) start len none in
    let some = places.0 in
    let within = places.1 in
    range_below (64 * pages) (start / 64) ((start + len - 1) / 64 + 1 - start / 64) (omega (arith, some, within))
lines_touched pages start len (Refuses why) None none is = tt
lines_touched pages start len (Shows bytes) (Some why) refused is = cc is
lines_touched pages start len (Poison at) (Some why) refused is = cc is
lines_touched pages start len (Refuses other) (Some why) refused is = tt

lines_below : (pages : ℕ) (reads : List PageRead) → list_all (is_reply (4096 * pages)) reads ≡ true → AreBelow (64 * pages) (all_lines_read reads)
lines_below pages [] all = tt
lines_below pages (r ∷ reads) all =
    let parts = and_parts (is_reply (4096 * pages) r) (list_all (is_reply (4096 * pages)) reads) all in
    append_below (64 * pages) (lines_read r.start r.len r.reply) (all_lines_read reads)
    (lines_touched pages r.start r.len r.reply (most_refusal 65536 (4096 * pages) r.start r.len) refl parts.0) (lines_below pages reads parts.1)

blocks_touched : (size first count : ℕ) (reply : BlockReply) (o : Option Why) → most_refusal 128 size first count ≡ o → is_block_reply_by o first count reply ≡ true
    → AreBelow size (numbers_read first count reply)
blocks_touched size first count (ShowsBlocks bytes) None none is = range_below size first count (read_within 128 size first count none).1
blocks_touched size first count (Scar named) None none is = range_below size first count (read_within 128 size first count none).1
blocks_touched size first count (BadLine named line) None none is = range_below size first count (read_within 128 size first count none).1
blocks_touched size first count (RefusesBlocks why) None none is = tt
blocks_touched size first count (ShowsBlocks bytes) (Some why) refused is = cc is
blocks_touched size first count (Scar named) (Some why) refused is = cc is
blocks_touched size first count (BadLine named line) (Some why) refused is = cc is
blocks_touched size first count (RefusesBlocks other) (Some why) refused is = tt

blocks_below : (size : ℕ) (reads : List BlockRead) → list_all (is_block_reply size) reads ≡ true → AreBelow size (all_numbers_read reads)
blocks_below size [] all = tt
blocks_below size (r ∷ reads) all =
    let parts = and_parts (is_block_reply size r) (list_all (is_block_reply size) reads) all in
    append_below size (numbers_read r.first r.count r.reply) (all_numbers_read reads)
    (blocks_touched size r.first r.count r.reply (most_refusal 128 size r.first r.count) refl parts.0) (blocks_below size reads parts.1)

lines_in : (geo : Geometry) (lines : List LineSeen) → AreBelow (64 * geo.vpages) (line_numbers lines) → AreWithin geo lines
lines_in geo [] below = tt
lines_in geo (s ∷ lines) below = (below.0, lines_in geo lines below.1)

blocks_in : (geo : Geometry) (units : List BlockSeen) → AreBelow geo.blocks (block_numbers units) → AreAmong geo units
blocks_in geo [] below = tt
blocks_in geo (s ∷ units) below = (below.0, blocks_in geo units below.1)

pub lines_within : (geo : Geometry) (lines : List LineSeen) (reads : List PageRead) → line_numbers lines ≡ all_lines_read reads → list_all (is_reply (4096 * geo.vpages)) reads ≡ true → AreWithin geo lines
lines_within geo lines reads are all = lines_in geo lines (subst (AreBelow (64 * geo.vpages)) (sym are) (lines_below geo.vpages reads all))

pub blocks_within : (geo : Geometry) (units : List BlockSeen) (reads : List BlockRead) → block_numbers units ≡ all_numbers_read reads → list_all (is_block_reply geo.blocks) reads ≡ true → AreAmong geo units
blocks_within geo units reads are all = blocks_in geo units (subst (AreBelow geo.blocks) (sym are) (blocks_below geo.blocks reads all))

-- replies that no device of these sizes gives
module _ (look : List Seen) (q : Question) (is : IsLook look q) (base : Machine) (none : may_be_replies base.geometry q ≡ false) where
  lines_pass : Machine → Bool
  lines_pass off = volume_may_pass off.geometry off.interrupted (line_fits (volume_asked q)) off.volume (all_lines_read (volume_asked q))

  blocks_pass : Machine → Bool
  blocks_pass off = blocks_may_pass off.interrupted (block_fits (blocks_of q)) off.blocks (all_numbers_read (blocks_of q))

  files_pass_of : Machine → Bool
  files_pass_of off = files_may_pass off.mappings off.interrupted (files_asked q) off.files

  unshown : (off : Machine) → off.geometry ≡ base.geometry → may_show look off ≡ false
  unfolding lines_pass blocks_pass files_pass_of
  unshown off same =
      let found = lines_pass off in
      let held = files_pass_of off in
      shows_parts base off look q is same found (blocks_pass off) held refl refl refl ∙ ap (λ b. b && (found && (blocks_pass off && held))) none

  none_in : (n : ℕ) (h : Machine) (action : Action) → h.geometry ≡ base.geometry → (to : Fate)
      → first_stop (may_show look) (map (λ m. record { place = Inside n; state = m }) (inside h action to)) ≡ None
  none_in n h action same (Gives answer to) = refl
  none_in n h action same (Works answer to) = ap (λ b. cond b (Some (record { place = Inside n; state = while_interrupted h action })) None) (unshown (while_interrupted h action) same)
  none_in n h action same (Orders order to) = refl
  none_in n h action same (Cuts to) = refl
  none_in n h action same (Restarts choice) = refl
  none_in n h action same Recovers = refl

  none_of_command : (n : ℕ) (h : Machine) (action : Action) → h.geometry ≡ base.geometry → first_stop (may_show look) (command_stops n h action) ≡ None
  none_of_command n h action same =
      ap (λ b. cond b (Some (record { place = Before n; state = h })) (first_stop (may_show look) (map (λ m. record { place = Inside n; state = m }) (inside h action (fate h action))))) (unshown h same)
      ∙ none_in n h action same (fate h action)

  sizes_led : (h : Machine) (action : Action) (o : Option Answer) → (led_to h (unless_refused h o ((meaning action).comes h))).geometry ≡ h.geometry
  sizes_led h action None = geometry_stays h action
  sizes_led h action (Some why) = refl

  pub found_nowhere : (n : ℕ) (h : Machine) (inputs : List Input) → h.geometry ≡ base.geometry → None ≡ first_stop (may_show look) (cut_places n h inputs)
  found_nowhere n h [] same = sym (ap (λ b. cond b (Some (record { place = Before n; state = h })) None) (unshown h same))
  found_nowhere n h (Skipped ∷ inputs) same = found_nowhere (suc n) h inputs same
  found_nowhere n h (Malformed ∷ inputs) same = found_nowhere (suc n) h inputs same
  found_nowhere n h (Overlong ∷ inputs) same = found_nowhere (suc n) h inputs same
  found_nowhere n h (Asked action ∷ inputs) same =
      let to = led_to h (fate h action) in
      found_nowhere (suc n) to inputs (sizes_led h action (refusal h action) ∙ same)
      ∙ sym (none_before (may_show look) (command_stops n h action) (cut_places (suc n) to inputs) (none_of_command n h action same))
