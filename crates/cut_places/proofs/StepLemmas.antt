-- One command: the places of a cut in it, and the state that it leads to.
use Rattle.std.proofs.Common.{◌≡◌, ◌⊎◌, inl, inr, ℕ, ◌/◌, ◌<◌, ◌&&◌, Bool, true, false, cond, Option, Some, None, Result, Ok, Err, List, [], ◌∷◌, length, map, IsTrue, refl, sym, ap, subst, ◌∙◌, arith}
use Rattle.std.specs.List.{list_all}
use Rattle.std.specs.Option.{IfSome, is_none}
use Rattle.std.specs.Result.{IfOk, OnOk}
use Rattle.std.proofs.lemmas.Bool.{both_ways}
use Rattle.word_tables.specs.declared.geometry.Geometry.{Geometry}
use Rattle.nvm_model.specs.Blocks.{nth}
use Rattle.nvm_model.specs.Page.{Page}
use Rattle.nvm_model.specs.Storage.{Block}
use Rattle.block_sights.specs.Sights.{sight}
use Rattle.reply_text.specs.Answer.{Answer}
use Rattle.reply_text.specs.Answer.Answer.{Done}
use Rattle.script_text.specs.Action.{Action}
use Rattle.script_text.specs.Script.Input.{Asked}
use Rattle.sights.specs.MachineModel.Machine.{Machine, Fate}
use Rattle.sights.specs.MachineModel.Machine.Fate.{Gives, Works, Orders, Cuts, Restarts, Recovers}
use Rattle.sights.specs.MachineModel.Commands.{fate, meaning, refusal, spending, unless_refused, while_interrupted}
use Rattle.sights.specs.MachineModel.Run.{Takes, Transcript, answered, with_order, worked}
use Rattle.sights.specs.Durable.Durable.{IsComplete, IsCounted}
use Rattle.sights.proofs.Durable.WholeLemmas.{whole-heard}
use Rattle.sights.specs.Outcomes.Finds.{IsReady}
use Rattle.sights.specs.Outcomes.Seen.{Seen, may_show}
use Rattle.sights.specs.Outcomes.Stops.{inside, is_of_program, led_to}
use Rattle.sights.proofs.Outcomes.FollowLemmas.{Follows as FollowsFate, Keeps, of_program}
use Rattle.sights.specs.AskedReads.declared.question.Question.{Question}
use Rattle.sights.specs.AskedReads.Asking.{IsLook, files_asked, may_be_replies}
use Rattle.sights.specs.declared.line_seen.LineSeen.{LineSeen}
use Rattle.sights.specs.declared.block_seen.BlockSeen.{BlockSeen}
use Rattle.cut_places.specs.declared.place.CutPlace.{CutPlace}
use Rattle.cut_places.specs.declared.place.CutPlace.TheVariants.{Before, Inside}
use Rattle.cut_places.specs.declared.sight.Sight.{Sight}
use Rattle.sights.specs.Changing.{line_changed, volume_change}
use Rattle.sights.specs.ChangingBlocks.{block_changed}
use Rattle.cut_places.specs.Following.{Explores, Follows, IsIn, IsWhole, IsWithin, Passes, Sees, ShowsIn, command_stops}
use Rattle.cut_places.specs.Places.{first_stop}
use Rattle.sights.specs.Seeing.{seen}
use Rattle.cut_places.specs.Sights.{files_once_done, shows, shows_inside}
use Rattle.sights.specs.Units.{AreAmong, AreBlocks, AreLines, AreWithin, block_may_fit, block_numbers, block_once_done, line_may_fit, line_numbers, line_once_done}
use Rattle.sights.specs.Ways.{blocks_way, passes_inside}
use Rattle.sights.proofs.BlockChangeLemmas.{blocks_changed}
use Rattle.sights.proofs.InsideLemmas.{AreThere, HaveLine}
use Rattle.cut_places.specs.Enough.{HasWords, IsAmong, IsEnough}
use Rattle.cut_places.proofs.EnoughLemmas.{enough_now, enough_within}
use Rattle.cut_places.proofs.ValueLemmas.{changed_has}
use Rattle.sights.proofs.SizeLemmas.{geometry_stays}
use Rattle.sights.proofs.VolumeChangeLemmas.{volume_changed}
use Rattle.cut_places.proofs.WorkLemmas.{ChangesNone, IsWork, unchanged_fits, works_or_none}
use Rattle.cut_places.specs.FileChanges.{left_by}
use Rattle.cut_places.specs.FileCommands.{files_change}
use Rattle.cut_places.specs.FileFitting.{fit_inside}
use Rattle.cut_places.specs.SeesFiles.{are_held}
use Rattle.cut_places.specs.FilesState.{FilesState}
use Rattle.cut_places.proofs.SeesLemmas.{sees_done}

-- the storage of a state that is ready is counted
counted : (h : Machine) → IsReady h → IsCounted h
counted h ready = elim ready.whole.counted as (λ _. IsCounted h) [ inl is ↦ is | inr nothing ↦ absurd (nothing.mode ready.mode) ]

have_line : (pages : List Page) (geo : Geometry) (lines : List LineSeen) → length pages ≡ geo.vpages → AreWithin geo lines → HaveLine pages lines
have_line pages geo [] size within = tt
have_line pages geo (s ∷ lines) size within = (
  let lt = within.0 in let bound : s.number / 64 < geo.vpages = omega (arith, lt) in subst (λ n. s.number / 64 < n) (sym size) bound,
  have_line pages geo lines size within.1,
)

are_there : (blocks : List Block) (geo : Geometry) (units : List BlockSeen) → length blocks ≡ geo.blocks → AreAmong geo units → AreThere blocks units
are_there blocks geo [] size among = tt
are_there blocks geo (s ∷ units) size among = (subst (λ n. s.number < n) (sym size) among.0, are_there blocks geo units size among.1)

pub lines_of : (h : Machine) (now : Sight) → IsReady h → IsWithin now h.geometry → HaveLine h.volume now.lines.items
lines_of h now ready within = have_line h.volume h.geometry now.lines.items (counted h ready).pages within.lines

pub blocks_in : (h : Machine) (now : Sight) → IsReady h → IsWithin now h.geometry → AreThere h.blocks now.blocks.items
blocks_in h now ready within = are_there h.blocks h.geometry now.blocks.items (counted h ready).blocks within.blocks

-- what is looked at, once the command is done
lines_after : (h : Machine) (action : Action) (lines : List LineSeen) → refusal h action ≡ None → IsComplete h → AreLines (seen h.volume) lines → HaveLine h.volume lines
    → AreLines (seen (led_to h ((meaning action).comes h)).volume) (map (line_once_done h.geometry action) lines)
lines_after h action [] allowed whole are within = tt
lines_after h action (s ∷ lines) allowed whole are within = (
  ap (line_changed (volume_change h.geometry action) s.number) are.0 ∙ sym (volume_changed h action s.number allowed whole.lines within.0),
  lines_after h action lines allowed whole are.1 within.1,
)

blocks_after : (h : Machine) (action : Action) (units : List BlockSeen) → refusal h action ≡ None → IsComplete h → AreBlocks (λ b. sight (nth h.blocks b)) units → AreThere h.blocks units
    → AreBlocks (λ b. sight (nth (led_to h ((meaning action).comes h)).blocks b)) (map (block_once_done h.geometry action) units)
blocks_after h action [] allowed whole are among = tt
blocks_after h action (s ∷ units) allowed whole are among = (
  ap (block_changed action s.number) are.0 ∙ sym (blocks_changed h action s.number allowed whole.eight among.0),
  blocks_after h action units allowed whole are.1 among.1,
)

pub sees_after : (h : Machine) (action : Action) (now after : Sight) → refusal h action ≡ None → IsReady h → Sees now h → IsWithin now h.geometry
    → after.lines.items ≡ map (line_once_done h.geometry action) now.lines.items → after.blocks.items ≡ map (block_once_done h.geometry action) now.blocks.items
    → after.files ≡ files_once_done action now.files → Sees after (led_to h ((meaning action).comes h))
sees_after h action now after allowed ready sees within lines blocks files =
    let to = led_to h ((meaning action).comes h) in record {
      lines = subst (AreLines (seen to.volume)) (sym lines) (lines_after h action now.lines.items allowed ready.whole sees.lines (lines_of h now ready within));
      blocks = subst (AreBlocks (λ b. sight (nth to.blocks b))) (sym blocks) (blocks_after h action now.blocks.items allowed ready.whole sees.blocks (blocks_in h now ready within));
      files = sees_done now.files h action after.files files sees.files ready.whole allowed;
    }

-- the same lines and blocks are looked at
line_numbers_stay : (geo : Geometry) (action : Action) (lines : List LineSeen) → line_numbers (map (line_once_done geo action) lines) ≡ line_numbers lines
line_numbers_stay geo action [] = refl
line_numbers_stay geo action (s ∷ lines) = ap (λ ns. s.number ∷ ns) (line_numbers_stay geo action lines)

block_numbers_stay : (geo : Geometry) (action : Action) (units : List BlockSeen) → block_numbers (map (block_once_done geo action) units) ≡ block_numbers units
block_numbers_stay geo action [] = refl
block_numbers_stay geo action (s ∷ units) = ap (λ ns. s.number ∷ ns) (block_numbers_stay geo action units)

lines_within : (sizes geo : Geometry) (action : Action) (lines : List LineSeen) → AreWithin sizes lines → AreWithin sizes (map (line_once_done geo action) lines)
lines_within sizes geo action [] within = tt
lines_within sizes geo action (s ∷ lines) within = (within.0, lines_within sizes geo action lines within.1)

blocks_among : (sizes geo : Geometry) (action : Action) (units : List BlockSeen) → AreAmong sizes units → AreAmong sizes (map (block_once_done geo action) units)
blocks_among sizes geo action [] among = tt
blocks_among sizes geo action (s ∷ units) among = (among.0, blocks_among sizes geo action units among.1)

pub whole_after : (geo : Geometry) (action : Action) (q : Question) (now after : Sight) → IsWhole now q
    → after.lines.items ≡ map (line_once_done geo action) now.lines.items → after.blocks.items ≡ map (block_once_done geo action) now.blocks.items
    → after.files ≡ files_once_done action now.files → IsWhole after q
whole_after geo action q now after whole lines blocks files = record {
  lines = ap line_numbers lines ∙ line_numbers_stay geo action now.lines.items ∙ whole.lines;
  blocks = ap block_numbers blocks ∙ block_numbers_stay geo action now.blocks.items ∙ whole.blocks;
  files = ap (λ (s : FilesState). are_held s.numbers (files_asked q)) files ∙ whole.files;
}

-- and at enough, with a value for each word
after_among : (geo : Geometry) (action : Action) (lines : List LineSeen) → ((s : LineSeen) → IsAmong s lines → HasWords s.line)
    → (s : LineSeen) → IsAmong s (map (line_once_done geo action) lines) → HasWords s.line
after_among geo action [] has s is = absurd is
after_among geo action (x ∷ lines) has s (inl same) =
    subst (λ (t : LineSeen). HasWords t.line) (sym same) (changed_has (volume_change geo action) x.number x.line (has x (inl refl)))
after_among geo action (x ∷ lines) has s (inr later) = after_among geo action lines (λ t is. has t (inr is)) s later

pub enough_after : (geo : Geometry) (action : Action) (q : Question) (now after : Sight) → IsEnough now q
    → after.lines.items ≡ map (line_once_done geo action) now.lines.items → after.blocks.items ≡ map (block_once_done geo action) now.blocks.items
    → after.files ≡ files_once_done action now.files → IsEnough after q
enough_after geo action q now after enough lines blocks files = record {
  lines = λ n is. subst (IsAmong n) (sym (ap line_numbers lines ∙ line_numbers_stay geo action now.lines.items)) (enough.lines n is);
  blocks = λ n is. subst (IsAmong n) (sym (ap block_numbers blocks ∙ block_numbers_stay geo action now.blocks.items)) (enough.blocks n is);
  files = ap (λ (s : FilesState). are_held s.numbers (files_asked q)) files ∙ enough.files;
  words = λ s is. after_among geo action now.lines.items enough.words s (subst (IsAmong s) lines is);
}

pub within_after : (sizes geo : Geometry) (action : Action) (now after : Sight) → IsWithin now sizes
    → after.lines.items ≡ map (line_once_done geo action) now.lines.items → after.blocks.items ≡ map (block_once_done geo action) now.blocks.items → IsWithin after sizes
within_after sizes geo action now after within lines blocks = record {
  lines = subst (AreWithin sizes) (sym lines) (lines_within sizes geo action now.lines.items within.lines);
  blocks = subst (AreAmong sizes) (sym blocks) (blocks_among sizes geo action now.blocks.items within.blocks);
}

-- the state is ready still
keeps_led : (h : Machine) (to : Fate) → FollowsFate h to → Keeps h (led_to h to)
keeps_led h (Gives answer to) follows = follows
keeps_led h (Works answer to) follows = follows
keeps_led h (Orders order to) follows = follows
keeps_led h (Cuts to) follows = absurd follows
keeps_led h (Restarts choice) follows = absurd follows
keeps_led h Recovers follows = absurd follows

-- it comes to that state
takes_led : (h : Machine) (action : Action) (to : Fate) → FollowsFate h to → (said : Transcript) × Takes h action to said (led_to h to)
takes_led h action (Gives answer to) follows = (answered answer, (refl, refl))
takes_led h action (Works answer to) follows = (worked (spending h action) answer, (answer, refl, inl (refl, refl)))
takes_led h action (Orders order to) follows = (with_order order Done, (refl, refl))
takes_led h action (Cuts to) follows = absurd follows
takes_led h action (Restarts choice) follows = absurd follows
takes_led h action Recovers follows = absurd follows

fate_of : (h : Machine) (action : Action) → refusal h action ≡ None → fate h action ≡ (meaning action).comes h
fate_of h action allowed = ap (λ o. unless_refused h o ((meaning action).comes h)) allowed

pub ready_after : (h : Machine) (action : Action) → IsReady h → IsTrue (is_of_program action) → refusal h action ≡ None → IsReady (led_to h ((meaning action).comes h))
ready_after h action ready program allowed =
    let follows = (of_program h action program).0 in
    let next = led_to h ((meaning action).comes h) in
    let kept : Keeps h next = keeps_led h ((meaning action).comes h) follows in
    let taken = takes_led h action ((meaning action).comes h) follows in
    record {
      whole = whole-heard h (Asked action) taken.0 next ready.whole (subst (λ to. Takes h action to taken.0 next) (sym (fate_of h action allowed)) taken.1);
      mode = kept.mode ∙ ready.mode;
      settled = kept.interrupted ∙ ready.settled;
      metadata = kept.metadata ∙ ready.metadata;
      unit = kept.unit ∙ ready.unit;
      failures = kept.failures ∙ ready.failures;
    }

module _ (look : List Seen) (q : Question) (now : Sight) (h : Machine) (is : IsLook look q) (sees : Sees now h) (enough : IsEnough now q) (ready : IsReady h)
    (replies : may_be_replies h.geometry q ≡ true) (line : ℕ) (action : Action) where
  shown : (b : Bool) → shows q now ≡ b → may_show look h ≡ b
  shown b told = enough_now h look q now is sees enough replies ready.settled ∙ told

  pub found_before : shows q now ≡ true → first_stop (may_show look) (command_stops line h action) ≡ Some (record { place = Before line; state = h })
  found_before told =
      ap (λ b. cond b (Some (record { place = Before line; state = h })) (first_stop (may_show look) (map (λ m. record { place = Inside line; state = m }) (inside h action (fate h action))))) (shown true told)

  -- not before the command
  later : shows q now ≡ false
      → first_stop (may_show look) (command_stops line h action) ≡ first_stop (may_show look) (map (λ m. record { place = Inside line; state = m }) (inside h action (fate h action)))
  later told =
      ap (λ b. cond b (Some (record { place = Before line; state = h })) (first_stop (may_show look) (map (λ m. record { place = Inside line; state = m }) (inside h action (fate h action))))) (shown false told)

  -- inside a command that is refused there is no place
  pub none_refused : (why : Answer) → shows q now ≡ false → refusal h action ≡ Some why → first_stop (may_show look) (command_stops line h action) ≡ None
  none_refused why told is_refused =
      later told ∙ ap (λ o. first_stop (may_show look) (map (λ m. record { place = Inside line; state = m }) (inside h action (unless_refused h o ((meaning action).comes h))))) is_refused

  module _ (allowed : refusal h action ≡ None) (within : IsWithin now h.geometry) where
    cut_shown : (b : Bool) → shows_inside h.geometry action q now ≡ b → may_show look (while_interrupted h action) ≡ b
    cut_shown b told =
        enough_within h look q now is sees enough replies action allowed ready.whole (lines_of h now ready within) (blocks_in h now ready within) ∙ told

    by_fate : (b : Bool) → may_show look (while_interrupted h action) ≡ b → (to : Fate) → first_stop (may_show look) (map (λ m. record { place = Inside line; state = m }) (inside h action to)) ≡ None
        ⊎ (first_stop (may_show look) (map (λ m. record { place = Inside line; state = m }) (inside h action to)) ≡ cond b (Some (record { place = Inside line; state = while_interrupted h action })) None)
    by_fate b told (Gives answer to) = inl refl
    by_fate b told (Works answer to) = inr (ap (λ t. cond t (Some (record { place = Inside line; state = while_interrupted h action })) None) told)
    by_fate b told (Orders order to) = inl refl
    by_fate b told (Cuts to) = inl refl
    by_fate b told (Restarts choice) = inl refl
    by_fate b told Recovers = inl refl

    fate_is : fate h action ≡ (meaning action).comes h
    fate_is = ap (λ o. unless_refused h o ((meaning action).comes h)) allowed

    pub none_inside : shows q now ≡ false → shows_inside h.geometry action q now ≡ false → first_stop (may_show look) (command_stops line h action) ≡ None
    none_inside told inside_told =
        later told ∙ elim (by_fate false (cut_shown false inside_told) (fate h action)) [ inl none ↦ none | inr none ↦ none ]

    -- what a command changes nothing of shows inside what it shows before
    same_inside : ChangesNone h action → shows_inside h.geometry action q now ≡ shows q now
    same_inside none =
        let files = fit_inside (files_change now.files.mappings.mappings action) (files_asked q) now.files in
        ap (λ way. passes_inside way (line_may_fit q) (λ s. line_may_fit q (line_once_done h.geometry action s)) (λ (s : LineSeen). s.number / 64) now.lines.items
        && (passes_inside (blocks_way action) (block_may_fit q) (λ s. block_may_fit q (block_once_done h.geometry action s)) (λ (s : BlockSeen). s.number) now.blocks.items && files)) none.lines
        ∙ ap (λ way. list_all (line_may_fit q) now.lines.items && (passes_inside way (block_may_fit q) (λ s. block_may_fit q (block_once_done h.geometry action s)) (λ (s : BlockSeen). s.number) now.blocks.items && files)) none.blocks
        ∙ ap (λ b. list_all (line_may_fit q) now.lines.items && (list_all (block_may_fit q) now.blocks.items && b))
        (unchanged_fits (files_change now.files.mappings.mappings action) (files_asked q) now.files (ap (λ ms. left_by (files_change ms action)) sees.files.mappings ∙ none.files))

    pub found_inside : shows q now ≡ false → shows_inside h.geometry action q now ≡ true → first_stop (may_show look) (command_stops line h action) ≡ Some (record { place = Inside line; state = while_interrupted h action })
    found_inside told inside_told = later told ∙ by_kind (works_or_none h action)
      where
        by_kind : IsWork h action ⊎ ChangesNone h action → first_stop (may_show look) (map (λ m. record { place = Inside line; state = m }) (inside h action (fate h action))) ≡ Some (record { place = Inside line; state = while_interrupted h action })
        by_kind (inl work) =
            ap (λ to. first_stop (may_show look) (map (λ m. record { place = Inside line; state = m }) (inside h action to))) (fate_is ∙ work.is)
            ∙ ap (λ t. cond t (Some (record { place = Inside line; state = while_interrupted h action })) None) (cut_shown true inside_told)
        by_kind (inr none) = absurd (both_ways (shows q now) told (sym (same_inside none) ∙ inside_told))

-- what comes of one command, where the look was shown before it
pub before_explored : (look : List Seen) (q : Question) (now : Sight) (geo : Geometry) (h : Machine) (line : ℕ) (action : Action) → IsLook look q → IsEnough now q → may_be_replies geo q ≡ true
    → shows q now ≡ true → Follows now geo h → Explores line action look now geo h (Some (Before line))
before_explored look q now geo h line action is enough replies told follows = (
  record { place = Before line; state = h },
  found_before look q now h is follows.sees enough follows.ready (ap (λ sizes. may_be_replies sizes q) follows.sizes ∙ replies) line action told,
  refl,
  follows,
)

-- and where it was not
module _ (look : List Seen) (q : Question) (now after : Sight) (geo : Geometry) (h : Machine) (line : ℕ) (action : Action)
    (is : IsLook look q) (enough : IsEnough now q) (replies : may_be_replies geo q ≡ true) (told : shows q now ≡ false) (follows : Follows now geo h) where
  at_state : may_be_replies h.geometry q ≡ true
  at_state = ap (λ sizes. may_be_replies sizes q) follows.sizes ∙ replies

  of_refused : (o : Option Answer) → refusal h action ≡ o → is_none o ≡ false → Explores line action look now geo h None
  of_refused None is_refused refused = cc refused
  of_refused (Some why) is_refused refused = (
    none_refused look q now h is follows.sees enough follows.ready at_state line action why told is_refused,
    subst (Follows now geo) (sym (ap (λ o. led_to h (unless_refused h o ((meaning action).comes h))) is_refused)) follows,
  )

  pub refused_explored : is_none (refusal h action) ≡ false → Explores line action look now geo h None
  refused_explored refused = of_refused (refusal h action) refl refused

  allowed_none : (o : Option Answer) → is_none o ≡ true → o ≡ None
  allowed_none None none = refl
  allowed_none (Some why) none = cc none

  module _ (program : IsTrue (is_of_program action)) (within : IsWithin now geo) (done : is_none (refusal h action) ≡ true) where
    allowed : refusal h action ≡ None
    allowed = allowed_none (refusal h action) done

    lines_in : IsWithin now h.geometry
    lines_in = subst (IsWithin now) (sym follows.sizes) within

    cut_state : Machine
    cut_state = while_interrupted h action

    by_found : (found : Option CutPlace) → Passes h.geometry action line q now after found → Explores line action look after geo h found
    unfolding cut_state
    by_found None passes = (
      none_inside look q now h is follows.sees enough follows.ready at_state line action allowed lines_in told passes.0,
      subst (Follows after geo) (sym (ap (led_to h) (fate_of h action allowed))) (record {
        ready = ready_after h action follows.ready program allowed;
        sizes = geometry_stays h action ∙ follows.sizes;
        sees = sees_after h action now after allowed follows.ready follows.sees lines_in passes.1 passes.2 passes.3;
      }),
    )
    by_found (Some place) passes = (
      record { place = Inside line; state = cut_state },
      found_inside look q now h is follows.sees enough follows.ready at_state line action allowed lines_in told passes.0,
      sym passes.1,
      subst (λ p. IsIn line action after geo p cut_state) (sym passes.1)
          (refl, record { before = h; follows = subst (λ s. Follows s geo h) (sym passes.2) follows; done = allowed; is = refl }),
    )

    pub done_explored : (found : Option CutPlace) → Passes geo action line q now after found → Explores line action look after geo h found
    done_explored found passes = by_found found (subst (λ sizes. Passes sizes action line q now after found) (sym follows.sizes) passes)

-- what is looked at stays whole, and within the sizes
pub passes_whole : (geo : Geometry) (action : Action) (line : ℕ) (q other : Question) (now after : Sight) (found : Option CutPlace) → Passes geo action line q now after found
    → IsWhole now other → IsWhole after other
passes_whole geo action line q other now after None passes whole = whole_after geo action other now after whole passes.1 passes.2 passes.3
passes_whole geo action line q other now after (Some place) passes whole = subst (λ s. IsWhole s other) (sym passes.2) whole

pub passes_enough : (geo : Geometry) (action : Action) (line : ℕ) (q asked : Question) (now after : Sight) (found : Option CutPlace) → Passes geo action line q now after found
    → IsEnough now asked → IsEnough after asked
passes_enough geo action line q asked now after None passes enough = enough_after geo action asked now after enough passes.1 passes.2 passes.3
passes_enough geo action line q asked now after (Some place) passes enough = subst (λ s. IsEnough s asked) (sym passes.2) enough

pub passes_within : (geo : Geometry) (action : Action) (line : ℕ) (q : Question) (now after : Sight) (found : Option CutPlace) → Passes geo action line q now after found
    → IsWithin now geo → IsWithin after geo
passes_within geo action line q now after None passes within = within_after geo geo action now after within passes.1 passes.2
passes_within geo action line q now after (Some place) passes within = subst (λ s. IsWithin s geo) (sym passes.2) within

-- what was found inside is shown there
pub passes_shown : (geo : Geometry) (action : Action) (line : ℕ) (q : Question) (now after : Sight) (found : Option CutPlace) → Passes geo action line q now after found
    → IfSome found (ShowsIn line action q after geo)
passes_shown geo action line q now after None passes = tt
passes_shown geo action line q now after (Some place) passes =
    subst (ShowsIn line action q after geo) (sym passes.1) (refl, ap (λ s. shows_inside geo action q s) passes.2 ∙ passes.0)

pub on_any : {A E : Type 0} {P : A → Type 0} {B : Type 0} (result : Result A E) → ((found : A) → P found → B) → IfOk result P → OnOk result B
on_any (Ok found) to is = to found is
on_any (Err e) to is = tt

-- of what was found, where something was
pub on_found : {A E : Type 0} {P Q : A → Type 0} (result : Result A E) → ((found : A) → P found → Q found) → IfOk result P → IfOk result Q
on_found (Ok found) to is = to found is
on_found (Err e) to is = tt
