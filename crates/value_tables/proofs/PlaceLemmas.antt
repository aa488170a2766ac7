-- The places of one command are printed.
use Rattle.std.proofs.Common.{◌≡◌, inl, inr, ℕ, true, false, IsTrue, Option, Some, None, List, [], ◌∷◌, ◌++◌, map, refl, sym, ap, subst, ◌∙◌, append_assoc}
use Rattle.std.specs.List.{list_all}
use Rattle.std.specs.Option.{is_none}
use Rattle.std.proofs.lemmas.List.{append-nil}
use Rattle.word_tables.specs.declared.geometry.Geometry.{Geometry}
use Rattle.cut_places.specs.FileChanges.{left_by}
use Rattle.cut_places.specs.FileCommands.{files_change}
use Rattle.cut_places.specs.SeesFiles.{is_held}
use Rattle.cut_places.specs.FilesState.{FilesState}
use Rattle.reply_text.specs.Answer.{Answer}
use Rattle.script_text.specs.Action.{Action}
use Rattle.cut_places.specs.MachineModel.Machine.{Machine, Fate}
use Rattle.cut_places.specs.MachineModel.Machine.Fate.{Gives, Works, Orders, Cuts, Restarts, Recovers}
use Rattle.cut_places.specs.MachineModel.Commands.{fate, meaning, refusal, unless_refused, while_interrupted}
use Rattle.cut_places.specs.Outcomes.Stops.{inside, is_of_program, led_to}
use Rattle.cut_places.specs.AskedReads.declared.read.Read.{Read}
use Rattle.cut_places.specs.SightsSeen.declared.line_seen.LineSeen.{LineSeen}
use Rattle.cut_places.specs.SightsSeen.declared.block_seen.BlockSeen.{BlockSeen}
use Rattle.cut_places.specs.declared.place.CutPlace.{CutPlace}
use Rattle.cut_places.specs.declared.place.CutPlace.TheVariants.{Before, Inside}
use Rattle.cut_places.specs.declared.sight.Sight.{Sight}
use Rattle.cut_places.specs.Following.{Follows, IsWithin}
use Rattle.cut_places.specs.Places.{Stop}
use Rattle.cut_places.specs.Sights.{files_once_done}
use Rattle.cut_places.specs.SightsSeen.Units.{block_numbers, block_once_done, line_numbers, line_once_done}
use Rattle.cut_places.specs.SightsSeen.Ways.{blocks_way, lines_way}
use Rattle.cut_places.proofs.SightsSeen.SizeLemmas.{geometry_stays}
use Rattle.cut_places.proofs.StepLemmas.{blocks_in, lines_of, ready_after, sees_after}
use Rattle.cut_places.proofs.WorkLemmas.{ChangesNone, works_or_none}
use Rattle.value_tables.specs.declared.table.Table.{Table}
use Rattle.value_tables.specs.Left.{Found, found}
use Rattle.value_tables.specs.Looking.{IsOf, file_lines_looked_at}
use Rattle.value_tables.specs.Rows.{rows_at, rows_text}
use Rattle.value_tables.specs.Sides.{AreBlocksLeft, AreFilesLeft, AreLeft, texts, where_files_mixed, where_mixed}
use Rattle.value_tables.specs.Tables.{changed, part, table_from}
use Rattle.value_tables.specs.Walking.{Prints, with_places}
use Rattle.value_tables.proofs.ChangedLemmas.{none_changed}
use Rattle.value_tables.proofs.FileSideLemmas.{files_cut, files_rest}
use Rattle.value_tables.proofs.SideLemmas.{blocks_cut, blocks_rest, lines_cut, lines_rest}

-- a table after the rows of a place
pub record Printed (place : CutPlace) (rows : List (List ℕ)) (old new : Table) : Type 0 where
  pub text : new.text.items ≡ old.text.items ++ part place (changed (texts old.last.items) rows)
  pub last : texts new.last.items ≡ rows

-- they are those of the state there
pub place_printed : (look : List Read) (place : CutPlace) (state : Machine) (old new : Table) (rows : List (List ℕ)) → Printed place rows old new → rows ≡ rows_at look state
    → (later : List Stop) → with_places look old (record { place = place; state = state } ∷ later) ≡ with_places look new later
place_printed look place state old new rows printed is later =
    let of : rows_at look state ≡ rows = sym is in
    ap (λ r. old.text.items ++ (part place (changed (texts old.last.items) r) ++ table_from r look later)) of
    ∙ sym (append_assoc old.text.items (part place (changed (texts old.last.items) rows)) (table_from rows look later))
    ∙ ap (λ t. t ++ table_from rows look later) (sym printed.text)
    ∙ ap (λ r. new.text.items ++ table_from r look later) (sym printed.last)

-- rows that are as before leave the table as it is
pub nothing_printed : (look : List Read) (place : CutPlace) (old new : Table) (rows : List (List ℕ)) → Printed place rows old new → rows ≡ texts old.last.items
    → (later : List Stop) → with_places look old later ≡ with_places look new later
nothing_printed look place old new rows printed same later =
    ap (λ t. t ++ table_from (texts old.last.items) look later)
    (sym (printed.text ∙ ap (λ r. old.text.items ++ part place (changed (texts old.last.items) r)) same ∙ ap (λ c. old.text.items ++ part place c) (none_changed (texts old.last.items))
    ∙ append-nil old.text.items))
    ∙ ap (λ r. new.text.items ++ table_from r look later) (sym (printed.last ∙ same))

-- the same lines and blocks are looked at
lines_stay : (geo : Geometry) (action : Action) (lines : List LineSeen) → line_numbers (map (line_once_done geo action) lines) ≡ line_numbers lines
lines_stay geo action [] = refl
lines_stay geo action (s ∷ lines) = ap (λ ns. s.number ∷ ns) (lines_stay geo action lines)

blocks_stay : (geo : Geometry) (action : Action) (blocks : List BlockSeen) → block_numbers (map (block_once_done geo action) blocks) ≡ block_numbers blocks
blocks_stay geo action [] = refl
blocks_stay geo action (s ∷ blocks) = ap (λ ns. s.number ∷ ns) (blocks_stay geo action blocks)

pub of_after : (sizes geo : Geometry) (action : Action) (look : List Read) (now after : Sight) → IsOf now sizes look
    → after.lines.items ≡ map (line_once_done geo action) now.lines.items → after.blocks.items ≡ map (block_once_done geo action) now.blocks.items
    → after.files ≡ files_once_done action now.files → IsOf after sizes look
of_after sizes geo action look now after of lines blocks files = record {
  lines = ap line_numbers lines ∙ lines_stay geo action now.lines.items ∙ of.lines;
  blocks = ap block_numbers blocks ∙ blocks_stay geo action now.blocks.items ∙ of.blocks;
  files = ap (λ (s : FilesState). list_all (is_held s.numbers) (file_lines_looked_at sizes look)) files ∙ of.files;
}

module _ (look : List Read) (geo : Geometry) (now : Sight) (h : Machine) (follows : Follows now geo h) where
  -- the rows before a command
  pub at_rest : (rows : List (List ℕ))
      → ((may : Found) → AreLeft may.lines now.lines.items [] → AreBlocksLeft may.blocks now.blocks.items [] → AreFilesLeft may.files now.files None → rows ≡ rows_text may 1 geo look) → rows ≡ rows_at look h
  at_rest rows are =
      are (found h) (lines_rest h follows.ready.settled now.lines.items follows.sees.lines) (blocks_rest h follows.ready.settled now.blocks.items follows.sees.blocks)
      (files_rest h now.files follows.sees.files follows.ready.settled)
      ∙ ap (λ sizes. rows_text (found h) 1 sizes look) (sym follows.sizes)

  module _ (line : ℕ) (action : Action) where
    -- a command that is refused
    pub refused_printed : (old new : Table) (rows : List (List ℕ)) → is_none (refusal h action) ≡ false → Printed (Before line) rows old new → rows ≡ rows_at look h
        → Prints look geo line action h old new now
    refused_printed old new rows refused printed is = by_refusal (refusal h action) refl refused
      where
        by_refusal : (o : Option Answer) → refusal h action ≡ o → is_none o ≡ false → Prints look geo line action h old new now
        by_refusal None is_refused none = cc none
        by_refusal (Some why) is_refused none = record {
          follows = subst (Follows now geo) (sym (ap (λ o. led_to h (unless_refused h o ((meaning action).comes h))) is_refused)) follows;
          text = λ later.
              ap (λ o. with_places look old (record { place = Before line; state = h } ∷ map (λ m. record { place = Inside line; state = m }) (inside h action (unless_refused h o ((meaning action).comes h))) ++ later)) is_refused
              ∙ place_printed look (Before line) h old new rows printed is later;
        }

    module _ (done : is_none (refusal h action) ≡ true) (within : IsWithin now geo) (after : Sight)
        (lines_after : after.lines.items ≡ map (line_once_done geo action) now.lines.items) (blocks_after : after.blocks.items ≡ map (block_once_done geo action) now.blocks.items)
        (files_after : after.files ≡ files_once_done action now.files)
        (rows : List (List ℕ))
        (are : (may : Found) → AreLeft may.lines now.lines.items (where_mixed (lines_way action) after.lines.items)
        → AreBlocksLeft may.blocks now.blocks.items (where_mixed (blocks_way action) after.blocks.items)
        → AreFilesLeft may.files now.files (where_files_mixed (left_by (files_change now.files.mappings.mappings action)) after.files) → rows ≡ rows_text may 1 geo look) where
      allowed_none : (o : Option Answer) → is_none o ≡ true → o ≡ None
      allowed_none None none = refl
      allowed_none (Some why) none = cc none

      allowed : refusal h action ≡ None
      allowed = allowed_none (refusal h action) done

      fate_is : fate h action ≡ (meaning action).comes h
      fate_is = ap (λ o. unless_refused h o ((meaning action).comes h)) allowed

      inside_sizes : IsWithin now h.geometry
      inside_sizes = subst (IsWithin now) (sym follows.sizes) within

      lines_made : after.lines.items ≡ map (line_once_done h.geometry action) now.lines.items
      lines_made = lines_after ∙ ap (λ sizes. map (line_once_done sizes action) now.lines.items) (sym follows.sizes)

      blocks_made : after.blocks.items ≡ map (block_once_done h.geometry action) now.blocks.items
      blocks_made = blocks_after ∙ ap (λ sizes. map (block_once_done sizes action) now.blocks.items) (sym follows.sizes)

      -- the rows inside it
      rows_cut : rows ≡ rows_at look (while_interrupted h action)
      rows_cut =
          are (found (while_interrupted h action))
          (subst (λ new. AreLeft (found (while_interrupted h action)).lines now.lines.items (where_mixed (lines_way action) new)) (sym lines_made)
          (lines_cut h action now.lines.items allowed follows.ready.whole.lines follows.sees.lines (lines_of h now follows.ready inside_sizes)))
          (subst (λ new. AreBlocksLeft (found (while_interrupted h action)).blocks now.blocks.items (where_mixed (blocks_way action) new)) (sym blocks_made)
          (blocks_cut h action now.blocks.items allowed follows.ready.whole.eight follows.sees.blocks (blocks_in h now follows.ready inside_sizes)))
          (files_cut h now.files follows.sees.files action allowed follows.ready.whole after.files files_after)
          ∙ ap (λ sizes. rows_text (found (while_interrupted h action)) 1 sizes look) (sym follows.sizes)

      -- are those before it, where it is no work
      rows_quiet : ChangesNone h action → rows ≡ rows_at look h
      rows_quiet none =
          are (found h)
          (subst (λ way. AreLeft (found h).lines now.lines.items (where_mixed way after.lines.items)) (sym none.lines) (lines_rest h follows.ready.settled now.lines.items follows.sees.lines))
          (subst (λ way. AreBlocksLeft (found h).blocks now.blocks.items (where_mixed way after.blocks.items)) (sym none.blocks) (blocks_rest h follows.ready.settled now.blocks.items follows.sees.blocks))
          (subst (λ left. AreFilesLeft (found h).files now.files (where_files_mixed left after.files))
          (sym (ap (λ ms. left_by (files_change ms action)) follows.sees.files.mappings ∙ none.files)) (files_rest h now.files follows.sees.files follows.ready.settled))
          ∙ ap (λ sizes. rows_text (found h) 1 sizes look) (sym follows.sizes)

      module _ (old mid new : Table) (before : List (List ℕ)) (first : Printed (Before line) before old mid) (is : before ≡ rows_at look h) (second : Printed (Inside line) rows mid new) where
        quiet : (to : Fate) → (meaning action).comes h ≡ to → ((answer : Answer) (next : Machine) → to ≡ Works answer next → ⊥) → (later : List Stop) → with_places look mid later ≡ with_places look new later
        quiet to comes other later = elim (works_or_none h action) as (λ _. with_places look mid later ≡ with_places look new later) [
          | inl work ↦ absurd (other work.answer work.to (sym comes ∙ work.is))
          | inr none ↦ nothing_printed look (Inside line) mid new rows second (rows_quiet none ∙ sym is ∙ sym first.last) later
        ]

        by_fate : (to : Fate) → (meaning action).comes h ≡ to → (later : List Stop)
            → with_places look mid (map (λ m. record { place = Inside line; state = m }) (inside h action to) ++ later) ≡ with_places look new later
        by_fate (Gives answer to) comes later = quiet (Gives answer to) comes (λ a n e. cc e) later
        by_fate (Works answer to) comes later = place_printed look (Inside line) (while_interrupted h action) mid new rows second rows_cut later
        by_fate (Orders order to) comes later = quiet (Orders order to) comes (λ a n e. cc e) later
        by_fate (Cuts to) comes later = quiet (Cuts to) comes (λ a n e. cc e) later
        by_fate (Restarts choice) comes later = quiet (Restarts choice) comes (λ a n e. cc e) later
        by_fate Recovers comes later = quiet Recovers comes (λ a n e. cc e) later

        pub done_printed : IsTrue (is_of_program action) → Prints look geo line action h old new after
        done_printed program = record {
          follows = subst (Follows after geo) (sym (ap (led_to h) fate_is)) (record {
            ready = ready_after h action follows.ready program allowed;
            sizes = geometry_stays h action ∙ follows.sizes;
            sees = sees_after h action now after allowed follows.ready follows.sees inside_sizes lines_made blocks_made files_after;
          });
          text = λ later.
              place_printed look (Before line) h old mid before first is (map (λ m. record { place = Inside line; state = m }) (inside h action (fate h action)) ++ later)
              ∙ ap (λ to. with_places look mid (map (λ m. record { place = Inside line; state = m }) (inside h action to) ++ later)) fate_is
              ∙ by_fate ((meaning action).comes h) refl later;
        }
