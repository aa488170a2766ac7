-- A cut that may leave what a question asks may leave it of all that is looked at, more than the question does.
use Rattle.std.proofs.Common.{◌≡◌, ◌⊎◌, inl, inr, ℕ, ◌*◌, ◌/◌, ◌<◌, ◌&&◌, ◌==◌, not, true, false, Bool, Option, Some, None, List, [], ◌∷◌, length, refl, sym, ap, subst, ◌∙◌}
use Rattle.std.specs.List.{list_all}
use Rattle.std.specs.Option.{option_and_then}
use Rattle.std.proofs.lemmas.Bool.{and_parts}
use Rattle.word_tables.specs.declared.geometry.Geometry.{Geometry}
use Rattle.nvm_model.specs.Blocks.{nth}
use Rattle.nvm_model.specs.Cell.{Cell}
use Rattle.nvm_model.specs.Page.{cell_of}
use Rattle.block_sights.specs.Sights.{Sight as Look, sight}
use Rattle.script_text.specs.Action.{Action}
use Rattle.cut_places.specs.MachineModel.Machine.{Machine}
use Rattle.cut_places.specs.MachineModel.Commands.{while_interrupted}
use Rattle.cut_places.specs.Outcomes.Blocks.{all_numbers_read, block_fits, is_block_reply}
use Rattle.cut_places.specs.Outcomes.Left.{blocks_may_pass, files_may_pass, volume_may_pass}
use Rattle.cut_places.specs.Outcomes.Pages.{all_lines_read, is_reply, line_fits}
use Rattle.cut_places.specs.Outcomes.Seen.{Seen, block_reads, blocks_may_show, file_reads, files_may_show, may_show, volume_may_show, volume_reads}
use Rattle.cut_places.specs.AskedReads.declared.question.Question.{Question}
use Rattle.cut_places.specs.AskedReads.Asking.{IsLook, blocks_of, files_asked, volume_asked}
use Rattle.cut_places.specs.AskedReads.Fitting.{cell_fits, sight_fits}
use Rattle.cut_places.specs.SightsSeen.declared.line_seen.LineSeen.{LineSeen}
use Rattle.cut_places.specs.SightsSeen.declared.block_seen.BlockSeen.{BlockSeen}
use Rattle.cut_places.specs.SightsSeen.Seeing.{seen}
use Rattle.cut_places.specs.SightsSeen.Units.{AreBlocks, AreLines, block_may_fit, block_numbers, line_may_fit, line_numbers}
use Rattle.cut_places.specs.SightsSeen.Ways.{blocks_way, lines_way, passes_inside}
use Rattle.cut_places.specs.SightsSeen.declared.way.Way.{Way}
use Rattle.cut_places.specs.FileLeaving.{fit_there}
use Rattle.cut_places.specs.SeesFiles.{are_held}
use Rattle.cut_places.specs.declared.sight.Sight.{Sight}
use Rattle.cut_places.specs.Following.{Follows}
use Rattle.cut_places.proofs.InsideLemmas.{command_inside, now_same}
use Rattle.cut_places.proofs.SightsSeen.InsideLemmas.{AreThere, HaveLine, blocks_inside, volume_inside}
use Rattle.cut_places.proofs.SightsSeen.PassLemmas.{EachUnit, all_same}
use Rattle.cut_places.proofs.SightsSeen.ShowLemmas.{blocks_now, lines_now}
use Rattle.cut_places.proofs.StepLemmas.{blocks_in, lines_of}
use Rattle.witnesses.specs.Blocks.{block_made}
use Rattle.witnesses.specs.Keeping.{HasEach, LooksThere}
use Rattle.witnesses.specs.Leaving.{mixing}
use Rattle.witnesses.specs.Lines.{line_made}
use Rattle.witnesses.specs.Places.{IsReached, shows_at, state_at}
use Rattle.cut_places.proofs.AsideLemmas.{block_aside, line_aside}
use Rattle.cut_places.proofs.CoverLemmas.{IsLike, covered}
use Rattle.witnesses.proofs.HeldPlaceLemmas.{asked_held}
use Rattle.witnesses.proofs.ListLemmas.{IsAmong, among_numbers, among_or_not, some_of}
use Rattle.witnesses.proofs.UnitLemmas.{block_of, block_same, change_at, from_parts, geometry_at, line_of, line_same}

-- what holds of each of some units
each_unit : {A : Type 0} (P : A → Type 0) (units : List A) → ((u : A) → IsAmong u units → P u) → EachUnit P units
each_unit P [] each = tt
each_unit P (u ∷ units) each = (each u (inl refl), each_unit P units (λ v is. each v (inr is)))

unit_of : {A : Type 0} (P : A → Type 0) (units : List A) (u : A) → EachUnit P units → IsAmong u units → P u
unit_of P [] u each is = absurd is
unit_of P (v ∷ units) u each (inl same) = subst P (sym same) each.0
unit_of P (v ∷ units) u each (inr later) = unit_of P units u each.1 later

are_lines : (f : ℕ → Cell) (lines : List LineSeen) → ((s : LineSeen) → IsAmong s lines → s.line ≡ f s.number) → AreLines f lines
are_lines f [] each = tt
are_lines f (s ∷ lines) each = (each s (inl refl), are_lines f lines (λ t is. each t (inr is)))

are_blocks : (f : ℕ → Look) (units : List BlockSeen) → ((s : BlockSeen) → IsAmong s units → s.block ≡ f s.number) → AreBlocks f units
are_blocks f [] each = tt
are_blocks f (s ∷ units) each = (each s (inl refl), are_blocks f units (λ t is. each t (inr is)))

module _ (h : Machine) (look : List Seen) (q looked : Question) (inside : Option Action) (now : Sight) (follows : Follows now h.geometry h) (is : IsLook look q)
    (there : LooksThere h.geometry inside q looked now) (reached : IsReached h inside) (shown : may_show look (state_at h inside) ≡ true) where
  abbrev off : Machine
  off = state_at h inside

  abbrev lines : List LineSeen
  lines = now.lines.items

  abbrev units : List BlockSeen
  units = now.blocks.items

  shown_parts : (volume_may_show off (volume_reads look) ≡ true) × (blocks_may_show off (block_reads look) ≡ true) × (files_may_show off (file_reads look) ≡ true)
  shown_parts =
      let first = and_parts (volume_may_show off (volume_reads look)) (blocks_may_show off (block_reads look) && files_may_show off (file_reads look)) shown in
      let rest = and_parts (blocks_may_show off (block_reads look)) (files_may_show off (file_reads look)) first.1 in
      (first.0, rest.0, rest.1)

  volume_parts : (list_all (is_reply (4096 * off.geometry.vpages)) (volume_asked q) ≡ true)
      × (volume_may_pass off.geometry off.interrupted (line_fits (volume_asked q)) off.volume (all_lines_read (volume_asked q)) ≡ true)
  volume_parts = and_parts _ _ (sym (ap (volume_may_show off) is.volume) ∙ shown_parts.0)

  blocks_parts : (list_all (is_block_reply off.geometry.blocks) (blocks_of q) ≡ true) × (blocks_may_pass off.interrupted (block_fits (blocks_of q)) off.blocks (all_numbers_read (blocks_of q)) ≡ true)
  blocks_parts = and_parts _ _ (sym (ap (blocks_may_show off) is.blocks) ∙ shown_parts.1)

  -- each reply is one that a read has
  pub replies : list_all (is_reply (4096 * h.geometry.vpages)) (volume_asked q) ≡ true
  replies = sym (ap (λ (g : Geometry). list_all (is_reply (4096 * g.vpages)) (volume_asked q)) (geometry_at h inside)) ∙ volume_parts.0

  pub block_replies : list_all (is_block_reply h.geometry.blocks) (blocks_of q) ≡ true
  block_replies = sym (ap (λ (g : Geometry). list_all (is_block_reply g.blocks) (blocks_of q)) (geometry_at h inside)) ∙ blocks_parts.0

  -- the lines of which the question asks, one of those that are looked at for each
  pub lines_among : (n : ℕ) → IsAmong n (all_lines_read (volume_asked q)) → IsAmong n (line_numbers lines)
  lines_among n among = subst (IsAmong n) (sym there.whole.lines) (there.covers.lines n among)

  pub blocks_among : (n : ℕ) → IsAmong n (all_numbers_read (blocks_of q)) → IsAmong n (block_numbers units)
  blocks_among n among = subst (IsAmong n) (sym there.whole.blocks) (there.covers.blocks n among)

  asked_lines : (some : List LineSeen) × (line_numbers some ≡ all_lines_read (volume_asked q)) × ((s : LineSeen) → IsAmong s some → IsAmong s lines)
  asked_lines = some_of (λ (s : LineSeen). s.number) lines (all_lines_read (volume_asked q)) lines_among

  asked_units : (some : List BlockSeen) × (block_numbers some ≡ all_numbers_read (blocks_of q)) × ((s : BlockSeen) → IsAmong s some → IsAmong s units)
  asked_units = some_of (λ (s : BlockSeen). s.number) units (all_numbers_read (blocks_of q)) blocks_among

  abbrev some_lines : List LineSeen
  some_lines = asked_lines.0

  abbrev some_units : List BlockSeen
  some_units = asked_units.0

  line_is : (s : LineSeen) → IsAmong s lines → s.line ≡ seen h.volume s.number
  line_is s among = line_of (seen h.volume) lines s follows.sees.lines among

  block_is : (s : BlockSeen) → IsAmong s units → s.block ≡ sight (nth h.blocks s.number)
  block_is s among = block_of (λ b. sight (nth h.blocks b)) units s follows.sees.blocks among

  some_are : AreLines (seen h.volume) some_lines
  some_are = are_lines (seen h.volume) some_lines (λ s among. line_is s (asked_lines.2 s among))

  units_are : AreBlocks (λ b. sight (nth h.blocks b)) some_units
  units_are = are_blocks (λ b. sight (nth h.blocks b)) some_units (λ s among. block_is s (asked_units.2 s among))

  some_have : HaveLine h.volume some_lines
  some_have =
      each_unit (λ (s : LineSeen). s.number / 64 < length h.volume) some_lines
      (λ s among. unit_of (λ (t : LineSeen). t.number / 64 < length h.volume) lines s (lines_of h now follows.ready there.within) (asked_lines.2 s among))

  units_there : AreThere h.blocks some_units
  units_there =
      each_unit (λ (s : BlockSeen). s.number < length h.blocks) some_units
      (λ s among. unit_of (λ (t : BlockSeen). t.number < length h.blocks) units s (blocks_in h now follows.ready there.within) (asked_units.2 s among))

  -- those of which it asks pass
  some_pass : passes_inside (option_and_then lines_way inside) (line_may_fit q) (λ s. line_may_fit q (line_made h.geometry inside s)) (λ (s : LineSeen). s.number / 64) some_lines ≡ true
  some_pass = by_place inside refl reached
    where
      by_place : (o : Option Action) → inside ≡ o → IsReached h o
          → passes_inside (option_and_then lines_way o) (line_may_fit q) (λ s. line_may_fit q (line_made h.geometry o s)) (λ (s : LineSeen). s.number / 64) some_lines ≡ true
      by_place None at can =
          sym (all_same (λ (s : LineSeen). s.number) (λ n. line_fits (volume_asked q) n (cell_of h.volume n)) (line_may_fit q) some_lines (lines_now q h.volume some_lines some_are))
          ∙ ap (λ ns. list_all (λ n. line_fits (volume_asked q) n (cell_of h.volume n)) ns) asked_lines.1
          ∙ sym (ap (λ o. volume_may_pass h.geometry o (line_fits (volume_asked q)) h.volume (all_lines_read (volume_asked q))) follows.ready.settled)
          ∙ subst (λ o. volume_may_pass (state_at h o).geometry (state_at h o).interrupted (line_fits (volume_asked q)) (state_at h o).volume (all_lines_read (volume_asked q)) ≡ true) at volume_parts.1
      by_place (Some action) at can =
          sym (volume_inside h q some_lines some_are follows.ready.whole.lines some_have action can)
          ∙ ap (λ ns. volume_may_pass h.geometry (Some action) (line_fits (volume_asked q)) h.volume ns) asked_lines.1
          ∙ subst (λ o. volume_may_pass (state_at h o).geometry (state_at h o).interrupted (line_fits (volume_asked q)) (state_at h o).volume (all_lines_read (volume_asked q)) ≡ true) at volume_parts.1

  units_pass : passes_inside (option_and_then blocks_way inside) (block_may_fit q) (λ s. block_may_fit q (block_made h.geometry inside s)) (λ (s : BlockSeen). s.number) some_units ≡ true
  units_pass = by_place inside refl reached
    where
      by_place : (o : Option Action) → inside ≡ o → IsReached h o
          → passes_inside (option_and_then blocks_way o) (block_may_fit q) (λ s. block_may_fit q (block_made h.geometry o s)) (λ (s : BlockSeen). s.number) some_units ≡ true
      by_place None at can =
          sym (all_same (λ (s : BlockSeen). s.number) (λ n. block_fits (blocks_of q) n (nth h.blocks n)) (block_may_fit q) some_units (blocks_now q h.blocks some_units units_are))
          ∙ ap (λ ns. list_all (λ n. block_fits (blocks_of q) n (nth h.blocks n)) ns) asked_units.1
          ∙ sym (ap (λ o. blocks_may_pass o (block_fits (blocks_of q)) h.blocks (all_numbers_read (blocks_of q))) follows.ready.settled)
          ∙ subst (λ o. blocks_may_pass (state_at h o).interrupted (block_fits (blocks_of q)) (state_at h o).blocks (all_numbers_read (blocks_of q)) ≡ true) at blocks_parts.1
      by_place (Some action) at can =
          sym (blocks_inside h q some_units units_are follows.ready.whole.eight units_there action can)
          ∙ ap (λ ns. blocks_may_pass (Some action) (block_fits (blocks_of q)) h.blocks ns) asked_units.1
          ∙ subst (λ o. blocks_may_pass (state_at h o).interrupted (block_fits (blocks_of q)) (state_at h o).blocks (all_numbers_read (blocks_of q)) ≡ true) at blocks_parts.1

  -- and so do all
  abbrev made_fits : LineSeen → Bool
  made_fits s = line_may_fit q (line_made h.geometry (mixing (option_and_then lines_way inside) inside) s)

  line_like : (s : LineSeen) → IsAmong s lines → IsLike (line_may_fit q) made_fits (λ (t : LineSeen). t.number / 64) some_lines s
  line_like s among = by_asked (among_or_not s.number (all_lines_read (volume_asked q)))
    where
      like : (t : LineSeen) → IsAmong t some_lines → t.number ≡ s.number → IsLike (line_may_fit q) made_fits (λ (t : LineSeen). t.number / 64) some_lines s
      like t one number =
          let line : t.line ≡ s.line = line_is t (asked_lines.2 t one) ∙ ap (seen h.volume) number ∙ sym (line_is s among) in
          let mixed = mixing (option_and_then lines_way inside) inside in
          inl (
            t,
            one,
            ap (λ n. cell_fits (volume_asked q) n t.line) number ∙ ap (cell_fits (volume_asked q) s.number) line,
            made_like mixed t number line,
            ap (λ n. n / 64) number,
          )
        where
          made_like : (o : Option Action) (t : LineSeen) → t.number ≡ s.number → t.line ≡ s.line → line_may_fit q (line_made h.geometry o t) ≡ line_may_fit q (line_made h.geometry o s)
          made_like None t number line = ap (λ n. cell_fits (volume_asked q) n t.line) number ∙ ap (cell_fits (volume_asked q) s.number) line
          made_like (Some action) t number line =
              ap (λ n. cell_fits (volume_asked q) n (line_made h.geometry (Some action) t).line) number
              ∙ ap (cell_fits (volume_asked q) s.number) (line_same h.geometry (Some action) false t s number line)

      aside : (o : Option Action) → HasEach (line_made h.geometry o s).line → list_all (λ m. not (m == s.number)) (all_lines_read (volume_asked q)) ≡ true → line_may_fit q (line_made h.geometry o s) ≡ true
      aside None has out = line_aside s.number (4096 * h.geometry.vpages) (volume_asked q) replies out s.line has
      aside (Some action) has out = line_aside s.number (4096 * h.geometry.vpages) (volume_asked q) replies out (line_made h.geometry (Some action) s).line has

      by_asked : IsAmong s.number (all_lines_read (volume_asked q)) ⊎ (list_all (λ m. not (m == s.number)) (all_lines_read (volume_asked q)) ≡ true)
          → IsLike (line_may_fit q) made_fits (λ (t : LineSeen). t.number / 64) some_lines s
      by_asked (inl asked) =
          let one = among_numbers (λ (t : LineSeen). t.number) s.number some_lines (subst (IsAmong s.number) (sym asked_lines.1) asked) in like one.0 one.1 one.2
      by_asked (inr out) =
          let has = there.words s among in
          inr (aside None has.0 out, aside (mixing (option_and_then lines_way inside) inside) has.1 out)

  unit_like : (s : BlockSeen) → IsAmong s units → IsLike (block_may_fit q) (λ t. block_may_fit q (block_made h.geometry inside t)) (λ (t : BlockSeen). t.number) some_units s
  unit_like s among = by_asked (among_or_not s.number (all_numbers_read (blocks_of q)))
    where
      like : (t : BlockSeen) → IsAmong t some_units → t.number ≡ s.number → IsLike (block_may_fit q) (λ t. block_may_fit q (block_made h.geometry inside t)) (λ (t : BlockSeen). t.number) some_units s
      like t one number =
          let block : t.block ≡ s.block = block_is t (asked_units.2 t one) ∙ ap (λ b. sight (nth h.blocks b)) number ∙ sym (block_is s among) in
          inl (
            t,
            one,
            ap (λ n. sight_fits (blocks_of q) n t.block) number ∙ ap (sight_fits (blocks_of q) s.number) block,
            made_like inside number block,
            number,
          )
        where
          made_like : (o : Option Action) → t.number ≡ s.number → t.block ≡ s.block → block_may_fit q (block_made h.geometry o t) ≡ block_may_fit q (block_made h.geometry o s)
          made_like None number block = ap (λ n. sight_fits (blocks_of q) n t.block) number ∙ ap (sight_fits (blocks_of q) s.number) block
          made_like (Some action) number block =
              ap (λ n. sight_fits (blocks_of q) n (block_made h.geometry (Some action) t).block) number
              ∙ ap (sight_fits (blocks_of q) s.number) (block_same h.geometry (Some action) false t s number block)

      aside : (o : Option Action) → list_all (λ m. not (m == s.number)) (all_numbers_read (blocks_of q)) ≡ true → block_may_fit q (block_made h.geometry o s) ≡ true
      aside None out = block_aside s.number (blocks_of q) out s.block
      aside (Some action) out = block_aside s.number (blocks_of q) out (block_made h.geometry (Some action) s).block

      by_asked : IsAmong s.number (all_numbers_read (blocks_of q)) ⊎ (list_all (λ m. not (m == s.number)) (all_numbers_read (blocks_of q)) ≡ true)
          → IsLike (block_may_fit q) (λ t. block_may_fit q (block_made h.geometry inside t)) (λ (t : BlockSeen). t.number) some_units s
      by_asked (inl asked) =
          let one = among_numbers (λ (t : BlockSeen). t.number) s.number some_units (subst (IsAmong s.number) (sym asked_units.1) asked) in like one.0 one.1 one.2
      by_asked (inr out) = inr (aside None out, aside inside out)

  -- where no line is mixed, it makes no difference what the command makes of it
  unmixed : (o : Option Way) → passes_inside o (line_may_fit q) (λ s. line_may_fit q (line_made h.geometry (mixing o inside) s)) (λ (s : LineSeen). s.number / 64) lines
      ≡ passes_inside o (line_may_fit q) (λ s. line_may_fit q (line_made h.geometry inside s)) (λ (s : LineSeen). s.number / 64) lines
  unmixed None = refl
  unmixed (Some way) = refl

  unmixed_some : (o : Option Way) → passes_inside o (line_may_fit q) (λ s. line_may_fit q (line_made h.geometry inside s)) (λ (s : LineSeen). s.number / 64) some_lines
      ≡ passes_inside o (line_may_fit q) (λ s. line_may_fit q (line_made h.geometry (mixing o inside) s)) (λ (s : LineSeen). s.number / 64) some_lines
  unmixed_some None = refl
  unmixed_some (Some way) = refl

  held : are_held now.files.numbers (files_asked q) ≡ true
  held = asked_held now.files.numbers (files_asked q) (files_asked looked) there.covers.files there.whole.files

  files_fit : fit_there (change_at inside now) (files_asked q) now.files ≡ true
  files_fit = by_place inside refl reached
    where
      by_place : (o : Option Action) → inside ≡ o → IsReached h o → fit_there (change_at o now) (files_asked q) now.files ≡ true
      by_place None at can =
          sym (now_same (files_asked q) now.files.numbers now.files.files h.files follows.sees.files.files held)
          ∙ sym (ap (λ o. files_may_pass h.mappings o (files_asked q) h.files) follows.ready.settled)
          ∙ sym (ap (files_may_show h) is.files) ∙ subst (λ o. files_may_show (state_at h o) (file_reads look) ≡ true) at shown_parts.2
      by_place (Some action) at can =
          command_inside (files_asked q) now.files h action follows.sees.files follows.ready.whole held can
          ∙ sym (ap (files_may_show (while_interrupted h action)) is.files) ∙ subst (λ o. files_may_show (state_at h o) (file_reads look) ≡ true) at shown_parts.2

  pub shows_all : shows_at h.geometry inside q now ≡ true
  shows_all =
      let way = option_and_then lines_way inside in
      from_parts h.geometry inside q now
      (sym (unmixed way) ∙ covered (line_may_fit q) made_fits (λ (s : LineSeen). s.number / 64) some_lines lines line_like way (sym (unmixed_some way) ∙ some_pass))
      (covered (block_may_fit q) (λ s. block_may_fit q (block_made h.geometry inside s)) (λ (s : BlockSeen). s.number) some_units units unit_like (option_and_then blocks_way inside) units_pass)
      files_fit
