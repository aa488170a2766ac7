-- What may be shown of the volume is left by some cut and restart.
use Rattle.std.proofs.Common.{◌≡◌, inl, inr, ℕ, ◌*◌, Bool, true, false, Option, Some, None, option_map, List, [], ◌∷◌, length, map, refl, sym, ap, subst, ◌∙◌}
use Rattle.std.specs.List.{list_all}
use Rattle.std.proofs.lemmas.Bool.{and_parts}
use Rattle.word_tables.specs.declared.geometry.Geometry.{Geometry}
use Rattle.nvm_model.specs.Blocks.{first_there}
use Rattle.nvm_model.specs.Cell.Cell.{Kept}
use Rattle.nvm_model.specs.Page.{Page, cell_of, first_bad_line}
use Rattle.nvm_model.specs.Storage.{Block, File}
use Rattle.pm_volume.specs.Refusals.{poisoned_at}
use Rattle.reply_text.specs.Answer.Answer.{PoisonVolume, Refused}
use Rattle.reply_text.specs.declared.reply.Why.{Why}
use Rattle.script_text.specs.Action.Action.{VLoad}
use Rattle.machine_model.specs.Machine.{Machine}
use Rattle.machine_model.specs.Commands.{MayLeaveVolume, refusal}
use Rattle.machine_model.specs.Meaning.{most_refusal}
use Rattle.machine_model.specs.OnVolume.{volume_answer}
use Rattle.machine_model.specs.Restarting.{holding}
use Rattle.durable.specs.Durable.{HaveLines, IsComplete, IsLineThere}
use Rattle.durable.proofs.PresenceLemmas.{absent_line}
use Rattle.durable.proofs.ThereLemmas.{lines-left}
use Rattle.durable.specs.Place.{is_line_present}
use Rattle.outcomes.specs.Left.{volume_may_pass}
use Rattle.outcomes.specs.Outcome.{AllShown, HaveValues, Shown, VolumeOutcome}
use Rattle.outcomes.specs.Pages.{PageRead, all_lines_read, is_reply, line_fits}
use Rattle.outcomes.specs.Seen.{page_answer, volume_may_show}
use Rattle.outcomes.specs.Seen.Seen.{of_volume}
use Rattle.outcomes.proofs.AmongLemmas.{IsAmong, all_of}
use Rattle.outcomes.proofs.ChooseLemmas.{Leaves, volume_left}
use Rattle.outcomes.proofs.PickLemmas.{pages_survive, picked_pages}
use Rattle.outcomes.proofs.TellLemmas.{IsRead, Matches, is_read}

-- pages that are there have lines of eight words
pub eight_words : (pages : List Page) → HaveLines pages → (n : ℕ) (weak : Bool) (words : List (List ℕ)) → cell_of pages n ≡ Some (Kept weak words) → length words ≡ 8
eight_words pages lines n weak words is = by_presence (is_line_present pages n) refl
  where
    by_presence : (b : Bool) → is_line_present pages n ≡ b → length words ≡ 8
    by_presence true there = subst IsLineThere is (lines n there)
    by_presence false gone = cc (sym (absent_line pages n gone) ∙ is)

module _ (geo : Geometry) (blocks : List Block) (pages : List Page) (files : List File) where
  load_refusal : (start len : ℕ) → refusal (holding geo blocks pages files) (VLoad start len)
      ≡ first_there (option_map Refused (most_refusal 65536 (4096 * geo.vpages) start len)) (option_map volume_answer (poisoned_at (first_bad_line pages start len)))
  unfolding refusal
  load_refusal start len = refl

  shown_by : (r : PageRead) → IsRead (4096 * geo.vpages) pages r → Shown (holding geo blocks pages files) (of_volume r)
  shown_by r read = by_both read.why read.line read.refusal read.bad read.matches
    where
      told : (o : Option Why) (l : Option ℕ) → most_refusal 65536 (4096 * geo.vpages) r.start r.len ≡ o → first_bad_line pages r.start r.len ≡ l
          → refusal (holding geo blocks pages files) (VLoad r.start r.len) ≡ first_there (option_map Refused o) (option_map volume_answer (poisoned_at l))
      told o l why bad =
          load_refusal r.start r.len ∙ ap (λ w. first_there (option_map Refused w) (option_map volume_answer (poisoned_at (first_bad_line pages r.start r.len)))) why
          ∙ ap (λ k. first_there (option_map Refused o) (option_map volume_answer (poisoned_at k))) bad

      by_both : (o : Option Why) (l : Option ℕ) → most_refusal 65536 (4096 * geo.vpages) r.start r.len ≡ o → first_bad_line pages r.start r.len ≡ l → Matches pages r o l
          → Shown (holding geo blocks pages files) (of_volume r)
      by_both (Some w) l why bad is = inl (told (Some w) l why bad ∙ ap (λ reply. Some (page_answer PoisonVolume reply)) (sym is))
      by_both None (Some n) why bad is = inl (told None (Some n) why bad ∙ ap (λ reply. Some (page_answer PoisonVolume reply)) (sym is))
      by_both None None why bad is = inr (told None None why bad, ap (page_answer PoisonVolume) is)

  all_shown_by : (reads : List PageRead) → ((r : PageRead) → IsAmong r reads → IsRead (4096 * geo.vpages) pages r) → AllShown (holding geo blocks pages files) (map of_volume reads)
  all_shown_by [] each = tt
  all_shown_by (r ∷ reads) each = (shown_by r (each r (inl refl)), all_shown_by reads (λ x among. each x (inr among)))

pub volume_found : (off : Machine) (reads : List PageRead) → IsComplete off → HaveValues off.volume → volume_may_show off reads ≡ true → VolumeOutcome off reads
volume_found off reads whole have shows =
    let parts = and_parts (list_all (is_reply (4096 * off.geometry.vpages)) reads)
    (volume_may_pass off.geometry off.interrupted (line_fits reads) off.volume (all_lines_read reads)) shows in
    let found : Leaves reads (all_lines_read reads) (MayLeaveVolume off.geometry off.interrupted off.volume) =
    volume_left reads (all_lines_read reads) off.geometry off.interrupted off.volume have parts.1 in
    let lines = lines-left off.geometry off.interrupted off.volume found.left whole.lines found.may in
    record {
      left = found.left;
      may = found.may;
      volume = picked_pages reads found.left;
      kept = pages_survive reads found.left found.values;
      shown = λ blocks files. all_shown_by off.geometry blocks (picked_pages reads found.left) files reads (λ r among.
          is_read reads found.left (eight_words found.left lines) found.fit (4096 * off.geometry.vpages) r among (all_of (is_reply (4096 * off.geometry.vpages)) r reads parts.0 among));
    }
