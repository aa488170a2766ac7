-- A command that does what another does is answered as that one is.
use Rattle.std.proofs.Common.{◌≡◌, ◌≤◌, ◌∙◌, IsTrue, Option, Some, None, List, [], ◌∷◌, inl, inr, refl, sym, ap, subst, arith}
use Rattle.line_device.specs.Device.{Device}
use Rattle.line_words.specs.declared.interruption.Interruption.{Interruption}
use Rattle.line_words.specs.declared.interruption.Interruption.TheVariants.{Failed, PowerLost}
use Rattle.nvm_model.specs.Page.{Page}
use Rattle.nvm_model.specs.Storage.{Block, File}
use Rattle.block_device.proofs.ImageLemmas.{each_reads-then}
use Rattle.pm_volume.proofs.StandingLemmas.{each_pages-then}
use Rattle.file_journal.proofs.EachFilesLemmas.{each_files-then}
use Rattle.reply_text.specs.Answer.{Answer}
use Rattle.script_text.specs.Action.{Action}
use Rattle.machine_model.specs.Commands.{MayLeaveBlocks, MayLeaveFiles, MayLeaveVolume, fate, longest, spending, unless_refused, while_interrupted}
use Rattle.machine_model.specs.Interrupted.{Interrupts, may_come}
use Rattle.machine_model.specs.Machine.{Machine}
use Rattle.machine_model.specs.Machine.Fate.{Works}
use Rattle.machine_host.specs.Responding.{Answered}
use Rattle.machine_model.specs.Run.{Ends, Transcript, worked}
use Rattle.machine_host.specs.Stands.{Comes, HostState, Stands}
use Rattle.machine_model.specs.Telling.{Tells}
use Rattle.machine_host.proofs.TellingLemmas.{never_on}
use Rattle.machine_host.specs.Keeping.{is_refusal, reach}
use Rattle.machine_host.proofs.KeepLemmas.{keeps_as}

-- Of both the same comes, an answer or work; they may spend as much, and leave the same where they are interrupted.
pub record IsAs (h : Machine) (a b : Action) : Type 0 where
  pub why : Option Answer
  pub good : Answer
  pub to : Machine
  pub comes : fate h a ≡ unless_refused h why (Works good to)
  pub same : fate h b ≡ fate h a
  pub spends : spending h b ≡ spending h a
  pub blocks : (new : List Block) → MayLeaveBlocks (Some a) h.blocks new → MayLeaveBlocks (Some b) h.blocks new
  pub volume : (new : List Page) → MayLeaveVolume h.geometry (Some a) h.volume new → MayLeaveVolume h.geometry (Some b) h.volume new
  pub files : (new : List File) → MayLeaveFiles h.mappings (Some a) h.files new → MayLeaveFiles h.mappings (Some b) h.files new

module _ (h : Machine) (a b : Action) (alike : IsAs h a b) (answer : Answer) (host : HostState) (old new : Device) where
  -- The state where the one was interrupted is that where the other was.
  module _ (by : Interruption) (next : Machine) (was : Interrupts by (while_interrupted h a) next) where
    abbrev again : Machine
    again = record next { interrupted = Some b }

    interrupts_as : Interrupts by (while_interrupted h b) again
    interrupts_as = record { armed = armed_as by was.armed; state = ap (λ (m : Machine). let k : Machine = record m { interrupted = Some b } in k) was.state; cut = was.cut; fail = was.fail }
      where
        armed_as : (by : Interruption) → IsTrue (may_come by (while_interrupted h a)) → IsTrue (may_come by (while_interrupted h b))
        armed_as Failed armed = armed
        armed_as PowerLost armed = armed

    stands_as : Stands host new next → Stands host new again
    stands_as stands = record {
      geometry = stands.geometry;
      unit = stands.unit;
      mode = stands.mode;
      blocks = stands.blocks;
      volume = stands.volume;
      files = stands.files;
      mappings = stands.mappings;
      events = stands.events;
      device = record {
        unit = stands.device.unit;
        metadata = stands.device.metadata;
        blocks = λ good.
            each_reads-then next.geometry new.medium (MayLeaveBlocks next.interrupted next.blocks) (MayLeaveBlocks (Some b) next.blocks)
            (λ bs may. subst (λ x. MayLeaveBlocks (Some b) x bs) (sym blocks_are) (alike.blocks bs (subst (λ o. MayLeaveBlocks o h.blocks bs) begun (subst (λ x. MayLeaveBlocks next.interrupted x bs) blocks_are may)))) (stands.device.blocks good);
        volume = λ good.
            each_pages-then next.geometry new.medium (MayLeaveVolume next.geometry next.interrupted next.volume) (MayLeaveVolume next.geometry (Some b) next.volume)
            (λ pages may.
            subst (λ g. MayLeaveVolume g (Some b) next.volume pages) (sym sizes) (subst (λ x. MayLeaveVolume h.geometry (Some b) x pages) (sym volume_is)
            (alike.volume pages (subst (λ o. MayLeaveVolume h.geometry o h.volume pages) begun (subst (λ x. MayLeaveVolume h.geometry next.interrupted x pages) volume_is
            (subst (λ g. MayLeaveVolume g next.interrupted next.volume pages) sizes may))))))
            (stands.device.volume good);
        files = λ good.
            each_files-then next.geometry new.medium (MayLeaveFiles next.mappings next.interrupted next.files) (MayLeaveFiles next.mappings (Some b) next.files)
            (λ files may.
            subst (λ ms. MayLeaveFiles ms (Some b) next.files files) (sym mappings_are) (subst (λ x. MayLeaveFiles h.mappings (Some b) x files) (sym files_are)
            (alike.files files (subst (λ o. MayLeaveFiles h.mappings o h.files files) begun (subst (λ x. MayLeaveFiles h.mappings next.interrupted x files) files_are
            (subst (λ ms. MayLeaveFiles ms next.interrupted next.files files) mappings_are may))))))
            (stands.device.files good);
        power = stands.device.power;
        cut_armed = stands.device.cut_armed;
        fail_armed = stands.device.fail_armed;
        whole = λ on. absurd (never_on by (sym (ap (λ m. m.mode) was.state) ∙ on));
        stopped = stands.device.stopped;
      };
    }
      where
        begun : next.interrupted ≡ Some a
        begun = ap (λ m. m.interrupted) was.state

        blocks_are : next.blocks ≡ h.blocks
        blocks_are = ap (λ m. m.blocks) was.state

        volume_is : next.volume ≡ h.volume
        volume_is = ap (λ m. m.volume) was.state

        files_are : next.files ≡ h.files
        files_are = ap (λ m. m.files) was.state

        mappings_are : next.mappings ≡ h.mappings
        mappings_are = ap (λ m. m.mappings) was.state

        sizes : next.geometry ≡ h.geometry
        sizes = ap (λ m. m.geometry) was.state

  comes_by : (why : Option Answer) (good : Answer) (to : Machine) → Comes h a (unless_refused h why (Works good to)) answer host old new → Comes h b (unless_refused h why (Works good to)) answer host old new
  comes_by (Some w) good to was = record { said = was.said; next = was.next; answers = was.answers; takes = was.takes; tells = was.tells; stands = was.stands }
  comes_by None good to was = by_end was.takes.2
    where
      told : Tells (worked (spending h b) was.takes.0) old.panel new.panel
      told = subst (λ s. Tells (worked s was.takes.0) old.panel new.panel) (sym alike.spends) (subst (λ (s : Transcript). Tells s old.panel new.panel) was.takes.1 was.tells)

      answers : (worked (spending h b) was.takes.0).answers ≡ answer ∷ []
      answers = sym (ap (λ (s : Transcript). s.answers) was.takes.1) ∙ was.answers

      by_end : Ends good to (while_interrupted h a) was.takes.0 was.next → Comes h b (Works good to) answer host old new
      by_end (inl done) = record { said = worked (spending h b) was.takes.0; next = was.next; answers = answers; takes = (was.takes.0, refl, inl done); tells = told; stands = was.stands }
      by_end (inr stopped) = record {
        said = worked (spending h b) was.takes.0;
        next = again stopped.0 was.next stopped.2;
        answers = answers;
        takes = (was.takes.0, refl, inr (stopped.0, stopped.1, interrupts_as stopped.0 was.next stopped.2));
        tells = told;
        stands = stands_as stopped.0 was.next stopped.2 was.stands;
      }

  pub comes_as : Comes h a (fate h a) answer host old new → Comes h b (fate h b) answer host old new
  comes_as was =
      subst (λ f. Comes h b f answer host old new) (sym (alike.same ∙ alike.comes))
      (comes_by alike.why alike.good alike.to (subst (λ f. Comes h a f answer host old new) alike.comes was))

-- so what answers the one answers the other
pub answered_as : (a b : Action) (answer : Answer) (before after : HostState) (old new : Device) → ((h : Machine) → Stands before old h → IsAs h a b) → longest a ≤ longest b → reach b ≡ reach a
    → Answered a answer before after old new → Answered b answer before after old new
answered_as a b answer before after old new alike roomy same was = record {
  step = λ h stands. comes_as h a b (alike h stands) answer after old new (was.step h stands);
  keeps = keeps_as (is_refusal answer) a b before after old new same was.keeps;
  printable = was.printable;
  room = omega (arith, was.room, roomy);
  serves = was.serves;
}
