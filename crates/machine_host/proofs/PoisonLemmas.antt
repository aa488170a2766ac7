-- A line of metadata goes bad, while blocks, volume and files stay mounted, in each mode.
use Rattle.std.proofs.Common.{◌≡◌, ◌≢◌, ◌/◌, ◌<◌, ◌≤◌, ◌==◌, ℕ, Bool, true, false, cond, List, [], ◌∷◌, length, nat_lt, refl, sym, ap, subst, ◌∙◌, arith}
use Rattle.std.proofs.lemmas.List.{length-map}
use Rattle.line_device.specs.History.{IsIn}
use Rattle.line_device.specs.Medium.{WritesBack, poisoned}
use Rattle.line_device.specs.Device.{Device}
use Rattle.line_device.proofs.HistoryLemmas.{is_in-word_write_back}
use Rattle.word_tables.specs.Layout.{meta_lines, volume_line}
use Rattle.nvm_model.specs.Page.{is_present}
use Rattle.block_device.specs.Object.{blocks_of}
use Rattle.block_device.proofs.PlaceLemmas.{named_is_data}
use Rattle.block_device.proofs.PoisonLemmas.{serves-poisoned}
use Rattle.block_device.proofs.ReadLemmas.{map_read-stays}
use Rattle.pm_volume.specs.Object.{VolumeHolds}
use Rattle.nvm_model.proofs.KeptLemmas.{LineKept}
use Rattle.pm_volume.proofs.StandingLemmas.{pages-kept, volume_serves-kept}
use Rattle.file_journal.specs.Standing.{FilesStand}
use Rattle.file_journal.specs.Tables.{AreTables}
use Rattle.file_journal.proofs.FileLineLemmas.{page_line_behind}
use Rattle.file_journal.proofs.ServesLemmas.{journal-kept}
use Rattle.file_journal.proofs.StandingLemmas.{files-kept}
use Rattle.scrub.specs.Others.{WritesBackBut}
use Rattle.scrub.proofs.OthersLemmas.{but-renewed}
use Rattle.reply_text.specs.Answer.Answer.{Done}
use Rattle.script_text.specs.Action.Action.{PoisonMeta}
use Rattle.machine_model.specs.declared.mode.Mode.TheVariants as modes
use Rattle.machine_model.specs.Machine.{Machine}
use Rattle.machine_model.specs.Lines.{bad_metadata}
use Rattle.machine_model.specs.OnMedia.{with_line}
use Rattle.machine_host.specs.Responding.{Answered}
use Rattle.machine_model.specs.Run.{answered}
use Rattle.machine_host.specs.Stands.{HostState, HostServes, AreMounted, Stands}
use Rattle.machine_model.specs.Telling.{Tells}
use Rattle.machine_host.proofs.BadLineLemmas.{layout-poisoned, metadata-poisoned}
use Rattle.machine_host.proofs.LayoutLemmas.{stays_of_kept}
use Rattle.machine_host.proofs.LineLemmas.{data_behind}
use Rattle.machine_host.proofs.MediaLemmas.{kept-but}
use Rattle.machine_model.proofs.RefusalLemmas.{always_allowed, line_right}
use Rattle.machine_host.proofs.StepLemmas.{comes_placed}
use Rattle.machine_host.proofs.TellingLemmas.{tells_nothing}
use Rattle.machine_host.proofs.VolumeLemmas.{volume_behind}
use Rattle.nvm_model.specs.Storage.{File}
use Rattle.machine_host.proofs.RoomLemmas.{room_still}

-- with one more line some are bad
some_bad : (line : ℕ) (lines : List ℕ) → with_line line lines ≢ []
some_bad line [] none = cc none
some_bad line (next ∷ lines) none = by_tests (nat_lt line next) (line == next) none
  where
    by_tests : (below same : Bool) → cond below (line ∷ next ∷ lines) (cond same (next ∷ lines) (next ∷ with_line line lines)) ≡ [] → ⊥
    by_tests true same none = cc none
    by_tests false true none = cc none
    by_tests false false none = cc none

module _ (host : HostState) (old new : Device) (line : ℕ) (serves : HostServes host old) (within : line < meta_lines host.geometry) (w : WritesBack (poisoned old.medium line) new.medium) (panel : new.panel ≡ old.panel) where
  but : WritesBackBut (λ n. n ≡ line) old.medium new.medium
  but = but-renewed old.medium new.medium line true false (λ _. []) w

  -- lines behind the metadata are kept
  behind_kept : (n : ℕ) → meta_lines host.geometry ≤ n → LineKept old.medium new.medium n
  behind_kept n past = kept-but (λ n. n ≡ line) old.medium new.medium n (λ is. omega (arith, is, past, within)) but

  bad_now : bad_metadata host.geometry new.medium.is_bad ≡ with_line line (bad_metadata host.geometry old.medium.is_bad)
  bad_now = (metadata-poisoned host.geometry line old.medium new.medium within w (bad_metadata host.geometry old.medium.is_bad) (record { layout = serves.layout; bad = refl })).bad

  -- a word of a line that went bad has no value left
  fewer : (p v : ℕ) → IsIn v (new.medium.history p) → IsIn v (old.medium.history p)
  fewer p v at = by_line (p / 8 == line) (is_in-word_write_back ((poisoned old.medium line).is_weak (p / 8)) v ((poisoned old.medium line).history p) (new.medium.history p) (w.word_write_back p) at)
    where
      by_line : (b : Bool) → IsIn v (cond b [] (old.medium.history p)) → IsIn v (old.medium.history p)
      by_line true none = absurd none
      by_line false was = was

  still_strong : (n : ℕ) → old.medium.is_weak n ≡ false → new.medium.is_weak n ≡ false
  still_strong n strong = w.weak n ∙ by_line (n == line)
    where
      by_line : (b : Bool) → cond b false (old.medium.is_weak n) ≡ false
      by_line true = refl
      by_line false = strong

  still_stand : AreMounted host.geometry host.blocks host.volume host.files old.medium → (files : List File) → FilesStand host.files.pages.journal.geo old.medium host.files.pages.journal.tables files
      → FilesStand host.files.pages.journal.geo new.medium host.files.pages.journal.tables files
  still_stand mounted files stand =
      let j = host.files.pages.journal in
      files-kept j.geo old.medium new.medium j.tables files (subst (λ g. AreTables g.fpages j.tables) (sym mounted.journal_geometry) mounted.journal_right)
      (λ n has. behind_kept n (subst (λ g. meta_lines g ≤ n) mounted.journal_geometry (page_line_behind j.geo n has))) stand

  still_mounted : AreMounted host.geometry host.blocks host.volume host.files old.medium → AreMounted host.geometry host.blocks host.volume host.files new.medium
  still_mounted mounted = record {
    geometry = mounted.geometry;
    settled = mounted.settled;
    serves = serves-poisoned host.blocks old.medium new.medium line w mounted.serves;
    volume_geometry = mounted.volume_geometry;
    volume_settled = mounted.volume_settled;
    volume_serves = volume_serves-kept host.volume old.medium new.medium (λ p of v at. fewer p v at) (λ n below. still_strong n (mounted.volume_serves.strong n below)) w.count mounted.volume_serves;
    journal_geometry = mounted.journal_geometry;
    journal_settled = mounted.journal_settled;
    journal_serves = journal-kept host.files.pages.journal old.medium new.medium (λ p of v at. fewer p v at) (λ n below. still_strong n (mounted.journal_serves.strong n below)) w.count mounted.journal_serves;
    journal_right = mounted.journal_right;
    journal_held = mounted.journal_held;
    pages_settled = mounted.pages_settled;
    mapped = mounted.mapped;
    room = room_still host.files host.files old.medium new.medium (still_stand mounted) (omega arith) mounted.room;
  }

  serves_poisoned : HostServes host new
  serves_poisoned = record {
    layout = layout-poisoned host.geometry line old.medium new.medium within w serves.layout;
    readable = λ none. absurd (some_bad line (bad_metadata host.geometry old.medium.is_bad) (sym bad_now ∙ none));
    power = ap (λ p. p.power) panel ∙ serves.power;
    mounted = λ on. still_mounted (serves.mounted on);
    stopped = λ _ none. some_bad line (bad_metadata host.geometry old.medium.is_bad) (sym bad_now ∙ none);
  }

  module _ (h : Machine) (stands : Stands host old h) where
    blocks_same : host.mode ≡ modes.On → blocks_of host.blocks new.medium ≡ h.blocks
    blocks_same on =
        let mounted = serves.mounted on in
        let s = host.blocks in
        map_read-stays s.geo s.map old.medium new.medium
        (λ n named. stays_of_kept old.medium new.medium n
        (behind_kept n (subst (λ g. meta_lines g ≤ n) mounted.geometry (data_behind s.geo n (named_is_data s.geo mounted.serves.valid s.map n mounted.serves.all mounted.serves.is_map named)))))
        ∙ stands.blocks on

    volume_same : host.mode ≡ modes.On → VolumeHolds host.volume new.medium h.volume
    volume_same on =
        let mounted = serves.mounted on in
        let v = host.volume in
        let holds = stands.volume on in
        record {
          there = holds.there;
          stand = pages-kept v.geo old.medium new.medium h.volume (sym (length-map h.volume is_present) ∙ ap length holds.there ∙ mounted.volume_serves.all)
              (λ n lt. behind_kept (volume_line v.geo n) (subst (λ g. meta_lines g ≤ volume_line v.geo n) mounted.volume_geometry (volume_behind v.geo n))) holds.stand;
        }

    files_same : host.mode ≡ modes.On → FilesStand host.files.pages.journal.geo new.medium host.files.pages.journal.tables h.files
    files_same on = still_stand (serves.mounted on) h.files (stands.files on)

    stands_poisoned : Stands host new (record h { bad_meta = with_line line h.bad_meta })
    stands_poisoned = record {
      geometry = stands.geometry;
      unit = stands.unit;
      mode = stands.mode;
      blocks = blocks_same;
      volume = volume_same;
      files = files_same;
      mappings = stands.mappings;
      events = stands.events;
      device = record {
        unit = ap (λ p. p.unit) panel ∙ stands.device.unit;
        metadata = metadata-poisoned h.geometry line old.medium new.medium (subst (λ g. line < meta_lines g) stands.geometry within) w h.bad_meta stands.device.metadata;
        blocks = λ none. absurd (some_bad line h.bad_meta none);
        volume = λ none. absurd (some_bad line h.bad_meta none);
        files = λ none. absurd (some_bad line h.bad_meta none);
        power = ap (λ p. p.power) panel ∙ stands.device.power;
        cut_armed = ap (λ p. p.cut_armed) panel ∙ stands.device.cut_armed;
        fail_armed = ap (λ p. p.fail_armed) panel ∙ stands.device.fail_armed;
        whole = stands.device.whole;
        stopped = λ _. some_bad line h.bad_meta;
      };
    }

-- It is answered.
pub poison_meta_answered : (host : HostState) (old new : Device) (line : ℕ) → HostServes host old → line < meta_lines host.geometry → WritesBack (poisoned old.medium line) new.medium → new.panel ≡ old.panel
    → Answered (PoisonMeta line) Done host host old new
poison_meta_answered host old new line serves within w panel = record {
  step = λ h stands. comes_placed host host old new h (PoisonMeta line) Done stands (always_allowed host.mode) refl (line_right line (meta_lines host.geometry) within) (record {
    said = answered Done;
    next = record h { bad_meta = with_line line h.bad_meta };
    answers = refl;
    takes = (refl, refl);
    tells = subst (λ p. Tells (answered Done) old.panel p) (sym panel) (tells_nothing Done refl old.panel);
    stands = stands_poisoned host old new line serves within w panel h stands;
  });
  keeps = (line, but host old new line serves within w panel);
  printable = tt;
  room = omega arith;
  serves = serves_poisoned host old new line serves within w panel;
}
