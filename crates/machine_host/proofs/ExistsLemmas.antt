-- Whether a block or a page is there, and where the volume lies, as the host and as the machine see it.
use Rattle.std.proofs.Common.{◌≡◌, ◌≢◌, ◌↔◌, ℕ, zero, suc, ◌<◌, ◌≤◌, Bool, true, false, IsTrue, Some, None, List, [], ◌∷◌, length, slice_get, slice_index_or, nat_lt, if◌then◌else◌, refl, sym, ap, subst, ◌∙◌, arith}
use Rattle.std.proofs.lemmas.Bool.{false≢true, lt-ltb, le-ltb}
use Rattle.line_device.specs.Medium.{last_image}
use Rattle.line_device.specs.Device.{Device}
use Rattle.nvm_model.specs.Blocks.{nth, is_there}
use Rattle.word_tables.specs.declared.geometry.Geometry.{Geometry}
use Rattle.block_map.specs.declared.state.BlockState.{BlockState}
use Rattle.block_map.specs.declared.state.BlockState.TheVariants as state
use Rattle.block_device.specs.Object.{blocks_of}
use Rattle.block_device.specs.Reading.{block_read, map_read}
use Rattle.script_text.specs.Action.{Action}
use Rattle.script_text.specs.Action.Action.{BExists, VExists, VRanges}
use Rattle.nvm_base.specs.declared.units.Span.{Span}
use Rattle.nvm_model.specs.Page.{presence_of}
use Rattle.pm_volume.specs.Area.{volume_ranges}
use Rattle.reply_text.specs.Room.{most_of}
use Rattle.word_tables.specs.Bounds.{IsValid}
use Rattle.word_tables.specs.Layout.{size}
use Rattle.machine_model.specs.OnVolume.{yes_or_no}
use Rattle.std.proofs.lemmas.Option.{get_or_from_slice_get, slice_get_within}
use Rattle.reply_text.specs.Answer.{Answer, IsPrintable}
use Rattle.reply_text.specs.Answer.Answer.{Ranges, Yes, No, Refused}
use Rattle.reply_text.specs.declared.reply.Why.TheVariants as because
use Rattle.machine_model.specs.declared.mode.Mode.TheVariants.{On}
use Rattle.machine_model.specs.Machine.{Machine, Fate}
use Rattle.machine_model.specs.Meaning.{first_reason, mode_refusal, no_reasons}
use Rattle.machine_model.specs.declared.needs.Needs.TheVariants.{Usable}
use Rattle.machine_model.specs.Commands.{fate, refusal, unless_refused}
use Rattle.machine_model.specs.Machine.Fate.{Gives}
use Rattle.machine_model.proofs.RefusalLemmas.{first_alone}
use Rattle.machine_host.specs.Stands.{HostState, HostServes, Stands, Comes}
use Rattle.machine_model.specs.Run.{answered}
use Rattle.machine_model.specs.Interrupted.{stop_in}
use Rattle.machine_host.proofs.TellingLemmas.{tells_nothing}

-- a block that is read is there where its state is not absent
there_by_state : (geo : Geometry) (bad : ℕ → Bool) (word : ℕ → ℕ) (s : BlockState) (there : Bool) → (IsTrue there ↔ (Some s ≢ Some state.Absent)) → is_there (block_read geo bad word s) ≡ there
there_by_state geo bad word state.Absent true told = absurd (told.0 refl refl)
there_by_state geo bad word state.Absent false told = refl
there_by_state geo bad word state.Scarred true told = refl
there_by_state geo bad word state.Scarred false told = absurd (false≢true (told.1 (λ e. cc)))
there_by_state geo bad word (state.At unit) true told = refl
there_by_state geo bad word (state.At unit) false told = absurd (false≢true (told.1 (λ e. cc)))

there_in_map : (geo : Geometry) (bad : ℕ → Bool) (word : ℕ → ℕ) (states : List BlockState) (block : ℕ) (there : Bool) → block < length states
    → (IsTrue there ↔ (slice_get states block ≢ Some state.Absent)) → is_there (nth (map_read geo bad word states) block) ≡ there
there_in_map geo bad word [] block there below told = absurd (omega arith)
there_in_map geo bad word (s ∷ ss) zero there below told = there_by_state geo bad word s there told
there_in_map geo bad word (s ∷ ss) (suc block) there below told = there_in_map geo bad word ss block there (omega arith) told

-- nothing changes, and this is answered
pub same_state : (host : HostState) (d : Device) (h : Machine) (action : Action) (answer : Answer) → stop_in answer ≡ None → Stands host d h → Comes h action (Gives answer h) answer host d d
same_state host d h action answer quiet stands =
    record { said = answered answer; next = h; answers = refl; takes = (refl, refl); tells = tells_nothing answer quiet d.panel; stands = stands }

module _ (now host : HostState) (d : Device) (h : Machine) (block : ℕ) where
  blocks_there : host ≡ now → HostServes now d → Stands now d h → now.mode ≡ On → host.blocks.geo.blocks ≡ h.geometry.blocks
  blocks_there inside serves stands on = ap (λ k. k.blocks.geo.blocks) inside ∙ ap (λ g. g.blocks) ((serves.mounted on).geometry ∙ stands.geometry)

  abbrev said : Bool → Answer
  said there = if there then Yes else No

  by_there : (there : Bool) → stop_in (said there) ≡ None
  by_there true = refl
  by_there false = refl

  -- what comes of it, by whether there is such a block
  fate_exists : h.mode ≡ On → (there : Bool) → nat_lt block h.geometry.blocks ≡ there
      → fate h (BExists block) ≡ unless_refused h (if there then None else Some (Refused because.Range)) (Gives (said (is_there (nth h.blocks block))) h)
  unfolding refusal
  fate_exists on there is =
      let comes : Fate = Gives (said (is_there (nth h.blocks block))) h in
      ap (λ mode. unless_refused h (first_reason (mode_refusal mode h.bad_meta Usable) h.bad_meta (record no_reasons { places = if nat_lt block h.geometry.blocks then None else Some (Refused because.Range) })) comes) on
      ∙ ap (λ b. unless_refused h (first_reason None h.bad_meta (record no_reasons { places = if b then None else Some (Refused because.Range) })) comes) is
      ∙ ap (λ o. unless_refused h o comes) (first_alone (if there then None else Some (Refused because.Range)))

  pub comes_of_exists : (test there : Bool) → test ≡ there → host ≡ now → HostServes now d → Stands now d h → now.mode ≡ On
      → (block < host.blocks.geo.blocks) × (IsTrue test ↔ (slice_get host.blocks.map block ≢ Some state.Absent)) → Comes h (BExists block) (fate h (BExists block)) (said there) now d d
  comes_of_exists test there is inside serves stands on told =
      let mounted = serves.mounted on in
      let within : block < h.geometry.blocks = omega (arith, told.0, blocks_there inside serves stands on) in
      let all : length host.blocks.map ≡ host.blocks.geo.blocks = ap (λ k. length k.blocks.map) inside ∙ mounted.serves.all ∙ sym (ap (λ k. k.blocks.geo.blocks) inside) in
      let seen : is_there (nth h.blocks block) ≡ there =
      ap (λ bs. is_there (nth bs block)) (sym (stands.blocks on))
      ∙ ap (λ s. is_there (nth (blocks_of s d.medium) block)) (sym (ap (λ k. k.blocks) inside))
      ∙ there_in_map host.blocks.geo d.medium.is_bad (last_image d.medium) host.blocks.map block test (omega (arith, told.0, all)) told.1 ∙ is in
      let gives : fate h (BExists block) ≡ Gives (said there) h =
      fate_exists (sym stands.mode ∙ on) true (lt-ltb block h.geometry.blocks within) ∙ ap (λ b. Gives (said b) h) seen in
      subst (λ fate. Comes h (BExists block) fate (said there) now d d) (sym gives) (same_state now d h (BExists block) (said there) (by_there there) stands)

  pub comes_of_no_such : host ≡ now → HostServes now d → Stands now d h → now.mode ≡ On → host.blocks.geo.blocks ≤ block → Comes h (BExists block) (fate h (BExists block)) (Refused because.Range) now d d
  comes_of_no_such inside serves stands on past =
      let beyond : h.geometry.blocks ≤ block = omega (arith, past, blocks_there inside serves stands on) in
      let gives : fate h (BExists block) ≡ Gives (Refused because.Range) h = fate_exists (sym stands.mode ∙ on) false (le-ltb block h.geometry.blocks beyond) in
      subst (λ fate. Comes h (BExists block) fate (Refused because.Range) now d d) (sym gives) (same_state now d h (BExists block) (Refused because.Range) refl stands)

-- Which pages are there is seen as the machine sees it.
module _ (now host : HostState) (d : Device) (h : Machine) (page : ℕ) (inside : host ≡ now) (serves : HostServes now d) (stands : Stands now d h) (on : now.mode ≡ On) where
  pages_there : host.volume.geo.vpages ≡ h.geometry.vpages
  pages_there = ap (λ k. k.volume.geo.vpages) inside ∙ ap (λ g. g.vpages) ((serves.mounted on).volume_geometry ∙ stands.geometry)

  fate_vexists : (within : Bool) → nat_lt page h.geometry.vpages ≡ within
      → fate h (VExists page) ≡ unless_refused h (if within then None else Some (Refused because.Range)) (Gives (yes_or_no (slice_index_or (presence_of h.volume) page false)) h)
  unfolding refusal
  fate_vexists within is =
      let comes : Fate = Gives (yes_or_no (slice_index_or (presence_of h.volume) page false)) h in
      ap (λ mode. unless_refused h (first_reason (mode_refusal mode h.bad_meta Usable) h.bad_meta (record no_reasons { places = if nat_lt page h.geometry.vpages then None else Some (Refused because.Range) })) comes) (sym stands.mode ∙ on)
      ∙ ap (λ b. unless_refused h (first_reason None h.bad_meta (record no_reasons { places = if b then None else Some (Refused because.Range) })) comes) is
      ∙ ap (λ o. unless_refused h o comes) (first_alone (if within then None else Some (Refused because.Range)))

  pub comes_of_vexists : (there : Bool) → slice_get host.volume.present page ≡ Some there → Comes h (VExists page) (fate h (VExists page)) (yes_or_no there) now d d
  comes_of_vexists there is =
      let holds = stands.volume on in
      let seen : slice_get (presence_of h.volume) page ≡ Some there = ap (λ xs. slice_get xs page) (holds.there ∙ sym (ap (λ k. k.volume.present) inside)) ∙ is in
      let all : length host.volume.present ≡ host.volume.geo.vpages = ap (λ k. length k.volume.present) inside ∙ (serves.mounted on).volume_serves.all ∙ sym (ap (λ k. k.volume.geo.vpages) inside) in
      let within : page < h.geometry.vpages = omega (arith, slice_get_within host.volume.present page there is, all, pages_there) in
      let gives : fate h (VExists page) ≡ Gives (yes_or_no there) h =
      fate_vexists true (lt-ltb page h.geometry.vpages within) ∙ ap (λ b. Gives (yes_or_no b) h) (get_or_from_slice_get (presence_of h.volume) page there false seen) in
      subst (λ fate. Comes h (VExists page) fate (yes_or_no there) now d d) (sym gives) (same_state now d h (VExists page) (yes_or_no there) (by_there there) stands)
    where
      by_there : (there : Bool) → stop_in (yes_or_no there) ≡ None
      by_there true = refl
      by_there false = refl

  pub comes_of_no_page : host.volume.geo.vpages ≤ page → Comes h (VExists page) (fate h (VExists page)) (Refused because.Range) now d d
  comes_of_no_page past =
      let beyond : h.geometry.vpages ≤ page = omega (arith, past, pages_there) in
      let gives : fate h (VExists page) ≡ Gives (Refused because.Range) h = fate_vexists false (le-ltb page h.geometry.vpages beyond) in
      subst (λ fate. Comes h (VExists page) fate (Refused because.Range) now d d) (sym gives) (same_state now d h (VExists page) (Refused because.Range) refl stands)

-- where the volume lies is answered at once
pub comes_of_vranges : (now : HostState) (d : Device) (h : Machine) (ranges : List Span) → now.mode ≡ On → Stands now d h → ranges ≡ volume_ranges now.geometry
    → Comes h VRanges (fate h VRanges) (Ranges ranges) now d d
unfolding refusal
comes_of_vranges now d h ranges on stands is =
    let gives : fate h VRanges ≡ Gives (Ranges ranges) h =
    ap (λ mode. unless_refused h (first_reason (mode_refusal mode h.bad_meta Usable) h.bad_meta no_reasons) (Gives (Ranges (volume_ranges h.geometry)) h)) (sym stands.mode ∙ on)
    ∙ ap (λ r. Gives (Ranges r) h) (ap volume_ranges (sym stands.geometry) ∙ sym is) in
    subst (λ fate. Comes h VRanges fate (Ranges ranges) now d d) (sym gives) (same_state now d h VRanges (Ranges ranges) refl stands)

-- such an answer can be printed
pub printable_ranges : (geo : Geometry) (ranges : List Span) → IsValid geo → ranges ≡ volume_ranges geo → IsPrintable (Ranges ranges)
unfolding size
printable_ranges geo ranges valid is = subst (λ r. IsPrintable (Ranges r)) (sym is) (omega (arith, valid.most_vpages))

pub room_of_ranges : (geo : Geometry) (ranges : List Span) → ranges ≡ volume_ranges geo → most_of (Ranges ranges) ≤ 133
room_of_ranges geo ranges is = let two : length ranges ≡ 2 = ap length is in omega (arith, two)
