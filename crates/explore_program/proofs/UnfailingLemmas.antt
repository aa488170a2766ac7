-- A call that failed with a right image, where nothing that it stands on did: it wanted memory, or its script is not taken or too long.
use Rattle.std.proofs.Common.{◌≡◌, ◌≤◌, ◌⊎◌, ℕ, List, Option, None, inl, inr, refl, sym, subst, ◌∙◌, arith}
use Rattle.std.specs.Prelude.{IsSomeAnd}
use Rattle.nvm_base.specs.Counts.{Rose}
use Rattle.host_io.specs.Images.{Held}
use Rattle.word_tables.specs.declared.geometry.Geometry.{Geometry}
use Rattle.image_file.specs.declared.Units.TheVariants.{Words}
use Rattle.program_base.specs.Ending.{status}
use Rattle.program_base.specs.Opening.{DeviceFailed, IsNoImage, IsNoImageFrom, StaysClosed, opened}
use Rattle.program_base.specs.Unfailing.{HoldsRight, NothingFailed}
use Rattle.program_base.specs.World.{World}
use Rattle.program_base.specs.declared.ending.Ending.{Ending}
use Rattle.program_base.specs.declared.ending.Ending.TheVariants as endings
use Rattle.explore_program.specs.Calls.{Fails, IsCaused}
use Rattle.explore_program.specs.Stops.{stop_status}
use Rattle.explore_program.specs.declared.stop.Stop.{Stop}
use Rattle.explore_program.specs.declared.stop.Stop.TheVariants as stops

-- what is held right is an image
is_image : (name : List ℕ) (held : Option Held) (offset : ℕ) → HoldsRight Words name held → IsNoImage Words name held offset → ⊥
is_image name held offset right none =
    let at : IsSomeAnd (right.look name) (IsNoImageFrom Words offset) = subst (λ (held : Option Held). IsNoImage Words name held offset) right.told none in
    by_bytes (subst (λ bytes. IsSomeAnd bytes (IsNoImageFrom Words offset)) right.there at)
  where
    by_bytes : IsNoImageFrom Words offset right.bytes → ⊥
    by_bytes (inl wrong) = let at = wrong.1 in cc (sym right.image ∙ at)
    by_bytes (inr long) = omega (arith, right.few, long.0)

is_there : (name : List ℕ) (held : Option Held) → HoldsRight Words name held → IsSomeAnd held (λ look. look name ≡ None) → ⊥
is_there name held right missing =
    let at : right.look name ≡ None = subst (λ held. IsSomeAnd held (λ look. look name ≡ None)) right.told missing in
    cc (sym right.there ∙ at)

module _ (name : List ℕ) (old between : World) (right : HoldsRight Words name old.held) (none : NothingFailed old between) (device : DeviceFailed old.device.panel between.device.panel → ⊥) where
  unopened : (ending : Ending) → StaysClosed Words name old.held ending old.images between.images old.device.panel between.device.panel → status ending ≡ 6
  unopened endings.Memory cause = refl
  unopened endings.Read (inl rose) = absurd (none.fetches rose)
  unopened endings.Read (inr missing) = absurd (is_there name old.held right missing)
  unopened endings.Device (image, there, failed) = absurd (device failed)
  unopened (endings.Image offset) cause = absurd (is_image name old.held offset right cause)
  unopened (endings.Layout place) (image, there, found) = cc (sym (right.right image there) ∙ found)
  unopened (endings.Meta line) (image, there, found) = cc (sym (right.right image there) ∙ found)
  unopened endings.Usage cause = absurd cause
  unopened endings.Write cause = absurd cause
  unopened endings.Script cause = absurd cause

  halted : (geo : Geometry) (stop : Stop) (script : List ℕ) → IsCaused geo stop script old between → (stop_status stop ≡ 6) ⊎ (stop_status stop ≡ 7)
  halted geo (stops.Script n why) script cause = inr refl
  halted geo (stops.Early endings.Script) script cause = inr refl
  halted geo (stops.Early endings.Memory) script cause = inl refl
  halted geo (stops.Early endings.Read) script cause = absurd (none.reads cause)
  halted geo (stops.Early endings.Write) script cause = absurd (none.writes cause)
  halted geo (stops.Early endings.Device) script cause = absurd (device cause)
  halted geo (stops.Early endings.Usage) script cause = absurd cause
  halted geo (stops.Early (endings.Image offset)) script cause = absurd cause
  halted geo (stops.Early (endings.Layout place)) script cause = absurd cause
  halted geo (stops.Early (endings.Meta line)) script cause = absurd cause
  halted geo stops.Usage script cause = absurd cause

  unfailing : (stop : Stop) → Fails name stop old between → (stop_status stop ≡ 6) ⊎ (stop_status stop ≡ 7)
  unfailing stop (inl (ending, is, fails)) = inl (subst (λ stop. stop_status stop ≡ 6) (sym is) (unopened ending fails.cause))
  unfailing stop (inr halts) = halted (opened halts.image).geometry stop halts.script halts.cause

-- where nothing failed, nothing had before the last line was written
none_before : (old between : World) (writes : ℕ) (written : Option (List ℕ)) → between.writes ≤ writes → NothingFailed old (record between { written = written; writes = writes }) → NothingFailed old between
none_before old between writes written later none = record {
  reads = none.reads;
  writes = λ rose. none.writes (rose_on rose);
  fetches = none.fetches;
  replaces = none.replaces;
  setups = none.setups;
  device = none.device;
}
  where
    rose_on : Rose old.writes between.writes → Rose old.writes writes
    rose_on rose = omega (arith, rose, later)

-- how the call ends then
pub ends_well : (name : List ℕ) (stop : Stop) (old between : World) (writes ended : ℕ) (written : Option (List ℕ)) → Fails name stop old between → between.writes ≤ writes → ended ≡ stop_status stop
    → HoldsRight Words name old.held → NothingFailed old (record between { written = written; writes = writes }) → (DeviceFailed old.device.panel between.device.panel → ⊥)
    → (ended ≤ 1) ⊎ (ended ≡ 6) ⊎ (ended ≡ 7)
ends_well name stop old between writes ended written fails later is right none device =
    subst (λ n. (n ≤ 1) ⊎ (n ≡ 6) ⊎ (n ≡ 7)) (sym is) (inr (unfailing name old between right (none_before old between writes written later none) device stop fails))
