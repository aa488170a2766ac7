-- Spans of physical addresses, and where they lie in the volume.
use Rattle.std.proofs.Common.{◌≡◌, ℕ, ◌+◌, ◌-◌, ◌*◌, ◌≤◌, ◌==◌, ◌&&◌, Bool, true, false, nat_le, is_none, Some, None, option_map, option_and_then, List, Result, if◌then◌else◌, refl, sym, ap, subst, ◌∙◌, arith}
use Rattle.std.proofs.lemmas.Bool.{and_parts, le-ltb, leb-true}
use mathlib.Core.Path.{fun_ext}
use Rattle.line_device.specs.Device.{Device}
use Rattle.word_tables.specs.declared.geometry.Geometry.{Geometry}
use Rattle.word_tables.specs.Layout.{first_line, first_range, second_range, size}
use Rattle.nvm_model.specs.Blocks.{first_there}
use Rattle.nvm_model.specs.Page.{Page, first_bad_line}
use Rattle.pm_volume.specs.declared.fault.VolumeFault.{VolumeFault}
use Rattle.pm_volume.specs.Calls.{SyncsVolume}
use Rattle.pm_volume.specs.Object.{VolumeState}
use Rattle.pm_volume.specs.Refusals.VolumeRefusal.{Address, Length, Range}
use Rattle.pm_volume.specs.Refusals.{physical_offset, physical_refusal, poisoned_at, refused_if, sync_refusal}

sizes_are : (geo : Geometry) → 64 * size geo first_range + 64 * size geo second_range ≡ 4096 * geo.vpages
unfolding size
sizes_are geo = omega arith

pub same_offset : (a b : ℕ) → Some a ≡ Some b → a ≡ b
same_offset a b is = cc

-- a span of addresses that is found lies within the volume
pub address_within : (geo : Geometry) (address len offset : ℕ) → physical_offset geo address len ≡ Some offset → offset + len ≤ 4096 * geo.vpages
address_within geo address len offset is =
    by_tests (nat_le f1 address && nat_le (address + len) (f1 + s1)) (nat_le f2 address && nat_le (address + len) (f2 + s2)) refl refl is
  where
    f1 : ℕ
    f1 = 64 * first_line geo first_range

    s1 : ℕ
    s1 = 64 * size geo first_range

    f2 : ℕ
    f2 = 64 * first_line geo second_range

    s2 : ℕ
    s2 = 64 * size geo second_range

    by_tests : (a b : Bool) → (nat_le f1 address && nat_le (address + len) (f1 + s1)) ≡ a → (nat_le f2 address && nat_le (address + len) (f2 + s2)) ≡ b
        → (if a then Some (address - f1) else option_map (λ o. s1 + o) (if b then Some (address - f2) else None)) ≡ Some offset → offset + len ≤ 4096 * geo.vpages
    by_tests true b one two found =
        let parts = and_parts (nat_le f1 address) (nat_le (address + len) (f1 + s1)) one in
        let from : f1 ≤ address = leb-true f1 address parts.0 in
        let to : address + len ≤ f1 + s1 = leb-true (address + len) (f1 + s1) parts.1 in
        let same : address - f1 ≡ offset = same_offset _ _ found in
        let all = sizes_are geo in
        omega arith
    by_tests false true one two found =
        let parts = and_parts (nat_le f2 address) (nat_le (address + len) (f2 + s2)) two in
        let from : f2 ≤ address = leb-true f2 address parts.0 in
        let to : address + len ≤ f2 + s2 = leb-true (address + len) (f2 + s2) parts.1 in
        let same : s1 + (address - f2) ≡ offset = same_offset _ _ found in
        let all = sizes_are geo in
        omega arith
    by_tests false false one two found = cc

-- such a span is refused for the same as that of its addresses
pub physical_is : (s : VolumeState) (pages : List Page) (address len offset : ℕ) → (len == 0) ≡ false → physical_offset s.geo address len ≡ Some offset → offset + len ≤ 4096 * s.geo.vpages → sync_refusal s pages offset len ≡ physical_refusal s pages address len
physical_is s pages address len offset some at within =
    ap (λ t. first_there (first_there (refused_if t Range) (refused_if (len == 0) Length)) (poisoned_at (first_bad_line pages offset len))) (le-ltb (4096 * s.geo.vpages) (offset + len) within)
    ∙ ap (λ t. first_there (refused_if t Length) (poisoned_at (first_bad_line pages offset len))) some
    ∙ sym
    (ap (λ o. first_there (first_there (refused_if (len == 0) Length) (refused_if (is_none o) Address)) (option_and_then (λ k. poisoned_at (first_bad_line pages k len)) o)) at
    ∙ ap (λ t. first_there (first_there (refused_if t Length) None) (poisoned_at (first_bad_line pages offset len))) some)

-- one that is found is synced as that span
pub syncs-found : {D T : Type 0} (state : D → Device) (s t : VolumeState) (before after : D) (r : Result T VolumeFault) (address len offset : ℕ) → (len == 0) ≡ false → physical_offset s.geo address len ≡ Some offset
    → SyncsVolume state s t before after r (λ pages. sync_refusal s pages offset len) (Some offset) len → SyncsVolume state s t before after r (λ pages. physical_refusal s pages address len) (physical_offset s.geo address len) len
syncs-found state s t before after r address len offset some at x =
    subst (λ o. SyncsVolume state s t before after r (λ pages. physical_refusal s pages address len) o len) (sym at)
    (subst (λ why. SyncsVolume state s t before after r why (Some offset) len) (fun_ext (λ pages. physical_is s pages address len offset some at (address_within s.geo address len offset at))) x)
