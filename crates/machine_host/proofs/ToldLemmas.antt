-- Lines that were lost, told one after another.
use Rattle.std.proofs.Common.{◌≡◌, ◌+◌, ◌++◌, ◌≤◌, ◌<◌, ◌∙◌, ℕ, Some, None, List, [], ◌∷◌, length, refl, sym, ap, subst, arith}
use Rattle.line_device.specs.Medium.{Medium}
use Rattle.nvm_base.specs.declared.units.Span.{Span}
use Rattle.nvm_model.specs.Storage.{Event, File}
use Rattle.nvm_model.specs.Touched.{bad_touched, bad_touched_from, is_bad_touched, next_bad_touched}
use Rattle.nvm_model.proofs.NextLemmas.{IsLowestFrom, bad_from-all, bad_from-next, bad_from-none, next-lowest}
use Rattle.file_pages.specs.Object.{IsFileAt}
use Rattle.machine_host.specs.declared.held.HeldFiles.{HeldFiles}
use Rattle.machine_host.specs.Flushing.{HoldsLost, LinesTold}
use Rattle.machine_model.specs.OnEvents.{events_of, line_event}
use Rattle.std.proofs.lemmas.List.{append-nil, append_assoc}

-- Of the bad lines that spans touch those before one were told, and nothing else of the files changed.
pub record ToldUpTo (name : List ℕ) (inode : ℕ) (spans : List Span) (m : Medium) (start now : HeldFiles) (from : ℕ) : Type 0 where
  pub few : from ≤ 16384
  pub others : now ≡ record start { events = now.events }
  pub events : (files : List File) (file : File) → IsFileAt start.pages.journal m inode files file
      → start.events.items ++ events_of start.mappings.mappings name (bad_touched spans file.pages) ≡ now.events.items ++ events_of start.mappings.mappings name (bad_touched_from spans file.pages from)
  pub spare : (files : List File) (file : File) → IsFileAt start.pages.journal m inode files file
      → now.events.spare + length (bad_touched spans file.pages) ≡ start.events.spare + length (bad_touched_from spans file.pages from)

module _ (name : List ℕ) (inode : ℕ) (spans : List Span) (m : Medium) (start : HeldFiles) where
  pub none_told : ToldUpTo name inode spans m start start 0
  none_told = record {
    few = omega arith;
    others = refl;
    events = λ files file at. ap (λ ns. start.events.items ++ events_of start.mappings.mappings name ns) (sym (bad_from-all spans file.pages));
    spare = λ files file at. ap (λ (ns : List ℕ). start.events.spare + length ns) (sym (bad_from-all spans file.pages));
  }

  module _ (now : HeldFiles) (from : ℕ) (told : ToldUpTo name inode spans m start now from) where
    at_now : (files : List File) (file : File) → IsFileAt start.pages.journal m inode files file → IsFileAt now.pages.journal m inode files file
    at_now files file at = subst (λ (f : HeldFiles). IsFileAt f.pages.journal m inode files file) (sym told.others) at

    module _ (line : ℕ) (found : (files : List File) (file : File) → IsFileAt now.pages.journal m inode files file → Some line ≡ next_bad_touched spans file.pages from) (room : HoldsLost start m inode spans) where
      first : bad_touched_from spans room.file.pages from ≡ line ∷ bad_touched_from spans room.file.pages (line + 1)
      first = bad_from-next spans room.file.pages from line (sym (found room.files room.file (at_now room.files room.file room.at)))

      -- there is room for one more
      pub room_for_one : 0 < now.events.spare
      room_for_one =
          let spare = told.spare room.files room.file room.at in
          let more = ap (λ (ns : List ℕ). length ns) first in
          omega (arith, spare, more, room.enough)

      -- it comes after those
      pub after_those : from ≤ line
      after_those = (subst (IsLowestFrom from (is_bad_touched spans room.file.pages)) (sym (found room.files room.file (at_now room.files room.file room.at))) (next-lowest spans room.file.pages from)).0

      pub one_told : line < 16384 → (next : HeldFiles) → next.events.items ≡ now.events.items ++ line_event now.mappings.mappings name line ∷ [] → next.events.spare + 1 ≡ now.events.spare
          → next ≡ record now { events = next.events } → ToldUpTo name inode spans m start next (line + 1)
      one_told below next items spare others = record {
        few = omega (arith, below);
        others = others ∙ ap (λ (f : HeldFiles). record f { events = next.events }) told.others;
        events = λ files file at.
            told.events files file at
            ∙ ap (λ ns. now.events.items ++ events_of start.mappings.mappings name ns) (bad_from-next spans file.pages from line (sym (found files file (at_now files file at))))
            ∙ ap (λ (f : HeldFiles). now.events.items ++ line_event f.mappings.mappings name line ∷ events_of start.mappings.mappings name (bad_touched_from spans file.pages (line + 1))) (sym told.others)
            ∙ sym (append_assoc now.events.items (line_event now.mappings.mappings name line ∷ []) (events_of start.mappings.mappings name (bad_touched_from spans file.pages (line + 1))))
            ∙ ap (λ (es : List Event). es ++ events_of start.mappings.mappings name (bad_touched_from spans file.pages (line + 1))) (sym items);
        spare = λ files file at.
            let was = told.spare files file at in
            let more = ap (λ (ns : List ℕ). length ns) (bad_from-next spans file.pages from line (sym (found files file (at_now files file at)))) in omega (arith, was, more, spare);
      }

    -- all were told
    pub all_told : ((files : List File) (file : File) → IsFileAt now.pages.journal m inode files file → None ≡ next_bad_touched spans file.pages from) → LinesTold name inode spans m start now
    all_told none = record {
      events = λ files file at.
          sym (told.events files file at ∙ ap (λ ns. now.events.items ++ events_of start.mappings.mappings name ns) (bad_from-none spans file.pages from (sym (none files file (at_now files file at))))
          ∙ append-nil now.events.items);
      spare = λ files file at.
          let was = told.spare files file at in
          let left = ap (λ (ns : List ℕ). length ns) (bad_from-none spans file.pages from (sym (none files file (at_now files file at)))) in omega (arith, was, left);
      others = told.others;
    }
