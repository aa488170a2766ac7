-- A commit, by what is durable after each of its steps, and what each image replays to then.
use Rattle.std.proofs.Common.{◌≡◌, ◌⊎◌, inl, inr, ℕ, false, None, ◌/◌, ◌<◌, ◌≤◌, List, length, IsTrue, sym, ◌∙◌, subst, arith}
use Rattle.line_device.specs.History.{IsIn}
use Rattle.line_device.specs.Medium.{Medium, WritesBack, IsSound, last_image}
use Rattle.line_device.proofs.TornLemmas.{torn-bit, torn-in, torn-only, torn-word_write_back}
use Rattle.word_log.specs.declared.area.LogArea.{LogArea}
use Rattle.word_log.specs.Area.{gate_place, count_place, entry_place, Fits, IsLog, IsHome, IsOf, IsWhole}
use Rattle.word_log.specs.Changes.{changed, lists, MayCommit}
use Rattle.word_log.specs.Replay.{first_wrong, replayed, Replays}
use Rattle.line_words.specs.Words.{WritesBackOutside}
use Rattle.word_log.specs.Rest.{IsImageOn, EachImage, IsAtRest, IsReached}
use Rattle.line_words.specs.Words.{IsOnly}
use Rattle.word_log.specs.Protocol.{IsBehindGate, IsRecorded, IsWritten, IsOpen}
use Rattle.word_log.proofs.ChangeLemmas.{listed_or, lists_not, changed-listed, changed-unlisted}
use Rattle.word_log.proofs.EntryLemmas.{entries-cong}
use Rattle.word_log.proofs.FrameLemmas.{fits-outside}
use Rattle.line_words.proofs.FrameLemmas.{is_only-outside, is_only-write_back, newest-outside, outside-wider}
use Rattle.word_log.proofs.StepLemmas.{behind_gate-entries}
use Rattle.word_log.proofs.ReplayLemmas.{replays_closed, replays_open}

pub gate_of : (a : LogArea) (m : Medium) → Fits a m → IsOf a (gate_place a)
gate_of a m fits = inl (omega arith, omega (arith, fits.shape.len))

pub behind_gate_of : (a : LogArea) (p : ℕ) → IsBehindGate a p → IsLog a p
behind_gate_of a p h = (omega (arith, h), h.1)

pub written-outside : (a : LogArea) (cs : List (ℕ × ℕ)) (inside : ℕ → Type 0) (old new : Medium) → ((p : ℕ) → IsBehindGate a p → inside p → ⊥) → Fits a new → IsWritten a cs old → WritesBackOutside inside old new → IsWritten a cs new
written-outside a cs inside old new apart fits was x =
    let at : (p : ℕ) → entry_place a 0 ≤ p → p < entry_place a (length cs) → inside p → ⊥ =
    λ p from to. apart p (behind_gate-entries a cs old p was.fits was.taken.few from to) in
    record {
      fits = fits;
      taken = was.taken;
      recorded = record {
        count = is_only-outside inside old new (count_place a) (length cs) x (apart (count_place a) (omega arith, omega (arith, was.fits.shape.len))) was.recorded.count;
        entries =
            entries-cong (last_image new) (last_image old) (entry_place a 0) (length cs) (λ p from to. newest-outside inside old new p x (at p from (omega arith)))
            ∙ was.recorded.entries;
        durable = λ p from to.
            subst (λ v. IsOnly v (new.history p)) (sym (newest-outside inside old new p x (at p from to)))
            (is_only-outside inside old new p (last_image old p) x (at p from to) (was.recorded.durable p from to));
      };
    }

-- an image with the gate open
pub image_open : (a : LogArea) (cs : List (ℕ × ℕ)) (words image : ℕ → ℕ) (m : Medium) → IsWritten a cs m → ((p : ℕ) → IsHome a p → lists cs p ≡ false → IsOnly (words p) (m.history p)) → IsImageOn a m image → image (gate_place a) ≡ 1 → Replays a image (changed cs words)
image_open a cs words image m written home is gate =
    let recorded = written.recorded in
    replays_open a cs image words gate
    (torn-only (length cs) (image (count_place a)) (m.history (count_place a)) recorded.count (is (count_place a) (inl (omega arith, omega (arith, written.fits.shape.len)))))
    (entries-cong image (last_image m) (entry_place a 0) (length cs) (λ p from to.
    let behind = behind_gate-entries a cs m p written.fits written.taken.few from (omega arith) in
    torn-only (last_image m p) (image p) (m.history p) (recorded.durable p from (omega arith)) (is p (inl (behind_gate_of a p behind))))
    ∙ recorded.entries)
    written.taken
    (λ p in_home out. torn-only (words p) (image p) (m.history p) (home p in_home out) (is p (inr in_home)))

-- an image with the gate closed
pub image_closed : (a : LogArea) (words image : ℕ → ℕ) (m : Medium) → ((p : ℕ) → IsHome a p → IsOnly (words p) (m.history p)) → IsImageOn a m image → image (gate_place a) ≡ 0 → Replays a image words
image_closed a words image m home is gate = replays_closed a image words gate (λ p in_home. torn-only (words p) (image p) (m.history p) (home p in_home) (is p (inr in_home)))

pub images_rest : (a : LogArea) (words : ℕ → ℕ) (m : Medium) → Fits a m → IsAtRest a m words → EachImage a m (λ image. Replays a image words)
images_rest a words m fits rest image is = image_closed a words image m rest.home is (torn-only 0 (image (gate_place a)) (m.history (gate_place a)) rest.gate (is (gate_place a) (gate_of a m fits)))

-- entries are written behind a closed gate
pub rest-outside : (a : LogArea) (words : ℕ → ℕ) (old new : Medium) → Fits a old → IsAtRest a old words → WritesBackOutside (IsBehindGate a) old new → IsAtRest a new words
rest-outside a words old new fits rest x = record {
  gate = is_only-outside (IsBehindGate a) old new (gate_place a) 0 x (λ behind. omega (arith, behind)) rest.gate;
  home = λ p in_home. is_only-outside (IsBehindGate a) old new p (words p) x (λ behind. fits.shape.apart p (behind_gate_of a p behind) in_home) (rest.home p in_home);
}

not_gate : (a : LogArea) (p : ℕ) → IsBehindGate a p → p ≡ gate_place a → ⊥
not_gate a p behind is = omega (arith, behind)

home_not_gate : (a : LogArea) (m : Medium) (p : ℕ) → Fits a m → IsHome a p → p ≡ gate_place a → ⊥
home_not_gate a m p fits in_home is = fits.shape.apart p (omega arith, omega (arith, fits.shape.len)) in_home

-- the gate is being opened
pub images_opening : (a : LogArea) (cs : List (ℕ × ℕ)) (words : ℕ → ℕ) (old new : Medium) → IsWritten a cs old → IsAtRest a old words → Fits a new → WritesBackOutside (λ p. p ≡ gate_place a) old new → ((x : ℕ) → IsIn x (new.history (gate_place a)) → IsIn x (old.history (gate_place a)) ⊎ (x ≡ 1)) → EachImage a new (λ image. Replays a image words ⊎ Replays a image (changed cs words))
images_opening a cs words old new written rest fits x either image is =
    let home : (p : ℕ) → IsHome a p → IsOnly (words p) (new.history p) =
    λ p in_home. is_only-outside (λ q. q ≡ gate_place a) old new p (words p) x (home_not_gate a old p written.fits in_home) (rest.home p in_home) in
    let now = written-outside a cs (λ q. q ≡ gate_place a) old new (not_gate a) fits written x in
    elim (torn-bit (image (gate_place a)) (new.history (gate_place a)) (λ v at. bit-opening v (either v at)) (is (gate_place a) (gate_of a new fits))) as (λ _. Replays a image words ⊎ Replays a image (changed cs words)) [
      | inl closed_ ↦ inl (image_closed a words image new home is closed_)
      | inr open_ ↦ inr (image_open a cs words image new now (λ p in_home _. home p in_home) is open_)
    ]
  where
    bit-opening : (v : ℕ) → IsIn v (old.history (gate_place a)) ⊎ (v ≡ 1) → (v ≡ 0) ⊎ (v ≡ 1)
    bit-opening v h = elim h as (λ _. (v ≡ 0) ⊎ (v ≡ 1)) [ inl was ↦ inl (rest.gate v was) | inr is ↦ inr is ]

pub images_open : (a : LogArea) (cs : List (ℕ × ℕ)) (words : ℕ → ℕ) (m : Medium) → IsOpen a cs words m → EachImage a m (λ image. Replays a image (changed cs words))
images_open a cs words m open_ image is =
    image_open a cs words image m open_.written open_.home is (torn-only 1 (image (gate_place a)) (m.history (gate_place a)) open_.gate (is (gate_place a) (gate_of a m open_.written.fits)))

pub opened : (a : LogArea) (cs : List (ℕ × ℕ)) (words : ℕ → ℕ) (old new : Medium) → IsWritten a cs old → IsAtRest a old words → Fits a new → WritesBackOutside (λ p. p ≡ gate_place a) old new → IsOnly 1 (new.history (gate_place a)) → IsOpen a cs words new
opened a cs words old new written rest fits x gate = record {
  written = written-outside a cs (λ q. q ≡ gate_place a) old new (not_gate a) fits written x;
  gate = gate;
  home = λ p in_home _. is_only-outside (λ q. q ≡ gate_place a) old new p (words p) x (home_not_gate a old p written.fits in_home) (rest.home p in_home);
}

-- the listed home words are being stored
pub open-outside : (a : LogArea) (cs : List (ℕ × ℕ)) (words : ℕ → ℕ) (old new : Medium) → IsOpen a cs words old → Fits a new → WritesBackOutside (λ p. IsTrue (lists cs p)) old new → IsOpen a cs words new
open-outside a cs words old new open_ fits x =
    let inside : ℕ → Type 0 = λ p. IsTrue (lists cs p) in
    let written = open_.written in
    record {
      written = written-outside a cs inside old new (λ p behind h. written.fits.shape.apart p (behind_gate_of a p behind) (written.taken.home p h)) fits written x;
      gate = is_only-outside inside old new (gate_place a) 1 x (λ h. home_not_gate a old (gate_place a) written.fits (written.taken.home (gate_place a) h) (λ i. gate_place a)) open_.gate;
      home = λ p in_home out. is_only-outside inside old new p (words p) x (λ h. lists_not (lists cs p) out h) (open_.home p in_home out);
    }

-- the home words have their values durably
pub record IsApplied (a : LogArea) (cs : List (ℕ × ℕ)) (words : ℕ → ℕ) (m : Medium) : Type 0 where
  pub open_ : IsOpen a cs words m
  pub changed : (p : ℕ) → IsHome a p → IsOnly (changed cs words p) (m.history p)

pub applied : (a : LogArea) (cs : List (ℕ × ℕ)) (words before : ℕ → ℕ) (m : Medium) → IsOpen a cs words m → ((p : ℕ) → IsTrue (lists cs p) → IsOnly (changed cs before p) (m.history p)) → IsApplied a cs words m
applied a cs words before m open_ durable = record {
  open_ = open_;
  changed = λ p in_home.
      elim (listed_or (lists cs p)) as (λ _. IsOnly (changed cs words p) (m.history p)) [
        | inl is ↦ subst (λ v. IsOnly v (m.history p)) (changed-listed cs before words p is) (durable p is)
        | inr out ↦ subst (λ v. IsOnly v (m.history p)) (sym (changed-unlisted cs words p out)) (open_.home p in_home out)
      ];
}

-- the gate is being closed
pub images_closing : (a : LogArea) (cs : List (ℕ × ℕ)) (words : ℕ → ℕ) (old new : Medium) → IsApplied a cs words old → Fits a new → WritesBackOutside (λ p. p ≡ gate_place a) old new → ((x : ℕ) → IsIn x (new.history (gate_place a)) → IsIn x (old.history (gate_place a)) ⊎ (x ≡ 0)) → EachImage a new (λ image. Replays a image (changed cs words))
images_closing a cs words old new applied_ fits x either image is =
    let written = applied_.open_.written in
    let home : (p : ℕ) → IsHome a p → IsOnly (changed cs words p) (new.history p) =
    λ p in_home. is_only-outside (λ q. q ≡ gate_place a) old new p (changed cs words p) x (home_not_gate a old p written.fits in_home) (applied_.changed p in_home) in
    let unlisted : (p : ℕ) → IsHome a p → lists cs p ≡ false → IsOnly (words p) (new.history p) =
    λ p in_home out. subst (λ v. IsOnly v (new.history p)) (changed-unlisted cs words p out) (home p in_home) in
    let now = written-outside a cs (λ q. q ≡ gate_place a) old new (not_gate a) fits written x in
    elim (torn-bit (image (gate_place a)) (new.history (gate_place a)) (λ v at. bit-closing v (either v at)) (is (gate_place a) (gate_of a new fits))) as (λ _. Replays a image (changed cs words)) [
      | inl closed_ ↦ image_closed a (changed cs words) image new home is closed_
      | inr open_ ↦ image_open a cs words image new now unlisted is open_
    ]
  where
    bit-closing : (v : ℕ) → IsIn v (old.history (gate_place a)) ⊎ (v ≡ 0) → (v ≡ 0) ⊎ (v ≡ 1)
    bit-closing v h = elim h as (λ _. (v ≡ 0) ⊎ (v ≡ 1)) [ inl was ↦ inr (applied_.open_.gate v was) | inr is ↦ inl is ]

pub closed : (a : LogArea) (cs : List (ℕ × ℕ)) (words : ℕ → ℕ) (old new : Medium) → IsApplied a cs words old → WritesBackOutside (λ p. p ≡ gate_place a) old new → IsOnly 0 (new.history (gate_place a)) → IsAtRest a new (changed cs words)
closed a cs words old new applied_ x gate = record {
  gate = gate;
  home = λ p in_home. is_only-outside (λ q. q ≡ gate_place a) old new p (changed cs words p) x (home_not_gate a old p applied_.open_.written.fits in_home) (applied_.changed p in_home);
}

-- each step stays within log and home
pub outside-gate : (a : LogArea) (m old new : Medium) → Fits a m → WritesBackOutside (λ p. p ≡ gate_place a) old new → WritesBackOutside (IsOf a) old new
outside-gate a m old new fits x = outside-wider (λ p. p ≡ gate_place a) (IsOf a) old new (λ p is. inl (omega arith, omega (arith, fits.shape.len))) x

pub outside-behind_gate : (a : LogArea) (old new : Medium) → WritesBackOutside (IsBehindGate a) old new → WritesBackOutside (IsOf a) old new
outside-behind_gate a old new x = outside-wider (IsBehindGate a) (IsOf a) old new (λ p behind. inl (behind_gate_of a p behind)) x

pub outside-listed : (a : LogArea) (cs : List (ℕ × ℕ)) (old new : Medium) → MayCommit a cs → WritesBackOutside (λ p. IsTrue (lists cs p)) old new → WritesBackOutside (IsOf a) old new
outside-listed a cs old new taken x = outside-wider (λ p. IsTrue (lists cs p)) (IsOf a) old new (λ p h. inr (taken.home p h)) x

-- after the home words are durable
pub open-applied : (a : LogArea) (cs : List (ℕ × ℕ)) (words : ℕ → ℕ) (old new : Medium) → IsOpen a cs words old → WritesBackOutside (λ p. IsTrue (lists cs p)) old new → ((p : ℕ) → IsTrue (lists cs p) → IsOnly (changed cs (last_image old) p) (new.history p)) → IsApplied a cs words new
open-applied a cs words old new open_ x durable =
    applied a cs words (last_image old) new (open-outside a cs words old new open_ (fits-outside a (λ p. IsTrue (lists cs p)) old new open_.written.fits x) x) durable

-- words of log and home are on the device
pub on_device : (a : LogArea) (m : Medium) (p : ℕ) → Fits a m → IsOf a p → p / 8 < m.count
on_device a m p fits of = elim of as (λ _. p / 8 < m.count) [ inl log ↦ omega (arith, fits.log, log) | inr home ↦ omega (arith, fits.home, home) ]

-- lines that were written back
pub reached_write_back : (a : LogArea) (old new : Medium) → WritesBack old new → EachImage a new (IsReached a old)
reached_write_back a old new x image is = record {
  before = image;
  was = λ p of. torn-word_write_back (old.is_weak (p / 8)) (image p) (old.history p) (new.history p) (x.word_write_back p) (is p of);
  same = inl (λ p of i. image p);
}

-- a replay of the last image
pub reached_last : (a : LogArea) (old : Medium) (image : ℕ → ℕ) → IsSound old → Fits a old → IsWhole a old → first_wrong a (last_image old) ≡ None → Replays a image (replayed a (last_image old)) → IsReached a old image
reached_last a old image sound fits whole valid replays = record {
  before = last_image old;
  was = λ p of. torn-in (last_image old p) (old.history p) (sound.last p (on_device a old p fits of, whole p of));
  same = inr (valid, replays);
}

-- the gate was opened on entries that were written on a log at rest
pub opened_from : (a : LogArea) (cs : List (ℕ × ℕ)) (words : ℕ → ℕ) (old entered new : Medium) → Fits a old → MayCommit a cs → IsAtRest a old words → WritesBackOutside (IsBehindGate a) old entered → IsRecorded a cs entered → WritesBackOutside (λ p. p ≡ gate_place a) entered new → IsOnly 1 (new.history (gate_place a)) → IsOpen a cs words new
opened_from a cs words old entered new fits taken rest x recorded y gate =
    let fits_entered = fits-outside a (IsBehindGate a) old entered fits x in
    opened a cs words entered new (record { fits = fits_entered; taken = taken; recorded = recorded }) (rest-outside a words old entered fits rest x)
    (fits-outside a (λ p. p ≡ gate_place a) entered new fits_entered y) y gate

-- writing_back leaves a log at rest
pub rest-write_back : (a : LogArea) (words : ℕ → ℕ) (old new : Medium) → IsAtRest a old words → WritesBack old new → IsAtRest a new words
rest-write_back a words old new rest x = record {
  gate = is_only-write_back old new (gate_place a) 0 x rest.gate;
  home = λ p in_home. is_only-write_back old new p (words p) x (rest.home p in_home);
}
