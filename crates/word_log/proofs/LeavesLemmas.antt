-- What a mount of a log leaves, by what it has done.
use Rattle.std.proofs.Common.{◌≡◌, None, ◌∙◌, subst}
use Rattle.line_device.specs.Medium.{Medium, IsSound, WritesBack, last_image}
use Rattle.line_device.proofs.WriteBackLemmas.{newest-write_back, write_back-trans}
use Rattle.line_words.specs.Words.{WritesBackOutside}
use Rattle.line_words.proofs.FrameLemmas.{last_image-write_back, outside-trans, outside-write_back}
use Rattle.word_log.specs.declared.area.LogArea.{LogArea}
use Rattle.word_log.specs.Area.{Fits, IsOf, IsWhole, gate_place}
use Rattle.word_log.specs.Leaving.{LeavesLog}
use Rattle.word_log.specs.Mount.{Finding, IsFound}
use Rattle.word_log.specs.Mount.Finding.{bad_line, wrong_word}
use Rattle.word_log.specs.Replay.{Replays, first_wrong, replayed}
use Rattle.word_log.specs.Rest.{EachImage}
use Rattle.word_log.proofs.HomeLemmas.{images-write_back}
use Rattle.word_log.proofs.PhaseLemmas.{reached_last, reached_write_back}

-- it has only looked
pub leaves-write_back : (a : LogArea) (old new : Medium) → WritesBack old new → LeavesLog a old new
leaves-write_back a old new x = record { images = reached_write_back a old new x; wrong = λ _ _. x; closed = λ _. x; outside = outside-write_back (IsOf a) old new x }

-- it has looked since
pub leaves-then : (a : LogArea) (old now new : Medium) → LeavesLog a old now → WritesBack now new → LeavesLog a old new
leaves-then a old now new was x = record {
  images = images-write_back a old now new was.images x;
  wrong = λ why found. write_back-trans old now new (was.wrong why found) x;
  closed = λ gate. write_back-trans old now new (was.closed gate) x;
  outside = outside-trans (IsOf a) old now new was.outside (outside-write_back (IsOf a) now new x);
}

not_found : (a : LogArea) (m : Medium) → IsWhole a m → first_wrong a (last_image m) ≡ None → (why : Finding) → IsFound a m why → ⊥
not_found a m whole valid (bad_line line) found = let good = whole found.0.0 found.0.1 in let at = found.0.2 in let bad = found.1 in cc
not_found a m whole valid (wrong_word place) found = let wrong = found.1 in cc

-- a valid log was made durable, and then replayed
pub leaves-replayed : (a : LogArea) (old now new : Medium) → IsSound old → Fits a old → IsWhole a old × (first_wrong a (last_image old) ≡ None) → WritesBack old now
    → EachImage a new (λ image. Replays a image (replayed a (last_image now))) → (last_image now (gate_place a) ≡ 0 → WritesBack now new) → WritesBackOutside (IsOf a) now new
    → LeavesLog a old new
leaves-replayed a old now new sound fits right x images closed outside = record {
  images = λ image is.
      reached_last a old image sound fits right.0 right.1
      (subst (λ words. Replays a image (replayed a words)) (last_image-write_back old now x) (images image is));
  wrong = λ why found. absurd (not_found a old right.0 right.1 why found);
  closed = λ gate. write_back-trans old now new x (closed (newest-write_back old now x (gate_place a) ∙ gate));
  outside = outside-trans (IsOf a) old now new (outside-write_back (IsOf a) old now x) outside;
}
