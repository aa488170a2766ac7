-- A store that is not synced may be lost.
use Rattle.std.proofs.Common.{◌≡◌, ℕ, ◌+◌, ◌*◌, ◌<◌, Bool, true, false, cond, Option, Some, None, option_map, List, [], ◌∷◌, ◌++◌, length, replicate, slice_get, refl, sym, ap, subst, ◌∙◌, inl, arith}
use Rattle.std.proofs.lemmas.Option.{slice_get_within, same_Some}
use Rattle.line_device.specs.Word.{reaches, word_over}
use Rattle.line_device.specs.History.{IsIn, newest}
use Rattle.line_device.specs.Medium.{word_stored}
use Rattle.line_device.specs.Panel.{Image, Start}
use Rattle.line_device.specs.declared.line.Choice.TheVariants.{Firsts}
use Rattle.line_device.proofs.TornLemmas.{may_keep-in}
use Rattle.word_tables.specs.declared.geometry.Geometry.{Geometry}
use Rattle.word_tables.specs.Layout.{volume_line}
use Rattle.nvm_model.specs.Numbered.{list_from, map_from}
use Rattle.nvm_model.specs.Cell.{Cell, KeepsCell, MaySurvive, covers, put_cell, read_cell}
use Rattle.nvm_model.specs.Cell.Cell.{Bad, Kept}
use Rattle.nvm_model.specs.Page.{KeepsPages, cell_of, fill, put, read_pages, touches_absent}
use Rattle.nvm_model.proofs.NumberedLemmas.{length-list_from, length-map_from, slice_get-list_from, slice_get-map_from}
use Rattle.nvm_model.proofs.PageLemmas.{cell_of-put, cell_of-read_pages, presence_of-put, presence_of-read_pages, read_pages-there}
use Rattle.nvm_model.proofs.FillLemmas.{fill-nothing}
use Rattle.std.proofs.lemmas.Bool.{both_ways}
use Rattle.reply_text.specs.Answer.Answer.{Done}
use Rattle.script_text.specs.Action.Action.{Cut, Restart, VStore}
use Rattle.script_text.specs.Script.Input.{Asked}
use Rattle.machine_model.specs.declared.mode.Mode.TheVariants.{On, Off}
use Rattle.machine_model.specs.Machine.{Machine}
use Rattle.machine_model.specs.Commands.{refusal, spending}
use Rattle.machine_model.specs.Restarting.{mounted_answer, read_with, reading, restarted}
use Rattle.machine_model.specs.Lines.{bad_metadata}
use Rattle.durable.proofs.RefusalLemmas.{is_on}
use Rattle.pm_volume.specs.Presence.{presence_read}
use Rattle.file_journal.specs.Standing.{files_read}
use Rattle.file_journal.proofs.RestartLemmas.{keeps_files-read}
use Rattle.machine_model.specs.Run.{Run, Transcript, followed_by, silence, with_cut, with_start}
use Rattle.durable.specs.Durable.{Does}
use Rattle.durable.proofs.WrittenLemmas.{works_done}

-- the first value of a word that was stored over
first_kept : (at p x : ℕ) (bytes : List ℕ) → IsIn x (word_stored at bytes p (x ∷ []))
first_kept at p x bytes = by_test (reaches at (length bytes) p)
  where
    by_test : (b : Bool) → IsIn x (cond b ((x ∷ []) ++ word_over at bytes p (newest (x ∷ [])) ∷ []) (x ∷ []))
    by_test true = inl refl
    by_test false = inl refl

module _ (image : Image) (n at : ℕ) (bytes : List ℕ) where
  -- n is the line of the device
  word_kept : (line w : ℕ) (history : List ℕ) → slice_get (map_from (word_stored at bytes) (8 * line) (list_from (λ p. image.word p ∷ []) (8 * n) 8)) w ≡ Some history
      → MaySurvive image.unit Firsts history (image.word (8 * n + w))
  word_kept line w history found =
      let words = map_from (word_stored at bytes) (8 * line) (list_from (λ p. image.word p ∷ []) (8 * n) 8) in
      let small : w < 8 = omega (
        arith,
        slice_get_within words w history found,
        length-map_from (word_stored at bytes) (8 * line) (list_from (λ p. image.word p ∷ []) (8 * n) 8),
        length-list_from (λ p. image.word p ∷ []) (8 * n) 8,
      ) in
      let is : Some (word_stored at bytes (8 * line + w) (image.word (8 * n + w) ∷ [])) ≡ Some history =
      sym (slice_get-map_from (word_stored at bytes) (8 * line) (list_from (λ p. image.word p ∷ []) (8 * n) 8) w
      ∙ ap (option_map (word_stored at bytes (8 * line + w))) (slice_get-list_from (λ p. image.word p ∷ []) (8 * n) 8 w small)) ∙ found in
      let in_it : IsIn (image.word (8 * n + w)) history =
      subst (IsIn (image.word (8 * n + w))) (same_Some _ history is) (first_kept at (8 * line + w) (image.word (8 * n + w)) bytes) in
      record { was = may_keep-in image.unit (image.word (8 * n + w)) history in_it; last = λ lasts. cc lasts; whole = λ _. in_it }

  -- what was there before a store may be left of a line that it doesn't heal
  line_kept : (line : ℕ) → (covers at (length bytes) line ≡ true → image.is_bad n ≡ false) → KeepsCell Firsts image n (put_cell at bytes line (read_cell image n))
  line_kept line good = by_mark (image.is_bad n) refl
    where
      by_mark : (b : Bool) → image.is_bad n ≡ b
          → KeepsCell Firsts image n (put_cell at bytes line (cond b Bad (Kept (image.is_weak n) (list_from (λ p. image.word p ∷ []) (8 * n) 8))))
      by_mark false is = (is, refl, λ w history found. word_kept line w history found)
      by_mark true is = by_cover (covers at (length bytes) line) refl
        where
          by_cover : (c : Bool) → covers at (length bytes) line ≡ c
              → KeepsCell Firsts image n (cond c (Kept false (map_from (word_stored at bytes) (8 * line) (replicate 8 (0 ∷ [])))) Bad)
          by_cover true covered = absurd (both_ways (image.is_bad n) (good covered) is)
          by_cover false out = is

-- what was there before the store may be left of it
before_kept : (place : ℕ → ℕ) (image : Image) (there : List Bool) (at : ℕ) (bytes : List ℕ) → ((n : ℕ) → covers at (length bytes) n ≡ true → image.is_bad (place n) ≡ false)
    → KeepsPages Firsts place image (put at bytes (read_pages place image there))
before_kept place image there at bytes good n cell is = by_line (cell_of (read_pages place image there) n) refl (sym (cell_of-put at bytes (read_pages place image there) n) ∙ is)
  where
    by_line : (o : Option Cell) → cell_of (read_pages place image there) n ≡ o → option_map (put_cell at bytes n) o ≡ Some cell → KeepsCell Firsts image (place n) cell
    by_line None was none = cc none
    by_line (Some old) was found =
        let read : read_cell image (place n) ≡ old =
        same_Some _ old (sym (cell_of-read_pages place image there n (read_pages-there place image there n old was)) ∙ was) in
        subst (KeepsCell Firsts image (place n)) (ap (put_cell at bytes n) read ∙ same_Some _ cell found) (line_kept image (place n) at bytes n (good n))

-- the start that a restart may leave
abbrev again : Image → Start
again image = record { choice = Firsts; image = image }

abbrev pub off : Machine → Machine
off h = record h { mode = Off; cut_armed = false; fail_armed = false }

abbrev held : Geometry → Image → Machine
held geo image = record (read_with [] geo image) { unit = image.unit }

abbrev stored_over : Geometry → Image → ℕ → List ℕ → Machine
stored_over geo image at bytes = record (held geo image) { volume = put at bytes (held geo image).volume }

abbrev told : Machine → Image → Transcript
told h image =
    followed_by (with_cut Done)
    (followed_by (with_start (spending (off h) (Restart Firsts)) (again image) (mounted_answer (restarted (off h) image))) silence)

-- no line of metadata is bad where a machine that was read is on
good_metadata : (geo : Geometry) (image : Image) → (reading geo image).mode ≡ On → bad_metadata geo image.is_bad ≡ []
unfolding reading
good_metadata geo image on = by_list (bad_metadata geo image.is_bad) on
  where
    by_list : (bad : List ℕ) → (read_with bad geo image).mode ≡ On → bad ≡ []
    by_list [] on = refl
    by_list (line ∷ lines) on = cc on

held_is : (geo : Geometry) (image : Image) → bad_metadata geo image.is_bad ≡ [] → reading geo image ≡ held geo image
unfolding reading
held_is geo image none = ap (λ b. record (read_with b geo image) { unit = image.unit }) none

-- a restart comes back to it
back_at : (geo : Geometry) (image : Image) (h : Machine) → bad_metadata geo image.is_bad ≡ [] → reading geo image ≡ record (reading geo image) { cut_armed = false; fail_armed = false }
back_at geo image h none =
    held_is geo image none ∙ sym (ap (λ (m : Machine). record m { cut_armed = false; fail_armed = false }) (held_is geo image none))

lost : (geo : Geometry) (image : Image) (at : ℕ) (bytes : List ℕ) → bad_metadata geo image.is_bad ≡ []
    → ((n : ℕ) → covers at (length bytes) n ≡ true → image.is_bad (volume_line geo n) ≡ false)
    → Run (stored_over geo image at bytes) (Asked Cut ∷ Asked (Restart Firsts) ∷ []) (told (stored_over geo image at bytes) image) (reading geo image)
unfolding refusal
lost geo image at bytes none good =
    let h = stored_over geo image at bytes in
    let there = presence_read geo image.word in
    let pages = read_pages (volume_line geo) image there in (
      with_cut Done,
      followed_by (with_start (spending (off h) (Restart Firsts)) (again image) (mounted_answer (restarted (off h) image))) silence,
      off h,
      refl,
      (refl, refl),
      (
        with_start (spending (off h) (Restart Firsts)) (again image) (mounted_answer (restarted (off h) image)),
        silence,
        reading geo image,
        refl,
        (
          again image,
          mounted_answer (restarted (off h) image),
          refl,
          refl,
          record {
            unit = refl;
            metadata = none;
            storage = λ same. record {
              blocks = refl;
              left = put at bytes pages;
              may = refl;
              there = presence_of-put at bytes pages ∙ presence_of-read_pages (volume_line geo) image there;
              volume = before_kept (volume_line geo) image there at bytes good;
              files_left = files_read geo image;
              may_files = refl;
              files = keeps_files-read Firsts geo image;
            };
          },
          inl (refl, back_at geo image h none),
        ),
        (refl, refl),
      ),
    )

nothing_filled : (geo : Geometry) (image : Image) (at len : ℕ) → touches_absent at len (presence_read geo image.word) ≡ false
    → fill at len (held geo image).volume ≡ (held geo image).volume
nothing_filled geo image at len none =
    let there = presence_read geo image.word in
    fill-nothing at len (read_pages (volume_line geo) image there) (ap (touches_absent at len) (presence_of-read_pages (volume_line geo) image there) ∙ none)

pub unsynced : (geo : Geometry) (image : Image) (stored : Machine) (at : ℕ) (bytes : List ℕ) → touches_absent at (length bytes) (presence_read geo image.word) ≡ false
    → ((n : ℕ) → covers at (length bytes) n ≡ true → image.is_bad (volume_line geo n) ≡ false) → Does (reading geo image) (VStore at bytes) stored
    → (said : Transcript) × Run stored (Asked Cut ∷ Asked (Restart Firsts) ∷ []) said (reading geo image)
unsynced geo image stored at bytes present good does =
    let h = reading geo image in
    let done = works_done h (VStore at bytes) (record h { volume = put at bytes (fill at (length bytes) h.volume) }) stored refl does in
    let none : bad_metadata geo image.is_bad ≡ [] = good_metadata geo image (is_on h (VStore at bytes) refl done.0) in
    let is : stored ≡ stored_over geo image at bytes =
    done.1 ∙ ap (λ (m : Machine). record m { volume = put at bytes (fill at (length bytes) m.volume) }) (held_is geo image none)
    ∙ ap (λ p. record (held geo image) { volume = put at bytes p }) (nothing_filled geo image at (length bytes) present) in
    subst (λ m. (said : Transcript) × Run m (Asked Cut ∷ Asked (Restart Firsts) ∷ []) said (reading geo image)) {x = stored_over geo image at bytes} (sym is)
    (told (stored_over geo image at bytes) image, lost geo image at bytes none good)
