-- Worked scripts with weak lines: whether one of their commands makes a byte durable in place while its line is weak.
use Rattle.std.specs.Prelude.{◌≡◌, ◌++◌, ℕ, Bool, true, false, List, [], ◌∷◌, codes}
use Rattle.reply_text.specs.Answer.Answer.{Done, Handle, PowerLost}
use Rattle.script_text.specs.Script.{inputs}
use Rattle.machine_model.specs.WorkedScripts.{small, text}
use Rattle.durable.specs.Place.{Place}
use Rattle.durable.specs.Place.Place.{of_file, of_volume}
use Rattle.durable.specs.Mapped.{commands_begun}
use Rattle.durable.specs.Durable.{is_worn}
use Rattle.durable.specs.MappedRows.{begins}

-- whether one does on a fresh medium
abbrev pub worn : Place → List (List ℕ) → Bool
worn x lines = is_worn small x false (begins lines [])

-- two files with bytes, of which handles 0 and 1 are, and 2 is of a copy
abbrev pub with_files : List (List ℕ) → List (List ℕ)
with_files lines =
    (codes "create a 1" ∷ codes "create b 1" ∷ codes "fwrite a 0 01*128" ∷ codes "fwrite b 0 01*64" ∷ codes "map a 0 128 shared"
    ∷ codes "map b 0 64 shared" ∷ codes "map a 0 128 private" ∷ [])
    ++ lines

pub record WornRows : Type 0 where
  pub weak_and_then_flushed : worn (of_file (codes "a") 0) (with_files (codes "weaken file a 0" ∷ codes "flush 0 0 1" ∷ [])) ≡ true
  pub flushed_and_then_weak : worn (of_file (codes "a") 0) (with_files (codes "flush 0 0 1" ∷ codes "weaken file a 0" ∷ [])) ≡ false
  pub flushed_before_and_after :
      worn (of_file (codes "a") 0) (with_files (codes "flush 0 0 1" ∷ codes "weaken file a 0" ∷ codes "load 0 0 1" ∷ codes "sync 0 0 1" ∷ [])) ≡ true
  pub another_line : worn (of_file (codes "a") 0) (with_files (codes "weaken file a 0" ∷ codes "flush 0 64 1" ∷ [])) ≡ false
  pub another_line_weak : worn (of_file (codes "a") 0) (with_files (codes "weaken file a 64" ∷ codes "flush 0 0 1" ∷ [])) ≡ false
  pub another_file : worn (of_file (codes "a") 0) (with_files (codes "weaken file a 0" ∷ codes "flush 1 0 1" ∷ codes "fsync b" ∷ [])) ≡ false
  pub copy_flushed : worn (of_file (codes "a") 0) (with_files (codes "weaken file a 0" ∷ codes "flush 2 0 1" ∷ [])) ≡ false
  pub written_anew : worn (of_file (codes "a") 0) (with_files (codes "weaken file a 0" ∷ codes "fatomic a 0 02" ∷ [])) ≡ false
  pub of_the_volume : worn (of_volume 64) (codes "vstore 0 01*128" ∷ codes "weaken volume 64" ∷ codes "vsync 0 65" ∷ []) ≡ true
  pub beside_it : worn (of_volume 63) (codes "vstore 0 01*128" ∷ codes "weaken volume 64" ∷ codes "vsync 0 65" ∷ []) ≡ false
  pub flush_interrupted :
      is_worn small (of_file (codes "a") 0) false
      (commands_begun [] (inputs (text (codes "map a 0 64 shared" ∷ codes "weaken file a 0" ∷ codes "flush 0 0 1" ∷ [])))
      (Handle 0 ∷ Done ∷ PowerLost ∷ []))
      ≡ true
