-- Worked scripts with mappings: which of their commands change a byte of a file, and which make it durable.
use Rattle.std.specs.Prelude.{◌≡◌, ℕ, Bool, true, false, List, [], ◌∷◌, codes, map}
use Rattle.line_device.specs.Panel.{Start}
use Rattle.line_device.specs.declared.line.Choice.TheVariants.{Lasts}
use Rattle.nvm_base.specs.declared.files.Kind.TheVariants.{Shared}
use Rattle.nvm_model.specs.Storage.{Mapping}
use Rattle.reply_text.specs.Answer.{Answer}
use Rattle.reply_text.specs.Answer.Answer.{Done, DoneBad, Handle, DeviceFailed, PowerLost}
use Rattle.script_text.specs.Script.{inputs}
use Rattle.machine_model.specs.Performing.{perform}
use Rattle.machine_model.specs.Restarting.{fresh, zero_image}
use Rattle.machine_model.specs.WorkedScripts.{small, text}
use Rattle.durable.specs.Place.Place.{of_file}
use Rattle.durable.specs.Region.{holds}
use Rattle.durable.specs.Touching.{changes, made_durable}
use Rattle.durable.specs.Mapped.{Begun, commands_begun, exchanges, mapping_told, mappings_after}

-- the commands of a script that the machine begins on a fresh medium
abbrev pub begins : List (List ℕ) → List Start → List Begun
begins lines starts = commands_begun [] (inputs (text lines)) (perform (fresh small) (inputs (text lines)) starts).said.answers

-- which of some commands change a byte of a file, one by one, and which make it durable
abbrev pub changing : List ℕ → ℕ → List Begun → List Bool
changing name i commands = map (λ (c : Begun). changes c.mappings c.action (of_file name i)) commands

abbrev pub covering : List ℕ → ℕ → List Begun → List Bool
covering name i commands = map (λ (c : Begun). holds (made_durable small c.mappings c.action).region (of_file name i)) commands

-- the mappings that are told where lines are answered so
abbrev pub mapped : List (List ℕ) → List Answer → List Mapping
mapped lines answers = mappings_after [] (exchanges (inputs (text lines)) answers)

-- two lines of a file, each stored and flushed
abbrev pub two_lines : List Begun
two_lines =
    begins
    (codes "create a 1" ∷ codes "map a 0 4096 shared" ∷ codes "store 0 0 ff*8" ∷ codes "flush 0 0 8" ∷ codes "store 0 64 ff*8" ∷ codes "flush 0 64 8"
    ∷ [])
    []

-- a private mapping of it, and one of a part of it
abbrev pub copy_and_part : List Begun
copy_and_part =
    begins
    (codes "create a 1" ∷ codes "map a 0 4096 private" ∷ codes "map a 64 128 shared" ∷ codes "store 0 0 ff*8" ∷ codes "flush 0 0 8"
    ∷ codes "store 1 0 ff*8" ∷ codes "flush 1 0 8" ∷ [])
    []

-- handles of two files, of which one is taken
abbrev pub two_files_mapped : List Begun
two_files_mapped =
    begins
    (codes "create a 1" ∷ codes "create b 1" ∷ codes "map a 0 64 shared" ∷ codes "map b 0 64 shared" ∷ codes "store 1 0 ff" ∷ codes "flush 1 0 1"
    ∷ codes "unmap 1" ∷ codes "store 1 0 ff" ∷ [])
    []

-- a handle that is of another file after a restart
abbrev pub mapped_anew : List Begun
mapped_anew =
    begins
    (codes "create a 1" ∷ codes "map a 0 64 shared" ∷ codes "cut" ∷ codes "restart all" ∷ codes "create b 1" ∷ codes "map b 0 64 shared"
    ∷ codes "store 0 0 ff" ∷ codes "flush 0 0 1" ∷ [])
    (record { choice = Lasts; image = zero_image 5056 } ∷ [])

pub record MappedRows : Type 0 where
  pub first_line_stored : changing (codes "a") 0 two_lines ≡ true ∷ true ∷ false ∷ false ∷ false ∷ []
  pub first_line_flushed : covering (codes "a") 0 two_lines ≡ false ∷ false ∷ true ∷ false ∷ false ∷ []
  pub second_line_stored : changing (codes "a") 64 two_lines ≡ true ∷ false ∷ false ∷ true ∷ false ∷ []
  pub second_line_flushed : covering (codes "a") 64 two_lines ≡ false ∷ false ∷ false ∷ false ∷ true ∷ []
  pub copy_stored : changing (codes "a") 0 copy_and_part ≡ true ∷ false ∷ false ∷ false ∷ false ∷ []
  pub copy_flushed : covering (codes "a") 0 copy_and_part ≡ false ∷ false ∷ false ∷ false ∷ false ∷ []
  pub part_stored : changing (codes "a") 64 copy_and_part ≡ true ∷ false ∷ false ∷ true ∷ false ∷ []
  pub part_flushed : covering (codes "a") 64 copy_and_part ≡ false ∷ false ∷ false ∷ false ∷ true ∷ []
  pub one_file_stored : changing (codes "a") 0 two_files_mapped ≡ true ∷ false ∷ false ∷ false ∷ false ∷ []
  pub one_file_flushed : covering (codes "a") 0 two_files_mapped ≡ false ∷ false ∷ false ∷ false ∷ false ∷ []
  pub another_file_stored : changing (codes "b") 0 two_files_mapped ≡ false ∷ true ∷ true ∷ false ∷ false ∷ []
  pub another_file_flushed : covering (codes "b") 0 two_files_mapped ≡ false ∷ false ∷ false ∷ true ∷ false ∷ []
  pub before_a_restart : changing (codes "a") 0 mapped_anew ≡ true ∷ false ∷ false ∷ false ∷ false ∷ []
  pub stored_after_a_restart : changing (codes "b") 0 mapped_anew ≡ false ∷ false ∷ true ∷ true ∷ false ∷ []
  pub flushed_after_a_restart : covering (codes "b") 0 mapped_anew ≡ false ∷ false ∷ false ∷ false ∷ true ∷ []
  pub recovery_interrupted :
      mapped (codes "map a 0 64 shared" ∷ codes "store 0 0 ff" ∷ codes "recover" ∷ []) (Handle 7 ∷ DeviceFailed ∷ DeviceFailed ∷ [])
      ≡ mapping_told 7 (codes "a") (record { start = 0; len = 64 }) Shared ∷ []
  pub recovered : mapped (codes "map a 0 64 shared" ∷ codes "store 0 0 ff" ∷ codes "recover" ∷ []) (Handle 7 ∷ DeviceFailed ∷ DoneBad 0 ∷ []) ≡ []
  pub restart_interrupted : mapped (codes "map a 0 64 shared" ∷ codes "cut" ∷ codes "restart all" ∷ []) (Handle 7 ∷ Done ∷ PowerLost ∷ []) ≡ []
