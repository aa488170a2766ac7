-- The answers of refusals.
use Rattle.std.proofs.Common.{◌≡◌, ℕ, Bool, true, false, cond, Option, Some, None, option_map, option_and_then, List, [], ◌∷◌, refl}
use Rattle.nvm_model.specs.Blocks.{Obstacle, first_there}
use Rattle.nvm_model.specs.Blocks.Obstacle.{scar, bad_line}
use Rattle.block_device.specs.Refusals.{Refusal}
use Rattle.block_device.specs.Refusals.Refusal.{Range, Length, Limit, Overlap, Meta, Unreadable}
use Rattle.pm_volume.specs.Refusals.{VolumeRefusal}
use Rattle.pm_volume.specs.Refusals.VolumeRefusal.{Range as Past, Length as Empty, Address, Meta as BadMeta, Poison}
use Rattle.word_tables.specs.declared.geometry.Geometry.{Geometry}
use Rattle.reply_text.specs.declared.reply.Why.{Why}
use Rattle.reply_text.specs.Answer.{Answer}
use Rattle.reply_text.specs.Answer.Answer.{Done, DoneBad, Bytes, Ranges, Files, Handle, Happened, NoEvent, BadLines, Attribute, VerifyFile, Yes, No, Scarred, PoisonBlock as PoisonedBlock, PoisonVolume as PoisonedVolume, PoisonFile as PoisonedFile, DeviceFailed, PowerLost, Stopped as MountStopped, Refused, RefusedMeta}
use Rattle.script_text.specs.Action.{Action}
use Rattle.machine_model.specs.declared.mode.Mode.{Mode}
use Rattle.machine_model.specs.declared.mode.Mode.TheVariants.{On, Off, Unsettled, Stopped}
use Rattle.machine_model.specs.Meaning.{metadata_refusal, mode_refusal}
use Rattle.machine_model.specs.declared.needs.Needs.{Needs}
use Rattle.machine_model.specs.declared.needs.Needs.TheVariants.{Usable, Anytime, Powered, Unpowered, Failed}
use Rattle.marked_lines.specs.Refusals.{ScrubRefusal}
use Rattle.marked_lines.specs.Refusals.ScrubRefusal.{Range as Beyond, Nothing, NotPoisoned}
use Rattle.machine_model.specs.OnMedia.{line_answer}
use Rattle.machine_model.specs.OnBlocks.{refusal_answer}
use Rattle.machine_model.specs.OnVolume.{volume_answer}
use Rattle.machine_model.specs.OnPages.{page_answer}
use Rattle.file_pages.specs.Refusals.{PageRefusal}
use Rattle.file_pages.specs.Refusals.PageRefusal.{Range as NoBytes, Length as NoLength, Full as NoRoom, Meta as NoMeta, Poison as PoisonedLine}
use Rattle.file_actions.specs.Refusals.{ActionRefusal}
use Rattle.file_actions.specs.Refusals.ActionRefusal.{Range as OutOfFile, Length as NoneToWrite, Limit as TooMany, Overlap as Shared, Full as NoPages, Meta as BadTables, Poison as LostLine}
use Rattle.machine_model.specs.OnFileActions.{action_answer}
use Rattle.machine_model.specs.Commands.{early_refusal, meaning}

-- the answers of refusals
abbrev pub is_refused : Answer → Bool
is_refused Done = false
is_refused (DoneBad n) = false
is_refused (Bytes bytes) = false
is_refused (Ranges ranges) = false
is_refused (Files files) = false
is_refused (Handle n) = false
is_refused (Happened event) = false
is_refused NoEvent = false
is_refused (BadLines lines) = false
is_refused (Attribute value) = false
is_refused Yes = false
is_refused No = false
is_refused (Scarred block) = true
is_refused (PoisonedBlock block line) = true
is_refused (PoisonedVolume offset) = true
is_refused (PoisonedFile name offset) = true
is_refused (VerifyFile name offset) = false
is_refused DeviceFailed = false
is_refused PowerLost = false
is_refused (MountStopped line) = false
is_refused (Refused why) = true
is_refused (RefusedMeta line) = true

-- none, or one of a refusal
abbrev pub Refuses : Option Answer → Type 0
Refuses None = Unit {0}
Refuses (Some answer) = is_refused answer ≡ true

pub refuses_first : (a b : Option Answer) → Refuses a → Refuses b → Refuses (first_there a b)
refuses_first None b first second = second
refuses_first (Some answer) b first second = first

pub refuses_why : (o : Option Why) → Refuses (option_map Refused o)
refuses_why None = tt
refuses_why (Some why) = refl

pub refuses_refusal : (why : Refusal) → is_refused (refusal_answer why) ≡ true
refuses_refusal Range = refl
refuses_refusal Length = refl
refuses_refusal Limit = refl
refuses_refusal Overlap = refl
refuses_refusal (Meta line) = refl
refuses_refusal (Unreadable (scar block)) = refl
refuses_refusal (Unreadable (bad_line block line)) = refl

pub refuses_blocks : (o : Option Refusal) → Refuses (option_map refusal_answer o)
refuses_blocks None = tt
refuses_blocks (Some why) = refuses_refusal why

pub refuses_obstacle : (o : Option Obstacle) → Refuses (option_map (λ obstacle. refusal_answer (Unreadable obstacle)) o)
refuses_obstacle None = tt
refuses_obstacle (Some obstacle) = refuses_refusal (Unreadable obstacle)

pub refuses_volume_refusal : (why : VolumeRefusal) → is_refused (volume_answer why) ≡ true
refuses_volume_refusal Past = refl
refuses_volume_refusal Empty = refl
refuses_volume_refusal Address = refl
refuses_volume_refusal (BadMeta line) = refl
refuses_volume_refusal (Poison offset) = refl

pub refuses_volume : (o : Option VolumeRefusal) → Refuses (option_map volume_answer o)
refuses_volume None = tt
refuses_volume (Some why) = refuses_volume_refusal why

pub refuses_page_refusal : (name : List ℕ) (why : PageRefusal) → is_refused (page_answer name why) ≡ true
refuses_page_refusal name NoBytes = refl
refuses_page_refusal name NoLength = refl
refuses_page_refusal name NoRoom = refl
refuses_page_refusal name (NoMeta line) = refl
refuses_page_refusal name (PoisonedLine offset) = refl

pub refuses_pages : (name : List ℕ) (o : Option PageRefusal) → Refuses (option_map (page_answer name) o)
refuses_pages name None = tt
refuses_pages name (Some why) = refuses_page_refusal name why

pub refuses_action_refusal : (name : List ℕ) (why : ActionRefusal) → is_refused (action_answer name why) ≡ true
refuses_action_refusal name OutOfFile = refl
refuses_action_refusal name NoneToWrite = refl
refuses_action_refusal name TooMany = refl
refuses_action_refusal name Shared = refl
refuses_action_refusal name NoPages = refl
refuses_action_refusal name (BadTables line) = refl
refuses_action_refusal name (LostLine offset) = refl

pub refuses_actions : (name : List ℕ) (o : Option ActionRefusal) → Refuses (option_map (action_answer name) o)
refuses_actions name None = tt
refuses_actions name (Some why) = refuses_action_refusal name why

pub refuses_copy : (name : List ℕ) (shared : Bool) (o : Option PageRefusal) → Refuses (cond shared None (option_map (page_answer name) o))
refuses_copy name true o = tt
refuses_copy name false o = refuses_pages name o

pub refuses_line : (o : Option ScrubRefusal) → Refuses (option_map line_answer o)
refuses_line None = tt
refuses_line (Some Beyond) = refl
refuses_line (Some Nothing) = refl
refuses_line (Some NotPoisoned) = refl

pub refuses_span : (f : ℕ → Option VolumeRefusal) (o : Option ℕ) → Refuses (option_and_then (λ offset. option_map volume_answer (f offset)) o)
refuses_span f None = tt
refuses_span f (Some offset) = refuses_volume (f offset)

pub refuses_metadata : (changes : Bool) (lines : List ℕ) → Refuses (metadata_refusal changes lines)
refuses_metadata false lines = tt
refuses_metadata true [] = tt
refuses_metadata true (line ∷ lines) = refl

pub refuses_mode : (mode : Mode) (bad_meta : List ℕ) (needs : Needs) → Refuses (mode_refusal mode bad_meta needs)
refuses_mode On bad_meta Usable = tt
refuses_mode On bad_meta Anytime = tt
refuses_mode On bad_meta Powered = tt
refuses_mode On bad_meta Unpowered = refl
refuses_mode On bad_meta Failed = refl
refuses_mode Off bad_meta Usable = refl
refuses_mode Off bad_meta Anytime = tt
refuses_mode Off bad_meta Powered = refl
refuses_mode Off bad_meta Unpowered = tt
refuses_mode Off bad_meta Failed = refl
refuses_mode Unsettled bad_meta Usable = refl
refuses_mode Unsettled bad_meta Anytime = tt
refuses_mode Unsettled bad_meta Powered = tt
refuses_mode Unsettled bad_meta Unpowered = refl
refuses_mode Unsettled bad_meta Failed = tt
refuses_mode Stopped bad_meta Usable = refl
refuses_mode Stopped bad_meta Anytime = tt
refuses_mode Stopped bad_meta Powered = tt
refuses_mode Stopped bad_meta Unpowered = refl
refuses_mode Stopped bad_meta Failed = refl

pub refuses_early : (mode : Mode) (bad_meta : List ℕ) (geo : Geometry) (action : Action) → Refuses (early_refusal mode bad_meta geo action)
unfolding early_refusal
refuses_early mode bad_meta geo action = refuses_first _ _ (refuses_mode mode bad_meta (meaning action).needs) (refuses_why ((meaning action).checked geo))

pub refuses_unless : (why : Why) (b : Bool) → Refuses (cond b None (Some (Refused why)))
refuses_unless why true = tt
refuses_unless why false = refl

pub refuses_where : (why : Why) (b : Bool) → Refuses (cond b (Some (Refused why)) None)
refuses_where why true = refl
refuses_where why false = tt
