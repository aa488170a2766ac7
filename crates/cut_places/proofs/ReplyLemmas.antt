-- What some file answers to a read may be asked of it.
use Rattle.std.proofs.Common.{◌≡◌, ℕ, ◌*◌, ◌<◌, ◌&&◌, ◌||◌, nat_le, nat_lt, Bool, true, false, Option, Some, None, List, length, refl, sym, ap, ◌∙◌, arith}
use Rattle.std.specs.List.{list_all}
use Rattle.std.proofs.lemmas.Bool.{and_from, and_parts, le-leb, lt-ltb}
use Rattle.nvm_model.specs.Listing.{file_name, has_file}
use Rattle.nvm_model.specs.Page.{Page}
use Rattle.nvm_model.specs.Storage.{File, Mapping}
use Rattle.reply_text.specs.declared.reply.Why.{Why}
use Rattle.script_text.specs.Action.{Action}
use Rattle.sights.specs.MachineModel.Commands.{meaning}
use Rattle.sights.specs.MachineModel.Meaning.{FilesLeft, most_refusal}
use Rattle.sights.specs.MachineModel.Meaning.FilesLeft.{Unchanged, OldOrNew, StoredInPart, SyncedInPart}
use Rattle.sights.specs.MachineModel.OnPages.{pages_named}
use Rattle.sights.proofs.MachineModel.RefusalLemmas.{read_within}
use Rattle.sights.specs.Outcomes.Files.{FileRead, all_but, each_file, files_fit, is_file_reply, is_reply_of, reads_of}
use Rattle.sights.specs.Outcomes.Left.{files_may_pass, files_pass, stored_file, synced_file}
use Rattle.sights.specs.Outcomes.Pages.{PageRead, PageReply, is_given, is_reply_by}
use Rattle.sights.specs.Outcomes.Pages.PageReply.{Shows, Poison, Refuses}
use Rattle.sights.specs.AskedReads.Asking.{is_given_by_some, may_be_file_reply}
use Rattle.cut_places.proofs.AllLemmas.{all_so}

-- a read that is not refused has bytes, and not too many
limits : (size start len : ℕ) → most_refusal 65536 size start len ≡ None → (b : Bool) → b ≡ true → (nat_lt 0 len && (nat_le len 65536 && b)) ≡ true
limits size start len none b is =
    let parts = read_within 65536 size start len none in
    let some = parts.0 in
    and_from (nat_lt 0 len) (nat_le len 65536 && b) (lt-ltb 0 len (omega (arith, some))) (and_from (nat_le len 65536) b (le-leb len 65536 parts.2) is)

given_some : (size start len : ℕ) (reply : PageReply) (o : Option Why) → most_refusal 65536 size start len ≡ o → is_reply_by o start len reply ≡ true → is_given_by_some start len reply ≡ true
given_some size start len (Shows bytes) None none is = limits size start len none (is_given start len (Shows bytes)) is
given_some size start len (Poison at) None none is = limits size start len none (is_given start len (Poison at)) is
given_some size start len (Refuses why) None none is = refl
given_some size start len (Shows bytes) (Some why) refused is = cc is
given_some size start len (Poison at) (Some why) refused is = cc is
given_some size start len (Refuses other) (Some why) refused is = refl

of_file : (there : Bool) (size start len : ℕ) (reply : PageReply) → is_reply_of there size (record { start = start; len = len; reply = reply }) ≡ true → is_given_by_some start len reply ≡ true
of_file true size start len reply is = given_some size start len reply (most_refusal 65536 size start len) refl is
of_file false size start len (Shows bytes) is = cc is
of_file false size start len (Poison at) is = cc is
of_file false size start len (Refuses why) is = refl

fits_some : (test : List ℕ → List PageRead → List Page → Bool) (reads : List FileRead) (files : List File) → files_fit test reads files ≡ true → list_all may_be_file_reply reads ≡ true
fits_some test reads files fit =
    all_so (λ (r : FileRead). is_file_reply files r && test r.name (reads_of r.name reads) (pages_named r.name files)) may_be_file_reply reads
    (λ r among is. of_file (has_file file_name r.name files) (4096 * length (pages_named r.name files)) r.pages.start r.pages.len r.pages.reply
    (and_parts (is_file_reply files r) (test r.name (reads_of r.name reads) (pages_named r.name files)) is).0) fit

one_or_other : (a b c : Bool) → (a ≡ true → c ≡ true) → (b ≡ true → c ≡ true) → (a || b) ≡ true → c ≡ true
one_or_other true b c one other is = one refl
one_or_other false b c one other is = other is

pass_some : (left : FilesLeft) (reads : List FileRead) (old to : List File) → files_pass left reads old to ≡ true → list_all may_be_file_reply reads ≡ true
pass_some Unchanged reads old to pass = fits_some each_file reads old pass
pass_some OldOrNew reads old to pass =
    one_or_other (files_fit each_file reads old) (files_fit each_file reads to) (list_all may_be_file_reply reads) (fits_some each_file reads old) (fits_some each_file reads to) pass
pass_some (StoredInPart name offset bytes) reads old to pass = fits_some (all_but name (stored_file offset bytes)) reads old pass
pass_some (SyncedInPart name spans) reads old to pass = fits_some (all_but name (synced_file spans)) reads old pass

pub may_pass_some : (mappings : List Mapping) (o : Option Action) (reads : List FileRead) (files : List File) → files_may_pass mappings o reads files ≡ true
    → list_all may_be_file_reply reads ≡ true
may_pass_some mappings None reads files pass = fits_some each_file reads files pass
may_pass_some mappings (Some action) reads files pass = pass_some ((meaning action).files_left mappings) reads files ((meaning action).files mappings files) pass
