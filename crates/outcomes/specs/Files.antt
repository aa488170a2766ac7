-- What reads of files tell, file by file.
use Rattle.std.specs.Prelude.{◌*◌, ◌&&◌, ℕ, Bool, List, [], ◌∷◌, length, if◌then◌else◌}
use Rattle.std.specs.List.{list_all}
use Rattle.std.specs.Str.{bytes_eq}
use Rattle.nvm_model.specs.Listing.{file_name, has_file}
use Rattle.nvm_model.specs.Page.{Page, cell_of}
use Rattle.nvm_model.specs.Storage.{File}
use Rattle.reply_text.specs.declared.reply.Why.TheVariants as because
use Rattle.machine_model.specs.OnPages.{pages_named}
use Rattle.outcomes.specs.Pages.{PageRead, all_lines_read, is_refused_for, is_reply, line_fits}
use Rattle.outcomes.specs.Ways.{all_pass}

-- a read of the file of that name
pub record FileRead : Type 0 where
  pub name : List ℕ
  pub pages : PageRead

-- those of one file
abbrev pub reads_of : List ℕ → List FileRead → List PageRead
reads_of name [] = []
reads_of name (r ∷ reads) = if bytes_eq r.name name then r.pages ∷ reads_of name reads else reads_of name reads

-- the reply is one that a read has where there is such a file, of so many bytes, or none
abbrev pub is_reply_of : Bool → ℕ → PageRead → Bool
is_reply_of there size r = if there then is_reply size r else is_refused_for because.Missing r.reply

abbrev pub is_file_reply : List File → FileRead → Bool
is_file_reply files r = is_reply_of (has_file file_name r.name files) (4096 * length (pages_named r.name files)) r.pages

-- all lines of a file that are looked at may be read so
abbrev pub file_fits : List PageRead → List Page → Bool
file_fits reads pages = all_pass (line_fits reads) (cell_of pages) (all_lines_read reads)

-- All files may be read so, by a test of the pages of each; and where one is tested otherwise.
abbrev pub files_fit : (List ℕ → List PageRead → List Page → Bool) → List FileRead → List File → Bool
files_fit test reads files = list_all (λ (r : FileRead). is_file_reply files r && test r.name (reads_of r.name reads) (pages_named r.name files)) reads

abbrev pub each_file : List ℕ → List PageRead → List Page → Bool
each_file name reads pages = file_fits reads pages

abbrev pub all_but : List ℕ → (List PageRead → List Page → Bool) → List ℕ → List PageRead → List Page → Bool
all_but text test name reads pages = if bytes_eq text name then test reads pages else file_fits reads pages
