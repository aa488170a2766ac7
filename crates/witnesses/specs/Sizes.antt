-- What is kept of whether files are there, and how long they are.
use Rattle.std.specs.Prelude.{◌/◌, ◌==◌, ◌&&◌, ℕ, Bool, true, false, not, List, map, nat_lt, Option, Some, None}
use Rattle.std.specs.List.{list_any}
use Rattle.std.specs.Str.{bytes_eq}
use Rattle.nvm_model.specs.Listing.{file_of}
use Rattle.script_text.specs.Action.{Action}
use Rattle.cut_places.specs.Outcomes.Files.{FileRead}
use Rattle.cut_places.specs.FilesState.{FileState, FilesState, name_seen}
use Rattle.witnesses.specs.declared.size_kept.SizeKept.{SizeKept}
use Rattle.witnesses.specs.Files.{files_made, left_there}

-- how many pages a file has, None where there is none; and the file of a name
abbrev pub pages_in : Option FileState → Option ℕ
pages_in None = None
pages_in (Some file) = Some file.pages

abbrev pub pages_of : FilesState → List ℕ → Option ℕ
pages_of s name = pages_in (file_of name_seen name s.files)

abbrev pub same_pages : Option ℕ → Option ℕ → Bool
same_pages None None = true
same_pages None (Some others) = false
same_pages (Some pages) None = false
same_pages (Some pages) (Some others) = pages == others

-- what is kept of it, where files are now such, are made such, and are left so
abbrev pub size_kept : FilesState → FilesState → FilesState → List ℕ → SizeKept
size_kept now made left name = record { name = name; pages = pages_of left name; free = not (same_pages (pages_of now name) (pages_of made name)) }

-- and of the file of each read
abbrev pub size_read : FilesState → FilesState → FilesState → FileRead → SizeKept
size_read now made left r = size_kept now made left r.name

abbrev pub sizes_kept : Option Action → List FileRead → List FileRead → FilesState → List SizeKept
sizes_kept inside reads looked s = map (size_read s (files_made inside s) (left_there inside reads s)) looked

-- of which files it is, and of which reads
abbrev pub names_of_sizes : List SizeKept → List (List ℕ)
names_of_sizes sizes = map (λ k. k.name) sizes

abbrev pub names_read : List FileRead → List (List ℕ)
names_read reads = map (λ (r : FileRead). r.name) reads

-- line n is before the end of a file of that number of pages; and a line of a file, by what is kept of their lengths
abbrev pub is_before_end : ℕ → Option ℕ → Bool
is_before_end n None = false
is_before_end n (Some pages) = nat_lt (n / 64) pages

abbrev pub has_line : List SizeKept → List ℕ × ℕ → Bool
has_line sizes place = list_any (λ (k : SizeKept). bytes_eq k.name place.0 && is_before_end place.1 k.pages) sizes
