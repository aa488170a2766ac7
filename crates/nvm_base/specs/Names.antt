-- Names of files.
use Rattle.std.specs.Prelude.{◌≡◌, ℕ, ◌-◌, true, false, Bool, ◌&&◌, ◌||◌, ◌==◌, nat_le, List, ◌++◌, length, take, replicate, Option, Some, None, if◌then◌else◌}
use Rattle.std.specs.List.{list_all, before_first}
use Rattle.std.specs.Str.{bytes_eq}

-- a byte of names: a small letter, a digit, `.`, `_` or `-`
abbrev pub is_name_byte : ℕ → Bool
is_name_byte c = nat_le 97 c && nat_le c 122 || (nat_le 48 c && nat_le c 57) || c == 46 || c == 95 || c == 45

-- 1 to 32 of them
abbrev pub is_name : List ℕ → Bool
is_name text = nat_le 1 (length text) && nat_le (length text) 32 && list_all is_name_byte text

-- the name that a text is
abbrev pub name_of : List ℕ → Option (List ℕ)
name_of text = if is_name text then Some text else None

-- 32 bytes: the text, then zeros
abbrev pub padded : List ℕ → List ℕ
padded text = text ++ replicate (32 - length text) 0

-- the bytes before the first zero
abbrev pub text_in : List ℕ → List ℕ
text_in bytes = before_first (λ c. c == 0) bytes

-- the name that is padded to these bytes
abbrev pub name_in : List ℕ → Option (List ℕ)
name_in bytes = if is_name (text_in bytes) && bytes_eq (padded (text_in bytes)) bytes then Some (text_in bytes) else None

-- how a name is kept: padded, and with its length
pub record KeepsName (bytes : List ℕ) (len : ℕ) : Type 0 where
  pub name : is_name (take len bytes) ≡ true
  pub size : length (take len bytes) ≡ len
  pub zeros : padded (take len bytes) ≡ bytes
