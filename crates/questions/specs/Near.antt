-- Comments that nearly ask something.
use Rattle.std.specs.Prelude.{◌&&◌, ◌||◌, ℕ, Bool, true, false, List, [], ◌∷◌, is_some, codes}
use Rattle.std.specs.Str.{str_eq_ignore_ascii_case}
use Rattle.nvm_base.specs.Numbers.{number_of}
use Rattle.questions.specs.Parts.{after_bar}

-- there is no word
abbrev pub is_over : List (List ℕ) → Bool
is_over [] = true
is_over (word ∷ words) = false

-- the first word passes a test
abbrev pub begins : (List ℕ → Bool) → List (List ℕ) → Bool
begins test [] = false
begins test (word ∷ words) = test word

-- a word, in any case, that stands alone where it asks
abbrev pub stands_alone : List ℕ → Bool
stands_alone word =
    str_eq_ignore_ascii_case word (codes "look") || (str_eq_ignore_ascii_case word (codes "table") || (str_eq_ignore_ascii_case word (codes "list")
    || (str_eq_ignore_ascii_case word (codes "begin") || (str_eq_ignore_ascii_case word (codes "refused") || (str_eq_ignore_ascii_case word (codes "unsynced")
    || str_eq_ignore_ascii_case word (codes "idle"))))))

-- one that stands before replies
abbrev pub asks_of_reads : List ℕ → Bool
asks_of_reads word =
    str_eq_ignore_ascii_case word (codes "never") || (str_eq_ignore_ascii_case word (codes "may") || str_eq_ignore_ascii_case word (codes "only"))

-- one with which a reply begins
abbrev pub begins_a_reply : List ℕ → Bool
begins_a_reply word =
    str_eq_ignore_ascii_case word (codes "data") || (str_eq_ignore_ascii_case word (codes "poison") || (str_eq_ignore_ascii_case word (codes "scarred")
    || (str_eq_ignore_ascii_case word (codes "refused") || str_eq_ignore_ascii_case word (codes "_"))))

-- replies seem to follow
abbrev pub seem_replies : List (List ℕ) → Bool
seem_replies words = is_some (after_bar words) || begins begins_a_reply words

-- it looks as if this word, and those behind it, were to ask something
abbrev pub is_near : List ℕ → List (List ℕ) → Bool
is_near word words =
    (stands_alone word && is_over words) || ((asks_of_reads word && seem_replies words)
    || (str_eq_ignore_ascii_case word (codes "from") && begins (λ w. is_some (number_of w)) words))
