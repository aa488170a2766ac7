-- The lines of a workload.
use Rattle.std.specs.Prelude.{ℕ, zero, suc, ◌+◌, ◌*◌, ◌/◌, ◌%◌, ◌^◌, ◌==◌, ◌&&◌, Bool, List, [], ◌∷◌, ◌++◌, replicate, slice_index_or, if◌then◌else◌, codes, decimal}
use Rattle.nvm_base.specs.Data.{data_text}

-- the state after a draw
abbrev pub stepped : ℕ → ℕ
stepped x = (x * 6364136223846793005 + 1442695040888963407) % 2 ^ 64

-- what a draw that led to this state gave: its high 31 bits
abbrev pub drawn : ℕ → ℕ
drawn x = x / 2 ^ 33

-- a command's words, a place, and what follows it
abbrev pub line : List ℕ → ℕ → List ℕ → List ℕ
line words place rest = words ++ decimal place ++ 32 ∷ rest

-- so many bytes of the value of that draw, as DATA
abbrev pub equal_bytes : ℕ → ℕ → List ℕ
equal_bytes count b = data_text (replicate count (b % 256))

-- where the first file is mapped
abbrev pub map_line : List ℕ
map_line = codes "map f0 0 65536 shared"

-- a restart by that draw
abbrev pub restart_line : ℕ → List ℕ
restart_line b = codes "restart seed " ++ decimal b

-- a power cut and the way back
abbrev pub cut_lines : ℕ → List (List ℕ)
cut_lines b = codes "cut" ∷ restart_line b ∷ map_line ∷ []

-- what a round may do in one line: ten kinds
abbrev pub kinds : ℕ → ℕ → List (List ℕ)
kinds a b =
    line (codes "bwrite ") (a % 64) (equal_bytes 512 b)
    ∷ line (codes "batomic ") (a % 63) (equal_bytes 1024 b)
    ∷ line (codes "bread ") (a % 64) (codes "1")
    ∷ line (codes "bdiscard ") (a % 64) (codes "1")
    ∷ line (codes "vstore ") (8 * (a % 4096)) (equal_bytes 8 b)
    ∷ line (codes "vsync ") (64 * (a % 512)) (codes "64")
    ∷ line (codes "store 0 ") (8 * (a % 8192)) (equal_bytes 8 b)
    ∷ line (codes "flush 0 ") (64 * (a % 1024)) (codes "64")
    ∷ line (codes "fatomic f1 ") (64 * (a % 1024)) (equal_bytes 64 b)
    ∷ line (codes "fread f0 ") (64 * (a % 1024)) (codes "64")
    ∷ []

-- the line of the kind that the first draw chooses; the others tell its place and its byte
unfoldable pub kind : ℕ → ℕ → ℕ → List ℕ
kind k a b = slice_index_or (kinds a b) (k % 10) []

-- in place of the last kind the power is cut, where the third draw is odd
abbrev pub is_cut : ℕ → ℕ → Bool
is_cut k b = (k % 10 == 9) && (b % 2 == 1)

-- the lines of a round, by its three draws
abbrev pub round : ℕ → ℕ → ℕ → List (List ℕ)
round k a b = if is_cut k b then cut_lines b else kind k a b ∷ []

-- the state after a round's three draws
abbrev pub after_round : ℕ → ℕ
after_round x = stepped (stepped (stepped x))

-- the round whose draws begin in that state
abbrev pub round_from : ℕ → List (List ℕ)
round_from x = round (drawn (stepped x)) (drawn (stepped (stepped x))) (drawn (after_round x))

-- so many rounds from that state on
abbrev pub rounds : ℕ → ℕ → List (List ℕ)
rounds x zero = []
rounds x (suc count) = round_from x ++ rounds (after_round x) count

-- what makes the two files, and maps the first
abbrev pub opening : List (List ℕ)
opening = codes "create f0 16" ∷ codes "create f1 16" ∷ map_line ∷ []

-- all lines of a workload: its opening, and so many rounds that begin with this seed
unfoldable pub lines : ℕ → ℕ → List (List ℕ)
lines seed count = opening ++ rounds seed count
