-- Which parts go together: those that have a key in common. In order, each group stands without a gap.
use Rattle.std.proofs.Common.{◌≡◌, ◌⊎◌, inl, inr, ℕ, ◌/◌, ◌<◌, ◌==◌, ◌&&◌, ◌||◌, nat_lt, Bool, true, false, Option, Some, None, List, [], ◌∷◌, refl, sym, ap, subst, ◌∙◌, arith}
use Rattle.std.specs.Str.{bytes_eq}
use Rattle.std.proofs.lemmas.Bool.{and_from, and_left, and_parts, and_right, eq-eqb, eqb-true, false_from_ne_true, false≢true, ltb-true, ne_eqb, or_cases, true≢false}
use Rattle.std.proofs.lemmas.Slice.Eq.{bytes_eq-Decides}
use Rattle.nvm_model.specs.Listing.{is_before}
use Rattle.nvm_model.proofs.OrderLemmas.{before-back, before-itself}
use Rattle.explorer.specs.AskedReads.declared.read.Read.{Read}
use Rattle.explorer.specs.AskedReads.declared.read.Read.TheVariants.{Volume, Blocks, File}
use Rattle.explorer.specs.SightsSeen.declared.way.Way.{Way}
use Rattle.explorer.specs.SightsSeen.declared.way.Way.TheVariants.{Each, Together, ByPage}
use Rattle.explorer.proofs.CutPlaces.AllLemmas.{same_test}
use Rattle.outcome_lists.specs.declared.ways.Ways.{Ways}
use Rattle.outcome_lists.specs.Mixing.{same_kind, way_of}
use Rattle.outcome_lists.specs.Parts.{comes_before, same_part}
use Rattle.outcome_lists.specs.Together.{goes_by, goes_with}
use Rattle.outcome_lists.proofs.ApartBlocksLemmas.{and_true}

-- what those have in common that go together: words by their addresses, blocks by their numbers, and words of files by the names too
abbrev line_mark : Option Way → ℕ → ℕ
line_mark None start = start
line_mark (Some Each) start = start / 64
line_mark (Some ByPage) start = start / 64 / 64
line_mark (Some Together) start = 0

abbrev block_mark : Option Way → ℕ → ℕ
block_mark None first = first
block_mark (Some Each) first = first
block_mark (Some ByPage) first = first
block_mark (Some Together) first = 0

abbrev name_mark : Option Way → List ℕ → List ℕ
name_mark None name = name
name_mark (Some Each) name = name
name_mark (Some ByPage) name = name
name_mark (Some Together) name = []

-- the key of a part
abbrev key : Ways → Read → List ℕ
key ways (Volume start len) = 0 ∷ line_mark ways.lines start ∷ []
key ways (Blocks first count) = 1 ∷ block_mark ways.blocks first ∷ []
key ways (File name start len) = 2 ∷ line_mark ways.files start ∷ name_mark ways.files name

and_swapped : (a b : Bool) → (a && b) ≡ (b && a)
and_swapped true true = refl
and_swapped true false = refl
and_swapped false true = refl
and_swapped false false = refl

-- parts of one kind go together by their marks
words_go : (o : Option Way) (start len other others : ℕ) → goes_by o (Volume start len) (Volume other others) ≡ (line_mark o start == line_mark o other)
words_go None start len other others = refl
words_go (Some Each) start len other others = refl
words_go (Some ByPage) start len other others = refl
words_go (Some Together) start len other others = refl

blocks_go : (o : Option Way) (first count other others : ℕ) → goes_by o (Blocks first count) (Blocks other others) ≡ (block_mark o first == block_mark o other)
blocks_go None first count other others = refl
blocks_go (Some Each) first count other others = refl
blocks_go (Some ByPage) first count other others = refl
blocks_go (Some Together) first count other others = refl

file_words_go : (o : Option Way) (name : List ℕ) (start len : ℕ) (text : List ℕ) (other others : ℕ)
    → goes_by o (File name start len) (File text other others) ≡ (bytes_eq (name_mark o name) (name_mark o text) && (line_mark o start == line_mark o other))
file_words_go None name start len text other others = refl
file_words_go (Some Each) name start len text other others = refl
file_words_go (Some ByPage) name start len text other others = refl
file_words_go (Some Together) name start len text other others = refl

-- parts of two kinds do not go together
pub other_kind : (o : Option Way) (p q : Read) → same_part p q ≡ false → same_kind p q ≡ false → goes_by o p q ≡ false
other_kind None p q other apart = other
other_kind (Some Each) p q other apart = and_left _ _ (and_left (same_kind p q) _ apart)
other_kind (Some ByPage) p q other apart = and_left _ _ (and_left (same_kind p q) _ apart)
other_kind (Some Together) p q other apart = apart

-- those that go together are those of one key
by_key : (ways : Ways) (p q : Read) → goes_with ways p q ≡ bytes_eq (key ways p) (key ways q)
by_key ways (Volume start len) (Volume other others) =
    words_go ways.lines start len other others ∙ sym (and_true (line_mark ways.lines start == line_mark ways.lines other))
by_key ways (Volume start len) (Blocks first count) = other_kind ways.lines (Volume start len) (Blocks first count) refl refl
by_key ways (Volume start len) (File name other others) = other_kind ways.lines (Volume start len) (File name other others) refl refl
by_key ways (Blocks first count) (Volume start len) = other_kind ways.blocks (Blocks first count) (Volume start len) refl refl
by_key ways (Blocks first count) (Blocks other others) =
    blocks_go ways.blocks first count other others ∙ sym (and_true (block_mark ways.blocks first == block_mark ways.blocks other))
by_key ways (Blocks first count) (File name start len) = other_kind ways.blocks (Blocks first count) (File name start len) refl refl
by_key ways (File name start len) (Volume other others) = other_kind ways.files (File name start len) (Volume other others) refl refl
by_key ways (File name start len) (Blocks first count) = other_kind ways.files (File name start len) (Blocks first count) refl refl
by_key ways (File name start len) (File text other others) =
    file_words_go ways.files name start len text other others
    ∙ and_swapped (bytes_eq (name_mark ways.files name) (name_mark ways.files text)) (line_mark ways.files start == line_mark ways.files other)

-- so each goes with itself, two go together either way round, and one goes with the same ones as another that it goes with
pub goes_itself : (ways : Ways) (p : Read) → goes_with ways p p ≡ true
goes_itself ways p = by_key ways p p ∙ (bytes_eq-Decides (key ways p) (key ways p)).1 refl

key_of : (ways : Ways) (p q : Read) → goes_with ways p q ≡ true → key ways p ≡ key ways q
key_of ways p q is = (bytes_eq-Decides (key ways p) (key ways q)).0 (sym (by_key ways p q) ∙ is)

bytes_back : (xs ys : List ℕ) → bytes_eq xs ys ≡ bytes_eq ys xs
bytes_back xs ys =
    same_test (bytes_eq xs ys) (bytes_eq ys xs)
    (λ is. (bytes_eq-Decides ys xs).1 (sym ((bytes_eq-Decides xs ys).0 is))) (λ is. (bytes_eq-Decides xs ys).1 (sym ((bytes_eq-Decides ys xs).0 is)))

pub goes_back : (ways : Ways) (p q : Read) → goes_with ways p q ≡ goes_with ways q p
goes_back ways p q = by_key ways p q ∙ bytes_back (key ways p) (key ways q) ∙ sym (by_key ways q p)

pub goes_along : (ways : Ways) (p q r : Read) → goes_with ways p q ≡ true → goes_with ways p r ≡ goes_with ways q r
goes_along ways p q r is = by_key ways p r ∙ ap (λ k. bytes_eq k (key ways r)) (key_of ways p q is) ∙ sym (by_key ways q r)

-- of three numbers the one between has the mark of both, where they have one in common
line_between : (o : Option Way) (a b c : ℕ) → a < b → b < c → (line_mark o a == line_mark o c) ≡ true → (line_mark o a == line_mark o b) ≡ true
line_between None a b c low high is = let same = eqb-true a c is in absurd (omega (arith, low, high, same))
line_between (Some Each) a b c low high is = let same = eqb-true (a / 64) (c / 64) is in eq-eqb (a / 64) (b / 64) (omega (arith, low, high, same))
line_between (Some ByPage) a b c low high is = let same = eqb-true (a / 64 / 64) (c / 64 / 64) is in eq-eqb (a / 64 / 64) (b / 64 / 64) (omega (arith, low, high, same))
line_between (Some Together) a b c low high is = refl

block_between : (o : Option Way) (a b c : ℕ) → a < b → b < c → (block_mark o a == block_mark o c) ≡ true → (block_mark o a == block_mark o b) ≡ true
block_between None a b c low high is = let same = eqb-true a c is in absurd (omega (arith, low, high, same))
block_between (Some Each) a b c low high is = let same = eqb-true a c is in absurd (omega (arith, low, high, same))
block_between (Some ByPage) a b c low high is = let same = eqb-true a c is in absurd (omega (arith, low, high, same))
block_between (Some Together) a b c low high is = refl

-- two words of files in order are of two files in order, or of one
by_names : (name text : List ℕ) (a b : ℕ) → (is_before name text || (bytes_eq name text && nat_lt a b)) ≡ true → (is_before name text ≡ true) ⊎ ((name ≡ text) × (a < b))
by_names name text a b is = elim (or_cases (is_before name text) (bytes_eq name text && nat_lt a b) is) [
  | inl first ↦ inl first
  | inr same ↦ let parts = and_parts (bytes_eq name text) (nat_lt a b) same in inr ((bytes_eq-Decides name text).0 parts.0, ltb-true a b parts.1)
]

-- a word that stands between two of one file is of that file too, and between their addresses
file_between : (name text : List ℕ) (a b c : ℕ) → (is_before name text || (bytes_eq name text && nat_lt a b)) ≡ true
    → (is_before text name || (bytes_eq text name && nat_lt b c)) ≡ true → (name ≡ text) × (a < b) × (b < c)
file_between name text a b c low high = by_cases (by_names name text a b low) (by_names text name b c high)
  where
    by_cases : (is_before name text ≡ true) ⊎ ((name ≡ text) × (a < b)) → (is_before text name ≡ true) ⊎ ((text ≡ name) × (b < c)) → (name ≡ text) × (a < b) × (b < c)
    by_cases (inl first) (inl last) = absurd (true≢false (sym last ∙ before-back name text first))
    by_cases (inl first) (inr last) = absurd (true≢false (sym first ∙ ap (λ n. is_before name n) last.0 ∙ before-itself name))
    by_cases (inr first) (inl last) = absurd (true≢false (sym last ∙ ap (λ n. is_before text n) first.0 ∙ before-itself text))
    by_cases (inr first) (inr last) = (first.0, first.1, last.1)

-- so words of files that go together go with one between them
module _ (o : Option Way) (name text last : List ℕ) (a b c : ℕ) (low : (is_before name text || (bytes_eq name text && nat_lt a b)) ≡ true)
    (high : (is_before text last || (bytes_eq text last && nat_lt b c)) ≡ true) where
  in_one_file : name ≡ last → (line_mark o a == line_mark o c) ≡ true → (bytes_eq (name_mark o name) (name_mark o text) && (line_mark o a == line_mark o b)) ≡ true
  in_one_file same is =
      let is_between = file_between name text a b c low (subst (λ n. (is_before text n || (bytes_eq text n && nat_lt b c)) ≡ true) (sym same) high) in
      and_from (bytes_eq (name_mark o name) (name_mark o text)) (line_mark o a == line_mark o b)
      ((bytes_eq-Decides (name_mark o name) (name_mark o text)).1 (ap (name_mark o) is_between.0)) (line_between o a b c is_between.1 is_between.2 is)

  by_names_and_lines : (bytes_eq name last && (line_mark o a == line_mark o c)) ≡ true → (bytes_eq (name_mark o name) (name_mark o text) && (line_mark o a == line_mark o b)) ≡ true
  by_names_and_lines is = let parts = and_parts (bytes_eq name last) (line_mark o a == line_mark o c) is in in_one_file ((bytes_eq-Decides name last).0 parts.0) parts.1

file_words_between : (o : Option Way) (name text last : List ℕ) (a b c : ℕ) → (is_before name text || (bytes_eq name text && nat_lt a b)) ≡ true
    → (is_before text last || (bytes_eq text last && nat_lt b c)) ≡ true → (bytes_eq (name_mark o name) (name_mark o last) && (line_mark o a == line_mark o c)) ≡ true
    → (bytes_eq (name_mark o name) (name_mark o text) && (line_mark o a == line_mark o b)) ≡ true
file_words_between None name text last a b c low high is = by_names_and_lines None name text last a b c low high is
file_words_between (Some Each) name text last a b c low high is = by_names_and_lines (Some Each) name text last a b c low high is
file_words_between (Some ByPage) name text last a b c low high is = by_names_and_lines (Some ByPage) name text last a b c low high is
file_words_between (Some Together) name text last a b c low high is = refl

-- a part that stands between two that go together goes with them
between : (ways : Ways) (p q r : Read) → comes_before p q ≡ true → comes_before q r ≡ true → goes_with ways p r ≡ true → goes_with ways p q ≡ true
between ways (Volume a len) (Volume b others) (Volume c more) low high is =
    words_go ways.lines a len b others ∙ line_between ways.lines a b c (ltb-true a b low) (ltb-true b c high) (sym (words_go ways.lines a len c more) ∙ is)
between ways (Volume a len) (Blocks b count) (Volume c more) low high is = absurd (false≢true high)
between ways (Volume a len) (File text b others) (Volume c more) low high is = absurd (false≢true high)
between ways (Volume a len) q (Blocks c more) low high is = absurd (true≢false (sym is ∙ other_kind ways.lines (Volume a len) (Blocks c more) refl refl))
between ways (Volume a len) q (File last c more) low high is = absurd (true≢false (sym is ∙ other_kind ways.lines (Volume a len) (File last c more) refl refl))
between ways (Blocks a count) q (Volume c more) low high is = absurd (true≢false (sym is ∙ other_kind ways.blocks (Blocks a count) (Volume c more) refl refl))
between ways (Blocks a count) (Volume b others) (Blocks c more) low high is = absurd (false≢true low)
between ways (Blocks a count) (Blocks b others) (Blocks c more) low high is =
    blocks_go ways.blocks a count b others ∙ block_between ways.blocks a b c (ltb-true a b low) (ltb-true b c high) (sym (blocks_go ways.blocks a count c more) ∙ is)
between ways (Blocks a count) (File text b others) (Blocks c more) low high is = absurd (false≢true high)
between ways (Blocks a count) q (File last c more) low high is = absurd (true≢false (sym is ∙ other_kind ways.blocks (Blocks a count) (File last c more) refl refl))
between ways (File name a len) q (Volume c more) low high is = absurd (true≢false (sym is ∙ other_kind ways.files (File name a len) (Volume c more) refl refl))
between ways (File name a len) q (Blocks c more) low high is = absurd (true≢false (sym is ∙ other_kind ways.files (File name a len) (Blocks c more) refl refl))
between ways (File name a len) (Volume b others) (File last c more) low high is = absurd (false≢true low)
between ways (File name a len) (Blocks b count) (File last c more) low high is = absurd (false≢true low)
between ways (File name a len) (File text b others) (File last c more) low high is =
    file_words_go ways.files name a len text b others
    ∙ file_words_between ways.files name text last a b c low high (sym (file_words_go ways.files name a len last c more) ∙ is)

-- so where a part is not of a group that stands before it, none behind it is
pub goes_no_more : (ways : Ways) (p q r : Read) → comes_before p q ≡ true → comes_before q r ≡ true → goes_with ways p q ≡ false → goes_with ways p r ≡ false
goes_no_more ways p q r low high other = false_from_ne_true (goes_with ways p r) (λ is. false≢true (sym other ∙ between ways p q r low high is))

-- of two in order neither is the other
apart_numbers : (a b : ℕ) → nat_lt a b ≡ true → (a == b) ≡ false
apart_numbers a b first = let less = ltb-true a b first in ne_eqb a b (omega (arith, less))

apart_names : (name text : List ℕ) (a b : ℕ) → (is_before name text ≡ true) ⊎ ((name ≡ text) × (a < b)) → (bytes_eq name text && (a == b)) ≡ false
apart_names name text a b (inl first) =
    and_left (bytes_eq name text) (a == b)
    (false_from_ne_true (bytes_eq name text) (λ same. true≢false (sym first ∙ ap (λ n. is_before name n) (sym ((bytes_eq-Decides name text).0 same)) ∙ before-itself name)))
apart_names name text a b (inr same) = let less = same.1 in and_right (bytes_eq name text) (a == b) (ne_eqb a b (omega (arith, less)))

pub other_part : (p q : Read) → comes_before p q ≡ true → same_part p q ≡ false
other_part (Volume start len) (Volume other others) first = apart_numbers start other first
other_part (Volume start len) (Blocks other count) first = refl
other_part (Volume start len) (File name other others) first = refl
other_part (Blocks start count) (Volume other others) first = refl
other_part (Blocks start count) (Blocks other others) first = apart_numbers start other first
other_part (Blocks start count) (File name other others) first = refl
other_part (File name start len) (Volume other others) first = refl
other_part (File name start len) (Blocks other count) first = refl
other_part (File name start len) (File text other others) first = apart_names name text start other (by_names name text start other first)

-- the way of either part tells whether they go together
pub goes_either_way : (ways : Ways) (p q : Read) → goes_by (way_of ways q) p q ≡ goes_with ways p q
goes_either_way ways (Volume start len) (Volume other others) = refl
goes_either_way ways (Volume start len) (Blocks other count) =
    other_kind ways.blocks (Volume start len) (Blocks other count) refl refl ∙ sym (other_kind ways.lines (Volume start len) (Blocks other count) refl refl)
goes_either_way ways (Volume start len) (File name other others) =
    other_kind ways.files (Volume start len) (File name other others) refl refl ∙ sym (other_kind ways.lines (Volume start len) (File name other others) refl refl)
goes_either_way ways (Blocks start count) (Volume other others) =
    other_kind ways.lines (Blocks start count) (Volume other others) refl refl ∙ sym (other_kind ways.blocks (Blocks start count) (Volume other others) refl refl)
goes_either_way ways (Blocks start count) (Blocks other others) = refl
goes_either_way ways (Blocks start count) (File name other others) =
    other_kind ways.files (Blocks start count) (File name other others) refl refl ∙ sym (other_kind ways.blocks (Blocks start count) (File name other others) refl refl)
goes_either_way ways (File name start len) (Volume other others) =
    other_kind ways.lines (File name start len) (Volume other others) refl refl ∙ sym (other_kind ways.files (File name start len) (Volume other others) refl refl)
goes_either_way ways (File name start len) (Blocks other count) =
    other_kind ways.blocks (File name start len) (Blocks other count) refl refl ∙ sym (other_kind ways.files (File name start len) (Blocks other count) refl refl)
goes_either_way ways (File name start len) (File text other others) = refl
