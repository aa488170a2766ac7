-- Which pages are there, as words.
use Rattle.std.specs.Prelude.{◌-◌, ◌*◌, ◌==◌, ℕ, Bool, true, false, List, map, nat_lt, Option, option_map, position, slice_index_or, if◌then◌else◌}
use Rattle.word_tables.specs.declared.geometry.Geometry.{Geometry}
use Rattle.word_tables.specs.Layout.{presence, first_line}
use Rattle.word_tables.specs.Words.{place, of_volume_page}
use Rattle.word_log.specs.Mount.{wrong_with}
use Rattle.word_log.specs.Replay as log
use Rattle.nvm_model.specs.Numbered.{list_from, map_from, is_among}
use Rattle.pm_volume.specs.Area.{volume_area}

-- the word of a page that is there or not
abbrev pub presence_word : Bool → ℕ
presence_word false = 0
presence_word true = 1

-- the words of pages, by place
abbrev pub presence_words : Geometry → List Bool → ℕ → ℕ
presence_words geo there p = presence_word (slice_index_or there (p - 8 * first_line geo presence) false)

-- the presence words after a replay of their log, and which pages are there by them
unfoldable pub words_read : Geometry → (ℕ → ℕ) → List ℕ
words_read geo word = list_from (λ i. log.replayed (volume_area geo) word (place geo (of_volume_page i))) 0 geo.vpages

abbrev pub presence_read : Geometry → (ℕ → ℕ) → List Bool
presence_read geo word = map (λ w. w == 1) (words_read geo word)

-- the first page whose word is neither 0 nor 1
abbrev pub first_wrong_page : List ℕ → Option ℕ
first_wrong_page words = position (λ w. nat_lt 1 w) words

-- the place of that word, of given words, and of those that are read
abbrev pub wrong_page_word : Geometry → List ℕ → Option ℕ
wrong_page_word geo words = option_map (λ i. place geo (of_volume_page i)) (first_wrong_page words)

abbrev pub wrong_presence : Geometry → (ℕ → ℕ) → Option ℕ
wrong_presence geo word = wrong_page_word geo (words_read geo word)

-- the first place that is wrong: of the log, or else of the presence words once it is replayed
abbrev pub wrong_volume_place : Geometry → (ℕ → ℕ) → Option ℕ
wrong_volume_place geo word = wrong_with (volume_area geo) (wrong_presence geo) word

-- so many pages from one on there, or absent
abbrev pub switched : ℕ → ℕ → Bool → List Bool → List Bool
switched first count to there = map_from (λ i was. if is_among first count i then to else was) 0 there

-- their words, with their places
abbrev pub word_changes : Geometry → ℕ → ℕ → Bool → List (ℕ × ℕ)
word_changes geo first count to = list_from (λ page. (place geo (of_volume_page page), presence_word to)) first count
