-- Words read as tables, by what their log's mount tells.
use Rattle.std.proofs.Common.{◌≡◌, ℕ, ◌+◌, ◌*◌, ◌/◌, ◌<◌, List, Option, length, get_or, map, take, drop, None, Result, Ok, Err, IfOk, refl, sym, ◌∙◌, ap, ap₂, subst, arith}
use Rattle.std.specs.List.{range_with_len}
use Rattle.std.specs.Result.{IsErrAnd}
use Rattle.std.proofs.lemmas.Grind.{same_number_lists}
use Rattle.std.proofs.lemmas.List.{get_or-drop, get_or-take, length-drop, length-take}
use Rattle.std.proofs.lemmas.List.FromFn.{get_or-map-range_with_len, length-map-range_with_len}
use Rattle.line_device.specs.Medium.{Medium, last_image}
use Rattle.line_device.specs.Panel.{Outcome, Panel, Runs}
use Rattle.line_device.proofs.PanelLemmas.{runs_within}
use Rattle.line_words.specs.Told.{Told, IfRefused}
use Rattle.line_words.proofs.ToldLemmas.{if_refused-then}
use Rattle.word_tables.specs.declared.geometry.Geometry.{Geometry}
use Rattle.word_tables.specs.Layout.{file_log, inodes, first_line, size, meta_lines, total_lines}
use Rattle.word_tables.specs.Words.{place, of_inode, of_file_page}
use Rattle.word_log.specs.declared.area.LogArea.{LogArea}
use Rattle.word_log.specs.Area.{AreHomeWords}
use Rattle.word_log.specs.Mount.{Finding, IsPlace}
use Rattle.word_log.specs.Mount.Finding.{bad_line, wrong_word}
use Rattle.word_log.specs.Replay.{replayed}
use Rattle.word_log.proofs.FindingLemmas.{IsRead, runs_of}
use Rattle.inode_table.specs.Holds.{HoldsSlot}
use Rattle.inode_table.specs.Slots.{pages_of}
use Rattle.inode_table.specs.Words.{inode_words, slots_of}
use Rattle.inode_table.specs.Wrong.{first_wrong_word}
use Rattle.inode_table.proofs.HeldLemmas.{words_held}
use Rattle.nvm_base.specs.declared.files.FileEntry.{FileEntry}
use Rattle.nvm_base.proofs.FirstLemmas.{neither_there, not_mapped}
use Rattle.page_table.specs.Pages.{TableState, unit_of, word_of}
use Rattle.page_table.specs.Wrong.{first_wrong_entry}
use Rattle.page_table.proofs.TableLemmas.{get_or-units, word_of-unit_of}
use Rattle.nvm_model.specs.Blocks.{first_there}
use Rattle.nvm_model.specs.Lines.{AreStrong}
use Rattle.nvm_model.specs.Numbered.{list_from}
use Rattle.nvm_model.proofs.NumberedLemmas.{list_from-is}
use Rattle.file_journal.specs.declared.fault.MountFault.{MountFault}
use Rattle.file_journal.specs.Area.{file_area}
use Rattle.file_journal.specs.Holds.{Holds, inode_at}
use Rattle.file_journal.specs.Mounting.{FindsTables, journal_mount_says}
use Rattle.file_journal.specs.Object.{JournalServes, JournalState, RestsWith}
use Rattle.file_journal.specs.Reading.{tables_of, tables_read, words_read, wrong_inode, wrong_page, wrong_table}
use Rattle.file_journal.specs.Tables.{Tables}
use Rattle.file_journal.proofs.AreaLemmas.{tables_follow}

-- the words that the log's mount tells are those of the tables
pub mounted_words : (geo : Geometry) (old : Medium) (words : List ℕ) → AreHomeWords (file_area geo) (replayed (file_area geo) (last_image old)) words → words ≡ words_read geo (last_image old)
unfolding words_read
mounted_words geo old words are =
    let after = replayed (file_area geo) (last_image old) in
    let start = 8 * first_line geo inodes in
    same_number_lists words (map after (range_with_len start 16896)) (are.all ∙ sym (length-map-range_with_len after start 16896))
    (λ k low. are.each k (omega (arith, are.all)) ∙ sym (get_or-map-range_with_len after start 16896 k (start + k) 0 (omega (arith, are.all)) refl))

-- words that are right hold the tables that are read of them
module _ (geo : Geometry) (word : ℕ → ℕ) (words : List ℕ) (are : AreHomeWords (file_area geo) word words) where
  pub inode_list : (inode : ℕ) → inode < 64 → inode_words (take 512 words) inode ≡ inode_at geo word inode
  inode_list inode below =
      let f : ℕ → ℕ = λ k. word (place geo (of_inode inode k)) in
      let xs = inode_words (take 512 words) inode in
      let long : length xs ≡ 8 = omega (arith, length-take 8 (drop (8 * inode) (take 512 words)), length-drop (8 * inode) (take 512 words), length-take 512 words, are.all) in
      list_from-is f 0 xs (λ k low.
      let at : 8 * first_line geo inodes + (8 * inode + k) ≡ place geo (of_inode inode (0 + k)) = omega arith in
      get_or-take 8 (drop (8 * inode) (take 512 words)) k 0 (omega arith)
      ∙ get_or-drop (8 * inode) (take 512 words) k 0
      ∙ get_or-take 512 words (8 * inode + k) 0 (omega arith)
      ∙ are.each (8 * inode + k) (omega arith)
      ∙ ap word at)
      ∙ ap (list_from f 0) long

  page_held : (inode page : ℕ) → inode < 64 → page < 256 → word (place geo (of_file_page inode page)) ≡ word_of (get_or (map unit_of (drop 512 words)) (256 * inode + page) None)
  page_held inode page below small =
      let entry = 256 * inode + page in
      let at : 8 * first_line geo inodes + (512 + entry) ≡ place geo (of_file_page inode page) = omega (arith, tables_follow geo) in
      sym (ap word_of (get_or-units (drop 512 words) entry) ∙ word_of-unit_of (get_or (drop 512 words) entry 0) ∙ get_or-drop 512 words entry 0 ∙ are.each (512 + entry) (omega arith) ∙ ap word at)

  pub words_hold : first_wrong_word (take 512 words) ≡ None → Holds geo word (tables_of words)
  unfolding tables_of
  words_hold right = record {
    slots = λ inode below. subst (λ ws. HoldsSlot ws (get_or (slots_of (take 512 words)) inode None)) (inode_list inode below) (words_held (take 512 words) right inode below);
    pages = page_held;
  }

-- of words of which none is wrong neither part is
none_wrong : (geo : Geometry) (words : List ℕ) → wrong_table geo words ≡ None → (wrong_inode geo (take 512 words) ≡ None) × (wrong_page geo (map pages_of (slots_of (take 512 words))) (drop 512 words) ≡ None)
unfolding wrong_table
none_wrong geo words none = neither_there (wrong_inode geo (take 512 words)) (wrong_page geo (map pages_of (slots_of (take 512 words))) (drop 512 words)) none

pub inodes_right : (geo : Geometry) (words : List ℕ) → wrong_table geo words ≡ None → first_wrong_word (take 512 words) ≡ None
inodes_right geo words none = not_mapped _ (first_wrong_word (take 512 words)) (none_wrong geo words none).0

pub pages_right : (geo : Geometry) (words : List ℕ) → wrong_table geo words ≡ None → first_wrong_entry geo.fpages (map pages_of (slots_of (take 512 words))) (drop 512 words) ≡ None
pages_right geo words none = not_mapped _ (first_wrong_entry geo.fpages (map pages_of (slots_of (take 512 words))) (drop 512 words)) (none_wrong geo words none).1

of_inodes : (geo : Geometry) (words : List ℕ) (why : Finding) → IsPlace (wrong_inode geo (take 512 words)) why → IsPlace (wrong_table geo words) why
unfolding wrong_table
of_inodes geo words (bad_line n) is = absurd is
of_inodes geo words (wrong_word p) is = ap (λ o. first_there o (wrong_page geo (map pages_of (slots_of (take 512 words))) (drop 512 words))) is

of_pages : (geo : Geometry) (words : List ℕ) (why : Finding) → wrong_inode geo (take 512 words) ≡ None → IsPlace (wrong_page geo (map pages_of (slots_of (take 512 words))) (drop 512 words)) why → IsPlace (wrong_table geo words) why
unfolding wrong_table
of_pages geo words (bad_line n) none is = absurd is
of_pages geo words (wrong_word p) none is = ap (λ o. first_there o (wrong_page geo (map pages_of (slots_of (take 512 words))) (drop 512 words))) none ∙ is

finds_inodes : (geo : Geometry) (words : List ℕ) (t : Told Finding) → IfRefused t (IsPlace (wrong_inode geo (take 512 words))) → IfRefused t (IsPlace (wrong_table geo words))
finds_inodes geo words t = if_refused-then t (IsPlace (wrong_inode geo (take 512 words))) (IsPlace (wrong_table geo words)) (of_inodes geo words)

finds_pages : (geo : Geometry) (words : List ℕ) (t : Told Finding) → wrong_inode geo (take 512 words) ≡ None → IfRefused t (IsPlace (wrong_page geo (map pages_of (slots_of (take 512 words))) (drop 512 words))) → IfRefused t (IsPlace (wrong_table geo words))
finds_pages geo words t none = if_refused-then t (IsPlace (wrong_page geo (map pages_of (slots_of (take 512 words))) (drop 512 words))) (IsPlace (wrong_table geo words)) (λ why. of_pages geo words why none)

pub tables_right : (geo : Geometry) (words : List ℕ) → wrong_inode geo (take 512 words) ≡ None → wrong_page geo (map pages_of (slots_of (take 512 words))) (drop 512 words) ≡ None → wrong_table geo words ≡ None
unfolding wrong_table
tables_right geo words none right = ap (λ o. first_there o (wrong_page geo (map pages_of (slots_of (take 512 words))) (drop 512 words))) none ∙ right

-- what is made of the words
pub judged_tables : (geo : Geometry) (old : Medium) (words : List ℕ) → AreHomeWords (file_area geo) (replayed (file_area geo) (last_image old)) words → (r : Result JournalState MountFault) → IfOk r (λ j. (j.geo ≡ geo) × (j.tables ≡ tables_of words)) → IfOk r (λ j. (j.geo ≡ geo) × (j.tables ≡ tables_read geo (last_image old)))
judged_tables geo old words are (Ok j) made = (made.0, made.1 ∙ ap tables_of (mounted_words geo old words are))
judged_tables geo old words are (Err f) made = tt

module _ (geo : Geometry) (old mid : Medium) (inside : ℕ → Type 0) (words : List ℕ) (read : IsRead (file_area geo) inside old mid words) where
  pub judged_serves : (r : Result JournalState MountFault) → old.count ≡ total_lines geo → AreStrong old (meta_lines geo) → IfOk r (λ j. (j.geo ≡ geo) × (j.tables ≡ tables_of words)) → FindsTables geo words r → IfOk r (λ j. JournalServes j mid)
  judged_serves (Ok j) count strong made finds =
      let word = replayed (file_area geo) (last_image old) in
      subst (λ (g : Geometry). JournalServes (record j { geo = g }) mid) (sym made.0)
      (record {
        count = read.outside.count ∙ count;
        strong = λ n below. read.outside.weak n ∙ strong n below;
        rest = subst (RestsWith geo mid) (sym made.1) (record { word = word; rest = read.rest; holds = words_hold geo word words read.words (inodes_right geo words finds) });
      })
  judged_serves (Err f) count strong made finds = tt

-- calls of the log's mount with its loads
pub mounted_runs : (geo : Geometry) (a : LogArea) (e f : Outcome) (p q : Panel) → a ≡ file_area geo → f ≡ e → Runs (a.log.len + a.home.len / 8 + 4 * a.cap + 6 + (a.home.len + 7) / 8) (a.log.len + a.home.len / 8 + a.cap + 3) f p q → Runs 5387 2456 e p q
unfolding size
mounted_runs geo a e f p q is ended x =
    let same : Runs (size geo file_log + 16896 / 8 + 4 * 272 + 6 + (16896 + 7) / 8) (size geo file_log + 16896 / 8 + 272 + 3) e p q = runs_of a (file_area geo) is e f p q ended x in
    runs_within _ _ 5387 2456 e p q same (omega arith) (omega arith)

-- what is told of the two parts of the words is told of all
module _ (geo : Geometry) (words front back : List ℕ) (front_is : front ≡ take 512 words) (back_is : back ≡ drop 512 words) where
  pub told_inodes : {T : Type 0} (r : Result T MountFault) (fault : MountFault) → IsErrAnd r (λ e. e ≡ fault) → IfRefused (journal_mount_says fault) (IsPlace (wrong_inode geo front)) → FindsTables geo words r
  told_inodes (Ok x) fault is h = absurd is
  told_inodes (Err e) fault is h =
      subst (λ f. IfRefused (journal_mount_says f) (IsPlace (wrong_table geo words))) (sym is)
      (finds_inodes geo words (journal_mount_says fault) (subst (λ (ws : List ℕ). IfRefused (journal_mount_says fault) (IsPlace (wrong_inode geo ws))) front_is h))

  module _ (files : List (Option FileEntry)) (files_are : files ≡ slots_of front) (none : wrong_inode geo front ≡ None) where
    here : wrong_inode geo (take 512 words) ≡ None
    here = ap (wrong_inode geo) (sym front_is) ∙ none

    counts : map pages_of files ≡ map pages_of (slots_of (take 512 words))
    counts = ap (map pages_of) (files_are ∙ ap slots_of front_is)

    pub told_pages : {T : Type 0} (r : Result T MountFault) (fault : MountFault) → IsErrAnd r (λ e. e ≡ fault) → IfRefused (journal_mount_says fault) (IsPlace (wrong_page geo (map pages_of files) back)) → FindsTables geo words r
    told_pages (Ok x) fault is h = absurd is
    told_pages (Err e) fault is h =
        subst (λ f. IfRefused (journal_mount_says f) (IsPlace (wrong_table geo words))) (sym is)
        (finds_pages geo words (journal_mount_says fault) here
        (subst (λ (ws : List ℕ). IfRefused (journal_mount_says fault) (IsPlace (wrong_page geo (map pages_of (slots_of (take 512 words))) ws))) back_is
        (subst (λ (cs : List ℕ). IfRefused (journal_mount_says fault) (IsPlace (wrong_page geo cs back))) counts h)))

    pub told_right : wrong_page geo (map pages_of files) back ≡ None → wrong_table geo words ≡ None
    told_right right = tables_right geo words here (ap₂ (wrong_page geo) (sym counts) (sym back_is) ∙ right)

    pub told_tables : (table : TableState) → table ≡ record { units = geo.fpages; pages = map unit_of back } → let t : Tables = record { files = files; pages = table.pages } in t ≡ tables_of words
    unfolding tables_of
    told_tables table is =
        ap₂ (λ (fs : List (Option FileEntry)) (ps : List (Option ℕ)). let t : Tables = record { files = fs; pages = ps } in t)
        (files_are ∙ ap slots_of front_is) (ap (λ (t : TableState). t.pages) is ∙ ap (map unit_of) back_is)
