-- What a restart leaves of pages, line by line, and what a read of them is answered.
use Rattle.std.proofs.Common.{◌≡◌, ◌⊎◌, inl, inr, ℕ, zero, suc, ◌+◌, ◌*◌, ◌/◌, ◌<◌, ◌==◌, Bool, true, false, cond, Option, Some, None, List, [], ◌∷◌, length, slice_get, slice_index_or, refl, sym, ap, subst, ◌∙◌, arith}
use Rattle.std.proofs.lemmas.Bool.{and_from, eq-eqb}
use Rattle.std.proofs.lemmas.Option.{get_or_from_slice_get}
use Rattle.std.proofs.lemmas.Slice.Eq.{bytes_eq-Decides}
use Rattle.std.specs.Str.{bytes_eq}
use Rattle.line_device.specs.History.{IsIn, MayKeep}
use Rattle.line_device.specs.Panel.{Image}
use Rattle.line_device.specs.declared.line.Choice.{Choice}
use Rattle.nvm_model.specs.Cell.{Cell, KeepsCell, read_cell, touches}
use Rattle.nvm_model.specs.Cell.Cell.{Bad, Kept}
use Rattle.nvm_model.specs.Numbered.{list_from}
use Rattle.nvm_model.specs.Page.{KeepsPages, Page, byte_in, cell_of, first_bad_line, look, presence_of, read_pages}
use Rattle.nvm_model.proofs.NumberedLemmas.{length-list_from, slice_get-list_from}
use Rattle.nvm_model.proofs.PageLemmas.{cell_of-read_pages, page_of_line, read_pages-there}
use Rattle.reply_text.specs.Answer.{Answer, why_text}
use Rattle.reply_text.specs.Answer.Answer.{Bytes, Refused}
use Rattle.reply_text.specs.declared.reply.Why.{Why}
use Rattle.machine_model.specs.Meaning.{most_refusal}
use Rattle.machine_model.proofs.RefusalLemmas.{read_within}
use Rattle.durable.specs.Durable.{HaveLines, IsLineThere}
use Rattle.outcomes.specs.Pages.{PageRead, PageReply, is_reply, is_reply_by}
use Rattle.outcomes.specs.Pages.PageReply.{Shows, Poison, Refuses}
use Rattle.outcomes.specs.Seen.{page_answer}
use Rattle.outcomes.proofs.LineLemmas.{Answered, Survives, lowest_of}
use Rattle.outcomes.proofs.LineLemmas.Answered.{refused, named, shown}

some_at : {A : Type 0} (xs : List A) (i : ℕ) → i < length xs → (x : A) × (slice_get xs i ≡ Some x)
some_at [] i lt = absurd (omega (arith, lt))
some_at (x ∷ xs) zero lt = (x, refl)
some_at (x ∷ xs) (suc i) lt = some_at xs i (omega (arith, lt))

module _ (choice : Choice) (image : Image) (by_words : image.unit ≡ 8) where
  -- one line
  cell_survives : (line : ℕ) (cell : Cell) → IsLineThere (Some cell) → KeepsCell choice image line cell → Survives (Some cell) (Some (read_cell image line))
  cell_survives line Bad there kept =
      subst (λ b. Survives (Some Bad) (Some (cond b Bad (Kept (image.is_weak line) (list_from (λ p. image.word p ∷ []) (8 * line) 8))))) (sym kept) tt
  cell_survives line (Kept weak words) there kept =
      subst (λ b. Survives (Some (Kept weak words)) (Some (cond b Bad (Kept (image.is_weak line) (list_from (λ p. image.word p ∷ []) (8 * line) 8))))) (sym kept.0) each
    where
      each : (w : ℕ) → w < 8 → (v : ℕ) × IsIn v (slice_index_or words w []) × (slice_index_or (list_from (λ p. image.word p ∷ []) (8 * line) 8) w [] ≡ v ∷ [])
      each w lt =
          let history = some_at words w (omega (arith, lt, there)) in
          let was = subst (λ u. MayKeep u (image.word (8 * line + w)) history.0) by_words (kept.2 w history.0 history.1).was in (
            image.word (8 * line + w),
            subst (λ h. IsIn (image.word (8 * line + w)) h) (sym (get_or_from_slice_get words w history.0 [] history.1)) was,
            get_or_from_slice_get (list_from (λ p. image.word p ∷ []) (8 * line) 8) w (image.word (8 * line + w) ∷ []) [] (slice_get-list_from (λ p. image.word p ∷ []) (8 * line) 8 w lt),
          )

  -- each line of pages
  pub survives : (place : ℕ → ℕ) (there : List Bool) (left : List Page) → HaveLines left → presence_of left ≡ there → KeepsPages choice place image left
      → (n : ℕ) → Survives (cell_of left n) (cell_of (read_pages place image there) n)
  survives place there left lines same keeps n = by_left (cell_of left n) refl
    where
      gone : (cell : Cell) → cell_of left n ≡ None → cell_of (read_pages place image there) n ≡ Some cell → ⊥
      gone cell none is =
          let here : slice_get (presence_of left) (n / 64) ≡ Some true = ap (λ p. slice_get p (n / 64)) same ∙ read_pages-there place image there n cell is in
          subst IsLineThere none (lines n (get_or_from_slice_get (presence_of left) (n / 64) true false here))

      by_left : (o : Option Cell) → cell_of left n ≡ o → Survives o (cell_of (read_pages place image there) n)
      by_left (Some cell) is =
          let here : slice_get there (n / 64) ≡ Some true = sym (ap (λ p. slice_get p (n / 64)) same) ∙ page_of_line left n cell is in
          let page : slice_get (presence_of left) (n / 64) ≡ Some true = page_of_line left n cell is in
          let line : IsLineThere (Some cell) = subst IsLineThere is (lines n (get_or_from_slice_get (presence_of left) (n / 64) true false page)) in
          subst (Survives (Some cell)) (sym (cell_of-read_pages place image there n here)) (cell_survives (place n) cell line (keeps n cell is))
      by_left None none = by_read (cell_of (read_pages place image there) n) refl
        where
          by_read : (o : Option Cell) → cell_of (read_pages place image there) n ≡ o → Survives None o
          by_read None is = tt
          by_read (Some cell) is = absurd (gone cell none is)

-- A line is named by its own offset, and by no bytes and no refusal.
pub record NamesLines (names : ℕ → Answer) : Type 0 where
  pub apart : (at to : ℕ) → names at ≡ names to → at ≡ to
  pub no_bytes : (at : ℕ) (bytes : List ℕ) → names at ≡ Bytes bytes → ⊥
  pub no_refusal : (at : ℕ) (why : Why) → names at ≡ Refused why → ⊥

-- replies that are answered alike
pub reply_is : (names : ℕ → Answer) → NamesLines names → (a b : PageReply) → page_answer names a ≡ page_answer names b → a ≡ b
reply_is names n (Shows x) (Shows y) is = let e : x ≡ y = cc is in ap Shows e
reply_is names n (Shows x) (Poison at) is = absurd (n.no_bytes at x (sym is))
reply_is names n (Shows x) (Refuses why) is = cc is
reply_is names n (Poison at) (Shows y) is = absurd (n.no_bytes at y is)
reply_is names n (Poison at) (Poison to) is = ap Poison (n.apart at to is)
reply_is names n (Poison at) (Refuses why) is = absurd (n.no_refusal at why is)
reply_is names n (Refuses why) (Shows y) is = cc is
reply_is names n (Refuses why) (Poison at) is = absurd (n.no_refusal at why (sym is))
reply_is names n (Refuses why) (Refuses other) is = let e : why ≡ other = cc is in ap Refuses e

-- what a read is refused with, by why its span is wrong and its lowest bad line
abbrev pub refused_by : (ℕ → Answer) → Option Why → Option ℕ → Option Answer
refused_by names (Some why) line = Some (Refused why)
refused_by names None (Some n) = Some (names (64 * n))
refused_by names None None = None

abbrev pub IsRefusedBy : (ℕ → Answer) → ℕ → List Page → PageRead → Option Answer → Type 0
IsRefusedBy names size pages r refusal =
    (o : Option Why) (l : Option ℕ) → most_refusal 65536 size r.start r.len ≡ o → first_bad_line pages r.start r.len ≡ l → refusal ≡ refused_by names o l

-- a read is refused with its reply, or gives the bytes of it
abbrev pub IsTold : (ℕ → Answer) → List Page → PageRead → Option Answer → Type 0
IsTold names pages r refusal =
    (refusal ≡ Some (page_answer names r.reply)) ⊎ ((refusal ≡ None) × (page_answer names r.reply ≡ Bytes (look pages r.start r.len)))

-- so its reply is right, and tells of the pages what they are
pub record Replied (size : ℕ) (pages : List Page) (r : PageRead) : Type 0 where
  pub answered : Answered pages r
  pub right : is_reply size r ≡ true

pub same_why : (why : Why) → bytes_eq (why_text why) (why_text why) ≡ true
same_why why = (bytes_eq-Decides (why_text why) (why_text why)).1 refl

look_length : (pages : List Page) (start len : ℕ) → length (look pages start len) ≡ len
unfolding look
look_length pages start len = length-list_from (byte_in pages) start len

pub replied : (names : ℕ → Answer) → NamesLines names → (size : ℕ) (pages : List Page) (r : PageRead) (refusal : Option Answer)
    → IsRefusedBy names size pages r refusal → IsTold names pages r refusal → Replied size pages r
replied names apart size pages r refusal by told = by_why (most_refusal 65536 size r.start r.len) (first_bad_line pages r.start r.len) refl refl
  where
    reply_by : (o : Option Why) (reply : PageReply) → most_refusal 65536 size r.start r.len ≡ o → r.reply ≡ reply → is_reply_by o r.start r.len reply ≡ true → is_reply size r ≡ true
    reply_by o reply why is right = ap (λ w. is_reply_by w r.start r.len r.reply) why ∙ ap (λ x. is_reply_by o r.start r.len x) is ∙ right

    by_why : (o : Option Why) (l : Option ℕ) → most_refusal 65536 size r.start r.len ≡ o → first_bad_line pages r.start r.len ≡ l → Replied size pages r
    by_why (Some why) l right at =
        let here : refusal ≡ Some (Refused why) = by (Some why) l right at in
        elim told as (λ _. Replied size pages r) [
          | inl same ↦
              let is = reply_is names apart r.reply (Refuses why) (cc (sym same ∙ here)) in
              record { answered = refused why is; right = reply_by (Some why) (Refuses why) right is (same_why why) }
          | inr none ↦ absurd (cc (sym none.0 ∙ here))
        ]
    by_why None (Some n) right at =
        let here : refusal ≡ Some (page_answer names (Poison (64 * n))) = by None (Some n) right at in
        let some = (read_within 65536 size r.start r.len right).0 in
        let lowest = lowest_of pages r.start r.len n some at in
        let back : 64 * n / 64 ≡ n = omega arith in
        elim told as (λ _. Replied size pages r) [
          | inl same ↦
              let is = reply_is names apart r.reply (Poison (64 * n)) (cc (sym same ∙ here)) in
              record {
                answered = named n some at is;
                right = reply_by None (Poison (64 * n)) right is
                    (and_from (touches r.start r.len (64 * n / 64)) (64 * n == 64 * (64 * n / 64)) (ap (touches r.start r.len) back ∙ lowest.touched)
                    (eq-eqb (64 * n) (64 * (64 * n / 64)) (omega arith)));
              }
          | inr none ↦ absurd (cc (sym none.0 ∙ here))
        ]
    by_why None None right at =
        let here : refusal ≡ None = by None None right at in
        elim told as (λ _. Replied size pages r) [
          | inl same ↦ absurd (cc (sym same ∙ here))
          | inr none ↦
              let is = reply_is names apart r.reply (Shows (look pages r.start r.len)) none.1 in
              record {
                answered = shown (read_within 65536 size r.start r.len right).0 at is;
                right = reply_by None (Shows (look pages r.start r.len)) right is (eq-eqb (length (look pages r.start r.len)) r.len (look_length pages r.start r.len));
              }
        ]
