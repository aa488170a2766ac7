-- Whether one reply fits its read.
use Rattle.std.proofs.Common.{◌≡◌, ◌*◌, ◌&&◌, ℕ, Bool, true, false, List, [], ◌∷◌, ◌++◌, Option, Some, None, Ok, Err, refl, ap, sym, ◌∙◌}
use Rattle.std.specs.Prelude.{IsSomeAnd}
use Rattle.std.specs.List.{list_all}
use Rattle.word_tables.specs.declared.geometry.Geometry.{Geometry}
use Rattle.reply_text.specs.Answer.{Answer}
use Rattle.outcomes.specs.Blocks.{is_block_reply}
use Rattle.outcomes.specs.Pages.{is_reply}
use Rattle.outcomes.specs.Seen.{Seen, block_reads, file_reads, volume_reads}
use Rattle.outcomes.specs.Seen.Seen.{of_blocks, of_file, of_volume}
use Rattle.asked_reads.specs.declared.question.Question.{Question}
use Rattle.asked_reads.specs.declared.read.Read.{Read}
use Rattle.asked_reads.specs.declared.read.Read.TheVariants.{Blocks, File, Volume}
use Rattle.asked_reads.specs.Asking.{IsLook, blocks_of, files_asked, may_be_file_reply, may_be_replies}
use Rattle.asked_reads.specs.Looking.{read_action}
use Rattle.exploration.specs.declared.reason.Reason.TheVariants.{Length, Place, Refusal}
use Rattle.exploration.specs.declared.stop.ReplyStop.{ReplyStop}
use Rattle.exploration.specs.declared.stop.ReplyStop.TheVariants as reply
use Rattle.exploration.specs.Fitting.{fits, fits_seen, has_length, has_place, has_refusal, may_be}
use Rattle.exploration.specs.Reads.{seen_of}
use Rattle.exploration.specs.Steps.{AddsRead, AsksRead, line_stop}

and_true : (b : Bool) → (b && true) ≡ b
and_true true = refl
and_true false = refl

-- of one read alone, tests of all reads are that of its kind
by_one : (geo : Geometry) (s : Seen)
    → (list_all (is_reply (4096 * geo.vpages)) (volume_reads (s ∷ [])) && (list_all (is_block_reply geo.blocks) (block_reads (s ∷ [])) && list_all may_be_file_reply (file_reads (s ∷ [])))) ≡ may_be geo s
by_one geo (of_volume r) = and_true (is_reply (4096 * geo.vpages) r && true) ∙ and_true (is_reply (4096 * geo.vpages) r)
by_one geo (of_blocks r) = and_true (is_block_reply geo.blocks r && true) ∙ and_true (is_block_reply geo.blocks r)
by_one geo (of_file r) = and_true (may_be_file_reply r)

may_be_alone : (geo : Geometry) (s : Seen) (q : Question) → IsLook (s ∷ []) q → may_be_replies geo q ≡ may_be geo s
may_be_alone geo s q is =
    ap (λ v. list_all (is_reply (4096 * geo.vpages)) v && (list_all (is_block_reply geo.blocks) (blocks_of q) && list_all may_be_file_reply (files_asked q))) (sym is.volume)
    ∙ ap (λ b. list_all (is_reply (4096 * geo.vpages)) (volume_reads (s ∷ [])) && (list_all (is_block_reply geo.blocks) b && list_all may_be_file_reply (files_asked q))) (sym is.blocks)
    ∙ ap (λ f. list_all (is_reply (4096 * geo.vpages)) (volume_reads (s ∷ [])) && (list_all (is_block_reply geo.blocks) (block_reads (s ∷ [])) && list_all may_be_file_reply f)) (sym is.files)
    ∙ by_one geo s

-- a read as its command
fits_is : (geo : Geometry) (k : ℕ) (read : Read) (answer : Answer)
    → fits geo k (read_action read) answer ≡ fits_seen geo k (has_length read answer) (has_place read answer) (has_refusal read answer) (seen_of (read_action read) answer)
fits_is geo k (Volume start len) answer = refl
fits_is geo k (Blocks first count) answer = refl
fits_is geo k (File name start len) answer = refl

module _ (geo : Geometry) (k : ℕ) (read : Read) (answer : Answer) where
  -- a read that never has a reply of that kind
  pub fits-kind : (look before : List Seen) (q new : Question) (stop : ReplyStop) → AddsRead before (seen_of (read_action read) answer) q (Err stop)
      → AsksRead look (fits geo k (read_action read) answer) new (Err (line_stop k stop))
  fits-kind look before q new reply.Kind none =
      fits_is geo k read answer ∙ ap (fits_seen geo k (has_length read answer) (has_place read answer) (has_refusal read answer)) none
  fits-kind look before q new reply.Memory none = tt

  module _ (alone : Question) (one : IsSomeAnd (seen_of (read_action read) answer) (λ s. IsLook ([] ++ s ∷ []) alone)) where
    pub fits-length : has_length read answer ≡ false → fits geo k (read_action read) answer ≡ Err (Length k)
    fits-length short = fits_is geo k read answer ∙ by_seen (seen_of (read_action read) answer) one
      where
        by_seen : (seen : Option Seen) → IsSomeAnd seen (λ s. IsLook ([] ++ s ∷ []) alone) → fits_seen geo k (has_length read answer) (has_place read answer) (has_refusal read answer) seen ≡ Err (Length k)
        by_seen None one = absurd one
        by_seen (Some s) one = rw short refl

    pub fits-place : has_length read answer ≡ true → has_place read answer ≡ false → fits geo k (read_action read) answer ≡ Err (Place k)
    fits-place long off = fits_is geo k read answer ∙ by_seen (seen_of (read_action read) answer) one
      where
        by_seen : (seen : Option Seen) → IsSomeAnd seen (λ s. IsLook ([] ++ s ∷ []) alone) → fits_seen geo k (has_length read answer) (has_place read answer) (has_refusal read answer) seen ≡ Err (Place k)
        by_seen None one = absurd one
        by_seen (Some s) one = rw (long, off) refl

    pub fits-refusal : has_length read answer ≡ true → has_place read answer ≡ true → (has_refusal read answer && may_be_replies geo alone) ≡ false
        → fits geo k (read_action read) answer ≡ Err (Refusal k)
    fits-refusal long on not_so = fits_is geo k read answer ∙ by_seen (seen_of (read_action read) answer) one
      where
        by_seen : (seen : Option Seen) → IsSomeAnd seen (λ s. IsLook ([] ++ s ∷ []) alone) → fits_seen geo k (has_length read answer) (has_place read answer) (has_refusal read answer) seen ≡ Err (Refusal k)
        by_seen None one = absurd one
        by_seen (Some s) one =
            let test : (has_refusal read answer && may_be geo s) ≡ false = ap (λ b. has_refusal read answer && b) (sym (may_be_alone geo s alone one)) ∙ not_so in
            rw (long, on, test) refl

    -- and one that may have it
    pub fits-all : (look : List Seen) (new : Question) → has_length read answer ≡ true → has_place read answer ≡ true → (has_refusal read answer && may_be_replies geo alone) ≡ true
        → AddsRead look (seen_of (read_action read) answer) new (Ok tt) → AsksRead look (fits geo k (read_action read) answer) new (Ok tt)
    fits-all look new long on so adds = rw (fits_is geo k read answer) (by_seen (seen_of (read_action read) answer) one adds)
      where
        by_seen : (seen : Option Seen) → IsSomeAnd seen (λ s. IsLook ([] ++ s ∷ []) alone) → AddsRead look seen new (Ok tt)
            → AsksRead look (fits_seen geo k (has_length read answer) (has_place read answer) (has_refusal read answer) seen) new (Ok tt)
        by_seen None one adds = absurd one
        by_seen (Some s) one adds =
            let test : (has_refusal read answer && may_be geo s) ≡ true = ap (λ b. has_refusal read answer && b) (sym (may_be_alone geo s alone one)) ∙ so in
            rw (long, on, test) adds
