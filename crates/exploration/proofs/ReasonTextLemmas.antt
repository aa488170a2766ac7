-- Each reason has a text of its own.
use Rattle.std.proofs.Common.{◌≡◌, ◌==◌, ◌⊎◌, inl, inr, ℕ, ◌+◌, ◌/◌, ◌%◌, ◌^◌, ◌<◌, ◌≤◌, Bool, true, not, List, [], ◌∷◌, ◌++◌, Option, Some, None, if◌then◌else◌, codes, decimal, get_or, append-nil, refl, ap, sym, ◌∙◌, arith, rules, tests}
use Rattle.std.specs.List.{list_all, slice_split}
use Rattle.std.specs.Str.{bytes_eq}
use Rattle.std.proofs.lemmas.Fmt.{decimal_by_steps, decimal_injective}
use Rattle.std.proofs.lemmas.List.{append_cancel_left}
use Rattle.std.proofs.lemmas.List.Folds.{list_all-append}
use Rattle.nvm_base.proofs.SplitLemmas.{split-alone, split-before}
use Rattle.exploration.specs.declared.reason.Reason.{Reason}
use Rattle.exploration.specs.declared.reason.Reason.TheVariants as why
use Rattle.exploration.specs.Telling.{IsInRange, numbered_text, reason_text, replies_text}

-- a reason without numbers, by its text, and by itself
abbrev of_text : List ℕ → Option Reason
of_text text =
    if bytes_eq text (codes "toolong") then Some why.TooLong
    else (if bytes_eq text (codes "spelling") then Some why.Spelling
    else (if bytes_eq text (codes "command") then Some why.Command
    else (if bytes_eq text (codes "not-in-a-program") then Some why.NotInAProgram
    else (if bytes_eq text (codes "not-in-a-look") then Some why.NotInALook
    else (if bytes_eq text (codes "before-the-look") then Some why.BeforeTheLook
    else (if bytes_eq text (codes "read-after-a-question") then Some why.ReadAfterAQuestion
    else (if bytes_eq text (codes "again") then Some why.Again
    else (if bytes_eq text (codes "no-command") then Some why.NoCommand
    else (if bytes_eq text (codes "nothing-asked") then Some why.NothingAsked else None)))))))))

abbrev plain_of : Reason → Option Reason
plain_of why.TooLong = Some why.TooLong
plain_of why.Spelling = Some why.Spelling
plain_of why.Command = Some why.Command
plain_of why.NotInAProgram = Some why.NotInAProgram
plain_of why.NotInALook = Some why.NotInALook
plain_of why.BeforeTheLook = Some why.BeforeTheLook
plain_of why.ReadAfterAQuestion = Some why.ReadAfterAQuestion
plain_of why.Again = Some why.Again
plain_of why.NoCommand = Some why.NoCommand
plain_of (why.Reply k) = None
plain_of (why.Replies given reads) = None
plain_of (why.Kind k) = None
plain_of (why.Length k) = None
plain_of (why.Place k) = None
plain_of (why.Refusal k) = None
plain_of why.NothingAsked = Some why.NothingAsked

of_text-plain : (a : Reason) → of_text (reason_text a) ≡ plain_of a
of_text-plain why.TooLong = refl
of_text-plain why.Spelling = refl
of_text-plain why.Command = refl
of_text-plain why.NotInAProgram = refl
of_text-plain why.NotInALook = refl
of_text-plain why.BeforeTheLook = refl
of_text-plain why.ReadAfterAQuestion = refl
of_text-plain why.Again = refl
of_text-plain why.NoCommand = refl
of_text-plain (why.Reply k) = refl
of_text-plain (why.Replies given reads) = refl
of_text-plain (why.Kind k) = refl
of_text-plain (why.Length k) = refl
of_text-plain (why.Place k) = refl
of_text-plain (why.Refusal k) = refl
of_text-plain why.NothingAsked = refl

plain-same : (a b : Reason) → plain_of a ≡ Some b → a ≡ b
plain-same why.TooLong b is = cc
plain-same why.Spelling b is = cc
plain-same why.Command b is = cc
plain-same why.NotInAProgram b is = cc
plain-same why.NotInALook b is = cc
plain-same why.BeforeTheLook b is = cc
plain-same why.ReadAfterAQuestion b is = cc
plain-same why.Again b is = cc
plain-same why.NoCommand b is = cc
plain-same (why.Reply k) b is = absurd (cc)
plain-same (why.Replies given reads) b is = absurd (cc)
plain-same (why.Kind k) b is = absurd (cc)
plain-same (why.Length k) b is = absurd (cc)
plain-same (why.Place k) b is = absurd (cc)
plain-same (why.Refusal k) b is = absurd (cc)
plain-same why.NothingAsked b is = cc

-- a number ends at a space
abbrev has_no_space : ℕ → List ℕ → Type 0
has_no_space n text = list_all (λ c. not (c == 32)) text ≡ true

digit-solid : (d : ℕ) → d < 10 → not (48 + d == 32) ≡ true
digit-solid d small = search (rules, tests)

decimal-solid : (n : ℕ) → n < 2 ^ 64 → has_no_space n (decimal n)
decimal-solid n small = decimal_by_steps has_no_space one more n small
  where
    one : (d : ℕ) → d < 10 → has_no_space d ((48 + d) ∷ [])
    one d low = rw (digit-solid d low) refl

    more : (m : ℕ) (digits : List ℕ) → 10 ≤ m → has_no_space (m / 10) digits → has_no_space m (digits ++ ((48 + m % 10) ∷ []))
    more m digits large solid =
        let low : m % 10 < 10 = omega arith in
        list_all-append (λ c. not (c == 32)) digits ((48 + m % 10) ∷ []) ∙ rw (solid, digit-solid (m % 10) low) refl

abbrev is_tail : List ℕ → Bool
is_tail [] = true
is_tail (c ∷ cs) = c == 32

abbrev parts_after : List ℕ → List (List ℕ)
parts_after [] = []
parts_after (c ∷ cs) = slice_split (λ c. c == 32) cs

split-number : (k : ℕ) (what : List ℕ) → k < 2 ^ 64 → is_tail what ≡ true → slice_split (λ c. c == 32) (decimal k ++ what) ≡ decimal k ∷ parts_after what
split-number k [] small tail = ap (slice_split (λ c. c == 32)) (append-nil (decimal k)) ∙ split-alone (λ c. c == 32) (decimal k) (decimal-solid k small)
split-number k (c ∷ cs) small tail = split-before (λ c. c == 32) (decimal k) c cs (decimal-solid k small) tail

abbrev first_part : List (List ℕ) → List ℕ
first_part [] = []
first_part (part ∷ parts) = part

numbers-same : (j k : ℕ) (other what : List ℕ) → j < 2 ^ 64 → k < 2 ^ 64 → is_tail other ≡ true → is_tail what ≡ true → decimal j ++ other ≡ decimal k ++ what → (j ≡ k) × (other ≡ what)
numbers-same j k other what low small ends tail e =
    let digits : decimal j ≡ decimal k = ap first_part (sym (split-number j other low ends) ∙ ap (slice_split (λ c. c == 32)) e ∙ split-number k what small tail) in
    (decimal_injective j k low small digits, append_cancel_left (decimal j) other what (e ∙ ap (λ d. d ++ what) (sym digits)))

-- a reason of one reply, by what is wrong with it
abbrev with_what : ℕ → List ℕ → Option Reason
with_what k what =
    if bytes_eq what [] then Some (why.Reply k)
    else (if bytes_eq what (codes " kind") then Some (why.Kind k)
    else (if bytes_eq what (codes " length") then Some (why.Length k)
    else (if bytes_eq what (codes " place") then Some (why.Place k)
    else (if bytes_eq what (codes " refusal") then Some (why.Refusal k) else None))))

record IsOfReply (a : Reason) : Type 0 where
  pub number : ℕ
  pub what : List ℕ
  pub text : reason_text a ≡ numbered_text number what
  pub back : with_what number what ≡ Some a
  pub small : number < 2 ^ 64
  pub tail : is_tail what ≡ true

record IsOfReplies (a : Reason) : Type 0 where
  pub given : ℕ
  pub reads : ℕ
  pub is : a ≡ why.Replies given reads
  pub few_given : given < 2 ^ 64
  pub few_reads : reads < 2 ^ 64

numbered : (a : Reason) → IsInRange a → plain_of a ≡ None → IsOfReply a ⊎ IsOfReplies a
numbered why.TooLong small none = absurd (cc)
numbered why.Spelling small none = absurd (cc)
numbered why.Command small none = absurd (cc)
numbered why.NotInAProgram small none = absurd (cc)
numbered why.NotInALook small none = absurd (cc)
numbered why.BeforeTheLook small none = absurd (cc)
numbered why.ReadAfterAQuestion small none = absurd (cc)
numbered why.Again small none = absurd (cc)
numbered why.NoCommand small none = absurd (cc)
numbered (why.Reply k) small none = inl (record { number = k; what = []; text = refl; back = refl; small = small; tail = refl })
numbered (why.Replies given reads) small none = inr (record { given = given; reads = reads; is = refl; few_given = small.0; few_reads = small.1 })
numbered (why.Kind k) small none = inl (record { number = k; what = codes " kind"; text = refl; back = refl; small = small; tail = refl })
numbered (why.Length k) small none = inl (record { number = k; what = codes " length"; text = refl; back = refl; small = small; tail = refl })
numbered (why.Place k) small none = inl (record { number = k; what = codes " place"; text = refl; back = refl; small = small; tail = refl })
numbered (why.Refusal k) small none = inl (record { number = k; what = codes " refusal"; text = refl; back = refl; small = small; tail = refl })
numbered why.NothingAsked small none = absurd (cc)

one-reply : (a b : Reason) → IsOfReply a → IsOfReply b → reason_text a ≡ reason_text b → a ≡ b
one-reply a b x y e =
    let same = numbers-same x.number y.number x.what y.what x.small y.small x.tail y.tail (append_cancel_left (codes "reply ") _ _ (sym x.text ∙ e ∙ y.text)) in
    let both : Some a ≡ Some b = sym x.back ∙ ap (λ k. with_what k x.what) same.0 ∙ ap (with_what y.number) same.1 ∙ y.back in
    cc

all-replies : (a b : Reason) → IsOfReplies a → IsOfReplies b → reason_text a ≡ reason_text b → a ≡ b
all-replies a b x y e =
    let texts : replies_text x.given x.reads ≡ replies_text y.given y.reads = sym (ap reason_text x.is) ∙ e ∙ ap reason_text y.is in
    let same = numbers-same x.given y.given _ _ x.few_given y.few_given refl refl (append_cancel_left (codes "replies ") _ _ texts) in
    let reads : x.reads ≡ y.reads = decimal_injective x.reads y.reads x.few_reads y.few_reads (append_cancel_left (codes " of ") _ _ same.1) in
    x.is ∙ ap (λ n. why.Replies n x.reads) same.0 ∙ ap (why.Replies y.given) reads ∙ sym y.is

bytes-apart : (x y : ℕ) → x ≡ 121 → y ≡ 105 → x ≡ y → ⊥
bytes-apart x y first second same = absurd (omega arith)

mixed : (a b : Reason) → IsOfReply a → IsOfReplies b → reason_text a ≡ reason_text b → ⊥
mixed a b x y e =
    bytes-apart (get_or (numbered_text x.number x.what) 4 0) (get_or (replies_text y.given y.reads) 4 0) refl refl
    (ap (λ t. get_or t 4 0) (sym x.text ∙ e ∙ ap reason_text y.is))

pub reasons-apart : (a b : Reason) → IsInRange a → IsInRange b → reason_text a ≡ reason_text b → a ≡ b
reasons-apart a b small low e = go (plain_of a) refl
  where
    other : plain_of b ≡ plain_of a
    other = sym (of_text-plain b) ∙ ap of_text (sym e) ∙ of_text-plain a

    by_kind : IsOfReply a ⊎ IsOfReplies a → IsOfReply b ⊎ IsOfReplies b → a ≡ b
    by_kind (inl x) (inl y) = one-reply a b x y e
    by_kind (inl x) (inr y) = absurd (mixed a b x y e)
    by_kind (inr x) (inl y) = absurd (mixed b a y x (sym e))
    by_kind (inr x) (inr y) = all-replies a b x y e

    go : (p : Option Reason) → plain_of a ≡ p → a ≡ b
    go (Some p) is = plain-same a p is ∙ sym (plain-same b p (other ∙ is))
    go None is = by_kind (numbered a small is) (numbered b low (other ∙ is))
