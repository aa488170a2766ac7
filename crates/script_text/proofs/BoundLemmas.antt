-- How large what a line asks for can be.
use Rattle.std.proofs.Common.{All, ◌≡◌, ◌≤◌, length, ℕ, Bool, true, false, List, [], ◌∷◌, Option, Some, None, Result, Ok, Err, if◌then◌else◌, IfOk, IfSome, refl, subst}
use Rattle.std.proofs.lemmas.List.Elements.{All-tail}
use Rattle.script_text.specs.Action.{Action, action_of}
use Rattle.script_text.specs.Action.Action.{BRead, BWrite, BDiscard, BDiscardIf, BExists, BAtomic, BScar, BMulti, VLoad, VStore, VSync, VRanges, VPSync, VDiscard, VDiscardIf, VExists, Create, Delete, Rename, Resize, ListFiles, FRead, FWrite, FAtomic, FMulti, FDiscard, FSync, Map, Unmap, Load, Store, Sync, Flush, FlushVerify, DeepFlush, NextEvent, CheckFile, PoisonBlock, PoisonVolume, PoisonFile, PoisonMeta, WeakenFile, WeakenVolume, ClearFile, ClearVolume, Cut, CutIn, FailIn, Restart, Recover, Attr, Evict}
use Rattle.script_text.specs.Operands.{span_action, data_action, spans_action, ranges_action}
use Rattle.script_text.specs.Script.{cut_action, fail_action, restart_action, poison_action, map_action, power_action, media_action, mapped_action, files_action, volume_action, plain_action, flushing_action, storing_action, writing_action, command_action, is_comment, asked, words_of, words_input}
use Rattle.script_text.specs.Script.Input.{Skipped, Overlong, Asked}
use Rattle.line_device.specs.declared.line.Choice.TheVariants.{Firsts, Lasts, Seed}
use Rattle.script_text.specs.declared.parsing.LineFault.{LineFault}
use Rattle.script_text.specs.declared.parsing.LineFault.TheVariants.{TooLong}
use Rattle.script_text.specs.declared.command.Command.{Command}
use Rattle.script_text.specs.Parsing.{InBounds, Parses}
use Rattle.script_text.proofs.OperandLemmas.{IsName, Keeps, Keeps-none, Keeps-cond, bare_action-bounds, number_action-bounds, span_action-bounds, name_action-bounds, names_action-bounds, sized_action-bounds, data_action-bounds, named_action-bounds, numbered_action-bounds, kind_action-bounds, placed_action-bounds}
use Rattle.script_text.proofs.PairLemmas.{spans_action-bounds, ranges_action-bounds}
use Rattle.script_text.proofs.LengthLemmas.{IsWord, words_of-bounds, word_action-bounds}

cut_action-bounds : (words : List (List ℕ)) → Keeps (cut_action words)
cut_action-bounds [] = λ action e. let same : Cut ≡ action = cc in subst InBounds same tt
cut_action-bounds (x ∷ words) = Keeps-cond _ _ _ (number_action-bounds CutIn (λ a p. p) words) Keeps-none

fail_action-bounds : (words : List (List ℕ)) → Keeps (fail_action words)
fail_action-bounds [] = Keeps-none
fail_action-bounds (x ∷ words) = Keeps-cond _ _ _ (number_action-bounds FailIn (λ a p. p) words) Keeps-none

restart_action-bounds : (words : List (List ℕ)) → Keeps (restart_action words)
restart_action-bounds [] = Keeps-none
restart_action-bounds (x ∷ words) =
    Keeps-cond _ _ _ (bare_action-bounds (Restart Firsts) tt words)
    (Keeps-cond _ _ _ (bare_action-bounds (Restart Lasts) tt words)
    (Keeps-cond _ _ _ (number_action-bounds (λ n. Restart (Seed n)) (λ a p. p) words) Keeps-none))

poison_action-bounds : (words : List (List ℕ)) → Keeps (poison_action words)
poison_action-bounds [] = Keeps-none
poison_action-bounds (x ∷ words) =
    Keeps-cond _ _ _ (span_action-bounds PoisonBlock (λ a b p q. (p, q)) words)
    (Keeps-cond _ _ _ (sized_action-bounds PoisonFile (λ file a p q. (p, q)) words)
    (Keeps-cond _ _ _ (number_action-bounds PoisonVolume (λ a p. p) words)
    (Keeps-cond _ _ _ (number_action-bounds PoisonMeta (λ a p. p) words) Keeps-none)))

map_action-bounds : (file : List ℕ) (words : List (List ℕ)) → IsName file → Keeps (map_action file words)
map_action-bounds file words good =
    numbered_action-bounds _ (λ start rest p. numbered_action-bounds _ (λ len last q. kind_action-bounds (Map file (record { start = start; len = len })) (λ kind. (good, (p, q))) last) rest) words

power_action-bounds : (name : List ℕ) (words : List (List ℕ)) → Keeps (power_action name words)
power_action-bounds name words =
    Keeps-cond _ _ _ (cut_action-bounds words)
    (Keeps-cond _ _ _ (fail_action-bounds words)
    (Keeps-cond _ _ _ (restart_action-bounds words)
    (Keeps-cond _ _ _ (bare_action-bounds Recover tt words)
    (Keeps-cond _ _ _ (number_action-bounds Evict (λ a p. p) words) Keeps-none))))

media_action-bounds : (name : List ℕ) (words : List (List ℕ)) → Keeps (media_action name words)
media_action-bounds name words =
    Keeps-cond _ _ _ (poison_action-bounds words)
    (Keeps-cond _ _ _ (placed_action-bounds WeakenFile WeakenVolume (λ file a p q. (p, q)) (λ a p. p) words)
    (Keeps-cond _ _ _ (placed_action-bounds ClearFile ClearVolume (λ file a p q. (p, q)) (λ a p. p) words)
    (Keeps-cond _ _ _ (named_action-bounds (λ file. span_action (CheckFile file)) (λ file rest good. span_action-bounds (CheckFile file) (λ a b p q. (good, p, q)) rest) words) (power_action-bounds name words))))

mapped_action-bounds : (name : List ℕ) (words : List (List ℕ)) → Keeps (mapped_action name words)
mapped_action-bounds name words =
    Keeps-cond _ _ _ (named_action-bounds map_action map_action-bounds words)
    (Keeps-cond _ _ _ (number_action-bounds Unmap (λ a p. p) words)
    (Keeps-cond _ _ _ (numbered_action-bounds (λ h. span_action (Load h)) (λ h rest good. span_action-bounds (Load h) (λ a b p q. (good, p, q)) rest) words)
    (Keeps-cond _ _ _ (numbered_action-bounds (λ h. span_action (Sync h)) (λ h rest good. span_action-bounds (Sync h) (λ a b p q. (good, p, q)) rest) words)
    (Keeps-cond _ _ _ (bare_action-bounds NextEvent tt words) (media_action-bounds name words)))))

files_action-bounds : (name : List ℕ) (words : List (List ℕ)) → Keeps (files_action name words)
files_action-bounds name words =
    Keeps-cond _ _ _ (sized_action-bounds Create (λ file a p q. (p, q)) words)
    (Keeps-cond _ _ _ (name_action-bounds Delete (λ file p. p) words)
    (Keeps-cond _ _ _ (names_action-bounds Rename (λ file to p q. (p, q)) words)
    (Keeps-cond _ _ _ (sized_action-bounds Resize (λ file a p q. (p, q)) words)
    (Keeps-cond _ _ _ (bare_action-bounds ListFiles tt words)
    (Keeps-cond _ _ _ (named_action-bounds (λ file. span_action (FRead file)) (λ file rest good. span_action-bounds (FRead file) (λ a b p q. (good, p, q)) rest) words)
    (Keeps-cond _ _ _ (named_action-bounds (λ file. span_action (FDiscard file)) (λ file rest good. span_action-bounds (FDiscard file) (λ a b p q. (good, p, q)) rest) words)
    (Keeps-cond _ _ _ (name_action-bounds FSync (λ file p. p) words) (mapped_action-bounds name words))))))))

volume_action-bounds : (name : List ℕ) (words : List (List ℕ)) → Keeps (volume_action name words)
volume_action-bounds name words =
    Keeps-cond _ _ _ (span_action-bounds VLoad (λ a b p q. (p, q)) words)
    (Keeps-cond _ _ _ (span_action-bounds VSync (λ a b p q. (p, q)) words)
    (Keeps-cond _ _ _ (span_action-bounds VPSync (λ a b p q. (p, q)) words)
    (Keeps-cond _ _ _ (span_action-bounds VDiscard (λ a b p q. (p, q)) words)
    (Keeps-cond _ _ _ (span_action-bounds VDiscardIf (λ a b p q. (p, q)) words)
    (Keeps-cond _ _ _ (number_action-bounds VExists (λ a p. p) words)
    (Keeps-cond _ _ _ (bare_action-bounds VRanges tt words) (files_action-bounds name words)))))))

plain_action-bounds : (name : List ℕ) (words : List (List ℕ)) → Keeps (plain_action name words)
plain_action-bounds name words =
    Keeps-cond _ _ _ (span_action-bounds BRead (λ a b p q. (p, q)) words)
    (Keeps-cond _ _ _ (span_action-bounds BDiscard (λ a b p q. (p, q)) words)
    (Keeps-cond _ _ _ (span_action-bounds BDiscardIf (λ a b p q. (p, q)) words)
    (Keeps-cond _ _ _ (number_action-bounds BExists (λ a p. p) words) (volume_action-bounds name words))))

flushing_action-bounds : (name : List ℕ) (words : List (List ℕ)) → Keeps (flushing_action name words)
flushing_action-bounds name words =
    Keeps-cond _ _ _ (numbered_action-bounds (λ h. spans_action (Flush h)) (λ h rest good. spans_action-bounds (Flush h) (λ spans some each. (good, some, each)) rest) words)
    (Keeps-cond _ _ _ (numbered_action-bounds (λ h. spans_action (FlushVerify h)) (λ h rest good. spans_action-bounds (FlushVerify h) (λ spans some each. (good, some, each)) rest) words)
    (Keeps-cond _ _ _ (numbered_action-bounds (λ h. spans_action (DeepFlush h)) (λ h rest good. spans_action-bounds (DeepFlush h) (λ spans some each. (good, some, each)) rest) words) (plain_action-bounds name words)))

storing_action-bounds : (name : List ℕ) (words : List (List ℕ)) → Keeps (storing_action name words)
storing_action-bounds name words =
    Keeps-cond _ _ _ (numbered_action-bounds (λ h. data_action (Store h)) (λ h rest good. data_action-bounds (Store h) (λ a bytes p q r. (good, p, q, r)) rest) words) (flushing_action-bounds name words)

writing_action-bounds : (name : List ℕ) (words : List (List ℕ)) → Keeps (writing_action name words)
writing_action-bounds name words =
    Keeps-cond _ _ _ (named_action-bounds (λ file. data_action (FWrite file)) (λ file rest good. data_action-bounds (FWrite file) (λ a bytes p q r. (good, p, q, r)) rest) words)
    (Keeps-cond _ _ _ (named_action-bounds (λ file. data_action (FAtomic file)) (λ file rest good. data_action-bounds (FAtomic file) (λ a bytes p q r. (good, p, q, r)) rest) words)
    (Keeps-cond _ _ _ (named_action-bounds (λ file. ranges_action (FMulti file)) (λ file rest good. ranges_action-bounds (FMulti file) (λ ranges bytes small. (good, small)) rest) words) (storing_action-bounds name words)))

command_action-bounds : (name : List ℕ) (words : List (List ℕ)) → All IsWord words → Keeps (command_action name words)
unfolding command_action
command_action-bounds name words each =
    Keeps-cond _ _ _ (data_action-bounds BWrite (λ a bytes p q r. (p, q, r)) words)
    (Keeps-cond _ _ _ (data_action-bounds VStore (λ a bytes p q r. (p, q, r)) words)
    (Keeps-cond _ _ _ (spans_action-bounds BScar (λ spans some each. (some, each)) words)
    (Keeps-cond _ _ _ (data_action-bounds BAtomic (λ a bytes p q r. (p, q, r)) words)
    (Keeps-cond _ _ _ (ranges_action-bounds BMulti (λ ranges bytes small. small) words)
    (Keeps-cond _ _ _ (word_action-bounds Attr (λ word p q. (p, q)) words each) (writing_action-bounds name words))))))

asked-bounds : (o : Option Action) (action : Action) → Keeps o → asked o ≡ Asked action → InBounds action
asked-bounds None action small e = absurd (cc)
asked-bounds (Some a) action small e = let same : a ≡ action = cc in subst InBounds same (small a refl)

-- what the words of a line ask for
words_input-bounds : (words : List (List ℕ)) (action : Action) → All IsWord words → words_input words ≡ Asked action → InBounds action
words_input-bounds [] action each e = absurd (cc)
words_input-bounds (name ∷ words) action each e = go (is_comment name) e
  where
    go : (comment : Bool) → (if comment then Skipped else asked (command_action name words)) ≡ Asked action → InBounds action
    go true e = absurd (cc)
    go false e = asked-bounds (command_action name words) action (command_action-bounds name words (All-tail IsWord name words each)) e

-- a command that was parsed
pub Parses-bounds : (text : List ℕ) (r : Result (Option Command) LineFault) → length text ≤ 65536 → Parses (words_input (words_of text)) r → IfOk r (λ parsed. IfSome parsed (λ command. InBounds (action_of command)))
Parses-bounds text (Err fault) most p = tt
Parses-bounds text (Ok None) most p = tt
Parses-bounds text (Ok (Some command)) most p = words_input-bounds (words_of text) (action_of command) (words_of-bounds text most) p

asked-short : (o : Option Action) → asked o ≡ Overlong → ⊥
asked-short None e = absurd (cc)
asked-short (Some action) e = absurd (cc)

words_input-short : (words : List (List ℕ)) → words_input words ≡ Overlong → ⊥
words_input-short [] e = absurd (cc)
words_input-short (name ∷ words) e = go (is_comment name) e
  where
    go : (comment : Bool) → (if comment then Skipped else asked (command_action name words)) ≡ Overlong → ⊥
    go true e = absurd (cc)
    go false e = asked-short (command_action name words) e

-- words are never too long
pub Parses-short : (words : List (List ℕ)) (r : Result (Option Command) LineFault) → Parses (words_input words) r → r ≡ Err TooLong → ⊥
Parses-short words r p e = words_input-short words (subst (Parses (words_input words)) e p)
