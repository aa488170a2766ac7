-- The layout and the bad lines of metadata stay what they are, while other lines are worked on and where the power comes back.
use Rattle.std.proofs.Common.{◌≡◌, ◌≢◌, ◌/◌, ℕ, ◌+◌, ◌<◌, Bool, zero, suc, false, cond, List, [], ◌∷◌, refl, sym, ◌∙◌, ap, ap₂, subst, arith}
use Rattle.std.specs.Prelude.{filter}
use Rattle.std.specs.List.{range_with_len}
use Rattle.line_device.specs.History.{WordWritesBack}
use Rattle.line_device.specs.Medium.{Medium, IsSound, Survivors, Waits, WritesBack}
use Rattle.line_device.specs.declared.line.Choice.{Choice}
use Rattle.line_device.proofs.HistoryLemmas.{is_in-word_write_back}
use Rattle.line_words.specs.Words.{WritesBackOutside, WritesBackBeside}
use Rattle.line_words.proofs.FrameLemmas.{outside-write_back}
use Rattle.page_lines.specs.Turns.{WritesBackOthers}
use Rattle.nvm_model.proofs.KeptLemmas.{LineKept}
use Rattle.recovery.specs.Fresh.{HasSuperblock}
use Rattle.recovery.proofs.SuperblockLemmas.{superblock-outside, superblock-beside, superblock-restarted, superblock-waits}
use Rattle.word_tables.specs.declared.geometry.Geometry.{Geometry}
use Rattle.word_tables.specs.Bounds.{IsValid}
use Rattle.word_tables.specs.Layout.{meta_lines, total_lines}
use Rattle.block_device.specs.Object.{HasGoodMetadata}
use Rattle.block_device.proofs.ReadLemmas.{Stays}
use Rattle.machine_host.specs.Lines.{HasLayout, MetadataStands}
use Rattle.machine_model.specs.Lines.{bad_metadata}

-- a layout where no line of metadata is bad
pub record IsGood (geo : Geometry) (m : Medium) : Type 0 where
  pub layout : HasLayout geo m
  pub good : HasGoodMetadata geo m
  pub valid : IsValid geo
  pub lines : m.count ≡ total_lines geo

pub is_good : {geo : Geometry} {m : Medium} → HasLayout geo m → HasGoodMetadata geo m → IsGood geo m
is_good layout good = record { layout = layout; good = good; valid = layout.valid; lines = layout.lines }

-- no number passes
none_from : (test : ℕ → Bool) (start len : ℕ) → ((n : ℕ) → n < start + len → test n ≡ false) → filter test (range_with_len start len) ≡ []
none_from test start zero fails = refl
none_from test start (suc len) fails =
    ap (λ b. cond b (start ∷ filter test (range_with_len (start + 1) len)) (filter test (range_with_len (start + 1) len))) (fails start (omega arith))
    ∙ none_from test (start + 1) len (λ n lt. fails n (omega (arith, lt)))

-- the same numbers pass where the tests agree
pub filter-same : (one other : ℕ → Bool) (start len : ℕ) → ((n : ℕ) → n < start + len → one n ≡ other n) → filter one (range_with_len start len) ≡ filter other (range_with_len start len)
filter-same one other start zero same = refl
filter-same one other start (suc len) same =
    ap₂ (λ b (ns : List ℕ). cond b (start ∷ ns) ns) (same start (omega arith)) (filter-same one other (start + 1) len (λ n lt. same n (omega (arith, lt))))

-- none of metadata that is good is bad, and back
pub none_bad : (geo : Geometry) (m : Medium) → HasGoodMetadata geo m → bad_metadata geo m.is_bad ≡ []
none_bad geo m good = none_from m.is_bad 0 (meta_lines geo) (λ n lt. good n (omega (arith, lt)))

-- Lines that are not worked on are kept: words by places, and beside lines.
pub kept-outside : (inside : ℕ → Type 0) (old new : Medium) (line : ℕ) → ((p : ℕ) → p / 8 ≡ line → inside p → ⊥) → WritesBackOutside inside old new → LineKept old new line
kept-outside inside old new line apart x = record {
  bad = x.bad line;
  weak = x.weak line;
  words = λ p at. subst (λ n. WordWritesBack (old.is_weak n) (old.history p) (new.history p)) at (x.word_write_back p (apart p at));
}

pub kept-beside : (lines : ℕ → Type 0) (old new : Medium) (line : ℕ) → (lines line → ⊥) → WritesBackBeside lines old new → LineKept old new line
kept-beside lines old new line apart x = record {
  bad = x.bad line apart;
  weak = x.weak line apart;
  words = λ p at. subst (λ n. WordWritesBack (old.is_weak n) (old.history p) (new.history p)) at (x.word_write_back p (λ of. apart (subst lines at of)));
}

pub kept-others : (lines : ℕ → Type 0) (old new : Medium) (line : ℕ) → (lines line → ⊥) → WritesBackOthers lines old new → LineKept old new line
kept-others lines old new line apart x = record {
  bad = x.bad line apart;
  weak = x.weak line apart;
  words = λ p at. subst (λ n. WordWritesBack (old.is_weak n) (old.history p) (new.history p)) at (x.word_write_back p (λ of. apart (subst lines at of)));
}

pub stays_of_kept : (old new : Medium) (line : ℕ) → LineKept old new line → Stays old new line
stays_of_kept old new line kept = record { bad = kept.bad; word_write_back = kept.words }

-- a superblock whose line is only written back stays
superblock-kept : (geo : Geometry) (old new : Medium) → LineKept old new 0 → HasSuperblock geo old → HasSuperblock geo new
superblock-kept geo old new kept has p below v at =
    has p below v (is_in-word_write_back (old.is_weak 0) v (old.history p) (new.history p) (kept.words p (omega (arith, below))) at)

module _ (geo : Geometry) (old new : Medium) where
  -- the same lines of metadata are bad
  pub same_bad : ((n : ℕ) → n < meta_lines geo → new.is_bad n ≡ old.is_bad n) → bad_metadata geo new.is_bad ≡ bad_metadata geo old.is_bad
  same_bad same = filter-same new.is_bad old.is_bad 0 (meta_lines geo) (λ n lt. same n (omega (arith, lt)))

  pub stays_bad : ((n : ℕ) → n < meta_lines geo → new.is_bad n ≡ old.is_bad n) → bad_metadata geo old.is_bad ≢ [] → bad_metadata geo new.is_bad ≢ []
  stays_bad same some none = some (sym (same_bad same) ∙ none)

  pub metadata-then : (bad_meta : List ℕ) → HasLayout geo new → ((n : ℕ) → n < meta_lines geo → new.is_bad n ≡ old.is_bad n) → MetadataStands geo old bad_meta → MetadataStands geo new bad_meta
  metadata-then bad_meta layout same stands = record { layout = layout; bad = same_bad same ∙ stands.bad }

  module _ (layout : HasLayout geo old) where
    -- as other words are changed
    pub layout-outside : (inside : ℕ → Type 0) → ((p : ℕ) → p < 8 → inside p → ⊥) → WritesBackOutside inside old new → HasLayout geo new
    layout-outside inside apart x = record {
      valid = layout.valid;
      lines = x.count ∙ layout.lines;
      strong = λ n below. x.weak n ∙ layout.strong n below;
      superblock = superblock-outside geo inside old new x apart layout.superblock;
    }

    pub layout-write_back : WritesBack old new → HasLayout geo new
    layout-write_back w = layout-outside (λ _. ⊥) (λ p below none. none) (outside-write_back (λ _. ⊥) old new w)

    -- as lines are worked on
    pub layout-beside : (lines : ℕ → Type 0) → (lines 0 → ⊥) → WritesBackBeside lines old new → HasLayout geo new
    layout-beside lines apart x = record {
      valid = layout.valid;
      lines = x.count ∙ layout.lines;
      strong = λ n below. x.stays_strong n (layout.strong n below);
      superblock = superblock-beside geo lines old new x apart layout.superblock;
    }

    -- the same where weak lines may go bad
    pub layout-others : (lines : ℕ → Type 0) → (lines 0 → ⊥) → WritesBackOthers lines old new → HasLayout geo new
    layout-others lines apart x = record {
      valid = layout.valid;
      lines = x.count ∙ layout.lines;
      strong = λ n below. x.stays_strong n (layout.strong n below);
      superblock = superblock-kept geo old new (kept-others lines old new 0 apart x) layout.superblock;
    }

    -- and where the lines of metadata are only written back
    pub layout-kept : new.count ≡ old.count → ((n : ℕ) → n < meta_lines geo → LineKept old new n) → 0 < meta_lines geo → HasLayout geo new
    layout-kept count kept some = record {
      valid = layout.valid;
      lines = count ∙ layout.lines;
      strong = λ n below. (kept n below).weak ∙ layout.strong n below;
      superblock = superblock-kept geo old new (kept 0 some) layout.superblock;
    }

    -- as the power comes back, or was to
    pub layout-restarted : (unit : ℕ) (choice : Choice) → IsSound old → Survivors unit choice old new → HasLayout geo new
    unfolding total_lines
    layout-restarted unit choice sound x = record {
      valid = layout.valid;
      lines = x.count ∙ layout.lines;
      strong = λ n below. x.weak n ∙ layout.strong n below;
      superblock = superblock-restarted geo unit choice old new sound (omega (arith, layout.lines)) x layout.superblock;
    }

    pub layout-waits : (unit : ℕ) → Waits unit old new → HasLayout geo new
    layout-waits unit x = record {
      valid = layout.valid;
      lines = x.count ∙ layout.lines;
      strong = λ n below. x.weak n ∙ layout.strong n below;
      superblock = superblock-waits geo unit old new x layout.superblock;
    }
