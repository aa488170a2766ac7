-- What a module does is what a device may do.
use Rattle.std.proofs.Common.{◌≡◌, inl, inr, ℕ, zero, suc, Bool, true, false, ◌/◌, ◌%◌, ◌==◌, List, [], ◌∷◌, ◌++◌, length, take, drop, nat_lt, if◌then◌else◌, refl, sym, ◌∙◌, ap, subst}
use Rattle.std.specs.Prelude.{Option, Some, None, slice_get}
use Rattle.line_device.specs.Word.{word_over, reaches}
use Rattle.line_device.specs.History.{newest, IsIn, IsPart, WordWritesBack}
use Rattle.line_device.specs.Medium.{Medium, WritesBack, IsSound, Survives, Survivors, on_line, word_stored, stored}
use Rattle.line_device.specs.declared.line.Choice.{Choice}
use Rattle.line_device.specs.declared.line.Choice.TheVariants.{Firsts, Lasts, Seed}
use Rattle.line_device.proofs.HistoryLemmas.{is_part-refl, latest-push, word_write_back-refl}
use Rattle.line_device.proofs.WriteBackLemmas.{write_back-refl, write_back_same, write_back-trans, write_back-stored, writes_back-flushed}
use Rattle.line_device.proofs.RestartLemmas.{survivors-kept}
use Rattle.line_module.specs.Survivors.{drawn_word, survivor_of}
use Rattle.line_module.specs.Memory.{Memory, has, without, one_more, word_put, put_over, with_back, in_the_way, written_back, memory_after_store, memory_after_evict, memory_after_restart}
use Rattle.line_module.specs.Chains.{is_weak_state, is_listed}
use Rattle.line_module.specs.Cells.{cells_medium, memory_in}
use Rattle.line_module.specs.Module.{memory_held}
use Rattle.line_module.specs.declared.state.State.{State}
use Rattle.line_module.specs.declared.state.State.TheVariants.{Clean, Dirty, Weak}
use Rattle.line_module.specs.declared.cells.Cells.{Cells}
use Rattle.line_module.proofs.WordsLemmas.{true_is_not_false}
use Rattle.line_module.proofs.OrderLemmas.{has_first, has-without_less}
use Rattle.line_module.proofs.WayLemmas.{in_the_way-is, in_the_way-strong}
use Rattle.line_module.proofs.MixedLemmas.{drawn-kept}
use Rattle.line_module.proofs.RestartLemmas.{survivor-none}

is_part-later : (y : ℕ) (xs : List ℕ) → IsPart xs (y ∷ xs)
is_part-later y [] = tt
is_part-later y (x ∷ xs) = inr (is_part-refl (x ∷ xs))

-- one value more, the second one gone where there is no room
word_write_back-one_more : (weak : Bool) (h : List ℕ) (v : ℕ) → WordWritesBack weak (h ++ v ∷ []) (one_more h v)
word_write_back-one_more weak h v = decide (nat_lt (length h) 16) h
  where
    decide : (b : Bool) (h : List ℕ) → WordWritesBack weak (h ++ v ∷ []) (if b then h ++ v ∷ [] else take 1 h ++ drop 2 h ++ v ∷ [])
    decide true h = word_write_back-refl weak (h ++ v ∷ [])
    decide false [] = word_write_back-refl weak (v ∷ [])
    decide false (x ∷ []) = word_write_back-refl weak (x ∷ v ∷ [])
    decide false (x ∷ y ∷ ys) = record {
      part = inl (refl, is_part-later y (ys ++ v ∷ []));
      last = latest-push (x ∷ ys) v ∙ sym (latest-push (x ∷ y ∷ ys) v);
      first = λ _. refl;
    }

write_back-put : (m : Medium) (line at : ℕ) (bytes : List ℕ) → WritesBack (stored m line at bytes) (record m { history = on_line line (word_put at bytes) m.history })
write_back-put m line at bytes = record {
  count = refl;
  bad = λ n. refl;
  weak = λ n. refl;
  word_write_back = λ p.
      let weak = m.is_weak (p / 8) in
      let h = m.history p in
      let v = word_over at bytes (p % 8) (newest h) in
      elim (p / 8 == line) as (λ b. WordWritesBack weak (if b then word_stored at bytes (p % 8) h else h) (if b then word_put at bytes (p % 8) h else h)) [
        | true ↦ elim (reaches at (length bytes) (p % 8)) as (λ b. WordWritesBack weak (if b then h ++ v ∷ [] else h) (if b then one_more h v else h)) [ true ↦ word_write_back-one_more weak h v | false ↦ word_write_back-refl weak h ]
        | false ↦ word_write_back-refl weak h
      ];
}

-- no listed line is weak
abbrev pub ListsStrong : Memory → Type 0
ListsStrong s = (n : ℕ) → has n s.order ≡ true → s.medium.is_weak n ≡ false

listed-strong : (state : Option State) → is_listed state ≡ true → is_weak_state state ≡ false
listed-strong None listed = refl
listed-strong (Some Clean) listed = refl
listed-strong (Some (Dirty k)) listed = refl
listed-strong (Some (Weak k)) listed = absurd (true_is_not_false (sym listed))

pub strong-cells : (c : Cells) → ListsStrong (memory_in c)
strong-cells c n there = listed-strong (slice_get c.states.items n) (sym (c.kept.each n).in_order ∙ there)

write_back-way : (s : Memory) (line at len : ℕ) → ListsStrong s → WritesBack s.medium (with_back s (in_the_way s line at len)).medium
write_back-way s line at len strong = decide (in_the_way s line at len) refl
  where
    decide : (o : Option ℕ) → in_the_way s line at len ≡ o → WritesBack s.medium (with_back s o).medium
    decide None way = write_back-refl s.medium
    decide (Some other) way =
        writes_back-flushed s.medium other
        (elim (in_the_way-is s line at len other way) as (λ _. s.medium.is_weak other ≡ false) [
          | inl same ↦ ap s.medium.is_weak same.0 ∙ in_the_way-strong s line at len other way
          | inr oldest ↦ strong other (has_first other s.order oldest)
        ])

pub write_back-memory_store : (s : Memory) (line at : ℕ) (bytes : List ℕ) → ListsStrong s → WritesBack (stored s.medium line at bytes) (memory_after_store s line at bytes).medium
write_back-memory_store s line at bytes strong =
    let way = with_back s (in_the_way s line at (length bytes)) in
    write_back-trans (stored s.medium line at bytes) (stored way.medium line at bytes) (put_over way line at bytes).medium
    (write_back-stored line at bytes s.medium way.medium (write_back-way s line at (length bytes) strong))
    (write_back-put way.medium line at bytes)

pub write_back-memory_evict : (s : Memory) (n : ℕ) → ListsStrong s → WritesBack s.medium (memory_after_evict s n).medium
write_back-memory_evict s zero strong = write_back-refl s.medium
write_back-memory_evict s (suc n) strong = decide (slice_get s.order 0) refl (λ t. write_back-memory_evict t n)
  where
    still : (line m : ℕ) (b : Bool) → has m s.order ≡ b → has m (without line s.order) ≡ true → s.medium.is_weak m ≡ false
    still line m true is there = strong m is
    still line m false is there = absurd (true_is_not_false (sym there ∙ has-without_less m line s.order is))

    decide : (o : Option ℕ) → slice_get s.order 0 ≡ o → ((t : Memory) → ListsStrong t → WritesBack t.medium (memory_after_evict t n).medium) → WritesBack s.medium (memory_after_evict (with_back s o) n).medium
    decide None is rest = rest s strong
    decide (Some line) is rest =
        write_back-trans s.medium (written_back s line).medium (memory_after_evict (written_back s line) n).medium
        (writes_back-flushed s.medium line (strong line (has_first line s.order is)))
        (rest (written_back s line) (λ m there. still line m (has m s.order) refl there))

survives-seed : (unit seed place : ℕ) (weak : Bool) (h : List ℕ) → IsIn (newest h) h → (value : ℕ) × Survives unit (Seed seed) weak h (survivor_of unit (Seed seed) place h) value
survives-seed unit seed place weak [] some = absurd some
survives-seed unit seed place weak (first ∷ h) some =
    (drawn_word (unit == 1) seed place first h, record { one = refl; was = drawn-kept unit seed place first h; last = λ is. cc; whole = λ is. cc; first = λ is _. cc })

-- each word keeps one value
pub survivors-memory : (unit : ℕ) (choice : Choice) (s : Memory) → IsSound s.medium → Survivors unit choice s.medium (memory_after_restart unit s choice).medium
survivors-memory unit Firsts s sound = survivors-kept unit Firsts s.medium sound
survivors-memory unit Lasts s sound = survivors-kept unit Lasts s.medium sound
survivors-memory unit (Seed seed) s sound = record {
  count = refl;
  bad = λ n. refl;
  weak = λ n. refl;
  lost = λ p none. ap (survivor_of unit (Seed seed) p) none ∙ survivor-none unit (Seed seed) p;
  words = λ p healthy. survives-seed unit seed p (s.medium.is_weak (p / 8)) (s.medium.history p) (sound.last p healthy);
}

-- the same cells, the same lines
pub same_cells : (a b : Option Cells) → b ≡ a → WritesBack (memory_held a).medium (memory_held b).medium
same_cells a b same = write_back_same (memory_held a).medium (memory_held b).medium (ap (λ k. (memory_held k).medium) same)

-- a lines clause from what was made of the cells
pub from_cells : (held : Option Cells) (cells : Cells) (P : Medium → Type 0) → held ≡ Some cells → P (cells_medium cells) → P (memory_held held).medium
from_cells held cells P is p = subst (λ k. P (memory_held k).medium) (sym is) p
