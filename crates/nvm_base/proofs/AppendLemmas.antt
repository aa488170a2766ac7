-- Text that is appended part by part.
use Rattle.std.proofs.Common.{◌≡◌, ◌+◌, ◌≤◌, List, [], ◌++◌, length, Result, Ok, Err, IsOk, OnOk, OnErr, refl, sym, ap, ◌∙◌, arith, append_assoc, append-nil, length-append}
use Rattle.nvm_base.specs.Stock.{Stock, Extends, Appends}

-- of a text, the rest is still to be appended
pub record Appended {T : Type 0} (text rest : List T) (old new : Stock T) : Type 0 where
  pub items : new.items ++ rest ≡ old.items ++ text
  pub grows : Extends old.items new.items
  pub room : old.spare + length old.items ≤ new.spare + length new.items

pub Appended-none : {T : Type 0} (text : List T) (old : Stock T) → Appended text text old old
Appended-none text old = record { items = refl; grows = record { more = []; is = sym (append-nil old.items) }; room = omega arith }

pub Appended-as : {T : Type 0} (text rest next : List T) (old new : Stock T) → Appended text rest old new → rest ≡ next → Appended text next old new
Appended-as text rest next old new a e = record { items = ap (λ l. new.items ++ l) (sym e) ∙ a.items; grows = a.grows; room = a.room }

extends-then : {T : Type 0} (a b c : List T) → Extends a b → Extends b c → Extends a c
extends-then a b c p q = record { more = p.more ++ q.more; is = q.is ∙ ap (λ l. l ++ q.more) p.is ∙ append_assoc a p.more q.more }

-- a part of the rest fits where the whole text did
fits : {T : Type 0} (text part next : List T) (old new : Stock T) → Appended text (part ++ next) old new → length text ≤ old.spare → length part ≤ new.spare
fits text part next old new a h =
    let e : length (new.items ++ (part ++ next)) ≡ length (old.items ++ text) = ap length a.items in
    let r = a.room in
    omega (arith, e, length-append new.items (part ++ next), length-append part next, length-append old.items text)

pub Appended-more : {T E : Type 0} (text part next : List T) (old mid new : Stock T) (x : Unit {0}) → Appended text (part ++ next) old mid → Appends {E = E} part (Ok x) mid new → Appended text next old new
Appended-more text part next old mid new x a p = record {
  items = ap (λ l. l ++ next) p.ok ∙ append_assoc mid.items part next ∙ a.items;
  grows = extends-then old.items mid.items new.items a.grows p.grows;
  room = let r = a.room in let q = p.room in omega arith;
}

pub Appends-stopped : {T E : Type 0} (text part next : List T) (old mid new : Stock T) (e : E) → Appended text (part ++ next) old mid → Appends part (Err e) mid new → Appends text (Err e) old new
Appends-stopped text part next old mid new e a p = record {
  ok = tt;
  grows = extends-then old.items mid.items new.items a.grows p.grows;
  succeeds = λ h. p.succeeds (fits text part next old mid a h);
  room = let r = a.room in let q = p.room in omega arith;
}

pub Appends-done : {T E : Type 0} (text : List T) (old new : Stock T) (x : Unit {0}) → Appended text [] old new → Appends {E = E} text (Ok x) old new
Appends-done text old new x a = record {
  ok = sym (append-nil new.items) ∙ a.items;
  grows = a.grows;
  succeeds = λ h. refl;
  room = a.room;
}

-- the last part's answer is that of the whole
pub Appends-last : {T E : Type 0} (text part : List T) (old mid new : Stock T) (r : Result (Unit {0}) E) → Appended text part old mid → Appends part r mid new → Appends text r old new
Appends-last {T = T} {E = E} text part old mid new r a p = go r (record { items = ap (λ l. mid.items ++ l) (append-nil part) ∙ a.items; grows = a.grows; room = a.room }) p
  where
    go : (r : Result (Unit {0}) E) → Appended text (part ++ []) old mid → Appends part r mid new → Appends text r old new
    go (Ok x) b p = Appends-done text old new x (Appended-more text part [] old mid new x b p)
    go (Err e) b p = Appends-stopped text part [] old mid new e b p

-- a call that appends all or nothing
pub Appends-whole : {T E : Type 0} (text : List T) (old new : Stock T) (r : Result (Unit {0}) E) → OnOk r (new.items ≡ old.items ++ text) → OnErr r (new ≡ old) → (length text ≤ old.spare → IsOk r) → old.spare ≤ new.spare + length text → Appends text r old new
Appends-whole text old new (Ok x) ok err succeeds spare = record {
  ok = ok;
  grows = record { more = text; is = ok };
  succeeds = succeeds;
  room = omega (arith, ap length ok, length-append old.items text);
}
Appends-whole {T = T} text old new (Err e) ok err succeeds spare = record {
  ok = tt;
  grows = record { more = []; is = ap (λ s. s.items) err ∙ sym (append-nil old.items) };
  succeeds = succeeds;
  room = let i = ap (λ (s : Stock T). length s.items) err in let p = ap (λ (s : Stock T). s.spare) err in omega arith;
}
