-- What a list ends as, where a `&mut` to its items was returned.
use Rattle.std.specs.Prelude.{List, length}
use Rattle.std.specs.List.{refill}
use Rattle.std.specs.Borrow.{Lends, Fml, RattleType, MutBor, Array}
use Rattle.nvm_base.specs.Stock.{Stock}
use Rattle.nvm_base.specs.contracts.buffer.Buffer.{the_row}

module _ (T : RattleType) (list : MutBor (Stock T.Denot)) where
  -- once the borrow r ends, the items are those that r shows last
  abbrev pub lends_items : MutBor (List T.Denot) → Fml
  lends_items r = Lends (the_row T) (Array T 0) list r
      (λ items. record { items = refill (length list.now.items) list.now.items items; spare = list.now.spare })
