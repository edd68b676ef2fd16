-- What the desk's own functions say to one another: that a slot lies in the store, that a client's words are small enough for it, and that nothing is
-- lacking. No promise to a caller names these. Assumes nothing.
use Rattle.std.specs.Prelude.{ℕ, ◌≤◌, ◌≡◌, true, List}
use Rattle.desk.specs.declared.Opening.{Opening}
use Rattle.desk.specs.Slots.{keeps}

-- a slot that begins at `at` lies in the store, and has place for w values
pub record Slot (at w : ℕ) : Type 0 where
  pub begins : at ≤ 1173
  pub values : w ≤ 16

-- the store has a slot for each piece of the words o, and a slot has place for its values
pub record Small (o : Opening) : Type 0 where
  pub pieces : o.pieces ≤ 70
  pub width : o.width ≤ 16

-- what joining rests on: the client with the words o keeps each piece 1 to k
pub record AllKept (slots : List ℕ) (o : Opening) (c : ℕ) : Type 0 where
  pub all : (j : ℕ) → 1 ≤ j → j ≤ o.pieces → keeps slots c o.width j ≡ true
