-- `joining::checks::differ` meets its contract. The invariant: the first value that differs is still to be found from value i on.
-- Assumes nothing.
use mathlib.Core.Path.{◌≡◌}
use mathlib.Core.Bool.{Bool, not}
use mathlib.Core.List.{List}
use Prim.Native.Nat.{ℕ, ◌+◌}
use lib.Dec.{eqb}
use Rattle.lists.specs.Places.{first_in}
use Rattle.joining.specs.Pile.{own_width, value_of, differ_in}
use Rattle.joining.proofs.checks.differ.Given as goal

abbrev pub other : List ℕ → ℕ → ℕ → ℕ → Bool
other pile a b i = not (eqb (value_of pile a i) (value_of pile b i))

abbrev pub invariant-loop-i : goal.invariant-loop-i
invariant-loop-i l = let p = l.sorted.pile.now in differ_in p l.a l.b ≡ first_in (other p l.a l.b) l.i (own_width p + 1)
