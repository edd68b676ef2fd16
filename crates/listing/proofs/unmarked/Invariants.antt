-- `listing::unmarked` meets its contract: the rows so far are looked at. Assumes nothing.
use mathlib.Core.Path.{◌≡◌}
use mathlib.Core.Bool.{false, not}
use mathlib.Core.List.{[]}
use Prim.Native.Nat.{ℕ, ◌<◌}
use lib.ListN.{length, get_or}
use Rattle.listing.proofs.unmarked.Given as goal

abbrev pub invariant-loop-j : goal.invariant-loop-j
invariant-loop-j l =
    (length l.has ≡ 70) × ((k : ℕ) → k < l.j → get_or l.has k false ≡ not (get_or (get_or l.rows k []) l.i false))
