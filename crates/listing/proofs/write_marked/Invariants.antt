-- `listing::write_marked` meets its contract: the numbers of the marks so far are written.
-- Assumes nothing.
use mathlib.Core.Path.{◌≡◌}
use mathlib.Core.Bool.{false}
use Prim.Native.Nat.{◌-◌}
use lib.ListN.{get_or}
use Rattle.lists.specs.Places.{those}
use Rattle.print.specs.Inner.{Writes}
use Rattle.print.specs.Lines.{spaced_all}
use Rattle.listing.proofs.write_marked.Given as goal

abbrev pub invariant-loop-i : goal.invariant-loop-i
invariant-loop-i l =
    (l.page.out.ghost_name ≡ l.initial.page.out.ghost_name)
    × Writes (spaced_all (those (λ n. get_or l.marks (n - 1) false) 1 l.i)) l.initial.page l.page
