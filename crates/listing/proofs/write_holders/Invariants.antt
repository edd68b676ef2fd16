-- `listing::write_holders` meets its contract: the lines so far are written.
-- Assumes nothing.
use mathlib.Core.Path.{◌≡◌}
use mathlib.Core.Bool.{not}
use Rattle.planning.specs.Groups.{marked}
use Rattle.print.specs.Inner.{Writes}
use Rattle.print.specs.Lines.{rising}
use Rattle.listing.specs.Listing.{holder_line}
use Rattle.listing.proofs.write_holders.Given as goal

abbrev pub invariant-loop-i : goal.invariant-loop-i
invariant-loop-i l =
    (l.page.out.ghost_name ≡ l.initial.page.out.ghost_name)
    × Writes (rising (λ i. holder_line (λ j. not (marked l.plan.rows j i)) l.plan.pieces i) l.i) l.initial.page l.page
