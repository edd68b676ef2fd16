-- `listing::write_pieces` meets its contract: the lines so far are written.
-- Assumes nothing.
use mathlib.Core.Path.{◌≡◌}
use Rattle.planning.specs.Groups.{marked}
use Rattle.print.specs.Inner.{Writes}
use Rattle.print.specs.Lines.{rising}
use Rattle.listing.specs.Listing.{piece_line}
use Rattle.listing.proofs.write_pieces.Given as goal

abbrev pub invariant-loop-j : goal.invariant-loop-j
invariant-loop-j l =
    (l.page.out.ghost_name ≡ l.initial.page.out.ghost_name)
    × Writes (rising (λ j. piece_line (marked l.plan.rows j) l.people j) l.j) l.initial.page l.page
