-- `salvaged_text::write_places` meets its contract: the lines so far are written.
-- Assumes nothing.
use mathlib.Core.Path.{◌≡◌}
use Rattle.print.specs.Inner.{Writes}
use Rattle.print.specs.Lines.{rising}
use Rattle.salvaged_text.specs.Salvaged.{place_line}
use Rattle.salvaged_text.proofs.write_places.Given as goal

abbrev pub invariant-loop-j : goal.invariant-loop-j
invariant-loop-j l =
    (l.page.out.ghost_name ≡ l.initial.page.out.ghost_name) × Writes (rising (place_line l.list) l.j) l.initial.page l.page
