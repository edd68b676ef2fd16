-- `planning::lacking` meets its contract: `r & !g` has the members of r that are not in g. Assumes nothing.
use Rattle.planning.proofs.LackLaws.{lacking-is}
use Rattle.planning.proofs.sets.lacking.Goals as goal

pub returns : goal.returns
returns c = lacking-is c.args.r c.args.g c.ranges.r.fits c.ranges.g.fits
