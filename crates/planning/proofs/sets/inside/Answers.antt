-- `planning::inside` meets its contract: `a & b == a` tests that each person of a is in b. Assumes nothing.
use Rattle.planning.proofs.SetLaws.{inside_test}
use Rattle.planning.proofs.sets.inside.Goals as goal

pub returns : goal.returns
returns c = inside_test c.args.a c.args.b c.ranges.a.fits
