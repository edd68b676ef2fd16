-- `planning::either` meets its contract: `a | b` has the members of both. Assumes nothing.
use Rattle.planning.proofs.LackLaws.{either_is}
use Rattle.planning.proofs.sets.either.Goals as goal

pub returns : goal.returns
returns c = either_is c.args.a c.args.b
