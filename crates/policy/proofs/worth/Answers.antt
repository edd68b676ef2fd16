-- `policy::worth` meets its contract. Assumes nothing.
use Rattle.policy.proofs.LinesLaws.{worth_shifted}
use Rattle.policy.proofs.worth.Goals as goal

pub returns : goal.returns
returns c = worth_shifted c.args.digit c.requires.1
