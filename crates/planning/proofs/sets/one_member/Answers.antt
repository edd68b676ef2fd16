-- `planning::one_member` meets its contract: a set has as many members as its number has digits 1. Assumes nothing.
use Rattle.planning.specs.Sets.{one_member}
use Rattle.planning.proofs.CountLaws.{ones_count}
use Rattle.planning.proofs.sets.one_member.Goals as goal

pub returns : goal.returns
unfolding one_member
returns c = rw (ones_count c.args.s c.ranges.s.fits)
