-- `block::deal::same_deal` meets its contract: the derived `==` asks the same words, one after the other. Assumes nothing.
use Rattle.lists.proofs.Truth.{and_and}
use Rattle.block.specs.Deals.{same_deal}
use Rattle.block.proofs.deal.same_deal.Goals as goal

pub returns : goal.returns
unfolding same_deal
returns c = rw c.eq.ensures (simp (and_and))
