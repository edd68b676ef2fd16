-- `desk::calls::fresh` meets its contract. Assumes nothing.
use Rattle.desk.specs.Opens.{fresh_desk}
use Rattle.desk.proofs.calls.fresh.Goals as goal

pub returns : goal.returns
unfolding fresh_desk
returns c = rw c.none-none.ensures
