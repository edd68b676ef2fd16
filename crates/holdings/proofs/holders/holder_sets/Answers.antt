-- `holdings::holders::holder_sets` meets its contract: the pieces passed have their holders.
-- Assumes nothing.
use mathlib.Core.Path.{◌≡◌, refl}
use native.Mathlib.Omega.{arith}
use Rattle.holdings.proofs.HolderLaws.{holders_none, holders_more}
use Rattle.holdings.proofs.holders.holder_sets.Goals as goal

pub loop-j-init : goal.loop-j-init
loop-j-init c = (c.requires.1, holders_none refl)

pub holder_set-requires : goal.holder_set-requires
holder_set-requires c = (c.requires.0, c.requires.1, omega arith, omega arith, c.requires.2)

pub loop-j-preserved : goal.loop-j-preserved
loop-j-preserved c = (c.loop-j.invariant.0, holders_more _ (omega arith) c.holder_set.ensures c.loop-j.invariant.1)

pub returns : goal.returns
returns c =
    let l = c.loop-j in
    let e : l.j ≡ c.args.list.pieces = omega arith in
    rw e at l.invariant.1
