-- `field::values_of` meets its contract: the values made and those to come are all.
-- Assumes nothing.
use Rattle.field.proofs.ValuesMade.{valued_turn, valued_end}
use Rattle.field.proofs.values_of.Goals as goal

pub loop-i-preserved : goal.loop-i-preserved
loop-i-preserved c =
    let v = c.loop-i in
    let a = c.args in
    valued_turn a.secret.now a.random.now a.q a.j v.made v.i c.piece_of.result c.loop-i-test.true
    c.requires.secret_len_bound.0 c.piece_of.ensures v.invariant

pub returns : goal.returns
returns c =
    let v = c.loop-i in
    let a = c.args in
    valued_end a.secret.now a.random.now a.q a.j v.made v.i c.loop-i-test.false v.invariant
