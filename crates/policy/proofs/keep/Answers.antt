-- `policy::keep` meets its contract: a set in the place behind the sets, or the list as it is. Assumes nothing.
use native.Mathlib.Omega.{arith}
use Rattle.policy.proofs.ReadingLaws.{kept_more, kept_full, added_there, added_full}
use Rattle.policy.proofs.keep.Goals as goal

pub returns-then-list-lt257 : goal.returns-then-list-lt257
returns-then-list-lt257 c =
    let list = c.args.list.now in
    let h = c.if-list-lt257.true in
    record { adds = added_there list c.args.set (omega arith) h; keeps = λ sets k. kept_more sets c.args.set list h k }

pub returns-else-list-lt257 : goal.returns-else-list-lt257
returns-else-list-lt257 c =
    let list = c.args.list.now in
    let h = c.if-list-lt257.false in
    record { adds = added_full list c.args.set (omega arith) h; keeps = λ sets k. kept_full sets c.args.set list h k }
