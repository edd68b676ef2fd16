-- `salvage::mending::other_sum` meets its contract, by the laws of its loop (SumLoop). Assumes nothing.
use native.Mathlib.Omega.{arith}
use Rattle.salvage.proofs.SumLoop.{sum-start, sum_more, sum_kept, sum_end}
use Rattle.salvage.proofs.mending.other_sum.Goals as goal
use Rattle.salvage.proofs.mending.other_sum.Goals.{then-k-i, else-k-i}

pub loop-k-init : goal.loop-k-init
loop-k-init c = sum-start _ _

pub weigh-sum-requires : goal.weigh-sum-requires
weigh-sum-requires c =
    let l = c.loop-k in
    record {
      v_bound = rw c.word.ensures (c.requires.clean_but.small l.k (omega arith) (omega arith) c.if-k-i.true);
      le_i = (omega arith, omega arith, l.invariant.low);
    }

pub loop-k-preserved : goal.loop-k-preserved
loop-k-preserved c =
    let l = c.loop-k.invariant in
    elim c.if-k-i.branch [
      | then-k-i w ↦ rw w.sum-is (sum_more l w.if-k-i.true _ w.word.ensures (omega arith) _ w.weigh-sum.ensures.0 w.weigh-sum.ensures.1)
      | else-k-i w ↦ rw w.sum-is (sum_kept l w.if-k-i.false (omega arith))
    ]

pub returns : goal.returns
returns c = sum_end c.loop-k.invariant (omega arith)
