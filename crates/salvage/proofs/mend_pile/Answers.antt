-- `salvage::mend_pile` meets its contract: the first a blocks are mended, their rebuilt words counted and listed. Assumes nothing.
use mathlib.Core.Path.{refl, sym}
use Prim.Native.Nat.{◌≤◌}
use native.Mathlib.Omega.{arith}
use Rattle.lists.proofs.FirstLaws.{placed_none}
use Rattle.pile.proofs.PileLaws.{placed_is}
use Rattle.salvage.proofs.LoopLaws.{mend_start, mend_none, mend_one, mend_end, word_low}
use Rattle.salvage.proofs.mend_pile.Goals as goal
use Rattle.salvage.proofs.mend_pile.Goals.{in-Some, in_default}

pub loop-a-init : goal.loop-a-init
loop-a-init c = mend_start _ _ _ refl c.requires

pub overflow_cast-list-in-Some : goal.overflow_cast-list-in-Some
overflow_cast-list-in-Some c =
    let is = placed_is _ c.mend_at.ensures.0 c.in-Some.is in
    let low : c.in-Some.word ≤ 256 = word_low c.loop-a.invariant c.loop-a-test.true _ (sym is.0) _ c.mend_at.ensures.1 (omega arith) in
    omega (arith, low)

pub loop-a-preserved : goal.loop-a-preserved
loop-a-preserved c =
    let l = c.loop-a.invariant in
    let m = c.mend_at.ensures in
    elim c.match-mend_at.branch [
      | in-Some w ↦
          let is = placed_is _ m.0 w.in-Some.is in
          rw (w.list-is, w.count-is) (mend_one l c.loop-a-test.true _ (sym is.0) _ m.1 (omega arith) (λ z. omega (arith, is.1, z)))
      | in_default w ↦
          rw (w.list-is, w.count-is) (mend_none l c.loop-a-test.true _ (sym (placed_none _ m.0 w.in_default.is)) _ m.1 (omega arith) refl)
    ]

pub returns : goal.returns
returns c = mend_end c.loop-a.invariant (omega arith)
