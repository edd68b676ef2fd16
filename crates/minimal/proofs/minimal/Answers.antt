-- `minimal::minimal` meets its contract: what was seen of g and what is ahead decide. Assumes nothing.
use mathlib.Core.Path.{sym, ◌∙◌}
use Rattle.minimal.proofs.LoopLaws.{seek_start, seek_own, seek_next, seek_within, seek_end}
use Rattle.minimal.proofs.minimal.Goals as goal
use Rattle.minimal.proofs.minimal.Goals.{then-inside+else-r-g, else-inside}

pub loop-r-init : goal.loop-r-init
loop-r-init c = seek_start _ _

pub returns-then-r-g : goal.returns-then-r-g
returns-then-r-g c =
    seek_within c.loop-r.invariant c.loop-r-test.true c.if-r-g.true (sym c.inside.ensures ∙ c.if-inside.true)

pub loop-r-preserved : goal.loop-r-preserved
loop-r-preserved c =
    let h = c.loop-r.invariant in
    let p = c.loop-r-test.true in
    elim c.if-inside.branch [
      | then-inside+else-r-g w ↦ rw w.listed-is (seek_own h p w.if-r-g.false)
      | else-inside w ↦ rw w.listed-is (seek_next h p (sym c.inside.ensures ∙ w.if-inside.false))
    ]

pub returns : goal.returns
returns c = seek_end c.loop-r.invariant c.loop-r-test.false
