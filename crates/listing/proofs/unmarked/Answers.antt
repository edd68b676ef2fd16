-- `listing::unmarked` meets its contract: the rows so far are looked at. Assumes nothing.
use mathlib.Core.Bool.{false, not}
use mathlib.Core.List.{[]}
use mathlib.Core.Path.{◌∙◌}
use native.Mathlib.Omega.{arith}
use Prim.Native.Nat.{ℕ}
use lib.ListN.{get_or, length-set}
use Rattle.std.proofs.lemmas.List.Edits.{fill_by_more}
use Rattle.listing.proofs.unmarked.Goals as goal

pub loop-j-preserved : goal.loop-j-preserved
loop-j-preserved c =
    let l = c.loop-j in (
      length-set _ _ _ ∙ l.invariant.0,
      fill_by_more (λ (k : ℕ). not (get_or (get_or c.args.rows.now k []) c.args.i false)) l.has l.j false (omega arith) l.invariant.1,
    )
