-- `joining::places::set_counts` meets its contract. The invariant: the table is what the first blocks say, of those before block a.
-- Assumes nothing.
use mathlib.Core.Path.{◌≡◌, sym, ap, ◌∙◌}
use mathlib.Core.List.{map}
use mathlib.Core.Logic.{◌≢◌}
use Prim.Native.Nat.{ℕ, ◌+◌, ◌≤◌, ◌<◌}
use native.Mathlib.Omega.{arith}
use lib.ListN.{set}
use Rattle.pile.specs.Blocks.{blocks, In}
use Rattle.joining.specs.Inner.{said}
use Rattle.joining.proofs.PileLaws.{ranges, set_read}
use Rattle.joining.proofs.TableLaws.{table_to, table-start, said_new, said-kept, in_set, set_here, set_else, set_end, none_said, some-said}
use Rattle.joining.proofs.places.set_counts.Goals as goal
use Rattle.joining.proofs.places.set_counts.Goals.{then-table-set-eq0, else-table-set-eq0}

pub loop-a-init : goal.loop-a-init
unfolding said
loop-a-init c =
    let p = c.args.pile.now in
    (ap (map (said p)) (table-start (in_set p) 71))

pub word-set-requires : goal.word-set-requires
unfolding blocks
word-set-requires c =
    let i : In c.args.pile.now c.loop-a.a = (omega arith, omega arith) in
    (i.0, i.1, omega arith, omega arith)

pub bounds-table-set : goal.bounds-table-set
unfolding blocks
bounds-table-set c =
    let i : In c.args.pile.now c.loop-a.a = (omega arith, omega arith) in
    let few = set_read c.requires c.loop-a.a i c.word-set.ensures in
    omega (arith, few)

pub word-requires : goal.word-requires
unfolding blocks
word-requires c =
    let i : In c.args.pile.now c.loop-a.a = (omega arith, omega arith) in
    (i.0, i.1, omega arith, omega arith)

pub overflow_cast-table : goal.overflow_cast-table
unfolding blocks
overflow_cast-table c =
    let i : In c.args.pile.now c.loop-a.a = (omega arith, omega arith) in
    omega (arith, (ranges c.requires c.loop-a.a i).pieces.1, c.word.ensures)

pub bounds-table-set-then-table-set-eq0 : goal.bounds-table-set-then-table-set-eq0
unfolding blocks
bounds-table-set-then-table-set-eq0 c =
    let i : In c.args.pile.now c.loop-a.a = (omega arith, omega arith) in
    let few = set_read c.requires c.loop-a.a i c.word-set.ensures in
    omega (arith, few)

pub loop-a-preserved : goal.loop-a-preserved
unfolding blocks
loop-a-preserved c =
    let i : In c.args.pile.now c.loop-a.a = (omega arith, omega arith) in
    let few = set_read c.requires c.loop-a.a i c.word-set.ensures in
    let p = c.args.pile.now in
    let v = c.loop-a in
    let at = c.word-set.result in
    let some : (b : ℕ) → 1 ≤ b → b < v.a → said p b ≢ 0 = λ b from less z.
    omega (arith, (ranges c.requires b (from, omega (arith, i.1))).pieces.0, some-said p b from, z) in
    let here = set_here p v.a at (sym c.word-set.ensures) in
    let else = set_else p v.a at (sym c.word-set.ensures) in
    let below : at < 71 = omega (arith, few) in
    elim c.if-table-set-eq0.branch [
      | then-table-set-eq0 w ↦ w.table-is ∙ ap (set v.table at) (w.word.ensures ∙ sym (some-said p v.a i.0))
          ∙ said_new (in_set p) 71 (said p) (none_said p) v.table v.a at i.0 below here else v.invariant some w.if-table-set-eq0.true
      | else-table-set-eq0 w ↦ w.table-is ∙ said-kept (in_set p) 71 (said p) (none_said p) v.table v.a at i.0 below here else v.invariant w.if-table-set-eq0.false
    ]

pub returns : goal.returns
unfolding blocks
returns c =
    let l = c.loop-a in
    let p = c.args.pile.now in
    let e : l.a ≡ blocks p + 1 = omega arith in
    l.invariant ∙ ap (map (said p)) (ap (table_to (in_set p) 71) e ∙ set_end p)
