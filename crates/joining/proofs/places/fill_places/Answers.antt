-- `joining::places::fill_places` meets its contract. The invariant: the table is that of the blocks before block a. Assumes nothing.
use mathlib.Core.Path.{◌≡◌, ap, ◌∙◌}
use Prim.Native.Nat.{◌+◌, ◌-◌, ◌<◌}
use native.Mathlib.Omega.{arith}
use Rattle.pile.specs.Blocks.{blocks, In}
use Rattle.joining.specs.Pile.{piece_at, has_piece}
use Rattle.joining.proofs.PileLaws.{piece_read}
use Rattle.joining.proofs.TableLaws.{table_to, table-start, turn_new, turn_kept, piece_here, piece_else, piece_end}
use Rattle.joining.proofs.places.fill_places.Goals as goal
use Rattle.joining.proofs.places.fill_places.Goals.{then-table-at-eq0, else-table-at-eq0}

pub loop-a-init : goal.loop-a-init
loop-a-init c =
    (c.requires.table_value ∙ table-start (has_piece c.args.pile.now) 560)

pub piece_at-at-requires : goal.piece_at-at-requires
unfolding blocks
piece_at-at-requires c =
    (omega arith, omega arith)

pub overflow_sub-at : goal.overflow_sub-at
unfolding blocks
overflow_sub-at c =
    let i : In c.args.pile.now c.loop-a.a = (omega arith, omega arith) in
    let few = piece_read c.requires.unmixed c.loop-a.a i c.piece_at-at.ensures in
    omega (arith, few.0)

pub offset_bounds-table-at : goal.offset_bounds-table-at
unfolding blocks
offset_bounds-table-at c =
    let i : In c.args.pile.now c.loop-a.a = (omega arith, omega arith) in
    let few = piece_read c.requires.unmixed c.loop-a.a i c.piece_at-at.ensures in
    omega (arith, few.1)

pub bounds-table-at : goal.bounds-table-at
unfolding blocks
bounds-table-at c =
    let i : In c.args.pile.now c.loop-a.a = (omega arith, omega arith) in
    let few = piece_read c.requires.unmixed c.loop-a.a i c.piece_at-at.ensures in
    omega (arith, few.0, few.1)

pub overflow_cast-table : goal.overflow_cast-table
unfolding blocks
overflow_cast-table c =
    let i : In c.args.pile.now c.loop-a.a = (omega arith, omega arith) in
    omega (arith, i.1, c.requires.pile_bound)

pub offset_bounds-table-at-then-table-at-eq0 : goal.offset_bounds-table-at-then-table-at-eq0
unfolding blocks
offset_bounds-table-at-then-table-at-eq0 c =
    let i : In c.args.pile.now c.loop-a.a = (omega arith, omega arith) in
    let few = piece_read c.requires.unmixed c.loop-a.a i c.piece_at-at.ensures in
    omega (arith, few.1)

pub bounds-table-at-then-table-at-eq0 : goal.bounds-table-at-then-table-at-eq0
unfolding blocks
bounds-table-at-then-table-at-eq0 c =
    let i : In c.args.pile.now c.loop-a.a = (omega arith, omega arith) in
    let few = piece_read c.requires.unmixed c.loop-a.a i c.piece_at-at.ensures in
    omega (arith, few.0, few.1)

pub loop-a-preserved : goal.loop-a-preserved
unfolding blocks
loop-a-preserved c =
    let i : In c.args.pile.now c.loop-a.a = (omega arith, omega arith) in
    let few = piece_read c.requires.unmixed c.loop-a.a i c.piece_at-at.ensures in
    let p = c.args.pile.now in
    let v = c.loop-a in
    let at = c.piece_at-at.result - 1 in
    let piece_is : piece_at p v.a ≡ at + 1 = omega (arith, c.piece_at-at.ensures, few.0) in
    let here = piece_here p v.a at piece_is in
    let else = piece_else p v.a at piece_is in
    let below : at < 560 = omega (arith, few.0, few.1) in
    elim c.if-table-at-eq0.branch [
      | then-table-at-eq0 w ↦ w.table-is ∙ turn_new (has_piece p) 560 v.table v.a at i.0 below here else v.invariant w.if-table-at-eq0.true
      | else-table-at-eq0 w ↦ w.table-is ∙ turn_kept (has_piece p) 560 v.table v.a at i.0 below here else v.invariant w.if-table-at-eq0.false
    ]

pub returns : goal.returns
unfolding blocks
returns c =
    let l = c.loop-a in
    let p = c.args.pile.now in
    let e : l.a ≡ blocks p + 1 = omega arith in
    l.invariant ∙ ap (table_to (has_piece p) 560) e ∙ piece_end p
