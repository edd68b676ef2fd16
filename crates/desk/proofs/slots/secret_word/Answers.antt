-- `desk::slots::secret_word` meets its contract: the first k values of the column are joined.
-- Assumes nothing.
use native.Mathlib.Omega.{arith}
use mathlib.Core.Path.{◌≡◌, sym, ap, subst, ◌∙◌}
use mathlib.Core.List.{List}
use Prim.Native.Nat.{ℕ}
use lib.ListN.{length, take}
use Rattle.prime.specs.Prime.{Below}
use Rattle.field.specs.Joined.{joined}
use Rattle.field.specs.Lagrange.{Weights, weights_of}
use Rattle.field.proofs.Laws.{weights_are}
use Rattle.field.specs.Secret.{column}
use Rattle.field.proofs.SecretLaws.{column-length}
use Rattle.desk.specs.Slots.{value_in}
use Rattle.desk.proofs.PutLaws.{column-below, column-front, column-counts}
use Rattle.desk.proofs.slots.secret_word.Goals as goal

pub slice_bounds-join_word-end-2 : goal.slice_bounds-join_word-end-2
slice_bounds-join_word-end-2 c =
    column-counts c.args.slots.now c.args.values.now c.write_column.new.values c.args.client c.args.o.pieces c.args.i c.write_column.ensures

pub join_word-requires : goal.join_word-requires
join_word-requires c = let front : take c.args.o.pieces c.write_column.new.values ≡ column (value_in c.args.slots.now c.args.client) c.args.o.pieces c.args.i =
    column-front c.args.slots.now c.args.values.now c.write_column.new.values c.args.client c.args.o.pieces c.args.i c.write_column.ensures in
    let k = c.args.o.pieces in
    let lent = take k c.write_column.new.values in
    let e : lent ≡ column (value_in c.args.slots.now c.args.client) k c.args.i = front in
    let n : length lent ≡ k = ap length e ∙ column-length (value_in c.args.slots.now c.args.client) k c.args.i in record {
      pieces_len_bound = omega (arith, n, c.requires.small.pieces);
      below = subst Below (sym e) (column-below c.args.slots.now c.args.o c.args.client c.args.i c.requires.all_kept c.requires.le_i.0 c.requires.le_i.1);
      weights = subst (λ (ws : List ℕ). Weights (length lent) ws) (sym c.requires.weights_value)
          (subst (λ (m : ℕ). Weights (length lent) (weights_of m)) n (weights_are _));
    }

pub returns : goal.returns
returns c = let front : take c.args.o.pieces c.write_column.new.values ≡ column (value_in c.args.slots.now c.args.client) c.args.o.pieces c.args.i =
    column-front c.args.slots.now c.args.values.now c.write_column.new.values c.args.client c.args.o.pieces c.args.i c.write_column.ensures in
    record { says = c.join_word.ensures ∙ ap joined (front); leaves = c.write_column.ensures }
