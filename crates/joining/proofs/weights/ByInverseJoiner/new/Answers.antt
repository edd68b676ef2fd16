-- `joining::weights::ByInverse::new` meets its contract: the list of weights is one of weights for as many pieces. Assumes nothing.
use mathlib.Core.Path.{sym, subst}
use Rattle.field.specs.Lagrange.{Weights}
use Rattle.field.proofs.Laws.{weights_are}
use Rattle.joining.proofs.weights.ByInverseJoiner.new.Goals as goal

pub returns : goal.returns
returns c = subst (Weights c.args.pieces) (sym c.weights.ensures) (weights_are c.args.pieces)
