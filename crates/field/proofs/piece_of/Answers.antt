-- `field::piece_of` meets its contract: the last turn of Horner's rule, with the word itself.
-- Assumes nothing.
use Rattle.field.proofs.Sums.{below_rest}
use Rattle.field.proofs.Horner.{last_turn}
use Rattle.field.proofs.piece_of.Goals as goal

pub value_at-requires : goal.value_at-requires
value_at-requires c = below_rest c.requires

pub returns : goal.returns
returns c =
    let a = c.args in
    last_turn a.d a.coefficients.now a.j c.value_at.result c.value_at.ensures
