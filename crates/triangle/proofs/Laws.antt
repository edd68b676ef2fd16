-- This room's laws, proved: each by its name in specs/Laws.antt. Assumes nothing.
use mathlib.Core.Path.{refl}
use Rattle.prime.specs.Prime.{minus}
use Rattle.triangle.specs.Triangle.{choose, weight}
use Rattle.triangle.specs.Laws as law
use Rattle.triangle.proofs.RowLaws as rows
use Rattle.triangle.proofs.JoinLaws as joint

pub triangle_rule : law.TriangleRule
triangle_rule = (λ m l u. rows.line-length m u, λ k j l h u. rows.in_place k j l h u)

pub weights_same : law.WeightsSame
weights_same = joint.weights_same

pub by_weights : law.ByWeights
by_weights = joint.by_weights

pub three_pieces : law.ThreePieces
unfolding weight choose minus
three_pieces = (refl, refl, refl)
