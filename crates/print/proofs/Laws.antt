-- This room's laws, proved: each by its name in specs/Laws.antt. Assumes nothing.
use Rattle.print.specs.Laws as law
use Rattle.print.proofs.DecimalLaws as decimal

pub decimal-means : law.DecimalMeans
decimal-means = decimal.decimal-means
