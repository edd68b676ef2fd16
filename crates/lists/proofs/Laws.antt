-- This room's laws, proved: each by its name in specs/Laws.antt. Assumes nothing.
use mathlib.Core.Path.{refl, sym}
use Rattle.lists.specs.Laws as law
use Rattle.lists.proofs.FirstLaws as first

pub first-means : law.FirstMeans
first-means test i e k l h q = (first.first_of test i e k l h q).0

pub none-means : law.NoneMeans
none-means = first.none_in

pub placed-means : law.PlacedMeans
placed-means a = (
  (λ q. first.placed_none a refl q, λ e. sym (first.none_placed e)),
  λ i q. let e = first.placed_some a refl q in (e, rw (← e) (first.some-found a (first.placed_found a refl q))),
)
