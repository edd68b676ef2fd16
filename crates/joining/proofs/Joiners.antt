-- The three joiners' contracts, as the check reads them off the code, are the promise JoinPromised: so the law JoinersAgree is about them, and
-- changes with none alone. Assumes nothing.
use mathlib.Core.Path.{◌≡◌}
use contract.Lifetimes.{Lfts}
use borrow.Fn.Kinds.{Dens, res_t, ended_of}
use denote.Triple.Clauses.{AtExit}
use Rattle.joining.specs.Laws.{JoinPromised}
use Rattle.joining.proofs.WrittenLaws.{joiners_agree}
use Rattle.joining.proofs.join.Kinds.{ps, r}
use Rattle.joining.proofs.join.Reads as join
use Rattle.joining.proofs.join_by_differences.Reads as by_differences_lem
use Rattle.joining.proofs.join_by_weights.Reads as by_weights

module _ (κs : Lfts 2) (a : Dens κs ps) (x : (res_t r κs).Denot) (s : AtExit (ended_of 2 ps r) κs) where
  pub join_promises : join.Learnt κs a x s → JoinPromised a.0.now a.1.0.now x s.1.0.now
  join_promises p = record { says = p.0; leaves = p.1 }

  pub by_differences_promises : by_differences_lem.Learnt κs a x s → JoinPromised a.0.now a.1.0.now x s.1.0.now
  by_differences_promises p = record { says = p.0; leaves = p.1 }

  pub by_weights_promises : by_weights.Learnt κs a x s → JoinPromised a.0.now a.1.0.now x s.1.0.now
  by_weights_promises p = record { says = p.0; leaves = p.1 }

-- on the same pile and output, what any two of the contracts allow is one answer and one content of the output
module _ (κs : Lfts 2) (a : Dens κs ps) (x y : (res_t r κs).Denot) (s t : AtExit (ended_of 2 ps r) κs) where
  agree : JoinPromised a.0.now a.1.0.now x s.1.0.now → JoinPromised a.0.now a.1.0.now y t.1.0.now
      → (x ≡ y) × (s.1.0.now ≡ t.1.0.now)
  agree = joiners_agree a.0.now a.1.0.now x y s.1.0.now t.1.0.now

  pub first-second : join.Learnt κs a x s → by_differences_lem.Learnt κs a y t → (x ≡ y) × (s.1.0.now ≡ t.1.0.now)
  first-second p q = agree (join_promises κs a x s p) (by_differences_promises κs a y t q)

  pub first_third : join.Learnt κs a x s → by_weights.Learnt κs a y t → (x ≡ y) × (s.1.0.now ≡ t.1.0.now)
  first_third p q = agree (join_promises κs a x s p) (by_weights_promises κs a y t q)

  pub second_third : by_differences_lem.Learnt κs a x s → by_weights.Learnt κs a y t → (x ≡ y) × (s.1.0.now ≡ t.1.0.now)
  second_third p q = agree (by_differences_promises κs a x s p) (by_weights_promises κs a y t q)
