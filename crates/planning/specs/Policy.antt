-- A policy: what planning is asked about. Assumes nothing.
use Rattle.std.specs.Prelude.{List, ℕ}

-- SCOPE 2: how many people there are, the required sets, and the forbidden sets
pub record Policy : Type 0 where
  pub people : ℕ
  pub required : List ℕ
  pub forbidden : List ℕ

-- the policy of these three
abbrev pub policy_of : ℕ → List ℕ → List ℕ → Policy
policy_of people required forbidden = record { people = people; required = required; forbidden = forbidden }
