-- What the checks before a card by sets have made sure of. No promise to a caller names these. Assumes nothing.
use Rattle.std.specs.Prelude.{ℕ, ◌≤◌, List, length}
use Rattle.lists.specs.Places.{at}
use Rattle.prime.specs.Prime.{Below}
use Rattle.field.specs.Parts.{RandomAll}
use Rattle.planning.specs.Sets.{member_count}
use Rattle.dealing.specs.Deal.{Asked}
use Rattle.bysets.specs.Cards.{sizes}

-- at most 70 sets, each of 1 to n members
pub record Proper (n : ℕ) (sets : List ℕ) : Type 0 where
  pub count : length sets ≤ 70
  pub least : (s : ℕ) → 1 ≤ s → s ≤ length sets → 1 ≤ member_count (at sets s)
  pub most : (s : ℕ) → 1 ≤ s → s ≤ length sets → member_count (at sets s) ≤ n

-- what the refusals before 12, none of them given, have made sure of
pub record SetsReady (asked : Asked) (sets secret random : List ℕ) : Type 0 where
  pub few : asked.people ≤ 8
  pub proper : Proper asked.people sets
  pub number_in_lem : (1 ≤ asked.number) × (asked.number ≤ 32748)
  pub year_in : asked.year ≤ 32748
  pub holder_in : (1 ≤ asked.holder) × (asked.holder ≤ asked.people)
  pub width_in : (1 ≤ length secret) × (length secret ≤ 16)
  pub secret_in : Below secret
  pub random_in : RandomAll (length secret) (sizes sets) random
