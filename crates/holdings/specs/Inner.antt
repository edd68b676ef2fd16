-- What this room's own functions say to one another: the holders of each piece, as a set. No promise to a caller names these.
-- Assumes nothing.
use Rattle.std.specs.Prelude.{Option, Some, None, ◌≡◌, Bool, cond, not, List, ℕ, zero, suc, ◌+◌, ◌≤◌, eqb, ltb, length}
use Rattle.std.specs.Int.Bits.{bit_and}
use Rattle.lists.specs.Places.{at, those}
use Rattle.planning.specs.Sets.{worth}
use Rattle.planning.specs.Groups.{authorised}
use Rattle.holdings.specs.Holdings.{Holdings, owns}
use Rattle.holdings.specs.declared.holders.Side.{Side}
use Rattle.holdings.specs.declared.holders.Side.TheVariants.{Few, Many}
use Rattle.holdings.specs.Judged.{way_by}

-- the set of those of the people 1 to c for whom the test holds
unfoldable pub set_of : (ℕ → Bool) → ℕ → ℕ
set_of test zero = 0
set_of test (suc c) = set_of test c + cond (test (suc c)) (worth (suc c)) 0

-- the set of those who have piece j
abbrev pub holders_of : Holdings → ℕ → ℕ
holders_of l j = set_of (λ i. owns l i j) l.people

-- 70 sets, of which the first c are the holders of pieces 1 to c
pub record Holders (l : Holdings) (c : ℕ) (sets : List ℕ) : Type 0 where
  pub count : length sets ≡ 70
  pub right : (j : ℕ) → 1 ≤ j → j ≤ c → at sets j ≡ holders_of l j

-- the two sets have a person in common
abbrev pub meets : ℕ → ℕ → Bool
meets a b = not (eqb (bit_and a b) 0)

-- of how many of the first m pieces the holders meet the group g
unfoldable pub have_by : List ℕ → ℕ → ℕ → ℕ
have_by sets m g = length (those (λ j. meets (at sets j) g) 1 m)

-- on which side a list with these holders fails for the group g
unfoldable pub way_in : List ℕ → List ℕ → ℕ → ℕ → ℕ → ℕ
way_in required sets m needed g = way_by (authorised required g) (ltb (have_by sets m g) needed)

-- that side as the code holds it
abbrev pub side_of : ℕ → Option Side
side_of zero = None
side_of (suc zero) = Some Few
side_of (suc (suc w)) = Some Many
