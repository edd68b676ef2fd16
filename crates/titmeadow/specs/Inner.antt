-- What the exported functions use among themselves: a row of marks read back as its group. No promise to a caller names this.
-- Assumes nothing.
use Rattle.std.specs.Prelude.{Bool, false, cond, List, ℕ, ◌+◌, get_or}

-- the group whose row of member marks this is: the bit of person i has the value 2^(i−1)
unfoldable pub number_of : List Bool → ℕ
number_of row =
    cond (get_or row 0 false) 1 0 + cond (get_or row 1 false) 2 0 + cond (get_or row 2 false) 4 0 + cond (get_or row 3 false) 8 0
    + cond (get_or row 4 false) 16 0 + cond (get_or row 5 false) 32 0 + cond (get_or row 6 false) 64 0 + cond (get_or row 7 false) 128 0
