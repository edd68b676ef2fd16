-- What a call that prints leaves in the buffer lent to it, and what it answers.
-- Assumes nothing.
use Rattle.std.specs.Prelude.{◌≡◌, List, ℕ, ◌≤◌, length, take}
use Rattle.lists.specs.Over.{over}

-- a call wrote `new` over the front of `old`, left `now`, and answered how many bytes it wrote; `counts` and `fits` are what
-- `&out[..answer]` asks of the caller who goes on with these bytes
pub record Prints (new old now : List ℕ) (answer : ℕ) : Type 0 where
  pub length-is : answer ≡ length new
  pub bytes : now ≡ over new old
  pub fits : answer ≤ length now
  pub counts : answer ≡ length (take answer now)
