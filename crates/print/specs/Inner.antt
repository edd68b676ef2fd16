-- What the functions that write on a page say to one another: what stands in a lent buffer behind a write, and what a write asks of the
-- buffer. No promise to a caller names these. Assumes nothing.
use Rattle.std.specs.Prelude.{◌≡◌, List, ◌++◌, ℕ, ◌+◌, ◌≤◌, length, take, drop}
use Rattle.print.specs.declared.page.Page.{Page}

-- `new` written over `old` from index `at` on; the rest stays
unfoldable pub written : ℕ → List ℕ → List ℕ → List ℕ
written at new old = take at old ++ (new ++ drop (at + length new) old)

-- there is room for `new` on the page
pub record Room (new : List ℕ) (page : Page) : Type 0 where
  pub room : page.at + length new ≤ length page.out.now

-- a call wrote `new` on the page `old`, and left `now`
pub record Writes (new : List ℕ) (old now : Page) : Type 0 where
  pub behind : now.at ≡ old.at + length new
  pub bytes : now.out.now ≡ written old.at new old.out.now
