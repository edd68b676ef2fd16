-- One list written over the front of another.
-- Assumes nothing.
use Rattle.std.specs.Prelude.{List, ◌++◌, ℕ, length, drop}

-- `new` over the front of `old`
unfoldable pub over : List ℕ → List ℕ → List ℕ
over new old = new ++ drop (length new) old
