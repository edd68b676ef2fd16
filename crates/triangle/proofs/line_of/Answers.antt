-- `triangle::line_of` meets its contract.
-- Assumes nothing.
use mathlib.Core.Path.{◌≡◌, refl}
use mathlib.Core.Bool.{true, false}
use native.Mathlib.Omega.{arith}
use borrow.Author.Tests.{lt-ltb, le-ltb}
use lib.Dec.{ltb}
use Rattle.triangle.specs.Triangle.{line_of}
use Rattle.triangle.proofs.line_of.Goals as goal

pub returns-then-k-gt35 : goal.returns-then-k-gt35
unfolding line_of
returns-then-k-gt35 c =
    let t : ltb 35 c.args.k ≡ true = lt-ltb 35 c.args.k (omega arith) in
    rw t refl

pub returns-else-k-gt35 : goal.returns-else-k-gt35
unfolding line_of
returns-else-k-gt35 c =
    let t : ltb 35 c.args.k ≡ false = le-ltb 35 c.args.k (omega arith) in
    rw t refl
