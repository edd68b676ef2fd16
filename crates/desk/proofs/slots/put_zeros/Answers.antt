-- `desk::slots::put_zeros` meets its contract: the library fills the part with zeros.
-- Assumes nothing.
use native.Mathlib.Omega.{arith}
use mathlib.Core.Path.{◌≡◌, ◌∙◌}
use Prim.Native.Nat.{◌+◌, ◌-◌, ◌≤◌}
use lib.ListN.{length, take, drop, length-drop}
use lib.Seq.{length-take-le}
use Rattle.desk.proofs.PutLaws.{zeros_written}
use Rattle.desk.proofs.slots.put_zeros.Goals as goal

pub returns : goal.returns
returns c =
    let a = c.args in
    let left : a.at + a.n - a.at ≤ length (drop a.at a.slots.now) = omega (arith, length-drop a.at a.slots.now) in
    let part : length (take (a.at + a.n - a.at) (drop a.at a.slots.now)) ≡ a.n = length-take-le (a.at + a.n - a.at) (drop a.at a.slots.now) left ∙ omega arith in
    zeros_written a.at a.n _ _ a.slots.now c.fill.new.self (omega arith) part (c.fill.ensures.after (λ y e. e))
