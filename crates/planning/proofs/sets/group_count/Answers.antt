-- `planning::group_count` meets its contract: a shift by at most 8 loses nothing. Assumes nothing.
use mathlib.Core.Path.{◌≡◌, ◌∙◌}
use Prim.Native.Nat.{ℕ, ◌*◌, ◌%◌, ◌^◌, ◌≤◌, ◌<◌}
use native.Mathlib.Nat.{mod-eq_of_lt}
use native.Mathlib.Omega.{arith}
use lib.Pow.{pow_mono}
use Rattle.planning.proofs.sets.group_count.Goals as goal

exact : (n : ℕ) → n ≤ 8 → (1 * 2 ^ n) % 2 ^ 64 ≡ 2 ^ n
exact n h =
    let p : 2 ^ n ≤ 2 ^ 8 = pow_mono h in
    let small : 1 * 2 ^ n < 2 ^ 64 = omega arith in
    mod-eq_of_lt small ∙ omega arith

pub returns : goal.returns
returns c = exact c.args.people c.requires
