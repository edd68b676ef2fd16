-- `planning::everyone` meets its contract: one less than the number of groups is the set of all the people. Assumes nothing.
use native.Mathlib.Omega.{arith}
use lib.Pow.{pow_pos, pow_mono}
use Prim.Native.Nat.{◌^◌, ◌≤◌}
use Rattle.planning.proofs.sets.everyone.Goals as goal

pub overflow_sub-result : goal.overflow_sub-result
overflow_sub-result c = omega (arith, c.group_count.ensures, pow_pos c.args.people)

pub overflow_cast-result : goal.overflow_cast-result
overflow_cast-result c =
    let most : 2 ^ c.args.people ≤ 2 ^ 8 = pow_mono c.requires in
    record { fits = omega (arith, c.group_count.ensures) }
