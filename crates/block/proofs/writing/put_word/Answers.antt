-- `block::writing::put_word` meets its contract: the two bytes of the number, the high one in front. Assumes nothing.
use mathlib.Core.Path.{◌≡◌}
use Prim.Native.Nat.{◌/◌, ◌%◌}
use native.Mathlib.Omega.{arith}
use Rattle.block.specs.Words.{put_at}
use Rattle.block.proofs.writing.put_word.Goals as goal

pub returns : goal.returns
unfolding put_at
returns c =
    let high : c.args.v / 256 % 256 ≡ c.args.v / 256 = omega (arith, c.ranges.v.fits) in
    rw (c.to_be_bytes.ensures, high)
