-- `minimal::minimal_sets` meets its contract: the minimal sets below g fill the front of the array. Assumes nothing.
use mathlib.Core.Path.{◌≡◌}
use Prim.Native.Nat.{◌^◌, ◌≤◌}
use Rattle.minimal.specs.Minimal.{least}
use Rattle.minimal.proofs.LoopLaws.{Filling}
use Rattle.minimal.proofs.minimal_sets.Given as goal

abbrev pub invariant-loop-g : goal.invariant-loop-g
invariant-loop-g l = (l.size ≡ 2 ^ l.people) × (l.size ≤ 256) × Filling (least l.required) l.g l.count l.sets
