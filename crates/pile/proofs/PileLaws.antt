-- Laws of a pile's blocks: where the rest of it begins, and what its true blocks say. Assumes nothing.
use mathlib.Core.Path.{◌≡◌, ap, ◌∙◌}
use mathlib.Core.List.{List}
use Prim.Native.Nat.{ℕ, ◌+◌, ◌-◌, ◌*◌, ◌≤◌}
use native.Mathlib.Omega.{arith}
use lib.ListN.{length, drop, take, length-drop}
use lib.Seq.{drop-drop, take_all}
use Rattle.std.specs.Prelude.{Option, Some}
use Rattle.lists.specs.Places.{placed}
use Rattle.lists.proofs.FirstLaws.{placed_some, placed_found, some-found}
use Rattle.pile.specs.Blocks.{blocks, rest_from, word, TrueBlocks}

-- past block a
pub rest_next : (pile : List ℕ) (a : ℕ) → 1 ≤ a → drop 512 (rest_from pile a) ≡ rest_from pile (a + 1)
unfolding rest_from
rest_next pile a l =
    let e : 512 * (a - 1) + 512 ≡ 512 * (a + 1 - 1) = omega arith in
    drop-drop 512 (512 * (a - 1)) pile ∙ ap (λ (n : ℕ). drop n pile) e

-- block a of a pile has its 512 bytes
pub rest_long : (pile : List ℕ) (a : ℕ) → 1 ≤ a → a ≤ blocks pile → 512 ≤ length (rest_from pile a)
unfolding rest_from blocks
rest_long pile a l h = rw (length-drop (512 * (a - 1)) pile) (omega arith)

-- what `&pile[at..]` is: the pile from byte `at` on
pub part_rest : (l : List ℕ) (at : ℕ) → take (length l - at) (drop at l) ≡ drop at l
part_rest l at = take_all (length l - at) (drop at l) (omega (arith, length-drop at l))

-- no word of a true block is above 32748
pub word_small : (pile : List ℕ) → TrueBlocks pile → (a i : ℕ) → 1 ≤ a → a ≤ blocks pile → 1 ≤ i → i ≤ 256 → word pile a i ≤ 32748
word_small pile t a i l h m n = (t.block a l h).clean.small i m n

-- a place that is handed on is what was looked for, and counts from 1
pub placed_is : (a : ℕ) {i : ℕ} {r : Option ℕ} → r ≡ placed a → r ≡ Some i → (a ≡ i) × (1 ≤ i)
placed_is a e q = let is = placed_some a e q in (is, rw (← is) (some-found a (placed_found a e q)))
