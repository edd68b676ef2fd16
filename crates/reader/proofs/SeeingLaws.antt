-- What is left of a pile after n blocks, and what the reader answers by it; the value bytes of a block of the pile.
-- Assumes nothing.
use mathlib.Core.Path.{◌≡◌, refl, sym, ap, ◌∙◌}
use mathlib.Core.Bool.{Bool, true, false, cond}
use mathlib.Core.List.{List, []}
use Prim.Native.Nat.{ℕ, ◌+◌, ◌-◌, ◌*◌, ◌≤◌, ◌<◌}
use native.Mathlib.Omega.{arith}
use lib.ListN.{length, drop, take, length-drop}
use lib.Dec.{leb}
use borrow.Author.Tests.{le-leb, lt-leb}
use Rattle.answer.specs.Outcome.{Outcome, done, refused}
use Rattle.answer.specs.Checks.{pick, first_fail}
use Rattle.block.specs.Layout.{front_words, first_wrong}
use Rattle.block.specs.Open.{first_above, block_lines, opening, unread, check, header, value_bytes, value_start}
use Rattle.block.proofs.OpenLaws.{opening-block}
use Rattle.pile.specs.Blocks.{blocks, rest_from}
use Rattle.pile.proofs.PileLaws.{rest_long, part_rest}
use Rattle.reader.specs.Seeing.{told, ended, by_left, opening_at, seeing, after, has_block, values_of, values_from, counted}

-- ---- what is left
left_at : (pile : List ℕ) (n : ℕ) → length (rest_from pile (n + 1)) ≡ length pile - 512 * n
unfolding rest_from
left_at pile n = let e : n + 1 - 1 ≡ n = omega arith in rw e (length-drop (512 * n) pile)

module _ {A : Type 0} (pile : List ℕ) (n : ℕ) (x y z : A) where
  left-block : n < blocks pile → by_left (rest_from pile (n + 1)) x y z ≡ x
  left-block h = rw (le-leb 512 (length (rest_from pile (n + 1))) (rest_long pile (n + 1) (omega arith) (omega arith)))

  left-some : blocks pile ≤ n → 512 * n < length pile → by_left (rest_from pile (n + 1)) x y z ≡ y
  unfolding blocks
  left-some h k =
      let e = left_at pile n in
      rw (lt-leb 512 (length (rest_from pile (n + 1))) (omega (arith, e)), le-leb 1 (length (rest_from pile (n + 1))) (omega (arith, e)))

  left-none : length pile ≤ 512 * n → by_left (rest_from pile (n + 1)) x y z ≡ z
  left-none k =
      let e = left_at pile n in
      rw (lt-leb 512 (length (rest_from pile (n + 1))) (omega (arith, e)), lt-leb 1 (length (rest_from pile (n + 1))) (omega (arith, e)))

-- ---- a block's lines, with a replaced
counted_pick : (x : Bool) (m a b : ℕ) (o o' : Outcome (List ℕ)) → counted a o ≡ o' → counted a (pick x (refused m 1 b) o) ≡ pick x (refused m a b) o'
counted_pick true m a b o o' e = refl
counted_pick false m a b o o' e = e

pub counted-lines : (b : List ℕ) (a : ℕ) → counted a (first_fail (block_lines b 1) (done (front_words b))) ≡ first_fail (block_lines b a) (done (front_words b))
unfolding first_fail
counted-lines b a =
    counted_pick (unread b 1).given 15 a (first_above b) _ _
    (counted_pick (check b 1).given 16 a 0 _ _
    (counted_pick (header b 1).given 17 a (first_wrong b) _ _ refl))

pub counted-opening : (pile : List ℕ) (a : ℕ) → 1 ≤ a → a ≤ blocks pile → counted a (opening (rest_from pile a)) ≡ opening_at pile a
unfolding opening_at
counted-opening pile a l h = ap (counted a) (opening-block (rest_from pile a) (rest_long pile a l h)) ∙ counted-lines (rest_from pile a) a

-- ---- what the reader answers
pub seeing-block : (pile : List ℕ) (n : ℕ) → n < blocks pile → seeing pile n ≡ told (opening_at pile (n + 1))
unfolding seeing
seeing-block pile n h = left-block pile n _ _ _ h

pub seeing-torn : (pile : List ℕ) (n : ℕ) → blocks pile ≤ n → 512 * n < length pile → seeing pile n ≡ told (refused 13 0 0)
unfolding seeing
seeing-torn pile n h k = left-some pile n _ _ _ h k

pub seeing-ended : (pile : List ℕ) (n : ℕ) → length pile ≤ 512 * n → seeing pile n ≡ ended
unfolding seeing
seeing-ended pile n k = left-none pile n _ _ _ k

-- the code opens the part of the pile from the next block on
part_at : (pile : List ℕ) (n : ℕ) → take (length pile - 512 * n) (drop (512 * n) pile) ≡ rest_from pile (n + 1)
unfolding rest_from
part_at pile n = let e : n + 1 - 1 ≡ n = omega arith in rw e (part_rest pile (512 * n))

pub seen-block : (pile : List ℕ) (n : ℕ) {o : Outcome (List ℕ)} → n < blocks pile → o ≡ opening (take (length pile - 512 * n) (drop (512 * n) pile))
    → told (counted (n + 1) o) ≡ seeing pile n
seen-block pile n h e =
    ap (λ (x : Outcome (List ℕ)). told (counted (n + 1) x)) (e ∙ ap opening (part_at pile n))
    ∙ ap told (counted-opening pile (n + 1) (omega arith) (omega arith))
    ∙ sym (seeing-block pile n h)

-- ---- where it stands then
same : (x : Bool) (n : ℕ) → cond x n n ≡ n
same true n = refl
same false n = refl

pub after_block : (pile : List ℕ) (n : ℕ) → n < blocks pile → after pile n ≡ n + 1
unfolding after
after_block pile n h = left-block pile n _ _ _ h

pub after_stays : (pile : List ℕ) (n : ℕ) → blocks pile ≤ n → after pile n ≡ n
unfolding after blocks
after_stays pile n h =
    let e : length (rest_from pile (n + 1)) < 512 = omega (arith, left_at pile n) in
    rw (lt-leb 512 (length (rest_from pile (n + 1))) e) (same (leb 1 (length (rest_from pile (n + 1)))) n)

-- ---- the value bytes
has_block_lem : (pile : List ℕ) (a : ℕ) → 1 ≤ a → a ≤ blocks pile → has_block pile a ≡ true
has_block_lem pile a l h = simp (le-leb 1 a l, le-leb a (blocks pile) h)

pub values_in : (pile : List ℕ) (a : ℕ) → 1 ≤ a → a ≤ blocks pile
    → (values_of pile a ≡ value_bytes (rest_from pile a)) × (values_from pile a ≡ 512 * (a - 1) + value_start (rest_from pile a))
unfolding values_of values_from
values_in pile a l h = let e = has_block_lem pile a l h in (rw e, rw e)

pub values-none : (pile : List ℕ) (a : ℕ) → has_block pile a ≡ false → (values_of pile a ≡ []) × (values_from pile a ≡ 0)
unfolding values_of values_from
values-none pile a e = (rw e, rw e)

-- there is no block 0, and none past the last
pub no_block : (pile : List ℕ) (a : ℕ) → a ≡ 0 → has_block pile a ≡ false
no_block pile a e = rw (lt-leb 1 a (omega arith))

pub past_blocks : (pile : List ℕ) (a : ℕ) → blocks pile < a → has_block pile a ≡ false
past_blocks pile a h = rw (le-leb 1 a (omega arith), lt-leb a (blocks pile) h)
