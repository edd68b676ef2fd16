-- Bytes whose sum is 0 are all 0, and so are the words that they make.
-- Assumes nothing.
use mathlib.Core.Path.{◌≡◌, sym, ap, ◌∙◌}
use mathlib.Core.Bool.{not}
use mathlib.Core.List.{List}
use Prim.Native.Nat.{ℕ, ◌+◌, ◌-◌, ◌*◌, ◌≤◌, ◌<◌}
use native.Mathlib.Decide.{dec_lt}
use native.Mathlib.Omega.{arith}
use borrow.Author.Tests.{eq-eqb}
use lib.ListN.{length, get_or, take, drop, get_or-eq_default}
use lib.Seq.{get_or-take, get_or-drop}
use Rattle.std.specs.Prelude.{sum}
use Rattle.std.proofs.lemmas.List.Sums.{get_or-le-sum_by}
use Rattle.lists.specs.Places.{first_in}
use Rattle.lists.proofs.FirstLaws.{first-all}
use Rattle.block.specs.Words.{word_at}
use Rattle.block.specs.Inner.{filled}

-- where the sum is 0, each number is
pub all_zero : (b : List ℕ) → sum b ≡ 0 → (k : ℕ) → get_or b k 0 ≡ 0
all_zero b e k = go (dec_lt k (length b))
  where
    go : Dec (k < length b) → get_or b k 0 ≡ 0
    go (yes m) = omega (arith, get_or-le-sum_by (λ (x : ℕ). x) b k 0 m)
    go (no m) = get_or-eq_default b 0 (omega arith)

-- the bytes of words `start` to `end` - 1 are 0: none of those words is anything else
pub none_filled : (b : List ℕ) (start end : ℕ) → 1 ≤ start
    → ((k : ℕ) → get_or (take (2 * (end - 1) - 2 * (start - 1)) (drop (2 * (start - 1)) b)) k 0 ≡ 0) → first_in (filled b) start end ≡ 0
unfolding word_at
none_filled b start end from zeros =
    first-all (filled b) start end
    (λ i l h.
    let byte : (j : ℕ) → 2 * (start - 1) ≤ j → j < 2 * (end - 1) → get_or b j 0 ≡ 0 = λ j m n.
    let e : 2 * (start - 1) + (j - 2 * (start - 1)) ≡ j = omega arith in
    let k = j - 2 * (start - 1) in
    ap (λ (x : ℕ). get_or b x 0) (sym e)
    ∙ sym (get_or-drop (2 * (start - 1)) b k 0)
    ∙ sym (get_or-take (2 * (end - 1) - 2 * (start - 1)) (drop (2 * (start - 1)) b) k 0 (omega arith))
    ∙ zeros k in
    let w : word_at b i ≡ 0 = rw (byte (2 * (i - 1)) (omega arith) (omega arith), byte (2 * (i - 1) + 1) (omega arith) (omega arith)) in
    ap not (eq-eqb (word_at b i) 0 w))
