-- A row of pieces that gives way, in place, to the first numbers of its rows, and their sum with alternating signs: one turn of each loop.
-- Assumes nothing.
use mathlib.Core.Path.{◌≡◌, refl, sym, ap, ◌∙◌}
use mathlib.Core.List.{List, [], ◌∷◌, ◌++◌, append-nil}
use Prim.Native.Nat.{ℕ, zero, suc, ◌+◌, ◌-◌, ◌≤◌, ◌<◌}
use native.Mathlib.Omega.{arith}
use native.Mathlib.Nat.{not-suc-le-zero}
use native.Mathlib.Numerals.{add-one}
use lib.ListN.{length, get_or, set, take, drop, length-append, length-drop, get_or-append, drop_of_length-le}
use lib.Seq.{take-suc, drop-cons, take_all, take-length, drop-length, length-take-le, get_or-take, take_at, drop_at, set_at, append_snoc}
use Rattle.prime.specs.Prime.{p, minus, Below}
use Rattle.field.specs.Joined.{diffs}
use Rattle.field.specs.Differences.{firsts, alternating}
use Rattle.prime.proofs.Mod.{minus-below}
use Rattle.field.proofs.Sums.{below-take, below-drop, below-append}
use Rattle.field.proofs.BackLaws.{Front, front_taken}
use Rattle.field.proofs.DifferenceLaws.{diffs-length, diffs-below, firsts-cons, firsts-none, alternating-cons, alternating-none}

-- ---- the differences of the numbers from place i on; those before it stand
abbrev pub differenced : List ℕ → ℕ → List ℕ
differenced row i = take i row ++ diffs (drop (i - 1) row)

pub record Differenced (old : List ℕ) (i : ℕ) (row : List ℕ) : Type 0 where
  pub is : row ≡ differenced old i

-- none yet
last : (old : List ℕ) → 1 ≤ length old → diffs (drop (length old - 1) old) ≡ []
unfolding diffs
last old h =
    let e : suc (length old - 1) ≡ length old = omega arith in
    rw (drop-cons old (length old - 1) 0 (omega arith), e, drop-length old)

pub differenced_start : (old : List ℕ) → 1 ≤ length old → Differenced old (length old) old
differenced_start old h = record { is = rw (last old h, take-length old) (sym (append-nil old)) }

-- what stands before place i
pub stands : (old row : List ℕ) (i j : ℕ) → i ≤ length old → j < i → Differenced old i row → get_or row j 0 ≡ get_or old j 0
stands old row i j h l d =
    ap (λ (r : List ℕ). get_or r j 0) d.is
    ∙ get_or-append (take i old) (diffs (drop (i - 1) old)) 0 j (omega (arith, length-take-le i old h))
    ∙ get_or-take i old j 0 l

-- one more
turned : (old : List ℕ) (j : ℕ) → suc j < length old
    → set (take (suc (suc j)) old ++ diffs (drop (suc j) old)) (suc j) (minus (get_or old (suc j) 0) (get_or old j 0)) ≡ take (suc j) old ++ diffs (drop j old)
unfolding diffs
turned old j h =
    let v = minus (get_or old (suc j) 0) (get_or old j 0) in
    let d = diffs (drop (suc j) old) in
    let a : drop (suc j) old ≡ get_or old (suc j) 0 ∷ drop (suc (suc j)) old = drop-cons old (suc j) 0 h in
    let b : diffs (drop j old) ≡ v ∷ d = rw (drop-cons old j 0 (omega arith), a) in
    ap (λ (l : List ℕ). set (l ++ d) (suc j) v) (take-suc old (suc j) 0 h)
    ∙ ap (λ (l : List ℕ). set l (suc j) v) (append_snoc (take (suc j) old) (get_or old (suc j) 0) d)
    ∙ set_at (take (suc j) old) (get_or old (suc j) 0) d v (suc j) (length-take-le (suc j) old (omega arith))
    ∙ ap (λ (l : List ℕ). take (suc j) old ++ l) (sym b)

pub differenced_turn : (old row : List ℕ) (i v : ℕ) → 2 ≤ i → i ≤ length old → v ≡ minus (get_or row (i - 1) 0) (get_or row (i - 1 - 1) 0)
    → Differenced old i row → Differenced old (i - 1) (set row (i - 1) v)
differenced_turn old row zero v l h e d = absurd (not-suc-le-zero l)
differenced_turn old row (suc zero) v l h e d = absurd (omega arith)
differenced_turn old row (suc (suc j)) v l h e d =
    let s : suc (suc j) - 1 ≡ suc j = omega arith in
    let t : suc j - 1 ≡ j = omega arith in
    let x : get_or row (suc j) 0 ≡ get_or old (suc j) 0 = stands old row (suc (suc j)) (suc j) h (omega arith) d in
    let y : get_or row j 0 ≡ get_or old j 0 = stands old row (suc (suc j)) j h (omega arith) d in
    let f : v ≡ minus (get_or old (suc j) 0) (get_or old j 0) = e ∙ rw (s, t, x, y) in
    let n : row ≡ take (suc (suc j)) old ++ diffs (drop (suc j) old) = d.is ∙ rw s in
    record { is = rw (s, t, f) (ap (λ (r : List ℕ). set r (suc j) (minus (get_or old (suc j) 0) (get_or old j 0))) n ∙ turned old j (omega arith)) }

pub differenced_below : (row : List ℕ) (m : ℕ) → Below row → Below (differenced row m)
differenced_below row m b = below-append (take m row) (diffs (drop (m - 1) row)) (below-take m row b) (diffs-below (drop (m - 1) row))

-- ---- rows: the numbers before place t stand as they will be, and the rest is the row whose first numbers are to come
pub record Rowed (old row : List ℕ) (t : ℕ) : Type 0 where
  pub whole : firsts old ≡ take t row ++ firsts (drop t row)
  pub below : Below row
  pub long : length row ≡ length old

pub rowed_start : (old : List ℕ) → Below old → Rowed old old 0
rowed_start old b = record { whole = refl; below = b; long = refl }

-- one row more
one_more : (old row new : List ℕ) (m : ℕ) → m < length row → new ≡ differenced row (m + 1) → Rowed old row m → Rowed old new (m + 1)
one_more old row new m h e r =
    let s : suc m - 1 ≡ m = omega arith in
    let y = get_or row m 0 in
    let n : new ≡ take (suc m) row ++ diffs (drop m row) = e ∙ rw (add-one m, s) in
    let c : drop m row ≡ y ∷ drop (suc m) row = drop-cons row m 0 h in
    let k : length (take (suc m) row) ≡ suc m = length-take-le (suc m) row (omega arith) in
    let d : length (diffs (drop m row)) ≡ length (drop (suc m) row) = rw c (diffs-length y (drop (suc m) row)) in
    let f : firsts (drop m row) ≡ y ∷ firsts (diffs (drop m row)) = rw c (firsts-cons y (drop (suc m) row)) in
    record {
      whole = r.whole
          ∙ ap (λ (x : List ℕ). take m row ++ x) f
          ∙ sym (append_snoc (take m row) y (firsts (diffs (drop m row))))
          ∙ ap (λ (x : List ℕ). x ++ firsts (diffs (drop m row))) (sym (take-suc row m 0 h))
          ∙ sym (rw (n, add-one m) (rw (take_at (take (suc m) row) (diffs (drop m row)) (suc m) k, drop_at (take (suc m) row) (diffs (drop m row)) (suc m) k)));
      below = rw e (differenced_below row (m + 1) r.below);
      long = ap length n ∙ length-append (take (suc m) row) (diffs (drop m row)) ∙ omega (arith, k, d, length-drop (suc m) row, r.long);
    }

pub rowed_turn : (old row new : List ℕ) (m : ℕ) → 1 ≤ m → m ≤ length row → new ≡ differenced row m → Rowed old row (m - 1)
    → Rowed old new (m + 1 - 1)
rowed_turn old row new m l h e r =
    let s : m - 1 + 1 ≡ m = omega arith in
    let t : m + 1 - 1 ≡ m - 1 + 1 = omega arith in
    rw t (one_more old row new (m - 1) (omega arith) (rw s e) r)

-- all rows
pub rowed_end : (old row : List ℕ) (m : ℕ) → length row ≤ m → Rowed old row m → row ≡ firsts old
rowed_end old row m h r = sym (r.whole ∙ rw (take_all m row h, drop_of_length-le row {i = m} h, firsts-none) (append-nil row))

-- ---- the sum with alternating signs of the numbers from place i on
pub record Summing (row : List ℕ) (i sum : ℕ) : Type 0 where
  pub is : sum ≡ alternating (drop i row)
  pub small : sum < p

pub summing_start : (row left : List ℕ) → left ≡ row → Summing row (length left) 0
summing_start row left e = record { is = rw (e, drop-length row) (sym alternating-none); small = omega arith }

-- the number that a turn takes is below p
pub front_below : (row left less : List ℕ) (x : ℕ) → left ≡ less ++ x ∷ [] → Front row left → Below row → x < p
front_below row left less x t f b =
    let e : drop (length less) row ≡ x ∷ drop (length left) row = front_taken row left less x t f in
    let h : get_or (drop (length less) row) 0 0 < p = (below-drop (length less) row b).each 0 in
    rw e at h

pub summing_turn : (row left less : List ℕ) (x sum v : ℕ) → left ≡ less ++ x ∷ [] → Front row left → v ≡ minus x sum
    → Summing row (length left) sum → Summing row (length less) v
summing_turn row left less x sum v t f e s = record {
  is = rw (front_taken row left less x t f) (e ∙ ap (minus x) s.is ∙ sym (alternating-cons x (drop (length left) row)));
  small = rw e (minus-below x sum);
}

-- none is left
pub summing_end : (row left : List ℕ) (sum : ℕ) → length left ≡ 0 → Summing row (length left) sum → sum ≡ alternating row
summing_end row left sum z s = s.is ∙ ap (λ (n : ℕ). alternating (drop n row)) z
