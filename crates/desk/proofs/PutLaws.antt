-- What the loops write into the store, one number more at a time; and the columns of values.
-- Assumes nothing.
use mathlib.Core.Path.{◌≡◌, sym, ap, ◌∙◌}
use mathlib.Core.List.{List, [], ◌∷◌, ◌++◌}
use Prim.Native.Nat.{ℕ, ◌+◌, ◌-◌, ◌≤◌, ◌<◌}
use native.Mathlib.Numerals.{add-one}
use native.Mathlib.Omega.{arith}
use lib.ListN.{length, set, drop, take, replicate, length-replicate}
use lib.Seq.{take_at}
use Rattle.lists.specs.Over.{over}
use Rattle.lists.specs.Run.{run}
use Rattle.lists.proofs.RunLaws.{run_end}
use Rattle.prime.specs.Prime.{Below}
use Rattle.field.specs.Secret.{column}
use Rattle.field.proofs.SecretLaws as secret
use Rattle.block.specs.Words.{word_at}
use Rattle.desk.specs.declared.Opening.{Opening}
use Rattle.desk.specs.Slots.{start, over_at, value_in, kept}
use Rattle.desk.specs.Inner.{AllKept}
use Rattle.desk.proofs.StoreLaws.{written_more, written-again, written_one}
use Rattle.desk.proofs.KeepLaws.{kept_small}
use Rattle.desk.proofs.SlotLaws.{kept-length}

-- ---- zeros, written over k numbers at once
pub zeros_written : (at n k m : ℕ) (old ys : List ℕ) → k ≡ n → m ≡ n → ys ≡ replicate m 0 → take at old ++ (ys ++ drop k (drop at old)) ≡ over_at at (replicate n 0) old
unfolding over_at over
zeros_written at n k m old ys e f y =
    rw (e, y, f) (ap (λ (j : ℕ). take at old ++ (replicate n 0 ++ drop j (drop at old))) (sym (length-replicate {A = ℕ} n 0)))

-- ---- the mark and the values of a block
pub kept-first : (at : ℕ) (b old : List ℕ) → at < length old → set old at 1 ≡ over_at at (kept b 0) (set old at 1)
unfolding kept run
kept-first at b old l = written_one at old 1 l ∙ sym (written-again at 1 [] old 1 l)

pub kept_last : (at : ℕ) (b old : List ℕ) (w : ℕ) → at < length old → over_at at (kept b w) (set old at 1) ≡ over_at at (kept b w) old
unfolding kept
kept_last at b old w l = written-again at 1 (run (λ i. word_at b (7 + i)) 1 w) old 1 l

one_more : (at : ℕ) (b old out : List ℕ) (i v : ℕ) → at + (i + 1) < length old → v ≡ word_at b (8 + i) → out ≡ over_at at (kept b i) old
    → set out (at + i + 1) v ≡ over_at at (kept b (i + 1)) old
unfolding kept
one_more at b old out i v l e h =
    let f : ℕ → ℕ = λ k. word_at b (7 + k) in
    let s : 7 + (1 + i) ≡ 8 + i = omega arith in
    let place : at + i + 1 ≡ at + (i + 1) = omega arith in
    let more : run f 1 (i + 1) ≡ run f 1 i ++ (v ∷ []) = ap (run f 1) (add-one i) ∙ run_end f 1 i ∙ ap (λ (y : ℕ). run f 1 i ++ (y ∷ [])) (ap (word_at b) s ∙ sym e) in
    ap (λ (n : ℕ). set out n v) place ∙ ap (λ (r : List ℕ). set r (at + (i + 1)) v) h
    ∙ written_more at (1 ∷ run f 1 i) old (i + 1) v (kept-length b i) l ∙ ap (λ (r : List ℕ). over_at at (1 ∷ r) old) (sym more)

pub kept_next : (at : ℕ) (b old out : List ℕ) (i v : ℕ) → 1 ≤ i → at + i < length old → v ≡ word_at b (7 + i) → out ≡ over_at at (kept b (i - 1)) old
    → set out (at + i) v ≡ over_at at (kept b (i + 1 - 1)) old
kept_next at b old out i v f l e h =
    let t : i + 1 - 1 ≡ i - 1 + 1 = omega arith in
    let place : at + i ≡ at + (i - 1) + 1 = omega arith in
    let word : 7 + i ≡ 8 + (i - 1) = omega arith in
    ap (λ (n : ℕ). set out n v) place
    ∙ one_more at b old out (i - 1) v (omega arith) (e ∙ ap (word_at b) word) h
    ∙ ap (λ (n : ℕ). over_at at (kept b n) old) (sym t)

-- ---- a column
pub column-below : (slots : List ℕ) (o : Opening) (c i : ℕ) → AllKept slots o c → 1 ≤ i → i ≤ o.width → Below (column (value_in slots c) o.pieces i)
column-below slots o c i f l h =
    secret.column-below (value_in slots c) o.pieces i
    (λ j u v. let q = kept_small slots (start c j) o.width (f.all j u v) i l h in omega (arith, q))

-- what a function that is lent the first k values of a column goes by
module _ (slots old values : List ℕ) (c k i : ℕ) (is : values ≡ over (column (value_in slots c) k i) old) where
  pub column-front : take k values ≡ column (value_in slots c) k i
  unfolding over
  column-front = ap (take k) is ∙ take_at (column (value_in slots c) k i) (drop (length (column (value_in slots c) k i)) old) k (secret.column-length (value_in slots c) k i)

  pub column-counts : k ≡ length (take k values)
  column-counts = sym (ap length column-front ∙ secret.column-length (value_in slots c) k i)
