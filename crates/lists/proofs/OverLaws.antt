-- A list that is written over the front of another, number by number.
-- Assumes nothing.
use mathlib.Core.Path.{◌≡◌, refl, sym, ap, ◌∙◌}
use mathlib.Core.List.{List, [], ◌∷◌, ◌++◌, append_assoc}
use native.Mathlib.Omega.{arith}
use Prim.Native.Nat.{ℕ, suc, ◌+◌, ◌<◌}
use native.Mathlib.Numerals.{add-one}
use lib.ListN.{length, get_or, set, drop, length-append}
use lib.Seq.{drop-cons, set_at, append_snoc}
use Rattle.lists.specs.Over.{over}
use Rattle.lists.specs.Run.{run}
use Rattle.lists.proofs.RunLaws.{run_length, run_end}

-- one number more, behind those that are written
pub over_more : (new old : List ℕ) (v : ℕ) → length new < length old → set (over new old) (length new) v ≡ over (new ++ v ∷ []) old
unfolding over
over_more new old v h =
    let s : length (new ++ v ∷ []) ≡ suc (length new) = omega (arith, length-append new (v ∷ [])) in
    let rest = drop (suc (length new)) old in
    rw (s, drop-cons old (length new) 0 h) (set_at new (get_or old (length new) 0) rest v (length new) refl ∙ sym (append_snoc new v rest))

-- two more
pub over_two : (new old : List ℕ) (x y n : ℕ) → n ≡ length new → n + 1 < length old → set (set (over new old) n x) (n + 1) y ≡ over (new ++ x ∷ y ∷ []) old
over_two new old x y n e h =
    let m : length (new ++ x ∷ []) ≡ n + 1 = omega (arith, length-append new (x ∷ [])) in
    ap (λ (l : List ℕ). set l (n + 1) y) (ap (λ (z : ℕ). set (over new old) z x) e ∙ over_more new old x (omega arith))
    ∙ ap (λ (z : ℕ). set (over (new ++ x ∷ []) old) z y) (sym m) ∙ over_more (new ++ x ∷ []) old y (omega arith)
    ∙ ap (λ (l : List ℕ). over l old) (append_assoc new (x ∷ []) (y ∷ []))

-- a run that is written over the front of a list: one number more
pub over_on : (f : ℕ → ℕ) (old out : List ℕ) (i v : ℕ) → i < length old → v ≡ f (i + 1) → out ≡ over (run f 1 i) old
    → set out i v ≡ over (run f 1 (i + 1)) old
over_on f old out i v l e h =
    let s : 1 + i ≡ i + 1 = omega arith in
    let n : length (run f 1 i) ≡ i = run_length f 1 i in
    let more : run f 1 (i + 1) ≡ run f 1 i ++ (v ∷ []) = ap (run f 1) (add-one i) ∙ run_end f 1 i ∙ ap (λ (y : ℕ). run f 1 i ++ (y ∷ [])) (ap f s ∙ sym e) in
    ap (λ (r : List ℕ). set r i v) h ∙ (rw n at (over_more (run f 1 i) old v (omega arith))) ∙ ap (λ (r : List ℕ). over r old) (sym more)
