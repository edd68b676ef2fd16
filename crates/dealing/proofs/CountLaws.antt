-- What the library counts with a test is as many places as have it. Assumes nothing.
use mathlib.Core.Path.{◌≡◌, refl, sym, ap, ◌∙◌}
use mathlib.Core.Bool.{Bool, true, false, cond}
use mathlib.Core.List.{List, [], ◌∷◌}
use Prim.Native.Nat.{ℕ, zero, suc, ◌+◌, ◌≤◌, ◌<◌}
use native.Mathlib.Numerals.{add-one}
use native.Mathlib.Omega.{arith}
use lib.ListN.{length, get_or, take, length-append}
use Rattle.std.specs.List.{filter}
use Rattle.std.proofs.lemmas.List.Filters.{length-filter_more}
use Rattle.lists.specs.Places.{those}

one : (b : Bool) (x : ℕ) → length (cond b (x ∷ []) []) ≡ cond b 1 0
one true x = refl
one false x = refl

-- the first c things in the list; `test j` is that of the thing at place j
pub counted_those : {A : Type 0} (p : A → Bool) (l : List A) (d : A) (test : ℕ → Bool) (c : ℕ) → c ≤ length l
    → ((i : ℕ) → i < c → p (get_or l i d) ≡ test (1 + i)) → length (filter p (take c l)) ≡ length (those test 1 c)
unfolding those
counted_those p l d test zero h e = refl
counted_those p l d test (suc c) h e =
    ap (λ (n : ℕ). length (filter p (take n l))) (sym (add-one c))
    ∙ length-filter_more p l c d (omega arith)
    ∙ rw (e c (omega arith), counted_those p l d test c (omega arith) (λ i m. e i (omega arith)), length-append (those test 1 c) (cond (test (1 + c)) ((1 + c) ∷ []) []), one (test (1 + c)) (1 + c))
