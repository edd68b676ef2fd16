-- Sums of lists: their length, range and numbers; and two deals added are a deal of the sum, with the sum of the randomness.
-- Assumes nothing.
use mathlib.Core.Path.{◌≡◌, refl, sym, ap, ap₂}
use mathlib.Core.List.{List, [], ◌∷◌}
use Prim.Native.Nat.{ℕ, zero, suc, ◌+◌, ◌*◌, ◌%◌, ◌≤◌}
use native.Mathlib.Omega.{arith}
use native.Mathlib.Nat.{suc_inj, suc-ne-zero, not-suc-le-zero, le_of_suc-le-suc}
use lib.ListN.{length, get_or, take, drop, length-take, length-drop}
use Rattle.lists.specs.Run.{run}
use Rattle.prime.specs.Prime.{p, Below}
use Rattle.field.specs.Poly.{value, piece}
use Rattle.field.specs.Pieces.{values}
use Rattle.field.specs.Added.{added}
use Rattle.prime.proofs.Mod.{◌≈◌, ◌then◌, add≈, mul≈, mod≈, mod_below}
use Rattle.field.proofs.Sums.{below-nil, below-cons}

pub added-length : (xs ys : List ℕ) → length xs ≤ length ys → length (added xs ys) ≡ length xs
unfolding added
added-length [] ys l = refl
added-length (x ∷ xs) [] l = absurd (not-suc-le-zero l)
added-length (x ∷ xs) (y ∷ ys) l = ap suc (added-length xs ys (le_of_suc-le-suc l))

pub added-below : (xs ys : List ℕ) → Below (added xs ys)
unfolding added
added-below [] ys = below-nil
added-below (x ∷ xs) [] = below-nil
added-below (x ∷ xs) (y ∷ ys) = below-cons (mod_below (x + y)) (added-below xs ys)

pub added-at : (xs ys : List ℕ) → length xs ≡ length ys → (i : ℕ) → get_or (added xs ys) i 0 ≡ (get_or xs i 0 + get_or ys i 0) % p
unfolding added
added-at [] [] l i = refl
added-at [] (y ∷ ys) l i = absurd (suc-ne-zero (length ys) (sym l))
added-at (x ∷ xs) [] l i = absurd (suc-ne-zero (length xs) l)
added-at (x ∷ xs) (y ∷ ys) l zero = refl
added-at (x ∷ xs) (y ∷ ys) l (suc i) = added-at xs ys (suc_inj l) i

-- two runs
pub added-run : (f g : ℕ → ℕ) (x n : ℕ) → added (run f x n) (run g x n) ≡ run (λ i. (f i + g i) % p) x n
unfolding added run
added-run f g x zero = refl
added-run f g x (suc n) = ap (λ (zs : List ℕ). (f x + g x) % p ∷ zs) (added-run f g (suc x) n)

-- exchanged, and grouped the other way
pub added_exchanged : (xs ys : List ℕ) → added xs ys ≡ added ys xs
unfolding added
added_exchanged [] [] = refl
added_exchanged [] (y ∷ ys) = refl
added_exchanged (x ∷ xs) [] = refl
added_exchanged (x ∷ xs) (y ∷ ys) =
    let e : (x + y) % p ≡ (y + x) % p = omega arith in
    ap₂ (λ (z : ℕ) (zs : List ℕ). z ∷ zs) e (added_exchanged xs ys)

pub added_grouped : (xs ys zs : List ℕ) → added (added xs ys) zs ≡ added xs (added ys zs)
unfolding added
added_grouped [] ys zs = refl
added_grouped (x ∷ xs) [] zs = refl
added_grouped (x ∷ xs) (y ∷ ys) [] = refl
added_grouped (x ∷ xs) (y ∷ ys) (z ∷ zs) =
    let e : ((x + y) % p + z) % p ≡ (x + (y + z) % p) % p = omega arith in
    ap₂ (λ (v : ℕ) (vs : List ℕ). v ∷ vs) e (added_grouped xs ys zs)

-- ---- polynomials
added-value : (cs ds : List ℕ) (x : ℕ) → length cs ≡ length ds → value (added cs ds) x ≈ value cs x + value ds x
unfolding added value
added-value [] [] x l = omega arith
added-value [] (d ∷ ds) x l = absurd (suc-ne-zero (length ds) (sym l))
added-value (c ∷ cs) [] x l = absurd (suc-ne-zero (length cs) l)
added-value (c ∷ cs) (d ∷ ds) x l = add≈ (mod≈ (c + d)) (mul≈ x (added-value cs ds x (suc_inj l))) then omega arith

added-piece : (d e : ℕ) (rs zs : List ℕ) (j : ℕ) → length rs ≡ length zs → piece ((d + e) % p) (added rs zs) j ≡ (piece d rs j + piece e zs j) % p
unfolding value
added-piece d e rs zs j l = (add≈ (mod≈ (d + e)) (mul≈ j (added-value rs zs j l)) then regroup (value rs j) (value zs j)).same
  where
    regroup : (a b : ℕ) → d + e + j * (a + b) ≈ (d + j * a) % p + (e + j * b) % p
    regroup a b = omega arith

-- ---- deals
added_none : (xs : List ℕ) → added xs [] ≡ []
unfolding added
added_none [] = refl
added_none (x ∷ xs) = refl

take-added : (n : ℕ) (xs ys : List ℕ) → take n (added xs ys) ≡ added (take n xs) (take n ys)
unfolding added
take-added zero xs ys = refl
take-added (suc n) [] ys = refl
take-added (suc n) (x ∷ xs) [] = refl
take-added (suc n) (x ∷ xs) (y ∷ ys) = ap (λ (zs : List ℕ). (x + y) % p ∷ zs) (take-added n xs ys)

drop-added : (n : ℕ) (xs ys : List ℕ) → drop n (added xs ys) ≡ added (drop n xs) (drop n ys)
unfolding added
drop-added zero xs ys = refl
drop-added (suc n) [] ys = refl
drop-added (suc n) (x ∷ xs) [] = sym (added_none (drop n xs))
drop-added (suc n) (x ∷ xs) (y ∷ ys) = drop-added n xs ys

pub values-added : (q : ℕ) (ds es rs zs : List ℕ) (j : ℕ) → length ds ≡ length es → length rs ≡ length zs
    → values q (added ds es) (added rs zs) j ≡ added (values q ds rs j) (values q es zs j)
unfolding added values
values-added q [] es rs zs j l m = refl
values-added q (d ∷ ds) [] rs zs j l m = absurd (suc-ne-zero (length ds) l)
values-added q (d ∷ ds) (e ∷ es) rs zs j l m =
    rw (take-added q rs zs, drop-added q rs zs)
    (ap₂ (λ (x : ℕ) (xs : List ℕ). x ∷ xs)
    (added-piece d e (take q rs) (take q zs) j (simp length-take (rw m)))
    (values-added q ds es (drop q rs) (drop q zs) j (suc_inj l) (simp length-drop (rw m))))
