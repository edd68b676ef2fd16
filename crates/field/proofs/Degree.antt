-- Polynomials of degree below n, by their differences: the n-th difference is 0. So what `joined` gives, of the values at 1 to n, is the
-- value at 0. Assumes nothing.
use mathlib.Core.Path.{◌≡◌, refl, sym, ap, ◌∙◌}
use mathlib.Core.List.{List, [], ◌∷◌}
use Prim.Native.Nat.{ℕ, zero, suc, ◌+◌, ◌*◌, ◌%◌, ◌<◌}
use native.Mathlib.Omega.{arith}
use lib.Dec.{lit<}
use lib.ListN.{length}
use Rattle.prime.specs.Prime.{p, minus}
use Rattle.field.specs.Poly.{value}
use Rattle.lists.specs.Run.{run}
use Rattle.field.specs.Joined.{diffs, joined_in, joined}
use Rattle.prime.proofs.Mod.{◌≈◌, ◌then◌, flip, from≡, add≈, mul≈, mod≈, mod_below, small, minus≈, minus-below}
use Rattle.lists.proofs.RunLaws.{run_length}

-- the values mod p at x, x + 1, .., n of them, of the polynomial cs
abbrev pub points : List ℕ → ℕ → ℕ → List ℕ
points cs x n = run (λ j. value cs j % p) x n

-- the differences of f, mod p
abbrev pub rise : (ℕ → ℕ) → ℕ → ℕ
rise f x = minus (f (suc x)) (f x)

-- f is a polynomial of degree below n, mod p
abbrev Deg : ℕ → (ℕ → ℕ) → Type 0
Deg zero f = (x : ℕ) → f x ≈ 0
Deg (suc n) f = Deg n (rise f)

rise≈ : (f : ℕ → ℕ) (x : ℕ) → rise f x ≈ f (suc x) + 32748 * f x
rise≈ f x = minus≈ (f (suc x)) (f x)

deg_same : (n : ℕ) (f g : ℕ → ℕ) → ((x : ℕ) → f x ≈ g x) → Deg n f → Deg n g
deg_same zero f g e d = λ x. flip (e x) then d x
deg_same (suc n) f g e d =
    deg_same n (rise f) (rise g) (λ x. rise≈ f x then add≈ (e (suc x)) (mul≈ 32748 (e x)) then flip (rise≈ g x)) d

deg_add : (n : ℕ) (f g : ℕ → ℕ) → Deg n f → Deg n g → Deg n (λ x. f x + g x)
deg_add zero f g h k = λ x. add≈ (h x) (k x)
deg_add (suc n) f g h k =
    deg_same n (λ x. rise f x + rise g x) (rise (λ x. f x + g x))
    (λ x. add≈ (rise≈ f x) (rise≈ g x) then omega arith then flip (rise≈ (λ y. f y + g y) x))
    (deg_add n (rise f) (rise g) h k)

deg_suc : (n : ℕ) (f : ℕ → ℕ) → Deg n f → Deg n (λ x. f (suc x))
deg_suc zero f h = λ x. h (suc x)
deg_suc (suc n) f h = deg_suc n (rise f) h

parts : (x a b : ℕ) → a + x * (a + 32748 * b) ≡ suc x * a + 32748 * (x * b)
parts x a b = omega arith

-- the differences of x · f x are f (x + 1) + x · (the difference of f)
deg_mulx : (n : ℕ) (f : ℕ → ℕ) → Deg n f → Deg (suc n) (λ x. x * f x)
deg_mulx zero f h = λ x. rise≈ (λ y. y * f y) x then add≈ (mul≈ (suc x) (h (suc x))) (mul≈ 32748 (mul≈ x (h x))) then omega arith
deg_mulx (suc n) f h =
    deg_same (suc n) (λ x. f (suc x) + x * rise f x) (rise (λ x. x * f x))
    (λ x. add≈ (from≡ refl) (mul≈ x (rise≈ f x)) then from≡ (parts x (f (suc x)) (f x)) then flip (rise≈ (λ y. y * f y) x))
    (deg_add (suc n) (λ x. f (suc x)) (λ x. x * rise f x) (deg_suc (suc n) f h) (deg_mulx n (rise f) h))

value_deg : (cs : List ℕ) → Deg (length cs) (value cs)
unfolding value
value_deg [] = λ x. from≡ refl
value_deg (c ∷ cs) =
    deg_same (length cs) (rise (λ x. x * value cs x)) (rise (value (c ∷ cs)))
    (λ x. rise≈ (λ y. y * value cs y) x then omega arith then flip (rise≈ (value (c ∷ cs)) x))
    (deg_mulx (length cs) (value cs) (value_deg cs))

-- ---- the value at 0, by differences
diffs-run : (f : ℕ → ℕ) (x n : ℕ) → diffs (run f x (suc n)) ≡ run (rise f) x n
unfolding diffs run
diffs-run f x zero = refl
diffs-run f x (suc n) = ap (λ (ys : List ℕ). rise f x ∷ ys) (diffs-run f (suc x) n)

joined-run : (n : ℕ) (f : ℕ → ℕ) → Deg n f → (x : ℕ) → joined_in n (run f (suc x) n) ≈ f x
unfolding joined_in run
joined-run zero f d x = flip (d x)
joined-run (suc n) f d x =
    from≡ (ap (λ (ys : List ℕ). minus (f (suc x)) (joined_in n ys)) (diffs-run f (suc x) n))
    then minus≈ (f (suc x)) (joined_in n (run (rise f) (suc x) n))
    then add≈ (from≡ refl) (mul≈ 32748 (joined-run n (rise f) d x then rise≈ f x))
    then omega arith

pub joined-below : (n : ℕ) (ys : List ℕ) → joined_in n ys < p
unfolding joined_in
joined-below zero ys = lit< tt
joined-below (suc n) [] = lit< tt
joined-below (suc n) (y ∷ ys) = minus-below y (joined_in n (diffs (y ∷ ys)))

-- what is joined of the values at 1 to k of a polynomial of k coefficients is its value at 0
pub joined_points : (cs : List ℕ) → joined (points cs 1 (length cs)) ≡ value cs 0 % p
unfolding joined
joined_points cs =
    let n = length cs in
    let f : ℕ → ℕ = λ j. value cs j % p in
    ap (λ (m : ℕ). joined_in m (points cs 1 n)) (run_length f 1 n)
    ∙ sym (small (joined-below n (points cs 1 n)))
    ∙ (joined-run n f (deg_same n (value cs) f (λ x. flip (mod≈ (value cs x))) (value_deg cs)) 0).same
    ∙ small (mod_below (value cs 0))
