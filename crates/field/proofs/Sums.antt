-- A polynomial plus a multiple of another, coefficient by coefficient: its value, its length and its range. And laws of `Below`.
-- Assumes nothing.
use mathlib.Core.Path.{◌≡◌, refl, ap}
use mathlib.Core.List.{List, [], ◌∷◌, ◌++◌}
use Prim.Native.Nat.{ℕ, zero, suc, ◌+◌, ◌*◌, ◌%◌, ◌≤◌, ◌<◌}
use native.Mathlib.Omega.{arith}
use native.Mathlib.Nat.{not-suc-le-zero, le_of_suc-le-suc}
use native.Mathlib.Decide.{dec_lt}
use lib.Dec.{lit<}
use lib.ListN.{length, get_or, take, drop, get_or-eq_default}
use Rattle.prime.specs.Prime.{p, Below}
use Rattle.field.specs.Poly.{value}
use Rattle.prime.proofs.Mod.{◌≈◌, ◌then◌, add≈, mul≈, mod≈, mod_below}

-- ---- lists of numbers from 0 to 32748
pub below-nil : Below []
below-nil = record { each = λ i. lit< tt }

pub below-cons : {c : ℕ} {cs : List ℕ} → c < p → Below cs → Below (c ∷ cs)
below-cons {c} {cs} h b = record { each = go }
  where
    go : (i : ℕ) → get_or (c ∷ cs) i 0 < p
    go zero = h
    go (suc i) = b.each i

pub below_rest : {c : ℕ} {cs : List ℕ} → Below (c ∷ cs) → Below cs
below_rest b = record { each = λ i. b.each (suc i) }

-- only the places within the list count
pub below-within : (cs : List ℕ) → ((i : ℕ) → i < length cs → get_or cs i 0 < p) → Below cs
below-within cs h = record { each = λ i. go i (dec_lt i (length cs)) }
  where
    go : (i : ℕ) → Dec (i < length cs) → get_or cs i 0 < p
    go i (yes l) = h i l
    go i (no f) = rw (get_or-eq_default cs 0 {n = i} (omega arith)) (lit< tt)

pub below-take : (n : ℕ) (cs : List ℕ) → Below cs → Below (take n cs)
below-take zero cs b = below-nil
below-take (suc n) [] b = below-nil
below-take (suc n) (c ∷ cs) b = below-cons (b.each 0) (below-take n cs (below_rest b))

pub below-drop : (n : ℕ) (cs : List ℕ) → Below cs → Below (drop n cs)
below-drop zero cs b = b
below-drop (suc n) [] b = below-nil
below-drop (suc n) (c ∷ cs) b = below-drop n cs (below_rest b)

pub below-append : (cs ds : List ℕ) → Below cs → Below ds → Below (cs ++ ds)
below-append [] ds a b = b
below-append (c ∷ cs) ds a b = below-cons (a.each 0) (below-append cs ds (below_rest a) b)

-- ---- cs + e · ds, mod p; what only one of them has stays, or is multiplied
unfoldable pub plus_times : List ℕ → ℕ → List ℕ → List ℕ
plus_times cs e [] = cs
plus_times [] e (d ∷ ds) = e * d % p ∷ plus_times [] e ds
plus_times (c ∷ cs) e (d ∷ ds) = (c + e * d) % p ∷ plus_times cs e ds

pub plus_times_value : (cs : List ℕ) (e : ℕ) (ds : List ℕ) (x : ℕ) → value (plus_times cs e ds) x ≈ value cs x + e * value ds x
unfolding plus_times value
plus_times_value cs e [] x = omega arith
plus_times_value [] e (d ∷ ds) x = add≈ (mod≈ (e * d)) (mul≈ x (plus_times_value [] e ds x)) then omega arith
plus_times_value (c ∷ cs) e (d ∷ ds) x = add≈ (mod≈ (c + e * d)) (mul≈ x (plus_times_value cs e ds x)) then omega arith

pub plus_times_length : (cs : List ℕ) (e : ℕ) (ds : List ℕ) → length cs ≤ length ds → length (plus_times cs e ds) ≡ length ds
unfolding plus_times
plus_times_length [] e [] l = refl
plus_times_length (c ∷ cs) e [] l = absurd (not-suc-le-zero l)
plus_times_length [] e (d ∷ ds) l = ap suc (plus_times_length [] e ds (omega arith))
plus_times_length (c ∷ cs) e (d ∷ ds) l = ap suc (plus_times_length cs e ds (le_of_suc-le-suc l))

pub plus_times_below : (cs : List ℕ) (e : ℕ) (ds : List ℕ) → Below cs → Below (plus_times cs e ds)
unfolding plus_times
plus_times_below cs e [] b = b
plus_times_below [] e (d ∷ ds) b = below-cons (mod_below (e * d)) (plus_times_below [] e ds b)
plus_times_below (c ∷ cs) e (d ∷ ds) b = below-cons (mod_below (c + e * d)) (plus_times_below cs e ds (below_rest b))
