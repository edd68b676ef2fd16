-- Horner's rule, one turn of the loop: from the coefficients past those that are left to one more, and at last to the word itself.
-- Assumes nothing.
use mathlib.Core.Path.{◌≡◌, ap, ◌∙◌}
use mathlib.Core.List.{List, [], ◌∷◌, ◌++◌}
use Prim.Native.Nat.{ℕ, ◌+◌, ◌*◌, ◌%◌}
use native.Mathlib.Omega.{arith}
use lib.ListN.{length, drop}
use lib.Seq.{drop-length}
use Rattle.prime.specs.Prime.{p}
use Rattle.field.specs.Poly.{value, piece}
use Rattle.prime.proofs.Mod.{◌≈◌, ◌then◌, from≡, mul≈, mod≈}
use Rattle.field.proofs.BackLaws.{Front, front_taken}

pub horner_start : (cs left : List ℕ) (x : ℕ) → left ≡ cs → 0 ≈ value (drop (length left) cs) x
unfolding value
horner_start cs left x e = from≡ (rw (e, drop-length cs))

turn : (d : ℕ) (cs : List ℕ) (x acc : ℕ) → acc ≈ value cs x → acc * x + d ≈ value (d ∷ cs) x
unfolding value
turn d cs x acc e = omega (arith, mul≈ x e)

pub last_turn : (d : ℕ) (cs : List ℕ) (x acc : ℕ) → acc ≡ value cs x % p → (acc * x + d) % p ≡ piece d cs x
last_turn d cs x acc e = (turn d cs x acc (from≡ e then mod≈ (value cs x))).same

pub horner : (cs left less : List ℕ) (d x acc : ℕ) → left ≡ less ++ d ∷ [] → Front cs left → acc ≈ value (drop (length left) cs) x
    → acc * x + d ≈ value (drop (length less) cs) x
horner cs left less d x acc t f e = rw (front_taken cs left less d t f) (turn d (drop (length left) cs) x acc e)

-- none is left
pub horner_end : (cs left : List ℕ) (x acc : ℕ) → length left ≡ 0 → acc ≈ value (drop (length left) cs) x → acc % p ≡ value cs x % p
horner_end cs left x acc z e = e.same ∙ ap (λ (n : ℕ). value (drop n cs) x % p) z
