-- The library's sixteen bytes of a number, the highest first, are its digits to the base 256.
-- Assumes nothing.
use mathlib.Core.Path.{◌≡◌, refl, sym, ap, ◌∙◌}
use mathlib.Core.List.{List, [], ◌∷◌, ◌++◌}
use Prim.Native.Nat.{ℕ, zero, suc, ◌/◌, ◌%◌, ◌^◌}
use native.Mathlib.Omega.{arith}
use native.Mathlib.Nat.{pow-suc}
use mir.Syntax.{w128}
use lib.ListN.{length}
use Rattle.std.specs.Int.{byte_at, bytes_high_first, to_be_bytes, from_be_bytes}
use Rattle.std.proofs.Math.Nat.{div-div-eq-div-mul}
use Rattle.packing.specs.Digits.{number_from, number_of, digits}
use Rattle.packing.proofs.DigitLaws.{reads, reads_all}

-- a byte of what stands above the last byte
above : (k x : ℕ) → byte_at (suc k) x ≡ byte_at k (x / 256)
above zero x = ap (λ (b : ℕ). x / b % 256) (omega arith)
above (suc k) x = ap (λ (b : ℕ). x / b % 256) (pow-suc 256 (suc k) ∙ omega arith) ∙ ap (λ (q : ℕ). q % 256) (sym (div-div-eq-div-mul x 256 (256 ^ suc k)))

last : (k x : ℕ) → bytes_high_first (suc k) x ≡ bytes_high_first k (x / 256) ++ x % 256 ∷ []
last zero x = refl
last (suc k) x = ap (λ (l : List ℕ). byte_at (suc k) x ∷ l) (last k x) ∙ ap (λ (b : ℕ). b ∷ bytes_high_first k (x / 256) ++ x % 256 ∷ []) (above k x)

all : (n x : ℕ) → bytes_high_first n x ≡ digits 256 n x
unfolding digits
all zero x = refl
all (suc n) x = last n x ∙ ap (λ (l : List ℕ). l ++ x % 256 ∷ []) (all n (x / 256))

pub bytes-digits : (x : ℕ) → to_be_bytes w128 x ≡ digits 256 16 x
bytes-digits x = all 16 x

of_sixteen : (l : List ℕ) → from_be_bytes w128 l ≡ number_of 256 (reads l 0 16)
unfolding number_of number_from
of_sixteen l = omega arith

pub bytes-number : (l : List ℕ) → length l ≡ 16 → from_be_bytes w128 l ≡ number_of 256 l
bytes-number l n = of_sixteen l ∙ ap (number_of 256) (sym (reads_all l 16 n))
