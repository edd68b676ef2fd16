-- Congruence mod 32749, as a record, so that its two sides can be left implicit. `omega arith` reads `%` by a numeral and the fields of
-- records; a product of two congruences is the one lemma that it lacks. Assumes nothing.
use mathlib.Core.Path.{◌≡◌, sym, ap, ◌∙◌}
use Prim.Native.Nat.{ℕ, ◌+◌, ◌-◌, ◌*◌, ◌%◌, ◌<◌}
use native.Mathlib.Omega.{arith}
use native.Mathlib.Nat.{div-add-mod}
use Rattle.prime.specs.Prime.{p, minus}

infix 40 ◌≈◌
pub record ◌≈◌ (a b : ℕ) : Type 0 where
  pub same : a % p ≡ b % p

infixl 35 ◌then◌
pub ◌then◌ : {a b c : ℕ} → a ≈ b → b ≈ c → a ≈ c
h then k = record { same = h.same ∙ k.same }

pub flip : {a b : ℕ} → a ≈ b → b ≈ a
flip h = record { same = sym h.same }

pub from≡ : {a b : ℕ} → a ≡ b → a ≈ b
from≡ h = record { same = ap (λ (x : ℕ). x % p) h }

pub mod_below : (a : ℕ) → a % p < p
mod_below a = omega arith

-- a number below p is its own remainder
pub small : {a : ℕ} → a < p → a % p ≡ a
small h = omega arith

pub same-small : {a b : ℕ} → a < p → b < p → a ≈ b → a ≡ b
same-small h k e = omega arith

pub mod≈ : (a : ℕ) → a % p ≈ a
mod≈ a = omega arith

pub add≈ : {a b c d : ℕ} → a ≈ b → c ≈ d → a + c ≈ b + d
add≈ h k = omega arith

pub mul≈ : (c : ℕ) {a b : ℕ} → a ≈ b → c * a ≈ c * b
mul≈ c {a} {b} h = record { same = down a ∙ ap (λ (x : ℕ). c * x % p) h.same ∙ sym (down b) }
  where
    down : (x : ℕ) → c * x % p ≡ c * (x % p) % p
    down x = let e = ap (λ (y : ℕ). c * y) (div-add-mod x p) in omega arith

pub mul≈₂ : {a b c d : ℕ} → a ≈ b → c ≈ d → a * c ≈ b * d
mul≈₂ {a} {b} {c} {d} h k = mul≈ a k then omega (arith, mul≈ d h)

-- a − b
pub minus≈ : (a b : ℕ) → minus a b ≈ a + 32748 * b
unfolding minus
minus≈ a b = omega arith

pub minus-below : (a b : ℕ) → minus a b < p
unfolding minus
minus-below a b = mod_below (a + (p - b % p))
