-- Tests that hold and tests that fail: `and`, `or`, `not`; two numbers are the same, or not.
-- Assumes nothing.
use mathlib.Core.Path.{◌≡◌, refl, sym, ap, ◌∙◌}
use mathlib.Core.Bool.{Bool, true, false, not, ◌&&◌, ◌||◌, false≢true}
use mathlib.Core.Logic.{◌⊎◌, inl, inr, ⊎_elim, ◌≢◌}
use Prim.Native.Nat.{ℕ}
use lib.Dec.{eqb}
use borrow.Author.Tests.{eqb-true, eqb-false, eq-eqb, ne_eqb}

pub never : {b : Bool} → b ≡ false → b ≡ true → ⊥
never e t = false≢true (sym e ∙ t)

pub decided : (b : Bool) → (b ≡ true) ⊎ (b ≡ false)
decided true = inl refl
decided false = inr refl

-- two numbers are the same, or not
pub same_or_not : (k i : ℕ) → (k ≡ i) ⊎ (k ≢ i)
same_or_not k i = ⊎_elim (λ t. inl (eqb-true k i t)) (λ f. inr (eqb-false k i f)) (decided (eqb k i))

pub isn't : {b : Bool} → (b ≡ true → ⊥) → b ≡ false
isn't {b} h = ⊎_elim (λ (t : b ≡ true). absurd (h t)) (λ (e : b ≡ false). e) (decided b)

-- a test that fails only where nothing can be
pub surely : {b : Bool} → (b ≡ false → ⊥) → b ≡ true
surely {b} h = ⊎_elim (λ (t : b ≡ true). t) (λ (e : b ≡ false). absurd (h e)) (decided b)

pub and_both : {a b : Bool} → a ≡ true → b ≡ true → (a && b) ≡ true
and_both s t = rw (s, t)

pub both : (a b : Bool) → (a && b) ≡ true → (a ≡ true) × (b ≡ true)
both true b t = (refl, t)
both false b t = absurd (false≢true t)

pub or_l : {a : Bool} (b : Bool) → a ≡ true → (a || b) ≡ true
or_l b t = rw t

pub or_r : (a : Bool) {b : Bool} → b ≡ true → (a || b) ≡ true
or_r true t = refl
or_r false t = t

pub or_cases : (a b : Bool) → (a || b) ≡ true → (a ≡ true) ⊎ (b ≡ true)
or_cases true b t = inl refl
or_cases false b t = inr t

pub neither : (a b : Bool) → (a || b) ≡ false → (a ≡ false) × (b ≡ false)
neither true b e = absurd (false≢true (sym e))
neither false b e = (refl, e)

pub not_so : (b : Bool) → not b ≡ true → b ≡ false
not_so true t = absurd (false≢true t)
not_so false t = refl

pub so_not : {b : Bool} → b ≡ false → not b ≡ true
so_not e = rw e

pub and_no : (x y : Bool) → x ≡ false → x && y ≡ false
and_no x y e = ap (λ (b : Bool). b && y) e

pub and_none : (x : Bool) → x && false ≡ false
and_none true = refl
and_none false = refl

pub and_all : (x : Bool) → (x && true) ≡ x
and_all true = refl
and_all false = refl

-- two tests that are true together are equal
pub alike : {a b : Bool} → (a ≡ true → b ≡ true) → (b ≡ true → a ≡ true) → a ≡ b
alike {a} {b} f h =
    ⊎_elim (λ (t : a ≡ true). t ∙ sym (f t)) (λ (e : a ≡ false). e ∙ sym (isn't (λ t. never e (h t)))) (decided a)

-- two numbers that were read: their test, by what they are
pub same_read : {x y u v : ℕ} → x ≡ u → y ≡ v → x ≡ y → eqb u v ≡ true
same_read {u = u} {v = v} p q e = eq-eqb u v (sym p ∙ e ∙ q)

pub other_read : {x y u v : ℕ} → x ≡ u → y ≡ v → x ≢ y → eqb u v ≡ false
other_read {u = u} {v = v} p q f = ne_eqb u v (λ e. f (p ∙ e ∙ sym q))

pub and_and : (a b c : Bool) → (a && (b && c)) ≡ (a && b && c)
and_and true b c = refl
and_and false b c = refl
