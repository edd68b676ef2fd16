-- The values of a piece as the code makes them, word by word: those that are made and those to come are all.
-- Assumes nothing.
use Prim.Native.Nat.{ℕ, suc, ◌+◌, ◌-◌, ◌*◌, ◌≤◌, ◌<◌, zero-le}
use mathlib.Core.Path.{◌≡◌, sym, ◌∙◌}
use mathlib.Core.List.{List, ◌∷◌, ◌++◌, append-nil}
use native.Mathlib.Nat.{le_refl, mul-le-mul}
use native.Mathlib.Numerals.{add-one}
use native.Mathlib.Omega.{arith}
use lib.ListN.{length, get_or, take, drop, set, length-set}
use lib.Seq.{drop-length, take-suc-set, drop-cons, append_snoc, drop-drop}
use Rattle.prime.specs.Prime.{Below}
use Rattle.field.specs.Poly.{piece}
use Rattle.field.specs.Pieces.{values}
use Rattle.field.proofs.Sums.{below-cons, below-take, below-drop}

pub record Valued (secret random : List ℕ) (q j : ℕ) (made : List ℕ) (i : ℕ) : Type 0 where
  pub within : i ≤ length secret
  pub size : length made ≡ 16
  pub all : take i made ++ values q (drop i secret) (drop (i * q) random) j ≡ values q secret random j

pub valued_start : (secret random : List ℕ) (q j : ℕ) (made : List ℕ) → length made ≡ 16 → Valued secret random q j made 0
valued_start secret random q j made s =
    let z : 0 * q ≡ 0 = omega arith in
    record { within = zero-le; size = s; all = rw z }

-- a word has its coefficients, and no word above 32748 is among them
pub coefficients_in_lem : (n i q l : ℕ) → l ≡ n * q → i < n → i * q + q ≤ l
coefficients_in_lem n i q l e h =
    let m : suc i * q ≤ n * q = mul-le-mul h (le_refl q) in
    let s : suc i * q ≡ q + i * q = omega arith in
    omega arith

pub coefficients-below : (secret random : List ℕ) (i n m : ℕ) → Below secret → Below random → Below (get_or secret i 0 ∷ take n (drop m random))
coefficients-below secret random i n m s r = below-cons (s.each i) (below-take n (drop m random) (below-drop m random r))

pub valued_turn : (secret random : List ℕ) (q j : ℕ) (made : List ℕ) (i v : ℕ) → i < length secret → length secret ≤ 16
    → v ≡ piece (get_or secret i 0) (take (i * q + q - i * q) (drop (i * q) random)) j → Valued secret random q j made i
    → Valued secret random q j (set made i v) (i + 1)
unfolding values
valued_turn secret random q j made i v h few e w =
    let z : i * q + q - i * q ≡ q = omega arith in
    let s : (i + 1) * q ≡ i * q + q = omega arith in
    let e' : v ≡ piece (get_or secret i 0) (take q (drop (i * q) random)) j = rw z at e in
    record {
      within = omega arith;
      size = length-set made i v ∙ w.size;
      all =
          rw (
            s,
            add-one i,
            take-suc-set made i v (omega (arith, w.size)),
            append_snoc (take i made) v (values q (drop (suc i) secret) (drop (i * q + q) random) j),
            e',
            ← drop-drop q (i * q) random,
          )
          (rw (drop-cons secret i 0 h) at w.all);
    }

pub valued_end : (secret random : List ℕ) (q j : ℕ) (made : List ℕ) (i : ℕ) → length secret ≤ i → Valued secret random q j made i
    → take (length secret) made ≡ values q secret random j
unfolding values
valued_end secret random q j made i h w =
    let e : i ≡ length secret = omega (arith, w.within) in
    sym (append-nil (take (length secret) made)) ∙ (rw (e, drop-length secret) at w.all)
