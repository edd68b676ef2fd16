-- The table of chains, tested by computing, all of it at once: of two groups of one chain one lies inside the other. And what each test
-- says of any two groups.
-- Assumes nothing.
use mathlib.Core.Path.{◌≡◌, refl, sym, ap, subst, subst₂, ◌∙◌}
use mathlib.Core.Bool.{Bool, true, not, ◌&&◌, ◌||◌}
use mathlib.Core.List.{List, [], ◌∷◌}
use mathlib.Core.Logic.{◌⊎◌, inl, inr, ⊎_elim}
use Prim.Native.Nat.{ℕ, zero, suc, ◌+◌, ◌*◌, ◌/◌, ◌%◌, ◌^◌, ◌≤◌, ◌<◌}
use native.Mathlib.Decide.{dec_le}
use native.Mathlib.Nat.{le_refl, lt_of_not-le, not-suc-le-zero, le_of_suc-le-suc, eq-or-lt_of_le, zero-add, add-zero, suc-add, add-suc, div-one}
use native.Mathlib.Numerals.{add-one}
use native.Mathlib.Omega.{arith}
use lib.Dec.{eqb, leb, ltb, lit≤}
use lib.ListN.{length, get_or, take}
use lib.Pow.{shr-shr, pow_mono}
use lib.Seq.{length-take-le, get_or-take}
use borrow.Author.Tests.{eq-eqb, eqb-true, leb-true, le-leb, ltb-true}
use Rattle.lists.proofs.Truth.{both, and_both, or_cases, never, not_so}
use Rattle.chains.specs.Apart.{digit, most}
use Rattle.chains.proofs.Chains.{chains}

-- ---- one group inside another, digit by digit
unfoldable pub within : ℕ → ℕ → ℕ → Bool
within zero a b = true
within (suc n) a b = leb (a % 2) (b % 2) && within n (a / 2) (b / 2)

pub digit-suc : (p g : ℕ) → digit (suc p) g ≡ digit p (g / 2)
digit-suc p g = ap (λ (x : ℕ). x % 2) (ap (λ (k : ℕ). g / 2 ^ k) (sym (add-one p) ∙ omega arith) ∙ sym (shr-shr g 1 p))

pub within-at : (n a b : ℕ) → within n a b ≡ true → (p : ℕ) → p < n → digit p a ≤ digit p b
unfolding within
within-at zero a b t p l = absurd (not-suc-le-zero l)
within-at (suc n) a b t zero l = rw (div-one a, div-one b) (leb-true _ _ (both (leb (a % 2) (b % 2)) (within n (a / 2) (b / 2)) t).0)
within-at (suc n) a b t (suc p) l =
    rw (digit-suc p a, digit-suc p b) (within-at n (a / 2) (b / 2) (both (leb (a % 2) (b % 2)) (within n (a / 2) (b / 2)) t).1 p (le_of_suc-le-suc l))

within_refl : (n a : ℕ) → within n a a ≡ true
unfolding within
within_refl zero a = refl
within_refl (suc n) a = and_both (le-leb (a % 2) (a % 2) (le_refl _)) (within_refl n (a / 2))

-- ---- the groups f 0, f 1 .. and the list of their chains
-- f a, of chain x, and the groups from f b on: where one has the same chain, f a lies inside it
later : (ℕ → ℕ) → ℕ → ℕ → ℕ → List ℕ → Bool
later f a x b [] = true
later f a x b (y ∷ ys) = (not (eqb x y) || within 8 (f a) (f b)) && later f a x (suc b) ys

-- the groups from f a on
chained : (ℕ → ℕ) → ℕ → List ℕ → Bool
chained f a [] = true
chained f a (x ∷ xs) = later f a x (suc a) xs && chained f (suc a) xs

module _ (f : ℕ → ℕ) where
  next : (a b i : ℕ) → within 8 (f a) (f (suc b + i)) ≡ true → within 8 (f a) (f (b + suc i)) ≡ true
  next a b i t = rw (add-suc b i, ← suc-add b i) t

  later_at : (a x b : ℕ) (ys : List ℕ) (i : ℕ) → later f a x b ys ≡ true → i < length ys → x ≡ get_or ys i 0 → within 8 (f a) (f (b + i)) ≡ true
  unfolding later
  later_at a x b [] i t l e = absurd (not-suc-le-zero l)
  later_at a x b (y ∷ ys) zero t l e =
      rw (add-zero b)
      (⊎_elim (λ (n : not (eqb x y) ≡ true). absurd (never (not_so (eqb x y) n) (eq-eqb x y e))) (λ (w : within 8 (f a) (f b) ≡ true). w)
      (or_cases (not (eqb x y)) (within 8 (f a) (f b)) (both (not (eqb x y) || within 8 (f a) (f b)) (later f a x (suc b) ys) t).0))
  later_at a x b (y ∷ ys) (suc i) t l e =
      next a b i (later_at a x (suc b) ys i (both (not (eqb x y) || within 8 (f a) (f b)) (later f a x (suc b) ys) t).1 (le_of_suc-le-suc l) e)

  chained_at : (a : ℕ) (xs : List ℕ) (i j : ℕ) → chained f a xs ≡ true → i < j → j < length xs → get_or xs i 0 ≡ get_or xs j 0
      → within 8 (f (a + i)) (f (a + j)) ≡ true
  unfolding chained
  chained_at a [] i j t h l e = absurd (not-suc-le-zero l)
  chained_at a (x ∷ xs) i zero t h l e = absurd (not-suc-le-zero h)
  chained_at a (x ∷ xs) zero (suc j) t h l e =
      rw (add-zero a) (next a a j (later_at a x (suc a) xs j (both (later f a x (suc a) xs) (chained f (suc a) xs) t).0 (le_of_suc-le-suc l) e))
  chained_at a (x ∷ xs) (suc i) (suc j) t h l e =
      subst₂ (λ (u v : ℕ). within 8 (f u) (f v) ≡ true) (suc-add a i ∙ sym (add-suc a i)) (suc-add a j ∙ sym (add-suc a j))
      (chained_at (suc a) xs i j (both (later f a x (suc a) xs) (chained f (suc a) xs) t).1 (le_of_suc-le-suc h) (le_of_suc-le-suc l) e)

  -- two groups of one chain: one lies inside the other
  nested : (xs : List ℕ) (i j : ℕ) → chained f 0 xs ≡ true → i < length xs → j < length xs → get_or xs i 0 ≡ get_or xs j 0
      → (within 8 (f i) (f j) ≡ true) ⊎ (within 8 (f j) (f i) ≡ true)
  nested xs i j t h l e = elim (dec_le j i) [
    | no less ↦ inl (rw (zero-add i, zero-add j) at (chained_at 0 xs i j t (lt_of_not-le less) l e))
    | yes more ↦
        ⊎_elim (λ (same : j ≡ i). inl (rw same (within_refl 8 (f i))))
        (λ (less : j < i). inr (rw (zero-add i, zero-add j) at (chained_at 0 xs j i t less h (sym e)))) (eq-or-lt_of_le more)
  ]

-- ---- the tests
-- a group of seven people as one of eight without person p + 1, and back
abbrev pub spread : ℕ → ℕ → ℕ
spread p h = h / 2 ^ p * 2 ^ suc p + h % 2 ^ p

abbrev pub narrow : ℕ → ℕ → ℕ
narrow p g = g / 2 ^ suc p * 2 ^ p + g % 2 ^ p

-- the test holds of each number below c
all : ℕ → (ℕ → Bool) → Bool
all zero test = true
all (suc c) test = test c && all c test

all-at : (c : ℕ) (test : ℕ → Bool) → all c test ≡ true → (i : ℕ) → i < c → test i ≡ true
unfolding all
all-at zero test t i l = absurd (not-suc-le-zero l)
all-at (suc c) test t i l =
    let r = both (test c) (all c test) t in
    ⊎_elim (λ (e : i ≡ c). ap test e ∙ r.0) (λ (s : i < c). all-at c test r.1 i s) (eq-or-lt_of_le (le_of_suc-le-suc l))

-- each number of the list is below m
under : ℕ → List ℕ → Bool
under m [] = true
under m (x ∷ xs) = ltb x m && under m xs

under_at : (m : ℕ) (xs : List ℕ) (i : ℕ) → under m xs ≡ true → i < length xs → get_or xs i 0 < m
unfolding under
under_at m [] i t l = absurd (not-suc-le-zero l)
under_at m (x ∷ xs) zero t l = ltb-true x m (both (ltb x m) (under m xs) t).0
under_at m (x ∷ xs) (suc i) t l = under_at m xs i (both (ltb x m) (under m xs) t).1 (le_of_suc-le-suc l)

-- each group has a chain
long : length chains ≡ 256
unfolding chains
long = refl

-- two groups of one chain, of eight people
eight : chained (λ g. g) 0 chains ≡ true
unfolding chains chained later within
eight = refl

-- the same, of seven people, seen among eight
seven : all 8 (λ p. chained (spread p) 0 (take 128 chains)) ≡ true
unfolding chains all chained later within
seven = refl

-- how many chains n people have
counted : all 9 (λ n. under (most n) (take (2 ^ n) chains)) ≡ true
unfolding chains all under
counted = refl

-- a group without person p + 1 comes from one of seven people
back : all 8 (λ p. all 256 (λ g. eqb (digit p g) 1 || (eqb (spread p (narrow p g)) g && ltb (narrow p g) 128))) ≡ true
unfolding all
back = refl

-- ---- what they say
-- the number of a group's chain
abbrev pub chain_of : ℕ → ℕ
chain_of g = get_or chains g 0

-- two groups of one chain: one lies inside the other
pub of_eight : (a b : ℕ) → a < 256 → b < 256 → chain_of a ≡ chain_of b → (within 8 a b ≡ true) ⊎ (within 8 b a ≡ true)
of_eight a b h l e = nested (λ g. g) chains a b eight (rw long h) (rw long l) e

pub of_seven : (p a b : ℕ) → p < 8 → a < 128 → b < 128 → chain_of a ≡ chain_of b
    → (within 8 (spread p a) (spread p b) ≡ true) ⊎ (within 8 (spread p b) (spread p a) ≡ true)
of_seven p a b few h l e =
    let half : length (take 128 chains) ≡ 128 = length-take-le 128 chains (rw long (lit≤ tt)) in
    nested (spread p) (take 128 chains) a b (all-at 8 (λ q. chained (spread q) 0 (take 128 chains)) seven p few) (rw half h) (rw half l)
    (get_or-take 128 chains a 0 h ∙ e ∙ sym (get_or-take 128 chains b 0 l))

-- n people have so many chains
pub chain_lt : (n g : ℕ) → n ≤ 8 → g < 2 ^ n → chain_of g < most n
chain_lt n g few h =
    let room : 2 ^ n ≤ length chains = rw long (pow_mono {j = 8} few) in
    subst (λ (x : ℕ). x < most n) (get_or-take (2 ^ n) chains g 0 h)
    (under_at (most n) (take (2 ^ n) chains) g (all-at 9 (λ m. under (most m) (take (2 ^ m) chains)) counted n (omega arith))
    (rw (length-take-le (2 ^ n) chains room) h))

-- a group without person p + 1 comes from one of seven people
pub narrowed : (p g : ℕ) → p < 8 → g < 256 → digit p g ≡ 0 → (spread p (narrow p g) ≡ g) × (narrow p g < 128)
narrowed p g few h z =
    let t = all-at 256 (λ x. eqb (digit p x) 1 || (eqb (spread p (narrow p x)) x && ltb (narrow p x) 128))
    (all-at 8 (λ q. all 256 (λ x. eqb (digit q x) 1 || (eqb (spread q (narrow q x)) x && ltb (narrow q x) 128))) back p few) g h in
    ⊎_elim (λ (one : eqb (digit p g) 1 ≡ true). let e : digit p g ≡ 1 = eqb-true _ _ one in absurd (omega arith))
    (λ (u : (eqb (spread p (narrow p g)) g && ltb (narrow p g) 128) ≡ true).
    let r = both (eqb (spread p (narrow p g)) g) (ltb (narrow p g) 128) u in
    (eqb-true _ _ r.0, ltb-true _ _ r.1))
    (or_cases (eqb (digit p g) 1) (eqb (spread p (narrow p g)) g && ltb (narrow p g) 128) t)
