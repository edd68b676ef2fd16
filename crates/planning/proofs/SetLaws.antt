-- Sets as numbers: a member as a binary digit, one set inside another, one person more, and the code's test by `&`.
-- Assumes nothing.
use mathlib.Core.Path.{◌≡◌, sym, ap, ◌∙◌}
use mathlib.Core.Bool.{true, false, not, ◌||◌}
use mathlib.Core.List.{List}
use mathlib.Core.Logic.{◌↔◌, ⊎_elim}
use Prim.Native.Nat.{ℕ, zero, suc, ◌+◌, ◌-◌, ◌/◌, ◌%◌, ◌^◌, ◌≤◌, ◌<◌, min, zero-le}
use native.Mathlib.Nat.{le_refl, le-div_iff_mul-le, lt_of_not-le, not-suc-le-zero, le_of_suc-le-suc, mod-lt, div-one, div-eq_of_lt}
use native.Mathlib.Decide.{dec_le, ℕ_discrete}
use native.Mathlib.Omega.{arith}
use lib.Dec.{eqb, lit<}
use lib.Pow.{pow_pos, pow_mono, shr-shr}
use lib.Bits.{bit_and, and_comm, and_step, and_shr, and_zero_r}
use borrow.Author.Tests.{eq-eqb, eqb-true, eqb-false, ne_eqb, le-leb, leb-true}
use Rattle.std.specs.Prelude.{Option, nat_le, position}
use Rattle.chains.specs.Apart.{digit}
use Rattle.chains.proofs.TestLaws.{digit-suc}
use Rattle.planning.specs.Sets.{worth, member, inside, stranger}
use Rattle.lists.proofs.Truth.{never, decided, surely, or_cases, or_l, or_r, neither, not_so, so_not}
use Rattle.lists.proofs.EachLaws.{each_at, each_of, each_fails}

-- ---- binary digits: bit p is the digit worth 2 ^ p
abbrev pub bit : ℕ → ℕ → ℕ
bit = digit

pub bit_lt : (p s : ℕ) → bit p s < 2
bit_lt p s = mod-lt (s / 2 ^ p) (lit< tt)

pub bit_zero : (s : ℕ) → bit 0 s ≡ s % 2
bit_zero s = ap (λ (x : ℕ). x % 2) (div-one s)

pub bit_suc : (p s : ℕ) → bit (suc p) s ≡ bit p (s / 2)
bit_suc = digit-suc

-- a digit past a number's end is 0
pub bit_past : (n p s : ℕ) → s < 2 ^ n → n ≤ p → bit p s ≡ 0
bit_past n p s h l = let m : 2 ^ n ≤ 2 ^ p = pow_mono l in ap (λ (x : ℕ). x % 2) (div-eq_of_lt (omega arith))

-- 2 ^ p more, where that digit was 0: no digit falls
bit_more : (p g : ℕ) → bit p g ≡ 0 → (q : ℕ) → bit q g ≤ bit q (g + 2 ^ p)
bit_more zero g e zero = rw (bit_zero g, bit_zero (g + 1)) (omega (arith, bit_zero g))
bit_more zero g e (suc q) =
    let h : (g + 1) / 2 ≡ g / 2 = omega (arith, bit_zero g) in
    rw (bit_suc q g, bit_suc q (g + 1), h) (le_refl _)
bit_more (suc p) g e zero = rw (bit_zero g, bit_zero (g + 2 ^ suc p)) (omega arith)
bit_more (suc p) g e (suc q) =
    let h : (g + 2 ^ suc p) / 2 ≡ g / 2 + 2 ^ p = omega arith in
    rw (bit_suc q g, bit_suc q (g + 2 ^ suc p), h) (bit_more p (g / 2) (sym (bit_suc p g) ∙ e) q)

-- and the number stays below 2 ^ n
pub more_lt : (n p g : ℕ) → g < 2 ^ n → p < n → bit p g ≡ 0 → g + 2 ^ p < 2 ^ n
more_lt zero p g h l e = absurd (not-suc-le-zero l)
more_lt (suc n) zero g h l e = omega (arith, bit_zero g)
more_lt (suc n) (suc p) g h l e =
    let k : g / 2 + 2 ^ p < 2 ^ n = more_lt n p (g / 2) (omega arith) (le_of_suc-le-suc l) (sym (bit_suc p g) ∙ e) in omega arith

-- ---- members
pub member_bit : (i s : ℕ) → member i s ≡ true → bit (i - 1) s ≡ 1
unfolding member
member_bit i s t = eqb-true _ _ t

pub bit_member : (i s : ℕ) → bit (i - 1) s ≡ 1 → member i s ≡ true
unfolding member
bit_member i s e = eq-eqb _ _ e

pub out_bit : (i s : ℕ) → member i s ≡ false → bit (i - 1) s ≡ 0
unfolding member
out_bit i s e = let f : bit (i - 1) s ≡ 1 → ⊥ = eqb-false _ _ e in omega (arith, bit_lt (i - 1) s)

-- the same for the person after p
pub back : (p : ℕ) → suc p - 1 ≡ p
back p = omega arith

pub next_bit : (p s : ℕ) → member (suc p) s ≡ true → bit p s ≡ 1
next_bit p s t = rw back at (member_bit (suc p) s t)

pub bit_next : (p s : ℕ) → (bit p s ≡ 0 → ⊥) → member (suc p) s ≡ true
bit_next p s n = bit_member (suc p) s (ap (λ (x : ℕ). bit x s) (back p) ∙ omega (arith, bit_lt p s))

-- the empty set has no member
pub nobody_in : (i : ℕ) → member i 0 ≡ false
unfolding member
nobody_in i = ap (λ (x : ℕ). eqb x 1) (bit_past 0 (i - 1) 0 (lit< tt) zero-le)

-- a set of n people has no member above n
pub member_le : (n i s : ℕ) → s < 2 ^ n → 1 ≤ i → member i s ≡ true → i ≤ n
member_le n i s h l t = elim (dec_le i n) [ yes k ↦ k | no k ↦ absurd (past (lt_of_not-le k)) ]
  where
    past : n < i → ⊥
    past k = omega (arith, bit_past n (i - 1) s h (omega arith), member_bit i s t)

-- ---- one set inside another
pub inside-at : (a b : ℕ) → inside a b ≡ true → (i : ℕ) → 1 ≤ i → i ≤ 16 → member i a ≡ true → member i b ≡ true
unfolding inside
inside-at a b t i l h m =
    ⊎_elim (λ (u : not (member i a) ≡ true). absurd (never (not_so (member i a) u) m)) (λ (u : member i b ≡ true). u)
    (or_cases (not (member i a)) (member i b) (each_at 16 (λ (j : ℕ). not (member j a) || member j b) t i l h))

pub inside_of : (a b : ℕ) → ((i : ℕ) → 1 ≤ i → i ≤ 16 → member i a ≡ true → member i b ≡ true) → inside a b ≡ true
unfolding inside
inside_of a b f =
    each_of 16 (λ (j : ℕ). not (member j a) || member j b)
    (λ i l h. ⊎_elim (λ (m : member i a ≡ true). or_r (not (member i a)) (f i l h m)) (λ (e : member i a ≡ false). or_l (member i b) (so_not e)) (decided (member i a)))

-- where a is not inside b, some person of a is missing in b
pub inside_fails : (a b : ℕ) → inside a b ≡ false → (i : ℕ) × (1 ≤ i) × (i ≤ 16) × (member i a ≡ true) × (member i b ≡ false)
unfolding inside
inside_fails a b e =
    let r = each_fails 16 (λ (j : ℕ). not (member j a) || member j b) e in
    let s = neither (not (member r.0 a)) (member r.0 b) r.3 in
    (r.0, r.1, r.2, surely (λ out. never s.0 (so_not out)), s.1)

pub inside_refl : (a : ℕ) → inside a a ≡ true
inside_refl a = inside_of a a (λ i l h m. m)

pub inside_trans : (a b c : ℕ) → inside a b ≡ true → inside b c ≡ true → inside a c ≡ true
inside_trans a b c p q = inside_of a c (λ i l h m. inside-at b c q i l h (inside-at a b p i l h m))

pub inside-means : (a b : ℕ) → a < 2 ^ 16 → (inside a b ≡ true) ↔ ((i : ℕ) → 1 ≤ i → member i a ≡ true → member i b ≡ true)
inside-means a b h = (λ t i l m. inside-at a b t i l (member_le 16 i a h l m) m, λ f. inside_of a b (λ i l k m. f i l m))

-- one person more
pub inside_more : (i g : ℕ) → member i g ≡ false → inside g (g + worth i) ≡ true
inside_more i g e =
    inside_of g (g + worth i)
    (λ j l h m. bit_member j (g + worth i) (omega (arith, bit_more (i - 1) g (out_bit i g e) (j - 1), member_bit j g m, bit_lt (j - 1) (g + worth i))))

pub person_lt : (n i g : ℕ) → g < 2 ^ n → 1 ≤ i → i ≤ n → member i g ≡ false → g + worth i < 2 ^ n
person_lt n i g h l k e = more_lt n (i - 1) g h (omega arith) (out_bit i g e)

-- ---- `&`
pub bit_and_lem : (q a b : ℕ) → bit q (bit_and a b) ≡ min (bit q a) (bit q b)
bit_and_lem q a b = rw (and_shr a b q, and_step (a / 2 ^ q) (b / 2 ^ q)) (omega arith)

and_inside : (a b : ℕ) → bit_and a b ≡ a → (q : ℕ) → bit q a ≤ bit q b
and_inside a b e q = omega (arith, ap (bit q) (sym e) ∙ bit_and_lem q a b)

inside_and : (k a b : ℕ) → a < 2 ^ k → ((q : ℕ) → q < k → bit q a ≤ bit q b) → bit_and a b ≡ a
inside_and zero a b h f = let z : a ≡ 0 = omega arith in rw z
inside_and (suc k) a b h f =
    let r : bit_and (a / 2) (b / 2) ≡ a / 2
    = inside_and k (a / 2) (b / 2) (omega arith) (λ q l. rw (← bit_suc q a, ← bit_suc q b) (f (suc q) (omega arith))) in
    omega (arith, and_step a b, r, f 0 (omega arith), bit_zero a, bit_zero b)

-- the test that the code makes
pub inside_test : (a b : ℕ) → a < 2 ^ 16 → eqb (bit_and a b) a ≡ inside a b
inside_test a b h = ⊎_elim (λ (t : inside a b ≡ true). eq-eqb _ _ (same t) ∙ sym t) (λ (e : inside a b ≡ false). ne_eqb _ _ (λ q. never e (part q)) ∙ sym e) (decided (inside a b))
  where
    same : inside a b ≡ true → bit_and a b ≡ a
    same t =
        inside_and 16 a b h
        (λ q l. ⊎_elim (λ (m : member (suc q) a ≡ true). omega (arith, bit_lt q a, next_bit q b (inside-at a b t (suc q) (omega arith) l m)))
        (λ (e : member (suc q) a ≡ false). omega (arith, rw back at (out_bit (suc q) a e))) (decided (member (suc q) a)))

    part : bit_and a b ≡ a → inside a b ≡ true
    part q = inside_of a b (λ i l h m. bit_member i b (omega (arith, and_inside a b q (i - 1), member_bit i a m, bit_lt (i - 1) b)))

-- two sets that lie inside one another are one set
pub inside_both : (a b : ℕ) → a < 2 ^ 16 → b < 2 ^ 16 → inside a b ≡ true → inside b a ≡ true → a ≡ b
inside_both a b h l p q =
    let e : bit_and a b ≡ a = eqb-true _ _ (inside_test a b h ∙ p) in
    let f : bit_and b a ≡ b = eqb-true _ _ (inside_test b a l ∙ q) in
    sym e ∙ and_comm a b ∙ f

-- ---- somebody in a set has a number greater than n: a number above 0 has a digit 1
pub some_bit : (k x : ℕ) → 0 < x → x < 2 ^ k → (p : ℕ) × (bit p x ≡ 1)
some_bit zero x h l = absurd (omega arith)
some_bit (suc k) x h l =
    elim (ℕ_discrete (x % 2) 1) [
      | yes e ↦ (0, bit_zero x ∙ e)
      | no e ↦
          let low : x % 2 ≡ 0 = omega (arith, mod-lt x {m = 2} (lit< tt)) in
          let r = some_bit k (x / 2) (omega arith) (omega arith) in
          (suc r.0, bit_suc r.0 x ∙ r.1)
    ]

lt_pow : (x : ℕ) → x < 2 ^ x
lt_pow zero = lit< tt
lt_pow (suc x) = omega (arith, lt_pow x)

pub stranger-means : (n s : ℕ) → s < 2 ^ 16 → (stranger n s ≡ true) ↔ ((i : ℕ) × (n < i) × (i ≤ 16) × (member i s ≡ true))
unfolding stranger
stranger-means n s small = (
  (λ t.
      let h : 2 ^ n ≤ s = leb-true _ _ t in
      let r = some_bit (s / 2 ^ n) (s / 2 ^ n) ((le-div_iff_mul-le (pow_pos n)).1 (omega arith)) (lt_pow (s / 2 ^ n)) in
      let e : bit (n + r.0) s ≡ 1 = ap (λ (x : ℕ). x % 2) (sym (shr-shr s n r.0)) ∙ r.1 in
      let m : member (suc (n + r.0)) s ≡ true = bit_next (n + r.0) s (λ z. omega arith) in
      (suc (n + r.0), omega arith, member_le 16 (suc (n + r.0)) s small (omega arith) m, m)),
  (λ m. surely (λ e. omega (arith, member_le n m.0 s (lt_of_not-le (λ h. never e (le-leb _ _ h))) (omega arith) m.3))),
)

-- ---- two sets have a person in common exactly where their `&` is not 0
pub common_at : (a b : ℕ) → (bit_and a b ≡ 0 → ⊥) → (i : ℕ) × (1 ≤ i) × (member i a ≡ true) × (member i b ≡ true)
common_at a b n =
    let r = some_bit (bit_and a b) (bit_and a b) (omega arith) (lt_pow (bit_and a b)) in
    let e : min (bit r.0 a) (bit r.0 b) ≡ 1 = sym (bit_and_lem r.0 a b) ∙ r.1 in
    (suc r.0, omega arith, bit_next r.0 a (λ z. omega arith), bit_next r.0 b (λ z. omega arith))

pub common_of : (a b i : ℕ) → member i a ≡ true → member i b ≡ true → bit_and a b ≡ 0 → ⊥
common_of a b i s t z = omega (arith, bit_and_lem (i - 1) a b, ap (bit (i - 1)) z, bit_past 0 (i - 1) 0 (lit< tt) zero-le, member_bit i a s, member_bit i b t)

-- ---- the empty set has no set inside it but itself
pub inside_empty : (s : ℕ) → 1 ≤ s → s < 2 ^ 16 → inside s 0 ≡ true → ⊥
inside_empty s h l t = let e : bit_and s 0 ≡ s = eqb-true _ _ (inside_test s 0 l ∙ t) in omega (arith, and_zero_r s)

-- a group of at most eight people is a set of 16 bits
pub group-small : (n s : ℕ) → n ≤ 8 → s < 2 ^ n → s < 2 ^ 16
group-small n s few h = let p : 2 ^ n ≤ 2 ^ 8 = pow_mono few in omega arith

-- the sets with a stranger are those from the number of groups on
pub strangers_from : (n : ℕ) (l : List ℕ) {size : ℕ} {r : Option ℕ} → size ≡ 2 ^ n → r ≡ position (nat_le size) l → r ≡ position (stranger n) l
unfolding stranger
strangers_from n l e h = rw (← e) h
