-- What a line names, read back: the members found are the set whose members, in rising order, the line spells.
-- Above any c the line goes on with those of the set above c; a computed test of the 512 sets has each step. Assumes nothing.
use borrow.Author.Tests.{lt-ltb, le-leb, ltb-true, leb-true, eqb-true}
use mathlib.Core.Path.{◌≡◌, refl, sym, ap, ap₂, ◌∙◌}
use mathlib.Core.Bool.{Bool, true, false, cond, ◌&&◌, false≢true}
use mathlib.Core.List.{List, [], ◌∷◌, ◌++◌}
use native.Mathlib.Nat.{pow-le-pow_right, two-pow-succ, mod-eq_of_lt}
use native.Mathlib.Omega.{arith}
use Prim.Native.Nat.{ℕ, suc, ◌+◌, ◌-◌, ◌%◌, ◌^◌, ◌≤◌, ◌<◌}
use lib.Dec.{eqb, ltb, leb}
use Rattle.lists.specs.Places.{those}
use Rattle.lists.proofs.Truth.{both}
use Rattle.planning.specs.Sets.{member}
use Rattle.lists.specs.Some.{each}
use Rattle.lists.proofs.EachLaws.{each_at}
use Rattle.print.specs.Decimal.{digit, digits}
use Rattle.print.specs.Lines.{spaced, spaced_all, feed}
use Rattle.std.specs.Prelude.{Some, None}
use Rattle.policy.specs.Policy.{pick_found, members}
use Rattle.policy.specs.Laws.{members_of}
use Rattle.policy.proofs.WritingLaws.{below_each}

-- ---- those of the set above c, still to come
tail : ℕ → ℕ → List ℕ
tail c m = spaced_all (those (λ i. member i m) (c + 1) (9 - c)) ++ feed

same : List ℕ → List ℕ → Bool
same [] [] = true
same [] (y ∷ ys) = false
same (x ∷ xs) [] = false
same (x ∷ xs) (y ∷ ys) = eqb x y && same xs ys

same_list : (xs ys : List ℕ) → same xs ys ≡ true → xs ≡ ys
unfolding same
same_list [] [] h = refl
same_list [] (y ∷ ys) h = absurd (false≢true h)
same_list (x ∷ xs) [] h = absurd (false≢true h)
same_list (x ∷ xs) (y ∷ ys) h = let r = both (eqb x y) (same xs ys) h in ap₂ ◌∷◌ (eqb-true x y r.0) (same_list xs ys r.1)

-- nobody above c is in m
ends : ℕ → ℕ → Bool
ends c m = cond (ltb m (2 ^ c)) (same (tail c m) feed) true

-- e is in m, nobody between c and e is, and s are those up to c
goes : ℕ → ℕ → ℕ → Bool
goes c e m =
    cond (leb (2 ^ (e - 1)) (m % 2 ^ e))
    (cond (ltb (m % 2 ^ e - 2 ^ (e - 1)) (2 ^ c))
    (same (32 ∷ (digit e ∷ tail e m)) (tail c m) && eqb (m % 2 ^ c) (m % 2 ^ e - 2 ^ (e - 1))) true) true

all_end : each 512 (λ m. each 10 (λ c. ends (c - 1) (m - 1))) ≡ true
unfolding ends tail same each spaced_all spaced digits those member
all_end = refl

all_go : each 512 (λ m. each 9 (λ e. each e (λ c. goes (c - 1) e (m - 1)))) ≡ true
unfolding goes tail same each spaced_all spaced digits those member
all_go = refl

-- the tests, one by one
end_at : (c m : ℕ) → c ≤ 9 → m < 512 → ends c m ≡ true
end_at c m h l = below_each (λ x. ends x m) 10 (below_each (λ y. each 10 (λ x. ends (x - 1) y)) 512 all_end m l) c (omega arith)

go_at : (c e m : ℕ) → c < e → e ≤ 9 → m < 512 → goes c e m ≡ true
go_at c e m h k l =
    below_each (λ x. goes x e m) e
    (each_at 9 (λ z. each z (λ x. goes (x - 1) z m)) (below_each (λ y. each 9 (λ z. each z (λ x. goes (x - 1) z y))) 512 all_go m l) e (omega arith) k) c h

tail_end : (c m : ℕ) → c ≤ 9 → m < 2 ^ c → m < 512 → tail c m ≡ feed
unfolding ends
tail_end c m h k l = same_list (tail c m) feed (simp (lt-ltb m (2 ^ c) k) at (end_at c m h l))

tail_more : (c e m s : ℕ) → c < e → e ≤ 9 → m < 512 → m % 2 ^ e ≡ s + 2 ^ (e - 1) → s < 2 ^ c
    → (32 ∷ (digit e ∷ tail e m) ≡ tail c m) × (m % 2 ^ c ≡ s)
unfolding goes
tail_more c e m s h k l q r =
    let a : 2 ^ (e - 1) ≤ m % 2 ^ e = omega arith in
    let b : m % 2 ^ e - 2 ^ (e - 1) ≡ s = omega arith in
    let z : m % 2 ^ e - 2 ^ (e - 1) < 2 ^ c = omega arith in
    let t = simp (le-leb (2 ^ (e - 1)) (m % 2 ^ e) a, lt-ltb (m % 2 ^ e - 2 ^ (e - 1)) (2 ^ c) z) at (go_at c e m h k l) in
    let u = both (same (32 ∷ (digit e ∷ tail e m)) (tail c m)) (eqb (m % 2 ^ c) (m % 2 ^ e - 2 ^ (e - 1))) t in
    (same_list (32 ∷ (digit e ∷ tail e m)) (tail c m) u.0, eqb-true (m % 2 ^ c) (m % 2 ^ e - 2 ^ (e - 1)) u.1 ∙ b)

-- what was found is a number
pub no_number : {m : ℕ} {A : Type 0} → None ≡ Some m → A
no_number e = let z : ◌≡◌ {A = ℕ} 0 1 = cc in let w : ⊥ = omega arith in absurd w

-- the line goes on with those of the set above c
abbrev Shaped : ℕ → ℕ → ℕ → List ℕ → Type 0
Shaped c s m l = (m < 512) × (m % 2 ^ c ≡ s) × (l ≡ tail c m)

shaped_end : (t : Bool) (c s m b : ℕ) → eqb b 10 ≡ t → c ≤ 9 → s < 2 ^ c → pick_found t (Some s) None ≡ Some m → Shaped c s m (b ∷ [])
shaped_end true c s m b e h k q =
    let z : s ≡ m = cc in
    let l : 2 ^ c ≤ 512 = pow-le-pow_right {n = 2} (omega arith) {i = c} {j = 9} h in
    let small : m < 2 ^ c = rw z at k in
    (omega arith, mod-eq_of_lt small ∙ sym z, ap (λ (x : ℕ). x ∷ []) (eqb-true b 10 e) ∙ sym (tail_end c m h small (omega arith)))
shaped_end false c s m b e h k q = no_number q

shaped_more : (t : Bool) (c s m b d : ℕ) (rest : List ℕ) → (eqb b 32 && ltb (48 + c) d && leb d 57) ≡ t → s < 2 ^ c
    → ((e : ℕ) → d ≡ 48 + e → e ≤ 9 → c < e → s + 2 ^ (e - 1) < 2 ^ e → members (48 + e) (s + 2 ^ (e - 1)) rest ≡ Some m → Shaped e (s + 2 ^ (e - 1)) m rest)
    → pick_found t (members d (s + 2 ^ (d - 48 - 1)) rest) None ≡ Some m → Shaped c s m (b ∷ (d ∷ rest))
shaped_more true c s m b d rest q k f g =
    let x = both (eqb b 32 && ltb (48 + c) d) (leb d 57) q in
    let y = both (eqb b 32) (ltb (48 + c) d) x.0 in
    let low : 48 + c < d = ltb-true (48 + c) d y.1 in
    let high : d ≤ 57 = leb-true d 57 x.1 in
    let is : d ≡ 48 + (d - 48) = omega arith in
    let e = d - 48 in
    let near : 2 ^ c ≤ 2 ^ (e - 1) = pow-le-pow_right {n = 2} (omega arith) {i = c} {j = e - 1} (omega arith) in
    let next : e ≡ suc (e - 1) = omega arith in
    let twice : 2 ^ e ≡ 2 ^ (e - 1) + 2 ^ (e - 1) = ap (λ (v : ℕ). 2 ^ v) next ∙ two-pow-succ (e - 1) in
    let r = f e is (omega arith) (omega arith) (omega arith) (ap (λ (v : ℕ). members v (s + 2 ^ (e - 1)) rest) (sym is) ∙ g) in
    let z = tail_more c e m s (omega arith) (omega arith) r.0 r.1 k in
    (r.0, z.1, ap₂ (λ (u : ℕ) (v : List ℕ). u ∷ (d ∷ v)) (eqb-true b 32 y.0) r.2 ∙ ap (λ (v : ℕ). 32 ∷ (v ∷ tail e m)) is ∙ z.0)
shaped_more false c s m b d rest q k f g = no_number g

shaped : (l : List ℕ) (c s m : ℕ) → c ≤ 9 → s < 2 ^ c → members (48 + c) s l ≡ Some m → Shaped c s m l
unfolding members
shaped [] c s m h k q = no_number q
shaped (b ∷ []) c s m h k q = shaped_end (eqb b 10) c s m b refl h k q
shaped (b ∷ (d ∷ rest)) c s m h k q =
    shaped_more (eqb b 32 && ltb (48 + c) d && leb d 57) c s m b d rest refl k (λ e i l n p g. shaped rest e (s + 2 ^ (e - 1)) m l p g) q

pub members_shape : (l : List ℕ) (m : ℕ) → members 48 0 l ≡ Some m → (m < 512) × (l ≡ spaced_all (members_of m) ++ feed)
unfolding members_of tail
members_shape l m h = let r = shaped l 0 0 m (omega arith) (omega arith) h in (r.0, r.2)
