-- Lists laid one after another: how long they are together, where each begins and each of its numbers stands, where all are equally long.
-- Assumes nothing.
use Prim.Native.Nat.{ℕ, zero, suc, ◌+◌, ◌-◌, ◌*◌, ◌≤◌, ◌<◌, zero-le}
use mathlib.Core.Path.{◌≡◌, refl, sym, ap, ◌∙◌}
use mathlib.Core.List.Memᴰ
use mathlib.Core.List.{List, [], ◌∷◌, ◌++◌, map, append_assoc, Memᴰ}
use native.Mathlib.Nat.{not-suc-le-zero, le_of_suc-le-suc, lt_of_not-le}
use native.Mathlib.Decide.{dec_le}
use native.Mathlib.Omega.{arith}
use lib.ListN.{length, get_or, drop, length-append, length-map, get_or-append}
use lib.Seq.{drop-append-add, get_or-drop, get_or-append-add}
use Rattle.lists.specs.Flat.{flat}
use Rattle.lists.proofs.ThoseLaws.{at_in}

pub flat_append : (xs ys : List (List ℕ)) → flat (xs ++ ys) ≡ flat xs ++ flat ys
unfolding flat
flat_append [] ys = refl
flat_append (x ∷ xs) ys = rw (flat_append xs ys, append_assoc)

-- each of them has n numbers
pub record Long (n : ℕ) (bs : List (List ℕ)) : Type 0 where
  pub long : (b : List ℕ) → Memᴰ b bs → length b ≡ n

rest_long : {n : ℕ} {b : List ℕ} {bs : List (List ℕ)} → Long n (b ∷ bs) → Long n bs
rest_long h = record { long = λ c m. h.long c (Memᴰ.tail m) }

pub flat-length : {n : ℕ} (bs : List (List ℕ)) → Long n bs → length (flat bs) ≡ n * length bs
unfolding flat
flat-length [] h = omega arith
flat-length (b ∷ bs) h = length-append b (flat bs) ∙ omega (arith, flat-length bs (rest_long h), h.long b (Memᴰ.head refl))

pub flat_map : {n : ℕ} (f : ℕ → List ℕ) → ((j : ℕ) → length (f j) ≡ n) → (l : List ℕ) → length (flat (map f l)) ≡ n * length l
flat_map {n} f e l =
    flat-length (map f l) (record { long = λ b m. let s = Memᴰ.of_map f l m in ap length (sym s.2) ∙ e s.0 })
    ∙ ap (λ (k : ℕ). n * k) (length-map l f)

pub flat-drop : {n : ℕ} (bs : List (List ℕ)) → Long n bs → (a : ℕ) → a < length bs → (rest : List ℕ) × (drop (n * a) (flat bs) ≡ get_or bs a [] ++ rest)
unfolding flat
flat-drop [] h a u = absurd (not-suc-le-zero u)
flat-drop {n} (b ∷ bs) h zero u = let z : n * 0 ≡ 0 = omega arith in (flat bs, rw z)
flat-drop {n} (b ∷ bs) h (suc a) u =
    let r = flat-drop bs (rest_long h) a (le_of_suc-le-suc u) in
    let e : n * suc a ≡ length b + n * a = omega (arith, h.long b (Memᴰ.head refl)) in
    (r.0, rw e (drop-append-add b (flat bs) (n * a) ∙ r.1))

-- list a, where a function makes each of a number
pub map_at : (f : ℕ → List ℕ) (l : List ℕ) (a : ℕ) → a < length l → get_or (map f l) a [] ≡ f (get_or l a 0)
map_at f [] a h = absurd (not-suc-le-zero h)
map_at f (x ∷ l) zero h = refl
map_at f (x ∷ l) (suc a) h = map_at f l a (le_of_suc-le-suc h)

-- number x of list a
pub flat-at : {n : ℕ} (bs : List (List ℕ)) → Long n bs → (a x : ℕ) → a < length bs → x < n → get_or (flat bs) (a * n + x) 0 ≡ get_or (get_or bs a []) x 0
flat-at {n} bs h a x u v =
    let r = flat-drop bs h a u in
    let e : a * n + x ≡ n * a + x = omega arith in
    ap (λ (y : ℕ). get_or (flat bs) y 0) e ∙ sym (get_or-drop (n * a) (flat bs) x 0) ∙ ap (λ (l : List ℕ). get_or l x 0) r.1
    ∙ get_or-append (get_or bs a []) r.0 0 x (omega (arith, h.long (get_or bs a []) (at_in [] bs a u)))

-- no number is above m where none of any of the lists is
pub flat-few : (m : ℕ) (bs : List (List ℕ)) → ((b : List ℕ) → Memᴰ b bs → (x : ℕ) → get_or b x 0 ≤ m) → (x : ℕ) → get_or (flat bs) x 0 ≤ m
unfolding flat
flat-few m [] h x = zero-le
flat-few m (b ∷ bs) h x = elim (dec_le (length b) x) [
  | yes p ↦
      let e : length b + (x - length b) ≡ x = omega arith in
      rw (sym e, get_or-append-add b (flat bs) (x - length b) 0) (flat-few m bs (λ c k. h c (Memᴰ.tail k)) (x - length b))
  | no p ↦ rw (get_or-append b (flat bs) 0 x (lt_of_not-le p)) (h b (Memᴰ.head refl) x)
]
