-- Numbers written into a list from a place on: how long the list stays, and what stands at each place afterwards.
-- Assumes nothing.
use mathlib.Core.Path.{◌≡◌, refl, sym, ap, ◌∙◌}
use mathlib.Core.List.{List, [], ◌∷◌, ◌++◌}
use Prim.Native.Nat.{ℕ, zero, suc, ◌+◌, ◌-◌, ◌≤◌, ◌<◌}
use native.Mathlib.Nat.{zero-add, add-zero, le_refl}
use native.Mathlib.Omega.{arith}
use lib.ListN.{length, get_or, set, take, drop, length-append, length-drop, get_or-append}
use lib.Seq.{length-take-le, get_or-append-add, get_or-take, get_or-drop, set_split, take-set-le, drop-set-add}
use Rattle.lists.specs.Over.{over}
use Rattle.lists.proofs.OverLaws.{over_more}
use Rattle.desk.specs.Slots.{over_at}

module _ (at : ℕ) (new old : List ℕ) (fits : at + length new ≤ length old) where
  front : length (take at old) ≡ at
  front = length-take-le at old (omega arith)

  rest : List ℕ
  rest = drop (length new) (drop at old)

  pub written-length : length (over_at at new old) ≡ length old
  unfolding over_at over rest
  written-length =
      omega (arith, length-append (take at old) (new ++ rest), length-append new rest, front, length-drop at old, length-drop (length new) (drop at old))

  pub written_in : (i : ℕ) → i < length new → get_or (over_at at new old) (at + i) 0 ≡ get_or new i 0
  unfolding over_at over rest
  written_in i h =
      ap (λ (x : ℕ). get_or (take at old ++ (new ++ rest)) (x + i) 0) (sym front)
      ∙ get_or-append-add (take at old) (new ++ rest) i 0 ∙ get_or-append new rest 0 i h

  pub written-before : (i : ℕ) → i < at → get_or (over_at at new old) i 0 ≡ get_or old i 0
  unfolding over_at over rest
  written-before i h = get_or-append (take at old) (new ++ rest) 0 i (omega (arith, front)) ∙ get_or-take at old i 0 h

  pub written_past : (i : ℕ) → get_or (over_at at new old) (at + (length new + i)) 0 ≡ get_or old (at + (length new + i)) 0
  unfolding over_at over rest
  written_past i =
      ap (λ (x : ℕ). get_or (take at old ++ (new ++ rest)) (x + (length new + i)) 0) (sym front)
      ∙ get_or-append-add (take at old) (new ++ rest) (length new + i) 0 ∙ get_or-append-add new rest i 0
      ∙ get_or-drop (length new) (drop at old) i 0 ∙ get_or-drop at old (length new + i) 0

  -- by place
  pub written_at : (i : ℕ) → at ≤ i → i < at + length new → get_or (over_at at new old) i 0 ≡ get_or new (i - at) 0
  written_at i l h =
      let e : at + (i - at) ≡ i = omega arith in
      rw e at (written_in (i - at) (omega arith))

  pub written_after : (i : ℕ) → at + length new ≤ i → get_or (over_at at new old) i 0 ≡ get_or old i 0
  written_after i l =
      let e : at + (length new + (i - (at + length new))) ≡ i = omega arith in
      rw e at (written_past (i - (at + length new)))

-- ---- one number more, behind those that are written
set-behind : (xs ys : List ℕ) (i v : ℕ) → set (xs ++ ys) (length xs + i) v ≡ xs ++ set ys i v
set-behind [] ys i v = ap (λ (n : ℕ). set ys n v) (zero-add i)
set-behind (x ∷ xs) ys i v =
    let e : length (x ∷ xs) + i ≡ suc (length xs + i) = omega arith in
    ap (λ (n : ℕ). set (x ∷ (xs ++ ys)) n v) e ∙ ap (λ (r : List ℕ). x ∷ r) (set-behind xs ys i v)

pub written_more : (at : ℕ) (new old : List ℕ) (i v : ℕ) → length new ≡ i → at + i < length old
    → set (over_at at new old) (at + i) v ≡ over_at at (new ++ v ∷ []) old
unfolding over_at
written_more at new old i v n l =
    let f : length (take at old) ≡ at = length-take-le at old (omega arith) in
    ap (λ (x : ℕ). set (take at old ++ over new (drop at old)) (x + i) v) (sym f) ∙ set-behind (take at old) (over new (drop at old)) i v
    ∙ ap (λ (r : List ℕ). take at old ++ r)
    (ap (λ (x : ℕ). set (over new (drop at old)) x v) (sym n) ∙ over_more new (drop at old) v (omega (arith, n, length-drop at old)))

-- ---- the number at `at` was written before: it makes no difference, since it is written over
pub written-again : (at : ℕ) (y : ℕ) (new old : List ℕ) (v : ℕ) → at < length old → over_at at (y ∷ new) (set old at v) ≡ over_at at (y ∷ new) old
unfolding over_at over
written-again at y new old v l =
    let same : drop (length (y ∷ new)) (drop at (set old at v)) ≡ drop (length (y ∷ new)) (drop at old) = again (drop at old) (drop at (set old at v)) dropped in
    rw (take-set-le at old at v (le_refl at), same)
  where
    dropped : drop at (set old at v) ≡ set (drop at old) 0 v
    dropped = ap (λ (m : ℕ). drop at (set old m v)) (sym (add-zero at)) ∙ drop-set-add at old 0 v

    again : (ys zs : List ℕ) → zs ≡ set ys 0 v → drop (length (y ∷ new)) zs ≡ drop (length (y ∷ new)) ys
    again [] zs e = ap (drop (length (y ∷ new))) e
    again (x ∷ ys) zs e = ap (drop (length (y ∷ new))) e

rest_of : (xs : List ℕ) (n : ℕ) → drop (suc n) xs ≡ drop 1 (drop n xs)
rest_of xs zero = refl
rest_of [] (suc n) = refl
rest_of (x ∷ xs) (suc n) = rest_of xs n

pub written_one : (at : ℕ) (old : List ℕ) (v : ℕ) → at < length old → set old at v ≡ over_at at (v ∷ []) old
unfolding over_at over
written_one at old v l = set_split old at v l ∙ ap (λ (r : List ℕ). take at old ++ v ∷ r) (rest_of old at)
