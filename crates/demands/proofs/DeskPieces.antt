-- The slots after handing in, piece by piece: the block's piece is kept with its values, and every other is as it was.
-- Assumes nothing.
use mathlib.Core.Path.{◌≡◌, sym, ap, ap₂, ◌∙◌}
use mathlib.Core.Bool.{Bool, true, false, not, ◌&&◌}
use mathlib.Core.Logic.{◌≢◌}
use mathlib.Core.List.{List}
use Prim.Native.Nat.{ℕ, ◌+◌, ◌-◌, ◌*◌, ◌≤◌, ◌<◌}
use native.Mathlib.Nat.{add-zero, le_refl}
use native.Mathlib.Numerals.{add-one}
use native.Mathlib.Omega.{arith}
use native.Mathlib.Decide.{dec_lt}
use lib.Dec.{eqb}
use lib.ListN.{length, get_or}
use borrow.Author.Tests.{eq-eqb, le-ltb, eqb-true, not-false}
use Rattle.lists.specs.Places.{first_in, found}
use Rattle.lists.proofs.Truth.{and_both}
use Rattle.lists.proofs.FirstLaws.{first-all, first-same, none_in, none_found}
use Rattle.lists.specs.Run.{run}
use Rattle.lists.proofs.RunLaws.{run_at}
use Rattle.prime.specs.Prime.{too_large}
use Rattle.block.specs.Words.{word_at}
use Rattle.block.specs.Layout.{piece_number}
use Rattle.desk.specs.declared.Opening.{Opening}
use Rattle.desk.specs.Slots.{start, over_at, in_slot, keeps_at, keeps, unlike, kept}
use Rattle.desk.specs.Lines.{other_values, hand_slots}
use Rattle.desk.specs.History.{Client, first, second}
use Rattle.desk.proofs.StoreLaws.{written_at, written-before, written_after}
use Rattle.desk.proofs.WordLaws.{ranged}
use Rattle.desk.proofs.SaysLaws.{Front, front-piece}
use Rattle.desk.proofs.SlotLaws.{kept-length, hand_fits}

-- the slots of two pieces are apart
below : (c j m i : ℕ) → Client c → 1 ≤ j → j ≤ 70 → 1 ≤ m → m ≤ 70 → i ≤ 16 → j ≢ m → (start c j + i < start c m → ⊥) → start c m + 17 ≤ start c j + i
unfolding start
below c j m i first a b d e f n h = go (dec_lt j m)
  where
    go : Dec (j < m) → 17 * (m - 1) + 17 ≤ 17 * (j - 1) + i
    go (yes l) = absurd (h (omega arith))
    go (no l) = let k : m < j = omega arith in omega arith
below c j m i second a b d e f n h = go (dec_lt j m)
  where
    go : Dec (j < m) → 17 * (70 - m) + 17 ≤ 17 * (70 - j) + i
    go (yes l) = omega arith
    go (no l) = let k : m < j = omega arith in absurd (h (omega arith))

module _ (slots : List ℕ) (o : Opening) (c : ℕ) (b : List ℕ) (size : length slots ≡ 1190) (f : Front o c b) where
  fits : start c (piece_number b) + length (kept b o.width) ≤ length slots
  fits = hand_fits slots o c b size f

  mark : get_or (hand_slots slots o c b) (start c (piece_number b)) 0 ≡ 1
  unfolding hand_slots kept
  mark =
      let z : start c (piece_number b) - start c (piece_number b) ≡ 0 = omega arith in
      written_at (start c (piece_number b)) (kept b o.width) slots fits (start c (piece_number b)) (le_refl (start c (piece_number b))) (omega (arith, kept-length b o.width))
      ∙ ap (λ (i : ℕ). get_or (kept b o.width) i 0) z

  tail : (k : ℕ) → get_or (kept b o.width) (k + 1) 0 ≡ get_or (run (λ m. word_at b (7 + m)) 1 o.width) k 0
  unfolding kept
  tail k = rw (add-one k)

  pub hand_value : (i : ℕ) → 1 ≤ i → i ≤ o.width → in_slot (hand_slots slots o c b) (start c (piece_number b)) i ≡ word_at b (7 + i)
  unfolding hand_slots
  hand_value i l h =
      let z : start c (piece_number b) + i - start c (piece_number b) ≡ i - 1 + 1 = omega arith in
      written_at (start c (piece_number b)) (kept b o.width) slots fits (start c (piece_number b) + i) (omega arith) (omega (arith, kept-length b o.width))
      ∙ ap (λ (k : ℕ). get_or (kept b o.width) k 0) z ∙ tail (i - 1)
      ∙ run_at (λ k. word_at b (7 + k)) o.width i l h

  pub hand_other : (j i : ℕ) → 1 ≤ j → j ≤ o.pieces → j ≢ piece_number b → i ≤ 16 → get_or (hand_slots slots o c b) (start c j + i) 0 ≡ get_or slots (start c j + i) 0
  unfolding hand_slots
  hand_other j i l m n h = go (dec_lt (start c j + i) (start c (piece_number b)))
    where
      go : Dec (start c j + i < start c (piece_number b)) → get_or (over_at (start c (piece_number b)) (kept b o.width) slots) (start c j + i) 0 ≡ get_or slots (start c j + i) 0
      go (yes u) = written-before (start c (piece_number b)) (kept b o.width) slots fits (start c j + i) u
      go (no u) =
          let r = front-piece o c b f in
          let k = (ranged o f.opened).pieces.1 in
          let w = (ranged o f.opened).width.1 in
          written_after (start c (piece_number b)) (kept b o.width) slots fits (start c j + i)
          (omega (arith, kept-length b o.width, w, below c j (piece_number b) i f.client l (omega arith) r.0 (omega (arith, r.1)) h n u))

  -- the block's piece is kept
  pub hand_keeps : keeps (hand_slots slots o c b) c o.width (piece_number b) ≡ true
  unfolding keeps_at
  hand_keeps =
      let w = (ranged o f.opened).width.1 in
      let s = hand_slots slots o c b in
      let at = start c (piece_number b) in
      and_both (ap found mark)
      (eq-eqb (first_in (λ i. too_large (in_slot s at i)) 1 (o.width + 1)) 0
      (first-all (λ i. too_large (in_slot s at i)) 1 (o.width + 1)
      (λ i l h. ap too_large (hand_value i l (omega arith)) ∙ le-ltb 32748 (word_at b (7 + i)) (f.block.clean.small (7 + i) (omega arith) (omega arith)))))

  -- and every other piece as before
  pub keeps-other : (j : ℕ) → 1 ≤ j → j ≤ o.pieces → j ≢ piece_number b → keeps (hand_slots slots o c b) c o.width j ≡ keeps slots c o.width j
  unfolding keeps_at
  keeps-other j l m n =
      let w = (ranged o f.opened).width.1 in
      ap₂ (λ (x y : ℕ). found x && eqb y 0) (rw (add-zero (start c j)) at (hand_other j 0 l m n (omega arith)))
      (first-same (λ i. too_large (in_slot (hand_slots slots o c b) (start c j) i)) (λ i. too_large (in_slot slots (start c j) i)) 1 (o.width + 1)
      (λ i u v. ap too_large (hand_other j i l m n (omega arith))))

  -- a piece that is kept already: the block has its values
  pub same-values : keeps slots c o.width (piece_number b) ≡ true → (other_values slots o c b).given ≡ false
      → (i : ℕ) → 1 ≤ i → i ≤ o.width → in_slot slots (start c (piece_number b)) i ≡ word_at b (7 + i)
  unfolding unlike
  same-values t e i l h =
      let z : found (unlike slots (start c (piece_number b)) o.width b) ≡ false = ap (λ (x : Bool). x && found (unlike slots (start c (piece_number b)) o.width b)) (sym t) ∙ e in
      eqb-true (in_slot slots (start c (piece_number b)) i) (word_at b (7 + i))
      (not-false (eqb (in_slot slots (start c (piece_number b)) i) (word_at b (7 + i)))
      (none_in (λ m. not (eqb (in_slot slots (start c (piece_number b)) m) (word_at b (7 + m)))) 1 (o.width + 1) (le_refl 1) (none_found (unlike slots (start c (piece_number b)) o.width b) z) i l (omega arith)))
