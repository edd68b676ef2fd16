-- What the loops write over a list, and that the values of a full pile's pieces are below p.
-- Assumes nothing.
use mathlib.Core.Path.{◌≡◌, ap, ◌∙◌}
use mathlib.Core.List.{List, ◌++◌, append-nil}
use Prim.Native.Nat.{ℕ, ◌+◌, ◌≤◌, ◌<◌}
use native.Mathlib.Omega.{arith}
use lib.ListN.{length, drop, take, drop_of_length-le}
use lib.Seq.{take_at, drop_at}
use Rattle.lists.proofs.RunLaws.{run_length}
use Rattle.lists.specs.Over.{over}
use Rattle.prime.specs.Prime.{p}
use Rattle.field.specs.Differences.{firsts}
use Rattle.field.specs.Secret.{column}
use Rattle.field.proofs.DifferenceLaws.{firsts-length}
use Rattle.field.proofs.SecretLaws.{column-length}
use Rattle.block.specs.Layout.{piece_in}
use Rattle.pile.proofs.PileLaws.{word_small}
use Rattle.joining.specs.Pile.{own_width, chosen, own_pieces, own_place, value_at}
use Rattle.joining.specs.Inner.{Full, own_places}
use Rattle.joining.proofs.PileLaws.{width_in}
use Rattle.joining.proofs.TableLaws.{place-most}

-- all of a list written over
pub over_all : (new old : List ℕ) → length old ≤ length new → over new old ≡ new
unfolding over
over_all new old h = rw (drop_of_length-le old h) (append-nil new)

-- the places of the pieces that are taken are as many
pub places_length : (pile places : List ℕ) → places ≡ own_places pile → length places ≡ own_pieces pile
places_length pile places e = ap length e ∙ run_length (own_place pile) 1 (own_pieces pile)

-- ---- a column over the front of a list that may be longer, of which the first n are taken
module _ (v : ℕ → ℕ → ℕ) (k i n : ℕ) (old values : List ℕ) (count : n ≡ k) (is : values ≡ over (column v k i) old) where
  pub column-front : take n values ≡ column v k i
  unfolding over
  column-front = rw count (ap (take k) is ∙ take_at (column v k i) (drop (length (column v k i)) old) k (column-length v k i))

  -- what is left where the first numbers of their rows take the column's place
  pub firsts-over : (new : List ℕ) → new ≡ firsts (take n values) → new ++ drop n values ≡ over (firsts (column v k i)) old
  unfolding over
  firsts-over new e =
      let m : length (firsts (column v k i)) ≡ k = firsts-length k (column v k i) (column-length v k i) in
      let r : drop k values ≡ drop k old
      = ap (drop k) is ∙ drop_at (column v k i) (drop (length (column v k i)) old) k (column-length v k i)
      ∙ ap (λ (x : ℕ). drop x old) (column-length v k i) in
      let f : drop n values ≡ drop k old = ap (λ (x : ℕ). drop x values) count ∙ r in
      rw (m, f) (ap (λ (l : List ℕ). l ++ drop k old) (e ∙ ap firsts column-front))

-- ---- the values of a full pile's pieces
pub value-below : {pile : List ℕ} → Full pile → (j i : ℕ) → 1 ≤ j → j ≤ own_pieces pile → 1 ≤ i → i ≤ own_width pile → value_at pile j i < p
value-below {pile} f j i l h m n =
    let u = f.unmixed in
    let b = (width_in u).1 in
    omega (arith, word_small pile u.blocks_true (own_place pile j) (7 + i) (f.place j l h) (place-most pile (piece_in (chosen pile) j)) (omega arith) (omega arith))
