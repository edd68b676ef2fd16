-- For each word of a pile that joins, one polynomial goes through the pieces of the chosen set; the word is its value at 0.
-- Assumes nothing.
use mathlib.Core.Path.{◌≡◌, sym, ap, ◌∙◌}
use mathlib.Core.Bool.{true, false}
use mathlib.Core.Logic.{⊎_elim}
use mathlib.Core.List.{List}
use Prim.Native.Nat.{ℕ, ◌-◌, ◌%◌, ◌≤◌}
use native.Mathlib.Nat.{le_refl}
use native.Mathlib.Omega.{arith}
use lib.ListN.{get_or}
use Rattle.lists.proofs.Truth.{decided}
use Rattle.prime.specs.Prime.{p}
use Rattle.field.specs.Poly.{value, Through, One}
use Rattle.field.specs.Secret.{column}
use Rattle.field.proofs.SecretLaws.{column-length, column-at}
use Rattle.field.proofs.Laws.{secret_one}
use Rattle.block.specs.Layout.{piece_in}
use Rattle.pile.specs.Blocks.{In}
use Rattle.joining.specs.Pile.{own_width, in_sets, set_at, pieces_at, number_at, piece_at, chosen, own_pieces, own_place, value_at}
use Rattle.joining.specs.Secret.{secret}
use Rattle.joining.specs.Inner.{Full}
use Rattle.joining.specs.Laws.{Joins, Fits}
use Rattle.joining.proofs.PileLaws.{ranges, deal_pieces_lem}
use Rattle.joining.proofs.ChosenLaws.{place-has, first_pieces, sets-pieces, own_block_lem}
use Rattle.joining.proofs.SecretLaws.{value-below}
use Rattle.joining.proofs.SoundLaws.{given-joins, joins_then}

module _ (pile : List ℕ) (room w : ℕ) (t : Joins pile room w) where
  pub full : Full pile
  full = (given-joins pile room w (joins_then pile room w t)).accepted.full

  -- every block of the chosen set says k
  pub set-count : (a : ℕ) → In pile a → set_at pile a ≡ chosen pile → pieces_at pile a ≡ own_pieces pile
  set-count a h q =
      ⊎_elim
      (λ (e : in_sets pile ≡ true).
      let b = own_block_lem full 1 (le_refl 1) full.pieces_in.0 in
      t.sound.one_count a (own_place pile 1) h b.0 (q ∙ sym b.1) ∙ sym (sets-pieces pile e))
      (λ (e : in_sets pile ≡ false). deal_pieces_lem full.unmixed e a h ∙ sym (first_pieces pile e))
      (decided (in_sets pile))

  -- a polynomial through a column is one through the blocks, and the other way round
  fits_of : (i : ℕ) (cs : List ℕ) → 1 ≤ i → i ≤ own_width pile → Through cs (column (value_at pile) (own_pieces pile) i) → Fits pile i cs
  fits_of i cs l h c = record {
    degree = c.degree ∙ column-length (value_at pile) (own_pieces pile) i;
    below = c.below;
    meets = λ a g q.
        let j = number_at pile a in
        let n = (ranges full.unmixed a g).piece in
        let m : j ≤ own_pieces pile = omega (arith, n.1, set-count a g q) in
        let r = place-has pile (piece_in (chosen pile) j) (full.place j n.0 m) in
        let same : piece_at pile a ≡ piece_at pile (own_place pile j) = ap (λ (s : ℕ). piece_in s j) q ∙ sym r.1 in
        t.sound.agree a (own_place pile j) g r.0 same i l h
        ∙ sym (column-at (value_at pile) (own_pieces pile) i j n.0 m)
        ∙ c.meets j n.0 (omega (arith, column-length (value_at pile) (own_pieces pile) i, m));
  }

  of_fits : (i : ℕ) (cs : List ℕ) → Fits pile i cs → Through cs (column (value_at pile) (own_pieces pile) i)
  of_fits i cs f = record {
    degree = f.degree ∙ sym (column-length (value_at pile) (own_pieces pile) i);
    below = f.below;
    meets = λ j l h.
        let m : j ≤ own_pieces pile = omega (arith, column-length (value_at pile) (own_pieces pile) i) in
        let r = own_block_lem full j l m in
        column-at (value_at pile) (own_pieces pile) i j l m ∙ f.meets (own_place pile j) r.0 r.1 ∙ ap (λ (x : ℕ). value cs x % p) r.2;
  }

  pub joined-secret : (i : ℕ) → 1 ≤ i → i ≤ own_width pile → (cs : List ℕ) × One (Fits pile i) cs × (get_or (secret pile) (i - 1) 0 ≡ value cs 0)
  joined-secret i l h =
      let r = (secret_one (value_at pile) (own_pieces pile) (own_width pile) (omega (arith, full.pieces_in.1)) (value-below full)).2 i l h in
      (r.0, record { is = fits_of i r.0 l h r.1.is; only = λ ds f. r.1.only ds (of_fits i ds f) }, r.2)
