-- A deal of zeros, added: the secret stays; and the pairings of two lacking pieces, one of the deal and one of the sum, make a pairing of the pairs.
-- With g and h for the two, it takes (r, z) to (g r, h (r + z) − g r). Assumes nothing.
use mathlib.Core.Path.{◌≡◌, refl, sym, ap, ap₂, ◌∙◌}
use mathlib.Core.Logic.{◌⊎◌, inl, inr}
use mathlib.Core.List.{List, [], ◌∷◌}
use Prim.Native.Nat.{ℕ, suc, ◌-◌, ◌*◌}
use native.Mathlib.Omega.{arith}
use native.Mathlib.Nat.{suc_inj, suc-ne-zero}
use lib.ListN.{length, length-replicate}
use Rattle.prime.specs.Prime.{Below, minus}
use Rattle.prime.proofs.Mod.{minus-below}
use Rattle.field.specs.Pieces.{values, Random, Paired}
use Rattle.field.specs.Added.{added}
use Rattle.field.specs.Renewing.{zeros_for, RandomPair, either_values, OtherTwo, PairedTwo}
use Rattle.field.proofs.Sums.{below-nil, below-cons, below_rest}
use Rattle.field.proofs.AddedLaws.{added-length, added-below, values-added}
use Rattle.field.proofs.HidingLaws.{matched_back, hidden_back}

-- ---- a deal of zeros
added-zeros : (ds : List ℕ) → Below ds → added ds (zeros_for ds) ≡ ds
unfolding added
added-zeros [] b = refl
added-zeros (d ∷ ds) b = ap₂ (λ (x : ℕ) (xs : List ℕ). x ∷ xs) (omega (arith, b.each 0)) (added-zeros ds (below_rest b))

pub zeros-added : (q : ℕ) (ds rs zs : List ℕ) (j : ℕ) → Below ds → length rs ≡ length zs
    → added (values q ds rs j) (values q (zeros_for ds) zs j) ≡ values q ds (added rs zs) j
zeros-added q ds rs zs j b e =
    sym (values-added q ds (zeros_for ds) rs zs j (sym (length-replicate (length ds) 0)) e)
    ∙ ap (λ (xs : List ℕ). values q xs (added rs zs) j) (added-zeros ds b)

-- ---- what is left of a sum: number by number, mod p
less : List ℕ → List ℕ → List ℕ
less [] rs = []
less (s ∷ ss) [] = []
less (s ∷ ss) (r ∷ rs) = minus s r ∷ less ss rs

less_length : (ss rs : List ℕ) → length ss ≡ length rs → length (less ss rs) ≡ length ss
unfolding less
less_length [] rs e = refl
less_length (s ∷ ss) [] e = absurd (suc-ne-zero (length ss) e)
less_length (s ∷ ss) (r ∷ rs) e = ap suc (less_length ss rs (suc_inj e))

less_below : (ss rs : List ℕ) → Below (less ss rs)
unfolding less
less_below [] rs = below-nil
less_below (s ∷ ss) [] = below-nil
less_below (s ∷ ss) (r ∷ rs) = below-cons (minus-below s r) (less_below ss rs)

less_added : (rs zs : List ℕ) → length rs ≡ length zs → Below zs → less (added rs zs) rs ≡ zs
unfolding less added minus
less_added [] [] e b = refl
less_added [] (z ∷ zs) e b = absurd (suc-ne-zero (length zs) (sym e))
less_added (r ∷ rs) [] e b = absurd (suc-ne-zero (length rs) e)
less_added (r ∷ rs) (z ∷ zs) e b =
    ap₂ (λ (x : ℕ) (xs : List ℕ). x ∷ xs) (omega (arith, b.each 0)) (less_added rs zs (suc_inj e) (below_rest b))

added_less : (rs ss : List ℕ) → length rs ≡ length ss → Below ss → added rs (less ss rs) ≡ ss
unfolding less added minus
added_less [] [] e b = refl
added_less [] (s ∷ ss) e b = absurd (suc-ne-zero (length ss) (sym e))
added_less (r ∷ rs) [] e b = absurd (suc-ne-zero (length rs) e)
added_less (r ∷ rs) (s ∷ ss) e b =
    ap₂ (λ (x : ℕ) (xs : List ℕ). x ∷ xs) (omega (arith, b.each 0)) (added_less rs ss (suc_inj e) (below_rest b))

-- ---- randomness of pairs
module _ (k : ℕ) (ds : List ℕ) where
  pair_same : (r : List ℕ × List ℕ) → RandomPair k ds r → length r.0 ≡ length r.1
  pair_same r x = x.0.count ∙ ap (λ (n : ℕ). n * (k - 1)) (sym (length-replicate (length ds) 0)) ∙ sym x.1.count

  -- the sum is randomness for ds
  sum-random : (r : List ℕ × List ℕ) → RandomPair k ds r → Random (length ds) k (added r.0 r.1)
  sum-random r x = record {
    count = added-length r.0 r.1 (omega (arith, pair_same r x)) ∙ x.0.count;
    below = added-below r.0 r.1;
  }

  -- and what is left of such a sum is randomness for as many zeros
  rest_random : (rs ss : List ℕ) → Random (length ds) k rs → Random (length ds) k ss → Random (length (zeros_for ds)) k (less ss rs)
  rest_random rs ss x y = record {
    count = less_length ss rs (y.count ∙ sym x.count) ∙ y.count ∙ ap (λ (n : ℕ). n * (k - 1)) (sym (length-replicate (length ds) 0));
    below = less_below ss rs;
  }

-- ---- the pairing
module _ (k m m' : ℕ) (ds ds' : List ℕ) (g : Paired k m ds ds') (h : Paired k m' ds ds') where
  unfoldable partner : List ℕ × List ℕ → List ℕ × List ℕ
  partner r = (g.pairs.there r.0, less (h.pairs.there (added r.0 r.1)) (g.pairs.there r.0))

  module _ (r : List ℕ × List ℕ) (x : RandomPair k ds r) where
    old_in : Random (length ds') k (g.pairs.there r.0)
    old_in = g.pairs.there_in r.0 x.0

    new_in : Random (length ds') k (h.pairs.there (added r.0 r.1))
    new_in = h.pairs.there_in (added r.0 r.1) (sum-random k ds r x)

    partner_in : RandomPair k ds' (partner r)
    unfolding partner
    partner_in = (old_in, rest_random k ds' (g.pairs.there r.0) (h.pairs.there (added r.0 r.1)) old_in new_in)

    -- the partners add up to the partner of the sum
    partner_sum : added (partner r).0 (partner r).1 ≡ h.pairs.there (added r.0 r.1)
    unfolding partner
    partner_sum =
        added_less (g.pairs.there r.0) (h.pairs.there (added r.0 r.1)) (old_in.count ∙ sym new_in.count) new_in.below

    seen_same : Below ds → Below ds' → (i : ℕ ⊎ ℕ) → OtherTwo k m m' i → either_values (k - 1) ds' (partner r) i ≡ either_values (k - 1) ds r i
    unfolding partner
    seen_same b b' (inl j) o = g.same r.0 x.0 j o
    seen_same b b' (inr j) o =
        zeros-added (k - 1) ds' (partner r).0 (partner r).1 j b' (pair_same k ds' (partner r) partner_in)
        ∙ ap (λ (xs : List ℕ). values (k - 1) ds' xs j) partner_sum
        ∙ h.same (added r.0 r.1) (sum-random k ds r x) j o
        ∙ sym (zeros-added (k - 1) ds r.0 r.1 j b (pair_same k ds r x))

-- the partner of the partner is the pair itself
partner_back : (k m m' : ℕ) (ds ds' : List ℕ) (g : Paired k m ds ds') (h : Paired k m' ds ds') (r : List ℕ × List ℕ) → RandomPair k ds r
    → partner k m m' ds' ds (hidden_back g) (hidden_back h) (partner k m m' ds ds' g h r) ≡ r
unfolding partner hidden_back matched_back
partner_back k m m' ds ds' g h r x =
    let old : g.pairs.back (g.pairs.there r.0) ≡ r.0 = g.pairs.back-there r.0 x.0 in
    let new = ap h.pairs.back (partner_sum k m m' ds ds' g h r x) ∙ h.pairs.back-there (added r.0 r.1) (sum-random k ds r x) in
    ap₂ {C = List ℕ × List ℕ} (λ (s t : List ℕ). (s, t)) old (ap₂ less new old ∙ less_added r.0 r.1 (pair_same k ds r x) x.1.below)

pub paired_two : (k m m' : ℕ) (ds ds' : List ℕ) → Below ds → Below ds' → Paired k m ds ds' → Paired k m' ds ds' → PairedTwo k m m' ds ds'
unfolding hidden_back partner
paired_two k m m' ds ds' b b' g h = record {
  pairs = record {
    there = partner k m m' ds ds' g h;
    back = partner k m m' ds' ds (hidden_back g) (hidden_back h);
    there_in = partner_in k m m' ds ds' g h;
    back_in = partner_in k m m' ds' ds (hidden_back g) (hidden_back h);
    back-there = partner_back k m m' ds ds' g h;
    there_back = partner_back k m m' ds' ds (hidden_back g) (hidden_back h);
  };
  same = λ r x. seen_same k m m' ds ds' g h r x b b';
}
