-- Several deals of one secret: each part is randomness of its own, and the pairings of the parts, laid one behind the other, pair the whole.
-- Assumes nothing.
use mathlib.Core.Path.{◌≡◌, refl, sym, ap, ap₂, subst, ◌∙◌}
use mathlib.Core.List.{List, [], ◌∷◌, ◌++◌}
use Prim.Native.Nat.{ℕ, zero, suc, ◌+◌, ◌-◌, ◌*◌, ◌≤◌, ◌<◌, zero-le}
use native.Mathlib.Nat.{not-suc-le-zero, le_of_suc-le-suc}
use native.Mathlib.Omega.{arith}
use lib.ListN.{length, get_or, take, drop, length-append, length-drop, take-append-drop}
use lib.Seq.{take_at, drop_at, drop-drop, length-take-le}
use Rattle.lists.specs.Places.{at}
use Rattle.lists.specs.Run.{run}
use Rattle.prime.specs.Prime.{Below}
use Rattle.field.specs.Pieces.{Random, Other, Paired}
use Rattle.field.specs.Joined.{joined}
use Rattle.field.specs.Laws.{PairedSome, PairedAllSome}
use Rattle.field.specs.Parts.{coefficients, part_of, part_values, RandomAll, OtherAll, PairedAll}
use Rattle.field.proofs.Sums.{below-take, below-drop, below-append}
use Rattle.field.proofs.RoundTrip.{round_trip}
use Rattle.field.proofs.HidingLaws.{matched_back, hidden_back}

-- ---- the randomness of the first deal, and that of the others
module _ (w k : ℕ) (ks : List ℕ) where
  abbrev front : ℕ
  front = w * (k - 1)

  split_count : w * coefficients (k ∷ ks) ≡ front + w * coefficients ks
  unfolding coefficients
  split_count = omega arith

  first-random : (random : List ℕ) → RandomAll w (k ∷ ks) random → Random w k (take front random)
  first-random random r = record {
    count = length-take-le front random (omega (arith, r.count, split_count));
    below = below-take front random r.below;
  }

  rest_random : (random : List ℕ) → RandomAll w (k ∷ ks) random → RandomAll w ks (drop front random)
  rest_random random r = record {
    count = length-drop front random ∙ omega (arith, r.count, split_count);
    below = below-drop front random r.below;
  }

  both_random : (xs ys : List ℕ) → Random w k xs → RandomAll w ks ys → RandomAll w (k ∷ ks) (xs ++ ys)
  both_random xs ys a b = record {
    count = length-append xs ys ∙ omega (arith, a.count, b.count, split_count);
    below = below-append xs ys a.below b.below;
  }

  -- ---- the parts of both, one after the other
  part_first : (xs ys : List ℕ) → length xs ≡ front → part_of w (k ∷ ks) (xs ++ ys) 1 ≡ xs
  unfolding part_of coefficients
  part_first xs ys e = let z : w * 0 ≡ 0 = omega arith in rw z (take_at xs ys front e)

  part_next : (xs ys : List ℕ) → length xs ≡ front → (s : ℕ) → 1 ≤ s → part_of w (k ∷ ks) (xs ++ ys) (suc s) ≡ part_of w ks ys s
  unfolding part_of coefficients
  part_next xs ys e s l =
      let n : suc s - 1 ≡ suc (s - 1) = omega arith in
      let c = coefficients (take (s - 1) ks) in
      let z : w * (k - 1 + c) ≡ front + w * c = omega arith in
      rw (n, z, ← drop-drop (w * c) front (xs ++ ys), drop_at xs ys front e)

  -- and of the whole
  module _ (random : List ℕ) (r : RandomAll w (k ∷ ks) random) where
    whole-first : part_of w (k ∷ ks) random 1 ≡ take front random
    whole-first =
        ap (λ (x : List ℕ). part_of w (k ∷ ks) x 1) (sym (take-append-drop front random))
        ∙ part_first (take front random) (drop front random) (first-random random r).count

    whole-next : (s : ℕ) → 1 ≤ s → part_of w (k ∷ ks) random (suc s) ≡ part_of w ks (drop front random) s
    whole-next s l =
        ap (λ (x : List ℕ). part_of w (k ∷ ks) x (suc s)) (sym (take-append-drop front random))
        ∙ part_next (take front random) (drop front random) (first-random random r).count s l

-- a deal past the first is one of the others
size_next : (k : ℕ) (ks : List ℕ) (s : ℕ) → 1 ≤ s → at (k ∷ ks) (suc s) ≡ at ks s
size_next k ks s l = let n : suc s - 1 ≡ suc (s - 1) = omega arith in rw n

-- ---- each part is randomness of its own
pub part_random : (w : ℕ) (ks random : List ℕ) → RandomAll w ks random → (s : ℕ) → 1 ≤ s → s ≤ length ks → Random w (at ks s) (part_of w ks random s)
part_random w ks random r zero l h = absurd (not-suc-le-zero l)
part_random w [] random r (suc s) l h = absurd (not-suc-le-zero h)
part_random w (k ∷ ks) random r (suc zero) l h = rw (whole-first w k ks random r) (first-random w k ks random r)
part_random w (k ∷ ks) random r (suc (suc s)) l h =
    rw (whole-next w k ks random r (suc s) (omega arith), size_next k ks (suc s) (omega arith))
    (part_random w ks (drop (front w k ks) random) (rest_random w k ks random r) (suc s) (omega arith) (le_of_suc-le-suc h))

-- ---- any one deal gives the secret
pub round_trip_all : (ks ds random : List ℕ) → Below ds → RandomAll (length ds) ks random → (s : ℕ) → 1 ≤ s → s ≤ length ks → 1 ≤ at ks s
    → (i : ℕ) → 1 ≤ i → i ≤ length ds → joined (run (λ j. get_or (part_values ks ds random s j) (i - 1) 0) 1 (at ks s)) ≡ get_or ds (i - 1) 0
unfolding part_values
round_trip_all ks ds random b r s l h k i a c =
    round_trip (at ks s) ds (part_of (length ds) ks random s) k b (part_random (length ds) ks random r s l h) i a c

-- ---- the pairing of the first deal and that of the others, together
module _ (k : ℕ) (ks : List ℕ) (m : ℕ → ℕ) (ds ds' : List ℕ) (g : Paired k (m 1) ds ds') (h : PairedAll ks (λ s. m (suc s)) ds ds') where
  unfoldable partner : List ℕ → List ℕ
  partner random = g.pairs.there (take (front (length ds) k ks) random) ++ h.pairs.there (drop (front (length ds) k ks) random)

  module _ (random : List ℕ) (r : RandomAll (length ds) (k ∷ ks) random) where
    first_in_lem : Random (length ds') k (g.pairs.there (take (front (length ds) k ks) random))
    first_in_lem = g.pairs.there_in _ (first-random (length ds) k ks random r)

    partner_in : RandomAll (length ds') (k ∷ ks) (partner random)
    unfolding partner
    partner_in = both_random (length ds') k ks _ _ first_in_lem (h.pairs.there_in _ (rest_random (length ds) k ks random r))

    same_first : (j : ℕ) → Other k (m 1) j → part_values (k ∷ ks) ds' (partner random) 1 j ≡ part_values (k ∷ ks) ds random 1 j
    unfolding part_values partner
    same_first j o =
        rw (
          part_first (length ds') k ks _ (h.pairs.there (drop (front (length ds) k ks) random)) first_in_lem.count,
          whole-first (length ds) k ks random r,
        )
        (g.same (take (front (length ds) k ks) random) (first-random (length ds) k ks random r) j o)

    same_next : (s j : ℕ) → 1 ≤ s → OtherAll ks (λ t. m (suc t)) (s, j)
        → part_values (k ∷ ks) ds' (partner random) (suc s) j ≡ part_values (k ∷ ks) ds random (suc s) j
    unfolding part_values partner
    same_next s j l o =
        rw (
          part_next (length ds') k ks _ (h.pairs.there (drop (front (length ds) k ks) random)) first_in_lem.count s l,
          whole-next (length ds) k ks random r s l,
          size_next k ks s l,
        )
        (h.same (drop (front (length ds) k ks) random) (rest_random (length ds) k ks random r) (s, j) o)

    same_both : (s j : ℕ) → OtherAll (k ∷ ks) m (s, j) → part_values (k ∷ ks) ds' (partner random) s j ≡ part_values (k ∷ ks) ds random s j
    same_both zero j o = absurd (not-suc-le-zero o.from)
    same_both (suc zero) j o = same_first j o.piece
    same_both (suc (suc s)) j o =
        same_next (suc s) j (omega arith) (record {
          from = omega arith;
          to = le_of_suc-le-suc o.to;
          piece = subst (λ (x : ℕ). Other x (m (suc (suc s))) j) (size_next k ks (suc s) (omega arith)) o.piece;
        })

-- the partner of the partner is the randomness itself
partner_back : (k : ℕ) (ks : List ℕ) (m : ℕ → ℕ) (ds ds' : List ℕ) (g : Paired k (m 1) ds ds') (h : PairedAll ks (λ s. m (suc s)) ds ds')
    → (random : List ℕ) → RandomAll (length ds) (k ∷ ks) random
    → partner k ks m ds' ds (hidden_back g) (hidden_back h) (partner k ks m ds ds' g h random) ≡ random
unfolding partner hidden_back matched_back
partner_back k ks m ds ds' g h random r =
    let n = front (length ds) k ks in
    let n' = front (length ds') k ks in
    let l = (first_in_lem k ks m ds ds' g h random r).count in
    rw (
      take_at (g.pairs.there (take n random)) (h.pairs.there (drop n random)) n' l,
      drop_at (g.pairs.there (take n random)) (h.pairs.there (drop n random)) n' l,
    )
    (ap₂ (λ (xs ys : List ℕ). xs ++ ys) (g.pairs.back-there _ (first-random (length ds) k ks random r))
    (h.pairs.back-there _ (rest_random (length ds) k ks random r)) ∙ take-append-drop n random)

both : (k : ℕ) (ks : List ℕ) (m : ℕ → ℕ) (ds ds' : List ℕ) → Paired k (m 1) ds ds' → PairedAll ks (λ s. m (suc s)) ds ds' → PairedAll (k ∷ ks) m ds ds'
unfolding hidden_back partner
both k ks m ds ds' g h = record {
  pairs = record {
    there = partner k ks m ds ds' g h;
    back = partner k ks m ds' ds (hidden_back g) (hidden_back h);
    there_in = partner_in k ks m ds ds' g h;
    back_in = partner_in k ks m ds' ds (hidden_back g) (hidden_back h);
    back-there = partner_back k ks m ds ds' g h;
    there_back = partner_back k ks m ds' ds (hidden_back g) (hidden_back h);
  };
  same = λ r q x o. same_both k ks m ds ds' g h r q x.0 x.1 o;
}

-- no deal at all: there is nothing lent, and no piece
none : (m : ℕ → ℕ) (ds ds' : List ℕ) → length ds ≡ length ds' → PairedAll [] m ds ds'
none m ds ds' e = record {
  pairs = record {
    there = λ r. r;
    back = λ r. r;
    there_in = λ r q. subst (λ (w : ℕ). RandomAll w [] r) e q;
    back_in = λ r q. subst (λ (w : ℕ). RandomAll w [] r) (sym e) q;
    back-there = λ r q. refl;
    there_back = λ r q. refl;
  };
  same = λ r q x o. absurd (let z : ⊥ = omega (arith, o.from, o.to) in z);
}

-- each deal by itself can be paired; so can all of them
pub paired_all : PairedSome → PairedAllSome
paired_all pair [] m ds ds' f e = none m ds ds' e
paired_all pair (k ∷ ks) m ds ds' f e =
    let a = f 1 (omega arith) (omega arith) in
    both k ks m ds ds' (pair k (m 1) ds ds' a.0 a.1 a.2 e)
    (paired_all pair ks (λ s. m (suc s)) ds ds'
    (λ s l h.
    let b = f (suc s) (omega arith) (omega arith) in
    let n = size_next k ks s l in
    (omega (arith, b.0), b.1, omega (arith, b.2))) e)

-- ---- the coefficients of the first deals
pub coefficients-next : (ks : List ℕ) (i : ℕ) → i < length ks → coefficients (take (suc i) ks) ≡ coefficients (take i ks) + (get_or ks i 0 - 1)
unfolding coefficients
coefficients-next [] i h = absurd (not-suc-le-zero h)
coefficients-next (k ∷ ks) zero h = omega arith
coefficients-next (k ∷ ks) (suc i) h = omega (arith, coefficients-next ks i (le_of_suc-le-suc h))

pub coefficients_more : (ks : List ℕ) (i : ℕ) → coefficients (take i ks) ≤ coefficients ks
unfolding coefficients
coefficients_more ks zero = zero-le
coefficients_more [] (suc i) = zero-le
coefficients_more (k ∷ ks) (suc i) = omega (arith, coefficients_more ks i)
