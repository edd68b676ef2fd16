-- Whoever lacks piece m learns nothing of the secret: a multiple of the loose polynomial of m, added to a deal of one secret, gives a deal
-- of the other in which every other piece is the same. Assumes nothing.
use mathlib.Core.Path.{◌≡◌, refl, sym, ap, ap₂, ◌∙◌}
use mathlib.Core.List.{List, [], ◌∷◌, ◌++◌}
use Prim.Native.Nat.{ℕ, suc, ◌+◌, ◌-◌, ◌*◌}
use native.Mathlib.Omega.{arith}
use native.Mathlib.Nat.{suc_inj, suc-ne-zero, le_of_eq}
use lib.ListN.{length, take, drop, length-append, length-drop, take-append-drop}
use lib.Seq.{take_at, drop_at, length-take-le}
use Rattle.field.specs.Poly.{value, piece}
use Rattle.prime.specs.Prime.{Below, minus}
use Rattle.field.specs.Pieces.{values, Random, Other, Paired}
use Rattle.field.specs.Laws.{Loose}
use Rattle.prime.proofs.Mod.{◌≈◌, ◌then◌, from≡, add≈, mul≈, mod≈, small, minus≈}
use Rattle.field.proofs.Sums.{below_rest, below-take, below-drop, below-append, plus_times, plus_times_value, plus_times_length, plus_times_below}

-- ---- one word: the coefficients rs, with which d' gives what d gave, where 1, cs.. is 0
shift : List ℕ → ℕ → ℕ → List ℕ → List ℕ
shift cs d d' rs = plus_times rs (minus d' d) cs

shift_piece : (cs : List ℕ) (d d' : ℕ) (rs : List ℕ) (j : ℕ) → value (1 ∷ cs) j ≈ 0 → piece d' (shift cs d d' rs) j ≡ piece d rs j
unfolding shift value
shift_piece cs d d' rs j h =
    (add≈ (from≡ refl) (mul≈ j (plus_times_value rs (minus d' d) cs j))
    then moved (minus d' d) (value rs j) (value cs j) (minus≈ d' d) (mul≈ (minus d' d) h)).same
  where
    moved : (e r c : ℕ) → e ≈ d' + 32748 * d → e * (1 + j * c) ≈ e * 0 → d' + j * (r + e * c) ≈ d + j * r
    moved e r c g k = first then second
      where
        first : d' + j * (r + e * c) ≈ d + j * r + e * (1 + j * c)
        first = omega (arith, g)

        second : d + j * r + e * (1 + j * c) ≈ d + j * r
        second = omega (arith, k)

undo : (e e' : ℕ) → e + e' ≈ 0 → (cs rs : List ℕ) → length rs ≡ length cs → Below rs → plus_times (plus_times rs e cs) e' cs ≡ rs
unfolding plus_times
undo e e' h [] [] l b = refl
undo e e' h [] (r ∷ rs) l b = absurd (suc-ne-zero (length rs) l)
undo e e' h (c ∷ cs) [] l b = absurd (suc-ne-zero (length cs) (sym l))
undo e e' h (c ∷ cs) (r ∷ rs) l b =
    ap₂ (λ (x : ℕ) (xs : List ℕ). x ∷ xs)
    ((add≈ (mod≈ (r + e * c)) (from≡ refl) then omega (arith, mul≈ c h)).same ∙ small (b.each 0))
    (undo e e' h cs rs (suc_inj l) (below_rest b))

shift_back : (cs : List ℕ) (d d' : ℕ) (rs : List ℕ) → length rs ≡ length cs → Below rs → shift cs d' d (shift cs d d' rs) ≡ rs
unfolding shift
shift_back cs d d' rs l b = undo (minus d' d) (minus d d') (omega (arith, minus≈ d' d, minus≈ d d')) cs rs l b

-- ---- and so word by word
shifts : List ℕ → List ℕ → List ℕ → List ℕ → List ℕ
shifts cs [] ds' rs = rs
shifts cs (d ∷ ds) [] rs = rs
shifts cs (d ∷ ds) (d' ∷ ds') rs = shift cs d d' (take (length cs) rs) ++ shifts cs ds ds' (drop (length cs) rs)

module _ (cs : List ℕ) where
  -- the coefficients of the first word, and those of the others
  first-length : (w : ℕ) (rs : List ℕ) → length rs ≡ suc w * length cs → length (take (length cs) rs) ≡ length cs
  first-length w rs e = length-take-le (length cs) rs (omega arith)

  rest_length : (w : ℕ) (rs : List ℕ) → length rs ≡ suc w * length cs → length (drop (length cs) rs) ≡ w * length cs
  rest_length w rs e = length-drop (length cs) rs ∙ omega arith

  shift_length : (w d d' : ℕ) (rs : List ℕ) → length rs ≡ suc w * length cs → length (shift cs d d' (take (length cs) rs)) ≡ length cs
  unfolding shift
  shift_length w d d' rs e = plus_times_length (take (length cs) rs) (minus d' d) cs (le_of_eq (first-length w rs e))

  shifts_below : (ds ds' rs : List ℕ) → Below rs → Below (shifts cs ds ds' rs)
  unfolding shifts shift
  shifts_below [] ds' rs b = b
  shifts_below (d ∷ ds) [] rs b = b
  shifts_below (d ∷ ds) (d' ∷ ds') rs b =
      below-append (shift cs d d' (take (length cs) rs)) (shifts cs ds ds' (drop (length cs) rs))
      (plus_times_below (take (length cs) rs) (minus d' d) cs (below-take (length cs) rs b))
      (shifts_below ds ds' (drop (length cs) rs) (below-drop (length cs) rs b))

  shifts_length : (ds ds' rs : List ℕ) → length rs ≡ length ds * length cs → length (shifts cs ds ds' rs) ≡ length rs
  unfolding shifts
  shifts_length [] ds' rs e = refl
  shifts_length (d ∷ ds) [] rs e = refl
  shifts_length (d ∷ ds) (d' ∷ ds') rs e =
      let n = rest_length (length ds) rs e in
      length-append (shift cs d d' (take (length cs) rs)) (shifts cs ds ds' (drop (length cs) rs))
      ∙ omega (arith, shift_length (length ds) d d' rs e, shifts_length ds ds' (drop (length cs) rs) n)

  -- the coefficients of the first word stand apart again
  module _ (d d' : ℕ) (ds ds' rs : List ℕ) (e : length rs ≡ suc (length ds) * length cs) where
    shifts_take : take (length cs) (shifts cs (d ∷ ds) (d' ∷ ds') rs) ≡ shift cs d d' (take (length cs) rs)
    unfolding shifts
    shifts_take =
        take_at (shift cs d d' (take (length cs) rs)) (shifts cs ds ds' (drop (length cs) rs)) (length cs) (shift_length (length ds) d d' rs e)

    shifts_drop : drop (length cs) (shifts cs (d ∷ ds) (d' ∷ ds') rs) ≡ shifts cs ds ds' (drop (length cs) rs)
    unfolding shifts
    shifts_drop =
        drop_at (shift cs d d' (take (length cs) rs)) (shifts cs ds ds' (drop (length cs) rs)) (length cs) (shift_length (length ds) d d' rs e)

  shifts_values : (ds ds' rs : List ℕ) (j : ℕ) → value (1 ∷ cs) j ≈ 0 → length ds ≡ length ds' → length rs ≡ length ds * length cs
      → values (length cs) ds' (shifts cs ds ds' rs) j ≡ values (length cs) ds rs j
  unfolding values
  shifts_values [] [] rs j h l e = refl
  shifts_values [] (d' ∷ ds') rs j h l e = absurd (suc-ne-zero (length ds') (sym l))
  shifts_values (d ∷ ds) [] rs j h l e = absurd (suc-ne-zero (length ds) l)
  shifts_values (d ∷ ds) (d' ∷ ds') rs j h l e =
      rw (shifts_take d d' ds ds' rs e, shifts_drop d d' ds ds' rs e)
      (ap₂ (λ (x : ℕ) (xs : List ℕ). x ∷ xs) (shift_piece cs d d' (take (length cs) rs) j h)
      (shifts_values ds ds' (drop (length cs) rs) j h (suc_inj l) (rest_length (length ds) rs e)))

  shifts_back : (ds ds' rs : List ℕ) → Below rs → length ds ≡ length ds' → length rs ≡ length ds * length cs
      → shifts cs ds' ds (shifts cs ds ds' rs) ≡ rs
  unfolding shifts
  shifts_back [] [] rs b l e = refl
  shifts_back [] (d' ∷ ds') rs b l e = absurd (suc-ne-zero (length ds') (sym l))
  shifts_back (d ∷ ds) [] rs b l e = absurd (suc-ne-zero (length ds) l)
  shifts_back (d ∷ ds) (d' ∷ ds') rs b l e =
      rw (shifts_take d d' ds ds' rs e, shifts_drop d d' ds ds' rs e)
      (ap₂ (λ (xs ys : List ℕ). xs ++ ys)
      (shift_back cs d d' (take (length cs) rs) (first-length (length ds) rs e) (below-take (length cs) rs b))
      (shifts_back ds ds' (drop (length cs) rs) (below-drop (length cs) rs b) (suc_inj l) (rest_length (length ds) rs e))
      ∙ take-append-drop (length cs) rs)

-- ---- the pairing
module _ (k m : ℕ) (cs : List ℕ) (loose : Loose k m cs) where
  count : length cs ≡ k - 1
  count = omega (arith, loose.degree)

  counted : (w : ℕ) (rs : List ℕ) → Random w k rs → length rs ≡ w * length cs
  counted w rs r = r.count ∙ ap (λ (n : ℕ). w * n) (sym count)

  module _ (ds ds' : List ℕ) (e : length ds ≡ length ds') (rs : List ℕ) (r : Random (length ds) k rs) where
    lent : Random (length ds') k (shifts cs ds ds' rs)
    lent = record {
      count = shifts_length cs ds ds' rs (counted (length ds) rs r) ∙ r.count ∙ ap (λ (n : ℕ). n * (k - 1)) e;
      below = shifts_below cs ds ds' rs r.below;
    }

    again : shifts cs ds' ds (shifts cs ds ds' rs) ≡ rs
    again = shifts_back cs ds ds' rs r.below e (counted (length ds) rs r)

    kept : (j : ℕ) → Other k m j → values (k - 1) ds' (shifts cs ds ds' rs) j ≡ values (k - 1) ds rs j
    kept j o = rw (← count) (shifts_values cs ds ds' rs j (record { same = loose.none j o.least o.most o.unlike }) e (counted (length ds) rs r))

pub paired_by : (k m : ℕ) (cs : List ℕ) → Loose k m cs → (ds ds' : List ℕ) → length ds ≡ length ds' → Paired k m ds ds'
paired_by k m cs l ds ds' e = record {
  pairs = record {
    there = shifts cs ds ds';
    back = shifts cs ds' ds;
    there_in = lent k m cs l ds ds' e;
    back_in = lent k m cs l ds' ds (sym e);
    back-there = again k m cs l ds ds' e;
    there_back = again k m cs l ds' ds (sym e);
  };
  same = kept k m cs l ds ds' e;
}
