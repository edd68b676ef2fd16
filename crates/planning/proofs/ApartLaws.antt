-- No maximal group lies inside another, so there are few of them, and fewer that lack one person.
-- Assumes nothing.
use mathlib.Core.Path.{◌≡◌}
use mathlib.Core.Bool.{true, false, not, ◌||◌}
use mathlib.Core.List.{List}
use mathlib.Core.Logic.{⊎_elim, ◌≢◌}
use Prim.Native.Nat.{ℕ, ◌+◌, ◌-◌, ◌^◌, ◌≤◌, ◌<◌}
use native.Mathlib.Decide.{dec_le}
use native.Mathlib.Nat.{le_refl, lt_of_not-le}
use native.Mathlib.Omega.{arith}
use lib.ListN.{length}
use lib.Pow.{pow_mono}
use Rattle.lists.specs.Places.{at}
use Rattle.lists.proofs.Truth.{never, isn't, surely, both, or_cases, not_so}
use Rattle.lists.proofs.ThoseLaws.{at_in, those_rise}
use Rattle.chains.specs.Apart.{digit, Apart, most}
use Rattle.chains.proofs.ApartLaws.{few-apart, few-without}
use Rattle.planning.specs.Sets.{worth, member, inside}
use Rattle.planning.specs.Groups.{authorised, tight, maximal_by, maximal, piece_count, group_of, holds, held}
use Rattle.lists.proofs.EachLaws.{each_at}
use Rattle.planning.proofs.SetLaws.{member_bit, out_bit, member_le, inside_fails, inside_both, group-small}
use Rattle.planning.proofs.LackLaws.{more_inside}
use Rattle.planning.proofs.HoldingLaws.{authorised_more, maximal_un, piece-maximal, groups_rise, held_are}

-- a person more makes a maximal group authorised
pub opens : (n : ℕ) (required : List ℕ) (g x : ℕ) → maximal n required g ≡ true → 1 ≤ x → x ≤ n → member x g ≡ false
    → authorised required (g + worth x) ≡ true
unfolding maximal_by tight
opens n required g x m l h out =
    ⊎_elim (λ (i : member x g ≡ true). absurd (never out i)) (λ (a : authorised required (g + worth x) ≡ true). a)
    (or_cases (member x g) (authorised required (g + worth x))
    (each_at n (λ i. member i g || authorised required (g + worth i)) (both (not (authorised required g)) (tight (authorised required) n g) m).1 x l h))

-- so an unauthorised group around it lies inside it
closed : (n : ℕ) (required : List ℕ) (g h : ℕ) → h < 2 ^ n → maximal n required g ≡ true → authorised required h ≡ false → inside g h ≡ true
    → inside h g ≡ true
closed n required g h small m u t =
    surely (λ e.
    let r = inside_fails h g e in
    never u (authorised_more required (g + worth r.0) h (opens n required g r.0 m r.1 (member_le n r.0 h small r.1 r.3) r.4)
    (more_inside r.0 g h r.1 r.4 r.3 t)))

-- numbers that rise differ
pub rising : (f : ℕ → ℕ) (k i j : ℕ) → ((a b : ℕ) → 1 ≤ a → a < b → b ≤ k → f a < f b) → 1 ≤ i → i ≤ k → 1 ≤ j → j ≤ k → i ≢ j → f i ≢ f j
rising f k i j rise a b c d other same = elim (dec_le j i) [
  | yes h ↦ omega (arith, rise j i c (omega arith) b)
  | no h ↦ omega (arith, rise i j a (lt_of_not-le h) d)
]

module _ (n : ℕ) (required : List ℕ) (few : n ≤ 8) where
  pub groups-apart : (i j : ℕ) → 1 ≤ i → i ≤ piece_count n required → 1 ≤ j → j ≤ piece_count n required → i ≢ j
      → inside (group_of n required i) (group_of n required j) ≡ false
  groups-apart i j a b c d other =
      let g = piece-maximal n required i a b in
      let h = piece-maximal n required j c d in
      isn't (λ t.
      rising (group_of n required) (piece_count n required) i j (groups_rise n required) a b c d other
      (inside_both (group_of n required i) (group_of n required j) (group-small n _ few g.0) (group-small n _ few h.0) t
      (closed n required (group_of n required i) (group_of n required j) h.0 g.1 (maximal_un n required (group_of n required j) h.1) t)))

  -- the person whom the one group has and the other lacks, as a digit
  lacking : (m i j : ℕ) → n ≤ m → 1 ≤ i → i ≤ piece_count n required → 1 ≤ j → j ≤ piece_count n required → i ≢ j
      → (p : ℕ) × (p < m) × (digit p (group_of n required i) ≡ 1) × (digit p (group_of n required j) ≡ 0)
  lacking m i j l a b c d other =
      let r = inside_fails (group_of n required i) (group_of n required j) (groups-apart i j a b c d other) in
      let s = member_le n r.0 (group_of n required i) (piece-maximal n required i a b).0 r.1 r.3 in
      (r.0 - 1, omega arith, member_bit r.0 (group_of n required i) r.3, out_bit r.0 (group_of n required j) r.4)

  -- of n people, or of more
  apart : (m : ℕ) → n ≤ m → Apart m (piece_count n required) (group_of n required)
  apart m l = record {
    known = λ j a b. let p : 2 ^ n ≤ 2 ^ m = pow_mono l in omega (arith, (piece-maximal n required j a b).0);
    apart = λ i j a b c d other. lacking m i j l a b c d other;
  }

  pub few-groups : piece_count n required ≤ most n
  few-groups = few-apart n (piece_count n required) (group_of n required) few (apart n (le_refl n))

  -- so a table of 70 rows has room for them
  pub few-rows : piece_count n required ≤ 70
  few-rows = few-apart 8 (piece_count n required) (group_of n required) (le_refl 8) (apart 8 few)

  pub few-blocks : (i : ℕ) → 1 ≤ i → i ≤ n → length (held n required i) ≤ 35
  unfolding held holds
  few-blocks i l h =
      let own = held n required i in
      let piece : (a : ℕ) → 1 ≤ a → a ≤ length own → (1 ≤ at own a) × (at own a ≤ piece_count n required) × (holds n required i (at own a) ≡ true)
      = λ a p q. (held_are n required i (at own a)).0 (at_in 0 own (a - 1) (omega arith)) in
      let rise : (a b : ℕ) → 1 ≤ a → a < b → b ≤ length own → at own a < at own b
      = λ a b p q r. (those_rise (holds n required i) 1 (piece_count n required)).rise (a - 1) (b - 1) (omega arith) (omega arith) in
      let eight : 2 ^ n ≤ 2 ^ 8 = pow_mono few in
      few-without (i - 1) (length own) (λ a. group_of n required (at own a)) (omega arith)
      (record {
        known = λ a p q. let r = piece a p q in omega (arith, (piece-maximal n required (at own a) r.0 r.1).0);
        apart = λ a b p q r s other.
            let x = piece a p q in
            let y = piece b r s in
            lacking 8 (at own a) (at own b) few x.0 x.1 y.0 y.1 (rising (at own) (length own) a b rise p q r s other);
      })
      (λ a p q. out_bit i (group_of n required (at own a)) (not_so (member i (group_of n required (at own a))) (piece a p q).2))
