-- The minimal required sets: which they are, that an authorised group contains one of them whole, and what an unauthorised group lacks.
-- Assumes nothing.
use mathlib.Core.Path.{◌≡◌, refl, sym, ap, ◌∙◌}
use mathlib.Core.Bool.{Bool, true, false, not, ◌&&◌}
use mathlib.Core.List.{List}
use mathlib.Core.Logic.{◌↔◌, ◌≢◌, ⊎_elim}
use Prim.Native.Nat.{ℕ, suc, ◌+◌, ◌-◌, ◌^◌, ◌≤◌, ◌<◌, zero-le}
use native.Mathlib.Nat.{le_refl, eq-or-lt_of_le}
use native.Mathlib.Omega.{arith}
use lib.Dec.{eqb}
use lib.ListN.{length, get_or}
use lib.Bits.{bit_and, and_le_r}
use lib.Pow.{pow_mono}
use borrow.Author.Tests.{eq-eqb, eqb-true, eqb-false}
use Rattle.lists.specs.Places.{first_in, at, those}
use Rattle.lists.proofs.FirstLaws.{first_of}
use Rattle.lists.proofs.ThoseLaws.{at_in, in_at, in_those, those_in, those_rise}
use Rattle.lists.proofs.Truth.{never, decided, isn't, both, and_both, not_so, so_not}
use Rattle.chains.specs.Apart.{digit, Apart, most}
use Rattle.chains.proofs.ApartLaws.{few-apart, few_with}
use Rattle.planning.specs.Sets.{member, inside, member_count}
use Rattle.lists.specs.Some.{◌∈◌, some}
use Rattle.planning.specs.Groups.{authorised}
use Rattle.planning.proofs.SetLaws.{back, inside_fails, inside_refl, inside_trans, inside_test, inside_both, group-small, member_le, member_bit, out_bit}
use Rattle.lists.proofs.SomeLaws.{some_in, in_some}
use Rattle.planning.proofs.HoldingLaws.{authorised-required}
use Rattle.planning.proofs.ApartLaws.{rising}
use Rattle.minimal.specs.Minimal.{within, least, minimals, set_count, set_of, sets_with, number_in}
use Rattle.minimal.specs.Laws.{Known}
use Rattle.minimal.proofs.CountLaws.{member-piece, pieces-differ}

-- ---- a set inside another has no larger number
inside_le : (a b : ℕ) → a < 2 ^ 16 → inside a b ≡ true → a ≤ b
inside_le a b h t = let e : bit_and a b ≡ a = eqb-true _ _ (inside_test a b h ∙ t) in omega (arith, and_le_r a b)

-- ---- a required set in which no other lies
Alone : List ℕ → ℕ → Type 0
Alone required g = (g ∈ required) × ((r : ℕ) → r ∈ required → inside r g ≡ true → r ≡ g)

least_alone : (required : List ℕ) (g : ℕ) → least required g ≡ true → Alone required g
unfolding least within Alone
least_alone required g t =
    let b = both (some (eqb g) required) (not (some (within g) required)) t in
    let r = some_in (eqb g) required b.0 in
    let e : g ≡ r.0 = eqb-true _ _ r.2 in (
      rw e r.1,
      λ x m i. ⊎_elim (λ (same : eqb x g ≡ true). eqb-true _ _ same)
          (λ (other : eqb x g ≡ false). absurd (never (not_so _ b.1) (in_some (within g) required x m (and_both (so_not other) i))))
          (decided (eqb x g)),
    )

alone_least : (required : List ℕ) (g : ℕ) → Alone required g → least required g ≡ true
unfolding least within Alone
alone_least required g a =
    and_both (in_some (eqb g) required g a.0 (eq-eqb g g refl))
    (so_not (isn't (λ t.
    let r = some_in (within g) required t in
    let b = both (not (eqb r.0 g)) (inside r.0 g) r.2 in
    eqb-false r.0 g (not_so (eqb r.0 g) b.0) (a.1 r.0 r.1 b.1))))

-- ---- a set that is not inside a group has a first member outside it
-- the first member of the set that is outside the group g, or 0
unfoldable pub outsider : ℕ → ℕ → ℕ
outsider set g = first_in (λ i. member i set && not (member i g)) 1 17

outsider_is : (set g : ℕ) → inside set g ≡ false
    → (1 ≤ outsider set g) × (outsider set g ≤ 16) × (member (outsider set g) set ≡ true) × (member (outsider set g) g ≡ false)
unfolding outsider
outsider_is set g e =
    let test : ℕ → Bool = λ i. member i set && not (member i g) in
    let r = inside_fails set g e in
    let f = (first_of test 1 17 r.0 r.1 (omega (arith, r.2)) (and_both r.3 (so_not r.4))).0 in
    let b = both (member (first_in test 1 17) set) (not (member (first_in test 1 17) g)) f.has in
    (f.from, omega (arith, f.to), b.0, not_so (member (first_in test 1 17) g) b.1)

-- the piece of set s that the group g lacks: that of the set's first member outside g
unfoldable pub lacking : ℕ → List ℕ → ℕ → ℕ → ℕ
lacking n required g s = number_in (set_of n required s) (outsider (set_of n required s) g)

module _ (n : ℕ) (required : List ℕ) where
  -- ---- their places
  pub set-places : (g : ℕ) → (g ∈ minimals n required) ↔ ((s : ℕ) × (1 ≤ s) × (s ≤ set_count n required) × (set_of n required s ≡ g))
  set-places g = (
    (λ m.
        let r = in_at 0 (minimals n required) g m in
        (suc r.0, omega arith, r.1, ap (λ (x : ℕ). get_or (minimals n required) x 0) (back r.0) ∙ r.2)),
    (λ s. rw s.3 at (at_in 0 (minimals n required) (s.0 - 1) (omega (arith, s.1, s.2)))),
  )

  pub set_in : (s : ℕ) → 1 ≤ s → s ≤ set_count n required → set_of n required s ∈ minimals n required
  set_in s l h = at_in 0 (minimals n required) (s - 1) (omega arith)

  pub sets_rise : (s t : ℕ) → 1 ≤ s → s < t → t ≤ set_count n required → set_of n required s < set_of n required t
  unfolding minimals
  sets_rise s t l p h = (those_rise (least required) 0 (2 ^ n)).rise (s - 1) (t - 1) (omega arith) (omega arith)

  minimal_least : (g : ℕ) → g ∈ minimals n required → (g < 2 ^ n) × Alone required g
  unfolding minimals
  minimal_least g m = let r = in_those (least required) 0 (2 ^ n) g m in (omega (arith, r.1), least_alone required g r.2)

  -- ---- none lies inside another, so they are few
  pub sets-apart : (g h : ℕ) → g ∈ minimals n required → h ∈ minimals n required → inside g h ≡ true → g ≡ h
  unfolding Alone
  sets-apart g h m q i = (minimal_least h q).1.1 g (minimal_least g m).1.0 i

  -- a person whom the one set has and the other lacks, as a digit: they are groups of n people, or of more
  lacked : (m s t : ℕ) → n ≤ m → 1 ≤ s → s ≤ set_count n required → 1 ≤ t → t ≤ set_count n required → s ≢ t
      → (p : ℕ) × (p < m) × (digit p (set_of n required s) ≡ 1) × (digit p (set_of n required t) ≡ 0)
  lacked m s t few a b c d other =
      let g = set_of n required s in
      let h = set_of n required t in
      let r = inside_fails g h (isn't (λ i.
      rising (set_of n required) (set_count n required) s t sets_rise a b c d other (sets-apart g h (set_in s a b) (set_in t c d) i))) in
      let q = member_le n r.0 g (minimal_least g (set_in s a b)).0 r.1 r.3 in
      (r.0 - 1, omega arith, member_bit r.0 g r.3, out_bit r.0 h r.4)

  below : (m s : ℕ) → n ≤ m → 1 ≤ s → s ≤ set_count n required → set_of n required s < 2 ^ m
  below m s few a b = let p : 2 ^ n ≤ 2 ^ m = pow_mono few in omega (arith, (minimal_least (set_of n required s) (set_in s a b)).0)

  apart : (m : ℕ) → n ≤ m → Apart m (set_count n required) (set_of n required)
  apart m few = record { known = λ s a b. below m s few a b; apart = λ s t a b c d other. lacked m s t few a b c d other }

  pub few-sets : n ≤ 8 → set_count n required ≤ most n
  few-sets few = few-apart n (set_count n required) (set_of n required) few (apart n (le_refl n))

  -- so an array of 70 has room for them
  pub seventy : n ≤ 8 → set_count n required ≤ 70
  seventy few = few-apart 8 (set_count n required) (set_of n required) (le_refl 8) (apart 8 few)

  -- those that person i is in
  pub few-held : n ≤ 8 → (i : ℕ) → 1 ≤ i → i ≤ n → length (sets_with (minimals n required) i (set_count n required)) ≤ 35
  unfolding sets_with
  few-held few i l h =
      let has : ℕ → Bool = λ s. member i (set_of n required s) in
      let own = those has 1 (set_count n required) in
      let set : (a : ℕ) → 1 ≤ a → a ≤ length own → (1 ≤ at own a) × (at own a < 1 + set_count n required) × (has (at own a) ≡ true)
      = λ a p q. in_those has 1 (set_count n required) (at own a) (at_in 0 own (a - 1) (omega arith)) in
      let rise : (a b : ℕ) → 1 ≤ a → a < b → b ≤ length own → at own a < at own b
      = λ a b p q r. (those_rise has 1 (set_count n required)).rise (a - 1) (b - 1) (omega arith) (omega arith) in
      few_with (i - 1) (length own) (λ a. set_of n required (at own a)) (omega arith)
      (record {
        known = λ a p q. let r = set a p q in below 8 (at own a) few r.0 (omega (arith, r.1));
        apart = λ a b p q r s other.
            let x = set a p q in
            let y = set b r s in
            lacked 8 (at own a) (at own b) few x.0 (omega (arith, x.1)) y.0 (omega (arith, y.1)) (rising (at own) (length own) a b rise p q r s other);
      })
      (λ a p q. member_bit i (set_of n required (at own a)) (set a p q).2)

  module _ (k : Known n required) where
    small : (g : ℕ) → g < 2 ^ n → g < 2 ^ 16
    small g h = group-small n g k.few h

    listed_small : (g : ℕ) → g ∈ required → g < 2 ^ 16
    listed_small g m = small g (k.known g m)

    alone_minimal : (g : ℕ) → Alone required g → g ∈ minimals n required
    unfolding minimals Alone
    alone_minimal g a =
        those_in (least required) 0 (2 ^ n) g zero-le (omega (arith, k.known g a.0)) (alone_least required g a)

    pub the_sets : (g : ℕ) → (g ∈ minimals n required) ↔ ((g ∈ required) × ((r : ℕ) → r ∈ required → inside r g ≡ true → r ≡ g))
    unfolding Alone
    the_sets g = ((λ m. (minimal_least g m).1), alone_minimal g)

    -- what a minimal set is: of n people, and not empty
    pub minimal_in : (g : ℕ) → g ∈ minimals n required → (g < 2 ^ n) × (1 ≤ g)
    minimal_in g m = let r = ((the_sets g).0 m).0 in (k.known g r, k.none_empty g r)

    -- ---- of the required sets inside a group the one with the least number is minimal
    lowest : (g r : ℕ) → r ∈ required → inside r g ≡ true → (m : ℕ) × (m ∈ minimals n required) × (inside m g ≡ true)
    unfolding Alone
    lowest g r q i =
        let test : ℕ → Bool = λ x. some (eqb x) required && inside x g in
        let f = (first_of test 0 (2 ^ n) r zero-le (k.known r q) (and_both (in_some (eqb r) required r q (eq-eqb r r refl)) i)).0 in
        let m = first_in test 0 (2 ^ n) in
        let b = both (some (eqb m) required) (inside m g) f.has in
        let s = some_in (eqb m) required b.0 in
        let e : m ≡ s.0 = eqb-true _ _ s.2 in
        let listed : m ∈ required = rw e s.1 in (
          m,
          alone_minimal m (
            listed,
            λ x p j.
                ⊎_elim (λ (same : x ≡ m). same)
                (λ (less : x < m). absurd (never (f.least x zero-le less)
                (and_both (in_some (eqb x) required x p (eq-eqb x x refl)) (inside_trans x m g j b.1))))
                (eq-or-lt_of_le (inside_le x m (listed_small x p) j)),
          ),
          b.1,
        )

    authorised-some : (g : ℕ) → authorised required g ≡ true → (m : ℕ) × (m ∈ minimals n required) × (inside m g ≡ true)
    unfolding authorised
    authorised-some g t = let r = some_in (λ x. inside x g) required t in lowest g r.0 r.1 r.2

    some-authorised : (g m : ℕ) → m ∈ minimals n required → inside m g ≡ true → authorised required g ≡ true
    unfolding authorised
    some-authorised g m q i = in_some (λ x. inside x g) required m ((the_sets m).0 q).0 i

    pub contains_one : (g : ℕ)
        → (authorised required g ≡ true) ↔ ((s : ℕ) × (1 ≤ s) × (s ≤ set_count n required) × (inside (set_of n required s) g ≡ true))
    contains_one g = (
      (λ t.
          let r = authorised-some g t in
          let p = (set-places r.0).0 r.1 in
          (p.0, p.1, p.2, ap (λ (x : ℕ). inside x g) p.3 ∙ r.2)),
      (λ p. some-authorised g (set_of n required p.0) (set_in p.0 p.1 p.2) p.3),
    )

    -- ---- they are the minimal authorised groups
    pub minimal_groups : (g : ℕ)
        → (g ∈ minimals n required)
        ↔ ((g < 2 ^ n) × (authorised required g ≡ true) × ((h : ℕ) → h < 2 ^ n → authorised required h ≡ true → inside h g ≡ true → h ≡ g))
    minimal_groups g = (
      (λ m.
          let a = (the_sets g).0 m in
          let l = (minimal_in g m).0 in (
            l,
            authorised-required required g a.0,
            λ h p t i.
                let r = authorised-some h t in
                let e : r.0 ≡ g = a.1 r.0 ((the_sets r.0).0 r.1).0 (inside_trans r.0 h g r.2 i) in
                inside_both h g (small h p) (small g l) i (rw e at r.2),
          )),
      (λ a.
          let r = authorised-some g a.1 in
          let q = (minimal_in r.0 r.1).0 in
          let e : r.0 ≡ g = a.2 r.0 q (some-authorised r.0 r.0 r.1 (inside_refl r.0)) r.2 in
          rw e at r.1),
    )

    -- ---- an unauthorised group has a member of each set outside it, who alone has that piece
    pub lacks_of_each : (g : ℕ) → authorised required g ≡ false → (s : ℕ) → 1 ≤ s → s ≤ set_count n required
        → (1 ≤ lacking n required g s) × (lacking n required g s ≤ member_count (set_of n required s))
        × ((i : ℕ) → 1 ≤ i → member i g ≡ true → member i (set_of n required s) ≡ true → number_in (set_of n required s) i ≢ lacking n required g s)
    unfolding lacking
    lacks_of_each g u s l h =
        let set = set_of n required s in
        let r = outsider_is set g (isn't (λ t. never u (some-authorised g set (set_in s l h) t))) in
        let p = member-piece set (outsider set g) r.0 r.1 r.2 in (
          p.0,
          p.1,
          λ i a t q e.
              never r.3 (ap (λ (x : ℕ). member x g) (sym (pieces-differ set i (outsider set g) a r.0 q r.2 e)) ∙ t),
        )
