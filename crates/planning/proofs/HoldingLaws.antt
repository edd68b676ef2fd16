-- Who holds which pieces (000, Theorem 1): every unauthorised group lies in a maximal one, and authorised groups gather every piece.
-- Assumes nothing.
use mathlib.Core.Path.{◌≡◌, ap, ◌∙◌}
use mathlib.Core.Bool.{true, false, not, ◌||◌}
use mathlib.Core.List.{List}
use mathlib.Core.Logic.{◌↔◌, ⊎_elim}
use Prim.Native.Nat.{ℕ, zero, suc, ◌+◌, ◌-◌, ◌^◌, ◌≤◌, ◌<◌, zero-le}
use native.Mathlib.Omega.{arith}
use lib.ListN.{get_or}
use native.Mathlib.Nat.{eq-or-lt_of_le}
use lib.Pow.{pow_pos}
use Rattle.lists.proofs.ThoseLaws.{at_in, in_at, in_those, those_in, those_rise}
use Rattle.planning.specs.Sets.{worth, member, inside, member_count}
use Rattle.lists.specs.Some.{◌∈◌}
use Rattle.planning.specs.Groups.{authorised, tight, maximal_by, maximal, groups_by, groups, piece_count, group_of, holds, held}
use Rattle.lists.proofs.Truth.{never, decided, isn't, surely, both, and_both, neither, not_so, so_not}
use Rattle.lists.proofs.EachLaws.{each_fails}
use Rattle.planning.proofs.SetLaws.{back, member_le, inside-at, inside_fails, inside_refl, inside_trans, inside_more, inside_empty, group-small, person_lt}
use Rattle.planning.proofs.CountLaws.{two_members, worth_in, worth-only, worth_lt}
use Rattle.lists.proofs.SomeLaws.{some_in, in_some}

-- ---- authorised groups
pub authorised_more : (required : List ℕ) (g h : ℕ) → authorised required g ≡ true → inside g h ≡ true → authorised required h ≡ true
unfolding authorised
authorised_more required g h t i =
    let r = some_in (λ s. inside s g) required t in
    in_some (λ s. inside s h) required r.0 r.1 (inside_trans r.0 g h r.2 i)

pub authorised-required : (required : List ℕ) (s : ℕ) → s ∈ required → authorised required s ≡ true
unfolding authorised
authorised-required required s m = in_some (λ r. inside r s) required s m (inside_refl s)

-- ---- maximal groups
pub maximal_un : (n : ℕ) (required : List ℕ) (g : ℕ) → maximal n required g ≡ true → authorised required g ≡ false
unfolding maximal_by
maximal_un n required g t = not_so (authorised required g) (both (not (authorised required g)) (tight (authorised required) n g) t).0

-- an unauthorised group that is not maximal is unauthorised with some person more
widen : (n : ℕ) (required : List ℕ) (g : ℕ) → authorised required g ≡ false → maximal n required g ≡ false
    → (i : ℕ) × (1 ≤ i) × (i ≤ n) × (member i g ≡ false) × (authorised required (g + worth i) ≡ false)
unfolding maximal_by tight
widen n required g u e =
    let r = each_fails n (λ i. member i g || authorised required (g + worth i)) (isn't (λ t. never e (and_both (so_not u) t))) in
    let s = neither (member r.0 g) (authorised required (g + worth r.0)) r.3 in
    (r.0, r.1, r.2, s.0, s.1)

-- every unauthorised group lies inside a maximal one; d is how many numbers are left above it
grow : (n : ℕ) (required : List ℕ) (d g : ℕ) → 2 ^ n ≤ g + d → g < 2 ^ n → authorised required g ≡ false
    → (m : ℕ) × (m < 2 ^ n) × (maximal n required m ≡ true) × (inside g m ≡ true)
grow n required zero g room h u = absurd (omega arith)
grow n required (suc d) g room h u =
    ⊎_elim (λ (t : maximal n required g ≡ true). (g, h, t, inside_refl g))
    (λ (e : maximal n required g ≡ false).
    let w = widen n required g u e in
    let r = grow n required d (g + worth w.0) (omega (arith, pow_pos (w.0 - 1))) (person_lt n w.0 g h w.1 w.2 w.3) w.4 in
    (r.0, r.1, r.2, inside_trans g (g + worth w.0) r.0 (inside_more w.0 g w.3) r.3))
    (decided (maximal n required g))

module _ (n : ℕ) (required : List ℕ) where
  -- ---- the groups of the pieces
  pub piece-maximal : (j : ℕ) → 1 ≤ j → j ≤ piece_count n required → (group_of n required j < 2 ^ n) × (maximal n required (group_of n required j) ≡ true)
  unfolding groups_by
  piece-maximal j l h =
      let r = in_those (maximal n required) 0 (2 ^ n) (group_of n required j) (at_in 0 (groups n required) (j - 1) (omega arith)) in
      (omega (arith, r.1), r.2)

  maximal-piece : (g : ℕ) → g < 2 ^ n → maximal n required g ≡ true → (j : ℕ) × (1 ≤ j) × (j ≤ piece_count n required) × (group_of n required j ≡ g)
  unfolding groups_by
  maximal-piece g h t =
      let r = in_at 0 (groups n required) g (those_in (maximal n required) 0 (2 ^ n) g zero-le (omega arith) t) in
      (suc r.0, omega arith, r.1, ap (λ (x : ℕ). get_or (groups n required) x 0) (back r.0) ∙ r.2)

  pub groups_are : (g : ℕ) → ((g < 2 ^ n) × (maximal n required g ≡ true)) ↔ ((j : ℕ) × (1 ≤ j) × (j ≤ piece_count n required) × (group_of n required j ≡ g))
  groups_are g = (
    (λ h. maximal-piece g h.0 h.1),
    (λ j.
        let r = piece-maximal j.0 j.1 j.2 in
        rw j.3 at r),
  )

  pub groups_rise : (i j : ℕ) → 1 ≤ i → i < j → j ≤ piece_count n required → group_of n required i < group_of n required j
  unfolding groups_by
  groups_rise i j l p h = (those_rise (maximal n required) 0 (2 ^ n)).rise (i - 1) (j - 1) (omega arith) (omega arith)

  -- ---- the pieces held are those of 1 to k that the person holds
  pub held_are : (i j : ℕ) → (j ∈ held n required i) ↔ ((1 ≤ j) × (j ≤ piece_count n required) × (holds n required i j ≡ true))
  unfolding held
  held_are i j = (
    (λ m. let r = in_those (holds n required i) 1 (piece_count n required) j m in (r.0, omega arith, r.2)),
    (λ r. those_in (holds n required i) 1 (piece_count n required) j r.0 (omega arith) r.2),
  )

  -- ---- an unauthorised group lacks the piece of a maximal group around it
  pub lacks : n ≤ 8 → (g : ℕ) → g < 2 ^ n → authorised required g ≡ false
      → (j : ℕ) × (1 ≤ j) × (j ≤ piece_count n required) × (inside g (group_of n required j) ≡ true)
      × ((i : ℕ) → 1 ≤ i → i ≤ n → member i g ≡ true → holds n required i j ≡ false)
  unfolding holds
  lacks few g h u =
      let m = grow n required (2 ^ n) g (omega arith) h u in
      let p = maximal-piece m.0 m.1 m.2 in
      let around : inside g (group_of n required p.0) ≡ true = rw p.3 m.3 in
      (p.0, p.1, p.2, around, λ i l k t. rw (inside-at g (group_of n required p.0) around i l (omega arith) t))

  -- ---- the members of a group have every piece between them exactly when it is authorised
  pub gathers : n ≤ 8 → (g : ℕ) → g < 2 ^ n
      → (authorised required g ≡ true)
      ↔ ((j : ℕ) → 1 ≤ j → j ≤ piece_count n required → (i : ℕ) × (1 ≤ i) × (i ≤ n) × (member i g ≡ true) × (holds n required i j ≡ true))
  unfolding holds
  gathers few g h = (
    (λ t j l k.
        let out : inside g (group_of n required j) ≡ false
        = isn't (λ u. never (maximal_un n required (group_of n required j) (piece-maximal j l k).1) (authorised_more required g (group_of n required j) t u)) in
        let r = inside_fails g (group_of n required j) out in
        (r.0, r.1, member_le n r.0 g h r.1 r.3, r.3, so_not r.4)),
    (λ all. surely (λ u.
        let w = lacks few g h u in
        let r = all w.0 w.1 w.2 in
        never (w.4 r.0 r.1 r.2 r.3) r.4)),
  )

  -- ---- k is not 0 where no required set is empty
  pub empty_un : n ≤ 8 → ((s : ℕ) → s ∈ required → s < 2 ^ n) → ((s : ℕ) → s ∈ required → 1 ≤ s) → authorised required 0 ≡ false
  unfolding authorised
  empty_un few known none =
      isn't (λ t.
      let r = some_in (λ (s : ℕ). inside s 0) required t in
      inside_empty r.0 (none r.0 r.1) (group-small n r.0 few (known r.0 r.1)) r.2)

  -- a person alone is unauthorised, where each required set has two members
  one_un : ((s : ℕ) → s ∈ required → 2 ≤ member_count s) → (i : ℕ) → 1 ≤ i → authorised required (worth i) ≡ false
  unfolding authorised
  one_un two i l =
      isn't (λ t.
      let r = some_in (λ (s : ℕ). inside s (worth i)) required t in
      let m = two_members r.0 (two r.0 r.1) in
      let at = inside-at r.0 (worth i) r.2 in
      let low = worth-only i m.0 l m.2 (at m.0 m.2 (omega arith) m.5) in
      let high = worth-only i m.1 l (omega arith) (at m.1 (omega arith) m.4 m.6) in
      omega arith)

  -- so, where somebody is not in the group of piece 1, there is another piece, whose group has that person
  another : n ≤ 8 → ((s : ℕ) → s ∈ required → 2 ≤ member_count s) → (i : ℕ) → 1 ≤ i → i ≤ n → member i (group_of n required 1) ≡ false
      → 2 ≤ piece_count n required
  another few two i l h out =
      let p = lacks few (worth i) (worth_lt n i l h) (one_un two i l) in
      let there : member i (group_of n required p.0) ≡ true = inside-at (worth i) (group_of n required p.0) p.3 i l (omega arith) (worth_in i) in
      ⊎_elim (λ (e : 1 ≡ p.0). absurd (never out (ap (λ (j : ℕ). member i (group_of n required j)) e ∙ there)))
      (λ (more : 1 < p.0). omega (arith, p.2))
      (eq-or-lt_of_le p.1)

  -- ---- k is 2 at least: the group of piece 1 lacks somebody of any required set
  pub two_pieces : n ≤ 8 → ((s : ℕ) → s ∈ required → s < 2 ^ n) → ((s : ℕ) → s ∈ required → 2 ≤ member_count s) → (s : ℕ) → s ∈ required
      → 1 ≤ piece_count n required → 2 ≤ piece_count n required
  two_pieces few known two s m one =
      let first = group_of n required 1 in
      let out : inside s first ≡ false
      = isn't (λ t. never (maximal_un n required first (piece-maximal 1 (omega arith) one).1) (authorised_more required s first (authorised-required required s m) t)) in
      let who = inside_fails s first out in
      another few two who.0 who.1 (member_le n who.0 s (known s m) who.1 who.3) who.4

  pub some-piece : n ≤ 8 → ((s : ℕ) → s ∈ required → s < 2 ^ n) → ((s : ℕ) → s ∈ required → 1 ≤ s) → 1 ≤ piece_count n required
  some-piece few known none =
      let p = lacks few 0 (pow_pos n) (empty_un few known none) in
      omega arith
