-- Where all pieces of a list are needed, each maximal group lacks one of them; and no two lack the same one, since with any person of the
-- other group more the one has all. So there are as many pieces as maximal groups.
-- Assumes nothing.
use mathlib.Core.Path.{◌≡◌, sym, ap, ◌∙◌}
use mathlib.Core.Bool.{false, not}
use mathlib.Core.List.{List}
use mathlib.Core.Logic.{◌≢◌}
use Prim.Native.Nat.{ℕ, ◌+◌, ◌-◌, ◌^◌, ◌≤◌, ◌<◌}
use native.Mathlib.Decide.{ℕ_discrete}
use native.Mathlib.Omega.{arith}
use Rattle.lists.specs.Places.{first_in}
use Rattle.lists.proofs.Truth.{never, not_so, so_not, surely}
use Rattle.lists.proofs.FirstLaws.{has_test, below_end, none_in}
use Rattle.chains.proofs.Pigeon.{pigeon}
use Rattle.planning.specs.Sets.{worth, member}
use Rattle.planning.specs.Groups.{piece_count, group_of}
use Rattle.planning.proofs.Laws.{accepted-listed, some-piece, groups-apart}
use Rattle.planning.proofs.SetLaws.{member_le, inside_fails, person_lt}
use Rattle.planning.proofs.LackLaws.{member-kept}
use Rattle.planning.proofs.HoldingLaws.{maximal_un, piece-maximal}
use Rattle.planning.proofs.ApartLaws.{opens}
use Rattle.holdings.specs.Holdings.{Holdings, has}
use Rattle.holdings.specs.Judged.{suits}
use Rattle.holdings.specs.Laws.{SuitsAll, Fewest, FewestJudged}
use Rattle.holdings.proofs.HaveLaws.{has_of, has-at, have-all, all_have}
use Rattle.holdings.proofs.JudgedLaws.{accepted, suits_exactly}

module _ (n : ℕ) (required : List ℕ) (l : Holdings) (few : n ≤ 8) (all : l.needed ≡ l.pieces) (suit : SuitsAll n required l) where
  abbrev group : ℕ → ℕ
  group j = group_of n required j

  -- the first piece of the list that the group of our piece j lacks
  lacked : ℕ → ℕ
  lacked j = first_in (λ q. not (has l (group j) q)) 1 (l.pieces + 1)

  -- there is one: the group is not authorised
  lacked_is : (j : ℕ) → 1 ≤ j → j ≤ piece_count n required → (1 ≤ lacked j) × (lacked j ≤ l.pieces) × (has l (group j) (lacked j) ≡ false)
  unfolding lacked
  lacked_is j a b = elim (ℕ_discrete (lacked j) 0) [
    | yes z ↦
        let g = piece-maximal n required j a b in
        let f = all_have l (group j) (λ q u v. surely (λ e. never (none_in (λ x. not (has l (group j) x)) 1 (l.pieces + 1) (omega arith) z q u (omega arith)) (so_not e))) in
        absurd (never (maximal_un n required (group j) g.1) ((suit (group j) g.0).1 (omega arith)))
    | no z ↦
        let r = has_test (λ x. not (has l (group j) x)) 1 (l.pieces + 1) z in
        (r.1, below_end (λ x. not (has l (group j) x)) l.pieces, not_so (has l (group j) (lacked j)) r.0)
  ]

  -- the group of piece i with a person more, from the group of piece j, has every piece; so the two groups do not lack one piece both
  differ : (i j : ℕ) → 1 ≤ i → i ≤ piece_count n required → 1 ≤ j → j ≤ piece_count n required → i ≢ j → (q : ℕ) → 1 ≤ q → q ≤ l.pieces
      → has l (group i) q ≡ false → has l (group j) q ≡ false → ⊥
  differ i j a b c d other q u v out-i out-j =
      let g = piece-maximal n required i a b in
      let h = piece-maximal n required j c d in
      let x = inside_fails (group j) (group i) (groups-apart n required few j i c d a b (λ e. other (sym e))) in
      let known = member_le n x.0 (group j) h.0 x.1 x.3 in
      let more = group i + worth x.0 in
      let small : more < 2 ^ n = person_lt n x.0 (group i) g.0 x.1 known x.4 in
      let full = (suit more small).0 (opens n required (group i) x.0 g.1 x.1 known x.4) in
      let y = has-at l more q (have-all l more (omega arith) q u v) in
      elim (ℕ_discrete y.0 x.0) [
        | yes e ↦ never out-j (has_of l (group j) q y.0 y.1 y.2 (ap (λ (z : ℕ). member z (group j)) e ∙ x.3) y.4)
        | no e ↦ never out-i (has_of l (group i) q y.0 y.1 y.2 (sym (member-kept x.0 y.0 (group i) x.1 y.1 x.4 e) ∙ y.3) y.4)
      ]

  fewest_groups : piece_count n required ≤ l.pieces
  fewest_groups =
      pigeon l.pieces (piece_count n required) (λ j. lacked j - 1)
      (λ j a b. let r = lacked_is j a b in omega arith)
      (λ i j a b c e.
      let r = lacked_is i a (omega arith) in
      let s = lacked_is j (omega arith) c in
      let same : lacked i ≡ lacked j = omega arith in
      differ i j a (omega arith) (omega arith) c (λ (z : i ≡ j). omega arith) (lacked i) r.0 r.1 r.2 (ap (has l (group j)) same ∙ s.2))

pub fewest : Fewest
fewest p l k e all suit =
    let some = some-piece p k e in
    omega (arith, fewest_groups p.people p.required l (accepted-listed p k e).few all suit)

pub fewest_judged : FewestJudged
fewest_judged p l k e all t =
    let a = accepted p l suits t in
    fewest p l k e all ((suits_exactly p l k e a.1).0 t)
