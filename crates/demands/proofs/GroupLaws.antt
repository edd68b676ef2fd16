-- What a group contains and holds: a required set or not, and so every piece or not.
-- Assumes nothing.
use Prim.Native.Nat.{ℕ, ◌≤◌}
use mathlib.Core.Path.{◌≡◌}
use mathlib.Core.Bool.{true, false}
use native.Mathlib.Omega.{arith}
use Rattle.lists.proofs.ThoseLaws.{in_those, those_in}
use Rattle.planning.specs.Sets.{member, inside}
use Rattle.lists.specs.Some.{◌∈◌}
use Rattle.planning.specs.Groups.{authorised, holds}
use Rattle.lists.proofs.Truth.{never, isn't}
use Rattle.lists.proofs.SomeLaws.{some_in, in_some}
use Rattle.planning.proofs.Laws as planning
use Rattle.dealing.specs.Deal.{Deal, deal_pieces, held_by}
use Rattle.dealing.proofs.HeldLaws.{held_in_lem, in_held}
use Rattle.demands.specs.Group.{Group, Contains, Member, members, gathers}

-- ---- the members
module _ (d : Deal) (g i : ℕ) where
  pub in_members : i ∈ members d g → Member d g i
  unfolding members
  in_members m =
      let r = in_those (λ i. member i g) 1 d.policy.people i m in
      record { least = r.0; most = omega arith; among = r.2 }

  pub members_in : Member d g i → i ∈ members d g
  unfolding members
  members_in m = those_in (λ i. member i g) 1 d.policy.people i m.least (omega (arith, m.most)) m.among

-- ---- a group that contains a required set is authorised, and no other is
module _ (d : Deal) (g : ℕ) where
  pub contains_so : Contains d g → authorised d.policy.required g ≡ true
  unfolding authorised
  contains_so c = in_some (λ r. inside r g) d.policy.required c.set c.required c.within

  pub so_contains : authorised d.policy.required g ≡ true → Contains d g
  unfolding authorised
  so_contains t = let r = some_in (λ r. inside r g) d.policy.required t in record { set = r.0; required = r.1; within = r.2 }

  pub contains_not : ¬ Contains d g → authorised d.policy.required g ≡ false
  contains_not n = isn't (λ t. n (so_contains t))

  -- ---- the pieces that it holds
  pub gathers_by : (i j : ℕ) → Member d g i → j ∈ held_by d i → gathers d g j ≡ true
  unfolding gathers
  gathers_by i j m has =
      in_some (λ h. holds d.policy.people d.policy.required h j) (members d g) i (members_in d g i m) (held_in_lem d i j has).2

  pub gathers_who : (j : ℕ) → 1 ≤ j → j ≤ deal_pieces d → gathers d g j ≡ true → (i : ℕ) × Member d g i × (j ∈ held_by d i)
  unfolding gathers
  gathers_who j l u t =
      let r = some_in (λ h. holds d.policy.people d.policy.required h j) (members d g) t in
      (r.0, in_members d g r.0 r.1, in_held d r.0 j l u r.2)

  module _ (few : d.policy.people ≤ 8) (group : Group d g) where
    -- one that contains a required set holds every piece
    pub all_held : Contains d g → (j : ℕ) → 1 ≤ j → j ≤ deal_pieces d → (i : ℕ) × Member d g i × (j ∈ held_by d i)
    unfolding deal_pieces
    all_held c j l u =
        let r = (planning.gathers d.policy.people d.policy.required few g group).0 (contains_so c) j l u in
        (r.0, record { least = r.1; most = r.2; among = r.3 }, in_held d r.0 j l u r.4)

    pub held_all : ((j : ℕ) → 1 ≤ j → j ≤ deal_pieces d → (i : ℕ) × Member d g i × (j ∈ held_by d i)) → Contains d g
    unfolding deal_pieces
    held_all h =
        so_contains ((planning.gathers d.policy.people d.policy.required few g group).1
        (λ j l u. let r = h j l u in (r.0, r.1.least, r.1.most, r.1.among, (held_in_lem d r.0 j r.2).2)))

    -- any other lacks one
    pub one_lost : ¬ Contains d g
        → (j : ℕ) × (1 ≤ j) × (j ≤ deal_pieces d) × ((i : ℕ) → Member d g i → holds d.policy.people d.policy.required i j ≡ false)
    unfolding deal_pieces
    one_lost n =
        let r = planning.lacks d.policy.people d.policy.required few g group (contains_not n) in
        (r.0, r.1, r.2, λ i m. r.4 i m.least m.most m.among)

    pub not_gathered : ¬ Contains d g → (j : ℕ) × (1 ≤ j) × (j ≤ deal_pieces d) × (gathers d g j ≡ false)
    not_gathered n =
        let r = one_lost n in (
          r.0,
          r.1,
          r.2,
          isn't (λ t. let w = gathers_who r.0 r.1 r.2 t in never (r.3 w.0 w.1) (held_in_lem d w.0 r.0 w.2).2),
        )
