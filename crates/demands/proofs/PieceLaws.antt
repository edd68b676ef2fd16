-- A group is maximal as planning tests it exactly when it is in the terms of SCOPE 2: unauthorised, and any person more authorises it.
-- Assumes nothing.
use Prim.Native.Nat.{ℕ, ◌+◌}
use mathlib.Core.Path.{◌≡◌}
use mathlib.Core.Bool.{true, false, not, ◌||◌}
use mathlib.Core.Logic.{⊎_elim}
use Rattle.planning.specs.Sets.{worth, member}
use Rattle.planning.specs.Groups.{authorised, maximal, tight, maximal_by}
use Rattle.lists.proofs.Truth.{never, decided, both, and_both, or_l, or_r, or_cases, not_so, so_not}
use Rattle.lists.proofs.EachLaws.{each_at, each_of}
use Rattle.dealing.specs.Deal.{Deal}
use Rattle.demands.specs.Group.{Group}
use Rattle.demands.specs.Demand2.{Maximal}
use Rattle.demands.proofs.GroupLaws.{contains_so, so_contains, contains_not}

module _ (d : Deal) (g : ℕ) where
  pub is-maximal : Group d g → maximal d.policy.people d.policy.required g ≡ true → Maximal d g
  unfolding maximal_by tight
  is-maximal group t =
      let auth = authorised d.policy.required in
      let r = both (not (auth g)) (tight auth d.policy.people g) t in
      record {
        group = group;
        unauthorised = λ c. never (not_so (auth g) r.0) (contains_so d g c);
        adding = λ i l u e.
            so_contains d (g + worth i)
            (⊎_elim (λ (m : member i g ≡ true). absurd (never e m)) (λ (c : auth (g + worth i) ≡ true). c)
            (or_cases (member i g) (auth (g + worth i)) (each_at d.policy.people (λ k. member k g || auth (g + worth k)) r.1 i l u)));
      }

  pub maximal-is : Maximal d g → maximal d.policy.people d.policy.required g ≡ true
  unfolding maximal_by tight
  maximal-is m =
      let auth = authorised d.policy.required in
      and_both (so_not (contains_not d g m.unauthorised))
      (each_of d.policy.people (λ k. member k g || auth (g + worth k))
      (λ i l u.
      ⊎_elim (λ (t : member i g ≡ true). or_l (auth (g + worth i)) t)
      (λ (e : member i g ≡ false). or_r (member i g) (contains_so d (g + worth i) (m.adding i l u e)))
      (decided (member i g))))
