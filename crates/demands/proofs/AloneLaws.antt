-- A group of one person at most contains no required set: such a set has two members, who would both be in the group.
-- Assumes nothing.
use Prim.Native.Nat.{ℕ, ◌≤◌}
use mathlib.Core.Path.{◌≡◌}
use mathlib.Core.Bool.{true}
use native.Mathlib.Omega.{arith}
use Rattle.answer.specs.Laws.{Passed}
use Rattle.answer.proofs.CheckLaws.{passed-append}
use Rattle.planning.specs.Sets.{member}
use Rattle.planning.specs.Planned.{list_lines, plan_lines}
use Rattle.planning.specs.Laws.{Listed}
use Rattle.planning.proofs.Laws.{listed-means}
use Rattle.planning.proofs.SetLaws.{inside-at, member_le}
use Rattle.planning.proofs.CountLaws.{two_members}
use Rattle.dealing.specs.Deal.{Deal}
use Rattle.dealing.specs.Dealt.{Made}
use Rattle.dealing.proofs.MadeLaws.{made_in_range}
use Rattle.demands.specs.Group.{Contains, Member, AtMostOne}

-- the lists of a policy that planning accepts pass refusals 1 to 5 and 22
pub plan_listed : (d : Deal) → Passed (plan_lines d.policy) → Listed d.policy
unfolding plan_lines
plan_listed d passes = listed-means d.policy (passed-append (list_lines d.policy) passes).0

-- whoever is in a required set inside the group is a member of the group
required-member : (d : Deal) (g : ℕ) → Listed d.policy → (c : Contains d g) (i : ℕ) → 1 ≤ i → i ≤ 16 → member i c.set ≡ true → Member d g i
required-member d g l c i low high m = record {
  least = low;
  most = member_le d.policy.people i c.set (l.known-required c.set c.required) low m;
  among = inside-at c.set g c.within i low high m;
}

pub listed_lacks : (d : Deal) (g : ℕ) → Listed d.policy → AtMostOne d g → ¬ Contains d g
listed_lacks d g l one c =
    let t = two_members c.set (l.none_alone c.set c.required) in
    let low = required-member d g l c t.0 t.2 (omega arith) t.5 in
    let high = required-member d g l c t.1 (omega arith) t.4 t.6 in
    omega (arith, one t.0 t.1 low high)

pub alone_lacks : (d : Deal) → Made d → (g : ℕ) → AtMostOne d g → ¬ Contains d g
alone_lacks d made g = listed_lacks d g (plan_listed d (made_in_range d made).plan_passes)
