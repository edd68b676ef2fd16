-- What lists have on which refusals 1 to 5 and 22 pass. Assumes nothing.
use mathlib.Core.Path.{◌≡◌}
use Prim.Native.Nat.{ℕ, ◌^◌, ◌≤◌, ◌<◌}
use native.Mathlib.Omega.{arith}
use lib.Dec.{eqb, ltb}
use lib.ListN.{length}
use borrow.Author.Tests.{ltb-false, leb-false, eqb-false}
use Rattle.answer.specs.Laws.{Passed}
use Rattle.answer.proofs.CheckLaws.{passed}
use Rattle.planning.specs.Sets.{stranger, one_member}
use Rattle.planning.specs.Policy.{Policy}
use Rattle.planning.specs.Planned.{people, long, strangers, nobody, opens, lone, list_lines}
use Rattle.planning.specs.Laws.{Listed}
use Rattle.lists.proofs.Truth.{neither}
use Rattle.lists.specs.Some.{◌∈◌}
use Rattle.lists.proofs.SomeLaws.{none_found}
use Rattle.planning.proofs.SetLaws.{group-small}
use Rattle.planning.proofs.CountLaws.{not_alone}

pub listed : (p : Policy) → Passed (list_lines p) → Listed p
unfolding list_lines people long strangers nobody opens lone stranger
listed p h =
    let p1 = passed h in
    let p2 = passed p1.1 in
    let p3 = passed p2.1 in
    let p4 = passed p3.1 in
    let p5 = passed p4.1 in
    let p6 = passed p5.1 in
    let p7 = passed p6.1 in
    let p8 = passed p7.1 in
    let n1 = neither (eqb p.people 0) (ltb 8 p.people) p1.0 in
    let some-people : p.people ≡ 0 → ⊥ = eqb-false _ _ n1.0 in
    let some-sets : length p.required ≡ 0 → ⊥ = eqb-false _ _ p6.0 in
    let few : p.people ≤ 8 = ltb-false _ _ n1.1 in
    let known : (s : ℕ) → s ∈ p.required → s < 2 ^ p.people = λ s m. leb-false _ _ (none_found (stranger p.people) p.required p4.0 s m) in
    let some : (s : ℕ) → s ∈ p.required → 1 ≤ s
    = λ s m. let h : 0 ≡ s → ⊥ = eqb-false _ _ (none_found (eqb 0) p.required p7.0 s m) in omega arith in
    record {
      somebody = omega arith;
      few = few;
      short-required = ltb-false _ _ p2.0;
      short-forbidden = ltb-false _ _ p3.0;
      known-required = known;
      known-forbidden = λ s m. leb-false _ _ (none_found (stranger p.people) p.forbidden p5.0 s m);
      some-required = omega arith;
      none_empty = some;
      none_alone = λ s m. not_alone s (group-small p.people s few (known s m)) (some s m) (none_found one_member p.required p8.0 s m);
    }
