-- `joining::checks::check_whole` meets its contract: at each return the lines before have passed.
-- Assumes nothing.
use mathlib.Core.Path.{◌≡◌, sym, ap, ◌∙◌}
use mathlib.Core.List.{List, [], ◌∷◌}
use Prim.Native.Nat.{ℕ, ◌≤◌}
use Rattle.std.specs.Prelude.{⊤, Option, None, Result, Ok, Err, IfOk}
use Rattle.answer.specs.declared.Refusal.{Refusal}
use Rattle.answer.specs.Outcome.{checked, refused}
use Rattle.answer.proofs.PassedOn.{passed_on}
use Rattle.answer.proofs.SaysLaws.{said, Says, whole, passes, speaks, part_speaks, part_passes}
use Rattle.lists.specs.Places.{placed}
use Rattle.lists.proofs.FirstLaws.{found_none, placed_some, placed_none, placed_found}
use Rattle.pile.specs.Blocks.{blocks, TrueBlocks}
use Rattle.joining.specs.Checks.{mixed_at, conflict, short, whole_lines}
use Rattle.joining.specs.Inner.{Unmixed}
use Rattle.joining.proofs.PileLaws.{unmixed}
use Rattle.joining.proofs.checks.check_whole.Goals as goal

-- past MIXED the pile is of one deal, and CONFLICT and SHORT are left; past CONFLICT, SHORT alone
module _ (p : List ℕ) {r : Option ℕ} (e : r ≡ placed (mixed_at p)) (q : r ≡ None) where
  none : mixed_at p ≡ 0
  none = placed_none _ e q

  one_deal : (1 ≤ blocks p) × (blocks p ≤ 560) → TrueBlocks p → Unmixed p
  one_deal b t = unmixed p b.0 t none

  left1 : Says (said (whole_lines p)) (conflict p ∷ short p ∷ [])
  left1 = passes (whole _) (found_none none)

  left2 : {x : Result ⊤ Refusal} {u : ⊤} → checked x ≡ said (conflict p ∷ []) → x ≡ Ok u → Says (said (whole_lines p)) (short p ∷ [])
  left2 s q = part_passes (conflict p ∷ []) (short p ∷ []) left1 s q

-- what holds whatever SHORT says
kept : {P : Type 0} (x : Result ⊤ Refusal) → P → IfOk x (λ _. P)
kept (Ok u) p = p
kept (Err r) p = tt

pub returns-in-Some : goal.returns-in-Some
returns-in-Some c =
    let e = c.mixed_at.ensures in
    let r = c.refuse.ensures in
    record {
      says = ap checked r ∙ ap (λ a. refused 18 a 0) (sym (placed_some _ e c.in-Some.is)) ∙ speaks (whole _) (placed_found _ e c.in-Some.is);
      table = rw r tt;
    }

pub own_deal-own-requires : goal.own_deal-own-requires
own_deal-own-requires c =
    one_deal c.args.pile.now c.mixed_at.ensures c.in_default.is c.requires.bound c.requires.true_blocks

pub fill_places-requires : goal.fill_places-requires
fill_places-requires c =
    let u = one_deal c.args.pile.now c.mixed_at.ensures c.in_default.is c.requires.bound c.requires.true_blocks in
    record { unmixed = u; pile_bound = c.requires.bound.1; table_value = c.requires.table_value }

pub invariant_of-sorted : goal.invariant_of-sorted
invariant_of-sorted c =
    let u = one_deal c.args.pile.now c.mixed_at.ensures c.in_default.is c.requires.bound c.requires.true_blocks in
    record { unmixed = u; few = c.requires.bound.1; own_is = c.own_deal-own.ensures; places_are = c.fill_places.ensures }

pub returns-in_err-check_conflict : goal.returns-in_err-check_conflict
returns-in_err-check_conflict c =
    let left = left1 c.args.pile.now c.mixed_at.ensures c.in_default.is in
    let e = passed_on c.from_residual.ensures.1 in
    record { says = ap checked e ∙ part_speaks (conflict c.args.pile.now ∷ []) _ left c.check_conflict.ensures c.in_err-check_conflict.was; table = rw e tt }

pub returns : goal.returns
returns c =
    let left = left2 c.args.pile.now c.mixed_at.ensures c.in_default.is c.check_conflict.ensures c.in_ok-check_conflict.was in
    record { says = c.check_short.ensures ∙ sym left.says; table = kept _ c.fill_places.ensures }
