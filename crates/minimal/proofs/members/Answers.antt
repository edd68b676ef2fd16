-- `minimal::members` meets its contract: what is counted is the members among the first persons. Assumes nothing.
use mathlib.Core.Path.{◌≡◌, refl, sym, ap, ◌∙◌}
use mathlib.Core.Bool.{Bool, cond}
use mathlib.Core.List.{List, [], ◌∷◌, ◌++◌, map}
use Prim.Native.Nat.{ℕ, zero, suc, ◌+◌}
use native.Mathlib.Numerals.{add-one}
use native.Mathlib.Omega.{arith}
use lib.ListN.{length}
use Rattle.std.specs.List.{filter, range_with_len}
use Rattle.std.proofs.Common.{rules, tests}
use Rattle.std.proofs.lemmas.List.{map-id}
use Rattle.std.proofs.lemmas.List.FromFn.{filter_of_map_range_with_len_more}
use Rattle.std.proofs.lemmas.Iterator.{YieldsList-from_range}
use Rattle.std.proofs.lemmas.Iterator.Consumers.{YieldsList-from_filter, count_from_yields_List}
use Rattle.lists.specs.Places.{those}
use Rattle.planning.specs.Sets.{member}
use Rattle.minimal.specs.Minimal.{counted}
use Rattle.minimal.proofs.members.Goals as goal

-- the numbers from 1 on that have the test, by the library's `filter`
filtered : (p : ℕ → Bool) (n : ℕ) → filter p (map (λ x. x) (range_with_len 1 n)) ≡ those p 1 n
unfolding those
filtered p zero = refl
filtered p (suc n) =
    ap (λ (k : ℕ). filter p (map (λ x. x) (range_with_len 1 k))) (sym (add-one n))
    ∙ filter_of_map_range_with_len_more p (λ x. x) 1 n (1 + n) refl
    ∙ ap (λ (l : List ℕ). l ++ cond (p (1 + n)) ((1 + n) ∷ []) []) (filtered p n)

pub returns : goal.returns
unfolding counted
returns c =
    let p : ℕ → Bool = λ i. member i c.args.set in
    count_from_yields_List _ _ c.count.ensures.ran (YieldsList-from_filter _ p (YieldsList-from_range 1 (c.args.last + 1) c.args.last c.filter.ensures.source (omega arith)) c.filter.ensures.closure (λ x r q h. search (rules, tests)))
    ∙ ap (λ (l : List ℕ). length (filter p l)) (sym (map-id (range_with_len 1 c.args.last)))
    ∙ ap length (filtered p c.args.last)
