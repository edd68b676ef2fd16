-- When planning's answer is CLASH, what it says of families of groups (000, Theorem 2), and at which places it is given.
-- Assumes nothing.
use mathlib.Core.Path.{◌≡◌, refl, sym, ◌∙◌}
use mathlib.Core.Bool.{Bool, true}
use mathlib.Core.List.{List, [], ◌∷◌}
use Prim.Native.Nat.{ℕ, ◌+◌, ◌-◌, ◌<◌}
use lib.ListN.{length, get_or}
use native.Mathlib.Omega.{arith}
use Rattle.std.specs.Prelude.{Option, Some, position}
use Rattle.answer.specs.declared.Kind.TheVariants.{Clash}
use Rattle.answer.specs.Outcome.{done, refused, number}
use Rattle.answer.specs.Checks.{first_fail}
use Rattle.lists.specs.Places.{first_place, found, at}
use Rattle.answer.specs.Laws.{Passed}
use Rattle.lists.specs.Laws.{IsFirst}
use Rattle.lists.specs.Some.{some}
use Rattle.answer.proofs.CheckLaws.{given, append-lines, passed_none, passed_one, passed-done}
use Rattle.answer.proofs.WhichLaws.{Gives, only_one, place_is}
use Rattle.planning.specs.Sets.{inside}
use Rattle.planning.specs.Groups.{authorised, piece_count}
use Rattle.planning.specs.Policy.{Policy}
use Rattle.planning.specs.Planned.{people, long, strangers, nobody, opens, lone, around_place, clash_place, clash, list_lines, plan_lines, planned}
use Rattle.planning.specs.Laws.{Listed, Suits, Clashes, ClashFamilies, ClashPlaces}
use Rattle.lists.proofs.Truth.{isn't, surely}
use Rattle.lists.proofs.SomeLaws.{some-place}
use Rattle.planning.proofs.FamilyLaws.{clash-none, authorised-suits}
use Rattle.planning.proofs.ListedLaws.{listed}
use Rattle.lists.proofs.FirstLaws.{found_some}
use Rattle.lists.proofs.AheadLaws.{PlaceAhead, here}
use Rattle.lists.proofs.PositionLaws.{position_found, position_is}
use Rattle.planning.proofs.PlannedLaws.{end}

-- ---- tests that agree have the same first place
first_as : {t u : ℕ → Bool} {i e f : ℕ} → ((k : ℕ) → t k ≡ u k) → IsFirst t i e f → IsFirst u i e f
first_as {f = f} same h = record { from = h.from; to = h.to; has = sym (same f) ∙ h.has; least = λ k l m. sym (same k) ∙ h.least k l m }

-- the sets that lie inside some forbidden set
abbrev pub clashing : List ℕ → ℕ → Bool
clashing forbidden r = found (around_place forbidden r)

module _ (p : Policy) where
  -- ---- CLASH
  -- the answer is CLASH: its line is given, with its places
  clash_speaks : (a b : ℕ) → planned p ≡ refused (number Clash) a b
      → Passed (list_lines p) × Gives (clash p.required p.forbidden) (number Clash) a b
  unfolding planned plan_lines list_lines people long strangers nobody opens lone clash some
  clash_speaks a b e =
      only_one (number Clash) (list_lines p) (clash p.required p.forbidden) []
      (piece_count p.people p.required) a b e refl refl

  -- past refusals 1 to 5 and 22
  past_lists : Passed (list_lines p) → planned p ≡ first_fail (clash p.required p.forbidden ∷ []) (end p)
  unfolding planned plan_lines
  past_lists h =
      let last = clash p.required p.forbidden ∷ [] in
      append-lines (list_lines p) last (end p) ∙ passed-done (list_lines p) (first_fail last (end p)) h

  clash-given : Passed (list_lines p) → (clash p.required p.forbidden).given ≡ true → Clashes p
  unfolding clash
  clash-given h t = (_, _, past_lists h ∙ given (clash p.required p.forbidden) [] (end p) t)

pub clash-places : ClashPlaces
unfolding clash clash_place
clash-places p a b e =
    let g = (clash_speaks p a b e).1 in
    let first = place_is (λ s. found (around_place p.forbidden s)) p.required g.given g.a-is in
    let lowest = first_as (λ k. sym (some-place (inside (at p.required k)) p.forbidden)) first in
    (lowest, place_is (inside (at p.required a)) p.forbidden first.has (rw (← g.a-is) g.b-is))

pub clash_families : ClashFamilies
clash_families p h = (never_suits, suits, ((λ c F. never_suits c (λ g. F g ≡ true)), given_so))
  where
    l : Listed p
    l = listed p h

    never_suits : Clashes p → (F : ℕ → Type 0) → Suits p F → ⊥
    never_suits c = clash-none p l (clash_speaks p c.0 c.1 c.2).1.given

    suits : (Clashes p → ⊥) → (F : ℕ → Bool) × Suits p (λ g. F g ≡ true)
    suits un = (authorised p.required, authorised-suits p l (isn't (λ t. un (clash-given p h t))))

    given_so : ((F : ℕ → Bool) → Suits p (λ g. F g ≡ true) → ⊥) → Clashes p
    given_so un =
        clash-given p h (surely (λ f. un (authorised p.required) (authorised-suits p l f)))

-- ---- CLASH as the code looks for it, required set by required set
module _ (required forbidden : List ℕ) where
  -- at index i one lies inside the forbidden set at index j
  pub clash_at : {i j : ℕ} {r : Option ℕ} → PlaceAhead (clashing forbidden) required i → i < length required
      → r ≡ position (inside (get_or required i 0)) forbidden → r ≡ Some j
      → refused (number Clash) (i + 1) (j + 1) ≡ first_fail {A = ℕ} (clash required forbidden ∷ []) (done 0)
  unfolding clash clash_place
  clash_at {i} {j} h l e q =
      let t = inside (get_or required i 0) in
      let a : i + 1 ≡ first_place (clashing forbidden) required = here h l (position_is t forbidden e q) in
      let s : i + 1 - 1 ≡ i = omega arith in
      let b : around_place forbidden (at required (i + 1)) ≡ j + 1 = rw s (position_found t forbidden e q) in
      let g : found (i + 1) ≡ true = found_some (λ z. omega arith) in
      sym (given {A = ℕ} (clash required forbidden) [] (done 0) (rw (← a) g) ∙ rw (← a, b))

  -- none does
  pub no_clash : 0 ≡ first_place (clashing forbidden) required → done 0 ≡ first_fail {A = ℕ} (clash required forbidden ∷ []) (done 0)
  unfolding clash clash_place
  no_clash e = sym (passed-done {A = ℕ} (clash required forbidden ∷ []) (done 0) (passed_one (rw (← e)) passed_none))
