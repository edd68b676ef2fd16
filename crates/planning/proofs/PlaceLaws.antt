-- At which places planning refuses the lists: LONGLIST, STRANGER, OPEN and LONE.
-- Assumes nothing.
use mathlib.Core.Path.{◌≡◌, refl, sym}
use mathlib.Core.Bool.{false}
use mathlib.Core.List.{List, [], ◌∷◌, ◌++◌}
use mathlib.Core.Logic.{inl, inr, ⊎_elim}
use lib.Dec.{eqb}
use borrow.Author.Tests.{ltb-true, ltb-false}
use Rattle.answer.specs.declared.Kind.TheVariants.{LongList, Stranger, Open, Lone}
use Rattle.answer.specs.Outcome.{number}
use Rattle.answer.specs.Checks.{Line}
use Rattle.answer.proofs.WhichLaws.{Gives, only_one, one_of_two, place_is}
use Rattle.lists.specs.Some.{some}
use Rattle.lists.proofs.SomeLaws.{none_found}
use Rattle.planning.specs.Sets.{stranger, one_member}
use Rattle.planning.specs.Policy.{Policy}
use Rattle.planning.specs.Planned.{people, long, strangers, nobody, opens, lone, clash, list_lines, plan_lines, planned}
use Rattle.planning.specs.Laws.{LongPlaces, StrangerPlaces, OpenPlaces, LonePlaces}

-- the lines before those that look into the sets
abbrev length_lines : Policy → List Line
length_lines p = people p.people ∷ long 1 p.required ∷ long 2 p.forbidden ∷ []

-- the lines before OPEN
abbrev set_lines : Policy → List Line
set_lines p =
    people p.people ∷ long 1 p.required ∷ long 2 p.forbidden ∷ strangers p.people 1 p.required ∷ strangers p.people 2 p.forbidden
    ∷ nobody p.required ∷ []

pub long-places : LongPlaces
unfolding planned plan_lines list_lines people long strangers nobody opens lone clash some
long-places p a b e =
    ⊎_elim
    (λ (g : Gives (long 1 p.required) (number LongList) a b). (inl (sym g.a-is, ltb-true _ _ g.given), sym g.b-is))
    (λ (g : ((long 1 p.required).given ≡ false) × Gives (long 2 p.forbidden) (number LongList) a b).
    (inr (sym g.1.a-is, ltb-false _ _ g.0, ltb-true _ _ g.1.given), sym g.1.b-is))
    (one_of_two (number LongList) (people p.people ∷ []) (long 1 p.required) (long 2 p.forbidden) _ _ a b e refl refl)

pub stranger-places : StrangerPlaces
unfolding planned plan_lines list_lines people long strangers nobody opens lone clash some
stranger-places p a b e =
    let here = strangers p.people 1 p.required in
    let there = strangers p.people 2 p.forbidden in
    let named = stranger p.people in
    ⊎_elim
    (λ (g : Gives here (number Stranger) a b). inl (sym g.a-is, place_is named p.required g.given g.b-is))
    (λ (g : (here.given ≡ false) × Gives there (number Stranger) a b).
    inr (sym g.1.a-is, none_found named p.required g.0, place_is named p.forbidden g.1.given g.1.b-is))
    (one_of_two (number Stranger) (length_lines p) here there _ _ a b e refl refl)

pub open_places : OpenPlaces
unfolding planned plan_lines list_lines people long strangers nobody opens lone clash some
open_places p a b e =
    let g = (only_one (number Open) (set_lines p) (opens p.required) _ _ a b e refl refl).1 in
    (place_is (eqb 0) p.required g.given g.a-is, sym g.b-is)

pub lone-places : LonePlaces
unfolding planned plan_lines list_lines people long strangers nobody opens lone clash some
lone-places p a b e =
    let g = (only_one (number Lone) (set_lines p ++ opens p.required ∷ []) (lone p.required) _ _ a b e refl refl).1 in
    (place_is one_member p.required g.given g.a-is, sym g.b-is)
