-- At which places dealing refuses: SECRET, RANDOM and ROOM.
-- Assumes nothing.
use Prim.Native.Nat.{ℕ, ◌-◌, ◌*◌}
use mathlib.Core.Path.{◌≡◌, refl, sym}
use mathlib.Core.Bool.{false}
use mathlib.Core.List.{List, [], ◌∷◌, ◌++◌}
use mathlib.Core.Logic.{inl, inr, ⊎_elim}
use lib.ListN.{length}
use borrow.Author.Tests.{ltb-true, eqb-true, eqb-false, not-true, not-false}
use Rattle.lists.specs.Some.{some}
use Rattle.lists.proofs.Truth.{never}
use Rattle.prime.specs.Prime.{too_large}
use Rattle.answer.specs.declared.Kind.TheVariants.{Secret, Random, Room}
use Rattle.answer.specs.Outcome.{number}
use Rattle.answer.specs.Checks.{Line}
use Rattle.answer.specs.Lent.{no_room}
use Rattle.answer.proofs.WhichLaws.{Gives, only_one, one_of_two, place_is}
use Rattle.planning.specs.Planned.{people, long, strangers, nobody, opens, lone, clash, list_lines, plan_lines}
use Rattle.dealing.specs.Deal.{Deal, asked_of, deal_pieces}
use Rattle.block.specs.Deals.{bad_number, bad_year}
use Rattle.dealing.specs.Dealt.{bad_holder, bad_width, bad_secret, bad_count, bad_random, input_lines, block_count, deal_lines, dealing}
use Rattle.dealing.specs.Laws.{SecretPlaces, RandomPlaces, RoomPlaces}
use Rattle.lists.proofs.RangeLaws.{in_range, range_in}

-- the lines before those that look at the secret
abbrev asked_lines : Deal → ℕ → List Line
asked_lines d holder = plan_lines d.policy ++ bad_number d.number ∷ bad_year d.year ∷ bad_holder d.policy.people holder ∷ []

pub secret-places : SecretPlaces
unfolding dealing deal_lines plan_lines list_lines people long strangers nobody opens lone clash input_lines bad_number bad_year bad_holder bad_width bad_secret bad_count bad_random no_room some
secret-places d holder room a b e =
    let count = bad_width d.secret in
    let words = bad_secret d.secret in
    ⊎_elim
    (λ (g : Gives count (number Secret) a b).
    (inl (sym g.a-is, λ low high. never (range_in 16 (length d.secret) low high) g.given), sym g.b-is))
    (λ (g : (count.given ≡ false) × Gives words (number Secret) a b).
    let w = in_range 16 (length d.secret) g.0 in
    (inr (w.0, w.1, place_is too_large d.secret g.1.given g.1.a-is), sym g.1.b-is))
    (one_of_two (number Secret) (asked_lines d holder) count words _ _ a b e refl refl)

pub random-places : RandomPlaces
unfolding dealing deal_lines plan_lines list_lines people long strangers nobody opens lone clash input_lines bad_number bad_year bad_holder bad_width bad_secret bad_count bad_random no_room some
random-places d holder room a b e =
    let count = bad_count (deal_pieces d - 1) d.secret d.random in
    let words = bad_random d.random in
    ⊎_elim
    (λ (g : Gives count (number Random) a b). (inl (sym g.a-is, eqb-false _ _ (not-true _ g.given)), sym g.b-is))
    (λ (g : (count.given ≡ false) × Gives words (number Random) a b).
    (inr (eqb-true _ _ (not-false _ g.0), place_is too_large d.random g.1.given g.1.a-is), sym g.1.b-is))
    (one_of_two (number Random) (asked_lines d holder ++ bad_width d.secret ∷ bad_secret d.secret ∷ []) count words _ _ a b e refl refl)

pub room-places : RoomPlaces
unfolding dealing deal_lines plan_lines list_lines people long strangers nobody opens lone clash input_lines bad_number bad_year bad_holder bad_width bad_secret bad_count bad_random no_room some
room-places d holder room a b e =
    let before = plan_lines d.policy ++ input_lines (asked_of d holder) (deal_pieces d - 1) d.secret d.random in
    let g = (only_one (number Room) before (no_room (512 * block_count d holder) (block_count d holder) room) [] (block_count d holder) a b e refl refl).1 in
    (sym g.a-is, rw (← g.a-is) (ltb-true _ _ g.given), sym g.b-is)
