-- `joining::checks::check_join` meets its contract: the lines of the pile speak, then that of ROOM.
-- Assumes nothing.
use mathlib.Core.Path.{◌≡◌, sym, ap, ◌∙◌}
use mathlib.Core.List.{List, [], ◌∷◌}
use Prim.Native.Nat.{ℕ}
use Rattle.std.specs.Prelude.{⊤, Result, Ok}
use Rattle.answer.specs.declared.Refusal.{Refusal}
use Rattle.answer.specs.Outcome.{outcome, checked, done, refused}
use Rattle.answer.proofs.PassedOn.{passed_on}
use Rattle.answer.specs.Checks.{Line, first_fail}
use Rattle.answer.specs.Lent.{no_room}
use Rattle.answer.proofs.CheckLaws.{stops, goes_on, done-passed}
use Rattle.answer.proofs.LentLaws.{room-refused, room-given}
use Rattle.block.specs.declared.deal.DealWords.{DealWords}
use Rattle.joining.specs.Pile.{own_width}
use Rattle.joining.specs.Checks.{pile_lines}
use Rattle.joining.specs.Joined.{join_lines, joining}
use Rattle.joining.proofs.PassedLaws.{accepted}
use Rattle.joining.proofs.checks.check_join.Goals as goal

-- the line after those of the pile
abbrev last : List ℕ → ℕ → List Line
last pile room = no_room (own_width pile) (own_width pile) room ∷ []

-- past the lines of the pile, that of ROOM is left
left1 : (pile : List ℕ) (room : ℕ) {x : Result ⊤ Refusal} {u : ⊤}
    → checked x ≡ first_fail (pile_lines pile) (done 0) → x ≡ Ok u → joining pile room ≡ first_fail (last pile room) (done (own_width pile))
unfolding joining join_lines
left1 pile room e q = goes_on (pile_lines pile) e (last pile room) (done (own_width pile)) q

pub returns-in_err-check_pile : goal.returns-in_err-check_pile
unfolding joining join_lines
returns-in_err-check_pile c =
    let a = c.args in
    let p = a.pile.now in
    let e = passed_on c.from_residual.ensures.1 in
    record {
      says = ap outcome e ∙ stops (pile_lines p) c.check_pile.ensures.says (last p a.room) (done (own_width p)) c.in_err-check_pile.was;
      table = rw e tt;
    }

pub own_deal-own-requires : goal.own_deal-own-requires
own_deal-own-requires c =
    let p = c.args.pile.now in
    (accepted p (done-passed (pile_lines p) (done 0) _ (sym c.check_pile.ensures.says ∙ ap checked c.in_ok-check_pile.was)).0).full.unmixed

pub returns-then-room-words : goal.returns-then-room-words
returns-then-room-words c =
    let a = c.args in
    let p = a.pile.now in
    let w = ap (λ (d : DealWords). d.width) c.own_deal-own.ensures in
    let left = left1 p a.room c.check_pile.ensures.says c.in_ok-check_pile.was in
    record {
      says = ap outcome c.refuse.ensures ∙ ap (λ (n : ℕ). refused 12 n 0) w ∙ sym (left ∙ room-refused (own_width p) _ a.room _ (rw w at c.if-room-words.true));
      table = rw c.refuse.ensures tt;
    }

pub returns : goal.returns
returns c =
    let a = c.args in
    let p = a.pile.now in
    let w = ap (λ (d : DealWords). d.width) c.own_deal-own.ensures in
    let left = left1 p a.room c.check_pile.ensures.says c.in_ok-check_pile.was in
    record {
      says = ap done w ∙ sym (left ∙ room-given (own_width p) _ a.room _ (rw w at c.if-room-words.false));
      table = c.in_ok-check_pile.ensures.table;
    }
