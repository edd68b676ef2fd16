-- The refusals in order, as the code's chains of checks meet them. Assumes nothing.
use mathlib.Core.Path.{◌≡◌, sym, ap, ◌∙◌}
use mathlib.Core.Bool.{Bool, true, false, not, ◌&&◌}
use mathlib.Core.List.{List, [], ◌∷◌}
use Prim.Native.Nat.{ℕ, ◌≤◌, ◌<◌}
use native.Mathlib.Omega.{arith}
use lib.ListN.{length}
use borrow.Author.Tests.{not-false, lt-ltb, le-ltb, ltb-false}
use Rattle.answer.specs.Outcome.{Outcome, done, refused, number, checked}
use Rattle.answer.specs.Checks.{Line, first_fail}
use Rattle.answer.specs.Lent.{no_room}
use Rattle.lists.specs.Places.{found, those}
use Rattle.std.specs.Prelude.{⊤, Result, Ok, Err}
use Rattle.answer.specs.declared.Refusal.{Refusal}
use Rattle.answer.proofs.CheckLaws.{given, not_given, same_refusal, done-passed, passed-done, passed}
use Rattle.answer.proofs.SaysLaws.{said, Says, whole}
use Rattle.answer.proofs.LentLaws.{room-refused, room-given}
use Rattle.lists.proofs.ThoseLaws.{those-few, those-all}
use Rattle.lists.proofs.Truth.{and_both, and_no, and_none}
use Rattle.block.specs.Layout.{piece_number}
use Rattle.desk.specs.declared.Opening.{Opening}
use Rattle.desk.specs.declared.Clients.{Clients}
use Rattle.desk.specs.Opens.{other, words_in, accepted, reserved, opening_of, alike}
use Rattle.desk.specs.Parts.{open_in}
use Rattle.desk.specs.Lines.{no_client, busy, bad_opening, no_slots, open_lines, open_says, other_deal, other_values, front_lines, hand_lines, hand_slots, hand_says, lacking, ask_lines, ask_says, close_lines, close_says}
use Rattle.desk.specs.Slots.{start, keeps_at, keeps, distinct, unlike}
use Rattle.desk.specs.Inner.{Small, AllKept}
use Rattle.desk.proofs.WordLaws.{ranged}
use Rattle.desk.proofs.SaysLaws.{Front, front-passed}

-- ---- a call whose checks say these lines: what they answer, it answers, and past them it has its result
module _ (ls : List Line) (end : Outcome ℕ) {x : Result ⊤ Refusal} (says : checked x ≡ said ls) where
  pub call_stops : {r : Refusal} → x ≡ Err r → first_fail ls end ≡ refused (number r.kind) r.a r.b
  call_stops {r} q = same_refusal ls 0 end (number r.kind) r.a r.b (sym says ∙ ap checked q)

  pub call_goes : {u : ⊤} → x ≡ Ok u → first_fail ls end ≡ end
  call_goes q = passed-done ls end (done-passed ls (done 0) 0 (sym says ∙ ap checked q)).0

-- ---- opening: the lines that are left past each test
module _ (o : Opening) (r c : ℕ) (new : Opening) where
  abbrev pub OpenLeft : List Line → Type 0
  OpenLeft ls = Says (said (open_lines o r c new)) ls

  pub open_all : OpenLeft (no_client c ∷ busy o ∷ bad_opening new ∷ no_slots r new ∷ [])
  unfolding open_lines
  open_all = whole _

-- ---- handing in, before CONFLICT
module _ (o : Opening) (b : List ℕ) where
  pub is-mixed : alike (opening_of b) o ≡ false → refused 18 1 0 ≡ said (other_deal o b ∷ [])
  is-mixed e = sym (given (other_deal o b) [] (done 0) (ap not e))

  pub not_mixed : alike (opening_of b) o ≡ true → done 0 ≡ said (other_deal o b ∷ [])
  unfolding first_fail
  not_mixed e = sym (not_given (other_deal o b) [] (done 0) (ap not e))

-- ---- CONFLICT: the slot of the block's piece begins at `at`
module _ (slots : List ℕ) (o : Opening) (c : ℕ) (b : List ℕ) (at : ℕ) (is : at ≡ start c (piece_number b)) where
  pub is-conflict : keeps_at slots at o.width ≡ true → found (unlike slots at o.width b) ≡ true → refused 19 1 0 ≡ said (other_values slots o c b ∷ [])
  is-conflict t n =
      sym (given (other_values slots o c b) [] (done 0)
      (and_both (ap (λ (x : ℕ). keeps_at slots x o.width) (sym is) ∙ t) (ap (λ (x : ℕ). found (unlike slots x o.width b)) (sym is) ∙ n)))

  pub not_other : found (unlike slots at o.width b) ≡ false → done 0 ≡ said (other_values slots o c b ∷ [])
  unfolding first_fail
  not_other e =
      sym (not_given (other_values slots o c b) [] (done 0)
      (ap (λ (x : Bool). keeps slots c o.width (piece_number b) && x) (ap (λ (x : ℕ). found (unlike slots x o.width b)) (sym is) ∙ e)
      ∙ and_none (keeps slots c o.width (piece_number b))))

  pub not_kept : keeps_at slots at o.width ≡ false → done 0 ≡ said (other_values slots o c b ∷ [])
  unfolding first_fail
  not_kept e =
      sym (not_given (other_values slots o c b) [] (done 0)
      (and_no (keeps slots c o.width (piece_number b)) (found (unlike slots (start c (piece_number b)) o.width b)) (ap (λ (x : ℕ). keeps_at slots x o.width) (sym is) ∙ e)))

-- ---- what the code knows past a check that gave a result
pub past_front : (o : Opening) (c : ℕ) (b : List ℕ) {x : Result ⊤ Refusal} {u : ⊤} → checked x ≡ said (front_lines o c b) → x ≡ Ok u → Front o c b
past_front o c b e q = front-passed o c b (done-passed (front_lines o c b) (done 0) 0 (sym e ∙ ap checked q)).0

pub past_open : (o : Opening) (c : ℕ) {x : Result ⊤ Refusal} {u : ⊤} → checked x ≡ said (close_lines o c) → x ≡ Ok u → accepted o ≡ true
unfolding close_lines
past_open o c e q =
    let t = passed (done-passed (close_lines o c) (done 0) 0 (sym e ∙ ap checked q)).0 in
    not-false (accepted o) (passed t.1).0

-- ---- the calls: what their checks' answer says of the whole
module _ (both : Clients) (c : ℕ) (new : Opening) {x : Result ⊤ Refusal} (says : checked x ≡ said (open_lines (words_in both c) (reserved (words_in both (other c))) c new)) where
  pub open_stops : {r : Refusal} → x ≡ Err r → open_in both c new ≡ refused (number r.kind) r.a r.b
  unfolding open_says
  open_stops = call_stops (open_lines (words_in both c) (reserved (words_in both (other c))) c new) (done new.pieces) says

  pub open_goes : {u : ⊤} → x ≡ Ok u → open_in both c new ≡ done new.pieces
  unfolding open_says
  open_goes = call_goes (open_lines (words_in both c) (reserved (words_in both (other c))) c new) (done new.pieces) says

module _ (slots : List ℕ) (o : Opening) (c : ℕ) (b : List ℕ) {x : Result ⊤ Refusal} (says : checked x ≡ said (hand_lines slots o c b)) where
  pub hand_stops : {r : Refusal} → x ≡ Err r → hand_says slots o c b ≡ refused (number r.kind) r.a r.b
  unfolding hand_says
  hand_stops = call_stops (hand_lines slots o c b) (done (distinct (hand_slots slots o c b) o c)) says

  pub hand_goes : {u : ⊤} → x ≡ Ok u → hand_says slots o c b ≡ done (distinct (hand_slots slots o c b) o c)
  unfolding hand_says
  hand_goes = call_goes (hand_lines slots o c b) (done (distinct (hand_slots slots o c b) o c)) says

module _ (slots : List ℕ) (o : Opening) (c room : ℕ) {x : Result ⊤ Refusal} (says : checked x ≡ said (ask_lines slots o c room)) where
  pub ask_stops : {r : Refusal} → x ≡ Err r → ask_says slots o c room ≡ refused (number r.kind) r.a r.b
  unfolding ask_says
  ask_stops = call_stops (ask_lines slots o c room) (done o.width) says

  pub ask_goes : {u : ⊤} → x ≡ Ok u → ask_says slots o c room ≡ done o.width
  unfolding ask_says
  ask_goes = call_goes (ask_lines slots o c room) (done o.width) says

module _ (o : Opening) (c : ℕ) {x : Result ⊤ Refusal} (says : checked x ≡ said (close_lines o c)) where
  pub close_stops : {r : Refusal} → x ≡ Err r → close_says o c ≡ refused (number r.kind) r.a r.b
  unfolding close_says
  close_stops = call_stops (close_lines o c) (done o.pieces) says

  pub close_goes : {u : ⊤} → x ≡ Ok u → close_says o c ≡ done o.pieces
  unfolding close_says
  close_goes = call_goes (close_lines o c) (done o.pieces) says

-- ---- asking, past CLOSED
abbrev pub from_short : List ℕ → Opening → ℕ → ℕ → List Line
from_short slots o c room = lacking slots o c ∷ no_room o.width o.width room ∷ []

module _ (slots : List ℕ) (o : Opening) (c room : ℕ) where
  pub is-short : distinct slots o c < o.pieces → refused 20 (distinct slots o c) o.pieces ≡ said (from_short slots o c room)
  is-short l = sym (given (lacking slots o c) _ (done 0) (lt-ltb (distinct slots o c) o.pieces l))

  module _ (l : o.pieces ≤ distinct slots o c) where
    not_short : said (from_short slots o c room) ≡ said (no_room o.width o.width room ∷ [])
    not_short = not_given (lacking slots o c) _ (done 0) (le-ltb (distinct slots o c) o.pieces l)

    pub is_narrow : room < o.width → refused 12 o.width 0 ≡ said (from_short slots o c room)
    is_narrow h = sym (not_short ∙ room-refused o.width o.width room (done 0) h)

    pub not_narrow : o.width ≤ room → done 0 ≡ said (from_short slots o c room)
    not_narrow h = sym (not_short ∙ room-given o.width o.width room (done 0) h)

  -- a result of asking: every piece is kept, and the words fit
  pub record Asks : Type 0 where
    pub small : Small o
    pub kept : AllKept slots o c
    pub fits : o.width ≤ room

  pub ask_passed : (v : ℕ) → ask_says slots o c room ≡ done v → Asks
  unfolding ask_says ask_lines distinct no_room
  ask_passed v e =
      let t = (done-passed (ask_lines slots o c room) (done o.width) v e).0 in
      let a = passed (passed t).1 in
      let b = passed a.1 in
      let n : length (those (keeps slots c o.width) 1 o.pieces) ≡ o.pieces
      = omega (arith, ltb-false (distinct slots o c) o.pieces b.0, those-few (keeps slots c o.width) 1 o.pieces) in
      record {
        small = let r = ranged o (not-false (accepted o) a.0) in record { pieces = r.pieces.1; width = r.width.1 };
        kept = record { all = λ j l m. those-all (keeps slots c o.width) 1 o.pieces n j l (omega arith) };
        fits = ltb-false room o.width (passed b.1).0;
      }
