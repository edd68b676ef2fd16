-- What a result shows: the lines that passed, call by call; and how an answer goes by its lines.
-- Assumes nothing.
use mathlib.Core.Path.{◌≡◌, refl, sym, ap, ◌∙◌}
use mathlib.Core.Bool.{Bool, true, false}
use mathlib.Core.List.{List, [], ◌∷◌, ◌++◌}
use Prim.Native.Nat.{ℕ, ◌-◌, ◌≤◌}
use native.Mathlib.Omega.{arith}
use lib.ListN.{length}
use borrow.Author.Tests.{eq-eqb, not-false, ltb-false, le-ltb}
use Rattle.answer.specs.Outcome.{Outcome, done, refused, number}
use Rattle.answer.specs.Checks.{Line, pick, first_fail}
use Rattle.lists.specs.Places.{found}
use Rattle.answer.specs.Laws.{Passed}
use Rattle.answer.proofs.CheckLaws.{append-lines, done-passed, passed, passed_one, passed_none, passed-append}
use Rattle.lists.proofs.FirstLaws.{none_found}
use Rattle.block.specs.Words.{word_at}
use Rattle.block.specs.Layout.{piece_number}
use Rattle.block.specs.Open.{one_lines, TrueBlock}
use Rattle.block.proofs.OpenLaws.{one_true}
use Rattle.block.proofs.RangeLaws.{true_ranges}
use Rattle.desk.specs.declared.Opening.{Opening}
use Rattle.desk.specs.Opens.{bad_word, is_client, accepted, opening_of, alike}
use Rattle.desk.specs.Slots.{distinct}
use Rattle.desk.specs.Lines.{no_client, not_open, busy, bad_opening, no_slots, open_lines, open_says, other_values, front_lines, hand_lines, hand_slots, hand_says, close_lines, close_says}
use Rattle.desk.specs.History.{Client, full}
use Rattle.desk.proofs.WordLaws.{client_of_lem, ranged, alike_same}

-- ---- opening
pub record Opens (o : Opening) (r c : ℕ) (new : Opening) (v : ℕ) : Type 0 where
  pub client : Client c
  pub shut : accepted o ≡ false
  pub good : accepted new ≡ true
  pub room : new.pieces ≤ 70 - r
  pub is : v ≡ new.pieces

good_words : (o : Opening) → found (bad_word o) ≡ false → accepted o ≡ true
good_words o e = eq-eqb (bad_word o) 0 (none_found (bad_word o) e)

is-done : (k v : ℕ) → ◌≡◌ {A = Outcome ℕ} (done k) (done v) → v ≡ k
is-done k v e = let h : k ≡ v = cc in sym h

pub open_passed : (o : Opening) (r c : ℕ) (new : Opening) (v : ℕ) → open_says o r c new ≡ done v → Opens o r c new v
unfolding open_says open_lines
open_passed o r c new v e =
    let t = done-passed (no_client c ∷ busy o ∷ bad_opening new ∷ no_slots r new ∷ []) (done new.pieces) v e in
    let a = passed t.0 in
    let b = passed a.1 in
    let d = passed b.1 in
    let f = passed d.1 in
    record {
      client = client_of_lem c (not-false (is_client c) a.0);
      shut = b.0;
      good = good_words new d.0;
      room = ltb-false (70 - r) new.pieces f.0;
      is = is-done new.pieces v t.1;
    }

-- what an opening is answered where the other has r slots, by what it would be answered where the other has none
full-pick : (b : Bool) (r m a e : ℕ) (x y : Outcome ℕ) → (b ≡ false → x ≡ full r y) → pick b (refused m a e) x ≡ full r (pick b (refused m a e) y)
full-pick true r m a e x y f = refl
full-pick false r m a e x y f = f refl

full-front : (ls : List Line) (r : ℕ) (x y : Outcome ℕ) → (Passed ls → x ≡ full r y) → first_fail ls x ≡ full r (first_fail ls y)
unfolding first_fail
full-front [] r x y f = f passed_none
full-front (l ∷ ls) r x y f =
    full-pick l.given r (number l.kind) l.a l.b (first_fail ls x) (first_fail ls y) (λ e. full-front ls r x y (λ p. f (passed_one e p)))

open_end : (r : ℕ) (new : Opening) → new.pieces ≤ 70 → first_fail (no_slots r new ∷ []) (done new.pieces) ≡ full r (first_fail (no_slots 0 new ∷ []) (done new.pieces))
unfolding first_fail
open_end r new h = rw (le-ltb 70 new.pieces h)

pub open_full : (o : Opening) (r c : ℕ) (new : Opening) → open_says o r c new ≡ full r (open_says o 0 c new)
unfolding open_says open_lines
open_full o r c new =
    let ls = no_client c ∷ busy o ∷ bad_opening new ∷ [] in
    let k = done new.pieces in
    append-lines ls (no_slots r new ∷ []) k
    ∙ full-front ls r (first_fail (no_slots r new ∷ []) k) (first_fail (no_slots 0 new ∷ []) k)
    (λ p. open_end r new (ranged new (good_words new (passed (passed (passed p).1).1).0)).pieces.1)
    ∙ sym (ap (full r) (append-lines ls (no_slots 0 new ∷ []) k))

-- ---- handing in: what the lines before CONFLICT show
pub record Front (o : Opening) (c : ℕ) (b : List ℕ) : Type 0 where
  pub client : Client c
  pub opened : accepted o ≡ true
  pub long : length b ≡ 512
  pub block : TrueBlock b
  pub mark : word_at b 1 ≡ 1987
  pub deal : alike (opening_of b) o ≡ true

pub front-passed : (o : Opening) (c : ℕ) (b : List ℕ) → Passed (front_lines o c b) → Front o c b
unfolding front_lines
front-passed o c b p =
    let x = passed p in
    let y = passed x.1 in
    let w = passed-append (one_lines b 1) y.1 in
    let z = one_true b 1 w.0 in
    record {
      client = client_of_lem c (not-false (is_client c) x.0);
      opened = not-false (accepted o) y.0;
      long = z.0;
      block = z.1;
      mark = z.2;
      deal = not-false (alike (opening_of b) o) (passed w.1).0;
    }

pub front-piece : (o : Opening) (c : ℕ) (b : List ℕ) → Front o c b → (1 ≤ piece_number b) × (piece_number b ≤ o.pieces)
front-piece o c b f =
    let e : (opening_of b).pieces ≡ o.pieces = ap (λ (x : Opening). x.pieces) (alike_same (opening_of b) o f.deal) in
    let r = (true_ranges f.block).piece in
    (r.0, omega (arith, e, r.1))

pub record Hands (slots : List ℕ) (o : Opening) (c : ℕ) (b : List ℕ) (v : ℕ) : Type 0 where
  pub front : Front o c b
  pub agrees : (other_values slots o c b).given ≡ false
  pub is : v ≡ distinct (hand_slots slots o c b) o c

pub hand_passed : (slots : List ℕ) (o : Opening) (c : ℕ) (b : List ℕ) (v : ℕ) → hand_says slots o c b ≡ done v → Hands slots o c b v
unfolding hand_says hand_lines
hand_passed slots o c b v e =
    let n = distinct (hand_slots slots o c b) o c in
    let t = done-passed (front_lines o c b ++ other_values slots o c b ∷ []) (done n) v e in
    let p = passed-append (front_lines o c b) t.0 in
    record { front = front-passed o c b p.0; agrees = (passed p.1).0; is = is-done n v t.1 }

-- ---- closing
pub record Closes (o : Opening) (c v : ℕ) : Type 0 where
  pub client : Client c
  pub opened : accepted o ≡ true
  pub is : v ≡ o.pieces

pub close_passed : (o : Opening) (c v : ℕ) → close_says o c ≡ done v → Closes o c v
unfolding close_says close_lines
close_passed o c v e =
    let t = done-passed (no_client c ∷ not_open o ∷ []) (done o.pieces) v e in
    let a = passed t.0 in
    record { client = client_of_lem c (not-false (is_client c) a.0); opened = not-false (accepted o) (passed a.1).0; is = is-done o.pieces v t.1 }
