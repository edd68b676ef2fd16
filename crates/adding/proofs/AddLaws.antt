-- The lines of an addition, one by one: what two blocks have on which all pass, and that they pass on two blocks that have it.
-- Assumes nothing.
use Prim.Native.Nat.{ℕ, ◌≤◌}
use mathlib.Core.Path.{◌≡◌, sym, ap, ◌∙◌}
use mathlib.Core.Bool.{true, false, false≢true}
use mathlib.Core.Logic.{◌≢◌}
use mathlib.Core.List.{List}
use native.Mathlib.Omega.{arith}
use lib.Dec.{eqb}
use borrow.Author.Tests.{eqb-true, eq-eqb, not-false, ltb-false, le-ltb}
use Rattle.lists.specs.Places.{found}
use Rattle.lists.proofs.Truth.{both, neither, isn't}
use Rattle.lists.proofs.RangeLaws.{in_range, range_in}
use Rattle.lists.proofs.FirstLaws.{none_in, none_found, found_none, first-all}
use Rattle.answer.specs.Outcome.{done}
use Rattle.answer.specs.Lent.{no_room}
use Rattle.answer.proofs.CheckLaws.{passed, passed_none, passed_one, passed-append, passed_both, done-passed, passed-done}
use Rattle.block.specs.Words.{word_at}
use Rattle.block.specs.Deals.{bad_number, bad_year}
use Rattle.block.specs.Open.{one_lines}
use Rattle.block.proofs.OpenLaws.{one_true, true_one}
use Rattle.adding.specs.declared.Pair.{Pair}
use Rattle.adding.specs.Sum.{differ, unlike_at, pair_in}
use Rattle.adding.specs.Adding.{same_pair, add_lines, adding}
use Rattle.adding.specs.Laws.{Addable}

-- ---- 24
not_unlike : (one two : List ℕ) → found (unlike_at one two) ≡ false → (i : ℕ) → 3 ≤ i → i ≤ 7 → word_at one i ≡ word_at two i
unfolding unlike_at
not_unlike one two e i l h =
    eqb-true (word_at one i) (word_at two i) (not-false _ (none_in (differ one two) 3 8 (omega arith) (none_found _ e) i l (omega arith)))

not_found : (one two : List ℕ) → ((i : ℕ) → 3 ≤ i → i ≤ 7 → word_at one i ≡ word_at two i) → found (unlike_at one two) ≡ false
unfolding unlike_at
not_found one two h = found_none (first-all (differ one two) 3 8 (λ i l m. rw (eq-eqb (word_at one i) (word_at two i) (h i l (omega arith)))))

-- ---- 8, of the pair: the test holds exactly where both are the block's
pair_same : (new : Pair) (b : List ℕ) → new ≡ pair_in b → same_pair new b ≡ true
unfolding same_pair
pair_same new b e =
    rw (eq-eqb new.number (word_at b 2) (ap (λ (x : Pair). x.number) e), eq-eqb new.year (word_at b 24) (ap (λ (x : Pair). x.year) e))

same_pair_lem : (new : Pair) (b : List ℕ) → same_pair new b ≡ true → new ≡ pair_in b
unfolding same_pair
same_pair_lem new b e =
    let both-same = both (eqb new.number (word_at b 2)) (eqb new.year (word_at b 24)) e in
    λ t. record { number = eqb-true new.number (word_at b 2) both-same.0 t; year = eqb-true new.year (word_at b 24) both-same.1 t }

pair_other : (new : Pair) (b : List ℕ) → new ≢ pair_in b → same_pair new b ≡ false
pair_other new b n = isn't (λ e. n (same_pair_lem new b e))

other_pair : (new : Pair) (b : List ℕ) → same_pair new b ≡ false → new ≢ pair_in b
other_pair new b e same = false≢true (sym e ∙ pair_same new b same)

-- ---- all of them
module _ (one two : List ℕ) (new : Pair) (room : ℕ) where
  pub addable : (n : ℕ) → adding one two new room ≡ done n → Addable one two new room × (n ≡ 1)
  unfolding adding add_lines bad_number bad_year no_room
  addable n e =
      let d = done-passed (add_lines one two new room) (done 1) n e in
      let a = passed-append (one_lines one 1) d.0 in
      let b = passed-append (one_lines two 2) a.1 in
      let first = one_true one 1 a.0 in
      let second = one_true two 2 b.0 in
      let p = passed b.1 in
      let q = passed p.1 in
      let r = passed q.1 in
      let s = passed r.1 in
      let t = passed s.1 in
      let other = neither (same_pair new one) (same_pair new two) s.0 in
      let end = d.1 in
      let is : 1 ≡ n = cc in (
        record {
          whole_one = first.0;
          whole_two = second.0;
          true_one = first.1;
          true_two = second.1;
          mark_one = first.2;
          mark_two = second.2;
          alike = not_unlike one two p.0;
          number_in_lem = in_range 32748 new.number q.0;
          year_in = ltb-false 32748 new.year r.0;
          unlike_one = other_pair new one other.0;
          unlike_two = other_pair new two other.1;
          fits = ltb-false room 512 t.0;
        },
        sym is,
      )

  pub of_addable : Addable one two new room → adding one two new room ≡ done 1
  unfolding adding add_lines bad_number bad_year no_room
  of_addable y =
      passed-done (add_lines one two new room) (done 1)
      (passed_both (one_lines one 1) (true_one one 1 y.whole_one y.true_one y.mark_one)
      (passed_both (one_lines two 2) (true_one two 2 y.whole_two y.true_two y.mark_two)
      (passed_one (not_found one two y.alike)
      (passed_one (range_in 32748 new.number y.number_in_lem.0 y.number_in_lem.1)
      (passed_one (le-ltb 32748 new.year y.year_in)
      (passed_one (rw (pair_other new one y.unlike_one, pair_other new two y.unlike_two))
      (passed_one (le-ltb room 512 y.fits)
      passed_none)))))))
