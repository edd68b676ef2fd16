-- Refusals 8 to 11: what inputs that pass them have, and that such inputs pass them.
-- Assumes nothing.
use Prim.Native.Nat.{ℕ, ◌+◌, ◌-◌, ◌*◌, ◌≤◌}
use mathlib.Core.Path.{◌≡◌}
use mathlib.Core.Bool.{false}
use mathlib.Core.List.{List}
use native.Mathlib.Omega.{arith}
use lib.ListN.{length, get_or}
use borrow.Author.Tests.{ltb-false, le-ltb, eqb-true, eq-eqb, not-false}
use Rattle.answer.specs.Laws.{Passed}
use Rattle.lists.specs.Places.{first_place, found, at}
use Rattle.answer.proofs.CheckLaws.{passed, passed_none, passed_one}
use Rattle.lists.proofs.FirstLaws.{place_lacks, none_found, first-all, found_none}
use Rattle.prime.specs.Prime.{Below, too_large}
use Rattle.field.proofs.Sums.{below-within}
use Rattle.lists.proofs.RangeLaws.{in_range, range_in}
use Rattle.block.specs.Deals.{bad_number, bad_year}
use Rattle.dealing.specs.Dealt.{bad_holder, bad_width, bad_secret, bad_count, bad_random, input_lines}
use Rattle.dealing.specs.Deal.{Asked}
use Rattle.dealing.specs.Inner.{Ready}

-- ---- words of at most 32748
small-words : (l : List ℕ) → found (first_place too_large l) ≡ false → Below l
small-words l e =
    below-within l
    (λ i h. omega (arith, ltb-false 32748 (get_or l i 0) (place_lacks too_large l (none_found (first_place too_large l) e) i h)))

words_small : (l : List ℕ) → Below l → found (first_place too_large l) ≡ false
unfolding first_place
words_small l b =
    found_none (first-all (λ i. too_large (at l i)) 1 (length l + 1) (λ i low high. le-ltb 32748 (at l i) (omega (arith, b.each (i - 1)))))

-- ---- 8, 25, 9 to 11
-- what they make sure of, where each word of the secret wants so many coefficients
pub record Given (asked : Asked) (each : ℕ) (secret random : List ℕ) : Type 0 where
  pub number_in_lem : (1 ≤ asked.number) × (asked.number ≤ 32748)
  pub year_in : asked.year ≤ 32748
  pub holder_in : (1 ≤ asked.holder) × (asked.holder ≤ asked.people)
  pub width_in : (1 ≤ length secret) × (length secret ≤ 16)
  pub secret_in : Below secret
  pub count : length random ≡ length secret * each
  pub random_in : Below random

module _ {asked : Asked} {each : ℕ} {secret random : List ℕ} where
  pub lines-given : Passed (input_lines asked each secret random) → Given asked each secret random
  unfolding input_lines bad_number bad_year bad_holder bad_width bad_secret bad_count bad_random
  lines-given p =
      let p1 = passed p in
      let p2 = passed p1.1 in
      let p3 = passed p2.1 in
      let p4 = passed p3.1 in
      let p5 = passed p4.1 in
      let p6 = passed p5.1 in
      let p7 = passed p6.1 in
      record {
        number_in_lem = in_range 32748 asked.number p1.0;
        year_in = ltb-false 32748 asked.year p2.0;
        holder_in = in_range asked.people asked.holder p3.0;
        width_in = in_range 16 (length secret) p4.0;
        secret_in = small-words secret p5.0;
        count = eqb-true _ _ (not-false _ p6.0);
        random_in = small-words random p7.0;
      }

  pub given-lines : Given asked each secret random → Passed (input_lines asked each secret random)
  unfolding input_lines bad_number bad_year bad_holder bad_width bad_secret bad_count bad_random
  given-lines r =
      passed_one (range_in 32748 asked.number r.number_in_lem.0 r.number_in_lem.1)
      (passed_one (le-ltb 32748 asked.year r.year_in)
      (passed_one (range_in asked.people asked.holder r.holder_in.0 r.holder_in.1)
      (passed_one (range_in 16 (length secret) r.width_in.0 r.width_in.1)
      (passed_one (words_small secret r.secret_in)
      (passed_one (rw (eq-eqb _ _ r.count))
      (passed_one (words_small random r.random_in)
      passed_none))))))

-- where each word wants k − 1
module _ {asked : Asked} {k : ℕ} {secret random : List ℕ} where
  pub lines_ready : asked.people ≤ 8 → 1 ≤ k → k ≤ 70 → Passed (input_lines asked (k - 1) secret random) → Ready asked k secret random
  lines_ready few least most p =
      let g = lines-given p in
      record {
        few = few;
        least = least;
        most = most;
        number_in_lem = g.number_in_lem;
        year_in = g.year_in;
        holder_in = g.holder_in;
        width_in = g.width_in;
        secret_in = g.secret_in;
        random_in = record { count = g.count; below = g.random_in };
      }

  pub ready_lines : Ready asked k secret random → Passed (input_lines asked (k - 1) secret random)
  ready_lines r =
      given-lines (record {
        number_in_lem = r.number_in_lem;
        year_in = r.year_in;
        holder_in = r.holder_in;
        width_in = r.width_in;
        secret_in = r.secret_in;
        count = r.random_in.count;
        random_in = r.random_in.below;
      })
