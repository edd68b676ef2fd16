-- The verdict as the code finds it: by the holders of the pieces, and behind the lines.
-- Assumes nothing.
use mathlib.Core.Path.{◌≡◌, refl, sym, ap, ◌∙◌}
use mathlib.Core.Bool.{Bool, true, false}
use mathlib.Core.List.{List, [], ◌∷◌}
use mathlib.Core.Logic.{◌≢◌}
use Prim.Native.Nat.{ℕ, zero, suc, ◌^◌, ◌≤◌, ◌<◌}
use native.Mathlib.Omega.{arith}
use lib.Dec.{ltb}
use lib.Pow.{pow_mono}
use borrow.Author.Tests.{eq-eqb, ne_eqb}
use Rattle.answer.specs.declared.Kind.TheVariants.{Rows}
use Rattle.answer.specs.Outcome.{Outcome, done, refused, number}
use Rattle.answer.specs.Checks.{first_fail}
use Rattle.lists.specs.Places.{first_in, found}
use Rattle.answer.proofs.CheckLaws.{given, not_given, append-lines, same_refusal, done-passed, passed-done}
use Rattle.lists.proofs.FirstLaws.{first-same}
use Rattle.planning.specs.Groups.{authorised, piece_count}
use Rattle.planning.specs.Policy.{Policy}
use Rattle.planning.specs.Planned.{plan_lines, planned}
use Rattle.holdings.specs.Holdings.{Holdings}
use Rattle.holdings.specs.Judged.{wrong_rows, bad_rows, way_by, way, wrong_group, Verdict, suits, too_few, too_many, verdict_of, verdict, judge_lines, judging}
use Rattle.holdings.specs.declared.holders.Side.{Side}
use Rattle.holdings.specs.declared.holders.Side.TheVariants.{Few, Many}
use Rattle.std.specs.Prelude.{Option, Some, None}
use Rattle.holdings.specs.Inner.{Holders, way_in, side_of}
use Rattle.holdings.proofs.HolderLaws.{have_by_lem}

-- ---- which verdict
of_few : (g : ℕ) (b : Bool) → g ≢ 0 → b ≡ true → verdict_of g b ≡ too_few g
of_few zero b n e = absurd (n (omega arith))
of_few (suc g) b n e = rw e

of_many : (g : ℕ) (b : Bool) → g ≢ 0 → b ≡ false → verdict_of g b ≡ too_many g
of_many zero b n e = absurd (n (omega arith))
of_many (suc g) b n e = rw e

-- the groups for which the list is wrong, going by the holders
abbrev pub wrong : List ℕ → List ℕ → ℕ → ℕ → ℕ → Bool
wrong required sets pieces needed g = found (way_in required sets pieces needed g)

-- ---- the side as the code holds it
pub side_few : (w : ℕ) {r : Option Side} → r ≡ side_of w → r ≡ Some Few → w ≡ 1
side_few zero e q = cc
side_few (suc zero) e q = refl
side_few (suc (suc w)) e q = cc

pub side_many : (w : ℕ) {r : Option Side} → r ≡ side_of w → r ≡ Some Many → (w ≢ 0) × (w ≢ 1)
side_many zero e q = cc
side_many (suc zero) e q = cc
side_many (suc (suc w)) e q = (λ z. omega arith, λ z. omega arith)

pub side_none : (w : ℕ) {r : Option Side} → r ≡ side_of w → r ≡ None → w ≡ 0
side_none zero e q = refl
side_none (suc zero) e q = cc
side_none (suc (suc w)) e q = cc

module _ (n : ℕ) (required : List ℕ) (l : Holdings) (sets : List ℕ) (h : Holders l l.pieces sets) where
  -- the first wrong group, going by the holders
  abbrev found_first : ℕ
  found_first = first_in (wrong required sets l.pieces l.needed) 1 (2 ^ n)

  way_in_lem : (g : ℕ) → way_in required sets l.pieces l.needed g ≡ way required l g
  unfolding way_in way
  way_in_lem g = ap (λ (x : ℕ). way_by (authorised required g) (ltb x l.needed)) (have_by_lem l sets g h)

  wrong_in : found_first ≡ wrong_group n required l
  unfolding wrong_group
  wrong_in = first-same (wrong required sets l.pieces l.needed) (λ g. found (way required l g)) 1 (2 ^ n) (λ g a b. ap found (way_in_lem g))

  pub says-suits : (g : ℕ) → g ≡ found_first → g ≡ 0 → suits ≡ verdict n required l
  unfolding verdict
  says-suits g e z = rw (sym wrong_in ∙ sym e ∙ z)

  pub says-few : (g w : ℕ) → g ≡ found_first → g ≢ 0 → w ≡ way_in required sets l.pieces l.needed g → w ≡ 1
      → too_few g ≡ verdict n required l
  unfolding verdict
  says-few g w e z u v = rw (sym wrong_in ∙ sym e) (sym (of_few g _ z (eq-eqb _ _ (sym (way_in_lem g) ∙ sym u ∙ v))))

  pub says_many : (g w : ℕ) → g ≡ found_first → g ≢ 0 → w ≡ way_in required sets l.pieces l.needed g → w ≢ 1
      → too_many g ≡ verdict n required l
  unfolding verdict
  says_many g w e z u v = rw (sym wrong_in ∙ sym e) (sym (of_many g _ z (ne_eqb _ _ (λ q. v (u ∙ way_in_lem g ∙ q)))))

-- n people have at most 256 groups
pub group_lt : (n g size : ℕ) → n ≤ 8 → size ≡ 2 ^ n → g < size → g < 256
group_lt n g size few e h = let p : 2 ^ n ≤ 2 ^ 8 = pow_mono few in omega arith

-- ---- line by line
module _ (p : Policy) (l : Holdings) where
  abbrev its_verdict : Verdict
  its_verdict = verdict p.people p.required l

  -- what follows planning's lines
  abbrev rest : Outcome Verdict
  rest = first_fail (bad_rows p.people l ∷ []) (done its_verdict)

  parts : judging p l ≡ first_fail (plan_lines p) rest
  unfolding judging judge_lines
  parts = append-lines (plan_lines p) (bad_rows p.people l ∷ []) (done its_verdict)

  -- planning refuses
  pub as_planned : (m a b : ℕ) → planned p ≡ refused m a b → judging p l ≡ refused m a b
  unfolding planned
  as_planned m a b e = parts ∙ same_refusal (plan_lines p) (piece_count p.people p.required) rest m a b e

  module _ {k : ℕ} (e : planned p ≡ done k) where
    -- it does not: ROWS speaks
    then_rows : judging p l ≡ rest
    unfolding planned
    then_rows = parts ∙ passed-done (plan_lines p) rest (done-passed (plan_lines p) (done (piece_count p.people p.required)) k e).0

    pub rows_refuse : wrong_rows p.people l ≡ true → judging p l ≡ refused (number Rows) 0 0
    unfolding bad_rows
    rows_refuse t = then_rows ∙ given (bad_rows p.people l) [] (done its_verdict) t

    pub then_verdict : wrong_rows p.people l ≡ false → judging p l ≡ done its_verdict
    unfolding bad_rows first_fail
    then_verdict f = then_rows ∙ not_given (bad_rows p.people l) [] (done its_verdict) f
