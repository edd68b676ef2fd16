-- The sum of two blocks that add up: it can be written, it is a true block, and neither exchange nor grouping changes it.
-- Assumes nothing.
use Prim.Native.Nat.{ℕ, ◌+◌, ◌%◌, ◌≤◌}
use mathlib.Core.Path.{◌≡◌, sym, ap, ap₂, subst, ◌∙◌}
use mathlib.Core.List.{List, [], append-nil}
use native.Mathlib.Omega.{arith}
use lib.ListN.{length, take, drop}
use lib.Seq.{take_at}
use Rattle.lists.specs.Run.{run}
use Rattle.lists.specs.Over.{over}
use Rattle.lists.proofs.RunLaws.{run_length}
use Rattle.prime.specs.Prime.{p}
use Rattle.answer.specs.Outcome.{done, refused}
use Rattle.answer.proofs.LentLaws.{result_writes, refusal_keeps}
use Rattle.field.specs.Added.{added}
use Rattle.field.proofs.AddedLaws.{added-length, added-below, added-run, added_exchanged, added_grouped}
use Rattle.block.specs.declared.Label.{Label}
use Rattle.block.specs.Words.{word_at}
use Rattle.block.specs.Layout.{width_of, label_of, values_of}
use Rattle.block.specs.Open.{TrueBlock}
use Rattle.block.specs.Written.{block_bytes, Buildable}
use Rattle.block.specs.Laws.{first}
use Rattle.block.proofs.LayoutLaws.{values-count}
use Rattle.block.proofs.RangeLaws.{true_ranges, first-set}
use Rattle.block.proofs.BodyLaws.{builds, length-block}
use Rattle.block.proofs.Laws.{opens-written, written-words}
use Rattle.adding.specs.declared.Pair.{Pair}
use Rattle.adding.specs.Sum.{label_under, sum_of}
use Rattle.adding.specs.Adding.{adding, sum_into}
use Rattle.adding.specs.Laws.{Addable}

-- value i of the sum
abbrev pub value_sum : List ℕ → List ℕ → ℕ → ℕ
value_sum one two i = (word_at one (7 + i) + word_at two (7 + i)) % p

pub width-most : {b : List ℕ} → TrueBlock b → width_of b ≤ 16
width-most t = (true_ranges t).width.1

-- the values as the code makes them, over the front of an array
pub front-values : (one two : List ℕ) (w : ℕ) → w ≡ width_of one → w ≡ width_of two → (old made : List ℕ) → made ≡ over (run (value_sum one two) 1 w) old
    → take w made ≡ added (values_of one) (values_of two)
unfolding over values_of
front-values one two w e f old made h =
    let all = run (value_sum one two) 1 w in
    ap (take w) h
    ∙ take_at all (drop (length all) old) w (run_length (value_sum one two) 1 w)
    ∙ sym (added-run (λ i. word_at one (7 + i)) (λ i. word_at two (7 + i)) 1 w)
    ∙ ap₂ (λ (m n : ℕ). added (run (λ i. word_at one (7 + i)) 1 m) (run (λ i. word_at two (7 + i)) 1 n)) e f

module _ {one two : List ℕ} {new : Pair} {room : ℕ} (y : Addable one two new room) where
  -- they have as many values
  pub widths : width_of one ≡ width_of two
  widths = y.alike 6 (omega arith) (omega arith)

  abbrev label : Label
  label = label_under new (label_of one)

  abbrev values : List ℕ
  values = added (values_of one) (values_of two)

  -- ---- the sum is a block
  pub sum_builds : Buildable label values
  sum_builds =
      let r = true_ranges y.true_one in
      builds label values
      (record {
        number = y.number_in_lem.0;
        holder = r.holder;
        people = r.people;
        pieces = r.pieces;
        width = r.width;
        piece = r.piece;
        scheme = first y.mark_one (first-set y.true_one y.mark_one);
      })
      y.number_in_lem.1
      y.year_in
      (λ i. omega (arith, (added-below (values_of one) (values_of two)).each i))
      (sym (added-length (values_of one) (values_of two) (omega (arith, values-count one, values-count two, widths)) ∙ values-count one))

  pub sum-length : length (sum_of one two new) ≡ 512
  unfolding sum_of
  sum-length = length-block label values

  pub sum_true : TrueBlock (sum_of one two new)
  unfolding sum_of
  sum_true = subst TrueBlock (append-nil (block_bytes label values)) (opens-written label values [] sum_builds).0

  pub sum-label : label_of (sum_of one two new) ≡ label
  unfolding sum_of
  sum-label = ap label_of (sym (append-nil (block_bytes label values))) ∙ (written-words label values [] sum_builds).1

  pub sum-values : values_of (sum_of one two new) ≡ values
  unfolding sum_of
  sum-values = ap values_of (sym (append-nil (block_bytes label values))) ∙ (written-words label values [] sum_builds).2

  -- a label of these fields and a list of these values are those of the sum
  pub label-from : {people pieces width holder piece : ℕ} → people ≡ word_at one 4 → pieces ≡ word_at one 5 → width ≡ word_at one 6
      → holder ≡ word_at one 3 → piece ≡ word_at one 7
      → ◌≡◌ {A = Label}
      (record { mark = 1987; number = new.number; holder = holder; people = people; pieces = pieces; width = width; piece = piece; year = new.year; set = 0 })
      label
  label-from e f g h k =
      let mark = sym y.mark_one in
      let none = sym (first-set y.true_one y.mark_one) in
      λ t.
      record { mark = mark t; number = new.number; holder = h t; people = e t; pieces = f t; width = g t; piece = k t; year = new.year; set = none t }

  module _ {l : Label} {vs : List ℕ} (e : l ≡ label) (f : vs ≡ values) where
    pub built : Buildable l vs
    built = subst (λ (x : Label). Buildable x vs) (sym e) (subst (Buildable label) (sym f) sum_builds)

    pub bytes_are : block_bytes l vs ≡ sum_of one two new
    unfolding sum_of
    bytes_are = ap₂ block_bytes e f

  -- ---- exchanged
  pub turned : Addable two one new room
  turned =
      record {
        whole_one = y.whole_two;
        whole_two = y.whole_one;
        true_one = y.true_two;
        true_two = y.true_one;
        mark_one = y.mark_two;
        mark_two = y.mark_one;
        alike = λ i l h. sym (y.alike i l h);
        number_in_lem = y.number_in_lem;
        year_in = y.year_in;
        unlike_one = y.unlike_two;
        unlike_two = y.unlike_one;
        fits = y.fits;
      }

  same-label : label_under new (label_of two) ≡ label_under new (label_of one)
  same-label =
      let mark = y.mark_two ∙ sym y.mark_one in
      let none = first-set y.true_two y.mark_two ∙ sym (first-set y.true_one y.mark_one) in
      λ t.
      record {
        mark = mark t;
        number = new.number;
        holder = sym (y.alike 3 (omega arith) (omega arith)) t;
        people = sym (y.alike 4 (omega arith) (omega arith)) t;
        pieces = sym (y.alike 5 (omega arith) (omega arith)) t;
        width = sym (y.alike 6 (omega arith) (omega arith)) t;
        piece = sym (y.alike 7 (omega arith) (omega arith)) t;
        year = new.year;
        set = none t;
      }

  pub sum_exchanged : sum_of two one new ≡ sum_of one two new
  unfolding sum_of
  sum_exchanged = ap₂ block_bytes same-label (added_exchanged (values_of two) (values_of one))

-- ---- grouped: the first two, or the last two, added first
pub sum_grouped : {one two three : List ℕ} {left right : Pair} {room : ℕ} → Addable one two left room → Addable two three right room
    → (new : Pair) → sum_of (sum_of one two left) three new ≡ sum_of one (sum_of two three right) new
unfolding sum_of
sum_grouped {one} {two} {three} {left} {right} y z new =
    ap₂ (λ (l : Label) (vs : List ℕ). block_bytes (label_under new l) (added vs (values_of three))) (sum-label y) (sum-values y)
    ∙ ap (block_bytes (label_under new (label_of one)))
    (added_grouped (values_of one) (values_of two) (values_of three) ∙ ap (added (values_of one)) (sym (sum-values z)))

-- ---- what is left of the output
module _ (one two : List ℕ) (new : Pair) (out : List ℕ) where
  pub sum_left : (n : ℕ) → adding one two new (length out) ≡ done n → sum_into one two new out ≡ over (sum_of one two new) out
  unfolding sum_into
  sum_left n e = result_writes (adding one two new (length out)) n (sum_of one two new) out e

  pub refusal_left : (m a b : ℕ) → adding one two new (length out) ≡ refused m a b → sum_into one two new out ≡ out
  unfolding sum_into
  refusal_left m a b e = refusal_keeps (adding one two new (length out)) m a b (sum_of one two new) out e
