-- Piles added block for block: block a of the sums has the number and the set of block a of both piles, and the sums of their values.
-- Assumes nothing.
use Prim.Native.Nat.{ℕ, ◌+◌, ◌-◌, ◌*◌, ◌%◌, ◌≤◌}
use mathlib.Core.Path.{◌≡◌, sym, ap, ap₂, subst, ◌∙◌}
use mathlib.Core.Bool.{cond}
use mathlib.Core.List.Memᴰ
use mathlib.Core.List.{List, ◌++◌, map}
use native.Mathlib.Omega.{arith}
use lib.ListN.{length, get_or, take, drop, length-map, take-append-drop}
use lib.Seq.{length-take-le}
use Rattle.lists.specs.Run.{run}
use Rattle.lists.proofs.RunLaws.{run_length, run_at}
use Rattle.lists.proofs.FlatLaws.{Long, flat_map, flat-drop, map_at}
use Rattle.prime.specs.Prime.{p}
use Rattle.answer.specs.Outcome.{done}
use Rattle.field.specs.Added.{added}
use Rattle.field.proofs.Laws.{added-at}
use Rattle.block.specs.declared.deal.DealWords.{DealWords}
use Rattle.block.specs.declared.Label.{Label}
use Rattle.block.specs.Words.{word_at}
use Rattle.block.specs.Deals.{marks_sets}
use Rattle.block.specs.Layout.{width_of, label_of, values_of}
use Rattle.block.specs.Open.{TrueBlock}
use Rattle.block.specs.Written.{Buildable}
use Rattle.block.proofs.RangeLaws.{first-set}
use Rattle.block.proofs.WordLaws.{word-front}
use Rattle.block.proofs.BodyLaws.{length-block}
use Rattle.block.proofs.LayoutLaws.{values-at, values-count}
use Rattle.block.proofs.Laws.{opens-written, written-words}
use Rattle.adding.specs.declared.Pair.{Pair}
use Rattle.adding.specs.Sum.{label_under, sum_of}
use Rattle.adding.specs.Adding.{adding}
use Rattle.adding.specs.Laws.{Addable}
use Rattle.adding.proofs.SumLaws.{width-most, sum_builds}
use Rattle.adding.proofs.Laws.{add_exactly}
use Rattle.pile.specs.Blocks.{blocks, rest_from, word, deal_at, In}
use Rattle.pile.proofs.PileLaws.{rest_long}
use Rattle.joining.specs.Pile.{set_at, pieces_at, number_at, value_of}
use Rattle.demands.specs.Renewal.{block_at, sum_pile}
use Rattle.demands.proofs.BlockLaws.{label_deal}

-- ---- one block of a pile, taken out of it, has the words that it has there
block-word : (pile : List ℕ) (a : ℕ) → In pile a → (i : ℕ) → 1 ≤ i → i ≤ 256 → word_at (block_at pile a) i ≡ word pile a i
block-word pile a h i l u =
    let n = length-take-le 512 (rest_from pile a) (rest_long pile a h.0 h.1) in
    sym (word-front (take 512 (rest_from pile a)) (drop 512 (rest_from pile a)) i l (omega arith))
    ∙ ap (λ (b : List ℕ). word_at b i) (take-append-drop 512 (rest_from pile a))

-- a deal's words under another number and year
abbrev pub under : Pair → DealWords → DealWords
under new d = record { mark = d.mark; number = new.number; people = d.people; pieces = d.pieces; width = d.width; year = new.year }

-- the pile `sums` has, block for block, the sums of the blocks of two piles of the first scheme, under this number and year
pub record Sums (one two sums : List ℕ) (new : Pair) : Type 0 where
  pub same : blocks one ≡ blocks two
  pub size : length sums ≡ 512 * blocks one
  pub count : blocks sums ≡ blocks one
  pub is_true : (a : ℕ) → In one a → TrueBlock (rest_from sums a)
  pub alike : (a : ℕ) → In one a → (i : ℕ) → 3 ≤ i → i ≤ 7 → word one a i ≡ word two a i
  pub mark_one : (a : ℕ) → In one a → word one a 1 ≡ 1987
  pub mark_two : (a : ℕ) → In one a → word two a 1 ≡ 1987
  pub set_one : (a : ℕ) → In one a → set_at one a ≡ 0
  pub set_two : (a : ℕ) → In one a → set_at two a ≡ 0
  pub set_sums : (a : ℕ) → In one a → set_at sums a ≡ 0
  pub deal : (a : ℕ) → In one a → deal_at sums a ≡ under new (deal_at one a)
  pub pieces : (a : ℕ) → In one a → pieces_at sums a ≡ pieces_at one a
  pub number : (a : ℕ) → In one a → number_at sums a ≡ number_at one a
  pub value : (a : ℕ) → In one a → (i : ℕ) → 1 ≤ i → i ≤ word one a 6 → value_of sums a i ≡ (value_of one a i + value_of two a i) % p

-- ---- the sums
module _ (one two : List ℕ) (new : Pair) (same : blocks one ≡ blocks two)
    (accepted : (a : ℕ) → In one a → adding (block_at one a) (block_at two a) new 512 ≡ done 1) where
  abbrev sum : ℕ → List ℕ
  sum a = sum_of (block_at one a) (block_at two a) new

  abbrev sums : List ℕ
  sums = sum_pile one two new

  sum_size : (a : ℕ) → length (sum a) ≡ 512
  unfolding sum_of
  sum_size a = length-block (label_under new (label_of (block_at one a))) (added (values_of (block_at one a)) (values_of (block_at two a)))

  sums_length : length sums ≡ 512 * blocks one
  unfolding sum_pile
  sums_length = flat_map sum sum_size (run (λ a. a) 1 (blocks one)) ∙ ap (λ (n : ℕ). 512 * n) (run_length (λ a. a) 1 (blocks one))

  sums_count : blocks sums ≡ blocks one
  unfolding blocks
  sums_count = omega (arith, sums_length)

  -- block a of the sums is the sum of the blocks a, and then what follows
  sum-at : (a : ℕ) → In one a → (rest : List ℕ) × (rest_from sums a ≡ sum a ++ rest)
  unfolding sum_pile rest_from
  sum-at a h =
      let places = run (λ a. a) 1 (blocks one) in
      let n = run_length (λ a. a) 1 (blocks one) in
      let long : Long 512 (map sum places) = record { long = λ b m. let r = Memᴰ.of_map sum places m in ap length (sym r.2) ∙ sum_size r.0 } in
      let r = flat-drop (map sum places) long (a - 1) (omega (arith, length-map places sum, n, h.0, h.1)) in (
        r.0,
        r.1
            ∙ ap (λ (b : List ℕ). b ++ r.0)
            (map_at sum places (a - 1) (omega (arith, n, h.0, h.1)) ∙ ap sum (run_at (λ a. a) (blocks one) a h.0 h.1)),
      )

  module _ (a : ℕ) (h : In one a) where
    in_two : In two a
    in_two = (h.0, omega (arith, same, h.1))

    facts : Addable (block_at one a) (block_at two a) new 512
    facts = ((add_exactly (block_at one a) (block_at two a) new 512 1).0 (accepted a h)).0

    alike : (i : ℕ) → 3 ≤ i → i ≤ 7 → word one a i ≡ word two a i
    alike i l u =
        sym (block-word one a h i (omega arith) (omega arith)) ∙ facts.alike i l u ∙ block-word two a in_two i (omega arith) (omega arith)

    wide : width_of (block_at one a) ≤ 16
    wide = width-most facts.true_one

    -- what the sum is written from
    abbrev named : Label
    named = label_under new (label_of (block_at one a))

    abbrev valued : List ℕ
    valued = added (values_of (block_at one a)) (values_of (block_at two a))

    built : Buildable named valued
    built = sum_builds facts

    sum_true_at : TrueBlock (rest_from sums a)
    unfolding sum_of
    sum_true_at = let s = sum-at a h in subst TrueBlock (sym s.1) (opens-written named valued s.0 built).0

    sum-label : label_of (rest_from sums a) ≡ named
    unfolding sum_of
    sum-label = let s = sum-at a h in ap label_of s.1 ∙ (written-words named valued s.0 built).1

    sum-values : values_of (rest_from sums a) ≡ valued
    unfolding sum_of
    sum-values = let s = sum-at a h in ap values_of s.1 ∙ (written-words named valued s.0 built).2

    sum_deal : deal_at sums a ≡ under new (deal_at one a)
    sum_deal =
        let at : (i : ℕ) → 1 ≤ i → i ≤ 256 → word_at (block_at one a) i ≡ word one a i = block-word one a h in
        ap label_deal sum-label
        ∙ (λ t.
        record {
          mark = at 1 (omega arith) (omega arith) t;
          number = new.number;
          people = at 4 (omega arith) (omega arith) t;
          pieces = cond (marks_sets (at 1 (omega arith) (omega arith) t)) 0 (at 5 (omega arith) (omega arith) t);
          width = at 6 (omega arith) (omega arith) t;
          year = new.year;
        })

    sum_number : number_at sums a ≡ number_at one a
    sum_number = ap (λ (l : Label). l.piece) sum-label ∙ block-word one a h 7 (omega arith) (omega arith)

    sum-count : pieces_at sums a ≡ pieces_at one a
    sum-count = ap (λ (l : Label). l.pieces) sum-label ∙ block-word one a h 5 (omega arith) (omega arith)

    -- they are of the first scheme: no block is of a set
    mark_one : word one a 1 ≡ 1987
    mark_one = sym (block-word one a h 1 (omega arith) (omega arith)) ∙ facts.mark_one

    mark_two : word two a 1 ≡ 1987
    mark_two = sym (block-word two a in_two 1 (omega arith) (omega arith)) ∙ facts.mark_two

    set_one : set_at one a ≡ 0
    set_one = sym (block-word one a h 25 (omega arith) (omega arith)) ∙ first-set facts.true_one facts.mark_one

    set_two : set_at two a ≡ 0
    set_two = sym (block-word two a in_two 25 (omega arith) (omega arith)) ∙ first-set facts.true_two facts.mark_two

    set_sums : set_at sums a ≡ 0
    set_sums = ap (λ (l : Label). l.set) sum-label ∙ first-set facts.true_one facts.mark_one

    sum-value : (i : ℕ) → 1 ≤ i → i ≤ word one a 6 → value_of sums a i ≡ (value_of one a i + value_of two a i) % p
    sum-value i l u =
        let x = block-word one a h 6 (omega arith) (omega arith) in
        let y = block-word two a in_two 6 (omega arith) (omega arith) in
        let q = alike 6 (omega arith) (omega arith) in
        let w = ap (λ (d : DealWords). d.width) sum_deal in
        sym (values-at (rest_from sums a) i l (omega arith))
        ∙ ap (λ (vs : List ℕ). get_or vs (i - 1) 0) sum-values
        ∙ added-at (values_of (block_at one a)) (values_of (block_at two a))
        (values-count (block_at one a) ∙ x ∙ q ∙ sym y ∙ sym (values-count (block_at two a))) (i - 1)
        ∙ ap₂ (λ (m n : ℕ). (m + n) % p)
        (values-at (block_at one a) i l (omega arith) ∙ block-word one a h (7 + i) (omega arith) (omega (arith, wide)))
        (values-at (block_at two a) i l (omega arith) ∙ block-word two a in_two (7 + i) (omega arith) (omega (arith, wide)))

  pub summed : Sums one two sums new
  summed = record {
    same = same;
    size = sums_length;
    count = sums_count;
    is_true = sum_true_at;
    alike = alike;
    mark_one = mark_one;
    mark_two = mark_two;
    set_one = set_one;
    set_two = set_two;
    set_sums = set_sums;
    deal = sum_deal;
    pieces = sum-count;
    number = sum_number;
    value = sum-value;
  }
