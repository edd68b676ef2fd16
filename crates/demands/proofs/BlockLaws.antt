-- Each block of a deal's cards is a true block, its words are those of the table, and it has the label that it was written from.
-- Assumes nothing.
use Prim.Native.Nat.{ℕ, ◌+◌, ◌-◌, ◌≤◌}
use mathlib.Core.Path.{◌≡◌, sym, ap, ◌∙◌}
use mathlib.Core.Bool.{cond}
use mathlib.Core.List.{List, ◌++◌}
use native.Mathlib.Omega.{arith}
use lib.ListN.{get_or}
use borrow.Author.Tests.{ne_eqb}
use Rattle.lists.specs.Some.{◌∈◌}
use Rattle.field.proofs.Laws.{values-at}
use Rattle.block.specs.declared.deal.DealWords.{DealWords}
use Rattle.block.specs.declared.Label.{Label}
use Rattle.block.specs.Words.{word_at}
use Rattle.block.specs.Deals.{marks_sets, deal_words}
use Rattle.block.specs.Layout.{piece_number, held_at, label_of}
use Rattle.block.specs.Open.{TrueBlock}
use Rattle.block.proofs.LayoutLaws.{held_rest}
use Rattle.block.proofs.Laws.{written-words}
use Rattle.dealing.specs.Deal.{Deal, deal_pieces, block_for, held_by, piece_values, label, block_of}
use Rattle.dealing.proofs.MadeLaws.{InRange, buildable, blocks_open}
use Rattle.demands.specs.Demand2.{CardBlock}

-- the words of a label that say which deal
abbrev pub label_deal : Label → DealWords
label_deal l =
    record {
      mark = l.mark;
      number = l.number;
      people = l.people;
      pieces = cond (marks_sets l.mark) 0 l.pieces;
      width = l.width;
      year = l.year;
    }

-- in the first scheme k, of the deal, is word 5
pub first_count : (b : List ℕ) → word_at b 1 ≡ 1987 → (deal_words b).pieces ≡ word_at b 5
first_count b e = rw (ne_eqb (word_at b 1) 1988 (λ (q : word_at b 1 ≡ 1988). omega arith))

back : (v : ℕ) → 7 + v - 8 ≡ v - 1
back v = omega arith

module _ (d : Deal) (f : InRange d) (i j : ℕ) (least : 1 ≤ i) (most : i ≤ d.policy.people) (has : j ∈ held_by d i) (rest : List ℕ) where
  pub block_true : TrueBlock (block_of d i j ++ rest)
  block_true = (blocks_open d f i least most j has rest).0

  pub card-block : CardBlock d i j (block_of d i j ++ rest)
  unfolding block_of block_for label piece_values
  card-block =
      let l = label d i j in
      let vs = piece_values d j in
      let word = (written-words l vs rest (buildable d f i least most j has)).0 in
      record {
        words = word;
        value = λ v low high.
            word (7 + v) (omega arith) (omega (arith, f.ready.width_in.1))
            ∙ held_rest l vs (7 + v) (omega arith) (λ n. omega (arith, f.ready.width_in.1)) (λ n. omega (arith, f.ready.width_in.1))
            ∙ ap (λ (x : ℕ). get_or vs x 0) (back v)
            ∙ values-at (deal_pieces d - 1) d.secret d.random j v low high;
        check = sym block_true.sum;
      }

module _ {d : Deal} {holder j : ℕ} {b : List ℕ} (c : CardBlock d holder j b) where
  pub label_is : label_of b ≡ label d holder j
  unfolding held_at
  label_is = λ t.
      record {
        mark = c.words 1 (omega arith) (omega arith) t;
        number = c.words 2 (omega arith) (omega arith) t;
        holder = c.words 3 (omega arith) (omega arith) t;
        people = c.words 4 (omega arith) (omega arith) t;
        pieces = c.words 5 (omega arith) (omega arith) t;
        width = c.words 6 (omega arith) (omega arith) t;
        piece = c.words 7 (omega arith) (omega arith) t;
        year = c.words 24 (omega arith) (omega arith) t;
        set = c.words 25 (omega arith) (omega arith) t;
      }

  -- it is of the first scheme: no set, and its piece is that of its number
  pub mark-is : word_at b 1 ≡ 1987
  unfolding label
  mark-is = ap (λ (l : Label). l.mark) label_is

  pub set_is : word_at b 25 ≡ 0
  unfolding label
  set_is = ap (λ (l : Label). l.set) label_is

  pub number_is : piece_number b ≡ j
  unfolding label
  number_is = ap (λ (l : Label). l.piece) label_is
