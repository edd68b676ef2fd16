-- A block of a deal and that of a deal of zeros, added, are the block of the renewed deal: the same label under the new number and year, and the values
-- of the same secret with the added randomness. Assumes nothing.
use Prim.Native.Nat.{ℕ, zero, suc, ◌-◌, ◌*◌, ◌≤◌}
use mathlib.Core.Path.{◌≡◌, refl, sym, ap, ap₂, subst, ◌∙◌}
use mathlib.Core.List.{List, [], append-nil}
use native.Mathlib.Nat.{le_refl}
use native.Mathlib.Omega.{arith}
use lib.ListN.{length, replicate, length-replicate}
use Rattle.lists.specs.Some.{◌∈◌}
use Rattle.answer.specs.Outcome.{done}
use Rattle.field.specs.Added.{added}
use Rattle.field.proofs.Laws.{added-fits, zeros-added}
use Rattle.block.specs.declared.Label.{Label}
use Rattle.block.specs.Words.{word_at}
use Rattle.block.specs.Layout.{held_at, label_of, values_of}
use Rattle.block.specs.Open.{TrueBlock}
use Rattle.block.specs.Written.{block_bytes}
use Rattle.block.proofs.Laws.{written-words}
use Rattle.adding.specs.declared.Pair.{Pair}
use Rattle.adding.specs.Sum.{pair_of, label_under, sum_of}
use Rattle.adding.specs.Adding.{adding}
use Rattle.adding.specs.Laws.{Addable}
use Rattle.adding.proofs.Laws.{add_exactly}
use Rattle.dealing.specs.Deal.{Deal, deal_from, deal_pieces, held_by, piece_values, label, block_for, block_of}
use Rattle.dealing.proofs.MadeLaws.{InRange, made_in_range, block-length, buildable}
use Rattle.demands.specs.Renewal.{Renewal, renewed}
use Rattle.demands.proofs.BlockLaws.{block_true}

-- ---- what a deal's block has: its words, label and values are those that it was written from
module _ (d : Deal) (f : InRange d) (i j : ℕ) (least : 1 ≤ i) (most : i ≤ d.policy.people) (has : j ∈ held_by d i) where
  written : ((a : ℕ) → 1 ≤ a → a ≤ 255 → word_at (block_of d i j) a ≡ held_at (label d i j) (piece_values d j) a)
      × (label_of (block_of d i j) ≡ label d i j)
      × (values_of (block_of d i j) ≡ piece_values d j)
  unfolding block_of block_for label piece_values
  written = rw (append-nil (block_of d i j)) at (written-words (label d i j) (piece_values d j) [] (buildable d f i least most j has))

  own_true : TrueBlock (block_of d i j)
  own_true = subst TrueBlock (append-nil (block_of d i j)) (block_true d f i j least most has [])

-- ---- the deal of zeros, under this number and year
abbrev pub zero_deal : Deal → Pair → List ℕ → Deal
zero_deal d own random = deal_from d.policy own.number own.year (replicate (length d.secret) 0) random

-- a renewal's is one
pub as_zeros : {d z : Deal} {new : Pair} → Renewal d z new → z ≡ zero_deal d (pair_of z.number z.year) z.random
as_zeros {z = z} r = λ t. deal_from (r.policy t) z.number z.year (r.zeros t) z.random

-- words 3 to 7 of two labels that differ in number and year alone
held-alike : (l : Label) (n : Pair) (vs us : List ℕ) (a : ℕ) → 3 ≤ a → a ≤ 7 → held_at l vs a ≡ held_at (label_under n l) us a
unfolding held_at
held-alike l n vs us zero low high = absurd (omega arith)
held-alike l n vs us (suc zero) low high = absurd (omega arith)
held-alike l n vs us (suc (suc zero)) low high = absurd (omega arith)
held-alike l n vs us (suc (suc (suc zero))) low high = refl
held-alike l n vs us (suc (suc (suc (suc zero)))) low high = refl
held-alike l n vs us (suc (suc (suc (suc (suc zero))))) low high = refl
held-alike l n vs us (suc (suc (suc (suc (suc (suc zero)))))) low high = refl
held-alike l n vs us (suc (suc (suc (suc (suc (suc (suc zero))))))) low high = refl
held-alike l n vs us (suc (suc (suc (suc (suc (suc (suc (suc a)))))))) low high = absurd (omega arith)

module _ (d : Deal) (own : Pair) (random : List ℕ) (new : Pair) (r : Renewal d (zero_deal d own random) new) where
  abbrev z : Deal
  z = zero_deal d own random

  old_in : InRange d
  old_in = made_in_range d r.old

  zero_in : InRange z
  zero_in = made_in_range z r.zero

  as_many : length d.random ≡ length random
  unfolding deal_pieces
  as_many =
      old_in.ready.random_in.count
      ∙ ap (λ (w : ℕ). w * (deal_pieces d - 1)) (sym (length-replicate (length d.secret) 0))
      ∙ sym zero_in.ready.random_in.count

  -- ---- the renewed deal is in range
  pub renewed_in : InRange (renewed d z new)
  unfolding deal_pieces
  renewed_in =
      let sum = added-fits d.random random in
      record {
        plan_passes = old_in.plan_passes;
        holder = old_in.holder;
        ready = record {
          few = old_in.ready.few;
          least = old_in.ready.least;
          most = old_in.ready.most;
          number_in_lem = r.number_in_lem;
          year_in = r.year_in;
          holder_in = old_in.ready.holder_in;
          width_in = old_in.ready.width_in;
          secret_in = old_in.ready.secret_in;
          random_in = record { count = sum.0 (omega (arith, as_many)) ∙ old_in.ready.random_in.count; below = sum.1 };
        };
      }

  -- ---- its values
  pub sum-values : (j : ℕ) → added (piece_values d j) (piece_values z j) ≡ piece_values (renewed d z new) j
  unfolding piece_values deal_pieces
  sum-values j = zeros-added (deal_pieces d - 1) d.secret d.random random j old_in.ready.secret_in as_many

  -- ---- its blocks
  module _ (i j : ℕ) (least : 1 ≤ i) (most : i ≤ d.policy.people) (has : j ∈ held_by d i) where
    zero_has : j ∈ held_by z i
    unfolding held_by
    zero_has = has

    same-label : label z i j ≡ label_under own (label d i j)
    unfolding label deal_pieces
    same-label = rw (length-replicate {A = ℕ} (length d.secret) 0)

    addable : Addable (block_of d i j) (block_of z i j) new 512
    unfolding label
    addable =
        let one = written d old_in i j least most has in
        let two = written z zero_in i j least most zero_has in
        record {
          whole_one = block-length d i j;
          whole_two = block-length z i j;
          true_one = own_true d old_in i j least most has;
          true_two = own_true z zero_in i j least most zero_has;
          mark_one = ap (λ (l : Label). l.mark) one.1;
          mark_two = ap (λ (l : Label). l.mark) two.1;
          alike = λ a low high.
              one.0 a (omega arith) (omega arith)
              ∙ held-alike (label d i j) own (piece_values d j) (piece_values z j) a low high
              ∙ ap (λ (l : Label). held_at l (piece_values z j) a) (sym same-label)
              ∙ sym (two.0 a (omega arith) (omega arith));
          number_in_lem = r.number_in_lem;
          year_in = r.year_in;
          unlike_one = λ e. r.unlike-old (e ∙ ap (λ (l : Label). pair_of l.number l.year) one.1);
          unlike_two = λ e. r.unlike-zero (e ∙ ap (λ (l : Label). pair_of l.number l.year) two.1);
          fits = le_refl 512;
        }

    pub accepted : adding (block_of d i j) (block_of z i j) new 512 ≡ done 1
    accepted = (add_exactly (block_of d i j) (block_of z i j) new 512 1).1 (addable, refl)

    pub sum-block : sum_of (block_of d i j) (block_of z i j) new ≡ block_of (renewed d z new) i j
    unfolding sum_of block_of block_for label piece_values deal_pieces
    sum-block =
        let one = written d old_in i j least most has in
        let two = written z zero_in i j least most zero_has in
        ap₂ (λ (l : Label) (vs : List ℕ). block_bytes (label_under new l) vs) one.1 (ap₂ added one.2 two.2 ∙ sum-values j)
