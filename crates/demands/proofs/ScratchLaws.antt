-- Scratched piles: what joining says of them, and that each byte of whole cards is below 256, so that salvage brings them back.
-- Assumes nothing.
use Prim.Native.Nat.{ℕ, ◌*◌, ◌≤◌, ◌<◌}
use mathlib.Core.Path.{◌≡◌, refl, sym, ap, subst, ◌∙◌}
use mathlib.Core.Logic.{◌≢◌}
use mathlib.Core.List.Memᴰ
use mathlib.Core.List.{List, [], ◌∷◌, Memᴰ}
use native.Mathlib.Omega.{arith}
use lib.ListN.{length, get_or, take}
use lib.Seq.{length-take-le}
use borrow.Author.Tests.{lt-ltb, le-ltb}
use Rattle.lists.specs.Flat.{flat}
use Rattle.lists.specs.Laws.{IsFirst}
use Rattle.lists.specs.Some.{◌∈◌}
use Rattle.block.specs.Words.{word_at, put_at}
use Rattle.block.specs.Open.{above, TrueBlock}
use Rattle.block.proofs.WordLaws.{word-put-same, word-put-other}
use Rattle.block.proofs.StoreLaws.{word-take}
use Rattle.block.proofs.WrittenLaws.{low_append, block_low}
use Rattle.block.proofs.Laws.{only-words}
use Rattle.dealing.specs.Deal.{Deal, block_for, held_by, piece_values, label, block_of, card_blocks}
use Rattle.dealing.proofs.MadeLaws.{InRange, buildable}
use Rattle.pile.specs.Blocks.{blocks}
use Rattle.salvage.specs.Laws.{Bytes}
use Rattle.demands.specs.Group.{WholeCards}

-- ---- every byte of whole cards is below 256
flat_low : (bs : List (List ℕ)) → ((b : List ℕ) → Memᴰ b bs → (k : ℕ) → get_or b k 0 < 256) → (k : ℕ) → get_or (flat bs) k 0 < 256
unfolding flat
flat_low [] h k = omega arith
flat_low (b ∷ bs) h k = low_append b (flat bs) (h b (Memᴰ.head refl)) (flat_low bs (λ c m. h c (Memᴰ.tail m))) k

module _ (d : Deal) (f : InRange d) where
  block-bytes : (i j : ℕ) → 1 ≤ i → i ≤ d.policy.people → j ∈ held_by d i → (k : ℕ) → get_or (block_of d i j) k 0 < 256
  unfolding block_of block_for label piece_values
  block-bytes i j least most has = block_low (label d i j) (piece_values d j) (buildable d f i least most j has).small

  pub cards-bytes : (g : ℕ) (pile : List ℕ) → WholeCards d g pile → Bytes pile
  unfolding card_blocks
  cards-bytes g pile w = record {
    byte = λ k.
        rw w.bytes
        (flat_low w.blocks
        (λ b m.
        let r = w.whole.theirs b m in
        let s = Memᴰ.of_map (block_of d r.0) (held_by d r.0) r.2 in
        subst (λ (c : List ℕ). (k : ℕ) → get_or c k 0 < 256) s.2 (block-bytes r.0 s.0 r.1.least r.1.most s.1)) k);
  }

-- ---- blocks that agree in their first 512 bytes
module _ (x y : List ℕ) (long-x : 512 ≤ length x) (long-y : 512 ≤ length y) where
  words_same : take 512 x ≡ take 512 y → (k : ℕ) → 1 ≤ k → k ≤ 256 → word_at x k ≡ word_at y k
  words_same e k l h =
      sym (word-take x 512 k long-x l (omega arith)) ∙ ap (λ (b : List ℕ). word_at b k) e ∙ word-take y 512 k long-y l (omega arith)

  pub same_true : take 512 x ≡ take 512 y → TrueBlock y → TrueBlock x
  same_true e t = (only-words y x (λ k l h. sym (words_same e k l h))).2 t long-x

  -- y is true, and x is y with word i lost: that is its first word above 32748
  module _ (i v : ℕ) (from : 1 ≤ i) (to : i ≤ 256) (high : 32748 < v) (lost : take 512 x ≡ put_at (take 512 y) i v) (t : TrueBlock y) where
    room : 2 * i ≤ length (take 512 y)
    room = omega (arith, length-take-le 512 y long-y)

    at_i : word_at x i ≡ v
    at_i = sym (word-take x 512 i long-x from (omega arith)) ∙ ap (λ (b : List ℕ). word_at b i) lost ∙ word-put-same (take 512 y) i v from room

    off_i : (k : ℕ) → 1 ≤ k → k ≤ 256 → k ≢ i → word_at x k ≡ word_at y k
    off_i k l h ne =
        sym (word-take x 512 k long-x l (omega arith)) ∙ ap (λ (b : List ℕ). word_at b k) lost
        ∙ word-put-other (take 512 y) i v from room k l ne
        ∙ word-take y 512 k long-y l (omega arith)

    pub first_dirty : IsFirst (above x) 1 257 i
    first_dirty = record {
      from = from;
      to = omega arith;
      has = lt-ltb 32748 (word_at x i) (omega (arith, at_i));
      least = λ k l h. le-ltb 32748 (word_at x k) (rw (off_i k l (omega arith) (λ e. omega arith)) (t.clean.small k l (omega arith)));
    }
