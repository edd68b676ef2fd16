-- Every word of a card by sets: each block stands where the card has it, its words are those of the table, and the table leaves none open.
-- Assumes nothing.
use Prim.Native.Nat.{ℕ, ◌+◌, ◌-◌, ◌*◌, ◌≤◌}
use mathlib.Core.Path.{◌≡◌, sym, ap, ◌∙◌}
use mathlib.Core.List.Memᴰ
use mathlib.Core.List.{List, ◌++◌}
use native.Mathlib.Decide.{dec_le}
use native.Mathlib.Omega.{arith}
use lib.ListN.{length, get_or, drop, length-map}
use Rattle.lists.specs.Places.{at}
use Rattle.lists.specs.Some.{◌∈◌}
use Rattle.lists.proofs.FlatLaws.{Long, flat-drop, map_at}
use Rattle.lists.proofs.ThoseLaws.{at_in}
use Rattle.field.proofs.Laws.{values-at}
use Rattle.planning.specs.Sets.{member_count}
use Rattle.minimal.specs.Minimal.{number_in}
use Rattle.block.specs.Words.{word_at, check_of}
use Rattle.block.proofs.LayoutLaws.{held_rest}
use Rattle.block.proofs.SumLaws.{check-same}
use Rattle.block.proofs.Laws.{written-words}
use Rattle.dealing.specs.Deal.{Deal}
use Rattle.bysets.specs.Cards.{set_block_for, block_by, set_at, sets_held, set_values, own_values, set_label, set_block, set_blocks, set_card}
use Rattle.bysets.specs.Laws.{SetCardBlock}
use Rattle.bysets.proofs.MadeLaws.{InRange, block-length, buildable, blocks_open}

-- ---- words 1 to 255 and the check give all 256
pub each_word : (b c : List ℕ) → ((i : ℕ) → 1 ≤ i → i ≤ 255 → word_at b i ≡ word_at c i) → word_at b 256 ≡ check_of b → word_at c 256 ≡ check_of c
    → (i : ℕ) → 1 ≤ i → i ≤ 256 → word_at b i ≡ word_at c i
each_word b c same x y i l u = by (dec_le i 255)
  where
    by : Dec (i ≤ 255) → word_at b i ≡ word_at c i
    by (yes h) = same i l h
    by (no h) = let e : i ≡ 256 = omega arith in rw e (x ∙ check-same b c same ∙ sym y)

-- ---- one block
back : (v : ℕ) → 7 + v - 8 ≡ v - 1
back v = omega arith

pub card-long : (d : Deal) (holder : ℕ) → Long 512 (set_blocks d holder)
unfolding set_blocks
card-long d holder = record {
  long = λ b m. let r = Memᴰ.of_map (set_block d holder) (sets_held d holder) m in ap length (sym r.2) ∙ block-length d holder r.0;
}

module _ (d : Deal) (f : InRange d) (holder : ℕ) (least : 1 ≤ holder) (most : holder ≤ d.policy.people) where
  card-block : (s : ℕ) → s ∈ sets_held d holder → (rest : List ℕ) → SetCardBlock d holder s (set_block d holder s ++ rest)
  unfolding set_block block_by set_block_for set_label set_values
  card-block s has rest =
      let l = set_label d holder s in
      let vs = own_values d holder s in
      let word = (written-words l vs rest (buildable d f holder least most s has)).0 in
      record {
        words = word;
        value = λ v low high.
            word (7 + v) (omega arith) (omega (arith, f.ready.width_in.1))
            ∙ held_rest l vs (7 + v) (omega arith) (λ n. omega (arith, f.ready.width_in.1)) (λ n. omega (arith, f.ready.width_in.1))
            ∙ ap (λ (x : ℕ). get_or vs x 0) (back v)
            ∙ values-at (member_count (set_at d s) - 1) d.secret _ (number_in (set_at d s) holder) v low high;
        check = sym (blocks_open d f holder least most s has rest).0.sum;
      }

  pub block_at : (a : ℕ) → 1 ≤ a → a ≤ length (sets_held d holder) → SetCardBlock d holder (at (sets_held d holder) a) (drop (512 * (a - 1)) (set_card d holder))
  unfolding set_card set_blocks set_block sets_held
  block_at a l u =
      let s = at (sets_held d holder) a in
      let r = flat-drop (set_blocks d holder) (card-long d holder) (a - 1) (omega (arith, length-map (sets_held d holder) (set_block d holder))) in
      let q : drop (512 * (a - 1)) (set_card d holder) ≡ set_block d holder s ++ r.0
      = r.1 ∙ ap (λ (b : List ℕ). b ++ r.0) (map_at (set_block d holder) (sets_held d holder) (a - 1) (omega arith)) in
      rw q (card-block s (at_in 0 (sets_held d holder) (a - 1) (omega arith)) r.0)
