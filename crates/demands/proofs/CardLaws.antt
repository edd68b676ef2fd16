-- Block a of a card, where it stands on the card, is that of the a-th piece that the holder has; and every block is of 512 bytes.
-- Assumes nothing.
use Prim.Native.Nat.{ℕ, ◌-◌, ◌*◌, ◌≤◌}
use mathlib.Core.Path.{◌≡◌, sym, ap, ◌∙◌}
use mathlib.Core.List.Memᴰ
use mathlib.Core.List.{List, ◌++◌}
use native.Mathlib.Omega.{arith}
use lib.ListN.{length, drop, length-map}
use Rattle.lists.specs.Places.{at}
use Rattle.lists.proofs.ThoseLaws.{at_in}
use Rattle.dealing.specs.Deal.{Deal, held_by, block_of, card_blocks, card}
use Rattle.dealing.proofs.MadeLaws.{InRange, block-length}
use Rattle.demands.specs.Demand2.{CardBlock}
use Rattle.demands.proofs.BlockLaws.{card-block}
use Rattle.lists.proofs.FlatLaws.{Long, flat-drop, map_at}

module _ (d : Deal) where
  pub card-long : (holder : ℕ) → Long 512 (card_blocks d holder)
  unfolding card_blocks
  card-long holder = record {
    long = λ b m. let r = Memᴰ.of_map (block_of d holder) (held_by d holder) m in ap length (sym r.2) ∙ block-length d holder r.0;
  }

module _ (d : Deal) (f : InRange d) (holder : ℕ) (least : 1 ≤ holder) (most : holder ≤ d.policy.people) where
  pub block_at : (a : ℕ) → 1 ≤ a → a ≤ length (held_by d holder) → CardBlock d holder (at (held_by d holder) a) (drop (512 * (a - 1)) (card d holder))
  unfolding card card_blocks block_of
  block_at a l u =
      let j = at (held_by d holder) a in
      let r = flat-drop (card_blocks d holder) (card-long d holder) (a - 1) (omega (arith, length-map (held_by d holder) (block_of d holder))) in
      let q : drop (512 * (a - 1)) (card d holder) ≡ block_of d holder j ++ r.0
      = r.1 ∙ ap (λ (b : List ℕ). b ++ r.0) (map_at (block_of d holder) (held_by d holder) (a - 1) (omega arith)) in
      rw q (card-block d f holder j least most (at_in 0 (held_by d holder) (a - 1) (omega arith)) r.0)
