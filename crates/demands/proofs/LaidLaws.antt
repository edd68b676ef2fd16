-- A pile of whole cards, whatever the blocks of each holder's card are, read block by block: it is cut every 512 bytes.
-- Assumes nothing.
use Prim.Native.Nat.{ℕ, suc, ◌-◌, ◌%◌, ◌≤◌}
use mathlib.Core.Path.{◌≡◌, refl, ap, ◌∙◌}
use mathlib.Core.List.{List, [], ◌++◌, Memᴰ}
use native.Mathlib.Omega.{arith}
use lib.ListN.{length, get_or}
use Rattle.lists.specs.Flat.{flat}
use Rattle.lists.proofs.FlatLaws.{Long, flat-length, flat-drop}
use Rattle.lists.proofs.ThoseLaws.{at_in, in_at}
use Rattle.pile.specs.Blocks.{blocks, rest_from, In}
use Rattle.demands.specs.Group.{CardsOf, PileOf}

-- block a of the pile is b
pub record BlockAt (pile : List ℕ) (a : ℕ) (b : List ℕ) : Type 0 where
  pub inside : In pile a
  pub rest : List ℕ
  pub is : rest_from pile a ≡ b ++ rest

-- whole blocks, at most 560, each of them one of a member's card, and each block of a member's card one of them
pub record Laid (blocksOf : ℕ → List (List ℕ)) (member : ℕ → Type 0) (pile : List ℕ) : Type 0 where
  pub whole : length pile % 512 ≡ 0
  pub few : blocks pile ≤ 560
  pub theirs : (a : ℕ) → In pile a → (i : ℕ) × (b : List ℕ) × member i × Memᴰ b (blocksOf i) × BlockAt pile a b
  pub all : (i : ℕ) (b : List ℕ) → member i → Memᴰ b (blocksOf i) → (a : ℕ) × BlockAt pile a b

module _ (blocksOf : ℕ → List (List ℕ)) (long : (i : ℕ) → Long 512 (blocksOf i)) (member : ℕ → Type 0) where
  -- every block of whole cards is of 512 bytes
  pub whole_long : (bs : List (List ℕ)) → CardsOf blocksOf member bs → Long 512 bs
  whole_long bs c = record { long = λ b m. let r = c.theirs b m in (long r.0).long b r.2 }

  module _ (bs : List (List ℕ)) (c : CardsOf blocksOf member bs) where
    at_block : (a : ℕ) → a ≤ length bs → 1 ≤ a → (b : List ℕ) → get_or bs (a - 1) [] ≡ b → BlockAt (flat bs) a b
    unfolding rest_from blocks
    at_block a u l b e =
        let r = flat-drop bs (whole_long bs c) (a - 1) (omega arith) in
        record {
          inside = (l, omega (arith, flat-length bs (whole_long bs c)));
          rest = r.0;
          is = r.1 ∙ ap (λ (x : List ℕ). x ++ r.0) e;
        }

    laid_flat : length bs ≤ 560 → Laid blocksOf member (flat bs)
    unfolding blocks
    laid_flat few =
        let size = flat-length bs (whole_long bs c) in
        record {
          whole = omega arith;
          few = omega arith;
          theirs = λ a h.
              let u : a ≤ length bs = omega (arith, h.1) in
              let b = get_or bs (a - 1) [] in
              let r = c.theirs b (at_in [] bs (a - 1) (omega (arith, h.0))) in
              (r.0, b, r.1, r.2, at_block a u h.0 b refl);
          all = λ i b m k.
              let r = in_at [] bs b (c.all i m b k) in
              let back : suc r.0 - 1 ≡ r.0 = omega arith in
              (suc r.0, at_block (suc r.0) r.1 (omega arith) b (ap (λ (x : ℕ). get_or bs x []) back ∙ r.2));
        }

  pub laid : (pile : List ℕ) → PileOf blocksOf member pile → Laid blocksOf member pile
  laid pile w = rw w.bytes (laid_flat w.blocks w.whole w.few)
