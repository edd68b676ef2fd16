-- The pile of the blocks that brought a piece reads as the whole cards that were handed in. Assumes nothing.
use mathlib.Core.Path.{◌≡◌, sym, ap, subst, ◌∙◌}
use mathlib.Core.List.Memᴰ
use mathlib.Core.List.{List, [], ◌++◌, append-nil}
use Prim.Native.Nat.{ℕ, suc, ◌-◌, ◌*◌, ◌≤◌}
use native.Mathlib.Omega.{arith}
use lib.ListN.{length, get_or}
use Rattle.lists.specs.Flat.{flat}
use Rattle.lists.specs.Some.{◌∈◌}
use Rattle.lists.proofs.FlatLaws.{Long, flat-length, flat-drop}
use Rattle.lists.proofs.ThoseLaws.{at_in, in_at}
use Rattle.block.specs.Words.{word_at}
use Rattle.block.specs.Layout.{piece_number}
use Rattle.block.specs.Open.{TrueBlock}
use Rattle.block.proofs.WordLaws.{word-front}
use Rattle.dealing.specs.Deal.{Deal, held_by, block_of, card_blocks}
use Rattle.dealing.proofs.MadeLaws.{InRange}
use Rattle.pile.specs.Blocks.{blocks, rest_from}
use Rattle.demands.specs.Group.{Member, CardsOf}
use Rattle.demands.specs.Demand2.{CardBlock}
use Rattle.demands.proofs.BlockLaws.{block_true, card-block, number_is}
use Rattle.demands.proofs.ReadLaws.{Reads}
use Rattle.demands.proofs.DeskCover.{Covers}

module _ (d : Deal) (f : InRange d) (g : ℕ) (bs hs : List (List ℕ)) (w : CardsOf (card_blocks d) (Member d g) hs) (v : Covers bs hs) (long : Long 512 bs) (few : length bs ≤ 70) where
  size : length (flat bs) ≡ 512 * length bs
  size = flat-length bs long

  at_block : (a : ℕ) → 1 ≤ a → a ≤ length bs → (rest : List ℕ) × (rest_from (flat bs) a ≡ get_or bs (a - 1) [] ++ rest)
  unfolding rest_from
  at_block a l u = flat-drop bs long (a - 1) (omega arith)

  -- the piece of a card's block
  piece_of_lem : (i j : ℕ) → Member d g i → j ∈ held_by d i → piece_number (block_of d i j) ≡ j
  piece_of_lem i j m has = ap piece_number (sym (append-nil (block_of d i j))) ∙ number_is (card-block d f i j m.least m.most has [])

  pub whole_reads : Reads d g (flat bs)
  unfolding blocks card_blocks
  whole_reads = record {
    whole = omega (arith, size);
    few = omega (arith, size);
    theirs = λ a h.
        let u : a ≤ length bs = omega (arith, size, h.1) in
        let b = get_or bs (a - 1) [] in
        let t = w.theirs b (v.into b (at_in [] bs (a - 1) (omega (arith, h.0)))) in
        let s = Memᴰ.of_map (block_of d t.0) (held_by d t.0) t.2 in
        let r = at_block a h.0 u in
        let q : rest_from (flat bs) a ≡ block_of d t.0 s.0 ++ r.0 = r.1 ∙ ap (λ (x : List ℕ). x ++ r.0) (sym s.2) in
        record {
          who = t.0;
          which = s.0;
          in_group = t.1;
          has = s.1;
          says = subst (CardBlock d t.0 s.0) (sym q) (card-block d f t.0 s.0 t.1.least t.1.most s.1 r.0);
          is_true = subst TrueBlock (sym q) (block_true d f t.0 s.0 t.1.least t.1.most s.1 r.0);
        };
    all = λ i j m has.
        let x = v.back (block_of d i j) (w.all i m (block_of d i j) (Memᴰ.map (block_of d i) has)) in
        let n = in_at [] bs x.0 x.1 in
        let back : suc n.0 - 1 ≡ n.0 = omega arith in
        let r = at_block (suc n.0) (omega arith) n.1 in
        let q : rest_from (flat bs) (suc n.0) ≡ x.0 ++ r.0 = r.1 ∙ ap (λ (y : List ℕ). y ++ r.0) (ap (λ (k : ℕ). get_or bs k []) back ∙ n.2) in (
          suc n.0,
          (omega arith, omega (arith, size, n.1)),
          ap (λ (y : List ℕ). word_at y 7) q ∙ word-front x.0 r.0 7 (omega arith) (omega (arith, long.long x.0 x.1)) ∙ x.2 ∙ piece_of_lem i j m has,
        );
  }
