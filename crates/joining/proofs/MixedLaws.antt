-- For which piles joining says MIXED, and whom it names: a block strays from the own deal exactly where one strays from that of block 1,
-- and the own deal is that of more than half the blocks, where there is one. Assumes nothing.
use mathlib.Core.Path.{◌≡◌, refl, sym, ap, ◌∙◌}
use mathlib.Core.Bool.{true, false}
use mathlib.Core.Logic.{◌≢◌, ⊎_elim}
use mathlib.Core.List.{List, [], ◌∷◌}
use Prim.Native.Nat.{ℕ, ◌%◌, ◌<◌}
use native.Mathlib.Nat.{le_refl, eq-or-lt_of_le}
use native.Mathlib.Omega.{arith}
use lib.ListN.{length}
use borrow.Author.Tests.{le-ltb, ltb-false}
use Rattle.lists.proofs.Truth.{never, decided, not_so, so_not}
use Rattle.lists.proofs.FirstLaws.{found_some, none_found, found_none}
use Rattle.answer.specs.declared.Kind.TheVariants.{Mixed}
use Rattle.answer.specs.Outcome.{done, refused, number}
use Rattle.answer.specs.Checks.{Line, first_fail}
use Rattle.answer.specs.Lent.{no_room}
use Rattle.answer.proofs.CheckLaws.{given, append-lines, passed, passed_one, passed-done}
use Rattle.answer.proofs.WhichLaws.{first-is}
use Rattle.block.specs.Deals.{same_deal}
use Rattle.block.proofs.DealLaws.{same_deal_lem, deal_same, other_deal_lem}
use Rattle.pile.specs.Blocks.{blocks, In, deal_at}
use Rattle.pile.specs.Lines.{torn_pile, long_pile, every_block}
use Rattle.pile.proofs.LineLaws.{blocks_true, true_blocks}
use Rattle.joining.specs.Pile.{own_block, own_deal, own_width}
use Rattle.joining.specs.Checks.{strays, first_stray, mixed_at, mixed, conflict, short}
use Rattle.joining.specs.Joined.{joining}
use Rattle.joining.specs.Laws.{Mixes, MixedExactly, MixedBlames, OldOnTop}
use Rattle.joining.proofs.HeapLaws.{own_in, none-strays, majority_own}
use Rattle.joining.proofs.PlaceLaws.{last, join_lines_lem, past_blocks, mixed-places}

module _ (pile : List ℕ) (m : Mixes pile) where
  some-strays : mixed_at pile ≢ 0
  unfolding mixed_at
  some-strays z =
      let w = m.another in
      let own = none-strays pile (own_deal pile) z in
      w.2 (own w.0 w.1 ∙ sym (own 1 (le_refl 1, omega (arith, w.1.0, w.1.1))))

  -- MIXED is what joining says, and its place is the first block that strays from the own deal
  then_mixed : (room : ℕ) → joining pile room ≡ refused (number Mixed) (mixed_at pile) 0
  unfolding joining
  then_mixed room =
      ap (λ (ls : List Line). first_fail ls (done (own_width pile))) (join_lines_lem pile room)
      ∙ append-lines (torn_pile pile ∷ long_pile pile ∷ every_block pile) (last pile room) (done (own_width pile))
      ∙ passed-done (torn_pile pile ∷ long_pile pile ∷ every_block pile) (first_fail (last pile room) (done (own_width pile)))
      (passed_one (found_none m.whole) (passed_one (le-ltb 560 (blocks pile) m.few) (true_blocks pile m.blocks_true)))
      ∙ given (mixed pile) (conflict pile ∷ short pile ∷ no_room (own_width pile) (own_width pile) room ∷ []) (done (own_width pile)) (found_some some-strays)

-- a block that strays from the own deal strays from that of block 1, or the own block does
another : (pile : List ℕ) (a : ℕ) → In pile a → strays pile (own_deal pile) a ≡ true → (c : ℕ) × In pile c × (deal_at pile c ≢ deal_at pile 1)
another pile a h s =
    ⊎_elim
    (λ (t : same_deal (deal_at pile a) (deal_at pile 1) ≡ true). (
      own_block pile,
      own_in pile (omega (arith, h.0, h.1)),
      λ q.
          never (not_so (same_deal (deal_at pile a) (own_deal pile)) s) (rw (same_deal_lem (deal_at pile a) (deal_at pile 1) t, q) (deal_same (deal_at pile 1))),
    ))
    (λ (e : same_deal (deal_at pile a) (deal_at pile 1) ≡ false). (a, h, λ q. never e (rw q (deal_same (deal_at pile 1)))))
    (decided (same_deal (deal_at pile a) (deal_at pile 1)))

mixes : (pile : List ℕ) (room a b : ℕ) → joining pile room ≡ refused (number Mixed) a b → Mixes pile
mixes pile room a b e =
    let t = passed (past_blocks pile room (number Mixed) a b e refl refl refl refl refl).0 in
    let l = passed t.1 in
    let f = (mixed-places pile room a b e).0 in
    record {
      whole = none_found (length pile % 512) t.0;
      few = ltb-false 560 (blocks pile) l.0;
      blocks_true = blocks_true pile l.1;
      another = another pile a (f.from, omega (arith, f.to)) f.has;
    }

pub mixed_exactly : MixedExactly
mixed_exactly pile room = (λ e. mixes pile room e.0 e.1 e.2, λ m. (mixed_at pile, 0, then_mixed pile m room))

pub mixed_blames : MixedBlames
unfolding mixed_at
mixed_blames pile room d m h =
    let e : mixed_at pile ≡ first_stray pile d = ap (first_stray pile) (majority_own pile d h) in (
      first_stray pile d,
      first-is (strays pile d) (blocks pile) (found_some {a = first_stray pile d} (λ z. some-strays pile m (e ∙ z))) refl,
      then_mixed pile m room ∙ ap (λ (a : ℕ). refused (number Mixed) a 0) e,
    )

pub old_on_top : OldOnTop
old_on_top pile room d m h other =
    let r = mixed_blames pile room d m h in
    ⊎_elim (λ (e : 1 ≡ r.0). r.2 ∙ ap (λ (a : ℕ). refused (number Mixed) a 0) (sym e))
    (λ (l : 1 < r.0). absurd (never (r.1.least 1 (le_refl 1) l) (so_not (other_deal_lem (deal_at pile 1) d other))))
    (eq-or-lt_of_le r.1.from)
