-- The first block that is not true, where it has a slot above 32748: joining answers UNREAD with its number and that of the first such slot.
-- Assumes nothing.
use Prim.Native.Nat.{ℕ, zero, suc, ◌+◌, ◌%◌, ◌≤◌, ◌<◌}
use mathlib.Core.Path.{◌≡◌, ◌∙◌}
use mathlib.Core.Logic.{⊎_elim}
use mathlib.Core.List.{List, [], ◌∷◌, ◌++◌}
use native.Mathlib.Nat.{eq-or-lt_of_le, le_refl}
use native.Mathlib.Omega.{arith}
use lib.ListN.{length}
use borrow.Author.Tests.{le-ltb}
use Rattle.answer.specs.Outcome.{Outcome, done, refused}
use Rattle.answer.specs.Checks.{Line, first_fail}
use Rattle.answer.specs.Lent.{no_room}
use Rattle.answer.proofs.CheckLaws.{not_given, append-lines, passed-done}
use Rattle.lists.specs.Laws.{IsFirst}
use Rattle.lists.proofs.FirstLaws.{found_none}
use Rattle.block.specs.Open.{above, block_lines, TrueBlock}
use Rattle.block.proofs.OpenLaws.{dirty_speaks}
use Rattle.block.proofs.Laws.{true_means}
use Rattle.pile.specs.Blocks.{blocks, rest_from, In}
use Rattle.joining.specs.Pile.{own_width}
use Rattle.pile.specs.Lines.{torn_pile, long_pile, lines_from, every_block}
use Rattle.joining.specs.Checks.{whole_lines, pile_lines}
use Rattle.joining.specs.Joined.{join_lines, joining}

module _ (pile : List ℕ) (a i : ℕ) (dirty : IsFirst (above (rest_from pile a)) 1 257 i) where
  unread-from : (n b : ℕ) (ls : List Line) (end : Outcome ℕ) → b ≤ a → a < b + n → ((c : ℕ) → b ≤ c → c < a → TrueBlock (rest_from pile c))
      → first_fail (lines_from pile b n ++ ls) end ≡ refused 15 a i
  unfolding lines_from
  unread-from zero b ls end p q t = absurd (omega arith)
  unread-from (suc n) b ls end p q t =
      let rest = lines_from pile (b + 1) n ++ ls in
      ⊎_elim (λ (e : b ≡ a).
      rw e
      (append-lines (block_lines (rest_from pile a) a) (lines_from pile (a + 1) n ++ ls) end
      ∙ dirty_speaks (rest_from pile a) a (first_fail (lines_from pile (a + 1) n ++ ls) end) i dirty))
      (λ (less : b < a).
      append-lines (block_lines (rest_from pile b) b) rest end
      ∙ passed-done (block_lines (rest_from pile b) b) (first_fail rest end) ((true_means (rest_from pile b) b).0 (t b (le_refl b) less))
      ∙ unread-from n (b + 1) ls end (omega arith) (omega arith) (λ c p' q'. t c (omega arith) q'))
      (eq-or-lt_of_le p)

  pub unread : (room : ℕ) → length pile % 512 ≡ 0 → blocks pile ≤ 560 → In pile a → ((b : ℕ) → 1 ≤ b → b < a → TrueBlock (rest_from pile b))
      → joining pile room ≡ refused 15 a i
  unfolding joining join_lines pile_lines every_block
  unread room whole few k t =
      let last = no_room (own_width pile) (own_width pile) room ∷ [] in
      let end = first_fail last (done (own_width pile)) in
      append-lines (pile_lines pile) last (done (own_width pile))
      ∙ not_given (torn_pile pile) (long_pile pile ∷ every_block pile ++ whole_lines pile) end (found_none whole)
      ∙ not_given (long_pile pile) (every_block pile ++ whole_lines pile) end (le-ltb 560 (blocks pile) few)
      ∙ unread-from (blocks pile) 1 (whole_lines pile) end k.0 (omega (arith, k.1)) t
