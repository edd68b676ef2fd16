-- What a pile is whose lines all pass. Assumes nothing.
use mathlib.Core.Path.{◌≡◌, sym, ap, ◌∙◌}
use mathlib.Core.Bool.{true, false}
use mathlib.Core.Logic.{⊎_elim}
use mathlib.Core.List.{List}
use Prim.Native.Nat.{ℕ, ◌%◌, ◌≤◌}
use native.Mathlib.Nat.{pos_of_ne-zero}
use native.Mathlib.Omega.{arith}
use lib.Dec.{eqb, ltb}
use lib.ListN.{length}
use borrow.Author.Tests.{eqb-false, ltb-false}
use Rattle.lists.proofs.Truth.{decided, neither}
use Rattle.lists.proofs.FirstLaws.{none_found}
use Rattle.answer.specs.Checks.{Line}
use Rattle.answer.specs.Laws.{Passed}
use Rattle.answer.proofs.CheckLaws.{passed, passed-append}
use Rattle.block.specs.Layout.{piece_in}
use Rattle.pile.specs.Blocks.{blocks, TrueBlocks}
use Rattle.pile.specs.Lines.{every_block}
use Rattle.pile.proofs.LineLaws.{blocks_true}
use Rattle.joining.specs.Pile.{own_deal, in_sets, chosen, present}
use Rattle.joining.specs.Checks.{mixed_at, conflict_at, short, pile_lines}
use Rattle.joining.specs.Inner.{Full}
use Rattle.joining.proofs.PileLaws.{unmixed}
use Rattle.joining.proofs.TableLaws.{place-most}
use Rattle.joining.proofs.ChosenLaws.{chosen_lowest, complete-places, full-sets, full-first}
use Rattle.joining.proofs.ShortLaws.{short-sets, short-first}

pub record Accepted (pile : List ℕ) : Type 0 where
  pub whole : length pile % 512 ≡ 0
  pub few : blocks pile ≤ 560
  pub full : Full pile
  pub no_conflict : conflict_at pile ≡ 0

-- past MIXED, SHORT passes only where all pieces that are taken are there
all_there : (pile : List ℕ) → TrueBlocks pile → mixed_at pile ≡ 0 → (short pile).given ≡ false → Full pile
all_there pile t m s =
    ⊎_elim
    (λ (e : in_sets pile ≡ true).
    let c = pos_of_ne-zero (eqb-false (chosen pile) 0 (sym (ap (λ (l : Line). l.given) (short-sets pile e)) ∙ s)) in
    let p = (complete-places pile (chosen pile) ((chosen_lowest pile).0 e c).has).0 in
    full-sets (unmixed pile (omega (arith, p, place-most pile (piece_in (chosen pile) 1))) t m) e c)
    (λ (e : in_sets pile ≡ false).
    let k = (own_deal pile).pieces in
    let r = neither (eqb (blocks pile) 0) (ltb (length (present pile)) k) (sym (ap (λ (l : Line). l.given) (short-first pile e)) ∙ s) in
    full-first (unmixed pile (pos_of_ne-zero (eqb-false (blocks pile) 0 r.0)) t m) e (ltb-false (length (present pile)) k r.1))
    (decided (in_sets pile))

pub accepted : (pile : List ℕ) → Passed (pile_lines pile) → Accepted pile
unfolding pile_lines
accepted pile p =
    let t = passed p in
    let l = passed t.1 in
    let b = passed-append (every_block pile) l.1 in
    let m = passed b.1 in
    let c = passed m.1 in
    record {
      whole = none_found (length pile % 512) t.0;
      few = ltb-false 560 (blocks pile) l.0;
      full = all_there pile (blocks_true pile b.0) (none_found (mixed_at pile) m.0) (passed c.1).0;
      no_conflict = none_found (conflict_at pile) c.0;
    }
