-- What the call answers and leaves, line by line. Assumes nothing.
use mathlib.Core.Path.{◌≡◌, sym, ap, ◌∙◌}
use mathlib.Core.Logic.{◌≢◌}
use mathlib.Core.List.{List, [], ◌∷◌}
use Prim.Native.Nat.{ℕ, ◌/◌, ◌%◌, ◌≤◌, ◌<◌}
use lib.ListN.{length}
use borrow.Author.Tests.{lt-ltb, le-ltb}
use Rattle.lists.specs.Over.{over}
use Rattle.lists.proofs.FirstLaws.{found_some, found_none}
use Rattle.answer.specs.Outcome.{Outcome, done, refused}
use Rattle.answer.specs.Checks.{Line, first_fail}
use Rattle.answer.specs.Lent.{no_room, left}
use Rattle.answer.proofs.CheckLaws.{given, not_given}
use Rattle.answer.proofs.LentLaws.{room-refused, room-given}
use Rattle.block.specs.Open.{by_outcome}
use Rattle.pile.specs.Blocks.{blocks}
use Rattle.pile.specs.Lines.{torn_pile, long_pile}
use Rattle.salvage.specs.Pile.{mended_pile, rebuilt_words, places, salvaging, salvaged_pile, salvaged_list}

module _ (pile list : List ℕ) where
  abbrev numbers : ℕ
  numbers = length list

  abbrev end : Outcome ℕ
  end = done (length (rebuilt_words pile))

  -- what the three clauses of the contract say of an outcome, a pile and a list
  pub record Meets (o : Outcome ℕ) (pile' list' : List ℕ) : Type 0 where
    pub says : o ≡ salvaging pile numbers
    pub mends : pile' ≡ salvaged_pile pile numbers
    pub lists : list' ≡ salvaged_list pile list

  -- a refusal changes nothing
  keeps : {o : Outcome ℕ} (m a b : ℕ) → o ≡ refused m a b → salvaging pile numbers ≡ refused m a b → Meets o pile list
  unfolding salvaged_pile salvaged_list
  keeps m a b p q = record {
    says = p ∙ sym q;
    mends = sym (ap (λ (x : Outcome ℕ). by_outcome x (mended_pile pile) pile) q);
    lists = sym (ap (λ (x : Outcome ℕ). left x (places (rebuilt_words pile)) list) q);
  }

  -- the lines that are left, one by one
  abbrev room : List Line
  room = no_room (blocks pile) (blocks pile) (numbers / 2) ∷ []

  pub is-torn : {o : Outcome ℕ} → o ≡ refused 13 0 0 → length pile % 512 ≢ 0 → Meets o pile list
  unfolding salvaging
  is-torn p h = keeps 13 0 0 p (given (torn_pile pile) (long_pile pile ∷ room) end (found_some h))

  module _ (z : length pile % 512 ≡ 0) where
    whole : salvaging pile numbers ≡ first_fail (long_pile pile ∷ room) end
    unfolding salvaging
    whole = not_given (torn_pile pile) (long_pile pile ∷ room) end (found_none z)

    pub is-long : {o : Outcome ℕ} → o ≡ refused 14 0 0 → 560 < blocks pile → Meets o pile list
    is-long p h = keeps 14 0 0 p (whole ∙ given (long_pile pile) room end (lt-ltb 560 (blocks pile) h))

    module _ (few : blocks pile ≤ 560) where
      short : salvaging pile numbers ≡ first_fail room end
      short = whole ∙ not_given (long_pile pile) room end (le-ltb 560 (blocks pile) few)

      pub is_narrow : {o : Outcome ℕ} → o ≡ refused 12 (blocks pile) 0 → numbers / 2 < blocks pile → Meets o pile list
      is_narrow p h = keeps 12 (blocks pile) 0 p (short ∙ room-refused (blocks pile) (blocks pile) (numbers / 2) end h)

      -- nothing is refused
      pub says-done : blocks pile ≤ numbers / 2 → salvaging pile numbers ≡ end
      says-done h = short ∙ room-given (blocks pile) (blocks pile) (numbers / 2) end h

      pub is-done : blocks pile ≤ numbers / 2 → (n : ℕ) (pile' list' : List ℕ)
          → (pile' ≡ mended_pile pile) × (n ≡ length (rebuilt_words pile)) × (list' ≡ over (places (rebuilt_words pile)) list)
          → Meets (done n) pile' list'
      unfolding salvaged_pile salvaged_list
      is-done h n pile' list' r =
          let q = says-done h in
          record {
            says = ap done r.1 ∙ sym q;
            mends = r.0 ∙ sym (ap (λ (x : Outcome ℕ). by_outcome x (mended_pile pile) pile) q);
            lists = r.2 ∙ sym (ap (λ (x : Outcome ℕ). left x (places (rebuilt_words pile)) list) q);
          }
