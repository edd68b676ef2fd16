-- SHORT: the pieces present, counted in the table; when the line is given in either scheme, and what a pile of no blocks gets.
-- Assumes nothing.
use mathlib.Core.Path.{◌≡◌, refl, ap, ◌∙◌}
use mathlib.Core.Bool.{Bool, true, false, cond}
use mathlib.Core.Logic.{⊎_elim}
use mathlib.Core.List.{List, [], ◌∷◌}
use Prim.Native.Nat.{ℕ, zero, suc, ◌+◌, ◌-◌, ◌≤◌, ◌<◌}
use native.Mathlib.Nat.{suc-ne-zero}
use native.Mathlib.Numerals.{add-one}
use native.Mathlib.Omega.{arith}
use Rattle.std.specs.Prelude.{count_by}
use Rattle.std.proofs.lemmas.List.Sums.{count_by_more_yes, count_by_more_no}
use lib.Dec.{eqb}
use lib.ListN.{length, get_or, take}
use borrow.Author.Tests.{eq-eqb, ne_eqb, lt-ltb, le-ltb}
use Rattle.lists.specs.Run.{run}
use Rattle.lists.proofs.RunLaws.{run_length, run_at}
use Rattle.answer.specs.Outcome.{Outcome, refused, number}
use Rattle.answer.specs.Checks.{Line, first_fail}
use Rattle.answer.proofs.CheckLaws.{given}
use Rattle.lists.specs.Places.{first_from, found, at, those}
use Rattle.lists.proofs.Truth.{decided, or_r}
use Rattle.lists.proofs.ThoseLaws.{those-same, count_hit, count_miss}
use Rattle.block.specs.Words.{word_at}
use Rattle.pile.specs.Blocks.{blocks, rest_from}
use Rattle.pile.specs.Lines.{lines_from, every_block}
use Rattle.joining.specs.Pile.{own_block, own_deal, in_sets, chosen, place_of, present}
use Rattle.joining.specs.Checks.{mixed_at, conflict_at, few_pieces, no_set, short, pile_lines}

-- ---- the pieces present, counted in the front of the table
-- the table has a block for piece j
abbrev placed_in : List ℕ → ℕ → Bool
placed_in table j = found (at table j)

here : (j : ℕ) → 1 + j - 1 ≡ j
here j = omega arith

counted : (table : List ℕ) (k : ℕ) → k ≤ length table → count_by found (take k table) ≡ length (those (placed_in table) 1 k)
unfolding those
counted table zero h = refl
counted table (suc k) h =
    let before = counted table k (omega arith) in
    rw (add-one k) at (⊎_elim (one before) (none before) (decided (found (get_or table k 0))))
  where
    one : count_by found (take k table) ≡ length (those (placed_in table) 1 k) → found (get_or table k 0) ≡ true
        → count_by found (take (k + 1) table) ≡ length (those (placed_in table) 1 (k + 1))
    one q e = count_by_more_yes found table k 0 (omega arith) e ∙ count_hit (placed_in table) 1 k _ q (rw (here k) e)

    none : count_by found (take k table) ≡ length (those (placed_in table) 1 k) → found (get_or table k 0) ≡ false
        → count_by found (take (k + 1) table) ≡ length (those (placed_in table) 1 (k + 1))
    none q e = count_by_more_no found table k 0 (omega arith) e ∙ count_miss (placed_in table) 1 k _ q (rw (here k) e)

pub present-is : (pile table : List ℕ) (k : ℕ) → k ≡ (own_deal pile).pieces → k ≤ 70 → table ≡ run (place_of pile) 1 560
    → count_by found (take k table) ≡ length (present pile)
unfolding present
present-is pile table k e h t =
    let is : those (placed_in table) 1 k ≡ those (λ j. found (place_of pile j)) 1 k =
    those-same (placed_in table) (λ j. found (place_of pile j)) 1 k
    (λ j l m. ap found (ap (λ (u : List ℕ). get_or u (j - 1) 0) t ∙ run_at (place_of pile) 560 j l (omega arith))) in
    counted table k (omega (arith, h, ap length t, run_length (place_of pile) 1 560)) ∙ ap length (is ∙ ap (those (λ j. found (place_of pile j)) 1) e)

-- ---- the line, by the scheme
short_by : (pile : List ℕ) (b : Bool) → in_sets pile ≡ b → short pile ≡ cond b (no_set pile) (few_pieces pile)
short_by pile b e = ap (λ (x : Bool). cond x (no_set pile) (few_pieces pile)) e

pub short-number : (pile : List ℕ) → number (short pile).kind ≡ 20
short-number pile =
    ⊎_elim (λ e. ap (λ (l : Line). number l.kind) (short_by pile true e)) (λ e. ap (λ (l : Line). number l.kind) (short_by pile false e))
    (decided (in_sets pile))

module _ (pile : List ℕ) (e : in_sets pile ≡ true) where
  pub short-sets : short pile ≡ no_set pile
  short-sets = short_by pile true e

  set_given : chosen pile ≡ 0 → (short pile).given ≡ true
  set_given z = ap (λ (l : Line). l.given) short-sets ∙ eq-eqb (chosen pile) 0 z

  pub set_refuses : (ls : List Line) (end : Outcome ℕ) → chosen pile ≡ 0 → first_fail (short pile ∷ ls) end ≡ refused 20 0 0
  set_refuses ls end z = given (short pile) ls end (set_given z) ∙ rw short-sets

  pub set_passes : 1 ≤ chosen pile → (short pile).given ≡ false
  set_passes l = ap (λ (x : Line). x.given) short-sets ∙ ne_eqb (chosen pile) 0 (λ z. omega arith)

module _ (pile : List ℕ) (e : in_sets pile ≡ false) where
  pub short-first : short pile ≡ few_pieces pile
  short-first = short_by pile false e

  few-given : length (present pile) < (own_deal pile).pieces → (short pile).given ≡ true
  few-given h =
      ap (λ (l : Line). l.given) short-first
      ∙ or_r (eqb (blocks pile) 0) (lt-ltb (length (present pile)) (own_deal pile).pieces h)

  pub few_refuses : (ls : List Line) (end : Outcome ℕ) → length (present pile) < (own_deal pile).pieces
      → first_fail (short pile ∷ ls) end ≡ refused 20 (length (present pile)) (own_deal pile).pieces
  few_refuses ls end h = given (short pile) ls end (few-given h) ∙ rw short-first

  pub few_passes : 1 ≤ blocks pile → (own_deal pile).pieces ≤ length (present pile) → (short pile).given ≡ false
  few_passes some h =
      ap (λ (l : Line). l.given) short-first
      ∙ rw (ne_eqb (blocks pile) 0 (λ z. omega arith), le-ltb (length (present pile)) (own_deal pile).pieces h)

-- ---- no block
pub nothing : (l : List ℕ) → length l ≡ 0 → l ≡ []
nothing [] e = refl
nothing (x ∷ xs) e = absurd (suc-ne-zero (length xs) e)

pub none-short : (pile : List ℕ) (end : Outcome ℕ) → length pile ≡ 0 → first_fail (pile_lines pile) end ≡ refused 20 0 0
unfolding pile_lines first_fail blocks every_block lines_from mixed_at conflict_at first_from present those own_block rest_from word_at
none-short pile end e = rw (nothing pile e)
