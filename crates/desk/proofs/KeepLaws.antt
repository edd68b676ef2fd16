-- What the chains over a slot go by: whether it keeps a piece, whether it differs from a block, and how many pieces are kept.
-- Assumes nothing.
use mathlib.Core.Path.{◌≡◌, refl, ap, ◌∙◌}
use mathlib.Core.Bool.{Bool, true, false, not}
use mathlib.Core.Logic.{◌≢◌}
use mathlib.Core.List.{List}
use Prim.Native.Nat.{ℕ, ◌+◌, ◌-◌, ◌≤◌}
use native.Mathlib.Omega.{arith}
use lib.Dec.{eqb, ltb, leb}
use Rattle.std.proofs.lemmas.Bool.Decides.{nat_tests}
use lib.ListN.{length, get_or}
use borrow.Author.Tests.{eqb-true, ltb-false}
use Rattle.std.specs.List.{range_with_len, list_any, list_all, filter}
use Rattle.lists.specs.Places.{first_in, found}
use Rattle.lists.proofs.Truth.{both}
use Rattle.lists.proofs.FirstLaws.{none_in, found_some, found_none}
use Rattle.lists.proofs.FindLaws.{any_found, all_pass, filter_those}
use Rattle.block.specs.Words.{word_at}
use Rattle.desk.specs.declared.Opening.{Opening}
use Rattle.desk.specs.Slots.{in_slot, keeps_at, keeps, distinct, unlike}

-- ---- whether a slot keeps a piece
abbrev pub high : List ℕ → ℕ → ℕ → Bool
high slots at i = ltb 32748 (in_slot slots at i)

no_higher : (x : ℕ) → leb x 32748 ≡ not (ltb 32748 x)
no_higher x = grind (arith, nat_tests)

module _ (slots : List ℕ) (at w : ℕ) where
  pub unmarked : get_or slots at 0 ≡ 0 → false ≡ keeps_at slots at w
  unfolding keeps_at
  unmarked e = simp (found_none e)

  pub marked : get_or slots at 0 ≢ 0 → list_all (λ i. leb (in_slot slots at i) 32748) (range_with_len 1 (w + 1 - 1)) ≡ keeps_at slots at w
  unfolding keeps_at
  marked h = all_pass (high slots at) (λ i. leb (in_slot slots at i) 32748) (λ i. no_higher (in_slot slots at i)) 1 (w + 1 - 1) (omega arith) ∙ rw (found_some h) refl

  -- the values of a piece that is kept are small
  pub kept_small : keeps_at slots at w ≡ true → (i : ℕ) → 1 ≤ i → i ≤ w → in_slot slots at i ≤ 32748
  unfolding keeps_at
  kept_small t i l h =
      let r = both (found (get_or slots at 0)) (eqb (first_in (high slots at) 1 (w + 1)) 0) t in
      ltb-false 32748 (in_slot slots at i) (none_in (high slots at) 1 (w + 1) (omega arith) (eqb-true (first_in (high slots at) 1 (w + 1)) 0 r.1) i l (omega arith))

-- ---- where a slot differs from a block
abbrev pub apart : List ℕ → ℕ → List ℕ → ℕ → Bool
apart slots at b i = not (eqb (in_slot slots at i) (word_at b (7 + i)))

pub unlike_any : (slots : List ℕ) (at w : ℕ) (b : List ℕ) → list_any (apart slots at b) (range_with_len 1 (w + 1 - 1)) ≡ found (unlike slots at w b)
unfolding unlike
unlike_any slots at w b = any_found (apart slots at b) 1 (w + 1 - 1) (omega arith)

-- ---- how many pieces are kept
pub distinct_filter : (slots : List ℕ) (o : Opening) (c : ℕ) → length (filter (keeps slots c o.width) (range_with_len 1 (o.pieces + 1 - 1))) ≡ distinct slots o c
unfolding distinct
distinct_filter slots o c =
    let n : o.pieces + 1 - 1 ≡ o.pieces = omega arith in
    rw n (ap length (filter_those (keeps slots c o.width) 1 o.pieces))
