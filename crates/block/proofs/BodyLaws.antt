-- The words of a block that is written: which stands where, how many bytes they are, and what they can be written from.
-- Assumes nothing.
use mathlib.Core.Path.{◌≡◌, sym, ap, ap₂, ◌∙◌}
use mathlib.Core.Logic.{◌≢◌}
use lib.Arith.{lt_of_le-ne}
use mathlib.Core.List.{List, [], ◌∷◌}
use Prim.Native.Nat.{ℕ, zero, suc, ◌+◌, ◌-◌, ◌*◌, ◌≤◌}
use native.Mathlib.Decide.{ℕ_discrete}
use native.Mathlib.Omega.{arith}
use lib.ListN.{length, get_or, length-append}
use Rattle.lists.proofs.RunLaws.{run_length, run_at}
use Rattle.block.specs.declared.Label.{Label}
use Rattle.block.specs.Words.{bytes_of, check_of}
use Rattle.block.specs.Layout.{held_at}
use Rattle.block.specs.Written.{body, block_bytes, Buildable}
use Rattle.block.specs.Laws.{Scheme, first, sets, Ranges}
use Rattle.block.proofs.WordLaws.{length-bytes}
use Rattle.block.proofs.LayoutLaws.{held_rest}
use Rattle.block.proofs.RangeLaws.{of_ranges}

-- ---- past the arms 1 to 7 of a `match`. (`omega` takes six case splits at most, and each `≢` is one.)
past : (k i : ℕ) → k ≤ i → i ≢ k → suc k ≤ i
past k i l n = lt_of_le-ne l (λ e. n (sym e))

pub past_seven : (i : ℕ) → 1 ≤ i → i ≢ 1 → i ≢ 2 → i ≢ 3 → i ≢ 4 → i ≢ 5 → i ≢ 6 → i ≢ 7 → 8 ≤ i
past_seven i l n₁ n₂ n₃ n₄ n₅ n₆ n₇ =
    past 7 i (past 6 i (past 5 i (past 4 i (past 3 i (past 2 i (past 1 i l n₁) n₂) n₃) n₄) n₅) n₆) n₇

-- ---- words 1 to 255, and the block's 512 bytes
module _ (l : Label) (vs : List ℕ) where
  pub body_at : (i : ℕ) → 1 ≤ i → i ≤ 255 → get_or (body l vs) (i - 1) 0 ≡ held_at l vs i
  unfolding body
  body_at i from to = run_at (held_at l vs) 255 i from to

  pub length-body : length (body l vs) ≡ 255
  unfolding body
  length-body = run_length (held_at l vs) 1 255

  pub length-block : length (block_bytes l vs) ≡ 512
  unfolding block_bytes
  length-block =
      let b : List ℕ = bytes_of (body l vs) in
      length-append b (bytes_of (check_of b ∷ []))
      ∙ ap₂ ◌+◌ (length-bytes (body l vs) ∙ ap (λ (n : ℕ). 2 * n) length-body) (length-bytes (check_of b ∷ []))

-- ---- a label in its ranges and values of at most 32748 can be written
mark-small : {l : Label} → Scheme l → l.mark ≤ 32748
mark-small (first m s) = omega arith
mark-small (sets m s t k) = omega arith

set-small : {l : Label} → Scheme l → l.set ≤ 32748
set-small (first m s) = omega arith
set-small (sets m s t k) = omega arith

module _ (l : Label) (vs : List ℕ) (y : Ranges l) (number : l.number ≤ 32748) (year : l.year ≤ 32748) (values : (i : ℕ) → get_or vs i 0 ≤ 32748) where
  past_small : (i : ℕ) → 8 ≤ i → held_at l vs i ≤ 32748
  unfolding held_at
  past_small i u = far (ℕ_discrete i 24) (ℕ_discrete i 25)
    where
      far : Dec (i ≡ 24) → Dec (i ≡ 25) → held_at l vs i ≤ 32748
      far (yes e) d = rw e year
      far (no n) (yes e) = rw e (set-small y.scheme)
      far (no n) (no m) = rw (held_rest l vs i u n m) (values (i - 8))

  held_small : (i : ℕ) → 1 ≤ i → held_at l vs i ≤ 32748
  unfolding held_at
  held_small zero u = absurd (omega arith)
  held_small (suc zero) u = mark-small y.scheme
  held_small (suc (suc zero)) u = number
  held_small (suc (suc (suc zero))) u = omega (arith, y.holder.1)
  held_small (suc (suc (suc (suc zero)))) u = omega (arith, y.people.1)
  held_small (suc (suc (suc (suc (suc zero))))) u = omega (arith, y.pieces.1)
  held_small (suc (suc (suc (suc (suc (suc zero)))))) u = omega (arith, y.width.1)
  held_small (suc (suc (suc (suc (suc (suc (suc zero))))))) u = omega (arith, y.piece.1, y.pieces.1)
  held_small (suc (suc (suc (suc (suc (suc (suc (suc i)))))))) u = past_small (suc (suc (suc (suc (suc (suc (suc (suc i)))))))) (omega arith)

  pub builds : l.width ≡ length vs → Buildable l vs
  builds e = record { ranged = of_ranges l y; counted = e; small = λ i from to. held_small i from }
