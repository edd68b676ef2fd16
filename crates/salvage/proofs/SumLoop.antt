-- The sum of all words but word i, as a loop makes it: before turn k the words below k have been added. Assumes nothing.
use mathlib.Core.Path.{◌≡◌, refl, sym, ap, ap₂, ◌∙◌}
use mathlib.Core.List.{List}
use Prim.Native.Nat.{ℕ, ◌+◌, ◌-◌, ◌*◌, ◌%◌, ◌≤◌}
use native.Mathlib.Omega.{arith}
use mathlib.Core.Logic.{◌≢◌}
use Rattle.block.specs.Words.{word_at, weighted}
use Rattle.block.proofs.SumLaws.{weighted_step}
use Rattle.salvage.specs.Mended.{without, other_sum}
use Rattle.salvage.proofs.ValueLaws.{without_at, without_off}

pub record Summing (b : List ℕ) (i sum k : ℕ) : Type 0 where
  pub from : 1 ≤ k
  pub to : k ≤ 256
  pub so_far : sum ≡ weighted (without b i) (k - 1)
  pub low : sum ≤ (k - 1) * 8350740

pub sum-start : (b : List ℕ) (i : ℕ) → Summing b i 0 1
unfolding weighted
sum-start b i = record { from = omega arith; to = omega arith; so_far = refl; low = omega arith }

module _ {b : List ℕ} {i sum k : ℕ} (s : Summing b i sum k) where
  turn : (v : ℕ) → v ≡ without b i k → k ≤ 255 → (next : ℕ) → next ≡ sum + k * v → next ≤ k * 8350740 → Summing b i next (k + 1)
  turn v is l next e m =
      record {
        from = omega arith;
        to = omega arith;
        so_far = e ∙ ap₂ (λ (x y : ℕ). x + k * y) s.so_far is ∙ sym (weighted_step (without b i) k s.from);
        low = omega arith;
      }

  -- word k is added
  pub sum_more : k ≢ i → (v : ℕ) → v ≡ word_at b k → k ≤ 255 → (next : ℕ) → next ≡ sum + k * v → next ≤ k * 8350740 → Summing b i next (k + 1)
  sum_more off v is = turn v (is ∙ sym (without_off b i k off))

  -- it is word i, which is not
  pub sum_kept : k ≡ i → k ≤ 255 → Summing b i sum (k + 1)
  sum_kept here l = turn 0 (sym (without_at b i k here)) l sum (omega arith) (omega (arith, s.low))

  pub sum_end : k ≡ 256 → sum % 32749 ≡ other_sum b i % 32749
  unfolding other_sum
  sum_end q =
      let e : k - 1 ≡ 255 = omega arith in
      ap (λ (n : ℕ). n % 32749) (s.so_far ∙ ap (weighted (without b i)) e)
