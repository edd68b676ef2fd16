-- One pass over a block: at word i, words 1 to i - 1 were found to be at most 32748 and are in the sum.
-- Assumes nothing.
use mathlib.Core.Path.{◌≡◌, refl, sym, ap, ap₂, ◌∙◌}
use mathlib.Core.List.{List}
use Prim.Native.Nat.{ℕ, ◌+◌, ◌-◌, ◌*◌, ◌%◌, ◌≤◌, ◌<◌}
use native.Mathlib.Omega.{arith}
use borrow.Author.Tests.{lt-ltb, le-ltb}
use Rattle.std.specs.Prelude.{Bool, true, false, cond, Result, Ok, Err}
use Rattle.lists.specs.Places.{first_in, found}
use Rattle.lists.proofs.FirstLaws.{first_hit, first_miss, first-none, found_some, found_none, none_found}
use Rattle.block.specs.Words.{word_at, weighted, check_of}
use Rattle.block.specs.Open.{above, first_above}
use Rattle.block.specs.Inner.{scanned}
use Rattle.block.proofs.SumLaws.{weighted_step}

pub record Scanning (b : List ℕ) (sum i : ℕ) : Type 0 where
  pub from : 1 ≤ i
  pub to : i ≤ 256
  pub ahead : first_above b ≡ first_in (above b) i 257
  pub so_far : sum ≡ weighted (word_at b) (i - 1)
  pub low : sum ≤ (i - 1) * 8350740

pub scan_start : (b : List ℕ) → Scanning b 0 1
unfolding first_above weighted
scan_start b = record { from = omega arith; to = omega arith; ahead = refl; so_far = refl; low = omega arith }

module _ {b : List ℕ} {sum i : ℕ} (s : Scanning b sum i) (v : ℕ) (is : v ≡ word_at b i) where
  -- word i is above 32748: it is the first
  pub scan_found : 32748 < v → Err i ≡ scanned b
  unfolding scanned
  scan_found h =
      let e : first_above b ≡ i = s.ahead ∙ first_hit (above b) i 257 (omega arith) (lt-ltb 32748 (word_at b i) (omega arith)) in
      rw (found_some {a = first_above b} (λ z. omega arith)) (ap Err (sym e))

  miss : v ≤ 32748 → first_above b ≡ first_in (above b) (i + 1) 257
  miss h = s.ahead ∙ first_miss (above b) i 257 (omega arith) (le-ltb 32748 (word_at b i) (omega arith))

  -- it is not, and enters the sum
  pub scan_on : i ≤ 255 → v ≤ 32748 → (next : ℕ) → next ≡ sum + i * v → next ≤ i * 8350740 → Scanning b next (i + 1)
  scan_on l h next e m =
      record {
        from = omega arith;
        to = omega arith;
        ahead = miss h;
        so_far = e ∙ ap₂ (λ (x y : ℕ). x + i * y) s.so_far is ∙ sym (weighted_step (word_at b) i s.from);
        low = omega arith;
      }

  -- nor is the last word, 256
  pub scan_end : i ≡ 256 → v ≤ 32748 → Ok (sum % 32749) ≡ scanned b
  unfolding scanned check_of
  scan_end q h =
      let z : first_above b ≡ 0 = miss h ∙ first-none (above b) (i + 1) 257 (omega arith) in
      let e : i - 1 ≡ 255 = omega arith in
      rw (found_none {a = first_above b} z) (ap (λ (n : ℕ). Ok (n % 32749)) (s.so_far ∙ ap (weighted (word_at b)) e))

-- what was scanned: a word above 32748, which is the first, or the check where there is none
dirty_or_sum : (x : Bool) (n m i : ℕ) → found n ≡ x → ◌≡◌ {A = Result ℕ ℕ} (cond x (Err n) (Ok m)) (Err i) → (found n ≡ true) × (n ≡ i)
dirty_or_sum true n m i h e = (h, let q : n ≡ i = cc in q)
dirty_or_sum false n m i h e = cc

sum_or_dirty : (x : Bool) (n m v : ℕ) → found n ≡ x → ◌≡◌ {A = Result ℕ ℕ} (cond x (Err n) (Ok m)) (Ok v) → (found n ≡ false) × (m ≡ v)
sum_or_dirty true n m v h e = cc
sum_or_dirty false n m v h e = (h, let q : m ≡ v = cc in q)

pub scanned_dirty : (b : List ℕ) {r : Result ℕ ℕ} {i : ℕ} → r ≡ scanned b → r ≡ Err i → (found (first_above b) ≡ true) × (first_above b ≡ i)
unfolding scanned
scanned_dirty b {i = i} e q = dirty_or_sum _ (first_above b) (check_of b) i refl (sym e ∙ q)

pub scanned_sum : (b : List ℕ) {r : Result ℕ ℕ} {v : ℕ} → r ≡ scanned b → r ≡ Ok v → (first_above b ≡ 0) × (check_of b ≡ v)
unfolding scanned
scanned_sum b {v = v} e q = let h = sum_or_dirty _ (first_above b) (check_of b) v refl (sym e ∙ q) in (none_found _ h.0, h.1)
