-- What is said of a block depends on its 256 words alone: its lines, words 1 to 7, and whether it is true.
-- Assumes nothing.
use mathlib.Core.Path.{◌≡◌, sym, ap, ap₂, subst, ◌∙◌}
use mathlib.Core.Bool.{Bool, not, ◌&&◌}
use mathlib.Core.List.{List, [], ◌∷◌}
use Prim.Native.Nat.{ℕ, suc, ◌+◌, ◌-◌, ◌≤◌, ◌<◌}
use native.Mathlib.Decide.{dec_lt}
use native.Mathlib.Omega.{arith}
use lib.Dec.{eqb, ltb}
use lib.ListN.{length, get_or, get_or-eq_default}
use Rattle.answer.specs.declared.Kind.TheVariants.{Unread, Check, Header}
use Rattle.answer.specs.Checks.{line}
use Rattle.lists.specs.Places.{found}
use Rattle.answer.specs.Laws.{Passed}
use Rattle.lists.proofs.FirstLaws.{first-same}
use Rattle.block.specs.declared.Label.{Label}
use Rattle.block.specs.Words.{word_at, check_of}
use Rattle.block.specs.Layout.{front_words, width_of, held_at, range_at, label_of, values_of, right_at, first_wrong}
use Rattle.block.specs.Open.{above, first_above, block_lines, TrueBlock}
use Rattle.block.proofs.SumLaws.{check-same}
use Rattle.block.proofs.LayoutLaws.{values-at, values-count}
use Rattle.block.proofs.OpenLaws.{true_passes, passes_true}

-- the table looks at no value but that of the word
held-value : (l : Label) (vs ws : List ℕ) (i : ℕ) → get_or vs (i - 8) 0 ≡ get_or ws (i - 8) 0 → held_at l vs i ≡ held_at l ws i
unfolding held_at
held-value l vs ws i e = rw e

module _ (b c : List ℕ) (same : (i : ℕ) → 1 ≤ i → i ≤ 256 → word_at b i ≡ word_at c i) where
  label_same : label_of b ≡ label_of c
  label_same = λ t.
      record {
        mark = same 1 (omega arith) (omega arith) t;
        number = same 2 (omega arith) (omega arith) t;
        holder = same 3 (omega arith) (omega arith) t;
        people = same 4 (omega arith) (omega arith) t;
        pieces = same 5 (omega arith) (omega arith) t;
        width = same 6 (omega arith) (omega arith) t;
        piece = same 7 (omega arith) (omega arith) t;
        year = same 24 (omega arith) (omega arith) t;
        set = same 25 (omega arith) (omega arith) t;
      }

  value_same : (k : ℕ) → k ≤ 247 → get_or (values_of b) k 0 ≡ get_or (values_of c) k 0
  value_same k h = go (dec_lt k (width_of b))
    where
      width : width_of b ≡ width_of c
      width = same 6 (omega arith) (omega arith)

      go : Dec (k < width_of b) → get_or (values_of b) k 0 ≡ get_or (values_of c) k 0
      go (yes l) =
          let e : suc k - 1 ≡ k = omega arith in
          (rw e at (values-at b (suc k) (omega arith) (omega arith)))
          ∙ same (7 + suc k) (omega arith) (omega arith)
          ∙ sym (rw e at (values-at c (suc k) (omega arith) (omega (arith, width))))
      go (no f) =
          get_or-eq_default (values_of b) 0 (omega (arith, values-count b))
          ∙ sym (get_or-eq_default (values_of c) 0 (omega (arith, values-count c, width)))

  right-same : (i : ℕ) → 1 ≤ i → i ≤ 255 → right_at b i ≡ right_at c i
  unfolding right_at
  right-same i l h =
      let held : held_at (label_of b) (values_of b) i ≡ held_at (label_of c) (values_of c) i =
      ap (λ (x : Label). held_at x (values_of b) i) label_same
      ∙ held-value (label_of c) (values_of b) (values_of c) i (value_same (i - 8) (omega arith)) in
      ap₂ (λ (x : Bool) (y : Bool). x && y) (ap₂ eqb (same i l (omega arith)) held) (ap (λ (x : Label). range_at x i) label_same)

  pub only_wrong : first_wrong b ≡ first_wrong c
  unfolding first_wrong
  only_wrong = first-same _ _ 1 256 (λ k l h. ap not (right-same k l (omega arith)))

  pub only-lines : (a : ℕ) → block_lines b a ≡ block_lines c a
  unfolding first_above
  only-lines a =
      let above_same : first_above b ≡ first_above c = first-same (above b) (above c) 1 257 (λ k l h. ap (ltb 32748) (same k l (omega arith))) in
      let sum_same : check_of b ≡ check_of c = check-same b c (λ i l h. same i l (omega arith)) in
      let last : word_at b 256 ≡ word_at c 256 = same 256 (omega arith) (omega arith) in
      λ t.
      line Unread (found (above_same t)) a (above_same t)
      ∷ line Check (not (eqb (sum_same t) (last t))) a 0
      ∷ line Header (found (only_wrong t)) a (only_wrong t)
      ∷ []

  pub only-header : front_words b ≡ front_words c
  only-header = λ t.
      same 1 (omega arith) (omega arith) t
      ∷ same 2 (omega arith) (omega arith) t
      ∷ same 3 (omega arith) (omega arith) t
      ∷ same 4 (omega arith) (omega arith) t
      ∷ same 5 (omega arith) (omega arith) t
      ∷ same 6 (omega arith) (omega arith) t
      ∷ same 7 (omega arith) (omega arith) t
      ∷ []

  pub only_true : TrueBlock b → 512 ≤ length c → TrueBlock c
  only_true t l = passes_true c 1 l (subst Passed (only-lines 1) (true_passes b 1 t))
