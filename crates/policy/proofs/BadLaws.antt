-- The first bad line of a text: what is read where there is one and where there is none, and which line is bad.
-- Assumes nothing.
use borrow.Author.Tests.{lt-ltb, le-ltb, ne_eqb}
use mathlib.Core.Path.{◌≡◌, refl, sym, ap, ◌∙◌}
use mathlib.Core.Bool.{false}
use mathlib.Core.List.{List, [], ◌∷◌}
use native.Mathlib.Nat.{le_refl}
use native.Mathlib.Omega.{arith}
use Prim.Native.Nat.{ℕ, zero, suc, ◌+◌, ◌-◌, ◌≤◌, ◌<◌, max}
use lib.ListN.{length, take, drop, get_or, length-drop}
use lib.Seq.{drop-drop, get_or-drop}
use Rattle.answer.specs.declared.Kind.TheVariants.{Text}
use Rattle.answer.specs.Outcome.{done, refused, number}
use Rattle.answer.specs.Checks.{first_fail}
use Rattle.lists.proofs.FirstLaws.{first_hit, none_in, first-all}
use Rattle.std.specs.Prelude.{None}
use Rattle.policy.specs.Policy.{lines, line_of, people_in, line_says, is_nothing, is_bad, bad_at, bad_line, policy_in, read_policy}
use Rattle.policy.specs.Inner.{line_length}
use Rattle.policy.proofs.LinesLaws.{line_split}

-- ---- the whole text
pub too_long_lem : (text : List ℕ) → 16384 < length text → read_policy text ≡ refused (number Text) 0 0
unfolding read_policy first_fail
too_long_lem text h = simp (lt-ltb 16384 (length text) h)

module _ (text : List ℕ) (h : length text ≤ 16384) where
  pub text_bad : (a : ℕ) → bad_line (lines text) ≡ a → 1 ≤ a → read_policy text ≡ refused (number Text) a 0
  unfolding read_policy first_fail
  text_bad a e l = simp (le-ltb 16384 (length text) h, e, ne_eqb a 0 (λ (n : a ≡ 0). absurd (omega arith)))

  pub text_good : bad_line (lines text) ≡ 0 → read_policy text ≡ done (policy_in (lines text))
  unfolding read_policy first_fail
  text_good e = simp (le-ltb 16384 (length text) h, e)

-- ---- the first line and the others
-- the number behind the last line
abbrev pub end : List (List ℕ) → ℕ
end ls = max 1 (length ls) + 1

pub first-line : (text : List ℕ)
    → (line_of (lines text) 1 ≡ take (line_length text) text) × (drop 1 (lines text) ≡ lines (drop (line_length text) text))
unfolding lines line_length
first-line [] = (refl, refl)
first-line (b ∷ text) = let e = line_split b text in (ap (λ (ls : List (List ℕ)). line_of ls 1) e, ap (drop 1) e)

pub first-bad : (text : List ℕ) → length text ≤ 16384 → people_in (line_of (lines text) 1) ≡ None → read_policy text ≡ refused (number Text) 1 0
unfolding bad_line bad_at
first-bad text h e = text_bad text h 1 (first_hit (bad_at (lines text)) 1 (end (lines text)) (omega arith) (ap is_nothing e)) (omega arith)

module _ (ls : List (List ℕ)) (i : ℕ) (h : 2 ≤ i) where
  pub bad-other : bad_at ls i ≡ is_bad (line_says (line_of ls i))
  unfolding bad_at
  bad-other = simp (ne_eqb i 1 (λ (z : i ≡ 1). absurd (omega arith)))

  -- where the lines from line i on are l and more
  module _ (l : List ℕ) (more : List (List ℕ)) (e : drop (i - 1) ls ≡ l ∷ more) where
    pub next_rest : drop (i + 1 - 1) ls ≡ more
    next_rest =
        let n : i + 1 - 1 ≡ i - 1 + 1 = omega arith in
        rw n (sym (drop-drop 1 (i - 1) ls) ∙ ap (drop 1) e)

    pub in_lines : i < end ls
    in_lines = omega (arith, length-drop (i - 1) ls, ap length e)

    pub bad-there : bad_at ls i ≡ is_bad (line_says l)
    bad-there =
        let n : i - 1 ≡ i - 1 + 0 = omega arith in
        let is : line_of ls i ≡ l = ap (λ (k : ℕ). get_or ls k []) n ∙ sym (get_or-drop (i - 1) ls 0 []) ∙ ap (λ (m : List (List ℕ)). get_or m 0 []) e in
        bad-other ∙ ap (λ (m : List ℕ). is_bad (line_says m)) is

-- ---- no line is bad
module _ (l : List ℕ) (ls : List (List ℕ)) where
  bad-behind : (i : ℕ) → bad_at (l ∷ ls) (suc (suc i)) ≡ is_bad (line_says (get_or ls i []))
  bad-behind i =
      let n : suc (suc i) - 1 ≡ suc i = omega arith in
      bad-other (l ∷ ls) (suc (suc i)) (omega arith) ∙ ap (λ (k : ℕ). is_bad (line_says (get_or (l ∷ ls) k []))) n

  pub none-bad : is_nothing (people_in l) ≡ false → ((i : ℕ) → i < length ls → is_bad (line_says (get_or ls i [])) ≡ false) → bad_line (l ∷ ls) ≡ 0
  unfolding bad_line bad_at
  none-bad e h = first-all (bad_at (l ∷ ls)) 1 (end (l ∷ ls)) go
    where
      go : (i : ℕ) → 1 ≤ i → i < end (l ∷ ls) → bad_at (l ∷ ls) i ≡ false
      go zero a b = absurd (omega arith)
      go (suc zero) a b = e
      go (suc (suc i)) a b = bad-behind i ∙ h i (omega arith)

  pub none-behind : bad_line (l ∷ ls) ≡ 0 → (is_nothing (people_in l) ≡ false) × ((i : ℕ) → i < length ls → is_bad (line_says (get_or ls i [])) ≡ false)
  unfolding bad_line bad_at
  none-behind z =
      let n = none_in (bad_at (l ∷ ls)) 1 (end (l ∷ ls)) (le_refl 1) z in
      (n 1 (le_refl 1) (omega arith), λ i h. sym (bad-behind i) ∙ n (suc (suc i)) (omega arith) (omega arith))
