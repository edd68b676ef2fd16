-- Refusal 21: which text is refused, and that its line is the first that is not well written.
-- Assumes nothing.
use mathlib.Core.Path.{◌≡◌, refl, sym, ap, ◌∙◌}
use mathlib.Core.Bool.{true, false}
use mathlib.Core.List.{List, [], ◌∷◌}
use mathlib.Core.Logic.{◌⊎◌, inl, inr, ⊎_elim}
use native.Mathlib.Nat.{eq-or-lt_of_le}
use native.Mathlib.Omega.{arith}
use Prim.Native.Nat.{ℕ, zero, suc, ◌≤◌, ◌<◌, zero-le, max}
use lib.ListN.{length}
use Rattle.answer.specs.declared.Kind.TheVariants.{Text}
use Rattle.answer.specs.Outcome.{refused, number}
use Rattle.answer.proofs.CheckLaws.{never_both}
use Rattle.lists.proofs.FirstLaws.{first_of, has_test, below_end}
use Rattle.lists.proofs.Truth.{never}
use Rattle.print.proofs.DecimalLaws.{below}
use Rattle.policy.specs.Policy.{lines, line_of, people_in, line_says, is_nothing, is_bad, bad_at, bad_line, read_policy}
use Rattle.policy.specs.Laws.{PeopleLine, EntryLine, WellWritten, FirstBad, TextRefusal, TextLong, TextLine}
use Rattle.policy.proofs.LinesLaws.{line_split}
use Rattle.policy.proofs.BadLaws.{end, too_long_lem, text_bad, text_good, bad-other}
use Rattle.policy.proofs.WritingLaws.{first-right, entry_good}
use Rattle.policy.proofs.ShapeLaws.{told, first_shape}

-- ---- which refusal
-- a text that is too long, or its first bad line
record Refused (text : List ℕ) (m a b : ℕ) : Type 0 where
  kind : m ≡ 21
  second : b ≡ 0
  first : ((a ≡ 0) × (16384 < length text)) ⊎ ((length text ≤ 16384) × (1 ≤ a) × (bad_line (lines text) ≡ a))

refusal : (text : List ℕ) (m a b : ℕ) → read_policy text ≡ refused m a b → Refused text m a b
refusal text m a b h =
    ⊎_elim
    (λ (l : 16384 < length text).
    let e : refused (number Text) 0 0 ≡ refused m a b = sym (too_long_lem text l) ∙ h in
    record { kind = cc; second = cc; first = inl (cc, l) })
    (λ (l : length text ≤ 16384).
    ⊎_elim
    (λ (z : 0 ≡ bad_line (lines text)). never_both (sym (text_good text l (sym z)) ∙ h))
    (λ (z : 0 < bad_line (lines text)).
    let e : refused (number Text) (bad_line (lines text)) 0 ≡ refused m a b = sym (text_bad text l (bad_line (lines text)) refl z) ∙ h in
    let q : bad_line (lines text) ≡ a = cc in
    record { kind = cc; second = cc; first = inr (l, omega arith, q) })
    (eq-or-lt_of_le zero-le))
    (below 16384 (length text))

-- ---- a line is bad exactly where it is not well written
module _ (ls : List (List ℕ)) where
  good_written : (i : ℕ) → 1 ≤ i → bad_at ls i ≡ false → WellWritten i (line_of ls i)
  unfolding bad_at
  good_written zero h e = absurd (omega arith)
  good_written (suc zero) h e = let f = first_shape (line_of ls 1) e in inl (refl, record { people = _; digit-is = f.0; written = f.1 })
  good_written (suc (suc i)) h e =
      let l : 2 ≤ suc (suc i) = omega arith in
      inr (l, (told (line_of ls (suc (suc i))) (sym (bad-other ls (suc (suc i)) l) ∙ e)).line)

  written_good : (i : ℕ) → WellWritten i (line_of ls i) → bad_at ls i ≡ false
  unfolding bad_at
  written_good i w =
      ⊎_elim
      (λ (p : (i ≡ 1) × PeopleLine (line_of ls i)).
      let l : PeopleLine (line_of ls 1) = rw p.0 at p.1 in
      ap (bad_at ls) p.0 ∙ ap (λ (x : List ℕ). is_nothing (people_in x)) l.written ∙ ap is_nothing (first-right l.people l.digit-is).1)
      (λ (p : (2 ≤ i) × EntryLine (line_of ls i)).
      bad-other ls i p.0 ∙ ap (λ (x : List ℕ). is_bad (line_says x)) p.1.written ∙ entry_good p.1.entry p.1.named)
      w

-- ---- the first of them
in_text : (text : List ℕ) (a : ℕ) → 1 ≤ a → a ≤ max 1 (length (lines text)) → (a ≤ length (lines text)) ⊎ ((text ≡ []) × (a ≡ 1))
unfolding lines
in_text [] a h l = inr (refl, omega arith)
in_text (b ∷ text) a h l = inl (omega (arith, ap length (line_split b text)))

first-is : (text : List ℕ) (a : ℕ) → 1 ≤ a → bad_line (lines text) ≡ a → FirstBad text a
unfolding bad_line
first-is text a h e =
    let ls = lines text in
    let most : a ≤ max 1 (length ls) = omega (arith, below_end (bad_at ls) (max 1 (length ls))) in
    let has : bad_at ls a ≡ true =
    ap (bad_at ls) (sym e) ∙ (has_test (bad_at ls) 1 (end ls) (λ z. absurd (omega arith))).0
    in
    let f = (first_of (bad_at ls) 1 (end ls) a h (omega arith) has).0 in
    record {
      from = h;
      there = in_text text a h most;
      before = λ i l m. good_written ls i l (f.least i l (omega arith));
      bad = λ w. never (written_good ls a w) has;
    }

-- ---- the laws
pub text_refusal : TextRefusal
text_refusal text m a b h = let r = refusal text m a b h in (r.kind, r.second)

pub text_long : TextLong
text_long text m a b h =
    ⊎_elim (λ (p : (a ≡ 0) × (16384 < length text)). ((λ z. p.1), (λ l. p.0)))
    (λ (p : (length text ≤ 16384) × (1 ≤ a) × (bad_line (lines text) ≡ a)). ((λ z. absurd (omega arith)), (λ l. absurd (omega arith))))
    (refusal text m a b h).first

pub text_line : TextLine
text_line text m a b h l =
    ⊎_elim (λ (p : (a ≡ 0) × (16384 < length text)). absurd (omega arith))
    (λ (p : (length text ≤ 16384) × (1 ≤ a) × (bad_line (lines text) ≡ a)). first-is text a p.1 p.2)
    (refusal text m a b h).first
