-- A second run changes nothing, and a second call finds nothing to do. Assumes nothing.
use mathlib.Core.Path.{◌≡◌, refl, sym, ap, ◌∙◌, subst}
use mathlib.Core.Bool.{not}
use mathlib.Core.List.{List, [], ◌∷◌, ◌++◌}
use Prim.Native.Nat.{ℕ, zero, suc, ◌*◌, ◌≤◌, ◌/◌, ◌<◌, ◌%◌}
use native.Mathlib.Omega.{arith}
use lib.Dec.{eqb, ltb}
use lib.ListN.{length, take, drop, length-drop, take-append-drop}
use lib.Seq.{length-take-le, take-append_seam}
use borrow.Author.Tests.{eq-eqb}
use Rattle.lists.specs.Places.{found}
use Rattle.lists.proofs.ThoseLaws.{those-none}
use Rattle.block.specs.Words.{word_at}
use Rattle.pile.specs.Blocks.{blocks}
use Rattle.salvage.specs.Mended.{mended_block}
use Rattle.salvage.specs.Pile.{mended_pile, mended_first, differing, rebuilt_words, salvage_lines, salvaging, salvaged_pile}
use Rattle.salvage.proofs.MendLaws.{mend_twice}
use Rattle.salvage.proofs.PartLaws.{length_mended, front-only}
use Rattle.answer.specs.declared.Kind.TheVariants.{Torn, Long}
use Rattle.answer.specs.Outcome.{Outcome, done}
use Rattle.answer.specs.Checks.{line}
use Rattle.answer.specs.Lent.{no_room}
use Rattle.answer.specs.Laws.{Passed}
use Rattle.answer.proofs.CheckLaws.{done-passed, passed-done}
use Rattle.block.specs.Open.{by_outcome}
use Rattle.salvage.proofs.PileLaws.{blocks_of, pile_blocks}

-- ---- a second run
first-is : (Q : List ℕ) → mended_pile Q ≡ mended_first (length Q / 512) Q
unfolding mended_pile blocks
first-is Q = refl

front_fixed : (E : List ℕ) → 512 ≤ length E → mended_block E ≡ E → mended_block (take 512 E) ≡ take 512 E
front_fixed E h e =
    let A = mended_block (take 512 E) in
    let n : length A ≡ 512 = length_mended (take 512 E) ∙ length-take-le 512 E h in
    sym (take-append_seam A (drop 512 E)) ∙ ap (λ (k : ℕ). take k (A ++ drop 512 E)) n ∙ ap (take 512) (sym (front-only E h).0 ∙ e)

same-front : (Y E : List ℕ) → 512 ≤ length Y → 512 ≤ length E → take 512 Y ≡ take 512 E → mended_block E ≡ E → mended_block Y ≡ Y
same-front Y E h k q e =
    (front-only Y h).0 ∙ ap (λ (l : List ℕ). l ++ drop 512 Y) (ap mended_block q ∙ front_fixed E k e ∙ sym q) ∙ take-append-drop 512 Y

fixed_first : (Q : List ℕ) (m : ℕ) → ((n : ℕ) → n < m → mended_block (drop (512 * n) Q) ≡ drop (512 * n) Q) → mended_first m Q ≡ Q
unfolding mended_first
fixed_first Q zero f = refl
fixed_first Q (suc m) f =
    rw (fixed_first Q m (λ n l. f n (omega arith)), f m (omega arith)) (take-append-drop (512 * m) Q)

twice : (pile : List ℕ) → mended_pile (mended_pile pile) ≡ mended_pile pile
twice pile =
    let Q = mended_pile pile in
    let r = blocks_of pile in
    let long : (n : ℕ) (l : List ℕ) → length l ≡ length pile → n < length pile / 512 → 512 ≤ length (drop (512 * n) l) = λ n l e h.
    omega (arith, length-drop (512 * n) l) in
    is-first Q (length pile / 512) (ap (λ (n : ℕ). n / 512) r.0)
    (λ n l.
    let D = drop (512 * n) pile in
    same-front (drop (512 * n) Q) (mended_block D) (long n Q r.0 l) (omega (arith, long n pile refl l, length_mended D)) (r.1 n l)
    (mend_twice D (long n pile refl l)))
  where
    is-first : (Q : List ℕ) (m : ℕ) → length Q / 512 ≡ m → ((n : ℕ) → n < m → mended_block (drop (512 * n) Q) ≡ drop (512 * n) Q) → mended_pile Q ≡ Q
    is-first Q m e f = first-is Q ∙ ap (λ (k : ℕ). mended_first k Q) e ∙ fixed_first Q m f

pub pile_twice : (pile : List ℕ) → (mended_pile (mended_pile pile) ≡ mended_pile pile) × (rebuilt_words (mended_pile pile) ≡ [])
unfolding rebuilt_words differing
pile_twice pile =
    let Q = mended_pile pile in
    let e = twice pile in (
      e,
      rw e (those-none (λ k. not (eqb (word_at Q k) (word_at Q k))) 1 (256 * blocks Q) (λ s l m. ap not (eq-eqb (word_at Q s) (word_at Q s) refl))),
    )

-- ---- a second call
-- the lines look at no more than the pile's length
lines_same : (p q : List ℕ) (numbers : ℕ) → length p ≡ length q → salvage_lines p numbers ≡ salvage_lines q numbers
unfolding blocks
lines_same p q numbers e =
    ap
    (λ (n : ℕ). line Torn (found (n % 512)) 0 0 ∷ line Long (ltb 560 (n / 512)) 0 0 ∷ no_room (n / 512) (n / 512) (numbers / 2) ∷ [])
    e

pub salvage_twice : (pile : List ℕ) (numbers n : ℕ) → salvaging pile numbers ≡ done n
    → (salvaging (salvaged_pile pile numbers) numbers ≡ done 0)
    × (salvaged_pile (salvaged_pile pile numbers) numbers ≡ salvaged_pile pile numbers)
unfolding salvaging salvaged_pile
salvage_twice pile numbers n e =
    let Q = mended_pile pile in
    let r = pile_twice pile in
    let is : salvaged_pile pile numbers ≡ Q = ap (λ (o : Outcome ℕ). by_outcome o Q pile) e in
    let passed : Passed (salvage_lines Q numbers) =
    subst Passed (lines_same pile Q numbers (sym (pile_blocks pile).0)) (done-passed (salvage_lines pile numbers) _ n e).0 in
    let again : salvaging Q numbers ≡ done 0 =
    passed-done (salvage_lines Q numbers) (done (length (rebuilt_words Q))) passed ∙ ap (λ (l : List ℕ). done (length l)) r.1 in
    rw is (again, ap (λ (o : Outcome ℕ). by_outcome o (mended_pile Q) Q) again ∙ r.0)
