-- The lines of a block, one after the other, and what opening says: a true block passes them all, and nothing else opens.
-- Assumes nothing.
use mathlib.Core.Path.{◌≡◌, refl, sym, ap, ◌∙◌}
use mathlib.Core.Bool.{true, not}
use mathlib.Core.Logic.{◌≢◌, ◌↔◌, ⊎_elim}
use mathlib.Core.List.Memᴰ
use mathlib.Core.List.{List, [], ◌∷◌, ◌++◌, Memᴰ}
use Prim.Native.Nat.{ℕ, ◌≤◌, ◌<◌}
use native.Mathlib.Omega.{arith}
use lib.ListN.{length}
use lib.Dec.{eqb}
use borrow.Author.Tests.{lt-ltb, le-ltb, ltb-false, eqb-true, eq-eqb, ne_eqb, not-false}
use Rattle.answer.specs.declared.Refusal.{Refusal}
use Rattle.std.specs.Prelude.{⊤, Result, Ok, Err}
use Rattle.answer.specs.Outcome.{Outcome, done, refused, number, checked}
use Rattle.lists.specs.Places.{found}
use Rattle.answer.specs.Checks.{Line, first_fail}
use Rattle.lists.specs.Some.{some}
use Rattle.lists.specs.Laws.{IsFirst}
use Rattle.answer.specs.Laws.{Passed, By}
use Rattle.answer.proofs.CheckLaws.{given, not_given, append-lines, passed, passed_one, passed_none, passed-append, passed_both, passed-done, done-passed, same_refusal, refused_by}
use Rattle.answer.proofs.WhichLaws.{only_one, first-is}
use Rattle.lists.proofs.FirstLaws.{first-all, is-first, none_in, below_end, found_some, found_none, some-found, none_found}
use Rattle.block.specs.declared.Label.{Label}
use Rattle.block.specs.declared.Words.{Words}
use Rattle.block.specs.Words.{word_at, check_of, Small}
use Rattle.block.specs.Layout.{front_words, right_at, first_wrong}
use Rattle.block.specs.Open.{above, first_above, torn, unread, check, header, slot_lines, block_lines, torn_block, first_foreign, foreign, one_lines, opening, words_of, TrueBlock}
use Rattle.block.specs.Laws.{Scheme, first, sets, Refusable, by_torn, by_unread, by_check, by_header}
use Rattle.block.proofs.LayoutLaws.{layout_of, of_layout}
use Rattle.block.proofs.RangeLaws.{true_ranges}

-- ---- no word is found above 32748 exactly where all 256 are at most that
pub small_of : (b : List ℕ) → first_above b ≡ 0 → Small b 256
unfolding first_above
small_of b z = record { small = λ i l h. ltb-false 32748 (word_at b i) (none_in (above b) 1 257 (omega arith) z i l (omega arith)) }

pub of_small : (b : List ℕ) → Small b 256 → first_above b ≡ 0
unfolding first_above
of_small b s = first-all (above b) 1 257 (λ k l h. le-ltb 32748 (word_at b k) (s.small k l (omega arith)))

-- ---- the lines of a block: which of them speaks
module _ {A : Type 0} (b : List ℕ) (a : ℕ) (end : Outcome A) where
  pub slots_unread : found (first_above b) ≡ true → first_fail (slot_lines b a) end ≡ refused 15 a (first_above b)
  slots_unread h = given (unread b a) (check b a ∷ []) end h

  past_unread : first_above b ≡ 0 → first_fail (slot_lines b a) end ≡ first_fail (check b a ∷ []) end
  past_unread h = not_given (unread b a) (check b a ∷ []) end (found_none h)

  pub slots_check : first_above b ≡ 0 → check_of b ≢ word_at b 256 → first_fail (slot_lines b a) end ≡ refused 16 a 0
  slots_check z h = past_unread z ∙ given (check b a) [] end (ap not (ne_eqb (check_of b) (word_at b 256) h))

  pub slots_end : first_above b ≡ 0 → check_of b ≡ word_at b 256 → first_fail (slot_lines b a) end ≡ end
  unfolding first_fail
  slots_end z s = past_unread z ∙ not_given (check b a) [] end (ap not (eq-eqb (check_of b) (word_at b 256) s))

  -- the first word above 32748 is named, and what is named is the first
  pub dirty_speaks : (i : ℕ) → IsFirst (above b) 1 257 i → first_fail (block_lines b a) end ≡ refused 15 a i
  unfolding first_above
  dirty_speaks i f =
      let e : first_above b ≡ i = is-first (above b) 1 257 i f in
      given (unread b a) (check b a ∷ header b a ∷ []) end (found_some (λ (z : first_above b ≡ 0). omega (arith, f.from))) ∙ ap (refused 15 a) e

pub speaks_dirty : {A : Type 0} (b : List ℕ) (a : ℕ) (v : A) (x i : ℕ) → first_fail (block_lines b a) (done v) ≡ refused 15 x i → IsFirst (above b) 1 257 i
unfolding first_above some
speaks_dirty b a v x i e =
    let g = (only_one 15 [] (unread b a) (check b a ∷ header b a ∷ []) v x i e refl refl).1 in
    first-is (above b) 256 g.given g.b-is

-- ---- a true block passes them, and what passes them is a true block
pub true_passes : (b : List ℕ) (a : ℕ) → TrueBlock b → Passed (block_lines b a)
true_passes b a t =
    passed_one (found_none (of_small b t.clean))
    (passed_one (ap not (eq-eqb (check_of b) (word_at b 256) t.sum))
    (passed_one (found_none (of_layout b t.layout)) passed_none))

pub passes_true : (b : List ℕ) (a : ℕ) → 512 ≤ length b → Passed (block_lines b a) → TrueBlock b
passes_true b a l p =
    let u = passed p in
    let c = passed u.1 in
    let h = passed c.1 in
    record {
      long = l;
      clean = small_of b (none_found (first_above b) u.0);
      sum = eqb-true (check_of b) (word_at b 256) (not-false (eqb (check_of b) (word_at b 256)) c.0);
      layout = layout_of b (none_found (first_wrong b) h.0);
    }

-- ---- a block that is lent alone passes exactly where it is a true block of 512 bytes, of the first scheme
pub foreign-sets : (b : List ℕ) → word_at b 1 ≡ 1988 → first_foreign b ≡ 1
unfolding first_foreign
foreign-sets b e = rw (eq-eqb (word_at b 1) 1988 e)

pub foreign-first : (b : List ℕ) → word_at b 1 ≢ 1988 → first_foreign b ≡ first_wrong b
unfolding first_foreign
foreign-first b n = rw (ne_eqb (word_at b 1) 1988 n)

not_sets : (b : List ℕ) → first_foreign b ≡ 0 → word_at b 1 ≢ 1988
not_sets b z e = omega (arith, foreign-sets b e)

first-scheme : {l : Label} → Scheme l → l.mark ≢ 1988 → l.mark ≡ 1987
first-scheme (first m s) n = m
first-scheme (sets m s t k) n = absurd (n m)

pub one_true : (b : List ℕ) (a : ℕ) → Passed (one_lines b a) → (length b ≡ 512) × TrueBlock b × (word_at b 1 ≡ 1987)
one_true b a p =
    let h = passed p in
    let whole : length b ≡ 512 = eqb-true (length b) 512 (not-false _ h.0) in
    let s = passed-append (slot_lines b a) h.1 in
    let none : first_foreign b ≡ 0 = none_found (first_foreign b) (passed s.1).0 in
    let n = not_sets b none in
    let t = passes_true b a (omega arith) (passed_both (slot_lines b a) s.0 (passed_one (found_none (sym (foreign-first b n) ∙ none)) passed_none)) in
    (whole, t, first-scheme (true_ranges t).scheme n)

pub true_one : (b : List ℕ) (a : ℕ) → length b ≡ 512 → TrueBlock b → word_at b 1 ≡ 1987 → Passed (one_lines b a)
true_one b a e t m =
    let n : word_at b 1 ≢ 1988 = λ q. omega arith in
    passed_one (rw (eq-eqb (length b) 512 e))
    (passed_both (slot_lines b a) (passed-append (slot_lines b a) (true_passes b a t)).0
    (passed_one (found_none (foreign-first b n ∙ of_layout b t.layout)) passed_none))

-- a block of a deal by sets that passes the others is HEADER at word 1
pub first-only : (b : List ℕ) (a r : ℕ) → length b ≡ 512 → Passed (slot_lines b a) → word_at b 1 ≡ 1988 → first_fail (one_lines b a) (done r) ≡ refused 17 a 1
first-only b a r size p e =
    let w : first_foreign b ≡ 1 = foreign-sets b e in
    not_given (torn_block b) (slot_lines b a ++ foreign b a ∷ []) (done r) (rw (eq-eqb (length b) 512 size))
    ∙ append-lines (slot_lines b a) (foreign b a ∷ []) (done r)
    ∙ passed-done (slot_lines b a) (first_fail (foreign b a ∷ []) (done r)) p
    ∙ given (foreign b a) [] (done r) (found_some (λ (z : first_foreign b ≡ 0). omega arith))
    ∙ ap (refused 17 a) w

-- ---- opening
pub opening-torn : (pile : List ℕ) → length pile < 512 → opening pile ≡ refused 13 0 0
unfolding opening
opening-torn pile l = given (torn pile) (block_lines pile 1) (done (front_words pile)) (lt-ltb (length pile) 512 l)

pub opening-block : (pile : List ℕ) → 512 ≤ length pile → opening pile ≡ first_fail (block_lines pile 1) (done (front_words pile))
unfolding opening
opening-block pile l = not_given (torn pile) (block_lines pile 1) (done (front_words pile)) (le-ltb (length pile) 512 l)

pub true_opens : (pile : List ℕ) → TrueBlock pile → opening pile ≡ done (front_words pile)
true_opens pile t = opening-block pile t.long ∙ passed-done (block_lines pile 1) (done (front_words pile)) (true_passes pile 1 t)

pub opens_true : (pile ws : List ℕ) → opening pile ≡ done ws → TrueBlock pile × (ws ≡ front_words pile)
unfolding opening
opens_true pile ws e =
    let r = done-passed (torn pile ∷ block_lines pile 1) (done (front_words pile)) ws e in
    let p = passed r.0 in
    let q : done (front_words pile) ≡ done ws = r.1 in
    (passes_true pile 1 (ltb-false (length pile) 512 p.0) p.1, cc)

pub unread_exactly : (pile : List ℕ) (i : ℕ) → 512 ≤ length pile → (opening pile ≡ refused 15 1 i) ↔ IsFirst (above pile) 1 257 i
unread_exactly pile i l = (
  λ e. speaks_dirty pile 1 (front_words pile) 1 i (sym (opening-block pile l) ∙ e),
  λ f. opening-block pile l ∙ dirty_speaks pile 1 (done (front_words pile)) i f,
)

-- ---- which refusals opening gives
told : {ls : List Line} {m a b : ℕ} (r : By ls m a b) (l : Line) → r.line ≡ l → Refusable (number l.kind) l.a l.b → Refusable m a b
told r l e h =
    let x = ap (λ (y : Line). number y.kind) (sym e) ∙ r.number_is in
    let y = ap (λ (y : Line). y.a) (sym e) ∙ r.a-is in
    let z = ap (λ (y : Line). y.b) (sym e) ∙ r.b-is in
    rw (← x, ← y, ← z) h

wrong_place : (b : List ℕ) → (header b 1).given ≡ true → Refusable 17 1 (first_wrong b)
unfolding first_wrong
wrong_place b g = by_header (some-found (first_wrong b) g) (below_end (λ i. not (right_at b i)) 255)

dirty_place : (b : List ℕ) → (unread b 1).given ≡ true → Refusable 15 1 (first_above b)
unfolding first_above
dirty_place b g = by_unread (some-found (first_above b) g) (below_end (above b) 256)

pub which_refusals : (pile : List ℕ) (m a b : ℕ) → opening pile ≡ refused m a b → Refusable m a b
unfolding opening
which_refusals pile m a b e =
    let r = refused_by (torn pile ∷ block_lines pile 1) (front_words pile) m a b e in
    ⊎_elim (λ (h : r.line ≡ torn pile). told r (torn pile) h by_torn)
    (λ (h : Memᴰ r.line (block_lines pile 1)).
    ⊎_elim (λ (h : r.line ≡ unread pile 1). told r (unread pile 1) h (dirty_place pile (ap (λ (l : Line). l.given) (sym h) ∙ r.given)))
    (λ (h : Memᴰ r.line (check pile 1 ∷ header pile 1 ∷ [])).
    ⊎_elim (λ (h : r.line ≡ check pile 1). told r (check pile 1) h by_check)
    (λ (h : Memᴰ r.line (header pile 1 ∷ [])).
    ⊎_elim
    (λ (h : r.line ≡ header pile 1). told r (header pile 1) h (wrong_place pile (ap (λ (l : Line). l.given) (sym h) ∙ r.given)))
    (λ (h : Memᴰ r.line []). absurd (Memᴰ.not-nil h))
    (Memᴰ.cases_cons h))
    (Memᴰ.cases_cons h))
    (Memᴰ.cases_cons h))
    (Memᴰ.cases_cons r.listed)

-- ---- the code's chain: it opens the first block of a pile by the answer to its lines
module _ (pile : List ℕ) (long : 512 ≤ length pile) {x : Result ⊤ Refusal} (says : checked x ≡ first_fail (block_lines pile 1) (done 0)) where
  pub open_refused : {r : Refusal} → x ≡ Err r → refused (number r.kind) r.a r.b ≡ opening pile
  open_refused {r} q =
      sym (opening-block pile long
      ∙ same_refusal (block_lines pile 1) 0 (done (front_words pile)) (number r.kind) r.a r.b (sym says ∙ ap checked q))

  pub open_head : {u : ⊤} (h : Words) → x ≡ Ok u → words_of h ≡ front_words pile → done (words_of h) ≡ opening pile
  open_head {u} h q e =
      ap done e
      ∙ sym (opening-block pile long
      ∙ passed-done (block_lines pile 1) (done (front_words pile)) (done-passed (block_lines pile 1) (done 0) 0 (sym says ∙ ap checked q)).0)
