-- The pairs that CONFLICT speaks of, and the first block of each set and of each piece: a block against these two settles it.
-- Assumes nothing.
use mathlib.Core.Path.{◌≡◌, refl, sym, ap, ◌∙◌}
use mathlib.Core.Bool.{Bool, true, false, cond, not, ◌||◌}
use mathlib.Core.Logic.{◌≢◌, ⊎_elim}
use mathlib.Core.List.{List, [], ◌∷◌}
use Prim.Native.Nat.{ℕ, ◌+◌, ◌≤◌, ◌<◌}
use native.Mathlib.Nat.{le_refl, eq-or-lt_of_le}
use native.Mathlib.Omega.{arith}
use native.Mathlib.Decide.{ℕ_discrete}
use lib.Dec.{eqb}
use borrow.Author.Tests.{eq-eqb, eqb-true, eqb-false, not-false}
use Rattle.answer.specs.Outcome.{done, refused}
use Rattle.answer.specs.Checks.{first_fail}
use Rattle.lists.specs.Places.{first_in, found}
use Rattle.lists.specs.Laws.{IsFirst}
use Rattle.lists.proofs.Truth.{never, decided, isn't, surely, both, and_both, or_l, or_r, or_cases, neither, not_so}
use Rattle.lists.proofs.FirstLaws.{none_in, first-all, first_of, is-first, has_test, below_end, found_some, found_none, none_found}
use Rattle.pile.specs.Blocks.{blocks, In, first_block}
use Rattle.joining.specs.Pile.{own_width, set_at, pieces_at, piece_at, has_piece, place_of, set_place, value_of, differ_in}
use Rattle.joining.specs.Checks.{other_values, other_count, contradicts, contradicted_by, conflict_at, conflict}
use Rattle.joining.specs.Laws.{OneMark, unlike_set, unlike_piece}
use Rattle.joining.specs.Inner.{unlike}
use Rattle.joining.proofs.PileLaws.{same_set}

-- two tests have one first place, where the second holds only where the first does, and holds at the first's first place
first_two : (s t : ℕ → Bool) (n : ℕ) → ((k : ℕ) → 1 ≤ k → k < n + 1 → t k ≡ true → s k ≡ true)
    → ((k : ℕ) → IsFirst s 1 (n + 1) k → t k ≡ true) → first_in s 1 (n + 1) ≡ first_in t 1 (n + 1)
first_two s t n f g = go (ℕ_discrete (first_in s 1 (n + 1)) 0)
  where
    go : Dec (first_in s 1 (n + 1) ≡ 0) → first_in s 1 (n + 1) ≡ first_in t 1 (n + 1)
    go (yes z) = z ∙ sym (first-all t 1 (n + 1) (λ k l h. isn't (λ e. never (none_in s 1 (n + 1) (le_refl 1) z k l h) (f k l h e))))
    go (no z) =
        let r = has_test s 1 (n + 1) z in
        let i = (first_of s 1 (n + 1) (first_in s 1 (n + 1)) r.1 (omega (arith, below_end s n)) r.0).0 in
        sym (is-first t 1 (n + 1) (first_in s 1 (n + 1)) (record {
          from = i.from;
          to = i.to;
          has = g (first_in s 1 (n + 1)) i;
          least = λ k l h. isn't (λ e. never (i.least k l h) (f k l (omega (arith, i.to)) e));
        }))

-- two blocks have the same values
pub record Same (pile : List ℕ) (a b : ℕ) : Type 0 where
  pub same : (i : ℕ) → 1 ≤ i → i ≤ own_width pile → value_of pile a i ≡ value_of pile b i

pub same_of : (pile : List ℕ) (a b : ℕ) → differ_in pile a b ≡ 0 → Same pile a b
unfolding differ_in
same_of pile a b z = record {
  same = λ i l h.
      eqb-true (value_of pile a i) (value_of pile b i)
      (not-false (eqb (value_of pile a i) (value_of pile b i))
      (none_in (λ k. not (eqb (value_of pile a k) (value_of pile b k))) 1 (own_width pile + 1) (le_refl 1) z i l (omega arith)));
}

pub of_same : (pile : List ℕ) (a b : ℕ) → Same pile a b → differ_in pile a b ≡ 0
unfolding differ_in
of_same pile a b s =
    first-all (λ k. not (eqb (value_of pile a k) (value_of pile b k))) 1 (own_width pile + 1)
    (λ k l h. ap not (eq-eqb (value_of pile a k) (value_of pile b k) (s.same k l (omega arith))))

-- ---- the first block of the set of block a, and of its piece; that a is unlike one of them
abbrev pub set_first : List ℕ → ℕ → ℕ
set_first pile a = set_place pile (set_at pile a)

abbrev pub piece_first : List ℕ → ℕ → ℕ
piece_first pile a = place_of pile (piece_at pile a)

abbrev pub apart : List ℕ → ℕ → Bool
apart pile a = unlike_set pile a || unlike_piece pile a

pub set_is : (pile : List ℕ) (a : ℕ) → In pile a
    → IsFirst (λ b. eqb (set_at pile b) (set_at pile a)) 1 (blocks pile + 1) (set_first pile a) × (set_first pile a ≤ a)
unfolding set_place
set_is pile a h =
    first_of (λ b. eqb (set_at pile b) (set_at pile a)) 1 (blocks pile + 1) a h.0 (omega (arith, h.1)) (eq-eqb (set_at pile a) (set_at pile a) refl)

pub piece_is : (pile : List ℕ) (a : ℕ) → In pile a
    → IsFirst (has_piece pile (piece_at pile a)) 1 (blocks pile + 1) (piece_first pile a) × (piece_first pile a ≤ a)
unfolding place_of
piece_is pile a h =
    first_of (has_piece pile (piece_at pile a)) 1 (blocks pile + 1) a h.0 (omega (arith, h.1)) (eq-eqb (piece_at pile a) (piece_at pile a) refl)

-- a block that is like both has the values and the number of pieces that they have
pub like_piece : (pile : List ℕ) (a : ℕ) → apart pile a ≡ false → Same pile a (piece_first pile a)
like_piece pile a e =
    same_of pile a (piece_first pile a) (none_found (differ_in pile a (piece_first pile a)) (neither (unlike_set pile a) (unlike_piece pile a) e).1)

like_count : (pile : List ℕ) (a : ℕ) → unlike_set pile a ≡ false → pieces_at pile (set_first pile a) ≡ pieces_at pile a
like_count pile a e =
    eqb-true (pieces_at pile (set_first pile a)) (pieces_at pile a) (not-false (eqb (pieces_at pile (set_first pile a)) (pieces_at pile a)) e)

pub like_set : (pile : List ℕ) (a : ℕ) → apart pile a ≡ false → pieces_at pile (set_first pile a) ≡ pieces_at pile a
like_set pile a e = like_count pile a (neither (unlike_set pile a) (unlike_piece pile a) e).0

-- ---- what contradicts block a, and what does not
not_contradicts : (pile : List ℕ) (a b : ℕ) → piece_at pile b ≢ piece_at pile a → (set_at pile b ≡ set_at pile a → pieces_at pile b ≡ pieces_at pile a)
    → contradicts pile a b ≡ false
unfolding contradicts other_values other_count
not_contradicts pile a b other same =
    isn't (λ t.
    ⊎_elim
    (λ v. other (eqb-true (piece_at pile b) (piece_at pile a) (both (eqb (piece_at pile b) (piece_at pile a)) (found (differ_in pile a b)) v).0))
    (λ c.
    let r = both (eqb (set_at pile b) (set_at pile a)) (not (eqb (pieces_at pile b) (pieces_at pile a))) c in
    eqb-false (pieces_at pile b) (pieces_at pile a) (not_so (eqb (pieces_at pile b) (pieces_at pile a)) r.1) (same (eqb-true (set_at pile b) (set_at pile a) r.0)))
    (or_cases (other_values pile a b) (other_count pile a b) t))

module _ (pile : List ℕ) (a : ℕ) (h : In pile a) where
  -- the first block of its piece does where it has other values: it is then an earlier one
  module _ (d : unlike_piece pile a ≡ true) where
    piece-before : piece_first pile a < a
    piece-before =
        let f = piece_first pile a in
        ⊎_elim
        (λ (same : f ≡ a). absurd (never (found_none (of_same pile a f (record { same = λ i l m. ap (λ (b : ℕ). value_of pile b i) (sym same) }))) d))
        (λ (less : f < a). less) (eq-or-lt_of_le (piece_is pile a h).1)

    piece-contradicts : contradicts pile a (piece_first pile a) ≡ true
    unfolding contradicts other_values
    piece-contradicts = or_l (other_count pile a (piece_first pile a)) (and_both (piece_is pile a h).0.has d)

  -- so does the first block of its set where it says another number of pieces, and no block before that one does
  module _ (o : OneMark pile) (d : unlike_set pile a ≡ true) where
    pub by_set : contradicted_by pile a ≡ set_first pile a
    unfolding contradicted_by contradicts other_count
    by_set =
        let f = set_is pile a h in
        let unlike = eqb-false (pieces_at pile (set_first pile a)) (pieces_at pile a) (not_so (eqb (pieces_at pile (set_first pile a)) (pieces_at pile a)) d) in
        is-first (contradicts pile a) 1 a (set_first pile a)
        (record {
          from = f.0.from;
          to = ⊎_elim (λ (same : set_first pile a ≡ a). absurd (unlike (ap (pieces_at pile) same))) (λ (less : set_first pile a < a). less) (eq-or-lt_of_le f.1);
          has = or_r (other_values pile a (set_first pile a)) (and_both f.0.has d);
          least = λ k u v.
              let other : set_at pile k ≢ set_at pile a = eqb-false (set_at pile k) (set_at pile a) (f.0.least k u v) in
              not_contradicts pile a k (λ e. other (same_set o k a (u, omega (arith, f.1, h.1)) h e)) (λ e. absurd (other e));
        })

  contradicted : OneMark pile → apart pile a ≡ true → found (contradicted_by pile a) ≡ true
  unfolding contradicted_by
  contradicted o t =
      ⊎_elim
      (λ (d : unlike_set pile a ≡ true). rw (by_set o d) (found_some {a = set_first pile a} (λ z. omega (arith, (set_is pile a h).0.from))))
      (λ (d : unlike_piece pile a ≡ true).
      let f = (first_of (contradicts pile a) 1 a (piece_first pile a) (piece_is pile a h).0.from (piece-before d) (piece-contradicts d)).0 in
      found_some {a = first_in (contradicts pile a) 1 a} (λ z. omega (arith, f.from)))
      (or_cases (unlike_set pile a) (unlike_piece pile a) t)

-- ---- the first block that is contradicted: those before it are like the first ones
module _ (pile : List ℕ) (o : OneMark pile) (a : ℕ) (t : IsFirst (λ b. found (contradicted_by pile b)) 1 (blocks pile + 1) a) where
  inside : In pile a
  inside = (t.from, omega (arith, t.to))

  like : (b : ℕ) → 1 ≤ b → b < a → apart pile b ≡ false
  like b l m = isn't (λ d. never (t.least b l m) (contradicted pile b (l, omega (arith, t.to)) o d))

  -- one like them is not contradicted by these, so it is unlike
  none_against : apart pile a ≡ false → (b : ℕ) → 1 ≤ b → b < a → contradicts pile a b ≡ false
  unfolding contradicts other_values other_count
  none_against e b l m =
      isn't (λ c.
      ⊎_elim
      (λ v.
      let r = both (eqb (piece_at pile b) (piece_at pile a)) (found (differ_in pile a b)) v in
      let s = like_piece pile a e in
      let u = rw (eqb-true (piece_at pile b) (piece_at pile a) r.0) at (like_piece pile b (like b l m)) in
      never (found_none (of_same pile a b (record { same = λ i x y. s.same i x y ∙ sym (u.same i x y) }))) r.1)
      (λ v.
      let r = both (eqb (set_at pile b) (set_at pile a)) (not (eqb (pieces_at pile b) (pieces_at pile a))) v in
      let q : set_at pile b ≡ set_at pile a = eqb-true (set_at pile b) (set_at pile a) r.0 in
      eqb-false (pieces_at pile b) (pieces_at pile a) (not_so (eqb (pieces_at pile b) (pieces_at pile a)) r.1)
      (sym (like_set pile b (like b l m)) ∙ ap (λ (s : ℕ). pieces_at pile (set_place pile s)) q ∙ like_set pile a e))
      (or_cases (other_values pile a b) (other_count pile a b) c))

  first-apart : apart pile a ≡ true
  unfolding contradicted_by
  first-apart = surely (λ e. never (found_none (first-all (contradicts pile a) 1 a (λ b l m. none_against e b l m))) t.has)

  -- where it says what the first of its set says, the first of its piece contradicts it first
  by_piece : unlike_set pile a ≡ false → contradicted_by pile a ≡ piece_first pile a
  unfolding contradicted_by
  by_piece e =
      let d : unlike_piece pile a ≡ true = ⊎_elim (λ u. absurd (never e u)) (λ v. v) (or_cases (unlike_set pile a) (unlike_piece pile a) first-apart) in
      let f = (piece_is pile a inside).0 in
      let before = piece-before pile a inside d in
      is-first (contradicts pile a) 1 a (piece_first pile a)
      (record {
        from = f.from;
        to = before;
        has = piece-contradicts pile a inside d;
        least = λ k u v.
            not_contradicts pile a k (eqb-false (piece_at pile k) (piece_at pile a) (f.least k u v))
            (λ q. sym (like_set pile k (like k u (omega (arith, before)))) ∙ ap (λ (s : ℕ). pieces_at pile (set_place pile s)) q ∙ like_count pile a e);
      })

  which : contradicted_by pile a ≡ cond (unlike_set pile a) (set_first pile a) (piece_first pile a)
  which = ⊎_elim (λ u. rw u (by_set pile a inside o u)) (λ e. rw e (by_piece e)) (decided (unlike_set pile a))

pub by_first : (pile : List ℕ) → OneMark pile → conflict_at pile ≡ first_block pile (apart pile)
unfolding conflict_at
by_first pile o =
    first_two (λ a. found (contradicted_by pile a)) (apart pile) (blocks pile) (λ a l h d. contradicted pile a (l, omega arith) o d) (first-apart pile o)

pub with_first : (pile : List ℕ) → OneMark pile → conflict_at pile ≢ 0 → let a = conflict_at pile in
    contradicted_by pile a ≡ cond (unlike_set pile a) (set_first pile a) (piece_first pile a)
unfolding conflict_at
with_first pile o h =
    let t : ℕ → Bool = λ b. found (contradicted_by pile b) in
    let r = has_test t 1 (blocks pile + 1) h in
    which pile o (conflict_at pile) (first_of t 1 (blocks pile + 1) (conflict_at pile) r.1 (omega (arith, below_end t (blocks pile))) r.0).0

-- ---- the line
module _ (pile : List ℕ) (o : OneMark pile) (a : ℕ) (l : 1 ≤ a) (e : conflict_at pile ≡ a) where
  given_by : contradicted_by pile a ≡ cond (unlike_set pile a) (set_first pile a) (piece_first pile a)
  given_by = rw e at (with_first pile o (λ z. omega (arith, z, e)))

  line-is : (b : ℕ) → contradicted_by pile a ≡ b → refused 19 a b ≡ first_fail {A = ℕ} (conflict pile ∷ []) (done 0)
  unfolding first_fail
  line-is b c = rw (e, c, found_some {a = a} (λ z. omega (arith, z)))

  pub conflict-set : unlike_set pile a ≡ true → refused 19 a (set_first pile a) ≡ first_fail {A = ℕ} (conflict pile ∷ []) (done 0)
  conflict-set u = line-is (set_first pile a) (rw u at given_by)

  pub conflict-piece : unlike_set pile a ≡ false → refused 19 a (piece_first pile a) ≡ first_fail {A = ℕ} (conflict pile ∷ []) (done 0)
  conflict-piece u = line-is (piece_first pile a) (rw u at given_by)

-- ---- the block that block a is unlike, by the first of its set and of its piece
module _ (pile : List ℕ) (a : ℕ) where
  at : (x y : Bool) → unlike_set pile a ≡ x → unlike_piece pile a ≡ y → unlike pile a ≡ cond x (set_first pile a) (cond y (piece_first pile a) 0)
  unfolding unlike
  at x y e q = rw (e, q)

  pub unlike_apart : 1 ≤ unlike pile a → apart pile a ≡ true
  unlike_apart l =
      surely (λ e.
      let n = neither (unlike_set pile a) (unlike_piece pile a) e in
      omega (arith, l, at false false n.0 n.1))

  pub unlike_alike : In pile a → unlike pile a ≡ 0 → apart pile a ≡ false
  unlike_alike h z =
      isn't (λ t.
      ⊎_elim
      (λ (u : unlike_set pile a ≡ true). omega (arith, (set_is pile a h).0.from, z, at true (unlike_piece pile a) u refl))
      (λ (e : unlike_set pile a ≡ false).
      let v : unlike_piece pile a ≡ true = ⊎_elim (λ u. absurd (never e u)) (λ v. v) (or_cases (unlike_set pile a) (unlike_piece pile a) t) in
      omega (arith, (piece_is pile a h).0.from, z, at false true e v))
      (decided (unlike_set pile a)))

  pub conflict_unlike : OneMark pile → 1 ≤ a → conflict_at pile ≡ a → apart pile a ≡ true → refused 19 a (unlike pile a) ≡ first_fail {A = ℕ} (conflict pile ∷ []) (done 0)
  conflict_unlike o l q t =
      ⊎_elim
      (λ (u : unlike_set pile a ≡ true). ap (refused 19 a) (at true (unlike_piece pile a) u refl) ∙ conflict-set pile o a l q u)
      (λ (e : unlike_set pile a ≡ false).
      let v : unlike_piece pile a ≡ true = ⊎_elim (λ u. absurd (never e u)) (λ v. v) (or_cases (unlike_set pile a) (unlike_piece pile a) t) in
      ap (refused 19 a) (at false true e v) ∙ conflict-piece pile o a l q e)
      (decided (unlike_set pile a))

pub conflict_passes : (pile : List ℕ) → conflict_at pile ≡ 0 → done 0 ≡ first_fail {A = ℕ} (conflict pile ∷ []) (done 0)
unfolding first_fail
conflict_passes pile e = rw e
