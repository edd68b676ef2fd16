-- The reader's laws, proved: each by its name in specs/Laws.antt. Assumes nothing.
use mathlib.Core.Path.{◌≡◌, refl, sym, ap, ◌∙◌}
use mathlib.Core.List.{List, []}
use Prim.Native.Nat.{ℕ, zero, suc, ◌+◌, ◌-◌, ◌*◌, ◌≤◌}
use native.Mathlib.Decide.{dec_le}
use native.Mathlib.Nat.{le_refl}
use native.Mathlib.Omega.{arith}
use lib.ListN.{length}
use Rattle.answer.specs.Outcome.{Outcome, done, refused, number}
use Rattle.answer.proofs.OneLaws.{refusal_one}
use Rattle.answer.proofs.CheckLaws.{never_both}
use Rattle.block.specs.Layout.{front_words}
use Rattle.block.specs.Open.{opening, words_of, value_bytes, value_start}
use Rattle.block.proofs.OneLaws.{words_one}
use Rattle.block.specs.Laws as opens-law
use Rattle.block.proofs.OpenLaws.{opening-block, dirty_speaks, speaks_dirty, which_refusals as opens-which}
use Rattle.block.proofs.ValueLaws as value
use Rattle.pile.specs.Blocks.{blocks, rest_from}
use Rattle.pile.proofs.PileLaws.{rest_long}
use Rattle.std.specs.Prelude.{Some, None, Ok, Err}
use Rattle.answer.specs.declared.Refusal.{Refusal}
use Rattle.block.specs.declared.Words.{Words}
use Rattle.reader.specs.Seeing.{told, counted, opening_at, seeing, after, values_of, values_from, place_after}
use Rattle.reader.specs.Laws as law
use Rattle.reader.proofs.SeeingLaws.{counted-lines, counted-opening, seeing-block, seeing-torn, seeing-ended, after_block, after_stays, values_in}
use Rattle.reader.proofs.ReadingLaws.{not_ended}

-- ---- one answer
pub sight_one : law.SightOne
sight_one (Some (Ok h)) (Some (Ok k)) e = let q : words_of h ≡ words_of k = cc in ap (λ (w : Words). Some (Ok w)) (words_one h k q)
sight_one (Some (Ok h)) (Some (Err s)) e = cc
sight_one (Some (Ok h)) None e = cc
sight_one (Some (Err r)) (Some (Ok k)) e = cc
sight_one (Some (Err r)) (Some (Err s)) e =
    let n : number r.kind ≡ number s.kind = cc in
    let p : r.a ≡ s.a = cc in
    let q : r.b ≡ s.b = cc in
    ap (λ (f : Refusal). Some (Err f)) (refusal_one r s n p q)
sight_one (Some (Err r)) None e = cc
sight_one None (Some (Ok k)) e = cc
sight_one None (Some (Err s)) e = cc
sight_one None None e = refl

-- ---- the place
pub one_step : law.OneStep
one_step pile n = (after_block pile n, after_stays pile n)

pub values_stay : law.ValuesStay
values_stay pile n h = (ap (values_of pile) (after_stays pile n h), ap (values_from pile) (after_stays pile n h))

place_in : (pile : List ℕ) (c : ℕ) → c ≤ blocks pile → place_after pile c ≡ c
unfolding place_after
place_in pile zero h = refl
place_in pile (suc c) h =
    let e : c + 1 ≡ suc c = omega arith in
    ap (after pile) (place_in pile c (omega arith)) ∙ after_block pile c (omega arith) ∙ e

place_turn : (pile : List ℕ) (c : ℕ) → (blocks pile ≤ c → place_after pile c ≡ blocks pile) → Dec (blocks pile ≤ c) → blocks pile ≤ suc c
    → place_after pile (suc c) ≡ blocks pile
unfolding place_after
place_turn pile c f (yes h) k = ap (after pile) (f h) ∙ after_stays pile (blocks pile) (le_refl (blocks pile))
place_turn pile c f (no g) k = let e : suc c ≡ blocks pile = omega arith in place_in pile (suc c) (omega arith) ∙ e

place_out : (pile : List ℕ) (c : ℕ) → blocks pile ≤ c → place_after pile c ≡ blocks pile
unfolding place_after
place_out pile zero h = omega arith
place_out pile (suc c) h = place_turn pile c (place_out pile c) (dec_le (blocks pile) c) h

pub never_past : law.NeverPast
never_past pile c = (place_in pile c, place_out pile c)

-- ---- the answers
pub from_front : law.FromFront
from_front pile a l h =
    let e : a - 1 + 1 ≡ a = omega arith in
    ap (seeing pile) (place_in pile (a - 1) (omega arith))
    ∙ seeing-block pile (a - 1) (omega arith)
    ∙ ap (λ (n : ℕ). told (opening_at pile n)) e
    ∙ ap told (sym (counted-opening pile a l h))

pub past_blocks : law.PastBlocks
unfolding blocks
past_blocks pile c h =
    let e = ap (seeing pile) (place_out pile (c - 1) (omega arith)) in
    (λ f. e ∙ seeing-torn pile (blocks pile) (le_refl (blocks pile)) (omega arith), λ z. e ∙ seeing-ended pile (blocks pile) (omega arith))

pub past_end : law.PastEnd
unfolding blocks
past_end pile n h = (seeing-ended pile n (omega arith), after_stays pile n (omega arith))

-- ---- the value bytes
pub values-passed : law.ValuesPassed
values-passed pile n h =
    let r = values_in pile (n + 1) (omega arith) (omega arith) in
    let e : n + 1 - 1 ≡ n = omega arith in
    rw (after_block pile n h) (r.0, r.1 ∙ ap (λ (m : ℕ). 512 * m + value_start (rest_from pile (n + 1))) e)

empty_of : (r : List ℕ) (n m a b : ℕ) (o : Outcome (List ℕ)) → opening r ≡ o → counted n o ≡ refused m a b → value_bytes r ≡ []
empty_of r n m a b (done ws) q e = never_both e
empty_of r n m a b (refused k x y) q e = (value.refused_empty r k x y q).0

pub refused_empty : law.RefusedEmpty
refused_empty pile n m a b h e =
    let r = rest_from pile (n + 1) in
    let f : told (counted (n + 1) (opening r)) ≡ told (refused m a b) =
    ap told (counted-opening pile (n + 1) (omega arith) (omega arith)) ∙ sym (seeing-block pile n h) ∙ e in
    (values-passed pile n h).0 ∙ empty_of r (n + 1) m a b (opening r) refl cc

-- ---- the slot that is named
pub unread_exactly : law.UnreadExactly
unfolding opening_at
unread_exactly pile n i h =
    let r = rest_from pile (n + 1) in (
      λ e.
          let f : told (opening_at pile (n + 1)) ≡ told (refused 15 (n + 1) i) = sym (seeing-block pile n h) ∙ e in
          let g : opening_at pile (n + 1) ≡ refused 15 (n + 1) i = cc in
          speaks_dirty r (n + 1) (front_words r) (n + 1) i g,
      λ f. seeing-block pile n h ∙ ap told (dirty_speaks r (n + 1) (done (front_words r)) i f),
    )

-- ---- which refusals
of_block : (n m x b : ℕ) → x ≡ 1 → opens-law.Refusable m x b → law.Refusable n m (n + 1) b
of_block n m x b e opens-law.by_torn = let w : ⊥ = omega arith in absurd w
of_block n m x b e (opens-law.by_unread l h) = law.by_unread l h
of_block n m x b e opens-law.by_check = law.by_check
of_block n m x b e (opens-law.by_header l h) = law.by_header l h

-- a refusal of opening has a = 1 where a block is left
refused_of : (n m a b : ℕ) (o : Outcome (List ℕ)) → counted 1 o ≡ o → ((k x y : ℕ) → o ≡ refused k x y → opens-law.Refusable k x y)
    → counted (n + 1) o ≡ refused m a b → law.Refusable n m a b
refused_of n m a b (done ws) one f e = never_both e
refused_of n m a b (refused k x y) one f e =
    let p : x ≡ 1 = cc in
    let i : k ≡ m = cc in
    let j : n + 1 ≡ a = cc in
    let l : y ≡ b = cc in
    rw (← i, ← j, ← l) (of_block n k x y p (f k x y refl))

pub which_refusals : law.WhichRefusals
which_refusals pile n m a b e = go (dec_le (n + 1) (blocks pile)) (dec_le (length pile) (512 * n))
  where
    go : Dec (n + 1 ≤ blocks pile) → Dec (length pile ≤ 512 * n) → law.Refusable n m a b
    go (yes h) d =
        let r = rest_from pile (n + 1) in
        let o = opening-block r (rest_long pile (n + 1) (omega arith) h) in
        let f : told (counted (n + 1) (opening r)) ≡ told (refused m a b) =
        ap told (counted-opening pile (n + 1) (omega arith) h) ∙ sym (seeing-block pile n (omega arith)) ∙ e in
        refused_of n m a b (opening r) (ap (counted 1) o ∙ counted-lines r 1 ∙ sym o) (λ k x y. opens-which r k x y) cc
    go (no f) (yes g) = not_ended (sym e ∙ seeing-ended pile n g)
    go (no f) (no g) =
        let z : told (refused m a b) ≡ told (refused 13 0 0) = sym e ∙ seeing-torn pile n (omega arith) (omega arith) in
        let i : 13 ≡ m = cc in
        let j : 0 ≡ a = cc in
        let l : 0 ≡ b = cc in
        rw (← i, ← j, ← l) law.by_torn
