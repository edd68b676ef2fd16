-- A true block with one word changed, or with two unequal words of the first 255 exchanged, is refused: UNREAD at that word where it is
-- above 32748 now, else CHECK, since mod 32749 no factor from 1 to 255 is lost. Assumes nothing.
use mathlib.Core.Path.{◌≡◌, refl, sym, ap, ◌∙◌}
use mathlib.Core.Bool.{cond}
use mathlib.Core.Logic.{⊎_elim, ◌≢◌}
use mathlib.Core.List.{List, [], ◌∷◌}
use Prim.Native.Nat.{ℕ, ◌+◌, ◌-◌, ◌*◌, ◌%◌, ◌≤◌, ◌<◌}
use native.Mathlib.Nat.{eq-or-lt_of_le, add-mul}
use native.Mathlib.Decide.{dec_lt}
use native.Mathlib.Omega.{arith}
use lib.Arith.{lt_of_le-ne}
use lib.Dec.{eqb}
use lib.ListN.{length}
use borrow.Author.Tests.{lt-ltb, le-ltb, eq-eqb, ne_eqb}
use Rattle.lists.proofs.Truth.{same_or_not}
use Rattle.answer.specs.Outcome.{done, refused}
use Rattle.answer.specs.Checks.{first_fail}
use Rattle.prime.proofs.Prime.{cancel_small}
use Rattle.block.specs.Words.{word_at, put_at, weighted, check_of, Small}
use Rattle.block.specs.Layout.{front_words}
use Rattle.block.specs.Open.{header, opening, TrueBlock}
use Rattle.block.proofs.WordLaws.{length-put, word-put-same, word-put-other}
use Rattle.block.proofs.SumLaws.{check-same, one_differs}
use Rattle.block.proofs.OpenLaws.{of_small, slots_check, opening-block, unread_exactly}

-- equal sums with equal remainders on the left have equal remainders on the right
add_cancel : (s t x y : ℕ) → s % 32749 ≡ t % 32749 → s + x ≡ t + y → x % 32749 ≡ y % 32749
add_cancel s t x y e h = omega arith

-- ---- what opening answers of a block whose check is wrong
by_check : (b : List ℕ) → 512 ≤ length b → Small b 256 → check_of b ≢ word_at b 256 → opening b ≡ refused 16 1 0
unfolding first_fail
by_check b l s h = opening-block b l ∙ slots_check b 1 (first_fail (header b 1 ∷ []) (done (front_words b))) (of_small b s) h

-- ---- word i of the true block b is changed, which gives c
module _ (b c : List ℕ) (i : ℕ) (from : 1 ≤ i) (to : i ≤ 256)
    (same : (k : ℕ) → 1 ≤ k → k ≤ 256 → k ≢ i → word_at c k ≡ word_at b k) (other : word_at c i ≢ word_at b i)
    (true-b : TrueBlock b) (low : word_at c i ≤ 32748) where
  changed_small : Small c 256
  changed_small =
      record {
        small = λ k l h.
            ⊎_elim (λ (e : k ≡ i). rw e low) (λ (off : k ≢ i). rw (same k l h off) (true-b.clean.small k l h)) (same_or_not k i);
      }

  -- were the check right, the two sums would have equal remainders
  in_the_sum : i ≤ 255 → check_of c ≢ word_at c 256
  unfolding check_of
  in_the_sum h e =
      let agree : weighted (word_at c) 255 % 32749 ≡ weighted (word_at b) 255 % 32749 =
      e ∙ same 256 (omega arith) (omega arith) (λ q. omega arith) ∙ sym true-b.sum in
      let sums = one_differs (word_at b) (word_at c) i 255 from h (λ k l m ne. same k l (omega arith) ne) in
      let r = add_cancel (weighted (word_at c) 255) (weighted (word_at b) 255) (i * word_at b i) (i * word_at c i) agree sums in
      other (sym (cancel_small i (word_at b i) (word_at c i) from (omega arith) (true-b.clean.small i from to) low r))

  in_the_check : i ≡ 256 → check_of c ≢ word_at c 256
  in_the_check q e =
      other (rw q (sym e ∙ check-same c b (λ k l m. same k l (omega arith) (λ z. omega arith)) ∙ true-b.sum))

  changed_check : check_of c ≢ word_at c 256
  changed_check = ⊎_elim in_the_check (λ less. in_the_sum (omega arith)) (eq-or-lt_of_le to)

pub changed : (b : List ℕ) (i v : ℕ) → TrueBlock b → 1 ≤ i → i ≤ 256 → v ≢ word_at b i
    → (32748 < v → opening (put_at b i v) ≡ refused 15 1 i) × (v ≤ 32748 → opening (put_at b i v) ≡ refused 16 1 0)
changed b i v t l h ne =
    let c = put_at b i v in
    let room : 2 * i ≤ length b = omega (arith, t.long) in
    let long : 512 ≤ length c = rw (length-put b i v) t.long in
    let new : word_at c i ≡ v = word-put-same b i v l room in
    let same : (k : ℕ) → 1 ≤ k → k ≤ 256 → k ≢ i → word_at c k ≡ word_at b k = λ k m q off. word-put-other b i v l room k m off in
    let other : word_at c i ≢ word_at b i = λ e. ne (sym new ∙ e) in (
      λ high.
          (unread_exactly c i long).1
          (record {
            from = l;
            to = omega arith;
            has = lt-ltb 32748 (word_at c i) (omega arith);
            least = λ k m q. le-ltb 32748 (word_at c k) (rw (same k m (omega arith) (λ e. omega arith)) (t.clean.small k m (omega arith)));
          }),
      λ low.
          let low-c : word_at c i ≤ 32748 = omega arith in
          by_check c long (changed_small b c i l h same other t low-c) (changed_check b c i l h same other t low-c),
    )

-- ---- words i and j of the first 255 of the true block b, unequal, are exchanged, which gives c
module _ (b c : List ℕ) (i j : ℕ) (from : 1 ≤ i) (order : i < j) (to : j ≤ 255)
    (same : (k : ℕ) → 1 ≤ k → k ≤ 256 → k ≢ i → k ≢ j → word_at c k ≡ word_at b k)
    (at_i : word_at c i ≡ word_at b j) (at_j : word_at c j ≡ word_at b i)
    (other : word_at b i ≢ word_at b j) (true-b : TrueBlock b) where
  exchanged_small : Small c 256
  exchanged_small =
      record {
        small = λ k l h.
            ⊎_elim
            (λ (e : k ≡ i). rw (e, at_i) (true-b.clean.small j (omega arith) (omega arith)))
            (λ (off : k ≢ i).
            ⊎_elim (λ (e : k ≡ j). rw (e, at_j) (true-b.clean.small i from (omega arith)))
            (λ (off-j : k ≢ j). rw (same k l h off off-j) (true-b.clean.small k l h))
            (same_or_not k j))
            (same_or_not k i);
      }

  -- the words with word i changed alone
  half : ℕ → ℕ
  half k = cond (eqb k i) (word_at b j) (word_at b k)

  half_at : half i ≡ word_at b j
  unfolding half
  half_at = rw (eq-eqb i i refl)

  half_off : (k : ℕ) → k ≢ i → half k ≡ word_at b k
  unfolding half
  half_off k ne = rw (ne_eqb k i ne)

  first : weighted half 255 + i * word_at b i ≡ weighted (word_at b) 255 + i * word_at b j
  first =
      one_differs (word_at b) half i 255 from (omega arith) (λ k l m ne. half_off k ne)
      ∙ ap (λ (v : ℕ). weighted (word_at b) 255 + i * v) half_at

  rest : (k : ℕ) → 1 ≤ k → k ≤ 255 → k ≢ j → word_at c k ≡ half k
  rest k l m ne =
      ⊎_elim
      (λ (e : k ≡ i). rw e (at_i ∙ sym half_at))
      (λ (off : k ≢ i). same k l (omega arith) off ne ∙ sym (half_off k off))
      (same_or_not k i)

  second : weighted (word_at c) 255 + j * word_at b j ≡ weighted half 255 + j * word_at b i
  second =
      ap (λ (v : ℕ). weighted (word_at c) 255 + j * v) (sym (half_off j (λ e. omega arith)))
      ∙ one_differs half (word_at c) j 255 (omega arith) to rest
      ∙ ap (λ (v : ℕ). weighted half 255 + j * v) at_j

  joined : (ix iy jx jy dx dy : ℕ) → weighted half 255 + ix ≡ weighted (word_at b) 255 + iy → weighted (word_at c) 255 + jy ≡ weighted half 255 + jx
      → jx ≡ ix + dx → jy ≡ iy + dy → weighted (word_at c) 255 + dy ≡ weighted (word_at b) 255 + dx
  joined ix iy jx jy dx dy p q u v = omega arith

  -- the sums differ by j - i times the words' difference
  apart : weighted (word_at c) 255 + (j - i) * word_at b j ≡ weighted (word_at b) 255 + (j - i) * word_at b i
  apart =
      let d : i + (j - i) ≡ j = omega arith in
      let part : (z : ℕ) → j * z ≡ i * z + (j - i) * z = λ z. ap (λ (n : ℕ). n * z) (sym d) ∙ add-mul i (j - i) z in
      let x = word_at b i in
      let y = word_at b j in
      joined (i * x) (i * y) (j * x) (j * y) ((j - i) * x) ((j - i) * y) first second (part x) (part y)

  exchanged_check : check_of c ≢ word_at c 256
  unfolding check_of
  exchanged_check e =
      let agree : weighted (word_at c) 255 % 32749 ≡ weighted (word_at b) 255 % 32749 =
      e ∙ same 256 (omega arith) (omega arith) (λ q. omega arith) (λ q. omega arith) ∙ sym true-b.sum in
      let x = word_at b i in
      let y = word_at b j in
      let r = add_cancel (weighted (word_at c) 255) (weighted (word_at b) 255) ((j - i) * y) ((j - i) * x) agree apart in
      other
      (sym (cancel_small (j - i) y x (omega arith) (omega arith)
      (true-b.clean.small j (omega arith) (omega arith)) (true-b.clean.small i from (omega arith)) r))

-- the two stores of an exchange
module _ (b : List ℕ) (i j : ℕ) (t : TrueBlock b) (from-i : 1 ≤ i) (to-i : i ≤ 255) (from-j : 1 ≤ j) (to_j : j ≤ 255) (ne : word_at b i ≢ word_at b j) where
  abbrev stored : List ℕ
  stored = put_at b i (word_at b j)

  abbrev swapped : List ℕ
  swapped = put_at stored j (word_at b i)

  unlike : i ≢ j
  unlike e = ne (ap (word_at b) e)

  room : 2 * i ≤ length b
  room = omega (arith, t.long)

  room_stored : 2 * j ≤ length stored
  room_stored = rw (length-put b i (word_at b j)) (omega (arith, t.long))

  long : 512 ≤ length swapped
  long = rw (length-put stored j (word_at b i), length-put b i (word_at b j)) t.long

  kept : (k : ℕ) → 1 ≤ k → k ≤ 256 → k ≢ i → k ≢ j → word_at swapped k ≡ word_at b k
  kept k q _ off_i off-j =
      word-put-other stored j (word_at b i) from-j room_stored k q off-j ∙ word-put-other b i (word_at b j) from-i room k q off_i

  now_i : word_at swapped i ≡ word_at b j
  now_i = word-put-other stored j (word_at b i) from-j room_stored i from-i unlike ∙ word-put-same b i (word_at b j) from-i room

  now_j : word_at swapped j ≡ word_at b i
  now_j = word-put-same stored j (word_at b i) from-j room_stored

  pub exchanged : opening (put_at (put_at b i (word_at b j)) j (word_at b i)) ≡ refused 16 1 0
  exchanged = go (dec_lt i j)
    where
      go : Dec (i < j) → opening swapped ≡ refused 16 1 0
      go (yes less) =
          by_check swapped long
          (exchanged_small b swapped i j from-i less to_j kept now_i now_j ne t)
          (exchanged_check b swapped i j from-i less to_j kept now_i now_j ne t)
      go (no f) =
          let less : j < i = lt_of_le-ne (omega arith) (λ e. unlike (sym e)) in
          let other : word_at b j ≢ word_at b i = λ e. ne (sym e) in
          let back : (k : ℕ) → 1 ≤ k → k ≤ 256 → k ≢ j → k ≢ i → word_at swapped k ≡ word_at b k = λ k q h off-j off_i. kept k q h off_i off-j in
          by_check swapped long
          (exchanged_small b swapped j i from-j less to-i back now_j now_i other t)
          (exchanged_check b swapped j i from-j less to-i back now_j now_i other t)
