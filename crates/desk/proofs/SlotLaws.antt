-- The slots after handing in and after closing, place by place; and that a client's answers go by its own slots alone.
-- Assumes nothing.
use mathlib.Core.Path.{◌≡◌, sym, ap, ap₂, ◌∙◌}
use mathlib.Core.Bool.{not, ◌&&◌}
use mathlib.Core.List.{List, [], ◌∷◌}
use Prim.Native.Nat.{ℕ, ◌+◌, ◌-◌, ◌*◌, ◌≤◌, ◌<◌}
use native.Mathlib.Nat.{add-zero}
use native.Mathlib.Omega.{arith}
use native.Mathlib.Decide.{dec_lt}
use lib.Dec.{eqb, ltb}
use lib.ListN.{length, get_or, replicate, length-replicate}
use Rattle.answer.specs.Outcome.{Outcome, done}
use Rattle.answer.specs.Checks.{first_fail}
use Rattle.answer.proofs.CheckLaws.{same_after}
use Rattle.lists.specs.Places.{found}
use Rattle.answer.specs.Lent.{left}
use Rattle.lists.proofs.FirstLaws.{first-same}
use Rattle.lists.proofs.ThoseLaws.{those-same}
use Rattle.field.specs.Joined.{joined}
use Rattle.field.specs.Secret.{column, secret_of}
use Rattle.lists.proofs.RunLaws.{run_length, run-same}
use Rattle.block.specs.Words.{word_at}
use Rattle.block.specs.Layout.{piece_number}
use Rattle.desk.specs.declared.Opening.{Opening}
use Rattle.desk.specs.Slots.{start, region_start, over_at, in_slot, keeps_at, keeps, distinct, unlike, kept, value_in, secret_for, cleared}
use Rattle.desk.specs.Lines.{other_values, front_lines, hand_lines, hand_slots, hand_says, ask_lines, ask_says, ask_into}
use Rattle.desk.specs.History.{Client}
use Rattle.desk.proofs.StoreLaws.{written-length, written_at, written-before, written_after}
use Rattle.desk.proofs.RegionLaws.{In, region_fits, slot_in, slot_fits}
use Rattle.desk.proofs.WordLaws.{ranged}
use Rattle.desk.proofs.SaysLaws.{Front, front-passed, front-piece}
use Rattle.desk.proofs.SoundLaws.{zeros}

pub kept-length : (b : List ℕ) (w : ℕ) → length (kept b w) ≡ w + 1
unfolding kept
kept-length b w = omega (arith, run_length (λ i. word_at b (7 + i)) 1 w)

-- ---- handing in
module _ (slots : List ℕ) (o : Opening) (c : ℕ) (b : List ℕ) (size : length slots ≡ 1190) (f : Front o c b) where
  pieces-few : o.pieces ≤ 70
  pieces-few = (ranged o f.opened).pieces.1

  new_few : length (kept b o.width) ≤ 17
  new_few = omega (arith, kept-length b o.width, (ranged o f.opened).width.1)

  pub hand_fits : start c (piece_number b) + length (kept b o.width) ≤ length slots
  hand_fits =
      let r = front-piece o c b f in
      omega (arith, slot_fits c (piece_number b) f.client r.0 (omega (arith, r.1, pieces-few)), new_few, size)

  pub hand_length : length (hand_slots slots o c b) ≡ 1190
  unfolding hand_slots
  hand_length = written-length (start c (piece_number b)) (kept b o.width) slots hand_fits ∙ size

  -- the slot of the piece is one of the client's
  hand_in : (i : ℕ) → start c (piece_number b) ≤ i → i < start c (piece_number b) + length (kept b o.width) → In c o.pieces i
  hand_in i l h =
      let r = front-piece o c b f in
      let e : (start c (piece_number b)) + (i - start c (piece_number b)) ≡ i = omega arith in
      rw e at (slot_in c o.pieces (piece_number b) (i - start c (piece_number b)) f.client pieces-few r.0 r.1 (omega (arith, new_few)))

  pub hand_outside : (i : ℕ) → (In c o.pieces i → ⊥) → get_or (hand_slots slots o c b) i 0 ≡ get_or slots i 0
  unfolding hand_slots
  hand_outside i n = go (dec_lt i (start c (piece_number b))) (dec_lt i (start c (piece_number b) + length (kept b o.width)))
    where
      go : Dec (i < start c (piece_number b)) → Dec (i < start c (piece_number b) + length (kept b o.width)) → get_or (over_at (start c (piece_number b)) (kept b o.width) slots) i 0 ≡ get_or slots i 0
      go (yes h) t = written-before (start c (piece_number b)) (kept b o.width) slots hand_fits i h
      go (no h) (yes t) = absurd (n (hand_in i (omega arith) t))
      go (no h) (no t) = written_after (start c (piece_number b)) (kept b o.width) slots hand_fits i (omega arith)

-- two desks' slots, in which client c has the same numbers
pub record Same (c k : ℕ) (s t : List ℕ) : Type 0 where
  pub same : (i : ℕ) → In c k i → get_or s i 0 ≡ get_or t i 0

module _ (s t : List ℕ) (o : Opening) (c : ℕ) (who : Client c) (few : o.pieces ≤ 70) (thin : o.width ≤ 16) (agree : Same c o.pieces s t) where
  pub in_same : (j i : ℕ) → 1 ≤ j → j ≤ o.pieces → i ≤ 16 → in_slot s (start c j) i ≡ in_slot t (start c j) i
  in_same j i l m n = agree.same (start c j + i) (slot_in c o.pieces j i who few l m (omega arith))

  pub keeps_same : (j : ℕ) → 1 ≤ j → j ≤ o.pieces → keeps s c o.width j ≡ keeps t c o.width j
  unfolding keeps_at
  keeps_same j l m =
      ap₂ (λ (x y : ℕ). found x && eqb y 0) (rw (add-zero (start c j)) at (in_same j 0 l m (omega arith)))
      (first-same (λ i. ltb 32748 (in_slot s (start c j) i)) (λ i. ltb 32748 (in_slot t (start c j) i)) 1 (o.width + 1)
      (λ i u v. ap (ltb 32748) (in_same j i l m (omega arith))))

  pub distinct-same : distinct s o c ≡ distinct t o c
  unfolding distinct
  distinct-same = ap length (those-same (keeps s c o.width) (keeps t c o.width) 1 o.pieces (λ j l m. keeps_same j l (omega arith)))

  unlike-same : (b : List ℕ) (j : ℕ) → 1 ≤ j → j ≤ o.pieces → unlike s (start c j) o.width b ≡ unlike t (start c j) o.width b
  unfolding unlike
  unlike-same b j l m =
      first-same (λ i. not (eqb (in_slot s (start c j) i) (word_at b (7 + i)))) (λ i. not (eqb (in_slot t (start c j) i) (word_at b (7 + i)))) 1 (o.width + 1)
      (λ i u v. ap (λ (x : ℕ). not (eqb x (word_at b (7 + i)))) (in_same j i l m (omega arith)))

  secret-same : secret_for s o c ≡ secret_for t o c
  unfolding secret_of column
  secret-same =
      run-same (λ i. joined (column (value_in s c) o.pieces i)) (λ i. joined (column (value_in t c) o.pieces i)) o.width
      (λ i l m. ap joined (run-same (λ j. value_in s c j i) (λ j. value_in t c j i) o.pieces (λ j u v. in_same j i u v (omega arith))))

  pub ask_same : (room : ℕ) → ask_says s o c room ≡ ask_says t o c room
  unfolding ask_says ask_lines
  ask_same room = rw distinct-same

  pub into_same : (old : List ℕ) → ask_into s o c old ≡ ask_into t o c old
  unfolding ask_into
  into_same old = ap₂ (λ (x : Outcome ℕ) (y : List ℕ). left x y old) (ask_same (length old)) secret-same

-- ---- handing in the same block
module _ (s t : List ℕ) (o : Opening) (c : ℕ) (b : List ℕ) (size-s : length s ≡ 1190) (size-t : length t ≡ 1190) (agree : Same c o.pieces s t) where
  pub hand_slots_same : Front o c b → Same c o.pieces (hand_slots s o c b) (hand_slots t o c b)
  hand_slots_same f = record { same = λ i m. go i m (dec_lt i (start c (piece_number b))) (dec_lt i (start c (piece_number b) + length (kept b o.width))) }
    where
      go : (i : ℕ) → In c o.pieces i → Dec (i < start c (piece_number b)) → Dec (i < start c (piece_number b) + length (kept b o.width))
          → get_or (hand_slots s o c b) i 0 ≡ get_or (hand_slots t o c b) i 0
      go i m (yes h) d = unfold hand_slots in
          written-before (start c (piece_number b)) (kept b o.width) s (hand_fits s o c b size-s f) i h ∙ agree.same i m
          ∙ sym (written-before (start c (piece_number b)) (kept b o.width) t (hand_fits t o c b size-t f) i h)
      go i m (no h) (yes d) = unfold hand_slots in
          written_at (start c (piece_number b)) (kept b o.width) s (hand_fits s o c b size-s f) i (omega arith) d
          ∙ sym (written_at (start c (piece_number b)) (kept b o.width) t (hand_fits t o c b size-t f) i (omega arith) d)
      go i m (no h) (no d) = unfold hand_slots in
          written_after (start c (piece_number b)) (kept b o.width) s (hand_fits s o c b size-s f) i (omega arith) ∙ agree.same i m
          ∙ sym (written_after (start c (piece_number b)) (kept b o.width) t (hand_fits t o c b size-t f) i (omega arith))

  pub hand_same : hand_says s o c b ≡ hand_says t o c b
  unfolding hand_says hand_lines first_fail
  hand_same =
      same_after (front_lines o c b) (other_values s o c b ∷ []) (other_values t o c b ∷ []) (done (distinct (hand_slots s o c b) o c)) (done (distinct (hand_slots t o c b) o c))
      (λ p.
      let f = front-passed o c b p in
      let r = front-piece o c b f in
      let few = (ranged o f.opened).pieces.1 in
      let thin = (ranged o f.opened).width.1 in
      let j = piece_number b in
      let x : keeps s c o.width j ≡ keeps t c o.width j = keeps_same s t o c f.client few thin agree j r.0 r.1 in
      let y : unlike s (start c j) o.width b ≡ unlike t (start c j) o.width b = unlike-same s t o c f.client few thin agree b j r.0 r.1 in
      let z : distinct (hand_slots s o c b) o c ≡ distinct (hand_slots t o c b) o c = distinct-same (hand_slots s o c b) (hand_slots t o c b) o c f.client few thin (hand_slots_same f) in
      rw (x, y, z))

-- ---- closing
module _ (slots : List ℕ) (o : Opening) (c : ℕ) (size : length slots ≡ 1190) (who : Client c) (few : o.pieces ≤ 70) where
  zeros-length : length {A = ℕ} (replicate (17 * o.pieces) 0) ≡ 17 * o.pieces
  zeros-length = length-replicate {A = ℕ} (17 * o.pieces) 0

  clear_fits : region_start c o.pieces + length {A = ℕ} (replicate (17 * o.pieces) 0) ≤ length slots
  clear_fits = omega (arith, region_fits c o.pieces who few, zeros-length, size)

  pub clear_length : length (cleared slots o c) ≡ 1190
  unfolding cleared
  clear_length = written-length (region_start c o.pieces) (replicate (17 * o.pieces) 0) slots clear_fits ∙ size

  pub clear_inside : (i : ℕ) → In c o.pieces i → get_or (cleared slots o c) i 0 ≡ 0
  unfolding cleared
  clear_inside i h =
      written_at (region_start c o.pieces) (replicate (17 * o.pieces) 0) slots clear_fits i h.from (omega (arith, h.to, zeros-length))
      ∙ zeros (17 * o.pieces) (i - region_start c o.pieces)

  pub clear_outside : (i : ℕ) → (In c o.pieces i → ⊥) → get_or (cleared slots o c) i 0 ≡ get_or slots i 0
  unfolding cleared
  clear_outside i n = go (dec_lt i (region_start c o.pieces)) (dec_lt i (region_start c o.pieces + 17 * o.pieces))
    where
      go : Dec (i < region_start c o.pieces) → Dec (i < region_start c o.pieces + 17 * o.pieces) → get_or (over_at (region_start c o.pieces) (replicate (17 * o.pieces) 0) slots) i 0 ≡ get_or slots i 0
      go (yes h) t = written-before (region_start c o.pieces) (replicate (17 * o.pieces) 0) slots clear_fits i h
      go (no h) (yes t) = absurd (n (record { from = omega arith; to = t }))
      go (no h) (no t) = written_after (region_start c o.pieces) (replicate (17 * o.pieces) 0) slots clear_fits i (omega (arith, zeros-length))
