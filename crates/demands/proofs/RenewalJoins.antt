-- The sums of two piles that join, block for block, join too, and to the sum of their secrets: blocks with one number agree in both piles.
-- Assumes nothing.
use Prim.Native.Nat.{ℕ, ◌+◌, ◌%◌, ◌≤◌}
use mathlib.Core.Path.{◌≡◌, sym, ap, ap₂, ◌∙◌}
use mathlib.Core.Bool.{false}
use mathlib.Core.List.{List}
use native.Mathlib.Omega.{arith}
use Rattle.prime.specs.Prime.{p}
use Rattle.field.specs.Added.{added}
use Rattle.field.specs.Secret.{secret_of}
use Rattle.field.proofs.Laws.{secret-added}
use Rattle.block.specs.declared.deal.DealWords.{DealWords}
use Rattle.block.specs.Deals.{marks_sets}
use Rattle.block.specs.Layout.{piece_in}
use Rattle.adding.specs.declared.Pair.{Pair}
use Rattle.pile.specs.Blocks.{rest_from, In}
use Rattle.joining.specs.Pile.{own_block, own_deal, own_width, in_sets, set_at, pieces_at, number_at, piece_at, own_pieces, own_place, value_of, value_at}
use Rattle.joining.specs.Secret.{secret}
use Rattle.joining.specs.Laws.{Joins}
use Rattle.joining.proofs.HeapLaws.{own_in}
use Rattle.joining.proofs.ChosenLaws.{place-has, place-held, first-chosen, first_pieces, first-place, sound-unmixed}
use Rattle.demands.proofs.BlockLaws.{first_count}
use Rattle.demands.proofs.RenewalSums.{under, Sums}

-- in the first scheme a piece that some block has is taken from a block that has it
taken : (pile : List ℕ) → in_sets pile ≡ false → (j a : ℕ) → In pile a → set_at pile a ≡ 0 → number_at pile a ≡ j
    → In pile (own_place pile j) × (piece_at pile (own_place pile j) ≡ j)
taken pile e j a h none is =
    let p : piece_at pile a ≡ j = omega (arith, none, is) in
    rw (first-place pile e j) (place-has pile j (place-held pile j a h p))

-- ---- where both piles join
module _ {one two sums : List ℕ} {new : Pair} (x : Sums one two sums new) (room w v : ℕ) (t : Joins one room w) (s : Joins two room v) where
  in_two : (a : ℕ) → In one a → In two a
  in_two a h = (h.0, omega (arith, x.same, h.1))

  in_one : (a : ℕ) → In sums a → In one a
  in_one a h = (h.0, omega (arith, h.1, x.count))

  in_sums : (a : ℕ) → In one a → In sums a
  in_sums a h = (h.0, omega (arith, h.1, x.count))

  own : In one (own_block sums)
  own = in_one (own_block sums) (own_in sums (omega (arith, t.some, x.count)))

  own_is : own_deal sums ≡ under new (own_deal one)
  own_is = x.deal (own_block sums) own ∙ ap (under new) ((sound-unmixed t.sound t.some).own_deal_lem (own_block sums) own)

  sums_first : in_sets sums ≡ false
  sums_first =
      ap (λ (d : DealWords). marks_sets d.mark) (x.deal (own_block sums) own)
      ∙ ap marks_sets (x.mark_one (own_block sums) own)

  one_first : in_sets one ≡ false
  one_first = ap marks_sets (x.mark_one (own_block one) (own_in one t.some))

  two_first : in_sets two ≡ false
  two_first =
      let o = own_in two s.some in
      ap marks_sets (x.mark_two (own_block two) (o.0, omega (arith, x.same, o.1)))

  -- k is word 5 of any block
  pieces_one : own_pieces sums ≡ own_pieces one
  pieces_one = first_pieces sums sums_first ∙ ap (λ (d : DealWords). d.pieces) own_is ∙ sym (first_pieces one one_first)

  count_one : own_pieces one ≡ pieces_at one (own_block sums)
  count_one =
      first_pieces one one_first ∙ ap (λ (d : DealWords). d.pieces) (sym ((sound-unmixed t.sound t.some).own_deal_lem (own_block sums) own))
      ∙ first_count (rest_from one (own_block sums)) (x.mark_one (own_block sums) own)

  count_two : own_pieces two ≡ pieces_at two (own_block sums)
  count_two =
      first_pieces two two_first ∙ ap (λ (d : DealWords). d.pieces) (sym ((sound-unmixed s.sound s.some).own_deal_lem (own_block sums) (in_two (own_block sums) own)))
      ∙ first_count (rest_from two (own_block sums)) (x.mark_two (own_block sums) own)

  width_one : own_width sums ≡ own_width one
  width_one = ap (λ (d : DealWords). d.width) own_is

  pieces_two : own_pieces one ≡ own_pieces two
  pieces_two = count_one ∙ x.alike (own_block sums) own 5 (omega arith) (omega arith) ∙ sym count_two

  width_two : own_width one ≡ own_width two
  width_two =
      ap (λ (d : DealWords). d.width) (sym ((sound-unmixed t.sound t.some).own_deal_lem (own_block sums) own))
      ∙ x.alike (own_block sums) own 6 (omega arith) (omega arith)
      ∙ ap (λ (d : DealWords). d.width) ((sound-unmixed s.sound s.some).own_deal_lem (own_block sums) (in_two (own_block sums) own))

  value-sum : (a : ℕ) → In one a → (i : ℕ) → 1 ≤ i → i ≤ own_width one → value_of sums a i ≡ (value_of one a i + value_of two a i) % p
  value-sum a h i l u = x.value a h i l (omega (arith, ap (λ (d : DealWords). d.width) ((sound-unmixed t.sound t.some).own_deal_lem a h)))

  -- blocks with one number in pile one have one in pile two, and in both they agree
  agree_both : (a b : ℕ) → In one a → In one b → number_at one a ≡ number_at one b → (i : ℕ) → 1 ≤ i → i ≤ own_width one
      → (value_of one a i + value_of two a i) % p ≡ (value_of one b i + value_of two b i) % p
  agree_both a b h k q i l u =
      ap₂ (λ (m n : ℕ). (m + n) % p)
      (t.sound.agree a b h k (ap₂ piece_in (x.set_one a h ∙ sym (x.set_one b k)) q) i l u)
      (s.sound.agree a b (in_two a h) (in_two b k)
      (ap₂ piece_in (x.set_two a h ∙ sym (x.set_two b k)) (sym (x.alike a h 7 (omega arith) (omega arith)) ∙ q ∙ x.alike b k 7 (omega arith) (omega arith)))
      i l (omega (arith, width_two)))

  pub sums_join : Joins sums room w
  sums_join = record {
    sound = record {
      whole = omega (arith, x.size);
      few = omega (arith, x.count, t.sound.few);
      blocks_true = record { block = λ a l u. x.is_true a (in_one a (l, u)) };
      one_deal = λ a b h k.
          x.deal a (in_one a h) ∙ ap (under new) (t.sound.one_deal a b (in_one a h) (in_one b k)) ∙ sym (x.deal b (in_one b k));
      one_count = λ a b h k q.
          let at_a = in_one a h in
          let at_b = in_one b k in
          x.pieces a at_a ∙ t.sound.one_count a b at_a at_b (x.set_one a at_a ∙ sym (x.set_one b at_b)) ∙ sym (x.pieces b at_b);
      agree = λ a b h k q i l u.
          let at_a = in_one a h in
          let at_b = in_one b k in
          let e : i ≤ own_width one = omega (arith, width_one) in
          let n : number_at sums a ≡ number_at sums b = omega (arith, q, x.set_sums a at_a, x.set_sums b at_b) in
          value-sum a at_a i l e ∙ agree_both a b at_a at_b (sym (x.number a at_a) ∙ n ∙ x.number b at_b) i l e ∙ sym (value-sum b at_b i l e);
    };
    some = omega (arith, t.some, x.count);
    complete = λ j l u.
        let c = t.complete j l (omega (arith, pieces_one)) in
        (c.0, in_sums c.0 c.1, x.set_sums c.0 c.1 ∙ sym (first-chosen sums sums_first), x.number c.0 c.1 ∙ c.3);
    fits = omega (arith, width_one, t.fits);
    is = width_one ∙ t.is;
  }

  -- value i of piece j
  value-at : (j i : ℕ) → 1 ≤ j → j ≤ own_pieces one → 1 ≤ i → i ≤ own_width one → value_at sums j i ≡ (value_at one j i + value_at two j i) % p
  value-at j i l u m n =
      let c = t.complete j l u in
      let a = taken sums sums_first j c.0 (in_sums c.0 c.1) (x.set_sums c.0 c.1) (x.number c.0 c.1 ∙ c.3) in
      let b = taken one one_first j c.0 c.1 (x.set_one c.0 c.1) c.3 in
      let d = taken two two_first j c.0 (in_two c.0 c.1) (x.set_two c.0 c.1) (sym (x.alike c.0 c.1 7 (omega arith) (omega arith)) ∙ c.3) in
      let k = in_one (own_place sums j) a.0 in
      let q : piece_at one (own_place sums j) ≡ j = omega (arith, x.set_one (own_place sums j) k, x.number (own_place sums j) k, x.set_sums (own_place sums j) k, a.1) in
      let e : piece_at two (own_place sums j) ≡ j = omega (arith, x.set_two (own_place sums j) k, x.alike (own_place sums j) k 7 (omega arith) (omega arith), x.set_one (own_place sums j) k, q) in
      value-sum (own_place sums j) k i m n
      ∙ ap₂ (λ (e f : ℕ). (e + f) % p) (t.sound.agree (own_place sums j) (own_place one j) k b.0 (q ∙ sym b.1) i m n)
      (s.sound.agree (own_place sums j) (own_place two j) (in_two (own_place sums j) k) d.0 (e ∙ sym d.1) i m (omega (arith, width_two)))

  pub secret-sum : secret sums ≡ added (secret one) (secret two)
  secret-sum =
      ap₂ (λ (k w : ℕ). secret_of (value_at sums) k w) pieces_one width_one
      ∙ secret-added (value_at sums) (value_at one) (value_at two) (own_pieces one) (own_width one) value-at
      ∙ ap₂ (λ (k w : ℕ). added (secret one) (secret_of (value_at two) k w)) pieces_two width_two
