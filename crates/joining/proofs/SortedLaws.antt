-- What the code reads of a sorted pile: the scheme off the mark of its deal, and off the tables, for a block and for a set, what the first ones say.
-- Assumes nothing.
use mathlib.Core.Path.{◌≡◌, refl, sym, ap, ap₂, ◌∙◌}
use mathlib.Core.Bool.{Bool, true, false, ◌&&◌}
use mathlib.Core.Logic.{◌≢◌}
use mathlib.Core.List.{List, map}
use Prim.Native.Nat.{ℕ, zero, suc, ◌+◌, ◌-◌, ◌*◌, ◌≤◌, ◌<◌}
use native.Mathlib.Nat.{le_refl, pos_of_ne-zero}
use native.Mathlib.Numerals.{add-one}
use native.Mathlib.Omega.{arith}
use lib.ListN.{length, get_or, take, drop, length-drop}
use lib.Seq.{get_or-drop}
use Rattle.std.specs.List.{list_all}
use Rattle.std.proofs.lemmas.List.Folds.{list_all_more}
use Rattle.lists.specs.Places.{found}
use Rattle.lists.specs.Some.{each}
use Rattle.lists.proofs.RunLaws.{run_length}
use Rattle.lists.proofs.FirstLaws.{found_some}
use borrow.Author.Tests.{eq-eqb, ne_eqb}
use Rattle.lists.specs.Run.{run}
use Rattle.block.specs.declared.deal.DealWords.{DealWords}
use Rattle.block.specs.Layout.{piece_in}
use Rattle.pile.specs.Blocks.{In}
use Rattle.joining.specs.Pile.{own_block, own_deal, own_width, in_sets, set_at, pieces_at, piece_at, place_of, place_in, set_place, set_pieces, complete, chosen, own_place}
use Rattle.joining.specs.Inner.{Unmixed, Full, said}
use Rattle.joining.proofs.PileLaws.{ranges, of_set, piece_read, set_read}
use Rattle.joining.proofs.HeapLaws.{own_in}
use Rattle.joining.proofs.TableLaws.{place_at, count_at, place-most}
use Rattle.joining.proofs.ConflictLaws.{set_first, piece_first, set_is, piece_is}
use Rattle.joining.proofs.ChosenLaws.{chosen-most, full-chosen}

-- ---- the scheme is read off the own deal
module _ (p : List ℕ) {d : DealWords} (e : d ≡ own_deal p) where
  pub by_sets : d.mark ≡ 1988 → in_sets p ≡ true
  by_sets m = eq-eqb (own_deal p).mark 1988 (sym (ap (λ (x : DealWords). x.mark) e) ∙ m)

  pub by_deal : d.mark ≢ 1988 → in_sets p ≡ false
  by_deal n = ne_eqb (own_deal p).mark 1988 (λ q. n (ap (λ (x : DealWords). x.mark) e ∙ q))

  pub width_read : d.width ≡ own_width p
  width_read = ap (λ (x : DealWords). x.width) e

  pub pieces_read : d.pieces ≡ (own_deal p).pieces
  pieces_read = ap (λ (x : DealWords). x.pieces) e

  -- its counts are low
  pub counts_low : Unmixed p → (d.people ≤ 16) × (d.width ≤ 16)
  counts_low u =
      let r = ranges u (own_block p) (own_in p u.some) in
      (omega (arith, r.people.1, ap (λ (x : DealWords). x.people) e), omega (arith, r.width.1, width_read))

-- ---- what the tables have for block a: how many pieces the first of its set says there are, and the first with its piece, a block of the pile
module _ (p : List ℕ) (u : Unmixed p) (a : ℕ) (i : In p a) where
  pub count_read : (counts : List ℕ) {s : ℕ} → s ≡ set_at p a → counts ≡ map (said p) (run (set_place p) 0 71) → get_or counts s 0 ≡ pieces_at p (set_first p a)
  count_read counts {s} e t =
      let few = set_read u a i e in
      let first = ap (set_place p) e in
      count_at p counts s (omega (arith, few)) (omega (arith, (set_is p a i).0.from, first)) t ∙ ap (pieces_at p) first

  module _ (table : List ℕ) {r : ℕ} (e : r ≡ piece_at p a) (t : table ≡ run (place_of p) 1 560) where
    pub place_read : get_or table (r - 1) 0 ≡ piece_first p a
    place_read =
        let few = piece_read u a i e in
        place_at p table (r - 1) (piece_at p a) (omega (arith, few.0, few.1)) (omega (arith, e, few.0)) t

    pub place_inside : In p (get_or table (r - 1) 0)
    place_inside =
        let f = (piece_is p a i).0 in
        (omega (arith, f.from, place_read), omega (arith, f.to, place_read))

-- ---- what the table has for the pieces of set s
module _ (p table : List ℕ) (t : table ≡ run (place_of p) 1 560) (s : ℕ) (range : (1 ≤ s) × (s ≤ 70)) where
  pub piece_one : get_or table (8 * (s - 1)) 0 ≡ place_in p s 1
  piece_one = place_at p table (8 * (s - 1)) (piece_in s 1) (omega (arith, range.0, range.1)) (omega arith) t

  pub piece_next : (j : ℕ) → j ≤ 7 → get_or table (8 * (s - 1) + j) 0 ≡ place_in p s (j + 1)
  piece_next j h = place_at p table (8 * (s - 1) + j) (piece_in s (j + 1)) (omega (arith, range.0, range.1)) (omega arith) t

  -- where its first piece is there, it lies in a block of the pile
  pub one_inside : get_or table (8 * (s - 1)) 0 ≢ 0 → In p (place_in p s 1)
  one_inside n = (pos_of_ne-zero (λ z. n (piece_one ∙ z)), place-most p (piece_in s 1))

-- ---- whether they are all there
each_read : (xs : List ℕ) (f : ℕ → Bool) (n : ℕ) → n ≤ length xs → ((j : ℕ) → j < n → found (get_or xs j 0) ≡ f (suc j)) → list_all found (take n xs) ≡ each n f
unfolding each
each_read xs f zero l h = refl
each_read xs f (suc n) l h =
    rw (add-one n) at (list_all_more found xs n 0 (omega arith)) ∙ ap₂ (λ (x y : Bool). x && y) (each_read xs f n (omega arith) (λ j m. h j (omega arith))) (h n (omega arith))

module _ (p table : List ℕ) (t : table ≡ run (place_of p) 1 560) (s : ℕ) (range : (1 ≤ s) × (s ≤ 70)) (some : get_or table (8 * (s - 1)) 0 ≢ 0)
    {k : ℕ} (e : k ≡ pieces_at p (get_or table (8 * (s - 1)) 0)) where
  pub count_is : k ≡ set_pieces p s
  count_is = e ∙ ap (pieces_at p) (piece_one p table t s range)

  module _ (u : Unmixed p) (b : in_sets p ≡ true) where
    pub set_few : k ≤ 8
    set_few = omega (arith, count_is, (of_set u b (place_in p s 1) (one_inside p table t s range some)).few)

    pub all_there : list_all found (take (8 * (s - 1) + k - 8 * (s - 1)) (drop (8 * (s - 1)) table)) ≡ complete p s
    unfolding complete
    all_there =
        let at = 8 * (s - 1) in
        let n : at + k - at ≡ set_pieces p s = omega (arith, count_is) in
        let long : length (drop at table) ≡ 560 - at = length-drop at table ∙ ap (λ (x : ℕ). x - at) (ap length t ∙ run_length (place_of p) 1 560) in
        let one = found_some (λ z. some (piece_one p table t s range ∙ z)) in
        each_read (drop at table) (λ j. found (place_in p s j)) (at + k - at) (omega (arith, long, set_few, range.1))
        (λ j l. ap found (get_or-drop at table j 0 ∙ (rw (add-one j) at (piece_next p table t s range j (omega (arith, set_few))))))
        ∙ ap (λ (m : ℕ). each m (λ j. found (place_in p s j))) n
        ∙ ap (λ (x : Bool). x && each (set_pieces p s) (λ j. found (place_in p s j))) (sym one)

-- ---- of a full pile by sets: the chosen set, and what the table has for its first piece
module _ (p : List ℕ) (f : Full p) (b : in_sets p ≡ true) {s : ℕ} (e : chosen p ≡ s) where
  pub chosen_range : (1 ≤ s) × (s ≤ 70)
  chosen_range = (omega (arith, e, full-chosen f b), omega (arith, e, chosen-most p b))

  module _ (table : List ℕ) (t : table ≡ run (place_of p) 1 560) where
    pub chosen_one : get_or table (8 * (s - 1)) 0 ≡ own_place p 1
    chosen_one = place_at p table (8 * (s - 1)) (piece_in (chosen p) 1) (omega (arith, chosen_range.0, chosen_range.1)) (omega (arith, e)) t

    pub chosen_inside : In p (get_or table (8 * (s - 1)) 0)
    chosen_inside =
        (omega (arith, chosen_one, f.place 1 (le_refl 1) f.pieces_in.0), omega (arith, chosen_one, place-most p (piece_in (chosen p) 1)))
