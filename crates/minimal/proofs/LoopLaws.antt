-- The loops of this room, turn by turn: the test of one group, and the list of the groups that have it.
-- Assumes nothing.
use mathlib.Core.Path.{◌≡◌, refl, sym, ap, ◌∙◌}
use mathlib.Core.Bool.{Bool, true, false, not, ◌&&◌, ◌||◌}
use mathlib.Core.List.{List, [], ◌∷◌, ◌++◌, append_assoc}
use Prim.Native.Nat.{ℕ, suc, ◌+◌, ◌-◌, ◌≤◌, ◌<◌}
use native.Mathlib.Numerals.{add-one}
use native.Mathlib.Omega.{arith}
use lib.Dec.{eqb}
use lib.ListN.{length, get_or, drop, set, replicate}
use lib.Seq.{drop-cons, set_at}
use borrow.Author.Tests.{eq-eqb, ne_eqb}
use Rattle.std.proofs.Math.ListN.{drop_of_length-le}
use Rattle.lists.specs.Places.{those}
use Rattle.lists.specs.Some.{some}
use Rattle.lists.proofs.ThoseLaws.{those_hit, those_miss, count_hit, count_miss, those_more}
use Rattle.lists.proofs.Truth.{and_none, never}
use Rattle.planning.specs.Sets.{inside}
use Rattle.planning.proofs.SetLaws.{inside_refl}
use Rattle.minimal.specs.Minimal.{within, least}

-- ---- the test: g was listed or is ahead, and nothing ahead lies within it
abbrev ahead : Bool → ℕ → List ℕ → Bool
ahead listed g l = (listed || some (eqb g) l) && not (some (within g) l)

pub record Seeking (required : List ℕ) (g : ℕ) (listed : Bool) (i : ℕ) : Type 0 where
  pub same : least required g ≡ ahead listed g (drop i required)

pub seek_start : (required : List ℕ) (g : ℕ) → Seeking required g false 0
unfolding least
seek_start required g = record { same = refl }

listed_now : (a b : Bool) → (a || (true || b)) ≡ (true || b)
listed_now true b = refl
listed_now false b = refl

listed_end : (a : Bool) → ((a || false) && true) ≡ a
listed_end true = refl
listed_end false = refl

module _ {required : List ℕ} {g i : ℕ} {listed : Bool} (h : Seeking required g listed i) where
  module _ (p : i < length required) where
    -- the next set is g
    pub seek_own : get_or required i 0 ≡ g → Seeking required g true (i + 1)
    unfolding some within
    seek_own e = record {
      same =
          h.same
          ∙ rw (drop-cons required i 0 p, e, eq-eqb g g refl, add-one i)
          (ap (λ (b : Bool). b && not (some (within g) (drop (suc i) required))) (listed_now listed (some (eqb g) (drop (suc i) required))));
    }

    -- it is not inside g, and so another
    pub seek_next : inside (get_or required i 0) g ≡ false → Seeking required g listed (i + 1)
    unfolding some within
    seek_next e =
        let n : get_or required i 0 ≡ g → ⊥ = λ q. never e (ap (λ (r : ℕ). inside r g) q ∙ inside_refl g) in
        record {
          same = h.same ∙ rw (drop-cons required i 0 p, ne_eqb g (get_or required i 0) (λ q. n (sym q)), ne_eqb (get_or required i 0) g n, e, add-one i);
        }

    -- it is another, and inside g
    pub seek_within : (get_or required i 0 ≡ g → ⊥) → inside (get_or required i 0) g ≡ true → false ≡ least required g
    unfolding some within
    seek_within n e =
        sym (h.same ∙ rw (drop-cons required i 0 p, ne_eqb (get_or required i 0) g n, e)
        (and_none (listed || (eqb g (get_or required i 0) || some (eqb g) (drop (suc i) required)))))

  pub seek_end : length required ≤ i → listed ≡ least required g
  unfolding some
  seek_end p = sym (h.same ∙ rw (drop_of_length-le required p) (listed_end listed))

-- ---- the list: the groups below g with the test fill the front of an array of zeros
pub record Filling (test : ℕ → Bool) (g count : ℕ) (sets : List ℕ) : Type 0 where
  pub count-is : count ≡ length (those test 0 g)
  pub filled : sets ≡ those test 0 g ++ replicate (70 - count) 0

pub fill_start : (test : ℕ → Bool) → Filling test 0 0 (replicate 70 0)
unfolding those
fill_start test = record { count-is = refl; filled = refl }

-- one set more
put : (l : List ℕ) (count g : ℕ) → count ≡ length l → count < 70
    → set (l ++ replicate (70 - count) 0) count g ≡ (l ++ g ∷ []) ++ replicate (70 - (count + 1)) 0
put l count g e n =
    let less : 70 - count ≡ suc (70 - (count + 1)) = omega arith in
    rw less (set_at l 0 (replicate (70 - (count + 1)) 0) g count (sym e) ∙ sym (append_assoc l (g ∷ []) (replicate (70 - (count + 1)) 0)))

module _ {test : ℕ → Bool} {g count : ℕ} {sets : List ℕ} (h : Filling test g count sets) where
  here : {b : Bool} → test g ≡ b → test (0 + g) ≡ b
  here e = let z : 0 + g ≡ g = omega arith in ap test z ∙ e

  pub fill_miss : test g ≡ false → Filling test (g + 1) count sets
  fill_miss e = record {
    count-is = count_miss test 0 g count h.count-is (here e);
    filled = rw (those_miss test 0 g (here e)) h.filled;
  }

  -- a set is still to come: the array has room for it
  pub fill_room : (size : ℕ) → g < size → test g ≡ true → length (those test 0 size) ≤ 70 → count < 70
  fill_room size p e few = omega (arith, count_hit test 0 g count h.count-is (here e), those_more test 0 (g + 1) size (omega arith))

  pub fill_hit : test g ≡ true → count < 70 → Filling test (g + 1) (count + 1) (set sets count g)
  fill_hit e n =
      let z : 0 + g ≡ g = omega arith in
      record {
        count-is = count_hit test 0 g count h.count-is (here e);
        filled = rw (h.filled, those_hit test 0 g (here e), z) (put (those test 0 g) count g h.count-is n);
      }
