-- Blocks of 512 bytes, laid one behind the other over the front of what was lent: a block for each place with a test, place by place.
-- Assumes nothing.
use Prim.Native.Nat.{ℕ, ◌+◌, ◌*◌, ◌≤◌, ◌<◌, zero-le}
use mathlib.Core.Path.{◌≡◌, refl, sym, ap, ◌∙◌}
use mathlib.Core.Bool.{Bool, true, false}
use mathlib.Core.List.{List, [], ◌∷◌, ◌++◌, map, append-nil, append_assoc, map-append}
use native.Mathlib.Omega.{arith}
use lib.ListN.{length, take, drop, length-append, length-drop}
use lib.Seq.{drop-drop, take_at, drop_at, length-take-le}
use Rattle.lists.specs.Flat.{flat}
use Rattle.lists.specs.Over.{over}
use Rattle.lists.specs.Places.{those}
use Rattle.lists.proofs.FlatLaws.{flat_append, flat_map}
use Rattle.lists.proofs.ThoseLaws.{those_miss, those_hit, count_hit, those_more}

-- the next block, written behind those that are laid
lay : (c b old now : List ℕ) (at : ℕ) → length c ≡ at → now ≡ over c old → take at now ++ over b (drop at now) ≡ over (c ++ b) old
unfolding over
lay c b old now at n e =
    rw (
      e,
      take_at c (drop (length c) old) at n,
      drop_at c (drop (length c) old) at n,
      drop-drop (length b) (length c) old,
      length-append c b,
      append_assoc,
    )

write_length : (b now : List ℕ) (at : ℕ) → length b ≡ 512 → at + 512 ≤ length now → length (take at now ++ over b (drop at now)) ≡ length now
unfolding over
write_length b now at m h =
    length-append (take at now) (b ++ drop (length b) (drop at now))
    ∙ omega (arith, length-take-le at now (omega arith), length-append b (drop (length b) (drop at now)), length-drop (length b) (drop at now), length-drop at now)

-- the blocks of the first c places are laid over the front of `old`, and make `now`; `block j` is that of place j
pub record Laid (block : ℕ → List ℕ) (test : ℕ → Bool) (k : ℕ) (old now : List ℕ) (at c : ℕ) : Type 0 where
  pub within : c ≤ k
  pub place : at ≡ 512 * length (those test 1 c)
  pub same : length now ≡ length old
  pub laid : now ≡ over (flat (map block (those test 1 c))) old

pub laid_start : (block : ℕ → List ℕ) (test : ℕ → Bool) (k : ℕ) (old : List ℕ) → Laid block test k old old 0 0
unfolding those flat over
laid_start block test k old = record { within = zero-le; place = refl; same = refl; laid = refl }

module _ {block : ℕ → List ℕ} {test : ℕ → Bool} {k : ℕ} {old now : List ℕ} {at c : ℕ} (w : Laid block test k old now at c) where
  next : 1 + c ≡ c + 1
  next = omega arith

  -- a place without the test
  skipped : test (c + 1) ≡ false → those test 1 (c + 1) ≡ those test 1 c
  skipped e = those_miss test 1 c (ap test next ∙ e)

  pub laid_skip : c < k → test (c + 1) ≡ false → Laid block test k old now at (c + 1)
  laid_skip h e = record { within = omega arith; place = rw (skipped e) w.place; same = w.same; laid = rw (skipped e) w.laid }

  pub laid_end : k ≤ c → now ≡ over (flat (map block (those test 1 k))) old
  laid_end h = let e : c ≡ k = omega (arith, w.within) in rw e at w.laid

  module _ (size : (j : ℕ) → length (block j) ≡ 512) (h : c < k) (e : test (c + 1) ≡ true) (room : 512 * length (those test 1 k) ≤ length old) where
    -- a place with it: its block comes next
    taken : flat (map block (those test 1 (c + 1))) ≡ flat (map block (those test 1 c)) ++ block (c + 1)
    unfolding flat
    taken =
        let held = those test 1 c in
        ap (λ (js : List ℕ). flat (map block js)) (those_hit test 1 c (ap test next ∙ e))
        ∙ ap flat (map-append block held ((1 + c) ∷ []))
        ∙ flat_append (map block held) (block (1 + c) ∷ [])
        ∙ ap (λ (l : List ℕ). flat (map block held) ++ l) (append-nil (block (1 + c)) ∙ ap block next)

    one_more : length (those test 1 c) + 1 ≡ length (those test 1 (c + 1))
    one_more = count_hit test 1 c (length (those test 1 c)) refl (ap test next ∙ e)

    -- there is room for it
    pub room-left : at + 512 ≤ length now
    room-left = omega (arith, w.place, w.same, one_more, those_more test 1 (c + 1) k (omega arith))

    pub laid_take : (now' : List ℕ) → now' ≡ take at now ++ over (block (c + 1)) (drop at now) → Laid block test k old now' (at + 512) (c + 1)
    laid_take now' q =
        let front = flat (map block (those test 1 c)) in
        let n : length front ≡ at = flat_map block size (those test 1 c) ∙ sym w.place in
        record {
          within = omega arith;
          place = omega (arith, w.place, one_more);
          same = ap length q ∙ write_length (block (c + 1)) now at (size (c + 1)) room-left ∙ w.same;
          laid = rw taken (q ∙ lay front (block (c + 1)) old now at n w.laid);
        }
