-- The loop that writes a block, turn by turn, and a block written into a part of what was lent.
-- Assumes nothing.
use mathlib.Core.Path.{◌≡◌, refl, sym, ap, ap₂, ◌∙◌}
use mathlib.Core.List.{List, [], ◌∷◌, ◌++◌, append-nil}
use Prim.Native.Nat.{ℕ, suc, ◌+◌, ◌-◌, ◌*◌, ◌%◌, ◌≤◌}
use native.Mathlib.Nat.{le_of_eq}
use native.Mathlib.Omega.{arith}
use lib.ListN.{length, get_or, take, drop, drop_of_length-le, length-drop}
use lib.Seq.{take-suc, take_all, length-take-le}
use Rattle.lists.specs.Over.{over}
use Rattle.block.specs.declared.Label.{Label}
use Rattle.block.specs.Words.{word_at, put_at, bytes_of, weighted, check_of}
use Rattle.block.specs.Layout.{held_at}
use Rattle.block.specs.Written.{body, block_bytes}
use Rattle.block.proofs.BodyLaws.{body_at, length-body, length-block}
use Rattle.block.proofs.WordLaws.{bytes-append, bytes_word_alone, put_next}
use Rattle.block.proofs.SumLaws.{weighted_step}

-- words 1 to i - 1 stand, as bytes, before the rest of what was lent, and are in the sum
pub record Writing (l : Label) (vs old out : List ℕ) (sum i : ℕ) : Type 0 where
  pub from : 1 ≤ i
  pub to : i ≤ 256
  pub same : length out ≡ length old
  pub stands : out ≡ bytes_of (take (i - 1) (body l vs)) ++ drop (2 * (i - 1)) old
  pub so_far : sum ≡ weighted (word_at (bytes_of (body l vs))) (i - 1)
  pub low : sum ≤ (i - 1) * 8350740

pub write_start : (l : Label) (vs old : List ℕ) → Writing l vs old old 0 1
unfolding bytes_of weighted
write_start l vs old = record { from = omega arith; to = omega arith; same = refl; stands = refl; so_far = refl; low = omega arith }

module _ (l : Label) (vs old out : List ℕ) (sum i : ℕ) (room : 512 ≤ length old) (s : Writing l vs old out sum i) where
  -- word i is written and enters the sum
  put_step : i ≤ 255 → put_at out i (get_or (body l vs) (i - 1) 0) ≡ bytes_of (take (i + 1 - 1) (body l vs)) ++ drop (2 * (i + 1 - 1)) old
  put_step m =
      let ws = body l vs in
      let long : length ws ≡ 255 = length-body l vs in
      let n : length (take (i - 1) ws) + 1 ≡ i =
      let q : length (take (i - 1) ws) ≡ i - 1 = length-take-le (i - 1) ws (omega arith) in omega arith in
      let e : i ≡ suc (i - 1) = omega arith in
      let k : i + 1 - 1 ≡ i = omega arith in
      let t : take i ws ≡ take (i - 1) ws ++ get_or ws (i - 1) 0 ∷ [] = ap (λ (j : ℕ). take j ws) e ∙ take-suc ws (i - 1) 0 (omega arith) in
      rw (s.stands, k, t) (put_next (take (i - 1) ws) old i (get_or ws (i - 1) 0) n (omega arith))

  pub write_on : i ≤ 255 → (v : ℕ) → v ≡ held_at l vs i → (new : List ℕ) → length new ≡ length out → new ≡ put_at out i v
      → (next : ℕ) → next ≡ sum + i * v → next ≤ i * 8350740 → Writing l vs old new next (i + 1)
  write_on m v held new same put next e low =
      let is : v ≡ get_or (body l vs) (i - 1) 0 = held ∙ sym (body_at l vs i s.from m) in
      let read : word_at (bytes_of (body l vs)) i ≡ v = bytes_word_alone (body l vs) i s.from (omega (arith, length-body l vs)) ∙ sym is in
      record {
        from = omega arith;
        to = omega arith;
        same = same ∙ s.same;
        stands = put ∙ ap (put_at out i) is ∙ put_step m;
        so_far = e ∙ ap₂ (λ (x y : ℕ). x + i * y) s.so_far (sym read) ∙ sym (weighted_step (word_at (bytes_of (body l vs))) i s.from);
        low = omega arith;
      }

  -- past the loop the check is word 256
  pub write_end : i ≡ 256 → put_at out 256 (sum % 32749) ≡ over (block_bytes l vs) old
  unfolding check_of block_bytes over
  write_end q =
      let ws = body l vs in
      let long : length ws ≡ 255 = length-body l vs in
      let stands : out ≡ bytes_of ws ++ drop 510 old =
      s.stands ∙ ap (λ (k : ℕ). bytes_of (take (k - 1) ws) ++ drop (2 * (k - 1)) old) q
      ∙ ap (λ (l : List ℕ). bytes_of l ++ drop 510 old) (take_all 255 ws (omega arith)) in
      let check : sum % 32749 ≡ check_of (bytes_of ws) = ap (λ (n : ℕ). n % 32749) (s.so_far ∙ ap (λ (k : ℕ). weighted (word_at (bytes_of ws)) (k - 1)) q) in
      rw (stands, check)
      (put_next ws old 256 (check_of (bytes_of ws)) (omega arith) room
      ∙ ap₂ (λ (l : List ℕ) (n : ℕ). l ++ drop n old) (bytes-append ws (check_of (bytes_of ws) ∷ [])) (sym (length-block l vs)))

-- ---- the part from a byte on, lent to a call, has come back written over: the whole
pub part_written : (old part new : List ℕ) (at : ℕ) → part ≡ over new (take (length old - at) (drop at old))
    → take at old ++ (part ++ drop (length old - at) (drop at old)) ≡ take at old ++ over new (drop at old)
part_written old part new at e =
    let whole : take (length old - at) (drop at old) ≡ drop at old = take_all (length old - at) (drop at old) (le_of_eq (length-drop at old)) in
    let none : drop (length old - at) (drop at old) ≡ [] = drop_of_length-le (drop at old) (le_of_eq (length-drop at old)) in
    rw (none, append-nil part, e, whole)
