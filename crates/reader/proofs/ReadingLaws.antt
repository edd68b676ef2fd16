-- Reading on from a place: what each answer says of it, and the lines of the blocks still to speak.
-- Assumes nothing.
use mathlib.Core.Path.{◌≡◌, sym, ap, ◌∙◌}
use mathlib.Core.Bool.{not}
use mathlib.Core.List.{List, [], ◌∷◌}
use Prim.Native.Nat.{ℕ, suc, ◌+◌, ◌-◌, ◌*◌, ◌%◌, ◌≤◌, ◌<◌}
use native.Mathlib.Decide.{dec_le}
use native.Mathlib.Omega.{arith}
use lib.ListN.{length}
use borrow.Author.Tests.{eq-eqb, ne_eqb}
use Rattle.answer.specs.Outcome.{Outcome, done, refused}
use Rattle.answer.specs.Checks.{first_fail}
use Rattle.answer.proofs.CheckLaws.{given, not_given, append-lines, done-passed, passed-done, same_refusal}
use Rattle.block.specs.Layout.{front_words}
use Rattle.block.specs.Open.{block_lines}
use Rattle.pile.specs.Blocks.{blocks, rest_from}
use Rattle.pile.specs.Lines.{torn_pile, lines_from, every_block}
use Rattle.reader.specs.Seeing.{told, ended, opening_at, seeing, after, reading}
use Rattle.reader.proofs.SeeingLaws.{seeing-block, seeing-torn, seeing-ended, after_block, after_stays}

-- ---- what an answer says of the place
pub not_ended : {B : Type 0} {o : Outcome (List ℕ)} → told o ≡ ended → B
not_ended e = let z : ◌≡◌ {A = ℕ} 0 1 = cc in let w : ⊥ = omega arith in absurd w

not_torn : {B : Type 0} {ws : List ℕ} {m a b : ℕ} → told (done ws) ≡ told (refused m a b) → B
not_torn e = let z : ◌≡◌ {A = ℕ} 0 1 = cc in let w : ⊥ = omega arith in absurd w

same-places : {m a b k c d : ℕ} → told (refused m a b) ≡ told (refused k c d) → ◌≡◌ {A = Outcome ℕ} (refused m a b) (refused k c d)
same-places {m} {a} {b} {k} {c} {d} e = let x : m ≡ k = cc in let y : a ≡ c = cc in let z : b ≡ d = cc in rw (x, y, z)

-- words 1 to 7: a block is left, and it passes
pub head_at : (pile : List ℕ) (n : ℕ) {ws : List ℕ} → told (done ws) ≡ seeing pile n → (n < blocks pile) × (opening_at pile (n + 1) ≡ done ws)
head_at pile n {ws} e = go (dec_le (n + 1) (blocks pile)) (dec_le (length pile) (512 * n))
  where
    go : Dec (n + 1 ≤ blocks pile) → Dec (length pile ≤ 512 * n) → (n < blocks pile) × (opening_at pile (n + 1) ≡ done ws)
    go (yes h) d = let f : told (done ws) ≡ told (opening_at pile (n + 1)) = e ∙ seeing-block pile n (omega arith) in (omega arith, cc)
    go (no f) (yes g) = not_ended (e ∙ seeing-ended pile n g)
    go (no f) (no g) = not_torn (e ∙ seeing-torn pile n (omega arith) (omega arith))

-- ---- the lines still to speak after n blocks
pub record Ahead (pile : List ℕ) (n : ℕ) : Type 0 where
  pub within : n ≤ blocks pile
  pub lines : reading pile ≡ first_fail {A = ℕ} (lines_from pile (n + 1) (blocks pile - n)) (first_fail (torn_pile pile ∷ []) (done (blocks pile)))

pub ahead_start : (pile : List ℕ) → Ahead pile 0
unfolding reading every_block
ahead_start pile =
    let e : blocks pile ≡ blocks pile - 0 = omega arith in
    let end = first_fail {A = ℕ} (torn_pile pile ∷ []) (done (blocks pile)) in
    record {
      within = omega arith;
      lines = append-lines (lines_from pile 1 (blocks pile)) (torn_pile pile ∷ []) (done (blocks pile)) ∙ ap (λ (m : ℕ). first_fail (lines_from pile 1 m) end) e;
    }

-- with a block left, its lines come first
turn : (pile : List ℕ) (n : ℕ) (end : Outcome ℕ) → n < blocks pile
    → first_fail (lines_from pile (n + 1) (blocks pile - n)) end
    ≡ first_fail (block_lines (rest_from pile (n + 1)) (n + 1)) (first_fail (lines_from pile (n + 1 + 1) (blocks pile - (n + 1))) end)
unfolding lines_from
turn pile n end h =
    let e : blocks pile - n ≡ suc (blocks pile - (n + 1)) = omega arith in
    ap (λ (m : ℕ). first_fail (lines_from pile (n + 1) m) end) e
    ∙ append-lines (block_lines (rest_from pile (n + 1)) (n + 1)) (lines_from pile (n + 1 + 1) (blocks pile - (n + 1))) end

pub ahead_on : (pile : List ℕ) (n : ℕ) {ws : List ℕ} → Ahead pile n → told (done ws) ≡ seeing pile n → Ahead pile (after pile n)
unfolding opening_at
ahead_on pile n {ws} t e =
    let h = head_at pile n e in
    let b = rest_from pile (n + 1) in
    let p = (done-passed (block_lines b (n + 1)) (done (front_words b)) ws h.1).0 in
    rw (after_block pile n h.0) (record {
      within = omega (arith, h.0);
      lines = t.lines ∙ turn pile n _ h.0 ∙ passed-done (block_lines b (n + 1)) _ p;
    })

-- a place after a head is nearer to the end
pub ahead_less : (pile : List ℕ) (n : ℕ) {ws : List ℕ} → told (done ws) ≡ seeing pile n → blocks pile - after pile n < blocks pile - n
ahead_less pile n e = let h = (head_at pile n e).0 in rw (after_block pile n h) (omega (arith, h))

-- past the last block: the line of TORN is left
last : (pile : List ℕ) (n : ℕ) → Ahead pile n → blocks pile ≤ n → reading pile ≡ first_fail {A = ℕ} (torn_pile pile ∷ []) (done (blocks pile))
unfolding lines_from first_fail
last pile n t h =
    let z : blocks pile - n ≡ 0 = omega arith in
    t.lines ∙ ap (λ (m : ℕ). first_fail {A = ℕ} (lines_from pile (n + 1) m) (first_fail (torn_pile pile ∷ []) (done (blocks pile)))) z

torn_last : (pile : List ℕ) (n : ℕ) → Ahead pile n → blocks pile ≤ n → 512 * n < length pile → reading pile ≡ refused 13 0 0
unfolding blocks
torn_last pile n t h k =
    last pile n t h ∙ given (torn_pile pile) [] (done (blocks pile)) (ap not (ne_eqb (length pile % 512) 0 (λ z. omega (arith, t.within))))

even_last : (pile : List ℕ) (n : ℕ) → Ahead pile n → length pile ≤ 512 * n → reading pile ≡ done n
unfolding blocks first_fail
even_last pile n t k =
    let z : length pile % 512 ≡ 0 = omega (arith, t.within) in
    let e : blocks pile ≡ n = omega (arith, t.within) in
    last pile n t (omega (arith, e)) ∙ not_given (torn_pile pile) [] (done (blocks pile)) (ap not (eq-eqb (length pile % 512) 0 z)) ∙ ap done e

-- a refusal at a place is that of the pile
pub refused-at : (pile : List ℕ) (n m a b : ℕ) → Ahead pile n → told (refused m a b) ≡ seeing pile n → refused m a b ≡ reading pile
unfolding opening_at
refused-at pile n m a b t e = go (dec_le (n + 1) (blocks pile)) (dec_le (length pile) (512 * n))
  where
    go : Dec (n + 1 ≤ blocks pile) → Dec (length pile ≤ 512 * n) → refused m a b ≡ reading pile
    go (yes h) d =
        let r = rest_from pile (n + 1) in
        let f : told (refused m a b) ≡ told (opening_at pile (n + 1)) = e ∙ seeing-block pile n (omega arith) in
        let g : first_fail (block_lines r (n + 1)) (done (front_words r)) ≡ refused m a b = cc in
        sym (t.lines ∙ turn pile n _ (omega arith) ∙ same_refusal (block_lines r (n + 1)) (front_words r) _ m a b g)
    go (no f) (yes g) = not_ended (e ∙ seeing-ended pile n g)
    go (no f) (no g) =
        let x : told (refused m a b) ≡ told (refused 13 0 0) = e ∙ seeing-torn pile n (omega arith) (omega arith) in
        let y : ◌≡◌ {A = Outcome ℕ} (refused m a b) (refused 13 0 0) = same-places x in
        y ∙ sym (torn_last pile n t (omega arith) (omega arith))

-- at the end all blocks were passed
pub ended_at : (pile : List ℕ) (n : ℕ) → Ahead pile n → ended ≡ seeing pile n → done n ≡ reading pile
ended_at pile n t e = go (dec_le (n + 1) (blocks pile)) (dec_le (length pile) (512 * n))
  where
    go : Dec (n + 1 ≤ blocks pile) → Dec (length pile ≤ 512 * n) → done n ≡ reading pile
    go (yes h) d = not_ended (sym (e ∙ seeing-block pile n (omega arith)))
    go (no f) (yes g) = sym (even_last pile n t g)
    go (no f) (no g) = not_ended (sym (e ∙ seeing-torn pile n (omega arith) (omega arith)))

-- and the reader does not move
pub ended_stays : (pile : List ℕ) (n : ℕ) → ended ≡ seeing pile n → after pile n ≡ n
ended_stays pile n e = go (dec_le (n + 1) (blocks pile))
  where
    go : Dec (n + 1 ≤ blocks pile) → after pile n ≡ n
    go (yes h) = not_ended (sym (e ∙ seeing-block pile n (omega arith)))
    go (no f) = after_stays pile n (omega arith)
