-- Every piece that was handed in is that of a block that brought it. Assumes nothing.
use mathlib.Core.Path.{◌≡◌, refl, sym, ap, subst, ◌∙◌}
use mathlib.Core.Bool.{Bool, true, false, cond}
use mathlib.Core.Logic.{⊎_elim}
use mathlib.Core.List.Memᴰ
use mathlib.Core.List.{List, [], ◌∷◌, Memᴰ}
use Prim.Native.Nat.{ℕ}
use lib.Dec.{eqb}
use borrow.Author.Tests.{eqb-true, not-false}
use Rattle.answer.specs.Outcome.{Outcome, done, refused}
use Rattle.lists.proofs.Truth.{decided}
use Rattle.block.specs.Layout.{piece_number}
use Rattle.block.specs.Open.{by_outcome}
use Rattle.desk.specs.declared.Desk.{Desk}
use Rattle.desk.specs.Opens.{words_of}
use Rattle.desk.specs.Slots.{keeps}
use Rattle.desk.specs.Lines.{open_at, hand_at, close_at}
use Rattle.desk.specs.History.{Call, opens, hands, asks, closes, after, Client}
use Rattle.desk.proofs.SaysLaws.{hand_passed, front-piece}
use Rattle.demands.proofs.DeskHistory.{HoldsAt, holds_after}
use Rattle.demands.specs.DeskBlocks.{blocks_after, each, brings, if_new, handed_in, blocks_in}

pub record Covers (bs hs : List (List ℕ)) : Type 0 where
  pub back : (b : List ℕ) → Memᴰ b hs → (x : List ℕ) × Memᴰ x bs × (piece_number x ≡ piece_number b)
  pub into : (b : List ℕ) → Memᴰ b bs → Memᴰ b hs

none : Covers [] []
none = record { back = λ b m. absurd (Memᴰ.not-nil m); into = λ b m. m }

-- a block with a piece that some block has
more : (b : List ℕ) (bs hs : List (List ℕ)) → Covers bs hs → (x : List ℕ) × Memᴰ x bs × (piece_number x ≡ piece_number b) → Covers bs (b ∷ hs)
more b bs hs v r = record {
  back = λ y m. ⊎_elim (λ (q : y ≡ b). (r.0, r.1, r.2 ∙ ap piece_number (sym q))) (λ (n : Memᴰ y hs). v.back y n) (Memᴰ.cases_cons m);
  into = λ y m. Memᴰ.tail (v.into y m);
}

-- a block that brings its piece
both_more : (b : List ℕ) (bs hs : List (List ℕ)) → Covers bs hs → Covers (b ∷ bs) (b ∷ hs)
both_more b bs hs v = record {
  back = λ y m.
      ⊎_elim (λ (q : y ≡ b). (b, Memᴰ.head refl, ap piece_number (sym q)))
      (λ (n : Memᴰ y hs). let r = v.back y n in (r.0, Memᴰ.tail r.1, r.2)) (Memᴰ.cases_cons m);
  into = λ y m. ⊎_elim (λ (q : y ≡ b). Memᴰ.head q) (λ (n : Memᴰ y bs). Memᴰ.tail (v.into y n)) (Memᴰ.cases_cons m);
}

module _ (c : ℕ) (d : Desk) (bs hs : List (List ℕ)) (h : HoldsAt d c bs) (v : Covers bs hs) where
  by_cover : (z : Outcome ℕ) → Covers (by_outcome z [] bs) (by_outcome z [] hs)
  by_cover (done n) = none
  by_cover (refused m a b) = v

  hand_cover : (b : List ℕ) → Covers (by_outcome (hand_at d c b) (cond (brings d c b) (b ∷ bs) bs) bs) (by_outcome (hand_at d c b) (b ∷ hs) hs)
  hand_cover b = go (hand_at d c b) refl (brings d c b) refl
    where
      go : (z : Outcome ℕ) → hand_at d c b ≡ z → (y : Bool) → brings d c b ≡ y → Covers (by_outcome z (cond y (b ∷ bs) bs) bs) (by_outcome z (b ∷ hs) hs)
      go (refused m u w) e y q = v
      go (done n) e true q = both_more b bs hs v
      go (done n) e false q =
          let r = hand_passed d.slots (words_of d c) c b n e in
          let p = front-piece (words_of d c) c b r.front in
          more b bs hs v (h.back (piece_number b) p.0 p.1 (not-false (keeps d.slots c (words_of d c).width (piece_number b)) q))

  whose : (y : ℕ) (p q : ℕ → List (List ℕ)) → Covers (p c) (q c) → Covers (cond (eqb y c) (p y) bs) (cond (eqb y c) (q y) hs)
  whose y p q f =
      ⊎_elim
      (λ (t : eqb y c ≡ true).
      subst (λ (b : Bool). Covers (cond b (p y) bs) (cond b (q y) hs)) (sym t) (subst (λ (z : ℕ). Covers (p z) (q z)) (sym (eqb-true y c t)) f))
      (λ (n : eqb y c ≡ false). subst (λ (b : Bool). Covers (cond b (p y) bs) (cond b (q y) hs)) (sym n) v)
      (decided (eqb y c))

  cover_next : (x : Call) → Covers (blocks_after if_new c d x bs) (blocks_after each c d x hs)
  cover_next (opens y o) = whose y (λ z. by_outcome (open_at d z o) [] bs) (λ z. by_outcome (open_at d z o) [] hs) (by_cover (open_at d c o))
  cover_next (hands y b) = whose y (λ z. by_outcome (hand_at d z b) (cond (brings d z b) (b ∷ bs) bs) bs) (λ z. by_outcome (hand_at d z b) (b ∷ hs) hs) (hand_cover b)
  cover_next (asks y out) = v
  cover_next (closes y) = whose y (λ z. by_outcome (close_at d z) [] bs) (λ z. by_outcome (close_at d z) [] hs) (by_cover (close_at d c))

pub covers : (c : ℕ) (xs : List Call) → Client c → Covers (blocks_in c xs) (handed_in c xs)
unfolding blocks_in handed_in
covers c [] k = none
covers c (x ∷ xs) k = cover_next c (after xs) (blocks_in c xs) (handed_in c xs) (holds_after c xs k) (covers c xs k) x
