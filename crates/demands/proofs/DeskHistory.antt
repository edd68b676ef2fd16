-- After any calls a client's slots hold the blocks that it has handed in: by induction over the calls. Assumes nothing.
use mathlib.Core.Path.{◌≡◌, refl, sym, subst}
use mathlib.Core.Bool.{Bool, true, false, cond}
use mathlib.Core.Logic.{◌≢◌, ⊎_elim}
use mathlib.Core.List.{List, [], ◌∷◌}
use Prim.Native.Nat.{ℕ, ◌≤◌}
use native.Mathlib.Omega.{arith}
use lib.Dec.{eqb}
use borrow.Author.Tests.{eqb-true, eqb-false, not-true, not-false}
use Rattle.answer.specs.Outcome.{Outcome, done, refused}
use Rattle.lists.proofs.Truth.{decided}
use Rattle.block.specs.Layout.{piece_number}
use Rattle.block.specs.Open.{by_outcome}
use Rattle.desk.specs.declared.Opening.{Opening}
use Rattle.desk.specs.declared.Desk.{Desk}
use Rattle.desk.specs.Opens.{no_words, fresh_desk, is_client, other, words_of, reserved}
use Rattle.desk.specs.Slots.{keeps, cleared}
use Rattle.desk.specs.Lines.{with_slots, with_words, open_at, open_desk, hand_slots, hand_at, hand_desk, close_at, close_desk}
use Rattle.desk.specs.History.{Call, opens, hands, asks, closes, client_of, next, after, Client, first, second}
use Rattle.desk.proofs.RegionLaws.{In, region_none, apart, is-other, other_client, other_not}
use Rattle.desk.proofs.WordLaws.{client_of_lem, ranged, stored_pieces, stored_width}
use Rattle.desk.proofs.SaysLaws.{open_passed, hand_passed}
use Rattle.desk.proofs.SoundLaws.{Sound, stored_of, quiet_of, words-set, Touched}
use Rattle.desk.proofs.NextLaws.{shut_empty, open_free, emptied, touched_next, sound-after}
use Rattle.desk.proofs.AgreeLaws.{Agree, none-keeps, frame}
use Rattle.demands.specs.DeskBlocks.{brings, if_new, blocks_after, blocks_in}
use Rattle.demands.proofs.DeskHolds.{Holds, same_alike, holds-alike, holds-none, again-alike, holds_new}

abbrev pub HoldsAt : Desk → ℕ → List (List ℕ) → Type 0
HoldsAt d c bs = Holds d.slots (words_of d c) c bs

module _ (c : ℕ) (k : Client c) (d : Desk) (s : Sound d) (bs : List (List ℕ)) (h : HoldsAt d c bs) where
  few : (words_of d c).pieces ≤ 70
  few = stored_pieces (words_of d c) (stored_of d s c k)

  thin : (words_of d c).width ≤ 16
  thin = stored_width (words_of d c) (stored_of d s c k)

  -- ---- a call of another client
  agreed : (e : Desk) → Agree c e d → HoldsAt e c bs
  agreed e a =
      subst (λ (o : Opening). Holds e.slots o c bs) (sym a.words)
      (holds-alike d.slots e.slots (words_of d c) c bs
      (same_alike d.slots e.slots (words_of d c) c k few thin
      (record { same = λ i m. sym (a.slots.same i (subst (λ (o : Opening). In c o.pieces i) (sym a.words) m)) })) h)

  others : (x : Call) → client_of x ≢ c → HoldsAt (next d x) c bs
  others x n =
      ⊎_elim
      (λ (t : is_client (client_of x) ≡ true).
      agreed (next d x)
      (frame c d (next d x) d k s (subst (λ (z : ℕ). Touched z d (next d x)) (is-other c (client_of x) k (client_of_lem (client_of x) t) n) (touched_next d x s))
      (record { words = refl; slots = record { same = λ i m. refl } })))
      (λ (f : is_client (client_of x) ≡ false). subst (λ (z : Desk). HoldsAt z c bs) (sym (none-keeps d x f)) h)
      (decided (is_client (client_of x)))

  -- ---- a call of c
  opened-holds : (o : Opening) → HoldsAt (open_desk d c o) c (by_outcome (open_at d c o) [] bs)
  unfolding open_desk
  opened-holds o = go (open_at d c o) refl
    where
      go : (z : Outcome ℕ) → open_at d c o ≡ z → HoldsAt (by_outcome z (with_words d c o) d) c (by_outcome z [] bs)
      go (refused m a b) e = h
      go (done v) e =
          let r = open_passed (words_of d c) (reserved (words_of d (other c))) c o v e in
          subst (λ (x : Opening). Holds d.slots x c []) (sym (words-set d c o k))
          (holds-none d.slots o c k (ranged o r.good).pieces.1
          (λ i m.
          quiet_of d s c i k (shut_empty d s c k r.shut i)
          (λ n. apart c (other c) o.pieces (words_of d (other c)).pieces i k (other_client c k) (other_not c k) (open_free d s c o v r) m n)))

  handed_holds : (b : List ℕ) → HoldsAt (hand_desk d c b) c (by_outcome (hand_at d c b) (cond (brings d c b) (b ∷ bs) bs) bs)
  unfolding hand_desk
  handed_holds b = go (hand_at d c b) refl (brings d c b) refl
    where
      go : (z : Outcome ℕ) → hand_at d c b ≡ z → (y : Bool) → brings d c b ≡ y
          → HoldsAt (by_outcome z (with_slots d (hand_slots d.slots (words_of d c) c b)) d) c (by_outcome z (cond y (b ∷ bs) bs) bs)
      go (refused m u w) e y q = h
      go (done v) e true q =
          let r = hand_passed d.slots (words_of d c) c b v e in
          holds_new d.slots (words_of d c) c b s.size r.front bs h (not-true (keeps d.slots c (words_of d c).width (piece_number b)) q)
      go (done v) e false q =
          let r = hand_passed d.slots (words_of d c) c b v e in
          holds-alike d.slots (hand_slots d.slots (words_of d c) c b) (words_of d c) c bs
          (again-alike d.slots (words_of d c) c b s.size r.front (not-false (keeps d.slots c (words_of d c).width (piece_number b)) q) r.agrees) h

  closed_holds : HoldsAt (close_desk d c) c (by_outcome (close_at d c) [] bs)
  unfolding close_desk
  closed_holds = go (close_at d c) refl
    where
      go : (z : Outcome ℕ) → close_at d c ≡ z → HoldsAt (by_outcome z (with_words (emptied d s c) c no_words) d) c (by_outcome z [] bs)
      go (refused m a b) e = h
      go (done v) e =
          subst (λ (x : Opening). Holds (cleared d.slots (words_of d c) c) x c []) (sym (words-set (emptied d s c) c no_words k))
          (holds-none (cleared d.slots (words_of d c) c) no_words c k (omega arith) (λ i m. absurd (region_none c i m)))

  -- whichever client it is of
  whose : (y : ℕ) (e : ℕ → Desk) (p : ℕ → List (List ℕ)) → HoldsAt (e c) c (p c) → (y ≢ c → HoldsAt (e y) c bs) → HoldsAt (e y) c (cond (eqb y c) (p y) bs)
  whose y e p f g =
      ⊎_elim
      (λ (t : eqb y c ≡ true).
      subst (λ (b : Bool). HoldsAt (e y) c (cond b (p y) bs)) (sym t) (subst (λ (z : ℕ). HoldsAt (e z) c (p z)) (sym (eqb-true y c t)) f))
      (λ (n : eqb y c ≡ false). subst (λ (b : Bool). HoldsAt (e y) c (cond b (p y) bs)) (sym n) (g (eqb-false y c n)))
      (decided (eqb y c))

  pub holds-next : (x : Call) → HoldsAt (next d x) c (blocks_after if_new c d x bs)
  holds-next (opens y o) = whose y (λ z. open_desk d z o) (λ z. by_outcome (open_at d z o) [] bs) (opened-holds o) (others (opens y o))
  holds-next (hands y b) = whose y (λ z. hand_desk d z b) (λ z. by_outcome (hand_at d z b) (cond (brings d z b) (b ∷ bs) bs) bs) (handed_holds b) (others (hands y b))
  holds-next (asks y out) = h
  holds-next (closes y) = whose y (λ z. close_desk d z) (λ z. by_outcome (close_at d z) [] bs) closed_holds (others (closes y))

fresh_holds : (c : ℕ) → Client c → HoldsAt fresh_desk c []
unfolding fresh_desk
fresh_holds c first = holds-none fresh_desk.slots no_words 1 first (omega arith) (λ i m. absurd (region_none 1 i m))
fresh_holds c second = holds-none fresh_desk.slots no_words 2 second (omega arith) (λ i m. absurd (region_none 2 i m))

pub holds_after : (c : ℕ) (xs : List Call) → Client c → HoldsAt (after xs) c (blocks_in c xs)
unfolding after blocks_in
holds_after c [] k = fresh_holds c k
holds_after c (x ∷ xs) k = holds-next c k (after xs) (sound-after xs) (blocks_in c xs) (holds_after c xs k) x
