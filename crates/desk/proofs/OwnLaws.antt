-- Each client's calls answer as at a desk of its own, by induction over the calls; and the slots that are reserved, from the calls made.
-- Assumes nothing.
use mathlib.Core.Path.{◌≡◌, refl, sym, ap, subst, ◌∙◌}
use mathlib.Core.Bool.{Bool, true, false, cond, not, ◌&&◌}
use mathlib.Core.Logic.{◌≢◌, ⊎_elim}
use mathlib.Core.List.{List, [], ◌∷◌}
use Prim.Native.Nat.{ℕ, ◌+◌, ◌≤◌}
use native.Mathlib.Omega.{arith}
use lib.Dec.{eqb}
use lib.ListN.{replicate, length-replicate}
use lib.Seq.{ext_get_or}
use borrow.Author.Tests.{eqb-true, eqb-false, not-true, not-false}
use Rattle.answer.specs.Outcome.{Outcome, done, refused}
use Rattle.lists.proofs.Truth.{both, decided}
use Rattle.block.specs.Open.{by_outcome}
use Rattle.desk.specs.declared.Opening.{Opening}
use Rattle.desk.specs.declared.Desk.{Desk}
use Rattle.desk.specs.Opens.{no_words, fresh_desk, is_client, other, words_of, accepted, reserved}
use Rattle.desk.specs.Slots.{cleared}
use Rattle.desk.specs.Lines.{with_slots, with_words, open_at, open_desk, hand_at, hand_desk, hand_slots, close_at, close_desk}
use Rattle.desk.specs.History.{Call, opens, hands, asks, closes, client_of, reply, next, after, answer_to, is_full, own, answered, reserved_after, reserved_by, shared, Client, first, second}
use Rattle.desk.proofs.WordLaws.{Stored, client_of_lem, none_closed, ranged, stored_reserved}
use Rattle.desk.proofs.RegionLaws.{In, region_none, is-other, other_client}
use Rattle.desk.proofs.SaysLaws.{open_passed, close_passed}
use Rattle.desk.proofs.SoundLaws.{Sound, sound_fresh, stored_of, zeros, words-set, Touched}
use Rattle.desk.proofs.NextLaws.{by_either, sound-next, touched_next, sound-after}
use Rattle.desk.proofs.AgreeLaws.{Agree, none-keeps, full-keeps, others-kept, frame, alike, agree-next}

-- d is the desk after the calls of both, e the desk of client c's own
pub record Side (c : ℕ) (d e : Desk) : Type 0 where
  pub shared-sound : Sound d
  pub own-sound : Sound e
  pub agree : Agree c d e
  pub alone : words_of e (other c) ≡ no_words

fresh_words : (c : ℕ) → Client c → words_of fresh_desk c ≡ no_words
unfolding fresh_desk
fresh_words c first = refl
fresh_words c second = refl

-- ---- one call
module _ (c : ℕ) (d e : Desk) (k : Client c) (s : Side c d e) (x : Call) where
  own_call : client_of x ≡ c → is_full (reply d x).says ≡ false → Side c (next d x) (next e x)
  own_call q n = record {
    shared-sound = sound-next d x s.shared-sound;
    own-sound = sound-next e x s.own-sound;
    agree = agree-next c d e k s.shared-sound s.own-sound s.agree s.alone x q n;
    alone = (subst (λ (z : ℕ). Touched z e (next e x)) q (touched_next e x s.own-sound)).others ∙ s.alone;
  }

  kept_call : next d x ≡ d → Side c (next d x) e
  kept_call q = subst (λ (z : Desk). Side c z e) (sym q) s

  other_call : client_of x ≢ c → Side c (next d x) e
  other_call n =
      ⊎_elim
      (λ (t : is_client (client_of x) ≡ true).
      let q : client_of x ≡ other c = is-other c (client_of x) k (client_of_lem (client_of x) t) n in
      record {
        shared-sound = sound-next d x s.shared-sound;
        own-sound = s.own-sound;
        agree = frame c d (next d x) e k s.shared-sound (subst (λ (z : ℕ). Touched z d (next d x)) q (touched_next d x s.shared-sound)) s.agree;
        alone = s.alone;
      })
      (λ (f : is_client (client_of x) ≡ false). kept_call (none-keeps d x f))
      (decided (is_client (client_of x)))

  left_out : eqb (client_of x) c && not (is_full (reply d x).says) ≡ false → Side c (next d x) e
  left_out h =
      ⊎_elim
      (λ (t : eqb (client_of x) c ≡ true).
      kept_call (full-keeps d x (not-false (is_full (reply d x).says) (ap (λ (b : Bool). b && not (is_full (reply d x).says)) (sym t) ∙ h))))
      (λ (f : eqb (client_of x) c ≡ false). other_call (eqb-false (client_of x) c f))
      (decided (eqb (client_of x) c))

-- ---- all calls
side_cons : (c : ℕ) (x : Call) (xs : List Call) → Client c → Side c (after xs) (after (own c xs)) → (b : Bool) → (eqb (client_of x) c && not (is_full (answer_to x xs).says)) ≡ b
    → Side c (next (after xs) x) (after (cond b (x ∷ own c xs) (own c xs)))
unfolding after
side_cons c x xs k s true q =
    let r = both (eqb (client_of x) c) (not (is_full (answer_to x xs).says)) q in
    own_call c (after xs) (after (own c xs)) k s x (eqb-true (client_of x) c r.0) (not-true (is_full (answer_to x xs).says) r.1)
side_cons c x xs k s false q = left_out c (after xs) (after (own c xs)) k s x q

pub sides : (c : ℕ) (xs : List Call) → Client c → Side c (after xs) (after (own c xs))
unfolding after own
sides c [] k = record {
  shared-sound = sound_fresh;
  own-sound = sound_fresh;
  agree = record { words = refl; slots = record { same = λ i h. refl } };
  alone = fresh_words (other c) (other_client c k);
}
sides c (x ∷ xs) k = side_cons c x xs k (sides c xs k) (eqb (client_of x) c && not (is_full (answer_to x xs).says)) refl

-- ---- the slots that are reserved, from the calls made
none-reserved : reserved no_words ≡ 0
none-reserved = rw none_closed

good_reserved : (o : Opening) → accepted o ≡ true → reserved o ≡ o.pieces
good_reserved o e = ap (λ (b : Bool). cond b o.pieces 0) e

-- a call of another client keeps a client's words
pub words-others : (c : ℕ) (d : Desk) (x : Call) → Client c → Sound d → client_of x ≢ c → words_of (next d x) c ≡ words_of d c
words-others c d x k s n =
    ⊎_elim
    (λ (t : is_client (client_of x) ≡ true).
    others-kept c d (next d x) k
    (subst (λ (z : ℕ). Touched z d (next d x)) (is-other c (client_of x) k (client_of_lem (client_of x) t) n) (touched_next d x s)))
    (λ (f : is_client (client_of x) ≡ false). ap (λ (z : Desk). words_of z c) (none-keeps d x f))
    (decided (is_client (client_of x)))

-- one of two numbers, by whose call it is
whose : (c y : ℕ) (p q : ℕ → ℕ) (r : ℕ) → (y ≡ c → p y ≡ q y) → (y ≢ c → r ≡ q y) → cond (eqb y c) (p y) r ≡ q y
whose c y p q r f g =
    ⊎_elim (λ (t : eqb y c ≡ true). ap (λ (b : Bool). cond b (p y) r) t ∙ f (eqb-true y c t))
    (λ (n : eqb y c ≡ false). ap (λ (b : Bool). cond b (p y) r) n ∙ g (eqb-false y c n)) (decided (eqb y c))

opened_reserves : (c : ℕ) (d : Desk) (o : Opening) → answered (open_at d c o) (reserved (words_of d c)) ≡ reserved (words_of (open_desk d c o) c)
unfolding open_desk
opened_reserves c d o = go (open_at d c o) refl
  where
    go : (s : Outcome ℕ) → open_at d c o ≡ s → answered s (reserved (words_of d c)) ≡ reserved (words_of (by_outcome s (with_words d c o) d) c)
    go (done v) e =
        let r = open_passed (words_of d c) (reserved (words_of d (other c))) c o v e in
        r.is ∙ sym (ap reserved (words-set d c o r.client) ∙ good_reserved o r.good)
    go (refused m a b) e = refl

closed_reserves : (c : ℕ) (d : Desk) → by_outcome (close_at d c) 0 (reserved (words_of d c)) ≡ reserved (words_of (close_desk d c) c)
unfolding close_desk
closed_reserves c d = go (close_at d c) refl
  where
    go : (s : Outcome ℕ) → close_at d c ≡ s
        → by_outcome s 0 (reserved (words_of d c)) ≡ reserved (words_of (by_outcome s (with_words (with_slots d (cleared d.slots (words_of d c) c)) c no_words) d) c)
    go (done v) e =
        let r = close_passed (words_of d c) c v e in
        sym (ap reserved (words-set (with_slots d (cleared d.slots (words_of d c) c)) c no_words r.client) ∙ none-reserved)
    go (refused m a b) e = refl

reserved-next : (c : ℕ) (d : Desk) (x : Call) → Client c → Sound d → reserved_after c x (reply d x).says (reserved (words_of d c)) ≡ reserved (words_of (next d x) c)
reserved-next c d (opens y o) k s =
    whose c y (λ z. answered (open_at d z o) (reserved (words_of d c))) (λ z. reserved (words_of (open_desk d z o) c)) (reserved (words_of d c))
    (λ e. subst (λ (z : ℕ). answered (open_at d z o) (reserved (words_of d c)) ≡ reserved (words_of (open_desk d z o) c)) (sym e) (opened_reserves c d o))
    (λ n. ap reserved (sym (words-others c d (opens y o) k s n)))
reserved-next c d (hands y b) k s = unfold hand_desk in
    by_either (λ (z : Desk). reserved (words_of d c) ≡ reserved (words_of z c)) (hand_at d y b) (with_slots d (hand_slots d.slots (words_of d y) y b)) d (λ v e. refl) refl
reserved-next c d (asks y out) k s = refl
reserved-next c d (closes y) k s =
    whose c y (λ z. by_outcome (close_at d z) 0 (reserved (words_of d c))) (λ z. reserved (words_of (close_desk d z) c)) (reserved (words_of d c))
    (λ e. subst (λ (z : ℕ). by_outcome (close_at d z) 0 (reserved (words_of d c)) ≡ reserved (words_of (close_desk d z) c)) (sym e) (closed_reserves c d))
    (λ n. ap reserved (sym (words-others c d (closes y) k s n)))

pub reserved-is : (c : ℕ) (xs : List Call) → Client c → reserved_by c xs ≡ reserved (words_of (after xs) c)
unfolding after reserved_by
reserved-is c [] k = sym (ap reserved (fresh_words c k) ∙ none-reserved)
reserved-is c (x ∷ xs) k = ap (reserved_after c x (answer_to x xs).says) (reserved-is c xs k) ∙ reserved-next c (after xs) x k (sound-after xs)

-- ---- the laws
pub own_desk : (c : ℕ) (x : Call) (xs : List Call) → Client c → client_of x ≡ c → answer_to x xs ≡ shared (reserved_by (other c) xs) x (answer_to x (own c xs))
own_desk c x xs k q =
    let s = sides c xs k in
    alike c (after xs) (after (own c xs)) k s.shared-sound s.own-sound s.agree s.alone x q
    ∙ ap (λ (r : ℕ). shared r x (answer_to x (own c xs))) (sym (reserved-is (other c) xs (other_client c k)))

pieces_are : (c : ℕ) (xs : List Call) → Client c → reserved_by c xs ≡ (words_of (after xs) c).pieces
pieces_are c xs k = reserved-is c xs k ∙ stored_reserved (words_of (after xs) c) (stored_of (after xs) (sound-after xs) c k)

pub never_over : (xs : List Call) → reserved_by 1 xs + reserved_by 2 xs ≤ 70
never_over xs = omega (arith, pieces_are 1 xs first, pieces_are 2 xs second, (sound-after xs).fit)

empty_words : (o : Opening) → Stored o → o.pieces ≡ 0 → o ≡ no_words
empty_words o s e = ⊎_elim (λ (t : accepted o ≡ true). absurd (omega (arith, (ranged o t).pieces.0))) (λ (n : o ≡ no_words). n) s

-- antt compares two records by their fields
abbrev made : List ℕ → Opening → Opening → Desk
made slots one two = record { slots = slots; clients = record { one = one; two = two } }

pub nothing_left : (xs : List Call) → reserved_by 1 xs ≡ 0 → reserved_by 2 xs ≡ 0 → after xs ≡ fresh_desk
unfolding fresh_desk
nothing_left xs p q =
    let s = sound-after xs in
    let d = after xs in
    let one : d.clients.one ≡ no_words = empty_words d.clients.one s.one_stored (sym (pieces_are 1 xs first) ∙ p) in
    let two : d.clients.two ≡ no_words = empty_words d.clients.two s.two_stored (sym (pieces_are 2 xs second) ∙ q) in
    let slots : d.slots ≡ replicate 1190 0
    = ext_get_or 0 d.slots (replicate 1190 0) (s.size ∙ sym (length-replicate {A = ℕ} 1190 0))
    (λ i h. s.quiet i (λ n. region_none 1 i (subst (λ (o : Opening). In 1 o.pieces i) one n)) (λ n. region_none 2 i (subst (λ (o : Opening). In 2 o.pieces i) two n)) ∙ sym (zeros 1190 i)) in
    let h : made d.slots d.clients.one d.clients.two ≡ made (replicate 1190 0) no_words no_words = rw (slots, one, two) in
    h
