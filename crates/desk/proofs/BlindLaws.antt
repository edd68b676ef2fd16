-- What one client hands in and asks leaves both clients' words as they are; so the other's answers are the same without it.
-- Assumes nothing.
use mathlib.Core.Path.{◌≡◌, refl, sym, ap, ap₂, ◌∙◌}
use mathlib.Core.Bool.{cond, not, ◌&&◌}
use mathlib.Core.Logic.{◌≢◌}
use mathlib.Core.List.{List, ◌∷◌}
use Prim.Native.Nat.{ℕ}
use lib.Dec.{eqb}
use borrow.Author.Tests.{ne_eqb}
use native.Mathlib.Decide.{ℕ_discrete}
use Rattle.answer.specs.Outcome.{Outcome, done, refused}
use Rattle.answer.proofs.CheckLaws.{never_both}
use Rattle.block.specs.Open.{by_outcome}
use Rattle.desk.specs.declared.Opening.{Opening}
use Rattle.desk.specs.declared.Desk.{Desk}
use Rattle.desk.specs.Opens.{no_words, other, by_client, words_of, reserved}
use Rattle.desk.specs.Slots.{cleared}
use Rattle.desk.specs.Lines.{with_slots, with_words, open_says, open_at, open_desk, hand_slots, hand_at, hand_desk, close_says, close_at, close_desk}
use Rattle.desk.specs.History.{Call, opens, hands, asks, closes, client_of, Reply, next, after, answer_to, is_full, own, reserved_by, shared, Client, Unseen, same, hidden_hands, hidden_asks, AllUnseen, nothing, further}
use Rattle.desk.proofs.RegionLaws.{other_client}
use Rattle.desk.proofs.NextLaws.{by_either}
use Rattle.desk.proofs.OwnLaws.{reserved-is, own_desk}

-- the words of both clients are the same at both desks
pub record Worded (d e : Desk) : Type 0 where
  pub one : d.clients.one ≡ e.clients.one
  pub two : d.clients.two ≡ e.clients.two

module _ {d e : Desk} (h : Worded d e) where
  words_same : (c : ℕ) → words_of d c ≡ words_of e c
  words_same c = ap₂ (λ (x y : Opening). by_client c x y) h.one h.two

  open_same : (c : ℕ) (o : Opening) → open_at d c o ≡ open_at e c o
  open_same c o = ap₂ (λ (x y : Opening). open_says x (reserved y) c o) (words_same c) (words_same (other c))

  close_same : (c : ℕ) → close_at d c ≡ close_at e c
  close_same c = ap (λ (x : Opening). close_says x c) (words_same c)

-- handing in keeps the words
handed_words : (d : Desk) (c : ℕ) (b : List ℕ) → Worded (hand_desk d c b) d
unfolding hand_desk
handed_words d c b =
    by_either (λ (z : Desk). Worded z d) (hand_at d c b) (with_slots d (hand_slots d.slots (words_of d c) c b)) d (λ v q. record { one = refl; two = refl }) (record { one = refl; two = refl })

joined : {d e f g : Desk} → Worded d e → Worded e f → Worded g f → Worded d g
joined p q r = record { one = p.one ∙ q.one ∙ sym r.one; two = p.two ∙ q.two ∙ sym r.two }

-- the same outcome at both: so are the words afterwards
by_worded : (x y : Outcome ℕ) (p q p' q' : Desk) → x ≡ y → Worded p p' → Worded q q' → Worded (by_outcome x p q) (by_outcome y p' q')
by_worded (done v) (done w) p q p' q' e f g = f
by_worded (done v) (refused m a b) p q p' q' e f g = never_both e
by_worded (refused m a b) (done w) p q p' q' e f g = never_both (sym e)
by_worded (refused m a b) (refused m' a' b') p q p' q' e f g = g

put-words : (c : ℕ) (o : Opening) {d e : Desk} → Worded d e → Worded (with_words d c o) (with_words e c o)
put-words c o h = record { one = ap (λ (x : Opening). by_client c o x) h.one; two = ap (λ (x : Opening). by_client c x o) h.two }

next-same : (d e : Desk) (x : Call) → Worded d e → Worded (next d x) (next e x)
unfolding open_desk close_desk
next-same d e (opens c o) h = by_worded (open_at d c o) (open_at e c o) (with_words d c o) d (with_words e c o) e (open_same h c o) (put-words c o h) h
next-same d e (hands c b) h = joined (handed_words d c b) h (handed_words e c b)
next-same d e (asks c out) h = h
next-same d e (closes c) h =
    by_worded (close_at d c) (close_at e c) (with_words (with_slots d (cleared d.slots (words_of d c) c)) c no_words) d (with_words (with_slots e (cleared e.slots (words_of e c) c)) c no_words) e
    (close_same h c) (put-words c no_words (record { one = h.one; two = h.two })) h

next_unseen : (c : ℕ) (d e : Desk) (x y : Call) → Unseen c x y → Worded d e → Worded (next d x) (next e y)
next_unseen c d e x y (same z) h = next-same d e z h
next_unseen c d e x y (hidden_hands b b' n) h = joined (handed_words d _ b) h (handed_words e _ b')
next_unseen c d e x y (hidden_asks out out' n) h = h

after_unseen : (c : ℕ) (xs ys : List Call) → AllUnseen c xs ys → Worded (after xs) (after ys)
unfolding after
after_unseen c xs ys nothing = record { one = refl; two = refl }
after_unseen c xs ys (further {x = x} {y = y} {xs = us} {ys = vs} u r) = next_unseen c (after us) (after vs) x y u (after_unseen c us vs r)

reserved_unseen : (c e : ℕ) (xs ys : List Call) → Client e → AllUnseen c xs ys → reserved_by e xs ≡ reserved_by e ys
reserved_unseen c e xs ys k u = reserved-is e xs k ∙ ap reserved (words_same (after_unseen c xs ys u) e) ∙ sym (reserved-is e ys k)

-- ---- the calls of c's own desk
module _ (c : ℕ) (k : Client c) where
  told_same : (x : Call) (xs ys : List Call) → client_of x ≡ c → AllUnseen c xs ys → own c xs ≡ own c ys → answer_to x xs ≡ answer_to x ys
  told_same x xs ys q u e =
      own_desk c x xs k q
      ∙ ap₂ (λ (r : ℕ) (zs : List Call). shared r x (answer_to x zs)) (reserved_unseen c (other c) xs ys (other_client c k) u) e
      ∙ sym (own_desk c x ys k q)

  -- a call of another client is left out
  others_out : (x : Call) (xs : List Call) → client_of x ≢ c → own c (x ∷ xs) ≡ own c xs
  unfolding own
  others_out x xs n = rw (ne_eqb (client_of x) c n)

  own_same : (x : Call) (xs ys : List Call) → AllUnseen c xs ys → own c xs ≡ own c ys → own c (x ∷ xs) ≡ own c (x ∷ ys)
  own_same x xs ys u e = go (ℕ_discrete (client_of x) c)
    where
      go : Dec (client_of x ≡ c) → own c (x ∷ xs) ≡ own c (x ∷ ys)
      go (yes q) = unfold own in
          ap₂ (λ (r : Reply) (zs : List Call). cond (eqb (client_of x) c && not (is_full r.says)) (x ∷ zs) zs) (told_same x xs ys q u e) e
      go (no n) = others_out x xs n ∙ e ∙ sym (others_out x ys n)

  own_unseen : (xs ys : List Call) → AllUnseen c xs ys → own c xs ≡ own c ys
  own_unseen xs ys nothing = refl
  own_unseen xs ys (further {x = x} {y = y} {xs = us} {ys = vs} (same z) r) = own_same z us vs r (own_unseen us vs r)
  own_unseen xs ys (further {x = x} {y = y} {xs = us} {ys = vs} (hidden_hands b b' n) r) = others_out (hands _ b) us n ∙ own_unseen us vs r ∙ sym (others_out (hands _ b') vs n)
  own_unseen xs ys (further {x = x} {y = y} {xs = us} {ys = vs} (hidden_asks out out' n) r) = others_out (asks _ out) us n ∙ own_unseen us vs r ∙ sym (others_out (asks _ out') vs n)

  pub blind : (x : Call) (xs ys : List Call) → client_of x ≡ c → AllUnseen c xs ys → answer_to x xs ≡ answer_to x ys
  blind x xs ys q u = told_same x xs ys q u (own_unseen xs ys u)
