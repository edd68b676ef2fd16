-- Two desks that agree in what is client c's: a call of c is answered alike at both and keeps them so; a call of the other client keeps
-- them so too. Assumes nothing.
use mathlib.Core.Path.{◌≡◌, refl, sym, ap, ap₂, subst, ◌∙◌}
use mathlib.Core.Bool.{Bool, true, false, not, false≢true}
use mathlib.Core.List.{List, []}
use Prim.Native.Nat.{ℕ, ◌-◌}
use lib.Dec.{ltb}
use lib.ListN.{length, get_or}
use Rattle.answer.specs.Outcome.{Outcome, done, refused}
use Rattle.answer.specs.Checks.{pick}
use Rattle.answer.proofs.CheckLaws.{given}
use Rattle.block.specs.Open.{by_outcome}
use Rattle.desk.specs.declared.Opening.{Opening}
use Rattle.desk.specs.declared.Desk.{Desk}
use Rattle.desk.specs.Opens.{no_words, is_client, other, words_of, reserved}
use Rattle.desk.specs.Lines.{no_client, with_slots, with_words, open_lines, open_says, open_at, open_desk, front_lines, hand_lines, hand_slots, hand_says, hand_at, hand_desk, ask_says, ask_into, close_lines, close_says, close_at, close_desk}
use Rattle.desk.specs.History.{Call, opens, hands, asks, closes, client_of, reply, next, is_full, full, shared, Client, first, second}
use Rattle.desk.proofs.WordLaws.{none_closed, stored_pieces, stored_width}
use Rattle.desk.proofs.RegionLaws.{In, region_none, apart, other_not, other_client}
use Rattle.desk.proofs.SaysLaws.{open_passed, open_full, hand_passed}
use Rattle.desk.proofs.SoundLaws.{Sound, stored_of, fit_of, quiet_of, words-set, Touched}
use Rattle.desk.proofs.SlotLaws.{Same, ask_same, into_same, hand_slots_same, hand_same}
use Rattle.desk.proofs.NextLaws.{desk_keeps, shut_empty, open_free, emptied}

pub record Agree (c : ℕ) (d e : Desk) : Type 0 where
  pub words : words_of d c ≡ words_of e c
  pub slots : Same c (words_of d c).pieces d.slots e.slots

-- ---- a call that is refused for its client, or answered FULL, changes nothing
pub none-keeps : (d : Desk) (x : Call) → is_client (client_of x) ≡ false → next d x ≡ d
unfolding open_says open_lines hand_says hand_lines front_lines close_says close_lines
none-keeps d (opens c o) e = desk_keeps d (opens c o) 26 0 0 (given (no_client c) _ _ (ap not e))
none-keeps d (hands c b) e = desk_keeps d (hands c b) 26 0 0 (given (no_client c) _ _ (ap not e))
none-keeps d (asks c out) e = refl
none-keeps d (closes c) e = desk_keeps d (closes c) 26 0 0 (given (no_client c) _ _ (ap not e))

pub full-keeps : (d : Desk) (x : Call) → is_full (reply d x).says ≡ true → next d x ≡ d
full-keeps d x t = go (reply d x).says refl t
  where
    go : (s : Outcome ℕ) → (reply d x).says ≡ s → is_full s ≡ true → next d x ≡ d
    go (done v) e f = absurd (false≢true f)
    go (refused m a b) e f = desk_keeps d x m a b e

-- ---- a call of the other client
pub others-kept : (c : ℕ) (d e : Desk) → Client c → Touched (other c) d e → words_of e c ≡ words_of d c
others-kept c d e first t = t.others
others-kept c d e second t = t.others

pub frame : (c : ℕ) (d e f : Desk) → Client c → Sound d → Touched (other c) d e → Agree c d f → Agree c e f
frame c d e f k s t a =
    let w = others-kept c d e k t in
    record {
      words = w ∙ a.words;
      slots = record {
        same = λ i h.
            let m = subst (λ (o : Opening). In c o.pieces i) w h in
            t.outside i (λ n. apart c (other c) (words_of d c).pieces (words_of d (other c)).pieces i k (other_client c k) (other_not c k) (fit_of d s c k) m n)
            ∙ a.slots.same i m;
      };
    }

-- ---- an answer that is not FULL is that of a desk of its own
pick-full : (b : Bool) (n : ℕ) → is_full (pick b (refused 28 0 0) (done n)) ≡ false → pick b (refused 28 0 0) (done n) ≡ done n
pick-full true n h = absurd (false≢true (sym h))
pick-full false n h = refl

full_not : (r : ℕ) (x : Outcome ℕ) → is_full (full r x) ≡ false → full r x ≡ x
full_not r (refused m u w) h = refl
full_not r (done n) h = pick-full (ltb (70 - r) n) n h

-- ---- a call of client c
module _ (c : ℕ) (d e : Desk) (k : Client c) (sd : Sound d) (se : Sound e) (a : Agree c d e) (alone : words_of e (other c) ≡ no_words) where
  hands-alike : (b : List ℕ) → hand_at d c b ≡ hand_at e c b
  hands-alike b = hand_same d.slots e.slots (words_of d c) c b sd.size se.size a.slots ∙ ap (λ (o : Opening). hand_says e.slots o c b) a.words

  opens_alone : (o : Opening) → open_says (words_of d c) 0 c o ≡ open_at e c o
  opens_alone o =
      let z : reserved (words_of e (other c)) ≡ 0 = ap reserved alone ∙ none-reserved in
      ap₂ (λ (x : Opening) (r : ℕ). open_says x r c o) a.words (sym z)
    where
      none-reserved : reserved no_words ≡ 0
      none-reserved = rw none_closed

  -- an answer, by that of a desk of its own
  pub alike : (x : Call) → client_of x ≡ c → reply d x ≡ shared (reserved (words_of d (other c))) x (reply e x)
  alike (opens y o) q = subst (λ (z : ℕ). reply d (opens z o) ≡ shared (reserved (words_of d (other c))) (opens z o) (reply e (opens z o))) (sym q)
      (ap (λ (s : Outcome ℕ). record { says = s; lent = [] })
      (open_full (words_of d c) (reserved (words_of d (other c))) c o ∙ ap (full (reserved (words_of d (other c)))) (opens_alone o)))
  alike (hands y b) q = subst (λ (z : ℕ). reply d (hands z b) ≡ reply e (hands z b)) (sym q) (ap (λ (s : Outcome ℕ). record { says = s; lent = [] }) (hands-alike b))
  alike (asks y out) q = subst (λ (z : ℕ). reply d (asks z out) ≡ reply e (asks z out)) (sym q)
      (let st = stored_of d sd c k in
      let few = stored_pieces (words_of d c) st in
      let thin = stored_width (words_of d c) st in
      ap₂ (λ (s : Outcome ℕ) (l : List ℕ). record { says = s; lent = l })
      (ask_same d.slots e.slots (words_of d c) c k few thin a.slots (length out) ∙ ap (λ (o : Opening). ask_says e.slots o c (length out)) a.words)
      (into_same d.slots e.slots (words_of d c) c k few thin a.slots out ∙ ap (λ (o : Opening). ask_into e.slots o c out) a.words))
  alike (closes y) q = subst (λ (z : ℕ). reply d (closes z) ≡ reply e (closes z)) (sym q)
      (ap (λ (o : Opening). record { says = close_says o c; lent = [] }) a.words)

  -- a new client's slots are all 0
  open_zero : (f : Desk) → Sound f → (o : Opening) (v i : ℕ) → open_at f c o ≡ done v → In c o.pieces i → get_or f.slots i 0 ≡ 0
  open_zero f sf o v i q h =
      let r = open_passed (words_of f c) (reserved (words_of f (other c))) c o v q in
      quiet_of f sf c i k (shut_empty f sf c k r.shut i)
      (λ n. apart c (other c) o.pieces (words_of f (other c)).pieces i k (other_client c k) (other_not c k) (open_free f sf c o v r) h n)

  agree-opened : (o : Opening) (v : ℕ) → open_at d c o ≡ done v → open_at e c o ≡ done v → Agree c (with_words d c o) (with_words e c o)
  agree-opened o v p q = record {
    words = words-set d c o k ∙ sym (words-set e c o k);
    slots = record {
      same = λ i h.
          let m = subst (λ (x : Opening). In c x.pieces i) (words-set d c o k) h in
          open_zero d sd o v i p m ∙ sym (open_zero e se o v i q m);
    };
  }

  agree_handed : (b : List ℕ) (v : ℕ) → hand_at d c b ≡ done v
      → Agree c (with_slots d (hand_slots d.slots (words_of d c) c b)) (with_slots e (hand_slots e.slots (words_of e c) c b))
  agree_handed b v p = record {
    words = a.words;
    slots = subst (λ (o : Opening). Same c (words_of d c).pieces (hand_slots d.slots (words_of d c) c b) (hand_slots e.slots o c b)) a.words
        (hand_slots_same d.slots e.slots (words_of d c) c b sd.size se.size a.slots (hand_passed d.slots (words_of d c) c b v p).front);
  }

  agree_closed : Agree c (with_words (emptied d sd c) c no_words) (with_words (emptied e se c) c no_words)
  agree_closed = record {
    words = words-set (emptied d sd c) c no_words k ∙ sym (words-set (emptied e se c) c no_words k);
    slots = record { same = λ i h. absurd (region_none c i (subst (λ (x : Opening). In c x.pieces i) (words-set (emptied d sd c) c no_words k) h)) };
  }

  by_both : (x y : Outcome ℕ) (p q p' q' : Desk) → x ≡ y → ((v : ℕ) → x ≡ done v → y ≡ done v → Agree c p p') → Agree c q q' → Agree c (by_outcome x p q) (by_outcome y p' q')
  by_both (done v) y p q p' q' h f g = subst (λ (z : Outcome ℕ). Agree c p (by_outcome z p' q')) h (f v refl (sym h))
  by_both (refused m u w) y p q p' q' h f g = subst (λ (z : Outcome ℕ). Agree c q (by_outcome z p' q')) h g

  agree-opens : (o : Opening) → is_full (open_at d c o) ≡ false → open_at d c o ≡ open_at e c o
  agree-opens o n =
      let r = reserved (words_of d (other c)) in
      let f = open_full (words_of d c) r c o in
      f ∙ full_not r (open_says (words_of d c) 0 c o) (ap is_full (sym f) ∙ n) ∙ opens_alone o

  pub agree-next : (x : Call) → client_of x ≡ c → is_full (reply d x).says ≡ false → Agree c (next d x) (next e x)
  agree-next (opens y o) q n = subst (λ (z : ℕ). is_full (open_at d z o) ≡ false → Agree c (open_desk d z o) (open_desk e z o)) (sym q)
      (λ m. unfold open_desk in by_both (open_at d c o) (open_at e c o) (with_words d c o) d (with_words e c o) e (agree-opens o m) (agree-opened o) a) n
  agree-next (hands y b) q n = subst (λ (z : ℕ). Agree c (hand_desk d z b) (hand_desk e z b)) (sym q)
      (unfold hand_desk in by_both (hand_at d c b) (hand_at e c b) (with_slots d (hand_slots d.slots (words_of d c) c b)) d (with_slots e (hand_slots e.slots (words_of e c) c b)) e
      (hands-alike b) (λ v p r. agree_handed b v p) a)
  agree-next (asks y out) q n = a
  agree-next (closes y) q n = subst (λ (z : ℕ). Agree c (close_desk d z) (close_desk e z)) (sym q)
      (unfold close_desk in by_both (close_at d c) (close_at e c) (with_words (emptied d sd c) c no_words) d (with_words (emptied e se c) c no_words) e
      (ap (λ (o : Opening). close_says o c) a.words) (λ v p r. agree_closed) a)
