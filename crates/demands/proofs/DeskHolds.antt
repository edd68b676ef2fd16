-- What a client's slots hold, by the blocks that it has handed in. Assumes nothing.
use mathlib.Core.Path.{◌≡◌, refl, sym, ap, ◌∙◌}
use mathlib.Core.Bool.{true, false, false≢true}
use mathlib.Core.Logic.{◌≢◌, ⊎_elim}
use mathlib.Core.List.Memᴰ
use mathlib.Core.List.{List, [], ◌∷◌, Memᴰ}
use Prim.Native.Nat.{ℕ, ◌+◌, ◌≤◌}
use native.Mathlib.Nat.{add-zero}
use native.Mathlib.Omega.{arith}
use native.Mathlib.Decide.{ℕ_discrete}
use lib.ListN.{length, get_or}
use Rattle.lists.proofs.ThoseLaws.{those-same, those-none, count_more}
use Rattle.block.specs.Words.{word_at}
use Rattle.block.specs.Layout.{piece_number}
use Rattle.desk.specs.declared.Opening.{Opening}
use Rattle.desk.specs.Slots.{start, in_slot, keeps, distinct}
use Rattle.desk.specs.Lines.{other_values, hand_slots}
use Rattle.desk.specs.History.{Client}
use Rattle.desk.proofs.RegionLaws.{In, slot_in}
use Rattle.desk.proofs.WordLaws.{ranged}
use Rattle.desk.proofs.SaysLaws.{Front, front-piece}
use Rattle.desk.proofs.SlotLaws.{Same, in_same, keeps_same}
use Rattle.desk.proofs.KeepLaws.{unmarked}
use Rattle.demands.proofs.DeskPieces.{hand_value, hand_other, hand_keeps, keeps-other, same-values}

-- the slots of client c, which has the words o, keep the pieces of the blocks bs, with their values, and no others
pub record Holds (slots : List ℕ) (o : Opening) (c : ℕ) (bs : List (List ℕ)) : Type 0 where
  pub each : (b : List ℕ) → Memᴰ b bs → Front o c b
  pub kept : (b : List ℕ) → Memᴰ b bs → keeps slots c o.width (piece_number b) ≡ true
  pub values : (b : List ℕ) → Memᴰ b bs → (i : ℕ) → 1 ≤ i → i ≤ o.width → in_slot slots (start c (piece_number b)) i ≡ word_at b (7 + i)
  pub back : (j : ℕ) → 1 ≤ j → j ≤ o.pieces → keeps slots c o.width j ≡ true → (b : List ℕ) × Memᴰ b bs × (piece_number b ≡ j)
  pub count : length bs ≡ distinct slots o c

-- the same pieces are kept, with the same values
pub record Alike (o : Opening) (c : ℕ) (s t : List ℕ) : Type 0 where
  pub kept : (j : ℕ) → 1 ≤ j → j ≤ o.pieces → keeps s c o.width j ≡ keeps t c o.width j
  pub values : (j i : ℕ) → 1 ≤ j → j ≤ o.pieces → 1 ≤ i → i ≤ o.width → in_slot s (start c j) i ≡ in_slot t (start c j) i

pub same_alike : (s t : List ℕ) (o : Opening) (c : ℕ) → Client c → o.pieces ≤ 70 → o.width ≤ 16 → Same c o.pieces s t → Alike o c s t
same_alike s t o c k few thin a = record {
  kept = λ j l m. keeps_same s t o c k few thin a j l m;
  values = λ j i l m u v. in_same s t o c k few thin a j i l m (omega arith);
}

pub holds-alike : (s t : List ℕ) (o : Opening) (c : ℕ) (bs : List (List ℕ)) → Alike o c s t → Holds s o c bs → Holds t o c bs
unfolding distinct
holds-alike s t o c bs a h =
    let at : (b : List ℕ) → Memᴰ b bs → (1 ≤ piece_number b) × (piece_number b ≤ o.pieces) = λ b m. front-piece o c b (h.each b m) in
    record {
      each = h.each;
      kept = λ b m. sym (a.kept (piece_number b) (at b m).0 (at b m).1) ∙ h.kept b m;
      values = λ b m i l u. sym (a.values (piece_number b) i (at b m).0 (at b m).1 l u) ∙ h.values b m i l u;
      back = λ j l u e. h.back j l u (a.kept j l u ∙ e);
      count = h.count ∙ ap length (those-same (keeps s c o.width) (keeps t c o.width) 1 o.pieces (λ j l u. a.kept j l (omega arith)));
    }

-- no piece is kept in slots of zeros
pub holds-none : (slots : List ℕ) (o : Opening) (c : ℕ) → Client c → o.pieces ≤ 70 → ((i : ℕ) → In c o.pieces i → get_or slots i 0 ≡ 0) → Holds slots o c []
unfolding distinct
holds-none slots o c k few z =
    let none : (j : ℕ) → 1 ≤ j → j ≤ o.pieces → keeps slots c o.width j ≡ false
    = λ j l m. sym (unmarked slots (start c j) o.width (rw (add-zero (start c j)) at (z (start c j + 0) (slot_in c o.pieces j 0 k few l m (omega arith))))) in
    record {
      each = λ b m. absurd (Memᴰ.not-nil m);
      kept = λ b m. absurd (Memᴰ.not-nil m);
      values = λ b m. absurd (Memᴰ.not-nil m);
      back = λ j l m e. absurd (false≢true (sym (none j l m) ∙ e));
      count = sym (ap length (those-none (keeps slots c o.width) 1 o.pieces (λ j l m. none j l (omega arith))));
    }

-- ---- handing in
module _ (slots : List ℕ) (o : Opening) (c : ℕ) (b : List ℕ) (size : length slots ≡ 1190) (f : Front o c b) where
  -- a piece that is kept already, with these values
  pub again-alike : keeps slots c o.width (piece_number b) ≡ true → (other_values slots o c b).given ≡ false → Alike o c slots (hand_slots slots o c b)
  again-alike t e = record { kept = λ j l m. kept j l m (ℕ_discrete j (piece_number b)); values = λ j i l m u v. values j i l m u v (ℕ_discrete j (piece_number b)) }
    where
      kept : (j : ℕ) → 1 ≤ j → j ≤ o.pieces → Dec (j ≡ piece_number b) → keeps slots c o.width j ≡ keeps (hand_slots slots o c b) c o.width j
      kept j l m (yes q) = ap (keeps slots c o.width) q ∙ t ∙ sym (hand_keeps slots o c b size f) ∙ ap (keeps (hand_slots slots o c b) c o.width) (sym q)
      kept j l m (no n) = sym (keeps-other slots o c b size f j l m n)

      values : (j i : ℕ) → 1 ≤ j → j ≤ o.pieces → 1 ≤ i → i ≤ o.width → Dec (j ≡ piece_number b) → in_slot slots (start c j) i ≡ in_slot (hand_slots slots o c b) (start c j) i
      values j i l m u v (yes q) =
          ap (λ (x : ℕ). in_slot slots (start c x) i) q ∙ same-values slots o c b size f t e i u v ∙ sym (hand_value slots o c b size f i u v)
          ∙ ap (λ (x : ℕ). in_slot (hand_slots slots o c b) (start c x) i) (sym q)
      values j i l m u v (no n) = sym (hand_other slots o c b size f j i l m n (omega (arith, (ranged o f.opened).width.1)))

  -- a new piece
  module _ (bs : List (List ℕ)) (h : Holds slots o c bs) (t : keeps slots c o.width (piece_number b) ≡ false) where
    -- no earlier block has it
    other-piece : (x : List ℕ) → Memᴰ x bs → piece_number x ≢ piece_number b
    other-piece x m q = false≢true (sym t ∙ ap (keeps slots c o.width) (sym q) ∙ h.kept x m)

    each_new : (x : List ℕ) → Memᴰ x (b ∷ bs) → Front o c x
    each_new x m = ⊎_elim (λ (q : x ≡ b). rw q f) (λ (r : Memᴰ x bs). h.each x r) (Memᴰ.cases_cons m)

    kept_new : (x : List ℕ) → Memᴰ x (b ∷ bs) → keeps (hand_slots slots o c b) c o.width (piece_number x) ≡ true
    kept_new x m =
        ⊎_elim (λ (q : x ≡ b). rw q (hand_keeps slots o c b size f))
        (λ (r : Memᴰ x bs).
        let p = front-piece o c x (h.each x r) in
        keeps-other slots o c b size f (piece_number x) p.0 p.1 (other-piece x r) ∙ h.kept x r)
        (Memᴰ.cases_cons m)

    values_new : (x : List ℕ) → Memᴰ x (b ∷ bs) → (i : ℕ) → 1 ≤ i → i ≤ o.width → in_slot (hand_slots slots o c b) (start c (piece_number x)) i ≡ word_at x (7 + i)
    values_new x m i l u =
        ⊎_elim (λ (q : x ≡ b). rw q (hand_value slots o c b size f i l u))
        (λ (r : Memᴰ x bs).
        let p = front-piece o c x (h.each x r) in
        hand_other slots o c b size f (piece_number x) i p.0 p.1 (other-piece x r) (omega (arith, (ranged o f.opened).width.1)) ∙ h.values x r i l u)
        (Memᴰ.cases_cons m)

    back_new : (j : ℕ) → 1 ≤ j → j ≤ o.pieces → Dec (j ≡ piece_number b) → keeps (hand_slots slots o c b) c o.width j ≡ true → (x : List ℕ) × Memᴰ x (b ∷ bs) × (piece_number x ≡ j)
    back_new j l m (yes q) e = (b, Memᴰ.head refl, sym q)
    back_new j l m (no n) e =
        let r = h.back j l m (sym (keeps-other slots o c b size f j l m n) ∙ e) in
        (r.0, Memᴰ.tail r.1, r.2)

    pub holds_new : Holds (hand_slots slots o c b) o c (b ∷ bs)
    unfolding distinct
    holds_new =
        let p = front-piece o c b f in
        record {
          each = each_new;
          kept = kept_new;
          values = values_new;
          back = λ j l m e. back_new j l m (ℕ_discrete j (piece_number b)) e;
          count = omega (
            arith,
            h.count,
            count_more (keeps slots c o.width) (keeps (hand_slots slots o c b) c o.width) 1 o.pieces (piece_number b) p.0 (omega (arith, p.1)) t (hand_keeps slots o c b size f)
                (λ j l m n. keeps-other slots o c b size f j l (omega arith) n),
          );
        }
