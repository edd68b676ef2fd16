-- Joining to a key is joining with room for sixteen words, then unpacking: every secret fits, so ROOM of the words is never given. And a key's
-- words, at most 8191, are never too large for dealing. Assumes nothing.
use mathlib.Core.Path.{◌≡◌, refl, sym, ap, ◌∙◌}
use mathlib.Core.Logic.{◌≢◌, ⊎_elim}
use Rattle.std.specs.Prelude.{Result, Ok, Err, IfOk}
use Rattle.std.proofs.lemmas.Result.{IfOk-at_ok}
use Rattle.answer.specs.declared.Refusal.{Refusal}
use Rattle.lists.proofs.Truth.{same_or_not}
use mathlib.Core.List.{List, [], ◌∷◌}
use Prim.Native.Nat.{ℕ}
use lib.ListN.{length, take}
use borrow.Author.Tests.{eq-eqb, ne_eqb}
use Rattle.answer.specs.Outcome.{Outcome, done, refused, outcome_by}
use Rattle.answer.specs.Checks.{first_fail}
use Rattle.answer.specs.Lent.{no_room, left}
use Rattle.answer.specs.Laws.{Passed}
use Rattle.answer.proofs.CheckLaws.{append-lines, passed-done, done-passed, same_refusal, never_both}
use Rattle.answer.proofs.LentLaws.{room-given}
use Rattle.packing.specs.Key.{unpacked, packed_words, packing, unpack_lines, unpacking, unpacked_into}
use Rattle.packing.proofs.SayLaws.{words-made, says-secret, says-packed}
use Rattle.joining.specs.Pile.{own_width}
use Rattle.joining.specs.Checks.{pile_lines}
use Rattle.joining.specs.Joined.{join_lines, joining}
use Rattle.joining.specs.Secret.{secret}
use Rattle.joining.proofs.PassedLaws.{accepted}
use Rattle.joining.proofs.PileLaws.{width_in}
use Rattle.key.specs.Dealt.{key_secret}
use Rattle.key.specs.Joined.{key_lines, joining_key, joined_key_into}

-- ---- the words that dealing is lent
pub ten-words : (key : List ℕ) → length key ≡ 16 → packed_words key ≡ key_secret key
unfolding key_secret
ten-words key e = words-made key e ∙ rw (eq-eqb (length key) 16 e)

pub no_words : (key : List ℕ) → length key ≢ 16 → [] ≡ key_secret key
unfolding key_secret
no_words key h = rw (ne_eqb (length key) 16 h)

-- what was packed, or what could not be
module _ (key : List ℕ) {r : Result (List ℕ) Refusal} (says : outcome_by (λ _. 10) r ≡ packing key) where
  pub packed-dealt : {words : List ℕ} → IfOk r (λ ws. ws ≡ packed_words key) → r ≡ Ok words → words ≡ key_secret key
  packed-dealt {words} h q =
      ⊎_elim (λ (e : length key ≡ 16). IfOk-at_ok (λ (ws : List ℕ). ws ≡ packed_words key) q h ∙ ten-words key e)
      (λ (n : length key ≢ 16). never_both (sym (ap (outcome_by (λ _. 10)) q) ∙ says ∙ says-secret key n))
      (same_or_not (length key) 16)

  pub none-dealt : {e : Refusal} → r ≡ Err e → [] ≡ key_secret key
  none-dealt q =
      ⊎_elim (λ (e : length key ≡ 16). never_both (sym (says-packed key e) ∙ sym says ∙ ap (outcome_by (λ _. 10)) q)) (λ (n : length key ≢ 16). no_words key n)
      (same_or_not (length key) 16)

-- ---- joining to a key
module _ (pile : List ℕ) where
  -- past the pile's lines it is unpacking
  pub key_says : (room : ℕ) → joining_key pile room ≡ first_fail (pile_lines pile) (unpacking (secret pile) room)
  unfolding joining_key key_lines unpacking
  key_says room = append-lines (pile_lines pile) (unpack_lines (secret pile) room) (done 16)

  pub words_say : joining pile 16 ≡ first_fail (pile_lines pile) (first_fail (no_room (own_width pile) (own_width pile) 16 ∷ []) (done (own_width pile)))
  unfolding joining join_lines
  words_say = append-lines (pile_lines pile) (no_room (own_width pile) (own_width pile) 16 ∷ []) (done (own_width pile))

  -- a pile that passes them joins to words, and one that joins to words passes them
  pub passed-joins : Passed (pile_lines pile) → joining pile 16 ≡ done (own_width pile)
  passed-joins p =
      words_say ∙ passed-done (pile_lines pile) _ p
      ∙ room-given (own_width pile) (own_width pile) 16 (done (own_width pile)) (width_in (accepted pile p).full.unmixed).1

  pub joins-passed : (w : ℕ) → joining pile 16 ≡ done w → Passed (pile_lines pile)
  joins-passed w e = (done-passed (pile_lines pile) _ w (sym words_say ∙ e)).0

  pub key_unpacks : (w room : ℕ) → joining pile 16 ≡ done w → joining_key pile room ≡ unpacking (secret pile) room
  key_unpacks w room e = key_says room ∙ passed-done (pile_lines pile) _ (joins-passed w e)

  -- what joining refuses, joining to a key refuses
  by_lines : (o : Outcome ℕ) (room m a b : ℕ) → first_fail (pile_lines pile) (done 0) ≡ o → joining pile 16 ≡ refused m a b → joining_key pile room ≡ refused m a b
  by_lines (done v) room m a b q e = never_both (sym (passed-joins (done-passed (pile_lines pile) (done 0) v q).0) ∙ e)
  by_lines (refused n c d) room m a b q e =
      let here : joining pile 16 ≡ refused n c d = words_say ∙ same_refusal (pile_lines pile) 0 _ n c d q in
      key_says room ∙ same_refusal (pile_lines pile) 0 _ n c d q ∙ sym here ∙ e

  pub key_refused : (room m a b : ℕ) → joining pile 16 ≡ refused m a b → joining_key pile room ≡ refused m a b
  key_refused room m a b e = by_lines (first_fail (pile_lines pile) (done 0)) room m a b refl e

  -- what is left of the lent output, by what is answered
  pub key_left : (out : List ℕ) (o : Outcome ℕ) → joining_key pile (length out) ≡ o → joined_key_into pile out ≡ left o (unpacked (secret pile)) out
  unfolding joined_key_into
  key_left out o e = ap (λ (x : Outcome ℕ). left x (unpacked (secret pile)) out) e

  pub left-unpacked : (w : ℕ) (out : List ℕ) → joining pile 16 ≡ done w → joined_key_into pile out ≡ unpacked_into (secret pile) out
  unfolding unpacked_into
  left-unpacked w out e = key_left out (unpacking (secret pile) (length out)) (key_unpacks w (length out) e)
