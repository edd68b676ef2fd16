-- Joining gives w exactly where the pile joins: the lines that passed say it, and a pile that joins passes them.
-- Assumes nothing.
use mathlib.Core.Path.{◌≡◌, sym, ap, ◌∙◌}
use mathlib.Core.Bool.{true, false}
use mathlib.Core.Logic.{⊎_elim}
use mathlib.Core.List.{List, [], ◌∷◌, ◌++◌}
use Prim.Native.Nat.{ℕ, ◌+◌, ◌≤◌, ◌<◌}
use native.Mathlib.Nat.{le_refl, le_of_eq}
use native.Mathlib.Omega.{arith}
use native.Mathlib.Decide.{ℕ_discrete}
use lib.ListN.{length}
use borrow.Author.Tests.{eq-eqb, eqb-true, le-ltb, ltb-false}
use Rattle.answer.specs.Outcome.{Outcome, done, refused}
use Rattle.answer.specs.Checks.{first_fail}
use Rattle.answer.specs.Lent.{no_room}
use Rattle.answer.proofs.CheckLaws.{not_given, append-lines, passed, passed_one, passed-done, passed-append, done-passed}
use Rattle.answer.proofs.LentLaws.{room-given}
use Rattle.lists.specs.Places.{found}
use Rattle.lists.proofs.Truth.{never, decided}
use Rattle.lists.proofs.FirstLaws.{none_in, first-all, found_some, found_none}
use Rattle.lists.proofs.ThoseLaws.{those-few, those-all, those-full}
use Rattle.block.specs.declared.deal.DealWords.{DealWords}
use Rattle.block.specs.Layout.{piece_in}
use Rattle.pile.specs.Blocks.{blocks, In}
use Rattle.pile.specs.Lines.{torn_pile, long_pile, every_block}
use Rattle.pile.proofs.LineLaws.{true_blocks}
use Rattle.joining.specs.Pile.{own_block, own_deal, own_width, in_sets, set_at, pieces_at, piece_at, place_of, set_place, complete, chosen, own_place, value_of, differ_in, present}
use Rattle.joining.specs.Checks.{mixed_at, mixed, conflict_at, conflict, short, whole_lines, pile_lines}
use Rattle.joining.specs.Joined.{join_lines, joining}
use Rattle.joining.specs.Laws.{Sound, Joins, OneMark, LacksThen, NoSetThen}
use Rattle.joining.proofs.HeapLaws.{own_in, all_of}
use Rattle.joining.proofs.PileLaws.{one_mark, of_set}
use Rattle.joining.proofs.ConflictLaws.{Same, of_same, set_first, piece_first, apart, set_is, piece_is, like_piece, like_set, by_first}
use Rattle.joining.proofs.ChosenLaws.{place-held, first-chosen, first_pieces, sets-chosen, sets-pieces, pieces-some, own_block_lem, sound-unmixed}
use Rattle.joining.proofs.ShortLaws.{set_refuses, set_passes, few_refuses, few_passes, none-short}
use Rattle.joining.proofs.PassedLaws.{Accepted, accepted as accept}

-- ---- from the answer to the pile
-- past CONFLICT a block has the values of the first of its piece, and says what the first of its set says
module _ (pile : List ℕ) (o : OneMark pile) (z : conflict_at pile ≡ 0) where
  like : (a : ℕ) → In pile a → apart pile a ≡ false
  like a h = none_in (apart pile) 1 (blocks pile + 1) (le_refl 1) (sym (by_first pile o) ∙ z) a h.0 (omega (arith, h.1))

  agreeing : (a b : ℕ) → In pile a → In pile b → piece_at pile a ≡ piece_at pile b → (i : ℕ) → 1 ≤ i → i ≤ own_width pile → value_of pile a i ≡ value_of pile b i
  agreeing a b h g q i l m =
      (like_piece pile a (like a h)).same i l m
      ∙ ap (λ (j : ℕ). value_of pile (place_of pile j) i) q
      ∙ sym ((like_piece pile b (like b g)).same i l m)

  counting : (a b : ℕ) → In pile a → In pile b → set_at pile a ≡ set_at pile b → pieces_at pile a ≡ pieces_at pile b
  counting a b h g q =
      sym (like_set pile a (like a h)) ∙ ap (λ (s : ℕ). pieces_at pile (set_place pile s)) q ∙ like_set pile b (like b g)

-- what the lines of joining say where they pass
pub record Given (pile : List ℕ) (room w : ℕ) : Type 0 where
  pub accepted : Accepted pile
  pub fits : own_width pile ≤ room
  pub is : own_width pile ≡ w

pub given-joins : (pile : List ℕ) (room w : ℕ) → joining pile room ≡ done w → Given pile room w
unfolding joining join_lines no_room
given-joins pile room w e =
    let r = done-passed (pile_lines pile ++ no_room (own_width pile) (own_width pile) room ∷ []) (done (own_width pile)) w e in
    let s = passed-append (pile_lines pile) r.0 in
    let is : done (own_width pile) ≡ done w = r.1 in
    record { accepted = accept pile s.0; fits = ltb-false room (own_width pile) (passed s.1).0; is = cc }

pub then_joins : (pile : List ℕ) (room w : ℕ) → joining pile room ≡ done w → Joins pile room w
then_joins pile room w e =
    let g = given-joins pile room w e in
    let t = g.accepted in
    let u = t.full.unmixed in
    let o = one_mark u in
    record {
      sound = record {
        whole = t.whole;
        few = t.few;
        blocks_true = u.blocks_true;
        one_deal = λ a b h g. u.own_deal_lem a h ∙ sym (u.own_deal_lem b g);
        one_count = counting pile o t.no_conflict;
        agree = agreeing pile o t.no_conflict;
      };
      some = u.some;
      complete = λ j l h. let p = own_block_lem t.full j l h in (own_place pile j, p.0, p.1, p.2);
      fits = g.fits;
      is = g.is;
    }

-- ---- from the pile to the answer
module _ (pile : List ℕ) (s : Sound pile) where
  no_mixed : mixed_at pile ≡ 0
  unfolding mixed_at
  no_mixed = all_of pile (own_deal pile) (λ a h. s.one_deal a (own_block pile) h (own_in pile (omega (arith, h.0, h.1))))

  -- true blocks of one deal are under one mark
  sound-mark : OneMark pile
  sound-mark = record { blocks_true = s.blocks_true; mark = λ a b h g. ap (λ (d : DealWords). d.mark) (s.one_deal a b h g) }

  no_conflict : conflict_at pile ≡ 0
  no_conflict =
      by_first pile sound-mark
      ∙ first-all (apart pile) 1 (blocks pile + 1)
      (λ a l h.
      let i : In pile a = (l, omega arith) in
      let p = (piece_is pile a i).0 in
      let q = (set_is pile a i).0 in
      let e : piece_at pile (piece_first pile a) ≡ piece_at pile a = eqb-true (piece_at pile (piece_first pile a)) (piece_at pile a) p.has in
      let d : set_at pile (set_first pile a) ≡ set_at pile a = eqb-true (set_at pile (set_first pile a)) (set_at pile a) q.has in
      let same : Same pile a (piece_first pile a) = record { same = s.agree a (piece_first pile a) i (p.from, omega (arith, p.to)) (sym e) } in
      let count : pieces_at pile (set_first pile a) ≡ pieces_at pile a = s.one_count (set_first pile a) a (q.from, omega (arith, q.to)) i d in
      rw (eq-eqb (pieces_at pile (set_first pile a)) (pieces_at pile a) count, found_none {a = differ_in pile a (piece_first pile a)} (of_same pile a (piece_first pile a) same)))

  -- a sound pile passes all lines up to CONFLICT: what is left is SHORT
  sound-short : (end : Outcome ℕ) → first_fail (pile_lines pile) end ≡ first_fail (short pile ∷ []) end
  unfolding pile_lines
  sound-short end =
      append-lines (torn_pile pile ∷ long_pile pile ∷ every_block pile) (whole_lines pile) end
      ∙ passed-done (torn_pile pile ∷ long_pile pile ∷ every_block pile) (first_fail (whole_lines pile) end)
      (passed_one (found_none s.whole) (passed_one (le-ltb 560 (blocks pile) s.few) (true_blocks pile s.blocks_true)))
      ∙ not_given (mixed pile) (conflict pile ∷ short pile ∷ []) end (found_none no_mixed)
      ∙ not_given (conflict pile) (short pile ∷ []) end (found_none no_conflict)

  pub sound_then : (room : ℕ) → joining pile room ≡ first_fail (short pile ∷ []) (first_fail (no_room (own_width pile) (own_width pile) room ∷ []) (done (own_width pile)))
  unfolding joining join_lines
  sound_then room =
      let end = first_fail (no_room (own_width pile) (own_width pile) room ∷ []) (done (own_width pile)) in
      append-lines (pile_lines pile) (no_room (own_width pile) (own_width pile) room ∷ []) (done (own_width pile)) ∙ sound-short end

-- ---- a pile that joins is not SHORT
module _ (pile : List ℕ) (room w : ℕ) (t : Joins pile room w) where
  -- by sets a block of the chosen set has a set: one is chosen
  some-chosen : in_sets pile ≡ true → 1 ≤ chosen pile
  some-chosen e =
      let u = sound-unmixed t.sound t.some in
      let r = t.complete 1 (le_refl 1) (rw (sets-pieces pile e) (pieces-some u (piece_in (chosen pile) 1)).0) in
      omega (arith, (of_set u e r.0 r.1).from, r.2)

  -- in the first scheme each piece has a block
  all-present : in_sets pile ≡ false → (own_deal pile).pieces ≤ length (present pile)
  unfolding present
  all-present e =
      let c = first-chosen pile e in
      let held : (j : ℕ) → 1 ≤ j → j ≤ (own_deal pile).pieces → 1 ≤ place_of pile j
      = λ j l m.
      let r = t.complete j l (omega (arith, m, first_pieces pile e)) in
      place-held pile j r.0 r.1 (omega (arith, r.2, r.3, c)) in
      le_of_eq (sym (those-full (λ j. found (place_of pile j)) 1 (own_deal pile).pieces
      (λ j l m. found_some {a = place_of pile j} (λ z. omega (arith, held j l (omega arith))))))

  not_short : (short pile).given ≡ false
  not_short =
      ⊎_elim (λ (e : in_sets pile ≡ true). set_passes pile e (some-chosen e))
      (λ (e : in_sets pile ≡ false). few_passes pile e t.some (all-present e)) (decided (in_sets pile))

  pub joins_then : joining pile room ≡ done w
  unfolding first_fail
  joins_then =
      sound_then pile t.sound room
      ∙ not_given (short pile) [] _ not_short
      ∙ room-given (own_width pile) (own_width pile) room (done (own_width pile)) t.fits
      ∙ ap done t.is

pub lacks_then : LacksThen
lacks_then pile room j t b e l h z =
    sound_then pile t room ∙ few_refuses pile e [] _ (less (ℕ_discrete (length (present pile)) k)) ∙ ap (refused 20 (length (present pile))) (sym (first_pieces pile e))
  where
    k : ℕ
    k = (own_deal pile).pieces

    less : Dec (length (present pile) ≡ k) → length (present pile) < k
    less (yes q) = unfold present in
        absurd (never (found_none z) (those-all (λ i. found (place_of pile i)) 1 k q j l (omega (arith, h, first_pieces pile e))))
    less (no f) = unfold present in omega (arith, those-few (λ i. found (place_of pile i)) 1 k)

pub no_set_then : NoSetThen
no_set_then pile room t b e none =
    let z : chosen pile ≡ 0 = sets-chosen pile e ∙ first-all (complete pile) 1 71 (λ s l h. none s l (omega arith)) in
    sound_then pile t room ∙ set_refuses pile e [] _ z

pub no_blocks : (pile : List ℕ) (room : ℕ) → length pile ≡ 0 → joining pile room ≡ refused 20 0 0
unfolding joining join_lines
no_blocks pile room e = append-lines (pile_lines pile) (no_room (own_width pile) (own_width pile) room ∷ []) (done (own_width pile)) ∙ none-short pile _ e
