-- What joining answers for a pile of whole cards: the dealt secret where every piece is there, SHORT where one is lacking.
-- Assumes nothing.
use Prim.Native.Nat.{ℕ, zero, suc, ◌-◌, ◌≤◌, ◌<◌, zero-le}
use mathlib.Core.Path.{◌≡◌, refl, sym, ap, ap₂, ◌∙◌}
use mathlib.Core.List.{List}
use mathlib.Core.Logic.{⊎_elim}
use native.Mathlib.Nat.{eq-or-lt_of_le, le_refl}
use native.Mathlib.Omega.{arith}
use lib.ListN.{length, get_or}
use Rattle.answer.specs.Outcome.{refused}
use Rattle.lists.proofs.ThoseLaws.{those_in, in_those, at_in, in_at}
use Rattle.field.specs.Joined.{joined}
use Rattle.field.proofs.Laws.{round_trip_words}
use Rattle.lists.proofs.RunLaws.{run_is, run-same}
use Rattle.lists.specs.Some.{◌∈◌}
use Rattle.dealing.specs.Deal.{Deal, deal_pieces, held_by, piece_values}
use Rattle.dealing.proofs.HeldLaws.{held_in_lem}
use Rattle.dealing.proofs.MadeLaws.{InRange}
use Rattle.pile.specs.Blocks.{blocks}
use Rattle.joining.specs.Pile as Pile
use Rattle.joining.specs.Pile.{place_of, value_of, value_at}
use Rattle.joining.specs.Joined.{joining}
use Rattle.field.specs.Secret.{column, secret_of}
use Rattle.joining.specs.Secret.{secret}
use Rattle.joining.specs.Laws.{Joins}
use Rattle.joining.proofs.ChosenLaws.{place-held, place-has, first-chosen, first-place}
use Rattle.joining.proofs.Laws.{lacks_then, no_blocks}
use Rattle.demands.specs.Group.{Group, Contains, Member, gathers, gathered}
use Rattle.demands.specs.Demand3.{short_of}
use Rattle.demands.proofs.GroupLaws.{all_held, not_gathered, gathers_by, gathers_who}
use Rattle.demands.proofs.ReadLaws.{Reads, no_set_lem, piece_is, not_sets, sound, pieces_are, width_is, value-is, no_place, present_are}

pub short-says : (c k : ℕ) → 1 ≤ c → refused 20 c k ≡ short_of c k
short-says zero k h = absurd (omega arith)
short-says (suc c) k h = refl

-- it is a refusal, whatever its places
pub short_refuses : (c k : ℕ) → (a : ℕ) × (b : ℕ) × (short_of c k ≡ refused 20 a b)
short_refuses zero k = (0, 0, refl)
short_refuses (suc c) k = (suc c, k, refl)

module _ (d : Deal) (f : InRange d) (g : ℕ) (group : Group d g) (pile : List ℕ) (r : Reads d g pile) where
  -- ---- every piece is there
  module _ (c : Contains d g) where
    held_by_lem : (j : ℕ) → 1 ≤ j → j ≤ deal_pieces d → (i : ℕ) × Member d g i × (j ∈ held_by d i)
    held_by_lem = all_held d g f.ready.few group c

    some_block : 1 ≤ blocks pile
    some_block =
        let m = held_by_lem 1 (le_refl 1) f.ready.least in
        let a = r.all m.0 1 m.1 m.2 in
        omega (arith, a.1.0, a.1.1)

    pub joins : (room : ℕ) → length d.secret ≤ room → Joins pile room (length d.secret)
    joins room h = record {
      sound = sound r;
      some = some_block;
      complete = λ j l u.
          let m = held_by_lem j l (omega (arith, pieces_are r some_block)) in
          let a = r.all m.0 j m.1 m.2 in
          (a.0, a.1, no_set_lem r a.0 a.1 ∙ sym (first-chosen pile (not_sets r some_block)), a.2);
      fits = omega (arith, width_is r some_block);
      is = width_is r some_block;
    }

    -- value i of piece j, as the pile has it
    value_there : (i j : ℕ) → 1 ≤ i → i ≤ length d.secret → 1 ≤ j → j ≤ deal_pieces d
        → value_at pile j i ≡ get_or (piece_values d j) (i - 1) 0
    value_there i j l u l' u' =
        let m = held_by_lem j l' u' in
        let a = r.all m.0 j m.1 m.2 in
        let p = place-has pile j (place-held pile j a.0 a.1 (piece_is r a.0 a.1 ∙ a.2)) in
        ap (λ (a : ℕ). value_of pile a i) (first-place pile (not_sets r some_block) j) ∙ value-is r (place_of pile j) i p.0 l u ∙ ap (λ (x : ℕ). get_or (piece_values d x) (i - 1) 0) p.1

    -- the values i of all pieces join to word i
    word-joined : (i : ℕ) → 1 ≤ i → i ≤ length d.secret → get_or d.secret (i - 1) 0 ≡ joined (column (value_at pile) (Pile.own_pieces pile) i)
    unfolding column piece_values
    word-joined i l u =
        sym (ap joined
        (rw (pieces_are r some_block)
        (run-same (λ j. value_at pile j i) (λ j. get_or (piece_values d j) (i - 1) 0) (deal_pieces d) (λ j l' u'. value_there i j l u l' u')))
        ∙ round_trip_words (deal_pieces d) d.secret d.random f.ready.least f.ready.secret_in f.ready.random_in i l u)

    pub secret-is : secret pile ≡ d.secret
    unfolding secret_of
    secret-is =
        rw (width_is r some_block)
        (sym (run_is (λ i. joined (column (value_at pile) (Pile.own_pieces pile) i)) (length d.secret) d.secret refl word-joined))

  -- ---- no block: the group holds no piece
  pub none-held : blocks pile ≡ 0 → length (gathered d g) ≡ 0
  unfolding gathered
  none-held z =
      ⊎_elim (λ (e : 0 ≡ length (gathered d g)). sym e)
      (λ (h : 0 < length (gathered d g)).
      let m = in_those (gathers d g) 1 (deal_pieces d) (get_or (gathered d g) 0 0) (at_in 0 (gathered d g) 0 h) in
      let w = gathers_who d g (get_or (gathered d g) 0 0) m.0 (omega (arith, m.1)) m.2 in
      let a = r.all w.0 (get_or (gathered d g) 0 0) w.1 w.2 in
      absurd (omega (arith, a.1.0, a.1.1)))
      (eq-or-lt_of_le zero-le)

  -- a block: the group holds its piece
  pub some-held : 1 ≤ blocks pile → 1 ≤ length (gathered d g)
  unfolding gathered
  some-held some =
      let t = r.theirs 1 (le_refl 1, some) in
      let h = held_in_lem d t.who t.which t.has in
      let m = those_in (gathers d g) 1 (deal_pieces d) t.which h.0 (omega (arith, h.1)) (gathers_by d g t.who t.which t.in_group t.has) in
      omega (arith, (in_at 0 (gathered d g) t.which m).1)

  -- ---- a piece is lacking
  module _ (n : ¬ Contains d g) (room : ℕ) where
    short_none : blocks pile ≡ 0 → joining pile room ≡ short_of (length (gathered d g)) (deal_pieces d)
    unfolding blocks
    short_none z = rw (none-held z) (no_blocks pile room (omega (arith, r.whole, z)))

    short-some : 1 ≤ blocks pile → joining pile room ≡ short_of (length (gathered d g)) (deal_pieces d)
    short-some some =
        let l = not_gathered d g f.ready.few group n in
        lacks_then pile room l.0 (sound r) some (not_sets r some) l.1 (omega (arith, l.2, pieces_are r some)) (no_place r l.0 l.3)
        ∙ ap₂ (λ (x : List ℕ) (k : ℕ). refused 20 (length x) k) (present_are r some) (pieces_are r some)
        ∙ short-says (length (gathered d g)) (deal_pieces d) (some-held some)

    pub short : joining pile room ≡ short_of (length (gathered d g)) (deal_pieces d)
    short = ⊎_elim (λ (e : 0 ≡ blocks pile). short_none (sym e)) (λ (h : 0 < blocks pile). short-some h) (eq-or-lt_of_le zero-le)
