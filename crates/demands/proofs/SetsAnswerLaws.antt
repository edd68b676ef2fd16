-- What joining answers for a pile of whole cards by sets: the dealt secret where the members hold all pieces of a set, SHORT where of none.
-- Assumes nothing.
use Prim.Native.Nat.{ℕ, ◌-◌, ◌≤◌, ◌<◌, zero-le}
use mathlib.Core.Path.{◌≡◌, refl, sym, ap, ap₂, ◌∙◌}
use mathlib.Core.Bool.{true, false}
use mathlib.Core.List.{List}
use mathlib.Core.Logic.{⊎_elim}
use native.Mathlib.Nat.{eq-or-lt_of_le, le_refl}
use native.Mathlib.Omega.{arith}
use lib.ListN.{length, get_or}
use Rattle.answer.specs.Outcome.{refused}
use Rattle.lists.specs.Run.{run}
use Rattle.lists.specs.Some.{◌∈◌}
use Rattle.lists.proofs.Truth.{never, isn't}
use Rattle.lists.proofs.RunLaws.{run_is, run-same}
use Rattle.field.specs.Joined.{joined}
use Rattle.field.specs.Secret.{column, secret_of}
use Rattle.planning.specs.Sets.{member_count}
use Rattle.planning.specs.Groups.{authorised}
use Rattle.minimal.specs.Minimal.{number_in}
use Rattle.dealing.specs.Deal.{Deal}
use Rattle.bysets.specs.Cards as cards
use Rattle.bysets.specs.Cards.{sets_of, sets_held, set_values}
use Rattle.bysets.specs.Laws.{InGroup}
use Rattle.bysets.proofs.MadeLaws.{InRange}
use Rattle.bysets.proofs.HideLaws.{set_gives, sets_give}
use Rattle.pile.specs.Blocks.{blocks, In}
use Rattle.joining.specs.Pile.{set_at, number_at, complete, chosen, own_pieces, own_place, value_at}
use Rattle.joining.specs.Joined.{joining}
use Rattle.joining.specs.Secret.{secret}
use Rattle.joining.specs.Inner.{Full}
use Rattle.joining.specs.Laws.{HasSet, Joins}
use Rattle.joining.proofs.ChosenLaws.{sound-unmixed, full-sets, own_block_lem, sets-pieces}
use Rattle.joining.proofs.Laws.{complete-means, chosen_lowest, no_set_then, no_blocks}
use Rattle.demands.proofs.SetsReadLaws.{Reads, sound, set_is, number_is, set_in, count-told, value-told, by_sets_lem, width-told}

-- the members together hold all pieces of set s
abbrev HeldAll : Deal → ℕ → ℕ → Type 0
HeldAll d g s =
    (1 ≤ s)
    × (s ≤ length (sets_of d))
    × ((j : ℕ) → 1 ≤ j → j ≤ member_count (cards.set_at d s) → (i : ℕ) × InGroup d g i × (s ∈ sets_held d i) × (number_in (cards.set_at d s) i ≡ j))

module _ (d : Deal) (f : InRange d) (g : ℕ) (pile : List ℕ) (r : Reads d g pile) where
  -- ---- a set of which the pile has all pieces, and one of which the members hold them
  -- block a, of set s, is of a member who has its piece
  holder_of : (s a : ℕ) → In pile a → set_at pile a ≡ s → (i : ℕ) × InGroup d g i × (s ∈ sets_held d i) × (number_in (cards.set_at d s) i ≡ number_at pile a)
  holder_of s a h e =
      let t = r.theirs a h in
      let q : t.which ≡ s = sym (set_is t) ∙ e in
      (t.who, (t.in_group.least, t.in_group.most, t.in_group.among), rw (← q) t.has, rw (← q) (sym (number_is t)))

  has-held : (s : ℕ) → HasSet pile s → HeldAll d g s
  has-held s h =
      let a = h.some in
      let in-deal = set_in r a.0 a.1 in (
        omega (arith, in-deal.0, a.2),
        omega (arith, in-deal.1, a.2),
        λ j l u.
            let k = count-told r a.0 a.1 ∙ ap (λ (x : ℕ). member_count (cards.set_at d x)) a.2 in
            let b = h.all a.0 a.1 a.2 j l (omega (arith, u, k)) in
            let w = holder_of s b.0 b.1 b.2 in
            (w.0, w.1, w.2, w.3 ∙ b.3),
      )

  held-block : (s : ℕ) → HeldAll d g s → (j : ℕ) → 1 ≤ j → j ≤ member_count (cards.set_at d s)
      → (b : ℕ) × In pile b × (set_at pile b ≡ s) × (number_at pile b ≡ j)
  held-block s h j l u =
      let w = h.2 j l u in
      let b = r.all w.0 s (record { least = w.1.0; most = w.1.1; among = w.1.2 }) w.2 in
      (b.0, b.1, b.2, b.3 ∙ w.3)

  held-has : (s : ℕ) → 1 ≤ member_count (cards.set_at d s) → HeldAll d g s → HasSet pile s
  held-has s some h =
      let b = held-block s h 1 (le_refl 1) some in
      record {
        some = (b.0, b.1, b.2);
        all = λ a k e j l u.
            let c = count-told r a k ∙ ap (λ (x : ℕ). member_count (cards.set_at d x)) e in
            held-block s h j l (omega (arith, u, c));
      }

  -- ---- some set is complete, so one is chosen
  module _ (auth : authorised d.policy.required g ≡ true) where
    held : (s : ℕ) × HeldAll d g s
    held = let h = (sets_give d f g).0 auth in (h.0, (h.1, h.2, h.3))

    has : HasSet pile held.0
    has = held-has held.0 (f.ready.proper.least held.0 held.1.0 held.1.1) held.1

    some_block : 1 ≤ blocks pile
    some_block = let a = has.some.1 in omega (arith, a.0, a.1)

    is-complete : complete pile held.0 ≡ true
    is-complete =
        (complete-means pile held.0 (sound r) some_block (by_sets_lem r some_block) held.1.0
        (omega (arith, held.1.1, f.ready.proper.count))).1 has

    is-chosen : 1 ≤ chosen pile
    is-chosen =
        ⊎_elim
        (λ (z : 0 ≡ chosen pile).
        absurd (never ((chosen_lowest pile).1 (by_sets_lem r some_block) (sym z) held.0 held.1.0
        (omega (arith, held.1.1, f.ready.proper.count))) is-complete))
        (λ (h : 0 < chosen pile). h)
        (eq-or-lt_of_le zero-le)

    -- ---- the pieces that are taken are those of a set of the deal
    full : Full pile
    full = full-sets (sound-unmixed (sound r) some_block) (by_sets_lem r some_block) is-chosen

    first_block_lem : In pile (own_place pile 1) × (set_at pile (own_place pile 1) ≡ chosen pile) × (number_at pile (own_place pile 1) ≡ 1)
    first_block_lem = own_block_lem full 1 (le_refl 1) full.pieces_in.0

    chosen_in : (1 ≤ chosen pile) × (chosen pile ≤ length (sets_of d))
    chosen_in = let b = set_in r (own_place pile 1) first_block_lem.0 in (is-chosen, omega (arith, b.1, first_block_lem.1))

    pieces_are : own_pieces pile ≡ member_count (cards.set_at d (chosen pile))
    pieces_are =
        sets-pieces pile (by_sets_lem r some_block)
        ∙ count-told r (own_place pile 1) first_block_lem.0
        ∙ ap (λ (s : ℕ). member_count (cards.set_at d s)) first_block_lem.1

    pub joins : (room : ℕ) → length d.secret ≤ room → Joins pile room (length d.secret)
    joins room h = record {
      sound = sound r;
      some = some_block;
      complete = λ j l u. let b = own_block_lem full j l u in (own_place pile j, b.0, b.1, b.2);
      fits = omega (arith, width-told r some_block);
      is = width-told r some_block;
    }

    -- value i of piece j, as the pile has it
    value_there : (i j : ℕ) → 1 ≤ i → i ≤ length d.secret → 1 ≤ j → j ≤ own_pieces pile
        → value_at pile j i ≡ get_or (set_values d (chosen pile) j) (i - 1) 0
    value_there i j l u l' u' =
        let b = own_block_lem full j l' u' in
        value-told r (own_place pile j) i b.0 l u ∙ ap₂ (λ (s k : ℕ). get_or (set_values d s k) (i - 1) 0) b.1 b.2

    -- the values i of all pieces join to word i
    word-joined : (i : ℕ) → 1 ≤ i → i ≤ length d.secret → get_or d.secret (i - 1) 0 ≡ joined (column (value_at pile) (own_pieces pile) i)
    unfolding column
    word-joined i l u =
        sym (ap joined
        (run-same (λ j. value_at pile j i) (λ j. get_or (set_values d (chosen pile) j) (i - 1) 0) (own_pieces pile) (λ j l' u'. value_there i j l u l' u')
        ∙ ap (run (λ j. get_or (set_values d (chosen pile) j) (i - 1) 0) 1) pieces_are)
        ∙ set_gives d f g (chosen pile) chosen_in.0 chosen_in.1 i l u)

    pub secret-is : secret pile ≡ d.secret
    unfolding secret_of
    secret-is =
        rw (width-told r some_block)
        (sym (run_is (λ i. joined (column (value_at pile) (own_pieces pile) i)) (length d.secret) d.secret refl word-joined))

  -- ---- no set is complete
  module _ (none : authorised d.policy.required g ≡ false) (room : ℕ) where
    short_none : blocks pile ≡ 0 → joining pile room ≡ refused 20 0 0
    unfolding blocks
    short_none z = no_blocks pile room (omega (arith, r.whole, z))

    short-some : 1 ≤ blocks pile → joining pile room ≡ refused 20 0 0
    short-some some =
        no_set_then pile room (sound r) some (by_sets_lem r some)
        (λ s l u.
        isn't (λ t.
        let h = has-held s ((complete-means pile s (sound r) some (by_sets_lem r some) l u).0 t) in
        never none ((sets_give d f g).1 (s, h.0, h.1, h.2))))

    pub short : joining pile room ≡ refused 20 0 0
    short = ⊎_elim (λ (e : 0 ≡ blocks pile). short_none (sym e)) (λ (h : 0 < blocks pile). short-some h) (eq-or-lt_of_le zero-le)
