-- A group without a required set lacks a piece of each set, and so learns nothing; one with a required set has all pieces of a set.
-- Assumes nothing.
use Prim.Native.Nat.{ℕ, ◌-◌, ◌≤◌, ◌<◌}
use mathlib.Core.Path.{◌≡◌, refl, sym, ap, ap₂, subst, ◌∙◌}
use mathlib.Core.Bool.{true, false}
use mathlib.Core.List.{List}
use mathlib.Core.Logic.{◌↔◌}
use native.Mathlib.Omega.{arith}
use lib.ListN.{length, get_or}
use Rattle.lists.specs.Places.{at}
use Rattle.lists.specs.Run.{run}
use Rattle.lists.specs.Some.{◌∈◌}
use Rattle.lists.proofs.Truth.{surely}
use Rattle.answer.specs.Outcome.{Outcome}
use Rattle.answer.specs.Lent.{left}
use Rattle.prime.specs.Prime.{p, Below}
use Rattle.field.specs.Hiding.{Hidden}
use Rattle.field.specs.Pieces.{values}
use Rattle.field.specs.Parts.{part_of, part_values, PairedAll}
use Rattle.field.specs.Joined.{joined}
use Rattle.field.proofs.Laws.{paired_all_some, round_trip_all}
use Rattle.planning.specs.Sets.{member_count}
use Rattle.planning.specs.Groups.{authorised}
use Rattle.planning.proofs.SetLaws.{inside-at}
use Rattle.minimal.specs.Minimal.{number_in}
use Rattle.minimal.proofs.CountLaws.{member-piece}
use Rattle.minimal.proofs.Laws.{contains_one}
use Rattle.minimal.proofs.MinimalLaws.{lacking, lacks_of_each}
use Rattle.dealing.specs.Deal.{Deal, again}
use Rattle.bysets.specs.Cards.{sizes, sets_of, set_at, sets_held, set_values}
use Rattle.bysets.specs.Dealt.{set_block_count, set_dealing, set_dealt_into}
use Rattle.bysets.specs.Laws.{InGroup, SetsLent, set_card_from}
use Rattle.bysets.proofs.SizeLaws.{size_at, sizes-length}
use Rattle.bysets.proofs.MadeLaws.{InRange, again_in_range, known-sets, who_holds, card_depends, only-room, piece-holder}

-- the values of a set's pieces are those of its part of the randomness
values_are : (d : Deal) (s j : ℕ) → set_values d s j ≡ part_values (sizes (sets_of d)) d.secret d.random s j
unfolding set_values part_values
values_are d s j = ap (λ (k : ℕ). values (k - 1) d.secret (part_of (length d.secret) (sizes (sets_of d)) d.random s) j) (sym (size_at (sets_of d) s))

module _ (d : Deal) (f : InRange d) (g : ℕ) where
  module _ (none : authorised d.policy.required g ≡ false) (other : List ℕ) (e : length other ≡ length d.secret) where
    -- the piece of set s that nobody in the group has
    abbrev lost : ℕ → ℕ
    lost s = lacking d.policy.people d.policy.required g s

    lost_in : (s : ℕ) → 1 ≤ s → s ≤ length (sizes (sets_of d)) → (at (sizes (sets_of d)) s < p) × (1 ≤ lost s) × (lost s ≤ at (sizes (sets_of d)) s)
    lost_in s l h =
        let u : s ≤ length (sets_of d) = omega (arith, sizes-length (sets_of d)) in
        let r = lacks_of_each d.policy.people d.policy.required (known-sets d f) g none s l u in
        let n = size_at (sets_of d) s in
        (omega (arith, n, f.ready.proper.most s l u, f.ready.few), r.0, omega (arith, n, r.1))

    pairing : PairedAll (sizes (sets_of d)) lost d.secret other
    pairing = paired_all_some (sizes (sets_of d)) lost d.secret other lost_in (sym e)

    same-values : (random : List ℕ) → SetsLent d d.secret random → (i : ℕ) → InGroup d g i → (s : ℕ) → s ∈ sets_held d i
        → part_values (sizes (sets_of d)) other (pairing.pairs.there random) s (number_in (set_at d s) i)
        ≡ part_values (sizes (sets_of d)) d.secret random s (number_in (set_at d s) i)
    same-values random r i m s h =
        let w = (who_holds d i s).0 h in
        let q = member-piece (set_at d s) i m.0 (omega (arith, m.1, f.ready.few)) w.2 in
        let n = size_at (sets_of d) s in
        pairing.same random r (s, number_in (set_at d s) i) (record {
          from = w.0;
          to = omega (arith, w.1, sizes-length (sets_of d));
          piece = record {
            least = q.0;
            most = omega (arith, n, q.1);
            unlike = (lacks_of_each d.policy.people d.policy.required (known-sets d f) g none s w.0 w.1).2 i m.0 m.2 w.2;
          };
        })

    same-card : (random : List ℕ) → SetsLent d d.secret random → (i : ℕ) → InGroup d g i
        → set_card_from d other (pairing.pairs.there random) i ≡ set_card_from d d.secret random i
    unfolding sets_held
    same-card random r i m =
        let one = again d d.secret random in
        let two = again d other (pairing.pairs.there random) in
        card_depends two one i refl refl
        (λ s h. values_are two s (number_in (set_at d s) i) ∙ same-values random r i m s h ∙ sym (values_are one s (number_in (set_at d s) i)))

    -- the randomness of the one secret and that of the other, in pairs, one to one, so that everybody in the group has the same card
    pub hidden : (member : ℕ → Type 0) → ((i : ℕ) → member i → InGroup d g i)
        → Hidden (SetsLent d d.secret) (SetsLent d other) (set_card_from d d.secret) (set_card_from d other) member
    hidden member is = record { pairs = pairing.pairs; same = λ random r i m. same-card random r i (is i m) }

  -- ---- all pieces of one set give the secret
  pub set_gives : (s : ℕ) → 1 ≤ s → s ≤ length (sets_of d) → (i : ℕ) → 1 ≤ i → i ≤ length d.secret
      → joined (run (λ j. get_or (set_values d s j) (i - 1) 0) 1 (member_count (set_at d s))) ≡ get_or d.secret (i - 1) 0
  unfolding set_values part_values
  set_gives s a b i l h =
      let n = size_at (sets_of d) s in
      subst
      (λ (k : ℕ). joined (run (λ j. get_or (values (k - 1) d.secret (part_of (length d.secret) (sizes (sets_of d)) d.random s) j) (i - 1) 0) 1 k) ≡ get_or d.secret (i - 1) 0)
      n
      (round_trip_all (sizes (sets_of d)) d.secret d.random f.ready.secret_in f.ready.random_in s a (omega (arith, sizes-length (sets_of d)))
      (omega (arith, n, f.ready.proper.least s a b)) i l h)

  -- ---- a group that has all pieces of a set
  pub sets_give : (authorised d.policy.required g ≡ true)
      ↔ ((s : ℕ) × (1 ≤ s) × (s ≤ length (sets_of d))
      × ((j : ℕ) → 1 ≤ j → j ≤ member_count (set_at d s) → (i : ℕ) × InGroup d g i × (s ∈ sets_held d i) × (number_in (set_at d s) i ≡ j)))
  sets_give = (
    (λ t.
        let c = (contains_one d.policy.people d.policy.required (known-sets d f) g).0 t in (
          c.0,
          c.1,
          c.2,
          λ j l h.
              let r = piece-holder d f c.0 c.1 c.2 j l h in
              let w = (who_holds d r.0 c.0).0 r.3 in
              (r.0, (r.1, r.2, inside-at (set_at d c.0) g c.3 r.0 r.1 (omega (arith, r.2, f.ready.few)) w.2), r.3, r.4),
        )),
    (λ c. surely (λ none.
        let r = lacks_of_each d.policy.people d.policy.required (known-sets d f) g none c.0 c.1 c.2 in
        let h = c.3 (lost none d.secret refl c.0) r.0 r.1 in
        r.2 h.0 h.1.0 h.1.2 ((who_holds d h.0 c.0).0 h.2).2 h.3)),
  )

-- ---- two deals of one policy and number, both in range, whose cards of a person are the same: dealing does the same
deals_same : (d : Deal) (s r s' r' : List ℕ) → InRange (again d s r) → InRange (again d s' r') → (i : ℕ) → 1 ≤ i → i ≤ d.policy.people
    → set_card_from d s r i ≡ set_card_from d s' r' i → (out : List ℕ)
    → (set_dealing (again d s r) i (length out) ≡ set_dealing (again d s' r') i (length out))
    × (set_dealt_into (again d s r) i out ≡ set_dealt_into (again d s' r') i out)
unfolding set_dealt_into set_block_count sets_held
deals_same d s r s' r' a b i l u e out =
    let answer : set_dealing (again d s r) i (length out) ≡ set_dealing (again d s' r') i (length out)
    = only-room (again d s r) a i l u (length out) ∙ sym (only-room (again d s' r') b i l u (length out)) in
    (answer, ap₂ (λ (o : Outcome ℕ) (c : List ℕ). left o c out) answer e)

-- so it does for two secrets of as many words, both in range
pub deal_alike : (d : Deal) → InRange d → (other : List ℕ) → length other ≡ length d.secret → Below other
    → (random paired : List ℕ) → SetsLent d d.secret random → SetsLent d other paired
    → (i : ℕ) → 1 ≤ i → i ≤ d.policy.people → set_card_from d other paired i ≡ set_card_from d d.secret random i → (out : List ℕ)
    → (set_dealing (again d other paired) i (length out) ≡ set_dealing (again d d.secret random) i (length out))
    × (set_dealt_into (again d other paired) i out ≡ set_dealt_into (again d d.secret random) i out)
deal_alike d f other e small random paired r q =
    deals_same d other paired d.secret random (again_in_range d f other paired e small q) (again_in_range d f d.secret random refl f.ready.secret_in r)
