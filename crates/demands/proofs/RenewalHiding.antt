-- The old cards of one group and the new cards of another, each lacking a piece, hide the secret: field's pairing of pairs of randomness leaves all
-- these cards as they were. Assumes nothing.
use Prim.Native.Nat.{ℕ, ◌-◌, ◌≤◌}
use mathlib.Core.Path.{◌≡◌, refl, sym, ap, ◌∙◌}
use mathlib.Core.Bool.{false}
use mathlib.Core.Logic.{◌⊎◌, inl, inr}
use mathlib.Core.List.{List}
use native.Mathlib.Omega.{arith}
use lib.ListN.{length, replicate}
use Rattle.lists.specs.Some.{◌∈◌}
use Rattle.prime.specs.Prime.{Below}
use Rattle.field.specs.Hiding.{Hidden}
use Rattle.field.specs.Pieces.{Other}
use Rattle.field.specs.Renewing.{either_values, PairedTwo}
use Rattle.field.proofs.Laws.{paired_two_some}
use Rattle.planning.specs.Groups.{holds}
use Rattle.adding.specs.declared.Pair.{Pair}
use Rattle.dealing.specs.Deal.{Deal, again, deal_pieces, held_by, piece_values, card}
use Rattle.dealing.proofs.HeldLaws.{card_depends, held_in_lem}
use Rattle.dealing.proofs.MadeLaws.{InRange, made_in_range, again_in_range, in_range_made}
use Rattle.demands.specs.Group.{Group, Contains, Member}
use Rattle.demands.specs.Demand3.{card_from}
use Rattle.demands.specs.Renewal.{Renewal, new_card, renewed, Lent, seen, Sees}
use Rattle.demands.proofs.GroupLaws.{one_lost}
use Rattle.demands.proofs.HideLaws.{other-piece}
use Rattle.demands.proofs.RenewalBlocks.{zero_deal, sum-values}
use Rattle.demands.proofs.RenewalCards.{by_zeros, new_card_lem}

-- a person who does not hold piece m holds other pieces of 1 to k
others : (d : Deal) (i m : ℕ) → holds d.policy.people d.policy.required i m ≡ false → (j : ℕ) → j ∈ held_by d i → Other (deal_pieces d) m j
others d i m none j h = let b = held_in_lem d i j h in record { least = b.0; most = b.1; unlike = other-piece d i m j none h }

module _ (d : Deal) (own : Pair) (random : List ℕ) (new : Pair) (r : Renewal d (zero_deal d own random) new) where
  abbrev z : Deal
  z = zero_deal d own random

  old_in : InRange d
  old_in = made_in_range d r.old

  zero_in : InRange z
  zero_in = made_in_range z r.zero

  -- ---- any secret of as many words, dealt and renewed with any randomness
  module _ (secret : List ℕ) (e : length secret ≡ length d.secret) (b : Below secret) (q : List ℕ × List ℕ) (x : Lent d secret q) where
    again_renewal : Renewal (again d secret q.0) (again z (replicate (length secret) 0) q.1) new
    unfolding deal_pieces
    again_renewal = record {
      old = in_range_made (again d secret q.0) (again_in_range d old_in secret q.0 e b x.0);
      zero =
          in_range_made (again z (replicate (length secret) 0) q.1)
          (again_in_range z zero_in (replicate (length secret) 0) q.1
          (ap (λ (n : ℕ). length {A = ℕ} (replicate n 0)) e) (rw e zero_in.ready.secret_in) x.1);
      policy = refl;
      zeros = refl;
      number_in_lem = r.number_in_lem;
      year_in = r.year_in;
      unlike-old = r.unlike-old;
      unlike-zero = r.unlike-zero;
    }

    abbrev sum : Deal
    sum = renewed (again d secret q.0) (again z (replicate (length secret) 0) q.1) new

    -- the new card is that of the renewed deal,
    is-card : (i : ℕ) → 1 ≤ i → i ≤ d.policy.people
        → new_card (again d secret q.0) (again z (replicate (length secret) 0) q.1) new i ≡ card sum i
    is-card i l u = new_card_lem (again d secret q.0) (again z (replicate (length secret) 0) q.1) new again_renewal i l u

    -- whose values are the sums
    is_sum : (j : ℕ) → piece_values sum j ≡ either_values (deal_pieces d - 1) secret q (inr j)
    unfolding piece_values deal_pieces
    is_sum j = sym (sum-values (again d secret q.0) own q.1 new again_renewal j)

  -- ---- the pairing
  module _ (g h : ℕ) (group : Group d g) (none : ¬ Contains d g) (group' : Group d h) (none' : ¬ Contains d h)
      (other : List ℕ) (e : length other ≡ length d.secret) (b : Below other) where
    lost : (m : ℕ) × (1 ≤ m) × (m ≤ deal_pieces d) × ((i : ℕ) → Member d g i → holds d.policy.people d.policy.required i m ≡ false)
    lost = one_lost d g old_in.ready.few group none

    lost' : (m : ℕ) × (1 ≤ m) × (m ≤ deal_pieces d) × ((i : ℕ) → Member d h i → holds d.policy.people d.policy.required i m ≡ false)
    lost' = one_lost d h old_in.ready.few group' none'

    pairing : PairedTwo (deal_pieces d) lost.0 lost'.0 d.secret other
    pairing =
        paired_two_some (deal_pieces d) lost.0 lost'.0 d.secret other (omega (arith, old_in.ready.most))
        lost.1 lost.2 lost'.1 lost'.2 (sym e) old_in.ready.secret_in b

    module _ (q : List ℕ × List ℕ) (x : Lent d d.secret q) where
      abbrev q' : List ℕ × List ℕ
      q' = pairing.pairs.there q

      old-same : (i : ℕ) → Member d g i → card_from d other q'.0 i ≡ card_from d d.secret q.0 i
      unfolding deal_pieces piece_values held_by
      old-same i m =
          card_depends (again d other q'.0) (again d d.secret q.0) i refl refl
          (λ j has. pairing.same q x (inl j) (others d i lost.0 (lost.3 i m) j has))

      new_same : (i : ℕ) → Member d h i → seen d z new other q' (inr i) ≡ seen d z new d.secret q (inr i)
      unfolding held_by
      new_same i m =
          let x' = pairing.pairs.there_in q x in
          is-card other e b q' x' i m.least m.most
          ∙ card_depends (sum other e b q' x') (sum d.secret refl old_in.ready.secret_in q x) i refl refl
          (λ j has.
          is_sum other e b q' x' j
          ∙ pairing.same q x (inr j) (others d i lost'.0 (lost'.3 i m) j has)
          ∙ sym (is_sum d.secret refl old_in.ready.secret_in q x j))
          ∙ sym (is-card d.secret refl old_in.ready.secret_in q x i m.least m.most)

      all_same : (i : ℕ ⊎ ℕ) → Sees d g h i → seen d z new other q' i ≡ seen d z new d.secret q i
      all_same (inl i) m = old-same i m
      all_same (inr i) m = new_same i m

    hidden_zeros : Hidden (Lent d d.secret) (Lent d other) (seen d z new d.secret) (seen d z new other) (Sees d g h)
    hidden_zeros = record { pairs = pairing.pairs; same = all_same }

pub hidden : (d z : Deal) (new : Pair) → Renewal d z new → (g h : ℕ) → Group d g → ¬ Contains d g → Group d h → ¬ Contains d h
    → (other : List ℕ) → length other ≡ length d.secret → Below other
    → Hidden (Lent d d.secret) (Lent d other) (seen d z new d.secret) (seen d z new other) (Sees d g h)
hidden d z new r g h group none group' none' other e b =
    by_zeros d new (λ (x : Deal). Hidden (Lent d d.secret) (Lent d other) (seen d x new d.secret) (seen d x new other) (Sees d g h))
    (λ own random s. hidden_zeros d own random new s g h group none group' none' other e b) z r
