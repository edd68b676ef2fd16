-- A group that lacks a piece learns nothing: field's pairing of randomness, for that piece, leaves every member's card as it was.
-- Assumes nothing.
use Prim.Native.Nat.{ℕ, ◌≤◌}
use mathlib.Core.Path.{◌≡◌, refl, sym, ap₂, subst, ◌∙◌}
use mathlib.Core.Bool.{true, false}
use mathlib.Core.List.{List}
use mathlib.Core.Logic.{◌≢◌}
use native.Mathlib.Omega.{arith}
use lib.ListN.{length}
use Rattle.answer.specs.Outcome.{Outcome}
use Rattle.answer.specs.Lent.{left}
use Rattle.field.specs.Pieces.{Paired}
use Rattle.field.proofs.Laws.{paired_some}
use Rattle.lists.specs.Some.{◌∈◌}
use Rattle.planning.specs.Groups.{holds}
use Rattle.lists.proofs.Truth.{never}
use Rattle.dealing.specs.Deal.{Deal, again, deal_pieces, held_by, piece_values, card}
use Rattle.dealing.specs.Dealt.{Made, dealing, dealt_into, block_count}
use Rattle.dealing.proofs.HeldLaws.{card_depends, held_in_lem}
use Rattle.dealing.proofs.MadeLaws.{InRange, made_in_range, only-room, again_in_range}
use Rattle.demands.specs.Group.{Group, Contains, Member}
use Rattle.demands.specs.Demand3.{LentFor, card_from, HiddenFrom, DealsAlike}
use Rattle.demands.proofs.GroupLaws.{one_lost}

-- a person who does not hold piece m holds other pieces
pub other-piece : (d : Deal) (i m j : ℕ) → holds d.policy.people d.policy.required i m ≡ false → j ∈ held_by d i → j ≢ m
other-piece d i m j none h e =
    never none (subst (λ (x : ℕ). holds d.policy.people d.policy.required i x ≡ true) e (held_in_lem d i j h).2)

-- two deals of one policy and number, both in range, whose cards of a person are the same: dealing does the same
deals_same : (d : Deal) (s r s' r' : List ℕ) → InRange (again d s r) → InRange (again d s' r') → (i : ℕ) → 1 ≤ i → i ≤ d.policy.people
    → card (again d s r) i ≡ card (again d s' r') i → (out : List ℕ)
    → (dealing (again d s r) i (length out) ≡ dealing (again d s' r') i (length out)) × (dealt_into (again d s r) i out ≡ dealt_into (again d s' r') i out)
unfolding dealt_into block_count held_by
deals_same d s r s' r' a b i l u e out =
    let answer : dealing (again d s r) i (length out) ≡ dealing (again d s' r') i (length out)
    = only-room (again d s r) a i l u (length out) ∙ sym (only-room (again d s' r') b i l u (length out)) in
    (answer, ap₂ (λ (o : Outcome ℕ) (c : List ℕ). left o c out) answer e)

module _ (d : Deal) (made : Made d) (g : ℕ) (group : Group d g) (none : ¬ Contains d g) (other : List ℕ) (e : length other ≡ length d.secret) where
  abbrev in_range : InRange d
  in_range = made_in_range d made

  -- the piece that no member holds
  lost : (m : ℕ) × (1 ≤ m) × (m ≤ deal_pieces d) × ((i : ℕ) → Member d g i → holds d.policy.people d.policy.required i m ≡ false)
  lost = one_lost d g in_range.ready.few group none

  pairing : Paired (deal_pieces d) lost.0 d.secret other
  pairing = paired_some (deal_pieces d) lost.0 d.secret other (omega (arith, in_range.ready.most)) lost.1 lost.2 (sym e)

  same-card : (random : List ℕ) → LentFor d d.secret random → (i : ℕ) → Member d g i
      → card_from d other (pairing.pairs.there random) i ≡ card_from d d.secret random i
  unfolding deal_pieces piece_values held_by
  same-card random r i m =
      card_depends (again d other (pairing.pairs.there random)) (again d d.secret random) i refl refl
      (λ j h. let b = held_in_lem d i j h in pairing.same random r j (record { least = b.0; most = b.1; unlike = other-piece d i lost.0 j (lost.3 i m) h }))

  pub hidden : HiddenFrom d g other
  hidden = record { pairs = pairing.pairs; same = same-card }

pub deals_alike : DealsAlike
deals_alike d made g other e h small random r i m out =
    let f = made_in_range d made in
    deals_same d other (h.pairs.there random) d.secret random
    (again_in_range d f other (h.pairs.there random) e small (h.pairs.there_in random r))
    (again_in_range d f d.secret random refl f.ready.secret_in r)
    i m.least m.most (h.same random r i m) out
