-- The clash rule and families of groups (000, Theorem 2), where refusals 1 to 5 and 22 pass.
-- Assumes nothing.
use mathlib.Core.Path.{◌≡◌, sym, ◌∙◌}
use mathlib.Core.Bool.{true, false}
use Prim.Native.Nat.{ℕ}
use Rattle.lists.specs.Places.{found}
use Rattle.planning.specs.Sets.{inside}
use Rattle.planning.specs.Groups.{authorised}
use Rattle.planning.specs.Policy.{Policy}
use Rattle.planning.specs.Planned.{around_place, clash_place, clash}
use Rattle.planning.specs.Laws.{Listed, Suits}
use Rattle.lists.proofs.Truth.{never}
use Rattle.lists.proofs.SomeLaws.{some_in, in_some, some-place, none_found}
use Rattle.planning.proofs.HoldingLaws.{authorised_more, authorised-required}

module _ (p : Policy) (l : Listed p) where
  -- where a required set lies inside a forbidden one, no family suits, whatever it is made of
  pub clash-none : (clash p.required p.forbidden).given ≡ true → (F : ℕ → Type 0) → Suits p F → ⊥
  unfolding clash clash_place
  clash-none t F suits =
      let r = some_in (λ s. found (around_place p.forbidden s)) p.required (some-place (λ s. found (around_place p.forbidden s)) p.required ∙ t) in
      let f = some_in (inside r.0) p.forbidden (some-place (inside r.0) p.forbidden ∙ r.2) in
      suits.forbidden_out f.0 f.1
      (suits.larger_in r.0 f.0 (l.known-required r.0 r.1) (l.known-forbidden f.0 f.1) f.2 (suits.required_in_lem r.0 r.1))

  -- where none does, the authorised groups suit
  pub authorised-suits : (clash p.required p.forbidden).given ≡ false → Suits p (λ g. authorised p.required g ≡ true)
  unfolding clash clash_place authorised
  authorised-suits e = record {
    required_in_lem = authorised-required p.required;
    forbidden_out = λ s m t.
        let r = some_in (λ (x : ℕ). inside x s) p.required t in
        never (none_found (λ x. found (around_place p.forbidden x)) p.required e r.0 r.1)
        (sym (some-place (inside r.0) p.forbidden) ∙ in_some (inside r.0) p.forbidden s m r.2);
    larger_in = λ g h _ _ i t. authorised_more p.required g h t i;
  }
