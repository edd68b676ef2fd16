-- `joining::join_as` meets its contract: the checks answer and leave the places of the pieces, and past them the secret is written.
-- Assumes nothing.
use mathlib.Core.Path.{◌≡◌, sym, ap, subst, ◌∙◌}
use native.Mathlib.Omega.{arith}
use mathlib.Core.List.{List, ◌++◌}
use Prim.Native.Nat.{ℕ}
use lib.ListN.{length, drop}
use lib.Seq.{length-take-le}
use Rattle.std.specs.Prelude.{Ok}
use Rattle.answer.specs.Outcome.{Answer, outcome, done}
use Rattle.answer.proofs.PassedOn.{passed_on}
use Rattle.joining.specs.Joined.{joining}
use Rattle.joining.proofs.SecretLaws.{places_length}
use Rattle.joining.proofs.SoundLaws.{given-joins}
use Rattle.joining.proofs.WrittenLaws.{full, width_is, width_fits, written, kept}
use Rattle.joining.proofs.join_as.Goals as goal

-- what the checks answered
module _ (pile out : List ℕ) {x : Answer} {w : ℕ} (e : outcome x ≡ joining pile (length out)) (q : x ≡ Ok w) where
  gives : joining pile (length out) ≡ done w
  gives = sym e ∙ ap outcome q

pub returns-in_err-width : goal.returns-in_err-width
returns-in_err-width g c =
    let a = c.args in
    let r = passed_on c.from_residual.ensures.1 in
    let e = sym c.check_join.ensures.says ∙ ap outcome c.in_err-width.was in
    record { says = ap outcome r ∙ sym e; leaves = kept a.pile.now a.out.now _ _ _ e }

pub own_deal-requires : goal.own_deal-requires
own_deal-requires g c =
    let a = c.args in
    (full a.pile.now a.out.now _ (gives a.pile.now a.out.now c.check_join.ensures.says c.in_ok-width.was)).unmixed

pub invariant_of-sorted : goal.invariant_of-sorted
invariant_of-sorted g c =
    let a = c.args in
    let e = gives a.pile.now a.out.now c.check_join.ensures.says c.in_ok-width.was in
    record {
      unmixed = (full a.pile.now a.out.now _ e).unmixed;
      few = (given-joins a.pile.now (length a.out.now) _ e).accepted.few;
      own_is = c.own_deal.ensures;
      places_are = c.in_ok-width.ensures.table;
    }

pub taken-places-requires : goal.taken-places-requires
taken-places-requires g c =
    let a = c.args in
    full a.pile.now a.out.now _ (gives a.pile.now a.out.now c.check_join.ensures.says c.in_ok-width.was)

pub new-joiner-requires : goal.new-joiner-requires
new-joiner-requires g c =
    let a = c.args in
    let f = full a.pile.now a.out.now _ (gives a.pile.now a.out.now c.check_join.ensures.says c.in_ok-width.was) in
    omega (arith, places_length a.pile.now c.taken-places.result.now c.taken-places.ensures, f.pieces_in.1)

pub slice_bounds-write_secret-end : goal.slice_bounds-write_secret-end
slice_bounds-write_secret-end g c =
    let a = c.args in
    width_fits a.pile.now a.out.now _ (gives a.pile.now a.out.now c.check_join.ensures.says c.in_ok-width.was)

pub slice_bounds-write_secret-end-2 : goal.slice_bounds-write_secret-end-2
slice_bounds-write_secret-end-2 g c =
    let a = c.args in
    sym (length-take-le c.in_ok-width.width a.out.now
    (width_fits a.pile.now a.out.now _ (gives a.pile.now a.out.now c.check_join.ensures.says c.in_ok-width.was)))

pub write_secret-requires : goal.write_secret-requires
write_secret-requires g c =
    let a = c.args in
    let e = gives a.pile.now a.out.now c.check_join.ensures.says c.in_ok-width.was in
    record {
      full = full a.pile.now a.out.now _ e;
      places_value = c.taken-places.ensures;
      joins = subst (λ n. g.J.Joiner.joins c.new-joiner.result n)
          (places_length a.pile.now c.taken-places.result.now c.taken-places.ensures) c.new-joiner.ensures;
      words_len = length-take-le c.in_ok-width.width a.out.now (width_fits a.pile.now a.out.now _ e) ∙ width_is a.pile.now a.out.now _ e;
    }

pub returns : goal.returns
returns g c =
    let a = c.args in
    let e = gives a.pile.now a.out.now c.check_join.ensures.says c.in_ok-width.was in
    record {
      says = sym e;
      leaves = ap (λ (l : List ℕ). l ++ drop c.in_ok-width.width a.out.now) c.write_secret.ensures ∙ written a.pile.now a.out.now _ e;
    }
