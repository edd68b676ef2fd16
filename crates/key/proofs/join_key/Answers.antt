-- `key::join_key` meets its contract: a pile that joins is unpacked, and any other is refused as joining refuses it. Assumes nothing.
use mathlib.Core.Path.{◌≡◌, sym, ap, ◌∙◌}
use mathlib.Core.List.{List}
use Prim.Native.Nat.{ℕ}
use lib.ListN.{length, replicate}
use Rattle.answer.specs.Outcome.{outcome, done, refused, number}
use Rattle.packing.specs.Key.{unpacking, unpacked_into}
use Rattle.joining.specs.Joined.{joining, joined_into}
use Rattle.joining.proofs.SixteenLaws.{secret-front, secret-fits, secret-counts}
use Rattle.answer.proofs.PassedOn.{passed_on}
use Rattle.key.proofs.KeyLaws.{key_unpacks, key_refused, key_left, left-unpacked}
use Rattle.key.proofs.join_key.Goals as goal

pub slice_bounds-words-end : goal.slice_bounds-words-end
slice_bounds-words-end c =
    let says = sym c.join.ensures.says ∙ ap outcome c.in_ok-w.was in
    secret-fits c.args.pile.now _ _ says c.join.ensures.leaves

pub slice_bounds-unpack-end : goal.slice_bounds-unpack-end
slice_bounds-unpack-end c =
    let says = sym c.join.ensures.says ∙ ap outcome c.in_ok-w.was in
    secret-counts c.args.pile.now _ _ says c.join.ensures.leaves

pub returns-in_err-w : goal.returns-in_err-w
returns-in_err-w c =
    let r = c.in_err-w.field-0.0 in
    let e = key_refused c.args.pile.now (length c.args.out.now) _ _ _ (sym c.join.ensures.says ∙ ap outcome c.in_err-w.was) in
    record {
      says = ap outcome (passed_on c.from_residual.ensures.1) ∙ sym e;
      leaves = sym (key_left c.args.pile.now c.args.out.now (refused (number r.kind) r.a r.b) e);
    }

pub returns : goal.returns
returns c =
    let pile : List ℕ = c.args.pile.now in
    let joins = sym c.join.ensures.says ∙ ap outcome c.in_ok-w.was in
    let out = c.args.out.now in
    let w = c.in_ok-w.w in
    let front = secret-front pile w _ joins c.join.ensures.leaves in
    record {
      says = c.unpack.ensures.says ∙ ap (λ (s : List ℕ). unpacking s (length out)) front ∙ sym (key_unpacks pile w (length out) joins);
      leaves = c.unpack.ensures.leaves ∙ ap (λ (s : List ℕ). unpacked_into s out) front ∙ sym (left-unpacked pile w out joins);
    }
