-- `key::deal_key` meets its contract: what dealing says of the key's words, or of none. Assumes nothing.
use mathlib.Core.Path.{◌≡◌, ap, ◌∙◌}
use mathlib.Core.List.{List}
use Prim.Native.Nat.{ℕ}
use lib.ListN.{length}
use Rattle.planning.specs.Given.{lists_of}
use Rattle.dealing.specs.Deal.{deal_from}
use Rattle.dealing.specs.Dealt.{dealing, dealt_into}
use Rattle.key.specs.Dealt.{key_secret}
use Rattle.key.proofs.KeyLaws.{packed-dealt, none-dealt}
use Rattle.key.proofs.deal_key.Goals as goal
use Rattle.key.proofs.deal_key.Goals.{in-Ok, in-Err}

pub returns : goal.returns
returns c =
    let a = c.args in
    let key : List ℕ = a.key.now in
    let e : c.match-packed.secret.now ≡ key_secret key = elim c.match-packed.branch [
      | in-Ok w ↦ rw w.secret-is (packed-dealt key c.pack-packed.ensures.says c.pack-packed.ensures.words w.in-Ok.is)
      | in-Err w ↦ rw w.secret-is (none-dealt key c.pack-packed.ensures.says w.in-Err.is)
    ] in
    record {
      says = c.deal.ensures.says ∙ ap (λ (s : List ℕ). dealing (deal_from (lists_of a.policy) a.number a.year s a.random.now) a.holder (length a.out.now)) e;
      leaves = c.deal.ensures.leaves ∙ ap (λ (s : List ℕ). dealt_into (deal_from (lists_of a.policy) a.number a.year s a.random.now) a.holder a.out.now) e;
    }
