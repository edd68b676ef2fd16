-- `desk::close` meets its contract: the two parts of the state, as `closed` left them, are the state that was meant. Assumes nothing.
use mathlib.Core.Path.{ap₂, ◌∙◌}
use mathlib.Core.List.{List}
use Prim.Native.Nat.{ℕ}
use Rattle.desk.specs.declared.Clients.{Clients}
use Rattle.desk.specs.declared.Desk.{Desk}
use Rattle.desk.proofs.PartLaws.{close_parts}
use Rattle.desk.proofs.close.Goals as goal

pub returns : goal.returns
returns c =
    let d = c.args.d.now in
    let made : Clients → List ℕ → Desk = λ k l. record { slots = l; clients = k } in
    (c.closed.ensures.says, ap₂ made c.closed.ensures.leaves.1 c.closed.ensures.leaves.0 ∙ close_parts d c.args.client)
