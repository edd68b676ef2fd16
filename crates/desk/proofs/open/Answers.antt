-- `desk::open` meets its contract: the clients as `opened` left them, beside the slots as they were. Assumes nothing.
use mathlib.Core.Path.{ap, ◌∙◌}
use Rattle.desk.specs.Opens.{words}
use Rattle.desk.proofs.PartLaws.{with_clients, open_parts}
use Rattle.desk.proofs.open.Goals as goal

pub returns : goal.returns
returns c =
    let d = c.args.d.now in
    let new = words c.args.deal c.args.people c.args.pieces c.args.width c.args.year in
    (c.opened.ensures.0, ap (with_clients d) c.opened.ensures.1 ∙ open_parts d c.args.client new)
