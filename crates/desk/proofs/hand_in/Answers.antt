-- `desk::hand_in` meets its contract: the slots as `handed` left them, beside the clients as they were. Assumes nothing.
use mathlib.Core.Path.{ap, ◌∙◌}
use Rattle.desk.specs.Lines.{with_slots}
use Rattle.desk.proofs.PartLaws.{hand_parts}
use Rattle.desk.proofs.hand_in.Goals as goal

pub returns : goal.returns
returns c =
    let d = c.args.d.now in
    (c.handed.ensures.0, ap (with_slots d) c.handed.ensures.1 ∙ hand_parts d c.args.client c.args.block.now)
