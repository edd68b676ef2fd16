-- `salvage::mending::mend_at` meets its contract: behind its front, the pile is what `mend` left. Assumes nothing.
use mathlib.Core.Path.{ap, ◌∙◌}
use Rattle.lists.specs.Places.{placed}
use Rattle.salvage.specs.Mended.{rebuilt}
use Rattle.pile.proofs.PileLaws.{part_rest}
use Rattle.salvage.proofs.PartLaws.{part_mended}
use Rattle.salvage.proofs.mending.mend_at.Goals as goal

pub returns : goal.returns
returns c =
    let a = c.args in
    let m = c.mend in
    (m.ensures.0 ∙ ap (λ b. placed (rebuilt b)) (part_rest a.pile.now a.at), part_mended a.pile.now m.new.b a.at m.ensures.1)
