-- This room's laws, proved: each by its name in specs/Laws.antt. Assumes nothing.
use mathlib.Core.Path.{sym, ap, ◌∙◌}
use mathlib.Core.Bool.{not}
use Rattle.block.proofs.OpenLaws.{one_true}
use Rattle.desk.specs.Opens.{opening_of, alike}
use Rattle.desk.specs.Laws as law
use Rattle.desk.proofs.WordLaws.{alike_same, alike_deal}
use Rattle.desk.proofs.SaysLaws.{front-passed}
use Rattle.desk.proofs.NextLaws as step
use Rattle.desk.proofs.OwnLaws as own
use Rattle.desk.proofs.BlindLaws as unseen

pub own_desk : law.OwnDesk
own_desk = own.own_desk

pub never_over : law.NeverOver
never_over = own.never_over

pub nothing_left : law.NothingLeft
nothing_left = own.nothing_left

pub desk_keeps : law.DeskKeeps
desk_keeps = step.desk_keeps

pub blind : law.Blind
blind c x xs ys k q u = unseen.blind c k x xs ys q u

pub mixed-alike : law.MixedAlike
mixed-alike o c b b' p q =
    let f = front-passed o c b p in
    let same = alike_same (opening_of b) o f.deal in
    ap not (ap (alike (opening_of b')) (sym same) ∙ alike_deal b' b (one_true b' 1 q).2 f.mark)
