-- Demand 3, proved: each statement by its name in specs/Demand3.antt. Assumes nothing.
use mathlib.Core.Path.{◌≡◌, ap, ◌∙◌}
use mathlib.Core.List.{List, ◌++◌}
use Prim.Native.Nat.{ℕ}
use lib.ListN.{length, drop}
use Rattle.answer.specs.Outcome.{done}
use Rattle.dealing.specs.Deal.{deal_pieces}
use Rattle.dealing.proofs.MadeLaws.{made_in_range}
use Rattle.field.proofs.HidingLaws.{none_favoured}
use Rattle.joining.specs.Joined.{joining}
use Rattle.joining.proofs.Laws.{joins_then, result_writes, refusal_keeps}
use Rattle.demands.specs.Group.{gathered}
use Rattle.demands.specs.Demand3 as demand
use Rattle.demands.proofs.AloneLaws.{alone_lacks}
use Rattle.demands.proofs.ReadLaws.{reads}
use Rattle.demands.proofs.AnswerLaws as answer
use Rattle.demands.proofs.HideLaws as hide
use Rattle.demands.proofs.RowLaws as rows

pub opens : demand.Opens
opens d made g group c pile w out h =
    let f = made_in_range d made in
    let r = reads d f g pile w in
    let e : joining pile (length out) ≡ done (length d.secret)
    = joins_then pile (length out) (length d.secret) (answer.joins d f g group pile r c (length out) h) in
    (e, (result_writes pile out (length d.secret) e).1 ∙ ap (λ (s : List ℕ). s ++ drop (length d.secret) out) (answer.secret-is d f g group pile r c))

pub short : demand.Short
short d made g group n pile w out =
    let f = made_in_range d made in
    let e = answer.short d f g group pile (reads d f g pile w) n (length out) in
    let q = answer.short_refuses (length (gathered d g)) (deal_pieces d) in
    (e, refusal_keeps pile out 20 q.0 q.1 (e ∙ q.2))

pub nobody_alone : demand.NobodyAlone
nobody_alone d made g group one = short d made g group (alone_lacks d made g one)

pub hides : demand.Hides
hides = hide.hidden

pub deals_alike : demand.DealsAlike
deals_alike = hide.deals_alike

pub other_randomness : demand.OtherRandomness
other_randomness d made g group n other e =
    let h = hides d made g group n other e in
    let r = (made_in_range d made).ready.random_in in
    (h.pairs.there d.random, h.pairs.there_in d.random r, λ i m. h.same d.random r i m)

pub favours_none : demand.FavoursNone
favours_none d made g group n other e c = none_favoured (hides d made g group n other e) c

pub in_a_row : demand.InARow
in_a_row d made g holders theirs whole few = rows.row d g holders theirs whole few

pub once_each : demand.OnceEach
once_each = rows.once_each
