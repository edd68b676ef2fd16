-- `field::differences::join_by_differences` meets its contract: the first numbers, added with alternating signs, are the joined word.
-- Assumes nothing.
use mathlib.Core.Path.{refl, sym, ap, subst, ◌∙◌}
use Rattle.prime.specs.Prime.{Below}
use Rattle.field.specs.Differences.{alternating, by_differences}
use Rattle.field.proofs.DifferenceLaws.{firsts-below, by_differences_lem}
use Rattle.field.proofs.differences.join_by_differences.Goals as goal

pub alternate-requires : goal.alternate-requires
alternate-requires c =
    subst Below (sym c.write_firsts.ensures) (firsts-below _ c.args.row.now refl c.requires)

pub returns : goal.returns
unfolding by_differences
returns c =
    record { says = c.alternate.ensures ∙ ap alternating c.write_firsts.ensures ∙ by_differences_lem c.args.row.now; leaves = c.write_firsts.ensures }
