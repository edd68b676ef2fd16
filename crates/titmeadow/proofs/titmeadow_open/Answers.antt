-- `titmeadow::titmeadow_open` meets its contract: the seven words in the seven places.
-- Assumes nothing.
use mathlib.Core.Path.{◌≡◌, sym, ap, ◌∙◌}
use mathlib.Core.List.{List}
use Prim.Native.Nat.{ℕ}
use lib.ListN.{drop}
use Rattle.answer.specs.Outcome.{done}
use Rattle.lists.specs.Over.{over}
use Rattle.answer.proofs.LentLaws.{result_writes}
use Rattle.block.specs.Layout.{front_words}
use Rattle.block.specs.Open.{opening, opened, words_of}
use Rattle.block.proofs.Laws.{opens_true}
use Rattle.titmeadow.proofs.RowLaws.{whole-over}
use Rattle.titmeadow.proofs.titmeadow_open.Goals as goal

pub returns-in-Ok-clause-leaves : goal.returns-in-Ok-clause-leaves
returns-in-Ok-clause-leaves c =
    let a = c.args in
    let w = c.in-Ok.h in
    let e : opening a.pile.now ≡ done (words_of w) = sym c.open.ensures ∙ ap opened c.in-Ok.is in
    let h = (opens_true a.pile.now (words_of w) e).1 in
    whole-over (words_of w) a.head.now (sym c.told-head)
    ∙ ap (λ (l : List ℕ). over l a.head.now) h
    ∙ sym (result_writes (opening a.pile.now) _ (front_words a.pile.now) a.head.now e)
