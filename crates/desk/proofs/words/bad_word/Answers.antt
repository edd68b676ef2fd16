-- `desk::words::bad_word` meets its contract: the first word out of its range speaks. Assumes nothing.
use mathlib.Core.Path.{◌≡◌, sym, ap, ◌∙◌}
use mathlib.Core.Bool.{false}
use borrow.Author.Tests.{lt-ltb, le-ltb}
use Rattle.lists.specs.Places.{outside, placed}
use Rattle.desk.proofs.WordLaws.{bad_deal, bad-people, bad-pieces, bad-width, bad-year, bad-none}
use Rattle.desk.proofs.words.bad_word.Goals as goal

pub returns-then-outside : goal.returns-then-outside
returns-then-outside c = ap placed (bad_deal c.args.o (sym c.outside.ensures ∙ c.if-outside.true))

pub returns-then-outside-2 : goal.returns-then-outside-2
returns-then-outside-2 c = let held : outside 32748 c.args.o.deal ≡ false = sym c.outside.ensures ∙ c.if-outside.false in
    ap placed (bad-people c.args.o held (sym c.outside-else-outside.ensures ∙ c.if-outside-2.true))

pub returns-then-outside-3 : goal.returns-then-outside-3
returns-then-outside-3 c = let held : outside 32748 c.args.o.deal ≡ false = sym c.outside.ensures ∙ c.if-outside.false in
    let held_2 : outside 8 c.args.o.people ≡ false = sym c.outside-else-outside.ensures ∙ c.if-outside-2.false in
    ap placed (bad-pieces c.args.o held held_2 (sym c.outside-else-outside-2.ensures ∙ c.if-outside-3.true))

pub returns-then-outside-4 : goal.returns-then-outside-4
returns-then-outside-4 c = let held : outside 32748 c.args.o.deal ≡ false = sym c.outside.ensures ∙ c.if-outside.false in
    let held_2 : outside 8 c.args.o.people ≡ false = sym c.outside-else-outside.ensures ∙ c.if-outside-2.false in
    let held_3 : outside 70 c.args.o.pieces ≡ false = sym c.outside-else-outside-2.ensures ∙ c.if-outside-3.false in
    ap placed (bad-width c.args.o held held_2 held_3 (sym c.outside-else-outside-3.ensures ∙ c.if-outside-4.true))

pub returns-then-o-gt32748 : goal.returns-then-o-gt32748
returns-then-o-gt32748 c = let held : outside 32748 c.args.o.deal ≡ false = sym c.outside.ensures ∙ c.if-outside.false in
    let held_2 : outside 8 c.args.o.people ≡ false = sym c.outside-else-outside.ensures ∙ c.if-outside-2.false in
    let held_3 : outside 70 c.args.o.pieces ≡ false = sym c.outside-else-outside-2.ensures ∙ c.if-outside-3.false in
    let held_4 : outside 16 c.args.o.width ≡ false = sym c.outside-else-outside-3.ensures ∙ c.if-outside-4.false in
    ap placed (bad-year c.args.o held held_2 held_3 held_4 (lt-ltb _ _ c.if-o-gt32748.true))

pub returns-else-o-gt32748 : goal.returns-else-o-gt32748
returns-else-o-gt32748 c = let held : outside 32748 c.args.o.deal ≡ false = sym c.outside.ensures ∙ c.if-outside.false in
    let held_2 : outside 8 c.args.o.people ≡ false = sym c.outside-else-outside.ensures ∙ c.if-outside-2.false in
    let held_3 : outside 70 c.args.o.pieces ≡ false = sym c.outside-else-outside-2.ensures ∙ c.if-outside-3.false in
    let held_4 : outside 16 c.args.o.width ≡ false = sym c.outside-else-outside-3.ensures ∙ c.if-outside-4.false in
    ap placed (bad-none c.args.o held held_2 held_3 held_4 (le-ltb _ _ c.if-o-gt32748.false))
