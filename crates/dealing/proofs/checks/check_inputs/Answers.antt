-- `dealing::checks::check_inputs` meets its contract: at each return the lines before have passed.
-- Assumes nothing.
use mathlib.Core.Path.{◌≡◌, sym, ap, ◌∙◌}
use mathlib.Core.Bool.{Bool, false}
use mathlib.Core.List.{List, [], ◌∷◌}
use Prim.Native.Nat.{ℕ, ◌*◌, ◌≤◌}
use lib.ListN.{length}
use borrow.Author.Tests.{eq-eqb, ne_eqb, lt-ltb, le-ltb}
use Rattle.std.specs.Prelude.{Option, None, position}
use Rattle.answer.specs.Outcome.{checked}
use Rattle.answer.specs.Checks.{Line}
use Rattle.answer.proofs.SaysLaws.{said, Says, whole, passes, speaks, silent}
use Rattle.lists.proofs.PositionLaws.{position_found, position_is, position_not}
use Rattle.lists.specs.Places.{outside}
use Rattle.prime.specs.Prime.{too_large}
use Rattle.block.specs.Deals.{bad_number, bad_year}
use Rattle.dealing.specs.Deal.{Deal, asked_of}
use Rattle.dealing.specs.Given.{deal_in}
use Rattle.dealing.specs.Dealt.{bad_holder, bad_width, bad_secret, bad_count, bad_random, input_lines}
use Rattle.dealing.proofs.checks.check_inputs.Goals as goal

-- the lines that are left after the first, the second .. of this deal, where each word wants so many coefficients
module _ (d : Deal) (holder each : ℕ) where
  abbrev left7 : List Line
  left7 = []

  abbrev left6 : List Line
  left6 = bad_random d.random ∷ left7

  abbrev left5 : List Line
  left5 = bad_count each d.secret d.random ∷ left6

  abbrev left4 : List Line
  left4 = bad_secret d.secret ∷ left5

  abbrev left3 : List Line
  left3 = bad_width d.secret ∷ left4

  abbrev left2 : List Line
  left2 = bad_holder d.policy.people holder ∷ left3

  abbrev left1 : List Line
  left1 = bad_year d.year ∷ left2

  abbrev left0 : List Line
  left0 = bad_number d.number ∷ left1

  -- all lines say what those that are left say
  abbrev Left : List Line → Type 0
  Left rest = Says (said (input_lines (asked_of d holder) each d.secret d.random)) rest

  on0 : Left left0
  unfolding input_lines
  on0 = whole _

  on1 : {b : Bool} → b ≡ outside 32748 d.number → b ≡ false → Left left1
  unfolding bad_number
  on1 e q = passes on0 (sym e ∙ q)

  on2 : Left left1 → d.year ≤ 32748 → Left left2
  unfolding bad_year
  on2 h l = passes h (le-ltb _ _ l)

  on3 : {b : Bool} → Left left2 → b ≡ outside d.policy.people holder → b ≡ false → Left left3
  unfolding bad_holder
  on3 h e q = passes h (sym e ∙ q)

  on4 : {b : Bool} → Left left3 → b ≡ outside 16 (length d.secret) → b ≡ false → Left left4
  unfolding bad_width
  on4 h e q = passes h (sym e ∙ q)

  on5 : {r : Option ℕ} → Left left4 → r ≡ position too_large d.secret → r ≡ None → Left left5
  unfolding bad_secret
  on5 h e none = passes h (position_not _ _ e none)

  on6 : Left left5 → length d.random ≡ length d.secret * each → Left left6
  unfolding bad_count
  on6 h e = passes h (rw (eq-eqb _ _ e))

  on7 : {r : Option ℕ} → Left left6 → r ≡ position too_large d.random → r ≡ None → Left left7
  unfolding bad_random
  on7 h e none = passes h (position_not _ _ e none)

pub returns-then-outside : goal.returns-then-outside
unfolding bad_number
returns-then-outside c = ap checked c.refuse.ensures ∙ speaks (on0 (deal_in c.args.deal) c.args.holder c.args.each) (sym c.outside.ensures ∙ c.if-outside.true)

pub returns-then-year-gt32748 : goal.returns-then-year-gt32748
unfolding bad_year
returns-then-year-gt32748 c =
    let d = deal_in c.args.deal in
    let h1 = on1 d c.args.holder c.args.each c.outside.ensures c.if-outside.false in
    ap checked c.refuse-then-year-gt32748.ensures ∙ speaks h1 (lt-ltb _ _ c.if-year-gt32748.true)

pub returns-then-outside-2 : goal.returns-then-outside-2
unfolding bad_holder
returns-then-outside-2 c =
    let d = deal_in c.args.deal in
    let h1 = on1 d c.args.holder c.args.each c.outside.ensures c.if-outside.false in
    let h2 = on2 d c.args.holder c.args.each h1 c.if-year-gt32748.false in
    ap checked c.refuse-then-outside-2.ensures ∙ speaks h2 (sym c.outside-2.ensures ∙ c.if-outside-2.true)

pub returns-then-outside-3 : goal.returns-then-outside-3
unfolding bad_width
returns-then-outside-3 c =
    let d = deal_in c.args.deal in
    let h1 = on1 d c.args.holder c.args.each c.outside.ensures c.if-outside.false in
    let h2 = on2 d c.args.holder c.args.each h1 c.if-year-gt32748.false in
    let h3 = on3 d c.args.holder c.args.each h2 c.outside-2.ensures c.if-outside-2.false in
    ap checked c.refuse-then-outside-3.ensures ∙ speaks h3 (sym c.outside-3.ensures ∙ c.if-outside-3.true)

pub returns-in-Some : goal.returns-in-Some
unfolding bad_secret
returns-in-Some c =
    let d = deal_in c.args.deal in
    let h1 = on1 d c.args.holder c.args.each c.outside.ensures c.if-outside.false in
    let h2 = on2 d c.args.holder c.args.each h1 c.if-year-gt32748.false in
    let h3 = on3 d c.args.holder c.args.each h2 c.outside-2.ensures c.if-outside-2.false in
    let h4 = on4 d c.args.holder c.args.each h3 c.outside-3.ensures c.if-outside-3.false in
    let e = c.first_large.ensures in
    let q = c.in-Some.is in
    ap checked c.refuse-in-Some.ensures ∙ rw (← position_found too_large c.args.deal.secret.now e q) (speaks h4 (position_is too_large c.args.deal.secret.now e q))

pub returns-then-random-secret : goal.returns-then-random-secret
unfolding bad_count
returns-then-random-secret c =
    let d = deal_in c.args.deal in
    let h1 = on1 d c.args.holder c.args.each c.outside.ensures c.if-outside.false in
    let h2 = on2 d c.args.holder c.args.each h1 c.if-year-gt32748.false in
    let h3 = on3 d c.args.holder c.args.each h2 c.outside-2.ensures c.if-outside-2.false in
    let h4 = on4 d c.args.holder c.args.each h3 c.outside-3.ensures c.if-outside-3.false in
    let h5 = on5 d c.args.holder c.args.each h4 c.first_large.ensures c.in_default.is in
    ap checked c.refuse-then-random-secret.ensures ∙ speaks h5 (rw (ne_eqb _ _ c.if-random-secret.true))

pub returns-in-Some-first_large : goal.returns-in-Some-first_large
unfolding bad_random
returns-in-Some-first_large c =
    let d = deal_in c.args.deal in
    let h1 = on1 d c.args.holder c.args.each c.outside.ensures c.if-outside.false in
    let h2 = on2 d c.args.holder c.args.each h1 c.if-year-gt32748.false in
    let h3 = on3 d c.args.holder c.args.each h2 c.outside-2.ensures c.if-outside-2.false in
    let h4 = on4 d c.args.holder c.args.each h3 c.outside-3.ensures c.if-outside-3.false in
    let h5 = on5 d c.args.holder c.args.each h4 c.first_large.ensures c.in_default.is in
    let h6 = on6 d c.args.holder c.args.each h5 c.if-random-secret.false in
    let e = c.first_large-2.ensures in
    let q = c.in-Some-first_large.is in
    ap checked c.refuse-in-Some-first_large.ensures ∙ rw (← position_found too_large c.args.deal.random.now e q) (speaks h6 (position_is too_large c.args.deal.random.now e q))

pub returns : goal.returns
returns c =
    let d = deal_in c.args.deal in
    let h1 = on1 d c.args.holder c.args.each c.outside.ensures c.if-outside.false in
    let h2 = on2 d c.args.holder c.args.each h1 c.if-year-gt32748.false in
    let h3 = on3 d c.args.holder c.args.each h2 c.outside-2.ensures c.if-outside-2.false in
    let h4 = on4 d c.args.holder c.args.each h3 c.outside-3.ensures c.if-outside-3.false in
    let h5 = on5 d c.args.holder c.args.each h4 c.first_large.ensures c.in_default.is in
    let h6 = on6 d c.args.holder c.args.each h5 c.if-random-secret.false in
    let h7 = on7 d c.args.holder c.args.each h6 c.first_large-2.ensures c.in_default-first_large.is in
    silent h7
