-- `salvage::mending::mend` meets its contract at each of its three ends. Assumes nothing.
use mathlib.Core.Path.{◌∙◌}
use Prim.Native.Nat.{◌+◌, ◌-◌, ◌*◌}
use native.Mathlib.Omega.{arith}
use Rattle.block.proofs.WordLaws.{length-put}
use Rattle.salvage.proofs.MendLaws.{end_none, end_done, end_back, the_one}
use Rattle.salvage.proofs.mending.mend.Goals as goal

pub returns-in_err-i : goal.returns-in_err-i
returns-in_err-i c =
    let r = end_none c.args.b.now c.sole_dirty.ensures c.in_err-i.was in
    (c.from_residual.ensures ∙ r.0, r.1)

pub word-old-requires : goal.word-old-requires
word-old-requires c =
    let o = the_one c.args.b.now c.sole_dirty.ensures c.in_ok-i.was in
    (o.from, omega (arith, o.to))

pub value_for-v-requires : goal.value_for-v-requires
value_for-v-requires c =
    let o = the_one c.args.b.now c.sole_dirty.ensures c.in_ok-i.was in
    record { in_bounds = c.requires; le_i = (o.from, o.to); clean_but = o.clean }

pub put_word-requires : goal.put_word-requires
put_word-requires c =
    let o = the_one c.args.b.now c.sole_dirty.ensures c.in_ok-i.was in
    (o.from, omega (arith, o.to))

pub put_word-requires-in-Some : goal.put_word-requires-in-Some
put_word-requires-in-Some c =
    let o = the_one c.args.b.now c.sole_dirty.ensures c.in_ok-i.was in
    (o.from, rw (c.put_word.ensures, length-put c.args.b.now c.in_ok-i.i c.value_for-v.result) (omega (arith, o.to, c.requires)))

pub returns-in-Some : goal.returns-in-Some
returns-in-Some c =
    end_back c.args.b.now c.sole_dirty.ensures c.in_ok-i.was _ c.value_for-v.ensures _ c.put_word.ensures c.first_wrong.ensures c.in-Some.is
    _ c.word-old.ensures _ c.put_word-in-Some.ensures
    (omega (arith, c.slice_known-1.given (2 * (c.in_ok-i.i - 1) + 1)))

pub returns : goal.returns
returns c =
    end_done c.args.b.now c.sole_dirty.ensures c.in_ok-i.was _ c.value_for-v.ensures _ c.put_word.ensures c.first_wrong.ensures c.in_default.is
