-- `field::join_word` meets its contract. The invariant: what is summed and what is left to sum make the whole.
-- Assumes nothing.
use native.Mathlib.Omega.{arith}
use lib.ListN.{length, length-append}
use Rattle.std.proofs.lemmas.Slice.Zip.{zip_turn, zip_end}
use Rattle.field.proofs.Table.{summed_turn, summed_end}
use Rattle.field.proofs.join_word.Goals as goal

pub loop-piece-preserved : goal.loop-piece-preserved
loop-piece-preserved c =
    let l = c.loop-piece in
    let ys = c.args.pieces.now in
    let ws = c.args.weights.now in
    let t = zip_turn ys ws l.yielded c.into_iter-piece-iterator.result l.piece-iterator c.next.new.self c.next.result (cc) (cc) l.yielded_by _ c.in-Some.is c.next.ensures.steps in
    summed_turn ys ws (length l.yielded) _ l.sum _ _ (length-append l.yielded _) t.0 (t.2 0) (t.3 0) c.requires.below c.requires.weights l.invariant

pub returns : goal.returns
returns c =
    let l = c.loop-piece in
    let ys = c.args.pieces.now in
    let e = zip_end ys c.args.weights.now l.yielded c.into_iter-piece-iterator.result l.piece-iterator c.next.new.self c.next.result (cc) (cc) l.yielded_by c.in-None.is c.next.ensures.steps in
    summed_end ys (length l.yielded) l.sum (omega (arith, e)) (omega arith) c.requires.below l.invariant
