-- `triangle::table::stored_line` meets its contract: antt makes the two rows of each line and finds the stored one to be them.
-- Assumes nothing.
use mathlib.Core.Path.{refl}
use native.Mathlib.Omega.{arith}
use Rattle.prime.specs.Prime.{minus}
use Rattle.triangle.proofs.RowLaws.{under, made, made-line}
use Rattle.triangle.proofs.table.stored_line.Goals as goal

pub returns-in_default : goal.returns-in_default
unfolding under made minus
returns-in_default c l = made-line _ 35 _ (omega arith) refl

pub returns-in-1 : goal.returns-in-1
unfolding under made minus
returns-in-1 c l = made-line _ 1 _ (omega arith) refl

pub returns-in-2 : goal.returns-in-2
unfolding under made minus
returns-in-2 c l = made-line _ 2 _ (omega arith) refl

pub returns-in-3 : goal.returns-in-3
unfolding under made minus
returns-in-3 c l = made-line _ 3 _ (omega arith) refl

pub returns-in-4 : goal.returns-in-4
unfolding under made minus
returns-in-4 c l = made-line _ 4 _ (omega arith) refl

pub returns-in-5 : goal.returns-in-5
unfolding under made minus
returns-in-5 c l = made-line _ 5 _ (omega arith) refl

pub returns-in-6 : goal.returns-in-6
unfolding under made minus
returns-in-6 c l = made-line _ 6 _ (omega arith) refl

pub returns-in-7 : goal.returns-in-7
unfolding under made minus
returns-in-7 c l = made-line _ 7 _ (omega arith) refl

pub returns-in-8 : goal.returns-in-8
unfolding under made minus
returns-in-8 c l = made-line _ 8 _ (omega arith) refl

pub returns-in-9 : goal.returns-in-9
unfolding under made minus
returns-in-9 c l = made-line _ 9 _ (omega arith) refl

pub returns-in-10 : goal.returns-in-10
unfolding under made minus
returns-in-10 c l = made-line _ 10 _ (omega arith) refl

pub returns-in-11 : goal.returns-in-11
unfolding under made minus
returns-in-11 c l = made-line _ 11 _ (omega arith) refl

pub returns-in-12 : goal.returns-in-12
unfolding under made minus
returns-in-12 c l = made-line _ 12 _ (omega arith) refl

pub returns-in-13 : goal.returns-in-13
unfolding under made minus
returns-in-13 c l = made-line _ 13 _ (omega arith) refl

pub returns-in-14 : goal.returns-in-14
unfolding under made minus
returns-in-14 c l = made-line _ 14 _ (omega arith) refl

pub returns-in-15 : goal.returns-in-15
unfolding under made minus
returns-in-15 c l = made-line _ 15 _ (omega arith) refl

pub returns-in-16 : goal.returns-in-16
unfolding under made minus
returns-in-16 c l = made-line _ 16 _ (omega arith) refl

pub returns-in-17 : goal.returns-in-17
unfolding under made minus
returns-in-17 c l = made-line _ 17 _ (omega arith) refl

pub returns-in-18 : goal.returns-in-18
unfolding under made minus
returns-in-18 c l = made-line _ 18 _ (omega arith) refl

pub returns-in-19 : goal.returns-in-19
unfolding under made minus
returns-in-19 c l = made-line _ 19 _ (omega arith) refl

pub returns-in-20 : goal.returns-in-20
unfolding under made minus
returns-in-20 c l = made-line _ 20 _ (omega arith) refl

pub returns-in-21 : goal.returns-in-21
unfolding under made minus
returns-in-21 c l = made-line _ 21 _ (omega arith) refl

pub returns-in-22 : goal.returns-in-22
unfolding under made minus
returns-in-22 c l = made-line _ 22 _ (omega arith) refl

pub returns-in-23 : goal.returns-in-23
unfolding under made minus
returns-in-23 c l = made-line _ 23 _ (omega arith) refl

pub returns-in-24 : goal.returns-in-24
unfolding under made minus
returns-in-24 c l = made-line _ 24 _ (omega arith) refl

pub returns-in-25 : goal.returns-in-25
unfolding under made minus
returns-in-25 c l = made-line _ 25 _ (omega arith) refl

pub returns-in-26 : goal.returns-in-26
unfolding under made minus
returns-in-26 c l = made-line _ 26 _ (omega arith) refl

pub returns-in-27 : goal.returns-in-27
unfolding under made minus
returns-in-27 c l = made-line _ 27 _ (omega arith) refl

pub returns-in-28 : goal.returns-in-28
unfolding under made minus
returns-in-28 c l = made-line _ 28 _ (omega arith) refl

pub returns-in-29 : goal.returns-in-29
unfolding under made minus
returns-in-29 c l = made-line _ 29 _ (omega arith) refl

pub returns-in-30 : goal.returns-in-30
unfolding under made minus
returns-in-30 c l = made-line _ 30 _ (omega arith) refl

pub returns-in-31 : goal.returns-in-31
unfolding under made minus
returns-in-31 c l = made-line _ 31 _ (omega arith) refl

pub returns-in-32 : goal.returns-in-32
unfolding under made minus
returns-in-32 c l = made-line _ 32 _ (omega arith) refl

pub returns-in-33 : goal.returns-in-33
unfolding under made minus
returns-in-33 c l = made-line _ 33 _ (omega arith) refl

pub returns-in-34 : goal.returns-in-34
unfolding under made minus
returns-in-34 c l = made-line _ 34 _ (omega arith) refl
