-- `packing::number::ten_words` meets its contract. The invariant: the digits to come, and behind them those that are cut, are all.
-- Assumes nothing.
use mathlib.Core.Path.{◌≡◌}
use mathlib.Core.List.{◌++◌}
use lib.ListN.{length, drop}
use Rattle.packing.specs.Digits.{digits}
use Rattle.packing.proofs.number.ten_words.Given as goal

abbrev pub invariant-loop-c : goal.invariant-loop-c
invariant-loop-c l = (length l.words ≡ 10) × (digits 8192 l.c l.n ++ drop l.c l.words ≡ digits 8192 10 l.initial.n)
