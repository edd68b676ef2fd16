-- `packing::number::number_of_words` meets its contract. The invariant: the number of all digits is that of those read and those to come.
-- Assumes nothing.
use mathlib.Core.Path.{◌≡◌}
use lib.ListN.{drop}
use Rattle.packing.specs.Digits.{number_from, number_of}
use Rattle.packing.proofs.number.number_of_words.Given as goal

abbrev pub invariant-loop-word : goal.invariant-loop-word
invariant-loop-word l = number_from 8192 l.n (drop l.word-index l.words) ≡ number_of 8192 l.words
