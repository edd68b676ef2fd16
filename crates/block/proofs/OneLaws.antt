-- `opened` tells any two answers apart: equal outcomes, equal answers.
-- Assumes nothing.
use mathlib.Core.Path.{◌≡◌}
use Prim.Native.Nat.{ℕ}
use Rattle.std.specs.Prelude.{Result}
use Rattle.answer.specs.declared.Refusal.{Refusal}
use Rattle.answer.proofs.OneLaws.{answer_one}
use Rattle.block.specs.declared.Words.{Words}
use Rattle.block.specs.Open.{words_of, opened}

-- antt compares two records by their fields: what is shown of `made` at a struct's fields is shown of the struct
abbrev made : ℕ → ℕ → ℕ → ℕ → ℕ → ℕ → ℕ → Words
made mark deal holder people pieces width piece =
    record { mark = mark; deal = deal; holder = holder; people = people; pieces = pieces; width = width; piece = piece }

pub words_one : (h k : Words) → words_of h ≡ words_of k → h ≡ k
words_one h k e =
    let q : made h.mark h.deal h.holder h.people h.pieces h.width h.piece
    ≡ made k.mark k.deal k.holder k.people k.pieces k.width k.piece = cc in
    q

pub opened_one : (x y : Result Words Refusal) → opened x ≡ opened y → x ≡ y
opened_one = answer_one words_of words_one
