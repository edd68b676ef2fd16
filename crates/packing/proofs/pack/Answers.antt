-- `packing::pack` meets its contract. Assumes nothing.
use mathlib.Core.Path.{sym, ap, ◌∙◌}
use Prim.Native.Nat.{ℕ}
use mathlib.Core.List.{List}
use mir.Syntax.{w128}
use Rattle.std.specs.Int.{from_be_bytes}
use Rattle.answer.specs.Outcome.{outcome_by}
use Rattle.packing.specs.Digits.{digits}
use Rattle.packing.specs.Key.{packed}
use Rattle.packing.proofs.ByteLaws.{bytes-number}
use Rattle.packing.proofs.SayLaws.{says-secret, says-packed, words-made}
use Rattle.packing.proofs.pack.Goals as goal

pub returns-in-Ok-clause-says : goal.returns-in-Ok-clause-says
returns-in-Ok-clause-says c = sym (says-packed c.args.key.now c.in-Ok.ensures.1.long)

pub returns-in-Ok-clause-words : goal.returns-in-Ok-clause-words
unfolding packed
returns-in-Ok-clause-words c =
    let same = c.in-Ok.ensures.1.same in
    let long = c.in-Ok.ensures.1.long in
    c.ten_words.ensures
    ∙ ap (digits 8192 10) (c.from_be_bytes.ensures ∙ ap (from_be_bytes w128) same ∙ bytes-number c.args.key.now long)
    ∙ sym (words-made c.args.key.now long)

pub returns-in-Err-clause-says : goal.returns-in-Err-clause-says
returns-in-Err-clause-says c = ap (outcome_by (λ (x : List ℕ). 10)) c.refuse.ensures ∙ sym (says-secret c.args.key.now c.in-Err.ensures.1)
