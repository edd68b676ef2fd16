-- `titmeadow::titmeadow_pack` meets its contract: the ten words in the ten places.
-- Assumes nothing.
use mathlib.Core.Path.{◌≡◌, sym, ap, ◌∙◌}
use Prim.Native.Nat.{ℕ}
use Rattle.std.specs.Prelude.{IfOk}
use Rattle.std.proofs.lemmas.Result.{IfOk-at_ok}
use Rattle.answer.specs.Outcome.{Outcome, outcome_by, done}
use Rattle.packing.specs.Key.{packed, packing, packed_words}
use Rattle.packing.proofs.SayLaws.{packs}
use Rattle.titmeadow.specs.Said.{filled}
use Rattle.titmeadow.proofs.titmeadow_pack.Goals as goal

pub returns-in-Ok-clause-leaves : goal.returns-in-Ok-clause-leaves
returns-in-Ok-clause-leaves c =
    let a = c.args in
    let r = packs a.key.now _ (sym c.pack.ensures.says ∙ ap (outcome_by (λ _. 10)) c.in-Ok.is) in
    IfOk-at_ok (λ ws. ws ≡ packed_words a.key.now) c.in-Ok.is c.pack.ensures.words
    ∙ r.1 ∙ sym (ap (λ (o : Outcome ℕ). filled o (packed a.key.now) a.words.now) r.0)
