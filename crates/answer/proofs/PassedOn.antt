-- What a `?` hands on: the refusal of the callee, as it is. Assumes nothing.
use mathlib.Core.Path.{◌≡◌, ap, ◌∙◌}
use Rattle.std.specs.Prelude.{Result, Err, IsErrAnd}
use Rattle.std.proofs.lemmas.Result.{err_from_is_err_and}
use Rattle.answer.specs.declared.Refusal.{Refusal}

-- the answer is this refusal
pub passed_on : {T : Type 0} {x : Result T Refusal} {r : Refusal} → IsErrAnd x (λ e. e ≡ r) → x ≡ Err r
passed_on {x = x} h = let p = err_from_is_err_and x h in p.1 ∙ ap Err p.2
