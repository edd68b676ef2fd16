-- `packing::unpack` meets its contract: at each return the tests that led there say which line speaks. Assumes nothing.
use mathlib.Core.Path.{◌≡◌, sym, ap, ◌∙◌}
use lib.ListN.{length}
use lib.Seq.{length-take-le}
use Rattle.packing.proofs.DigitLaws.{digits-count}
use Rattle.answer.specs.Outcome.{outcome}
use Rattle.answer.proofs.PassedOn.{passed_on}
use Rattle.packing.specs.Digits.{digits}
use Rattle.packing.specs.Key.{unpacked}
use Rattle.packing.proofs.ByteLaws.{bytes-digits}
use Rattle.packing.proofs.SayLaws.{says-refused, right-words, says-room, says-done, lent-refused, lent-written}
use Rattle.packing.proofs.unpack.Goals as goal

pub returns-in_err-check_words-clause-says : goal.returns-in_err-check_words-clause-says
returns-in_err-check_words-clause-says c =
    ap outcome (passed_on c.from_residual.ensures.1)
    ∙ sym (says-refused c.args.words.now (length c.args.out.now) c.check_words.ensures c.in_err-check_words.was)

pub returns-in_err-check_words-clause-leaves : goal.returns-in_err-check_words-clause-leaves
returns-in_err-check_words-clause-leaves c =
    lent-refused _ _ _ _ _ (says-refused c.args.words.now (length c.args.out.now) c.check_words.ensures c.in_err-check_words.was)

pub returns-then-out-lt16-clause-says : goal.returns-then-out-lt16-clause-says
returns-then-out-lt16-clause-says c =
    ap outcome c.refuse.ensures ∙ sym (says-room c.args.words.now (length c.args.out.now) c.check_words.ensures c.in_ok-check_words.was c.if-out-lt16.true)

pub returns-then-out-lt16-clause-leaves : goal.returns-then-out-lt16-clause-leaves
returns-then-out-lt16-clause-leaves c =
    lent-refused _ _ _ _ _ (says-room c.args.words.now (length c.args.out.now) c.check_words.ensures c.in_ok-check_words.was c.if-out-lt16.true)

pub number_of_words-requires : goal.number_of_words-requires
number_of_words-requires c = right-words c.args.words.now (length c.args.out.now) c.check_words.ensures c.in_ok-check_words.was

pub copy_from_slice-requires : goal.copy_from_slice-requires
copy_from_slice-requires c =
    length-take-le 16 c.args.out.now c.if-out-lt16.false ∙ sym (ap length (c.to_be_bytes-bytes.ensures ∙ bytes-digits c.number_of_words.result) ∙ digits-count 256 16 c.number_of_words.result)

pub returns-clause-says : goal.returns-clause-says
returns-clause-says c =
    sym (says-done c.args.words.now (length c.args.out.now) c.check_words.ensures c.in_ok-check_words.was c.if-out-lt16.false)

pub returns-clause-leaves : goal.returns-clause-leaves
unfolding unpacked
returns-clause-leaves c =
    let words = c.args.words.now in
    let out = c.args.out.now in
    let n = c.number_of_words.result in
    let e : c.copy_from_slice.new.self ≡ digits 256 16 n = c.copy_from_slice.ensures.after ∙ c.to_be_bytes-bytes.ensures ∙ bytes-digits n in
    lent-written words out c.copy_from_slice.new.self (e ∙ ap (digits 256 16) c.number_of_words.ensures) (ap length e ∙ digits-count 256 16 n)
    (says-done words (length out) c.check_words.ensures c.in_ok-check_words.was c.if-out-lt16.false)
