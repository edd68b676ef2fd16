-- `desk::words::accepted` meets its contract: no word is bad. Assumes nothing.
use Rattle.desk.specs.Opens.{bad_word}
use Rattle.desk.proofs.WordLaws.{placed_accepted}
use Rattle.desk.proofs.words.accepted.Goals as goal

pub returns : goal.returns
returns c = placed_accepted (bad_word c.args.o) c.bad_word.ensures c.is_none.ensures
