-- `packing::packed_words` meets its contract: a refused key has no words, and comes to zeros. Assumes nothing.
use Rattle.packing.proofs.SayLaws.{comes-to-zeros}
use Rattle.packing.proofs.packed_words.Goals as goal

pub returns-in-Err : goal.returns-in-Err
returns-in-Err c = comes-to-zeros c.args.key.now c.pack.result c.pack.ensures.says c.in-Err.is
