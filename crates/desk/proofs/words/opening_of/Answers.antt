use Rattle.desk.proofs.words.opening_of.Goals as goal

pub returns : goal.returns
returns c = rw (c.word-deal.ensures, c.word-people.ensures, c.word-pieces.ensures, c.word-width.ensures, c.word-year.ensures)
