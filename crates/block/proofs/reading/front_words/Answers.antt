-- `block::reading::front_words` meets its contract: seven words read. Assumes nothing.
use mathlib.Core.List.{[], ◌∷◌}
use Rattle.block.proofs.reading.front_words.Goals as goal

pub returns : goal.returns
returns c = λ i.
    c.word.ensures i
    ∷ c.word-2.ensures i
    ∷ c.word-3.ensures i
    ∷ c.word-4.ensures i
    ∷ c.word-5.ensures i
    ∷ c.word-6.ensures i
    ∷ c.word-7.ensures i
    ∷ []
