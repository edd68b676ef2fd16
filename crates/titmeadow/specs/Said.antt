-- What the exported functions answer: three numbers, and what they leave in the buffers of fixed size that are lent to them.
-- Assumes nothing.
use Rattle.std.specs.Prelude.{List, ℕ}
use Rattle.answer.specs.Outcome.{Outcome, done, refused}
use Rattle.answer.specs.Lent.{left}
use Rattle.planning.specs.Groups.{groups}
use Rattle.planning.specs.Policy.{Policy}
use Rattle.planning.specs.Planned.{planned}
use Rattle.holdings.specs.Judged.{Verdict, suits, too_few, too_many}
use Rattle.block.specs.Layout.{front_words}
use Rattle.block.specs.Open.{opening}
use Rattle.packing.specs.Key.{packed, packing}
use Rattle.titmeadow.specs.declared.Said.{Said}

-- a result: number 0, its value in a; a refusal: its number and its two places
abbrev pub said : Outcome ℕ → Said
said (done v) = record { number = 0; a = v; b = 0 }
said (refused m a b) = record { number = m; a = a; b = b }

-- a verdict on a holding list: number 0; a is the first group for which the list fails, 0 where it suits; b is 1 where that group is
-- authorised and has too few pieces, 2 where it is not and has enough
abbrev pub told : Outcome Verdict → Said
told (done suits) = record { number = 0; a = 0; b = 0 }
told (done (too_few g)) = record { number = 0; a = g; b = 1 }
told (done (too_many g)) = record { number = 0; a = g; b = 2 }
told (refused m a b) = record { number = m; a = a; b = b }

-- the outcome of opening, where the result is how many words were written: seven
abbrev pub seven : {A : Type 0} → Outcome A → Outcome ℕ
seven (done v) = done 7
seven (refused m a b) = refused m a b

-- the group of each piece over the front of what was lent; refused, nothing changes
abbrev pub groups_into : Policy → List ℕ → List ℕ
groups_into p old = left (planned p) (groups p.people p.required) old

-- words 1 to 7 in the seven places that were lent; refused, nothing changes
abbrev pub head_into : List ℕ → List ℕ → List ℕ
head_into pile old = left (opening pile) (front_words pile) old

-- what a call leaves where its result fills all that was lent: that, or, refused, what there was
abbrev pub filled : {A : Type 0} → Outcome A → List ℕ → List ℕ → List ℕ
filled (done v) new old = new
filled (refused m a b) new old = old

-- the ten words of a key in the ten places that were lent; refused, nothing changes
abbrev pub words_into : List ℕ → List ℕ → List ℕ
words_into key old = filled (packing key) (packed key) old
