-- Demands 1 and 3 for salvage (SCOPE 10.1): how the call ends, that joining lets no scratched pile pass, and that cards which lost single
-- words open as they did before. Assumes nothing.
use Rattle.std.specs.Prelude.{ℕ, ◌*◌, ◌/◌, ◌≤◌, ◌<◌, ◌≡◌, List, [], ◌∷◌, ◌++◌, length, take, drop}
use Rattle.lists.specs.Over.{over}
use Rattle.answer.specs.Outcome.{done, refused}
use Rattle.answer.specs.Lent.{no_room}
use Rattle.block.specs.Words.{put_at}
use Rattle.dealing.specs.Deal.{Deal}
use Rattle.dealing.specs.Dealt.{Made}
use Rattle.pile.specs.Blocks.{blocks, In, rest_from, TrueBlocks}
use Rattle.pile.specs.Lines.{torn_pile, long_pile}
use Rattle.joining.specs.Joined.{joining, joined_into}
use Rattle.salvage.specs.Pile.{differing, rebuilt_words, places, salvage_lines, salvaging, salvaged_pile, salvaged_list}
use Rattle.salvage.specs.Laws.{Scratched}
use Rattle.demands.specs.Demand1.{Ends, Refuses}
use Rattle.demands.specs.Group.{Group, Contains, WholeCards}

-- ---- demand 1: in its result or in a refusal, by the order of SCOPE 6.3, with no other refusal, and a refusal changes neither pile nor list
abbrev pub SalvageEnds : Type 0
SalvageEnds = (pile : List ℕ) (numbers : ℕ)
    → Ends (salvage_lines pile numbers) (length (rebuilt_words pile)) (salvaging pile numbers)
    × Refuses (salvage_lines pile numbers) (salvaging pile numbers)

-- Salvage looks at the pile's length, and then at the room: a place of two numbers for each block.
abbrev pub SalvageOrder : Type 0
SalvageOrder = (pile : List ℕ) (numbers : ℕ)
    → salvage_lines pile numbers ≡ torn_pile pile ∷ long_pile pile ∷ no_room (blocks pile) (blocks pile) (numbers / 2) ∷ []

abbrev pub SalvageKeeps : Type 0
SalvageKeeps = (pile list : List ℕ) (m a b : ℕ) → salvaging pile (length list) ≡ refused m a b
    → (salvaged_pile pile (length list) ≡ pile) × (salvaged_list pile list ≡ list)

-- A result is how many words of the lent pile differ before and after the call, and the list has their places over its front.
abbrev pub SalvageReports : Type 0
SalvageReports = (pile list : List ℕ) (n : ℕ) → salvaging pile (length list) ≡ done n
    → let changed = differing pile (salvaged_pile pile (length list)) (blocks pile) in
    (n ≡ length changed) × (salvaged_list pile list ≡ over (places changed) list)

-- ---- Joining lets no such pile pass: of true blocks, at most 560, of which some lost a word, the answer is UNREAD with the first such block
-- and the word that it lost.
abbrev pub ScratchedUnread : Type 0
ScratchedUnread = (good lost : List ℕ) (room a i v : ℕ) → TrueBlocks good → blocks good ≤ 560 → Scratched good lost
    → In good a → 1 ≤ i → i ≤ 256 → 32748 < v
    → ((b : ℕ) → 1 ≤ b → b < a → take 512 (rest_from lost b) ≡ take 512 (rest_from good b))
    → take 512 (rest_from lost a) ≡ put_at (take 512 (rest_from good a)) i v
    → joining lost room ≡ refused 15 a i

-- ---- demand 3: whole cards of a group's members, of which some blocks lost one word each
-- Salvage answers with how many words were lost, and the pile is that of the whole cards, byte for byte.
abbrev pub CardsBack : Type 0
CardsBack = (d : Deal) → Made d → (g : ℕ) (pile : List ℕ) → WholeCards d g pile
    → (lost : List ℕ) → Scratched pile lost
    → (list : List ℕ) → 2 * blocks pile ≤ length list
    → (salvaging lost (length list) ≡ done (length (differing lost pile (blocks pile))))
    × (salvaged_pile lost (length list) ≡ pile)

-- So if the group is authorised, the salvaged pile joins to the dealt secret, as `Opens` has it.
abbrev pub SalvagedOpens : Type 0
SalvagedOpens = (d : Deal) → Made d → (g : ℕ) → Group d g → Contains d g
    → (pile : List ℕ) → WholeCards d g pile
    → (lost : List ℕ) → Scratched pile lost
    → (list : List ℕ) → 2 * blocks pile ≤ length list
    → (out : List ℕ) → length d.secret ≤ length out
    → (joining (salvaged_pile lost (length list)) (length out) ≡ done (length d.secret))
    × (joined_into (salvaged_pile lost (length list)) out ≡ d.secret ++ drop (length d.secret) out)
