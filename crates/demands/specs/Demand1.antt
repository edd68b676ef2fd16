-- Demand 1 (SCOPE 10.1): whatever a call is given, it ends in its result or in the refusal that SCOPE 6 has for that input, and a refusal
-- writes nothing. No slot above 32748 gets into a sum. Assumes nothing.
use Rattle.std.specs.Prelude.{ℕ, ◌-◌, ◌*◌, ◌%◌, ◌≤◌, ◌<◌, ◌≡◌, true, ◌⊎◌, ◌≢◌, length}
use mathlib.Core.List.{List, [], ◌∷◌, ◌++◌, flat_map}
use Rattle.lists.specs.Run.{run}
use Rattle.lists.specs.Some.{◌∈◌}
use Rattle.lists.specs.Laws.{IsFirst}
use Rattle.answer.specs.Outcome.{Answer}
use Rattle.answer.specs.Outcome.{Outcome, outcome, done, refused, number}
use Rattle.answer.specs.Checks.{Line, numbers}
use Rattle.answer.specs.Lent.{no_room}
use Rattle.answer.specs.Laws.{Passed}
use Rattle.prime.specs.Prime.{Below}
use Rattle.planning.specs.Groups.{piece_count}
use Rattle.planning.specs.Policy.{Policy}
use Rattle.planning.specs.Planned.{people, long, strangers, nobody, opens, lone, clash, plan_lines, planned}
use Rattle.block.specs.Layout.{front_words}
use Rattle.block.specs.Open.{above, torn, unread, check, header, block_lines, opening, TrueBlock}
use Rattle.block.specs.Laws.{Refusable}
use Rattle.dealing.specs.Deal.{Deal, deal_pieces}
use Rattle.block.specs.Deals.{bad_number, bad_year}
use Rattle.dealing.specs.Dealt.{bad_holder, bad_width, bad_secret, bad_count, bad_random, block_count, deal_lines, dealing, dealt_into}
use Rattle.pile.specs.Blocks.{blocks, rest_from, word, In}
use Rattle.pile.specs.Lines.{torn_pile, long_pile, every_block}
use Rattle.joining.specs.Pile.{own_width}
use Rattle.joining.specs.Checks.{mixed, conflict, short}
use Rattle.joining.specs.Joined.{join_lines, joining, joined_into}
use Rattle.joining.specs.Laws.{JoinPromised}

-- A call is planning::plan, dealing::deal, joining::join, joining::join_by_differences or block::open; specs/Readings has the others. None has
-- a `requires`, so each takes every input; that it ends is what proving a function shows; and its contract says that its answer is `planned`,
-- `dealing`, `joining` or `opening` of its arguments: `joining` of all three joiners.

-- ---- in its result or in a refusal
-- the refusal m, a, b is that of the first of the lines that is given: those before it pass
pub record Speaks (ls : List Line) (m a b : ℕ) : Type 0 where
  pub before : List Line
  pub line : Line
  pub after : List Line
  pub lines : ls ≡ before ++ line ∷ after
  pub passed : Passed before
  pub given : line.given ≡ true
  pub number_is : number line.kind ≡ m
  pub a-is : line.a ≡ a
  pub b-is : line.b ≡ b

-- the outcome o is the result v, every line having passed; or the refusal of the first line that is given
abbrev pub Ends : {A : Type 0} → List Line → A → Outcome A → Type 0
Ends ls v o = (Passed ls × (o ≡ done v)) ⊎ ((m : ℕ) × (a : ℕ) × (b : ℕ) × Speaks ls m a b × (o ≡ refused m a b))

abbrev pub PlanEnds : Type 0
PlanEnds = (p : Policy) → Ends (plan_lines p) (piece_count p.people p.required) (planned p)

abbrev pub DealEnds : Type 0
DealEnds = (d : Deal) (holder room : ℕ) → Ends (deal_lines d holder room) (block_count d holder) (dealing d holder room)

abbrev pub JoinEnds : Type 0
JoinEnds = (pile : List ℕ) (room : ℕ) → Ends (join_lines pile room) (own_width pile) (joining pile room)

-- the lines of opening: 13, for fewer than 512 bytes; 15, 16, 17 of the first block
abbrev pub open_lines : List ℕ → List Line
open_lines pile = torn pile ∷ block_lines pile 1

abbrev pub OpenEnds : Type 0
OpenEnds = (pile : List ℕ) → Ends (open_lines pile) (front_words pile) (opening pile)

-- ---- the order of SCOPE 6.3
-- Planning looks at the number of people, at both lists' lengths, then at their sets, the required list first each time; then at each
-- required set for want of members, none and one alone; and last at the two lists together.
abbrev pub PlanOrder : Type 0
PlanOrder = (p : Policy) → plan_lines p
    ≡ people p.people
    ∷ long 1 p.required ∷ long 2 p.forbidden
    ∷ strangers p.people 1 p.required ∷ strangers p.people 2 p.forbidden
    ∷ nobody p.required
    ∷ opens p.required
    ∷ lone p.required
    ∷ clash p.required p.forbidden
    ∷ []

-- Dealing looks at what planning does, then at the rest of what it is asked for: of the secret and of the randomness the count before the words;
-- and last at the room.
abbrev pub DealOrder : Type 0
DealOrder = (d : Deal) (holder room : ℕ) → deal_lines d holder room
    ≡ plan_lines d.policy
    ++ bad_number d.number
    ∷ bad_year d.year
    ∷ bad_holder d.policy.people holder
    ∷ bad_width d.secret ∷ bad_secret d.secret
    ∷ bad_count (deal_pieces d - 1) d.secret d.random ∷ bad_random d.random
    ∷ no_room (512 * block_count d holder) (block_count d holder) room
    ∷ []

-- Opening looks at the length, then at the one block.
abbrev pub OpenOrder : Type 0
OpenOrder = (pile : List ℕ) → open_lines pile ≡ torn pile ∷ unread pile 1 ∷ check pile 1 ∷ header pile 1 ∷ []

-- Joining looks at the pile's length, then at each block, then at the whole pile, and last at the room.
abbrev pub JoinOrder : Type 0
JoinOrder = (pile : List ℕ) (room : ℕ) → join_lines pile room
    ≡ torn_pile pile ∷ long_pile pile ∷ every_block pile
    ++ mixed pile ∷ conflict pile ∷ short pile ∷ no_room (own_width pile) (own_width pile) room ∷ []

-- The blocks come in pile order, each with all its lines before the next.
abbrev pub BlockOrder : Type 0
BlockOrder = (pile : List ℕ) → every_block pile ≡ flat_map (λ a. block_lines (rest_from pile a) a) (run (λ a. a) 1 (blocks pile))

-- ---- a call refuses with the number of one of its lines, and with no other
abbrev pub Refuses : {A : Type 0} → List Line → Outcome A → Type 0
Refuses ls o = (m a b : ℕ) → o ≡ refused m a b → m ∈ numbers ls

-- 7 is not given. It was for over 70 maximal groups, which there never are (planning's FewGroups), and is the number of no kind (SevenVacant).
abbrev pub NotSeven : {A : Type 0} → Outcome A → Type 0
NotSeven o = (a b : ℕ) → o ≢ refused 7 a b

abbrev pub PlanRefuses : Type 0
PlanRefuses = (p : Policy) → Refuses (plan_lines p) (planned p) × NotSeven (planned p)

-- of every deal, one of a key's words too
abbrev pub DealRefuses : Type 0
DealRefuses = (d : Deal) (holder room : ℕ) → Refuses (deal_lines d holder room) (dealing d holder room) × NotSeven (dealing d holder room)

abbrev pub JoinRefuses : Type 0
JoinRefuses = (pile : List ℕ) (room : ℕ) → Refuses (join_lines pile room) (joining pile room)

abbrev pub OpenRefuses : Type 0
OpenRefuses = (pile : List ℕ) → Refuses (open_lines pile) (opening pile)

-- Of opening: TORN; UNREAD with a = 1 and a word of 1 to 256; CHECK with a = 1; HEADER with a = 1 and a word of 1 to 255.
abbrev pub OpeningPlaces : Type 0
OpeningPlaces = (pile : List ℕ) (m a b : ℕ) → opening pile ≡ refused m a b → Refusable m a b

-- What planning refuses, dealing refuses, with the same number and places.
abbrev pub DealAsPlanned : Type 0
DealAsPlanned = (d : Deal) (holder room m a b : ℕ) → planned d.policy ≡ refused m a b → dealing d holder room ≡ refused m a b

-- ---- A refusal writes nothing. Only dealing and joining are lent what they can write to.
abbrev pub DealKeeps : Type 0
DealKeeps = (d : Deal) (holder : ℕ) (out : List ℕ) (m a b : ℕ) → dealing d holder (length out) ≡ refused m a b → dealt_into d holder out ≡ out

abbrev pub JoinKeeps : Type 0
JoinKeeps = (pile out : List ℕ) (m a b : ℕ) → joining pile (length out) ≡ refused m a b → joined_into pile out ≡ out

-- ---- So of each joiner: whatever answer and output its promise allows, it ends as said of joining, with no other refusal, and where it
-- refuses, the output is as it was lent.
abbrev pub EitherJoins : Type 0
EitherJoins = (pile old : List ℕ) (x : Answer) (out : List ℕ) → JoinPromised pile old x out
    → Ends (join_lines pile (length old)) (own_width pile) (outcome x)
    × Refuses (join_lines pile (length old)) (outcome x)
    × ((m a b : ℕ) → outcome x ≡ refused m a b → out ≡ old)

-- ---- No slot above 32748 gets into a sum.
-- Of the code: the sums mod p are in block's `weigh`, in field's `value_at`, `piece_of` and `join_word`, of differences in `subtract`, and in
-- salvage's `value_for`, each of which requires that what enters is at most 32748, and every caller shows it (in a block with a dirty word: all
-- words but that one); words that are lengths are added to offsets only after the checks. That no other function sums words is seen by reading
-- the code, and not proved. Of what is answered: joining and dealing give a result only where every slot of every block, and every word of the
-- secret and of the randomness, is at most 32748.
abbrev pub JoinSmall : Type 0
JoinSmall = (pile : List ℕ) (room w : ℕ) → joining pile room ≡ done w → (a i : ℕ) → In pile a → 1 ≤ i → i ≤ 256 → word pile a i ≤ 32748

-- And the slot to clean is named: of whole blocks, at most 560, where the first that is not true has a slot above 32748, the answer is
-- UNREAD with that block's number and that of its first such slot.
abbrev pub JoinUnread : Type 0
JoinUnread = (pile : List ℕ) (room a i : ℕ) → length pile % 512 ≡ 0 → blocks pile ≤ 560
    → In pile a → ((b : ℕ) → 1 ≤ b → b < a → TrueBlock (rest_from pile b))
    → IsFirst (above (rest_from pile a)) 1 257 i
    → joining pile room ≡ refused 15 a i

abbrev pub DealSmall : Type 0
DealSmall = (d : Deal) (holder room blocks : ℕ) → dealing d holder room ≡ done blocks → Below d.secret × Below d.random
