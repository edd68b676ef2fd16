-- Demands 1 and 3 for keys (SCOPE 10.1): the calls that have one, and a deal whose secret is the ten words of one. Dealing a key is dealing those
-- words: demand 1 says it of every deal, and key/specs/Laws the order of its lines. Assumes nothing.
use Rattle.std.specs.Prelude.{ℕ, ◌≤◌, ◌≡◌, not, List, [], ◌∷◌, ◌++◌, eqb, length, get_or, drop}
use Rattle.lists.specs.Places.{found}
use Rattle.answer.specs.declared.Kind.TheVariants.{NotKey}
use Rattle.answer.specs.Outcome.{done, refused}
use Rattle.answer.specs.Checks.{line}
use Rattle.answer.specs.Lent.{no_room}
use Rattle.field.specs.Hiding.{Matched}
use Rattle.planning.specs.Policy.{Policy}
use Rattle.dealing.specs.Deal.{Deal, deal_pieces}
use Rattle.dealing.specs.Dealt.{Made}
use Rattle.packing.specs.Key.{Key, packed, first_wrong, pack_lines, packing, unpack_lines, unpacking, unpacked_into}
use Rattle.pile.specs.Lines.{torn_pile, long_pile, every_block}
use Rattle.joining.specs.Checks.{mixed, conflict, short}
use Rattle.joining.specs.Secret.{secret}
use Rattle.key.specs.Dealt.{key_deal}
use Rattle.key.specs.Joined.{key_lines, joining_key, joined_key_into}
use Rattle.demands.specs.Demand1.{Ends, Refuses}
use Rattle.demands.specs.Group.{Group, Contains, WholeCards, gathered}
use Rattle.demands.specs.Demand3.{short_of, HiddenFrom, GivesCards}

-- ---- demand 1: in its result or in a refusal, by the order of SCOPE 6.3, with no other refusal, and a refusal writes nothing
abbrev pub PackEnds : Type 0
PackEnds = (key : List ℕ) → Ends (pack_lines key) 10 (packing key) × Refuses (pack_lines key) (packing key)

abbrev pub UnpackEnds : Type 0
UnpackEnds = (words : List ℕ) (room : ℕ) → Ends (unpack_lines words room) 16 (unpacking words room) × Refuses (unpack_lines words room) (unpacking words room)

abbrev pub UnpackKeeps : Type 0
UnpackKeeps = (words out : List ℕ) (m a b : ℕ) → unpacking words (length out) ≡ refused m a b → unpacked_into words out ≡ out

abbrev pub JoinKeyEnds : Type 0
JoinKeyEnds = (pile : List ℕ) (room : ℕ) → Ends (key_lines pile room) 16 (joining_key pile room) × Refuses (key_lines pile room) (joining_key pile room)

-- Joining to a key looks at the pile as joining does, then at the words, and last at the room.
abbrev pub JoinKeyOrder : Type 0
JoinKeyOrder = (pile : List ℕ) (room : ℕ) → key_lines pile room
    ≡ torn_pile pile ∷ long_pile pile ∷ every_block pile
    ++ mixed pile ∷ conflict pile ∷ short pile
    ∷ line NotKey (not (eqb (length (secret pile)) 10)) 0 0
    ∷ line NotKey (found (first_wrong (secret pile))) (first_wrong (secret pile)) 0
    ∷ no_room 16 16 room
    ∷ []

abbrev pub JoinKeyKeeps : Type 0
JoinKeyKeeps = (pile out : List ℕ) (m a b : ℕ) → joining_key pile (length out) ≡ refused m a b → joined_key_into pile out ≡ out

-- ---- demand 3
-- a deal of this key was made
pub record KeyMade (d : Deal) (key : List ℕ) : Type 0 where
  pub made : Made d
  pub is_key : Key key
  pub words : d.secret ≡ packed key

-- Such a deal is one that dealing a key makes, and no other: of bytes, all below 256, it made a card only where there are 16.
abbrev pub KeyDealMade : Type 0
KeyDealMade = (policy : Policy) (number year : ℕ) (key random : List ℕ) → ((i : ℕ) → get_or key i 0 ≤ 255)
    → Made (key_deal policy number year key random) → KeyMade (key_deal policy number year key random) key

-- If the group is authorised, the pile joins to the key, byte for byte, where there is room for it; the rest of the output is as it was.
abbrev pub KeyOpens : Type 0
KeyOpens = (d : Deal) (key : List ℕ) → KeyMade d key → (g : ℕ) → Group d g → Contains d g
    → (pile : List ℕ) → WholeCards d g pile
    → (out : List ℕ) → 16 ≤ length out
    → (joining_key pile (length out) ≡ done 16)
    × (joined_key_into pile out ≡ key ++ drop 16 out)

-- If not, it is SHORT, whatever the room, and the lent output is as it was.
abbrev pub KeyShort : Type 0
KeyShort = (d : Deal) (key : List ℕ) → KeyMade d key → (g : ℕ) → Group d g → ¬ Contains d g
    → (pile : List ℕ) → WholeCards d g pile
    → (out : List ℕ)
    → (joining_key pile (length out) ≡ short_of (length (gathered d g)) (deal_pieces d))
    × (joined_key_into pile out ≡ out)

-- And any other key could have been dealt so that each member has the same card, by randomness that answers to the dealt one, one to one.
abbrev pub KeyHides : Type 0
KeyHides = (d : Deal) (key : List ℕ) → KeyMade d key → (g : ℕ) → Group d g → ¬ Contains d g → (other : List ℕ) → Key other → HiddenFrom d g (packed other)

-- So, if the randomness is even, cards make no key likelier: whatever the members' cards are, as many lists give them from the one key as from the other.
abbrev pub KeyFavoursNone : Type 0
KeyFavoursNone = (d : Deal) (key : List ℕ) → KeyMade d key → (g : ℕ) → Group d g → ¬ Contains d g → (other : List ℕ) → Key other
    → (c : ℕ → List ℕ) → Matched (GivesCards d g c d.secret) (GivesCards d g c (packed other))
