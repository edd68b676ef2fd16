-- Demands 1 and 3 for keys, proved: each statement by its name in specs/Keys.antt. Demand 3 is that for the key's ten words.
-- Assumes nothing.
use mathlib.Core.Path.{◌≡◌, refl, sym, ap, ◌∙◌}
use mathlib.Core.Bool.{Bool, true, false, cond}
use mathlib.Core.List.{List, [], ◌∷◌, ◌++◌, append_assoc}
use Prim.Native.Nat.{ℕ, ◌≤◌}
use native.Mathlib.Omega.{arith}
use lib.Dec.{eqb}
use lib.ListN.{length, drop, replicate}
use borrow.Author.Tests.{eqb-true}
use Rattle.lists.specs.Over.{over}
use Rattle.answer.specs.Outcome.{done, refused}
use Rattle.answer.specs.Checks.{Line}
use Rattle.answer.proofs.WhichLaws.{refused-number}
use Rattle.packing.specs.Key.{packed, unpacked, pack_lines, packing, unpack_lines, unpacking}
use Rattle.packing.proofs.PackLaws.{packed-words, packed-ten, key_back}
use Rattle.packing.proofs.SayLaws.{unpacks, lent_as}
use Rattle.dealing.specs.Deal.{Deal, deal_pieces}
use Rattle.dealing.proofs.MadeLaws.{made_in_range}
use Rattle.field.proofs.HidingLaws.{none_favoured}
use Rattle.pile.specs.Lines.{torn_pile, long_pile, every_block}
use Rattle.joining.specs.Checks.{whole_lines, pile_lines}
use Rattle.joining.specs.Secret.{secret}
use Rattle.key.specs.Dealt.{key_secret, key_deal}
use Rattle.key.specs.Joined.{key_lines, joining_key}
use Rattle.key.proofs.KeyLaws.{key_unpacks, key_refused, key_left}
use Rattle.demands.specs.Group.{gathered}
use Rattle.demands.specs.Keys as demand
use Rattle.demands.proofs.LineLaws.{ends}
use Rattle.demands.proofs.ReadLaws.{reads}
use Rattle.demands.proofs.AnswerLaws as answer
use Rattle.demands.proofs.Demand3.{opens, short, hides}

-- ---- demand 1
pub pack_ends : demand.PackEnds
unfolding packing
pack_ends key = (ends (pack_lines key) 10, refused-number (pack_lines key) 10)

pub unpack_ends : demand.UnpackEnds
unfolding unpacking
unpack_ends words room = (ends (unpack_lines words room) 16, refused-number (unpack_lines words room) 16)

pub unpack_keeps : demand.UnpackKeeps
unpack_keeps words out m a b e = lent_as words out (refused m a b) e

pub join_key_ends : demand.JoinKeyEnds
unfolding joining_key
join_key_ends pile room = (ends (key_lines pile room) 16, refused-number (key_lines pile room) 16)

pub join_key_order : demand.JoinKeyOrder
unfolding key_lines pile_lines
join_key_order pile room =
    ap (λ (ls : List Line). torn_pile pile ∷ long_pile pile ∷ ls) (append_assoc (every_block pile) (whole_lines pile) (unpack_lines (secret pile) room))

pub join_key_keeps : demand.JoinKeyKeeps
join_key_keeps pile out m a b e = key_left pile out (refused m a b) e

-- ---- demand 3
-- the key over the front of what was lent
over_key : (key out : List ℕ) → length key ≡ 16 → over key out ≡ key ++ drop 16 out
unfolding over
over_key key out e = ap (λ (n : ℕ). key ++ drop n out) e

ten : (d : Deal) (key : List ℕ) → d.secret ≡ packed key → length d.secret ≡ 10
ten d key e = ap length e ∙ packed-ten key

-- a secret of some words is that of 16 bytes
sixteen : (key : List ℕ) (x : Bool) → eqb (length key) 16 ≡ x → 1 ≤ length (cond x (packed key) []) → x ≡ true
sixteen key true e h = refl
sixteen key false e h = absurd (omega arith)

pub key_deal_made : demand.KeyDealMade
unfolding key_secret
key_deal_made policy number year key random small made =
    let some = (made_in_range (key_deal policy number year key random) made).ready.width_in.0 in
    let e = sixteen key (eqb (length key) 16) refl some in
    record {
      made = made;
      is_key = record { sixteen = eqb-true (length key) 16 e; bytes = λ i h. small i };
      words = ap (λ (x : Bool). cond x (packed key) []) e;
    }

pub key_opens : demand.KeyOpens
key_opens d key m g group c pile w out h =
    let joined = (opens d m.made g group c pile w (replicate 16 0) (omega (arith, ten d key m.words))).0 in
    let f = made_in_range d m.made in
    let is : secret pile ≡ packed key = answer.secret-is d f g group pile (reads d f g pile w) c ∙ m.words in
    let e : joining_key pile (length out) ≡ done 16 =
    key_unpacks pile _ (length out) joined
    ∙ ap (λ (s : List ℕ). unpacking s (length out)) is
    ∙ unpacks (packed key) (length out) (packed-words key m.is_key) h in (
      e,
      key_left pile out (done 16) e
          ∙ ap (λ (s : List ℕ). over s out) (ap unpacked is ∙ key_back key m.is_key)
          ∙ over_key key out m.is_key.sixteen,
    )

pub key_short : demand.KeyShort
key_short d key m g group n pile w out =
    let e = (short d m.made g group n pile w (replicate 16 0)).0 in
    let q = answer.short_refuses (length (gathered d g)) (deal_pieces d) in
    let r = key_refused pile (length out) 20 q.0 q.1 (e ∙ q.2) in
    (r ∙ sym q.2, key_left pile out (refused 20 q.0 q.1) r)

pub key_hides : demand.KeyHides
key_hides d key m g group n other k = hides d m.made g group n (packed other) (packed-ten other ∙ sym (ten d key m.words))

pub key_favours_none : demand.KeyFavoursNone
key_favours_none d key m g group n other k c = none_favoured (key_hides d key m g group n other k) c
