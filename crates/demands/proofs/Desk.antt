-- The demands at a desk, proved: each statement by its name in specs/Desk.antt. Assumes nothing.
use mathlib.Core.Path.{◌≡◌, refl, sym, ap, ap₂, subst, ◌∙◌}
use mathlib.Core.Bool.{Bool, true, false, cond}
use mathlib.Core.Logic.{⊎_elim}
use mathlib.Core.List.{List, [], ◌∷◌, ◌++◌}
use Prim.Native.Nat.{ℕ, ◌≤◌, ◌<◌, zero-le}
use native.Mathlib.Nat.{eq-or-lt_of_le}
use native.Mathlib.Omega.{arith}
use lib.ListN.{length, drop}
use Rattle.lists.specs.Flat.{flat}
use Rattle.lists.proofs.Truth.{decided}
use Rattle.lists.proofs.ThoseLaws.{those-few}
use Rattle.lists.proofs.FlatLaws.{Long, flat-length}
use Rattle.answer.specs.Outcome.{done, refused}
use Rattle.answer.proofs.LentLaws.{refusal_keeps}
use Rattle.answer.proofs.WhichLaws.{refused-number}
use Rattle.dealing.specs.Deal.{Deal, deal_pieces, card_blocks}
use Rattle.dealing.specs.Dealt.{Made}
use Rattle.dealing.proofs.MadeLaws.{InRange, made_in_range}
use Rattle.pile.specs.Blocks.{blocks}
use Rattle.joining.specs.Joined.{joining}
use Rattle.joining.proofs.Laws.{joins_then, result_writes}
use Rattle.desk.specs.declared.Opening.{Opening}
use Rattle.desk.specs.Opens.{other, words_of, accepted, reserved}
use Rattle.desk.specs.Slots.{keeps, distinct, secret_for}
use Rattle.desk.specs.Lines.{open_lines, open_says, front_lines, hand_lines, hand_slots, hand_says, ask_lines, ask_says, ask_at, ask_into, close_lines, close_says}
use Rattle.desk.specs.History.{Call, opens, hands, asks, closes, after, answer_to, reserved_by, Client, first, second}
use Rattle.desk.proofs.WordLaws.{stored_reserved}
use Rattle.desk.proofs.SoundLaws.{stored_of}
use Rattle.desk.proofs.NextLaws.{sound-after}
use Rattle.desk.proofs.OwnLaws.{reserved-is, never_over}
use Rattle.demands.specs.Group.{Group, Contains, Member, CardsOf, gathered}
use Rattle.demands.specs.Demand3.{card_from}
use Rattle.demands.specs.DeskBlocks.{handed_in, blocks_in, of_deal, replies}
use Rattle.demands.specs.Desk as demand
use Rattle.demands.proofs.LineLaws.{ends}
use Rattle.demands.proofs.ReadLaws.{Reads}
use Rattle.demands.proofs.AnswerLaws as answer
use Rattle.demands.proofs.Demand3.{hides}
use Rattle.demands.proofs.DeskHolds.{Holds}
use Rattle.demands.proofs.DeskHistory.{holds_after}
use Rattle.demands.proofs.DeskJoins as joins
use Rattle.demands.proofs.DeskCover.{covers}
use Rattle.demands.proofs.DeskWhole.{whole_reads}
use Rattle.demands.proofs.DeskTaken.{card_of, taken}

-- ---- demand 1
pub desk_ends : demand.DeskEnds
unfolding open_says hand_says ask_says close_says
desk_ends d (opens c new) = let ls = demand.lines_at d (opens c new) in (ends ls new.pieces, refused-number ls new.pieces)
desk_ends d (hands c b) = let ls = demand.lines_at d (hands c b) in let n = demand.result_at d (hands c b) in (ends ls n, refused-number ls n)
desk_ends d (asks c out) = let ls = demand.lines_at d (asks c out) in let w = (words_of d c).width in (ends ls w, refused-number ls w)
desk_ends d (closes c) = let ls = demand.lines_at d (closes c) in let k = (words_of d c).pieces in (ends ls k, refused-number ls k)

pub desk_order : demand.DeskOrder
unfolding open_lines hand_lines front_lines ask_lines close_lines
desk_order d c = ((λ new. refl), (λ b. refl), (λ out. refl), refl)

pub ask_keeps : demand.AskKeeps
unfolding ask_into
ask_keeps d c out m a b e = refusal_keeps (ask_at d c (length out)) m a b (secret_for d.slots (words_of d c) c) out e

-- ---- demand 2
-- a client with slots is open
is_open : (o : Opening) → 1 ≤ reserved o → accepted o ≡ true
is_open o h =
    ⊎_elim (λ (t : accepted o ≡ true). t)
    (λ (f : accepted o ≡ false). let z : reserved o ≡ 0 = ap (λ (b : Bool). cond b o.pieces 0) f in absurd (omega arith)) (decided (accepted o))

module _ (c : ℕ) (xs : List Call) (k : Client c) where
  pieces_are : reserved_by c xs ≡ (words_of (after xs) c).pieces
  pieces_are = reserved-is c xs k ∙ stored_reserved (words_of (after xs) c) (stored_of (after xs) (sound-after xs) c k)

  opened : 1 ≤ reserved_by c xs → accepted (words_of (after xs) c) ≡ true
  opened h = is_open (words_of (after xs) c) (omega (arith, reserved-is c xs k))

pub ask_as_joining : demand.AskAsJoining
ask_as_joining c xs out k h =
    let d = after xs in
    let o = words_of d c in
    let bs = blocks_in c xs in
    let g = opened c xs k h in
    let held = holds_after c xs k in (
      (λ some. (joins.says_same d.slots o c bs k g held some (length out), joins.into_same d.slots o c bs k g held some out)),
      (λ e. joins.says_none d.slots o c bs k g held (ap length e) (length out) ∙ ap (refused 20 0) (sym (pieces_are c xs k))),
    )

pub desk_few : demand.DeskFew
unfolding distinct
desk_few c xs k =
    let d = after xs in
    let o = words_of d c in
    omega (arith, (holds_after c xs k).count, those-few (keeps d.slots c o.width) 1 o.pieces, pieces_are c xs k)

-- ---- demand 3
-- no client has more than 70 slots
at_most : (c : ℕ) (xs : List Call) → Client c → reserved_by c xs ≤ 70
at_most c xs first = omega (arith, never_over xs)
at_most c xs second = omega (arith, never_over xs)

nothing : {A : Type 0} (l : List A) → length l ≡ 0 → l ≡ []
nothing [] e = refl
nothing (x ∷ xs) e = absurd (omega arith)

module _ (d : Deal) (f : InRange d) (g : ℕ) (c : ℕ) (xs : List Call) (k : Client c) (w : CardsOf (card_blocks d) (Member d g) (handed_in c xs)) where
  long : Long 512 (blocks_in c xs)
  long = record { long = λ b m. ((holds_after c xs k).each b m).long }

  reads : Reads d g (flat (blocks_in c xs))
  reads = whole_reads d f g (blocks_in c xs) (handed_in c xs) w (covers c xs k) long (omega (arith, desk_few c xs k, at_most c xs k))

  how_many : blocks (flat (blocks_in c xs)) ≡ length (blocks_in c xs)
  unfolding blocks
  how_many = omega (arith, flat-length (blocks_in c xs) long)

pub desk_opens : demand.DeskOpens
desk_opens d made g group has c xs k h w out room =
    let f = made_in_range d made in
    let pile = flat (blocks_in c xs) in
    let r = reads d f g c xs k w in
    let j = answer.joins d f g group pile r has (length out) room in
    let some : 1 ≤ length (blocks_in c xs) = omega (arith, j.some, how_many d f g c xs k w) in
    let e : joining pile (length out) ≡ done (length d.secret) = joins_then pile (length out) (length d.secret) j in
    let a = (ask_as_joining c xs out k h).0 some in (
      a.0 ∙ e,
      a.1 ∙ (result_writes pile out (length d.secret) e).1
          ∙ ap (λ (s : List ℕ). s ++ drop (length d.secret) out) (answer.secret-is d f g group pile r has),
    )

-- SHORT, by whether any block was handed in
short-says : (d : Deal) → Made d → (g : ℕ) → Group d g → ¬ Contains d g → (c : ℕ) (xs : List Call) → Client c → reserved_by c xs ≡ deal_pieces d
    → CardsOf (card_blocks d) (Member d g) (handed_in c xs) → (out : List ℕ)
    → (answer_to (asks c out) xs).says ≡ refused 20 (length (gathered d g)) (deal_pieces d)
short-says d made g group n c xs k e w out =
    let f = made_in_range d made in
    let pile = flat (blocks_in c xs) in
    let r = reads d f g c xs k w in
    let m = how_many d f g c xs k w in
    let a = ask_as_joining c xs out k (omega (arith, f.ready.least)) in
    ⊎_elim
    (λ (z : 0 ≡ length (blocks_in c xs)).
    let q : length (gathered d g) ≡ 0 = answer.none-held d f g group pile r (m ∙ sym z) in
    a.1 (nothing (blocks_in c xs) (sym z)) ∙ ap₂ (λ (x y : ℕ). refused 20 x y) (sym q) e)
    (λ (some : 0 < length (blocks_in c xs)).
    (a.0 some).0 ∙ answer.short d f g group pile r n (length out)
    ∙ sym (answer.short-says (length (gathered d g)) (deal_pieces d) (answer.some-held d f g group pile r (omega (arith, m)))))
    (eq-or-lt_of_le zero-le)

pub desk_short : demand.DeskShort
desk_short d made g group n c xs k e w out =
    let says = short-says d made g group n c xs k e w out in
    (says, ask_keeps (after xs) c out 20 (length (gathered d g)) (deal_pieces d) says)

pub cards_taken : demand.CardsTaken
cards_taken d made c xs k h e cards i l u b m =
    let f = made_in_range d made in
    let s = after xs in
    let o = of_deal d in
    let good : accepted o ≡ true = ap accepted (sym e) ∙ opened c xs k h in
    let held : Holds s.slots o c (blocks_in c xs) = subst (λ (z : Opening). Holds s.slots z c (blocks_in c xs)) e (holds_after c xs k) in (
      distinct (hand_slots s.slots o c b) o c,
      ap (λ (z : Opening). hand_says s.slots z c b) e ∙ taken d f s.slots c (blocks_in c xs) (handed_in c xs) k good held (covers c xs k) cards b (card_of d f i l u b m),
    )

pub desk_hides : demand.DeskHides
desk_hides d made g group n other e =
    let h = hides d made g group n other e in
    (h, λ random r make o. ap replies (o.same (card_from d other (h.pairs.there random)) (card_from d d.secret random) (λ i m. h.same random r i m)))
