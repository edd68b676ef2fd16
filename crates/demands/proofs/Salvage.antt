-- Demands 1 and 3 for salvage, proved: each statement by its name in specs/Salvage.antt. Assumes nothing.
use mathlib.Core.Path.{◌≡◌, refl, sym, ap, ap₂, ◌∙◌}
use mathlib.Core.List.{List}
use Prim.Native.Nat.{ℕ, ◌/◌, ◌≤◌}
use native.Mathlib.Omega.{arith}
use lib.ListN.{length}
use Rattle.answer.specs.Outcome.{Outcome, done}
use Rattle.answer.specs.Lent.{left}
use Rattle.answer.proofs.CheckLaws.{done-passed}
use Rattle.answer.proofs.WhichLaws.{refused-number}
use Rattle.block.specs.Open.{by_outcome}
use Rattle.dealing.proofs.MadeLaws.{made_in_range}
use Rattle.pile.specs.Blocks.{blocks, In, rest_from}
use Rattle.pile.proofs.PileLaws.{rest_long}
use Rattle.salvage.specs.Pile.{mended_pile, differing, rebuilt_words, places, salvage_lines, salvaging, salvaged_pile, salvaged_list}
use Rattle.salvage.proofs.SayLaws.{says-done}
use Rattle.salvage.proofs.Laws.{restored_pile}
use Rattle.demands.specs.Salvage as demand
use Rattle.demands.proofs.LineLaws.{ends}
use Rattle.demands.proofs.ReadLaws.{reads, sound}
use Rattle.demands.proofs.UnreadLaws.{unread}
use Rattle.demands.proofs.ScratchLaws.{cards-bytes, same_true, first_dirty}
use Rattle.demands.proofs.Demand3.{opens}

-- ---- demand 1
pub salvage_ends : demand.SalvageEnds
unfolding salvaging
salvage_ends pile numbers =
    (ends (salvage_lines pile numbers) (length (rebuilt_words pile)), refused-number (salvage_lines pile numbers) (length (rebuilt_words pile)))

pub salvage_order : demand.SalvageOrder
salvage_order pile numbers = refl

pub salvage_keeps : demand.SalvageKeeps
unfolding salvaged_pile salvaged_list
salvage_keeps pile list m a b e = (
  ap (λ (o : Outcome ℕ). by_outcome o (mended_pile pile) pile) e,
  ap (λ (o : Outcome ℕ). left o (places (rebuilt_words pile)) list) e,
)

pub salvage_reports : demand.SalvageReports
unfolding salvaging salvaged_pile salvaged_list rebuilt_words
salvage_reports pile list n e =
    let after : salvaged_pile pile (length list) ≡ mended_pile pile = ap (λ (o : Outcome ℕ). by_outcome o (mended_pile pile) pile) e in
    let end : done (length (rebuilt_words pile)) ≡ done n = (done-passed (salvage_lines pile (length list)) (done (length (rebuilt_words pile))) n e).1 in
    let count : length (rebuilt_words pile) ≡ n = cc in
    rw after (sym count, ap (λ (o : Outcome ℕ). left o (places (rebuilt_words pile)) list) e)

-- ---- joining lets no such pile pass
pub scratched_unread : demand.ScratchedUnread
unfolding blocks
scratched_unread good lost room a i v t few s h from to high before here =
    let k : In lost a = (h.0, omega (arith, h.1, s.long)) in
    let long : (b : ℕ) → 1 ≤ b → b ≤ a → (512 ≤ length (rest_from lost b)) × (512 ≤ length (rest_from good b)) = λ b l u.
    (rest_long lost b l (omega (arith, k.1)), rest_long good b l (omega (arith, h.1))) in
    let at_a = long a h.0 (omega arith) in
    unread lost a i
    (first_dirty (rest_from lost a) (rest_from good a) at_a.0 at_a.1 i v from to high here (t.block a h.0 h.1))
    room (omega (arith, s.whole, s.long)) (omega (arith, few, s.long)) k
    (λ b l less.
    let at_b = long b l (omega arith) in
    same_true (rest_from lost b) (rest_from good b) at_b.0 at_b.1 (before b l less) (t.block b l (omega (arith, h.1))))

-- ---- demand 3
-- as long a pile has as many blocks
blocks_are : (x y : List ℕ) → length y ≡ length x → blocks y ≡ blocks x
unfolding blocks
blocks_are x y q = ap (λ (n : ℕ). n / 512) q

pub cards-back : demand.CardsBack
unfolding rebuilt_words salvaged_pile
cards-back d made g pile w lost s list room =
    let f = made_in_range d made in
    let r = reads d f g pile w in
    let back : mended_pile lost ≡ pile = restored_pile pile lost (cards-bytes d f g pile w) (sound r).blocks_true s in
    let same : blocks lost ≡ blocks pile = blocks_are pile lost s.long in
    let e : salvaging lost (length list) ≡ done (length (rebuilt_words lost)) =
    says-done lost list (omega (arith, s.whole, s.long)) (omega (arith, r.few, same)) (omega (arith, room, same)) in (
      e ∙ ap₂ (λ (x : List ℕ) (n : ℕ). done (length (differing lost x n))) back same,
      ap (λ (o : Outcome ℕ). by_outcome o (mended_pile lost) lost) e ∙ back,
    )

pub salvaged_opens : demand.SalvagedOpens
salvaged_opens d made g group c pile w lost s list room out h =
    let back = (cards-back d made g pile w lost s list room).1 in
    rw back (opens d made g group c pile w out h)
