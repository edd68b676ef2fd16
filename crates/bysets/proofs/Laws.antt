-- This room's laws, proved: each by its name in specs/Laws.antt. Assumes nothing.
use mathlib.Core.Path.{sym, ◌∙◌}
use native.Mathlib.Omega.{arith}
use lib.ListN.{length}
use Rattle.answer.proofs.LentLaws as lent
use Rattle.bysets.specs.Cards.{set_card}
use Rattle.bysets.specs.Dealt.{set_block_count, set_dealing, set_dealt_into, SetMade}
use Rattle.bysets.specs.Laws as law
use Rattle.bysets.proofs.MadeLaws as made
use Rattle.bysets.proofs.ByteLaws as bytes
use Rattle.bysets.proofs.HideLaws as hide

pub who_holds_sets : law.WhoHoldsSets
who_holds_sets d i = (made.who_holds d i, made.held_rise d i)

pub set-piece-holder : law.SetPieceHolder
set-piece-holder d m = made.piece-holder d (made.made_in_range d m)

pub set_card_depends : law.SetCardDepends
set_card_depends = made.card_depends

pub set-card-length : law.SetCardLength
set-card-length = made.card-length

pub few-set-blocks : law.FewSetBlocks
few-set-blocks d m = let f = made.made_in_range d m in (f.ready.proper.count, made.few-blocks d f)

pub set_blocks_open : law.SetBlocksOpen
set_blocks_open d m holder s least most = made.blocks_open d (made.made_in_range d m) holder least most s

pub set_deals_all : law.SetDealsAll
set_deals_all d m = made.deals_all d (made.made_in_range d m)

pub set_refusal_keeps : law.SetRefusalKeeps
unfolding set_dealt_into
set_refusal_keeps d holder out m a b e = lent.refusal_keeps (set_dealing d holder (length out)) m a b (set_card d holder) out e

pub set_result_writes : law.SetResultWrites
set_result_writes = made.result_writes

pub one_set_block : law.OneSetBlock
one_set_block d holder s b c x y = bytes.each_word b c (λ i l u. x.words i l u ∙ sym (y.words i l u)) x.check y.check

pub every_set_byte : law.EverySetByte
unfolding set_block_count
every_set_byte d holder out blocks e =
    let m : SetMade d = record { holder = holder; room = length out; blocks = blocks; answer = e } in
    let h = made.made-holder d m in
    let r = made.result_writes d holder out blocks e in
    (r.0, r.1, λ a l u. bytes.block_at d (made.made_in_range d m) holder h.0 h.1 a l (omega (arith, r.0)), r.3)

pub set_gives : law.SetGives
set_gives d m s = hide.set_gives d (made.made_in_range d m) 0 s

pub sets_give : law.SetsGive
sets_give d m g = hide.sets_give d (made.made_in_range d m) g
