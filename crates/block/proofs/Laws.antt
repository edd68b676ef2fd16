-- This room's laws, proved: each by its name in specs/Laws.antt. Assumes nothing.
use mathlib.Core.Path.{ap, ◌∙◌, sym}
use Rattle.block.specs.Deals.{same_deal}
use Rattle.block.specs.Laws as law
use Rattle.block.proofs.DealLaws as deal
use Rattle.block.proofs.RangeLaws as range
use Rattle.block.proofs.OnlyLaws as only
use Rattle.block.proofs.OpenLaws as «open»
use Rattle.block.proofs.ValueLaws as value
use Rattle.block.proofs.BodyLaws as body
use Rattle.block.proofs.WrittenLaws as written
use Rattle.block.proofs.DamageLaws as damage
use Rattle.block.proofs.FrontLaws as front
use Rattle.block.proofs.EarlierLaws as earlier
use Rattle.block.proofs.OneLaws as one

pub ranges_mean : law.RangesMean
ranges_mean l = (range.ranges_of l, range.of_ranges l)

pub block-length : law.BlockLength
block-length l vs ok = body.length-block l vs

pub opens-written : law.OpensWritten
opens-written = written.opens-written

pub written-words : law.WrittenWords
written-words = written.written-words

pub true_written : law.TrueWritten
true_written = written.true_written

pub only-words : law.OnlyWords
only-words b c same = (only.only-lines b c same, only.only-header b c same, only.only_true b c same)

pub true_means : law.TrueMeans
true_means b a = («open».true_passes b a, «open».passes_true b a)

pub true_small : law.TrueSmall
true_small b t = t.clean.small

pub true_opens : law.TrueOpens
true_opens = «open».true_opens

pub opens_true : law.OpensTrue
opens_true = «open».opens_true

pub unread_exactly : law.UnreadExactly
unread_exactly = «open».unread_exactly

pub changed : law.Changed
changed = damage.changed

pub exchanged : law.Exchanged
exchanged = damage.exchanged

pub first-bytes : law.FirstBytes
first-bytes = front.first-bytes

pub which_refusals : law.WhichRefusals
which_refusals = «open».which_refusals

pub opened_one : law.OpenedOne
opened_one = one.opened_one

pub value-words : law.ValueWords
value-words = value.value-words

pub refused_empty : law.RefusedEmpty
refused_empty = value.refused_empty

pub same_deal_means : law.SameDealMeans
same_deal_means x y = (deal.same_deal_lem x y, λ e. ap (same_deal x) (sym e) ∙ deal.deal_same x)

pub piece_tells : law.PieceTells
piece_tells = range.piece_tells

pub first_piece : law.FirstPiece
first_piece = range.first_piece

pub first-only : law.FirstOnly
first-only = «open».first-only

pub one_means : law.OneMeans
one_means b a = («open».one_true b a, λ h. «open».true_one b a h.0 h.1 h.2)

pub earlier_block : law.EarlierBlock
earlier_block = earlier.earlier_block

pub earlier_layout : law.EarlierLayout
earlier_layout = earlier.earlier_layout

pub earlier_deals : law.EarlierDeals
earlier_deals = earlier.earlier_deals
