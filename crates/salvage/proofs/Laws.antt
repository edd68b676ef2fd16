-- This room's laws, proved: each by its name in specs/Laws.antt. Assumes nothing.
use Rattle.salvage.specs.Pile.{rebuilt_words}
use Rattle.salvage.specs.Laws as law
use Rattle.salvage.proofs.DirtyLaws as dirty
use Rattle.salvage.proofs.ValueLaws as value
use Rattle.salvage.proofs.MendLaws as mend
use Rattle.salvage.proofs.PartLaws as part
use Rattle.salvage.proofs.PileLaws as pile
use Rattle.salvage.proofs.LoopLaws as loop
use Rattle.salvage.proofs.PlaceLaws as place
use Rattle.salvage.proofs.TwiceLaws as twice
use Rattle.salvage.proofs.BackLaws as back

-- ---- one block
pub value_one : law.ValueOne
value_one b i long from to c = (value.value_low b i long from to c, value.value-right b i long from to c, value.value-only b i long from to c)

pub restored : law.Restored
restored b i v t from to high =
    (mend.restored_words b i v t from to high, mend.restored_word b i v t from to high, mend.restored_bytes b i v t from to high)

pub clean_stays : law.CleanStays
clean_stays = mend.clean_stays

pub two_stay : law.TwoStay
two_stay = mend.two_stay

pub one_mends : law.OneMends
one_mends = mend.one_mends

pub dirty_means : law.DirtyMeans
dirty_means b i =
    (λ e. let o = dirty.one_dirty b i e in (o.from, o.to, o.hot, o.clean), dirty.dirty_one b i)

pub changed_true : law.ChangedTrue
changed_true = mend.changed_true

pub mend_twice : law.MendTwice
mend_twice = mend.mend_twice

pub differs_one : law.DiffersOne
differs_one = mend.differs_one

pub front-only : law.FrontOnly
front-only = part.front-only

-- ---- the pile
pub pile_blocks : law.PileBlocks
pile_blocks = pile.pile_blocks

pub block_stays : law.BlockStays
block_stays = place.block_stays

pub block_true : law.BlockTrue
block_true = place.block_true

pub pile_twice : law.PileTwice
pile_twice = twice.pile_twice

pub salvage_twice : law.SalvageTwice
salvage_twice = twice.salvage_twice

-- ---- the list of places
pub rebuilt-few : law.RebuiltFew
rebuilt-few = pile.rebuilt-few

pub places_mean : law.PlacesMean
places_mean pile = (loop.length-places (rebuilt_words pile), place.place-means pile, place.named pile)

pub places_rise : law.PlacesRise
places_rise = place.places_rise

pub place-rebuilt : law.PlaceRebuilt
place-rebuilt = place.place-rebuilt

-- ---- a pile whose blocks lost a word
pub restored_block : law.RestoredBlock
restored_block = back.restored_block

pub restored_pile : law.RestoredPile
restored_pile = back.restored_pile
