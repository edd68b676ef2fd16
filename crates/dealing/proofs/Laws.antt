-- This room's laws, proved: each by its name in specs/Laws.antt. Assumes nothing.
use lib.ListN.{length}
use Rattle.answer.proofs.LentLaws as lent
use Rattle.dealing.specs.Deal.{card}
use Rattle.dealing.specs.Dealt.{dealing, dealt_into}
use Rattle.dealing.specs.Laws as law
use Rattle.dealing.proofs.HeldLaws as held
use Rattle.dealing.proofs.MadeLaws as made
use Rattle.dealing.proofs.PlaceLaws as place

pub card_depends : law.CardDepends
card_depends = held.card_depends

pub earlier_cards : law.EarlierCards
earlier_cards = held.earlier_cards

pub blocks_open : law.BlocksOpen
blocks_open d m holder j l u h = made.blocks_open d (made.made_in_range d m) holder l u j h

pub card-length : law.CardLength
card-length = made.card-length

pub few-blocks : law.FewBlocks
few-blocks d m = made.few-blocks d (made.made_in_range d m)

pub deals_all : law.DealsAll
deals_all d m holder l u = made.deals_all d (made.made_in_range d m) holder l u

pub refusal_keeps : law.RefusalKeeps
unfolding dealt_into
refusal_keeps d holder out m a b e = lent.refusal_keeps (dealing d holder (length out)) m a b (card d holder) out e

pub result_writes : law.ResultWrites
result_writes = made.result_writes

pub secret-places : law.SecretPlaces
secret-places = place.secret-places

pub random-places : law.RandomPlaces
random-places = place.random-places

pub room-places : law.RoomPlaces
room-places = place.room-places
