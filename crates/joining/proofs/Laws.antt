-- This room's laws, proved: each by its name in specs/Laws.antt. Assumes nothing.
use mathlib.Core.Path.{◌≡◌, sym, ap, ◌∙◌}
use mathlib.Core.Bool.{true, false, false≢true}
use mathlib.Core.List.{◌++◌}
use Prim.Native.Nat.{ℕ, ◌%◌}
use native.Mathlib.Omega.{arith}
use lib.ListN.{length, drop}
use Rattle.lists.specs.Over.{over}
use Rattle.answer.proofs.LentLaws as lent
use Rattle.field.specs.Secret.{column}
use Rattle.field.proofs.SecretLaws.{secret-length, secret-at, column-length}
use Rattle.field.proofs.Laws.{by_differences_lem}
use Rattle.prime.specs.Prime.{p}
use Rattle.field.specs.Lagrange.{weighed}
use Rattle.triangle.specs.Triangle.{weight}
use Rattle.triangle.proofs.Laws.{by_weights}
use Rattle.block.specs.declared.deal.DealWords.{DealWords}
use Rattle.joining.specs.Pile.{own_pieces, own_width, value_at}
use Rattle.joining.specs.Joined.{joining, joined_into}
use Rattle.joining.specs.Secret.{secret}
use Rattle.joining.specs.Laws as law
use Rattle.joining.proofs.HeapLaws as heap
use Rattle.joining.proofs.MixedLaws as mixed
use Rattle.joining.proofs.ConflictLaws.{by_first, with_first}
use Rattle.joining.proofs.ChosenLaws as chosen
use Rattle.joining.proofs.CompleteLaws as complete
use Rattle.joining.proofs.PlaceLaws as place
use Rattle.joining.proofs.SoundLaws as sound
use Rattle.joining.proofs.PolyLaws as poly
use Rattle.joining.proofs.OrderLaws as order
use Rattle.joining.proofs.WrittenLaws as written
use Rattle.joining.proofs.EarlierLaws as earlier

pub joins_then : law.JoinsThen
joins_then = sound.joins_then

pub then_joins : law.ThenJoins
then_joins = sound.then_joins

pub lacks_then : law.LacksThen
lacks_then = sound.lacks_then

pub no_set_then : law.NoSetThen
no_set_then = sound.no_set_then

pub complete-means : law.CompleteMeans
complete-means = complete.complete-means

pub chosen_lowest : law.ChosenLowest
chosen_lowest = chosen.chosen_lowest

pub no_blocks : law.NoBlocks
no_blocks = sound.no_blocks

pub conflict_by_first : law.ConflictByFirst
conflict_by_first = by_first

pub conflict_with_first : law.ConflictWithFirst
conflict_with_first = with_first

pub unread-places : law.UnreadPlaces
unread-places = place.unread-places

pub header-places : law.HeaderPlaces
header-places = place.header-places

pub mixed-places : law.MixedPlaces
mixed-places = place.mixed-places

pub room-places : law.RoomPlaces
room-places = place.room-places

pub own_largest : law.OwnLargest
own_largest pile some = (heap.own_in pile some, heap.own_largest pile some)

pub own_earliest : law.OwnEarliest
own_earliest = heap.own_earliest

pub one_deal_own : law.OneDealOwn
one_deal_own = heap.one_deal_own

pub majority_own : law.MajorityOwn
majority_own = heap.majority_own

pub mixed_exactly : law.MixedExactly
mixed_exactly = mixed.mixed_exactly

pub mixed_blames : law.MixedBlames
mixed_blames = mixed.mixed_blames

pub old_on_top : law.OldOnTop
old_on_top = mixed.old_on_top

pub year_tells : law.YearTells
year_tells pile room a b w h g other e =
    other (ap (λ (d : DealWords). d.year) ((sound.then_joins pile room w e).sound.one_deal a b h g))

pub mark_tells : law.MarkTells
mark_tells pile room a b w h g other e =
    other (ap (λ (d : DealWords). d.mark) ((sound.then_joins pile room w e).sound.one_deal a b h g))

pub joined-secret : law.JoinedSecret
joined-secret pile room w i e l h =
    let t = sound.then_joins pile room w e in
    poly.joined-secret pile room w t i l (omega (arith, t.is))

pub order_free : law.OrderFree
order_free pile other room w e whole few true-other g f =
    let t = sound.then_joins pile room w e in
    let u = order.other-joins pile other room w t whole few true-other g f in
    (sound.joins_then other room w u, order.same-secret pile other room w t whole few true-other g f)

pub any_order : law.AnyOrder
any_order pile other room w e whole few g f =
    let t = sound.then_joins pile room w e in
    order_free pile other room w e whole few (order.true_within pile other t.sound.blocks_true f) (order.among pile other g) (order.among other pile f)

pub result_writes : law.ResultWrites
unfolding joined_into over
result_writes pile old w e =
    let t = sound.then_joins pile (length old) w e in
    let n : length (secret pile) ≡ w = secret-length (value_at pile) (own_pieces pile) (own_width pile) ∙ t.is in
    (n, lent.result_writes (joining pile (length old)) w (secret pile) old e ∙ ap (λ (x : ℕ). secret pile ++ drop x old) n)

pub refusal_keeps : law.RefusalKeeps
unfolding joined_into
refusal_keeps pile old m a b e = lent.refusal_keeps (joining pile (length old)) m a b (secret pile) old e

pub joiners_agree : law.JoinersAgree
joiners_agree = written.joiners_agree

pub secret_by_differences : law.SecretByDifferences
secret_by_differences pile i l h =
    secret-at (value_at pile) (own_pieces pile) (own_width pile) i l h ∙ sym (by_differences_lem (column (value_at pile) (own_pieces pile) i))

pub secret_by_weights : law.SecretByWeights
secret_by_weights pile i l h =
    let ys = column (value_at pile) (own_pieces pile) i in
    secret-at (value_at pile) (own_pieces pile) (own_width pile) i l h
    ∙ by_weights ys
    ∙ ap (λ (k : ℕ). weighed (weight k) 1 ys % p) (column-length (value_at pile) (own_pieces pile) i)

pub first-scheme : law.FirstScheme
first-scheme pile room other = earlier.as_before true pile other (λ e. absurd (false≢true (sym e))) room

pub earlier_join : law.EarlierJoin
earlier_join pile room other none = earlier.as_before false pile other (λ e. none) room
