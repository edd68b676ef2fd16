-- This room's laws, proved: each by its name in specs/Laws.antt. Assumes nothing.
use mathlib.Core.Path.{◌≡◌, ◌∙◌}
use mathlib.Core.List.{List}
use Prim.Native.Nat.{ℕ, ◌-◌, ◌≤◌}
use native.Mathlib.Omega.{arith}
use lib.ListN.{length}
use Rattle.field.specs.Secret.{column}
use Rattle.field.specs.Joined.{joined}
use Rattle.field.specs.Poly.{value, Through, One}
use Rattle.field.specs.Laws as law
use Rattle.field.proofs.Unique as unique
use Rattle.field.proofs.DifferenceLaws as differences
use Rattle.field.proofs.ValuesLaws as values
use Rattle.field.proofs.RoundTrip as trip
use Rattle.field.proofs.Loosened as loosened
use Rattle.field.proofs.Curve as curve
use Rattle.field.proofs.Pairing as pairing
use Rattle.field.proofs.HidingLaws as hiding
use Rattle.field.proofs.Table as table
use Rattle.field.proofs.AddedLaws as sums
use Rattle.field.proofs.SecretLaws as secret
use Rattle.field.proofs.SumLaws as joint
use Rattle.field.proofs.Renewing as renewing
use Rattle.field.proofs.PartLaws as parts

pub values-at : law.ValuesAt
values-at q ds rs j i l h = values.values-at q ds rs j (i - 1) (omega arith)

pub zeros_too : law.ZerosToo
zeros_too = values.zeros_too

pub values_fit : law.ValuesFit
values_fit q ds rs j = (values.values_length q ds rs j, values.values-below q ds rs j)

pub joined_one : law.JoinedOne
joined_one ys b l =
    let cs = curve.curve (length ys) 1 ys in
    let t = curve.through_some ys b l in
    (cs, record { is = t; only = λ ds u. unique.through_one ds cs ys l u t }, unique.joined-value cs ys t ∙ unique.value-start cs t.below)

pub by_differences_lem : law.ByDifferences
by_differences_lem = differences.by_differences_lem

pub rows_end : law.RowsEnd
rows_end = differences.rows_end

pub round_trip : law.RoundTrip
round_trip = unique.round_trip_one

pub round_trip_words : law.RoundTripWords
round_trip_words = trip.round_trip

pub loose_some : law.LooseSome
loose_some k m h l u = (loosened.loose m k, loosened.loose_is k m h l u)

pub paired_some : law.PairedSome
paired_some k m ds ds' h l u e =
    let r = loose_some k m h l u in
    pairing.paired_by k m r.0 r.1 ds ds' e

pub none_favoured : law.NoneFavoured
none_favoured X Y W A B one other member = hiding.none_favoured

pub hidden_gives : law.HiddenGives
hidden_gives k m v ds ds' h l u e = hiding.none_favoured (paired_some k m ds ds' h l u e) v

pub weights_are : law.WeightsAre
weights_are = table.table_weights

pub added-fits : law.AddedFits
added-fits xs ys = (sums.added-length xs ys, sums.added-below xs ys)

pub added-at : law.AddedAt
added-at = sums.added-at

pub values-added : law.ValuesAdded
values-added = sums.values-added

pub zeros-added : law.ZerosAdded
zeros-added = renewing.zeros-added

pub paired_two_some : law.PairedTwoSome
paired_two_some k m m' ds ds' h l u l' u' e b b' =
    renewing.paired_two k m m' ds ds' b b' (paired_some k m ds ds' h l u e) (paired_some k m' ds ds' h l' u' e)

pub part_random : law.PartRandom
part_random = parts.part_random

pub round_trip_all : law.RoundTripAll
round_trip_all = parts.round_trip_all

pub paired_all_some : law.PairedAllSome
paired_all_some = parts.paired_all (λ k m ds ds' h l u e. paired_some k m ds ds' h l u e)

pub joined-added : law.JoinedAdded
joined-added = joint.joined-added

pub secret-added : law.SecretAdded
secret-added = joint.secret-added

pub secret_one : law.SecretOne
secret_one v k w h b =
    let word : (i : ℕ) → 1 ≤ i → i ≤ w → (cs : List ℕ) × One (λ ds. Through ds (column v k i)) cs × (joined (column v k i) ≡ value cs 0)
    = λ i l u. joined_one (column v k i) (secret.column-below v k i (λ j m n. b j i m n l u)) (omega (arith, secret.column-length v k i)) in (
      secret.secret-length v k w,
      secret.secret-below v k w (λ i l u. let r = word i l u in omega (arith, r.2, unique.value-start r.0 r.1.is.below)),
      λ i l u. let r = word i l u in (r.0, r.1, secret.secret-at v k w i l u ∙ r.2),
    )
