-- P1's policy dealt by sets, number 7, year 0, secret 1234, coefficients 5, 7, 9, by computation: the minimal sets, also of a list with repeats and
-- with sets around smaller ones, and every byte of the card of holder 1. Assumes nothing.
use mathlib.Core.Path.{◌≡◌, refl}
use mathlib.Core.List.{[], ◌∷◌, ◌++◌}
use lib.ListN.{replicate}
use Rattle.lists.specs.Flat.{flat}
use Rattle.lists.specs.Places.{those}
use Rattle.lists.specs.Run.{run}
use Rattle.lists.specs.Some.{some, each}
use Rattle.field.specs.Poly.{value}
use Rattle.field.specs.Pieces.{values}
use Rattle.field.specs.Parts.{coefficients, part_of}
use Rattle.planning.specs.Sets.{member, member_count, inside}
use Rattle.planning.specs.Policy.{policy_of}
use Rattle.minimal.specs.Minimal.{within, least, minimals, sets_with, counted}
use Rattle.block.specs.Words.{word_at, bytes_of, weighted, check_of}
use Rattle.block.specs.Layout.{held_at}
use Rattle.block.specs.Written.{body, block_bytes}
use Rattle.dealing.specs.Deal.{Deal, deal_from}
use Rattle.bysets.specs.Cards.{set_block_for, block_by, set_card}

abbrev deal : Deal
deal = deal_from (policy_of 4 (3 ∷ 6 ∷ 12 ∷ []) (9 ∷ [])) 7 0 (1234 ∷ []) (5 ∷ 7 ∷ 9 ∷ [])

pub the_sets : minimals 4 (12 ∷ 7 ∷ 3 ∷ 6 ∷ 3 ∷ []) ≡ 3 ∷ 6 ∷ 12 ∷ []
unfolding minimals those least some within inside each member
the_sets = refl

pub holder_1 : set_card deal 1 ≡ bytes_of (1988 ∷ 7 ∷ 1 ∷ 4 ∷ 2 ∷ 1 ∷ 1 ∷ 1239 ∷ (replicate 16 0 ++ 1 ∷ replicate 230 0) ++ 11981 ∷ [])
unfolding set_card block_by set_block_for sets_with part_of coefficients values value flat minimals those least some within inside each member member_count counted block_bytes body run held_at bytes_of check_of weighted word_at
holder_1 = refl
