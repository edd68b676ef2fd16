-- Worked cases, computed. Assumes nothing.
use mathlib.Core.Path.{◌≡◌, refl}
use mathlib.Core.List.{[], ◌∷◌}
use Rattle.answer.specs.Outcome.{refused}
use Rattle.answer.specs.Checks.{first_fail}
use Rattle.answer.specs.Lent.{no_room}
use Rattle.lists.specs.Places.{first_from}
use Rattle.packing.specs.Digits.{number_from, number_of, digits}
use Rattle.packing.specs.Key.{packed, unpacked, first_wrong, unpacking}

packed_case_1 : packed (1 ∷ 2 ∷ 3 ∷ 4 ∷ 5 ∷ 6 ∷ 7 ∷ 8 ∷ 9 ∷ 10 ∷ 11 ∷ 12 ∷ 13 ∷ 14 ∷ 15 ∷ 16 ∷ []) ≡ 8 ∷ 515 ∷ 128 ∷ 5144 ∷ 900 ∷ 144 ∷ 5142 ∷ 771
    ∷ 2160 ∷ 3856 ∷ []
unfolding packed digits number_of number_from
packed_case_1 = refl

unpacked_case_1 : unpacked (8 ∷ 515 ∷ 128 ∷ 5144 ∷ 900 ∷ 144 ∷ 5142 ∷ 771 ∷ 2160 ∷ 3856 ∷ []) ≡ 1 ∷ 2 ∷ 3 ∷ 4 ∷ 5 ∷ 6 ∷ 7 ∷ 8 ∷ 9 ∷ 10 ∷ 11 ∷ 12 ∷ 13
    ∷ 14 ∷ 15 ∷ 16 ∷ []
unfolding unpacked digits number_of number_from
unpacked_case_1 = refl

packed_case_2 : packed (255 ∷ 255 ∷ 255 ∷ 255 ∷ 255 ∷ 255 ∷ 255 ∷ 255 ∷ 255 ∷ 255 ∷ 255 ∷ 255 ∷ 255 ∷ 255 ∷ 255 ∷ 255 ∷ []) ≡ 2047 ∷ 8191 ∷ 8191
    ∷ 8191 ∷ 8191 ∷ 8191 ∷ 8191 ∷ 8191 ∷ 8191 ∷ 8191 ∷ []
unfolding packed digits number_of number_from
packed_case_2 = refl

unpacked_case_2 : unpacked (2047 ∷ 8191 ∷ 8191 ∷ 8191 ∷ 8191 ∷ 8191 ∷ 8191 ∷ 8191 ∷ 8191 ∷ 8191 ∷ []) ≡ 255 ∷ 255 ∷ 255 ∷ 255 ∷ 255 ∷ 255 ∷ 255 ∷ 255
    ∷ 255 ∷ 255 ∷ 255 ∷ 255 ∷ 255 ∷ 255 ∷ 255 ∷ 255 ∷ []
unfolding unpacked digits number_of number_from
unpacked_case_2 = refl

packed_case_3 : packed (128 ∷ 0 ∷ 0 ∷ 0 ∷ 0 ∷ 0 ∷ 0 ∷ 0 ∷ 0 ∷ 0 ∷ 0 ∷ 0 ∷ 0 ∷ 0 ∷ 0 ∷ 1 ∷ []) ≡ 1024 ∷ 0 ∷ 0 ∷ 0 ∷ 0 ∷ 0 ∷ 0 ∷ 0 ∷ 0 ∷ 1 ∷ []
unfolding packed digits number_of number_from
packed_case_3 = refl

unpacked_case_3 : unpacked (1024 ∷ 0 ∷ 0 ∷ 0 ∷ 0 ∷ 0 ∷ 0 ∷ 0 ∷ 0 ∷ 1 ∷ []) ≡ 128 ∷ 0 ∷ 0 ∷ 0 ∷ 0 ∷ 0 ∷ 0 ∷ 0 ∷ 0 ∷ 0 ∷ 0 ∷ 0 ∷ 0 ∷ 0 ∷ 0 ∷ 1 ∷ []
unfolding unpacked digits number_of number_from
unpacked_case_3 = refl

-- the first word is above 2047; word 10 is above 8191; nine words
wrong_case_1 : unpacking (2048 ∷ 0 ∷ 0 ∷ 0 ∷ 0 ∷ 0 ∷ 0 ∷ 0 ∷ 0 ∷ 9000 ∷ []) 0 ≡ refused 23 1 0
unfolding unpacking first_fail first_wrong first_from
wrong_case_1 = refl

wrong_case_2 : unpacking (2047 ∷ 8191 ∷ 0 ∷ 0 ∷ 0 ∷ 0 ∷ 0 ∷ 0 ∷ 0 ∷ 8192 ∷ []) 0 ≡ refused 23 10 0
unfolding unpacking first_fail first_wrong first_from
wrong_case_2 = refl

wrong_case_3 : unpacking (9000 ∷ 0 ∷ 0 ∷ 0 ∷ 0 ∷ 0 ∷ 0 ∷ 0 ∷ 0 ∷ []) 0 ≡ refused 23 0 0
unfolding unpacking first_fail first_wrong first_from
wrong_case_3 = refl

room_case : unpacking (2047 ∷ 8191 ∷ 0 ∷ 0 ∷ 0 ∷ 0 ∷ 0 ∷ 0 ∷ 0 ∷ 8191 ∷ []) 1 ≡ refused 12 16 0
unfolding unpacking first_fail first_wrong first_from no_room
room_case = refl
