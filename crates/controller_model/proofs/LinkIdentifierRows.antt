-- SPDX-License-Identifier: MIT OR Apache-2.0
-- The SAPI of a link identifier: bits 8 and 7 are the channel (00 main signalling, 01 SACCH), bits
-- 6 to 4 the priority, bits 3 to 1 the SAPI.
use Rattle.controller_model.proofs.Prelude.{◌≡◌, ◌∷◌, [], map, Some, None, refl, hex, Three, Zero, sapi_of}

-- SAPI 0 counts on the main link alone, with no other bit
sapi_0 : map sapi_of (hex "00 40 80 c0 08 10 20 38") ≡ Some Zero ∷ None ∷ None ∷ None ∷ None ∷ None ∷ None ∷ None ∷ []
sapi_0 = refl

-- SAPI 3 on the main link and on the SACCH
sapi_3 : map sapi_of (hex "03 43 83 c3") ≡ Some Three ∷ Some Three ∷ None ∷ None ∷ []
sapi_3 = refl

-- whatever its priority
sapi_3_with_a_priority : map sapi_of (hex "0b 13 23 3b 4b 53 63 7b") ≡ Some Three ∷ Some Three ∷ Some Three ∷ Some Three ∷ Some Three ∷ Some Three ∷ Some Three ∷ Some Three ∷ []
sapi_3_with_a_priority = refl

-- of neither of the two channels
sapi_3_of_no_channel : map sapi_of (hex "8b bb cb fb") ≡ None ∷ None ∷ None ∷ None ∷ []
sapi_3_of_no_channel = refl

-- another SAPI
other_sapis : map sapi_of (hex "01 02 04 05 06 07 41 42 44 47 c1 ff") ≡ None ∷ None ∷ None ∷ None ∷ None ∷ None ∷ None ∷ None ∷ None ∷ None ∷ None ∷ None ∷ []
other_sapis = refl
