-- SPDX-License-Identifier: MIT OR Apache-2.0
-- Readings of texts that break off, and of texts with FF in place of one octet.
use Rattle.std.proofs.Common.{◌≡◌, ℕ, List, [], ◌∷◌, length, map, set, take, None, Ok, Err, refl}
use Rattle.std.specs.List.{range_with_len}
use Rattle.octets.proofs.Hex.{hex}
use Rattle.octets.specs.Walk.{walk}
use Rattle.rsl_codec.specs.declared.fault.RslFault.TheVariants as faults
use Rattle.rsl_codec.specs.declared.rsl.Rsl.{Rsl}
use Rattle.rsl_codec.specs.declared.rsl.Rsl.TheVariants as messages
use Rattle.rsl_codec.specs.RslReading.{rsl_reading, message_at, elements_of, breaks_off, data_at, channel_required_at, activation_at}
use Rattle.rsl_codec.specs.RslType.{rsl_type}

-- each proper beginning of a text, the shortest first, and the text with FF at each place
abbrev beginnings : List ℕ → List (List ℕ)
beginnings text = map (λ size. take size text) (range_with_len 0 (length text))

abbrev with_each_false : List ℕ → List (List ℕ)
with_each_false text = map (λ place. set text place 0xff) (range_with_len 0 (length text))

-- ---- DATA INDICATION: two octets for the type, then elements of 2, 2 and 5 octets

abbrev indication : List ℕ
indication = hex "03 02 01 41 02 00 0b 00 02 03 45"

abbrev indication_on : ℕ → ℕ → List ℕ → Rsl
indication_on channel link l3 = messages.DataIndication (record { channel = channel; link = link; l3 = l3 })

indication_cut : map rsl_reading (beginnings indication) ≡
    Err faults.Short ∷ Err faults.Short ∷ Err (faults.MissingElement 0x01) ∷ Err faults.Short ∷ Err (faults.MissingElement 0x02)
    ∷ Err faults.Short
    ∷ Err (faults.MissingElement 0x0b) ∷ Err faults.Short ∷ Err faults.Short ∷ Err faults.Short ∷ Err faults.Short ∷ []
unfolding rsl_reading message_at elements_of breaks_off rsl_type walk data_at
indication_cut = refl

-- FF is no discriminator, type, identifier or channel number, and as a length too long
indication_false : map rsl_reading (with_each_false indication) ≡
    Err faults.UnknownType ∷ Err faults.UnknownType ∷ Err (faults.MissingElement 0x01) ∷ Err faults.BadChannel
    ∷ Err (faults.MissingElement 0x02)
    ∷ Ok (indication_on 0x41 0xff (hex "03 45")) ∷ Err (faults.MissingElement 0x0b) ∷ Err faults.Short ∷ Err faults.Short
    ∷ Ok (indication_on 0x41 0x00 (hex "ff 45")) ∷ Ok (indication_on 0x41 0x00 (hex "03 ff")) ∷ []
unfolding rsl_reading message_at elements_of breaks_off rsl_type walk data_at
indication_false = refl

-- ---- CHANNEL REQUIRED: then elements of 2, 4 and 2 octets

abbrev required : List ℕ
required = hex "0c 13 01 88 13 7f 01 02 11 05"

abbrev required_at : ℕ → ℕ → ℕ → Rsl
required_at access frame delay = messages.ChannelRequired
    (record { channel = 0x88; reference = record { access = access; frame = frame }; access_delay = record { 0 = delay } })

required_cut : map rsl_reading (beginnings required) ≡
    Err faults.Short ∷ Err faults.Short ∷ Err (faults.MissingElement 0x01) ∷ Err faults.Short ∷ Err (faults.MissingElement 0x13)
    ∷ Err faults.Short ∷ Err faults.Short ∷ Err faults.Short ∷ Err (faults.MissingElement 0x11) ∷ Err faults.Short ∷ []
unfolding rsl_reading message_at elements_of breaks_off rsl_type walk channel_required_at
required_cut = refl

required_false : map rsl_reading (with_each_false required) ≡
    Err faults.UnknownType ∷ Err faults.UnknownType ∷ Err (faults.MissingElement 0x01) ∷ Err faults.BadChannel
    ∷ Err (faults.MissingElement 0x13)
    ∷ Ok (required_at 0xff 0x0102 0x05) ∷ Ok (required_at 0x7f 0xff02 0x05) ∷ Ok (required_at 0x7f 0x01ff 0x05)
    ∷ Err (faults.MissingElement 0x11) ∷ Ok (required_at 0x7f 0x0102 0xff) ∷ []
unfolding rsl_reading message_at elements_of breaks_off rsl_type walk channel_required_at
required_false = refl

-- ---- DATA REQUEST with CHANNEL RELEASE, normal event: elements of 2, 2 and 6 octets

abbrev release : List ℕ
release = hex "03 01 01 41 02 00 0b 00 03 06 0d 00"

abbrev release_on : ℕ → ℕ → List ℕ → Rsl
release_on channel link l3 = messages.DataRequest (record { channel = channel; link = link; l3 = l3 })

release_cut : map rsl_reading (beginnings release) ≡
    Err faults.Short ∷ Err faults.Short ∷ Err (faults.MissingElement 0x01) ∷ Err faults.Short ∷ Err (faults.MissingElement 0x02)
    ∷ Err faults.Short
    ∷ Err (faults.MissingElement 0x0b) ∷ Err faults.Short ∷ Err faults.Short ∷ Err faults.Short ∷ Err faults.Short ∷ Err faults.Short
    ∷ []
unfolding rsl_reading message_at elements_of breaks_off rsl_type walk data_at
release_cut = refl

release_false : map rsl_reading (with_each_false release) ≡
    Err faults.UnknownType ∷ Err faults.UnknownType ∷ Err (faults.MissingElement 0x01) ∷ Err faults.BadChannel
    ∷ Err (faults.MissingElement 0x02)
    ∷ Ok (release_on 0x41 0xff (hex "06 0d 00")) ∷ Err (faults.MissingElement 0x0b) ∷ Err faults.Short ∷ Err faults.Short
    ∷ Ok (release_on 0x41 0x00 (hex "ff 0d 00")) ∷ Ok (release_on 0x41 0x00 (hex "06 ff 00")) ∷ Ok (release_on 0x41 0x00 (hex "06 0d ff"))
    ∷ []
unfolding rsl_reading message_at elements_of breaks_off rsl_type walk data_at
release_false = refl

-- ---- CHANNEL ACTIVATION of a TCH/F for an assignment: elements of 2, 2 and 6 octets

abbrev activation : List ℕ
activation = hex "08 21 01 0a 03 01 06 04 00 01 08 01"

abbrev activation_of : ℕ → List ℕ → Rsl
activation_of kind mode = messages.ChannelActivation
    (record { channel = 0x0a; activation = record { 0 = kind }; mode = record { 0 = mode }; reference = None })

activation_cut : map rsl_reading (beginnings activation) ≡
    Err faults.Short ∷ Err faults.Short ∷ Err (faults.MissingElement 0x01) ∷ Err faults.Short ∷ Err (faults.MissingElement 0x03)
    ∷ Err faults.Short
    ∷ Err (faults.MissingElement 0x06) ∷ Err faults.Short ∷ Err faults.Short ∷ Err faults.Short ∷ Err faults.Short ∷ Err faults.Short
    ∷ []
unfolding rsl_reading message_at elements_of breaks_off rsl_type walk activation_at
activation_cut = refl

activation_false : map rsl_reading (with_each_false activation) ≡
    Err faults.UnknownType ∷ Err faults.UnknownType ∷ Err (faults.MissingElement 0x01) ∷ Err faults.BadChannel
    ∷ Err (faults.MissingElement 0x03)
    ∷ Ok (activation_of 0xff (hex "00 01 08 01")) ∷ Err (faults.MissingElement 0x06) ∷ Err faults.Short
    ∷ Ok (activation_of 0x01 (hex "ff 01 08 01")) ∷ Ok (activation_of 0x01 (hex "00 ff 08 01"))
    ∷ Ok (activation_of 0x01 (hex "00 01 ff 01")) ∷ Ok (activation_of 0x01 (hex "00 01 08 ff")) ∷ []
unfolding rsl_reading message_at elements_of breaks_off rsl_type walk activation_at
activation_false = refl
