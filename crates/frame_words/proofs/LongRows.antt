-- SPDX-License-Identifier: MIT OR Apache-2.0
-- Lines of `decode --long`, after TS 48.058, Q.713, TS 48.006 and TS 24.007.
use Rattle.std.proofs.Common.{◌≡◌, ℕ, List, [], ◌∷◌, refl}
use Rattle.std.specs.Fmt.{digits}
use Rattle.std.specs.Prelude.{codes}
use Rattle.octets.proofs.Hex.{hex}
use Rattle.octets.specs.Front.{octet_at, counted_at}
use Rattle.octets.specs.Walk.{walk}
use Rattle.hex.proofs.OnLiterals.{hex_on_literals}
use Rattle.rsl_codec.specs.RslReading.{elements_of, breaks_off, channel_only_at, link_at, data_at, measurement_result_at, message_at}
use Rattle.rsl_codec.specs.RslReading.{rsl_reading}
use Rattle.rsl_codec.specs.RslType.{rsl_type}
use Rattle.bssmap_codec.specs.Reference.{reference_at, references_at}
use Rattle.bssmap_codec.specs.SccpReading.{part_at, option_at, data_in, user_data_at, fixed_references_at, data_behind_at, data_form_at}
use Rattle.bssmap_codec.specs.SccpReading.{sccp_reading}
use Rattle.bssmap_codec.specs.SccpType.{sccp_type}
use Rattle.bssmap_codec.specs.BssapReading.{layer3_at, transfer_at, bssap_reading}
use Rattle.frame_words.specs.LongLine.{long_line}

-- a frame computes under one name
unfoldable on_literals : Unit {0}
unfolding octet_at counted_at walk elements_of breaks_off channel_only_at link_at data_at measurement_result_at message_at rsl_reading rsl_type reference_at references_at part_at option_at data_in user_data_at fixed_references_at data_behind_at data_form_at sccp_reading sccp_type layer3_at transfer_at bssap_reading
on_literals = tt

abbrev line : ℕ → List ℕ → List ℕ
line stream body = long_line (record { stream = stream; body = body })

ping : line 0xfe (0x00 ∷ []) ≡ codes "fe PING\t\t00\n"
unfolding hex_on_literals
ping = refl

-- N(SD) 2 in a message of call control
data_indication : line 0x00 (hex "03 02 01 41 02 00 0b 00 02 03 85") ≡
    codes "00 DATA INDICATION CC\tchannel 41 N(SD) 2\t0302014102000b00020385\n"
unfolding digits hex_on_literals on_literals
data_indication = refl

-- the fault, and no field
no_number : line 0x00 (hex "08 28 01 41") ≡ codes "00 fault S3\t\t08280141\n"
unfolding hex_on_literals on_literals
no_number = refl

dt1 : line 0xfd (hex "06 80 00 01 00 01 05 01 00 02 03 45") ≡
    codes "fd DT1 DTAP SAPI 0\tto 800001 N(SD) 1\t068000010001050100020345\n"
unfolding digits hex_on_literals on_literals
dt1 = refl
