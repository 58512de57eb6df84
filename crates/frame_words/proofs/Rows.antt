-- SPDX-License-Identifier: MIT OR Apache-2.0
-- Names of messages inside frames, after TS 24.007, TS 44.018 and TS 48.006.
use Rattle.std.proofs.Common.{◌≡◌, [], ◌∷◌, Some, None, map, refl}
use Rattle.std.specs.Prelude.{codes}
use Rattle.octets.proofs.Hex.{hex}
use Rattle.hex.proofs.OnLiterals.{hex_on_literals}
use Rattle.bssmap_codec.specs.declared.sccp.Sccp.TheVariants as connection
use Rattle.frame_words.specs.Carried.{layer_3_name}
use Rattle.frame_words.specs.CarriedNames.{dtap_name}
use Rattle.frame_words.specs.Fields.{channel_field, references_text}

protocols : map layer_3_name (hex "03 05" ∷ hex "83 07" ∷ hex "05 24" ∷ hex "09 01" ∷ hex "0b 3b" ∷ hex "0c 00" ∷ []) ≡
    codes "CC" ∷ codes "CC" ∷ codes "MM" ∷ codes "SMS" ∷ codes "SS" ∷ codes "unknown" ∷ []
unfolding hex_on_literals
protocols = refl

no_octet : layer_3_name [] ≡ codes "unknown"
no_octet = refl

-- on the main signalling channel and on the SACCH
links : map dtap_name (0x00 ∷ 0x80 ∷ 0x03 ∷ 0xc3 ∷ []) ≡ codes "DTAP SAPI 0" ∷ codes "DTAP SAPI 0" ∷ codes "DTAP SAPI 3" ∷ codes
    "DTAP SAPI 3" ∷ []
links = refl

-- ---- fields: CC from 000001 to 800001, and a channel

both_references : references_text (connection.ConnectionConfirm 0x800001 0x000001) ≡ codes " to 800001 from 000001"
unfolding hex_on_literals
both_references = refl

one_reference : references_text (connection.DataForm1 0x800001 []) ≡ codes " to 800001"
unfolding hex_on_literals
one_reference = refl

sender_alone : references_text (connection.ConnectionRequest 0x000001 None) ≡ codes " from 000001"
unfolding hex_on_literals
sender_alone = refl

on_channel : map channel_field (Some 0x41 ∷ None ∷ []) ≡ codes " channel 41" ∷ [] ∷ []
unfolding hex_on_literals
on_channel = refl
