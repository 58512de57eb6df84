-- SPDX-License-Identifier: MIT OR Apache-2.0
-- Whole texts of the A interface, read and written back: those of an access, and of a handover.
use Rattle.std.proofs.Common.{◌≡◌, List, ℕ, Some, Ok, refl}
use Rattle.octets.proofs.Hex.{hex}
use Rattle.octets.specs.Front.{octet_at, counted_at}
use Rattle.octets.specs.Walk.{walk}
use Rattle.bssmap_codec.specs.declared.bssap.Bssap.{Bssap}
use Rattle.bssmap_codec.specs.declared.bssap.Bssap.TheVariants.{Management}
use Rattle.bssmap_codec.specs.declared.bssmap.Bssmap.TheVariants.{CompleteLayer3Information, HandoverPerformed}
use Rattle.bssmap_codec.specs.declared.sccp.Sccp.{Sccp}
use Rattle.bssmap_codec.specs.declared.sccp.Sccp.TheVariants.{ConnectionRequest, ConnectionConfirm, DataForm1}
use Rattle.bssmap_codec.specs.BssapReading.{cause_of, cell_of, elements_of, breaks_off, needed_value, layer3_at, handover_performed_at, complete_layer3_at, content_at, message_at, management_at, bssap_reading}
use Rattle.bssmap_codec.specs.BssapText.{bssap_text}
use Rattle.bssmap_codec.specs.BssmapType.{bssmap_type}
use Rattle.bssmap_codec.specs.Reference.{reference_at, references_at}
use Rattle.bssmap_codec.specs.SccpReading.{part_at, option_at, data_in, user_data_at, request_at, fixed_references_at, data_behind_at, data_form_at, sccp_reading}
use Rattle.bssmap_codec.specs.SccpText.{sccp_text}
use Rattle.bssmap_codec.specs.SccpType.{sccp_type}

abbrev IsSccp : List ℕ → Sccp → Type 0
IsSccp octets message = (sccp_reading octets ≡ Ok message) × (sccp_text message ≡ octets)

abbrev IsBssap : List ℕ → Bssap → Type 0
IsBssap octets message = (bssap_reading octets ≡ Ok message) × (bssap_text message ≡ octets)

connection_requested : IsSccp (hex "01 00 00 01 02 02 04 02 42 fe 0f 12 00 10 57 05 08 00 00 f1 10 00 01 00 01 17 03 05 24 71 00")
    (ConnectionRequest 0x000001 (Some (hex "00 10 57 05 08 00 00 f1 10 00 01 00 01 17 03 05 24 71")))
unfolding sccp_reading octet_at sccp_type reference_at request_at part_at counted_at user_data_at data_in option_at
connection_requested = (refl, refl)

-- cell 1: MCC 001, MNC 01, LAC 1, CI 1
opened_with : IsBssap (hex "00 10 57 05 08 00 00 f1 10 00 01 00 01 17 03 05 24 71")
    (Management (CompleteLayer3Information (cell_of (hex "00 00 f1 10 00 01 00 01")) (hex "05 24 71")))
unfolding bssap_reading octet_at management_at bssmap_type message_at breaks_off elements_of walk needed_value layer3_at complete_layer3_at
opened_with = (refl, refl)

connection_confirmed : IsSccp (hex "02 00 00 01 80 00 01 02 00") (ConnectionConfirm 0x000001 0x800001)
unfolding sccp_reading octet_at sccp_type reference_at references_at fixed_references_at
connection_confirmed = (refl, refl)

performed_as_data : IsSccp (hex "06 80 00 01 00 01 10 00 0e 17 04 01 0c 05 08 00 00 f1 10 00 01 00 02")
    (DataForm1 0x800001 (hex "00 0e 17 04 01 0c 05 08 00 00 f1 10 00 01 00 02"))
unfolding sccp_reading octet_at sccp_type reference_at part_at counted_at data_behind_at data_form_at
performed_as_data = (refl, refl)

-- to cell 2, since it is the better cell
handover_performed : IsBssap (hex "00 0e 17 04 01 0c 05 08 00 00 f1 10 00 01 00 02")
    (Management (HandoverPerformed (cause_of (hex "0c")) (cell_of (hex "00 00 f1 10 00 01 00 02"))))
unfolding bssap_reading octet_at management_at bssmap_type message_at breaks_off elements_of walk needed_value handover_performed_at
handover_performed = (refl, refl)
