-- SPDX-License-Identifier: MIT OR Apache-2.0
-- Values of elements: the DLCI and the channel type.
use Rattle.std.specs.Prelude.{ℕ, ◌%◌, Bool, false, ◌||◌, ◌==◌, if◌then◌else◌}
use Rattle.std.specs.Prelude.{List, [], ◌∷◌, Option}
use Rattle.std.specs.Prelude.{Some, None}
use Rattle.bssmap_codec.specs.declared.values.TheConstants.{SHORT_MESSAGE_SAPI, SIGNALLING_SAPI}
use Rattle.bssmap_codec.specs.declared.values.TheConstants.{SPEECH}

-- whether the SAPI of a DLCI octet, bits 3 to 1, is 0 or 3
abbrev pub is_dlci : ℕ → Bool
is_dlci octet = (octet % 8 == SIGNALLING_SAPI) || (octet % 8 == SHORT_MESSAGE_SAPI)

abbrev pub dlci_of : ℕ → Option ℕ
dlci_of octet = if is_dlci octet then Some octet else None

-- whether a channel type asks for speech, by bits 4 to 1 of its first octet
abbrev pub is_speech_type : List ℕ → Bool
is_speech_type [] = false
is_speech_type (first ∷ rest) = first % 16 == SPEECH
