-- SPDX-License-Identifier: MIT OR Apache-2.0
-- Link identifiers (TS 48.058 clause 9.3.2).
use Rattle.std.specs.Prelude.{ℕ, nat_le, if◌then◌else◌}
use Rattle.rsl_codec.specs.declared.channel_number.TheConstants.{FIRST_SDCCH}
use Rattle.rsl_codec.specs.declared.link_identifier.TheConstants.{MAIN_LINK_SAPI_3, SACCH_SAPI_3}

-- the link identifier of SAPI 3: on the main signalling channel for an SDCCH, on the SACCH for a
-- TCH
abbrev pub short_message_link : ℕ → ℕ
short_message_link channel = if nat_le FIRST_SDCCH channel then MAIN_LINK_SAPI_3 else SACCH_SAPI_3
