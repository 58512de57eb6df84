-- SPDX-License-Identifier: MIT OR Apache-2.0
-- The octets that are written are read as the message that was put.
use Rattle.std.proofs.Common.{◌≡◌, ℕ, ◌≤◌, ◌<◌, ◌^◌, ◌++◌, List, [], Some, None, Ok, refl, subst, rules, append-nil}
use Rattle.octets.specs.declared.limits.TheConstants.{LENGTH_LIMIT}
use Rattle.bssmap_codec.specs.declared.bssap.Bssap.{Bssap}
use Rattle.bssmap_codec.specs.declared.sccp.Sccp.{Sccp}
use Rattle.bssmap_codec.specs.declared.sccp.Sccp.TheVariants as sccp
use Rattle.bssmap_codec.specs.BssapReading.{bssap_reading}
use Rattle.bssmap_codec.specs.BssapText.{HasDlci, bssap_text, bssap_write_fault}
use Rattle.bssmap_codec.specs.SccpReading.{sccp_reading}
use Rattle.bssmap_codec.specs.SccpText.{HasReferences, sccp_text, sccp_write_fault, size_fault}
use Rattle.bssmap_codec.proofs.Bssaps.{bssap_again}
use Rattle.bssmap_codec.proofs.BssapTexts.{bssap_written}
use Rattle.bssmap_codec.proofs.Sccps.{sccp_again}
use Rattle.bssmap_codec.proofs.SccpTexts.{sccp_written}
use Rattle.conn_messages.specs.declared.message.Message.{Message}
use Rattle.conn_messages.specs.declared.message.Message.TheVariants as puts
use Rattle.conn_messages.specs.Out.{IsLawfulMessage, IsReadOf, IsWritable, out_of}
use Rattle.rsl_codec.specs.declared.rsl.Rsl.{Rsl}
use Rattle.rsl_codec.specs.Rsl.{IsLawful}
use Rattle.rsl_codec.specs.RslReading.{rsl_reading}
use Rattle.rsl_codec.specs.RslText.{rsl_text, rsl_write_fault}
use Rattle.rsl_codec.proofs.Messages.{rsl_text_is_text, text_is_read}

rsl_read : (message : Rsl) → IsLawful message → rsl_write_fault message ≡ None → rsl_reading (rsl_text message) ≡ Ok message
rsl_read message lawful e =
    subst (λ (octets : List ℕ). rsl_reading octets ≡ Ok message) (append-nil (rsl_text message))
    (text_is_read (rsl_text message ++ []) message (rsl_text_is_text message [] lawful e tt))

sccp_read : (message : Sccp) → HasReferences message → sccp_write_fault message ≡ None → sccp_reading (sccp_text message) ≡ Ok message
sccp_read message has e =
    subst (λ (octets : List ℕ). sccp_reading octets ≡ Ok message) (append-nil (sccp_text message))
    (sccp_again (sccp_text message ++ []) message (sccp_written message [] has e))

bssap_read : (message : Bssap) → HasDlci message → bssap_write_fault message ≡ None → bssap_reading (bssap_text message) ≡ Ok message
bssap_read message has e =
    subst (λ (octets : List ℕ). bssap_reading octets ≡ Ok message) (append-nil (bssap_text message))
    (bssap_again (bssap_text message ++ []) message (bssap_written message [] has e))

-- a length octet counts so many
counted : (size : ℕ) → size ≤ LENGTH_LIMIT → size_fault size ≡ None
counted size short = search rules

pub message_again : (number : ℕ) (message : Message) →
    number < 2 ^ 24 →
    IsWritable message →
    IsLawfulMessage message →
    IsReadOf number message (out_of number message).frame.body
unfolding out_of
message_again number (puts.Station station message) three writable lawful = rsl_read message lawful writable
message_again number (puts.Request message) three writable lawful =
    (bssap_text message, sccp_read (sccp.ConnectionRequest number (Some (bssap_text message))) three (counted _ writable.short), bssap_read message lawful writable.written)
message_again number (puts.Data destination message) three writable lawful =
    (bssap_text message, sccp_read (sccp.DataForm1 destination (bssap_text message)) lawful.0 (counted _ writable.short), bssap_read message lawful.1 writable.written)
message_again number (puts.ReleaseComplete destination) three writable lawful = sccp_read (sccp.ReleaseComplete destination number) (lawful, three) refl
