-- SPDX-License-Identifier: MIT OR Apache-2.0
-- The messages that can be written fit a frame.
use Rattle.std.proofs.Common.{◌≡◌, ℕ, ◌+◌, ◌*◌, ◌≤◌, ◌<◌, get_or, ◌||◌, Bool, true, false, cond, List, [], ◌∷◌, length, length-append, Option, Some, None, option_map, refl, arith}
use Rattle.std.proofs.lemmas.Bool.{ltb-false}
use Rattle.std.proofs.lemmas.Grind.{common_steps}
use Rattle.std.proofs.lemmas.List.Elements.{All-from_recursion}
use Rattle.std.specs.List.{AllByRecursion}
use Rattle.octets.specs.declared.element.Format.{Format}
use Rattle.octets.specs.declared.element.Format.TheVariants.{Tv, Tlv, TlvE}
use Rattle.octets.specs.declared.limits.TheConstants.{LENGTH_LIMIT, MESSAGE_LIMIT}
use Rattle.octets.specs.Element.{Element, element, format_in}
use Rattle.octets.specs.Field.{Field, element_text_by}
use Rattle.conn_messages.specs.declared.message.Message.{Message}
use Rattle.conn_messages.specs.declared.message.Message.TheVariants as puts
use Rattle.conn_messages.specs.Out.{IsSound, IsWritable, out_of}
use Rattle.conn_messages.specs.OutputsState.{IsSendable}
use Rattle.ipa_framing.specs.declared.frame.TheConstants.{MAX_BODY}
use Rattle.rsl_codec.specs.declared.fault.RslFault.TheVariants as faults
use Rattle.rsl_codec.specs.declared.identifiers.TheConstants.{ELEMENTS}
use Rattle.rsl_codec.specs.declared.rsl.Rsl.{Rsl}
use Rattle.rsl_codec.specs.declared.rsl.Rsl.TheVariants as messages
use Rattle.rsl_codec.specs.Fields.{octet_value, number_value}
use Rattle.rsl_codec.specs.Rsl.{fields, l3_of}
use Rattle.rsl_codec.specs.RslText.{is_empty, is_over, rsl_element_text, rsl_field_text, rsl_fields_text, rsl_text, rsl_write_fault, value_of}

-- ---- the values of the elements of RSL

-- a value that isn't longer than a length octet counts
abbrev IsShort : Option (List ℕ) → Type 0
IsShort None = Unit {0}
IsShort (Some value) = length value ≤ LENGTH_LIMIT

abbrev HasShortValue : Field → Type 0
HasShortValue f = IsShort f.value

over_none : (most : ℕ) (value : List ℕ) → is_over most (Some value) ≡ false → length value ≤ most
over_none most value e = ltb-false most (length value) e

short_value : (o : Option (List ℕ)) → is_over LENGTH_LIMIT o ≡ false → IsShort o
short_value None e = tt
short_value (Some value) e = over_none LENGTH_LIMIT value e

short_l3 : (o : Option (List ℕ)) → is_over MESSAGE_LIMIT o ≡ false → IsShort o
short_l3 None e = tt
short_l3 (Some value) e = omega (arith, over_none MESSAGE_LIMIT value e)

short_octet_if : {X : Type 0} (o : Option X) (f : X → ℕ) → IsShort (option_map (λ x. octet_value (f x)) o)
short_octet_if None f = tt
short_octet_if (Some x) f = omega arith

short_number_if : {X : Type 0} (o : Option X) (f : X → ℕ) → IsShort (option_map (λ x. number_value (f x)) o)
short_number_if None f = tt
short_number_if (Some x) f = omega arith

fault_by : (empty over long : Bool) →
    cond empty (Some faults.Short) (cond (over || long) (Some faults.TooLong) None) ≡ None →
    (over ≡ false) × (long ≡ false)
fault_by true over long e = absurd cc
fault_by false true long e = absurd cc
fault_by false false true e = absurd cc
fault_by false false false e = (refl, refl)

-- six elements at most, each short
abbrev AreFewAndShort : List Field → Type 0
AreFewAndShort fs = (length fs ≤ 6) × AllByRecursion HasShortValue fs

fields_short : (v : Rsl) → IsShort (l3_of v) → IsShort (value_of v) → AreFewAndShort (fields v)
fields_short (messages.DataRequest m) l3 value = (omega arith, (omega arith, (omega arith, (l3, tt))))
fields_short (messages.DataIndication m) l3 value = (omega arith, (omega arith, (omega arith, (l3, tt))))
fields_short (messages.ErrorIndication m) l3 value = (omega arith, (omega arith, (omega arith, (value, tt))))
fields_short (messages.EstablishRequest m) l3 value = (omega arith, (omega arith, (omega arith, tt)))
fields_short (messages.EstablishConfirm m) l3 value = (omega arith, (omega arith, (omega arith, tt)))
fields_short (messages.EstablishIndication m) l3 value = (omega arith, (omega arith, (omega arith, (l3, tt))))
fields_short (messages.ReleaseRequest m) l3 value = (omega arith, (omega arith, (omega arith, (omega arith, tt))))
fields_short (messages.ReleaseConfirm m) l3 value = (omega arith, (omega arith, (omega arith, tt)))
fields_short (messages.ReleaseIndication m) l3 value = (omega arith, (omega arith, (omega arith, tt)))
fields_short (messages.ChannelRequired m) l3 value = (omega arith, (omega arith, (omega arith, (omega arith, tt))))
fields_short (messages.ImmediateAssignCommand m) l3 value = (omega arith, (omega arith, (value, tt)))
fields_short (messages.ChannelActivation m) l3 value = (omega arith, (omega arith, (omega arith, (value, (short_octet_if m.reference (λ r. r.0), tt)))))
fields_short (messages.ChannelActivationAck m) l3 value = (omega arith, (omega arith, (short_number_if m.frame (λ n. n.0), tt)))
fields_short (messages.ChannelActivationNack m) l3 value = (omega arith, (omega arith, (value, tt)))
fields_short (messages.ConnectionFailure m) l3 value = (omega arith, (omega arith, (value, tt)))
fields_short (messages.HandoverDetection m) l3 value = (omega arith, (omega arith, (short_octet_if m.access_delay (λ d. d.0), tt)))
fields_short (messages.MeasurementResult m) l3 value =
    (omega arith, (omega arith, (omega arith, (value, (short_octet_if m.bs_power (λ p. p.0), (short_number_if m.l1 (λ i. i.0), (l3, tt)))))))
fields_short (messages.RfChannelRelease m) l3 value = (omega arith, (omega arith, tt))
fields_short (messages.RfChannelReleaseAck m) l3 value = (omega arith, (omega arith, tt))

writable_short : (v : Rsl) → rsl_write_fault v ≡ None → AreFewAndShort (fields v)
unfolding rsl_write_fault
writable_short v e =
    let within = fault_by (is_empty (l3_of v)) (is_over MESSAGE_LIMIT (l3_of v)) (is_over LENGTH_LIMIT (value_of v)) e in
    fields_short v (short_l3 (l3_of v) within.0) (short_value (value_of v) within.1)

-- ---- the text of RSL

-- three octets before a value at most
element_length : (format : Option Format) (e : Element) → length (element_text_by format e) ≤ 3 + length e.value
element_length None e = omega arith
element_length (Some (Tv n)) e = omega arith
element_length (Some Tlv) e = omega arith
element_length (Some TlvE) e = omega arith

field_length : (id : ℕ) (value : Option (List ℕ)) → IsShort value → length (rsl_field_text id value) ≤ 258
unfolding rsl_element_text
field_length id None short = omega arith
field_length id (Some value) short = omega (arith, element_length (format_in ELEMENTS id) (element id value))

fields_length : (fs : List Field) → AllByRecursion HasShortValue fs → length (rsl_fields_text fs) ≤ 258 * length fs
fields_length [] short = omega arith
fields_length (f ∷ fs) short =
    omega (arith, length-append (rsl_field_text f.id f.value) (rsl_fields_text fs), field_length f.id f.value short.0, fields_length fs short.1)

rsl_length : (v : Rsl) → rsl_write_fault v ≡ None → length (rsl_text v) ≤ MAX_BODY
rsl_length v e = let short = writable_short v e in omega (arith, fields_length (fields v) short.1, short.0)

-- ---- every message

-- a link carries the frame of what can be written
pub out_fits : (number : ℕ) (message : Message) → IsWritable message → IsSendable (out_of number message)
unfolding out_of
out_fits number (puts.Station station message) writable = rsl_length message writable
out_fits number (puts.Request message) writable = grind (arith, common_steps, writable.short)
out_fits number (puts.Data destination message) writable = grind (arith, common_steps, writable.short)
out_fits number (puts.ReleaseComplete destination) writable = omega arith

-- the frame of the message at a place
pub out_fits_at : (number : ℕ) (list : List Message) (place : ℕ) (default : Message) →
    place < length list →
    AllByRecursion IsSound list →
    IsSendable (out_of number (get_or list place default))
out_fits_at number list place default within all =
    out_fits number (get_or list place default) (All-from_recursion IsSound list all place default within).0
