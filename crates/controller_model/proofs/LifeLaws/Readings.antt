-- SPDX-License-Identifier: MIT OR Apache-2.0
-- The layer 3 messages that frames bring have 1 to 251 octets.
use Rattle.controller_model.proofs.Prelude.{◌≡◌, ℕ, ◌==◌, Bool, true, false, if◌then◌else◌, List, [], ◌∷◌, Option, Some, None, Result, Ok}
use Rattle.controller_model.proofs.Prelude.{Err, refl, subst, Bssap, Management, Transfer, Bssmap, InterfaceFault, Sccp, IsLayer3, Place}
use Rattle.controller_model.proofs.Prelude.{Input, IsCarried, is_dtap, Report, Sapi, Zero, Frame, PING, RslFault, Rsl, take, ok_or, Short}
use Rattle.controller_model.proofs.Prelude.{UnknownType, layer3_at, message_at, bssmap_type, dlci_of, sccp_reading, Word, Nothing, Ping}
use Rattle.controller_model.proofs.Prelude.{OnChannel, Reports, OnConnection, place_at, sapi_of, change_word, rr_word, data_word}
use Rattle.controller_model.proofs.Prelude.{report_word, result_word, rsl_word, station_word, management_word, bssap_word, switch_word}
use Rattle.controller_model.proofs.Prelude.{management_of_link, Carried, carried, body_word, radio_signalling, connection_control}
use Rattle.controller_model.proofs.Prelude.{link_management, other, report_reading, RrMessage, RrFault, rr_reading, Element, bind_ok, guard}
use Rattle.controller_model.proofs.Prelude.{ok_is, result_map_ok, RslType, IsL3, rsl_type}
use Rattle.bssmap_codec.proofs.Contents.{layer3_ok}
use Rattle.bssmap_codec.specs.declared.bssap.TheConstants.{MANAGEMENT, TRANSFER}
use Rattle.bssmap_codec.specs.declared.bssmap.Bssmap.TheVariants as bssmap
use Rattle.bssmap_codec.specs.declared.sccp.Sccp.TheVariants as sccp
use Rattle.bssmap_codec.specs.BssapReading.{management_at, transfer_at, bssap_reading}
use Rattle.conn_rules.specs.declared.input.Input.TheVariants as inputs
use Rattle.controller_model.specs.Reading.{of_sapi, word_of}
use Rattle.dtap_codec.specs.declared.rr.RrMessage.TheVariants as rr
use Rattle.octets.specs.Front.{octet_at, split_at}
use Rattle.octets.specs.Walk.{first_of}
use Rattle.rsl_codec.proofs.Steps.{l3_ok, optional_l3_ok}
use Rattle.rsl_codec.specs.declared.fault.RslFault.TheVariants as faults
use Rattle.rsl_codec.specs.declared.identifiers.TheConstants.{CHANNEL_NUMBER, LINK_IDENTIFIER, L3_INFORMATION}
use Rattle.rsl_codec.specs.declared.radio_link.Data.{Data}
use Rattle.rsl_codec.specs.declared.radio_link.Establishment.{Establishment}
use Rattle.rsl_codec.specs.declared.rsl.Rsl.TheVariants as rsl
use Rattle.rsl_codec.specs.declared.rsl_type.RslType.TheVariants as types
use Rattle.rsl_codec.specs.RslReading.{breaks_off, channel_at, channel_only_at, link_at, data_at, error_at, establishment_at, release_at, channel_required_at, assignment_at, activation_at, activation_ack_at, failure_at, detection_at, measurement_result_at, elements_of, l3_at, message_at as rsl_message_at, needed_value, optional_l3_at, rsl_reading, rsl_reading_by}

-- ---- a station's messages

-- what DATA INDICATION and ESTABLISH INDICATION bring
abbrev pub IsFull : Rsl → Type 0
IsFull (rsl.DataIndication d) = IsL3 (Some d.l3)
IsFull (rsl.EstablishIndication e) = IsL3 e.l3
IsFull _ = Unit {0}

data_full : (es : List Element) (m : Data) → data_at es ≡ Ok m → IsL3 (Some m.l3)
unfolding data_at
data_full es m h =
    let a = bind_ok (needed_value CHANNEL_NUMBER es) _ m h in
    let b = bind_ok (needed_value LINK_IDENTIFIER es) _ m a.2 in
    let c = bind_ok (needed_value L3_INFORMATION es) _ m b.2 in
    let d = bind_ok (channel_at a.0) _ m c.2 in
    let e = bind_ok (l3_at c.0) _ m d.2 in
    subst (λ (x : Data). IsL3 (Some x.l3)) (ok_is _ m e.2) (l3_ok c.0 e.0 e.1).1

establishment_full : (es : List Element) (m : Establishment) → establishment_at es ≡ Ok m → IsL3 m.l3
unfolding establishment_at
establishment_full es m h =
    let a = bind_ok (needed_value CHANNEL_NUMBER es) _ m h in
    let b = bind_ok (needed_value LINK_IDENTIFIER es) _ m a.2 in
    let c = bind_ok (channel_at a.0) _ m b.2 in
    let d = bind_ok (optional_l3_at (first_of L3_INFORMATION es)) _ m c.2 in
    subst (λ (x : Establishment). IsL3 x.l3) (ok_is _ m d.2) (optional_l3_ok (first_of L3_INFORMATION es) d.0 d.1).1

message_full : (kind : RslType) (es : List Element) (v : Rsl) → rsl_message_at kind es ≡ Ok v → IsFull v
unfolding rsl_message_at
message_full types.DataIndication es v h = let m = result_map_ok (λ x. rsl.DataIndication x) (data_at es) v h in subst IsFull m.2 (data_full es m.0 m.1)
message_full types.EstablishIndication es v h = let m = result_map_ok (λ x. rsl.EstablishIndication x) (establishment_at es) v h in subst IsFull m.2 (establishment_full es m.0 m.1)
message_full types.DataRequest es v h = let m = result_map_ok (λ x. rsl.DataRequest x) (data_at es) v h in subst IsFull m.2 tt
message_full types.ErrorIndication es v h = let m = result_map_ok (λ x. rsl.ErrorIndication x) (error_at es) v h in subst IsFull m.2 tt
message_full types.EstablishRequest es v h = let m = result_map_ok (λ x. rsl.EstablishRequest x) (link_at es) v h in subst IsFull m.2 tt
message_full types.EstablishConfirm es v h = let m = result_map_ok (λ x. rsl.EstablishConfirm x) (link_at es) v h in subst IsFull m.2 tt
message_full types.ReleaseRequest es v h = let m = result_map_ok (λ x. rsl.ReleaseRequest x) (release_at es) v h in subst IsFull m.2 tt
message_full types.ReleaseConfirm es v h = let m = result_map_ok (λ x. rsl.ReleaseConfirm x) (link_at es) v h in subst IsFull m.2 tt
message_full types.ReleaseIndication es v h = let m = result_map_ok (λ x. rsl.ReleaseIndication x) (link_at es) v h in subst IsFull m.2 tt
message_full types.ChannelRequired es v h = let m = result_map_ok (λ x. rsl.ChannelRequired x) (channel_required_at es) v h in subst IsFull m.2 tt
message_full types.ImmediateAssignCommand es v h = let m = result_map_ok (λ x. rsl.ImmediateAssignCommand x) (assignment_at es) v h in subst IsFull m.2 tt
message_full types.ChannelActivation es v h = let m = result_map_ok (λ x. rsl.ChannelActivation x) (activation_at es) v h in subst IsFull m.2 tt
message_full types.ChannelActivationAck es v h = let m = result_map_ok (λ x. rsl.ChannelActivationAck x) (activation_ack_at es) v h in subst IsFull m.2 tt
message_full types.ChannelActivationNack es v h = let m = result_map_ok (λ x. rsl.ChannelActivationNack x) (failure_at es) v h in subst IsFull m.2 tt
message_full types.ConnectionFailure es v h = let m = result_map_ok (λ x. rsl.ConnectionFailure x) (failure_at es) v h in subst IsFull m.2 tt
message_full types.HandoverDetection es v h = let m = result_map_ok (λ x. rsl.HandoverDetection x) (detection_at es) v h in subst IsFull m.2 tt
message_full types.MeasurementResult es v h = let m = result_map_ok (λ x. rsl.MeasurementResult x) (measurement_result_at es) v h in subst IsFull m.2 tt
message_full types.RfChannelRelease es v h = let m = result_map_ok (λ x. rsl.RfChannelRelease x) (channel_only_at es) v h in subst IsFull m.2 tt
message_full types.RfChannelReleaseAck es v h = let m = result_map_ok (λ x. rsl.RfChannelReleaseAck x) (channel_only_at es) v h in subst IsFull m.2 tt

reading_by_full : (kind : Option RslType) (body : List ℕ) (v : Rsl) → rsl_reading_by kind body ≡ Ok v → IsFull v
reading_by_full None body v h = absurd cc
reading_by_full (Some kind) body v h = message_full kind (elements_of body) v (guard {A = Rsl} {F = RslFault} (breaks_off body) faults.Short (rsl_message_at kind (elements_of body)) v h).1

pub rsl_full : (octets : List ℕ) (v : Rsl) → rsl_reading octets ≡ Ok v → IsFull v
unfolding rsl_reading
rsl_full (a ∷ (b ∷ body)) v h = reading_by_full (rsl_type a b) body v h
rsl_full _ v h = absurd cc

-- ---- the switch's

abbrev IsFullBssap : Bssap → Type 0
IsFullBssap (Transfer dlci message) = IsLayer3 message
IsFullBssap (Management message) = Unit {0}

transfer_full : (octets : List ℕ) (v : Bssap) → transfer_at octets ≡ Ok v → IsFullBssap v
unfolding transfer_at
transfer_full octets v e =
    let a = bind_ok (octet_at Short octets) _ v e in
    let b = bind_ok (octet_at Short a.0.1) _ v a.2 in
    let c = bind_ok (ok_or (dlci_of a.0.0) UnknownType) _ v b.2 in
    let d = bind_ok (split_at Short b.0.0 b.0.1) _ v c.2 in
    let f = bind_ok (layer3_at d.0.0) _ v d.2 in
    subst IsFullBssap (ok_is {A = Bssap} {F = InterfaceFault} (Transfer c.0 f.0) v f.2) (layer3_ok d.0.0 f.0 f.1).layer3

management_full : (octets : List ℕ) (v : Bssap) → management_at octets ≡ Ok v → IsFullBssap v
unfolding management_at
management_full octets v e =
    let a = bind_ok (octet_at Short octets) _ v e in
    let b = bind_ok (octet_at Short (take a.0.0 a.0.1)) _ v a.2 in
    let c = bind_ok (ok_or (bssmap_type b.0.0) UnknownType) _ v b.2 in
    let d = bind_ok (split_at Short a.0.0 a.0.1) _ v c.2 in
    let f = bind_ok (message_at c.0 b.0.1) _ v d.2 in
    subst IsFullBssap (ok_is {A = Bssap} {F = InterfaceFault} (Management f.0) v f.2) tt

either_full : (managed passed : Bool) (octets : List ℕ) (v : Bssap) →
    (if managed then management_at octets else (if passed then transfer_at octets else Err UnknownType)) ≡ Ok v →
    IsFullBssap v
either_full true passed octets v e = management_full octets v e
either_full false true octets v e = transfer_full octets v e
either_full false false octets v e = absurd cc

bssap_full : (octets : List ℕ) (v : Bssap) → bssap_reading octets ≡ Ok v → IsFullBssap v
unfolding bssap_reading
bssap_full octets v e =
    let a = bind_ok (octet_at Short octets) _ v e in
    either_full (a.0.0 == MANAGEMENT) (a.0.0 == TRANSFER) a.0.1 v a.2

-- ---- words

abbrev pub IsCarriedBy : Word → Type 0
IsCarriedBy (OnChannel at input) = IsCarried input
IsCarriedBy (OnConnection number input) = IsCarried input
IsCarriedBy _ = Unit {0}

sapi_carried : (at : Place) (o : Option Sapi) (input : Sapi → Input) → ((s : Sapi) → IsCarried (input s)) → IsCarriedBy (of_sapi at o input)
sapi_carried at None input carried = tt
sapi_carried at (Some s) input carried = carried s

change_carried : (at : Place) (r : Result RrMessage RrFault) → IsCarriedBy (change_word at r)
change_carried at (Ok (rr.AssignmentComplete cause)) = tt
change_carried at _ = tt

rr_carried : (at : Place) (o : Option Sapi) (l3 : List ℕ) → IsCarriedBy (rr_word at o l3)
rr_carried at (Some Zero) l3 = change_carried at (rr_reading l3)
rr_carried at _ l3 = tt

data_carried : (b : Bool) (at : Place) (o : Option Sapi) (l3 : List ℕ) → IsL3 (Some l3) → IsCarriedBy (data_word b at o l3)
data_carried true at o l3 full = sapi_carried at o (λ s. inputs.Dtap at s l3) (λ s. full)
data_carried false at o l3 full = rr_carried at o l3

valid_by : (b : Bool) (at : Place) (number : ℕ) (report : Report) → IsCarriedBy (if b then Reports at number report else Nothing)
valid_by true at number report = tt
valid_by false at number report = tt

report_carried : (at : Place) (number : ℕ) (r : Result RrMessage RrFault) → IsCarriedBy (report_word at number r)
report_carried at number (Ok (rr.MeasurementReport value)) = valid_by (report_reading value).valid at number (report_reading value)
report_carried at number _ = tt

result_carried : (at : Place) (number : ℕ) (o : Option (List ℕ)) → IsCarriedBy (result_word at number o)
result_carried at number None = tt
result_carried at number (Some l3) = report_carried at number (rr_reading l3)

initial_carried : (at : Place) (s : Sapi) (o : Option (List ℕ)) → IsL3 o → IsCarried (inputs.EstablishIndication at s o)
initial_carried at s None full = tt
initial_carried at s (Some message) full = full

rsl_carried : (station : ℕ) (v : Rsl) → IsFull v → IsCarriedBy (rsl_word station v)
rsl_carried station (rsl.EstablishIndication e) full = sapi_carried (place_at station e.channel) (sapi_of e.link) (λ s. inputs.EstablishIndication (place_at station e.channel) s e.l3) (λ s. initial_carried (place_at station e.channel) s e.l3 full)
rsl_carried station (rsl.DataIndication d) full = data_carried (is_dtap d.l3) (place_at station d.channel) (sapi_of d.link) d.l3 full
rsl_carried station (rsl.EstablishConfirm l) full = sapi_carried (place_at station l.channel) (sapi_of l.link) (λ s. inputs.EstablishConfirm (place_at station l.channel) s) (λ s. tt)
rsl_carried station (rsl.ReleaseIndication l) full = sapi_carried (place_at station l.channel) (sapi_of l.link) (λ s. inputs.ReleaseIndication (place_at station l.channel) s) (λ s. tt)
rsl_carried station (rsl.ErrorIndication e) full = sapi_carried (place_at station e.channel) (sapi_of e.link) (λ s. inputs.ErrorIndication (place_at station e.channel) s) (λ s. tt)
rsl_carried station (rsl.MeasurementResult m) full = result_carried (place_at station m.channel) m.number.0 m.l3
rsl_carried station _ full = tt

station_carried : (station : ℕ) (r : Result Rsl RslFault) → ((v : Rsl) → r ≡ Ok v → IsFull v) → IsCarriedBy (station_word station r)
station_carried station (Ok v) full = rsl_carried station v (full v refl)
station_carried station (Err fault) full = tt

management_carried : (number : ℕ) (m : Bssmap) → IsCarriedBy (management_word number m)
management_carried number (bssmap.AssignmentRequest channel_type) = tt
management_carried number _ = tt

bssap_carried : (number : ℕ) (r : Result Bssap InterfaceFault) →
    ((v : Bssap) → r ≡ Ok v → IsFullBssap v) →
    IsCarriedBy (bssap_word number r)
bssap_carried number (Ok (Management m)) full = management_carried number m
bssap_carried number (Ok (Transfer dlci message)) full = full (Transfer dlci message) refl
bssap_carried number (Err fault) full = tt

switch_carried : (r : Result Sccp InterfaceFault) → IsCarriedBy (switch_word r)
switch_carried (Ok (sccp.DataForm1 destination user)) = bssap_carried destination (bssap_reading user) (bssap_full user)
switch_carried _ = tt

link_by : (b : Bool) → IsCarriedBy (if b then Ping else Nothing)
link_by true = tt
link_by false = tt

link_carried : (body : List ℕ) → IsCarriedBy (management_of_link body)
link_carried [] = tt
link_carried (first ∷ rest) = link_by (first == PING)

body_carried : (what : Carried) (source : ℕ) (body : List ℕ) → IsCarriedBy (body_word what source body)
body_carried radio_signalling source body = station_carried source (rsl_reading body) (rsl_full body)
body_carried connection_control source body = switch_carried (sccp_reading body)
body_carried link_management source body = link_carried body
body_carried other source body = tt

pub word_carried : (source : ℕ) (frame : Frame) → IsCarriedBy (word_of source frame)
unfolding word_of
word_carried source frame = body_carried (carried source frame.stream) source frame.body
