-- SPDX-License-Identifier: MIT OR Apache-2.0
-- Memory runs out only at octets that have no fault of their own.
use Rattle.std.proofs.Common.{◌≡◌, ◌≢◌, ◌⊎◌, ℕ, Bool, true, false, if◌then◌else◌, eqb, List, [], ◌∷◌, Option, Some, None, Result, Ok, Err, IfErr, refl, subst, inl, inr}
use Rattle.std.proofs.lemmas.Bool.{ne_eqb, eq-eqb}
use Rattle.octets.specs.Answer.{Gives}
use Rattle.bssmap_codec.specs.declared.bssap.Bssap.{Bssap}
use Rattle.bssmap_codec.specs.declared.fault.InterfaceFault.{InterfaceFault}
use Rattle.bssmap_codec.specs.declared.fault.InterfaceFault.TheVariants as interface
use Rattle.bssmap_codec.specs.declared.sccp.Sccp.{Sccp}
use Rattle.bssmap_codec.specs.declared.sccp.Sccp.TheVariants as sccp
use Rattle.bssmap_codec.specs.BssapReading.{bssap_reading}
use Rattle.bssmap_codec.specs.SccpReading.{sccp_reading}
use Rattle.conn_messages.specs.declared.parameters.TheConstants.{SWITCH_LINK}
use Rattle.controller_model.specs.declared.word.Word.{Word}
use Rattle.controller_model.specs.declared.word.Word.TheVariants.{Nothing, Ping}
use Rattle.controller_model.specs.Reading.{Carried, carried, bssap_word, body_word, management_of_link, station_word, switch_word, word_of}
use Rattle.controller_model.specs.Reading.Carried.{radio_signalling, connection_control, link_management, other}
use Rattle.controller_parts.specs.Words.{IsReadable, IsReadableBody, IsReadableFrame, IsReadableSccp, SaysSomething}
use Rattle.ipa_framing.specs.declared.frame.Frame.{Frame}
use Rattle.ipa_framing.specs.declared.streams.TheConstants.{CCM_STREAM, PING, RSL_STREAM, SCCP_STREAM}
use Rattle.rsl_codec.specs.declared.fault.RslFault.{RslFault}
use Rattle.rsl_codec.specs.declared.fault.RslFault.TheVariants as radio
use Rattle.rsl_codec.specs.declared.rsl.Rsl.{Rsl}
use Rattle.rsl_codec.specs.RslReading.{rsl_reading}
use Rattle.rsl_codec.specs.WrittenOrder.{IsMeasurement}

-- a call that gives what octets are read as
pub is_readable : {X F : Type 0} (memory : F) (read : Result X F) → Gives memory (λ (v : X). v) (Err memory) read → IsReadable memory read
is_readable memory (Ok x) g = tt
is_readable memory (Err fault) (inl e) = cc
is_readable memory (Err fault) (inr (same, ok)) = absurd cc

-- what holds holds on a refusal
pub any_refusal : {T E : Type 0} (r : Result T E) (P : Type 0) → P → IfErr r (λ (e : E). P)
any_refusal (Ok x) P h = tt
any_refusal (Err e) P h = h

pub as_read : {X F : Type 0} (memory : F) (read : Result X F) (x : X) → read ≡ Ok x → IsReadable memory read
as_read memory read x e = rw e tt

pub refusal_by : {T E P Q : Type 0} (r : Result T E) → (P → Q) → IfErr r (λ (e : E). P) → IfErr r (λ (e : E). Q)
refusal_by (Ok x) f h = tt
refusal_by (Err e) f h = f h

-- ---- a station's

pub message_readable : {T E : Type 0} (r : Result T E) (read : Result Rsl RslFault) (message : Rsl) →
    read ≡ Ok message →
    IfErr r (λ (e : E). IsReadable radio.Memory read)
message_readable r read message e = any_refusal r (IsReadable radio.Memory read) (as_read radio.Memory read message e)

pub measured_readable : {T E : Type 0} (r : Result T E) (read : Result Rsl RslFault) (channel number : ℕ) (l3 : Option (List ℕ)) →
    IsMeasurement read channel number l3 → IfErr r (λ (e : E). IsReadable radio.Memory read)
measured_readable r read channel number l3 is = any_refusal r (IsReadable radio.Memory read) (as_read radio.Memory read _ is.reads)

-- ---- the switch's

pub sccp_readable : {T E : Type 0} (r : Result T E) (read : Result Sccp InterfaceFault) (message : Sccp) → read ≡ Ok message →
    IfErr r (λ (e : E). IsReadableSccp (Ok message)) → IfErr r (λ (e : E). IsReadableSccp read)
sccp_readable r read message is h = rw is h

pub form_readable : {T E : Type 0} (r : Result T E) (read : Result Sccp InterfaceFault) (destination : ℕ) (user : List ℕ) → read ≡ Ok (sccp.DataForm1 destination user) →
    IfErr r (λ (e : E). IsReadable interface.Memory (bssap_reading user)) → IfErr r (λ (e : E). IsReadableSccp read)
form_readable r read destination user is h = rw is h

-- any message but DT1
pub other_readable : (read : Result Sccp InterfaceFault) → ((destination : ℕ) (user : List ℕ) → read ≡ Ok (sccp.DataForm1 destination user) → ⊥) →
    Gives interface.Memory (λ (v : Sccp). v) (Err interface.Memory) read → IsReadableSccp read
other_readable (Ok (sccp.DataForm1 destination user)) none g = absurd (none destination user refl)
other_readable (Err fault) none g = is_readable {X = Sccp} {F = InterfaceFault} interface.Memory (Err fault) g
other_readable _ none g = tt

-- ---- a frame's

switch_frame : (source : ℕ) (frame : Frame) → (frame.stream ≡ CCM_STREAM → ⊥) → source ≡ SWITCH_LINK → frame.stream ≡ SCCP_STREAM →
    IsReadableSccp (sccp_reading frame.body) → IsReadableFrame source frame
switch_frame source frame apart at is h = rw (ne_eqb frame.stream CCM_STREAM apart, eq-eqb source SWITCH_LINK at, eq-eqb frame.stream SCCP_STREAM is) h

station_frame : (source : ℕ) (frame : Frame) → (frame.stream ≡ CCM_STREAM → ⊥) → (source ≡ SWITCH_LINK → ⊥) → frame.stream ≡ RSL_STREAM →
    IsReadable radio.Memory (rsl_reading frame.body) → IsReadableFrame source frame
station_frame source frame apart at is h = rw (ne_eqb frame.stream CCM_STREAM apart, ne_eqb source SWITCH_LINK at, eq-eqb frame.stream RSL_STREAM is) h

pub switch_frame_readable : {T E : Type 0} (r : Result T E) (source : ℕ) (frame : Frame) → (frame.stream ≡ CCM_STREAM → ⊥) → source ≡ SWITCH_LINK → frame.stream ≡ SCCP_STREAM →
    IfErr r (λ (e : E). IsReadableSccp (sccp_reading frame.body)) → IfErr r (λ (e : E). IsReadableFrame source frame)
switch_frame_readable r source frame apart at is h = refusal_by r (switch_frame source frame apart at is) h

pub station_frame_readable : {T E : Type 0} (r : Result T E) (source : ℕ) (frame : Frame) → (frame.stream ≡ CCM_STREAM → ⊥) → (source ≡ SWITCH_LINK → ⊥) → frame.stream ≡ RSL_STREAM →
    IfErr r (λ (e : E). IsReadable radio.Memory (rsl_reading frame.body)) → IfErr r (λ (e : E). IsReadableFrame source frame)
station_frame_readable r source frame apart at is h = refusal_by r (station_frame source frame apart at is) h

-- ---- a frame that says something is a PING, or readable

station_said : (station : ℕ) (read : Result Rsl RslFault) → SaysSomething (station_word station read) → IsReadable radio.Memory read
station_said station (Ok message) h = tt
station_said station (Err fault) h = absurd h

bssap_said : (number : ℕ) (read : Result Bssap InterfaceFault) → SaysSomething (bssap_word number read) → IsReadable interface.Memory read
bssap_said number (Ok message) h = tt
bssap_said number (Err fault) h = absurd h

switch_said : (read : Result Sccp InterfaceFault) → SaysSomething (switch_word read) → IsReadableSccp read
switch_said (Ok (sccp.DataForm1 destination user)) h = bssap_said destination (bssap_reading user) h
switch_said (Err fault) h = absurd h
switch_said _ h = tt

ping_by : (is_ping : Bool) → SaysSomething (if is_ping then Ping else Nothing) → (if is_ping then Ping else Nothing) ≡ Ping
ping_by true h = refl
ping_by false h = absurd h

link_said : (body : List ℕ) → SaysSomething (management_of_link body) → management_of_link body ≡ Ping
link_said [] h = absurd h
link_said (first ∷ rest) h = ping_by (eqb first PING) h

body_said : (what : Carried) (source : ℕ) (body : List ℕ) →
    SaysSomething (body_word what source body) →
    (body_word what source body ≡ Ping) ⊎ IsReadableBody what body
body_said radio_signalling source body h = inr (station_said source (rsl_reading body) h)
body_said connection_control source body h = inr (switch_said (sccp_reading body) h)
body_said link_management source body h = inl (link_said body h)
body_said other source body h = absurd h

pub frame_said : (source : ℕ) (frame : Frame) (word : Word) →
    word ≡ word_of source frame →
    SaysSomething word →
    (word_of source frame ≡ Ping) ⊎ IsReadableFrame source frame
unfolding word_of
frame_said source frame word is h = body_said (carried source frame.stream) source frame.body (subst SaysSomething is h)

-- ---- what a function's attribute names together

pub ruleset frame_readable = (switch_frame_readable, station_frame_readable)

pub ruleset station_readable = (is_readable, message_readable)

pub ruleset switch_readable = (form_readable, other_readable, sccp_readable)
