-- SPDX-License-Identifier: MIT OR Apache-2.0
-- Rows: what frames say, what matches a word, and what agrees with a connection, on literal values.
use Rattle.std.proofs.Common.{◌≡◌, ℕ, Bool, true, false, List, [], ◌∷◌, ◌++◌, Option, Some, None, refl, subst, ap, arith, filter}
use Rattle.std.proofs.lemmas.Bool.{true≢false}
use Rattle.conn_messages.specs.declared.channel.Change.TheVariants.{Assignment, Handover}
use Rattle.conn_messages.specs.declared.channel.Channel.{Channel}
use Rattle.conn_messages.specs.declared.channel.Place.{Place}
use Rattle.conn_messages.specs.StationMessage.{access_activation, change_activation, change_command, channel_release, establish_request, handing, immediate_assign_command, rf_channel_release}
use Rattle.conn_messages.specs.SwitchMessage.{cipher_mode_reject, clear_complete, complete_layer3, relaying, release_complete, sapi_3_reject}
use Rattle.conn_rules.specs.Connection.{Connection, new_connection}
use Rattle.conn_rules.specs.declared.input.Input.TheVariants as inputs
use Rattle.conn_rules.specs.declared.state.Stage.TheVariants.{Active, Changing}
use Rattle.conn_rules.specs.declared.state.State.TheVariants.{Live}
use Rattle.conn_rules.specs.Steps.{Row, row}
use Rattle.conn_rules.specs.Streams.{is_dtap, relayed, still_to_relay}
use Rattle.controller_model.specs.declared.word.Word.{Word}
use Rattle.controller_model.specs.declared.word.Word.TheVariants as words
use Rattle.dtap_codec.specs.declared.sapi.Sapi.{Sapi}
use Rattle.dtap_codec.specs.declared.sapi.Sapi.TheVariants.{Zero, Three}
use Rattle.dtap_codec.specs.RrReading.{assignment_command_at, cause_at, handover_command_at, rr_reading, three_at, typed_at}
use Rattle.dtap_codec.specs.RrType.{rr_type}
use Rattle.hold_queue.specs.HoldState.{messages}
use Rattle.conn_messages.specs.declared.parameters.TheConstants.{SWITCH_LINK}
use Rattle.controller_model.specs.declared.step.Step.TheVariants.{Take, Tick}
use Rattle.ipa_framing.specs.declared.streams.TheConstants.{CCM_STREAM, PING, RSL_STREAM}
use Rattle.octets.specs.Front.{octet_at}
use Rattle.rsl_codec.specs.RslReading.{rsl_reading}
use Rattle.ruled_relay.specs.declared.item.What.TheVariants as whats
use Rattle.run_judge.specs.declared.flow.Due.{Due}
use Rattle.run_judge.specs.declared.flow.Order.TheVariants.{InOrder, Faulty}
use Rattle.run_judge.specs.declared.fault.Fault.TheVariants as faults
use Rattle.run_judge.specs.declared.said.Said.{Said}
use Rattle.run_judge.specs.declared.said.Said.TheVariants as says
use Rattle.run_judge.specs.declared.said.StationChannel.{StationChannel}
use Rattle.run_judge.specs.Connection.{begun_with, confirmed}
use Rattle.run_judge.specs.ConnectionState.{ConnectionState}
use Rattle.run_judge.specs.Flow.{new_flow}
use Rattle.run_judge.specs.FlowState.{FlowState}
use Rattle.run_judge.specs.Reading.{channel_at}
use Rattle.judge_laws.specs.Agreeing.{Agrees, Carries, DownAgrees, DownIs, Prepared, UpAgrees, flow_of, line, lines_of}
use Rattle.judge_laws.specs.Hearing.{IsUnheard, Matches}
use Rattle.judge_laws.specs.Hearing.Matches.{brings, completes, confirms, establishes, fails, refuses, released, transfers, unheard}
use Rattle.judge_laws.specs.Lives.{said_in, taken_says}
use Rattle.judge_laws.specs.Places.{spot}
use Rattle.judge_laws.specs.Saying.{said_of}

abbrev channel : ℕ → ℕ → Channel
channel station number = record { station = station; number = number; cell = []; description = record { arfcn = 20; ncc = 1; bcc = 1 }; reference = record { 0 = 5 } }

-- an SDCCH of station 1, and a TCH of station 2
abbrev serving : Channel
serving = channel 1 0x41

abbrev target : Channel
target = channel 2 0x0a

abbrev here : StationChannel
here = channel_at 1 0x41

-- messages of call control: the octets in front
abbrev setup : List ℕ
setup = 3 ∷ 1 ∷ []

abbrev other : List ℕ
other = 3 ∷ 2 ∷ []

-- ---- what the messages of connection 7 say

hands : said_of 7 (handing serving Zero setup) ≡ says.Hands here Zero setup
hands = refl

hands_short : said_of 7 (handing serving Three setup) ≡ says.Hands here Three setup
hands_short = refl

assigns : said_of 7 (change_command serving Assignment (channel 1 0x0a)) ≡ says.Assigns here 0x0a
unfolding rr_reading typed_at assignment_command_at three_at octet_at rr_type
assigns = refl

-- with the cell of the target, and its handover reference
hands_over : said_of 7 (change_command serving Handover target) ≡ says.HandsOver here (record { arfcn = 20; ncc = 1; bcc = 1 }) 0x0a 5
unfolding rr_reading typed_at handover_command_at three_at octet_at rr_type
hands_over = refl

dismisses : said_of 7 (channel_release serving 0) ≡ says.Nothing
unfolding rr_reading typed_at cause_at octet_at rr_type
dismisses = refl

gives_access : said_of 7 (access_activation serving) ≡ says.Activates here None
gives_access = refl

activates_for_an_assignment : said_of 7 (change_activation Assignment (channel 1 0x0a)) ≡ says.Activates (channel_at 1 0x0a) None
activates_for_an_assignment = refl

activates_for_a_handover : said_of 7 (change_activation Handover target) ≡ says.Activates (channel_at 2 0x0a) (Some 5)
activates_for_a_handover = refl

releases : said_of 7 (rf_channel_release serving) ≡ says.Releases here
releases = refl

asks_for_a_link : said_of 7 (establish_request serving) ≡ says.Nothing
asks_for_a_link = refl

assigns_immediately : said_of 7 (immediate_assign_command serving (record { access = 0x0b; frame = 3 }) 2) ≡ says.Nothing
assigns_immediately = refl

-- the controller's reference is the connection's number
requests : said_of 7 (complete_layer3 serving setup) ≡ says.Requests 7 setup
requests = refl

passes : said_of 7 (relaying 90 serving Zero setup) ≡ says.Passes 90 Zero setup
passes = refl

passes_short : said_of 7 (relaying 90 target Three setup) ≡ says.Passes 90 Three setup
passes_short = refl

clears : said_of 7 (clear_complete 90) ≡ says.Clears 90
clears = refl

rejects : said_of 7 (sapi_3_reject 90 serving) ≡ says.Rejects 90
rejects = refl

manages : said_of 7 (cipher_mode_reject 90) ≡ says.Manages 90
manages = refl

ends : said_of 7 (release_complete 90) ≡ says.Ends 7
ends = refl

-- ---- what matches a word

abbrev there : StationChannel
there = channel_at 2 0x0a

-- what a message on a channel, or of the switch, may be matched by
abbrev MayMatch : Word → Said → Type 0
MayMatch (words.OnChannel place (inputs.Dtap on sapi message)) said = (at : StationChannel) × (on ≡ spot at) × (said ≡ says.Brings at sapi message)
MayMatch (words.OnConnection destination (inputs.Downlink sapi message)) said = said ≡ says.Transfers destination sapi message
MayMatch (words.OnChannel place (inputs.ConnectionFailure on)) said = said ≡ says.Nothing
MayMatch word said = Unit {0}

unheard_may : (word : Word) → IsUnheard word → MayMatch word says.Nothing
unheard_may (words.OnChannel place (inputs.Dtap on sapi message)) un = absurd un
unheard_may (words.OnConnection destination (inputs.Downlink sapi message)) un = absurd un
unheard_may (words.OnChannel place (inputs.ConnectionFailure on)) un = refl
unheard_may word un = tt

may_match : (word : Word) (said : Said) → Matches word said → MayMatch word said
may_match _ _ (unheard word un) = unheard_may word un
may_match _ _ (brings at sapi message) = (at, refl, refl)
may_match _ _ (transfers destination sapi message) = refl
may_match _ _ (establishes at message) = tt
may_match _ _ (completes at change cause) = tt
may_match _ _ (fails at change cause) = tt
may_match _ _ (released at) = tt
may_match _ _ (confirms destination source) = tt
may_match _ _ (refuses destination) = tt

brought_here : Matches (words.OnChannel (spot here) (inputs.Dtap (spot here) Zero setup)) (says.Brings here Zero setup)
brought_here = brings here Zero setup

-- what may be matched, by its parts
station_in : Said → ℕ
station_in (says.Brings at sapi message) = at.station
station_in _ = 0

is_short : Said → Bool
is_short (says.Brings at Three message) = true
is_short _ = false

second_in : Said → Option (List ℕ)
second_in (says.Transfers destination sapi message) = Some message
second_in _ = None

not_elsewhere : Matches (words.OnChannel (spot here) (inputs.Dtap (spot here) Zero setup)) (says.Brings there Zero setup) → ⊥
unfolding station_in
not_elsewhere is =
    let may = may_match _ _ is in
    let there : 1 ≡ may.0.station = ap (λ (p : Place). p.station) may.1 in
    let here : 2 ≡ may.0.station = ap station_in may.2 in
    absurd (omega arith)

not_of_the_other_sapi : Matches (words.OnChannel (spot here) (inputs.Dtap (spot here) Zero setup)) (says.Brings here Three setup) → ⊥
unfolding is_short
not_of_the_other_sapi is = let may = may_match _ _ is in true≢false (ap is_short may.2)

not_another : Matches (words.OnConnection 7 (inputs.Downlink Zero setup)) (says.Transfers 7 Zero other) → ⊥
unfolding second_in
not_another is = apart (ap second_in (may_match _ _ is))
  where
    apart : (let o : Option (List ℕ) = Some other in o) ≡ Some setup → ⊥
    apart same = absurd cc

not_unheard : Matches (words.OnConnection 7 (inputs.Downlink Zero setup)) says.Nothing → ⊥
unfolding second_in
not_unheard is = let same : None ≡ Some setup = ap second_in (may_match _ _ is) in absurd cc

failure_is_unheard : Matches (words.OnChannel (spot here) (inputs.ConnectionFailure (spot here))) says.Nothing
failure_is_unheard = unheard _ tt

-- ---- what agrees

-- connection 7, which the switch calls 90, holds nothing
abbrev own : Connection
own = record (new_connection 7 serving (record { access = 0x0b; frame = 3 }) 2) { state = Live 90 Active }

-- what a judge has of it
abbrev judged : ConnectionState
judged = confirmed 90 (begun_with 1 7 here (record { zero = new_flow; three = new_flow }))

none_due : (low : ℕ) → Carries new_flow [] low
none_due low = record { stream = record { due = []; passed = []; reached = 0 }; is = refl; optional = []; due = refl; may = tt; must = tt; reached = omega arith }

agrees_up : (sapi : Sapi) → UpAgrees (λ future. still_to_relay sapi future own) (lines_of judged) 0 (flow_of sapi judged.up)
agrees_up Zero = record { held = []; low = 0; carries = none_due 0; from = ((omega arith), tt); within = tt; are = λ future. refl }
agrees_up Three = record { held = []; low = 0; carries = none_due 0; from = ((omega arith), tt); within = tt; are = λ future. refl }

agrees_down : (sapi : Sapi) → DownAgrees (filter is_dtap (messages own.down sapi)) (flow_of sapi judged.down)
agrees_down Zero = record { held = []; carries = none_due 0; zero = tt; are = refl }
agrees_down Three = record { held = []; carries = none_due 0; zero = tt; are = refl }

agrees : Agrees own judged
agrees = record { at = refl; old = refl; awaited = refl; rising = (tt, tt); up = agrees_up; down = agrees_down; is_open = refl }

not_on_another_channel : Agrees own (record judged { serving = record { at = there; rank = 0 } }) → ⊥
not_on_another_channel a = apart (ap (λ (x : StationChannel). x.station) a.at)
  where
    apart : (let n : ℕ = 2 in n) ≡ 1 → ⊥
    apart same = absurd (omega (arith, same))

not_with_an_old_channel : Agrees own (record judged { former = record { at = there; rank = 0 } ∷ [] }) → ⊥
not_with_an_old_channel a = absurd (cc a.old)

not_commanded : Agrees own (record judged { awaited = Some (record { at = there; change = Assignment }) }) → ⊥
not_commanded a = absurd (cc a.awaited)

not_without_its_command : Agrees (record own { state = Live 90 (Changing (record { change = Handover; channel = target })) }) judged → ⊥
not_without_its_command a = absurd (cc a.awaited)

not_cleared : Agrees own (record judged { is_cleared = true }) → ⊥
not_cleared a = absurd (cc a.is_open)

not_at_fault : Agrees own (record judged { up = record { zero = record new_flow { order = Faulty (faults.MadeUp setup 9) }; three = new_flow } }) →
    ⊥
not_at_fault a = absurd (let up = a.up Zero in let is : Faulty (faults.MadeUp setup 9) ≡ InOrder up.carries.stream = up.carries.is in cc)

-- ---- what is prepared for a row

-- a message that arrived is relayed
abbrev relays : Row
relays = row (relaying 90 serving Zero setup ∷ []) own

abbrev due : Due
due = record { rank = 0; message = setup; frame = 9; is_optional = false }

abbrev with_due : FlowState
with_due = record { came = 1; gone = 0; order = InOrder (record { due = due ∷ []; passed = []; reached = 0 }) }

abbrev told : ConnectionState
told = record judged { up = record { zero = with_due; three = new_flow } }

one_due : Carries with_due (due ∷ []) 0
one_due = record { stream = record { due = due ∷ []; passed = []; reached = 0 }; is = refl; optional = []; due = refl; may = tt; must = (refl, tt); reached = omega arith }

prepared_up : (sapi : Sapi) →
    UpAgrees (λ future. relayed sapi relays.outs ++ still_to_relay sapi future own) (lines_of told) 0 (flow_of sapi told.up)
prepared_up Zero = record { held = due ∷ []; low = 0; carries = one_due; from = ((omega arith), tt); within = ((omega arith), tt); are = λ future. refl }
prepared_up Three = record { held = []; low = 0; carries = none_due 0; from = ((omega arith), tt); within = tt; are = λ future. refl }

prepared_down : (sapi : Sapi) → DownIs sapi (filter is_dtap (messages own.down sapi)) relays.outs (flow_of sapi told.down)
prepared_down Zero = record { held = []; carries = none_due 0; zero = tt; are = refl }
prepared_down Three = record { held = []; carries = none_due 0; zero = tt; are = refl }

prepared : Prepared relays told
prepared = record { at = refl; old = refl; awaited = refl; rising = (tt, tt); up = prepared_up; down = prepared_down; is_open = refl }

-- of an empty list nothing is held
none_held : (optional held : List Due) → [] ≡ optional ++ held → held ≡ []
none_held [] [] is = refl
none_held [] (d ∷ ds) is = absurd cc
none_held (d ∷ ds) held is = absurd cc

not_before_it_arrived : Prepared relays judged → ⊥
not_before_it_arrived p = absurd (let some : setup ∷ [] ≡ line (λ place. []) (lines_of judged) [] = subst (λ (ds : List Due). setup ∷ [] ≡ line (λ place. []) (lines_of judged) ds) none ((p.up Zero).are (λ place. [])) in cc)
  where
    none : (p.up Zero).held ≡ []
    none =
        let carries = (p.up Zero).carries in
        let is : InOrder (record { due = []; passed = []; reached = 0 }) ≡ InOrder carries.stream = carries.is in
        let due : [] ≡ carries.optional ++ (p.up Zero).held = (let all = carries.due in cc) in
        none_held carries.optional (p.up Zero).held due

-- ---- what a life says

another_stream : said_in 1 (record { stream = CCM_STREAM; body = PING ∷ [] }) ≡ []
another_stream = refl

another_link : said_in SWITCH_LINK (record { stream = RSL_STREAM; body = PING ∷ [] }) ≡ []
another_link = refl

unreadable : said_in 1 (record { stream = RSL_STREAM; body = PING ∷ [] }) ≡ says.Nothing ∷ []
unfolding rsl_reading
unreadable = refl

link_breaks : taken_says (Take (record { source = 1; what = whats.Down })) ≡ []
link_breaks = refl

time_passes : taken_says (Tick 1000) ≡ []
time_passes = refl
