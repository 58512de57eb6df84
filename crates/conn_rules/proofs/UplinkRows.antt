-- SPDX-License-Identifier: MIT OR Apache-2.0
-- Each row relays the messages that it removes from those still to be relayed, or the connection
-- closes or is removed.
use Rattle.conn_rules.proofs.Prelude.{◌≡◌, ℕ, zero, suc, ◌+◌, ◌==◌, ◌&&◌, ◌||◌, Bool, true, false, if◌then◌else◌, List, [], ◌∷◌, ◌++◌}
use Rattle.conn_rules.proofs.Prelude.{length, Option, Some, None, refl, sym, ap, ◌∙◌, append-nil, cond_both, Channel, Change, Assignment}
use Rattle.conn_rules.proofs.Prelude.{Handover, Place, rf_channel_release, change_complete, Sapi, Zero, Three, count, Due, WasAsked, Drain}
use Rattle.conn_rules.proofs.Prelude.{ShortMessageLink, Down, Asked, Up, Stage, Active, Preparing, Changing, Draining, State}
use Rattle.conn_rules.proofs.Prelude.{WaitActivation, WaitEstablish, WaitConfirm, Live, Closed, Removed, Connection, enter, is_at, drain_at}
use Rattle.conn_rules.proofs.Prelude.{IsValidState, FirstIsEmpty, Future, OfRow, IsOpen, relayed, still_of, still_to_relay, of_target}
use Rattle.conn_rules.proofs.Prelude.{of_prepared}
use Rattle.conn_rules.specs.Steps.{Row, row, ◌then◌, may_begin, begin_waiting, resting, resting_stage, moved, hold_down, hand_held, request_where, short_message, ask_for_held, link_up, link_down, done_at, leave, settled, settled_stage}
use Rattle.conn_rules.specs.Table.{row_if, on_activation_ack, nack_outs, on_activation_nack, was_asked, on_establish_confirm, on_release_indication, on_error_indication, on_connection_failure, same_change, on_complete, failure_outs, on_failure, release, release_in, on_release_ack, on_move, on_confirm, on_refused, on_released, on_downlink, speech_request, on_assignment_request, on_cipher_mode_command, on_clear_command, on_expiry, is_some_draining, on_drain_expiry, drains_at, targets, on_station_down, on_switch_down}
use Rattle.conn_rules.proofs.UplinkPlaces.{drain_at_drains}
use Rattle.conn_rules.proofs.UplinkSteps.{Gives, gives_then, gives_relay_held, gives_hand_held, gives_ask_for_held, gives_begin, begins_untargeted, gives_begin_waiting, resting_untargeted, gives_leave, leave-state, gives_settled, settled-valid}
use Rattle.conn_rules.proofs.UplinkTenures.{done_still, moved_still}

-- while the connection remains open
abbrev pub Passes : Sapi → Future → List (List ℕ) → Row → Type 0
Passes sapi future up r = IsOpen r.next.state → Gives sapi future up r

abbrev pub PassesOn : Sapi → Future → Connection → Option Row → Type 0
PassesOn sapi future s o = OfRow (Passes sapi future (still_to_relay sapi future s)) o

-- a connection in this state
abbrev pub in_state : State → Connection → Connection
in_state state s = record s { state = state }

pub of_if : (P : Row → Type 0) (test : Bool) (r : Row) → (test ≡ true → P r) → OfRow P (row_if test r)
of_if P true r holds = holds refl
of_if P false r holds = tt

-- ---- what is received from a station

pub activation_ack : (sapi : Sapi) (future : Future) (state : State) (s : Connection) (at : Place) →
    of_prepared future state ≡ [] →
    PassesOn sapi future (in_state state s) (on_activation_ack state (in_state state s) at)
activation_ack sapi future WaitActivation s at none = of_if _ (is_at at s.serving) _ (λ here kept. refl)
activation_ack sapi future (Live reference (Preparing target)) s at none =
    of_if _ (is_at at target.channel) _ (λ here kept. ap (λ (xs : List (List ℕ)). still_of sapi future s.serving s.draining s.up.tenures ++ xs) none)
activation_ack sapi future _ s at none = tt

none_in_nack : (sapi : Sapi) (change : Change) (reference : ℕ) → relayed sapi (nack_outs change reference) ≡ []
none_in_nack sapi Assignment reference = refl
none_in_nack sapi Handover reference = refl

pub activation_nack : (sapi : Sapi) (future : Future) (state : State) (s : Connection) (at : Place) (offer : Option Channel) →
    PassesOn sapi future (in_state state s) (on_activation_nack state (in_state state s) at offer)
activation_nack sapi future WaitActivation s at offer = of_if _ (is_at at s.serving) _ (λ here kept. absurd kept)
activation_nack sapi future (Live reference (Preparing target)) s at offer =
    let old = in_state (Live reference (Preparing target)) s in
    let back : Row = row (nack_outs target.change reference) (resting reference old) in
    let gives : Gives sapi future (still_to_relay sapi future old) back = rw (none_in_nack sapi target.change reference, resting_untargeted future reference s.draining) refl in
    of_if _ (is_at at target.channel) _ (λ here kept. gives_then sapi future (still_to_relay sapi future old) back (begin_waiting (resting_stage s.draining) reference offer) gives (gives_begin_waiting sapi future (resting_stage s.draining) reference offer (resting reference old) refl))
activation_nack sapi future _ s at offer = tt

pub gives_link_up : (sapi : Sapi) (future : Future) (s : Connection) → Gives sapi future (still_to_relay sapi future s) (link_up s)
gives_link_up sapi future s = gives_hand_held sapi future Three (record s { link = Up })

pub establish_confirm : (sapi : Sapi) (future : Future) (state : State) (s : Connection) (at : Place) (of : Sapi) →
    PassesOn sapi future (in_state state s) (on_establish_confirm state (in_state state s) at of)
establish_confirm sapi future (Live reference (Changing target)) s at of = tt
establish_confirm sapi future (Live reference stage) s at Three = of_if _ (was_asked s.link && is_at at s.serving) _ (λ here kept. gives_link_up sapi future (in_state (Live reference stage) s))
establish_confirm sapi future _ s at of = tt

gives_link_down : (sapi : Sapi) (future : Future) (link : ShortMessageLink) (reference : ℕ) (s : Connection) →
    Gives sapi future (still_to_relay sapi future s) (link_down link reference s)
gives_link_down sapi future Asked reference s = refl
gives_link_down sapi future _ reference s = refl

pub release_indication : (sapi : Sapi) (future : Future) (state : State) (s : Connection) (at : Place) (of : Sapi) →
    PassesOn sapi future (in_state state s) (on_release_indication state (in_state state s) at of)
release_indication sapi future WaitEstablish s at Zero = of_if _ (is_at at s.serving) _ (λ here kept. absurd kept)
release_indication sapi future WaitConfirm s at Zero = of_if _ (is_at at s.serving) _ (λ here kept. absurd kept)
release_indication sapi future (Live reference (Changing target)) s at of = tt
release_indication sapi future (Live reference stage) s at Zero = of_if _ (is_at at s.serving) _ (λ here kept. absurd kept)
release_indication sapi future (Live reference stage) s at Three = of_if _ (is_at at s.serving) _ (λ here kept. gives_link_down sapi future s.link reference (in_state (Live reference stage) s))
release_indication sapi future _ s at of = tt

pub error_indication : (sapi : Sapi) (future : Future) (state : State) (s : Connection) (at : Place) (of : Sapi) →
    PassesOn sapi future (in_state state s) (on_error_indication state (in_state state s) at of)
error_indication sapi future (Live reference (Changing target)) s at of = tt
error_indication sapi future (Live reference stage) s at Three = of_if _ (is_at at s.serving) _ (λ here kept. gives_link_down sapi future s.link reference (in_state (Live reference stage) s))
error_indication sapi future _ s at of = tt

pub connection_failure : (sapi : Sapi) (future : Future) (state : State) (s : Connection) (at : Place) →
    PassesOn sapi future (in_state state s) (on_connection_failure state (in_state state s) at)
connection_failure sapi future WaitEstablish s at = of_if _ (is_at at s.serving) _ (λ here kept. absurd kept)
connection_failure sapi future WaitConfirm s at = of_if _ (is_at at s.serving) _ (λ here kept. absurd kept)
connection_failure sapi future (Live reference (Changing target)) s at = tt
connection_failure sapi future (Live reference stage) s at = of_if _ (is_at at s.serving) _ (λ here kept. absurd kept)
connection_failure sapi future _ s at = tt

-- ---- the mobile is on another channel, or back

none_in_complete : (sapi : Sapi) (reference : ℕ) (change : Change) (channel : Channel) (cause : ℕ) →
    relayed sapi (change_complete reference change channel cause ∷ []) ≡ []
none_in_complete sapi reference Assignment channel cause = refl
none_in_complete sapi reference Handover channel cause = refl

-- what follows a change: the switch's messages are handed, and a request that waited begins
gives_after : (sapi : Sapi) (future : Future) (up : List (List ℕ)) (stage : Stage) (reference : ℕ) (offer : Option Channel) (r : Row) →
    r.next.state ≡ Live reference stage →
    Gives sapi future up r →
    Gives sapi future up (r then hand_held Zero then ask_for_held then begin_waiting stage reference offer)
gives_after sapi future up stage reference offer r is gives =
    let handed = gives_then sapi future up r (hand_held Zero) gives (gives_hand_held sapi future Zero r.next) in
    let after : Row = r then hand_held Zero in
    let asked = gives_then sapi future up after ask_for_held handed (gives_ask_for_held sapi future after.next) in
    let last : Row = after then ask_for_held in
    gives_then sapi future up last (begin_waiting stage reference offer) asked (gives_begin_waiting sapi future stage reference offer last.next is)

pub completed : (sapi : Sapi) (future : Future) (state : State) (s : Connection) (at : Place) (change : Change) (cause : ℕ) (offer : Option Channel) →
    IsValidState state s.draining s.down s.up.tenures s.link s.waits →
    PassesOn sapi future (in_state state s) (on_complete state (in_state state s) at change cause offer)
completed sapi future (Live reference (Changing target)) s at change cause offer valid =
    let old = in_state (Live reference (Changing target)) s in
    let next = moved reference target.channel old in
    let moves : Row = row (change_complete reference change target.channel cause ∷ rf_channel_release s.serving ∷ []) next in
    let gives : Gives sapi future (still_to_relay sapi future old) moves =
    ap (λ (xs : List (List ℕ)). xs ++ still_to_relay sapi future next) (none_in_complete sapi reference change target.channel cause)
    ∙ append-nil (still_of sapi future next.serving next.draining next.up.tenures)
    ∙ moved_still sapi future s.serving target.channel s.draining s.up.tenures valid.a_tenure_each in
    of_if _ (is_at at target.channel && same_change change target.change) _ (λ here kept. gives_after sapi future (still_to_relay sapi future old) Draining reference offer moves refl gives)
completed sapi future _ s at change cause offer valid = tt

none_in_failure : (sapi : Sapi) (change : Change) (reference cause : ℕ) (channel : Channel) →
    relayed sapi (failure_outs change reference cause ++ rf_channel_release channel ∷ []) ≡ []
none_in_failure sapi Assignment reference cause channel = refl
none_in_failure sapi Handover reference cause channel = refl

pub failed : (sapi : Sapi) (future : Future) (state : State) (s : Connection) (at : Place) (change : Change) (cause : ℕ) (offer : Option Channel) →
    of_target future state ≡ [] →
    PassesOn sapi future (in_state state s) (on_failure state (in_state state s) at change cause offer)
failed sapi future (Live reference (Changing target)) s at change cause offer none =
    let old = in_state (Live reference (Changing target)) s in
    let back : Row = row (failure_outs change reference cause ++ rf_channel_release target.channel ∷ []) (resting reference old) in
    let gives : Gives sapi future (still_to_relay sapi future old) back = rw (none_in_failure sapi change reference cause target.channel, resting_untargeted future reference s.draining, none) refl in
    of_if _ (is_at at s.serving && same_change change target.change) _ (λ here kept. gives_after sapi future (still_to_relay sapi future old) (resting_stage s.draining) reference offer back refl gives)
failed sapi future _ s at change cause offer none = tt

-- ---- an old channel is released, or the serving one changes

length-done_at : (place : ℕ) (ds : List Drain) → length (done_at place ds) ≡ length ds
length-done_at place [] = refl
length-done_at zero (d ∷ ds) = refl
length-done_at (suc place) (d ∷ ds) = ap (λ (n : ℕ). suc n) (length-done_at place ds)

gives_release : (sapi : Sapi) (future : Future) (reference : ℕ) (stage : Stage) (at : Place) (place : ℕ) (offer : Option Channel) (s : Connection) →
    s.state ≡ Live reference stage →
    future at ≡ [] →
    drain_at at s.draining ≡ Some place →
    FirstIsEmpty s.up.tenures →
    length s.up.tenures ≡ length s.draining + 1 →
    Gives sapi future (still_to_relay sapi future s) (release reference stage place offer s)
gives_release sapi future reference stage at place offer s is over drains first long =
    let up = still_to_relay sapi future s in
    let going : Row = leave reference (done_at place s.draining) s in
    let left = going.next in
    let rests = settled reference stage left.draining left in
    let valid : left.state ≡ Live reference stage = leave-state reference (done_at place s.draining) s ∙ is in
    let same = ap (λ (xs : List (List ℕ)). xs ++ of_target future s.state) (done_still sapi at future s.serving place s.draining s.up.tenures over (drain_at_drains at s.draining place drains)) in
    let gives : Gives sapi future up going = gives_leave sapi future reference (done_at place s.draining) s first (long ∙ ap (λ (n : ℕ). n + 1) (sym (length-done_at place s.draining))) ∙ same in
    let settling : Connection → Row = λ (c : Connection). row [] (settled reference stage c.draining c) in
    let settles = gives_then sapi future up going settling gives (gives_settled sapi future reference stage left.draining left valid) in
    gives_then sapi future up (going then settling) (λ (c : Connection). begin_waiting (settled_stage stage c.draining) reference offer c) settles
    (gives_begin_waiting sapi future (settled_stage stage rests.draining) reference offer rests (settled-valid reference stage left valid))

release_by : (sapi : Sapi) (future : Future) (reference : ℕ) (stage : Stage) (at : Place) (offer : Option Channel) (s : Connection) (place : Option ℕ) →
    s.state ≡ Live reference stage →
    future at ≡ [] →
    drain_at at s.draining ≡ place →
    FirstIsEmpty s.up.tenures →
    length s.up.tenures ≡ length s.draining + 1 →
    PassesOn sapi future s (release_in place reference stage offer s)
release_by sapi future reference stage at offer s (Some place) is over drains first long = λ kept. gives_release sapi future reference stage at place offer s is over drains first long
release_by sapi future reference stage at offer s None is over drains first long = tt

pub release_ack : (sapi : Sapi) (future : Future) (state : State) (s : Connection) (at : Place) (offer : Option Channel) →
    future at ≡ [] →
    IsValidState state s.draining s.down s.up.tenures s.link s.waits →
    PassesOn sapi future (in_state state s) (on_release_ack state (in_state state s) at offer)
release_ack sapi future (Live reference stage) s at offer over valid =
    release_by sapi future reference stage at offer (in_state (Live reference stage) s) (drain_at at s.draining) refl over refl valid.first valid.a_tenure_each
release_ack sapi future _ s at offer over valid = tt

pub move : (sapi : Sapi) (future : Future) (state : State) (s : Connection) (offer : Option Channel) →
    PassesOn sapi future (in_state state s) (on_move state (in_state state s) offer)
move sapi future (Live reference stage) s offer =
    of_if _ (may_begin stage s.draining) _ (λ begins kept. gives_begin sapi future reference Handover offer (in_state (Live reference stage) s) (begins_untargeted future reference stage true s.draining begins))
move sapi future _ s offer = tt

-- ---- what is received from the switch

pub confirmed : (sapi : Sapi) (future : Future) (state : State) (s : Connection) (reference : ℕ) →
    PassesOn sapi future (in_state state s) (on_confirm state (in_state state s) reference)
confirmed sapi future WaitConfirm s reference = λ kept. gives_relay_held sapi future reference (enter (Live reference Active) s)
confirmed sapi future (Closed (Due cause)) s reference = λ kept. absurd kept
confirmed sapi future _ s reference = tt

pub refused : (sapi : Sapi) (future : Future) (state : State) (s : Connection) →
    PassesOn sapi future (in_state state s) (on_refused state (in_state state s))
refused sapi future WaitConfirm s = λ kept. absurd kept
refused sapi future (Closed (Due cause)) s = λ kept. absurd kept
refused sapi future _ s = tt

pub released : (sapi : Sapi) (future : Future) (state : State) (s : Connection) (reference : ℕ) →
    PassesOn sapi future (in_state state s) (on_released state (in_state state s) reference)
released sapi future WaitConfirm s reference = λ kept. absurd kept
released sapi future (Live own stage) s reference = λ kept. absurd kept
released sapi future (Closed clearing) s reference = λ kept. absurd kept
released sapi future _ s reference = tt

passes_hold_down : (sapi : Sapi) (future : Future) (reference : ℕ) (stage : Stage) (of : Sapi) (message : List ℕ) (s : Connection) →
    Passes sapi future (still_to_relay sapi future s) (hold_down (Live reference stage) of message s)
passes_hold_down sapi future reference stage of message s =
    cond_both (count s.down == s.down.limit) _ _ (Passes sapi future (still_to_relay sapi future s)) (λ full kept. absurd kept) (λ room kept. refl)

none_asked_for : (sapi : Sapi) (link : ShortMessageLink) (serving : Channel) → relayed sapi (request_where link serving) ≡ []
none_asked_for sapi Down serving = refl
none_asked_for sapi _ serving = refl

passes_short_message : (sapi : Sapi) (future : Future) (reference : ℕ) (stage : Stage) (link : ShortMessageLink) (message : List ℕ) (s : Connection) →
    Passes sapi future (still_to_relay sapi future s) (short_message (Live reference stage) link message s)
passes_short_message sapi future reference stage Up message s = λ kept. refl
passes_short_message sapi future reference stage _ message s =
    cond_both (count s.down == s.down.limit) _ _ (Passes sapi future (still_to_relay sapi future s)) (λ full kept. absurd kept)
    (λ room kept. ap (λ (xs : List (List ℕ)). xs ++ still_to_relay sapi future s) (none_asked_for sapi s.link s.serving))

pub downlink : (sapi : Sapi) (future : Future) (state : State) (s : Connection) (of : Sapi) (message : List ℕ) →
    PassesOn sapi future (in_state state s) (on_downlink state (in_state state s) of message)
downlink sapi future (Live reference (Changing target)) s of message = passes_hold_down sapi future reference (Changing target) of message (in_state (Live reference (Changing target)) s)
downlink sapi future (Live reference stage) s Zero message = λ kept. refl
downlink sapi future (Live reference stage) s Three message = passes_short_message sapi future reference stage s.link message (in_state (Live reference stage) s)
downlink sapi future _ s of message = tt

gives_speech_request : (sapi : Sapi) (future : Future) (reference : ℕ) (stage : Stage) (offer : Option Channel) (s : Connection) →
    s.state ≡ Live reference stage →
    Gives sapi future (still_to_relay sapi future s) (speech_request reference stage offer s)
gives_speech_request sapi future reference stage offer s is =
    cond_both (may_begin stage s.draining) _ _ (Gives sapi future (still_to_relay sapi future s))
    (λ begins. gives_begin sapi future reference Assignment offer s (ap (of_target future) is ∙ begins_untargeted future reference stage true s.draining begins))
    (λ later. cond_both s.waits _ _ (Gives sapi future (still_to_relay sapi future s)) (λ second. refl) (λ first. refl))

pub assignment_request : (sapi : Sapi) (future : Future) (state : State) (s : Connection) (is_speech : Bool) (offer : Option Channel) →
    PassesOn sapi future (in_state state s) (on_assignment_request state (in_state state s) is_speech offer)
assignment_request sapi future (Live reference stage) s true offer = λ kept. gives_speech_request sapi future reference stage offer (in_state (Live reference stage) s) refl
assignment_request sapi future (Live reference stage) s false offer = λ kept. refl
assignment_request sapi future _ s is_speech offer = tt

pub cipher_mode_command : (sapi : Sapi) (future : Future) (state : State) (s : Connection) →
    PassesOn sapi future (in_state state s) (on_cipher_mode_command state (in_state state s))
cipher_mode_command sapi future (Live reference stage) s = λ kept. refl
cipher_mode_command sapi future _ s = tt

pub clear_command : (sapi : Sapi) (future : Future) (state : State) (s : Connection) →
    PassesOn sapi future (in_state state s) (on_clear_command state (in_state state s))
clear_command sapi future (Live reference stage) s = λ kept. absurd kept
clear_command sapi future (Closed (WasAsked reference)) s = λ kept. absurd kept
clear_command sapi future _ s = tt

-- ---- timers and links

pub expired : (sapi : Sapi) (future : Future) (state : State) (s : Connection) →
    PassesOn sapi future (in_state state s) (on_expiry state (in_state state s))
expired sapi future WaitActivation s = λ kept. absurd kept
expired sapi future WaitEstablish s = λ kept. absurd kept
expired sapi future (Live reference (Preparing target)) s = λ kept. absurd kept
expired sapi future (Live reference (Changing target)) s = λ kept. absurd kept
expired sapi future _ s = tt

pub drain_expired : (sapi : Sapi) (future : Future) (state : State) (s : Connection) →
    PassesOn sapi future (in_state state s) (on_drain_expiry state (in_state state s))
drain_expired sapi future (Live reference stage) s = of_if _ (is_some_draining s.draining) _ (λ some kept. absurd kept)
drain_expired sapi future _ s = tt

pub station_down : (sapi : Sapi) (future : Future) (state : State) (s : Connection) (station : ℕ) →
    PassesOn sapi future (in_state state s) (on_station_down state (in_state state s) station)
station_down sapi future WaitActivation s station = of_if _ (s.serving.station == station) _ (λ down kept. absurd kept)
station_down sapi future WaitEstablish s station = of_if _ (s.serving.station == station) _ (λ down kept. absurd kept)
station_down sapi future WaitConfirm s station = of_if _ (s.serving.station == station) _ (λ down kept. absurd kept)
station_down sapi future (Live reference stage) s station =
    of_if _ (s.serving.station == station || targets station stage || drains_at station s.draining) _ (λ down kept. absurd kept)
station_down sapi future _ s station = tt

pub switch_down : (sapi : Sapi) (future : Future) (state : State) (s : Connection) →
    PassesOn sapi future (in_state state s) (on_switch_down state (in_state state s))
switch_down sapi future Removed s = tt
switch_down sapi future _ s = λ kept. absurd kept
