-- SPDX-License-Identifier: MIT OR Apache-2.0
-- Stations make no message of SAPI 3 that is of the flow, and so none arrives at the controller.
use Rattle.world_laws.proofs.Prelude.{◌≡◌, ℕ, zero, suc, ◌-◌, ◌+◌, ◌==◌, ◌&&◌, not, nat_eq, Bool, true, false, if◌then◌else◌, List, [], ◌∷◌}
use Rattle.world_laws.proofs.Prelude.{◌++◌, filter, map, get_or, set, Option, Some, None, Ok, Err, option_to_list, refl, sym, ap, ◌∙◌}
use Rattle.world_laws.proofs.Prelude.{subst, append_assoc, inl, inr, AllByRecursion, cases_Bool, eqb-true, eqb-false, append-nil}
use Rattle.world_laws.proofs.Prelude.{filter-append, Bssap, Management, Bssmap, InterfaceFault, Sccp, bssap_reading, sccp_text}
use Rattle.world_laws.proofs.Prelude.{AllByRecursion-append, Place, SWITCH_LINK, word_by, word_in, is_dtap, Word, Nothing, OnChannel}
use Rattle.world_laws.proofs.Prelude.{Reports, Input, body_word, bssap_word, change_word, data_word, management_word, of_sapi, report_word}
use Rattle.world_laws.proofs.Prelude.{result_word, rr_word, rsl_word, sapi_of, station_word, switch_word, connection_control, other}
use Rattle.world_laws.proofs.Prelude.{radio_signalling, report_reading, place_at, RrMessage, AssignmentComplete, HandoverComplete}
use Rattle.world_laws.proofs.Prelude.{AssignmentFailure, HandoverFailure, MeasurementReport, RrFault, Sapi, Zero, Three, is_flow_message}
use Rattle.world_laws.proofs.Prelude.{BaseState, after_activate, after_release, after_tell, first_message, first_of_messages}
use Rattle.world_laws.proofs.Prelude.{messages_behind_first, frame_answer, new_mobile, MobileState, Item, RslFault, Rsl, rsl_reading}
use Rattle.world_laws.proofs.Prelude.{rsl_text, CellParameters, Parameters, Event, BasePush, Handle, Tick, BaseDown, actors_after}
use Rattle.world_laws.proofs.Prelude.{actors_after_all, frame_in, all_popped, all_pushed, first_of, pushed, station_item, switch_item}
use Rattle.world_laws.proofs.Prelude.{all_steps, first_taken, step_at, Actors, Mobile, Spot, base_of, is_up, mobile_of, modulus_in}
use Rattle.world_laws.proofs.Prelude.{new_actors, no_station, station_of, stations_from, with_base, with_spot, Good, end_of, good_new}
use Rattle.world_laws.proofs.Prelude.{good_step, IsSound, sound_read, Tells, event-keeps, AllByRecursion-so, both_empty, Result}
use Rattle.world_laws.proofs.Prelude.{sccp_reading, valid_word, rr_reading, MobileFault, Call, after_call, after_calls, frame_lent}
use Rattle.world_laws.proofs.Prelude.{taken_on_three_by_call, taken_on_three_by_calls, all_calls, popped, set-or-not, set-elsewhere}
use Rattle.world_laws.proofs.Prelude.{inbox-all, MobilesLive-new, IsBesideFlow, SaysBesideFlow, RefusesNone}
use Rattle.bssmap_codec.specs.declared.bssmap.Bssmap.TheVariants as bssmap
use Rattle.bssmap_codec.specs.declared.sccp.Sccp.TheVariants as sccp
use Rattle.controller_model.specs.Reading.{word_of}
use Rattle.dtap_codec.specs.declared.report.Report.{Report as ReportValue}
use Rattle.mobile_end.specs.Calls.Call.{frames}
use Rattle.mobile_end.proofs.OnSapiThree.{takes_no_flow}
use Rattle.ruled_relay.specs.declared.item.What.TheVariants as whats
use Rattle.rsl_codec.specs.declared.rsl.Rsl.TheVariants as rsl
use Rattle.world_model.specs.Mobiles.{with_message_made}
use Rattle.world_model.specs.World.{Station}
use Rattle.world_laws.proofs.Framing.{all_left, all_right}
use Rattle.world_model.proofs.Footprints.Tells.{answers, brings, detects, establishes, links, opens_with, reports, requires}
use Rattle.world_laws.proofs.Events.{world}

-- ---- what a mobile's link of SAPI 3 gives

one_more : (mobile : MobileState) (calls : List Call) →
    taken_on_three_by_calls mobile (calls ++ frames Three ∷ []) ≡ taken_on_three_by_calls mobile calls ++ frame_lent (frame_answer (after_calls mobile calls) Three)
one_more mobile [] = append-nil (frame_lent (frame_answer mobile Three))
one_more mobile (call ∷ calls) =
    ap (λ (xs : List (List ℕ)). taken_on_three_by_call mobile call ++ xs) (one_more (after_call mobile call) calls)
    ∙ sym (append_assoc (taken_on_three_by_call mobile call) (taken_on_three_by_calls (after_call mobile call) calls) (frame_lent (frame_answer (after_calls (after_call mobile call) calls) Three)))

-- one that is filtered out
beside : (frame : List ℕ) → filter is_flow_message (frame ∷ []) ≡ [] → IsBesideFlow frame
beside frame none = by (is_flow_message frame) none where
  by : (b : Bool) → (if b then frame ∷ [] else []) ≡ [] → b ≡ false
  by true is = absurd cc
  by false is = refl

lent_in : (r : Result (Option (List ℕ)) MobileFault) (frame : List ℕ) → frame_in r ≡ Some frame → frame_lent r ≡ frame ∷ []
lent_in (Ok o) frame is = ap option_to_list is
lent_in (Err fault) frame is = absurd cc

-- the next frame of each mobile
NoneLent : Actors → Type 0
NoneLent w = (number : ℕ) (p : Mobile) (frame : List ℕ) → mobile_of w number ≡ Some p → frame_in (frame_answer p.end Three) ≡ Some frame → IsBesideFlow frame

none_lent : (settings : Parameters) (events : List Event) → NoneLent (world settings events)
unfolding NoneLent
none_lent settings events number p frame found is =
    let by_table = MobilesLive-new settings events number p found in
    let m : ℕ = modulus_in settings in
    let mobile : MobileState = new_mobile m in
    let calls : List Call = all_calls (new_actors settings) events number in
    let last : frame_lent (frame_answer (after_calls mobile calls) Three) ≡ frame ∷ [] = ap (λ (e : MobileState). frame_lent (frame_answer e Three)) (sym by_table.is) ∙ lent_in (frame_answer p.end Three) frame is in
    beside frame ((both_empty (filter is_flow_message (taken_on_three_by_calls mobile calls)) (filter is_flow_message (frame ∷ []))
    (sym (sym (filter-append is_flow_message (taken_on_three_by_calls mobile calls) (frame ∷ []))
    ∙ ap (λ (xs : List (List ℕ)). filter is_flow_message (taken_on_three_by_calls mobile calls ++ xs)) (sym last)
    ∙ ap (filter is_flow_message) (sym (one_more mobile calls))
    ∙ takes_no_flow mobile (calls ++ frames Three ∷ []) tt))).1)

-- ---- what stations make

IsShort : Rsl → Type 0
IsShort (rsl.DataIndication d) = sapi_of d.link ≡ Some Three → IsBesideFlow d.l3
IsShort (rsl.ChannelActivationNack f) = ⊥
IsShort _ = Unit {0}

AreShort : Actors → Type 0
AreShort w = (k : ℕ) → AllByRecursion IsShort (get_or w.stations k no_station).base.messages

set_short : (stations : List Station) (k : ℕ) (station : Station) →
    AllByRecursion IsShort station.base.messages →
    ((j : ℕ) → AllByRecursion IsShort (get_or stations j no_station).base.messages) →
    (j : ℕ) →
    AllByRecursion IsShort (get_or (set stations k station) j no_station).base.messages
unfolding IsShort
set_short stations k station short all j =
    elim (cases_Bool (nat_eq j k)) [
      | inl same ↦ subst (λ (i : ℕ). AllByRecursion IsShort (get_or (set stations k station) i no_station).base.messages) (sym (eqb-true j k same)) own
      | inr miss ↦ subst (λ (s : Station). AllByRecursion IsShort s.base.messages) (sym (set-elsewhere stations k j station (eqb-false j k miss))) (all j)
    ] where
      own : AllByRecursion IsShort (get_or (set stations k station) k no_station).base.messages
      own = elim (set-or-not stations k station) [
        | inl there ↦ subst (λ (s : Station). AllByRecursion IsShort s.base.messages) (sym there) short
        | inr nowhere ↦ subst (λ (s : Station). AllByRecursion IsShort s.base.messages) (sym nowhere.0) tt
      ]

short_base : (station : ℕ) (base : BaseState) (u : Actors) →
    AllByRecursion IsShort base.messages →
    AreShort u →
    AreShort (with_base station base u)
unfolding AreShort
short_base station base u short all = set_short u.stations (station - 1) (record (station_of u station) { base = base }) short all

short_of : (u : Actors) (station : ℕ) → AreShort u → AllByRecursion IsShort (base_of u station).messages
unfolding AreShort
short_of u station all = all (station - 1)

short_spot : (at : Place) (spot : Spot) (u : Actors) → AreShort u → AreShort (with_spot at spot u)
unfolding AreShort
short_spot at spot u all = set_short u.stations (at.station - 1) _ (short_of u at.station all) all

short_told : (station : ℕ) (message : Rsl) (u : Actors) → IsShort message → AreShort u → AreShort (with_message_made station message u)
short_told station message u short all = short_base station (after_tell (base_of u station) message) u (AllByRecursion-append IsShort (base_of u station).messages (message ∷ []) (short_of u station all) (short, tt)) all

short_tells : {w : Actors} {event : Event} {n : ℕ} {message : Rsl} → NoneLent w → Tells w event n message → IsShort message
unfolding IsShort NoneLent
short_tells none (requires number station initial accepts) = tt
short_tells none (opens_with number p tenure frame lent) = tt
short_tells none (brings number Zero p tenure frame lent) = λ is. absurd cc
short_tells none (brings number Three p tenure frame lent) = λ is. none number p frame lent.found lent.lent
short_tells none (links number p tenure frame lent) = tt
short_tells none (detects number tenure reached) = tt
short_tells none (establishes tenure reached) = tt
short_tells none (answers station l true taken) = tt
short_tells none (answers station l false taken) = tt
short_tells none (reports number report tenure reached long) = tt

short_behind : (messages : List Rsl) → AllByRecursion IsShort messages → AllByRecursion IsShort (messages_behind_first messages)
short_behind [] all = tt
short_behind (first ∷ others) all = all.1

-- ---- each event

short_step : (w : Actors) (event : Event) → NoneLent w → AreShort w → AreShort (actors_after w event)
unfolding AreShort IsShort
short_step w event none = event-keeps AreShort w event (record {
  puts = λ u number p q _ _ _ all. all;
  joins = λ number initial accepts _ all. all;
  tells = λ u n message _ how all. short_told n message u (short_tells none how) all;
  spots = λ u at spot _ _ all. short_spot at spot u all;
  pops = λ station others _ all. all;
  activates = λ u s a _ _ all.
      let base : BaseState = after_activate (base_of u s) a.channel in
      short_spot (place_at s a.channel) _ (with_base s base u) (short_base s base u (AllByRecursion-append IsShort (base_of u s).messages _ (short_of u s all) (tt, tt)) all);
  releases = λ u s channel _ all.
      let base : BaseState = after_release (base_of u s) channel in
      short_spot (place_at s channel) _ (with_base s base u) (short_base s base u (AllByRecursion-append IsShort (base_of u s).messages _ (short_of u s all) (tt, tt)) all);
}) (record {
  rest = λ u inbox controller switch made links all. all;
  next = λ source message _ all. short_base source _ w (short_behind (base_of w source).messages (short_of w source all)) all;
  down = λ source _ _ all. short_base source _ w tt all;
})

-- ---- what is given to the inbox

-- nothing of the flow on SAPI 3, and no refusal
Says : Word → Type 0
Says word = SaysBesideFlow word × RefusesNone word

SaysItem : Item → Type 0
SaysItem item = Says (word_by item.source item.what)

says_of_sapi : (at : Place) (o : Option Sapi) (message : List ℕ) →
    (o ≡ Some Three → IsBesideFlow message) →
    Says (data_word true at o message)
unfolding Says
says_of_sapi at None message none = (tt, tt)
says_of_sapi at (Some Zero) message none = (tt, tt)
says_of_sapi at (Some Three) message none = (none refl, tt)

of_change : (at : Place) (r : Result RrMessage RrFault) → Says (change_word at r)
unfolding Says
of_change at (Ok (AssignmentComplete cause)) = (tt, tt)
of_change at (Ok (HandoverComplete cause)) = (tt, tt)
of_change at (Ok (AssignmentFailure cause)) = (tt, tt)
of_change at (Ok (HandoverFailure cause)) = (tt, tt)
of_change at (Ok _) = (tt, tt)
of_change at (Err fault) = (tt, tt)

of_rr : (at : Place) (o : Option Sapi) (message : List ℕ) → Says (rr_word at o message)
unfolding Says
of_rr at (Some Zero) message = of_change at (rr_reading message)
of_rr at _ message = (tt, tt)

of_data : (b : Bool) (at : Place) (o : Option Sapi) (message : List ℕ) →
    (o ≡ Some Three → IsBesideFlow message) →
    Says (data_word b at o message)
unfolding Says
of_data true at o message none = says_of_sapi at o message none
of_data false at o message none = of_rr at o message

of_valid : (at : Place) (number : ℕ) (report : ReportValue) → Says (valid_word at number report)
unfolding Says
of_valid at number report = by report.valid where
  by : (b : Bool) → Says (if b then Reports at number report else Nothing)
  by true = (tt, tt)
  by false = (tt, tt)

of_report : (at : Place) (number : ℕ) (r : Result RrMessage RrFault) → Says (report_word at number r)
unfolding Says
of_report at number (Ok (MeasurementReport value)) = of_valid at number (report_reading value)
of_report at number _ = (tt, tt)

of_result : (at : Place) (number : ℕ) (o : Option (List ℕ)) → Says (result_word at number o)
unfolding Says
of_result at number None = (tt, tt)
of_result at number (Some message) = of_report at number (rr_reading message)

on_link : (at : Place) (o : Option Sapi) (input : Sapi → Input) →
    ((sapi : Sapi) → Says (OnChannel at (input sapi))) →
    Says (of_sapi at o input)
unfolding Says
on_link at None input each = (tt, tt)
on_link at (Some sapi) input each = each sapi

of_message : (station : ℕ) (message : Rsl) → IsShort message → Says (rsl_word station message)
unfolding IsShort Says
of_message station (rsl.ChannelActivationNack f) short = absurd short
of_message station (rsl.EstablishIndication e) short = on_link (place_at station e.channel) (sapi_of e.link) _ (λ sapi. (tt, tt))
of_message station (rsl.EstablishConfirm l) short = on_link (place_at station l.channel) (sapi_of l.link) _ (λ sapi. (tt, tt))
of_message station (rsl.ReleaseIndication l) short = on_link (place_at station l.channel) (sapi_of l.link) _ (λ sapi. (tt, tt))
of_message station (rsl.ErrorIndication e) short = on_link (place_at station e.channel) (sapi_of e.link) _ (λ sapi. (tt, tt))
of_message station (rsl.DataIndication d) short = of_data (is_dtap d.l3) (place_at station d.channel) (sapi_of d.link) d.l3 short
of_message station (rsl.MeasurementResult m) short = of_result (place_at station m.channel) m.number.0 m.l3
of_message station _ short = (tt, tt)

-- ---- what the switch says is of no channel

of_management : (number : ℕ) (message : Bssmap) → Says (management_word number message)
unfolding Says
of_management number (bssmap.AssignmentRequest channel_type) = (tt, tt)
of_management number _ = (tt, tt)

of_bssap : (number : ℕ) (r : Result Bssap InterfaceFault) → Says (bssap_word number r)
unfolding Says
of_bssap number (Ok (Management message)) = of_management number message
of_bssap number _ = (tt, tt)

says_of_switch : (r : Result Sccp InterfaceFault) → Says (switch_word r)
unfolding Says
says_of_switch (Ok (sccp.DataForm1 destination user)) = of_bssap destination (bssap_reading user)
says_of_switch _ = (tt, tt)

-- ---- frames

of_station_item : (source : ℕ) (message : Rsl) →
    IsShort message →
    rsl_reading (rsl_text message) ≡ Ok message →
    SaysItem (station_item source message)
unfolding word_of SaysItem Says
of_station_item source message short read = by (source == SWITCH_LINK) where
  by : (b : Bool) →
      Says (body_word (if (b && false) then connection_control else if (not b && true) then radio_signalling else other) source (rsl_text message))
  by true = (tt, tt)
  by false = subst (λ (r : Result Rsl RslFault). Says (station_word source r)) (sym read) (of_message source message short)

of_switch_item : (message : Sccp) → SaysItem (switch_item message)
unfolding word_of SaysItem Says
of_switch_item message = says_of_switch (sccp_reading (sccp_text message))

says_pushed : (w : Actors) (event : Event) → Good w → AreShort w → AllByRecursion SaysItem (pushed w event)
unfolding SaysItem AreShort Says
says_pushed w (BasePush source) good all = by_source (nat_eq source SWITCH_LINK) where
  of_switch : (made : List Sccp) → AllByRecursion SaysItem (map switch_item (first_of made))
  of_switch [] = tt
  of_switch (first ∷ others) = (of_switch_item first, tt)

  of_station : (messages : List Rsl) →
      AllByRecursion IsSound messages →
      AllByRecursion IsShort messages →
      AllByRecursion SaysItem (map (station_item source) (option_to_list (first_of_messages messages)))
  of_station [] sound short = tt
  of_station (first ∷ others) sound short = (of_station_item source first short.0 (sound_read first sound.0), tt)

  by_source : (b : Bool) →
      AllByRecursion SaysItem (if b then map switch_item (first_of w.switch_made) else map (station_item source) (option_to_list (first_message (base_of w source))))
  by_source true = of_switch w.switch_made
  by_source false = of_station (base_of w source).messages (end_of w source good).made (short_of w source all)
says_pushed w (BaseDown source) good all = by_link (is_up w source) where
  by_link : (b : Bool) → AllByRecursion SaysItem (if b then record { source = source; what = whats.Down } ∷ [] else [])
  by_link true = ((tt, tt), tt)
  by_link false = tt
says_pushed w _ good all = tt

-- ---- all events

record Begins (w : Actors) : Type 0 where
  good : Good w
  short : AreShort w

says_all : (w : Actors) (events : List Event) →
    ((before : List Event) → NoneLent (actors_after_all w before)) →
    Begins w →
    AllByRecursion SaysItem (all_pushed w events)
says_all w [] none begins = tt
says_all w (event ∷ events) none begins =
    AllByRecursion-append SaysItem (pushed w event) (all_pushed (actors_after w event) events) (says_pushed w event begins.good begins.short)
    (says_all (actors_after w event) events (λ before. none (event ∷ before)) (record { good = good_step w event begins.good; short = short_step w event (none []) begins.short }))

new_short : (from k : ℕ) (cells : List CellParameters) →
    AllByRecursion IsShort (get_or (stations_from from cells) k no_station).base.messages
new_short from k [] = tt
new_short from zero (cell ∷ cells) = tt
new_short from (suc k) (cell ∷ cells) = new_short (from + 1) k cells

says_new : (settings : Parameters) (events : List Event) →
    AllByRecursion SaysItem (all_popped (new_actors settings) events ++ (world settings events).inbox)
unfolding AreShort
says_new settings events = subst (AllByRecursion SaysItem) (inbox-all (new_actors settings) events)
    (says_all (new_actors settings) events (none_lent settings) (record { good = good_new settings; short = λ k. new_short 1 k settings.cells }))

-- the steps of the controller are what it handled, and ticks
says_first : (items : List Item) →
    AllByRecursion SaysItem (first_of items) →
    AllByRecursion (λ step. Says (word_in step)) (first_taken items)
unfolding SaysItem Says
says_first [] all = tt
says_first (item ∷ items) all = (all.0, tt)

says_step : (w : Actors) (event : Event) →
    AllByRecursion SaysItem (popped w event) →
    AllByRecursion (λ step. Says (word_in step)) (step_at w event)
unfolding Says
says_step w Handle all = says_first w.inbox all
says_step w (Tick ms) all = ((tt, tt), tt)
says_step w _ all = tt

says_steps : (w : Actors) (events : List Event) →
    AllByRecursion SaysItem (all_popped w events) →
    AllByRecursion (λ step. Says (word_in step)) (all_steps w events)
says_steps w [] all = tt
says_steps w (event ∷ events) all =
    AllByRecursion-append (λ step. Says (word_in step)) (step_at w event) (all_steps (actors_after w event) events)
    (says_step w event (all_left SaysItem (popped w event) (all_popped (actors_after w event) events) all))
    (says_steps (actors_after w event) events (all_right SaysItem (popped w event) (all_popped (actors_after w event) events) all))

says_taken : (settings : Parameters) (events : List Event) →
    AllByRecursion (λ step. Says (word_in step)) (all_steps (new_actors settings) events)
says_taken settings events =
    let w : Actors = new_actors settings in
    says_steps w events (all_left SaysItem (all_popped w events) (actors_after_all w events).inbox (says_new settings events))

says_left : (settings : Parameters) (events : List Event) → AllByRecursion SaysItem (world settings events).inbox
says_left settings events =
    let w : Actors = new_actors settings in
    all_right SaysItem (all_popped w events) (actors_after_all w events).inbox (says_new settings events)

pub says_came : (settings : Parameters) (events : List Event) →
    AllByRecursion (λ step. SaysBesideFlow (word_in step)) (all_steps (new_actors settings) events)
unfolding Says
says_came settings events = AllByRecursion-so (λ step. Says (word_in step)) (λ step. SaysBesideFlow (word_in step)) (λ step says. says.0) (all_steps (new_actors settings) events) (says_taken settings events)

pub says_waits : (settings : Parameters) (events : List Event) →
    AllByRecursion (λ item. SaysBesideFlow (word_by item.source item.what)) (world settings events).inbox
unfolding SaysItem Says
says_waits settings events = AllByRecursion-so SaysItem (λ item. SaysBesideFlow (word_by item.source item.what)) (λ item says. says.0) (world settings events).inbox (says_left settings events)

pub refuses_came : (settings : Parameters) (events : List Event) →
    AllByRecursion (λ step. RefusesNone (word_in step)) (all_steps (new_actors settings) events)
unfolding Says
refuses_came settings events = AllByRecursion-so (λ step. Says (word_in step)) (λ step. RefusesNone (word_in step)) (λ step says. says.1) (all_steps (new_actors settings) events) (says_taken settings events)

pub refuses_waits : (settings : Parameters) (events : List Event) →
    AllByRecursion (λ item. RefusesNone (word_by item.source item.what)) (world settings events).inbox
unfolding SaysItem Says
refuses_waits settings events = AllByRecursion-so SaysItem (λ item. RefusesNone (word_by item.source item.what)) (λ item says. says.1) (world settings events).inbox (says_left settings events)
