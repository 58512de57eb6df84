-- SPDX-License-Identifier: MIT OR Apache-2.0
-- Each step puts frames that can be written and are read as they were put; so every life does.
use Rattle.controller_model.proofs.Prelude.{◌≡◌, ◌≢◌, ℕ, ◌-◌, ◌==◌, ◌≤◌, ◌<◌, ◌&&◌, ◌||◌, nat_le, Bool, true, false, if◌then◌else◌, List}
use Rattle.controller_model.proofs.Prelude.{[], ◌∷◌, slice_get, Option, Some, None, option_map, Result, Ok, refl, sym, subst, ap, ◌∙◌, inl}
use Rattle.controller_model.proofs.Prelude.{inr, arith, true≢false, cases_Bool, cond-true, cond-false, eq-eqb, and_parts, leb-true}
use Rattle.controller_model.proofs.Prelude.{option_and_then_some, AllByRecursion, option_to_list, Bssap, Management, Bssmap, InterfaceFault}
use Rattle.controller_model.proofs.Prelude.{Sccp, Channel, Place, Message, SWITCH_LINK, IsReadOf, IsSound, outs_of, access_activation}
use Rattle.controller_model.proofs.Prelude.{AllByRecursion-append, Input, State, Removed, Connection, is_at, IsCarried, Row, OfRow}
use Rattle.controller_model.proofs.Prelude.{target_in, serving_after, Report, Decision, Stay, Move, Frame, CCM_STREAM, PING, RSL_STREAM}
use Rattle.controller_model.proofs.Prelude.{SCCP_STREAM, What, RequestReference, AreAllowed, CellParameters, Parameters, ◌^◌, le-leb}
use Rattle.controller_model.proofs.Prelude.{bssap_reading, sccp_reading, out_of, all_within, row_of, IsTimer, kept_in, connection_of}
use Rattle.controller_model.proofs.Prelude.{AreRising, IsOctetStep, IsOfOctets, IsSent, SendsMessages, ChannelKind, Sdcch, Tch}
use Rattle.controller_model.proofs.Prelude.{ChannelState, Free, InUse, Releasing, MAX_CONNECTION_NUMBER, Step, Take, Tick, Word, Nothing}
use Rattle.controller_model.proofs.Prelude.{Ping, Asks, OnChannel, Reports, OnConnection, access_channel, channel_in, channel_of_kind}
use Rattle.controller_model.proofs.Prelude.{first_free, free_channel, free_in, handover_offer, is_alike, is_free, kind_of, request_offer}
use Rattle.controller_model.proofs.Prelude.{Controller, Entry, Turn, turn, each, ignoring, is_up, entry_of, with_down, with_entry}
use Rattle.controller_model.proofs.Prelude.{channel_state, freed, freed_station, new_controller, aged, all_aged, break_of, by_fitting}
use Rattle.controller_model.proofs.Prelude.{by_row, concerning, concerning_too, entry_after, entry_at, expiry, frees, given, is_measured}
use Rattle.controller_model.proofs.Prelude.{measured, measures, new_entry, on_break, on_decision, expires, on_freed, on_report, on_state}
use Rattle.controller_model.proofs.Prelude.{on_what, on_word, pong, row_in, step, timed, with_own_input, with_connection, with_report, Carried}
use Rattle.controller_model.proofs.Prelude.{body_word, bssap_word, management_of_link, management_word, station_word, switch_word}
use Rattle.controller_model.proofs.Prelude.{radio_signalling, connection_control, link_management, other, carried, decision_over, AreOctets}
use Rattle.controller_model.proofs.Prelude.{FIRST_TCH, LAST_SDCCH, PCH_AND_AGCH, RACH, is_channel, rsl_reading, IsCell, IsChannel}
use Rattle.controller_model.proofs.Prelude.{recursion_from_All}
use Rattle.bssmap_codec.specs.declared.bssmap.Bssmap.TheVariants as bssmap
use Rattle.bssmap_codec.specs.declared.sccp.Sccp.TheVariants as sccp
use Rattle.bssmap_codec.proofs.Sccps.{sccp_ok}
use Rattle.conn_messages.proofs.Readings.{message_again}
use Rattle.conn_messages.proofs.Sizes.{out_fits}
use Rattle.conn_rules.specs.declared.input.Input.TheVariants as inputs
use Rattle.controller_model.proofs.LifeLaws.Acting.{conn_of, row_found}
use Rattle.controller_model.proofs.LifeLaws.Entries.{back_found, back_over, back_rising, behind_found, behind_over, find_below}
use Rattle.controller_model.proofs.LifeLaws.Fitting.{Fits, IsLinkBreak, new_fits, break_carried, own_carried, timer_carried}
use Rattle.controller_model.proofs.LifeLaws.OwningLife.{new_holds}
use Rattle.controller_model.proofs.LifeLaws.OwningSteps.{all_some, found_one}
use Rattle.controller_model.proofs.LifeLaws.OwningWords.{Holds}
use Rattle.controller_model.proofs.LifeLaws.Readings.{IsCarriedBy, word_carried}
use Rattle.controller_model.proofs.LifeLaws.Sources.{IsAtPlace, IsFrom, word_from}
use Rattle.controller_model.proofs.LifeLaws.SoundMessages.{IsSoundChannel, sound_access}
use Rattle.controller_model.proofs.LifeLaws.SoundRows.{IsSoundRow, Refers, RefersBy, row_sound}
use Rattle.controller_model.proofs.LifeLaws.Turns.{IsDue, all_found, expiry_own, own_input_tame, timed_tame}
use Rattle.controller_model.proofs.LifeLaws.UsingLife.{aged_ready, all_here, expiry_numbers, life_ready, new_uses, radio_of, ready_by, run_step, still_here, own_input_numbers}
use Rattle.controller_model.proofs.LifeLaws.UsingRows.{Uses}
use Rattle.controller_model.proofs.LifeLaws.UsingWords.{IsHere, Ready, here_of}
use Rattle.controller_model.proofs.LifeLaws.Words.{decide_same, measured_remains}
use Rattle.controller_model.proofs.Numbers.{keeps_number}
use Rattle.controller_model.proofs.Others.{all_age}
use Rattle.controller_model.specs.Life.{life, take, tick}
use Rattle.controller_model.specs.Reading.{word_of}
use Rattle.ruled_relay.specs.declared.item.What.TheVariants as whats

-- ---- frames

out_conn : (n : ℕ) (message : Message) → out_of n message ≡ out_of (out_of n message).conn message
out_conn n message = ap (λ (k : ℕ). out_of k message) (sym (conn_of n message))

pub sent_message : (n : ℕ) (message : Message) → n < 2 ^ 24 → IsSound message → IsSent (out_of n message)
sent_message n message three sound = record {
  fits = out_fits n message sound.0;
  is = inl (record {
    message = message;
    put = out_conn n message;
    read = subst (λ (k : ℕ). IsReadOf k message (out_of n message).frame.body) (sym (conn_of n message)) (message_again n message three sound.0 sound.1);
  });
}

pub all_sent : (n : ℕ) (ms : List Message) → n < 2 ^ 24 → AllByRecursion IsSound ms → AllByRecursion IsSent (outs_of n ms)
all_sent n [] three all = tt
all_sent n (m ∷ ms) three all = (sent_message n m three all.0, all_sent n ms three all.1)

sent_pong : (source : ℕ) → IsSent (pong source)
sent_pong source = record { fits = omega arith; is = inr refl }

-- ---- the connections

pub record SoundParts (s : Connection) : Type 0 where
  pub serving : IsSoundChannel s.serving
  pub targets : AllByRecursion IsSoundChannel (target_in s.state)
  pub refers : Refers s.state

unfoldable pub SoundOf : Option Connection → Type 0
SoundOf None = Unit {0}
SoundOf (Some s) = SoundParts s

abbrev pub IsSoundCell : CellParameters → Type 0
IsSoundCell cell = AllByRecursion (λ (number : ℕ). is_channel number ≡ true) cell.channels

-- all connections are sound, and all channels of the cells, and numbers have three octets
pub record IsSoundAll (c : Controller) : Type 0 where
  pub each : (n : ℕ) → SoundOf (connection_of c n)
  pub cells : AllByRecursion IsSoundCell c.settings.cells
  pub next : c.next_number ≤ 2 ^ 24

pub record SoundTurn (t : Turn) : Type 0 where
  pub sound : IsSoundAll t.next
  pub sent : AllByRecursion IsSent t.outs

pub some_sound : (o : Option Connection) (s : Connection) → o ≡ Some s → SoundOf o → SoundParts s
unfolding SoundOf
some_sound o s is sound = subst SoundOf is sound

kept_sound : (state : State) (s : Connection) → SoundParts s → SoundOf (kept_in state s)
unfolding SoundOf
kept_sound Removed s sound = tt
kept_sound _ s sound = sound

-- ---- offers

in_cell : (p : Parameters) (station reference : ℕ) (cell : CellParameters) (o : Option ℕ) (c : Channel) →
    option_map (channel_in p station reference cell) o ≡ Some c →
    ((n : ℕ) → o ≡ Some n → is_channel n ≡ true) →
    IsSoundChannel c
in_cell p station reference cell None c is channel = absurd cc
in_cell p station reference cell (Some n) c is channel = subst IsSoundChannel (of is) (channel n refl, refl)
  where
    of : (let o : Option Channel = Some (channel_in p station reference cell n) in o) ≡ Some c → channel_in p station reference cell n ≡ c
    of is = cc

pub offered_sound : (c : Controller) (station reference : ℕ) (kind : ChannelKind) (offer : Channel) →
    AllByRecursion IsSoundCell c.settings.cells →
    first_free c station reference kind ≡ Some offer →
    IsSoundChannel offer
offered_sound c station reference kind offer cells is = elim (cases_Bool (is_up c station)) [
  | inr miss ↦ absurd (let none : None ≡ Some offer = sym (cond-false _ (free_channel c.settings c.channels station reference kind) None miss) ∙ is in cc)
  | inl hit ↦ option_and_then_some (channel_of_kind c.settings c.channels station reference kind) (slice_get c.settings.cells (station - 1)) offer (sym (cond-true _ (free_channel c.settings c.channels station reference kind) None hit) ∙ is)
      (λ cell there of. in_cell c.settings station reference cell (free_in c.channels station kind cell) offer of
      (λ n free. (found_one (λ number. is_alike kind (kind_of number) && is_free c.channels station number) (λ (number : ℕ). is_channel number ≡ true) cell.channels n (all_some IsSoundCell c.settings.cells (station - 1) cell cells there) free).1))
]

pub offer_list : (o : Option Channel) → ((d : Channel) → o ≡ Some d → IsSoundChannel d) → AllByRecursion IsSoundChannel (option_to_list o)
offer_list None each = tt
offer_list (Some d) each = (each d refl, tt)

pub request_sound : (c : Controller) (s : Connection) (input : Input) →
    AllByRecursion IsSoundCell c.settings.cells →
    (d : Channel) →
    request_offer c s input ≡ Some d →
    IsSoundChannel d
request_sound c s input cells d is = offered_sound c (serving_after s (row_of s input None)).station 0 Tch d cells is

-- ---- a row

row_parts : (links : List Bool) (c : Controller) (e : Entry) (input : Input) (offer : Option Channel) (r : Row) →
    IsHere links c e →
    SoundParts e.connection →
    row_of e.connection input offer ≡ Some r →
    ((d : Channel) → offer ≡ Some d → IsSoundChannel d) →
    IsCarried input →
    RefersBy input →
    AllByRecursion IsSound r.outs × SoundParts r.next
row_parts links c e input offer r here sound fits offered carried refers =
    let s : Connection = e.connection in
    let in_row : IsSoundRow r = subst (OfRow IsSoundRow) fits (row_sound s input offer (record { serving = sound.serving; zero = here.valid.down_zero; three = here.valid.down_three; up = here.valid.up_messages; refers = sound.refers }) sound.targets (offer_list offer offered) carried refers) in
    let within : (r.next.number ≡ s.number) × IsSoundChannel r.next.serving × AllByRecursion IsSoundChannel (target_in r.next.state) = subst (OfRow (λ (q : Row). (q.next.number ≡ s.number) × IsSoundChannel q.next.serving × AllByRecursion IsSoundChannel (target_in q.next.state))) fits (all_within IsSoundChannel IsSoundChannel s input offer s.number (refl, sound.serving, sound.targets) sound.targets (offer_list offer offered)) in
    (in_row.1, record { serving = within.1; targets = within.2; refers = in_row.0 })

entry_sound : (links : List Bool) (c : Controller) (e : Entry) → IsHere links c e → IsSoundAll c → SoundParts e.connection
entry_sound links c e here sound = some_sound (connection_of c e.connection.number) e.connection (ap (option_map (λ (x : Entry). x.connection)) here.there) (sound.each e.connection.number)

by_row_sound : (links : List Bool) (c : Controller) (e : Entry) (input : Input) (offer : Option Channel) (r : Row) →
    IsHere links c e →
    IsSoundAll c →
    row_of e.connection input offer ≡ Some r →
    ((d : Channel) → offer ≡ Some d → IsSoundChannel d) →
    IsCarried input →
    RefersBy input →
    SoundTurn (by_row e r c)
by_row_sound links c e input offer r here sound fits offered carried refers =
    let m : ℕ = e.connection.number in
    let keeps : r.next.number ≡ m = subst (λ (o : Option Row). OfRow (λ (q : Row). q.next.number ≡ m) o) fits (keeps_number e.connection input offer) in
    let parts = row_parts links c e input offer r here (entry_sound links c e here sound) fits offered carried refers in
    let below = here.below in
    let next = sound.next in
    record {
      sound = record {
        each = λ n. decide_same n m (SoundOf (connection_of (by_row e r c).next n))
            (λ same. subst (λ (k : ℕ). SoundOf (connection_of (by_row e r c).next k)) (sym same) (subst SoundOf (sym (row_found c e e r here.rising keeps here.there)) (kept_sound r.next.state r.next parts.1)))
            (λ differ. subst SoundOf (sym (ap (option_map (λ (x : Entry). x.connection)) (back_over n (entry_after c.settings e r) c.entries (λ same. differ (same ∙ keeps))))) (sound.each n));
        cells = sound.cells;
        next = sound.next;
      };
      sent = all_sent m r.outs (omega arith) parts.0;
    }

fitting_sound : (links : List Bool) (c : Controller) (otherwise : Turn) (e : Entry) (input : Input) (offer : Option Channel) (o : Option Row) →
    row_of e.connection input offer ≡ o →
    IsHere links c e →
    IsSoundAll c →
    ((d : Channel) → offer ≡ Some d → IsSoundChannel d) →
    IsCarried input →
    RefersBy input →
    SoundTurn otherwise →
    SoundTurn (by_fitting otherwise e o c)
fitting_sound links c otherwise e input offer None is here sound offered carried refers same = same
fitting_sound links c otherwise e input offer (Some r) is here sound offered carried refers same = by_row_sound links c e input offer r here sound is offered carried refers

ignoring_sound : (c : Controller) → IsSoundAll c → SoundTurn (ignoring c)
ignoring_sound c sound = record { sound = record { each = sound.each; cells = sound.cells; next = sound.next }; sent = tt }

quiet_sound : (c : Controller) → IsSoundAll c → SoundTurn (turn [] c)
quiet_sound c sound = record { sound = sound; sent = tt }

-- ---- frames that arrived

concerning_sound : (c : Controller) (input : Input) (m : ℕ) (o : Option Entry) →
    entry_of c m ≡ o →
    Ready c →
    IsSoundAll c →
    IsCarried input →
    RefersBy input →
    SoundTurn (concerning input c o)
concerning_sound c input m None there ready sound carried refers = ignoring_sound c sound
concerning_sound c input m (Some e) there ready sound carried refers =
    fitting_sound c.links c (ignoring c) e input (request_offer c e.connection input) (row_in c e.connection input) refl (here_of c m e ready there) sound (request_sound c e.connection input sound.cells) carried refers (ignoring_sound c sound)

too_sound : (at : Place) (c : Controller) (input : Input) (m : ℕ) (o : Option Entry) →
    entry_of c m ≡ o →
    Ready c →
    IsSoundAll c →
    IsCarried input →
    RefersBy input →
    SoundTurn (concerning_too input (freed at c) o)
too_sound at c input m None there ready sound carried refers = record { sound = record { each = sound.each; cells = sound.cells; next = sound.next }; sent = tt }
too_sound at c input m (Some e) there ready sound carried refers =
    let here = here_of c m e ready there in
    let all : IsSoundAll (freed at c) = record { each = sound.each; cells = sound.cells; next = sound.next } in
    fitting_sound c.links (freed at c) (turn [] (freed at c)) e input (request_offer (freed at c) e.connection input) (row_in (freed at c) e.connection input) refl
    (record { rising = here.rising; there = here.there; valid = here.valid; from_one = here.from_one; below = here.below; linked = here.linked }) all (request_sound (freed at c) e.connection input sound.cells) carried refers (quiet_sound (freed at c) all)

freed_sound : (b : Bool) (at : Place) (c : Controller) (input : Input) (m : ℕ) (o : Option Entry) →
    entry_of c m ≡ o →
    Ready c →
    IsSoundAll c →
    IsCarried input →
    RefersBy input →
    SoundTurn (on_freed b at input c o)
freed_sound true at c input m o there ready sound carried refers = too_sound at c input m o there ready sound carried refers
freed_sound false at c input m o there ready sound carried refers = concerning_sound c input m o there ready sound carried refers

free_sound : (b : Bool) (at : Place) (c : Controller) (input : Input) → IsSoundAll c → SoundTurn (on_freed b at input c None)
free_sound true at c input sound = record { sound = record { each = sound.each; cells = sound.cells; next = sound.next }; sent = tt }
free_sound false at c input sound = ignoring_sound c sound

channel_sound : (at : Place) (input : Input) (c : Controller) (state : ChannelState) →
    Ready c →
    IsSoundAll c →
    IsCarried input →
    RefersBy input →
    SoundTurn (on_state state at input c (entry_at c state))
channel_sound at input c Free ready sound carried refers = free_sound (frees Free None input) at c input sound
channel_sound at input c (InUse m) ready sound carried refers = freed_sound (frees (InUse m) (entry_of c m) input) at c input m (entry_of c m) refl ready sound carried refers
channel_sound at input c (Releasing m) ready sound carried refers = freed_sound (frees (Releasing m) (entry_of c m) input) at c input m (entry_of c m) refl ready sound carried refers

given_sound : (c : Controller) (source : ℕ) (request : RequestReference) (delay : ℕ) (o : Option Channel) →
    access_channel c source ≡ o →
    c.next_number ≤ MAX_CONNECTION_NUMBER →
    Ready c →
    IsSoundAll c →
    SoundTurn (given c request delay o)
unfolding SoundOf Refers
given_sound c source request delay None is few ready sound = ignoring_sound c sound
given_sound c source request delay (Some channel) is few ready sound =
    let m : ℕ = c.next_number in
    let e : Entry = new_entry c.settings m channel request delay in
    let next : Controller = (with_connection c channel request delay).next in
    let offered = offered_sound c source 0 Sdcch channel sound.cells is in
    let parts : SoundParts e.connection = record { serving = offered; targets = tt; refers = tt } in
    record {
      sound = record {
        each = λ n. decide_same n m (SoundOf (connection_of next n))
            (λ same. subst (λ (k : ℕ). SoundOf (connection_of next k)) (sym same) (subst SoundOf (sym (ap (option_map (λ (x : Entry). x.connection)) (behind_found e c.entries (find_below m c.entries ready.numbered.below)))) parts))
            (λ differ. subst SoundOf (sym (ap (option_map (λ (x : Entry). x.connection)) (behind_over n e c.entries differ))) (sound.each n));
        cells = sound.cells;
        next = omega arith;
      };
      sent = (sent_message m (access_activation channel) (omega arith) (sound_access channel offered), tt);
    }

if_sound : (b : Bool) (c : Controller) (t : Turn) → IsSoundAll c → (b ≡ true → SoundTurn t) → SoundTurn (if b then t else ignoring c)
if_sound true c t sound after = after refl
if_sound false c t sound after = ignoring_sound c sound

decision_sound : (links : List Bool) (d : Decision) (c : Controller) (e : Entry) →
    IsHere links c e →
    IsSoundAll c →
    SoundTurn (on_decision d c e)
decision_sound links Stay c e here sound = quiet_sound c sound
decision_sound links (Move cell) c e here sound =
    fitting_sound links c (turn [] c) e inputs.Move (handover_offer c e.connection.serving cell) (row_of e.connection inputs.Move (handover_offer c e.connection.serving cell)) refl here sound
    (λ d is. offered_sound c cell c.handovers (kind_of e.connection.serving.number) d sound.cells is) tt tt (quiet_sound c sound)

report_sound : (at : Place) (of : ℕ) (report : Report) (c : Controller) (m : ℕ) (o : Option Entry) →
    entry_of c m ≡ o →
    Ready c →
    IsSoundAll c →
    SoundTurn (on_report at of report c o)
report_sound at of report c m None there ready sound = ignoring_sound c sound
report_sound at of report c m (Some e) there ready sound =
    if_sound (measures at e) c (measured of report c e) sound
    (λ measuring.
    let put : Entry = with_report of report e in
    let c' : Controller = with_entry put c in
    let here = here_of c m e ready there in
    let found : entry_of c' e.connection.number ≡ Some put = back_found put e c.entries here.rising here.there ∙ measured_remains e.connection.state put (and_parts (is_at at e.connection.serving) (is_measured e.connection.state) measuring).1 in
    decision_sound c.links (decision_over put.averages.settings put.averages.reports of) c' put
    (record { rising = back_rising put c.entries here.rising; there = found; valid = here.valid; from_one = here.from_one; below = here.below; linked = here.linked })
    (record {
      each = λ n. decide_same n e.connection.number (SoundOf (connection_of c' n))
          (λ is. subst (λ (k : ℕ). SoundOf (connection_of c' k)) (sym is) (subst SoundOf (ap (option_map (λ (x : Entry). x.connection)) here.there ∙ sym (ap (option_map (λ (x : Entry). x.connection)) found)) (sound.each e.connection.number)))
          (λ differ. subst SoundOf (sym (ap (option_map (λ (x : Entry). x.connection)) (back_over n put c.entries differ))) (sound.each n));
      cells = sound.cells;
      next = sound.next;
    }))

report_on_sound : (at : Place) (of : ℕ) (report : Report) (c : Controller) (state : ChannelState) →
    Ready c →
    IsSoundAll c →
    SoundTurn (on_report at of report c (entry_at c state))
report_on_sound at of report c Free ready sound = ignoring_sound c sound
report_on_sound at of report c (InUse k) ready sound = report_sound at of report c k (entry_of c k) refl ready sound
report_on_sound at of report c (Releasing k) ready sound = report_sound at of report c k (entry_of c k) refl ready sound

-- ---- references that arrived

abbrev pub RefersIn : Word → Type 0
RefersIn (OnChannel at input) = RefersBy input
RefersIn (OnConnection m input) = RefersBy input
RefersIn _ = Unit {0}

at_refers : (at : Place) (input : Input) → IsAtPlace at input → RefersBy input
at_refers at (inputs.ConnectionConfirm source) is = absurd is
at_refers at (inputs.Released source) is = absurd is
at_refers at _ is = tt

-- a word that is from a station
station_refers : (source : ℕ) (word : Word) →
    IsFrom source word →
    ((m : ℕ) (input : Input) → word ≡ OnConnection m input → RefersBy input) →
    RefersIn word
station_refers source (OnChannel at input) from none = at_refers at input from.1
station_refers source (OnConnection m input) from none = none m input refl
station_refers source _ from none = tt

management_refers : (m : ℕ) (message : Bssmap) → RefersIn (management_word m message)
management_refers m (bssmap.AssignmentRequest channel_type) = tt
management_refers m _ = tt

bssap_refers : (m : ℕ) (r : Result Bssap InterfaceFault) → RefersIn (bssap_word m r)
bssap_refers m (Ok (Management message)) = management_refers m message
bssap_refers m _ = tt

switch_refers : (body : List ℕ) (r : Result Sccp InterfaceFault) → AreOctets body → sccp_reading body ≡ r → RefersIn (switch_word r)
switch_refers body (Ok (sccp.ConnectionConfirm destination source)) octets is = (sccp_ok body (sccp.ConnectionConfirm destination source) octets is).content.are.from
switch_refers body (Ok (sccp.Released destination source)) octets is = (sccp_ok body (sccp.Released destination source) octets is).content.are.from
switch_refers body (Ok (sccp.DataForm1 destination user)) octets is = bssap_refers destination (bssap_reading user)
switch_refers body _ octets is = tt

not_control : (source : ℕ) (word : Word) (m : ℕ) (input : Input) →
    source ≢ SWITCH_LINK →
    IsFrom source word →
    word ≡ OnConnection m input →
    RefersBy input
not_control source word m input station from is = let own : IsFrom source (OnConnection m input) = subst (IsFrom source) is from in absurd (station own.0)

link_refers : (body : List ℕ) → RefersIn (management_of_link body)
link_refers [] = tt
link_refers (first ∷ rest) = by (first == PING)
  where
    by : (b : Bool) → RefersIn (if b then Ping else Nothing)
    by true = tt
    by false = tt

body_refers : (what : Carried) (source : ℕ) (body : List ℕ) →
    (what ≡ radio_signalling → source ≢ SWITCH_LINK) →
    AreOctets body →
    IsFrom source (body_word what source body) →
    RefersIn (body_word what source body)
body_refers radio_signalling source body station octets from = station_refers source (station_word source (rsl_reading body)) from (λ m input is. not_control source (station_word source (rsl_reading body)) m input (station refl) from is)
body_refers connection_control source body station octets from = switch_refers body (sccp_reading body) octets refl
body_refers link_management source body station octets from = link_refers body
body_refers other source body station octets from = tt

pub word_refers : (source : ℕ) (frame : Frame) → AreOctets frame.body → RefersIn (word_of source frame)
unfolding word_of
word_refers source frame octets = body_refers (carried source frame.stream) source frame.body
    (λ is same. true≢false (sym (eq-eqb source SWITCH_LINK same)
    ∙ radio_of (frame.stream == CCM_STREAM) ((source == SWITCH_LINK) && (frame.stream == SCCP_STREAM)) (source == SWITCH_LINK) (frame.stream == RSL_STREAM) is))
    octets (word_from source frame)

-- ---- a frame

asked_sound : (b d : Bool) (c : Controller) (t : Turn) →
    IsSoundAll c →
    (d ≡ true → SoundTurn t) →
    SoundTurn (if (b && d) then t else ignoring c)
asked_sound true true c t sound after = after refl
asked_sound true false c t sound after = ignoring_sound c sound
asked_sound false d c t sound after = ignoring_sound c sound

word_sound : (source : ℕ) (word : Word) (c : Controller) →
    IsCarriedBy word →
    RefersIn word →
    Ready c →
    IsSoundAll c →
    SoundTurn (on_word source word c)
word_sound source Nothing c carried refers ready sound = ignoring_sound c sound
word_sound source Ping c carried refers ready sound = record { sound = sound; sent = (sent_pong source, tt) }
word_sound source (Asks request delay) c carried refers ready sound =
    asked_sound (is_up c SWITCH_LINK) (nat_le c.next_number MAX_CONNECTION_NUMBER) c (given c request delay (access_channel c source)) sound
    (λ few. given_sound c source request delay (access_channel c source) refl (leb-true c.next_number MAX_CONNECTION_NUMBER few) ready sound)
word_sound source (OnChannel at input) c carried refers ready sound = channel_sound at input c (channel_state c at) ready sound carried refers
word_sound source (Reports at of report) c carried refers ready sound = report_on_sound at of report c (channel_state c at) ready sound
word_sound source (OnConnection m input) c carried refers ready sound = concerning_sound c input m (entry_of c m) refl ready sound carried refers

-- ---- one connection after the other

own_input_sound : (links : List Bool) (input : Input) (c : Controller) (e : Entry) →
    IsCarried input →
    RefersBy input →
    IsHere links c e →
    IsSoundAll c →
    SoundTurn (with_own_input input c e)
own_input_sound links input c e carried refers here sound =
    fitting_sound links c (turn [] c) e input (request_offer c e.connection input) (row_in c e.connection input) refl here sound (request_sound c e.connection input sound.cells) carried refers (quiet_sound c sound)

each_sound : (links : List Bool) (f : Controller → Entry → Turn) → ((c : Controller) (e : Entry) → AreRising c.entries → AreRising (f c e).next.entries) → ((m : ℕ) (c : Controller) (e : Entry) → m ≢ e.connection.number → entry_of (f c e).next m ≡ entry_of c m) →
    ((c : Controller) (e : Entry) → (f c e).next.next_number ≡ c.next_number) → ((c : Controller) (e : Entry) → IsHere links c e → IsSoundAll c → SoundTurn (f c e)) →
    (c : Controller) (xs : List Entry) → AreRising xs → AllByRecursion (IsHere links c) xs → IsSoundAll c → SoundTurn (each f c xs)
each_sound links f order leaves numbers keeps c [] sorted here sound = quiet_sound c sound
each_sound links f order leaves numbers keeps c (x ∷ xs) sorted here sound =
    let one = keeps c x here.0 sound in
    let later = still_here links f c x xs order leaves numbers sorted.0 here.1 in
    let rest = each_sound links f order leaves numbers keeps (f c x).next xs sorted.1 later one.sound in
    record { sound = rest.sound; sent = AllByRecursion-append IsSent (f c x).outs (each f (f c x).next xs).outs one.sent rest.sent }

pub break_refers : (input : Input) → IsLinkBreak input → RefersBy input
break_refers inputs.SwitchDown break = tt
break_refers (inputs.StationDown station) break = tt
break_refers _ break = absurd break

pub timer_refers : (input : Input) → IsTimer input → RefersBy input
timer_refers inputs.Expiry timer = tt
timer_refers inputs.DrainExpiry timer = tt
timer_refers _ timer = absurd timer

without_sound : (b : Bool) (source : ℕ) (t : Turn) →
    SoundTurn t →
    SoundTurn (turn t.outs (if b then t.next else freed_station source t.next))
without_sound true source t sound = record { sound = sound.sound; sent = sound.sent }
without_sound false source t sound = record { sound = record { each = sound.sound.each; cells = sound.sound.cells; next = sound.sound.next }; sent = sound.sent }

break_sound : (source : ℕ) (c : Controller) → Ready c → IsSoundAll c → SoundTurn (on_break source c)
break_sound source c ready sound =
    let down : Controller = with_down source c in
    let f : Controller → Entry → Turn = with_own_input (break_of source) in
    let tame = own_input_tame 1 1 true (break_of source) in
    without_sound (source == SWITCH_LINK) source (each f down c.entries)
    (each_sound c.links f tame.rising tame.leaves (own_input_numbers (break_of source)) (λ d e here all. own_input_sound c.links (break_of source) d e (break_carried (break_of source) (own_carried source)) (break_refers (break_of source) (own_carried source)) here all)
    down c.entries ready.numbered.rising (down_here c.entries (all_here c c.entries ready (all_found c.entries ready.numbered.rising)))
    (record { each = sound.each; cells = sound.cells; next = sound.next }))
  where
    down_here : (xs : List Entry) → AllByRecursion (IsHere c.links c) xs → AllByRecursion (IsHere c.links (with_down source c)) xs
    down_here [] here = tt
    down_here (x ∷ xs) here = (
      record { rising = here.0.rising; there = here.0.there; valid = here.0.valid; from_one = here.0.from_one; below = here.0.below; linked = here.0.linked },
      down_here xs here.1,
    )

what_sound : (up : Bool) (source : ℕ) (what : What) (c : Controller) →
    IsOfOctets what →
    Ready c →
    IsSoundAll c →
    SoundTurn (on_what up source what c)
what_sound true source (whats.Frame frame) c octets ready sound = word_sound source (word_of source frame) c (word_carried source frame) (word_refers source frame octets) ready sound
what_sound true source whats.Down c octets ready sound = break_sound source c ready sound
what_sound false source what c octets ready sound = ignoring_sound c sound

-- ---- time passes

expiry_sound : (links : List Bool) (o : Option Input) (c : Controller) (e : Entry) →
    IsDue o →
    IsHere links c e →
    IsSoundAll c →
    SoundTurn (expires o c e)
expiry_sound links None c e due here sound = quiet_sound c sound
expiry_sound links (Some input) c e due here sound = own_input_sound links input c e (timer_carried input due) (timer_refers input due) here sound

aged_parts : (ms : ℕ) (o : Option Entry) →
    SoundOf (option_map (λ (e : Entry). e.connection) o) →
    SoundOf (option_map (λ (e : Entry). e.connection) (option_map (aged ms) o))
unfolding SoundOf
aged_parts ms None sound = tt
aged_parts ms (Some e) sound = record { serving = sound.serving; targets = sound.targets; refers = sound.refers }

tick_sound : (ms : ℕ) (c : Controller) → Ready c → IsSoundAll c → SoundTurn (tick ms c)
unfolding tick
tick_sound ms c ready sound =
    let old : Controller = all_aged ms c in
    let tame = timed_tame 1 1 true in
    let now = aged_ready ms c ready in
    each_sound c.links timed tame.rising tame.leaves (λ d e. expiry_numbers (expiry d.settings.timers e.connection) d e) (λ d e here all. expiry_sound c.links (expiry d.settings.timers e.connection) d e (expiry_own _ _) here all)
    old old.entries now.numbered.rising (all_here old old.entries now (all_found old.entries now.numbered.rising))
    (record {
      each = λ n. subst SoundOf (sym (ap (option_map (λ (e : Entry). e.connection)) (all_age n ms c))) (aged_parts ms (entry_of c n) (sound.each n));
      cells = sound.cells;
      next = sound.next;
    })

-- ---- a step

pub step_sound : (c : Controller) (s : Step) → IsOctetStep s → Ready c → IsSoundAll c → SoundTurn (step c s)
unfolding take
step_sound c (Take item) octets ready sound = what_sound (is_up c item.source) item.source item.what c octets ready sound
step_sound c (Tick ms) octets ready sound = tick_sound ms c ready sound

-- ---- a life

channels_of : (ns : List ℕ) → AllByRecursion IsChannel ns → AllByRecursion (λ (number : ℕ). is_channel number ≡ true) ns
channels_of [] all = tt
channels_of (n ∷ ns) all = (of n all.0, channels_of ns all.1)
  where
    of : (n : ℕ) → IsChannel n → is_channel n ≡ true
    of n is = ap (λ (b : Bool). (b && nat_le n LAST_SDCCH) || (n == RACH) || (n == PCH_AND_AGCH)) (le-leb FIRST_TCH n is.0) ∙ ap (λ (b : Bool). b || (n == RACH) || (n == PCH_AND_AGCH)) (le-leb n LAST_SDCCH is.1)

cells_of : (cells : List CellParameters) → AllByRecursion IsCell cells → AllByRecursion IsSoundCell cells
cells_of [] all = tt
cells_of (cell ∷ cells) all = (channels_of cell.channels (recursion_from_All IsChannel cell.channels all.0.channels.each), cells_of cells all.1)

pub new_sound : (p : Parameters) → AreAllowed p → IsSoundAll (new_controller p)
unfolding SoundOf
new_sound p allowed = record { each = λ n. tt; cells = cells_of p.cells (recursion_from_All IsCell p.cells allowed.cells.each); next = omega arith }

sound_run : (c : Controller) (steps : List Step) →
    AllByRecursion IsOctetStep steps →
    ((n : ℕ) → 1 ≤ n → Fits n c) →
    Holds c.links c →
    Uses c.links c.links c →
    IsSoundAll c →
    IsSoundAll (each step c steps).next
sound_run c [] octets fits holds uses sound = sound
sound_run c (s ∷ ss) octets fits holds uses sound =
    let after = run_step c s fits holds uses in
    sound_run (step c s).next ss octets.1 after.fits after.holds after.uses (step_sound c s octets.0 (ready_by c fits holds uses) sound).sound

pub life_sound : (p : Parameters) (steps : List Step) → AreAllowed p → AllByRecursion IsOctetStep steps → IsSoundAll (life p steps).next
unfolding life
life_sound p steps allowed octets = sound_run (new_controller p) steps octets (λ n from_one. new_fits n p) (new_holds p allowed) (new_uses p) (new_sound p allowed)

pub life_sends : (p : Parameters) (steps : List Step) (s : Step) →
    AreAllowed p →
    AllByRecursion IsOctetStep steps →
    IsOctetStep s →
    SendsMessages (life p steps).next s
unfolding life
life_sends p steps s allowed octets own =
    (step_sound (each step (new_controller p) steps).next s own (life_ready p steps allowed)
    (sound_run (new_controller p) steps octets (λ n from_one. new_fits n p) (new_holds p allowed) (new_uses p) (new_sound p allowed))).sent

sent_run : (c : Controller) (steps : List Step) →
    AllByRecursion IsOctetStep steps →
    ((n : ℕ) → 1 ≤ n → Fits n c) →
    Holds c.links c →
    Uses c.links c.links c →
    IsSoundAll c →
    AllByRecursion IsSent (each step c steps).outs
sent_run c [] octets fits holds uses sound = tt
sent_run c (s ∷ ss) octets fits holds uses sound =
    let after = run_step c s fits holds uses in
    let turn_sound = step_sound c s octets.0 (ready_by c fits holds uses) sound in
    AllByRecursion-append IsSent (step c s).outs (each step (step c s).next ss).outs turn_sound.sent (sent_run (step c s).next ss octets.1 after.fits after.holds after.uses turn_sound.sound)

-- all frames of a life
pub life_sends_all : (p : Parameters) (steps : List Step) →
    AreAllowed p →
    AllByRecursion IsOctetStep steps →
    AllByRecursion IsSent (life p steps).outs
unfolding life
life_sends_all p steps allowed octets = sent_run (new_controller p) steps octets (λ n from_one. new_fits n p) (new_holds p allowed) (new_uses p) (new_sound p allowed)
