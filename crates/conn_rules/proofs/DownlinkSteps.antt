-- SPDX-License-Identifier: MIT OR Apache-2.0
-- The effect of steps on the messages of the switch.
use Rattle.conn_rules.proofs.Prelude.{◌≡◌, ℕ, Bool, true, false, not, ◌&&◌, List, [], ◌∷◌, ◌++◌, map, filter, refl, sym, ◌∙◌, ap, subst}
use Rattle.conn_rules.proofs.Prelude.{Option, Some, None, append-nil, eqb, AllByRecursion, ABNORMAL_RELEASE, EQUIPMENT_FAILURE, Change}
use Rattle.conn_rules.proofs.Prelude.{Assignment, Handover, Channel, Message, handing, cond_both, Sapi, Zero, Three, chain_count, HoldState}
use Rattle.conn_rules.proofs.Prelude.{count, messages, with_messages, Input, ShortMessageLink, Down, Asked, Up, Stage, Preparing, Changing}
use Rattle.conn_rules.proofs.Prelude.{State, Live, Closed, Target, Connection, IsAskedFor, IsValid, IsOpen, is_dtap, handed, IsHandedTo}
use Rattle.conn_rules.proofs.Prelude.{received_by, rejects, KeepsDownlink, IsChanging, IsSilent, OnlyReleases}
use Rattle.conn_rules.specs.declared.input.Input.TheVariants as inputs
use Rattle.conn_rules.specs.Steps.{Row, row, ◌then◌, end_outs, failing, dropping, without_station, is_for_station, may_begin, begin_outs, after_begin, begin, waiting_outs, after_waiting, begin_waiting, hold_down, hand_held, request_where, hold_short_message, short_message, request_for, ask_for_held, link_up, link_down, hold_up}
use Rattle.conn_rules.proofs.ValidSteps.{IsStill}
use Rattle.conn_rules.proofs.DownlinkMessages.{AllByRecursion-append, AllByRecursion-filter, AllByRecursion-so, IsQuiet, AreQuiet, IsParting, AreParting, handed-quiet, quiet_is_handed, rejects-quiet, rejects-append, without_rejected-none, of_sapi, handed-handing, handed-append, handing_is_handed, rejects-handing}

-- an input without a message of the switch
abbrev pub BringsNothing : Input → Type 0
BringsNothing (inputs.Downlink sapi message) = ⊥
BringsNothing _ = Unit {0}

received_by-nothing : (sapi : Sapi) (input : Input) → BringsNothing input → received_by sapi input ≡ []
received_by-nothing Zero (inputs.Downlink sapi message) nothing = absurd nothing
received_by-nothing Three (inputs.Downlink sapi message) nothing = absurd nothing
received_by-nothing _ _ nothing = refl

-- What a row does to the messages of the switch: it ends the connection, lets them be, or moves
-- them.
pub data Does (state : State) (s : Connection) (input : Input) (r : Row) : Type 0 where
  ends : (IsOpen r.next.state → ⊥) → AreParting r.outs → OnlyReleases state r.outs → Does state s input r
  passes : IsOpen state → IsOpen r.next.state → AreQuiet r.outs → r.next.down ≡ s.down → BringsNothing input → Does state s input r
  moves : IsOpen state →
      IsOpen r.next.state →
      (IsValid s → (sapi : Sapi) → KeepsDownlink sapi s input r) →
      IsSilent r →
      Does state s input r

-- ---- ends

pub only_releases_open : (state : State) (outs : List Message) → IsOpen state → OnlyReleases state outs
only_releases_open (Closed clearing) outs is_open = absurd is_open
only_releases_open _ outs is_open = tt

pub are_parting_end : (state : State) (serving : Channel) (cause : ℕ) → AreParting (end_outs state serving cause)
are_parting_end (Live reference (Preparing target)) serving cause = (refl, (tt, (tt, tt)))
are_parting_end (Live reference (Changing target)) serving cause = (refl, (tt, (tt, tt)))
are_parting_end _ serving cause = (refl, (tt, tt))

pub does_ending : (state : State) (s : Connection) (input : Input) (cause : ℕ) (more : List Message) (next : Connection) →
    IsOpen state →
    (IsOpen next.state → ⊥) →
    AreParting more →
    Does state s input (row (end_outs state s.serving cause ++ more) next)
does_ending state s input cause more next is_open shut parting =
    ends shut (AllByRecursion-append IsParting (end_outs state s.serving cause) more (are_parting_end state s.serving cause) parting) (only_releases_open state _ is_open)

are_parting_failing : (state : State) (s : Connection) (cause : ℕ) → AreParting (failing state s cause).outs
are_parting_failing (Live reference stage) s cause = (tt, are_parting_end (Live reference stage) s.serving ABNORMAL_RELEASE)
are_parting_failing state s cause = are_parting_end state s.serving ABNORMAL_RELEASE

pub failing_shut : (state : State) (s : Connection) (cause : ℕ) → IsOpen (failing state s cause).next.state → ⊥
failing_shut (Live reference stage) s cause = absurd
failing_shut _ s cause = absurd

pub does_failing : (state : State) (s : Connection) (input : Input) (cause : ℕ) → IsOpen state → Does state s input (failing state s cause)
does_failing state s input cause is_open = ends (failing_shut state s cause) (are_parting_failing state s cause) (only_releases_open state _ is_open)

pub does_dropping : (state : State) (s : Connection) (input : Input) → IsOpen state → Does state s input (dropping s)
does_dropping state s input is_open = ends absurd (tt, tt) (only_releases_open state _ is_open)

-- a station that is down gets less
pub does_without : (state : State) (s : Connection) (input : Input) (station : ℕ) (r : Row) →
    IsOpen state →
    (IsOpen r.next.state → ⊥) →
    AreParting r.outs →
    Does state s input (without_station station r)
does_without state s input station r is_open shut parting =
    ends shut (AllByRecursion-filter IsParting (λ message. not (is_for_station station message)) r.outs parting) (only_releases_open state _ is_open)

pub does_broken : (state : State) (s : Connection) (input : Input) (station cause : ℕ) →
    IsOpen state →
    Does state s input (without_station station (failing state s cause))
does_broken state s input station cause is_open =
    does_without state s input station (failing state s cause) is_open (failing_shut state s cause) (are_parting_failing state s cause)

-- ---- changes begin

are_quiet_begin : (reference : ℕ) (change : Change) (offer : Option Channel) → AreQuiet (begin_outs reference change offer)
are_quiet_begin reference Assignment (Some channel) = (tt, tt)
are_quiet_begin reference Handover (Some channel) = (tt, tt)
are_quiet_begin reference Assignment None = (tt, tt)
are_quiet_begin reference Handover None = tt

are_quiet_waiting : (waits : Bool) (reference : ℕ) (offer : Option Channel) → AreQuiet (waiting_outs waits reference offer)
are_quiet_waiting true reference offer = are_quiet_begin reference Assignment offer
are_quiet_waiting false reference offer = tt

-- what a change that begins leaves
record Begins (s next : Connection) : Type 0 where
  pub down : next.down ≡ s.down
  pub serving : next.serving ≡ s.serving
  pub remains_open : IsOpen s.state → IsOpen next.state
  pub prepares : IsChanging next.state → IsChanging s.state

begins_begin : (reference : ℕ) (change : Change) (offer : Option Channel) (s : Connection) → Begins s (after_begin reference change offer s)
begins_begin reference change (Some channel) s = record { down = refl; serving = refl; remains_open = λ _. tt; prepares = absurd }
begins_begin reference change None s = record
    { down = refl; serving = refl; remains_open = λ is_open. is_open; prepares = λ changes. changes }

begins_waiting : (waits : Bool) (reference : ℕ) (offer : Option Channel) (s : Connection) → Begins s (after_waiting waits reference offer s)
begins_waiting true reference offer s =
    let begins = begins_begin reference Assignment offer (record s { waits = false }) in
    record { down = begins.down; serving = begins.serving; remains_open = begins.remains_open; prepares = begins.prepares }
begins_waiting false reference offer s = record
    { down = refl; serving = refl; remains_open = λ is_open. is_open; prepares = λ changes. changes }

pub does_begin : (state : State) (s : Connection) (input : Input) (reference : ℕ) (change : Change) (offer : Option Channel) →
    IsOpen state →
    IsOpen s.state →
    BringsNothing input →
    Does state s input (begin reference change offer s)
does_begin state s input reference change offer is_open opened nothing =
    let begins = begins_begin reference change offer s in
    passes is_open (begins.remains_open opened) (are_quiet_begin reference change offer) begins.down nothing

-- a request that waits begins behind quiet messages
pub does_waiting : (state : State) (s : Connection) (input : Input) (stage : Stage) (reference : ℕ) (offer : Option Channel) (outs : List Message) (t : Connection) →
    IsOpen state →
    IsOpen t.state →
    AreQuiet outs →
    t.down ≡ s.down →
    BringsNothing input →
    Does state s input (row outs t then begin_waiting stage reference offer)
does_waiting state s input stage reference offer outs t is_open opened quiet same nothing =
    let begins = begins_waiting (t.waits && may_begin stage t.draining) reference offer t in
    passes is_open (begins.remains_open opened)
    (AllByRecursion-append IsQuiet outs _ quiet (are_quiet_waiting (t.waits && may_begin stage t.draining) reference offer)) (begins.down ∙ same) nothing

-- ---- what rows keep of the downlink

-- where nothing was received and nothing is rejected
keeps_downlink_still : (sapi : Sapi) (s : Connection) (input : Input) (r : Row) →
    rejects r.outs ≡ false →
    BringsNothing input →
    AllByRecursion (IsHandedTo r.next.serving) r.outs →
    handed sapi r.outs ++ filter is_dtap (messages r.next.down sapi) ≡ filter is_dtap (messages s.down sapi) →
    KeepsDownlink sapi s input r
keeps_downlink_still sapi s input r none nothing to_serving same = record {
  serving = to_serving;
  stream = λ _. same ∙ sym (
      without_rejected-none sapi r.outs (filter is_dtap (messages s.down sapi ++ received_by sapi input)) none
      ∙ ap (λ (xs : List (List ℕ)). filter is_dtap (messages s.down sapi ++ xs)) (received_by-nothing sapi input nothing)
      ∙ ap (filter is_dtap) (append-nil (messages s.down sapi)));
}

pub keeps_downlink_quiet : (sapi : Sapi) (s : Connection) (input : Input) (r : Row) →
    AreQuiet r.outs →
    r.next.down ≡ s.down →
    BringsNothing input →
    KeepsDownlink sapi s input r
keeps_downlink_quiet sapi s input r quiet same nothing =
    keeps_downlink_still sapi s input r (rejects-quiet r.outs quiet) nothing
    (AllByRecursion-so IsQuiet (IsHandedTo r.next.serving) (quiet_is_handed r.next.serving) r.outs quiet)
    (rw (handed-quiet sapi r.outs quiet, same) refl)

-- a message is held
messages-held : (of sapi : Sapi) (message : List ℕ) (down : HoldState) →
    filter is_dtap (messages (with_messages down sapi (messages down sapi ++ message ∷ [])) of) ≡ filter is_dtap (messages down of ++ received_by of (inputs.Downlink sapi message))
messages-held Zero Zero message down = refl
messages-held Three Three message down = refl
messages-held Zero Three message down = sym (ap (filter is_dtap) (append-nil down.zero))
messages-held Three Zero message down = sym (ap (filter is_dtap) (append-nil down.three))

pub keeps_downlink_held : (of sapi : Sapi) (message : List ℕ) (s : Connection) (r : Row) →
    AreQuiet r.outs →
    r.next.down ≡ with_messages s.down sapi (messages s.down sapi ++ message ∷ []) →
    KeepsDownlink of s (inputs.Downlink sapi message) r
keeps_downlink_held of sapi message s r quiet held = record {
  serving = AllByRecursion-so IsQuiet (IsHandedTo r.next.serving) (quiet_is_handed r.next.serving) r.outs quiet;
  stream = λ _. rw (handed-quiet of r.outs quiet, held)
      (messages-held of sapi message s.down
      ∙ sym (without_rejected-none of r.outs (filter is_dtap (messages s.down of ++ received_by of (inputs.Downlink sapi message))) (rejects-quiet r.outs quiet)));
}

-- a message is handed, where none is held
handed_at_once : (of sapi : Sapi) (message : List ℕ) (down : HoldState) →
    messages down sapi ≡ [] →
    filter is_dtap (of_sapi of sapi (message ∷ [])) ++ filter is_dtap (messages down of) ≡ filter is_dtap (messages down of ++ received_by of (inputs.Downlink sapi message))
handed_at_once Zero Zero message down none = rw none (append-nil (filter is_dtap (message ∷ [])))
handed_at_once Three Three message down none = rw none (append-nil (filter is_dtap (message ∷ [])))
handed_at_once Zero Three message down none = sym (ap (filter is_dtap) (append-nil down.zero))
handed_at_once Three Zero message down none = sym (ap (filter is_dtap) (append-nil down.three))

pub keeps_downlink_handed : (of sapi : Sapi) (message : List ℕ) (s : Connection) →
    messages s.down sapi ≡ [] →
    KeepsDownlink of s (inputs.Downlink sapi message) (row (handing s.serving sapi message ∷ []) s)
keeps_downlink_handed of sapi message s none = record {
  serving = (λ dtap. (refl, refl), tt);
  stream = λ _. ap (λ (xs : List (List ℕ)). xs ++ filter is_dtap (messages s.down of)) (handed-handing s.serving of sapi (message ∷ []))
      ∙ handed_at_once of sapi message s.down none
      ∙ sym (without_rejected-none of (handing s.serving sapi message ∷ []) (filter is_dtap (messages s.down of ++ received_by of (inputs.Downlink sapi message))) refl);
}

-- what is held of a SAPI is handed
handed-held : (of sapi : Sapi) (serving : Channel) (down : HoldState) →
    handed of (map (handing serving sapi) (messages down sapi)) ++ filter is_dtap (messages (with_messages down sapi []) of) ≡ filter is_dtap (messages down of)
handed-held Zero Zero serving down = rw (handed-handing serving Zero Zero down.zero) (append-nil (filter is_dtap down.zero))
handed-held Three Three serving down = rw (handed-handing serving Three Three down.three) (append-nil (filter is_dtap down.three))
handed-held Zero Three serving down = rw (handed-handing serving Zero Three down.three) refl
handed-held Three Zero serving down = rw (handed-handing serving Three Zero down.zero) refl

-- ---- holds and links

-- a stage in which no channel changes
not_changing : (stage : Stage) (reference : ℕ) (s : Connection) → IsStill stage → s.state ≡ Live reference stage → IsChanging s.state → ⊥
not_changing (Changing target) reference s still is changes = still
not_changing _ reference s still is changes = subst IsChanging is changes

handed_none : (outs : List Message) → AreQuiet outs → (handed Zero outs ≡ []) × (handed Three outs ≡ [])
handed_none outs quiet = (handed-quiet Zero outs quiet, handed-quiet Three outs quiet)

opened : (reference : ℕ) (stage : Stage) (s : Connection) → s.state ≡ Live reference stage → IsOpen s.state
opened reference stage s is = subst IsOpen (sym is) tt

-- a message is handed
pub does_handing : (reference : ℕ) (stage : Stage) (s : Connection) (sapi : Sapi) (message : List ℕ) →
    IsStill stage →
    s.state ≡ Live reference stage →
    (IsValid s → messages s.down sapi ≡ []) →
    Does (Live reference stage) s (inputs.Downlink sapi message) (row (handing s.serving sapi message ∷ []) s)
does_handing reference stage s sapi message still is none =
    moves tt (opened reference stage s is) (λ valid of. keeps_downlink_handed of sapi message s (none valid)) (λ changes. absurd (not_changing stage reference s still is changes))

-- a message is held while a channel changes
pub does_hold_down : (reference : ℕ) (target : Target) (s : Connection) (sapi : Sapi) (message : List ℕ) →
    s.state ≡ Live reference (Changing target) →
    Does (Live reference (Changing target)) s (inputs.Downlink sapi message) (hold_down (Live reference (Changing target)) sapi message s)
does_hold_down reference target s sapi message is =
    cond_both (eqb (count s.down) s.down.limit) _ _ (Does (Live reference (Changing target)) s (inputs.Downlink sapi message))
    (λ full. does_failing (Live reference (Changing target)) s (inputs.Downlink sapi message) EQUIPMENT_FAILURE tt)
    (λ room. moves tt (opened reference (Changing target) s is) (λ valid of. keeps_downlink_held of sapi message s _ tt refl) (λ _. (refl, refl)))

-- a message of SAPI 3 is held for its link
are_quiet_request : (link : ShortMessageLink) (serving : Channel) → AreQuiet (request_where link serving)
are_quiet_request Down serving = (tt, tt)
are_quiet_request _ serving = tt

does_hold_short : (reference : ℕ) (stage : Stage) (s : Connection) (message : List ℕ) →
    s.state ≡ Live reference stage →
    Does (Live reference stage) s (inputs.Downlink Three message) (hold_short_message (Live reference stage) message s)
does_hold_short reference stage s message is =
    cond_both (eqb (count s.down) s.down.limit) _ _ (Does (Live reference stage) s (inputs.Downlink Three message))
    (λ full. does_failing (Live reference stage) s (inputs.Downlink Three message) EQUIPMENT_FAILURE tt)
    (λ room. moves tt (opened reference stage s is) (λ valid of. keeps_downlink_held of Three message s _ (are_quiet_request s.link s.serving) refl)
    (λ _. handed_none (request_where s.link s.serving) (are_quiet_request s.link s.serving)))

pub does_short_message : (reference : ℕ) (stage : Stage) (link : ShortMessageLink) (s : Connection) (message : List ℕ) →
    IsStill stage →
    s.state ≡ Live reference stage →
    (IsValid s → IsAskedFor link s.down.three) →
    Does (Live reference stage) s (inputs.Downlink Three message) (short_message (Live reference stage) link message s)
does_short_message reference stage Up s message still is none = does_handing reference stage s Three message still is none
does_short_message reference stage _ s message still is none = does_hold_short reference stage s message is

-- the link of SAPI 3 is up
pub does_link_up : (reference : ℕ) (stage : Stage) (s : Connection) (input : Input) →
    IsStill stage →
    s.state ≡ Live reference stage →
    BringsNothing input →
    Does (Live reference stage) s input (link_up s)
does_link_up reference stage s input still is nothing =
    moves tt (opened reference stage s is)
    (λ valid of. keeps_downlink_still of s input (link_up s) (rejects-handing s.serving Three s.down.three) nothing (handing_is_handed s.serving Three s.down.three) (handed-held of Three s.serving s.down))
    (λ changes. absurd (not_changing stage reference s still is changes))

-- the link of SAPI 3 is down: what is held for it is rejected
keeps_downlink_rejected : (of : Sapi) (reference : ℕ) (s : Connection) (input : Input) →
    BringsNothing input →
    KeepsDownlink of s input (link_down Asked reference s)
keeps_downlink_rejected Zero reference s input nothing = record {
  serving = (tt, tt);
  stream = λ _. rw (received_by-nothing Zero input nothing) (sym (ap (filter is_dtap) (append-nil s.down.zero)));
}
keeps_downlink_rejected Three reference s input nothing = record { serving = (tt, tt); stream = λ _. refl }

pub does_link_down : (reference : ℕ) (stage : Stage) (link : ShortMessageLink) (s : Connection) (input : Input) →
    IsStill stage →
    s.state ≡ Live reference stage →
    BringsNothing input →
    Does (Live reference stage) s input (link_down link reference s)
does_link_down reference stage Asked s input still is nothing =
    moves tt (opened reference stage s is) (λ valid of. keeps_downlink_rejected of reference s input nothing) (λ changes. absurd (not_changing stage reference s still is changes))
does_link_down reference stage _ s input still is nothing = passes tt (opened reference stage s is) tt refl nothing

-- a message of the mobile is held
pub does_hold_up : (state : State) (s : Connection) (input : Input) (tenure : ℕ) (sapi : Sapi) (message : List ℕ) →
    IsOpen state →
    s.state ≡ state →
    BringsNothing input →
    Does state s input (hold_up state tenure sapi message s)
does_hold_up state s input tenure sapi message is_open is nothing =
    cond_both (eqb (chain_count s.up) s.up.limit) _ _ (Does state s input)
    (λ full. does_failing state s input EQUIPMENT_FAILURE is_open)
    (λ room. passes is_open (subst IsOpen (sym is) is_open) tt refl nothing)

-- ---- the end of a change: what is held of SAPI 0 is handed, that of SAPI 3 waits for its link

are_quiet_request_for : (three : List (List ℕ)) (serving : Channel) → AreQuiet (request_for three serving)
are_quiet_request_for [] serving = tt
are_quiet_request_for (first ∷ rest) serving = (tt, tt)

pub does_changed : (state : State) (s : Connection) (input : Input) (outs : List Message) (t : Connection) (stage : Stage) (reference : ℕ) (offer : Option Channel) → IsOpen state → AreQuiet outs → t.down ≡ s.down → BringsNothing input → IsOpen t.state → (IsChanging t.state → ⊥) →
    Does state s input (row outs t then hand_held Zero then ask_for_held then begin_waiting stage reference offer)
does_changed state s input outs t stage reference offer is_open quiet same nothing opened still =
    moves is_open (begins.remains_open opened) (λ valid. keeps) (λ changes. absurd (still (begins.prepares changes)))
  where
    handing_outs : List Message
    handing_outs = map (handing t.serving Zero) t.down.zero

    after : Connection
    after = (ask_for_held (hand_held Zero t).next).next

    waits : Bool
    waits = after.waits && may_begin stage after.draining

    behind : List Message
    behind = waiting_outs waits reference offer

    asking : List Message
    asking = request_for t.down.three t.serving

    begins : Begins after (after_waiting waits reference offer after)
    begins = begins_waiting waits reference offer after

    all : List Message
    all = outs ++ handing_outs ++ asking ++ behind

    handed_all : (of : Sapi) → handed of all ≡ handed of handing_outs
    handed_all of =
        handed-append of (outs ++ handing_outs ++ asking) behind
        ∙ rw (handed-quiet of behind (are_quiet_waiting waits reference offer)) (append-nil (handed of (outs ++ handing_outs ++ asking)))
        ∙ handed-append of (outs ++ handing_outs) asking
        ∙ rw (handed-quiet of asking (are_quiet_request_for t.down.three t.serving)) (append-nil (handed of (outs ++ handing_outs)))
        ∙ handed-append of outs handing_outs
        ∙ rw (handed-quiet of outs quiet) refl

    none : rejects all ≡ false
    none = rejects-append (outs ++ handing_outs ++ asking) behind
        (rejects-append (outs ++ handing_outs) asking
        (rejects-append outs handing_outs (rejects-quiet outs quiet) (rejects-handing t.serving Zero t.down.zero))
        (rejects-quiet asking (are_quiet_request_for t.down.three t.serving)))
        (rejects-quiet behind (are_quiet_waiting waits reference offer))

    quiet_are_handed : (outs : List Message) → AreQuiet outs → AllByRecursion (IsHandedTo t.serving) outs
    quiet_are_handed outs quiet = AllByRecursion-so IsQuiet (IsHandedTo t.serving) (quiet_is_handed t.serving) outs quiet

    to_serving : AllByRecursion (IsHandedTo t.serving) all
    to_serving = AllByRecursion-append (IsHandedTo t.serving) (outs ++ handing_outs ++ asking) behind
        (AllByRecursion-append (IsHandedTo t.serving) (outs ++ handing_outs) asking
        (AllByRecursion-append (IsHandedTo t.serving) outs handing_outs (quiet_are_handed outs quiet) (handing_is_handed t.serving Zero t.down.zero))
        (quiet_are_handed asking (are_quiet_request_for t.down.three t.serving)))
        (quiet_are_handed behind (are_quiet_waiting waits reference offer))

    keeps : (of : Sapi) → KeepsDownlink of s input (row all (after_waiting waits reference offer after))
    keeps of = keeps_downlink_still of s input (row all (after_waiting waits reference offer after)) none nothing
        (subst (λ (serving : Channel). AllByRecursion (IsHandedTo serving) all) (sym begins.serving) to_serving)
        (rw (handed_all of, begins.down) (handed-held of Zero t.serving t.down ∙ ap (λ (down : HoldState). filter is_dtap (messages down of)) same))
