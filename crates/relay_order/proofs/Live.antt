-- SPDX-License-Identifier: MIT OR Apache-2.0
-- Each DT1 that the switch takes is for a connection that it has, and that hasn't ended.
use Rattle.std.proofs.Common.{◌≡◌, ℕ, zero, suc, ◌+◌, ◌-◌, Bool, false, if◌then◌else◌, List, [], ◌∷◌, ◌++◌, Option, Some, None, refl, sym, ap, ◌∙◌, subst, append_assoc, append-nil, arith, ⊎_elim, option_map, is_some, nat_eq}
use Rattle.std.specs.Prelude.{option_to_list, slice_get}
use Rattle.std.specs.List.{AllByRecursion}
use Rattle.std.proofs.lemmas.Bool.{eq-eqb, ne_eqb}
use Rattle.std.proofs.lemmas.List.{map-append}
use Rattle.bssmap_codec.specs.declared.bssap.Bssap.{Bssap}
use Rattle.bssmap_codec.specs.declared.bssap.Bssap.TheVariants.{Management, Transfer}
use Rattle.bssmap_codec.specs.declared.bssmap.Bssmap.{Bssmap}
use Rattle.bssmap_codec.specs.declared.bssmap.Bssmap.TheVariants.{ClearComplete, CompleteLayer3Information}
use Rattle.bssmap_codec.specs.declared.sccp.Sccp.{Sccp}
use Rattle.bssmap_codec.specs.declared.sccp.Sccp.TheVariants.{DataForm1}
use Rattle.conn_messages.specs.declared.parameters.TheConstants.{SWITCH_LINK}
use Rattle.ipa_framing.specs.declared.frame.Frame.{Frame}
use Rattle.msc_end.specs.declared.connection.Connection.{Connection}
use Rattle.msc_end.specs.declared.connection.Stage.{Stage}
use Rattle.msc_end.specs.declared.connection.Stage.TheVariants.{Open, Clearing, Ended}
use Rattle.msc_end.specs.declared.parameters.TheConstants.{REFERENCE_BASE}
use Rattle.msc_end.specs.Switch.{after, connection_in, connection_of, message_in}
use Rattle.msc_end.specs.SwitchState.{SwitchState}
use Rattle.relay_order.specs.Switch.{FindConnections, FindsConnection, IsLive, IsThere, taking}
use Rattle.relay_order.proofs.Reading.{messages_of, seen_alike, taking_again}
use Rattle.relay_order.proofs.Taking.{after_both, frames_of, octets_first, one_taken}
use Rattle.settings.specs.Parameters.{AreAllowed, Parameters}
use Rattle.world.proofs.SwitchHistory.{AreAlike, follows_all, no_station_takes, unclear_stage}
use Rattle.world_laws.specs.Order.OctetEvents.{AreOctetEvents}
use Rattle.world_laws.specs.References.Agree.{Agrees, AsksOnce, IsAddressedTo, IsFirstAt, IsRight, NamesAgree, is_over, reads, reads_of}
use Rattle.world_laws.specs.References.Agree.Agrees.{is_asking, is_known, is_unasked, is_unheard}
use Rattle.world_laws.specs.References.Reads.{IsNothing, Read, data_read, sccp_read}
use Rattle.world_laws.specs.References.Reads.Read.{asks, carries, clears, nothing, odd, tells}
use Rattle.world_laws.specs.Runs.{world}
use Rattle.world_laws.proofs.Order.Fairly.{ArriveInOctets-new}
use Rattle.world_laws.proofs.References.Always.{names_always_agree_new}
use Rattle.world_model.specs.declared.event.Event.{Event}
use Rattle.world_model.specs.declared.event.Event.TheVariants.{BaseTakes, SwitchTakes}
use Rattle.world_model.specs.declared.line.OutboxEntry.{OutboxEntry}
use Rattle.world_model.specs.Life.{actors_after, event_after}
use Rattle.world_model.specs.Queues.{all_taken, first_of, taken}
use Rattle.world_model.specs.Stations.{took_first}
use Rattle.world_model.specs.SwitchSide.{sccp_in}
use Rattle.world_model.specs.World.{Actors, is_up, new_actors, outbox_of}

-- ---- what the switch reads in a DT1

abbrev IsData : ℕ → Read → Type 0
IsData d odd = Unit {0}
IsData d (carries destination message) = destination ≡ d
IsData d (clears destination) = destination ≡ d
IsData d (tells destination) = destination ≡ d
IsData d (asks source initial) = ⊥
IsData d nothing = ⊥

management_data : (d : ℕ) (message : Bssmap) → IsData d (data_read d (Some (Management message)))
management_data d ClearComplete = refl
management_data d (CompleteLayer3Information cell initial) = tt
management_data d _ = refl

data_is : (d : ℕ) (o : Option Bssap) → IsData d (data_read d o)
data_is d None = tt
data_is d (Some (Transfer dlci message)) = refl
data_is d (Some (Management message)) = management_data d message

nothing_data : (d : ℕ) (r : Read) → IsNothing r → IsData d r → ⊥
nothing_data d nothing is has = has
nothing_data d odd is has = is
nothing_data d (carries destination message) is has = is
nothing_data d (clears destination) is has = is
nothing_data d (tells destination) is has = is
nothing_data d (asks source initial) is has = is

asks_data : (d number : ℕ) (r : Read) (rest : List Read) → AsksOnce number (r ∷ rest) → IsData d r → ⊥
asks_data d number nothing rest once has = has
asks_data d number (asks source initial) rest once has = has
asks_data d number odd rest once has = once
asks_data d number (carries destination message) rest once has = once
asks_data d number (clears destination) rest once has = once
asks_data d number (tells destination) rest once has = once

addressed_data : (d reference : ℕ) (over : Bool) (r : Read) → IsAddressedTo reference over r → IsData d r → (over ≡ false) × (d ≡ reference)
addressed_data d reference over nothing addressed has = absurd has
addressed_data d reference over (asks source initial) addressed has = absurd has
addressed_data d reference over odd addressed has = absurd addressed
addressed_data d reference over (carries destination message) addressed has = (addressed.0, sym has ∙ addressed.1)
addressed_data d reference over (clears destination) addressed has = (addressed.0, sym has ∙ addressed.1)
addressed_data d reference over (tells destination) addressed has = (addressed.0, sym has ∙ addressed.1)

-- ---- the connection is there

first_there : (number place : ℕ) (c : Connection) (cs : List Connection) → IsFirstAt number place c cs → slice_get cs place ≡ Some c
first_there number place c [] is = absurd is
first_there number zero c (x ∷ xs) is = ap (λ (x : Connection). Some x) is.0
first_there number (suc place) c (x ∷ xs) is = first_there number place c xs is.1

connection_at : (cs : List Connection) (place d : ℕ) (c : Connection) →
    slice_get cs place ≡ Some c →
    d ≡ REFERENCE_BASE + (place + 1) →
    connection_of cs (d - REFERENCE_BASE) ≡ Some c
connection_at cs place d c is at =
    let number : d - REFERENCE_BASE ≡ place + 1 = omega (arith, at) in
    let less : place + 1 - 1 ≡ place = omega arith in
    ap (connection_of cs) number
    ∙ ap (λ (b : Bool). if b then None else slice_get cs (place + 1 - 1)) (ne_eqb (place + 1) 0 (λ e. absurd (omega (arith, e))))
    ∙ ap (slice_get cs) less ∙ is

over_alike : (stage : Stage) → is_over (unclear_stage stage) ≡ is_over stage
over_alike Open = refl
over_alike Clearing = refl
over_alike Ended = refl

live_by : (stage : Stage) → is_over stage ≡ false → IsLive stage
live_by Open is = tt
live_by Clearing is = tt
live_by Ended is = absurd (cc is)

there_by : (o : Option Connection) → option_map (λ (c : Connection). is_over c.stage) o ≡ Some false → IsThere o
there_by None is = absurd (cc is)
there_by (Some c) is = live_by c.stage (cc is)

there_alike : (switch given : SwitchState) (d place : ℕ) (c : Connection) → AreAlike switch given → slice_get switch.connections place ≡ Some c → is_over c.stage ≡ false → d ≡ REFERENCE_BASE + (place + 1)
    → IsThere (connection_in given (d - REFERENCE_BASE))
there_alike switch given d place c alike is live at =
    there_by (connection_of given.connections (d - REFERENCE_BASE))
    (sym (seen_alike (λ (c : Connection). is_over c.stage) (λ c. over_alike c.stage) switch given alike (d - REFERENCE_BASE))
    ∙ ap (option_map (λ (c : Connection). is_over c.stage)) (connection_at switch.connections place d c is at)
    ∙ ap (λ (b : Bool). Some b) live)

-- ---- the first entry of the outbox

own_first : (e : OutboxEntry) (others : List OutboxEntry) → reads_of e.out.conn (e ∷ others) ≡ reads e.out ∷ reads_of e.out.conn others
own_first e others = rw (eq-eqb e.out.conn e.out.conn refl) refl

agreed : (w : Actors) (given : SwitchState) (e : OutboxEntry) (others : List OutboxEntry) (d : ℕ) → outbox_of w SWITCH_LINK ≡ e ∷ others → AreAlike w.switch given
    → Agrees w e.out.conn → IsData d (reads e.out) → IsThere (connection_in given (d - REFERENCE_BASE))
agreed w given e others d is alike agrees has = by agrees
  where
    own : reads_of e.out.conn (outbox_of w SWITCH_LINK) ≡ reads e.out ∷ reads_of e.out.conn others
    own = ap (reads_of e.out.conn) is ∙ own_first e others

    by : Agrees w e.out.conn → IsThere (connection_in given (d - REFERENCE_BASE))
    by (is_unasked unasked unknown) = absurd (nothing_data d (reads e.out) (subst (AllByRecursion IsNothing) own unknown.quiet).0 has)
    by (is_unheard asked unknown) = absurd (nothing_data d (reads e.out) (subst (AllByRecursion IsNothing) own unknown.quiet).0 has)
    by (is_asking asked way) = absurd (asks_data d e.out.conn (reads e.out) (reads_of e.out.conn others) (subst (AsksOnce e.out.conn) own way.once) has)
    by (is_known past known) =
        let runs = subst (λ (rs : List Read). Rattle.world_laws.specs.References.Agree.Runs (REFERENCE_BASE + (known.place + 1)) (is_over known.of.stage) rs known.last) own known.runs in
        let to = addressed_data d (REFERENCE_BASE + (known.place + 1)) (is_over known.of.stage) (reads e.out) runs.0 has in
        there_alike w.switch given d known.place known.of alike (first_there e.out.conn known.place known.of w.switch.connections known.first_at) to.0 to.1

-- a message that the first entry is read as, where it is one
abbrev Finds : SwitchState → Option Sccp → Type 0
Finds switch None = Unit {0}
Finds switch (Some message) = FindsConnection switch message

finds_by : (w : Actors) (given : SwitchState) (e : OutboxEntry) (others : List OutboxEntry) → outbox_of w SWITCH_LINK ≡ e ∷ others → AreAlike w.switch given → NamesAgree w
    → (o : Option Sccp) → sccp_in e.out.frame ≡ o → Finds given o
finds_by w given e others is alike agree None read = tt
finds_by w given e others is alike agree (Some (DataForm1 d user)) read = by_number e.out.conn refl
  where
    has : IsData d (reads e.out)
    has = subst (λ (o : Option Sccp). IsData d (sccp_read o)) (sym read) (data_is d (message_in user))

    right : IsRight e.out
    right = (subst (AllByRecursion (λ (entry : OutboxEntry). IsRight entry.out)) is agree.right).0

    by_number : (n : ℕ) → e.out.conn ≡ n → IsThere (connection_in given (d - REFERENCE_BASE))
    by_number zero none = absurd (subst (IsData d) (right.beside none) has)
    by_number (suc n) some = agreed w given e others d is alike (agree.each e.out.conn (omega (arith, some))) has
finds_by w given e others is alike agree (Some _) read = tt

-- ---- all that it takes

finds_both : (switch : SwitchState) (xs ys : List Sccp) →
    FindConnections switch xs →
    FindConnections (taking switch xs) ys →
    FindConnections switch (xs ++ ys)
finds_both switch [] ys front back = back
finds_both switch (x ∷ xs) ys front back = (front.0, finds_both (after switch x) xs ys front.1 back)

pub finds_first : (switch : SwitchState) (xs ys : List Sccp) → FindConnections switch (xs ++ ys) → FindConnections switch xs
finds_first switch [] ys all = tt
finds_first switch (x ∷ xs) ys all = (all.0, finds_first (after switch x) xs ys all.1)

pub messages_both : (xs ys : List Frame) → messages_of (xs ++ ys) ≡ messages_of xs ++ messages_of ys
messages_both [] ys = refl
messages_both (x ∷ xs) ys =
    ap (λ (ms : List Sccp). option_to_list (sccp_in x) ++ ms) (messages_both xs ys)
    ∙ sym (append_assoc (option_to_list (sccp_in x)) (messages_of xs) (messages_of ys))

finds_one : (switch : SwitchState) (o : Option Sccp) → Finds switch o → FindConnections switch (option_to_list o ++ [])
finds_one switch None finds = tt
finds_one switch (Some message) finds = (finds, tt)

-- where an event takes an entry, the link is up, and the entry is the first
pub record IsFirst (w : Actors) (e : OutboxEntry) : Type 0 where
  pub others : List OutboxEntry
  pub is : outbox_of w SWITCH_LINK ≡ e ∷ others

first_by : (w : Actors) (o : Option Actors) (entries : List OutboxEntry) (e : OutboxEntry) →
    (if is_some o then first_of entries else []) ≡ e ∷ [] →
    (others : List OutboxEntry) × (entries ≡ e ∷ others)
first_by w None entries e is = absurd (cc is)
first_by w (Some v) [] e is = absurd (cc is)
first_by w (Some v) (x ∷ xs) e is = (xs, ap (λ (y : OutboxEntry). y ∷ xs) (cc is))

pub first_is : (w : Actors) (event : Event) (e : OutboxEntry) → taken SWITCH_LINK w event ≡ e ∷ [] → IsFirst w e
unfolding event_after
first_is w SwitchTakes e is =
    let found = first_by w (event_after w SwitchTakes) (outbox_of w SWITCH_LINK) e is in record { others = found.0; is = found.1 }
first_is w (BaseTakes station) e is =
    absurd (cc (sym (no_station_takes (nat_eq station SWITCH_LINK) (is_up w station) (took_first station (outbox_of w station) w) (first_of (outbox_of w SWITCH_LINK))) ∙ is))
first_is w _ e is = absurd (cc is)

after_one : (w : Actors) (event : Event) (given : SwitchState) → AreAlike w.switch given
    → AreAlike (actors_after w event).switch (taking given (messages_of (frames_of (taken SWITCH_LINK w event))))
after_one w event given alike =
    subst (λ (entries : List OutboxEntry). AreAlike (actors_after w event).switch (taking given (messages_of (frames_of entries)))) (append-nil (taken SWITCH_LINK w event))
    (subst (AreAlike (actors_after w event).switch) (taking_again given (taken SWITCH_LINK w event ++ [])) (follows_all w (event ∷ []) given alike))

finds_here : (w : Actors) (event : Event) (given : SwitchState) →
    AreAlike w.switch given →
    NamesAgree w →
    FindConnections given (messages_of (frames_of (taken SWITCH_LINK w event)))
finds_here w event given alike agree = ⊎_elim none one (one_taken w event)
  where
    none : taken SWITCH_LINK w event ≡ [] → FindConnections given (messages_of (frames_of (taken SWITCH_LINK w event)))
    none is = subst (λ (entries : List OutboxEntry). FindConnections given (messages_of (frames_of entries))) (sym is) tt

    one : ((e : OutboxEntry) × (taken SWITCH_LINK w event ≡ e ∷ [])) →
        FindConnections given (messages_of (frames_of (taken SWITCH_LINK w event)))
    one (e, is) =
        let first : IsFirst w e = first_is w event e is in
        subst (λ (entries : List OutboxEntry). FindConnections given (messages_of (frames_of entries))) (sym is)
        (finds_one given (sccp_in e.out.frame) (finds_by w given e first.others first.is alike agree (sccp_in e.out.frame) refl))

finds_from : (settings : Parameters) (before events : List Event) → AreAllowed settings → AreOctetEvents (before ++ events) → (given : SwitchState) → AreAlike (world settings before).switch given
    → FindConnections given (messages_of (frames_of (all_taken SWITCH_LINK (world settings before) events)))
finds_from settings before [] allowed octets given alike = tt
finds_from settings before (event ∷ events) allowed octets given alike =
    let w : Actors = world settings before in
    let v : Actors = actors_after w event in
    let here : List OutboxEntry = taken SWITCH_LINK w event in
    let behind : List OutboxEntry = all_taken SWITCH_LINK v events in
    let next : world settings (before ++ event ∷ []) ≡ v = after_both (new_actors settings) before (event ∷ []) in
    let again : AreOctetEvents ((before ++ event ∷ []) ++ events) = subst AreOctetEvents (sym (append_assoc before (event ∷ []) events)) octets in
    let agree : NamesAgree w = names_always_agree_new settings before allowed (ArriveInOctets-new settings before allowed (octets_first before (event ∷ events) octets)) in
    let later : FindConnections (taking given (messages_of (frames_of here))) (messages_of (frames_of behind)) =
    subst (λ (u : Actors). FindConnections (taking given (messages_of (frames_of here))) (messages_of (frames_of (all_taken SWITCH_LINK u events)))) next
    (finds_from settings (before ++ event ∷ []) events allowed again (taking given (messages_of (frames_of here)))
    (subst (λ (u : Actors). AreAlike u.switch (taking given (messages_of (frames_of here)))) (sym next) (after_one w event given alike))) in
    subst (FindConnections given)
    (sym (messages_both (frames_of here) (frames_of behind)) ∙ ap messages_of (sym (map-append (λ (entry : OutboxEntry). entry.out.frame) here behind)))
    (finds_both given (messages_of (frames_of here)) (messages_of (frames_of behind)) (finds_here w event given alike agree) later)

pub finds_all : (settings : Parameters) (events : List Event) → AreAllowed settings → AreOctetEvents events
    → FindConnections (new_actors settings).switch (messages_of (frames_of (all_taken SWITCH_LINK (new_actors settings) events)))
finds_all settings events allowed octets =
    finds_from settings [] events allowed octets (new_actors settings).switch (record { modulus = refl; connections = refl })
