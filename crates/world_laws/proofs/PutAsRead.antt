-- SPDX-License-Identifier: MIT OR Apache-2.0
-- What the row for a frame puts is read as it was put, whatever happened.
use Rattle.world_laws.proofs.Prelude.{◌≡◌, ◌≢◌, ℕ, ◌≤◌, ◌<◌, ◌^◌, ◌==◌, ◌&&◌, Bool, true, false, if◌then◌else◌, List, [], ◌∷◌, ◌++◌, map}
use Rattle.world_laws.proofs.Prelude.{Option, Some, None, option_map, unwrap_or, refl, sym, ap, ◌∙◌, subst, arith, AllByRecursion, flat_map}
use Rattle.world_laws.proofs.Prelude.{IsLayer3, Channel, Place, Message, SWITCH_LINK, IsReadOf, outs_of, Input, Drain, Active, Preparing}
use Rattle.world_laws.proofs.Prelude.{Changing, Draining, State, WaitActivation, WaitEstablish, WaitConfirm, Live, Closed, Removed}
use Rattle.world_laws.proofs.Prelude.{Connection, roles_of, target_channels, target_role, IsCarried, IsValid, Row, AreApart, Future, IsOpen}
use Rattle.world_laws.proofs.Prelude.{KeepsUplink, OfRow, from_input, relayed, undone, used_channels, AllByRecursion-append, target_in_role}
use Rattle.world_laws.proofs.Prelude.{kept_in, IsThere, connection_of, word_by, Owns, OwnsOpen, messages_on, passed_by, IsOfOctets, IsSent}
use Rattle.world_laws.proofs.Prelude.{AreUsed, outs_own, forwarded_seen, IsSoundAll, life_sound, offer_list, request_sound, RefersBy}
use Rattle.world_laws.proofs.Prelude.{life_after, run_step, IsHere, Ready, here_of, PutsUsual, usual_row, ChannelState, Free, InUse}
use Rattle.world_laws.proofs.Prelude.{Releasing, Forwarded, Take, Word, request_offer, AreRising, Controller, Entry, Turn, channel_state}
use Rattle.world_laws.proofs.Prelude.{entry_of, freed, ignoring, place_at, place_of, state_in, turn, by_fitting, concerning, entry_at}
use Rattle.world_laws.proofs.Prelude.{frees, on_freed, on_what, on_word, row_in, step, keeps_number, Sapi, Zero, Three, Held, Frame}
use Rattle.world_laws.proofs.Prelude.{AreOctets, RelayItem, What, Parameters, Event, all_steps, Actors, new_actors, FollowsTable-new}
use Rattle.world_laws.proofs.Prelude.{out_of, message_again, IsHeldTenure, Ends, first_at, of_prepared, of_target, still_of, still_to_relay}
use Rattle.world_laws.proofs.Prelude.{row_of, row_keeps, row_found, IsSoundCell, RefersIn, SoundParts, sent_message, word_refers}
use Rattle.world_laws.proofs.Prelude.{IsSoundChannel, IsSoundRow, row_sound, used_apart, IsAfter, ready_by, ready_uses, AreUsual, life}
use Rattle.world_laws.proofs.Prelude.{word_of, forwarded, held_up, held_up_for, tenure_messages, flow, IsRequested, IsSaidTo, freed_for}
use Rattle.world_laws.proofs.Prelude.{is_on_channel, is_on_connection, BringsBesideFlow, IsBesideFlow, SaysBesideFlow}
use Rattle.std.specs.Option.{option_to_list}
use Rattle.conn_messages.specs.Out.{IsSound}
use Rattle.conn_rules.specs.declared.input.Input.TheVariants as inputs
use Rattle.controller_model.proofs.LifeLaws.SoundLife.{SoundOf}
use Rattle.controller_model.specs.Controller.{is_up}
use Rattle.controller_model.specs.Life.{take}
use Rattle.world_laws.proofs.LineUp.Lines.{flow-apart, flow-cons}
use Rattle.ruled_relay.specs.declared.item.What.TheVariants as whats
use Rattle.world_laws.specs.PutAsRead.{AllowedFramesKeepLineUps, FramesArePutAsRead}
use Rattle.world_laws.proofs.Handled.{frames_keep_line_ups_new}
use Rattle.world_laws.proofs.Framing.{all_left, all_right}
use Rattle.world_laws.proofs.SapiThree.{says_waits}
use Rattle.world_laws.proofs.SapiThreeHeld.{flow_arrives_on_sapi_zero_new}
use Rattle.world_laws.proofs.Events.{world}

-- ---- what may still arrive for a connection, where nothing is on its way

abbrev none : Future
none place = []

ends_none : (input : Input) (state : State) → Ends none state input
ends_none (inputs.ReleaseAck at) state = refl
ends_none (inputs.Failure at change cause) state = by state where
  by : (state : State) → of_target none state ≡ []
  by (Live reference (Changing target)) = refl
  by (Live reference Active) = refl
  by (Live reference (Preparing target)) = refl
  by (Live reference Draining) = refl
  by WaitActivation = refl
  by WaitEstablish = refl
  by WaitConfirm = refl
  by (Closed clearing) = refl
  by Removed = refl
ends_none (inputs.ActivationAck at) state = by state where
  by : (state : State) → of_prepared none state ≡ []
  by (Live reference (Preparing target)) = refl
  by (Live reference Active) = refl
  by (Live reference (Changing target)) = refl
  by (Live reference Draining) = refl
  by WaitActivation = refl
  by WaitEstablish = refl
  by WaitConfirm = refl
  by (Closed clearing) = refl
  by Removed = refl
ends_none _ state = tt

-- the message that an input brings
module _ (P : List ℕ → Type 0) where
  first_all : (at : Place) (message : List ℕ) → P message → (place : Place) → AllByRecursion P (first_at at message none place)
  first_all at message is place = by (place.station == at.station && place.number == at.number) where
    by : (b : Bool) → AllByRecursion P (if b then message ∷ none place else none place)
    by true = (is, tt)
    by false = tt

module _ (P : List ℕ → Type 0) where
  all_of_tenures : (sapi : Sapi) (f : Future) (serving : Channel) (ds : List Drain) (ts : List Held) →
      ((at : Place) → AllByRecursion P (f at)) →
      AllByRecursion (λ t. AllByRecursion P (tenure_messages t sapi)) ts →
      AllByRecursion P (still_of sapi f serving ds ts)
  all_of_tenures sapi f serving ds [] each all = tt
  all_of_tenures sapi f serving [] (t ∷ ts) each all = AllByRecursion-append P (tenure_messages t sapi) (f (place_of serving)) all.0 (each (place_of serving))
  all_of_tenures sapi f serving (d ∷ ds) (t ∷ ts) each all =
      AllByRecursion-append P (tenure_messages t sapi) ((if d.is_done then [] else f (place_of d.channel)) ++ still_of sapi f serving ds ts) all.0
      (AllByRecursion-append P (if d.is_done then [] else f (place_of d.channel)) (still_of sapi f serving ds ts) (by d.is_done) (all_of_tenures sapi f serving ds ts each all.1)) where
        by : (b : Bool) → AllByRecursion P (if b then [] else f (place_of d.channel))
        by true = tt
        by false = each (place_of d.channel)

  all_of_target : (f : Future) (state : State) → ((at : Place) → AllByRecursion P (f at)) → AllByRecursion P (of_target f state)
  all_of_target f (Live reference (Changing target)) each = each (place_of target.channel)
  all_of_target f _ each = tt

  -- what is relayed was held, or is brought by the input
  all_relayed : (sapi : Sapi) (s : Connection) (input : Input) (offer : Option Channel) (r : Row) → IsValid s → AreApart (used_channels s) → row_of s input offer ≡ Some r → IsOpen r.next.state
      → ((at : Place) → AllByRecursion P (from_input sapi input none at)) → AllByRecursion (λ t. AllByRecursion P (tenure_messages t sapi)) s.up.tenures → AllByRecursion P (relayed sapi r.outs)
  all_relayed sapi s input offer r valid apart fits is_open each all =
      let keeps : KeepsUplink sapi none s input r = subst (OfRow (KeepsUplink sapi none s input)) fits (row_keeps s input offer sapi none valid apart (ends_none input s.state)) in
      all_left P (relayed sapi r.outs) (still_to_relay sapi none r.next)
      (subst (AllByRecursion P) (sym (keeps is_open))
      (AllByRecursion-append P (still_of sapi (from_input sapi input none) s.serving s.draining s.up.tenures) (of_target (from_input sapi input none) s.state)
      (all_of_tenures sapi (from_input sapi input none) s.serving s.draining s.up.tenures each all) (all_of_target (from_input sapi input none) s.state each)))

-- ---- messages of 1 to 251 octets

brought_whole : (input : Input) → IsCarried input → (at : Place) → AllByRecursion IsLayer3 (from_input Zero input none at)
brought_whole (inputs.Dtap at Zero message) carried place = first_all IsLayer3 at message carried place
brought_whole (inputs.EstablishIndication at Zero (Some initial)) carried place = first_all IsLayer3 at initial carried place
brought_whole _ carried place = tt

held_whole : (ts : List Held) → AllByRecursion IsHeldTenure ts → AllByRecursion (λ t. AllByRecursion IsLayer3 (tenure_messages t Zero)) ts
held_whole [] all = tt
held_whole (t ∷ ts) all = (all.0.0, held_whole ts all.1)

-- ---- SAPI 3

brought_beside : (input : Input) →
    BringsBesideFlow input →
    (place : Place) →
    AllByRecursion IsBesideFlow (from_input Three input none place)
brought_beside (inputs.Dtap at Three message) says place = first_all IsBesideFlow at message says place
brought_beside _ says place = tt

held_three : (ts : List Held) →
    AllByRecursion IsBesideFlow (flat_map (λ tenure. tenure_messages tenure Three) ts) →
    AllByRecursion (λ t. AllByRecursion IsBesideFlow (tenure_messages t Three)) ts
held_three [] all = tt
held_three (t ∷ ts) all =
    (all_left IsBesideFlow t.three (flat_map (λ tenure. tenure_messages tenure Three) ts) all, held_three ts (all_right IsBesideFlow t.three (flat_map (λ tenure. tenure_messages tenure Three) ts) all))

-- what is beside the flow leaves the flow as it is
flow-of : (fs : List Forwarded) →
    AllByRecursion IsBesideFlow (messages_on Three fs) →
    flow (map (λ f. f.message) fs) ≡ flow (messages_on Zero fs)
flow-of [] beside = refl
flow-of (f ∷ fs) beside = by f.sapi (flow-of fs) beside where
  by : (sapi : Sapi) →
      (AllByRecursion IsBesideFlow (messages_on Three fs) → flow (map (λ x. x.message) fs) ≡ flow (messages_on Zero fs)) →
      AllByRecursion IsBesideFlow (passed_by Three (record { sapi = sapi; message = f.message }) ++ messages_on Three fs) →
      flow (f.message ∷ map (λ x. x.message) fs) ≡ flow (passed_by Zero (record { sapi = sapi; message = f.message }) ++ messages_on Zero fs)
  by Zero rest beside = flow-cons f.message (map (λ x. x.message) fs) ∙ ap (λ (xs : List (List ℕ)). flow (f.message ∷ []) ++ xs) (rest beside) ∙ sym (flow-cons f.message (messages_on Zero fs))
  by Three rest beside = flow-apart f.message (map (λ x. x.message) fs) beside.0 ∙ rest beside.1

-- ---- one that a word says something to

pub number_at : (c : Controller) (state : ChannelState) (e : Entry) → entry_at c state ≡ Some e → (n : ℕ) × (entry_of c n ≡ Some e)
number_at c Free e there = absurd cc
number_at c (InUse n) e there = (n, there)
number_at c (Releasing n) e there = (n, there)

-- an entry of the controller
record IsFound (c : Controller) (s : Connection) : Type 0 where
  entry : Entry
  here : IsHere c.links c entry
  is : entry.connection ≡ s

found_of : {c : Controller} {word : Word} {s : Connection} {input : Input} {offer : Option Channel} →
    Ready c →
    IsSaidTo c word s input offer →
    IsFound c s
found_of {c} {s = s} ready (is_on_channel at input e word_is there is) = let found = number_at c (channel_state c at) e there in record { entry = e; here = here_of c found.0 e ready found.1; is = is }
found_of {c} {s = s} ready (is_on_connection number input e word_is there is) = record { entry = e; here = here_of c number e ready there; is = is }

-- ---- the connection after it

-- a connection that is open remains there
pub still_there : (state : State) (s : Connection) → IsOpen state → kept_in state s ≡ Some s
still_there (Closed clearing) s is_open = absurd is_open
still_there Removed s is_open = absurd is_open
still_there _ s is_open = refl

row_next : (c : Controller) (otherwise : Turn) (e : Entry) (input : Input) (r : Row) → AreRising c.entries → entry_of c e.connection.number ≡ Some e → row_in c e.connection input ≡ Some r → IsOpen r.next.state
    → connection_of (by_fitting otherwise e (row_in c e.connection input) c).next e.connection.number ≡ Some r.next
row_next c otherwise e input r rising there fits is_open =
    ap (λ (o : Option Row). connection_of (by_fitting otherwise e o c).next e.connection.number) fits
    ∙ row_found c e e r rising (subst (OfRow (λ (q : Row). q.next.number ≡ e.connection.number)) fits (keeps_number e.connection input (request_offer c e.connection input))) there
    ∙ still_there r.next.state r.next is_open

freed_next : (b : Bool) (at : Place) (input : Input) (c : Controller) (e : Entry) (r : Row) → AreRising c.entries → entry_of c e.connection.number ≡ Some e → row_in (if b then freed at c else c) e.connection input ≡ Some r → IsOpen r.next.state
    → connection_of (on_freed b at input c (Some e)).next e.connection.number ≡ Some r.next
freed_next true at input c e r rising there fits is_open = row_next (freed at c) (turn [] (freed at c)) e input r rising there fits is_open
freed_next false at input c e r rising there fits is_open = row_next c (ignoring c) e input r rising there fits is_open

word-next : {c : Controller} {word : Word} {s : Connection} {input : Input} {offer : Option Channel} (source : ℕ) (r : Row) →
    Ready c →
    IsSaidTo c word s input offer →
    row_of s input offer ≡ Some r →
    IsOpen r.next.state →
    connection_of (on_word source word c).next s.number ≡ Some r.next
word-next {c} {s = s} source r ready (is_on_channel at input e word_is found is) fits is_open =
    let number = number_at c (channel_state c at) e found in
    let here : IsHere c.links c e = here_of c number.0 e ready number.1 in
    ap (λ (w : Word). connection_of (on_word source w c).next s.number) word_is
    ∙ ap (λ (o : Option Entry). connection_of (on_freed (frees (channel_state c at) o input) at input c o).next s.number) found
    ∙ ap (λ (x : Connection). connection_of (on_freed (frees (channel_state c at) (Some e) input) at input c (Some e)).next x.number) (sym is)
    ∙ freed_next (frees (channel_state c at) (Some e) input) at input c e r here.rising here.there
    (ap (λ (o : Option Entry). row_in (if frees (channel_state c at) o input then freed at c else c) e.connection input) (sym found) ∙ ap (λ (x : Connection). row_in (freed_for c at input) x input) is ∙ fits) is_open
word-next {c} {s = s} source r ready (is_on_connection number input e word_is found is) fits is_open =
    let here : IsHere c.links c e = here_of c number e ready found in
    ap (λ (w : Word). connection_of (on_word source w c).next s.number) word_is
    ∙ ap (λ (o : Option Entry). connection_of (concerning input c o).next s.number) found
    ∙ ap (λ (x : Connection). connection_of (concerning input c (Some e)).next x.number) (sym is)
    ∙ row_next c (ignoring c) e input r here.rising here.there (ap (λ (x : Connection). row_in c x input) is ∙ fits) is_open

-- ---- its channels are different ones, of stations

used_placed : (c : Controller) (state : ChannelState) (cs : List Channel) →
    AreUsed c →
    (state ≡ Free → ⊥) →
    AllByRecursion (λ (x : Channel). state_in c.channels (place_of x) ≡ state) cs →
    AllByRecursion (λ (x : Channel). x.station ≢ SWITCH_LINK) cs
used_placed c state [] used isnt all = tt
used_placed c state (x ∷ xs) used isnt all = (
  λ is. isnt (sym all.0 ∙ ap (λ (n : ℕ). state_in c.channels (place_at n x.number)) is ∙ used.switch x.number),
  used_placed c state xs used isnt all.1,
)

owns_placed : (c : Controller) (s : Connection) →
    AreUsed c →
    Owns c.channels c.links s.number (roles_of s) →
    AllByRecursion (λ (x : Channel). x.station ≢ SWITCH_LINK) (used_channels s)
owns_placed c s used owns = subst (λ (cs : List Channel). AllByRecursion (λ (x : Channel). x.station ≢ SWITCH_LINK) (undone s.draining ++ s.serving ∷ cs)) (target_in_role s.state)
    (AllByRecursion-append (λ (x : Channel). x.station ≢ SWITCH_LINK) (undone s.draining) (s.serving ∷ target_channels (target_role s.state))
    (used_placed c (Releasing s.number) (undone s.draining) used (λ is. absurd cc) owns.releasing)
    (used_placed c (InUse s.number) (s.serving ∷ target_channels (target_role s.state)) used (λ is. absurd cc) owns.using))

-- ---- what is put

says_input : {c : Controller} {word : Word} {s : Connection} {input : Input} {offer : Option Channel} →
    IsSaidTo c word s input offer →
    SaysBesideFlow word →
    (at : Place) →
    AllByRecursion IsBesideFlow (from_input Three input none at)
says_input (is_on_channel at input e word_is there is) says = brought_beside input (subst SaysBesideFlow word_is says)
says_input (is_on_connection number input e word_is there is) says = brought_beside input (subst SaysBesideFlow word_is says)

refers_input : {c : Controller} {word : Word} {s : Connection} {input : Input} {offer : Option Channel} →
    IsSaidTo c word s input offer →
    RefersIn word →
    RefersBy input
refers_input (is_on_channel at input e word_is there is) refers = subst RefersIn word_is refers
refers_input (is_on_connection number input e word_is there is) refers = subst RefersIn word_is refers

offered : {c : Controller} {word : Word} {s : Connection} {input : Input} {offer : Option Channel} →
    IsSaidTo c word s input offer →
    IsSoundAll c →
    AllByRecursion IsSoundChannel (option_to_list offer)
offered {c} {s = s} (is_on_channel at input e word_is there is) sound =
    offer_list (request_offer (freed_for c at input) s input) (request_sound (freed_for c at input) s input (by (frees (channel_state c at) (entry_at c (channel_state c at)) input))) where
      by : (b : Bool) → AllByRecursion IsSoundCell (if b then freed at c else c).settings.cells
      by true = sound.cells
      by false = sound.cells
offered {c} {s = s} (is_on_connection number input e word_is there is) sound = offer_list (request_offer c s input) (request_sound c s input sound.cells)

pub all_read : (n : ℕ) (ms : List Message) →
    n < 2 ^ 24 →
    AllByRecursion IsSound ms →
    AllByRecursion (λ m. IsReadOf n m (out_of n m).frame.body) ms
all_read n [] few all = tt
all_read n (m ∷ ms) few all = (message_again n m few all.0.0 all.0.1, all_read n ms few all.1)

all_sent : (n : ℕ) (ms : List Message) → n < 2 ^ 24 → AllByRecursion IsSound ms → AllByRecursion IsSent (outs_of n ms)
all_sent n [] few all = tt
all_sent n (m ∷ ms) few all = (sent_message n m few all.0, all_sent n ms few all.1)

parts_of : (o : Option Connection) (s : Connection) → o ≡ Some s → SoundOf o → SoundParts s
unfolding SoundOf
parts_of o s is sound = subst SoundOf is sound

-- ---- what is known of the connection

record IsKnown (c : Controller) (s : Connection) : Type 0 where
  from_one : 1 ≤ s.number
  few : s.number < 2 ^ 24
  valid : IsValid s
  there : connection_of c s.number ≡ Some s
  owns : Owns c.channels c.links s.number (roles_of s)
  parts : SoundParts s

pub open_of : (state : State) → IsRequested state → IsOpen state
open_of WaitConfirm requested = tt
open_of (Live reference stage) requested = tt
open_of _ requested = absurd requested

known : (c : Controller) (s : Connection) → Ready c → IsSoundAll c → IsFound c s → IsOpen s.state → IsKnown c s
known c s ready sound found = subst (λ (x : Connection). IsOpen x.state → IsKnown c x) found.is (λ is_open.
    let e : Entry = found.entry in
    let there : connection_of c e.connection.number ≡ Some e.connection = ap (option_map (λ (x : Entry). x.connection)) found.here.there in
    let below = found.here.below in
    let next = sound.next in
    record {
      from_one = found.here.from_one;
      few = omega arith;
      valid = found.here.valid;
      there = there;
      owns = subst (OwnsOpen c.channels c.links e.connection.number) there (ready.holds.each e.connection.number) is_open;
      parts = parts_of (connection_of c e.connection.number) e.connection there (sound.each e.connection.number);
    })

sound_row : {c : Controller} {s : Connection} (input : Input) (offer : Option Channel) (r : Row) →
    IsKnown c s →
    row_of s input offer ≡ Some r →
    AllByRecursion IsSoundChannel (option_to_list offer) →
    IsCarried input →
    RefersBy input →
    AllByRecursion IsSound r.outs
sound_row {s = s} input offer r known fits offered carried refers =
    let sound : IsSoundRow r = subst (OfRow IsSoundRow) fits
    (row_sound s input offer (record { serving = known.parts.serving; zero = known.valid.down_zero; three = known.valid.down_three; up = known.valid.up_messages; refers = known.parts.refers }) known.parts.targets offered carried refers) in
    sound.1

-- the flow that is put for the switch
forwards_of : {c : Controller} {s : Connection} (input : Input) (offer : Option Channel) (r : Row) →
    IsKnown c s →
    row_of s input offer ≡ Some r →
    AllByRecursion IsSound r.outs →
    AllByRecursion IsBesideFlow (relayed Three r.outs) →
    flow (map (λ f. f.message) (forwarded (outs_of s.number r.outs) s.number)) ≡ flow (relayed Zero r.outs)
forwards_of {s = s} input offer r known fits sound beside =
    let usual : AreUsual r.outs = subst (OfRow PutsUsual) fits (usual_row s input offer) in
    let seen = forwarded_seen s.number (outs_of s.number r.outs) r.outs known.from_one (outs_own s.number r.outs) usual (all_sent s.number r.outs known.few sound) in
    flow-of (forwarded (outs_of s.number r.outs) s.number) (subst (AllByRecursion IsBesideFlow) (sym (seen Three)) beside) ∙ ap flow (seen Zero)

beside_held : (c : Controller) (s : Connection) →
    connection_of c s.number ≡ Some s →
    AllByRecursion IsBesideFlow (held_up c s.number Three) →
    AllByRecursion (λ t. AllByRecursion IsBesideFlow (tenure_messages t Three)) s.up.tenures
beside_held c s there beside = held_three s.up.tenures (by (entry_of c s.number) there beside) where
  by : (o : Option Entry) →
      option_map (λ (x : Entry). x.connection) o ≡ Some s →
      AllByRecursion IsBesideFlow (held_up_for Three o) →
      AllByRecursion IsBesideFlow (flat_map (λ tenure. tenure_messages tenure Three) s.up.tenures)
  by None is beside = absurd cc
  by (Some e) is beside = subst (λ (o : Option Connection). AllByRecursion IsBesideFlow (flat_map (λ tenure. tenure_messages tenure Three) (unwrap_or o s).up.tenures)) is beside

-- ---- the law, over the life of a controller

taken_next : (c : Controller) (item : RelayItem) (frame : Frame) (n : ℕ) (s : Connection) →
    is_up c item.source ≡ true →
    item.what ≡ whats.Frame frame →
    connection_of (on_word item.source (word_of item.source frame) c).next n ≡ Some s →
    connection_of (take item c).next n ≡ Some s
unfolding take
taken_next c item frame n s up is next = ap (λ (b : Bool). connection_of (on_what b item.source item.what c).next n) up ∙ ap (λ (x : What). connection_of (on_what true item.source x c).next n) is ∙ next

next_owns : (c : Controller) (r : Row) →
    OwnsOpen c.channels c.links r.next.number (connection_of c r.next.number) →
    connection_of c r.next.number ≡ Some r.next →
    IsOpen r.next.state →
    Owns c.channels c.links r.next.number (roles_of r.next)
next_owns c r owns there is_open = subst (OwnsOpen c.channels c.links r.next.number) there owns is_open

pub frames_are_put_as_read_new : (settings : Parameters) (events : List Event) → FramesArePutAsRead settings events
frames_are_put_as_read_new settings events s item items input offer r allowed octets own_octets pending addressed =
    let w : Actors = world settings events in
    let steps = all_steps (new_actors settings) events in
    let c : Controller = (life settings steps).next in
    let by_table : w.controller ≡ c = FollowsTable-new settings events in
    let word : Word = word_of item.source addressed.frame in
    let said : IsSaidTo c word s input offer = subst (λ (d : Controller). IsSaidTo d word s input offer) by_table addressed.said in
    let now : IsAfter c = life_after settings steps allowed in
    let ready : Ready c = ready_by c now.fits now.holds now.uses in
    let all : IsSoundAll c = life_sound settings steps allowed octets in
    let is_open : IsOpen s.state = open_of s.state addressed.requested in
    let one : IsKnown c s = known c s ready all (found_of ready said) is_open in
    let apart : AreApart (used_channels s) = used_apart s one.owns.apart in
    let frame_octets : AreOctets addressed.frame.body = subst IsOfOctets addressed.is own_octets in
    let sound : AllByRecursion IsSound r.outs = sound_row input offer r one addressed.fits (offered said all) addressed.carried (refers_input said (word_refers item.source addressed.frame frame_octets)) in
    let says : SaysBesideFlow word = subst (λ (x : What). SaysBesideFlow (word_by item.source x)) addressed.is
    (subst (AllByRecursion (λ item. SaysBesideFlow (word_by item.source item.what))) pending (says_waits settings events)).0 in
    let held : AllByRecursion IsBesideFlow (held_up c s.number Three) = subst (λ (d : Controller). AllByRecursion IsBesideFlow (held_up d s.number Three)) by_table
    ((flow_arrives_on_sapi_zero_new settings events).held allowed s.number one.from_one (subst (λ (d : Controller). IsThere (connection_of d s.number)) (sym by_table) (subst IsThere (sym one.there) is_open))) in
    let after : IsAfter (step c (Take item)).next = run_step c (Take item) now.fits now.holds now.uses in
    let number : r.next.number ≡ s.number = subst (OfRow (λ (q : Row). q.next.number ≡ s.number)) addressed.fits
    (keeps_number s input offer) in
    let next : connection_of (step c (Take item)).next r.next.number ≡ Some r.next =
    ap (connection_of (step c (Take item)).next) number ∙ taken_next c item addressed.frame s.number r.next (ap (λ (d : Controller). is_up d item.source) (sym by_table) ∙ addressed.up) addressed.is (word-next item.source r ready said addressed.fits addressed.remains_open) in
    let owns = next_owns (step c (Take item)).next r (after.holds.each r.next.number) next addressed.remains_open in
    record {
      whole = all_relayed IsLayer3 Zero s input offer r one.valid apart addressed.fits addressed.remains_open (brought_whole input addressed.carried) (held_whole s.up.tenures one.valid.up_messages);
      forwards = forwards_of input offer r one addressed.fits sound
          (all_relayed IsBesideFlow Three s input offer r one.valid apart addressed.fits addressed.remains_open (says_input said says) (beside_held c s one.there held));
      read = all_read s.number r.outs one.few sound;
      apart = used_apart r.next owns.apart;
      placed = owns_placed (step c (Take item)).next r.next (ready_uses (step c (Take item)).next (ready_by (step c (Take item)).next after.fits after.holds after.uses)) owns;
    }

pub allowed_frames_keep_line_ups_new : (settings : Parameters) (events : List Event) → AllowedFramesKeepLineUps settings events
allowed_frames_keep_line_ups_new settings events mobile s item items input offer r allowed octets own_octets pending addressed ready lined =
    frames_keep_line_ups_new settings events mobile s item items input offer r pending addressed ready (frames_are_put_as_read_new settings events s item items input offer r allowed octets own_octets pending addressed) lined
