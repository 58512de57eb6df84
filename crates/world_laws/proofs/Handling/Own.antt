-- SPDX-License-Identifier: MIT OR Apache-2.0
-- A frame that says an input to a connection that lives: the row that fits keeps it lined up, or
-- ends it; else nothing changes.
use Rattle.world_laws.proofs.Prelude.{◌≡◌, ◌≢◌, ℕ, ◌≤◌, ◌&&◌, Bool, true, false, if◌then◌else◌, List, [], ◌∷◌, ◌++◌, option_to_list, Option}
use Rattle.world_laws.proofs.Prelude.{Some, None, refl, sym, ap, ◌∙◌, subst, inl, inr, arith, AllByRecursion, flat_map, cases_Bool, Channel}
use Rattle.world_laws.proofs.Prelude.{Place, Out, SWITCH_LINK, outs_of, Input, Changing, State, WaitActivation}
use Rattle.world_laws.proofs.Prelude.{WaitEstablish, WaitConfirm, Live, Closed, Removed, Target, Connection, is_at, IsCarried, Row, IsOpen}
use Rattle.world_laws.proofs.Prelude.{OfRow, undone, used_channels, on_activation_ack, on_failure, row_if, same_change, kept}
use Rattle.world_laws.proofs.Prelude.{IsThere, connection_of, outs_for, SameRequest, IsOfOctets, outs_own, IsAtPlace, word_from, PutsUsual}
use Rattle.world_laws.proofs.Prelude.{usual_row, Take, Controller, Turn, hears, place_of, on_what, on_word, keeps_number, Zero}
use Rattle.world_laws.proofs.Prelude.{Frame, is_control, RelayItem, What, Rsl, AreAllowed, Parameters, Event, Handle, actors_after}
use Rattle.world_laws.proofs.Prelude.{tenure_in, rsl_in, Actors, Mobile, base_of, is_station_up, is_up, modulus_in, IsKnownItem}
use Rattle.world_laws.proofs.Prelude.{known_inbox, same_place, and_left, AllByRecursion-so, IsFinal-row, IsFinal, IsCarriedBy, word_carried}
use Rattle.world_laws.proofs.Prelude.{kept_there, IsFrom, word_of, forwarded, ChangePhase, controls_in, messages_in, released, NoneReleases}
use Rattle.world_laws.proofs.Prelude.{acknowledgements_up, read_by, read_of, brings_by, brings_in, coming_up, IsReadyFor, awaited_in}
use Rattle.world_laws.proofs.Prelude.{commanded_target, is_ended, seat_from, target_tenure, AcksAgree, IsLed, IsOpenAndLinedUp, initial_by}
use Rattle.world_laws.proofs.Prelude.{initials_up, TookOctets, IsFrameFor, IsRequested, IsSaidTo, on_channel, on_connection, LinedUp}
use Rattle.world_laws.proofs.Prelude.{commanded_channels, IsOpenOrEnded, open_or}
use Rattle.std.proofs.Common.{eq-eqb}
use Rattle.conn_rules.specs.declared.input.Input.TheVariants as inputs
use Rattle.conn_rules.specs.Streams.{target_in}
use Rattle.conn_rules.specs.Table.{row_of}
use Rattle.controller_model.proofs.LifeLaws.Progress.{Advances, IsLive, Next, advances}
use Rattle.controller_model.specs.Life.{take}
use Rattle.world_laws.specs.LineUp.Alive.ChangePhase.{arrives, leaves, opens, rests, returns, waits}
use Rattle.world_laws.specs.LineUp.Places.{Item}
use Rattle.world_laws.specs.LineUp.Places.Item.{brought}
use Rattle.world_laws.proofs.LineUp.Lines.{controls_first}
use Rattle.ruled_relay.specs.declared.item.What.TheVariants as whats
use Rattle.world_laws.specs.OwnItem.{IsBesideTarget, IsRead, said_by}
use Rattle.world_laws.proofs.Acknowledged.{all_acks_show_end_new}
use Rattle.world_laws.proofs.Apart.{all_both}
use Rattle.world_laws.proofs.Ending.{line_ups_may_end_new}
use Rattle.world_laws.proofs.Framing.{all_right}
use Rattle.world_laws.proofs.OwnFrameLaw.{frame_is_handled_new}
use Rattle.world_laws.proofs.OwnReleases.{same_at}
use Rattle.world_laws.proofs.PutAsRead.{allowed_frames_keep_line_ups_new, still_there}
use Rattle.world_laws.proofs.Quiet.{all_of}
use Rattle.world_laws.proofs.TurnsLife.{same_places}
use Rattle.world_laws.specs.Handling.OpenOrEnded.IsOpenOrEnded.{carries_on}
use Rattle.world_laws.proofs.Handling.Dropped.{AreBeside, coming_first, item_drops, without_first}
use Rattle.world_laws.proofs.Handling.Finishing.{controller-is, ended_before, handle_is, now_ended, still_lined}
use Rattle.world_laws.proofs.Handling.Knowing.{IsKnown, Steps, known, names_known, steps_known}
use Rattle.world_laws.proofs.Handling.Leaving.{line_itself, none_forwarded, nothing_down, silent_forwards}
use Rattle.world_laws.proofs.Handling.Missing.{NotInitial, missed_beside}
use Rattle.world_laws.proofs.Handling.Saying.{IsInitial, SaysOn, SaysUp, Tells, frame_tells, none_read, word_says}
use Rattle.world_laws.proofs.Handling.Saying.Tells.{message, nothing}
use Rattle.world_laws.proofs.Handling.Turning.{Turns, next_by, outs_by, word_turns}
use Rattle.world_laws.proofs.OwnFrames.{brings_read}
use Rattle.world_laws.proofs.Events.{world}

-- ---- it remains one that asked for its connection

live_requested : (state : State) → IsLive state → IsRequested state
live_requested (Live reference stage) live = tt
live_requested _ live = absurd live

pub still_requested : (s : Connection) (input : Input) (offer : Option Channel) (r : Row) →
    IsRequested s.state →
    row_of s input offer ≡ Some r →
    IsOpen r.next.state →
    IsRequested r.next.state
still_requested s input offer r requested fits is_open = by s.state requested ((subst (OfRow (Advances s.state input)) fits (advances s input offer)) is_open) where
  by : (state : State) → IsRequested state → Next state input r.next.state r.outs → IsRequested r.next.state
  by WaitConfirm requested next = elim next.1 [
    | inl unchanged ↦ subst IsRequested (sym unchanged.0) tt
    | inr live ↦ live_requested r.next.state live.0
  ]
  by (Live reference stage) requested next = live_requested r.next.state next
  by _ requested next = absurd requested

-- its request is unchanged
pub same_request : (before after : Option Connection) (s next : Connection) →
    before ≡ Some s →
    after ≡ Some next →
    SameRequest before after →
    next.request ≡ s.request
same_request before after s next was is same = subst (λ (o : Option Connection). SameRequest (Some s) o) is (subst (λ (o : Option Connection). SameRequest o after) was same)

-- ---- a target is silent where its activation is acknowledged, or where FAILURE arrives

row_if_some : (b : Bool) (r q : Row) → row_if b r ≡ Some q → b ≡ true
row_if_some true r q is = refl
row_if_some false r q is = absurd cc

-- ACTIVATION ACK fits where the target is awaited
ack_awaits : (state : State) (s : Connection) (at : Place) (r : Row) →
    IsRequested state →
    on_activation_ack state s at ≡ Some r →
    target_in state ≡ awaited_in state
ack_awaits (Live reference (Changing target)) s at r requested fits = absurd cc
ack_awaits WaitActivation s at r requested fits = absurd requested
ack_awaits WaitEstablish s at r requested fits = absurd requested
ack_awaits (Closed clearing) s at r requested fits = absurd requested
ack_awaits Removed s at r requested fits = absurd requested
ack_awaits _ s at r requested fits = refl

-- FAILURE fits where its change is under way, and arrives on the serving channel
record Fails (state : State) (s : Connection) (at : Place) : Type 0 where
  target : Target
  commanded : commanded_target state ≡ Some target
  targets : target_in state ≡ commanded_channels (commanded_target state)
  here : is_at at s.serving ≡ true

failure_is : (state : State) (s : Connection) (at : Place) (change : _) (cause : ℕ) (offer : Option Channel) (r : Row) →
    on_failure state s at change cause offer ≡ Some r →
    Fails state s at
failure_is (Live reference (Changing target)) s at change cause offer r fits =
    record { target = target; commanded = refl; targets = refl; here = and_left (is_at at s.serving) (same_change change target.change) (row_if_some (is_at at s.serving && same_change change target.change) _ r fits) }
failure_is _ s at change cause offer r fits = absurd cc

-- FAILURE is on its way: so no COMPLETE is
no_complete : {opening changing : Bool} {commands serving texts target link : ℕ} {seat : _} →
    ChangePhase opening changing commands seat serving texts target link →
    1 ≤ serving →
    target ≡ 0
no_complete (opens unchanged none) some = omega arith
no_complete (rests unchanged none) some = omega arith
no_complete (waits unchanged few none) some = omega arith
no_complete (leaves none) some = omega arith
no_complete (arrives unchanged none few) some = absurd (omega arith)
no_complete (returns unchanged none few) some = omega arith

fails_silent : {m : ℕ} {w : Actors} {p : Mobile} {s : Connection} {at : Place} → Fails s.state s at → LinedUp m w p s → AllByRecursion (λ c. IsLed (coming_up w (place_of c))) (commanded_channels (commanded_target s.state)) → 1 ≤ controls_in (coming_up w (place_of s.serving))
    → AllByRecursion (λ c. messages_in (coming_up w (place_of c)) ≡ []) (target_in s.state)
fails_silent {m} {w} {p} {s} fails lined led some =
    subst (AllByRecursion (λ c. messages_in (coming_up w (place_of c)) ≡ [])) (sym (fails.targets ∙ ap commanded_channels fails.commanded)) (silent, tt) where
      items : List Item
      items = coming_up w (place_of fails.target.channel)

      is_led : IsLed items
      is_led = (subst (λ (o : Option Target). AllByRecursion (λ c. IsLed (coming_up w (place_of c))) (commanded_channels o)) fails.commanded led).0

      none : controls_in items ≡ 0
      none = sym (ap (λ (o : Option Target). controls_in (target_tenure (coming_up w) (is_station_up w) (seat_from s.serving p.seat) o).items) fails.commanded) ∙ no_complete lined.alive.phase some

      silent : messages_in items ≡ []
      silent = elim is_led [ inl empty ↦ empty | inr more ↦ absurd (omega (arith, none, more)) ]

-- FAILURE that is first is one more
controls_more : (text : List ℕ) (items all : List Item) → is_control text ≡ true → all ≡ brought text ∷ items → 1 ≤ controls_in all
controls_more text items all control is = let more = controls_first text (messages_in items) control in subst (λ (xs : List Item). 1 ≤ controls_in xs) (sym is) (omega arith)

-- ---- what a frame finds

-- the first item of the inbox is handled
pub record Handling (settings : Parameters) (events : List Event) (mobile : ℕ) (s : Connection) (item : RelayItem) (items : List RelayItem) : Type 0 where
  pub allowed : AreAllowed settings
  pub octets : TookOctets settings events
  pub own : IsOfOctets item.what
  pub pending : (world settings events).inbox ≡ item ∷ items
  pub up : is_up (world settings events) SWITCH_LINK ≡ true
  pub lined_up : IsOpenAndLinedUp (modulus_in settings) (world settings events) mobile s
  pub agree : AcksAgree (world settings events) s

silent_for : {w : Actors} {m mobile : ℕ} {s : Connection} (item : RelayItem) (items : List RelayItem) (input : Input) (offer : Option Channel) (r : Row) (text : List ℕ) → w.inbox ≡ item ∷ items → IsOpenAndLinedUp m w mobile s → row_of s input offer ≡ Some r → IsRead input text → ((at : Place) → brings_in at item ≡ said_by input text at)
    → IsBesideTarget input → AllByRecursion (λ c. messages_in (coming_up w (place_of c)) ≡ []) (target_in s.state)
unfolding row_of
silent_for {w} {s = s} item items (inputs.ActivationAck at) offer r text pending lined_up fits read brings beside =
    subst (AllByRecursion (λ c. messages_in (coming_up w (place_of c)) ≡ [])) (sym (ack_awaits s.state s at r lined_up.requested fits)) lined_up.fresh.silent
silent_for {w} {s = s} item items (inputs.Failure at change cause) offer r text pending lined_up fits read brings beside =
    let fails = failure_is s.state s at change cause.0 offer r fits in
    fails_silent fails lined_up.lined.lined lined_up.fresh.led
    (controls_more text (coming_up (without_first w items) (place_of s.serving)) (coming_up w (place_of s.serving)) read
    (coming_first w item items pending (place_of s.serving) ∙ ap (λ (xs : List Item). xs ++ coming_up (without_first w items) (place_of s.serving)) (brings (place_of s.serving) ∙ ap (λ (b : Bool). if b then brought text ∷ [] else []) (same_at at s.serving ∙ fails.here))))
silent_for item items _ offer r text pending lined_up fits read brings beside = absurd beside

ready_for : {settings : Parameters} {events : List Event} {mobile : ℕ} {s : Connection} {item : RelayItem} {items : List RelayItem} (input : Input) (offer : Option Channel) (r : Row) →
    Handling settings events mobile s item items →
    IsFrameFor (world settings events) item s input offer r →
    IsReadyFor (world settings events) s input
ready_for {settings} {events} {s = s} {item} {items} input offer r h addressed =
    let handles = frame_is_handled_new (world settings events) item s input offer r addressed in
    record {
      switch_up = h.up;
      old_end = h.agree.old_end;
      others_continue = h.agree.others_continue;
      silent = silent_for item items input offer r handles.0 h.pending h.lined_up addressed.fits handles.1.read handles.1.brings;
      uncommanded = h.lined_up.fresh.uncommanded;
    }

-- ---- a row that fits

-- it remains open
keeps_on : {settings : Parameters} {events : List Event} {mobile : ℕ} {s : Connection} {item : RelayItem} {items : List RelayItem} {input : Input} {offer : Option Channel} (r : Row) → Handling settings events mobile s item items → IsFrameFor (world settings events) item s input offer r
    → connection_of (take item (world settings events).controller).next s.number ≡ Some r.next → IsOpenOrEnded (modulus_in settings) (actors_after (world settings events) Handle) mobile s
keeps_on {settings} {events} {mobile} {s} {item} {items} {input} {offer} r h addressed next =
    let w : Actors = world settings events in
    let number : r.next.number ≡ s.number = subst (OfRow (λ (q : Row). q.next.number ≡ s.number)) addressed.fits
    (keeps_number s input offer) in
    let now : (actors_after w Handle).controller ≡ (take item w.controller).next = ap (λ (x : Actors). x.controller) (handle_is w item items h.pending) ∙ controller-is (tenure_in w item.source item.what) (take item w.controller) (record w { inbox = items }) in
    let there : connection_of (actors_after w Handle).controller r.next.number ≡ Some r.next = ap (λ (c : Controller). connection_of c r.next.number) now ∙ ap (connection_of (take item w.controller).next) number ∙ next in
    carries_on r.next number
    (record { there = there; is_open = addressed.remains_open; from_one = subst (λ (n : ℕ). 1 ≤ n) (sym number) h.lined_up.had.from_one })
    (still_requested s input offer r h.lined_up.requested addressed.fits addressed.remains_open)
    (same_request (connection_of w.controller s.number) (connection_of (take item w.controller).next s.number) s r.next h.lined_up.had.there next (names_known settings events (Take item) s.number h.lined_up.had.from_one))
    (allowed_frames_keep_line_ups_new settings events mobile s item items input offer r h.allowed h.octets h.own h.pending addressed (ready_for input offer r h addressed) h.lined_up.lined)

-- ---- what the item says

pub item_tells : {settings : Parameters} {events : List Event} {mobile : ℕ} {s : Connection} {item : RelayItem} {items : List RelayItem} (frame : Frame) →
    Handling settings events mobile s item items →
    item.what ≡ whats.Frame frame →
    Tells item.source frame
item_tells {settings} {events} {item = item} frame h is = frame_tells item.source frame (subst (λ (x : What). IsKnownItem (record { source = item.source; what = x })) is (subst (AllByRecursion IsKnownItem) h.pending (known_inbox settings events)).0)

-- ---- no row fits

-- what it brings of the connection's channels
abbrev pub DropsOut : Connection → RelayItem → Type 0
DropsOut s item = AllByRecursion (λ c. AreBeside (brings_in (place_of c) item)) (used_channels s)

-- in a frame in which there is no message of a station
pub none_drops : (s : Connection) (item : RelayItem) (frame : Frame) → item.what ≡ whats.Frame frame → rsl_in frame ≡ None → DropsOut s item
none_drops s item frame is none = all_of (λ c. AreBeside (brings_in (place_of c) item)) (used_channels s)
    (λ c. subst AreBeside (sym (ap (brings_by (place_of c) item.source) is ∙ ap (λ (o : Option Rsl). brings_read item.source o (place_of c)) none ∙ none_read item.source (place_of c))) tt)

-- an initial message is among those on their way
first_initial : (w : Actors) (item : RelayItem) (items : List RelayItem) (at : Place) (m : Rsl) (initial : List ℕ) →
    w.inbox ≡ item ∷ items →
    read_of at.station item ≡ m ∷ [] →
    initial_by at.number m ≡ initial ∷ [] →
    initials_up w at ≡ [] →
    ⊥
first_initial w item items at m initial pending read is none = never (sym all ∙ none) where
  made : List Rsl
  made = (base_of w at.station).messages

  rest : List Rsl
  rest = flat_map (read_of at.station) items ++ made

  all : initials_up w at ≡ initial ∷ flat_map (initial_by at.number) rest
  all = ap (λ (xs : List RelayItem). flat_map (initial_by at.number) (flat_map (read_of at.station) xs ++ made)) pending
      ∙ ap (λ (xs : List Rsl). flat_map (initial_by at.number) ((xs ++ flat_map (read_of at.station) items) ++ made)) read
      ∙ ap (λ (xs : List (List ℕ)). xs ++ flat_map (initial_by at.number) rest) is

  never : initial ∷ flat_map (initial_by at.number) rest ≡ [] → ⊥
  never h = absurd cc

not_initial : (w : Actors) (item : RelayItem) (items : List RelayItem) (frame : Frame) (m : Rsl) (at : Place) (input : Input) (cs : List Channel) → w.inbox ≡ item ∷ items → item.what ≡ whats.Frame frame → rsl_in frame ≡ Some m → at.station ≡ item.source → IsAtPlace at input → IsInitial m input
    → AllByRecursion (λ c. initials_up w (place_of c) ≡ []) cs → AllByRecursion (NotInitial input) cs
not_initial w item items frame m at
    (inputs.EstablishIndication there Zero (Some initial)) cs pending is says from here initials none_arrives =
    AllByRecursion-so (λ c. initials_up w (place_of c) ≡ []) (NotInitial (inputs.EstablishIndication there Zero (Some initial))) (λ c none. elim (cases_Bool (same_place (place_of c) there)) [
      | inr other ↦ other
      | inl same ↦ absurd (first_initial w item items there m initial pending
          (ap (read_by there.station item.source) is ∙ ap (λ (b : Bool). if b then option_to_list (rsl_in frame) else []) (eq-eqb item.source there.station (sym (ap (λ (p : Place). p.station) here ∙ from))) ∙ ap option_to_list says)
          initials (ap (initials_up w) (sym (same_places (place_of c) there same)) ∙ none))
    ]) cs none_arrives
not_initial w item items frame m at _ cs pending is says from here initials none_arrives = all_of (λ (c : Channel). Unit {0}) cs (λ c. tt)

-- it holds of what is first where it holds of all that is on its way
first_unended : (xs ys : List Item) → is_ended (xs ++ ys) ≡ false → is_ended xs ≡ false
first_unended [] ys is = refl
first_unended (brought text ∷ xs) ys is = first_unended xs ys is
first_unended (released ∷ xs) ys is = absurd cc

first_silent : (xs ys : List Item) → messages_in (xs ++ ys) ≡ [] → messages_in xs ≡ []
first_silent [] ys is = refl
first_silent (brought text ∷ xs) ys is = absurd cc
first_silent (released ∷ xs) ys is = first_silent xs ys is

missed_drops : {settings : Parameters} {events : List Event} {mobile : ℕ} {s : Connection} {item : RelayItem} {items : List RelayItem} (input : Input) (offer : Option Channel) (frame : Frame) (m : Rsl) (at : Place) → Handling settings events mobile s item items → IsKnown (world settings events).controller s → item.what ≡ whats.Frame frame → rsl_in frame ≡ Some m
    → at.station ≡ item.source → IsAtPlace at input → SaysOn item.source m input → row_of s input offer ≡ None → DropsOut s item
missed_drops {settings} {events} {s = s} {item} {items} input offer frame m at h known is says from here on none =
    AllByRecursion-so (λ c. AreBeside (said_by input on.text (place_of c))) (λ c. AreBeside (brings_in (place_of c) item)) (λ c beside. subst AreBeside (sym (brings (place_of c))) beside) (used_channels s)
    (missed_beside s input on.text offer h.lined_up.requested known.valid none on.control
    (AllByRecursion-so (λ c. is_ended (coming_up w (place_of c)) ≡ false) (λ c. is_ended (said_by input on.text (place_of c)) ≡ false)
    (λ c unended. first_unended (said_by input on.text (place_of c)) (coming_up (without_first w items) (place_of c)) (ap is_ended (sym (first (place_of c))) ∙ unended)) (s.serving ∷ target_in s.state) carries_on)
    (AllByRecursion-so (λ c. messages_in (coming_up w (place_of c)) ≡ []) (λ c. messages_in (said_by input on.text (place_of c)) ≡ [])
    (λ c silent. first_silent (said_by input on.text (place_of c)) (coming_up (without_first w items) (place_of c)) (ap messages_in (sym (first (place_of c))) ∙ silent)) (awaited_in s.state) h.lined_up.fresh.silent)
    (not_initial w item items frame m at input (used_channels s) h.pending is says from here on.initial h.lined_up.opened.none_arrives)) where
      w : Actors
      w = world settings events

      brings : (place : Place) → brings_in place item ≡ said_by input on.text place
      brings place = ap (brings_by place item.source) is ∙ ap (λ (o : Option Rsl). brings_read item.source o place) says ∙ on.brings_it place

      first : (place : Place) → coming_up w place ≡ said_by input on.text place ++ coming_up (without_first w items) place
      first place = coming_first w item items h.pending place ∙ ap (λ (xs : List Item). xs ++ coming_up (without_first w items) place) (brings place)

      carries_on : AllByRecursion (λ c. is_ended (coming_up w (place_of c)) ≡ false) (s.serving ∷ target_in s.state)
      carries_on = all_both (λ c. c.station ≢ SWITCH_LINK) (λ c. NoneReleases (acknowledgements_up w (place_of c))) (λ c. is_ended (coming_up w (place_of c)) ≡ false) (s.serving ∷ target_in s.state)
          (λ c placed releases. (all_acks_show_end_new settings events (place_of c) placed).none releases)
          (all_right (λ c. c.station ≢ SWITCH_LINK) (undone s.draining) (s.serving ∷ target_in s.state) h.lined_up.lined.lined.placed) h.agree.others_continue

said_drops : {settings : Parameters} {events : List Event} {mobile : ℕ} {s : Connection} {item : RelayItem} {items : List RelayItem} {input : Input} {offer : Option Channel} (frame : Frame) → Handling settings events mobile s item items → IsKnown (world settings events).controller s → item.what ≡ whats.Frame frame
    → IsSaidTo (world settings events).controller (word_of item.source frame) s input offer → row_of s input offer ≡ None → Tells item.source frame → DropsOut s item
said_drops {s = s} {item} frame h known is said none (nothing says) = none_drops s item frame is says
said_drops {item = item} frame h known is (on_channel at input e word_is found same) none (message m says word) =
    let from : (at.station ≡ item.source) × IsAtPlace at input = subst (IsFrom item.source) word_is (word_from item.source frame) in
    missed_drops input _ frame m at h known is says from.0 from.1 (subst (SaysUp item.source m) (sym word ∙ word_is) (word_says item.source m)) none
said_drops {item = item} frame h known is (on_connection number input e word_is found same) none (message m says word) =
    absurd (subst (SaysUp item.source m) (sym word ∙ word_is) (word_says item.source m))

-- ---- the frame

said_carried : {c : Controller} {s : Connection} {input : Input} {offer : Option Channel} (source : ℕ) (frame : Frame) →
    IsSaidTo c (word_of source frame) s input offer →
    IsCarried input
said_carried source frame (on_channel at input e word_is found same) = subst IsCarriedBy word_is (word_carried source frame)
said_carried source frame (on_connection number input e word_is found same) = subst IsCarriedBy word_is (word_carried source frame)

pub take-frame : (c : Controller) (item : RelayItem) (frame : Frame) →
    hears c item.source ≡ true →
    item.what ≡ whats.Frame frame →
    take item c ≡ on_word item.source (word_of item.source frame) c
unfolding take
take-frame c item frame up is = ap (λ (b : Bool). on_what b item.source item.what c) up ∙ ap (λ (x : What). on_what true item.source x c) is

pub said_continues : {settings : Parameters} {events : List Event} {mobile : ℕ} {s : Connection} {item : RelayItem} {items : List RelayItem} {input : Input} {offer : Option Channel} (frame : Frame) → Handling settings events mobile s item items → hears (world settings events).controller item.source ≡ true → item.what ≡ whats.Frame frame
    → IsSaidTo (world settings events).controller (word_of item.source frame) s input offer → IsOpenOrEnded (modulus_in settings) (actors_after (world settings events) Handle) mobile s
said_continues {settings} {events} {mobile} {s} {item} {items} {input} {offer} frame h up is said = by (row_of s input offer) refl where
  w : Actors
  w = world settings events

  c : Controller
  c = w.controller

  t : Turn
  t = take item c

  one : IsKnown c s
  one = known settings events s h.allowed h.lined_up.had

  does : Steps c (Take item) s.number
  does = steps_known settings events (Take item) s.number h.allowed h.octets h.own h.lined_up.had.from_one

  turns : Turns s (row_of s input offer) t
  turns = subst (Turns s (row_of s input offer)) (sym (take-frame c item frame up is)) (word_turns item.source one.ready said)

  tells : Tells item.source frame
  tells = item_tells frame h is

  carried : IsCarried input
  carried = said_carried item.source frame said

  by : (o : Option Row) → row_of s input offer ≡ o → IsOpenOrEnded (modulus_in settings) (actors_after w Handle) mobile s
  by None none =
      let silent : t.outs ≡ [] = turns.outs ∙ ap (outs_by s.number) none in
      subst (λ (x : Actors). IsOpenOrEnded (modulus_in settings) x mobile s) (sym (handle_is w item items h.pending))
      (still_lined s (tenure_in w item.source item.what) t h.lined_up.had.from_one h.up (ap (λ (outs : List Out). forwarded outs s.number) silent ∙ silent_forwards s.number [] refl) (nothing_down (record w { inbox = items }) (tenure_in w item.source item.what) t silent)
      (record { line = line_itself s; there = turns.next ∙ ap (next_by s) none; requested = h.lined_up.requested; request = refl })
      h.lined_up.lined.lined.apart h.lined_up.lined.lined.placed h.lined_up.lined.found
      (item_drops item items h.pending (said_drops frame h one is said none tells) h.lined_up.lined.lined))
  by (Some r) fits =
      let next : connection_of t.next s.number ≡ kept r.next = turns.next ∙ ap (next_by s) fits in
      let outs : outs_for s.number t.outs ≡ outs_of s.number r.outs = ap (outs_for s.number) (turns.outs ∙ ap (outs_by s.number) fits) ∙ outs_own s.number r.outs in
      let final : IsFinal s r = subst (OfRow (IsFinal s)) fits (IsFinal-row s input offer) in
      elim (open_or r.next.state) [
        | inl is_open ↦ keeps_on r h (record { frame = frame; is = is; up = up; said = said; requested = h.lined_up.requested; fits = fits; remains_open = is_open; carried = carried }) (next ∙ still_there r.next.state r.next is_open)
        | inr shut ↦ subst (λ (x : Actors). IsOpenOrEnded (modulus_in settings) x mobile s) (sym (handle_is w item items h.pending))
            (now_ended (tenure_in w item.source item.what) t h.up
            (none_forwarded s.number t.outs r.outs h.lined_up.had.from_one outs (subst (OfRow PutsUsual) fits (usual_row s input offer)) does.sent (final.relays shut))
            (λ there. shut (kept_there r.next.state r.next (subst IsThere next there)))
            (ended_before items (line_ups_may_end_new (modulus_in settings) w mobile s h.lined_up.lined)))
      ]
