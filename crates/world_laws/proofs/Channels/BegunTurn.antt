-- SPDX-License-Identifier: MIT OR Apache-2.0
-- What is still to arrive of a channel that began, after an event.
use Rattle.world_laws.proofs.Prelude.{◌≡◌, ◌≢◌, ℕ, ◌==◌, Bool, true, false, cond, if◌then◌else◌, List, [], ◌∷◌, ◌++◌, option_to_list}
use Rattle.world_laws.proofs.Prelude.{Option, Some, refl, sym, ap, ◌∙◌, subst, append_assoc, eq-eqb, append-nil, Place, SWITCH_LINK, Input}
use Rattle.world_laws.proofs.Prelude.{IsBrought, brought_by, brought_in, brought_with, if_held, AreUsed, word_from, ChannelState, Free}
use Rattle.world_laws.proofs.Prelude.{InUse, Releasing, Take, Word, OnChannel, Reports, OnConnection, Controller, Turn}
use Rattle.world_laws.proofs.Prelude.{channel_state, holder, hears, place_at, rsl_word, Frame, BaseState, is_active, activation_ack, Item}
use Rattle.world_laws.proofs.Prelude.{What, ActivationAck, Rsl, Event, OutboxEntry, Tenure, actors_after, Agrees, acknowledged_in}
use Rattle.world_laws.proofs.Prelude.{active_behind, tenure_behind, is_in_use, to_arrive, begins, acknowledgements, due, taken}
use Rattle.world_laws.proofs.Prelude.{acknowledged_tenure, rsl_in, Actors, Link, base_of, is_active_at, is_up, outbox_of, tenure_at, Good}
use Rattle.world_laws.proofs.Prelude.{Rests, IsKnownItem, heard_of, Serves, Turned, hear, both_empty, outbox-step, OutboxStep, breaks}
use Rattle.world_laws.proofs.Prelude.{acks_append, pipe-step, PipeStep, flows, stops, same_Some, IsFrom, IsOfSwitch, word_of, IsOwed}
use Rattle.world_laws.proofs.Prelude.{one_at_most, runs_put_before, due-append}
use Rattle.conn_rules.specs.declared.input.Input.TheVariants as inputs
use Rattle.controller_model.specs.LifeLaws.Acts.Brought.{of_frame as comes_in, nothing as none_in}
use Rattle.ruled_relay.specs.declared.item.What.TheVariants as whats
use Rattle.rsl_codec.specs.declared.rsl.Rsl.TheVariants as rsl
use Rattle.world_model.specs.Honest.{given}
use Rattle.world_model.proofs.OwnerEvents.{IsThere, to_arrive_then, nothing_put}
use Rattle.world_model.proofs.Outboxes.Step.{kept_order}
use Rattle.world_laws.proofs.OrderHeard.{read_known, word_known}
use Rattle.world_laws.proofs.OwnFrame.{SaysWord, message_says}

-- ---- an event at which the controller does nothing

-- where nothing was still to arrive, nothing is still to arrive
pub rests_silent : (at : Place) (w : Actors) (event : Event) →
    IsThere at w →
    Good w →
    Rests at w event →
    to_arrive w at ≡ [] →
    to_arrive (actors_after w event) at ≡ []
rests_silent at w event there good rests silent = by (outbox-step n w event) (pipe-step n k w event there.station there.among there.none) where
  v : Actors
  v = actors_after w event

  n : ℕ
  n = at.station

  k : ℕ
  k = at.number

  before : List Rsl
  before = acknowledged_in at w.inbox

  gave : List Rsl
  gave = acknowledgements k (given n w event)

  made : List Rsl
  made = acknowledgements k (base_of w n).messages

  waits : List Rsl
  waits = due k (is_active_at w at) (outbox_of w n)

  first : before ≡ []
  first = (both_empty before (made ++ waits) (sym silent)).0

  second : made ≡ []
  second = (both_empty made waits (sym (both_empty before (made ++ waits) (sym silent)).1)).0

  -- what was given and made, before what is due
  grouped : (rest : List Rsl) →
      acknowledged_in at v.inbox ++ (acknowledgements k (base_of v n).messages ++ rest) ≡ before ++ (acknowledgements k (given n w event ++ (base_of v n).messages) ++ rest)
  grouped rest =
      ap (λ (xs : List Rsl). xs ++ (acknowledgements k (base_of v n).messages ++ rest))
      (to_arrive_then at w event there.station rests.pops good)
      ∙ append_assoc before gave (acknowledgements k (base_of v n).messages ++ rest)
      ∙ ap (λ (xs : List Rsl). before ++ xs) (sym (append_assoc gave (acknowledgements k (base_of v n).messages) rest)
      ∙ ap (λ (xs : List Rsl). xs ++ rest) (sym (acks_append k (given n w event) (base_of v n).messages)))

  by : OutboxStep n w event v → PipeStep n k w event v → to_arrive v at ≡ []
  by (kept_order up all) (flows acks active) =
      grouped (due k (is_active_at v at) (outbox_of v n))
      ∙ ap (λ (xs : List Rsl). before ++ (xs ++ due k (is_active_at v at) (outbox_of v n))) acks
      ∙ ap (λ (xs : List Rsl). before ++ xs) (append_assoc made (due k (is_active_at w at) (taken n w event)) (due k (is_active_at v at) (outbox_of v n))
      ∙ ap (λ (b : Bool). made ++ (due k (is_active_at w at) (taken n w event) ++ due k b (outbox_of v n))) active
      ∙ ap (λ (xs : List Rsl). made ++ xs) (sym (due-append k (is_active_at w at) (taken n w event) (outbox_of v n))
      ∙ ap (due k (is_active_at w at)) (sym outbox)))
      ∙ silent where
        outbox : outbox_of w n ≡ taken n w event ++ outbox_of v n
        outbox = sym (append-nil (outbox_of w n)) ∙ ap (λ (entries : List OutboxEntry). outbox_of w n ++ entries) (sym (nothing_put n w event rests.outputs)) ∙ all
  by (breaks broken nothing nobody) (flows acks active) =
      ap (λ (l : Link). acknowledged_in at v.inbox ++ (acknowledgements k (base_of v n).messages ++ due k (is_active_at v at) l.outbox)) broken
      ∙ grouped []
      ∙ ap (λ (xs : List Rsl). before ++ (xs ++ [])) (acks ∙ ap (λ (entries : List OutboxEntry). made ++ due k (is_active_at w at) entries) nobody)
      ∙ ap (λ (xs : List Rsl). xs ++ ((made ++ []) ++ [])) first ∙ ap (λ (xs : List Rsl). (xs ++ []) ++ []) second
  by outboxes (stops down left dropped nothing nobody) =
      ap (λ (xs : List Rsl). xs ++ (acknowledgements k (base_of v n).messages ++ due k (is_active_at v at) (outbox_of v n))) (to_arrive_then at w event there.station rests.pops good)
      ∙ ap (λ (ms : List Rsl). (before ++ acknowledgements k ms) ++ (acknowledgements k (base_of v n).messages ++ due k (is_active_at v at) (outbox_of v n))) nothing
      ∙ ap (λ (ms : List Rsl). (before ++ []) ++ (acknowledgements k ms ++ due k (is_active_at v at) (outbox_of v n))) left
      ∙ ap (λ (entries : List OutboxEntry). (before ++ []) ++ due k (is_active_at v at) entries) dropped
      ∙ ap (λ (xs : List Rsl). (xs ++ []) ++ []) first

-- ---- a turn of the controller

hear-used : (heard : List Rsl) (state : ChannelState) (number : ℕ) → state ≡ InUse number → hear heard state ≡ InUse number
hear-used (rsl.RfChannelReleaseAck channel ∷ rest) (Releasing m) number is = absurd cc
hear-used _ _ number is = is

-- what is still to arrive once this was heard, but for what is put now
abbrev rest_of : Actors → Actors → Place → List Rsl
rest_of w v at = acknowledged_in at v.inbox ++ (acknowledgements at.number (base_of w at.station).messages ++ due at.number (is_active_at w at) (outbox_of w at.station))

module _ (owner : Tenure → ℕ) (w v : Actors) (at : Place) (target : Option Tenure) (t : Turn) (heard : List Rsl) (turned : Turned w v at target t heard) (serves : Serves owner w at target t heard) (agrees : Agrees owner w at) where
  came_first : to_arrive w at ≡ heard ++ rest_of w v at
  came_first =
      ap (λ (xs : List Rsl). xs ++ (acknowledgements at.number (base_of w at.station).messages ++ due at.number (is_active_at w at) (outbox_of w at.station))) turned.inbox
      ∙ append_assoc heard (acknowledged_in at v.inbox) (acknowledgements at.number (base_of w at.station).messages ++ due at.number (is_active_at w at) (outbox_of w at.station))

  comes_then : to_arrive v at ≡ rest_of w v at ++ due at.number (active_behind w at) turned.entries
  comes_then =
      ap (λ (b : BaseState). acknowledged_in at v.inbox ++ (acknowledgements at.number b.messages ++ due at.number (is_active b.active at.number) (outbox_of v at.station))) turned.base
      ∙ ap (λ (es : List OutboxEntry). acknowledged_in at v.inbox ++ (acknowledgements at.number (base_of w at.station).messages ++ due at.number (is_active_at w at) es)) turned.outbox
      ∙ ap (λ (xs : List Rsl). acknowledged_in at v.inbox ++ (acknowledgements at.number (base_of w at.station).messages ++ xs)) (due-append at.number (is_active_at w at) (outbox_of w at.station) turned.entries)
      ∙ ap (λ (xs : List Rsl). acknowledged_in at v.inbox ++ xs) (sym (append_assoc (acknowledgements at.number (base_of w at.station).messages) (due at.number (is_active_at w at) (outbox_of w at.station)) (due at.number (active_behind w at) turned.entries)))
      ∙ sym (append_assoc (acknowledged_in at v.inbox) (acknowledgements at.number (base_of w at.station).messages ++ due at.number (is_active_at w at) (outbox_of w at.station)) (due at.number (active_behind w at) turned.entries))

  -- of a channel that is in use before and after it, nothing is due for what it puts
  none_due : (number : ℕ) →
      channel_state w.controller at ≡ InUse number →
      channel_state t.next at ≡ InUse number →
      hears t.next at.station ≡ true →
      due at.number (active_behind w at) turned.entries ≡ []
  none_due number used still hearing = by (is_up w at.station) refl where
    by : (up : Bool) → is_up w at.station ≡ up → due at.number (active_behind w at) turned.entries ≡ []
    by false down = ap (due at.number (active_behind w at)) (turned.down down)
    by true up =
        let heard_state : hear heard (channel_state w.controller at) ≡ InUse number = hear-used heard (channel_state w.controller at) number used in
        let puts = runs_put_before owner at target (tenure_behind w at).number (serves.moves hearing) (serves.fits hearing up) (active_behind w at)
        ((agrees.way (serves.hearing hearing)).active up ∙ ap (λ (s : ChannelState). is_in_use s) (used ∙ sym heard_state)) in
        let one : List Rsl = activation_ack at.number ∷ [] in
        let all = puts.works.owed one (subst (λ (s : ChannelState). IsOwed at.number s one) (sym heard_state) begins) in
        ap (due at.number (active_behind w at)) (turned.joins up)
        ∙ one_at_most at.number number (channel_state t.next at) _ one _ all still refl (λ is. absurd cc)

  turn_silent : (number : ℕ) →
      channel_state w.controller at ≡ InUse number →
      channel_state t.next at ≡ InUse number →
      hears t.next at.station ≡ true →
      rest_of w v at ≡ [] →
      to_arrive v at ≡ []
  turn_silent number used still hearing none = comes_then ∙ ap (λ (xs : List Rsl). xs ++ due at.number (active_behind w at) turned.entries) none ∙ none_due number used still hearing

  -- where nothing was still to arrive, nothing is still to arrive
  pub turn_kept : (number : ℕ) →
      channel_state w.controller at ≡ InUse number →
      channel_state t.next at ≡ InUse number →
      hears t.next at.station ≡ true →
      to_arrive w at ≡ [] →
      to_arrive v at ≡ []
  turn_kept number used still hearing silent = turn_silent number used still hearing (both_empty heard (rest_of w v at) (sym silent ∙ came_first)).1

  -- nor where an acknowledgement is taken
  pub turn_begins : (number : ℕ) →
      channel_state w.controller at ≡ InUse number →
      channel_state t.next at ≡ InUse number →
      hears t.next at.station ≡ true →
      heard ≢ [] →
      to_arrive v at ≡ []
  turn_begins number used still hearing some =
      let way = agrees.way (serves.hearing hearing) in
      let none : rest_of w v at ++ way.lost ≡ [] =
      one_at_most at.number number (channel_state w.controller at) (to_arrive w at ++ way.lost) heard (rest_of w v at ++ way.lost) way.owed used (ap (λ (xs : List Rsl). xs ++ way.lost) came_first ∙ append_assoc heard (rest_of w v at) way.lost) some in
      turn_silent number used still hearing (both_empty (rest_of w v at) way.lost (sym none)).0

-- ---- an ACTIVATION ACK that arrives at a connection is heard of its channel

no_brought : (c : Controller) (number : ℕ) (at p : Place) (input : Input) (state : ChannelState) →
    channel_state c p ≡ state →
    IsBrought (if_held number (holder state) input) (inputs.ActivationAck at) →
    (inputs.ActivationAck at ≡ input) × (channel_state c p ≢ Free)
no_brought c number at p input Free is brought = absurd brought
no_brought c number at p input (InUse k) is brought = by (k == number) brought where
  by : (b : Bool) →
      IsBrought (if b then comes_in input else none_in) (inputs.ActivationAck at) →
      (inputs.ActivationAck at ≡ input) × (channel_state c p ≢ Free)
  by true same = (same, λ free. absurd (let both : Free ≡ InUse k = sym free ∙ is in cc))
  by false same = absurd same
no_brought c number at p input (Releasing k) is brought = by (k == number) brought where
  by : (b : Bool) →
      IsBrought (if b then comes_in input else none_in) (inputs.ActivationAck at) →
      (inputs.ActivationAck at ≡ input) × (channel_state c p ≢ Free)
  by true same = (same, λ free. absurd (let both : Free ≡ Releasing k = sym free ∙ is in cc))
  by false same = absurd same

-- it arrives on a channel that isn't free
record AcksOn (c : Controller) (word : Word) (at : Place) : Type 0 where
  on : Place
  is : word ≡ OnChannel on (inputs.ActivationAck at)
  busy : channel_state c on ≢ Free

acks_on : (c : Controller) (number source : ℕ) (word : Word) (at : Place) →
    IsFrom source word →
    IsBrought (brought_by c number word) (inputs.ActivationAck at) →
    AcksOn c word at
acks_on c number source (OnChannel p input) at from brought =
    let both = no_brought c number at p input (channel_state c p) refl brought in
    record { on = p; is = ap (OnChannel p) (sym both.0); busy = both.1 }
acks_on c number source (OnConnection m input) at from brought = by (m == number) brought where
  by : (b : Bool) → IsBrought (if b then comes_in input else none_in) (inputs.ActivationAck at) → AcksOn c (OnConnection m input) at
  by true same = absurd (subst IsOfSwitch (sym same) from.1)
  by false same = absurd same
acks_on c number source (Reports p of report) at from brought = absurd cc
acks_on c number source _ at from brought = absurd brought

-- the message that begins a tenure for the controller
ack_of : (w : Actors) (source : ℕ) (m : Rsl) (at : Place) →
    acknowledged_tenure w source (Some m) ≡ Some (tenure_at w at) →
    (a : ActivationAck) × (m ≡ rsl.ChannelActivationAck a) × (place_at source a.channel ≡ at)
ack_of w source (rsl.ChannelActivationAck a) at is = (a, refl, ap (λ (t : Tenure). t.at) (same_Some _ _ is))
ack_of w source _ at is = absurd cc

ack_says : (w : Actors) (source : ℕ) (frame : Frame) (m : Rsl) (on at : Place) →
    source ≢ SWITCH_LINK →
    word_of source frame ≡ rsl_word source m →
    word_of source frame ≡ OnChannel on (inputs.ActivationAck at) →
    acknowledged_tenure w source (Some m) ≡ Some (tenure_at w at)
ack_says w source frame m on at station word is = (subst (SaysWord source m) (sym word ∙ is) (message_says source m) tt).acknowledges w

bound_heard : (at : Place) (source : ℕ) (frame : Frame) (a : ActivationAck) →
    rsl_in frame ≡ Some (rsl.ChannelActivationAck a) →
    place_at source a.channel ≡ at →
    heard_of at (record { source = source; what = whats.Frame frame }) ≡ rsl.ChannelActivationAck a ∷ []
bound_heard at source frame a says here =
    ap (λ (b : Bool). acknowledgements at.number (if b then option_to_list (rsl_in frame) else [])) (eq-eqb source at.station (ap (λ (p : Place). p.station) here))
    ∙ ap (λ (o : Option Rsl). acknowledgements at.number (option_to_list o)) says
    ∙ ap (λ (b : Bool). cond b (rsl.ChannelActivationAck a ∷ []) []) (eq-eqb a.channel at.number (ap (λ (p : Place). p.number) here))

known_acks : (w : Actors) (source : ℕ) (frame : Frame) (m : Rsl) (on at : Place) →
    source ≢ SWITCH_LINK →
    rsl_in frame ≡ Some m →
    word_of source frame ≡ rsl_word source m →
    word_of source frame ≡ OnChannel on (inputs.ActivationAck at) →
    heard_of at (record { source = source; what = whats.Frame frame }) ≢ []
known_acks w source frame m on at station says word is none = by (ack_of w source m at (ack_says w source frame m on at station word is)) where
  by : (a : ActivationAck) × (m ≡ rsl.ChannelActivationAck a) × (place_at source a.channel ≡ at) → ⊥
  by (a, acked, here) = absurd (let both : rsl.ChannelActivationAck a ∷ [] ≡ [] = sym (bound_heard at source frame a (says ∙ ap Some acked) here) ∙ none in cc)

item_acks : (w : Actors) (c : Controller) (number source : ℕ) (what : What) (at : Place) →
    AreUsed c →
    IsKnownItem (record { source = source; what = what }) →
    (up : Bool) →
    IsBrought (if up then brought_with c number source what else none_in) (inputs.ActivationAck at) →
    heard_of at (record { source = source; what = what }) ≢ []
item_acks w c number source what at used known false brought none = absurd brought
item_acks w c number source whats.Down at used known true brought none = by (source == SWITCH_LINK) brought where
  by : (b : Bool) → inputs.ActivationAck at ≡ (if b then inputs.SwitchDown else inputs.StationDown source) → ⊥
  by true same = absurd cc
  by false same = absurd cc
item_acks w c number source (whats.Frame frame) at used known true brought none =
    let acks : AcksOn c (word_of source frame) at = acks_on c number source (word_of source frame) at (word_from source frame) brought in
    let from : IsFrom source (OnChannel acks.on (inputs.ActivationAck at)) = subst (IsFrom source) acks.is (word_from source frame) in
    let station : source ≢ SWITCH_LINK = λ switch. acks.busy (ap (λ (k : ℕ). channel_state c (place_at k acks.on.number)) (from.0 ∙ switch) ∙ used.switch acks.on.number) in
    let (m, is, read, no_nack) = known.station station in
    let word : word_of source frame ≡ rsl_word source m = ap (word_of source) is ∙ word_known source m station read in
    known_acks w source frame m acks.on at station (ap rsl_in is ∙ read_known m read) word acks.is none

pub ack_heard : (w : Actors) (c : Controller) (number : ℕ) (item : Item) (at : Place) →
    AreUsed c →
    IsKnownItem item →
    IsBrought (brought_in c number (Take item)) (inputs.ActivationAck at) →
    heard_of at item ≢ []
ack_heard w c number item at used known brought = item_acks w c number item.source item.what at used known (hears c item.source) brought
