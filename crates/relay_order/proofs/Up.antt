-- SPDX-License-Identifier: MIT OR Apache-2.0
-- The messages that a switch accepts are in order, for any beginning of the octets written to it.
use Rattle.std.proofs.Common.{◌≡◌, ℕ, suc, ◌+◌, ◌≤◌, ◌<◌, Bool, false, List, [], ◌∷◌, ◌++◌, length, Option, Some, None, IsSome, refl, sym, ap, ◌∙◌, subst, append_assoc, arith, ⊎_elim, option_map, length-append}
use Rattle.std.specs.List.{AllByRecursion}
use Rattle.std.specs.Option.{is_none, option_and_then}
use Rattle.conn_messages.specs.declared.parameters.TheConstants.{SWITCH_LINK}
use Rattle.controller_model.specs.Controller.{new_controller}
use Rattle.controller_model.specs.Life.{life}
use Rattle.controller_model.specs.declared.step.Step.{Step}
use Rattle.controller_model.proofs.LifeLaws.SoundLife.{life_sends_all}
use Rattle.controller_worker.specs.Steps.{frames_to, over}
use Rattle.ipa_framing.specs.declared.frame.Frame.{Frame}
use Rattle.ipa_framing.specs.Frame.{IsFrame}
use Rattle.link_workers.specs.Reading.{frames_text}
use Rattle.msc_end.specs.declared.connection.Connection.{Connection}
use Rattle.msc_end.specs.Switch.{accepted_on, connection_of, has_gap_on, taken_on}
use Rattle.msc_end.specs.SwitchState.{SwitchState}
use Rattle.nsd_filter.specs.AcceptedList.{accepted_list, progress}
use Rattle.octets.specs.Lists.{IsPrefix}
use Rattle.relay_order.specs.Explains.{Explains}
use Rattle.relay_order.specs.Order.{BeginsWithMessage, IsBeginningOfSent, IsInOrderUp, mobile_of}
use Rattle.relay_order.specs.Run.{IsRun, Run}
use Rattle.relay_order.specs.Switch.{FindConnections, new_switch, switch_given, taking}
use Rattle.relay_order.proofs.Delayed.{Delayed}
use Rattle.relay_order.proofs.Framing.{frames_of_cut}
use Rattle.relay_order.proofs.Live.{finds_all}
use Rattle.relay_order.proofs.Parts.{connected_still, sent_still, served_still}
use Rattle.relay_order.proofs.Reading.{given_alike, messages_of, seen_alike}
use Rattle.relay_order.proofs.Taking.{Carries, Part, after_both, carries, frames_of, octets_first, part_of, taken_both}
use Rattle.settings.specs.Parameters.{AreAllowed, Parameters}
use Rattle.station_io.specs.Octets.{frames_in, octets_put}
use Rattle.station_io.proofs.Octets.{sent_are_frames}
use Rattle.std.proofs.lemmas.Bool.{cases_lt}
use Rattle.std.proofs.lemmas.List.{map-append}
use Rattle.world.proofs.SwitchHistory.{AreAlike}
use Rattle.world_laws.specs.Order.OctetEvents.{AreOctetEvents}
use Rattle.world_laws.specs.Order.Openers.{first_served}
use Rattle.world_laws.specs.Order.Order.{IsInOrderFor}
use Rattle.world_laws.proofs.Order.Fairly.{ArriveInOctets-new}
use Rattle.world_laws.proofs.Order.Whole.{runs_are_in_order}
use Rattle.world_model.specs.declared.event.Event.{Event}
use Rattle.world_model.specs.declared.line.OutboxEntry.{OutboxEntry}
use Rattle.world_model.specs.Life.{actors_after_all}
use Rattle.world_model.specs.Queues.{all_taken}
use Rattle.world_model.specs.Steps.{all_outputs, all_steps}
use Rattle.world_model.specs.Views.{sent}
use Rattle.world_model.specs.World.{Actors, modulus_in, new_actors}
use Rattle.world_model.proofs.Living.{RunsByTable-new}
use Rattle.world_openers.proofs.Openers.{openers_messages_are_first_new}

-- ---- the octets that are put are those of what the controller of the network puts

abbrev frames_put : Parameters → List Event → ℕ → List Frame
frames_put settings events link = frames_to link (all_outputs (new_actors settings) events)

pub outs_are : (settings : Parameters) (events : List Event) →
    (life settings (all_steps (new_actors settings) events)).outs ≡ all_outputs (new_actors settings) events
outs_are settings events = ap (λ (t : _). t.outs) (sym (RunsByTable-new settings events))

pub put_is : (settings : Parameters) (run : Run) (events : List Event) → Explains settings run events → (link : ℕ)
    → octets_put (new_controller settings) run.order run.came link ≡ frames_text (frames_put settings events link)
unfolding life
put_is settings run events explains link =
    ap (λ (steps : List Step). frames_text (frames_to link (over (new_controller settings) steps).outs)) (sym explains.steps)
    ∙ ap (λ (outs : _). frames_text (frames_to link outs)) (outs_are settings events)

pub put_are_frames : (settings : Parameters) (events : List Event) →
    AreAllowed settings →
    AreOctetEvents events →
    (link : ℕ) →
    AllByRecursion IsFrame (frames_put settings events link)
put_are_frames settings events allowed octets link =
    let steps : List Step = all_steps (new_actors settings) events in
    subst (λ (outs : _). AllByRecursion IsFrame (frames_to link outs)) (outs_are settings events)
    (sent_are_frames link (life settings steps).outs (life_sends_all settings steps allowed (ArriveInOctets-new settings events allowed octets)))

prefix_then : {X : Type 0} (xs ys zs : List X) → IsPrefix xs ys → IsPrefix ys zs → IsPrefix xs zs
prefix_then xs ys zs one two = (one.0 ++ two.0, sym (append_assoc xs one.0 two.0) ∙ ap (λ (l : List _). l ++ two.0) one.1 ∙ two.1)

-- what was written on a link is a beginning of them
pub written_is : (settings : Parameters) (links : ℕ) (run : Run) (events : List Event) → IsRun settings links run → Explains settings run events → (link : ℕ)
    → IsPrefix (run.written link) (frames_text (frames_put settings events link))
written_is settings links run events is explains link = ⊎_elim there nowhere (cases_lt link links)
  where
    there : link < links → IsPrefix (run.written link) (frames_text (frames_put settings events link))
    there less = subst (IsPrefix (run.written link)) (put_is settings run events explains link) (is.part link less)

    nowhere : links ≤ link → IsPrefix (run.written link) (frames_text (frames_put settings events link))
    nowhere past =
        (frames_text (frames_put settings events link), ap (λ (os : List ℕ). os ++ frames_text (frames_put settings events link)) (is.no_others link past))

-- and the whole frames in a beginning of that are a beginning of what is put
pub cut_is : (settings : Parameters) (links : ℕ) (run : Run) (events : List Event) → IsRun settings links run → Explains settings run events → (link : ℕ) (beginning : List ℕ)
    → IsPrefix beginning (run.written link) → IsPrefix (frames_in beginning) (frames_put settings events link)
cut_is settings links run events is explains link beginning cut =
    frames_of_cut (frames_put settings events link) beginning (put_are_frames settings events explains.allowed explains.octets link)
    (prefix_then beginning (run.written link) (frames_text (frames_put settings events link)) cut (written_is settings links run events is explains link))

-- ---- events whose switch took just that

same_length : {X : Type 0} (xs ys a b : List X) → xs ++ a ≡ ys ++ b → length xs ≡ length ys → xs ≡ ys
same_length [] [] a b e size = refl
same_length [] (y ∷ ys) a b e size = absurd (omega (arith, size))
same_length (x ∷ xs) [] a b e size = absurd (omega (arith, size))
same_length {X} (x ∷ xs) (y ∷ ys) a b e size =
    let head : x ≡ y = cc e in
    let tail : xs ++ a ≡ ys ++ b = cc e in
    ap (λ (z : X). z ∷ xs) head ∙ ap (λ (zs : List X). y ∷ zs) (same_length xs ys a b tail (omega (arith, size)))

-- the switch took these frames; connections are the same mobiles', which sent the same or less
pub record Took (settings : Parameters) (events : List Event) (frames : List Frame) : Type 0 where
  pub part : List Event
  pub octets : AreOctetEvents part
  pub all : frames_of (all_taken SWITCH_LINK (new_actors settings) part) ≡ frames
  pub names : (number mobile : ℕ) →
      first_served (new_actors settings) part number ≡ Some mobile →
      first_served (new_actors settings) events number ≡ Some mobile
  pub sent : (mobile : ℕ) (list : List (List ℕ)) → sent (actors_after_all (new_actors settings) part) mobile ≡ Some list
      → (more : List (List ℕ)) × (sent (actors_after_all (new_actors settings) events) mobile ≡ Some (list ++ more))
  pub connected : (mobile : ℕ) (initial : List ℕ) → Rattle.world_openers.specs.Initials.initial_of (new_actors settings) part mobile ≡ Some initial
      → Rattle.world_openers.specs.Initials.initial_of (new_actors settings) events mobile ≡ Some initial

size_of : (entries : List OutboxEntry) → length (frames_of entries) ≡ length entries
size_of [] = refl
size_of (e ∷ es) = ap suc (size_of es)

took_part : (settings : Parameters) (events whole : List Event) (frames : List Frame) → Carries settings events whole → IsPrefix frames (frames_put settings events SWITCH_LINK)
    → Part (new_actors settings) whole (length frames) → Took settings events frames
took_part settings events whole frames carried cut part =
    let begin : Actors = new_actors settings in
    let octets : AreOctetEvents (part.first ++ part.rest) = subst AreOctetEvents (sym part.split) carried.octets in
    let later : List OutboxEntry = all_taken SWITCH_LINK (actors_after_all begin part.first) part.rest in
    let whole_is : frames_of (all_taken SWITCH_LINK begin part.first) ++ frames_of later ≡ frames ++ cut.0 =
    sym (map-append (λ (entry : OutboxEntry). entry.out.frame) (all_taken SWITCH_LINK begin part.first) later)
    ∙ ap frames_of (sym (taken_both begin part.first part.rest) ∙ ap (λ (es : List Event). all_taken SWITCH_LINK begin es) part.split)
    ∙ carried.all ∙ sym cut.1 in
    record {
      part = part.first;
      octets = octets_first part.first part.rest octets;
      all = same_length (frames_of (all_taken SWITCH_LINK begin part.first)) frames (frames_of later) cut.0 whole_is (size_of (all_taken SWITCH_LINK begin part.first) ∙ part.taken);
      names = λ number mobile is.
          carried.names number mobile (ap (λ (es : List Event). first_served begin es number) (sym part.split) ∙ served_still begin part.first part.rest number mobile is);
      sent = λ mobile list is.
          let still = sent_still (actors_after_all begin part.first) part.rest mobile list is in
          let at_end = carried.sent mobile (list ++ still.0)
          (ap (λ (es : List Event). sent (actors_after_all begin es) mobile) (sym part.split) ∙ ap (λ (u : Actors). sent u mobile) (after_both begin part.first part.rest) ∙ still.1) in
          (still.0 ++ at_end.0, at_end.1 ∙ ap (λ (xs : List (List ℕ)). Some xs) (append_assoc list still.0 at_end.0));
      connected = λ mobile initial is.
          carried.connected mobile initial
          (ap (λ (es : List Event). Rattle.world_openers.specs.Initials.initial_of begin es mobile) (sym part.split) ∙ connected_still begin part.first part.rest mobile initial is);
    }

fits : (settings : Parameters) (events whole : List Event) (frames : List Frame) → Carries settings events whole → IsPrefix frames (frames_put settings events SWITCH_LINK)
    → length frames ≤ length (all_taken SWITCH_LINK (new_actors settings) whole)
fits settings events whole frames carried cut =
    let size : length frames + length cut.0 ≡ length (all_taken SWITCH_LINK (new_actors settings) whole) =
    sym (length-append frames cut.0) ∙ ap length cut.1 ∙ sym (ap length carried.all) ∙ size_of (all_taken SWITCH_LINK (new_actors settings) whole) in
    omega (arith, size)

pub took : (settings : Parameters) (events whole : List Event) (frames : List Frame) →
    Carries settings events whole →
    IsPrefix frames (frames_put settings events SWITCH_LINK) →
    Took settings events frames
took settings events whole frames carried cut =
    took_part settings events whole frames carried cut (part_of (new_actors settings) whole (length frames) (fits settings events whole frames carried cut))

-- ---- what the switch makes of it

found : {X Y : Type 0} (f : X → Option Y) (o : Option X) (y : Y) → option_and_then f o ≡ Some y → (x : X) × (o ≡ Some x) × (f x ≡ Some y)
found f None y is = absurd (cc is)
found f (Some x) y is = (x, refl, is)

peer_is : (o : Option Connection) (peer : ℕ) →
    option_map (λ (c : Connection). c.peer) o ≡ Some peer →
    (c : Connection) × (o ≡ Some c) × (c.peer ≡ peer)
peer_is None peer is = absurd (cc is)
peer_is (Some c) peer is = (c, refl, cc is)

module _ (settings : Parameters) (events : List Event) (allowed : AreAllowed settings) (frames : List Frame) (here : Took settings events frames) (given : SwitchState)
    (alike : AreAlike (actors_after_all (new_actors settings) here.part).switch given) where
  owner : (connection mobile : ℕ) →
      Rattle.world_laws.specs.Order.Order.opener_of (new_actors settings) here.part connection ≡ Some mobile →
      mobile_of settings events given connection ≡ Some mobile
  owner connection mobile opened =
      let c = found (λ (c : Connection). first_served (new_actors settings) here.part c.peer) (connection_of (actors_after_all (new_actors settings) here.part).switch.connections connection) mobile opened in
      let same = peer_is (connection_of given.connections connection) c.0.peer
      (sym (seen_alike (λ (c : Connection). c.peer) (λ c. refl) (actors_after_all (new_actors settings) here.part).switch given alike connection) ∙ ap (option_map (λ (c : Connection). c.peer)) c.1) in
      ap (option_and_then (λ (c : Connection). first_served (new_actors settings) events c.peer)) same.1
      ∙ ap (first_served (new_actors settings) events) same.2
      ∙ here.names c.0.peer mobile c.2

  order : IsInOrderFor (new_actors settings) here.part
  order = runs_are_in_order settings here.part allowed here.octets

  accepted_is : (connection : ℕ) (list : List (List ℕ)) →
      accepted_on given connection ≡ Some list →
      IsBeginningOfSent settings events (mobile_of settings events given connection) list
  accepted_is connection list is =
      let first = order.in_order connection list
      (seen_alike (λ (c : Connection). accepted_list c.reception.modulus c.reception.taken) (λ c. refl) (actors_after_all (new_actors settings) here.part).switch given alike connection ∙ is) in
      let more = here.sent first.mobile first.sent_list first.is_sent in
      record {
        mobile = first.mobile;
        owned = owner connection first.mobile first.opened;
        sent_list = first.sent_list ++ more.0;
        is_sent = more.1;
        is_prefix = prefix_then list first.sent_list (first.sent_list ++ more.0) first.is_prefix (more.0, refl);
      }

  opened_is : (connection : ℕ) (list : List (List ℕ)) →
      taken_on given connection ≡ Some list →
      BeginsWithMessage settings events (mobile_of settings events given connection) list
  opened_is connection list is =
      let first = openers_messages_are_first_new settings here.part allowed here.octets connection list
      (seen_alike (λ (c : Connection). c.reception.taken) (λ c. refl) (actors_after_all (new_actors settings) here.part).switch given alike connection ∙ is) in
      record {
        mobile = first.mobile;
        owned = owner connection first.mobile first.opened;
        initial = first.initial;
        connected = here.connected first.mobile first.initial first.connected;
        others = first.others;
        first = first.first;
      }

  gap_by : (o : Option (Option ℕ)) (gap : Bool) → ((p : Option ℕ) → o ≡ Some p → IsSome p) → option_map is_none o ≡ Some gap → gap ≡ false
  gap_by None gap some is = absurd (cc is)
  gap_by (Some None) gap some is = absurd (cc (some None refl))
  gap_by (Some (Some n)) gap some is = sym (cc is)

  twice : (o : Option Connection) →
      option_map (λ (c : Connection). is_none (progress c.reception.modulus c.reception.taken)) o ≡ option_map is_none (option_map (λ (c : Connection). progress c.reception.modulus c.reception.taken) o)
  twice None = refl
  twice (Some c) = refl

  no_gap_is : (connection : ℕ) (gap : Bool) → has_gap_on given connection ≡ Some gap → gap ≡ false
  no_gap_is connection gap is =
      gap_by (option_map (λ (c : Connection). progress c.reception.modulus c.reception.taken) (connection_of (actors_after_all (new_actors settings) here.part).switch.connections connection)) gap (order.no_gap connection)
      (ap (option_map is_none)
      (seen_alike (λ (c : Connection). progress c.reception.modulus c.reception.taken) (λ c. refl) (actors_after_all (new_actors settings) here.part).switch given alike connection)
      ∙ sym (twice (connection_of given.connections connection)) ∙ is)

pub up : (settings : Parameters) (links : ℕ) (run : Run) (events other : List Event) → IsRun settings links run → Explains settings run events → Delayed settings events other
    → (beginning : List ℕ) → IsPrefix beginning (run.written SWITCH_LINK) → IsInOrderUp settings events beginning (switch_given (modulus_in settings) beginning)
up settings links run events other is explains delayed beginning cut =
    let frames : List Frame = frames_in beginning in
    let carried = carries settings events other delayed in
    let here : Took settings events frames = took settings events carried.0 frames carried.1 (cut_is settings links run events is explains SWITCH_LINK beginning cut) in
    let given : SwitchState = switch_given (modulus_in settings) beginning in
    let alike : AreAlike (actors_after_all (new_actors settings) here.part).switch given =
    subst (λ (fs : List Frame). AreAlike (actors_after_all (new_actors settings) here.part).switch (taking (new_switch (modulus_in settings)) (messages_of fs))) here.all (given_alike settings here.part) in
    record {
      accepted = accepted_is settings events explains.allowed frames here given alike;
      opened = opened_is settings events explains.allowed frames here given alike;
      no_gap = no_gap_is settings events explains.allowed frames here given alike;
      live = subst (λ (fs : List Frame). FindConnections (new_switch (modulus_in settings)) (messages_of fs)) here.all (finds_all settings here.part explains.allowed here.octets);
    }
