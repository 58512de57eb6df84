-- SPDX-License-Identifier: MIT OR Apache-2.0
-- A COMMAND is sent on the serving channel of its connection.
use Rattle.world_laws.proofs.Prelude.{◌≡◌, ◌≢◌, ◌⊎◌, inl, inr, ℕ, ◌==◌, Bool, true, false, cond, if◌then◌else◌, List, [], ◌∷◌, ◌++◌}
use Rattle.world_laws.proofs.Prelude.{Option, Some, None, refl, sym, ap, ◌∙◌, subst, eqb-true, flat_map, AllByRecursion, Channel, Place}
use Rattle.world_laws.proofs.Prelude.{Station, Out, outs_of, Preparing, State, WaitActivation}
use Rattle.world_laws.proofs.Prelude.{Live, Connection, is_at, Row, IsOpen, assign_immediately, command_to}
use Rattle.world_laws.proofs.Prelude.{on_activation_ack, IsSent, ChannelState, Free, InUse, Releasing, Word, Controller, Entry}
use Rattle.world_laws.proofs.Prelude.{channel_state, entry_of, ignoring, hears, place_at, place_of, by_fitting, concerning, entry_at}
use Rattle.world_laws.proofs.Prelude.{on_state, on_what, on_word, row_in, rsl_word, Frame, What, DataMessage, Rsl, AirMessage, Tenure}
use Rattle.world_laws.proofs.Prelude.{acknowledged_tenure, target_in, rsl_in, Actors, IsKnown, IsKnownItem, entries_to, said_to, if_is}
use Rattle.world_laws.proofs.Prelude.{out_of, word_of, leading, leading_by, leading_from_outbox, entry_out}
use Rattle.conn_rules.specs.declared.input.Input.TheVariants as inputs
use Rattle.conn_rules.specs.Table.{row_of}
use Rattle.ruled_relay.specs.declared.item.What.TheVariants as whats
use Rattle.rsl_codec.specs.declared.common_channel.ImmediateAssignment.{ImmediateAssignment as Assignment}
use Rattle.rsl_codec.specs.declared.rsl.Rsl.TheVariants as rsl
use Rattle.world_model.specs.Relay.{commands, entry_of as outbox_entry}
use Rattle.world_laws.proofs.OrderHeard.{read_known, word_known}
use Rattle.world_laws.proofs.OwnerRun.{source_or}
use Rattle.world_laws.proofs.Targets.FreeQuiet.{leads_none}
use Rattle.world_laws.proofs.OrderLeads.{no_request, request_place}

-- a connection that is open and serves on the channel
pub record ServesOn (at : Place) (c : Controller) : Type 0 where
  pub number : ℕ
  pub entry : Entry
  pub there : entry_of c number ≡ Some entry
  pub is_open : IsOpen entry.connection.state
  pub serves : place_of entry.connection.serving ≡ at

abbrev pub LeadsOn : Place → Controller → Out → Type 0
LeadsOn at c out = (d : DataMessage) → said_to at out ≡ Some (rsl.DataRequest d) → d.channel ≡ at.number → ServesOn at c

assignment_leads : (at : Place) (c : Controller) (n station : ℕ) (i : Assignment) →
    IsSent (out_of n (Station station (rsl.ImmediateAssignCommand i))) →
    LeadsOn at c (out_of n (Station station (rsl.ImmediateAssignCommand i)))
assignment_leads at c n station i sent d is same = no_request at n station i d sent is

command_leads : (at : Place) (c : Controller) (n k : ℕ) (e : Entry) (serving : Channel) (r : DataMessage) →
    r.channel ≡ serving.number →
    e.connection.serving ≡ serving →
    entry_of c k ≡ Some e →
    IsOpen e.connection.state →
    IsSent (out_of n (Station serving.station (rsl.DataRequest r))) →
    LeadsOn at c (out_of n (Station serving.station (rsl.DataRequest r)))
command_leads at c n k e serving r on serves there is_open sent d is same =
    let place = request_place at n serving r d on sent is same in
    record { number = k; entry = e; there = there; is_open = is_open; serves = ap place_of serves ∙ place }

abbrev AllLead : Place → Controller → List Out → Type 0
AllLead at c outs = AllByRecursion IsSent outs → AllByRecursion (LeadsOn at c) outs

ack_row : (at p : Place) (c : Controller) (n k : ℕ) (e : Entry) (state : State) (s : Connection) (r : Row) →
    s ≡ e.connection →
    s.state ≡ state →
    on_activation_ack state s p ≡ Some r →
    entry_of c k ≡ Some e →
    AllLead at c (outs_of n r.outs)
ack_row at p c n k e WaitActivation s r own is fits there = subst (λ (q : Row). AllLead at c (outs_of n q.outs)) (if_is (is_at p s.serving) (assign_immediately s) r fits).1 (λ sent. (assignment_leads at c n s.serving.station _ sent.0, tt))
ack_row at p c n k e (Live reference (Preparing target)) s r own is fits there =
    subst (λ (q : Row). AllLead at c (outs_of n q.outs)) (if_is (is_at p target.channel) (command_to reference target s) r fits).1
    (λ sent. (command_leads at c n k e s.serving _ refl (ap (λ (x : Connection). x.serving) (sym own)) there (subst IsOpen (sym is ∙ ap (λ (x : Connection). x.state) own) tt) sent.0, tt))
ack_row at p c n k e _ s r own is fits there = absurd cc

ack_fitting : (at p : Place) (c : Controller) (k : ℕ) (e : Entry) (o : Option Row) →
    row_in c e.connection (inputs.ActivationAck p) ≡ o →
    entry_of c k ≡ Some e →
    AllLead at c (by_fitting (ignoring c) e o c).outs
unfolding row_of
ack_fitting at p c k e None is there = λ sent. tt
ack_fitting at p c k e (Some r) is there = ack_row at p c e.connection.number k e e.connection.state e.connection r refl refl is there

ack_concerning : (at p : Place) (c : Controller) (k : ℕ) (o : Option Entry) →
    entry_of c k ≡ o →
    AllLead at c (concerning (inputs.ActivationAck p) c o).outs
ack_concerning at p c k None there = λ sent. tt
ack_concerning at p c k (Some e) there = ack_fitting at p c k e (row_in c e.connection (inputs.ActivationAck p)) refl there

ack_state : (at p : Place) (c : Controller) (state : ChannelState) →
    AllLead at c (on_state state p (inputs.ActivationAck p) c (entry_at c state)).outs
ack_state at p c Free = λ sent. tt
ack_state at p c (InUse k) = ack_concerning at p c k (entry_of c k) refl
ack_state at p c (Releasing k) = ack_concerning at p c k (entry_of c k) refl

-- ---- an item of the inbox

ack_message : (at : Place) (w : Actors) (source : ℕ) (m : Rsl) →
    (acknowledged_tenure w source (Some m) ≡ None) ⊎ AllLead at w.controller (on_word source (rsl_word source m) w.controller).outs
ack_message at w source (rsl.ChannelActivationAck a) = let p : Place = place_at source a.channel in inr (ack_state at p w.controller (channel_state w.controller p))
ack_message at w source _ = inl refl

ack_frame : (at : Place) (w : Actors) (source : ℕ) (frame : Frame) (up : Bool) →
    source ≢ 0 →
    IsKnown (whats.Frame frame) →
    (acknowledged_tenure w source (rsl_in frame) ≡ None) ⊎ AllLead at w.controller (on_what up source (whats.Frame frame) w.controller).outs
ack_frame at w source frame false station known = inr (λ sent. tt)
ack_frame at w source frame true station (m, is, read, no_nack) =
    let says : rsl_in frame ≡ Some m = ap rsl_in is ∙ read_known m read in
    let word : word_of source frame ≡ rsl_word source m = ap (word_of source) is ∙ word_known source m station read in
    subst (λ (o : Option Rsl). (acknowledged_tenure w source o ≡ None) ⊎ AllLead at w.controller (on_word source (word_of source frame) w.controller).outs) (sym says)
    (subst (λ (x : Word). (acknowledged_tenure w source (Some m) ≡ None) ⊎ AllLead at w.controller (on_word source x w.controller).outs) (sym word) (ack_message at w source m))

pub ack_item : (at : Place) (w : Actors) (source : ℕ) (what : What) →
    IsKnownItem (record { source = source; what = what }) →
    (target_in w source what ≡ None) ⊎ AllLead at w.controller (on_what (hears w.controller source) source what w.controller).outs
ack_item at w source whats.Down known = inl refl
ack_item at w source (whats.Frame frame) known = elim (source_or source) [
  | inl switch ↦ inl (ap (acknowledged_tenure w source) (known.switch switch))
  | inr station ↦ ack_frame at w source frame (hears w.controller source) station (known.station station)
]

-- ---- where nobody serves on the channel, no command is put for it

entry_none : (at : Place) (target : Option Tenure) (out : Out) →
    (target ≡ None) ⊎ ((d : DataMessage) → said_to at out ≡ Some (rsl.DataRequest d) → d.channel ≡ at.number → ⊥) →
    (out.to == at.station) ≡ true →
    leading_from_outbox at.number (outbox_entry target out) ≡ []
entry_none at None out why to = leads_none at.number (rsl_in out.frame)
entry_none at (Some tenure) out (inl none) to = absurd cc
entry_none at (Some tenure) out (inr silent) to = by (rsl_in out.frame) refl where
  target : Option Tenure
  target = if commands (rsl_in out.frame) then Some tenure else None

  by : (o : Option Rsl) → rsl_in out.frame ≡ o → leading_by at.number target o ≡ []
  by (Some (rsl.DataRequest d)) is = inner (d.channel == at.number) refl where
    inner : (b : Bool) → (d.channel == at.number) ≡ b → (if b then leading d.l3 target else []) ≡ []
    inner true hit = absurd (silent d (ap (λ (b : Bool). if b then rsl_in out.frame else None) to ∙ is) (eqb-true d.channel at.number hit))
    inner false miss = refl
  by _ is = refl

pub entries_none : (at : Place) (target : Option Tenure) (outs : List Out) →
    (target ≡ None) ⊎ AllByRecursion (λ out. (d : DataMessage) → said_to at out ≡ Some (rsl.DataRequest d) → d.channel ≡ at.number → ⊥) outs →
    flat_map (leading_from_outbox at.number) (entries_to at target outs) ≡ []
entries_none at target [] why = refl
entries_none at target (out ∷ outs) why = by (out.to == at.station) refl (ap (λ (o : Out). o.to == at.station) (entry_out target out)) (entries_none at target outs (behind why)) where
  behind : (target ≡ None) ⊎ AllByRecursion (λ x. (d : DataMessage) → said_to at x ≡ Some (rsl.DataRequest d) → d.channel ≡ at.number → ⊥) (out ∷ outs) →
      (target ≡ None) ⊎ AllByRecursion (λ x. (d : DataMessage) → said_to at x ≡ Some (rsl.DataRequest d) → d.channel ≡ at.number → ⊥) outs
  behind (inl none) = inl none
  behind (inr all) = inr all.1

  first : (target ≡ None) ⊎ AllByRecursion (λ x. (d : DataMessage) → said_to at x ≡ Some (rsl.DataRequest d) → d.channel ≡ at.number → ⊥) (out ∷ outs) →
      (target ≡ None) ⊎ ((d : DataMessage) → said_to at out ≡ Some (rsl.DataRequest d) → d.channel ≡ at.number → ⊥)
  first (inl none) = inl none
  first (inr all) = inr all.0

  by : (b : Bool) →
      (out.to == at.station) ≡ b →
      ((outbox_entry target out).out.to == at.station) ≡ (out.to == at.station) →
      flat_map (leading_from_outbox at.number) (entries_to at target outs) ≡ [] →
      flat_map (leading_from_outbox at.number) (cond ((outbox_entry target out).out.to == at.station) (outbox_entry target out ∷ entries_to at target outs) (entries_to at target outs)) ≡ []
  by true to same rest =
      ap (λ (b : Bool). flat_map (leading_from_outbox at.number) (cond b (outbox_entry target out ∷ entries_to at target outs) (entries_to at target outs))) (same ∙ to)
      ∙ ap (λ (xs : List AirMessage). xs ++ flat_map (leading_from_outbox at.number) (entries_to at target outs)) (entry_none at target out (first why) to) ∙ rest
  by false to same rest = ap (λ (b : Bool). flat_map (leading_from_outbox at.number) (cond b (outbox_entry target out ∷ entries_to at target outs) (entries_to at target outs))) (same ∙ to) ∙ rest
