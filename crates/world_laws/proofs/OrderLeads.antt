-- SPDX-License-Identifier: MIT OR Apache-2.0
-- On which channel a COMMAND is sent, and to which it leads: both are in use by one connection.
use Rattle.world_laws.proofs.Prelude.{◌≡◌, ℕ, ◌==◌, ◌∷◌, option_map, Option, Some, None, refl, sym, ap, ◌∙◌, subst, inl, inr, cases_Bool}
use Rattle.world_laws.proofs.Prelude.{eqb-true, AllByRecursion, Channel, Place, Station, Out, outs_of, Preparing}
use Rattle.world_laws.proofs.Prelude.{State, WaitActivation, Live, Connection}
use Rattle.world_laws.proofs.Prelude.{is_at, target_channels, target_role, Row, IsOpen, assign_immediately, command_to, on_activation_ack}
use Rattle.world_laws.proofs.Prelude.{AreIn, IsSent, owns_entry, same_channel, Ready, here_of, ChannelState, Free, InUse, Releasing}
use Rattle.world_laws.proofs.Prelude.{Controller, Entry, channel_state, entry_of, ignoring, place_of, state_in, by_fitting, concerning}
use Rattle.world_laws.proofs.Prelude.{entry_at, on_state, row_in, DataMessage, rsl_text, asker, said_to, none-some, place-is, if_is, out_of}
use Rattle.conn_rules.specs.declared.input.Input.TheVariants as inputs
use Rattle.conn_rules.specs.Table.{row_of}
use Rattle.rsl_codec.specs.declared.common_channel.ImmediateAssignment.{ImmediateAssignment as Assignment}
use Rattle.rsl_codec.specs.declared.rsl.Rsl.TheVariants as rsl
use Rattle.world_laws.proofs.OrderTexts.{assignment_apart, read_of, said_other, said_own}

-- a DATA REQUEST on the channel is of the connection that uses it, and the channel p too
pub record LeadsUser (at p : Place) (c : Controller) : Type 0 where
  pub number : ℕ
  pub mobile : ℕ
  pub here : channel_state c at ≡ InUse number
  pub there : channel_state c p ≡ InUse number
  pub asks : asker c number ≡ Some mobile

abbrev pub LeadsOut : Place → Place → Controller → Out → Type 0
LeadsOut at p c out = (d : DataMessage) → said_to at out ≡ Some (rsl.DataRequest d) → d.channel ≡ at.number → LeadsUser at p c

-- an assignment is no DATA REQUEST
pub no_request : {X : Type 0} (at : Place) (n station : ℕ) (i : Assignment) (d : DataMessage) → IsSent (out_of n (Station station (rsl.ImmediateAssignCommand i)))
    → said_to at (out_of n (Station station (rsl.ImmediateAssignCommand i))) ≡ Some (rsl.DataRequest d) → X
no_request at n station i d sent is = elim (cases_Bool (station == at.station)) [
  | inr miss ↦ absurd (none-some _ (sym (said_other at n station (rsl.ImmediateAssignCommand i) miss) ∙ is))
  | inl hit ↦
      let read = read_of n station (rsl.ImmediateAssignCommand i) sent in
      let said : read.0 ≡ rsl.DataRequest d = (let both : Some read.0 ≡ Some (rsl.DataRequest d) = sym (said_own at n station (rsl.ImmediateAssignCommand i) read.0 hit read.1) ∙ is in cc) in
      absurd (assignment_apart i d (read.1.text ∙ ap rsl_text said))
]

assignment_leads : (at p : Place) (c : Controller) (n station : ℕ) (i : Assignment) →
    IsSent (out_of n (Station station (rsl.ImmediateAssignCommand i))) →
    LeadsOut at p c (out_of n (Station station (rsl.ImmediateAssignCommand i)))
assignment_leads at p c n station i sent d is same = no_request at n station i d sent is

-- a DATA REQUEST is of the channel that it names
pub request_place : (at : Place) (n : ℕ) (serving : Channel) (r d : DataMessage) → r.channel ≡ serving.number → IsSent (out_of n (Station serving.station (rsl.DataRequest r)))
    → said_to at (out_of n (Station serving.station (rsl.DataRequest r))) ≡ Some (rsl.DataRequest d) → d.channel ≡ at.number → place_of serving ≡ at
request_place at n serving r d on sent is same = elim (cases_Bool (serving.station == at.station)) [
  | inr miss ↦ absurd (none-some _ (sym (said_other at n serving.station (rsl.DataRequest r) miss) ∙ is))
  | inl hit ↦
      let read = read_of n serving.station (rsl.DataRequest r) sent in
      let said : read.0 ≡ rsl.DataRequest d = (let both : Some read.0 ≡ Some (rsl.DataRequest d) = sym (said_own at n serving.station (rsl.DataRequest r) read.0 hit read.1) ∙ is in cc) in
      let channel : r.channel ≡ d.channel = same_channel r d (read.1.text ∙ ap rsl_text said) in
      ap (λ (s : ℕ). record { station = s; number = serving.number }) (eqb-true serving.station at.station hit) ∙ ap (λ (k : ℕ). record { station = at.station; number = k }) (sym on ∙ channel ∙ same)
]

-- a COMMAND on the serving channel
command_leads : (at p : Place) (c : Controller) (n m : ℕ) (serving : Channel) (r : DataMessage) →
    r.channel ≡ serving.number →
    channel_state c (place_of serving) ≡ InUse n →
    channel_state c p ≡ InUse n →
    asker c n ≡ Some m →
    IsSent (out_of n (Station serving.station (rsl.DataRequest r))) →
    LeadsOut at p c (out_of n (Station serving.station (rsl.DataRequest r)))
command_leads at p c n m serving r on used there asks sent d is same =
    let place = request_place at n serving r d on sent is same in
    record { number = n; mobile = m; here = ap (state_in c.channels) (sym place) ∙ used; there = there; asks = asks }

abbrev AllLead : Place → Place → Controller → ℕ → Row → Type 0
AllLead at p c n r = AllByRecursion IsSent (outs_of n r.outs) → AllByRecursion (LeadsOut at p c) (outs_of n r.outs)

ack_row : (at p : Place) (c : Controller) (n m : ℕ) (state : State) (s : Connection) (r : Row) →
    s.state ≡ state →
    on_activation_ack state s p ≡ Some r →
    (IsOpen state → AreIn c.channels (InUse n) (s.serving ∷ target_channels (target_role state))) →
    asker c n ≡ Some m →
    AllLead at p c n r
ack_row at p c n m WaitActivation s r is fits used asks =
    let parts = if_is (is_at p s.serving) (assign_immediately s) r fits in
    subst (AllLead at p c n) parts.1 (λ sent. (assignment_leads at p c n s.serving.station _ sent.0, tt))
ack_row at p c n m (Live reference (Preparing target)) s r is fits used asks =
    let parts = if_is (is_at p target.channel) (command_to reference target s) r fits in
    let all = used tt in
    subst (AllLead at p c n) parts.1 (λ sent. (command_leads at p c n m s.serving _ refl all.0 (ap (state_in c.channels) (place-is p target.channel parts.0) ∙ all.1.0) asks sent.0, tt))
ack_row at p c n m _ s r is fits used asks = absurd cc

ack_fitting : (at p : Place) (c : Controller) (k : ℕ) (e : Entry) (o : Option Row) →
    row_in c e.connection (inputs.ActivationAck p) ≡ o →
    entry_of c k ≡ Some e →
    Ready c →
    AllByRecursion IsSent (by_fitting (ignoring c) e o c).outs →
    AllByRecursion (LeadsOut at p c) (by_fitting (ignoring c) e o c).outs
unfolding row_of
ack_fitting at p c k e None is there ready sent = tt
ack_fitting at p c k e (Some r) is there ready sent =
    let own = here_of c k e ready there in
    ack_row at p c e.connection.number e.connection.request.access e.connection.state e.connection r refl is (λ is_open. (owns_entry c.links c e own.there ready.holds is_open).using) (ap (option_map (λ (x : Entry). x.connection.request.access)) own.there) sent

ack_concerning : (at p : Place) (c : Controller) (k : ℕ) (o : Option Entry) →
    entry_of c k ≡ o →
    Ready c →
    AllByRecursion IsSent (concerning (inputs.ActivationAck p) c o).outs →
    AllByRecursion (LeadsOut at p c) (concerning (inputs.ActivationAck p) c o).outs
ack_concerning at p c k None there ready sent = tt
ack_concerning at p c k (Some e) there ready sent = ack_fitting at p c k e (row_in c e.connection (inputs.ActivationAck p)) refl there ready sent

pub ack_leads : (at p : Place) (c : Controller) (state : ChannelState) →
    Ready c →
    AllByRecursion IsSent (on_state state p (inputs.ActivationAck p) c (entry_at c state)).outs →
    AllByRecursion (LeadsOut at p c) (on_state state p (inputs.ActivationAck p) c (entry_at c state)).outs
ack_leads at p c Free ready sent = tt
ack_leads at p c (InUse k) ready sent = ack_concerning at p c k (entry_of c k) refl ready sent
ack_leads at p c (Releasing k) ready sent = ack_concerning at p c k (entry_of c k) refl ready sent
