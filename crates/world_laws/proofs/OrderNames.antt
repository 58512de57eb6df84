-- SPDX-License-Identifier: MIT OR Apache-2.0
-- Whom an IMMEDIATE ASSIGNMENT on a channel names: the mobile of the connection that uses it.
use Rattle.world_laws.proofs.Prelude.{◌≡◌, ℕ, ◌==◌, ◌≤◌, Bool, if◌then◌else◌, List, [], ◌∷◌, slice_index_or, Option, Some, None, Ok, refl}
use Rattle.world_laws.proofs.Prelude.{sym, ap, ◌∙◌, subst, inl, inr, cases_Bool, eqb-true, AllByRecursion, Channel, Place, Message, Station}
use Rattle.world_laws.proofs.Prelude.{Request, Data, ReleaseComplete, Out, outs_of, immediate_assign_command, immediate_assignment}
use Rattle.world_laws.proofs.Prelude.{AllByRecursion-filter, Input, Connection, ChangesRoles, RoleEnd, Roles, TargetRole, end_messages}
use Rattle.world_laws.proofs.Prelude.{roles_of, those_sent, carries_on, ends, had_ended, refused, drops, dismisses, Row, IsOpen, OfRow}
use Rattle.world_laws.proofs.Prelude.{Names, IsSent, InUse, Controller, channel_state, place_of, ChannelDescription, RrMessage, none-some}
use Rattle.world_laws.proofs.Prelude.{ImmediateAssignment, RrFault, rr_text, Rsl, RequestReference, rsl_text, asker, rsl_in, said_to}
use Rattle.world_laws.proofs.Prelude.{Result, to_stations, row_of}
use Rattle.conn_messages.specs.Out.{out_of}
use Rattle.conn_rules.specs.declared.input.Input.TheVariants as inputs
use Rattle.controller_model.proofs.LifeLaws.Naming.{IsNamed, row_named}
use Rattle.dtap_codec.specs.RrReading.{immediate_assignment_at, pseudo_at, rr_reading, three_at}
use Rattle.octets.specs.Front.{octet_at}
use Rattle.rsl_codec.specs.declared.common_channel.ImmediateAssignment.{ImmediateAssignment as Assignment}
use Rattle.rsl_codec.specs.declared.rsl.Rsl.TheVariants as rsl
use Rattle.world_laws.proofs.OrderTexts.{assignment_back, no_switch, read_of, said_other, said_own}

-- where it is of this channel, the channel is in use by a connection of that mobile
abbrev pub NamesUser : Place → Controller → Result RrMessage RrFault → Type 0
NamesUser at c (Ok (ImmediateAssignment channel request advance)) = channel.channel.0 ≡ at.number → (number : ℕ) × (channel_state c at ≡ InUse number) × (asker c number ≡ Some (slice_index_or request 0 0))
NamesUser at c _ = Unit {0}

abbrev pub NamesIn : Place → Controller → Option Rsl → Type 0
NamesIn at c (Some (rsl.ImmediateAssignCommand i)) = NamesUser at c (rr_reading i.information)
NamesIn at c _ = Unit {0}

abbrev pub NamesOut : Place → Controller → Out → Type 0
NamesOut at c out = NamesIn at c (said_to at out)

-- ---- a message that assigns nothing

abbrev pub NoAssignment : Message → Type 0
NoAssignment (Station station (rsl.ImmediateAssignCommand i)) = ⊥
NoAssignment _ = Unit {0}

none_named : (at : Place) (c : Controller) (o : Option Rsl) →
    ((i : Assignment) → o ≡ Some (rsl.ImmediateAssignCommand i) → ⊥) →
    NamesIn at c o
none_named at c (Some (rsl.ImmediateAssignCommand i)) none = absurd (none i refl)
none_named at c _ none = tt

no_assignment : (at : Place) (c : Controller) (n : ℕ) (m : Message) →
    1 ≤ at.station →
    IsSent (out_of n m) →
    NoAssignment m →
    NamesOut at c (out_of n m)
unfolding out_of
no_assignment at c n (Station station x) least sent free = none_named at c (said_to at (out_of n (Station station x))) (λ i is. elim (cases_Bool (station == at.station)) [
  | inl hit ↦
      let read = read_of n station x sent in
      let said : read.0 ≡ rsl.ImmediateAssignCommand i = (let both : Some read.0 ≡ Some (rsl.ImmediateAssignCommand i) = sym (said_own at n station x read.0 hit read.1) ∙ is in cc) in
      let back = assignment_back x i (read.1.text ∙ ap rsl_text said) in
      subst (λ (z : Rsl). NoAssignment (Station station z)) back.1 free
  | inr miss ↦ none-some _ (sym (said_other at n station x miss) ∙ is)
])
no_assignment at c n (Request message) least sent free = subst (NamesIn at c) (sym (ap (λ (b : Bool). if b then rsl_in (out_of n (Request message)).frame else None) (no_switch at least))) tt
no_assignment at c n (Data destination message) least sent free = subst (NamesIn at c) (sym (ap (λ (b : Bool). if b then rsl_in (out_of n (Data destination message)).frame else None) (no_switch at least))) tt
no_assignment at c n (ReleaseComplete destination) least sent free = subst (NamesIn at c) (sym (ap (λ (b : Bool). if b then rsl_in (out_of n (ReleaseComplete destination)).frame else None) (no_switch at least))) tt

pub no_assignments : (at : Place) (c : Controller) (n : ℕ) (ms : List Message) →
    1 ≤ at.station →
    AllByRecursion IsSent (outs_of n ms) →
    AllByRecursion NoAssignment ms →
    AllByRecursion (NamesOut at c) (outs_of n ms)
no_assignments at c n [] least sent free = tt
no_assignments at c n (m ∷ ms) least sent free = (no_assignment at c n m least sent.0 free.0, no_assignments at c n ms least sent.1 free.1)

-- ---- an end assigns nothing

stations_assign : (ms : List Message) → AllByRecursion NoAssignment (to_stations ms) → AllByRecursion NoAssignment ms
stations_assign [] all = tt
stations_assign (Station station x ∷ ms) all = (all.0, stations_assign ms all.1)
stations_assign (Request message ∷ ms) all = (tt, stations_assign ms all)
stations_assign (Data destination message ∷ ms) all = (tt, stations_assign ms all)
stations_assign (ReleaseComplete destination ∷ ms) all = (tt, stations_assign ms all)

end_assigns : (end : RoleEnd) (roles : Roles) (target : Option TargetRole) →
    AllByRecursion NoAssignment (end_messages end (record roles { target = target }))
end_assigns refused roles target = tt
end_assigns drops roles target = (tt, tt)
end_assigns (dismisses cause) roles None = (tt, (tt, tt))
end_assigns (dismisses cause) roles (Some t) = (tt, (tt, (tt, tt)))

going_assigns : (input : Input) (ms : List Message) → AllByRecursion NoAssignment ms → AllByRecursion NoAssignment (those_sent input ms)
going_assigns (inputs.StationDown station) ms all = AllByRecursion-filter NoAssignment _ ms all
going_assigns _ ms all = all

pub shut_assigns : (s : Connection) (input : Input) (offer : Option Channel) (r : Row) →
    ChangesRoles s input offer r →
    (IsOpen r.next.state → ⊥) →
    AllByRecursion NoAssignment r.outs
shut_assigns s input offer r (carries_on was_open is_open on) shut = absurd (shut is_open)
shut_assigns s input offer r (ends was_open is_shut over) shut =
    stations_assign r.outs (subst (AllByRecursion NoAssignment) (sym over.ordered) (going_assigns input (end_messages over.end (roles_of s)) (end_assigns over.end (roles_of s) (roles_of s).target)))
shut_assigns s input offer r (had_ended was_shut is_shut nothing) shut = stations_assign r.outs (subst (AllByRecursion NoAssignment) (sym nothing) tt)

-- ---- one that is named

pub record AssignmentRead (c : Channel) (request : RequestReference) (delay : ℕ) : Type 0 where
  pub channel : ChannelDescription
  pub named : List ℕ
  pub advance : ℕ
  pub reads : rr_reading (rr_text (immediate_assignment c request delay)) ≡ Ok (ImmediateAssignment channel named advance)
  pub number : channel.channel.0 ≡ c.number
  pub access : slice_index_or named 0 0 ≡ request.access

pub assignment_read : (c : Channel) (request : RequestReference) (delay : ℕ) → AssignmentRead c request delay
unfolding rr_reading pseudo_at immediate_assignment_at three_at octet_at
assignment_read c request delay = record { channel = _; named = _; advance = _; reads = refl; number = refl; access = refl }

named_in : (at : Place) (c : Controller) (o : Option Rsl) →
    ((i : Assignment) → o ≡ Some (rsl.ImmediateAssignCommand i) → NamesUser at c (rr_reading i.information)) →
    NamesIn at c o
named_in at c (Some (rsl.ImmediateAssignCommand i)) names = names i refl
named_in at c _ names = tt

station_in : Message → ℕ
station_in (Station station x) = station
station_in _ = 0

abbrev pub information_in : Message → List ℕ
information_in (Station station (rsl.ImmediateAssignCommand i)) = i.information
information_in _ = []

-- it is of the serving channel, and names the request
assigns_user : (at : Place) (c : Controller) (n station : ℕ) (serving : Channel) (request : RequestReference) (delay : ℕ) (i j : Assignment) → station ≡ at.station → i.information ≡ j.information → Station station (rsl.ImmediateAssignCommand i) ≡ immediate_assign_command serving request delay
    → (place_of serving ≡ at → channel_state c at ≡ InUse n) → asker c n ≡ Some request.access → NamesUser at c (rr_reading j.information)
unfolding station_in
assigns_user at c n station serving request delay i j here same is used asks =
    let read = assignment_read serving request delay in
    let there : serving.station ≡ at.station = sym (ap station_in is) ∙ here in
    let reads : rr_reading j.information ≡ Ok (ImmediateAssignment read.channel read.named read.advance) = ap rr_reading (sym same ∙ ap information_in is) ∙ read.reads in
    subst (NamesUser at c) (sym reads) (λ number. (
      n,
      used (ap (λ (s : ℕ). record { station = s; number = serving.number }) there ∙ ap (λ (k : ℕ). record { station = at.station; number = k }) (sym read.number ∙ number)),
      asks ∙ ap (λ (k : ℕ). Some k) (sym read.access),
    ))

named_message : (at : Place) (c : Controller) (n : ℕ) (serving : Channel) (request : RequestReference) (m : Message) →
    1 ≤ at.station →
    IsSent (out_of n m) →
    Names serving request m →
    (place_of serving ≡ at → channel_state c at ≡ InUse n) →
    asker c n ≡ Some request.access →
    NamesOut at c (out_of n m)
named_message at c n serving request (Station station x) least sent names used asks =
    named_in at c (said_to at (out_of n (Station station x))) (λ j is. elim (cases_Bool (station == at.station)) [
      | inl hit ↦
          let read = read_of n station x sent in
          let said : read.0 ≡ rsl.ImmediateAssignCommand j = (let both : Some read.0 ≡ Some (rsl.ImmediateAssignCommand j) = sym (said_own at n station x read.0 hit read.1) ∙ is in cc) in
          let back = assignment_back x j (read.1.text ∙ ap rsl_text said) in
          let assigns : (delay : ℕ) × (Station station (rsl.ImmediateAssignCommand back.0) ≡ immediate_assign_command serving request delay) = subst (λ (z : Rsl). Names serving request (Station station z)) back.1 names in
          assigns_user at c n station serving request assigns.0 back.0 j (eqb-true station at.station hit) back.2 assigns.1 used asks
      | inr miss ↦ absurd (none-some _ (sym (said_other at n station x miss) ∙ is))
    ])
named_message at c n serving request (Request message) least sent names used asks = no_assignment at c n (Request message) least sent tt
named_message at c n serving request (Data destination message) least sent names used asks = no_assignment at c n (Data destination message) least sent tt
named_message at c n serving request (ReleaseComplete destination) least sent names used asks = no_assignment at c n (ReleaseComplete destination) least sent tt

named_messages : (at : Place) (c : Controller) (n : ℕ) (serving : Channel) (request : RequestReference) (ms : List Message) →
    1 ≤ at.station →
    AllByRecursion IsSent (outs_of n ms) →
    AllByRecursion (Names serving request) ms →
    (place_of serving ≡ at → channel_state c at ≡ InUse n) →
    asker c n ≡ Some request.access →
    AllByRecursion (NamesOut at c) (outs_of n ms)
named_messages at c n serving request [] least sent names used asks = tt
named_messages at c n serving request (m ∷ ms) least sent names used asks = (named_message at c n serving request m least sent.0 names.0 used asks, named_messages at c n serving request ms least sent.1 names.1 used asks)

-- ---- a row: of the controller c, whose channels in use are those of the row's connection
pub row_names : (at : Place) (c : Controller) (n : ℕ) (s : Connection) (input : Input) (offer : Option Channel) (r : Row) →
    1 ≤ at.station →
    AllByRecursion IsSent (outs_of n r.outs) →
    row_of s input offer ≡ Some r →
    ChangesRoles s input offer r →
    (IsOpen s.state → place_of s.serving ≡ at → channel_state c at ≡ InUse n) →
    asker c n ≡ Some s.request.access →
    AllByRecursion (NamesOut at c) (outs_of n r.outs)
row_names at c n s input offer r least sent fits (carries_on was_open is_open on) used asks =
    let named : IsNamed s.serving s.request r = subst (OfRow (IsNamed s.serving s.request)) fits (row_named s.serving s.request s input offer refl refl) in
    named_messages at c n s.serving s.request r.outs least sent named.1 (used was_open) asks
row_names at c n s input offer r least sent fits (ends was_open is_shut over) used asks = no_assignments at c n r.outs least sent (shut_assigns s input offer r (ends was_open is_shut over) is_shut)
row_names at c n s input offer r least sent fits (had_ended was_shut is_shut nothing) used asks = no_assignments at c n r.outs least sent (shut_assigns s input offer r (had_ended was_shut is_shut nothing) is_shut)
