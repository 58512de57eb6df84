-- SPDX-License-Identifier: MIT OR Apache-2.0
-- The channels in use after a frame, and where the messages put upon it go.
use Rattle.controller_model.proofs.Prelude.{◌≡◌, ◌≢◌, ℕ, ◌+◌, ◌-◌, ◌≤◌, ◌<◌, Bool, true, false, if◌then◌else◌, List, [], ◌∷◌, find}
use Rattle.controller_model.proofs.Prelude.{slice_get, Contains, Option, Some, None, option_map, refl, sym, subst, ap, ◌∙◌, inl, inr, arith}
use Rattle.controller_model.proofs.Prelude.{true≢false, cases_Bool, cond-true, cond-false, and_parts, option_and_then_some, AllByRecursion}
use Rattle.controller_model.proofs.Prelude.{Channel, Place, Out, SWITCH_LINK, Input, Preparing, State, WaitActivation, Live, Connection}
use Rattle.controller_model.proofs.Prelude.{is_at, roles_of, target_channels, target_role, IsValid, Row, IsOpen, OfRow, target_in, row_if}
use Rattle.controller_model.proofs.Prelude.{refuse, serving_after, on_activation_nack, Report, Decision, Stay, Move, Settings}
use Rattle.controller_model.proofs.Prelude.{RequestReference, CellParameters, Parameters, is_some, keeps_channels, KeepsChannels}
use Rattle.controller_model.proofs.Prelude.{connection_of, IsNumbered, AreRising, IsAbove, IsBelow, AreIn, OwnsOpen, is_link_up}
use Rattle.controller_model.proofs.Prelude.{used_places, ChannelKind, Sdcch, Tch, ChannelState, Free, InUse, Releasing, Word, Nothing, Ping}
use Rattle.controller_model.proofs.Prelude.{Asks, OnChannel, Reports, OnConnection, access_channel, channel_in, channel_of_kind, first_free}
use Rattle.controller_model.proofs.Prelude.{free_channel, free_in, handover_offer, kind_of, request_offer, Controller, Entry, Turn, turn}
use Rattle.controller_model.proofs.Prelude.{ignoring, entry_of, with_entry, channel_state, freed, has_number, place_of, state_in}
use Rattle.controller_model.proofs.Prelude.{with_state, by_fitting, concerning, concerning_too, entry_at, fits, frees, given, is_measured}
use Rattle.controller_model.proofs.Prelude.{may_open, measured, measures, new_entry, on_decision, on_freed, on_report, on_state, on_word}
use Rattle.controller_model.proofs.Prelude.{row_in, with_connection, with_report, best, decision_over, decision_where, moving_to, is_due}
use Rattle.conn_messages.specs.Out.{out_of}
use Rattle.conn_rules.specs.declared.input.Input.TheVariants as inputs
use Rattle.conn_rules.specs.Table.{row_of}
use Rattle.controller_model.proofs.LifeLaws.Entries.{back_over, back_found, back_rising, behind_found, behind_over, find_below}
use Rattle.controller_model.proofs.LifeLaws.OwningSteps.{IsShaped}
use Rattle.controller_model.proofs.LifeLaws.OwningWords.{AllValid, Holds, at_number, changes_of, owns_entry}
use Rattle.controller_model.proofs.LifeLaws.Places.{is_there, set_or_not, state_else, state_here, free≢use}
use Rattle.controller_model.proofs.LifeLaws.Sources.{IsAtPlace, IsFrom, IsOfSwitch}
use Rattle.controller_model.proofs.LifeLaws.UsingChanges.{OwnAlive, outs_up, row_keeps_uses, targets_in}
use Rattle.controller_model.proofs.LifeLaws.UsingRows.{IsAlive, RowUses, Uses, all_contained, alive_or, by_row_uses, contains_first, set_use, take_use}
use Rattle.controller_model.proofs.LifeLaws.Words.{decide_same, measured_remains}

abbrev States : Type 0
States = List (List ChannelState)

-- what a turn leaves, and where its frames go
pub record Sends (old new : List Bool) (t : Turn) : Type 0 where
  pub uses : Uses old new t.next
  pub outs : AllByRecursion (λ (out : Out). is_link_up new out.to ≡ true) t.outs

-- what is known of a controller before a step
pub record Ready (c : Controller) : Type 0 where
  pub numbered : IsNumbered c
  pub are_valid : AllValid c
  pub holds : Holds c.links c
  pub uses : Uses c.links c.links c
  pub linked : (m : ℕ) (e : Entry) → entry_of c m ≡ Some e → is_link_up c.links SWITCH_LINK ≡ true

-- ---- an entry

pub find_all : (P : Entry → Type 0) (test : Entry → Bool) (xs : List Entry) (e : Entry) → AllByRecursion P xs → find test xs ≡ Some e → P e
find_all P test [] e all is = absurd cc
find_all P test (x ∷ xs) e all is = elim (cases_Bool (test x)) [
  | inl hit ↦
      let same : x ≡ e = (let found : Some x ≡ Some e = sym (cond-true _ (Some x) (find test xs) hit) ∙ is in cc) in
      subst P same all.0
  | inr miss ↦ find_all P test xs e all.1 (sym (cond-false _ (Some x) (find test xs) miss) ∙ is)
]

-- what is known of an entry
pub record IsHere (links : List Bool) (c : Controller) (e : Entry) : Type 0 where
  pub rising : AreRising c.entries
  pub there : entry_of c e.connection.number ≡ Some e
  pub valid : IsValid e.connection
  pub from_one : 1 ≤ e.connection.number
  pub below : e.connection.number < c.next_number
  pub linked : is_link_up links SWITCH_LINK ≡ true

pub here_of : (c : Controller) (m : ℕ) (e : Entry) → Ready c → entry_of c m ≡ Some e → IsHere c.links c e
unfolding AllValid
here_of c m e ready there = record {
  rising = ready.numbered.rising;
  there = at_number c m e there;
  valid = ready.are_valid m e there;
  from_one = let above = find_all (IsAbove 0) (has_number m) c.entries e ready.numbered.above there in omega arith;
  below = find_all (IsBelow c.next_number) (has_number m) c.entries e ready.numbered.below there;
  linked = ready.linked m e there;
}

used_alive : (old new : List Bool) (c : Controller) (n : ℕ) (cs : List Channel) →
    Uses old new c →
    AreIn c.channels (InUse n) cs →
    AllByRecursion (λ (d : Channel). IsAlive old d.station) cs
used_alive old new c n [] uses all = tt
used_alive old new c n (d ∷ ds) uses all = (
  elim (alive_or old d.station) [
    | inl alive ↦ alive
    | inr dead ↦ absurd (free≢use n (sym (uses.blank (place_of d) dead) ∙ all.0))
  ],
  used_alive old new c n ds uses all.1,
)

pub own_alive : (old new : List Bool) (c : Controller) (e : Entry) →
    entry_of c e.connection.number ≡ Some e →
    Holds old c →
    Uses old new c →
    IsOpen e.connection.state →
    OwnAlive (IsAlive old) (roles_of e.connection)
own_alive old new c e there holds uses is_open = used_alive old new c e.connection.number (e.connection.serving ∷ target_channels (target_role e.connection.state)) uses (owns_entry old c e there holds is_open).using

-- ---- offers

in_station : (p : Parameters) (station reference : ℕ) (cell : CellParameters) (o : Option ℕ) (c : Channel) →
    option_map (channel_in p station reference cell) o ≡ Some c →
    c.station ≡ station
in_station p station reference cell None c is = absurd cc
in_station p station reference cell (Some n) c is = ap (λ (d : Channel). d.station) (sym (of is))
  where
    of : (let o : Option Channel = Some (channel_in p station reference cell n) in o) ≡ Some c → channel_in p station reference cell n ≡ c
    of is = cc

pub first_free_is : (c : Controller) (station reference : ℕ) (kind : ChannelKind) (offer : Channel) →
    first_free c station reference kind ≡ Some offer →
    (is_link_up c.links station ≡ true) × (offer.station ≡ station)
first_free_is c station reference kind offer is = elim (cases_Bool (is_link_up c.links station)) [
  | inr miss ↦ absurd (let none : None ≡ Some offer = sym (cond-false _ (free_channel c.settings c.channels station reference kind) None miss) ∙ is in cc)
  | inl hit ↦ (
    hit,
    option_and_then_some (channel_of_kind c.settings c.channels station reference kind) (slice_get c.settings.cells (station - 1)) offer (sym (cond-true _ (free_channel c.settings c.channels station reference kind) None hit) ∙ is)
        (λ cell there of. in_station c.settings station reference cell (free_in c.channels station kind cell) offer of),
  )
]

-- what serves after the row is one of the connection's
serving_alive : (P : ℕ → Type 0) (s : Connection) (input : Input) →
    OwnAlive P (roles_of s) →
    P (serving_after s (row_of s input None)).station
serving_alive P s input own = by (row_of s input None) (keeps_channels s input None)
  where
    by : (o : Option Row) → OfRow (KeepsChannels s None) o → P (serving_after s o).station
    by None keeps = own.0
    by (Some r) keeps = all_contained (λ (d : Channel). P d.station) (s.serving ∷ target_in s.state) r.next.serving (own.0, targets_in (λ (d : Channel). P d.station) s.state own.1) keeps.serving

request_alive : (c : Controller) (s : Connection) (input : Input) (offer : Channel) →
    OwnAlive (IsAlive c.links) (roles_of s) →
    request_offer c s input ≡ Some offer →
    IsAlive c.links offer.station
request_alive c s input offer own is =
    let serving : Channel = serving_after s (row_of s input None) in
    subst (IsAlive c.links) (sym (first_free_is c serving.station 0 Tch offer is).1) (serving_alive (IsAlive c.links) s input own)

-- ---- rows of frames

unfoldable pub IsNoNack : Input → Type 0
IsNoNack (inputs.ActivationNack at) = ⊥
IsNoNack _ = Unit {0}

unfoldable pub IsNoBreak : Input → Type 0
IsNoBreak (inputs.StationDown station) = ⊥
IsNoBreak _ = Unit {0}

at_no_break : (at : Place) (input : Input) → IsAtPlace at input → IsNoBreak input
unfolding IsNoBreak
at_no_break at (inputs.StationDown station) is = absurd is
at_no_break at _ is = tt

switch_plain : (input : Input) → IsOfSwitch input → IsNoNack input × IsNoBreak input
unfolding IsNoNack IsNoBreak
switch_plain (inputs.StationDown station) is = absurd is
switch_plain (inputs.ActivationNack at) is = absurd is
switch_plain _ is = (tt, tt)

pub no_break_of : (links : List Bool) (input : Input) →
    IsNoBreak input →
    (station : ℕ) →
    input ≡ inputs.StationDown station →
    is_link_up links station ≡ false
unfolding IsNoBreak
no_break_of links input none station is = let never : ⊥ = subst IsNoBreak is none in absurd never

pub no_nack_of : (channels : States) (input : Input) →
    IsNoNack input →
    (at : Place) →
    input ≡ inputs.ActivationNack at →
    state_in channels at ≡ Free
unfolding IsNoNack
no_nack_of channels input none at is = let never : ⊥ = subst IsNoNack is none in absurd never

-- the channels are those of the controller, one perhaps freed
frame_row : (c : Controller) (channels : States) (e : Entry) (input : Input) (offer : Option Channel) (r : Row) → IsHere c.links c e → Holds c.links c → Uses c.links c.links c → row_of e.connection input offer ≡ Some r →
    (IsOpen e.connection.state → (d : Channel) → offer ≡ Some d → IsAlive c.links d.station) → IsNoBreak input → ((at : Place) → input ≡ inputs.ActivationNack at → state_in channels at ≡ Free) → RowUses c.links channels e.connection input offer r
frame_row c channels e input offer r here holds uses is offered no_break freed_one =
    let changes = changes_of e.connection input offer r here.valid is in
    record {
      changes = changes;
      upward = row_keeps_uses c.links e.connection input offer r is changes here.linked (own_alive c.links c.links c e here.there holds uses) (λ was_open is_open. offered was_open);
      broken = no_break_of c.links input no_break;
      freed = freed_one;
    }

pub fitting_sends : (old new : List Bool) → ((link : ℕ) → is_link_up new link ≡ true → is_link_up old link ≡ true) → (c : Controller) (otherwise : Turn) (e : Entry) (input : Input) (offer : Option Channel) (o : Option Row) → row_of e.connection input offer ≡ o → AreRising c.entries → entry_of c e.connection.number ≡ Some e → 1 ≤ e.connection.number → e.connection.number < c.next_number →
    ((r : Row) → o ≡ Some r → RowUses new c.channels e.connection input offer r) → Uses old new c → Sends old new otherwise → Sends old new (by_fitting otherwise e o c)
fitting_sends old new more c otherwise e input offer None is rising there from_one below needs uses same = same
fitting_sends old new more c otherwise e input offer (Some r) is rising there from_one below needs uses same = record {
  uses = by_row_uses old new more c e input offer r rising there is from_one below (needs r refl) uses;
  outs = outs_up new e.connection.number r.outs (needs r refl).upward;
}

pub ignoring_sends : (c : Controller) → Uses c.links c.links c → Sends c.links c.links (ignoring c)
ignoring_sends c uses = record { uses = record { used = uses.used; blank = uses.blank; given = uses.given }; outs = tt }

quiet_sends : (c : Controller) → Uses c.links c.links c → Sends c.links c.links (turn [] c)
quiet_sends c uses = record { uses = uses; outs = tt }

concerning_sends : (c : Controller) (input : Input) (m : ℕ) (o : Option Entry) →
    entry_of c m ≡ o →
    IsNoNack input →
    IsNoBreak input →
    Ready c →
    Sends c.links c.links (concerning input c o)
concerning_sends c input m None there no_nack no_break ready = ignoring_sends c ready.uses
concerning_sends c input m (Some e) there no_nack no_break ready =
    let here = here_of c m e ready there in
    fitting_sends c.links c.links (λ link up. up) c (ignoring c) e input (request_offer c e.connection input) (row_in c e.connection input) refl here.rising here.there here.from_one here.below
    (λ r is. frame_row c c.channels e input (request_offer c e.connection input) r here ready.holds ready.uses is
    (λ is_open d offered. request_alive c e.connection input d (own_alive c.links c.links c e here.there ready.holds ready.uses is_open) offered) no_break (no_nack_of c.channels input no_nack))
    ready.uses (ignoring_sends c ready.uses)

-- ---- a channel is freed first

freed_free : (channels : States) (at : Place) → state_in (with_state at Free channels) at ≡ Free
freed_free channels at = by (state_in channels at) refl
  where
    by : (state : ChannelState) → state_in channels at ≡ state → state_in (with_state at Free channels) at ≡ Free
    by Free is = elim (set_or_not channels at at Free) [ inl hit ↦ hit | inr same ↦ same ∙ is ]
    by (InUse n) is = state_here channels at Free (is_there channels at (λ free. (let both : Free ≡ InUse n = sym free ∙ is in absurd cc)))
    by (Releasing n) is = state_here channels at Free (is_there channels at (λ free. (let both : Free ≡ Releasing n = sym free ∙ is in absurd cc)))

pub free_use : (at other : Place) (channels : States) (state : ChannelState) →
    state ≢ Free →
    state_in (with_state at Free channels) other ≡ state →
    state_in channels other ≡ state
free_use at other channels state used is = elim (set_or_not channels at other Free) [
  | inl hit ↦ absurd (used (sym is ∙ hit))
  | inr same ↦ sym same ∙ is
]

pub freed_uses : (old new : List Bool) (at : Place) (c : Controller) → Uses old new c → Uses old new (freed at c)
freed_uses old new at c uses = record {
  used = λ other n up is. uses.used other n up (free_use at other c.channels (InUse n) (λ same. (let both : InUse n ≡ Free = same in absurd cc)) is);
  blank = λ other dead. elim (set_or_not c.channels at other Free) [ inl hit ↦ hit | inr same ↦ same ∙ uses.blank other dead ];
  given = λ other n is. uses.given other n (free_use at other c.channels (Releasing n) (λ same. (let both : Releasing n ≡ Free = same in absurd cc)) is);
}

too_sends : (at : Place) (c : Controller) (input : Input) (m : ℕ) (o : Option Entry) →
    entry_of c m ≡ o →
    IsNoBreak input →
    ((p : Place) → input ≡ inputs.ActivationNack p → state_in (with_state at Free c.channels) p ≡ Free) →
    Ready c →
    Sends c.links c.links (concerning_too input (freed at c) o)
too_sends at c input m None there no_break freed_one ready = record { uses = freed_uses c.links c.links at c ready.uses; outs = tt }
too_sends at c input m (Some e) there no_break freed_one ready =
    let here = here_of c m e ready there in
    let uses = freed_uses c.links c.links at c ready.uses in
    fitting_sends c.links c.links (λ link up. up) (freed at c) (turn [] (freed at c)) e input (request_offer (freed at c) e.connection input) (row_in (freed at c) e.connection input) refl here.rising here.there here.from_one here.below
    (λ r is. frame_row c (with_state at Free c.channels) e input (request_offer (freed at c) e.connection input) r here ready.holds ready.uses is
    (λ is_open d offered. request_alive (freed at c) e.connection input d (own_alive c.links c.links c e here.there ready.holds ready.uses is_open) offered) no_break freed_one)
    uses (record { uses = uses; outs = tt })

-- a NACK for which no row fits
unfit_if : (b : Bool) (q r : Row) → is_some (row_if b q) ≡ false → row_if b r ≡ None
unfit_if true q r none = absurd (true≢false none)
unfit_if false q r none = refl

nack_unfit : (state : State) (s : Connection) (at : Place) (offer : Option Channel) →
    is_some (on_activation_nack state s at None) ≡ false →
    on_activation_nack state s at offer ≡ None
nack_unfit WaitActivation s at offer none = unfit_if (is_at at s.serving) _ _ none
nack_unfit (Live reference (Preparing target)) s at offer none = unfit_if (is_at at target.channel) (refuse reference target.change None s) (refuse reference target.change offer s) none
nack_unfit _ s at offer none = refl

unfit_sends : (at : Place) (c : Controller) (o : Option Entry) →
    fits o (inputs.ActivationNack at) ≡ false →
    Uses c.links c.links c →
    Sends c.links c.links (concerning (inputs.ActivationNack at) c o)
unfolding row_of
unfit_sends at c None none uses = ignoring_sends c uses
unfit_sends at c (Some e) none uses =
    subst (λ (o : Option Row). Sends c.links c.links (by_fitting (ignoring c) e o c)) (sym (nack_unfit e.connection.state e.connection at (request_offer c e.connection (inputs.ActivationNack at)) none)) (ignoring_sends c uses)

nack_sends : (b : Bool) (at : Place) (c : Controller) (m : ℕ) (o : Option Entry) →
    fits o (inputs.ActivationNack at) ≡ b →
    entry_of c m ≡ o →
    Ready c →
    Sends c.links c.links (on_freed b at (inputs.ActivationNack at) c o)
unfolding IsNoBreak
nack_sends true at c m o fitting there ready = too_sends at c (inputs.ActivationNack at) m o there tt (λ p is. subst (λ (q : Place). state_in (with_state at Free c.channels) q ≡ Free) (of p is) (freed_free c.channels at)) ready
  where
    of : (p : Place) → inputs.ActivationNack at ≡ inputs.ActivationNack p → at ≡ p
    of p is = cc
nack_sends false at c m o fitting there ready = unfit_sends at c o fitting ready.uses

using_sends : (at : Place) (input : Input) (c : Controller) (m : ℕ) (o : Option Entry) →
    IsAtPlace at input →
    IsNoBreak input →
    entry_of c m ≡ o →
    Ready c →
    Sends c.links c.links (on_state (InUse m) at input c o)
unfolding IsNoNack
using_sends at (inputs.ActivationNack place) c m o is no_break there ready =
    subst (λ (p : Place). Sends c.links c.links (on_state (InUse m) at (inputs.ActivationNack p) c o)) (sym is) (nack_sends (fits o (inputs.ActivationNack at)) at c m o refl there ready)
using_sends at input c m o is no_break there ready = concerning_sends c input m o there tt no_break ready

releasing_sends : (at : Place) (input : Input) (c : Controller) (m : ℕ) (o : Option Entry) →
    IsAtPlace at input →
    IsNoBreak input →
    entry_of c m ≡ o →
    Ready c →
    Sends c.links c.links (on_state (Releasing m) at input c o)
unfolding IsNoNack
releasing_sends at (inputs.ReleaseAck place) c m o is no_break there ready = too_sends at c (inputs.ReleaseAck place) m o there no_break (no_nack_of (with_state at Free c.channels) (inputs.ReleaseAck place) tt) ready
releasing_sends at (inputs.ActivationNack place) c m o is no_break there ready =
    subst (λ (p : Place). Sends c.links c.links (on_state (Releasing m) at (inputs.ActivationNack p) c o)) (sym is) (nack_sends (fits o (inputs.ActivationNack at)) at c m o refl there ready)
releasing_sends at input c m o is no_break there ready = concerning_sends c input m o there tt no_break ready

free_sends : (b : Bool) (at : Place) (input : Input) (c : Controller) →
    Uses c.links c.links c →
    Sends c.links c.links (on_freed b at input c None)
free_sends true at input c uses = record { uses = freed_uses c.links c.links at c uses; outs = tt }
free_sends false at input c uses = ignoring_sends c uses

channel_sends : (at : Place) (input : Input) (c : Controller) (state : ChannelState) →
    IsAtPlace at input →
    Ready c →
    Sends c.links c.links (on_state state at input c (entry_at c state))
channel_sends at input c Free is ready = free_sends (frees Free None input) at input c ready.uses
channel_sends at input c (InUse m) is ready = using_sends at input c m (entry_of c m) is (at_no_break at input is) refl ready
channel_sends at input c (Releasing m) is ready = releasing_sends at input c m (entry_of c m) is (at_no_break at input is) refl ready

-- ---- a connection begins

given_sends : (c : Controller) (source : ℕ) (request : RequestReference) (delay : ℕ) (o : Option Channel) →
    access_channel c source ≡ o →
    source ≢ SWITCH_LINK →
    Ready c →
    Sends c.links c.links (given c request delay o)
unfolding out_of
given_sends c source request delay None is station ready = ignoring_sends c ready.uses
given_sends c source request delay (Some channel) is station ready =
    let m : ℕ = c.next_number in
    let e : Entry = new_entry c.settings m channel request delay in
    let next : Controller = (with_connection c channel request delay).next in
    let free = first_free_is c source 0 Sdcch channel is in
    let alive : IsAlive c.links channel.station = subst (IsAlive c.links) (sym free.1) (free.0, station) in
    let none : entry_of c m ≡ None = find_below m c.entries ready.numbered.below in
    record {
      uses = record {
        used = λ at n up used_now. elim (take_use m n (place_of channel) at c.channels used_now) [
          | inl takes ↦
              subst (λ (k : ℕ). Contains (used_places (connection_of next k)) at) (sym takes.0)
              (subst (λ (o : Option Connection). Contains (used_places o) at) (sym (ap (option_map (λ (x : Entry). x.connection)) (behind_found e c.entries none)))
              (subst (λ (p : Place). Contains (place_of channel ∷ []) p) takes.1 (contains_first (place_of channel) [])))
          | inr was ↦ decide_same n m (Contains (used_places (connection_of next n)) at)
              (λ same.
              let there = uses_at c n at ready.uses up was.0 in
              let empty : Contains [] at = subst (λ (o : Option Connection). Contains (used_places o) at) (ap (option_map (λ (x : Entry). x.connection)) none) (subst (λ (k : ℕ). Contains (used_places (connection_of c k)) at) same there) in
              let short = empty.1 in absurd (omega arith))
              (λ differ. subst (λ (o : Option Connection). Contains (used_places o) at) (sym (ap (option_map (λ (x : Entry). x.connection)) (behind_over n e c.entries differ))) (ready.uses.used at n up was.0))
        ];
        blank = λ at dead. state_else c.channels (place_of channel) at (InUse m) (λ same. dead (subst (λ (p : Place). IsAlive c.links p.station) (sym same) alive)) ∙ ready.uses.blank at dead;
        given = λ at n releasing. let was = ready.uses.given at n (set_use m n (place_of channel) at c.channels releasing) in (was.0, (let less = was.1 in omega arith));
      };
      outs = (alive.0, tt);
    }
  where
    uses_at : (c : Controller) (n : ℕ) (at : Place) →
        Uses c.links c.links c →
        is_link_up c.links at.station ≡ true →
        state_in c.channels at ≡ InUse n →
        Contains (used_places (connection_of c n)) at
    uses_at c n at uses up is = uses.used at n up is

if_sends : (b : Bool) (c : Controller) (t : Turn) →
    Uses c.links c.links c →
    (b ≡ true → Sends c.links c.links t) →
    Sends c.links c.links (if b then t else ignoring c)
if_sends true c t uses after = after refl
if_sends false c t uses after = ignoring_sends c uses

-- ---- a report

moves_to : (s : Settings) (reports : List Report) (number cell : ℕ) → decision_over s reports number ≡ Move cell → cell ≢ SWITCH_LINK
moves_to s [] number cell is = absurd (let none : Stay ≡ Move cell = is in cc)
moves_to s (r ∷ rs) number cell is = by (is_due s (r ∷ rs) number) is
  where
    to : (o : Option ℕ) → moving_to o ≡ Move cell → cell ≢ SWITCH_LINK
    to None is = absurd (let none : Stay ≡ Move cell = is in cc)
    to (Some place) is = λ same. (let moved : place + 1 ≡ cell = of place is in absurd (omega arith))
      where
        of : (place : ℕ) → Move (place + 1) ≡ Move cell → place + 1 ≡ cell
        of place is = cc

    by : (b : Bool) → decision_where b s (r ∷ rs) ≡ Move cell → cell ≢ SWITCH_LINK
    by true is = to (best s (r ∷ rs)) is
    by false is = absurd (let none : Stay ≡ Move cell = is in cc)

decision_sends : (d : Decision) (c : Controller) (e : Entry) →
    ((cell : ℕ) → d ≡ Move cell → cell ≢ SWITCH_LINK) →
    IsHere c.links c e →
    Holds c.links c →
    Uses c.links c.links c →
    Sends c.links c.links (on_decision d c e)
unfolding IsNoNack IsNoBreak
decision_sends Stay c e station here holds uses = quiet_sends c uses
decision_sends (Move cell) c e station here holds uses =
    fitting_sends c.links c.links (λ link up. up) c (turn [] c) e inputs.Move (handover_offer c e.connection.serving cell) (row_of e.connection inputs.Move (handover_offer c e.connection.serving cell)) refl here.rising here.there here.from_one here.below
    (λ r is. frame_row c c.channels e inputs.Move (handover_offer c e.connection.serving cell) r here holds uses is
    (λ is_open d offered. let free = first_free_is c cell c.handovers (kind_of e.connection.serving.number) d offered in subst (IsAlive c.links) (sym free.1) (free.0, station cell refl)) tt (no_nack_of c.channels inputs.Move tt))
    uses (quiet_sends c uses)

pub same_uses : (old new : List Bool) (c next : Controller) →
    next.channels ≡ c.channels →
    next.next_number ≡ c.next_number →
    ((n : ℕ) → connection_of next n ≡ connection_of c n) →
    Uses old new c →
    Uses old new next
same_uses old new c next channels numbers same uses = record {
  used = λ at n up is. subst (λ (o : Option Connection). Contains (used_places o) at) (sym (same n)) (uses.used at n up (ap (λ (all : States). state_in all at) (sym channels) ∙ is));
  blank = λ at dead. ap (λ (all : States). state_in all at) channels ∙ uses.blank at dead;
  given = λ at n is. subst (λ (k : ℕ). (1 ≤ n) × (n < k)) (sym numbers) (uses.given at n (ap (λ (all : States). state_in all at) (sym channels) ∙ is));
}

same_holds : (links : List Bool) (c next : Controller) →
    next.channels ≡ c.channels →
    next.settings ≡ c.settings →
    ((n : ℕ) → connection_of next n ≡ connection_of c n) →
    Holds links c →
    Holds links next
same_holds links c next channels settings same holds = record {
  shaped = subst (λ (p : Parameters). IsShaped p next.channels) (sym settings) (subst (IsShaped c.settings) (sym channels) holds.shaped);
  each = λ n. subst (λ (all : States). OwnsOpen all links n (connection_of next n)) (sym channels) (subst (OwnsOpen c.channels links n) (sym (same n)) (holds.each n));
}

report_sends : (at : Place) (of : ℕ) (report : Report) (c : Controller) (m : ℕ) (o : Option Entry) →
    entry_of c m ≡ o →
    Ready c →
    Sends c.links c.links (on_report at of report c o)
report_sends at of report c m None there ready = ignoring_sends c ready.uses
report_sends at of report c m (Some e) there ready =
    if_sends (measures at e) c (measured of report c e) ready.uses
    (λ measuring.
    let put : Entry = with_report of report e in
    let c' : Controller = with_entry put c in
    let here = here_of c m e ready there in
    let found : entry_of c' e.connection.number ≡ Some put = back_found put e c.entries here.rising here.there ∙ measured_remains e.connection.state put (and_parts (is_at at e.connection.serving) (is_measured e.connection.state) measuring).1 in
    let same : (n : ℕ) → connection_of c' n ≡ connection_of c n = λ n. decide_same n e.connection.number (connection_of c' n ≡ connection_of c n)
    (λ is. subst (λ (k : ℕ). connection_of c' k ≡ connection_of c k) (sym is) (ap (option_map (λ (x : Entry). x.connection)) found ∙ sym (ap (option_map (λ (x : Entry). x.connection)) here.there)))
    (λ differ. ap (option_map (λ (x : Entry). x.connection)) (back_over n put c.entries differ)) in
    decision_sends (decision_over put.averages.settings put.averages.reports of) c' put (λ cell is. moves_to put.averages.settings put.averages.reports of cell is)
    (record { rising = back_rising put c.entries here.rising; there = found; valid = here.valid; from_one = here.from_one; below = here.below; linked = here.linked })
    (same_holds c.links c c' refl refl same ready.holds)
    (same_uses c.links c.links c c' refl refl same ready.uses))

report_on_sends : (at : Place) (of : ℕ) (report : Report) (c : Controller) (state : ChannelState) →
    Ready c →
    Sends c.links c.links (on_report at of report c (entry_at c state))
report_on_sends at of report c Free ready = ignoring_sends c ready.uses
report_on_sends at of report c (InUse k) ready = report_sends at of report c k (entry_of c k) refl ready
report_on_sends at of report c (Releasing k) ready = report_sends at of report c k (entry_of c k) refl ready

-- ---- a frame

-- CHANNEL REQUIRED is from a station
abbrev pub IsAskedOf : ℕ → Word → Type 0
IsAskedOf source (Asks request delay) = source ≢ SWITCH_LINK
IsAskedOf source _ = Unit {0}

pub word_sends : (source : ℕ) (word : Word) (c : Controller) →
    is_link_up c.links source ≡ true →
    IsFrom source word →
    IsAskedOf source word →
    Ready c →
    Sends c.links c.links (on_word source word c)
word_sends source Nothing c up from asked ready = ignoring_sends c ready.uses
word_sends source Ping c up from asked ready = record { uses = ready.uses; outs = (up, tt) }
word_sends source (Asks request delay) c up from asked ready = if_sends (may_open c) c (given c request delay (access_channel c source)) ready.uses (λ may. given_sends c source request delay (access_channel c source) refl asked ready)
word_sends source (OnChannel at input) c up from asked ready = channel_sends at input c (channel_state c at) from.1 ready
word_sends source (Reports at of report) c up from asked ready = report_on_sends at of report c (channel_state c at) ready
word_sends source (OnConnection m input) c up from asked ready = let plain = switch_plain input from.1 in concerning_sends c input m (entry_of c m) refl plain.0 plain.1 ready
