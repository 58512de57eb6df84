-- SPDX-License-Identifier: MIT OR Apache-2.0
-- The orders of a step take turns.
use Rattle.world_laws.proofs.Prelude.{◌≡◌, ◌≢◌, ℕ, ◌≤◌, ◌<◌, ◌^◌, ◌==◌, ◌&&◌, nat_le, Bool, true, false, if◌then◌else◌, List, [], ◌∷◌}
use Rattle.world_laws.proofs.Prelude.{Option, Some, None, option_map, refl, sym, ap, ◌∙◌, subst, inl, inr, arith, AllByRecursion}
use Rattle.world_laws.proofs.Prelude.{cases_Bool, leb-true, Channel, Place, access_activation, Input, Connection, Roles, roles_of}
use Rattle.world_laws.proofs.Prelude.{target_channels, IsCarried, IsValid, Row, IsApart, IsOpen, OfRow, undone, connection_of, Owns}
use Rattle.world_laws.proofs.Prelude.{IsOffered, offered_free, changes_of, owns_entry, free≢release, is_there, state_else, state_here}
use Rattle.world_laws.proofs.Prelude.{IsSoundAll, offer_list, request_sound, RefersBy, IsHere, Ready, here_of, ChannelState, Free, InUse}
use Rattle.world_laws.proofs.Prelude.{Releasing, Word, Nothing, Ping, Asks, OnChannel, OnConnection, Reports, Sdcch, access_channel}
use Rattle.world_laws.proofs.Prelude.{handover_offer, request_offer, Controller, Entry, Turn, channel_state, entry_of, freed, ignoring}
use Rattle.world_laws.proofs.Prelude.{place_of, state_in, turn, with_entry, with_state, by_fitting, concerning, concerning_too, entry_at}
use Rattle.world_laws.proofs.Prelude.{frees, given, measured, measures, on_decision, on_freed, on_report, on_state, on_word, row_in}
use Rattle.world_laws.proofs.Prelude.{with_report, decision_over, SWITCH_LINK, Decision, Stay, RequestReference, same_place, apart_behind}
use Rattle.world_laws.proofs.Prelude.{message_again, row_of, serving_after, freed_shaped, use≢release, still_in, RefersIn, offered_sound}
use Rattle.world_laws.proofs.Prelude.{SoundParts, IsSoundChannel, sound_access, IsSoundRow, row_sound, Tch, first_free, kind_of}
use Rattle.world_laws.proofs.Prelude.{MAX_CONNECTION_NUMBER, by_row, IsCarriedBy, RefusesNone, Order, TakesTurns, Turns, freed_by}
use Rattle.std.specs.Option.{option_to_list}
use Rattle.conn_rules.specs.declared.input.Input.TheVariants as inputs
use Rattle.controller_model.proofs.LifeLaws.SoundLife.{SoundOf}
use Rattle.controller_model.specs.declared.channel_kind.ChannelKind.{ChannelKind}
use Rattle.controller_model.specs.Controller.{is_up}
use Rattle.dtap_codec.specs.declared.report.Report.{Report}
use Rattle.controller_model.specs.Decision.TheVariants.{Move}
use Rattle.world_laws.proofs.TakingTurns.{AreInTurn, IsInTurn, IsOpenFor, IsUsing, all_turns, quiet_order, places_differ, places_same}
use Rattle.world_laws.proofs.TakingTurns.{row_turns}
use Rattle.world_laws.proofs.PutAsRead.{all_read}

-- a turn's orders on a channel, from this state on
unfoldable pub TurnsFrom : Place → ChannelState → Turn → Type 0
TurnsFrom at before t = TakesTurns at before t.outs (channel_state t.next at)

-- ---- a row

differ_of : (c d : Channel) → IsApart c d → place_of c ≢ place_of d
differ_of c d apart same = places_differ c.station c.number (place_of d) apart (sym same)

all_differ : (c : Channel) (cs : List Channel) → AllByRecursion (IsApart c) cs → AllByRecursion (λ d. place_of c ≢ place_of d) cs
all_differ c [] all = tt
all_differ c (d ∷ ds) all = (differ_of c d all.0, all_differ c ds all.1)

pub using_of : (channels : List (List ChannelState)) (links : List Bool) (m : ℕ) (roles : Roles) →
    Owns channels links m roles →
    IsUsing m channels roles
using_of channels links m roles owns = record {
  using = owns.using;
  apart = all_differ roles.serving (target_channels roles.target) (apart_behind (undone roles.draining) (roles.serving ∷ target_channels roles.target) owns.apart).0;
}

open_for : (channels : List (List ChannelState)) (links : List Bool) (c : Channel) → IsOffered channels links c → IsOpenFor channels c
unfolding IsOpenFor
open_for channels links c offered = (offered.is_free, offered.is_in)

-- what is known of an entry
pub record IsSoundEntry (e : Entry) : Type 0 where
  pub valid : IsValid e.connection
  pub parts : SoundParts e.connection
  pub few : e.connection.number < 2 ^ 24

pub row_turn : (at : Place) (c : Controller) (e : Entry) (input : Input) (offer : Option Channel) (r : Row) → IsSoundEntry e → row_of e.connection input offer ≡ Some r → AllByRecursion IsSoundChannel (option_to_list offer) → IsCarried input → RefersBy input
    → (IsOpen e.connection.state → IsUsing e.connection.number c.channels (roles_of e.connection)) → (IsOpen r.next.state → (d : Channel) → offer ≡ Some d → IsOpenFor c.channels d) → TurnsFrom at (channel_state c at) (by_row e r c)
unfolding TurnsFrom
row_turn at c e input offer r sound_entry fits sounds carried refers using offers =
    let s : Connection = e.connection in
    let sound : IsSoundRow r = subst (OfRow IsSoundRow) fits
    (row_sound s input offer (record { serving = sound_entry.parts.serving; zero = sound_entry.valid.down_zero; three = sound_entry.valid.down_three; up = sound_entry.valid.up_messages; refers = sound_entry.parts.refers }) sound_entry.parts.targets sounds carried refers) in
    all_turns s.number at c.channels r.outs (all_read s.number r.outs sound_entry.few sound.1)
    (row_turns s.number c.channels s input offer r (changes_of s input offer r sound_entry.valid fits) using offers)

pub fitting_turn : (at : Place) (c : Controller) (otherwise : Turn) (e : Entry) (input : Input) (offer : Option Channel) (o : Option Row) → row_of e.connection input offer ≡ o → IsSoundEntry e → AllByRecursion IsSoundChannel (option_to_list offer) → IsCarried input → RefersBy input
    → (IsOpen e.connection.state → IsUsing e.connection.number c.channels (roles_of e.connection)) → ((d : Channel) → offer ≡ Some d → IsOpenFor c.channels d) → TurnsFrom at (channel_state c at) otherwise → TurnsFrom at (channel_state c at) (by_fitting otherwise e o c)
fitting_turn at c otherwise e input offer None is sound_entry sounds carried refers using offers same = same
fitting_turn at c otherwise e input offer (Some r) is sound_entry sounds carried refers using offers same = row_turn at c e input offer r sound_entry is sounds carried refers using (λ is_open. offers)

-- ---- entries of a controller that is ready

module _ (c : Controller) (ready : Ready c) (sound : IsSoundAll c) where
  pub known_entry : (m : ℕ) (e : Entry) → entry_of c m ≡ Some e → IsSoundEntry e
  unfolding SoundOf
  known_entry m e there =
      let here : IsHere c.links c e = here_of c m e ready there in
      let own : connection_of c e.connection.number ≡ Some e.connection = ap (option_map (λ (x : Entry). x.connection)) here.there in
      let below = here.below in
      let next = sound.next in
      record { valid = here.valid; parts = subst SoundOf own (sound.each e.connection.number); few = omega arith }

  uses_of : (m : ℕ) (e : Entry) →
      entry_of c m ≡ Some e →
      IsOpen e.connection.state →
      IsUsing e.connection.number c.channels (roles_of e.connection)
  uses_of m e there is_open = using_of c.channels c.links e.connection.number (roles_of e.connection) (owns_entry c.links c e (here_of c m e ready there).there ready.holds is_open)

  offers_of : (station reference : ℕ) (kind : ChannelKind) (d : Channel) →
      first_free c station reference kind ≡ Some d →
      IsOpenFor c.channels d
  offers_of station reference kind d is = open_for c.channels c.links d (offered_free c c.links station reference kind d refl ready.holds.shaped is)

  ignored : (at : Place) → TurnsFrom at (channel_state c at) (ignoring c)
  unfolding TurnsFrom
  ignored at = refl

  concerns : (at : Place) (input : Input) (m : ℕ) (o : Option Entry) →
      entry_of c m ≡ o →
      IsCarried input →
      RefersBy input →
      TurnsFrom at (channel_state c at) (concerning input c o)
  concerns at input m None there carried refers = ignored at
  concerns at input m (Some e) there carried refers =
      fitting_turn at c (ignoring c) e input (request_offer c e.connection input) (row_in c e.connection input) refl (known_entry m e there) (offer_list (request_offer c e.connection input) (request_sound c e.connection input sound.cells)) carried refers (uses_of m e there)
      (offers_of (serving_after e.connection (row_of e.connection input None)).station 0 Tch) (ignored at)

  -- the channel was freed first
  freed_using : (place : Place) (k : ℕ) (m : ℕ) (roles : Roles) →
      channel_state c place ≡ Releasing k →
      IsUsing m c.channels roles →
      IsUsing m (with_state place Free c.channels) roles
  freed_using place k m roles is u = record {
    using = still_in c.channels place Free (InUse m) (roles.serving ∷ target_channels roles.target) (λ same. use≢release m k (sym same ∙ is)) u.using;
    apart = u.apart;
  }

  freed_offers : (place : Place) (station reference : ℕ) (kind : ChannelKind) (d : Channel) →
      first_free (freed place c) station reference kind ≡ Some d →
      IsOpenFor (with_state place Free c.channels) d
  freed_offers place station reference kind d is = open_for (with_state place Free c.channels) c.links d (offered_free (freed place c) c.links station reference kind d refl (freed_shaped place c ready.holds.shaped) is)

  concerns_freed : (at place : Place) (k : ℕ) (input : Input) (m : ℕ) (o : Option Entry) →
      channel_state c place ≡ Releasing k →
      entry_of c m ≡ o →
      IsCarried input →
      RefersBy input →
      TurnsFrom at (channel_state (freed place c) at) (concerning_too input (freed place c) o)
  unfolding TurnsFrom
  concerns_freed at place k input m None is there carried refers = refl
  concerns_freed at place k input m (Some e) is there carried refers =
      fitting_turn at (freed place c) (turn [] (freed place c)) e input (request_offer (freed place c) e.connection input) (row_in (freed place c) e.connection input) refl (known_entry m e there)
      (offer_list (request_offer (freed place c) e.connection input) (request_sound (freed place c) e.connection input sound.cells)) carried refers (λ is_open. freed_using place k e.connection.number (roles_of e.connection) is (uses_of m e there is_open))
      (freed_offers place (serving_after e.connection (row_of e.connection input None)).station 0 Tch) refl

-- ---- the state from that a word begins

pub same_places : (place at : Place) → same_place place at ≡ true → place ≡ at
same_places place at is = places_same place.station place.number at is

pub freed_none : (at place : Place) (input : Input) (state : ChannelState) →
    ((n : ℕ) → state ≡ Releasing n → same_place place at ≡ false) →
    freed_by at (OnChannel place input) state ≡ state
freed_none at place (inputs.ReleaseAck acknowledged) (Releasing n) other = ap (λ (b : Bool). if b then Free else Releasing n) (other n refl)
freed_none at place _ _ other = refl

freed_one : (c : Controller) (at place acknowledged : Place) (k : ℕ) →
    channel_state c place ≡ Releasing k →
    freed_by at (OnChannel place (inputs.ReleaseAck acknowledged)) (channel_state c at) ≡ channel_state (freed place c) at
freed_one c at place acknowledged k is = elim (cases_Bool (same_place place at)) [
  | inl hit ↦
      let same : place ≡ at = same_places place at hit in
      ap (freed_by at (OnChannel place (inputs.ReleaseAck acknowledged))) (ap (channel_state c) (sym same) ∙ is) ∙ ap (λ (b : Bool). if b then Free else Releasing k) hit
      ∙ sym (ap (state_in (with_state place Free c.channels)) (sym same) ∙ state_here c.channels place Free (is_there c.channels place (λ free. free≢release k (sym free ∙ is))))
  | inr miss ↦
      freed_none at place (inputs.ReleaseAck acknowledged) (channel_state c at) (λ n releasing. miss)
      ∙ sym (state_else c.channels place at Free (places_differ place.station place.number at miss))
]

-- which channels are freed
frees-not : (state : ChannelState) (e : Option Entry) (place : Place) (input : Input) →
    RefusesNone (OnChannel place input) →
    ((n : ℕ) → state ≢ Releasing n) →
    frees state e input ≡ false
frees-not state e place (inputs.ActivationNack at) none free = absurd none
frees-not (Releasing n) e place (inputs.ReleaseAck at) none free = absurd (free n refl)
frees-not Free e place (inputs.ReleaseAck at) none free = refl
frees-not (InUse n) e place (inputs.ReleaseAck at) none free = refl
frees-not Free e place _ none free = refl
frees-not (InUse n) e place _ none free = refl
frees-not (Releasing n) e place _ none free = refl

-- another input than RF CHANNEL RELEASE ACK frees nothing
data IsFreeing (c : Controller) (place : Place) (input : Input) : Type 0 where
  frees_it : (k : ℕ) (acknowledged : Place) →
      channel_state c place ≡ Releasing k →
      input ≡ inputs.ReleaseAck acknowledged →
      IsFreeing c place input
  frees_none : frees (channel_state c place) (entry_at c (channel_state c place)) input ≡ false →
      ((at : Place) → freed_by at (OnChannel place input) (channel_state c at) ≡ channel_state c at) →
      IsFreeing c place input

none_freed : (c : Controller) (place : Place) (input : Input) (state : ChannelState) →
    channel_state c place ≡ state →
    ((n : ℕ) → state ≢ Releasing n) →
    RefusesNone (OnChannel place input) →
    IsFreeing c place input
none_freed c place input state is free none =
    frees_none (frees-not (channel_state c place) (entry_at c (channel_state c place)) place input none (λ n releasing. free n (sym is ∙ releasing)))
    (λ at. freed_none at place input (channel_state c at) (λ n releasing. elim (cases_Bool (same_place place at)) [
      | inl hit ↦ absurd (free n (sym is ∙ ap (channel_state c) (same_places place at hit) ∙ releasing))
      | inr miss ↦ miss
    ]))

freeing_of : (c : Controller) (place : Place) (input : Input) (state : ChannelState) →
    channel_state c place ≡ state →
    RefusesNone (OnChannel place input) →
    IsFreeing c place input
freeing_of c place input Free is none = none_freed c place input Free is (λ n same. absurd (free≢release n same)) none
freeing_of c place input (InUse m) is none = none_freed c place input (InUse m) is (λ n same. absurd (use≢release m n same)) none
freeing_of c place (inputs.ReleaseAck acknowledged) (Releasing k) is none = frees_it k acknowledged is refl
freeing_of c place (inputs.ActivationNack at) (Releasing k) is none = absurd none
freeing_of c place input (Releasing k) is none = frees_none (ap (λ (s : ChannelState). frees s (entry_at c s) input) is ∙ refl) (λ at. refl)

-- ---- words

unfoldable pub WordTurns : Place → ℕ → Word → Controller → Type 0
WordTurns at source word c = TurnsFrom at (freed_by at word (channel_state c at)) (on_word source word c)

module _ (c : Controller) (ready : Ready c) (sound : IsSoundAll c) (at : Place) where
  concerns_at : (input : Input) (state : ChannelState) →
      IsCarried input →
      RefersBy input →
      TurnsFrom at (channel_state c at) (concerning input c (entry_at c state))
  concerns_at input Free carried refers = ignored c ready sound at
  concerns_at input (InUse n) carried refers = concerns c ready sound at input n (entry_of c n) refl carried refers
  concerns_at input (Releasing n) carried refers = concerns c ready sound at input n (entry_of c n) refl carried refers

  channel_turns : (place : Place) (input : Input) →
      IsFreeing c place input →
      IsCarried input →
      RefersBy input →
      TurnsFrom at (freed_by at (OnChannel place input) (channel_state c at)) (on_state (channel_state c place) place input c (entry_at c (channel_state c place)))
  channel_turns place input (frees_it k acknowledged is acks) carried refers =
      subst (λ (i : Input). TurnsFrom at (freed_by at (OnChannel place i) (channel_state c at)) (on_state (channel_state c place) place i c (entry_at c (channel_state c place)))) (sym acks)
      (subst (λ (state : ChannelState). TurnsFrom at (freed_by at (OnChannel place (inputs.ReleaseAck acknowledged)) (channel_state c at)) (on_state state place (inputs.ReleaseAck acknowledged) c (entry_at c state))) (sym is)
      (subst (λ (before : ChannelState). TurnsFrom at before (concerning_too (inputs.ReleaseAck acknowledged) (freed place c) (entry_of c k))) (sym (freed_one c at place acknowledged k is))
      (concerns_freed c ready sound at place k (inputs.ReleaseAck acknowledged) k (entry_of c k) is refl tt tt)))
  channel_turns place input (frees_none remain start) carried refers =
      subst (λ (b : Bool). TurnsFrom at (freed_by at (OnChannel place input) (channel_state c at)) (on_freed b place input c (entry_at c (channel_state c place)))) (sym remain)
      (subst (λ (before : ChannelState). TurnsFrom at before (concerning input c (entry_at c (channel_state c place)))) (sym (start at)) (concerns_at input (channel_state c place) carried refers))

  given_turns : (source : ℕ) (request : RequestReference) (delay : ℕ) (o : Option Channel) →
      access_channel c source ≡ o →
      c.next_number ≤ MAX_CONNECTION_NUMBER →
      TurnsFrom at (channel_state c at) (given c request delay o)
  unfolding TurnsFrom AreInTurn IsInTurn
  given_turns source request delay None is few = ignored c ready sound at
  given_turns source request delay (Some channel) is few =
      let sounds : IsSoundChannel channel = offered_sound c source 0 Sdcch channel sound.cells is in
      let access = sound_access channel sounds in
      let offered : IsOffered c.channels c.links channel = offered_free c c.links source 0 Sdcch channel refl ready.holds.shaped is in
      all_turns c.next_number at c.channels (access_activation channel ∷ []) (message_again c.next_number (access_activation channel) (omega arith) access.0 access.1, tt) ((offered.is_free, offered.is_in), tt)

  asks_turns : (b d : Bool) (t : Turn) →
      (d ≡ true → TurnsFrom at (channel_state c at) t) →
      TurnsFrom at (channel_state c at) (if (b && d) then t else ignoring c)
  asks_turns true true t after = after refl
  asks_turns true false t after = ignored c ready sound at
  asks_turns false d t after = ignored c ready sound at

  -- ---- a report

  decision_turns : (d : Decision) (put e : Entry) (m : ℕ) →
      entry_of c m ≡ Some e →
      put.connection ≡ e.connection →
      TurnsFrom at (channel_state c at) (on_decision d (with_entry put c) put)
  unfolding TurnsFrom
  decision_turns Stay put e m there same = refl
  decision_turns (Move cell) put e m there same =
      let sound_entry : IsSoundEntry e = known_entry c ready sound m e there in
      fitting_turn at (with_entry put c) (turn [] (with_entry put c)) put inputs.Move (handover_offer (with_entry put c) put.connection.serving cell) (row_of put.connection inputs.Move (handover_offer (with_entry put c) put.connection.serving cell)) refl
      (record { valid = subst IsValid (sym same) sound_entry.valid; parts = subst SoundParts (sym same) sound_entry.parts; few = subst (λ (s : Connection). s.number < 2 ^ 24) (sym same) sound_entry.few })
      (offer_list (handover_offer c put.connection.serving cell) (λ d is. offered_sound c cell c.handovers (kind_of put.connection.serving.number) d sound.cells is)) tt tt
      (subst (λ (s : Connection). IsOpen s.state → IsUsing s.number c.channels (roles_of s)) (sym same) (uses_of c ready sound m e there))
      (offers_of c ready sound cell c.handovers (kind_of put.connection.serving.number)) refl

  report_turns : (place : Place) (of : ℕ) (report : Report) (m : ℕ) (o : Option Entry) →
      entry_of c m ≡ o →
      TurnsFrom at (channel_state c at) (on_report place of report c o)
  report_turns place of report m None there = ignored c ready sound at
  report_turns place of report m (Some e) there = by (measures place e) where
    put : Entry
    put = with_report of report e

    by : (b : Bool) → TurnsFrom at (channel_state c at) (if b then measured of report c e else ignoring c)
    by true = decision_turns (decision_over put.averages.settings put.averages.reports of) put e m there refl
    by false = ignored c ready sound at

  reports_turns : (place : Place) (of : ℕ) (report : Report) (state : ChannelState) →
      TurnsFrom at (channel_state c at) (on_report place of report c (entry_at c state))
  reports_turns place of report Free = ignored c ready sound at
  reports_turns place of report (InUse n) = report_turns place of report n (entry_of c n) refl
  reports_turns place of report (Releasing n) = report_turns place of report n (entry_of c n) refl

  pub word_turns : (source : ℕ) (word : Word) → IsCarriedBy word → RefersIn word → RefusesNone word → WordTurns at source word c
  unfolding WordTurns TurnsFrom
  word_turns source Nothing carried refers none = refl
  word_turns source Ping carried refers none = (channel_state c at, subst (λ (o : Option Order). Turns o (channel_state c at) (channel_state c at)) (sym (quiet_order (source == at.station) None refl)) refl, refl)
  word_turns source (Asks request delay) carried refers none =
      asks_turns (is_up c SWITCH_LINK) (nat_le c.next_number MAX_CONNECTION_NUMBER) (given c request delay (access_channel c source)) (λ few. given_turns source request delay (access_channel c source) refl (leb-true c.next_number MAX_CONNECTION_NUMBER few))
  word_turns source (OnChannel place input) carried refers none = channel_turns place input (freeing_of c place input (channel_state c place) refl none) carried refers
  word_turns source (Reports place of report) carried refers none = reports_turns place of report (channel_state c place)
  word_turns source (OnConnection m input) carried refers none = concerns c ready sound at input m (entry_of c m) refl carried refers
