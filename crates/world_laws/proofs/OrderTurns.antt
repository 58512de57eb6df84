-- SPDX-License-Identifier: MIT OR Apache-2.0
-- What each turn of the controller does to one channel, and whom its assignments name.
use Rattle.world_laws.proofs.Prelude.{◌≡◌, ◌≢◌, ◌⊎◌, inl, inr, ℕ, ◌==◌, ◌&&◌, ◌≤◌, ◌<◌, Bool, true, false, if◌then◌else◌, List, [], ◌∷◌}
use Rattle.world_laws.proofs.Prelude.{◌++◌, option_map, Option, Some, None, refl, sym, ap, ◌∙◌, subst, true≢false, eq-eqb, AllByRecursion}
use Rattle.world_laws.proofs.Prelude.{Channel, Place, access_activation, Input, Connection, Roles, TargetRole, roles_of, target_channels}
use Rattle.world_laws.proofs.Prelude.{IsValid, Row, AreApart, IsOpen, undone, Owns, IsSent, IsOffered, offered_free, Holds, changes_of}
use Rattle.world_laws.proofs.Prelude.{owns_entry, Ready, here_of, Sdcch, ChannelState, Free, InUse, Releasing, Word, Nothing, Ping, Asks}
use Rattle.world_laws.proofs.Prelude.{OnChannel, Reports, OnConnection, access_channel, handover_offer, request_offer, Controller, Entry}
use Rattle.world_laws.proofs.Prelude.{Turn, turn, ignoring, channel_state, entry_of, freed, place_of, state_in, with_entry, with_state}
use Rattle.world_laws.proofs.Prelude.{by_fitting, concerning, concerning_too, entry_at, given, may_open, measured, measures, on_decision}
use Rattle.world_laws.proofs.Prelude.{on_report, on_state, on_word, pong, row_in, with_report, decision_over, Decision, Stay}
use Rattle.world_laws.proofs.Prelude.{RequestReference, Parameters, asker, rsl_in, RunsThrough, Passes, said_to, runs, over, passes, row_of}
use Rattle.world_laws.proofs.Prelude.{serving_after, used_in, IsRow, IsShaped, assignment_offers, freed_shaped, all_at, release≢use}
use Rattle.world_laws.proofs.Prelude.{still_in, kind_of}
use Rattle.conn_rules.specs.declared.input.Input.TheVariants as inputs
use Rattle.controller_model.proofs.LifeLaws.UsingWords.{IsNoNack}
use Rattle.dtap_codec.specs.declared.report.Report.{Report}
use Rattle.controller_model.specs.Decision.TheVariants.{Move}
use Rattle.world_laws.proofs.OrderNames.{NamesIn, NamesOut, no_assignments, row_names}
use Rattle.world_laws.proofs.OrderRows.{IsFreeThere, IsOf, States, Touches, place_or, row_touches, station_activates, touches_runs}
use Rattle.world_laws.proofs.OrderRows.OneOrder.{here}
use Rattle.world_laws.proofs.OrderRows.Touches.{begins_it, leaves_it}

-- ---- the channels of a connection

apart_behind : (cs : List Channel) (serving target : Channel) → AreApart (cs ++ serving ∷ target ∷ []) → place_of target ≢ place_of serving
apart_behind [] serving target all same = true≢false (sym both ∙ all.0.0) where
  both : (serving.station == target.station) && (serving.number == target.number) ≡ true
  both = ap (λ (b : Bool). b && (serving.number == target.number)) (eq-eqb serving.station target.station (sym (ap (λ (p : Place). p.station) same))) ∙ eq-eqb serving.number target.number (sym (ap (λ (p : Place). p.number) same))
apart_behind (c ∷ cs) serving target all same = apart_behind cs serving target all.1 same

apart_target : (roles : Roles) (t : TargetRole) →
    roles.target ≡ Some t →
    AreApart (used_in roles) →
    place_of t.target.channel ≢ place_of roles.serving
apart_target roles t is all = apart_behind (undone roles.draining) roles.serving t.target.channel (subst (λ (o : Option TargetRole). AreApart (undone roles.draining ++ roles.serving ∷ target_channels o)) is all)

pub of_owns : (channels : States) (links : List Bool) (n : ℕ) (roles : Roles) → Owns channels links n roles → IsOf n channels roles
of_owns channels links n roles owns = record { using = owns.using; apart = λ t is. apart_target roles t is owns.apart }

free_offer : (p : Parameters) (channels : States) (links : List Bool) (d : Channel) →
    IsShaped p channels →
    IsOffered channels links d →
    IsFreeThere channels (place_of d)
free_offer p channels links d shaped offered = record {
  free = offered.is_free;
  is_in = offered.is_in;
  few = subst (λ (l : ℕ). d.number < l) (all_at IsRow channels d.station [] offered.is_in.station shaped.rows) offered.is_in.number;
}

-- a word that refuses no activation
abbrev pub NoNackWord : Word → Type 0
NoNackWord (OnChannel p input) = IsNoNack input
NoNackWord _ = Unit {0}

module _ (at : Place) (least : 1 ≤ at.station) where
  -- from a state of the channel on, where the frames are sent; the assignments are of the
  -- controller before the step
  abbrev pub Serving : Controller → ChannelState → Turn → Type 0
  Serving c from t = AllByRecursion IsSent t.outs → RunsThrough at from t.outs (channel_state t.next at) × AllByRecursion
      (NamesOut at c) t.outs

  quiet_serves : (c next : Controller) (from : ChannelState) → channel_state next at ≡ from → Serving c from (turn [] next)
  quiet_serves c next from same sent = (subst (RunsThrough at from []) (sym same) (runs over), tt)

  -- ---- a row, of a controller of which a channel may have been freed

  record RowFits (c d : Controller) (e : Entry) (offer : Option Channel) : Type 0 where
    valid : IsValid e.connection
    of : IsOpen e.connection.state → IsOf e.connection.number d.channels (roles_of e.connection)
    free : IsOpen e.connection.state → (f : Channel) → offer ≡ Some f → IsFreeThere d.channels (place_of f)
    used : IsOpen e.connection.state → place_of e.connection.serving ≡ at → channel_state c at ≡ InUse e.connection.number
    asks : asker c e.connection.number ≡ Some e.connection.request.access

  fitting_serves : (c d : Controller) (otherwise : Turn) (e : Entry) (input : Input) (offer : Option Channel) (o : Option Row) →
      row_of e.connection input offer ≡ o →
      RowFits c d e offer →
      Serving c (channel_state d at) otherwise →
      Serving c (channel_state d at) (by_fitting otherwise e o d)
  fitting_serves c d otherwise e input offer None is fits same = same
  fitting_serves c d otherwise e input offer (Some r) is fits same = λ sent.
      let changes = changes_of e.connection input offer r fits.valid is in (
        touches_runs e.connection.number at d.channels r.outs least sent (row_touches e.connection.number at d.channels e.connection input offer r changes fits.of fits.free),
        row_names at c e.connection.number e.connection input offer r least sent is changes fits.used fits.asks,
      )

  asks_of : (c : Controller) (e : Entry) →
      entry_of c e.connection.number ≡ Some e →
      asker c e.connection.number ≡ Some e.connection.request.access
  asks_of c e there = ap (option_map (λ (x : Entry). x.connection.request.access)) there

  used_of : (c : Controller) (e : Entry) →
      entry_of c e.connection.number ≡ Some e →
      Holds c.links c →
      IsOpen e.connection.state →
      place_of e.connection.serving ≡ at →
      channel_state c at ≡ InUse e.connection.number
  used_of c e there holds is_open same = ap (state_in c.channels) (sym same) ∙ (owns_entry c.links c e there holds is_open).using.0

  ignoring_serves : (c : Controller) → Serving c (channel_state c at) (ignoring c)
  ignoring_serves c = quiet_serves c (ignoring c).next (channel_state c at) refl

  concerning_serves : (c : Controller) (input : Input) (m : ℕ) (o : Option Entry) →
      entry_of c m ≡ o →
      Ready c →
      Serving c (channel_state c at) (concerning input c o)
  concerning_serves c input m None there ready = ignoring_serves c
  concerning_serves c input m (Some e) there ready =
      let own = here_of c m e ready there in
      fitting_serves c c (ignoring c) e input (request_offer c e.connection input) (row_in c e.connection input) refl
      (record {
        valid = own.valid;
        of = λ is_open. of_owns c.channels c.links e.connection.number (roles_of e.connection) (owns_entry c.links c e own.there ready.holds is_open);
        free = λ is_open f is. free_offer c.settings c.channels c.links f ready.holds.shaped (assignment_offers c (serving_after e.connection (row_of e.connection input None)) f ready.holds.shaped is);
        used = used_of c e own.there ready.holds;
        asks = asks_of c e own.there;
      }) (ignoring_serves c)

  -- a channel that was releasing is freed first
  too_serves : (p : Place) (k : ℕ) (c : Controller) (input : Input) (m : ℕ) (o : Option Entry) →
      channel_state c p ≡ Releasing k →
      entry_of c m ≡ o →
      Ready c →
      Serving c (channel_state (freed p c) at) (concerning_too input (freed p c) o)
  too_serves p k c input m None was there ready = quiet_serves c (freed p c) (channel_state (freed p c) at) refl
  too_serves p k c input m (Some e) was there ready =
      let own = here_of c m e ready there in
      let shaped : IsShaped c.settings (with_state p Free c.channels) = freed_shaped p c ready.holds.shaped in
      fitting_serves c (freed p c) (turn [] (freed p c)) e input (request_offer (freed p c) e.connection input) (row_in (freed p c) e.connection input) refl
      (record {
        valid = own.valid;
        of = λ is_open.
            let owns = owns_entry c.links c e own.there ready.holds is_open in
            record {
              using = still_in c.channels p Free (InUse e.connection.number) (e.connection.serving ∷ target_channels (roles_of e.connection).target) (λ same. release≢use k e.connection.number (sym was ∙ same)) owns.using;
              apart = λ t is. apart_target (roles_of e.connection) t is owns.apart;
            };
        free = λ is_open f is. free_offer c.settings (with_state p Free c.channels) c.links f shaped (assignment_offers (freed p c) (serving_after e.connection (row_of e.connection input None)) f shaped is);
        used = used_of c e own.there ready.holds;
        asks = asks_of c e own.there;
      }) (quiet_serves c (freed p c) (channel_state (freed p c) at) refl)

  -- ---- what arrives on a channel

  abbrev pub freed_by : ChannelState → Place → Controller → ChannelState
  freed_by (Releasing k) p c = channel_state (freed p c) at
  freed_by state p c = channel_state c at

  -- the state of the channel once this was heard
  abbrev pub heard_by : Word → Controller → ChannelState
  heard_by (OnChannel p (inputs.ReleaseAck q)) c = freed_by (channel_state c p) p c
  heard_by word c = channel_state c at

  free_serves : (p : Place) (input : Input) (c : Controller) →
      IsNoNack input →
      Serving c (channel_state c at) (on_state Free p input c None)
  unfolding IsNoNack
  free_serves p (inputs.ActivationNack q) c no_nack = absurd no_nack
  free_serves p _ c no_nack = ignoring_serves c

  use_serves : (p : Place) (input : Input) (c : Controller) (k : ℕ) (o : Option Entry) →
      IsNoNack input →
      entry_of c k ≡ o →
      Ready c →
      Serving c (channel_state c at) (on_state (InUse k) p input c o)
  unfolding IsNoNack
  use_serves p (inputs.ActivationNack q) c k o no_nack there ready = absurd no_nack
  use_serves p (inputs.ReleaseAck q) c k o no_nack there ready = concerning_serves c (inputs.ReleaseAck q) k o there ready
  use_serves p input c k o no_nack there ready = concerning_serves c input k o there ready

  ack_serves : (p q : Place) (c : Controller) (state : ChannelState) →
      channel_state c p ≡ state →
      Ready c →
      Serving c (freed_by state p c) (on_state state p (inputs.ReleaseAck q) c (entry_at c state))
  unfolding IsNoNack
  ack_serves p q c Free is ready = ignoring_serves c
  ack_serves p q c (InUse k) is ready = concerning_serves c (inputs.ReleaseAck q) k (entry_of c k) refl ready
  ack_serves p q c (Releasing k) is ready = too_serves p k c (inputs.ReleaseAck q) k (entry_of c k) is refl ready

  -- one that is no RF CHANNEL RELEASE ACK
  IsNoAck : Input → Type 0
  IsNoAck (inputs.ReleaseAck q) = ⊥
  IsNoAck _ = Unit {0}

  other_serves : (p : Place) (input : Input) (c : Controller) (state : ChannelState) →
      IsNoNack input →
      IsNoAck input →
      Ready c →
      Serving c (channel_state c at) (on_state state p input c (entry_at c state))
  unfolding IsNoNack IsNoAck
  other_serves p input c Free no_nack no_ack ready = free_serves p input c no_nack
  other_serves p input c (InUse k) no_nack no_ack ready = use_serves p input c k (entry_of c k) no_nack refl ready
  other_serves p input c (Releasing k) no_nack no_ack ready = releasing input no_nack no_ack where
    releasing : (input : Input) →
        IsNoNack input →
        IsNoAck input →
        Serving c (channel_state c at) (on_state (Releasing k) p input c (entry_of c k))
    releasing (inputs.ActivationNack q) no_nack no_ack = absurd no_nack
    releasing (inputs.ReleaseAck q) no_nack no_ack = absurd no_ack
    releasing input no_nack no_ack = concerning_serves c input k (entry_of c k) refl ready

  channel_serves : (p : Place) (input : Input) (c : Controller) →
      IsNoNack input →
      Ready c →
      Serving c (heard_by (OnChannel p input) c) (on_state (channel_state c p) p input c (entry_at c (channel_state c p)))
  unfolding IsNoAck
  channel_serves p (inputs.ReleaseAck q) c no_nack ready = ack_serves p q c (channel_state c p) refl ready
  channel_serves p input c no_nack ready = other_serves p input c (channel_state c p) no_nack tt ready

  -- ---- a connection begins

  given_serves : (c : Controller) (source : ℕ) (request : RequestReference) (delay : ℕ) (o : Option Channel) →
      access_channel c source ≡ o →
      Ready c →
      Serving c (channel_state c at) (given c request delay o)
  given_serves c source request delay None is ready = ignoring_serves c
  given_serves c source request delay (Some channel) is ready = λ sent. (
    touches_runs c.next_number at c.channels (access_activation channel ∷ []) least sent (touches (place_or at (place_of channel))),
    no_assignments at c c.next_number (access_activation channel ∷ []) least sent (tt, tt),
  ) where
    touches : (place_of channel ≡ at) ⊎ (place_of channel ≢ at) → Touches c.next_number at c.channels (access_activation channel ∷ [])
    touches (inl same) = begins_it (subst (IsFreeThere c.channels) same (free_offer c.settings c.channels c.links channel ready.holds.shaped (offered_free c c.links source 0 Sdcch channel refl ready.holds.shaped is)))
        (here (station_activates at channel.station _ (ap (λ (p : Place). p.station) same) (ap (λ (p : Place). p.number) same)) tt)
    touches (inr differ) = leaves_it (differ, tt)

  if_serves : (b : Bool) (c : Controller) (t : Turn) →
      (b ≡ true → Serving c (channel_state c at) t) →
      Serving c (channel_state c at) (if b then t else ignoring c)
  if_serves true c t after = after refl
  if_serves false c t after = ignoring_serves c

  -- ---- a report

  decision_serves : (decision : Decision) (c : Controller) (e : Entry) (put : Entry) (m : ℕ) →
      put.connection ≡ e.connection →
      entry_of c m ≡ Some e →
      Ready c →
      Serving c (channel_state c at) (on_decision decision (with_entry put c) put)
  decision_serves Stay c e put m same there ready = quiet_serves c (with_entry put c) (channel_state c at) refl
  decision_serves (Move cell) c e put m same there ready =
      let own = here_of c m e ready there in
      let d : Controller = with_entry put c in
      fitting_serves c d (turn [] d) put inputs.Move (handover_offer d put.connection.serving cell) (row_of put.connection inputs.Move (handover_offer d put.connection.serving cell)) refl
      (record {
        valid = subst IsValid (sym same) own.valid;
        of = subst (λ (s : Connection). IsOpen s.state → IsOf s.number c.channels (roles_of s)) (sym same) (λ is_open. of_owns c.channels c.links e.connection.number (roles_of e.connection) (owns_entry c.links c e own.there ready.holds is_open));
        free = λ is_open f is. free_offer c.settings c.channels c.links f ready.holds.shaped (offered_free d c.links cell c.handovers (kind_of put.connection.serving.number) f refl ready.holds.shaped is);
        used = subst (λ (s : Connection). IsOpen s.state → place_of s.serving ≡ at → channel_state c at ≡ InUse s.number) (sym same) (used_of c e own.there ready.holds);
        asks = subst (λ (s : Connection). asker c s.number ≡ Some s.request.access) (sym same) (asks_of c e own.there);
      }) (quiet_serves c d (channel_state c at) refl)

  report_serves : (p : Place) (of : ℕ) (report : Report) (c : Controller) (m : ℕ) (o : Option Entry) →
      entry_of c m ≡ o →
      Ready c →
      Serving c (channel_state c at) (on_report p of report c o)
  report_serves p of report c m None there ready = ignoring_serves c
  report_serves p of report c m (Some e) there ready = if_serves (measures p e) c (measured of report c e) (λ measuring.
      decision_serves (decision_over (with_report of report e).averages.settings (with_report of report e).averages.reports of) c e (with_report of report e) m refl there ready)

  report_on_serves : (p : Place) (of : ℕ) (report : Report) (c : Controller) (state : ChannelState) →
      Ready c →
      Serving c (channel_state c at) (on_report p of report c (entry_at c state))
  report_on_serves p of report c Free ready = ignoring_serves c
  report_on_serves p of report c (InUse k) ready = report_serves p of report c k (entry_of c k) refl ready
  report_on_serves p of report c (Releasing k) ready = report_serves p of report c k (entry_of c k) refl ready

  -- ---- a frame

  pong-says : (source : ℕ) → said_to at (pong source) ≡ None
  pong-says source = by (source == at.station) where
    by : (b : Bool) → (if b then rsl_in (pong source).frame else None) ≡ None
    by true = refl
    by false = refl

  pub word_serves : (source : ℕ) (word : Word) (c : Controller) →
      NoNackWord word →
      Ready c →
      Serving c (heard_by word c) (on_word source word c)
  word_serves source Nothing c no_nack ready = ignoring_serves c
  word_serves source Ping c no_nack ready = λ sent. (
    runs (passes (subst (Passes at.number) (sym (pong-says source)) tt) over),
    (subst (NamesIn at c) (sym (pong-says source)) tt, tt),
  )
  word_serves source (Asks request delay) c no_nack ready = if_serves (may_open c) c (given c request delay (access_channel c source)) (λ may. given_serves c source request delay (access_channel c source) refl ready)
  word_serves source (OnChannel p input) c no_nack ready = channel_serves p input c no_nack ready
  word_serves source (Reports p of report) c no_nack ready = report_on_serves p of report c (channel_state c p) ready
  word_serves source (OnConnection m input) c no_nack ready = concerning_serves c input m (entry_of c m) refl ready
