-- SPDX-License-Identifier: MIT OR Apache-2.0
-- A frame for which no row fits brings nothing of the channel of a connection that waits for its
-- initial message.
use Rattle.world_laws.proofs.Prelude.{◌≡◌, ◌≢◌, ℕ, ◌+◌, ◌≤◌, ◌==◌, ◌&&◌, nat_eq, Bool, true, false, if◌then◌else◌, cond, List, [], ◌∷◌}
use Rattle.world_laws.proofs.Prelude.{◌++◌, option_to_list, Option, Some, None, refl, sym, ap, ◌∙◌, subst, arith, AllByRecursion, flat_map}
use Rattle.world_laws.proofs.Prelude.{eqb-true, eqb-false, eq-eqb, ne_eqb, Place, SWITCH_LINK, Input, State, WaitEstablish, Connection}
use Rattle.world_laws.proofs.Prelude.{is_at, Row, undone, Brought, brought_by, brought_in, brought_with, if_held, connection_of, Take}
use Rattle.world_laws.proofs.Prelude.{OnChannel, Controller, holder, hears, place_of, Zero, Frame, RelayItem, What, Rsl, AreAllowed}
use Rattle.world_laws.proofs.Prelude.{Parameters, Event, actors_after_all, rsl_in, all_steps, Actors, Mobile, base_of, new_actors}
use Rattle.world_laws.proofs.Prelude.{FollowsTable-new, FitsNone, Owns, OwnsOpen, life_owns, roles_of, target_channels, dropping, access}
use Rattle.world_laws.proofs.Prelude.{on_dtap, on_establish_indication, row_if, is_control, acknowledgements, IsKnownItem, known_inbox}
use Rattle.world_laws.proofs.Prelude.{brings_nothing, brings_input, life, word_of, messages_up, read_by, read_of, NoneReleases, brings_if}
use Rattle.world_laws.proofs.Prelude.{brings_in, brings_by, IsHad, MissesOf, controls_of, IsKnownWhat, AcksAgree, BeginsOnce, data_by}
use Rattle.world_laws.proofs.Prelude.{data_up}
use Rattle.conn_rules.specs.declared.input.Input.TheVariants as inputs
use Rattle.conn_rules.specs.Table.{row_of}
use Rattle.ruled_relay.specs.declared.item.What.TheVariants as whats
use Rattle.rsl_codec.specs.declared.radio_link.Data.{Data}
use Rattle.rsl_codec.specs.declared.rsl.Rsl.TheVariants as rsl
use Rattle.world_laws.proofs.ValidConnections.{connections_are_valid_new}
use Rattle.world_laws.proofs.Access.Arriving.{serving_placed}
use Rattle.world_laws.proofs.Access.Beginning.{bare_of}
use Rattle.world_laws.proofs.LineUp.Lines.{controls_first}
use Rattle.world_laws.specs.Access.Coming.{IsAccessing}
use Rattle.world_laws.specs.Access.Coming.BeginsOnce.{began, to_begin}
use Rattle.world_laws.specs.Access.Coming.IsAccessing.{arrived, asks}
use Rattle.world_laws.proofs.Access.Silent.{FirstBrings, first_brings, releases_not}
use Rattle.world_laws.proofs.Access.Upcoming.{data_none}
use Rattle.world_laws.proofs.Access.Silent.FirstBrings.{brings_none, control, ends, opening, text}

row_there : (b : Bool) (x : Row) → b ≡ true → row_if b x ≡ None → ⊥
row_there true x is none = absurd cc
row_there false x is none = absurd cc

-- no DATA INDICATION brings one of radio resource management
pub none_of_data : {m : ℕ} {w : Actors} {s : Connection} {p : Mobile} →
    IsAccessing m w s p →
    controls_of (data_up w (place_of s.serving)) ≡ 0
none_of_data {w = w} {s} (asks seat new none uncommanded) = ap controls_of (data_none w (place_of s.serving) none)
none_of_data {w = w} {s} (arrived state seat lined begun) = by begun where
  by : {p : Mobile} → BeginsOnce w p (place_of s.serving) → controls_of (data_up w (place_of s.serving)) ≡ 0
  by (to_begin opens none behind) = ap controls_of (data_none w (place_of s.serving) none)
  by (began opens few none) = omega (arith, none)

module _ (settings : Parameters) (done : List Event) (mobile : ℕ) (s : Connection) where
  abbrev world : Actors
  world = actors_after_all (new_actors settings) done

  abbrev at : Place
  at = place_of s.serving

  here : is_at at s.serving ≡ true
  here = ap (λ (b : Bool). b && nat_eq s.serving.number s.serving.number) (eq-eqb s.serving.station s.serving.station refl) ∙ eq-eqb s.serving.number s.serving.number refl

  owns_own : AreAllowed settings → IsHad world s → Owns world.controller.channels world.controller.links s.number (roles_of s)
  owns_own allowed had =
      let c : Controller = (life settings (all_steps (new_actors settings) done)).next in
      let there : connection_of c s.number ≡ Some s = subst (λ (d : Controller). connection_of d s.number ≡ Some s) (FollowsTable-new settings done) had.there in
      subst (λ (d : Controller). Owns d.channels d.links s.number (roles_of s)) (sym (FollowsTable-new settings done)) ((subst (OwnsOpen c.channels c.links s.number) there (life_owns settings (all_steps (new_actors settings) done) s.number allowed)) had.is_open)

  -- what it says reaches the connection
  comes_to : (item : RelayItem) (frame : Frame) (input : Input) →
      AreAllowed settings →
      IsHad world s →
      s.draining ≡ [] →
      item.what ≡ whats.Frame frame →
      item.source ≡ at.station →
      word_of item.source frame ≡ OnChannel at input →
      brought_in world.controller s.number (Take item) ≡ brings_input input
  comes_to item frame input allowed had draining what_is station word =
      let owns = owns_own allowed had in
      let up : hears world.controller item.source ≡ true = ap (hears world.controller) station ∙ linked owns in
      ap (λ (b : Bool). if b then brought_with world.controller s.number item.source item.what else brings_nothing) up
      ∙ ap (brought_with world.controller s.number item.source) what_is
      ∙ ap (brought_by world.controller s.number) word
      ∙ ap (λ (o : Option ℕ). if_held s.number o input) (ap holder owns.using.0)
      ∙ ap (λ (b : Bool). if b then brings_input input else brings_nothing) (eq-eqb s.number s.number refl) where
        linked : Owns world.controller.channels world.controller.links s.number (roles_of s) →
            hears world.controller s.serving.station ≡ true
        linked owns = (subst (λ (ds : List _). AllByRecursion (λ c. hears world.controller c.station ≡ true) (undone ds ++ s.serving ∷ target_channels (roles_of s).target)) draining owns.linked).0

  no_opening : (l3 : List ℕ) → s.state ≡ WaitEstablish → MissesOf (inputs.EstablishIndication at Zero (Some l3)) (Some s) → ⊥
  unfolding row_of
  no_opening l3 state misses = row_there (is_at at s.serving) (access (Some l3) s) here (subst (λ (x : State). on_establish_indication x s at Zero (Some l3) ≡ None) state misses.1)

  no_text : (l3 : List ℕ) → s.state ≡ WaitEstablish → MissesOf (inputs.Dtap at Zero l3) (Some s) → ⊥
  unfolding row_of
  no_text l3 state misses = row_there (is_at at s.serving) (dropping s) here (subst (λ (x : State). on_dtap x s at Zero l3 ≡ None) state misses.1)

  no_control : (item : RelayItem) (items : List RelayItem) (frame : Frame) (l3 : List ℕ) (d : Data) → world.inbox ≡ item ∷ items → controls_of (data_up world at) ≡ 0 → is_control l3 ≡ true → item.what ≡ whats.Frame frame → rsl_in frame ≡ Some (rsl.DataIndication d) → item.source ≡ at.station
      → data_by at.number (rsl.DataIndication d) ≡ l3 ∷ [] → ⊥
  no_control item items frame l3 d pending none control_is what_is read station brings_it =
      let reads_it : read_of at.station item ≡ rsl.DataIndication d ∷ [] =
      ap (read_by at.station item.source) what_is ∙ ap (λ (b : Bool). cond b (option_to_list (rsl_in frame)) []) (eq-eqb item.source at.station station) ∙ ap option_to_list read in
      let rest : List (List ℕ) = flat_map (data_by at.number) (flat_map (read_of at.station) items ++ (base_of world at.station).messages) in
      let up : data_up world at ≡ l3 ∷ rest =
      ap (λ (xs : List RelayItem). flat_map (data_by at.number) (flat_map (read_of at.station) xs ++ (base_of world at.station).messages)) pending
      ∙ ap (λ (xs : List Rsl). flat_map (data_by at.number) ((xs ++ flat_map (read_of at.station) items) ++ (base_of world at.station).messages)) reads_it
      ∙ ap (λ (xs : List (List ℕ)). xs ++ rest) brings_it in
      let first : controls_of rest + 1 ≤ controls_of (l3 ∷ rest) = controls_first l3 rest control_is in
      let all = ap controls_of up in
      absurd (omega (arith, none, first, all))

  no_end : (item : RelayItem) (items : List RelayItem) (frame : Frame) →
      world.inbox ≡ item ∷ items →
      AcksAgree world s →
      item.what ≡ whats.Frame frame →
      item.source ≡ at.station →
      rsl_in frame ≡ Some (rsl.RfChannelReleaseAck at.number) →
      ⊥
  no_end item items frame pending acks what_is station read =
      let reads_it : read_of at.station item ≡ rsl.RfChannelReleaseAck at.number ∷ [] =
      ap (read_by at.station item.source) what_is ∙ ap (λ (b : Bool). cond b (option_to_list (rsl_in frame)) []) (eq-eqb item.source at.station station) ∙ ap option_to_list read in
      let rest : List Rsl = flat_map (read_of at.station) items ++ (base_of world at.station).messages in
      let up : messages_up world at.station ≡ rsl.RfChannelReleaseAck at.number ∷ rest =
      ap (λ (xs : List RelayItem). flat_map (read_of at.station) xs ++ (base_of world at.station).messages) pending
      ∙ ap (λ (xs : List Rsl). (xs ++ flat_map (read_of at.station) items) ++ (base_of world at.station).messages) reads_it in
      releases_not at.number rest (subst (λ (ms : List Rsl). NoneReleases (acknowledgements at.number ms)) up acks.others_continue.0)

  pub ignored_silent : (item : RelayItem) (items : List RelayItem) →
      AreAllowed settings →
      IsHad world s →
      world.inbox ≡ item ∷ items →
      AcksAgree world s →
      s.state ≡ WaitEstablish →
      controls_of (data_up world at) ≡ 0 →
      FitsNone (brought_in world.controller s.number (Take item)) (Some s) →
      brings_in at item ≡ []
  ignored_silent item items allowed had pending acks state none fits_none = by item.what refl where
    placed : s.serving.station ≢ SWITCH_LINK
    placed = serving_placed settings done s allowed had

    draining : s.draining ≡ []
    draining = (bare_of s state (connections_are_valid_new settings done s.number s had.there)).draining

    known : IsKnownItem item
    known = (subst (AllByRecursion IsKnownItem) pending (known_inbox settings done)).0

    misses : (frame : Frame) (input : Input) →
        item.what ≡ whats.Frame frame →
        item.source ≡ at.station →
        word_of item.source frame ≡ OnChannel at input →
        MissesOf input (Some s)
    misses frame input what_is station word = subst (λ (b : Brought). FitsNone b (Some s)) (comes_to item frame input allowed had draining what_is station word) fits_none

    by_first : (frame : Frame) →
        item.what ≡ whats.Frame frame →
        FirstBrings at item.source frame (brings_by at item.source (whats.Frame frame)) →
        brings_in at item ≡ []
    by_first frame what_is (brings_none is) = ap (brings_by at item.source) what_is ∙ is
    by_first frame what_is (opening l3 word station) = absurd (no_opening l3 state (misses frame (inputs.EstablishIndication at Zero (Some l3)) what_is station word))
    by_first frame what_is (text l3 word station) = absurd (no_text l3 state (misses frame (inputs.Dtap at Zero l3) what_is station word))
    by_first frame what_is (control l3 d control_is read station brings_it) = absurd (no_control item items frame l3 d pending none control_is what_is read station brings_it)
    by_first frame what_is (ends read station) = absurd (no_end item items frame pending acks what_is station read)

    by : (what : What) → item.what ≡ what → brings_in at item ≡ []
    by whats.Down what_is = ap (brings_by at item.source) what_is
    by (whats.Frame frame) what_is = by_source (nat_eq item.source SWITCH_LINK) refl where
      by_source : (b : Bool) → nat_eq item.source SWITCH_LINK ≡ b → brings_in at item ≡ []
      by_source true hit =
          let apart : (item.source == at.station) ≡ false = ne_eqb item.source at.station (λ same. placed (sym same ∙ eqb-true item.source SWITCH_LINK hit)) in
          ap (brings_by at item.source) what_is ∙ ap (λ (b : Bool). if b then brings_if at.number (rsl_in frame) else []) apart
      by_source false miss =
          let m = subst IsKnownWhat what_is (known.station (eqb-false item.source SWITCH_LINK miss)) in
          by_first frame what_is (subst (λ (f : Frame). FirstBrings at item.source f (brings_by at item.source (whats.Frame f))) (sym m.1) (first_brings at item.source m.0 placed m.2))
