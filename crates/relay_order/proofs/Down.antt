-- SPDX-License-Identifier: MIT OR Apache-2.0
-- The messages that the octets of stations' links hand, in a run of the relay: some of those that
-- the switch sent on each connection, in order, and in each tenure those that are handed to one
-- connection.
use Rattle.std.proofs.Common.{◌≡◌, ℕ, ◌==◌, ◌≤◌, Bool, true, false, if◌then◌else◌, List, [], ◌∷◌, ◌++◌, drop, filter, map, refl, sym, ap, ◌∙◌, subst, inl, inr, true≢false}
use Rattle.std.proofs.lemmas.Bool.{cases_Bool, cases_lt, cond-true, cond-false, eq-eqb, eqb-true, ne_eqb}
use Rattle.std.proofs.lemmas.Grind.{flat_map-append}
use Rattle.std.specs.List.{AllByRecursion, flat_map}
use Rattle.conn_messages.specs.declared.out.Out.{Out}
use Rattle.conn_messages.specs.declared.parameters.TheConstants.{SWITCH_LINK}
use Rattle.controller_model.specs.declared.step.Step.{Step}
use Rattle.controller_model.specs.Controller.{new_controller}
use Rattle.controller_model.specs.Life.{life}
use Rattle.controller_model.specs.LifeLaws.Downlink.{IsPart, switched}
use Rattle.controller_model.specs.LifeLaws.Sending.{IsOctetStep}
use Rattle.controller_model.proofs.LifeLaws.DownlinkLaw.{life_conserves}
use Rattle.controller_model.proofs.LifeLaws.HandingLife.{life_hands}
use Rattle.controller_model.proofs.LifeLaws.SoundLife.{life_sends_all}
use Rattle.controller_worker.specs.Steps.{frames_to, items_of, whats_of}
use Rattle.dtap_codec.specs.declared.sapi.Sapi.{Sapi}
use Rattle.ipa_framing.specs.declared.frame.Frame.{Frame}
use Rattle.octets.specs.Lists.{IsPrefix}
use Rattle.ruled_relay.specs.declared.item.Item.{Item}
use Rattle.ruled_relay.specs.declared.item.What.{What}
use Rattle.ruled_relay.specs.declared.item.What.TheVariants.{Down}
use Rattle.settings.specs.Parameters.{AreAllowed, Parameters}
use Rattle.station_io.specs.Octets.{AreFirstOf, AreWithDown, Came, Next, behind, ended_behind, first_step, frames_in, merged}
use Rattle.station_io.specs.Octets.Next.{item_of, time}
use Rattle.relay_order.specs.Explains.{frame_of}
use Rattle.relay_order.specs.Order.{IsInOrderDown}
use Rattle.relay_order.specs.Run.{IsRun, Run, steps_of_run}
use Rattle.relay_order.specs.Stations.{sent_in}
use Rattle.relay_order.proofs.Arriving.{arrived_is_sent, frames_from}
use Rattle.relay_order.proofs.Handing.{handing_is_handed, handing_of, tenures_are_apart}
use Rattle.relay_order.proofs.InTenures.{beginnings_hand}
use Rattle.relay_order.proofs.OwnedTurns.{life_owned}
use Rattle.relay_order.proofs.SomeOf.{part_trans, prefix_flat_map, prefix_trans}

-- ---- what was taken of a link is a beginning of what came from it

first_taken : (link : ℕ) (whats : List What) (steps : List Step) →
    IsPrefix (whats_of link (items_of steps)) (drop 1 whats) →
    IsPrefix (whats_of link (items_of (first_step link whats ++ steps))) whats
first_taken link [] steps taken = taken
first_taken link (what ∷ whats) steps taken = (
  taken.0,
  ap (λ (b : Bool). map (λ (i : Item). i.what) (if b then record { source = link; what = what } ∷ others else others) ++ taken.0) (eq-eqb link link refl)
      ∙ ap (λ (ws : List What). what ∷ ws) taken.1,
)
  where
    others : List Item
    others = filter (λ (i : Item). i.source == link) (items_of steps)

other_taken : (source link : ℕ) (whats : List What) (steps : List Step) →
    (source == link) ≡ false →
    whats_of link (items_of (first_step source whats ++ steps)) ≡ whats_of link (items_of steps)
other_taken source link [] steps miss = refl
other_taken source link (what ∷ whats) steps miss =
    ap (λ (b : Bool). map (λ (i : Item). i.what) (if b then record { source = source; what = what } ∷ filter (λ (i : Item). i.source == link) (items_of steps) else filter (λ (i : Item). i.source == link) (items_of steps))) miss

next_taken : (source link : ℕ) (came : Came) (steps : List Step) →
    IsPrefix (whats_of link (items_of steps)) (behind source came link) →
    IsPrefix (whats_of link (items_of (first_step source (came source) ++ steps))) (came link)
next_taken source link came steps taken = elim (cases_Bool (link == source)) [
  | inl hit ↦
      subst (λ (k : ℕ). IsPrefix (whats_of link (items_of (first_step k (came k) ++ steps))) (came link)) (eqb-true link source hit)
      (first_taken link (came link) steps (subst (IsPrefix (whats_of link (items_of steps))) (cond-true (link == source) (drop 1 (came link)) (came link) hit) taken))
  | inr miss ↦
      subst (λ (ws : List What). IsPrefix ws (came link)) (sym (other_taken source link (came source) steps (ne_eqb source link (λ same. true≢false (sym (eq-eqb link source (sym same)) ∙ miss)))))
      (subst (IsPrefix (whats_of link (items_of steps))) (cond-false (link == source) (drop 1 (came link)) (came link) miss) taken)
]

merged_taken : (order : List Next) (came : Came) (link : ℕ) → IsPrefix (whats_of link (items_of (merged order came))) (came link)
merged_taken [] came link = (came link, refl)
merged_taken (time ms ∷ order) came link = merged_taken order came link
merged_taken (item_of source ∷ order) came link = next_taken source link came (merged order (behind source came)) (merged_taken order (behind source came) link)

-- ---- the frames that came are first ones of the octets

ended_is : (frames : List Frame) → flat_map frame_of (ended_behind frames) ≡ frames
ended_is [] = refl
ended_is (frame ∷ frames) = ap (λ (fs : List Frame). frame ∷ fs) (ended_is frames)

down_added : (added : Bool) (frames : List Frame) (came : List What) →
    AreWithDown added (ended_behind frames) came →
    flat_map frame_of came ≡ frames
down_added false frames came is = ap (flat_map frame_of) is ∙ ended_is frames
down_added true frames came (before, rest, taken_is, came_is) =
    ap (flat_map frame_of) came_is ∙ flat_map-append frame_of before (Down ∷ rest) ∙ sym (flat_map-append frame_of before rest)
    ∙ sym (ap (flat_map frame_of) taken_is) ∙ ended_is frames

came_frames : (octets : List ℕ) (came : List What) → AreFirstOf octets came → IsPrefix (flat_map frame_of came) (frames_in octets)
came_frames octets came first = (first.1, ap (λ (fs : List Frame). fs ++ first.1) (down_added first.2 first.0 came first.4) ∙ sym first.3)

-- the frames that the controller took of the switch's link are first ones of what was read from it
pub taken_is_read : (settings : Parameters) (links : ℕ) (run : Run) →
    IsRun settings links run →
    IsPrefix (frames_from SWITCH_LINK (steps_of_run run)) (frames_in (run.read SWITCH_LINK))
taken_is_read settings links run is_run =
    prefix_trans (frames_from SWITCH_LINK (steps_of_run run)) (flat_map frame_of (run.came SWITCH_LINK)) (frames_in (run.read SWITCH_LINK))
    (prefix_flat_map frame_of (whats_of SWITCH_LINK (items_of (steps_of_run run))) (run.came SWITCH_LINK) (merged_taken run.order run.came SWITCH_LINK))
    (elim (cases_lt SWITCH_LINK links) [
      | inl less ↦ came_frames (run.read SWITCH_LINK) (run.came SWITCH_LINK) (is_run.first SWITCH_LINK less)
      | inr more ↦ subst (λ (ws : List What). IsPrefix (flat_map frame_of ws) (frames_in (run.read SWITCH_LINK))) (sym (is_run.others SWITCH_LINK more)) (frames_in (run.read SWITCH_LINK), refl)
    ])

-- ---- in a life

-- what is handed to a connection is some of what the octets of the switch's link send on it
pub handed_is_sent : (p : Parameters) (steps : List Step) (octets : List ℕ) → AreAllowed p → AllByRecursion IsOctetStep steps → IsPrefix (frames_from SWITCH_LINK steps) (frames_in octets) → (number : ℕ) (sapi : Sapi) → 1 ≤ number
    → IsPart (map (λ h. h.message) (handing_of (life p steps).outs number sapi)) (sent_in octets number sapi)
handed_is_sent p steps octets allowed are_octets taken number sapi from_one =
    let law = life_conserves p steps number from_one in
    subst (λ (xs : List (List ℕ)). IsPart xs (sent_in octets number sapi))
    (sym (handing_is_handed (life p steps).outs number sapi from_one (life_sends_all p steps allowed are_octets) ∙ law.read allowed are_octets sapi))
    (part_trans (sent_in octets number sapi) (switched number sapi law.moments).handed (switched number sapi law.moments).arrived (law.in_order sapi)
    (arrived_is_sent number sapi (new_controller p) steps law.moments octets law.history taken))

-- ---- in a run

-- What is handed is in order. Assumes: the frames of each beginning of what was written to a link
-- are a beginning of the frames that the controller put for it.
pub run_is_in_order_down : (settings : Parameters) (links : ℕ) (run : Run) → IsRun settings links run → AreAllowed settings → AllByRecursion IsOctetStep (steps_of_run run)
    → ((link : ℕ) (beginning : List ℕ) → IsPrefix beginning (run.written link) → IsPrefix (frames_in beginning) (frames_to link (life settings (steps_of_run run)).outs))
    → IsInOrderDown settings run (handing_of (life settings (steps_of_run run)).outs)
run_is_in_order_down settings links run is_run allowed are_octets written =
    let steps : List Step = steps_of_run run in
    let outs : List Out = (life settings steps).outs in
    let owned = life_owned settings steps allowed are_octets in
    record {
      in_order = λ number sapi from_one. handed_is_sent settings steps (run.read SWITCH_LINK) allowed are_octets (taken_is_read settings links run is_run) number sapi from_one;
      apart = λ number other sapi others one two first second same. tenures_are_apart outs number other sapi others one two owned first second same;
      octets = λ t sapi beginning from_one is. beginnings_hand outs owned t.at.station t.at.number sapi t.number (frames_in beginning) from_one (written t.at.station beginning is);
      in_place = λ number from_one. life_hands settings steps number from_one;
    }
