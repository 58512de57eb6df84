-- SPDX-License-Identifier: MIT OR Apache-2.0
-- A step of the controller, and a connection that hasn't asked the switch: it doesn't ask, or its
-- connection request carries the initial message that arrived on its channel.
use Rattle.std.proofs.Common.{◌≡◌, ℕ, ◌≤◌, true, List, [], ◌∷◌, ◌++◌, map, Option, Some, sym, ap, ◌∙◌, subst}
use Rattle.std.proofs.lemmas.Option.{none-some, same_Some}
use Rattle.std.specs.List.{AllByRecursion}
use Rattle.conn_messages.specs.declared.channel.Channel.{Channel}
use Rattle.conn_messages.specs.declared.channel.Place.{Place}
use Rattle.conn_messages.specs.declared.message.Message.{Message}
use Rattle.conn_messages.specs.declared.parameters.TheConstants.{SWITCH_LINK}
use Rattle.conn_messages.specs.Out.{outs_of}
use Rattle.conn_messages.specs.SwitchMessage.{complete_layer3}
use Rattle.conn_rules.specs.declared.input.Input.TheVariants as inputs
use Rattle.conn_rules.specs.declared.state.State.{State}
use Rattle.conn_rules.specs.declared.state.State.TheVariants.{WaitConfirm}
use Rattle.conn_rules.specs.Connection.{Connection, is_at}
use Rattle.conn_rules.specs.Steps.{Row}
use Rattle.conn_rules.specs.Streams.{relayed}
use Rattle.controller_model.proofs.LifeLaws.Lives.{life_acts}
use Rattle.controller_model.proofs.LifeLaws.SeenFrames.{forwarded_seen}
use Rattle.controller_model.specs.Controller.{Controller, Turn}
use Rattle.controller_model.specs.declared.forwarded.Forwarded.{Forwarded}
use Rattle.controller_model.specs.declared.step.Step.{Step}
use Rattle.controller_model.specs.Life.{step}
use Rattle.controller_model.specs.LifeLaws.Acts.{Acts, ActsOn, IsAged, IsBrought, brought_in, kept, kept_in}
use Rattle.controller_model.specs.LifeLaws.Acts.Acts.{ages, takes_row, opens, rests}
use Rattle.controller_model.specs.LifeLaws.History.{connection_of, outs_for}
use Rattle.controller_model.specs.LifeLaws.Seen.{messages_on}
use Rattle.controller_model.specs.LifeLaws.Sending.{IsSent}
use Rattle.controller_model.specs.Views.{forwarded}
use Rattle.dtap_codec.specs.declared.sapi.Sapi.{Sapi}
use Rattle.dtap_codec.specs.declared.sapi.Sapi.TheVariants.{Three, Zero}
use Rattle.settings.specs.Parameters.{Parameters}
use Rattle.world_laws.specs.LineUps.{waiting_of}
use Rattle.world_laws.specs.References.Taken.{IsEarlyIn}
use Rattle.world_laws.specs.Runs.{world}
use Rattle.world_laws.proofs.Access.Came.{IsLike, aged_like}
use Rattle.world_laws.proofs.Access.EarlyRows.{EarlyRow, early_row}
use Rattle.world_laws.proofs.Access.EarlyRows.EarlyRow.{acked, asked, gone}
use Rattle.world_laws.proofs.Access.Turning.{all_zero}
use Rattle.world_laws.proofs.OwnTurn.{turn_waiting}
use Rattle.world_model.specs.declared.event.Event.{Event}
use Rattle.world_model.specs.declared.seat.Tenure.{Tenure}
use Rattle.world_model.specs.Relay.{with_turn}
use Rattle.world_model.specs.Steps.{all_steps}
use Rattle.world_model.specs.World.{Actors, is_up, new_actors}
use Rattle.world_model.proofs.Living.{FollowsTable-new}

-- ---- what becomes of it

-- it still hasn't asked, on the same channel; or it asks with this message, which arrived there
pub data Fate (c : Controller) (st : Step) (s next : Connection) : Type 0 where
  waits_on : next.serving ≡ s.serving → IsEarlyIn next.state → Fate c st s next
  asks_now : (place : Place) (initial : List ℕ) (serving : Channel) → next.state ≡ WaitConfirm
      → IsBrought (brought_in c s.number st) (inputs.EstablishIndication place Zero (Some initial)) → is_at place s.serving ≡ true
      → outs_for s.number (step c st).outs ≡ outs_of s.number (complete_layer3 serving initial ∷ []) → Fate c st s next

fate_by : (c : Controller) (st : Step) (s next : Connection) (after : ℕ) (up : _) (was now : Option Connection) (put : List Message)
    → Acts s.number after up (brought_in c s.number st) was put now
    → was ≡ Some s → now ≡ Some next → outs_for s.number (step c st).outs ≡ outs_of s.number put → IsEarlyIn s.state → Fate c st s next
fate_by c st s next after up was now put (rests silent is none) there leads outs early =
    let same : s ≡ next = same_Some _ _ (sym there ∙ sym is ∙ leads) in
    waits_on (ap (λ (x : Connection). x.serving) (sym same)) (subst (λ (x : Connection). IsEarlyIn x.state) same early)
fate_by c st s next after up was now put (ages old x by_time is aged silent is_now) there leads outs early =
    let like : IsLike s x = aged_like s x (subst (λ (o : Connection). IsAged o x) (same_Some _ _ (sym is ∙ there)) aged) in
    let same : x ≡ next = same_Some _ _ (sym is_now ∙ leads) in
    subst (λ (y : Connection). Fate c st s y) same (waits_on like.serving (subst IsEarlyIn (sym like.state) early))
fate_by c st s next after up was now put (opens is linked channel request delay none_brought none put_is is_now) there leads outs early =
    absurd (none-some s (sym none ∙ there))
fate_by c st s next after up was now put (takes_row old s1 input offer r is aged brought_it fits put_is is_now) there leads outs early =
    by (early_row s1 input offer r (subst IsEarlyIn (sym like.state) early) fits) where
      like : IsLike s s1
      like = aged_like s s1 (subst (λ (o : Connection). IsAged o s1) (same_Some _ _ (sym is ∙ there)) aged)

      own : kept r.next ≡ Some next
      own = sym is_now ∙ leads

      by : EarlyRow s1 input r → Fate c st s next
      by (gone over) = absurd (none-some next (sym (ap (λ (x : State). kept_in x r.next) over) ∙ own))
      by (acked state row_is) =
          let same = same_Some _ _ (sym (ap (λ (x : Row). kept x.next) row_is) ∙ own) in
          waits_on (ap (λ (x : Connection). x.serving) (sym same) ∙ like.serving) (subst (λ (x : Connection). IsEarlyIn x.state) same tt)
      by (asked state place initial input_is here row_is) =
          asks_now place initial s1.serving
          (ap (λ (x : Connection). x.state) (sym (same_Some _ _ (sym (ap (λ (x : Row). kept x.next) row_is) ∙ own))))
          (subst (IsBrought (brought_in c s.number st)) input_is brought_it)
          (subst (λ (x : Channel). is_at place x ≡ true) like.serving here)
          (outs ∙ ap (outs_of s.number) (put_is ∙ ap (λ (x : Row). x.outs) row_is))

-- of a run
pub fate : (settings : Parameters) (events : List Event) (st : Step) (s next : Connection) → 1 ≤ s.number → IsEarlyIn s.state
    → connection_of (world settings events).controller s.number ≡ Some s
    → connection_of (step (world settings events).controller st).next s.number ≡ Some next
    → Fate (world settings events).controller st s next
fate settings events st s next from_one early there leads =
    let c : Controller = (world settings events).controller in
    let acts : ActsOn s.number c st =
    subst (λ (c : Controller). ActsOn s.number c st) (sym (FollowsTable-new settings events))
    (life_acts settings (all_steps (new_actors settings) events) st s.number from_one) in
    fate_by c st s next c.next_number _ (connection_of c s.number)
    (connection_of (step c st).next s.number) acts.put acts.acts there leads acts.outs early

-- ---- where it asks, its message is all that waits for the switch

pub asked_waits : (target : Option Tenure) (t : Turn) (u : Actors) (number : ℕ) (serving : Channel) (initial : List ℕ) → 1 ≤ number
    → is_up u SWITCH_LINK ≡ true → waiting_of u number ≡ []
    → outs_for number t.outs ≡ outs_of number (complete_layer3 serving initial ∷ []) → AllByRecursion IsSent t.outs
    → waiting_of (with_turn target t u) number ≡ initial ∷ []
asked_waits target t u number serving initial from_one up none put sent =
    turn_waiting target t.outs (record u { controller = t.next }) number up
    ∙ ap (λ (ms : List (List ℕ)). ms ++ map (λ (f : Forwarded). f.message) (forwarded t.outs number)) none
    ∙ all_zero (forwarded t.outs number) (seen Three) ∙ seen Zero
  where
    seen : (sapi : Sapi) → messages_on sapi (forwarded t.outs number) ≡ relayed sapi (complete_layer3 serving initial ∷ [])
    seen sapi = forwarded_seen number t.outs (complete_layer3 serving initial ∷ []) from_one put (tt, tt) sent sapi
