-- SPDX-License-Identifier: MIT OR Apache-2.0
-- A switch that was given the octets of frames is the switch of a world that took these frames.
use Rattle.std.proofs.Common.{◌≡◌, ℕ, List, [], ◌∷◌, ◌++◌, map, fold, Option, Some, None, refl, sym, ap, ◌∙◌, subst, option_map}
use Rattle.std.specs.Prelude.{option_to_list}
use Rattle.std.specs.List.{flat_map}
use Rattle.bssmap_codec.specs.declared.sccp.Sccp.{Sccp}
use Rattle.conn_messages.specs.declared.parameters.TheConstants.{SWITCH_LINK}
use Rattle.ipa_framing.specs.declared.frame.Frame.{Frame}
use Rattle.msc_end.specs.declared.connection.Connection.{Connection}
use Rattle.msc_end.specs.Switch.{connection_of}
use Rattle.msc_end.specs.SwitchState.{SwitchState}
use Rattle.relay_order.specs.Switch.{new_switch, taking}
use Rattle.relay_order.proofs.Taking.{frames_of}
use Rattle.settings.specs.Parameters.{Parameters}
use Rattle.world.specs.Queues.{entry, switch_at, switch_by}
use Rattle.world.proofs.SwitchHistory.{AreAlike, connection_of-alike, follows_all, unclear}
use Rattle.world_model.specs.declared.event.Event.{Event}
use Rattle.world_model.specs.declared.line.OutboxEntry.{OutboxEntry}
use Rattle.world_model.specs.Life.{actors_after_all}
use Rattle.world_model.specs.Queues.{all_taken}
use Rattle.world_model.specs.SwitchSide.{sccp_in}
use Rattle.world_model.specs.World.{modulus_in, new_actors}

abbrev pub messages_of : List Frame → List Sccp
messages_of frames = flat_map (λ (frame : Frame). option_to_list (sccp_in frame)) frames

taking_by : (switch : SwitchState) (o : Option Sccp) (rest : List Sccp) →
    taking switch (option_to_list o ++ rest) ≡ taking (switch_by switch o) rest
taking_by switch None rest = refl
taking_by switch (Some message) rest = refl

pub taking_again : (switch : SwitchState) (entries : List OutboxEntry) →
    fold switch_at switch (map entry entries) ≡ taking switch (messages_of (frames_of entries))
taking_again switch [] = refl
taking_again switch (line ∷ lines) =
    taking_again (switch_by switch (sccp_in line.out.frame)) lines
    ∙ sym (taking_by switch (sccp_in line.out.frame) (messages_of (frames_of lines)))

-- but for connections that are being cleared
pub given_alike : (settings : Parameters) (events : List Event)
    → AreAlike (actors_after_all (new_actors settings) events).switch
    (taking (new_switch (modulus_in settings)) (messages_of (frames_of (all_taken SWITCH_LINK (new_actors settings) events))))
given_alike settings events =
    let begin : SwitchState = new_switch (modulus_in settings) in
    let entries : List OutboxEntry = all_taken SWITCH_LINK (new_actors settings) events in
    subst (AreAlike (actors_after_all (new_actors settings) events).switch) (taking_again begin entries)
    (follows_all (new_actors settings) events begin (record { modulus = refl; connections = refl }))

-- ---- what is seen of a connection, but for its being cleared

seen_clear : {X : Type 0} (seen : Connection → X) →
    ((c : Connection) → seen (unclear c) ≡ seen c) →
    (o : Option Connection) →
    option_map seen (option_map unclear o) ≡ option_map seen o
seen_clear seen same None = refl
seen_clear seen same (Some c) = ap (λ (x : _). Some x) (same c)

pub seen_alike : {X : Type 0} (seen : Connection → X) → ((c : Connection) → seen (unclear c) ≡ seen c) → (one other : SwitchState) → AreAlike one other → (n : ℕ)
    → option_map seen (connection_of one.connections n) ≡ option_map seen (connection_of other.connections n)
seen_alike seen same one other alike n =
    sym (seen_clear seen same (connection_of one.connections n))
    ∙ ap (option_map seen) (sym (connection_of-alike one.connections n) ∙ ap (λ (cs : List Connection). connection_of cs n) alike.connections ∙ connection_of-alike other.connections n)
    ∙ seen_clear seen same (connection_of other.connections n)
