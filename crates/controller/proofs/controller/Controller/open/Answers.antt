-- SPDX-License-Identifier: MIT OR Apache-2.0
use Rattle.controller.proofs.Prelude.{◌≡◌, ℕ, ◌+◌, List, [], ◌∷◌, ◌++◌, subst, ap, ◌∙◌, Channel, Out, outs_of, ConnectionsState}
use Rattle.controller.proofs.Prelude.{ChannelState, Controller, Parameters}
use Rattle.conn_messages.specs.StationMessage.{access_activation}
use Rattle.controller.specs.contracts.controller.Controller.{the_view}
use Rattle.controller.specs.Doing.{Turns}
use Rattle.controller.proofs.controller.Controller.open.Goals as goal
use Rattle.controller_model.specs.Controller.{channels_after}
use Rattle.controller_model.specs.Life.{new_entry, with_connection}
use Rattle.rsl_codec.specs.declared.values.RequestReference.{RequestReference}

-- one connection more, whose channel is activated
opened : (c : Controller) (p : Parameters) (made : ConnectionsState) (channels : List (List ChannelState)) (channel : Channel) (request : RequestReference) (delay : ℕ) → p ≡ c.settings
    → made ≡ record { settings = p; entries = c.entries ++ new_entry p c.next_number channel request delay ∷ [] } → channels ≡ channels_after c.next_number c.channels (access_activation channel)
    → record c { channels = channels; entries = made.entries; next_number = c.next_number + 1 } ≡ (with_connection c channel request delay).next
opened c p made channels channel request delay same is follows =
    ap (λ (all : List (List ChannelState)). record c { channels = all; entries = made.entries; next_number = c.next_number + 1 }) follows
    ∙ ap (λ (s : ConnectionsState). record c { channels = channels_after c.next_number c.channels (access_activation channel); entries = s.entries; next_number = c.next_number + 1 }) is
    ∙ ap (λ (q : Parameters). record c { channels = channels_after c.next_number c.channels (access_activation channel); entries = c.entries ++ new_entry q c.next_number channel request delay ∷ []; next_number = c.next_number + 1 }) same

pub returns-clause-ok : goal.returns-clause-ok
returns-clause-ok c =
    let put : List Out = outs_of c.self.inside.next_number (access_activation c.args.channel ∷ []) in
    let frames : c.as_slice.result.now ≡ put = c.as_slice.ensures.outs ∙ c.in_ok-made.ensures.made in
    let behind : c.append.new.self.outs ≡ c.args.outputs.now.outs ++ put =
    c.append.ensures.outs ∙ ap (λ (before : List Out). before ++ c.in_ok-made.made.outs) c.activation_frames.ensures.outs
    ∙ ap (λ (made : List Out). c.args.outputs.now.outs ++ made) c.in_ok-made.ensures.made in
    subst (λ (d : Controller). Turns (with_connection d c.args.channel c.args.request c.args.delay) d (the_view (record c.self.inside { channels = c.follow.new.self; connections = c.open.new.self; next_number = c.self.inside.next_number + 1 })) c.args.outputs.now.outs c.append.new.self.outs) c.self.view_is (
      opened (the_view c.self.inside) c.self.inside.connections.settings c.open.new.self c.follow.new.self c.args.channel c.args.request c.args.delay c.self.invariant.settings c.in_ok-open.ensures.ok
          (c.follow.ensures (access_activation c.args.channel ∷ []) (c.in_ok-made.ensures.lawful, tt) frames),
      behind,
    )
