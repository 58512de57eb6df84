-- SPDX-License-Identifier: MIT OR Apache-2.0
-- Names of the crates below that the proofs of this crate use.
pub use Rattle.conn_messages.specs.Out.{IsSound, outs_of}
pub use Rattle.conn_messages.specs.declared.channel.Channel.{Channel}
pub use Rattle.conn_messages.specs.declared.out.Out.{Out}
pub use Rattle.conn_rules.specs.Connection.{Connection}
pub use Rattle.conn_rules.specs.Steps.{Row}
pub use Rattle.conn_rules.specs.Streams.{OfRow}
pub use Rattle.conn_rules.specs.declared.input.Input.{Input}
pub use Rattle.conn_rules.specs.declared.state.State.{State}
pub use Rattle.conn_rules.specs.declared.state.State.TheVariants.{Closed, Live, Removed, WaitActivation, WaitConfirm, WaitEstablish}
pub use Rattle.connections.specs.Entries.{AreRising, ConnectionsState, IsBelow}
pub use Rattle.controller_model.specs.Controller.{Controller, Entry, Turn, each, entry_of, has_number, put_back, turn}
pub use Rattle.controller_model.specs.Life.{aged, all_aged, by_fitting, concerning_too, entry_after}
pub use Rattle.controller_model.specs.declared.channel_state.ChannelState.{ChannelState}
pub use Rattle.controller_model.specs.declared.step.Step.{Step}
pub use Rattle.dtap_codec.specs.declared.report.Report.{Report}
pub use Rattle.settings.specs.Parameters.{Parameters}
pub use Rattle.std.proofs.Common.{Bool, List, None, Option, Some, [], ap, arith, cond, drop, false, find, inl, inr, length, map, refl}
pub use Rattle.std.proofs.Common.{rules, slice_get, subst, sym, true, ℕ, ◌++◌, ◌+◌, ◌<◌, ◌∙◌, ◌∷◌, ◌≡◌, ◌≢◌, ◌≤◌}
pub use Rattle.std.proofs.lemmas.Bool.{eq-eqb}
pub use Rattle.std.specs.List.{AllByRecursion}
pub use Rattle.std.specs.Vec.Iter.{into_iter_items}
