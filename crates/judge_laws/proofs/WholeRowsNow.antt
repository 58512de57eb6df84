-- SPDX-License-Identifier: MIT OR Apache-2.0
-- What is known when a row of a connection is done.
use Rattle.std.proofs.Common.{◌≡◌, ◌≢◌, ℕ, Bool, List, [], ◌∷◌, Option, Some, None, refl}
use Rattle.std.specs.List.{AllByRecursion}
use Rattle.conn_messages.specs.declared.channel.Channel.{Channel}
use Rattle.conn_rules.specs.declared.input.Input.{Input}
use Rattle.conn_rules.specs.declared.input.Input.TheVariants as inputs
use Rattle.conn_rules.specs.Roles.{roles_of, target_channels, target_role}
use Rattle.conn_rules.specs.Steps.{Row}
use Rattle.conn_rules.specs.Streams.{AreApart, IsOpen}
use Rattle.conn_rules.specs.Table.{row_of, serving_after}
use Rattle.controller_model.specs.declared.channel_state.ChannelState.{ChannelState}
use Rattle.controller_model.specs.declared.channel_state.ChannelState.TheVariants.{InUse}
use Rattle.controller_model.specs.Controller.{Controller, Entry, state_in}
use Rattle.controller_model.specs.LifeLaws.History.{connection_of}
use Rattle.controller_model.specs.LifeLaws.Owning.{AreIn, OwnsOpen, used_in}
use Rattle.controller_model.proofs.LifeLaws.OwningSteps.{RowOwns}
use Rattle.controller_model.proofs.LifeLaws.UsingWords.{IsHere}
use Rattle.run_judge.specs.declared.channels.ChannelView.{ChannelView}
use Rattle.run_judge.specs.declared.channels.ChannelView.TheVariants as views
use Rattle.run_judge.specs.declared.said.StationChannel.{StationChannel}
use Rattle.run_judge.specs.Channels.{view_at}
use Rattle.run_judge.specs.Judging.{Judging}
use Rattle.judge_laws.proofs.Idling.{IsMine}
use Rattle.judge_laws.specs.Places.{at_of, spot}

-- the controller before the row, perhaps with a channel that was freed just now
pub record RowNow (links : List Bool) (c : Controller) (e : Entry) (input : Input) (offer : Option Channel) (r : Row) : Type 0 where
  pub here : IsHere links c e
  pub fits : row_of e.connection input offer ≡ Some r
  pub owns : RowOwns e.connection.number c.channels links e.connection input offer r
  pub others : (n : ℕ) → n ≢ e.connection.number → OwnsOpen c.channels links n (connection_of c n)
  pub apart : IsOpen e.connection.state → AreApart (used_in (roles_of e.connection))
  pub asked : (input ≡ inputs.Move → ⊥) →
      (d : Channel) →
      offer ≡ Some d →
      d.station ≡ (serving_after e.connection (row_of e.connection input None)).station

-- its channels are nobody else's for the judge
abbrev pub AreMine : Entry → Judging → Type 0
AreMine e j = IsOpen e.connection.state → AllByRecursion (λ (d : Channel). IsMine e.connection.number (view_at j.channels (at_of d))) (e.connection.serving ∷ target_channels (target_role e.connection.state))

pub mine_views : (channels : List (List ChannelState)) (j : Judging) (n : ℕ) (ds : List Channel) →
    ((at : StationChannel) (k m number : ℕ) → state_in channels (spot at) ≡ InUse k → view_at j.channels at ≡ views.Owned m number → m ≡ k) →
    AreIn channels (InUse n) ds →
    AllByRecursion (λ (d : Channel). IsMine n (view_at j.channels (at_of d))) ds
mine_views channels j n [] owners all = tt
mine_views channels j n (d ∷ ds) owners all = (by (view_at j.channels (at_of d)) refl, mine_views channels j n ds owners all.1)
  where
    by : (view : ChannelView) → view_at j.channels (at_of d) ≡ view → IsMine n view
    by (views.Owned m number) is = owners (at_of d) n m number all.0 is
    by views.Unknown is = tt
    by (views.Activated reference) is = tt
    by (views.Opened opening) is = tt
