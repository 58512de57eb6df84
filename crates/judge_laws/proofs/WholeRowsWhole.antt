-- SPDX-License-Identifier: MIT OR Apache-2.0
-- The whole controller after a row, from what holds of the row's own connection.
use Rattle.std.proofs.Common.{◌≡◌, ◌≢◌, ℕ, Bool, List, [], ◌∷◌, Option, Some, refl, sym, subst, ap, ◌∙◌, inl, inr, fold, option_map}
use Rattle.conn_messages.specs.declared.channel.Channel.{Channel}
use Rattle.conn_messages.specs.declared.channel.Place.{Place}
use Rattle.conn_messages.specs.declared.message.Message.{Message}
use Rattle.conn_messages.specs.declared.message.Message.TheVariants.{Station, Data, ReleaseComplete, Request}
use Rattle.conn_rules.specs.Connection.{Connection}
use Rattle.conn_rules.specs.declared.input.Input.{Input}
use Rattle.conn_rules.specs.declared.state.State.{State}
use Rattle.conn_rules.specs.declared.state.State.TheVariants.{Closed, Live, Removed, WaitActivation, WaitConfirm, WaitEstablish}
use Rattle.conn_rules.specs.Roles.{roles_of}
use Rattle.conn_rules.specs.Steps.{Row}
use Rattle.conn_rules.specs.Streams.{IsOpen, OfRow}
use Rattle.controller_model.specs.declared.channel_state.ChannelState.TheVariants.{InUse, Releasing}
use Rattle.controller_model.specs.Controller.{Controller, Entry, channels_after, holder, place_at, state_in}
use Rattle.controller_model.specs.Life.{by_row, entry_after}
use Rattle.controller_model.specs.LifeLaws.Acts.{kept_in}
use Rattle.controller_model.specs.LifeLaws.History.{connection_of}
use Rattle.controller_model.specs.LifeLaws.Owning.{Owns, OwnsOpen}
use Rattle.controller_model.proofs.LifeLaws.Acting.{row_found}
use Rattle.controller_model.proofs.LifeLaws.Entries.{back_over}
use Rattle.controller_model.proofs.LifeLaws.OwningSteps.{by_row_owns}
use Rattle.controller_model.proofs.LifeLaws.Places.{set_or_not}
use Rattle.controller_model.proofs.LifeLaws.Words.{decide_same}
use Rattle.controller_model.proofs.Numbers.{keeps_number}
use Rattle.rsl_codec.specs.declared.rsl.Rsl.TheVariants as rsl
use Rattle.run_judge.specs.Channels.{view_at}
use Rattle.run_judge.specs.Judging.{Judging}
use Rattle.judge_laws.proofs.Fine.{AreFine, IsFine}
use Rattle.judge_laws.proofs.HeardFine.{IsReady}
use Rattle.judge_laws.proofs.WholeRowsNow.{RowNow}
use Rattle.judge_laws.proofs.WholeRowsOthers.{Changes, other_fine}
use Rattle.judge_laws.proofs.WholeRowsViews.{Channels, all_owners}
use Rattle.judge_laws.specs.Places.{spot}

module _ (links : List Bool) (c : Controller) (e : Entry) (input : Input) (offer : Option Channel) (r : Row) (now : RowNow links c e input offer r) where
  abbrev n : ℕ
  n = e.connection.number

  abbrev next : Controller
  next = (by_row e r c).next

  abbrev behind : Channels
  behind = fold (channels_after n) c.channels r.outs

  keeps : r.next.number ≡ n
  keeps = subst (λ (o : Option Row). OfRow (λ (q : Row). q.next.number ≡ n) o) now.fits (keeps_number e.connection input offer)

  -- ---- the row's connection

  pub row_kept : connection_of next n ≡ kept_in r.next.state r.next
  row_kept = row_found c e e r now.here.rising keeps now.here.there

  owns_all : (m : ℕ) → OwnsOpen behind links m (connection_of next m)
  owns_all m = by_row_owns links c e e input offer r now.here.rising now.here.there now.fits now.owns now.others m

  of_kept : (state : State) (s : Connection) →
      IsOpen state →
      OwnsOpen behind links n (kept_in state s) →
      IsOpen s.state →
      Owns behind links n (roles_of s)
  of_kept WaitActivation s is_open owns = owns
  of_kept WaitEstablish s is_open owns = owns
  of_kept WaitConfirm s is_open owns = owns
  of_kept (Live reference stage) s is_open owns = owns
  of_kept (Closed clearing) s is_open owns = absurd is_open
  of_kept Removed s is_open owns = absurd is_open

  pub next_owns : IsOpen r.next.state → Owns behind links n (roles_of r.next)
  next_owns is_open = of_kept r.next.state r.next is_open (subst (OwnsOpen behind links n) row_kept (owns_all n)) is_open

  -- ---- all others

  same_other : (m : ℕ) → m ≢ n → connection_of next m ≡ connection_of c m
  same_other m differ = ap (option_map (λ (x : Entry). x.connection)) (back_over m (entry_after c.settings e r) c.entries (λ same. differ (same ∙ keeps)))

  -- a channel that the connection has it still has, or it releases it
  one_held : (at : Place) (channels : Channels) (m : Message) →
      holder (state_in channels at) ≡ Some n →
      holder (state_in (channels_after n channels m) at) ≡ Some n
  one_held at channels (Station station (rsl.ChannelActivation a)) held = elim (set_or_not channels (place_at station a.channel) at (InUse n)) [ inl now ↦ ap holder now | inr same ↦ ap holder same ∙ held ]
  one_held at channels (Station station (rsl.RfChannelRelease channel)) held = elim (set_or_not channels (place_at station channel) at (Releasing n)) [ inl now ↦ ap holder now | inr same ↦ ap holder same ∙ held ]
  one_held at channels (Station station x) held = held
  one_held at channels (Request message) held = held
  one_held at channels (Data destination message) held = held
  one_held at channels (ReleaseComplete destination) held = held

  still_held : (at : Place) (channels : Channels) (ms : List Message) →
      holder (state_in channels at) ≡ Some n →
      holder (state_in (fold (channels_after n) channels ms) at) ≡ Some n
  still_held at channels [] held = held
  still_held at channels (m ∷ ms) held = still_held at (channels_after n channels m) ms (one_held at channels m held)

  same_holder : (k m : ℕ) → (let o : Option ℕ = Some m in o) ≡ Some k → m ≡ k
  same_holder k m is = cc

  pub whole_fine : (j after : Judging) →
      IsReady c e input r j →
      Changes n c.channels r.outs j after →
      IsFine next after n →
      AreFine next after
  whole_fine j after ready changes own = record {
    each = λ m. decide_same m n (IsFine next after m)
        (λ same. subst (IsFine next after) (sym same) own)
        (λ differ. other_fine links n m c.channels r.outs j after differ changes c next refl refl refl (same_other m differ) (now.others m differ) (subst (OwnsOpen behind links m) (same_other m differ) (owns_all m)) (ready.others m differ));
    owners = λ at k m number used view. elim (changes.own at m number view) [
      | inl said ↦ all_owners n at c.channels r.outs (view_at j.channels at) (λ a b d is owned. ready.owners at a b d is owned) k m number used said
      | inr mine ↦ mine.0 ∙ same_holder k n (sym (still_held (spot at) c.channels r.outs (ap holder mine.1)) ∙ ap holder used)
    ];
  }
