-- SPDX-License-Identifier: MIT OR Apache-2.0
-- By an ACTIVATION ACK the controller puts one output at most.
use Rattle.world_laws.proofs.Prelude.{◌≡◌, ◌≢◌, ◌⊎◌, inl, inr, ℕ, Bool, true, false, List, [], ◌∷◌, Option, Some, None, refl, sym, ap, ◌∙◌}
use Rattle.world_laws.proofs.Prelude.{subst, Place, Out, outs_of, Preparing, State, WaitActivation, Live, Connection, is_at, Row}
use Rattle.world_laws.proofs.Prelude.{assign_immediately, command_to, on_activation_ack, ChannelState, Free, InUse, Releasing, Word}
use Rattle.world_laws.proofs.Prelude.{Controller, Entry, channel_state, entry_of, ignoring, hears, place_at, by_fitting, concerning}
use Rattle.world_laws.proofs.Prelude.{entry_at, on_state, on_what, on_word, row_in, rsl_word, Frame, What, Rsl, acknowledged_tenure}
use Rattle.world_laws.proofs.Prelude.{target_in, rsl_in, Actors, IsKnown, IsKnownItem, if_is, word_of}
use Rattle.conn_rules.specs.declared.input.Input.TheVariants as inputs
use Rattle.conn_rules.specs.Table.{row_of}
use Rattle.ruled_relay.specs.declared.item.What.TheVariants as whats
use Rattle.rsl_codec.specs.declared.rsl.Rsl.TheVariants as rsl
use Rattle.world_laws.proofs.OrderHeard.{read_known, word_known}
use Rattle.world_laws.proofs.OwnerRun.{source_or}

abbrev pub IsOneOut : List Out → Type 0
IsOneOut outs = (outs ≡ []) ⊎ ((out : Out) × (outs ≡ out ∷ []))

one_row : (n : ℕ) (p : Place) (state : State) (s : Connection) (r : Row) →
    on_activation_ack state s p ≡ Some r →
    IsOneOut (outs_of n r.outs)
one_row n p WaitActivation s r fits = subst (λ (q : Row). IsOneOut (outs_of n q.outs)) (if_is (is_at p s.serving) (assign_immediately s) r fits).1 (inr (_, refl))
one_row n p (Live reference (Preparing target)) s r fits = subst (λ (q : Row). IsOneOut (outs_of n q.outs)) (if_is (is_at p target.channel) (command_to reference target s) r fits).1 (inr (_, refl))
one_row n p _ s r fits = absurd cc

one_fitting : (p : Place) (c : Controller) (e : Entry) (o : Option Row) →
    row_in c e.connection (inputs.ActivationAck p) ≡ o →
    IsOneOut (by_fitting (ignoring c) e o c).outs
unfolding row_of
one_fitting p c e None is = inl refl
one_fitting p c e (Some r) is = one_row e.connection.number p e.connection.state e.connection r is

one_concerning : (p : Place) (c : Controller) (o : Option Entry) → IsOneOut (concerning (inputs.ActivationAck p) c o).outs
one_concerning p c None = inl refl
one_concerning p c (Some e) = one_fitting p c e (row_in c e.connection (inputs.ActivationAck p)) refl

one_state : (p : Place) (c : Controller) (state : ChannelState) →
    IsOneOut (on_state state p (inputs.ActivationAck p) c (entry_at c state)).outs
one_state p c Free = inl refl
one_state p c (InUse k) = one_concerning p c (entry_of c k)
one_state p c (Releasing k) = one_concerning p c (entry_of c k)

-- ---- an item of the inbox

one_message : (w : Actors) (source : ℕ) (m : Rsl) →
    (acknowledged_tenure w source (Some m) ≡ None) ⊎ IsOneOut (on_word source (rsl_word source m) w.controller).outs
one_message w source (rsl.ChannelActivationAck a) = let p : Place = place_at source a.channel in inr (one_state p w.controller (channel_state w.controller p))
one_message w source _ = inl refl

one_frame : (w : Actors) (source : ℕ) (frame : Frame) (up : Bool) →
    source ≢ 0 →
    IsKnown (whats.Frame frame) →
    (acknowledged_tenure w source (rsl_in frame) ≡ None) ⊎ IsOneOut (on_what up source (whats.Frame frame) w.controller).outs
one_frame w source frame false station known = inr (inl refl)
one_frame w source frame true station (m, is, read, no_nack) =
    let says : rsl_in frame ≡ Some m = ap rsl_in is ∙ read_known m read in
    let word : word_of source frame ≡ rsl_word source m = ap (word_of source) is ∙ word_known source m station read in
    subst (λ (o : Option Rsl). (acknowledged_tenure w source o ≡ None) ⊎ IsOneOut (on_word source (word_of source frame) w.controller).outs) (sym says)
    (subst (λ (x : Word). (acknowledged_tenure w source (Some m) ≡ None) ⊎ IsOneOut (on_word source x w.controller).outs) (sym word) (one_message w source m))

-- it leads nowhere, or one output is put at most
pub one_item : (w : Actors) (source : ℕ) (what : What) →
    IsKnownItem (record { source = source; what = what }) →
    (target_in w source what ≡ None) ⊎ IsOneOut (on_what (hears w.controller source) source what w.controller).outs
one_item w source whats.Down known = inl refl
one_item w source (whats.Frame frame) known = elim (source_or source) [
  | inl switch ↦ inl (ap (acknowledged_tenure w source) (known.switch switch))
  | inr station ↦ one_frame w source frame (hears w.controller source) station (known.station station)
]
