-- SPDX-License-Identifier: MIT OR Apache-2.0
-- Where an old channel after a step comes from: it was old before, and the step doesn't bring its
-- RF CHANNEL RELEASE ACK; or it was the serving one.
use Rattle.world_laws.proofs.Prelude.{◌≡◌, ◌≢◌, ◌⊎◌, ℕ, ◌==◌, ◌≤◌, Bool, true, cond, if◌then◌else◌, List, [], ◌∷◌, option_to_list, Contains}
use Rattle.world_laws.proofs.Prelude.{Option, Some, None, refl, sym, ap, ◌∙◌, subst, inl, inr, cases_Bool, eqb-true, eq-eqb, Channel, Place}
use Rattle.world_laws.proofs.Prelude.{Message, SWITCH_LINK, changes_roles_row, Input, Drain}
use Rattle.world_laws.proofs.Prelude.{Target, Connection, ChangesRoles, ChangesRolesBy, RoleStep, Roles}
use Rattle.world_laws.proofs.Prelude.{after_step, roles_of, step_by, with_target, carries_on, ends, had_ended, unchanged, IsValid, Row, IsOpen}
use Rattle.world_laws.proofs.Prelude.{undone, Acts, Brought, IsAged, brought_by, brought_in, brought_with, if_held, ages, takes_row}
use Rattle.world_laws.proofs.Prelude.{opens, rests, nothing, connection_of, SameRequest, Owns, OwnsOpen, aged_holds, fine_old, life_acts}
use Rattle.world_laws.proofs.Prelude.{life_fits, life_names, life_owns, changes_of, free≢release, is_there, state_here, contains_none}
use Rattle.world_laws.proofs.Prelude.{ChannelState, Free, Releasing, Step, Controller, channel_state, holder, hears, place_of, state_in}
use Rattle.world_laws.proofs.Prelude.{with_state, step, rsl_word, Frame, is_bound_of, What, Rsl, RequestReference, AreAllowed, Parameters}
use Rattle.world_laws.proofs.Prelude.{said_by, acknowledgements, rsl_in, IsKnownItem, heard_of, hear, same_Some, same_state}
use Rattle.world_laws.proofs.Prelude.{KeepsAccount-by, MissesOf, of_frame, IsFine, acknowledged_owns, all_contained, life, word_of}
use Rattle.conn_rules.specs.declared.input.Input.TheVariants as inputs
use Rattle.controller_model.specs.declared.step.Step.TheVariants as steps
use Rattle.ruled_relay.specs.declared.item.What.TheVariants as whats
use Rattle.rsl_codec.specs.declared.rsl.Rsl.TheVariants as rsl
use Rattle.world_laws.proofs.OrderHeard.{read_known, word_known}
use Rattle.world_laws.proofs.OrderRows.{States}
use Rattle.world_laws.proofs.Channels.BegunRun.{kept_some}

-- ---- a connection after time passed

aged_draining : (old s : Connection) → IsAged old s → s.draining ≡ old.draining
aged_draining old s aged = aged_holds (λ (c : Connection). c.draining ≡ old.draining) (λ ms c is. is) old s aged refl

aged_roles : (old s : Connection) → IsAged old s → roles_of s ≡ roles_of old
aged_roles old s aged = aged_holds (λ (c : Connection). roles_of c ≡ roles_of old) (λ ms c is. is) old s aged refl

open_before : (s : Connection) (input : Input) (offer : Option Channel) (r : Row) →
    ChangesRoles s input offer r →
    IsOpen r.next.state →
    IsOpen s.state
open_before s input offer r (carries_on was_open is_open on) is = was_open
open_before s input offer r (ends was_open shut over) is = was_open
open_before s input offer r (had_ended was_shut shut silent) is = absurd (shut is)

-- ---- what it was before

pub record WasUsed (before : Option Connection) (d : Channel) : Type 0 where
  pub old : Connection
  pub there : before ≡ Some old
  pub is_open : IsOpen old.state
  pub role : Contains (undone old.draining) d ⊎ (d ≡ old.serving)

acts_used : (number next : ℕ) (up : Bool) (brought : Brought) (before after : Option Connection) (put : List Message) (t : Connection) (d : Channel) →
    Acts number next up brought before put after →
    IsFine before →
    after ≡ Some t →
    IsOpen t.state →
    Contains (undone t.draining) d →
    WasUsed before d
acts_used number next up brought before after put t d (rests silent same none) fine is is_open has = record { old = t; there = sym same ∙ is; is_open = is_open; role = inl has }
acts_used number next up brought before after put t d (ages old s was_time was aged silent same) fine is is_open has =
    let now : s ≡ t = same_Some _ _ (sym same ∙ is) in
    record {
      old = old;
      there = was;
      is_open = subst IsOpen (ap (λ (c : Connection). c.state) (sym now) ∙ same_state old s aged) is_open;
      role = inl (subst (λ (ds : List Drain). Contains (undone ds) d) (ap (λ (c : Connection). c.draining) (sym now) ∙ aged_draining old s aged) has);
    }
acts_used number next up brought before after put t d (opens begins linked channel request delay is_nothing none put_is same) fine is is_open has =
    absurd (contains_none d (subst (λ (ds : List Drain). Contains (undone ds) d) (ap (λ (c : Connection). c.draining) (sym (same_Some _ _ (sym same ∙ is)))) has))
acts_used number next up brought before after put t d (takes_row old s input offer r was aged by fits put_is same) fine is is_open has =
    let now : r.next ≡ t = kept_some r.next.state r.next t (sym same ∙ is) in
    let changes = changes_of s input offer r (fine_old before old s was aged fine).1 fits in
    let open_next : IsOpen r.next.state = subst (λ (c : Connection). IsOpen c.state) (sym now) is_open in
    let began = (KeepsAccount-by s input offer r changes).begins_to_drain open_next d (subst (λ (c : Connection). Contains (undone c.draining) d) (sym now) has) in
    record {
      old = old;
      there = was;
      is_open = subst IsOpen (same_state old s aged) (open_before s input offer r changes open_next);
      role = elim began [
        | inl still ↦ inl (subst (λ (ds : List Drain). Contains (undone ds) d) (aged_draining old s aged) still)
        | inr served ↦ inr (served.0 ∙ ap (λ (roles : Roles). roles.serving) (aged_roles old s aged))
      ];
    }

-- ---- its RF CHANNEL RELEASE ACK doesn't arrive

module _ (channels : States) (links : List Bool) (number k : ℕ) (d : Channel) (state : state_in channels (place_of d) ≡ Releasing k) where
  freed_never : (roles : Roles) → Owns (with_state (place_of d) Free channels) links number roles → Contains (undone roles.draining) d → ⊥
  freed_never roles owns has =
      free≢release number (sym (state_here channels (place_of d) Free (is_there channels (place_of d) (λ free. free≢release k (sym free ∙ state))))
      ∙ all_contained (λ (c : Channel). state_in (with_state (place_of d) Free channels) (place_of c) ≡ Releasing number) (undone roles.draining) d owns.releasing has)

  still_draining : (begun : Option Target) (roles : Roles) → (with_target begun roles).draining ≡ roles.draining
  still_draining None roles = refl
  still_draining (Some target) roles = refl

  freed_changes : (s : Connection) (input : Input) (offer : Option Channel) (r : Row) →
      ChangesRoles s input offer r →
      input ≡ inputs.ReleaseAck (place_of d) →
      IsOpen r.next.state →
      Owns channels links number (roles_of s) →
      Contains (undone r.next.draining) d →
      ⊥
  freed_changes s input offer r (carries_on was_open is_open on) by is owns has =
      let after : Roles = after_step (step_by (inputs.ReleaseAck (place_of d)) (roles_of s)) (roles_of s) in
      let same : r.next.draining ≡ after.draining = ap (λ (roles : Roles). roles.draining) on.roles ∙ still_draining on.begun (after_step (step_by input (roles_of s)) (roles_of s))
      ∙ ap (λ (i : Input). (after_step (step_by i (roles_of s)) (roles_of s)).draining) by in
      freed_never after (acknowledged_owns channels links number k (place_of d) (roles_of s) state owns) (subst (λ (ds : List Drain). Contains (undone ds) d) same has)
  freed_changes s input offer r (ends was_open shut over) by is owns has = absurd (shut is)
  freed_changes s input offer r (had_ended was_shut shut silent) by is owns has = absurd (shut is)

  acts_freed : (next : ℕ) (up : Bool) (before after : Option Connection) (put : List Message) (t : Connection) → Acts number next up (of_frame (inputs.ReleaseAck (place_of d))) before put after → IsFine before → after ≡ Some t → IsOpen t.state → Contains (undone t.draining) d
      → ((o : Connection) → before ≡ Some o → IsOpen o.state → Owns channels links number (roles_of o)) → ⊥
  acts_freed next up before after put t (rests silent same none) fine is is_open has owns =
      let there : before ≡ Some t = sym same ∙ is in
      let misses = subst (MissesOf (inputs.ReleaseAck (place_of d))) there none in
      let valid : IsValid t = (fine_old before t t there ([], refl) fine).1 in
      let remain : step_by (inputs.ReleaseAck (place_of d)) (roles_of t) ≡ unchanged = subst (ChangesRolesBy t (inputs.ReleaseAck (place_of d)) misses.0) misses.1 (changes_roles_row t (inputs.ReleaseAck (place_of d)) misses.0 valid) in
      freed_never (roles_of t) (subst (λ (role_step : RoleStep). Owns (with_state (place_of d) Free channels) links number (after_step role_step (roles_of t))) remain (acknowledged_owns channels links number k (place_of d) (roles_of t) state (owns t there is_open))) has
  acts_freed next up before after put t (ages old s was_time was aged silent same) fine is is_open has owns = absurd cc
  acts_freed next up before after put t (opens begins linked channel request delay is_nothing none put_is same) fine is is_open has owns = absurd cc
  acts_freed next up before after put t (takes_row old s input offer r was aged by fits put_is same) fine is is_open has owns =
      let now : r.next ≡ t = kept_some r.next.state r.next t (sym same ∙ is) in
      let changes = changes_of s input offer r (fine_old before old s was aged fine).1 fits in
      let open_next : IsOpen r.next.state = subst (λ (c : Connection). IsOpen c.state) (sym now) is_open in
      let open_old : IsOpen old.state = subst IsOpen (same_state old s aged) (open_before s input offer r changes open_next) in
      freed_changes s input offer r changes by open_next (subst (Owns channels links number) (sym (aged_roles old s aged)) (owns old was open_old)) (subst (λ (c : Connection). Contains (undone c.draining) d) (sym now) has)

-- ---- of a life of the controller

pub record ComesFrom (c : Controller) (s : Step) (n : ℕ) (t : Connection) (d : Channel) : Type 0 where
  pub used : WasUsed (connection_of c n) d
  pub access : t.request.access ≡ used.old.request.access
  pub unfreed : (k : ℕ) → channel_state c (place_of d) ≡ Releasing k → brought_in c n s ≡ of_frame (inputs.ReleaseAck (place_of d)) → ⊥

pub comes_from : (p : Parameters) (ss : List Step) (s : Step) (n : ℕ) (t : Connection) (d : Channel) →
    AreAllowed p →
    1 ≤ n →
    connection_of (step (life p ss).next s).next n ≡ Some t →
    IsOpen t.state →
    Contains (undone t.draining) d →
    ComesFrom (life p ss).next s n t d
comes_from p ss s n t d allowed from_one is is_open has =
    let c : Controller = (life p ss).next in
    let acts = (life_acts p ss s n from_one).acts in
    let put : List Message = (life_acts p ss s n from_one).put in
    let fine : IsFine (connection_of c n) = (life_fits p ss n from_one).fine in
    let used : WasUsed (connection_of c n) d = acts_used n c.next_number (hears c SWITCH_LINK) (brought_in c n s) (connection_of c n) (connection_of (step c s).next n) put t d acts fine is is_open has in
    let remains_same : SameRequest (Some used.old) (Some t) = subst (SameRequest (Some used.old)) is (subst (λ (o : Option Connection). SameRequest o (connection_of (step c s).next n)) used.there (life_names p ss s n from_one).keeps_request) in
    record {
      used = used;
      access = ap (λ (q : RequestReference). q.access) remains_same;
      unfreed = λ k state brings. acts_freed c.channels c.links n k d state c.next_number (hears c SWITCH_LINK) (connection_of c n) (connection_of (step c s).next n) put t
          (subst (λ (b : Brought). Acts n c.next_number (hears c SWITCH_LINK) b (connection_of c n) put (connection_of (step c s).next n)) brings acts) fine is is_open has
          (λ o there o_open. subst (OwnsOpen c.channels c.links n) there (life_owns p ss n allowed) o_open);
    }

-- ---- what is heard that frees a channel is its RF CHANNEL RELEASE ACK

end_or_plain : (m : Rsl) (state : ChannelState) → ((channel : ℕ) × (m ≡ rsl.RfChannelReleaseAck channel)) ⊎ (hear (m ∷ []) state ≡ state)
end_or_plain (rsl.RfChannelReleaseAck channel) state = inl (channel, refl)
end_or_plain _ state = inr refl

freeing_is : (k n : ℕ) (m : Rsl) → hear (acknowledgements k (m ∷ [])) (Releasing n) ≡ Free → m ≡ rsl.RfChannelReleaseAck k
freeing_is k n m free = elim (cases_Bool (is_bound_of k m)) [
  | inr miss ↦ absurd (free≢release n (sym free ∙ ap (λ (b : Bool). hear (cond b (m ∷ []) []) (Releasing n)) miss))
  | inl hit ↦ elim (end_or_plain m (Releasing n)) [
    | inr plain ↦ absurd (free≢release n (sym free ∙ ap (λ (b : Bool). hear (cond b (m ∷ []) []) (Releasing n)) hit ∙ plain))
    | inl end ↦ end.1 ∙ ap (λ (x : ℕ). rsl.RfChannelReleaseAck x) (eqb-true end.0 k (sym (ap (is_bound_of k) end.1) ∙ hit))
  ]
]

frame-brings : (c : Controller) (at : Place) (n : ℕ) (frame : Frame) → channel_state c at ≡ Releasing n → hears c at.station ≡ true → at.station ≢ SWITCH_LINK → IsKnownItem (record { source = at.station; what = whats.Frame frame })
    → hear (acknowledgements at.number (option_to_list (rsl_in frame))) (Releasing n) ≡ Free → brought_in c n (steps.Take (record { source = at.station; what = whats.Frame frame })) ≡ of_frame (inputs.ReleaseAck at)
frame-brings c at n frame state hearing station known free =
    let made = known.station station in
    let says : rsl_in frame ≡ Some made.0 = ap rsl_in made.1 ∙ read_known made.0 made.2 in
    let is : made.0 ≡ rsl.RfChannelReleaseAck at.number = freeing_is at.number n made.0 (sym (ap (λ (o : Option Rsl). hear (acknowledgements at.number (option_to_list o)) (Releasing n)) says) ∙ free) in
    let word : word_of at.station frame ≡ rsl_word at.station (rsl.RfChannelReleaseAck at.number) = ap (word_of at.station) made.1 ∙ word_known at.station made.0 station made.2 ∙ ap (rsl_word at.station) is in
    ap (λ (b : Bool). if b then brought_with c n at.station (whats.Frame frame) else nothing) hearing
    ∙ ap (brought_by c n) word
    ∙ ap (λ (s : ChannelState). if_held n (holder s) (inputs.ReleaseAck at)) state
    ∙ ap (λ (b : Bool). if b then of_frame (inputs.ReleaseAck at) else nothing) (eq-eqb n n refl)

pub freed_brings : (c : Controller) (at : Place) (n : ℕ) (source : ℕ) (what : What) → channel_state c at ≡ Releasing n → hears c at.station ≡ true → at.station ≢ SWITCH_LINK → IsKnownItem (record { source = source; what = what })
    → hear (heard_of at (record { source = source; what = what })) (Releasing n) ≡ Free → brought_in c n (steps.Take (record { source = source; what = what })) ≡ of_frame (inputs.ReleaseAck at)
freed_brings c at n source what state hearing station known free = elim (cases_Bool (source == at.station)) [
  | inr miss ↦ absurd (free≢release n (sym free ∙ ap (λ (b : Bool). hear (acknowledgements at.number (if b then said_by what else [])) (Releasing n)) miss))
  | inl hit ↦ by what (eqb-true source at.station hit) (subst (λ (k : ℕ). IsKnownItem (record { source = k; what = what })) (eqb-true source at.station hit) known) (sym (ap (λ (b : Bool). hear (acknowledgements at.number (if b then said_by what else [])) (Releasing n)) hit) ∙ free)
] where
  by : (x : What) →
      source ≡ at.station →
      IsKnownItem (record { source = at.station; what = x }) →
      hear (acknowledgements at.number (said_by x)) (Releasing n) ≡ Free →
      brought_in c n (steps.Take (record { source = source; what = x })) ≡ of_frame (inputs.ReleaseAck at)
  by (whats.Frame frame) same own is = ap (λ (k : ℕ). brought_in c n (steps.Take (record { source = k; what = whats.Frame frame }))) same ∙ frame-brings c at n frame state hearing station own is
  by whats.Down same own is = absurd (free≢release n (sym is))
