-- SPDX-License-Identifier: MIT OR Apache-2.0
-- What the controller does for a connection keeps it lined up.
use Rattle.world_laws.proofs.Prelude.{◌≡◌, ℕ, ◌≤◌, ◌&&◌, nat_eq, Bool, true, false, if◌then◌else◌, List, [], ◌∷◌, ◌++◌, fold, length}
use Rattle.world_laws.proofs.Prelude.{Option, Some, None, refl, sym, ap, ◌∙◌, subst, append_assoc, inl, inr, arith, AllByRecursion}
use Rattle.world_laws.proofs.Prelude.{flat_map, cases_Bool, eq-eqb, Channel, Place, Out, IsReadOf, outs_of, Input, Connection, is_at}
use Rattle.world_laws.proofs.Prelude.{drain_at, TargetRole, Roles, RoleStep, target_role, roles_of, awaits_at, changes_by, is_target_at}
use Rattle.world_laws.proofs.Prelude.{leaves_at, step_by, RemainsOpen, roles_unchanged, role_commands, role_completes, role_reverts, role_leaves}
use Rattle.world_laws.proofs.Prelude.{Row, AreApart, IsApart, undone, used_channels, Turn, place_of, rr_text, RelayItem, AirMessage, Tenure}
use Rattle.world_laws.proofs.Prelude.{joined_by, with_turn, tenure_in, Actors, base_of, is_up, outbox_of, with_outbox, tenure_at}
use Rattle.world_laws.proofs.Prelude.{turn_leads, apart_behind, change_command, command, role_commanded, IsCommand, take, brings_in}
use Rattle.world_laws.proofs.Prelude.{coming_up, made_of, leading_from_outbox, going_down, BeginsTenure, HandlesFor, IsPutAsRead, Leads}
use Rattle.world_laws.proofs.Prelude.{leads}
use Rattle.conn_messages.specs.Out.{out_of}
use Rattle.conn_rules.specs.declared.input.Input.TheVariants as inputs
use Rattle.conn_rules.specs.Streams.{target_in}
use Rattle.world_model.specs.Relay.{entry_of}
use Rattle.world_laws.proofs.Others.{down_joined}
use Rattle.world_laws.proofs.OwnCommand.{change-read, command_leads}
use Rattle.world_laws.proofs.OwnInput.{targets_of, Awaits, awaited}
use Rattle.world_laws.proofs.OwnSeats.{Downs}
use Rattle.world_laws.proofs.OwnSeats.Downs.{same, commanded}
use Rattle.world_laws.proofs.OwnTurn.{turn_down, commanded_down}
use Rattle.world_laws.proofs.RolesAfter.{commanded_of, commanded_role, channels_after}

-- ---- the world after it

-- the controller has the item, and what it puts isn't out yet
abbrev pub handling : Actors → List RelayItem → Turn → Actors
handling w items t = record w { inbox = items; controller = t.next }

abbrev pub handled_by : Actors → RelayItem → List RelayItem → Actors
handled_by w item items = with_turn (tenure_in w item.source item.what) (take item w.controller) (record w { inbox = items })

pub first_coming : (w : Actors) (item : RelayItem) (items : List RelayItem) (at : Place) →
    w.inbox ≡ item ∷ items →
    coming_up w at ≡ brings_in at item ++ coming_up (handled_by w item items) at
first_coming w item items at pending =
    ap (λ (xs : List RelayItem). flat_map (brings_in at) xs ++ made_of at.number (base_of w at.station).messages) pending
    ∙ append_assoc (brings_in at item) (flat_map (brings_in at) items) (made_of at.number (base_of w at.station).messages)
    ∙ turn_leads (λ (v : Actors). brings_in at item ++ coming_up (record w { inbox = items }) at ≡ brings_in at item ++ coming_up v at) (tenure_in w item.source item.what) (take item w.controller) (record w { inbox = items }) (λ links. refl)

-- ---- what is on its way down

-- a COMMAND is put for a target that was activated alone
commands_awaits : (input : Input) (roles : Roles) → step_by input roles ≡ role_commands → Awaits roles.target
commands_awaits (inputs.ActivationAck at) roles is = elim (cases_Bool (awaits_at at roles.target)) [
  | inl waits ↦ awaited at roles.target waits
  | inr not_so ↦ absurd (remains_not (sym (ap (λ (b : Bool). if b then role_commands else roles_unchanged) not_so) ∙ is))
] where
  remains_not : roles_unchanged ≡ role_commands → ⊥
  remains_not is = absurd cc
commands_awaits (inputs.ActivationNack at) roles is = absurd (by (awaits_at at roles.target) is) where
  by : (b : Bool) → (if b then role_reverts else roles_unchanged) ≡ role_commands → ⊥
  by true is = absurd cc
  by false is = absurd cc
commands_awaits (inputs.Complete at change cause) roles is = absurd (by (is_target_at at roles.target && changes_by change roles.target) is) where
  by : (b : Bool) → (if b then role_completes else roles_unchanged) ≡ role_commands → ⊥
  by true is = absurd cc
  by false is = absurd cc
commands_awaits (inputs.Failure at change cause) roles is = absurd (by (is_at at roles.serving && changes_by change roles.target) is) where
  by : (b : Bool) → (if b then role_reverts else roles_unchanged) ≡ role_commands → ⊥
  by true is = absurd cc
  by false is = absurd cc
commands_awaits (inputs.ReleaseAck at) roles is = absurd (by (drain_at at roles.draining) is) where
  by : (o : Option ℕ) → leaves_at o ≡ role_commands → ⊥
  by None is = absurd cc
  by (Some place) is = absurd cc
commands_awaits _ roles is = absurd cc

-- the COMMAND, on the serving channel
record Puts (w : Actors) (item : RelayItem) (items : List RelayItem) (s : Connection) (input : Input) (offer : Option Channel) (r : Row) (t : TargetRole) : Type 0 where
  role : target_role s.state ≡ Some t
  waits : t.is_commanded ≡ false
  remains : RemainsOpen role_commands (roles_of s) s.down input offer r
  begins : tenure_in w item.source item.what ≡ Some (tenure_at w (place_of t.target.channel))
  outs : (take item w.controller).outs ≡ outs_of s.number r.outs
  puts : r.outs ≡ change_command s.serving t.target.change t.target.channel ∷ []
  read : IsReadOf s.number (change_command s.serving t.target.change t.target.channel) (out_of s.number (change_command s.serving t.target.change t.target.channel)).frame.body
  apart : is_at (place_of s.serving) t.target.channel ≡ false

command_down : {w : Actors} {item : RelayItem} {items : List RelayItem} {s : Connection} {input : Input} {offer : Option Channel} {r : Row} {t : TargetRole} →
    Puts w item items s input offer r t →
    Downs w (handled_by w item items) s r.next
unfolding out_of commanded_of
command_down {w} {item} {items} {s} {input} {offer} {r} {t} put =
    let now = channels_after role_commands (roles_of s) s.down input offer r put.remains in
    commanded (commanded_role s.state ∙ ap commanded_of put.role ∙ ap (λ (b : Bool). if b then Some t.target else None) put.waits) t.target (now.target ∙ ap (λ (o : Option TargetRole). commanded_of (role_commanded o)) put.role) now.serving serving_down.0
    (ap (λ (v : Actors). going_down v (place_of s.serving)) one_out ∙ serving_down.1) (serving_down.2 (λ (xs : List AirMessage). length xs ≤ 1) (omega arith) (omega arith))
    (serving_down.2 (λ (xs : List AirMessage). AllByRecursion (λ a. Leads w a (Some t.target)) xs) tt (leads (change-read t.target.change t.target.channel) refl, tt))
    (ap (λ (v : Actors). going_down v (place_of t.target.channel)) one_out ∙ on_target (is_up u s.serving.station)) where
      tenure : Tenure
      tenure = tenure_at w (place_of t.target.channel)

      u : Actors
      u = handling w items (take item w.controller)

      out : Out
      out = out_of s.number (change_command s.serving t.target.change t.target.channel)

      one_out : handled_by w item items ≡ joined_by (Some tenure) u out
      one_out = ap (λ (o : Option Tenure). fold (joined_by o) u (take item w.controller).outs) put.begins ∙ ap (λ (outs : List Out). fold (joined_by (Some tenure)) u outs) (put.outs ∙ ap (outs_of s.number) put.puts)

      new : List AirMessage
      new = record { message = rr_text (command t.target.change t.target.channel); target = Some tenure } ∷ []

      serving_down : (more : List AirMessage) × (going_down (joined_by (Some tenure) u out) (place_of s.serving) ≡ going_down u (place_of s.serving) ++ more) × ((P : List AirMessage → Type 0) → P [] → P new → P more)
      serving_down = commanded_down (Some tenure) u out s.serving new refl
          (command_leads s.number s.serving.number s.serving t.target.change t.target.channel tenure put.read ∙ ap (λ (b : Bool). if b then new else []) (eq-eqb s.serving.number s.serving.number refl))

      elsewhere : s.serving.station ≡ t.target.channel.station →
          leading_from_outbox t.target.channel.number (entry_of (Some tenure) out) ≡ []
      elsewhere there = command_leads s.number t.target.channel.number s.serving t.target.change t.target.channel tenure put.read
          ∙ ap (λ (b : Bool). if b then new else []) (sym (ap (λ (b : Bool). b && nat_eq s.serving.number t.target.channel.number) (eq-eqb s.serving.station t.target.channel.station there)) ∙ put.apart)

      on_target : (b : Bool) →
          going_down (if b then with_outbox s.serving.station (outbox_of u s.serving.station ++ entry_of (Some tenure) out ∷ []) u else u) (place_of t.target.channel) ≡ going_down w (place_of t.target.channel)
      on_target true = down_joined u (Some tenure) out t.target.channel elsewhere
      on_target false = refl

-- no other row has a tenure
others_down : (w : Actors) (item : RelayItem) (items : List RelayItem) (s next : Connection) →
    tenure_in w item.source item.what ≡ None →
    Downs w (handled_by w item items) s next
others_down w item items s next none = same (λ c. ap (λ (o : Option Tenure). going_down (with_turn o (take item w.controller) (record w { inbox = items })) (place_of c)) none ∙ turn_down (take item w.controller).outs (handling w items (take item w.controller)) c)

pub downs_of : {w : Actors} {item : RelayItem} (items : List RelayItem) {s : Connection} {input : Input} {offer : Option Channel} {r : Row} {text : List ℕ} →
    HandlesFor w item s input offer r text →
    IsPutAsRead s r →
    AreApart (used_channels s) →
    RemainsOpen (step_by input (roles_of s)) (roles_of s) s.down input offer r →
    Downs w (handled_by w item items) s r.next
downs_of {w} {item} items {s} {input} {offer} {r} handles read apart remains = by (step_by input (roles_of s)) refl handles.begins remains where
  by : (x : RoleStep) →
      step_by input (roles_of s) ≡ x →
      BeginsTenure w x (target_role s.state) (tenure_in w item.source item.what) →
      RemainsOpen x (roles_of s) s.down input offer r →
      Downs w (handled_by w item items) s r.next
  by role_commands is begins remains =
      let awaits = commands_awaits input (roles_of s) is in
      let puts : r.outs ≡ change_command s.serving awaits.t.target.change awaits.t.target.channel ∷ [] = subst (λ (o : Option TargetRole). IsCommand o s.serving r.outs) awaits.is remains.tells in
      command_down (record {
        role = awaits.is;
        waits = awaits.waits;
        remains = remains;
        begins = subst (λ (o : Option TargetRole). BeginsTenure w role_commands o (tenure_in w item.source item.what)) awaits.is begins;
        outs = handles.outs;
        puts = puts;
        read = (subst (AllByRecursion (λ m. IsReadOf s.number m (out_of s.number m).frame.body)) puts read.read).0;
        apart = (subst (AllByRecursion (IsApart s.serving)) (targets_of s awaits.t awaits.is) (apart_behind (undone s.draining) (s.serving ∷ target_in s.state) apart).0).0;
      })
  by (role_leaves place) is none remains = others_down w item items s r.next none
  by _ is none remains = others_down w item items s r.next none
