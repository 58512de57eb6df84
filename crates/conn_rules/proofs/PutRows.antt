-- SPDX-License-Identifier: MIT OR Apache-2.0
-- Every row puts its messages for channels that are in use at that moment.
use Rattle.conn_rules.proofs.Prelude.{◌≡◌, ℕ, zero, suc, ◌==◌, ◌&&◌, ◌||◌, nat_le, not, Bool, true, false, if◌then◌else◌, List, [], ◌∷◌}
use Rattle.conn_rules.proofs.Prelude.{◌++◌, length, map, filter, Option, Some, None, refl, sym, subst, ap, ◌∙◌, inl, inr, true≢false}
use Rattle.conn_rules.proofs.Prelude.{cases_Bool, AllByRecursion, ABNORMAL_RELEASE, EQUIPMENT_FAILURE, NORMAL_EVENT}
use Rattle.conn_rules.proofs.Prelude.{RADIO_INTERFACE_FAILURE, RADIO_INTERFACE_MESSAGE_FAILURE, Change, Assignment, Handover, Channel}
use Rattle.conn_rules.proofs.Prelude.{Place, Message, Station, handing, clear_complete, relaying, release_complete, Sapi, Zero, Three}
use Rattle.conn_rules.proofs.Prelude.{TenureHold, chain_count, put_in, count, messages, with_messages, INITIAL_LIMIT, DataRequest, ◌≢◌}
use Rattle.conn_rules.proofs.Prelude.{eqb-true, eq-eqb, ne_eqb, Request, Data, ReleaseComplete, assignment_failure, complete_layer3, Input}
use Rattle.conn_rules.proofs.Prelude.{Due, WasAsked, Drain, ShortMessageLink, Down, Asked, Up, Stage, Preparing, Changing, Draining, State}
use Rattle.conn_rules.proofs.Prelude.{WaitActivation, WaitEstablish, WaitConfirm, Live, Closed, Removed, Connection, emptied, enter}
use Rattle.conn_rules.proofs.Prelude.{first_channel, is_at, tenure_at, drain_at, carries_on, ends, had_ended, IsValid, AreApart, IsApart}
use Rattle.conn_rules.proofs.Prelude.{IsOpen, OfRow, target_in, undone, used_channels, ChannelActivation, EstablishRequest}
use Rattle.conn_rules.proofs.Prelude.{RfChannelRelease}
use Rattle.conn_messages.specs.declared.causes.TheConstants.{BSS_NOT_EQUIPPED, PROTOCOL_ERROR}
use Rattle.conn_rules.specs.declared.input.Input.TheVariants as inputs
use Rattle.conn_rules.specs.Putting.{Using, IsPutOn, ArePutOn, PutsOnOwn, same_place, used_after, uses_of, without_use}
use Rattle.conn_rules.proofs.RolesTable.{changes_roles_row}
use Rattle.conn_rules.specs.Roles.{ChangesRolesBy, channels_in, channels_in_use, roles_of, target_role, to_stations}
use Rattle.conn_rules.specs.Steps.{Row, row, ◌then◌, begin, begin_outs, begin_waiting, dropping, end_outs, failing, is_for_station, hold_down, hold_short_message, hold_up, leave, link_down, link_up, may_begin, moved, relay_held, resting, request_for, request_where, resting_stage, settled, settled_stage, shifted, short_message, tenure_outs, waiting_outs, without_station, done_at}
use Rattle.conn_rules.specs.Table.{row_of, row_if, access, assign_immediately, command_to, complete, dtap_in, dtap_on_target, failure, refuse, release, release_in, speech_request, on_activation_ack, on_activation_nack, on_establish_indication, on_establish_confirm, on_release_indication, on_error_indication, on_connection_failure, on_dtap, on_complete, on_failure, on_release_ack, on_move, on_confirm, on_refused, on_released, on_downlink, on_assignment_request, on_cipher_mode_command, on_clear_command, on_expiry, on_drain_expiry, on_station_down, on_switch_down}

abbrev at_channel : Channel → Place
at_channel c = record { station = c.station; number = c.number }

-- ---- messages that order nothing, all on one channel or to the switch

abbrev Quiet : Channel → Message → Type 0
Quiet c (Station station (DataRequest d)) = (station ≡ c.station) × (d.channel ≡ c.number)
Quiet c (Station station (EstablishRequest l)) = (station ≡ c.station) × (l.channel ≡ c.number)
Quiet c (Station station (RfChannelRelease channel)) = ⊥
Quiet c (Station station (ChannelActivation a)) = ⊥
Quiet c _ = Unit {0}

there : (uses : Using) (c : Channel) (station number : ℕ) →
    uses (at_channel c) ≡ true →
    station ≡ c.station →
    number ≡ c.number →
    uses (record { station = station; number = number }) ≡ true
there uses c station number used same_station same_number =
    ap (λ (n : ℕ). uses (record { station = n; number = number })) same_station ∙ ap (λ (n : ℕ). uses (record { station = c.station; number = n })) same_number ∙ used

quiet_then : (uses : Using) (c : Channel) (xs ys : List Message) →
    uses (at_channel c) ≡ true →
    AllByRecursion (Quiet c) xs →
    ArePutOn uses ys →
    ArePutOn uses (xs ++ ys)
quiet_then uses c [] ys used all rest = rest
quiet_then uses c (Station station (DataRequest d) ∷ xs) ys used all rest = (there uses c station d.channel used all.0.0 all.0.1, quiet_then uses c xs ys used all.1 rest)
quiet_then uses c (Station station (EstablishRequest l) ∷ xs) ys used all rest = (there uses c station l.channel used all.0.0 all.0.1, quiet_then uses c xs ys used all.1 rest)
quiet_then uses c (Station station (RfChannelRelease channel) ∷ xs) ys used all rest = absurd all.0
quiet_then uses c (Station station (ChannelActivation a) ∷ xs) ys used all rest = absurd all.0
quiet_then uses c (Station station _ ∷ xs) ys used all rest = (tt, quiet_then uses c xs ys used all.1 rest)
quiet_then uses c (Request message ∷ xs) ys used all rest = (tt, quiet_then uses c xs ys used all.1 rest)
quiet_then uses c (Data destination message ∷ xs) ys used all rest = (tt, quiet_then uses c xs ys used all.1 rest)
quiet_then uses c (ReleaseComplete destination ∷ xs) ys used all rest = (tt, quiet_then uses c xs ys used all.1 rest)

quiet_all : (uses : Using) (c : Channel) (xs : List Message) → uses (at_channel c) ≡ true → AllByRecursion (Quiet c) xs → ArePutOn uses xs
quiet_all uses c [] used all = tt
quiet_all uses c (Station station (DataRequest d) ∷ xs) used all = (there uses c station d.channel used all.0.0 all.0.1, quiet_all uses c xs used all.1)
quiet_all uses c (Station station (EstablishRequest l) ∷ xs) used all = (there uses c station l.channel used all.0.0 all.0.1, quiet_all uses c xs used all.1)
quiet_all uses c (Station station (RfChannelRelease channel) ∷ xs) used all = absurd all.0
quiet_all uses c (Station station (ChannelActivation a) ∷ xs) used all = absurd all.0
quiet_all uses c (Station station _ ∷ xs) used all = (tt, quiet_all uses c xs used all.1)
quiet_all uses c (Request message ∷ xs) used all = (tt, quiet_all uses c xs used all.1)
quiet_all uses c (Data destination message ∷ xs) used all = (tt, quiet_all uses c xs used all.1)
quiet_all uses c (ReleaseComplete destination ∷ xs) used all = (tt, quiet_all uses c xs used all.1)

all_join : (c : Channel) (xs ys : List Message) →
    AllByRecursion (Quiet c) xs →
    AllByRecursion (Quiet c) ys →
    AllByRecursion (Quiet c) (xs ++ ys)
all_join c [] ys one rest = rest
all_join c (x ∷ xs) ys one rest = (one.0, all_join c xs ys one.1 rest)

all_handed : (c : Channel) (sapi : Sapi) (ms : List (List ℕ)) → AllByRecursion (Quiet c) (map (handing c sapi) ms)
all_handed c sapi [] = tt
all_handed c sapi (m ∷ ms) = ((refl, refl), all_handed c sapi ms)

all_relayed : (c : Channel) (reference : ℕ) (d : Channel) (sapi : Sapi) (ms : List (List ℕ)) →
    AllByRecursion (Quiet c) (map (relaying reference d sapi) ms)
all_relayed c reference d sapi [] = tt
all_relayed c reference d sapi (m ∷ ms) = (tt, all_relayed c reference d sapi ms)

all_of_tenure : (c : Channel) (reference : ℕ) (d : Channel) (ts : List TenureHold) → AllByRecursion (Quiet c) (tenure_outs reference d ts)
all_of_tenure c reference d [] = tt
all_of_tenure c reference d (t ∷ ts) = all_join c (map (relaying reference d Zero) t.zero) (map (relaying reference d Three) t.three) (all_relayed c reference d Zero t.zero) (all_relayed c reference d Three t.three)

requests : (link : ShortMessageLink) (c : Channel) → AllByRecursion (Quiet c) (request_where link c)
requests Down c = ((refl, refl), tt)
requests _ c = tt

requests_for : (ms : List (List ℕ)) (c : Channel) → AllByRecursion (Quiet c) (request_for ms c)
requests_for [] c = tt
requests_for (m ∷ ms) c = ((refl, refl), tt)

begins : (uses : Using) (reference : ℕ) (change : Change) (offer : Option Channel) → ArePutOn uses (begin_outs reference change offer)
begins uses reference Assignment (Some channel) = (tt, tt)
begins uses reference Handover (Some channel) = (tt, tt)
begins uses reference Assignment None = (tt, tt)
begins uses reference Handover None = tt

waits : (uses : Using) (b : Bool) (reference : ℕ) (offer : Option Channel) → ArePutOn uses (waiting_outs b reference offer)
waits uses true reference offer = begins uses reference Assignment offer
waits uses false reference offer = tt

-- ---- places

apart : (c d : Channel) → IsApart d c → same_place (at_channel c) (at_channel d) ≡ false
apart c d is = elim (cases_Bool (c.station == d.station)) [
  | inr differ ↦ ap (λ (b : Bool). b && (c.number == d.number)) differ
  | inl same ↦ ap (λ (b : Bool). b && (c.number == d.number)) same ∙ number (sym (ap (λ (b : Bool). b && (d.number == c.number)) (eq-eqb d.station c.station (sym (eqb-true c.station d.station same)))) ∙ is)
]
  where
    number : (d.number == c.number) ≡ false → (c.number == d.number) ≡ false
    number differ = ne_eqb c.number d.number (λ same. true≢false (sym (eq-eqb d.number c.number (sym same)) ∙ differ))

-- another one is still in use after a release
still : (uses : Using) (c d : Channel) →
    same_place (at_channel c) (at_channel d) ≡ false →
    uses (at_channel c) ≡ true →
    without_use (at_channel d) uses (at_channel c) ≡ true
still uses c d differ used = ap (λ (b : Bool). not b && uses (at_channel c)) differ ∙ used

here : (c : Channel) → is_at (at_channel c) c ≡ true
here c = ap (λ (b : Bool). b && (c.number == c.number)) (eq-eqb c.station c.station refl) ∙ eq-eqb c.number c.number refl

apart_back : (c d : Channel) → IsApart c d → same_place (at_channel c) (at_channel d) ≡ false
apart_back c d is = is

-- ---- a station whose link broke gets nothing

-- the same places are in use at other stations
abbrev IsSameElse : ℕ → Using → Using → Type 0
IsSameElse station uses now = (at : Place) → at.station ≢ station → now at ≡ uses at

not_same : (at other : Place) → at.station ≢ other.station → same_place at other ≡ false
not_same at other differ = ap (λ (b : Bool). b && (at.number == other.number)) (ne_eqb at.station other.station differ)

-- of a message that is for another station, or for none
kept_use : (station : ℕ) (uses now : Using) (m : Message) →
    IsSameElse station uses now →
    IsSameElse station (used_after uses m) (used_after now m)
kept_use station uses now (Station to (ChannelActivation a)) same at differ = ap (λ (b : Bool). same_place at (record { station = to; number = a.channel }) || b) (same at differ)
kept_use station uses now (Station to (RfChannelRelease channel)) same at differ = ap (λ (b : Bool). not (same_place at (record { station = to; number = channel })) && b) (same at differ)
kept_use station uses now _ same at differ = same at differ

-- of one that doesn't go
dropped_use : (station : ℕ) (uses now : Using) (m : Message) →
    is_for_station station m ≡ true →
    IsSameElse station uses now →
    IsSameElse station (used_after uses m) now
dropped_use station uses now (Station to (ChannelActivation a)) for_station same at differ =
    same at differ ∙ sym (ap (λ (b : Bool). b || uses at) (not_same at (record { station = to; number = a.channel }) (λ is. differ (is ∙ eqb-true to station for_station))))
dropped_use station uses now (Station to (RfChannelRelease channel)) for_station same at differ =
    same at differ ∙ sym (ap (λ (b : Bool). not b && uses at) (not_same at (record { station = to; number = channel }) (λ is. differ (is ∙ eqb-true to station for_station))))
dropped_use station uses now (Station to _) for_station same at differ = same at differ
dropped_use station uses now _ for_station same at differ = absurd (true≢false (sym for_station))

kept_put : (station : ℕ) (uses now : Using) (m : Message) →
    is_for_station station m ≡ false →
    IsSameElse station uses now →
    IsPutOn uses m →
    IsPutOn now m
kept_put station uses now (Station to (DataRequest d)) for_station same put = same (record { station = to; number = d.channel }) (λ is. true≢false (sym (eq-eqb to station is) ∙ for_station)) ∙ put
kept_put station uses now (Station to (EstablishRequest l)) for_station same put = same (record { station = to; number = l.channel }) (λ is. true≢false (sym (eq-eqb to station is) ∙ for_station)) ∙ put
kept_put station uses now (Station to (RfChannelRelease channel)) for_station same put = same (record { station = to; number = channel }) (λ is. true≢false (sym (eq-eqb to station is) ∙ for_station)) ∙ put
kept_put station uses now _ for_station same put = tt

without_puts : (station : ℕ) (uses now : Using) (ms : List Message) →
    IsSameElse station uses now →
    ArePutOn uses ms →
    ArePutOn now (filter (λ message. not (is_for_station station message)) ms)
without_puts station uses now [] same puts = tt
without_puts station uses now (m ∷ ms) same puts = by (is_for_station station m) refl (λ later same_then. without_puts station (used_after uses m) later ms same_then puts.1)
  where
    by : (b : Bool) → is_for_station station m ≡ b → ((later : Using) → IsSameElse station (used_after uses m) later → ArePutOn later (filter (λ message. not (is_for_station station message)) ms)) →
        ArePutOn now (if not b then m ∷ filter (λ message. not (is_for_station station message)) ms else filter (λ message. not (is_for_station station message)) ms)
    by true for_station rest = rest now (dropped_use station uses now m for_station same)
    by false for_station rest =
        (kept_put station uses now m for_station same puts.0, rest (used_after now m) (kept_use station uses now m same))

without_keeps : (station : ℕ) (uses : Using) (ms : List Message) →
    ArePutOn uses ms →
    ArePutOn uses (filter (λ message. not (is_for_station station message)) ms)
without_keeps station uses ms puts = without_puts station uses uses ms (λ at differ. refl) puts

-- what a row needs of the connection's channels: they are in use, and apart
record IsReady (uses : Using) (state : State) (s : Connection) : Type 0 where
  serving : uses (at_channel s.serving) ≡ true
  targets : AllByRecursion (λ (c : Channel). uses (at_channel c) ≡ true) (target_in state)
  differ : AllByRecursion (λ (c : Channel). IsApart s.serving c) (target_in state)

module _ (uses : Using) where
  abbrev Puts : Row → Type 0
  Puts r = ArePutOn uses r.outs

  either : (b : Bool) (r q : Row) → Puts r → Puts q → Puts (if b then r else q)
  either true r q h k = h
  either false r q h k = k

  where_fits : (b : Bool) (r : Row) → Puts r → OfRow Puts (row_if b r)
  where_fits true r h = h
  where_fits false r h = tt

  -- ---- ends

  of_end : (state : State) (s : Connection) (cause : ℕ) (last : List Message) →
      IsReady uses state s →
      ((now : Using) → ArePutOn now last) →
      ArePutOn uses (end_outs state s.serving cause ++ last)
  of_end (Live reference (Preparing target)) s cause last k rest = (k.serving, (k.serving, (still uses target.channel s.serving (apart target.channel s.serving k.differ.0) k.targets.0, rest _)))
  of_end (Live reference (Changing target)) s cause last k rest = (k.serving, (k.serving, (still uses target.channel s.serving (apart target.channel s.serving k.differ.0) k.targets.0, rest _)))
  of_end _ s cause last k rest = (k.serving, (k.serving, rest _))

  of_end_alone : (state : State) (s : Connection) (cause : ℕ) → IsReady uses state s → ArePutOn uses (end_outs state s.serving cause)
  of_end_alone (Live reference (Preparing target)) s cause k = (k.serving, (k.serving, (still uses target.channel s.serving (apart target.channel s.serving k.differ.0) k.targets.0, tt)))
  of_end_alone (Live reference (Changing target)) s cause k = (k.serving, (k.serving, (still uses target.channel s.serving (apart target.channel s.serving k.differ.0) k.targets.0, tt)))
  of_end_alone _ s cause k = (k.serving, (k.serving, tt))

  of_failing : (state : State) (s : Connection) (cause : ℕ) → IsReady uses state s → Puts (failing state s cause)
  of_failing (Live reference stage) s cause k = (tt, of_end_alone (Live reference stage) s ABNORMAL_RELEASE k)
  of_failing WaitActivation s cause k = of_end_alone WaitActivation s ABNORMAL_RELEASE k
  of_failing WaitEstablish s cause k = of_end_alone WaitEstablish s ABNORMAL_RELEASE k
  of_failing WaitConfirm s cause k = of_end_alone WaitConfirm s ABNORMAL_RELEASE k
  of_failing (Closed clearing) s cause k = of_end_alone (Closed clearing) s ABNORMAL_RELEASE k
  of_failing Removed s cause k = of_end_alone Removed s ABNORMAL_RELEASE k

  -- ---- steps

  of_hold_down : (state : State) (sapi : Sapi) (message : List ℕ) (s : Connection) →
      IsReady uses state s →
      Puts (hold_down state sapi message s)
  of_hold_down state sapi message s k =
      either (count s.down == s.down.limit) (failing state s EQUIPMENT_FAILURE) (row [] (record s { down = with_messages s.down sapi (messages s.down sapi ++ message ∷ []) })) (of_failing state s EQUIPMENT_FAILURE k) tt

  of_hold_short_message : (state : State) (message : List ℕ) (s : Connection) →
      IsReady uses state s →
      Puts (hold_short_message state message s)
  of_hold_short_message state message s k =
      either (count s.down == s.down.limit) (failing state s EQUIPMENT_FAILURE) (row (request_where s.link s.serving) (record s { link = Asked; down = with_messages s.down Three (messages s.down Three ++ message ∷ []) }))
      (of_failing state s EQUIPMENT_FAILURE k) (quiet_all uses s.serving (request_where s.link s.serving) k.serving (requests s.link s.serving))

  of_short_message : (state : State) (link : ShortMessageLink) (message : List ℕ) (s : Connection) →
      IsReady uses state s →
      Puts (short_message state link message s)
  of_short_message state Up message s k = (k.serving, tt)
  of_short_message state _ message s k = of_hold_short_message state message s k

  of_link_down : (link : ShortMessageLink) (reference : ℕ) (s : Connection) → Puts (link_down link reference s)
  of_link_down Asked reference s = (tt, tt)
  of_link_down _ reference s = tt

  of_hold_up : (state : State) (tenure : ℕ) (sapi : Sapi) (message : List ℕ) (s : Connection) →
      IsReady uses state s →
      Puts (hold_up state tenure sapi message s)
  of_hold_up state tenure sapi message s k =
      either (chain_count s.up == s.up.limit) (failing state s EQUIPMENT_FAILURE) (row [] (record s { up = record s.up { tenures = put_in tenure sapi message s.up.tenures } })) (of_failing state s EQUIPMENT_FAILURE k) tt

  either_quiet : (c : Channel) (b : Bool) (r q : Row) →
      AllByRecursion (Quiet c) r.outs →
      AllByRecursion (Quiet c) q.outs →
      AllByRecursion (Quiet c) (if b then r else q).outs
  either_quiet c true r q h k = h
  either_quiet c false r q h k = k

  of_leave : (c : Channel) (reference : ℕ) (draining : List Drain) (s : Connection) →
      AllByRecursion (Quiet c) (leave reference draining s).outs
  of_leave c reference [] s = tt
  of_leave c reference (d ∷ ds) s =
      either_quiet c d.is_done (row [] (shifted ds s) then relay_held reference then leave reference ds) (row [] (record s { draining = d ∷ ds }))
      (all_join c (relay_held reference (shifted ds s)).outs (leave reference ds (relay_held reference (shifted ds s)).next).outs
      (all_of_tenure c reference (first_channel ds s.serving) (shifted ds s).up.tenures) (of_leave c reference ds (relay_held reference (shifted ds s)).next))
      tt

  -- ---- rows

  of_access : (message : Option (List ℕ)) (s : Connection) → uses (at_channel s.serving) ≡ true → Puts (access message s)
  of_access (Some initial) s used = either (nat_le (length initial) INITIAL_LIMIT) (row (complete_layer3 s.serving initial ∷ []) (enter WaitConfirm s)) (dropping s) (tt, tt) (used, tt)
  of_access None s used = (used, tt)

  of_activation_ack : (state : State) (s : Connection) (at : Place) → IsReady uses state s → OfRow Puts (on_activation_ack state s at)
  of_activation_ack WaitActivation s at k = where_fits _ (assign_immediately s) (tt, tt)
  of_activation_ack (Live reference (Preparing target)) s at k = where_fits _ (command_to reference target s) (k.serving, tt)
  of_activation_ack _ s at k = tt

  of_refuse : (reference : ℕ) (change : Change) (offer : Option Channel) (s : Connection) → Puts (refuse reference change offer s)
  of_refuse reference Assignment offer s = (tt, waits uses (s.waits && may_begin (resting_stage s.draining) s.draining) reference offer)
  of_refuse reference Handover offer s = waits uses (s.waits && may_begin (resting_stage s.draining) s.draining) reference offer

  of_activation_nack : (state : State) (s : Connection) (at : Place) (offer : Option Channel) →
      OfRow Puts (on_activation_nack state s at offer)
  of_activation_nack WaitActivation s at offer = where_fits _ (row [] (emptied Removed s)) tt
  of_activation_nack (Live reference (Preparing target)) s at offer = where_fits _ (refuse reference target.change offer s) (of_refuse reference target.change offer s)
  of_activation_nack _ s at offer = tt

  of_link_up : (s : Connection) → uses (at_channel s.serving) ≡ true → Puts (link_up s)
  of_link_up s used = quiet_all uses s.serving (map (handing s.serving Three) (messages s.down Three)) used (all_handed s.serving Three (messages s.down Three))

  of_establish_indication : (state : State) (s : Connection) (at : Place) (sapi : Sapi) (message : Option (List ℕ)) →
      IsReady uses state s →
      OfRow Puts (on_establish_indication state s at sapi message)
  of_establish_indication WaitEstablish s at Zero message k = where_fits _ (access message s) (of_access message s k.serving)
  of_establish_indication (Live reference (Changing target)) s at sapi message k = tt
  of_establish_indication (Live reference stage) s at Three message k = where_fits _ (link_up s) (of_link_up s k.serving)
  of_establish_indication _ s at sapi message k = tt

  of_establish_confirm : (state : State) (s : Connection) (at : Place) (sapi : Sapi) →
      IsReady uses state s →
      OfRow Puts (on_establish_confirm state s at sapi)
  of_establish_confirm (Live reference (Changing target)) s at sapi k = tt
  of_establish_confirm (Live reference stage) s at Three k = where_fits _ (link_up s) (of_link_up s k.serving)
  of_establish_confirm _ s at sapi k = tt

  of_release_indication : (state : State) (s : Connection) (at : Place) (sapi : Sapi) →
      IsReady uses state s →
      OfRow Puts (on_release_indication state s at sapi)
  of_release_indication WaitEstablish s at Zero k = where_fits _ (dropping s) (k.serving, tt)
  of_release_indication WaitConfirm s at Zero k = where_fits _ (failing WaitConfirm s RADIO_INTERFACE_FAILURE) (of_failing WaitConfirm s RADIO_INTERFACE_FAILURE k)
  of_release_indication (Live reference (Changing target)) s at sapi k = tt
  of_release_indication (Live reference stage) s at Zero k = where_fits _ (failing (Live reference stage) s RADIO_INTERFACE_FAILURE) (of_failing (Live reference stage) s RADIO_INTERFACE_FAILURE k)
  of_release_indication (Live reference stage) s at Three k = where_fits _ (link_down s.link reference s) (of_link_down s.link reference s)
  of_release_indication _ s at sapi k = tt

  of_error_indication : (state : State) (s : Connection) (at : Place) (sapi : Sapi) → OfRow Puts (on_error_indication state s at sapi)
  of_error_indication (Live reference (Changing target)) s at sapi = tt
  of_error_indication (Live reference stage) s at Three = where_fits _ (link_down s.link reference s) (of_link_down s.link reference s)
  of_error_indication _ s at sapi = tt

  of_connection_failure : (state : State) (s : Connection) (at : Place) →
      IsReady uses state s →
      OfRow Puts (on_connection_failure state s at)
  of_connection_failure WaitEstablish s at k = where_fits _ (dropping s) (k.serving, tt)
  of_connection_failure WaitConfirm s at k = where_fits _ (failing WaitConfirm s RADIO_INTERFACE_FAILURE) (of_failing WaitConfirm s RADIO_INTERFACE_FAILURE k)
  of_connection_failure (Live reference (Changing target)) s at k = tt
  of_connection_failure (Live reference stage) s at k = where_fits _ (failing (Live reference stage) s RADIO_INTERFACE_FAILURE) (of_failing (Live reference stage) s RADIO_INTERFACE_FAILURE k)
  of_connection_failure _ s at k = tt

  of_dtap_on_target : (reference : ℕ) (stage : Stage) (s : Connection) (at : Place) (sapi : Sapi) →
      IsReady uses (Live reference stage) s →
      OfRow Puts (dtap_on_target reference stage s at sapi)
  of_dtap_on_target reference (Changing target) s at Zero k = where_fits _ (failing (Live reference (Changing target)) s EQUIPMENT_FAILURE) (of_failing (Live reference (Changing target)) s EQUIPMENT_FAILURE k)
  of_dtap_on_target reference _ s at _ k = tt

  of_dtap_in : (place : Option ℕ) (reference : ℕ) (stage : Stage) (s : Connection) (at : Place) (sapi : Sapi) (message : List ℕ) →
      IsReady uses (Live reference stage) s →
      OfRow Puts (dtap_in place reference stage s at sapi message)
  of_dtap_in (Some zero) reference stage s at sapi message k = (tt, tt)
  of_dtap_in (Some (suc tenure)) reference stage s at sapi message k = of_hold_up (Live reference stage) (suc tenure) sapi message s k
  of_dtap_in None reference stage s at sapi message k = of_dtap_on_target reference stage s at sapi k

  of_dtap : (state : State) (s : Connection) (at : Place) (sapi : Sapi) (message : List ℕ) →
      IsReady uses state s →
      OfRow Puts (on_dtap state s at sapi message)
  of_dtap WaitEstablish s at Zero message k = where_fits _ (dropping s) (k.serving, tt)
  of_dtap WaitEstablish s at Three message k = tt
  of_dtap WaitConfirm s at sapi message k = where_fits _ (hold_up WaitConfirm 0 sapi message s) (of_hold_up WaitConfirm 0 sapi message s k)
  of_dtap (Live reference stage) s at sapi message k = of_dtap_in (tenure_at at s.serving s.draining) reference stage s at sapi message k
  of_dtap _ s at sapi message k = tt

  -- what was held is handed on a channel, and perhaps the next change begins
  of_rest : (now : Using) (c : Channel) (held asked rest : List Message) →
      now (at_channel c) ≡ true →
      AllByRecursion (Quiet c) held →
      AllByRecursion (Quiet c) asked →
      ArePutOn now rest →
      ArePutOn now (held ++ asked ++ rest)
  of_rest now c held asked rest used one other last = quiet_then now c (held ++ asked) rest used (all_join c held asked one other) last

  of_change_end : (now : Using) (stage : Stage) (reference : ℕ) (offer : Option Channel) (s : Connection) → now (at_channel s.serving) ≡ true →
      ArePutOn now (map (handing s.serving Zero) (messages s.down Zero) ++ request_for s.down.three s.serving ++ waiting_outs (s.waits && may_begin stage s.draining) reference offer)
  of_change_end now stage reference offer s used =
      of_rest now s.serving (map (handing s.serving Zero) (messages s.down Zero)) (request_for s.down.three s.serving) (waiting_outs (s.waits && may_begin stage s.draining) reference offer) used
      (all_handed s.serving Zero (messages s.down Zero)) (requests_for s.down.three s.serving) (waits now (s.waits && may_begin stage s.draining) reference offer)

  completes : (reference : ℕ) (change : Change) (target : Channel) (cause : ℕ) (offer : Option Channel) (s : Connection) →
      uses (at_channel s.serving) ≡ true →
      without_use (at_channel s.serving) uses (at_channel target) ≡ true →
      Puts (complete reference change target cause offer s)
  completes reference Assignment target cause offer s used next = (tt, (used, of_change_end (without_use (at_channel s.serving) uses) Draining reference offer (moved reference target s) next))
  completes reference Handover target cause offer s used next = (tt, (used, of_change_end (without_use (at_channel s.serving) uses) Draining reference offer (moved reference target s) next))

  of_complete : (state : State) (s : Connection) (at : Place) (change : Change) (cause : ℕ) (offer : Option Channel) →
      IsReady uses state s →
      OfRow Puts (on_complete state s at change cause offer)
  of_complete (Live reference (Changing target)) s at change cause offer k =
      where_fits _ (complete reference change target.channel cause offer s) (completes reference change target.channel cause offer s k.serving (still uses target.channel s.serving (apart target.channel s.serving k.differ.0) k.targets.0))
  of_complete _ s at change cause offer k = tt

  fails : (reference : ℕ) (change : Change) (target : Channel) (cause : ℕ) (offer : Option Channel) (s : Connection) →
      uses (at_channel target) ≡ true →
      without_use (at_channel target) uses (at_channel s.serving) ≡ true →
      Puts (failure reference change target cause offer s)
  fails reference Assignment target cause offer s used back = (tt, (used, of_change_end (without_use (at_channel target) uses) (resting_stage s.draining) reference offer (resting reference s) back))
  fails reference Handover target cause offer s used back = (used, of_change_end (without_use (at_channel target) uses) (resting_stage s.draining) reference offer (resting reference s) back)

  of_failure : (state : State) (s : Connection) (at : Place) (change : Change) (cause : ℕ) (offer : Option Channel) →
      IsReady uses state s →
      OfRow Puts (on_failure state s at change cause offer)
  of_failure (Live reference (Changing target)) s at change cause offer k =
      where_fits _ (failure reference change target.channel cause offer s) (fails reference change target.channel cause offer s k.targets.0 (still uses s.serving target.channel (apart_back s.serving target.channel k.differ.0) k.serving))
  of_failure _ s at change cause offer k = tt

  of_release : (reference : ℕ) (stage : Stage) (place : ℕ) (offer : Option Channel) (s : Connection) →
      uses (at_channel s.serving) ≡ true →
      Puts (release reference stage place offer s)
  of_release reference stage place offer s used =
      let left : Connection = (leave reference (done_at place s.draining) s).next in
      let rests : Connection = settled reference stage left.draining left in
      quiet_then uses s.serving ((leave reference (done_at place s.draining) s).outs ++ []) (begin_waiting (settled_stage stage rests.draining) reference offer rests).outs used
      (all_join s.serving (leave reference (done_at place s.draining) s).outs [] (of_leave s.serving reference (done_at place s.draining) s) tt)
      (waits uses (rests.waits && may_begin (settled_stage stage rests.draining) rests.draining) reference offer)

  of_release_in : (place : Option ℕ) (reference : ℕ) (stage : Stage) (offer : Option Channel) (s : Connection) →
      uses (at_channel s.serving) ≡ true →
      OfRow Puts (release_in place reference stage offer s)
  of_release_in (Some place) reference stage offer s used = of_release reference stage place offer s used
  of_release_in None reference stage offer s used = tt

  of_release_ack : (state : State) (s : Connection) (at : Place) (offer : Option Channel) →
      IsReady uses state s →
      OfRow Puts (on_release_ack state s at offer)
  of_release_ack (Live reference stage) s at offer k = of_release_in (drain_at at s.draining) reference stage offer s k.serving
  of_release_ack _ s at offer k = tt

  of_move : (state : State) (s : Connection) (offer : Option Channel) → OfRow Puts (on_move state s offer)
  of_move (Live reference stage) s offer = where_fits _ (begin reference Handover offer s) (begins uses reference Handover offer)
  of_move _ s offer = tt

  of_confirm : (state : State) (s : Connection) (reference : ℕ) → IsReady uses state s → OfRow Puts (on_confirm state s reference)
  of_confirm WaitConfirm s reference k = quiet_all uses s.serving (tenure_outs reference (first_channel s.draining s.serving) s.up.tenures) k.serving (all_of_tenure s.serving reference (first_channel s.draining s.serving) s.up.tenures)
  of_confirm (Closed (Due cause)) s reference k = (tt, tt)
  of_confirm _ s reference k = tt

  of_refused : (state : State) (s : Connection) → IsReady uses state s → OfRow Puts (on_refused state s)
  of_refused WaitConfirm s k = of_end_alone WaitConfirm s ABNORMAL_RELEASE k
  of_refused (Closed (Due cause)) s k = tt
  of_refused _ s k = tt

  of_released : (state : State) (s : Connection) (reference : ℕ) → IsReady uses state s → OfRow Puts (on_released state s reference)
  of_released WaitConfirm s reference k = of_end WaitConfirm s ABNORMAL_RELEASE (release_complete reference ∷ []) k (λ now. (tt, tt))
  of_released (Live own stage) s reference k = of_end (Live own stage) s ABNORMAL_RELEASE (release_complete reference ∷ []) k (λ now. (tt, tt))
  of_released (Closed clearing) s reference k = (tt, tt)
  of_released _ s reference k = tt

  of_downlink : (state : State) (s : Connection) (sapi : Sapi) (message : List ℕ) →
      IsReady uses state s →
      OfRow Puts (on_downlink state s sapi message)
  of_downlink (Live reference (Changing target)) s sapi message k = of_hold_down (Live reference (Changing target)) sapi message s k
  of_downlink (Live reference stage) s Zero message k = (k.serving, tt)
  of_downlink (Live reference stage) s Three message k = of_short_message (Live reference stage) s.link message s k
  of_downlink _ s sapi message k = tt

  of_speech : (reference : ℕ) (stage : Stage) (offer : Option Channel) (s : Connection) → Puts (speech_request reference stage offer s)
  of_speech reference stage offer s =
      either (may_begin stage s.draining) (begin reference Assignment offer s) (if s.waits then row (assignment_failure reference PROTOCOL_ERROR None ∷ []) s else row [] (record s { waits = true }))
      (begins uses reference Assignment offer)
      (either s.waits (row (assignment_failure reference PROTOCOL_ERROR None ∷ []) s) (row [] (record s { waits = true })) (tt, tt) tt)

  of_assignment_request : (state : State) (s : Connection) (is_speech : Bool) (offer : Option Channel) →
      OfRow Puts (on_assignment_request state s is_speech offer)
  of_assignment_request (Live reference stage) s is_speech offer =
      either is_speech (speech_request reference stage offer s) (row (assignment_failure reference BSS_NOT_EQUIPPED None ∷ []) s) (of_speech reference stage offer s) (tt, tt)
  of_assignment_request _ s is_speech offer = tt

  of_cipher_mode_command : (state : State) (s : Connection) → OfRow Puts (on_cipher_mode_command state s)
  of_cipher_mode_command (Live reference stage) s = (tt, tt)
  of_cipher_mode_command _ s = tt

  of_clear_command : (state : State) (s : Connection) → IsReady uses state s → OfRow Puts (on_clear_command state s)
  of_clear_command (Live reference stage) s k = of_end (Live reference stage) s NORMAL_EVENT (clear_complete reference ∷ []) k (λ now. (tt, tt))
  of_clear_command (Closed (WasAsked reference)) s k = (tt, tt)
  of_clear_command _ s k = tt

  of_expiry : (state : State) (s : Connection) → IsReady uses state s → OfRow Puts (on_expiry state s)
  of_expiry WaitActivation s k = (k.serving, tt)
  of_expiry WaitEstablish s k = (k.serving, tt)
  of_expiry (Live reference (Preparing target)) s k = of_failing (Live reference (Preparing target)) s RADIO_INTERFACE_MESSAGE_FAILURE k
  of_expiry (Live reference (Changing target)) s k = of_failing (Live reference (Changing target)) s RADIO_INTERFACE_MESSAGE_FAILURE k
  of_expiry _ s k = tt

  of_drain_expiry : (state : State) (s : Connection) → IsReady uses state s → OfRow Puts (on_drain_expiry state s)
  of_drain_expiry (Live reference stage) s k = where_fits _ (failing (Live reference stage) s EQUIPMENT_FAILURE) (of_failing (Live reference stage) s EQUIPMENT_FAILURE k)
  of_drain_expiry _ s k = tt

  of_station_down : (state : State) (s : Connection) (station : ℕ) → IsReady uses state s → OfRow Puts (on_station_down state s station)
  of_station_down WaitActivation s station k = where_fits _ (without_station station (dropping s)) (without_keeps station uses (dropping s).outs (k.serving, tt))
  of_station_down WaitEstablish s station k = where_fits _ (without_station station (dropping s)) (without_keeps station uses (dropping s).outs (k.serving, tt))
  of_station_down WaitConfirm s station k = where_fits _ (without_station station (failing WaitConfirm s EQUIPMENT_FAILURE)) (without_keeps station uses (failing WaitConfirm s EQUIPMENT_FAILURE).outs (of_failing WaitConfirm s EQUIPMENT_FAILURE k))
  of_station_down (Live reference stage) s station k = where_fits _ (without_station station (failing (Live reference stage) s EQUIPMENT_FAILURE)) (without_keeps station uses (failing (Live reference stage) s EQUIPMENT_FAILURE).outs (of_failing (Live reference stage) s EQUIPMENT_FAILURE k))
  of_station_down _ s station k = tt

  of_switch_down : (state : State) (s : Connection) → IsReady uses state s → OfRow Puts (on_switch_down state s)
  of_switch_down WaitConfirm s k = of_end_alone WaitConfirm s ABNORMAL_RELEASE k
  of_switch_down (Live reference stage) s k = of_end_alone (Live reference stage) s ABNORMAL_RELEASE k
  of_switch_down (Closed clearing) s k = tt
  of_switch_down Removed s k = tt
  of_switch_down _ s k = (k.serving, tt)

  of_row : (s : Connection) (input : Input) (offer : Option Channel) → IsReady uses s.state s → OfRow Puts (row_of s input offer)
  unfolding row_of
  of_row s (inputs.ActivationAck at) offer k = of_activation_ack s.state s at k
  of_row s (inputs.ActivationNack at) offer k = of_activation_nack s.state s at offer
  of_row s (inputs.EstablishIndication at sapi message) offer k = of_establish_indication s.state s at sapi message k
  of_row s (inputs.EstablishConfirm at sapi) offer k = of_establish_confirm s.state s at sapi k
  of_row s (inputs.ReleaseIndication at sapi) offer k = of_release_indication s.state s at sapi k
  of_row s (inputs.ErrorIndication at sapi) offer k = of_error_indication s.state s at sapi
  of_row s (inputs.ConnectionFailure at) offer k = of_connection_failure s.state s at k
  of_row s (inputs.Dtap at sapi message) offer k = of_dtap s.state s at sapi message k
  of_row s (inputs.Complete at change cause) offer k = of_complete s.state s at change cause.0 offer k
  of_row s (inputs.Failure at change cause) offer k = of_failure s.state s at change cause.0 offer k
  of_row s (inputs.ReleaseAck at) offer k = of_release_ack s.state s at offer k
  of_row s inputs.Move offer k = of_move s.state s offer
  of_row s (inputs.ConnectionConfirm source) offer k = of_confirm s.state s source k
  of_row s inputs.ConnectionRefused offer k = of_refused s.state s k
  of_row s (inputs.Released source) offer k = of_released s.state s source k
  of_row s (inputs.Downlink sapi message) offer k = of_downlink s.state s sapi message k
  of_row s (inputs.AssignmentRequest is_speech) offer k = of_assignment_request s.state s is_speech offer
  of_row s inputs.CipherModeCommand offer k = of_cipher_mode_command s.state s
  of_row s inputs.ClearCommand offer k = of_clear_command s.state s k
  of_row s inputs.Expiry offer k = of_expiry s.state s k
  of_row s inputs.DrainExpiry offer k = of_drain_expiry s.state s k
  of_row s (inputs.StationDown station) offer k = of_station_down s.state s station k
  of_row s inputs.SwitchDown offer k = of_switch_down s.state s k

-- ---- the law

or_left : (a b : Bool) → a ≡ true → (a || b) ≡ true
or_left a b is = ap (λ (c : Bool). c || b) is

or_right : (a b : Bool) → b ≡ true → (a || b) ≡ true
or_right true b is = refl
or_right false b is = is

apart_in : (cs rest : List Channel) → AreApart (cs ++ rest) → AreApart rest
apart_in [] rest all = all
apart_in (c ∷ cs) rest all = apart_in cs rest all.1

used_of : State → Connection → Using
used_of state s = uses_of (channels_in state (record (roles_of s) { target = target_role state }))

first_used : (s : Connection) (cs : List Channel) → uses_of (s.serving ∷ cs) (at_channel s.serving) ≡ true
first_used s cs = or_left (is_at (at_channel s.serving) s.serving) (uses_of cs (at_channel s.serving)) (here s.serving)

second_used : (s : Connection) (c : Channel) → uses_of (s.serving ∷ c ∷ []) (at_channel c) ≡ true
second_used s c = or_right (is_at (at_channel c) s.serving) (uses_of (c ∷ []) (at_channel c)) (or_left (is_at (at_channel c) c) (uses_of [] (at_channel c)) (here c))

-- an open connection
open_ready : (state : State) (s : Connection) →
    IsOpen state →
    AreApart (undone s.draining ++ s.serving ∷ target_in state) →
    IsReady (used_of state s) state s
unfolding used_of
open_ready (Live reference (Preparing target)) s is_open all = record { serving = first_used s (target.channel ∷ []); targets = (second_used s target.channel, tt); differ = (apart_in (undone s.draining) (s.serving ∷ target.channel ∷ []) all).0 }
open_ready (Live reference (Changing target)) s is_open all = record { serving = first_used s (target.channel ∷ []); targets = (second_used s target.channel, tt); differ = (apart_in (undone s.draining) (s.serving ∷ target.channel ∷ []) all).0 }
open_ready (Closed clearing) s is_open all = absurd is_open
open_ready Removed s is_open all = absurd is_open
open_ready _ s is_open all = record { serving = first_used s []; targets = tt; differ = tt }

-- one that was closed puts nothing to stations
quiet_put : (uses : Using) (ms : List Message) → to_stations ms ≡ [] → ArePutOn uses ms
quiet_put uses [] none = tt
quiet_put uses (Station station message ∷ ms) none = absurd cc
quiet_put uses (Request message ∷ ms) none = (tt, quiet_put uses ms none)
quiet_put uses (Data destination message ∷ ms) none = (tt, quiet_put uses ms none)
quiet_put uses (ReleaseComplete destination ∷ ms) none = (tt, quiet_put uses ms none)

puts_by : (s : Connection) (input : Input) (offer : Option Channel) (o : Option Row) →
    row_of s input offer ≡ o →
    (IsOpen s.state → AreApart (used_channels s)) →
    ChangesRolesBy s input offer o →
    OfRow (λ r. PutsOnOwn s r.outs) o
unfolding used_of
puts_by s input offer None is all changes = tt
puts_by s input offer (Some r) is all (carries_on was_open is_open on) = subst (OfRow (Puts (uses_of (channels_in_use s)))) is (of_row (uses_of (channels_in_use s)) s input offer (open_ready s.state s was_open (all was_open)))
puts_by s input offer (Some r) is all (ends was_open shut over) = subst (OfRow (Puts (uses_of (channels_in_use s)))) is (of_row (uses_of (channels_in_use s)) s input offer (open_ready s.state s was_open (all was_open)))
puts_by s input offer (Some r) is all (had_ended was_shut shut nothing) = quiet_put (uses_of (channels_in_use s)) r.outs nothing

-- channels of an open connection are apart
pub puts_on_own : (s : Connection) (input : Input) (offer : Option Channel) →
    IsValid s →
    (IsOpen s.state → AreApart (used_channels s)) →
    OfRow (λ r. PutsOnOwn s r.outs) (row_of s input offer)
puts_on_own s input offer valid all = puts_by s input offer (row_of s input offer) refl all (changes_roles_row s input offer valid)
