-- SPDX-License-Identifier: MIT OR Apache-2.0
-- Each step relays the messages that it removes from those still to be relayed.
use Rattle.conn_rules.proofs.Prelude.{◌≡◌, ℕ, ◌+◌, ◌&&◌, Bool, true, false, if◌then◌else◌, List, [], ◌∷◌, ◌++◌, length, map, nat_le, Option}
use Rattle.conn_rules.proofs.Prelude.{Some, None, refl, sym, ap, ◌∙◌, subst, arith, append_assoc, append-nil, inl, inr, cases_Bool}
use Rattle.conn_rules.proofs.Prelude.{cond-true, cond-false, Channel, Change, Assignment, Handover, handing, relaying, Sapi, Zero, Three}
use Rattle.conn_rules.proofs.Prelude.{TenureHold, empty_tenure, tenure_messages, flat_map-append, Drain, Stage, Changing, Draining, State, Live}
use Rattle.conn_rules.proofs.Prelude.{Connection, first_channel, FirstIsEmpty, Future, is_of, relayed, relayed_by, still_of, still_to_relay}
use Rattle.conn_rules.proofs.Prelude.{of_target, first_cleared, FIRST_SDCCH}
use Rattle.std.proofs.lemmas.Bool.{true≢false}
use Rattle.conn_messages.specs.declared.parameters.TheConstants.{SDCCH_SAPI_3_DLCI, SACCH_SAPI_3_DLCI}
use Rattle.conn_rules.specs.Steps.{Row, row, ◌then◌, may_begin, begin, begin_waiting, waiting_outs, after_waiting, hand_held, ask_for_held, request_for, relay_held, tenure_outs, leave, resting_stage, settled, settled_stage, shifted}
use Rattle.conn_rules.proofs.UplinkTenures.{empty_messages}

-- a row relays what it takes away of what was still to be relayed
abbrev pub Gives : Sapi → Future → List (List ℕ) → Row → Type 0
Gives sapi future up r = relayed sapi r.outs ++ still_to_relay sapi future r.next ≡ up

pub gives_then : (sapi : Sapi) (future : Future) (up : List (List ℕ)) (r : Row) (step : Connection → Row) →
    Gives sapi future up r →
    Gives sapi future (still_to_relay sapi future r.next) (step r.next) →
    Gives sapi future up (r then step)
gives_then sapi future up r step first rest =
    let next = (step r.next).next in
    let outs = (step r.next).outs in
    ap (λ (xs : List (List ℕ)). xs ++ still_to_relay sapi future next) (flat_map-append (relayed_by sapi) r.outs outs)
    ∙ append_assoc (relayed sapi r.outs) (relayed sapi outs) (still_to_relay sapi future next)
    ∙ ap (λ (xs : List (List ℕ)). relayed sapi r.outs ++ xs) rest
    ∙ first

-- ---- what is relayed on a link identifier is of its SAPI

dlci_three : (three : Bool) → is_of Three (if three then SDCCH_SAPI_3_DLCI else SACCH_SAPI_3_DLCI) ≡ true
dlci_three true = refl
dlci_three false = refl

dlci_not_zero : (three : Bool) → is_of Zero (if three then SDCCH_SAPI_3_DLCI else SACCH_SAPI_3_DLCI) ≡ false
dlci_not_zero true = refl
dlci_not_zero false = refl

-- the messages of a SAPI that are relayed as those of another
abbrev pub of_sapi : Sapi → Sapi → List (List ℕ) → List (List ℕ)
of_sapi Zero Zero these = these
of_sapi Zero Three these = []
of_sapi Three Zero these = []
of_sapi Three Three these = these

pub relayed_by-relaying : (sapi of : Sapi) (reference : ℕ) (c : Channel) (message : List ℕ) →
    relayed_by sapi (relaying reference c of message) ≡ of_sapi sapi of (message ∷ [])
relayed_by-relaying Zero Zero reference c message = refl
relayed_by-relaying Zero Three reference c message = cond-false _ _ _ (dlci_not_zero (nat_le FIRST_SDCCH c.number))
relayed_by-relaying Three Zero reference c message = refl
relayed_by-relaying Three Three reference c message = cond-true _ _ _ (dlci_three (nat_le FIRST_SDCCH c.number))

of_sapi-cons : (sapi of : Sapi) (message : List ℕ) (these : List (List ℕ)) →
    of_sapi sapi of (message ∷ []) ++ of_sapi sapi of these ≡ of_sapi sapi of (message ∷ these)
of_sapi-cons Zero Zero message these = refl
of_sapi-cons Zero Three message these = refl
of_sapi-cons Three Zero message these = refl
of_sapi-cons Three Three message these = refl

of_sapi-none : (sapi of : Sapi) → of_sapi sapi of [] ≡ []
of_sapi-none Zero Zero = refl
of_sapi-none Zero Three = refl
of_sapi-none Three Zero = refl
of_sapi-none Three Three = refl

relayed-map : (sapi of : Sapi) (reference : ℕ) (c : Channel) (these : List (List ℕ)) →
    relayed sapi (map (relaying reference c of) these) ≡ of_sapi sapi of these
relayed-map sapi of reference c [] = sym (of_sapi-none sapi of)
relayed-map sapi of reference c (message ∷ these) =
    rw (relayed_by-relaying sapi of reference c message, relayed-map sapi of reference c these) (of_sapi-cons sapi of message these)

-- the first tenure is relayed
relayed-tenure : (sapi : Sapi) (reference : ℕ) (c : Channel) (t : TenureHold) (ts : List TenureHold) →
    relayed sapi (tenure_outs reference c (t ∷ ts)) ≡ tenure_messages t sapi
relayed-tenure sapi reference c t ts =
    flat_map-append (relayed_by sapi) (map (relaying reference c Zero) t.zero) (map (relaying reference c Three) t.three)
    ∙ ap (λ (xs : List (List ℕ)). xs ++ relayed sapi (map (relaying reference c Three) t.three)) (relayed-map sapi Zero reference c t.zero)
    ∙ ap (λ (xs : List (List ℕ)). of_sapi sapi Zero t.zero ++ xs) (relayed-map sapi Three reference c t.three)
    ∙ both sapi
  where
    both : (of : Sapi) → of_sapi of Zero t.zero ++ of_sapi of Three t.three ≡ tenure_messages t of
    both Zero = append-nil t.zero
    both Three = refl

pub still_of-first : (sapi : Sapi) (future : Future) (serving : Channel) (ds : List Drain) (t : TenureHold) (ts : List TenureHold) →
    tenure_messages t sapi ++ still_of sapi future serving ds (empty_tenure ∷ ts) ≡ still_of sapi future serving ds (t ∷ ts)
still_of-first sapi future serving [] t ts = rw (empty_messages sapi) refl
still_of-first sapi future serving (d ∷ ds) t ts = rw (empty_messages sapi) refl

-- with what else is still to be relayed
first_of : (sapi : Sapi) (future : Future) (reference : ℕ) (c serving : Channel) (ds : List Drain) (ts : List TenureHold) (more : List (List ℕ)) →
    relayed sapi (tenure_outs reference c ts) ++ (still_of sapi future serving ds (first_cleared ts) ++ more) ≡ still_of sapi future serving ds ts ++ more
first_of sapi future reference c serving ds [] more = refl
first_of sapi future reference c serving ds (t ∷ ts) more =
    rw (relayed-tenure sapi reference c t ts, ← still_of-first sapi future serving ds t ts) (sym (append_assoc (tenure_messages t sapi) (still_of sapi future serving ds (empty_tenure ∷ ts)) more))

pub gives_relay_held : (sapi : Sapi) (future : Future) (reference : ℕ) (s : Connection) →
    Gives sapi future (still_to_relay sapi future s) (relay_held reference s)
gives_relay_held sapi future reference s = first_of sapi future reference (first_channel s.draining s.serving) s.serving s.draining s.up.tenures (of_target future s.state)

-- ---- steps that relay nothing

none_handed : (sapi : Sapi) (c : Channel) (of : Sapi) (these : List (List ℕ)) → relayed sapi (map (handing c of) these) ≡ []
none_handed sapi c of [] = refl
none_handed sapi c of (message ∷ these) = none_handed sapi c of these

pub gives_hand_held : (sapi : Sapi) (future : Future) (of : Sapi) (s : Connection) →
    Gives sapi future (still_to_relay sapi future s) (hand_held of s)
gives_hand_held sapi future of s = rw (none_handed sapi s.serving of _) refl

none_requested : (sapi : Sapi) (c : Channel) (these : List (List ℕ)) → relayed sapi (request_for these c) ≡ []
none_requested sapi c [] = refl
none_requested sapi c (message ∷ these) = refl

pub gives_ask_for_held : (sapi : Sapi) (future : Future) (s : Connection) →
    Gives sapi future (still_to_relay sapi future s) (ask_for_held s)
gives_ask_for_held sapi future s = ap (λ (xs : List (List ℕ)). xs ++ still_to_relay sapi future s) (none_requested sapi s.serving s.down.three)

-- ---- a change begins, where the mobile isn't on its way to another channel

pub gives_begin : (sapi : Sapi) (future : Future) (reference : ℕ) (change : Change) (offer : Option Channel) (s : Connection) →
    of_target future s.state ≡ [] →
    Gives sapi future (still_to_relay sapi future s) (begin reference change offer s)
gives_begin sapi future reference Assignment (Some channel) s none = rw none refl
gives_begin sapi future reference Handover (Some channel) s none = rw none refl
gives_begin sapi future reference Assignment None s none = refl
gives_begin sapi future reference Handover None s none = refl

pub begins_untargeted : (future : Future) (reference : ℕ) (stage : Stage) (waits : Bool) (ds : List Drain) →
    (waits && may_begin stage ds) ≡ true →
    of_target future (Live reference stage) ≡ []
begins_untargeted future reference (Changing target) true ds begins = absurd (true≢false (sym begins))
begins_untargeted future reference (Changing target) false ds begins = absurd (true≢false (sym begins))
begins_untargeted future reference _ waits ds begins = refl

gives_waiting : (sapi : Sapi) (future : Future) (reference : ℕ) (offer : Option Channel) (s : Connection) (begins : Bool) →
    (begins ≡ true → of_target future s.state ≡ []) →
    Gives sapi future (still_to_relay sapi future s) (row (waiting_outs begins reference offer) (after_waiting begins reference offer s))
gives_waiting sapi future reference offer s true none = gives_begin sapi future reference Assignment offer (record s { waits = false }) (none refl)
gives_waiting sapi future reference offer s false none = refl

pub gives_begin_waiting : (sapi : Sapi) (future : Future) (stage : Stage) (reference : ℕ) (offer : Option Channel) (s : Connection) →
    s.state ≡ Live reference stage →
    Gives sapi future (still_to_relay sapi future s) (begin_waiting stage reference offer s)
gives_begin_waiting sapi future stage reference offer s is =
    gives_waiting sapi future reference offer s (s.waits && may_begin stage s.draining) (λ begins. ap (of_target future) is ∙ begins_untargeted future reference stage s.waits s.draining begins)

pub resting_untargeted : (future : Future) (reference : ℕ) (ds : List Drain) → of_target future (Live reference (resting_stage ds)) ≡ []
resting_untargeted future reference [] = refl
resting_untargeted future reference (d ∷ ds) = refl

-- ---- old channels leave

abbrev with_tenures : List TenureHold → Connection → Connection
with_tenures ts s = record s { up = record s.up { tenures = ts } }

gives_leave_by : (sapi : Sapi) (future : Future) (reference : ℕ) (ds : List Drain) (ts : List TenureHold) (s : Connection) →
    FirstIsEmpty ts →
    length ts ≡ length ds + 1 →
    Gives sapi future (still_of sapi future s.serving ds ts ++ of_target future s.state) (leave reference ds (with_tenures ts s))
gives_leave_by sapi future reference [] ts s first long = refl
gives_leave_by sapi future reference (d ∷ ds) [] s first long = absurd first
gives_leave_by sapi future reference (d ∷ ds) (t ∷ []) s first long = absurd (omega arith)
gives_leave_by sapi future reference (d ∷ ds) (t ∷ (u ∷ ts)) s first long =
    elim (cases_Bool d.is_done) [
      | inl done ↦
          let left : Connection = shifted ds (with_tenures (t ∷ (u ∷ ts)) s) in
          let up = still_of sapi future s.serving (d ∷ ds) (t ∷ (u ∷ ts)) ++ of_target future s.state in
          let gives : Gives sapi future up (row [] left) = rw (first, empty_messages sapi, done) refl in
          let relays = gives_then sapi future up (row [] left) (relay_held reference) gives (gives_relay_held sapi future reference left) in
          let others = gives_leave_by sapi future reference ds (empty_tenure ∷ ts) left refl (omega arith) in
          let all = gives_then sapi future up (row [] left then relay_held reference) (leave reference ds) relays others in
          subst (λ (r : Row). Gives sapi future up r) (sym (cond-true _ _ _ done)) all
      | inr drains ↦ subst (λ (r : Row). Gives sapi future (still_of sapi future s.serving (d ∷ ds) (t ∷ (u ∷ ts)) ++ of_target future s.state) r) (sym (cond-false _ _ _ drains)) refl
    ]

pub gives_leave : (sapi : Sapi) (future : Future) (reference : ℕ) (ds : List Drain) (s : Connection) →
    FirstIsEmpty s.up.tenures →
    length s.up.tenures ≡ length ds + 1 →
    Gives sapi future (still_of sapi future s.serving ds s.up.tenures ++ of_target future s.state) (leave reference ds s)
gives_leave sapi future reference ds s first long = gives_leave_by sapi future reference ds s.up.tenures s first long

pub leave-state : (reference : ℕ) (ds : List Drain) (s : Connection) → (leave reference ds s).next.state ≡ s.state
leave-state reference [] s = refl
leave-state reference (d ∷ ds) s =
    elim (cases_Bool d.is_done) [
      | inl done ↦
          let left : Row = row [] (shifted ds s) then relay_held reference in
          ap (λ (r : Row). r.next.state) (cond-true _ _ _ done) ∙ leave-state reference ds left.next
      | inr drains ↦ ap (λ (r : Row). r.next.state) (cond-false _ _ _ drains)
    ]

pub gives_settled : (sapi : Sapi) (future : Future) (reference : ℕ) (stage : Stage) (ds : List Drain) (s : Connection) →
    s.state ≡ Live reference stage →
    Gives sapi future (still_to_relay sapi future s) (row [] (settled reference stage ds s))
gives_settled sapi future reference Draining [] s is = ap (λ (state : State). still_of sapi future s.serving s.draining s.up.tenures ++ of_target future state) (sym is)
gives_settled sapi future reference stage ds s is = refl

settled-state : (reference : ℕ) (stage : Stage) (ds : List Drain) (s : Connection) →
    s.state ≡ Live reference stage →
    (settled reference stage ds s).state ≡ Live reference (settled_stage stage ds)
settled-state reference Draining [] s is = refl
settled-state reference stage ds s is = is

settled-draining : (reference : ℕ) (stage : Stage) (ds : List Drain) (s : Connection) → (settled reference stage ds s).draining ≡ s.draining
settled-draining reference Draining [] s = refl
settled-draining reference stage ds s = refl

-- so it rests in the stage that is left
pub settled-valid : (reference : ℕ) (stage : Stage) (s : Connection) →
    s.state ≡ Live reference stage →
    (settled reference stage s.draining s).state ≡ Live reference (settled_stage stage (settled reference stage s.draining s).draining)
settled-valid reference stage s is =
    settled-state reference stage s.draining s is ∙ ap (λ (ds : List Drain). Live reference (settled_stage stage ds)) (sym (settled-draining reference stage s.draining s))
