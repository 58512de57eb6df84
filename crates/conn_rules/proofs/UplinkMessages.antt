-- SPDX-License-Identifier: MIT OR Apache-2.0
-- The rows of the mobile's messages: each is relayed or held at its channel's place, or the
-- connection closes or is removed.
use Rattle.conn_rules.proofs.Prelude.{◌≡◌, ℕ, zero, suc, ◌==◌, true, if◌then◌else◌, List, [], ◌∷◌, ◌++◌, length, nat_le, Option, Some, None}
use Rattle.conn_rules.proofs.Prelude.{refl, sym, ap, ◌∙◌, subst, append_assoc, append-nil, cond_both, cond-true, EQUIPMENT_FAILURE, Channel}
use Rattle.conn_rules.proofs.Prelude.{Place, relaying, Sapi, Zero, Three, TenureHold, empty_tenure, tenure_messages, put_in, chain_count}
use Rattle.conn_rules.proofs.Prelude.{INITIAL_LIMIT, complete_layer3, Drain, Stage, Changing, State, WaitEstablish, WaitConfirm, Live}
use Rattle.conn_rules.proofs.Prelude.{Connection, is_at, tenure_at, first_channel, IsValidState, FirstIsEmpty, Future, IsOpen, OfRow, AreApart}
use Rattle.conn_rules.proofs.Prelude.{relayed, still_of, still_to_relay, of_target, from_input, undone, target_in, with_tenure_messages}
use Rattle.conn_rules.specs.declared.input.Input.TheVariants as inputs
use Rattle.conn_rules.specs.Steps.{Row, row, failing}
use Rattle.conn_rules.specs.Table.{on_establish_indication, dtap_in, on_dtap}
use Rattle.conn_rules.proofs.UplinkPlaces.{first_here}
use Rattle.conn_rules.proofs.UplinkRows.{Passes, in_state, of_if, gives_link_up}
use Rattle.conn_rules.proofs.UplinkSteps.{Gives, of_sapi, relayed_by-relaying, still_of-first}
use Rattle.conn_rules.proofs.UplinkTenures.{tenure_put, empty_messages}

-- ---- the initial message

link_of_three : (sapi : Sapi) (future : Future) (at : Place) (message : Option (List ℕ)) →
    from_input sapi (inputs.EstablishIndication at Three message) future ≡ future
link_of_three Zero future at message = refl
link_of_three Three future at message = refl

-- it arrives where nothing is held yet
initial-still : (sapi : Sapi) (future : Future) (at : Place) (initial : List ℕ) (serving : Channel) →
    is_at at serving ≡ true →
    of_sapi sapi Zero (initial ∷ []) ++ still_of sapi future serving [] (empty_tenure ∷ []) ≡ still_of sapi (from_input sapi (inputs.EstablishIndication at Zero (Some initial)) future) serving [] (empty_tenure ∷ [])
initial-still Zero future at initial serving here = sym (first_here at serving initial future here)
initial-still Three future at initial serving here = refl

relayed-initial : (sapi : Sapi) (c : Channel) (initial : List ℕ) →
    relayed sapi (complete_layer3 c initial ∷ []) ≡ of_sapi sapi Zero (initial ∷ [])
relayed-initial Zero c initial = refl
relayed-initial Three c initial = refl

pub establish_indication : (sapi : Sapi) (future : Future) (state : State) (s : Connection) (at : Place) (of : Sapi) (message : Option (List ℕ)) →
    IsValidState state s.draining s.down s.up.tenures s.link s.waits →
    OfRow (Passes sapi future (still_to_relay sapi (from_input sapi (inputs.EstablishIndication at of message) future) (in_state state s))) (on_establish_indication state (in_state state s) at of message)
establish_indication sapi future WaitEstablish s at Zero None valid = of_if _ (is_at at s.serving) _ (λ here kept. absurd kept)
establish_indication sapi future WaitEstablish s at Zero (Some initial) valid =
    let bare = valid.0 in
    let after = from_input sapi (inputs.EstablishIndication at Zero (Some initial)) future in
    of_if _ (is_at at s.serving) _ (λ here. cond_both (nat_le (length initial) INITIAL_LIMIT) _ _ (Passes sapi future (still_to_relay sapi after (in_state WaitEstablish s)))
    (λ fits kept.
    rw (bare.none_drains, bare.one_tenure, relayed-initial sapi s.serving initial)
    (sym (append_assoc (of_sapi sapi Zero (initial ∷ [])) (still_of sapi future s.serving [] (empty_tenure ∷ [])) []) ∙ ap (λ (xs : List (List ℕ)). xs ++ []) (initial-still sapi future at initial s.serving here)))
    (λ long kept. absurd kept))
establish_indication sapi future (Live reference (Changing target)) s at of message valid = tt
establish_indication sapi future (Live reference stage) s at Three message valid =
    rw (link_of_three sapi future at message) (of_if _ (is_at at s.serving) _ (λ here kept. gives_link_up sapi future (in_state (Live reference stage) s)))
establish_indication sapi future _ s at of message valid = tt

-- ---- DTAP

-- messages of the other SAPI change nothing
other_put : (sapi of : Sapi) →
    ((t : TenureHold) (these : List (List ℕ)) → tenure_messages (with_tenure_messages t of these) sapi ≡ tenure_messages t sapi) →
    (message : List ℕ) (future : Future) (serving : Channel) (ds : List Drain) (ts : List TenureHold) (place : ℕ) →
    still_of sapi future serving ds (put_in place of message ts) ≡ still_of sapi future serving ds ts
other_put sapi of other message future serving ds [] place = refl
other_put sapi of other message future serving [] (t ∷ ts) zero = rw (other t) refl
other_put sapi of other message future serving [] (t ∷ ts) (suc place) = refl
other_put sapi of other message future serving (d ∷ ds) (t ∷ ts) zero = rw (other t) refl
other_put sapi of other message future serving (d ∷ ds) (t ∷ ts) (suc place) = rw (other_put sapi of other message future serving ds ts place) refl

-- it is held in the tenure of its channel
put_still : (sapi of : Sapi) (at : Place) (message : List ℕ) (future : Future) (serving : Channel) (ds : List Drain) (ts : List TenureHold) (state : State) (place : ℕ) →
    AreApart (undone ds ++ serving ∷ target_in state) →
    tenure_at at serving ds ≡ Some place →
    still_of sapi future serving ds (put_in place of message ts) ++ of_target future state ≡ still_of sapi (from_input sapi (inputs.Dtap at of message) future) serving ds ts ++ of_target (from_input sapi (inputs.Dtap at of message) future) state
put_still Zero Zero at message future serving ds ts state place apart is = tenure_put Zero at message future serving ds ts state place apart is
put_still Zero Three at message future serving ds ts state place apart is = ap (λ (xs : List (List ℕ)). xs ++ of_target future state) (other_put Zero Three (λ t these. refl) message future serving ds ts place)
put_still Three Zero at message future serving ds ts state place apart is = ap (λ (xs : List (List ℕ)). xs ++ of_target future state) (other_put Three Zero (λ t these. refl) message future serving ds ts place)
put_still Three Three at message future serving ds ts state place apart is = tenure_put Three at message future serving ds ts state place apart is

-- or relayed, where that is the first and has nothing
one_message : (sapi of : Sapi) (message : List ℕ) →
    of_sapi sapi of (message ∷ []) ≡ tenure_messages (with_tenure_messages empty_tenure of (message ∷ [])) sapi
one_message Zero Zero message = refl
one_message Zero Three message = refl
one_message Three Zero message = refl
one_message Three Three message = refl

relay_put : (sapi of : Sapi) (message : List ℕ) (future : Future) (serving : Channel) (ds : List Drain) (ts : List TenureHold) →
    FirstIsEmpty ts →
    of_sapi sapi of (message ∷ []) ++ still_of sapi future serving ds ts ≡ still_of sapi future serving ds (put_in 0 of message ts)
relay_put sapi of message future serving ds [] first = absurd first
relay_put sapi of message future serving ds (t ∷ ts) first =
    let relays = still_of-first sapi future serving ds (with_tenure_messages empty_tenure of (message ∷ [])) ts in
    let at_empty =
    ap (λ (xs : List (List ℕ)). xs ++ still_of sapi future serving ds (empty_tenure ∷ ts)) (one_message sapi of message) ∙ relays
    ∙ ap (λ (xs : List (List ℕ)). still_of sapi future serving ds (with_tenure_messages empty_tenure of (xs ++ message ∷ []) ∷ ts)) (sym (empty_messages of)) in
    subst (λ (u : TenureHold). of_sapi sapi of (message ∷ []) ++ still_of sapi future serving ds (u ∷ ts) ≡ still_of sapi future serving ds (put_in 0 of message (u ∷ ts))) (sym first) at_empty

passes_relay : (sapi of : Sapi) (at : Place) (message : List ℕ) (future : Future) (reference : ℕ) (s : Connection) →
    AreApart (undone s.draining ++ s.serving ∷ target_in s.state) →
    tenure_at at s.serving s.draining ≡ Some 0 →
    FirstIsEmpty s.up.tenures →
    Gives sapi future (still_to_relay sapi (from_input sapi (inputs.Dtap at of message) future) s) (row (relaying reference (first_channel s.draining s.serving) of message ∷ []) s)
passes_relay sapi of at message future reference s apart is first =
    let c = first_channel s.draining s.serving in
    let still = still_of sapi future s.serving s.draining s.up.tenures in
    ap (λ (xs : List (List ℕ)). xs ++ [] ++ (still ++ of_target future s.state)) (relayed_by-relaying sapi of reference c message)
    ∙ ap (λ (xs : List (List ℕ)). xs ++ (still ++ of_target future s.state)) (append-nil (of_sapi sapi of (message ∷ [])))
    ∙ sym (append_assoc (of_sapi sapi of (message ∷ [])) still (of_target future s.state))
    ∙ ap (λ (xs : List (List ℕ)). xs ++ of_target future s.state) (relay_put sapi of message future s.serving s.draining s.up.tenures first)
    ∙ put_still sapi of at message future s.serving s.draining s.up.tenures s.state 0 apart is

passes_hold_up : (sapi of : Sapi) (at : Place) (message : List ℕ) (future : Future) (place : ℕ) (s : Connection) (full : Row) →
    (IsOpen full.next.state → ⊥) →
    AreApart (undone s.draining ++ s.serving ∷ target_in s.state) →
    tenure_at at s.serving s.draining ≡ Some place →
    Passes sapi future (still_to_relay sapi (from_input sapi (inputs.Dtap at of message) future) s) (if chain_count s.up == s.up.limit then full else row [] (record s { up = record s.up { tenures = put_in place of message s.up.tenures } }))
passes_hold_up sapi of at message future place s full closes apart is =
    cond_both (chain_count s.up == s.up.limit) _ _ (Passes sapi future (still_to_relay sapi (from_input sapi (inputs.Dtap at of message) future) s)) (λ filled kept. absurd (closes kept))
    (λ room kept. put_still sapi of at message future s.serving s.draining s.up.tenures s.state place apart is)

dtap_by : (sapi : Sapi) (future : Future) (reference : ℕ) (stage : Stage) (s : Connection) (at : Place) (of : Sapi) (message : List ℕ) (place : Option ℕ) →
    s.state ≡ Live reference stage →
    AreApart (undone s.draining ++ s.serving ∷ target_in s.state) →
    tenure_at at s.serving s.draining ≡ place →
    FirstIsEmpty s.up.tenures →
    OfRow (Passes sapi future (still_to_relay sapi (from_input sapi (inputs.Dtap at of message) future) s)) (dtap_in place reference stage s at of message)
dtap_by sapi future reference stage s at of message (Some zero) state apart is first = λ kept. passes_relay sapi of at message future reference s apart is first
dtap_by sapi future reference stage s at of message (Some (suc place)) state apart is first =
    passes_hold_up sapi of at message future (suc place) s (failing (Live reference stage) s EQUIPMENT_FAILURE) (λ kept. kept) apart is
dtap_by sapi future reference (Changing target) s at Zero message None state apart is first = of_if _ (is_at at target.channel) _ (λ here kept. absurd kept)
dtap_by sapi future reference stage s at of message None state apart is first = tt

pub dtap : (sapi : Sapi) (future : Future) (state : State) (s : Connection) (at : Place) (of : Sapi) (message : List ℕ) →
    IsValidState state s.draining s.down s.up.tenures s.link s.waits →
    AreApart (undone s.draining ++ s.serving ∷ target_in state) →
    OfRow (Passes sapi future (still_to_relay sapi (from_input sapi (inputs.Dtap at of message) future) (in_state state s))) (on_dtap state (in_state state s) at of message)
dtap sapi future WaitEstablish s at Zero message valid apart = of_if _ (is_at at s.serving) _ (λ here kept. absurd kept)
dtap sapi future WaitConfirm s at of message valid apart =
    let old = in_state WaitConfirm s in
    of_if _ (is_at at s.serving) _ (λ here.
    passes_hold_up sapi of at message future 0 old (failing WaitConfirm old EQUIPMENT_FAILURE) (λ kept. kept) apart
    (cond-true _ _ _ here ∙ ap (λ (ds : List Drain). Some (length ds)) valid.none_drains))
dtap sapi future (Live reference stage) s at of message valid apart =
    dtap_by sapi future reference stage (in_state (Live reference stage) s) at of message (tenure_at at s.serving s.draining) refl apart refl valid.first
dtap sapi future _ s at of message valid apart = tt
