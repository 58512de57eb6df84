-- SPDX-License-Identifier: MIT OR Apache-2.0
-- The effect of a call on a connection and on the outputs that the call was lent.
use Rattle.std.specs.Prelude.{◌≡◌, ◌≢◌, ℕ, Bool, true, false, List, [], ◌++◌, Option, Some}
use Rattle.std.specs.Prelude.{None, Result, IfErr, IfOk, OnErr}
use Rattle.bssmap_codec.specs.Layer3.{IsLayer3}
use Rattle.conn_messages.specs.declared.out.Out.{Out}
use Rattle.std.specs.List.{AllByRecursion}
use Rattle.std.specs.Option.{is_some}
use Rattle.conn_messages.specs.Out.{IsSound, outs_of}
use Rattle.conn_rules.specs.declared.input.Input.{Input}
use Rattle.conn_rules.specs.declared.input.Input.TheVariants.{Expiry, DrainExpiry, StationDown}
use Rattle.conn_rules.specs.declared.input.Input.TheVariants.{SwitchDown}
use Rattle.conn_rules.specs.declared.state.State.{State}
use Rattle.conn_rules.specs.Connection.{Connection, emptied}
use Rattle.conn_rules.specs.Steps.{Row}
use Rattle.octets.specs.declared.memory.Memory.{Memory}

-- the frames of the row's messages are appended, and the connection is the one after the row
abbrev pub Does : Row → Connection → Connection → List Out → List Out → Type 0
Does r old new outs outs_after =
    (new ≡ r.next) × (outs_after ≡ outs ++ outs_of old.number r.outs)
    × AllByRecursion IsSound r.outs

-- nothing is appended, and the connection is as it was
abbrev pub IsUnchanged : Connection → Connection → List Out → List Out → Type 0
IsUnchanged old new outs outs_after = (new ≡ old) × (outs_after ≡ outs)

-- an `Err` leaves the connection and the outputs as they were
abbrev pub UnchangedOnErr : {T : Type 0} → Result T Memory →
    Connection → Connection → List Out → List Out → Type 0
UnchangedOnErr result old new outs outs_after = OnErr result (IsUnchanged old new outs outs_after)

-- the row that fits is done; if no row fits, nothing changes
abbrev pub Steps : Option Row → Bool → Connection → Connection → List Out → List Out
    → Type 0
Steps (Some r) fits old new outs outs_after = (fits ≡ true) × Does r old new outs outs_after
Steps None fits old new outs outs_after = (fits ≡ false) × IsUnchanged old new outs outs_after

-- if the result is `Ok`, it says whether a row fits, and the row that fits is done
abbrev pub StepsOnOk : Result Bool Memory → Option Row →
    Connection → Connection → List Out → List Out → Type 0
StepsOnOk result r old new outs outs_after =
    IfOk result (λ fits. Steps r fits old new outs outs_after)

-- memory runs out only if a row fits
abbrev pub WantsForRow : {T : Type 0} → Result T Memory → Option Row → Type 0
WantsForRow result r = IfErr result (λ _. is_some r ≡ true)

-- memory runs out only if messages are held, which have to be copied
abbrev pub WantsForHeld : {T X : Type 0} → Result T Memory → List X → Type 0
WantsForHeld result held = IfErr result (λ _. held ≢ [])

-- ---- steps of several connections at once

-- the input is an expiry or a broken link
abbrev pub IsPlanned : Input → Type 0
IsPlanned Expiry = Unit {0}
IsPlanned DrainExpiry = Unit {0}
IsPlanned (StationDown station) = Unit {0}
IsPlanned SwitchDown = Unit {0}
IsPlanned _ = ⊥

-- the connection is as it was when the step was planned, except for its two timers
abbrev pub IsAsPlanned : Connection → Connection → Type 0
IsAsPlanned was now = now ≡ record was { waited = now.waited; drained = now.drained }

-- a row fits and ends the connection in this state, or no row fits and there is no state
abbrev pub EndsIn : Option State → Option Row → Connection → Type 0
EndsIn (Some last) (Some r) s = r.next ≡ emptied last s
EndsIn None None s = Unit {0}
EndsIn _ _ s = ⊥

abbrev pub outs_in : Option Row → ℕ → List Out
outs_in (Some r) number = outs_of number r.outs
outs_in None number = []

-- ---- conditions

-- the message in an ESTABLISH INDICATION, if there is one, is a layer 3 message
abbrev pub IsInitial : Option (List ℕ) → Type 0
IsInitial None = Unit {0}
IsInitial (Some message) = IsLayer3 message

-- the messages of the row that fits can be written and are read back unchanged
abbrev pub AreSound : Option Row → Type 0
AreSound (Some r) = AllByRecursion IsSound r.outs
AreSound None = Unit {0}

-- these are the frames of the row that fits and the state in which the row ends the connection
abbrev pub Plans : List Out → Option State → Option Row → Connection → Type 0
Plans outs last r s = (outs ≡ outs_in r s.number) × EndsIn last r s × AreSound r

-- the connection has ended in this state; it is unchanged if there is no state
abbrev pub Closes : Option State → Connection → Connection → Type 0
Closes (Some last) old new = new ≡ emptied last old
Closes None old new = new ≡ old

-- if there is a last state, the frames are appended and the connection ends in this state;
-- otherwise nothing changes
abbrev pub Finishes : Option State → List Out → Bool →
    Connection → Connection → List Out → List Out → Type 0
Finishes (Some last) made fits old new outs outs_after =
    (fits ≡ true) × (new ≡ emptied last old) × (outs_after ≡ outs ++ made)
Finishes None made fits old new outs outs_after =
    (fits ≡ false) × IsUnchanged old new outs outs_after

-- the row that fits is done, and these are its frames; if no row fits, nothing changes
abbrev pub Commits : Option Row → Connection → Connection → List Out → Type 0
Commits (Some r) old new outs =
    (new ≡ r.next) × (outs ≡ outs_of old.number r.outs) × AllByRecursion IsSound r.outs
Commits None old new outs = (new ≡ old) × (outs ≡ [])
