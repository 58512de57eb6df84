-- SPDX-License-Identifier: MIT OR Apache-2.0
-- The channels that a connection uses, at literal values.
use Rattle.controller_model.proofs.Prelude.{◌≡◌, ℕ, false, [], ◌∷◌, Some, None, refl, Assignment, Handover, Channel, Due, Asked, Complete}
use Rattle.controller_model.proofs.Prelude.{Active, Preparing, Changing, Draining, State, WaitActivation, WaitEstablish, WaitConfirm, Live}
use Rattle.controller_model.proofs.Prelude.{Closed, Removed, Connection, new_connection, used_places, place_at}

abbrev pub channel : ℕ → ℕ → Channel
channel station number = record { station = station; number = number; cell = []; description = record { arfcn = 20; ncc = 1; bcc = 1 }; reference = record { 0 = 0 } }

-- it serves on channel 41 of station 1, and channel 42 of station 3 drains
abbrev pub connection : State → Connection
connection state = record (new_connection 7 (channel 1 0x41) (record { access = 0x0b; frame = 3 }) 2) { state = state; draining = record { channel = channel 3 0x42; is_done = false } ∷ [] }

before_access : used_places (Some (connection WaitActivation)) ≡ place_at 1 0x41 ∷ []
before_access = refl

established : used_places (Some (connection WaitEstablish)) ≡ place_at 1 0x41 ∷ []
established = refl

confirmed : used_places (Some (connection WaitConfirm)) ≡ place_at 1 0x41 ∷ []
confirmed = refl

-- the target follows the serving channel, from its activation on; old channels aren't used any
-- more
prepared : used_places (Some (connection (Live 5 (Preparing (record { change = Assignment; channel = channel 1 0x09 }))))) ≡ place_at 1 0x41 ∷ place_at 1 0x09 ∷ []
prepared = refl

changing : used_places (Some (connection (Live 5 (Changing (record { change = Handover; channel = channel 2 0x43 }))))) ≡ place_at 1 0x41 ∷ place_at 2 0x43 ∷ []
changing = refl

active : used_places (Some (connection (Live 5 Active))) ≡ place_at 1 0x41 ∷ []
active = refl

draining : used_places (Some (connection (Live 5 Draining))) ≡ place_at 1 0x41 ∷ []
draining = refl

-- from the step on that closes it, none
due : used_places (Some (connection (Closed (Due 1)))) ≡ []
due = refl

asked : used_places (Some (connection (Closed (Asked 5)))) ≡ []
asked = refl

cleared : used_places (Some (connection (Closed Complete))) ≡ []
cleared = refl

removed : used_places (Some (connection Removed)) ≡ []
removed = refl

none : used_places None ≡ []
none = refl
