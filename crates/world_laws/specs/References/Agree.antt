-- SPDX-License-Identifier: MIT OR Apache-2.0
-- The references of the switch's connections, of the messages on their way to the switch, and of
-- the controller's connections agree.
use Rattle.std.specs.Prelude.{◌≡◌, ◌⊎◌, ℕ, zero, suc, ◌+◌, ◌≤◌, ◌<◌}
use Rattle.std.specs.Prelude.{Bool, true, false, List, []}
use Rattle.std.specs.Prelude.{◌∷◌, map, find, None}
use Rattle.std.specs.List.{AllByRecursion}
use Rattle.world_laws.specs.Prelude.{Sccp, Out, SWITCH_LINK, connection_of, word_by, Word}
use Rattle.world_laws.specs.Prelude.{OnConnection, Item, OutboxEntry, sccp_in, Actors}
use Rattle.world_laws.specs.Prelude.{outbox_of}
use Rattle.bssmap_codec.specs.declared.sccp.Sccp.TheVariants.{ConnectionConfirm}
use Rattle.bssmap_codec.specs.Reference.{IsReference}
use Rattle.conn_rules.specs.declared.input.Input.TheVariants as inputs
use Rattle.controller_model.specs.LifeLaws.History.{outs_for}
use Rattle.msc_end.specs.declared.connection.Connection.{Connection}
use Rattle.msc_end.specs.declared.connection.Stage.{Stage}
use Rattle.msc_end.specs.declared.connection.Stage.TheVariants.{Ended}
use Rattle.msc_end.specs.declared.parameters.TheConstants.{REFERENCE_BASE}
use Rattle.world_laws.specs.LineUps.{is_of_peer}
use Rattle.world_laws.specs.KeptLineUps.{carried_for}
use Rattle.world_laws.specs.References.Naming.{Reach, early, waits, due, named, cleared, gone}
use Rattle.world_laws.specs.References.Naming.{reach_of}
use Rattle.world_laws.specs.References.Reads.{AreNothing, Read, asks, carries, clears, tells}
use Rattle.world_laws.specs.References.Reads.{nothing, odd, carried, sccp_read}

-- ---- what is on its way to the switch

abbrev pub reads : Out → Read
reads out = sccp_read (sccp_in out.frame)

-- the entries of a connection, as the switch will read them
abbrev pub reads_of : ℕ → List OutboxEntry → List Read
reads_of number entries = map reads (outs_for number (map (λ entry. entry.out) entries))

-- The entries are one CR of the connection, and entries that the switch doesn't heed.
abbrev pub AsksOnce : ℕ → List Read → Type 0
AsksOnce number [] = ⊥
AsksOnce number (asks source initial ∷ rest) = (source ≡ number) × AreNothing rest
AsksOnce number (nothing ∷ rest) = AsksOnce number rest
AsksOnce number (_ ∷ rest) = ⊥

-- The message is a DT1 to this reference, and no CLEAR COMPLETE came before it; or the switch
-- doesn't heed it. `over` says whether a CLEAR COMPLETE came before.
abbrev pub IsAddressedTo : ℕ → Bool → Read → Type 0
IsAddressedTo reference over nothing = Unit {0}
IsAddressedTo reference over (carries destination message) =
    (over ≡ false) × (destination ≡ reference)
IsAddressedTo reference over (tells destination) = (over ≡ false) × (destination ≡ reference)
IsAddressedTo reference over (clears destination) = (over ≡ false) × (destination ≡ reference)
IsAddressedTo reference over _ = ⊥

abbrev pub over_after : Bool → Read → Bool
over_after over (clears destination) = true
over_after over _ = over

abbrev pub Runs : ℕ → Bool → List Read → Bool → Type 0
Runs reference over [] last = over ≡ last
Runs reference over (r ∷ rest) last =
    IsAddressedTo reference over r × Runs reference (over_after over r) rest last

-- ---- CC on its way

-- If the message is a CC for this connection, the reference of the switch in it satisfies `P`.
abbrev pub ConfirmsBy : (ℕ → Type 0) → ℕ → Sccp → Type 0
ConfirmsBy P number (ConnectionConfirm destination source) =
    IsReference destination × IsReference source × (destination ≡ number → P source)
ConfirmsBy P number _ = Unit {0}

abbrev pub ConfirmsIn : (ℕ → Type 0) → ℕ → Word → Type 0
ConfirmsIn P number (OnConnection destination (inputs.ConnectionConfirm source)) =
    destination ≡ number → P source
ConfirmsIn P number _ = Unit {0}

abbrev pub ConfirmsBeing : (ℕ → Type 0) → ℕ → Item → Type 0
ConfirmsBeing P number item = ConfirmsIn P number (word_by item.source item.what)

pub record Confirms (P : ℕ → Type 0) (w : Actors) (number : ℕ) : Type 0 where
  pub made : AllByRecursion (ConfirmsBy P number) w.switch_made
  pub waiting : AllByRecursion (ConfirmsBeing P number) w.inbox

abbrev pub Never : ℕ → Type 0
Never reference = ⊥

abbrev pub Only : ℕ → ℕ → Type 0
Only own reference = reference ≡ own

-- ---- the switch's connection

abbrev pub is_over : Stage → Bool
is_over Ended = true
is_over _ = false

-- Connection `c` stands at this place in the list, counted from 0, and is the first in the list
-- that has this peer.
abbrev pub IsFirstAt : ℕ → ℕ → Connection → List Connection → Type 0
IsFirstAt number place c [] = ⊥
IsFirstAt number zero c (x ∷ xs) = (x ≡ c) × (x.peer ≡ number)
IsFirstAt number (suc place) c (x ∷ xs) = (x.peer ≡ number → ⊥) × IsFirstAt number place c xs

-- ---- the controller's connection

abbrev pub IsAsked : Reach → Type 0
IsAsked waits = Unit {0}
IsAsked due = Unit {0}
IsAsked gone = Unit {0}
IsAsked _ = ⊥

-- The connection has this reference of the switch or is still to learn it; `over` says whether a
-- CLEAR COMPLETE of the connection was put.
abbrev pub Knows : ℕ → Bool → Reach → Type 0
Knows reference over waits = over ≡ false
Knows reference over due = over ≡ false
Knows reference over (named own) = (own ≡ reference) × (over ≡ false)
Knows reference over cleared = Unit {0}
Knows reference over gone = Unit {0}
Knows reference over early = ⊥

-- ---- the controller's connection and the switch's

-- The switch has no connection for this number. No message and no CC of this connection is on its
-- way.
pub record IsUnknown (w : Actors) (number : ℕ) : Type 0 where
  pub none : find (is_of_peer number) w.switch.connections ≡ None
  pub quiet : AreNothing (reads_of number (outbox_of w SWITCH_LINK))
  pub unconfirmed : Confirms Never w number

pub record IsOnItsWay (w : Actors) (number : ℕ) : Type 0 where
  pub none : find (is_of_peer number) w.switch.connections ≡ None
  pub once : AsksOnce number (reads_of number (outbox_of w SWITCH_LINK))
  pub unconfirmed : Confirms Never w number

-- The switch gave the connection a reference.
pub record IsKnown (w : Actors) (number : ℕ) : Type 0 where
  pub place : ℕ
  pub of : Connection
  pub last : Bool
  pub first_at : IsFirstAt number place of w.switch.connections
  pub fits : IsReference (REFERENCE_BASE + (place + 1))
  pub runs : Runs (REFERENCE_BASE + (place
      + 1)) (is_over of.stage) (reads_of number (outbox_of w SWITCH_LINK)) last
  pub confirmed : Confirms (Only (REFERENCE_BASE + (place + 1))) w number
  pub knows : Knows (REFERENCE_BASE
      + (place + 1)) last (reach_of (connection_of w.controller number))

-- The connection doesn't exist yet, or hasn't asked the switch.
abbrev pub IsUnasked : Actors → ℕ → Type 0
IsUnasked w number =
    (w.controller.next_number ≤ number)
    ⊎ ((number < w.controller.next_number) × (reach_of (connection_of w.controller number) ≡ early))

pub record HasAsked (w : Actors) (number : ℕ) : Type 0 where
  pub past : number < w.controller.next_number
  pub asked : IsAsked (reach_of (connection_of w.controller number))

pub data Agrees (w : Actors) (number : ℕ) : Type 0 where
  is_unasked : IsUnasked w number → IsUnknown w number → Agrees w number
  is_asking : HasAsked w number → IsOnItsWay w number → Agrees w number
  is_unheard : HasAsked w number → IsUnknown w number → Agrees w number
  is_known : number < w.controller.next_number → IsKnown w number → Agrees w number

-- A connection may put the message: the switch doesn't read it as `odd`.
abbrev pub IsHeeded : Read → Type 0
IsHeeded odd = ⊥
IsHeeded _ = Unit {0}

-- An entry of a connection carries the messages that the switch reads in it. The switch reads
-- nothing in an entry that is no connection's.
pub record IsRight (out : Out) : Type 0 where
  pub carries_as_read : 1 ≤ out.conn → IsHeeded (reads out)
      → carried_for out.conn out ≡ carried (reads out)
  pub beside : out.conn ≡ 0 → reads out ≡ nothing

-- The references agree for each connection number, and each entry that waits for the switch is
-- right (`IsRight`).
pub record NamesAgree (w : Actors) : Type 0 where
  pub each : (number : ℕ) → 1 ≤ number → Agrees w number
  pub right : AllByRecursion (λ entry. IsRight entry.out) (outbox_of w SWITCH_LINK)
