-- SPDX-License-Identifier: MIT OR Apache-2.0
-- The content that the switch reads in a frame.
use Rattle.std.specs.Prelude.{◌≡◌, ℕ, List, [], ◌∷◌, Option, Some, None}
use Rattle.std.specs.List.{AllByRecursion}
use Rattle.bssmap_codec.specs.declared.bssap.Bssap.{Bssap}
use Rattle.world_laws.specs.Prelude.{Management, Sccp}
use Rattle.bssmap_codec.specs.declared.bssap.Bssap.TheVariants.{Transfer}
use Rattle.bssmap_codec.specs.declared.bssmap.Bssmap.{Bssmap}
use Rattle.bssmap_codec.specs.declared.bssmap.Bssmap.TheVariants.{ClearComplete}
use Rattle.bssmap_codec.specs.declared.bssmap.Bssmap.TheVariants.{CompleteLayer3Information}
use Rattle.bssmap_codec.specs.declared.sccp.Sccp.TheVariants.{ConnectionRequest, DataForm1}
use Rattle.msc_end.specs.Switch.{message_in}

pub data Read : Type 0 where
  -- a CR of the connection with this number, with an initial message
  asks : ℕ → List ℕ → Read
  -- a DT1 to this reference: `carries` with DTAP, `clears` with CLEAR COMPLETE, `tells` with
  -- another message of BSSMAP
  carries : ℕ → List ℕ → Read
  clears : ℕ → Read
  tells : ℕ → Read
  -- a message that the switch doesn't heed, or an unreadable frame
  nothing : Read
  -- a message that no connection puts
  odd : Read

abbrev pub management_read : ℕ → Bssmap → Read
management_read destination ClearComplete = clears destination
management_read destination (CompleteLayer3Information cell initial) = odd
management_read destination _ = tells destination

abbrev pub data_read : ℕ → Option Bssap → Read
data_read destination None = odd
data_read destination (Some (Management message)) = management_read destination message
data_read destination (Some (Transfer dlci message)) = carries destination message

abbrev pub initial_read : ℕ → Option Bssap → Read
initial_read source (Some (Management (CompleteLayer3Information cell initial))) =
    asks source initial
initial_read source _ = odd

abbrev pub request_read : ℕ → Option (List ℕ) → Read
request_read source None = odd
request_read source (Some user) = initial_read source (message_in user)

abbrev pub sccp_read : Option Sccp → Read
sccp_read None = nothing
sccp_read (Some (ConnectionRequest source user)) = request_read source user
sccp_read (Some (DataForm1 destination user)) = data_read destination (message_in user)
sccp_read (Some _) = nothing

-- The messages of the mobile that the switch reads in a frame.
abbrev pub carried : Read → List (List ℕ)
carried (asks source initial) = initial ∷ []
carried (carries destination message) = message ∷ []
carried _ = []

-- ---- the messages that a connection may put

abbrev pub IsNothing : Read → Type 0
IsNothing nothing = Unit {0}
IsNothing _ = ⊥

abbrev pub AreNothing : List Read → Type 0
AreNothing reads = AllByRecursion IsNothing reads

-- The frame is a DT1 to this reference without CLEAR COMPLETE, or the switch doesn't heed it.
abbrev pub IsPlainRead : ℕ → Read → Type 0
IsPlainRead reference (carries destination message) = destination ≡ reference
IsPlainRead reference (tells destination) = destination ≡ reference
IsPlainRead reference nothing = Unit {0}
IsPlainRead reference _ = ⊥

abbrev pub ArePlainReads : ℕ → List Read → Type 0
ArePlainReads reference reads = AllByRecursion (IsPlainRead reference) reads
