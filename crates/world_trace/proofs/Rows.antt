-- SPDX-License-Identifier: MIT OR Apache-2.0
-- The frames that cross the links at the first events of a mobile, and the causes of events that
-- aren't taken.
use Rattle.std.proofs.Common.{◌≡◌, [], ◌∷◌, map, Some, None, true, refl}
use Rattle.octets.proofs.Hex.{hex}
use Rattle.controller_model.proofs.Lives.{usual_settings}
use Rattle.dtap_codec.specs.declared.sapi.Sapi.TheVariants.{Zero}
use Rattle.world_model.specs.declared.event.Event.TheVariants.{Upper, Connect, AirUp, AirAck, AirDown, Move, Touch, Arrive, Return, BaseTakes, BasePush, Handle, SwitchTakes, SwitchDoes, Tick, BaseDown, Report}
use Rattle.world_model.specs.declared.event.SwitchAction.TheVariants.{Assign, Clear, Dtap}
use Rattle.world_model.specs.World.{World, new_world}
use Rattle.world_model.proofs.Rows.{opened}
use Rattle.world_model.proofs.Worlds.{after_all, on_literals}
use Rattle.world_trace.specs.declared.cause.Cause.TheVariants as causes
use Rattle.world_trace.specs.declared.crossing.End.TheVariants.{Switch, Station, Controller}
use Rattle.world_trace.specs.declared.crossing.Passage.TheVariants.{Made, Sent, Got}
use Rattle.world_trace.specs.declared.made.TheConstants.{SOURCE_LIMIT}
use Rattle.world_trace.specs.Causes.{refusal}
use Rattle.world_trace.specs.Crossings.{crossings}
use Rattle.world_trace.specs.Makings.{made_at}

abbrev asking : World
asking = after_all (new_world usual_settings) (Connect 1 1 (hex "05 24 71") true ∷ [])

-- more sources than settings have links
sources_at_most : SOURCE_LIMIT ≡ 256
sources_at_most = refl

-- what a station makes crosses no link yet
making : crossings (new_world usual_settings).actors (Connect 1 1 (hex "05 24 71") true) ≡ []
unfolding on_literals
making = refl

-- CHANNEL REQUIRED
pushing : crossings asking.actors (BasePush 1) ≡ record { passage = Sent; from = Station 1; to = Controller; frame = record { stream = 0; body = hex "0c 13 01 88 13 01 00 00 11 00" } } ∷ []
unfolding on_literals
pushing = refl

abbrev pushed : World
pushed = after_all asking (BasePush 1 ∷ [])

-- the controller takes it, and puts CHANNEL ACTIVATION
handling : crossings pushed.actors Handle
    ≡ record { passage = Got; from = Station 1; to = Controller; frame = record { stream = 0; body = hex "0c 13 01 88 13 01 00 00 11 00" } }
    ∷ record { passage = Sent; from = Controller; to = Station 1; frame = record { stream = 0; body = hex "08 21 01 41 03 00 06 04 00 03 01 00" } } ∷ []
unfolding on_literals
handling = refl

abbrev handled : World
handled = after_all pushed (Handle ∷ [])

taking : crossings handled.actors (BaseTakes 1) ≡ record { passage = Got; from = Controller; to = Station 1; frame = record { stream = 0; body = hex "08 21 01 41 03 00 06 04 00 03 01 00" } } ∷ []
unfolding on_literals
taking = refl

other_station_takes_nothing : crossings handled.actors (BaseTakes 2) ≡ []
unfolding on_literals
other_station_takes_nothing = refl

-- a break is no frame, and what it loses was taken by nobody
breaking : crossings handled.actors (BaseDown 1) ≡ []
unfolding on_literals
breaking = refl

-- the switch's DT1 with a message for the mobile, and the controller's DATA REQUEST
abbrev answering : World
answering = after_all opened (SwitchDoes (Dtap 1 Zero (hex "83 02")) ∷ [])

from_switch : map (λ crossing. crossing.from) (crossings answering.actors (BasePush 0)) ≡ Switch ∷ []
unfolding on_literals
from_switch = refl

relayed : map (λ crossing. crossing.to) (crossings (after_all answering (BasePush 0 ∷ [])).actors Handle) ≡ Controller ∷ Station 1 ∷ []
unfolding on_literals
relayed = refl

-- ---- causes

nothing_there : map (refusal (new_world usual_settings).actors) (Upper 1 Zero (hex "03 05") ∷ AirUp 1 Zero ∷ Move 1 ∷ Touch 1 ∷ Arrive 1 ∷ Return 1 ∷ BaseTakes 1 ∷ BaseTakes 3 ∷ BasePush 0 ∷ Handle ∷ SwitchTakes ∷ SwitchDoes (Assign 1) ∷ Tick 5 ∷ [])
    ≡ Some causes.NoMobile ∷ Some causes.NoMobile ∷ Some causes.NoMobile ∷ Some causes.NoMobile ∷ Some causes.NoMobile ∷ Some causes.NoMobile ∷ Some causes.OutboxEmpty ∷ Some causes.LinkDown ∷ Some causes.NothingMade
    ∷ Some causes.InboxEmpty ∷ Some causes.OutboxEmpty ∷ Some causes.NoConnection ∷ None ∷ []
unfolding on_literals
nothing_there = refl

while_asking : map (refusal asking.actors) (Connect 1 2 (hex "05 24 71") true ∷ Connect 2 3 (hex "05 24 71") true ∷ Connect 2 1 (hex "03 05") true ∷ Upper 1 Zero (hex "03 05") ∷ AirUp 1 Zero ∷ BasePush 1 ∷ [])
    ≡ Some causes.MobileKnown ∷ Some causes.LinkDown ∷ Some causes.BadMessage ∷ Some causes.NotOnChannel ∷ Some causes.NotOnChannel ∷ None ∷ []
unfolding on_literals
while_asking = refl

in_a_call : map (refusal opened.actors) (AirUp 1 Zero ∷ AirAck 1 Zero ∷ AirDown 1 ∷ Move 1 ∷ Arrive 1 ∷ Report 1 (hex "00") ∷ Upper 1 Zero (hex "06 2e") ∷ SwitchDoes (Clear 2) ∷ [])
    ≡ Some causes.NothingInAir ∷ Some causes.FrameNotTaken ∷ Some causes.NothingInAir ∷ Some causes.NoCommand ∷ Some causes.NotBetween ∷ Some causes.BadMessage ∷ Some causes.BadMessage ∷ Some causes.NoConnection ∷ []
unfolding on_literals
in_a_call = refl

-- a connection that is cleared takes no more, and a station whose link broke does nothing
cleared : map (refusal (after_all opened (SwitchDoes (Clear 1) ∷ BaseDown 1 ∷ [])).actors) (SwitchDoes (Clear 1) ∷ BaseDown 1 ∷ AirDown 1 ∷ BaseTakes 1 ∷ [])
    ≡ Some causes.ConnectionClosed ∷ Some causes.LinkDown ∷ Some causes.LinkDown ∷ Some causes.LinkDown ∷ []
unfolding on_literals
cleared = refl

-- ---- what is made: CHANNEL REQUIRED, which waits with its station; CC, which waits with the switch

making_is_noted : made_at (new_world usual_settings).actors (Connect 1 1 (hex "05 24 71") true)
    ≡ record { passage = Made; from = Station 1; to = Controller; frame = record { stream = 0; body = hex "0c 13 01 88 13 01 00 00 11 00" } } ∷ []
unfolding on_literals
making_is_noted = refl

pushing_makes_nothing : made_at asking.actors (BasePush 1) ≡ []
unfolding on_literals
pushing_makes_nothing = refl

breaking_makes_nothing : made_at asking.actors (BaseDown 1) ≡ []
unfolding on_literals
breaking_makes_nothing = refl

clearing_is_made : map (λ crossing. crossing.from) (made_at opened.actors (SwitchDoes (Clear 1))) ≡ Switch ∷ []
unfolding on_literals
clearing_is_made = refl
