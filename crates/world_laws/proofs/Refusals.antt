-- SPDX-License-Identifier: MIT OR Apache-2.0
-- Stations refuse no activation, whatever happened.
use Rattle.world_laws.proofs.Prelude.{List, Parameters, Event, NoneRefuse}
use Rattle.world_laws.proofs.SapiThree.{refuses_came, refuses_waits}

pub none_refuse_new : (settings : Parameters) (events : List Event) → NoneRefuse settings events
none_refuse_new settings events = record { received = refuses_came settings events; waits = refuses_waits settings events }
