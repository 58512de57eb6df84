-- SPDX-License-Identifier: MIT OR Apache-2.0
-- A connection that was coming, after a step of the controller.
use Rattle.std.specs.Prelude.{◌≡◌, ◌≢◌, ℕ, true, false, List, [], ◌∷◌, ◌++◌}
use Rattle.std.specs.Prelude.{option_map}
use Rattle.std.specs.Prelude.{slice_index_or, Option, Some, Result, Ok}
use Rattle.std.specs.List.{AllByRecursion}
use Rattle.world_laws.specs.Prelude.{Out, SWITCH_LINK, WaitConfirm, Connection, IsThere}
use Rattle.world_laws.specs.Prelude.{connection_of, place_of, RrMessage, RrFault}
use Rattle.world_laws.specs.Prelude.{rr_reading, Rsl, AreAllowed, Parameters, Event, Tenure}
use Rattle.world_laws.specs.Prelude.{actors_after, mobile_on}
use Rattle.world_laws.specs.Prelude.{rsl_in, Actors, is_up, modulus_in, tenure_at}
use Rattle.world_laws.specs.Runs.{world}
use Rattle.dtap_codec.specs.declared.rr.RrMessage.TheVariants.{ImmediateAssignment}
use Rattle.rsl_codec.specs.declared.rsl.Rsl.TheVariants.{ImmediateAssignCommand}
use Rattle.world_laws.specs.AccountedFor.{AcksAgree, IsOpenAndLinedUp}
use Rattle.world_laws.specs.OthersFrame.{TookOctets}
use Rattle.world_laws.specs.KeptLineUps.{IsForOthers}
use Rattle.world_laws.specs.Access.Arriving.{IsKnown, is_of_others}
use Rattle.world_laws.specs.Access.Coming.{IsComing}

-- ---- the outcomes

-- The connection of this number is still coming; or it asked the switch for its connection and
-- lives, and its mobile is on its serving channel; or it is closed or removed.
pub data HasAccess (Comes : Actors → ℕ → Connection → Type 0) (m : ℕ) (w : Actors)
    (mobile number : ℕ) : Type 0 where
  on_its_way : (next : Connection) → next.number ≡ number → Comes w mobile next
      → HasAccess Comes m w mobile number
  requests : (next : Connection) → next.number ≡ number → next.state ≡ WaitConfirm
      → IsOpenAndLinedUp m w mobile next → option_map (λ p. p.number)
      (mobile_on w (tenure_at w (place_of next.serving))) ≡ Some mobile
      → HasAccess Comes m w mobile number
  no_more : (IsThere (connection_of w.controller number) → ⊥) → HasAccess Comes m w mobile number

-- ---- the outputs that the controller puts for other connections

-- If the message is an IMMEDIATE ASSIGNMENT, it names another mobile.
abbrev pub NamesAnother : ℕ → Result RrMessage RrFault → Type 0
NamesAnother mobile (Ok (ImmediateAssignment channel request advance)) =
    slice_index_or request 0 0 ≢ mobile
NamesAnother mobile _ = Unit {0}

abbrev pub AssignsAnother : ℕ → Option Rsl → Type 0
AssignsAnother mobile (Some (ImmediateAssignCommand i)) =
    NamesAnother mobile (rr_reading i.information)
AssignsAnother mobile _ = Unit {0}

-- The output isn't the connection's: it carries none of the connection's messages, is no command on
-- its channels, and assigns no channel to its mobile.
pub record IsBeside (target : Option Tenure) (mobile : ℕ) (s : Connection)
    (out : Out) : Type 0 where
  pub for_others : IsForOthers target s out
  pub assigns : AssignsAnother mobile (rsl_in out.frame)

abbrev pub AreBeside : Option Tenure → ℕ → Connection → List Out → Type 0
AreBeside target mobile s outs =
    AllByRecursion (λ out. out.conn ≢ s.number → IsBeside target mobile s out) outs

-- No output of another connection is this connection's.
abbrev pub AreForOthers : Option Tenure → Connection → List Out → Type 0
AreForOthers target s outs =
    AllByRecursion (λ out. out.conn ≢ s.number → IsForOthers target s out) outs

-- Two connections of the same mobile have the same number.
abbrev pub AreOneEach : Actors → Type 0
AreOneEach w =
    (number other : ℕ) (s t : Connection) → connection_of w.controller number ≡ Some s
    → connection_of w.controller other ≡ Some t → s.request.access ≡ t.request.access
    → number ≡ other

-- ---- when the controller handles an item, or time passes for it

-- Whatever happened before, a connection that is coming has access (`HasAccess`) after a step of
-- the controller, while the link of the switch is up. Assumes: allowed settings; the controller
-- took only octets; `IsKnown` holds; acknowledgements agree with the roles of the channels; no
-- mobile has two connections.
abbrev pub ControllerBringsComing : Parameters → List Event → Event → Type 0
ControllerBringsComing settings events event =
    (mobile : ℕ) (s : Connection) → is_of_others event ≡ false → AreAllowed settings
    → TookOctets settings (events ++ event ∷ [])
    → is_up (world settings events) SWITCH_LINK ≡ true
    → IsKnown (modulus_in settings) (world settings events) mobile s
    → AcksAgree (world settings events) s → AreOneEach (world settings events)
    → IsComing (modulus_in settings) (world settings events) mobile s
    → HasAccess (IsComing (modulus_in settings)) (modulus_in settings)
    (actors_after (world settings events) event) mobile s.number
