-- SPDX-License-Identifier: MIT OR Apache-2.0
-- Each mobile asks for a channel once, and at most one connection answers its request.
use Rattle.std.specs.Prelude.{◌≡◌, ◌≢◌, ℕ, ◌+◌, ◌≤◌, ◌==◌, Bool, false}
use Rattle.std.specs.Prelude.{if◌then◌else◌, List, []}
use Rattle.std.specs.Prelude.{◌∷◌, ◌++◌, Some}
use Rattle.std.specs.List.{flat_map}
use Rattle.world_laws.specs.Prelude.{Connection, connection_of, Item, Rsl, Parameters, Event}
use Rattle.world_laws.specs.Prelude.{Actors, Mobile, mobile_of}
use Rattle.world_laws.specs.Runs.{world}
use Rattle.rsl_codec.specs.declared.rsl.Rsl.TheVariants.{ChannelRequired}
use Rattle.world_model.specs.OwnerLines.{said_by}
use Rattle.world_model.specs.World.{Station}

-- ---- requests that are on their way

-- the CHANNEL REQUIRED of a mobile
abbrev pub is_request_of : ℕ → Rsl → Bool
is_request_of mobile (ChannelRequired r) = r.reference.access == mobile
is_request_of mobile _ = false

abbrev pub requests_in : ℕ → List Rsl → ℕ
requests_in mobile [] = 0
requests_in mobile (m ∷ ms) = (if is_request_of mobile m then 1 else 0) + requests_in mobile ms

-- `said_in` gives the messages in these items of the inbox, and `made_by` the messages that these
-- stations made.
abbrev pub said_in : List Item → List Rsl
said_in items = flat_map (λ item. said_by item.what) items

abbrev pub made_by : List Station → List Rsl
made_by stations = flat_map (λ station. station.base.messages) stations

-- how many requests of a mobile are on their way
abbrev pub requests_up : Actors → ℕ → ℕ
requests_up w mobile =
    requests_in mobile (said_in w.inbox) + requests_in mobile (made_by w.stations)

-- No connection answers the request of this mobile.
abbrev pub IsUnanswered : Actors → ℕ → Type 0
IsUnanswered w mobile =
    (number : ℕ) (s : Connection) → connection_of w.controller number ≡ Some s
    → s.request.access ≢ mobile

-- ---- whatever happened

-- The mobile that the connection answers exists, and no request of the mobile is on its way.
pub record AnswersMobile (w : Actors) (s : Connection) : Type 0 where
  pub from_one : 1 ≤ s.request.access
  pub one : Mobile
  pub found : mobile_of w s.request.access ≡ Some one
  pub none_up : requests_up w s.request.access ≡ 0

abbrev pub ConnectionsAnswerMobiles : Parameters → List Event → Type 0
ConnectionsAnswerMobiles settings events =
    (number : ℕ) (s : Connection) → connection_of (world settings events).controller number ≡ Some s
    → AnswersMobile (world settings events) s

-- Two connections of the same mobile have the same number.
abbrev pub ConnectionsAreOneEach : Parameters → List Event → Type 0
ConnectionsAreOneEach settings events =
    (number other : ℕ) (s t : Connection)
    → connection_of (world settings events).controller number ≡ Some s
    → connection_of (world settings events).controller other ≡ Some t
    → s.request.access ≡ t.request.access → number ≡ other

-- The mobile exists, exactly one request of the mobile is on its way, and no connection answers it.
pub record AsksOnce (w : Actors) (mobile : ℕ) : Type 0 where
  pub from_one : 1 ≤ mobile
  pub one : Mobile
  pub found : mobile_of w mobile ≡ Some one
  pub only : requests_up w mobile ≡ 1
  pub unanswered : IsUnanswered w mobile

abbrev pub RequestsArriveOnce : Parameters → List Event → Type 0
RequestsArriveOnce settings events =
    (mobile : ℕ) → 1 ≤ requests_up (world settings events) mobile
    → AsksOnce (world settings events) mobile

-- ---- earlier moments of the run

-- If a request of a mobile is on its way, no connection answered the mobile at any earlier moment.
abbrev pub NoneWasAnswered : Parameters → List Event → List Event → Type 0
NoneWasAnswered settings before after =
    (mobile : ℕ) → 1 ≤ requests_up (world settings (before ++ after)) mobile
    → IsUnanswered (world settings before) mobile

-- If a mobile had a connection, each later connection of the mobile has the same number.
abbrev pub NoneIsAnsweredAgain : Parameters → List Event → List Event → Type 0
NoneIsAnsweredAgain settings before after =
    (number other : ℕ) (s t : Connection)
    → connection_of (world settings before).controller number ≡ Some s
    → connection_of (world settings (before ++ after)).controller other ≡ Some t
    → s.request.access ≡ t.request.access → number ≡ other
