-- SPDX-License-Identifier: MIT OR Apache-2.0
-- The connections of the controller are valid, whatever happened.
use Rattle.world_laws.proofs.Prelude.{◌≡◌, List, Option, Some, subst, arith, Connection, IsValid, connection_of, life_fits, Step}
use Rattle.world_laws.proofs.Prelude.{Controller, Parameters, Event, all_steps, new_actors, FollowsTable-new, fine_at, life}
use Rattle.world_laws.proofs.Prelude.{ConnectionsAreValid}
use Rattle.controller_model.proofs.LifeLaws.Fitting.{IsFine}

valid_of : (o : Option Connection) (s : Connection) → o ≡ Some s → IsFine o → IsValid s
unfolding IsFine
valid_of o s is fine = (subst IsFine is fine).1

pub connections_are_valid_new : (settings : Parameters) (events : List Event) → ConnectionsAreValid settings events
connections_are_valid_new settings events number s is =
    let steps : List Step = all_steps (new_actors settings) events in
    let c : Controller = (life settings steps).next in
    valid_of (connection_of c number) s (subst (λ (d : Controller). connection_of d number ≡ Some s) (FollowsTable-new settings events) is)
    (fine_at c (life_fits settings steps 1 (omega arith)).numbered (λ n from_one. (life_fits settings steps n from_one).fine) number)
