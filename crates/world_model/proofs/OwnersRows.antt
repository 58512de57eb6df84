-- SPDX-License-Identifier: MIT OR Apache-2.0
-- The owners of tenures at literal events.
use Rattle.world_model.proofs.Prelude.{◌≡◌, true, false, List, [], ◌∷◌, ◌++◌, refl, Place, place_at, usual_settings, Event, Connect}
use Rattle.world_model.proofs.Prelude.{BaseDown, BaseTakes, BasePush, Handle, actors_after_all, is_begun, owner_in, user_of, Actors}
use Rattle.world_model.proofs.Prelude.{new_actors}
use Rattle.octets.proofs.Hex.{hex}
use Rattle.world_model.proofs.Worlds.{on_literals}

begin : Actors
begin = new_actors usual_settings

at : Place
at = place_at 1 0x41

-- mobile 7 asks for a channel of the first cell, and its request arrives in the controller's inbox
abbrev asking : List Event
asking = Connect 7 1 (hex "05 24 71") true ∷ BasePush 1 ∷ []

asks : Actors
asks = actors_after_all begin asking

-- the controller puts the activation: the first tenure begins, and not a second one, nor one of
-- another channel
first_begins : is_begun asks Handle (record { at = at; number = 1 }) ≡ true
unfolding on_literals begin at asks
first_begins = refl

no_second : is_begun asks Handle (record { at = at; number = 2 }) ≡ false
unfolding on_literals begin at asks
no_second = refl

not_elsewhere : is_begun asks Handle (record { at = place_at 1 0x49; number = 1 }) ≡ false
unfolding on_literals begin asks
not_elsewhere = refl

-- the station, which takes it, begins none
not_again : is_begun (actors_after_all asks (Handle ∷ [])) (BaseTakes 1) (record { at = at; number = 1 }) ≡ false
unfolding on_literals begin at asks
not_again = refl

-- its connection uses the channel; nobody uses another
used_by_it : user_of (actors_after_all asks (Handle ∷ [])).controller at ≡ 7
unfolding on_literals begin at asks
used_by_it = refl

used_by_none : user_of (actors_after_all asks (Handle ∷ [])).controller (place_at 1 0x49) ≡ 0
unfolding on_literals begin asks
used_by_none = refl

-- so the first tenure is mobile 7's, whatever follows
its_own : owner_in begin (asking ++ Handle ∷ BaseTakes 1 ∷ BaseDown 1 ∷ []) (record { at = at; number = 1 }) ≡ 7
unfolding on_literals begin at
its_own = refl

-- before the activation it is nobody's, and so are others
nobodys : owner_in begin asking (record { at = at; number = 1 }) ≡ 0
unfolding on_literals begin at
nobodys = refl

second_nobodys : owner_in begin (asking ++ Handle ∷ []) (record { at = at; number = 2 }) ≡ 0
unfolding on_literals begin at
second_nobodys = refl

-- two mobiles ask, and each has its own channel
two_own : (owner_in begin (asking ++ Connect 9 1 (hex "05 24 72") true ∷ BasePush 1 ∷ Handle ∷ Handle ∷ []) (record { at = at; number = 1 }) ≡ 7)
    × (owner_in begin (asking ++ Connect 9 1 (hex "05 24 72") true ∷ BasePush 1 ∷ Handle ∷ Handle ∷ []) (record { at = place_at 1 0x49; number = 1 }) ≡ 9)
unfolding on_literals begin at
two_own = (refl, refl)
