-- SPDX-License-Identifier: MIT OR Apache-2.0
-- A channel that was freed for a step is as before once its state is put back.
use Rattle.controller.proofs.Prelude.{◌≡◌, ℕ, List, [], ◌∷◌, refl, ap, ChannelState}
use Rattle.std.proofs.Common.{zero, suc, set, slice_index_or}
use Rattle.conn_messages.specs.declared.channel.Place.{Place}
use Rattle.controller_model.specs.declared.channel_state.ChannelState.TheVariants.{Free}
use Rattle.controller_model.specs.Controller.{state_in, with_state}

set_back : {X : Type 0} (xs : List X) (i : ℕ) (x d : X) → set (set xs i x) i (slice_index_or xs i d) ≡ xs
set_back [] i x d = refl
set_back (y ∷ ys) zero x d = refl
set_back (y ∷ ys) (suc i) x d = ap (λ zs. y ∷ zs) (set_back ys i x d)

back_in : {X : Type 0} (rows : List (List X)) (i n : ℕ) (free : X)
    → set (set rows i (set (slice_index_or rows i []) n free)) i
    (set (slice_index_or (set rows i (set (slice_index_or rows i []) n free)) i []) n (slice_index_or (slice_index_or rows i []) n free)) ≡ rows
back_in [] i n free = refl
back_in (row ∷ rest) zero n free = ap (λ r. r ∷ rest) (set_back row n free free)
back_in (row ∷ rest) (suc i) n free = ap (λ rows. row ∷ rows) (back_in rest i n free)

pub state_is_back : (at : Place) (channels : List (List ChannelState)) →
    with_state at (state_in channels at) (with_state at Free channels) ≡ channels
state_is_back at channels = back_in channels at.station at.number Free
