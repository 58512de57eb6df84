-- SPDX-License-Identifier: MIT OR Apache-2.0
-- The messages held of all tenures, one tenure after the other.
use Rattle.controller.proofs.Prelude.{◌≡◌, List, [], ◌∷◌, ◌++◌, refl, ap}
use Rattle.std.specs.List.{flat_map}
use Rattle.conn_fsm.specs.Views.{joined}
use Rattle.dtap_codec.specs.declared.sapi.Sapi.{Sapi}
use Rattle.hold_queue.specs.ChainState.{TenureHold, tenure_messages}

pub joined_is : (sapi : Sapi) (tenures : List TenureHold) → joined sapi tenures ≡ flat_map (λ tenure. tenure_messages tenure sapi) tenures
joined_is sapi [] = refl
joined_is sapi (t ∷ ts) = ap (λ rest. tenure_messages t sapi ++ rest) (joined_is sapi ts)
