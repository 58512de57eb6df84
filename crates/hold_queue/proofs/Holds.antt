-- SPDX-License-Identifier: MIT OR Apache-2.0
-- A hold is one tenure with a limit.
use Rattle.std.proofs.Common.{◌≡◌, ℕ, List, refl}
use Rattle.dtap_codec.specs.declared.sapi.Sapi.{Sapi}
use Rattle.dtap_codec.specs.declared.sapi.Sapi.TheVariants.{Zero, Three}
use Rattle.hold_queue.specs.ChainState.{TenureHold, tenure_messages, with_tenure_messages}
use Rattle.hold_queue.specs.HoldState.{HoldState, messages, with_messages}

-- the hold with the messages of this tenure
abbrev pub hold_of : ℕ → TenureHold → HoldState
hold_of limit tenure = record { limit = limit; zero = tenure.zero; three = tenure.three }

pub messages_of_tenure : (limit : ℕ) (tenure : TenureHold) (sapi : Sapi) →
    messages (hold_of limit tenure) sapi ≡ tenure_messages tenure sapi
messages_of_tenure limit tenure Zero = refl
messages_of_tenure limit tenure Three = refl

pub with_messages_of_tenure : (limit : ℕ) (tenure : TenureHold) (sapi : Sapi) (these : List (List ℕ)) →
    with_messages (hold_of limit tenure) sapi these ≡ hold_of limit (with_tenure_messages tenure sapi these)
with_messages_of_tenure limit tenure Zero these = refl
with_messages_of_tenure limit tenure Three these = refl
