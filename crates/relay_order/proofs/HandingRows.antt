-- SPDX-License-Identifier: MIT OR Apache-2.0
-- The messages that frames hand, and their tenures, at literal octets.
use Rattle.std.proofs.Common.{◌≡◌, ℕ, List, [], ◌∷◌, refl}
use Rattle.octets.proofs.Hex.{hex}
use Rattle.conn_messages.specs.declared.out.Out.{Out}
use Rattle.controller_model.proofs.OnLiterals.{on_literals}
use Rattle.controller_model.specs.Controller.{place_at}
use Rattle.controller_worker.specs.Steps.{frames_to}
use Rattle.dtap_codec.specs.declared.sapi.Sapi.TheVariants.{Zero, Three}
use Rattle.relay_order.specs.Order.{Handed}
use Rattle.relay_order.specs.Stations.{handed_from}
use Rattle.relay_order.proofs.Handing.{activators, handing_of}
use Rattle.relay_order.proofs.InTenures.{messages_in}
use Rattle.relay_order.proofs.Tenures.{activates}

-- RSL of a connection to a station
out : ℕ → ℕ → List ℕ → Out
out conn station body = record { to = station; conn = conn; frame = record { stream = 0; body = body } }

handed : ℕ → ℕ → ℕ → List ℕ → Handed
handed station channel number message = record { tenure = record { at = place_at station channel; number = number }; message = message }

-- channel 41 of station 1 is activated for connection 1, released, and activated for connection 2;
-- and the same channel of station 2 for connection 2
outs : List Out
unfolding out
outs =
    out 1 1 (hex "08 21 01 41 03 00 06 04 00 03 01 00")
    ∷ out 1 1 (hex "03 01 01 41 02 00 0b 00 02 05 18")
    ∷ out 1 1 (hex "03 01 01 41 02 00 0b 00 03 06 0d 01")
    ∷ out 1 1 (hex "08 2e 01 41")
    ∷ out 2 1 (hex "08 21 01 41 03 00 06 04 00 03 01 00")
    ∷ out 2 1 (hex "03 01 01 41 02 00 0b 00 02 05 19")
    ∷ out 2 1 (hex "03 01 01 41 02 03 0b 00 02 09 04")
    ∷ out 2 2 (hex "08 21 01 41 03 01 06 04 00 03 01 00")
    ∷ out 2 2 (hex "03 01 01 41 02 00 0b 00 02 05 1a") ∷ []

-- what is of radio resource management isn't handed
first_connection : handing_of outs 1 Zero ≡ handed 1 0x41 1 (hex "05 18") ∷ []
unfolding on_literals activates outs out handed
first_connection = refl

second_connection : handing_of outs 2 Zero ≡ handed 1 0x41 2 (hex "05 19") ∷ handed 2 0x41 1 (hex "05 1a") ∷ []
unfolding on_literals activates outs out handed
second_connection = refl

short_messages : handing_of outs 2 Three ≡ handed 1 0x41 2 (hex "09 04") ∷ []
unfolding on_literals activates outs out handed
short_messages = refl

none_of_another : handing_of outs 3 Zero ≡ []
unfolding on_literals activates outs out
none_of_another = refl

by_whom : activators (place_at 1 0x41) outs ≡ 1 ∷ 2 ∷ []
unfolding on_literals activates outs out
by_whom = refl

-- the frames for a station alone hand the same
in_the_first : handed_from 0 0x41 Zero 1 (messages_in (frames_to 1 outs)) ≡ hex "05 18" ∷ []
unfolding on_literals outs out
in_the_first = refl

in_the_second : handed_from 0 0x41 Zero 2 (messages_in (frames_to 1 outs)) ≡ hex "05 19" ∷ []
unfolding on_literals outs out
in_the_second = refl

before_the_first : handed_from 0 0x41 Zero 0 (messages_in (frames_to 1 outs)) ≡ []
unfolding on_literals outs out
before_the_first = refl

on_the_other : handed_from 0 0x41 Zero 1 (messages_in (frames_to 2 outs)) ≡ hex "05 1a" ∷ []
unfolding on_literals outs out
on_the_other = refl
