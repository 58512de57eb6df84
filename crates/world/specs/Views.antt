-- SPDX-License-Identifier: MIT OR Apache-2.0
-- Views of a world by the number of a mobile or of a connection of the switch. A view is None if no
-- mobile, or no connection, has the number.
use Rattle.std.specs.Prelude.{◌≡◌, ℕ, ◌==◌, Option, Some, None, option_map}
use Rattle.std.specs.Prelude.{List, [], if◌then◌else◌}
use Rattle.std.specs.Borrow.{Bor}
use Rattle.nsd_filter.specs.AcceptedList.{accepted_list as accepted_of, progress, not_of_the_flow}
use Rattle.world_model.specs.Views.{sent, received, taken, accepted, unnumbered, progress_of}
use Rattle.world.specs.declared.fixed.TheConstants.{FIXED_MOBILE, FIXED_CONNECTION}
use Rattle.world.specs.declared.world.Scene.{Scene}
use Rattle.world.specs.declared.world.Scene.TheVariants.{Fixed, Controlled}

-- the borrowed list is the list in `list`; no list is borrowed if `list` is None
abbrev pub Lends : {X : Type 0} → Option (Bor X) → Option X → Type 0
Lends lent list = option_map (λ borrowed. borrowed.now) lent ≡ list

-- the sent list of a mobile: the messages of the flow that its upper layers sent
abbrev pub sent_list : Scene → ℕ → Option (List (List ℕ))
sent_list (Fixed world) mobile = if mobile == FIXED_MOBILE then Some world.mobile.sent else None
sent_list (Controlled w) mobile = sent w mobile

-- the messages that a mobile received
abbrev pub received_list : Scene → ℕ → Option (List (List ℕ))
received_list (Fixed world) mobile = if mobile == FIXED_MOBILE then Some [] else None
received_list (Controlled w) mobile = received w mobile

-- the messages that the switch took on a connection
abbrev pub taken_list : Scene → ℕ → Option (List (List ℕ))
taken_list (Fixed world) connection =
    if connection == FIXED_CONNECTION then Some world.switch.taken else None
taken_list (Controlled w) connection = taken w connection

-- the accepted list of a connection: the messages of the flow that the switch accepted
abbrev pub accepted_list : Scene → ℕ → Option (List (List ℕ))
accepted_list (Fixed world) connection =
    if connection == FIXED_CONNECTION
    then Some (accepted_of world.switch.modulus world.switch.taken)
    else None
accepted_list (Controlled w) connection = accepted w connection

-- the messages without numbers that the switch took on a connection
abbrev pub unnumbered_list : Scene → ℕ → Option (List (List ℕ))
unnumbered_list (Fixed world) connection =
    if connection == FIXED_CONNECTION then Some (not_of_the_flow world.switch.taken) else None
unnumbered_list (Controlled w) connection = unnumbered w connection

-- How far the flow of a connection has advanced at the switch's filter; the inner option is None
-- after a gap.
abbrev pub progress_in : Scene → ℕ → Option (Option ℕ)
progress_in (Fixed world) connection =
    if connection == FIXED_CONNECTION
    then Some (progress world.switch.modulus world.switch.taken)
    else None
progress_in (Controlled w) connection = progress_of w connection
