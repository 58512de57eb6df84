-- SPDX-License-Identifier: MIT OR Apache-2.0
-- The definitions at literal values.
use Rattle.controller_model.proofs.Prelude.{inl, inr, ◌≡◌, ℕ, true, false, List, [], ◌∷◌, set, codes, refl, Management, hex}
use Rattle.controller_model.proofs.Prelude.{CompleteLayer3Information, Channel, Message, Request, Data, channel_release, handing, Zero}
use Rattle.controller_model.proofs.Prelude.{Three, Parameters, SapiNReject, brought_in, nothing, of_frame, breaks, passes, IsPart, switched}
use Rattle.controller_model.proofs.Prelude.{Moment, outs_for, InUse, Releasing, Step, Take, Tick, Controller, free_channels, new_controller}
use Rattle.conn_rules.specs.declared.input.Input.TheVariants as inputs
use Rattle.controller_model.proofs.LifeLaws.OnLiterals.{on_literals}
use Rattle.ruled_relay.specs.declared.item.What.TheVariants as whats

-- ---- what arrives

from_switch : List ℕ → Step
from_switch body = Take (record { source = 0; what = whats.Frame (record { stream = 0xfd; body = body }) })

from_station : ℕ → List ℕ → Step
from_station station body = Take (record { source = station; what = whats.Frame (record { stream = 0x00; body = body }) })

abbrev moment : Step → List Message → Moment
moment s put = record { taken = s; messages = put }

serving : Channel
serving = record { station = 1; number = 0x41; cell = []; description = record { arfcn = 20; ncc = 1; bcc = 1 }; reference = record { 0 = 0 } }

-- DT1 with DTAP of connection 1 and of connection 2, on SAPI 0 and 3; CC of connection 1
zero_1 : List ℕ → Step
zero_1 octets = from_switch (0x06 ∷ 0x00 ∷ 0x00 ∷ 0x01 ∷ 0x00 ∷ 0x01 ∷ 0x05 ∷ 0x01 ∷ 0x00 ∷ 0x02 ∷ octets)

zero_2 : List ℕ → Step
zero_2 octets = from_switch (0x06 ∷ 0x00 ∷ 0x00 ∷ 0x02 ∷ 0x00 ∷ 0x01 ∷ 0x05 ∷ 0x01 ∷ 0x00 ∷ 0x02 ∷ octets)

three_1 : List ℕ → Step
three_1 octets = from_switch (0x06 ∷ 0x00 ∷ 0x00 ∷ 0x01 ∷ 0x00 ∷ 0x01 ∷ 0x05 ∷ 0x01 ∷ 0x83 ∷ 0x02 ∷ octets)

confirm_1 : Step
confirm_1 = from_switch (hex "02 00 00 01 80 00 01 02 00")

request : Message
request = Request (Management (CompleteLayer3Information (record { 0 = [] }) (hex "05 24")))

reject : Message
reject = Data 0x800001 (Management (SapiNReject (record { 0 = 0x83 }) (record { 0 = hex "25" })))

-- ---- the switch's messages

-- before CC, of another connection, of another SAPI, or of radio resource management they don't
-- count
of_sapi_0 : switched 1 Zero
    (moment (zero_1 (hex "05 01")) []
    ∷ moment (Tick 1) (request ∷ [])
    ∷ moment (zero_1 (hex "05 02")) []
    ∷ moment confirm_1 []
    ∷ moment (zero_1 (hex "05 03")) (handing serving Zero (hex "05 03") ∷ [])
    ∷ moment (zero_2 (hex "05 04")) []
    ∷ moment (three_1 (hex "09 05")) []
    ∷ moment (zero_1 (hex "06 06")) (channel_release serving 0 ∷ [])
    ∷ moment (zero_1 (hex "03 07")) [] ∷ [])
    ≡ record {
      requested = true;
      confirmed = true;
      arrived = hex "05 03" ∷ hex "03 07" ∷ [];
      received = hex "05 03" ∷ hex "03 07" ∷ [];
      handed = hex "05 03" ∷ [];
    }
unfolding on_literals zero_1 zero_2 three_1 confirm_1 from_switch request serving
of_sapi_0 = refl

-- CC counts after CR alone
confirmed_too_soon : switched 1 Zero (moment confirm_1 [] ∷ moment (Tick 1) (request ∷ []) ∷ moment (zero_1 (hex "05 02")) [] ∷ [])
    ≡ record { requested = true; confirmed = false; arrived = []; received = []; handed = [] }
unfolding on_literals zero_1 confirm_1 from_switch request
confirmed_too_soon = refl

-- what wasn't handed is rejected, on SAPI 3
rejected : switched 1 Three
    (moment (Tick 1) (request ∷ []) ∷ moment confirm_1 []
    ∷ moment (three_1 (hex "09 01")) (handing serving Three (hex "09 01") ∷ [])
    ∷ moment (three_1 (hex "09 02")) []
    ∷ moment (Tick 2) (reject ∷ [])
    ∷ moment (three_1 (hex "09 03")) [] ∷ [])
    ≡ record {
      requested = true;
      confirmed = true;
      arrived = hex "09 01" ∷ hex "09 02" ∷ hex "09 03" ∷ [];
      received = hex "09 01" ∷ hex "09 03" ∷ [];
      handed = hex "09 01" ∷ [];
    }
unfolding on_literals three_1 confirm_1 from_switch request reject serving
rejected = refl

not_rejected : switched 1 Zero (moment (Tick 1) (request ∷ []) ∷ moment confirm_1 [] ∷ moment (zero_1 (hex "05 02")) []
    ∷ moment (Tick 2) (reject ∷ []) ∷ [])
    ≡ record { requested = true; confirmed = true; arrived = hex "05 02" ∷ []; received = hex "05 02" ∷ []; handed = [] }
unfolding on_literals zero_1 confirm_1 from_switch request reject
not_rejected = refl

-- what is handed with the reject itself is none of what is left
handed_with_reject : (switched 1 Three
    (moment (Tick 1) (request ∷ []) ∷ moment confirm_1 []
    ∷ moment (three_1 (hex "09 01")) []
    ∷ moment (Tick 2) (handing serving Three (hex "09 01") ∷ reject ∷ []) ∷ [])).received ≡ []
unfolding on_literals three_1 confirm_1 from_switch request reject serving
handed_with_reject = refl

-- ---- some of a list, in its order

one : List ℕ
one = hex "05 01"

two : List ℕ
two = hex "05 02"

three : List ℕ
three = hex "05 03"

none_of_all : IsPart [] (one ∷ [])
none_of_all = tt

first_and_third : IsPart (one ∷ three ∷ []) (one ∷ two ∷ three ∷ [])
first_and_third = inl (refl, inr (inl (refl, tt)))

twice_where_it_came_twice : IsPart (one ∷ one ∷ []) (one ∷ two ∷ one ∷ [])
twice_where_it_came_twice = inl (refl, inr (inl (refl, tt)))

not_twice : IsPart (one ∷ one ∷ []) (one ∷ two ∷ []) → ⊥
unfolding one two
not_twice (inl first) = by first.1 where
  by : IsPart (one ∷ []) (two ∷ []) → ⊥
  by (inl same) = absurd (cc same.0)
  by (inr none) = none
not_twice (inr (inl same)) = absurd (cc same.0)
not_twice (inr (inr none)) = none

not_overtaken : IsPart (two ∷ one ∷ []) (one ∷ two ∷ []) → ⊥
unfolding one two
not_overtaken (inl same) = absurd (cc same.0)
not_overtaken (inr (inl first)) = first.1
not_overtaken (inr (inr none)) = none

not_what_never_came : IsPart (three ∷ []) (one ∷ []) → ⊥
unfolding one three
not_what_never_came (inl same) = absurd (cc same.0)
not_what_never_came (inr none) = none

-- ---- what a step brings

settings : Parameters
settings = record {
  network = record { mcc = codes "001"; mnc = codes "01"; release98 = false };
  switch_address = codes "a";
  timers = record { t3101_ms = 3000; t3103_ms = 5000; t3107_ms = 5000; drain_ms = 2000 };
  handover = record { rxlev_window = 10; rxqual_window = 1; neighbour_window = 10; interval = 6; hysteresis = 3 };
  cells = record { listen = codes "b"; location_area_code = 1; cell_identity = 1; arfcn = 20; bsic = record { ncc = 1; bcc = 1 }; channels = hex "41 0a" } ∷ [];
}

-- 41 is in use by connection 7, 0A releasing by it
busy : Controller
busy = record (new_controller settings) { channels = free_channels ∷ set (set free_channels 0x41 (InUse 7)) 0x0a (Releasing 7) ∷ [] }

to_its_connection : brought_in busy 7 (from_station 1 (hex "03 02 01 41 02 00 0b 00 02 03 45"))
    ≡ of_frame (inputs.Dtap (record { station = 1; number = 0x41 }) Zero (hex "03 45"))
unfolding on_literals busy from_station settings
to_its_connection = refl

acknowledged : brought_in busy 7 (from_station 1 (hex "08 33 01 0a")) ≡ of_frame (inputs.ReleaseAck (record { station = 1; number = 0x0a }))
unfolding on_literals busy from_station settings
acknowledged = refl

to_no_other : brought_in busy 8 (from_station 1 (hex "08 33 01 0a")) ≡ nothing
unfolding on_literals busy from_station settings
to_no_other = refl

to_nobody_on_a_free_channel : brought_in busy 7 (from_station 1 (hex "08 33 01 49")) ≡ nothing
unfolding on_literals busy from_station settings
to_nobody_on_a_free_channel = refl

confirmed : brought_in busy 1 confirm_1 ≡ of_frame (inputs.ConnectionConfirm 0x800001)
unfolding on_literals busy confirm_1 from_switch settings
confirmed = refl

nothing_of_a_link_that_is_down : brought_in (record busy { links = false ∷ true ∷ [] }) 1 confirm_1 ≡ nothing
unfolding on_literals busy confirm_1 from_switch settings
nothing_of_a_link_that_is_down = refl

station_breaks : brought_in busy 1 (Take (record { source = 1; what = whats.Down })) ≡ breaks (inputs.StationDown 1)
unfolding on_literals busy settings
station_breaks = refl

switch_breaks : brought_in busy 1 (Take (record { source = 0; what = whats.Down })) ≡ breaks inputs.SwitchDown
unfolding on_literals busy settings
switch_breaks = refl

time_passes : brought_in busy 1 (Tick 5) ≡ passes
time_passes = refl

-- ---- frames of a connection

of_connection_2 : outs_for 2
    (record { to = 0; conn = 1; frame = record { stream = 0xfd; body = 1 ∷ [] } }
    ∷ record { to = 1; conn = 2; frame = record { stream = 0x00; body = 2 ∷ [] } }
    ∷ record { to = 0; conn = 0; frame = record { stream = 0xfe; body = 1 ∷ [] } } ∷ [])
    ≡ record { to = 1; conn = 2; frame = record { stream = 0x00; body = 2 ∷ [] } } ∷ []
of_connection_2 = refl
