-- SPDX-License-Identifier: MIT OR Apache-2.0
-- The frames that a step puts, and the links to which they go, at literal values.
use Rattle.controller_model.proofs.Prelude.{◌≡◌, ℕ, ◌<◌, zero, suc, true, false, List, [], ◌∷◌, length, Result, Ok, refl, sym, ap, inl, inr, hex}
use Rattle.controller_model.proofs.Prelude.{arith, true≢false, InterfaceFault, Sccp, Message, Station, ReleaseComplete, Out}
use Rattle.controller_model.proofs.Prelude.{IsReadOf, handing, rf_channel_release, complete_layer3, relaying, release_complete, Active}
use Rattle.controller_model.proofs.Prelude.{Live, Zero, Three, slice_index, out_of, PutsOnUpLinks, IsOctetStep, IsMessage, IsSent}
use Rattle.controller_model.proofs.Prelude.{SendsMessages, Tick, Controller, new_controller, new_averages}
use Rattle.bssmap_codec.specs.declared.sccp.Sccp.TheVariants as sccp
use Rattle.conn_messages.specs.OutputsState.{IsSendable}
use Rattle.controller_model.proofs.LifeLaws.UsedRows.{channel, connection}
use Rattle.controller_model.proofs.Lives.{down, on_stream, usual_settings}
use Rattle.controller_model.proofs.OnLiterals.{on_literals}

-- ---- what arrives is of octets

of_octets : IsOctetStep (on_stream 1 0x00 (0 ∷ 255 ∷ []))
of_octets (suc zero) = omega arith
of_octets _ = omega arith

no_octet : IsOctetStep (on_stream 1 0x00 (0 ∷ 256 ∷ [])) → ⊥
no_octet octets = let high : 256 < 256 = octets 1 in omega (arith, high)

a_break_has_none : IsOctetStep (down 1)
a_break_has_none = tt

nor_has_time : IsOctetStep (Tick 5)
nor_has_time = tt

-- ---- the frame of a message

abbrev out : ℕ → ℕ → ℕ → List ℕ → Out
out to conn stream body = record { to = to; conn = conn; frame = record { stream = stream; body = body } }

-- RLC of connection 7
abbrev released : List ℕ
released = hex "05 80 00 01 00 00 07"

to_a_station : IsMessage (out 1 7 0x00 (hex "08 2e 01 41"))
unfolding on_literals
to_a_station = record { message = rf_channel_release (channel 1 0x41); put = refl; read = refl }

to_the_mobile : IsMessage (out 2 7 0x00 (hex "03 01 01 0a 02 43 0b 00 02 09 01"))
unfolding on_literals
to_the_mobile = record { message = handing (channel 2 0x0a) Three (hex "09 01"); put = refl; read = refl }

to_the_switch : IsMessage (out 0 7 0xfd (hex "06 80 00 01 00 01 05 01 00 02 05 08"))
unfolding on_literals
to_the_switch = record { message = relaying 0x800001 (channel 1 0x41) Zero (hex "05 08"); put = refl; read = (_, refl, refl) }

opens_at_the_switch : IsMessage (out_of 7 (complete_layer3 (channel 1 0x41) (hex "05 24")))
unfolding on_literals
opens_at_the_switch = record { message = complete_layer3 (channel 1 0x41) (hex "05 24"); put = refl; read = (_, refl, refl) }

releases_at_the_switch : IsMessage (out 0 7 0xfd released)
unfolding on_literals
releases_at_the_switch = record { message = release_complete 0x800001; put = refl; read = refl }

-- the connection that a message of SCCP names as its source, where it is RLC
abbrev source_of : Result Sccp InterfaceFault → ℕ
source_of (Ok (sccp.ReleaseComplete destination source)) = source
source_of _ = 0

-- RLC of connection 7 isn't a message of connection 8
names_no_other : IsMessage (out 0 8 0xfd released) → ⊥
unfolding on_literals
names_no_other is = of_message is.message is.put is.read where
  of_message : (m : Message) → out 0 8 0xfd released ≡ out_of 8 m → IsReadOf 8 m released → ⊥
  of_message (Station station m) put read = absurd (omega (arith, ap (λ (o : Out). o.frame.stream) put))
  of_message (ReleaseComplete destination) put read = absurd (omega (arith, ap source_of read))
  of_message _ put read = absurd (omega (arith, ap source_of read.1))

-- on another link, or another stream, it is no message
on_no_other_link : IsMessage (out 1 7 0xfd released) → ⊥
unfolding on_literals
on_no_other_link is = of_message is.message is.put where
  of_message : (m : Message) → out 1 7 0xfd released ≡ out_of 7 m → ⊥
  of_message (Station station m) put = absurd (omega (arith, ap (λ (o : Out). o.frame.stream) put))
  of_message _ put = absurd (omega (arith, ap (λ (o : Out). o.to) put))

on_no_other_stream : IsMessage (out 0 7 0x00 released) → ⊥
unfolding on_literals
on_no_other_stream is = of_message is.message is.put is.read where
  of_message : (m : Message) → out 0 7 0x00 released ≡ out_of 7 m → IsReadOf 7 m released → ⊥
  of_message (Station station m) put read = absurd cc
  of_message _ put read = absurd (omega (arith, ap (λ (o : Out). o.frame.stream) put))

-- ---- what is sent

a_pong : IsSent (out 2 0 0xfe (hex "01"))
a_pong = record { fits = omega arith; is = inr refl }

a_ping_is_no_message : (m : Message) → out 2 0 0xfe (hex "00") ≡ out_of 0 m → ⊥
unfolding on_literals
a_ping_is_no_message (Station station m) put = absurd (omega (arith, ap (λ (o : Out). o.frame.stream) put))
a_ping_is_no_message _ put = absurd (omega (arith, ap (λ (o : Out). o.to) put))

no_ping : IsSent (out 2 0 0xfe (hex "00")) → ⊥
no_ping sent = elim sent.is [
  | inl is ↦ a_ping_is_no_message is.message is.put
  | inr is ↦ absurd (omega (arith, ap (λ (o : Out). slice_index o.frame.body 0) is))
]

-- a body has 2,048 octets at most
fits_a_link : (o : Out) → length o.frame.body ≡ 2048 → IsSendable o
fits_a_link o long = omega (arith, long)

fits_no_link : (o : Out) → length o.frame.body ≡ 2049 → IsSent o → ⊥
fits_no_link o long sent = omega (arith, long, sent.fits)

-- ---- the frames of a step

answers_ping : SendsMessages (new_controller usual_settings) (on_stream 2 0xfe (hex "00"))
unfolding on_literals
answers_ping = (record { fits = omega arith; is = inr refl }, tt)

of_each_frame : SendsMessages (new_controller usual_settings) (on_stream 2 0xfe (hex "00")) → IsSent (out 2 0 0xfe (hex "01"))
unfolding on_literals
of_each_frame sends = sends.0

-- ---- to which links

answers_where_it_came : PutsOnUpLinks (new_controller usual_settings) (on_stream 2 0xfe (hex "00"))
unfolding on_literals
answers_where_it_came = (refl, tt)

-- a controller that never is: connection 7 serves on a channel of this station, and these links are
-- up
abbrev serving_at : ℕ → Controller
serving_at station = record (new_controller usual_settings) {
  entries = record { connection = record (connection (Live 5 Active)) { serving = channel station 0x41; draining = [] }; averages = new_averages usual_settings (channel station 0x41) } ∷ [];
  next_number = 8;
}

releases_its_channel : PutsOnUpLinks (serving_at 2) (down 0)
unfolding on_literals
releases_its_channel = (refl, (refl, tt))

not_to_a_link_that_is_down : PutsOnUpLinks (record (serving_at 2) { links = true ∷ true ∷ false ∷ [] }) (down 0) → ⊥
unfolding on_literals
not_to_a_link_that_is_down claim = true≢false (sym claim.0)

not_to_a_link_that_is_not_there : PutsOnUpLinks (serving_at 3) (down 0) → ⊥
unfolding on_literals
not_to_a_link_that_is_not_there claim = true≢false (sym claim.0)

-- it was up before the step
not_to_the_link_that_breaks : PutsOnUpLinks (serving_at 0) (down 0) → ⊥
unfolding on_literals
not_to_the_link_that_breaks claim = true≢false (sym claim.0)
