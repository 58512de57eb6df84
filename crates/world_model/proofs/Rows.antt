-- SPDX-License-Identifier: MIT OR Apache-2.0
-- A mobile opens a connection.
use Rattle.world_model.proofs.Prelude.{◌≡◌, ℕ, true, [], ◌∷◌, map, Some, None, refl, usual_settings, Zero, Active, Live, eager_settings}
use Rattle.world_model.proofs.Prelude.{state_of, Upper, Connect, AirUp, AirAck, BaseTakes, BasePush, Handle, SwitchTakes, World, new_world}
use Rattle.octets.proofs.Hex.{hex}
use Rattle.world_model.specs.Lists.{behind_first, first_in}
use Rattle.world_model.specs.Views.{sent, received, taken, accepted, unnumbered}
use Rattle.world_model.proofs.Worlds.{on_literals, after_all, bodies}

-- what the opening makes of two cells
abbrev pub opened : World
opened = after_all (new_world usual_settings) (Connect 1 1 (hex "05 24 71") true ∷ BasePush 1 ∷ Handle ∷ BaseTakes 1 ∷ BasePush 1 ∷ Handle ∷ BaseTakes 1 ∷ AirUp 1 Zero ∷ BasePush 1 ∷ Handle ∷ SwitchTakes ∷ AirAck 1 Zero ∷ BasePush 0 ∷ Handle ∷ [])

opening_sent : sent (opened).actors 1 ≡ Some ((hex "05 24 71") ∷ [])
unfolding on_literals
opening_sent = refl

opening_received : received (opened).actors 1 ≡ Some ([])
unfolding on_literals
opening_received = refl

opening_taken : taken (opened).actors 1 ≡ Some ((hex "05 24 71") ∷ [])
unfolding on_literals
opening_taken = refl

opening_accepted : accepted (opened).actors 1 ≡ Some ((hex "05 24 71") ∷ [])
unfolding on_literals
opening_accepted = refl

opening_unnumbered : unnumbered (opened).actors 1 ≡ Some ([])
unfolding on_literals
opening_unnumbered = refl

opening_not_taken : (opened).not_taken ≡ 0
unfolding on_literals
opening_not_taken = refl

opening_serves : state_of (opened).actors.controller 1 ≡ Some (Live 0x800001 Active)
unfolding on_literals
opening_serves = refl

no_other_mobile : sent (opened).actors 2 ≡ None
unfolding on_literals
no_other_mobile = refl

no_other_connection : taken (opened).actors 2 ≡ None
unfolding on_literals
no_other_connection = refl

no_connection_before_it : taken (opened).actors 0 ≡ None
unfolding on_literals
no_connection_before_it = refl

-- where each report decides
abbrev pub opened_eager : World
opened_eager = after_all (new_world eager_settings) (Connect 1 1 (hex "05 24 71") true ∷ BasePush 1 ∷ Handle ∷ BaseTakes 1 ∷ BasePush 1 ∷ Handle ∷ BaseTakes 1 ∷ AirUp 1 Zero ∷ BasePush 1 ∷ Handle ∷ SwitchTakes ∷ AirAck 1 Zero ∷ BasePush 0 ∷ Handle ∷ [])

-- a PAGING RESPONSE begins, which carries no number
abbrev pub answered_paging : World
answered_paging = after_all (new_world usual_settings) (Connect 1 1 (hex "06 27 71") true ∷ BasePush 1 ∷ Handle ∷ BaseTakes 1 ∷ BasePush 1 ∷ Handle ∷ BaseTakes 1 ∷ AirUp 1 Zero ∷ BasePush 1 ∷ Handle ∷ SwitchTakes ∷ AirAck 1 Zero ∷ BasePush 0 ∷ Handle ∷ Upper 1 Zero (hex "03 05") ∷ AirUp 1 Zero ∷ BasePush 1 ∷ Handle ∷ SwitchTakes ∷ [])

paging_sent : sent (answered_paging).actors 1 ≡ Some ((hex "03 05") ∷ [])
unfolding on_literals
paging_sent = refl

paging_taken : taken (answered_paging).actors 1 ≡ Some ((hex "06 27 71") ∷ (hex "03 05") ∷ [])
unfolding on_literals
paging_taken = refl

paging_accepted : accepted (answered_paging).actors 1 ≡ Some ((hex "03 05") ∷ [])
unfolding on_literals
paging_accepted = refl

paging_unnumbered : unnumbered (answered_paging).actors 1 ≡ Some ((hex "06 27 71") ∷ [])
unfolding on_literals
paging_unnumbered = refl

paging_not_taken : (answered_paging).not_taken ≡ 0
unfolding on_literals
paging_not_taken = refl

activation_waits : bodies (after_all (new_world usual_settings) (Connect 1 1 (hex "05 24 71") true ∷ BasePush 1 ∷ Handle ∷ [])) 1 ≡ (hex "08 21 01 41 03 00 06 04 00 03 01 00") ∷ []
unfolding on_literals
activation_waits = refl

assignment_waits : bodies (after_all (new_world usual_settings) (Connect 1 1 (hex "05 24 71") true ∷ BasePush 1 ∷ Handle ∷ BaseTakes 1 ∷ BasePush 1 ∷ Handle ∷ [])) 1 ≡ (hex "0c 16 01 90 2b 17 2d 06 3f 00 41 20 14 01 00 00 00 00 2b 2b 2b 2b 2b 2b 2b 2b 2b 2b 2b") ∷ []
unfolding on_literals
assignment_waits = refl

request_waits : bodies (after_all (new_world usual_settings) (Connect 1 1 (hex "05 24 71") true ∷ BasePush 1 ∷ Handle ∷ BaseTakes 1 ∷ BasePush 1 ∷ Handle ∷ BaseTakes 1 ∷ AirUp 1 Zero ∷ BasePush 1 ∷ Handle ∷ [])) 0 ≡ (hex "01 00 00 01 02 02 04 02 42 fe 0f 12 00 10 57 05 08 00 00 f1 10 00 01 00 01 17 03 05 24 71 00") ∷ []
unfolding on_literals
request_waits = refl

-- ---- the first of a list, and what is behind it

first_is : map (first_in {X = ℕ}) ([] ∷ (7 ∷ []) ∷ (7 ∷ 8 ∷ 9 ∷ []) ∷ []) ≡ None ∷ Some 7 ∷ Some 7 ∷ []
first_is = refl

behind_is : map (behind_first {X = ℕ}) ([] ∷ (7 ∷ []) ∷ (7 ∷ 8 ∷ 9 ∷ []) ∷ []) ≡ [] ∷ [] ∷ (8 ∷ 9 ∷ []) ∷ []
behind_is = refl
