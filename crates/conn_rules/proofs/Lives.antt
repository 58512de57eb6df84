-- SPDX-License-Identifier: MIT OR Apache-2.0
-- Literal parts of the rows: lives of a connection with number 1 over cells 1 and 2.
use Rattle.conn_rules.proofs.Prelude.{ℕ, true, List, [], ◌∷◌, map, Option, Some, None, Assignment, Handover, Channel, Place, Zero, hex}
use Rattle.conn_rules.proofs.Prelude.{Input, Connection, new_connection}
use Rattle.conn_messages.specs.declared.out.Out.{Out}
use Rattle.conn_messages.specs.Out.{outs_of}
use Rattle.conn_rules.specs.declared.input.Input.TheVariants as inputs
use Rattle.conn_rules.specs.Steps.{Row}
use Rattle.conn_rules.specs.Table.{row_of}

-- ---- lives

-- a frame's link and body
pub record Put : Type 0 where
  pub link : ℕ
  pub body : List ℕ

abbrev pub put : ℕ → List ℕ → Put
put link body = record { link = link; body = body }

abbrev pub put_of : Out → Put
put_of out = put out.to out.frame.body

-- an input, and what is offered to a change that begins with it
pub record Turn : Type 0 where
  pub input : Input
  pub offer : Option Channel

abbrev pub turn : Input → Option Channel → Turn
turn input offer = record { input = input; offer = offer }

abbrev pub puts_of : Option Row → Option (List Put)
puts_of None = None
puts_of (Some r) = Some (map put_of (outs_of 1 r.outs))

abbrev pub next_of : Connection → Option Row → Connection
next_of s None = s
next_of s (Some r) = r.next

-- what each turn puts; None where no row fits
abbrev pub played : Connection → List Turn → List (Option (List Put))
played s [] = []
played s (t ∷ ts) = puts_of (row_of s t.input t.offer) ∷ played (next_of s (row_of s t.input t.offer)) ts

abbrev pub after : Connection → List Turn → Connection
after s [] = s
after s (t ∷ ts) = after (next_of s (row_of s t.input t.offer)) ts

-- ---- two cells

abbrev pub cell_1 : ℕ → Channel
cell_1 number = record {
  station = 1;
  number = number;
  cell = hex "00 00 f1 10 00 01 00 01";
  description = record { arfcn = 20; ncc = 1; bcc = 1 };
  reference = record { 0 = 0 };
}

abbrev pub cell_2 : ℕ → Channel
cell_2 number = record {
  station = 2;
  number = number;
  cell = hex "00 00 f1 10 00 01 00 02";
  description = record { arfcn = 30; ncc = 2; bcc = 2 };
  reference = record { 0 = 0 };
}

-- with the reference of the second handover
abbrev pub again : Channel → Channel
again channel = record channel { reference = record { 0 = 1 } }

abbrev pub on_1 : ℕ → Place
on_1 number = record { station = 1; number = number }

abbrev pub on_2 : ℕ → Place
on_2 number = record { station = 2; number = number }

abbrev pub request : Input
request = inputs.AssignmentRequest true

-- ---- states on the way

abbrev pub fresh : Connection
fresh = new_connection 1 (cell_1 0x41) (record { access = 0x7f; frame = 0x0102 }) 5

abbrev pub active : Connection
active = after fresh (turn (inputs.ActivationAck (on_1 0x41)) None
    ∷ turn (inputs.EstablishIndication (on_1 0x41) Zero (Some (hex "05 24 71"))) None
    ∷ turn (inputs.ConnectionConfirm 0x800001) None ∷ [])

abbrev pub unconfirmed : Connection
unconfirmed = after fresh (turn (inputs.ActivationAck (on_1 0x41)) None
    ∷ turn (inputs.EstablishIndication (on_1 0x41) Zero (Some (hex "05 24 71"))) None ∷ [])

abbrev pub preparing : Connection
preparing = after active (turn request (Some (cell_1 0x0a)) ∷ [])

abbrev pub changing : Connection
changing = after active (turn request (Some (cell_1 0x0a)) ∷ turn (inputs.ActivationAck (on_1 0x0a)) None ∷ [])

abbrev pub handing_over : Connection
handing_over = after active (turn inputs.Move (Some (cell_2 0x41)) ∷ turn (inputs.ActivationAck (on_2 0x41)) None ∷ [])

abbrev pub handed_over : Connection
handed_over = after handing_over (turn (inputs.Complete (on_2 0x41) Handover (record { 0 = 0 })) None ∷ [])

abbrev pub two_drain : Connection
two_drain = after handed_over (turn inputs.Move (Some (again (cell_1 0x49))) ∷ turn (inputs.ActivationAck (on_1 0x49)) None ∷ turn (inputs.Complete (on_1 0x49) Handover (record { 0 = 0 })) None ∷ [])

abbrev pub three_drain : Connection
three_drain = after two_drain (turn request (Some (cell_1 0x0a)) ∷ turn (inputs.ActivationAck (on_1 0x0a)) None ∷ turn (inputs.Complete (on_1 0x0a) Assignment (record { 0 = 0 })) None ∷ [])
