-- SPDX-License-Identifier: MIT OR Apache-2.0
-- The cases of the tables of rows: a connection before an event, the messages put, and the
-- connection after it, all literal. The octets are those of the standards; no definition produces
-- them.
use Rattle.conn_rules.proofs.Prelude.{◌≡◌, ℕ, Bool, true, false, List, [], ◌∷◌, ◌++◌, map, Option, Some, None, Channel}
use Rattle.conn_rules.proofs.Prelude.{Change, hex, Input, Connection, Drain, Down, Live, ShortMessageLink, Stage, State, Target, TenureHold}
use Rattle.conn_rules.proofs.Prelude.{HoldState, ChainState, Place, Zero, Three, Assignment, Handover}
use Rattle.conn_messages.specs.Out.{outs_of}
use Rattle.conn_rules.specs.declared.input.Input.TheVariants as inputs
use Rattle.conn_rules.specs.Steps.{Row}
use Rattle.conn_rules.specs.Table.{row_of}
use Rattle.conn_rules.proofs.Lives.{Put, put, put_of}

-- ---- rows

-- what the table makes of a connection by an input and an offer: these frames, and this connection
pub record Case : Type 0 where
  pub before : Connection
  pub input : Input
  pub offer : Option Channel
  pub puts : List Put
  pub next : Connection

-- without an offer
abbrev pub case : Connection → Input → List Put → Connection → Case
case before input puts next = record { before = before; input = input; offer = None; puts = puts; next = next }

abbrev pub offered : Channel → Connection → Input → List Put → Connection → Case
offered channel before input puts next = record { before = before; input = input; offer = Some channel; puts = puts; next = next }

pub record Done : Type 0 where
  pub puts : List Put
  pub next : Connection

abbrev pub done_of : ℕ → Option Row → Option Done
done_of number None = None
done_of number (Some r) = Some (record { puts = map put_of (outs_of number r.outs); next = r.next })

abbrev pub done_by : Case → Option Done
done_by c = done_of c.before.number (row_of c.before c.input c.offer)

abbrev pub wanted : Case → Option Done
wanted c = Some (record { puts = c.puts; next = c.next })

-- each case is as the table makes it
abbrev pub AreRows : List Case → Type 0
AreRows cases = map done_by cases ≡ map wanted cases

abbrev pub is_fit : Option Row → Bool
is_fit None = false
is_fit (Some r) = true

-- none of the inputs has a row, whatever is offered
abbrev pub NoneFit : Connection → Option Channel → List Input → Type 0
NoneFit s offer inputs = map (λ input. is_fit (row_of s input offer)) inputs ≡ map (λ input. false) inputs

-- ---- connections

abbrev pub tenure : List (List ℕ) → List (List ℕ) → TenureHold
tenure zero three = record { zero = zero; three = three }

abbrev pub empty : TenureHold
empty = tenure [] []

abbrev pub held : List (List ℕ) → List (List ℕ) → HoldState
held zero three = record { limit = 32; zero = zero; three = three }

abbrev pub held_up : List TenureHold → ChainState
held_up tenures = record { limit = 16; tenures = tenures }

abbrev pub drains : Channel → Drain
drains channel = record { channel = channel; is_done = false }

abbrev pub is_done : Channel → Drain
is_done channel = record { channel = channel; is_done = true }

abbrev pub target : Change → Channel → Target
target change channel = record { change = change; channel = channel }

-- number 1, 700 ms in its state; nothing is held, and nothing waits
abbrev pub connection : State → Channel → Connection
connection state serving = record {
  number = 1;
  request = record { access = 0x7f; frame = 0x0102 };
  delay = 5;
  state = state;
  serving = serving;
  link = Down;
  draining = [];
  down = held [] [];
  up = held_up (empty ∷ []);
  waits = false;
  waited = 700;
  drained = 0;
}

-- the switch calls it 800001
abbrev pub live : Stage → Channel → Connection
live stage serving = connection (Live 0x800001 stage) serving

abbrev pub with_texts : ShortMessageLink → List (List ℕ) → Connection → Connection
with_texts link texts s = record s { link = link; down = held s.down.zero texts }

-- in another state, whose timer is at 0
abbrev pub in_state : State → Connection → Connection
in_state state s = record s { state = state; waited = 0 }

abbrev pub in_stage : Stage → Connection → Connection
in_stage stage s = in_state (Live 0x800001 stage) s

-- holds, timers, waiting request and old channels are removed
abbrev pub ended : State → Connection → Connection
ended state s = record s {
  state = state;
  draining = [];
  down = held [] [];
  up = held_up (empty ∷ []);
  waits = false;
  waited = 0;
  drained = 0;
}

-- ---- layer 3 messages: of call control, and short messages

abbrev pub call : ℕ → List ℕ
call n = 0x03 ∷ n ∷ []

abbrev pub text : ℕ → List ℕ
text n = 0x09 ∷ n ∷ []

-- ---- frames to the switch: DT1 to 800001

-- DTAP with two octets; DLCI 00 is SAPI 0, 83 and C3 are SAPI 3 of an SDCCH and of a TCH
abbrev pub relay : ℕ → List ℕ → Put
relay dlci message = put 0 (hex "06 80 00 01 00 01 05 01" ++ dlci ∷ 2 ∷ message)

abbrev pub clear_request : ℕ → Put
clear_request cause = put 0 (hex "06 80 00 01 00 01 06 00 04 22 04 01" ++ cause ∷ [])

abbrev pub clear_complete : Put
clear_complete = put 0 (hex "06 80 00 01 00 01 03 00 01 21")

abbrev pub assignment_failure : ℕ → Put
assignment_failure cause = put 0 (hex "06 80 00 01 00 01 06 00 04 03 04 01" ++ cause ∷ [])

-- reversion to the old channel, with the mobile's cause
abbrev pub reversion : ℕ → Put
reversion cause = put 0 (hex "06 80 00 01 00 01 08 00 06 03 04 01 0a 15" ++ cause ∷ [])

-- with the mobile's cause
abbrev pub assignment_complete : ℕ → Put
assignment_complete cause = put 0 (hex "06 80 00 01 00 01 05 00 03 02 15" ++ cause ∷ [])

-- to cell 1 or 2
abbrev pub handover_performed : ℕ → Put
handover_performed cell = put 0 (hex "06 80 00 01 00 01 10 00 0e 17 04 01 0c 05 08 00 00 f1 10 00 01 00" ++ cell ∷ [])

abbrev pub sapi_n_reject : ℕ → Put
sapi_n_reject dlci = put 0 (hex "06 80 00 01 00 01 08 00 06 25 18" ++ dlci ∷ hex "04 01 25")

abbrev pub cipher_mode_reject : Put
cipher_mode_reject = put 0 (hex "06 80 00 01 00 01 06 00 04 59 04 01 40")

-- RLC to a reference that ends so
abbrev pub release_complete : ℕ → Put
release_complete last = put 0 (hex "05 80 00" ++ last ∷ hex "00 00 01")

-- ---- frames to a station, for one of its channels

-- DATA REQUEST with two octets; link 00 is SAPI 0, 03 and 43 are SAPI 3 of an SDCCH and of a TCH
abbrev pub hand : ℕ → ℕ → ℕ → List ℕ → Put
hand station channel link message = put station (hex "03 01 01" ++ channel ∷ 2 ∷ link ∷ hex "0b 00 02" ++ message)

abbrev pub establish_request : ℕ → ℕ → ℕ → Put
establish_request station channel link = put station (hex "02 04 01" ++ channel ∷ 2 ∷ link ∷ [])

-- DATA REQUEST with CHANNEL RELEASE and its cause
abbrev pub channel_release : ℕ → ℕ → ℕ → Put
channel_release station channel cause = put station (hex "03 01 01" ++ channel ∷ hex "02 00 0b 00 03 06 0d" ++ cause ∷ [])

abbrev pub rf_channel_release : ℕ → ℕ → Put
rf_channel_release station channel = put station (hex "08 2e 01" ++ channel ∷ [])

-- CHANNEL ACTIVATION of a TCH/F for an assignment
abbrev pub activation : ℕ → ℕ → Put
activation station channel = put station (hex "08 21 01" ++ channel ∷ hex "03 01 06 04 00 01 08 01")

-- ---- inputs

-- COMPLETE and FAILURE, with the mobile's cause 0
abbrev pub complete : Place → Change → Input
complete at change = inputs.Complete at change (record { 0 = 0 })

abbrev pub failure : Place → Change → Input
failure at change = inputs.Failure at change (record { 0 = 0 })

-- what arrives on a channel, but for the messages on which a channel is activated or released
abbrev pub links_on : Place → List Input
links_on at =
    inputs.EstablishIndication at Zero (Some (text 9)) ∷ inputs.EstablishIndication at Three None
    ∷ inputs.EstablishConfirm at Zero ∷ inputs.EstablishConfirm at Three
    ∷ inputs.ReleaseIndication at Zero ∷ inputs.ReleaseIndication at Three
    ∷ inputs.ErrorIndication at Zero ∷ inputs.ErrorIndication at Three ∷ inputs.ConnectionFailure at ∷ []

abbrev pub dtap_on : Place → List Input
dtap_on at = inputs.Dtap at Zero (call 9) ∷ inputs.Dtap at Three (text 9) ∷ []

abbrev pub changes_on : Place → List Input
changes_on at = complete at Assignment ∷ complete at Handover ∷ failure at Assignment ∷ failure at Handover ∷ []

abbrev pub activations_on : Place → List Input
activations_on at = inputs.ActivationAck at ∷ inputs.ActivationNack at ∷ []

-- all that can arrive on a channel
abbrev pub all_on : Place → List Input
all_on at = activations_on at ++ links_on at ++ dtap_on at ++ changes_on at ++ inputs.ReleaseAck at ∷ []

-- of the switch, but for CC, CREF, RLSD and CLEAR COMMAND
abbrev pub commands : List Input
commands =
    inputs.Downlink Zero (call 9) ∷ inputs.Downlink Three (text 9) ∷ inputs.AssignmentRequest true ∷ inputs.AssignmentRequest false
    ∷ inputs.CipherModeCommand ∷ []

abbrev pub answers : List Input
answers = inputs.ConnectionConfirm 0x800001 ∷ inputs.ConnectionConfirm 0x80000f ∷ inputs.ConnectionRefused ∷ []
