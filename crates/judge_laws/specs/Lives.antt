-- SPDX-License-Identifier: MIT OR Apache-2.0
-- In the frames of a life of the controller, in the order in which the controller took and put
-- them, a judge finds no fault of the controller.
use Rattle.std.specs.Prelude.{◌≡◌, ℕ, ◌==◌, if◌then◌else◌, List, [], ◌∷◌, ◌++◌, map, Some}
use Rattle.std.specs.List.{AllByRecursion}
use Rattle.conn_messages.specs.declared.parameters.TheConstants.{SWITCH_LINK}
use Rattle.controller_model.specs.declared.step.Step.{Step}
use Rattle.controller_model.specs.declared.step.Step.TheVariants.{Take, Tick}
use Rattle.controller_model.specs.Controller.{Controller, new_controller}
use Rattle.controller_model.specs.Life.{step}
use Rattle.controller_model.specs.LifeLaws.Sending.{IsOctetStep}
use Rattle.ipa_framing.specs.declared.frame.Frame.{Frame}
use Rattle.ipa_framing.specs.declared.streams.TheConstants.{RSL_STREAM, SCCP_STREAM}
use Rattle.ruled_relay.specs.declared.item.What.{What}
use Rattle.ruled_relay.specs.declared.item.What.TheVariants as whats
use Rattle.run_judge.specs.declared.said.Said.{Said}
use Rattle.run_judge.specs.declared.said.Way.TheVariants.{ToController}
use Rattle.run_judge.specs.Connection.{IsWithoutFault}
use Rattle.run_judge.specs.ConnectionState.{ConnectionState}
use Rattle.run_judge.specs.Judging.{Numbered, after_all, all_ended, new_judging}
use Rattle.run_judge.specs.Reading.{said_by}
use Rattle.settings.specs.Parameters.{AreAllowed, Parameters}
use Rattle.judge_laws.specs.Saying.{put_says}

-- The stream of a link's messages: SCCP for the link of the switch, RSL for the link of a station.
abbrev pub stream_of : ℕ → ℕ
stream_of link = if link == SWITCH_LINK then SCCP_STREAM else RSL_STREAM

-- What a frame that arrives on a link says. A frame of a stream other than `stream_of link`, such
-- as PING, says nothing of connections.
abbrev pub said_in : ℕ → Frame → List Said
said_in link frame =
    if frame.stream == stream_of link then said_by link ToController frame.body ∷ [] else []

abbrev pub said_by_what : ℕ → What → List Said
said_by_what link (whats.Frame frame) = said_in link frame
said_by_what link whats.Down = []

-- What the frame that a step takes says; nothing if the step takes no frame.
abbrev pub taken_says : Step → List Said
taken_says (Take item) = said_by_what item.source item.what
taken_says (Tick ms) = []

-- What the frames of a step say: first the frame that the step takes, then the frames that it puts.
abbrev pub step_says : Controller → Step → List Said
step_says c s = taken_says s ++ map put_says (step c s).outs

abbrev pub life_says : Controller → List Step → List Said
life_says c [] = []
life_says c (s ∷ ss) = step_says c s ++ life_says (step c s).next ss

-- These frames, read by a judge that knows the cell of no station, show no fault of the controller,
-- neither in a connection that the frames end nor in a connection that is open after them.
pub record IsJudgedFairly (modulus : ℕ) (frames : List Numbered) : Type 0 where
  pub ended : AllByRecursion IsWithoutFault (all_ended (new_judging modulus []) frames)
  pub remaining : (reference : ℕ) (c : ConnectionState)
      → (after_all (new_judging modulus []) frames).connections reference ≡ Some c
      → IsWithoutFault c

-- The frames of any life are judged fairly, for any numbers of the frames and any modulus of N(SD).
-- Assumes: the settings are allowed, and each body that arrives consists of octets.
abbrev pub LivesAreJudgedFairly : Type 0
LivesAreJudgedFairly = (p : Parameters) (steps : List Step) (modulus : ℕ) (frames : List Numbered)
    → AreAllowed p → AllByRecursion IsOctetStep steps
    → map (λ n. n.said) frames ≡ life_says (new_controller p) steps
    → IsJudgedFairly modulus frames
