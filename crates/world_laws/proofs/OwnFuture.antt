-- SPDX-License-Identifier: MIT OR Apache-2.0
-- What may still arrive of a connection's messages, by what is on its way up before its input is
-- taken, and after it.
use Rattle.world_laws.proofs.Prelude.{◌≡◌, ℕ, ◌||◌, not, Bool, true, false, if◌then◌else◌, List, [], ◌∷◌, ◌++◌, Some, refl, sym, ap, ◌∙◌}
use Rattle.world_laws.proofs.Prelude.{cond-true, cond-false, filter-append, Place, Input, Future, from_input, Zero, is_control}
use Rattle.world_laws.proofs.Prelude.{without_control, same_place, messages_in, released, is_ended, texts_of}
use Rattle.conn_rules.specs.declared.input.Input.TheVariants as inputs
use Rattle.world_laws.specs.LineUp.Places.{Item}
use Rattle.world_laws.specs.LineUp.Places.Item.{brought}
use Rattle.world_laws.proofs.LineUp.Lines.{messages_in-append}
use Rattle.world_laws.specs.OwnItem.{said_by, IsRead}

-- ---- what an input brings

pub texts_append : (xs ys : List Item) → texts_of (xs ++ ys) ≡ texts_of xs ++ texts_of ys
texts_append xs ys = ap without_control (messages_in-append xs ys) ∙ filter-append (λ message. not (is_control message)) (messages_in xs) (messages_in ys)

pub ended_append : (xs ys : List Item) → is_ended (xs ++ ys) ≡ is_ended xs || is_ended ys
ended_append (brought message ∷ xs) ys = ended_append xs ys
ended_append _ ys = refl

text_remains : (message : List ℕ) → is_control message ≡ false → texts_of (brought message ∷ []) ≡ message ∷ []
text_remains message is = cond-true (not (is_control message)) (message ∷ []) [] (ap not is)

control_has_no_text : (message : List ℕ) → is_control message ≡ true → texts_of (brought message ∷ []) ≡ []
control_has_no_text message is = cond-false (not (is_control message)) (message ∷ []) [] (ap not is)

-- what may arrive from an input on: what it brings, and then what may arrive
pub from_said : (input : Input) (text : List ℕ) (future : Future) (place : Place) →
    IsRead input text →
    from_input Zero input future place ≡ texts_of (said_by input text place) ++ future place
from_said (inputs.Dtap at Zero message) text future place read = by (same_place place at) where
  by : (b : Bool) → (if b then message ∷ future place else future place) ≡ texts_of (if b then brought message ∷ [] else []) ++ future place
  by true = ap (λ (xs : List (List ℕ)). xs ++ future place) (sym (text_remains message read))
  by false = refl
from_said (inputs.EstablishIndication at Zero (Some initial)) text future place read = by (same_place place at) where
  by : (b : Bool) → (if b then initial ∷ future place else future place) ≡ texts_of (if b then brought initial ∷ [] else []) ++ future place
  by true = ap (λ (xs : List (List ℕ)). xs ++ future place) (sym (text_remains initial read))
  by false = refl
from_said (inputs.Complete at change cause) text future place read = by (same_place place at) where
  by : (b : Bool) → future place ≡ texts_of (if b then brought text ∷ [] else []) ++ future place
  by true = ap (λ (xs : List (List ℕ)). xs ++ future place) (sym (control_has_no_text text read))
  by false = refl
from_said (inputs.Failure at change cause) text future place read = by (same_place place at) where
  by : (b : Bool) → future place ≡ texts_of (if b then brought text ∷ [] else []) ++ future place
  by true = ap (λ (xs : List (List ℕ)). xs ++ future place) (sym (control_has_no_text text read))
  by false = refl
from_said (inputs.ReleaseAck at) text future place read = by (same_place place at) where
  by : (b : Bool) → future place ≡ texts_of (if b then released ∷ [] else []) ++ future place
  by true = refl
  by false = refl
from_said _ text future place read = refl

-- an end is an RF CHANNEL RELEASE ACK alone
pub ended_said : (input : Input) (text : List ℕ) (place : Place) →
    is_ended (said_by input text place) ≡ true →
    said_by input text place ≡ released ∷ []
ended_said (inputs.Dtap at Zero message) text place is = by (same_place place at) is where
  by : (b : Bool) → is_ended (if b then brought message ∷ [] else []) ≡ true → (if b then brought message ∷ [] else []) ≡ released ∷ []
  by true is = absurd cc
  by false is = absurd cc
ended_said (inputs.EstablishIndication at Zero (Some initial)) text place is = by (same_place place at) is where
  by : (b : Bool) → is_ended (if b then brought initial ∷ [] else []) ≡ true → (if b then brought initial ∷ [] else []) ≡ released ∷ []
  by true is = absurd cc
  by false is = absurd cc
ended_said (inputs.Complete at change cause) text place is = by (same_place place at) is where
  by : (b : Bool) → is_ended (if b then brought text ∷ [] else []) ≡ true → (if b then brought text ∷ [] else []) ≡ released ∷ []
  by true is = absurd cc
  by false is = absurd cc
ended_said (inputs.Failure at change cause) text place is = by (same_place place at) is where
  by : (b : Bool) → is_ended (if b then brought text ∷ [] else []) ≡ true → (if b then brought text ∷ [] else []) ≡ released ∷ []
  by true is = absurd cc
  by false is = absurd cc
ended_said (inputs.ReleaseAck at) text place is = by (same_place place at) is where
  by : (b : Bool) → is_ended (if b then released ∷ [] else []) ≡ true → (if b then released ∷ [] else []) ≡ released ∷ []
  by true is = refl
  by false is = absurd cc
ended_said _ text place is = absurd cc
