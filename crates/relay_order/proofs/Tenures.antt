-- SPDX-License-Identifier: MIT OR Apache-2.0
-- The connections for which channels were activated, by the frames that a controller puts; and the
-- reading of such a frame.
use Rattle.std.proofs.Common.{◌≡◌, ℕ, ◌==◌, ◌≤◌, ◌&&◌, Bool, true, false, if◌then◌else◌, List, [], ◌∷◌, slice_index_or, Option, Some, None, refl, sym, ap, ◌∙◌, inl, inr}
use Rattle.std.specs.Result.{result_ok}
use Rattle.conn_messages.specs.declared.channel.Place.{Place}
use Rattle.conn_messages.specs.declared.message.Message.{Message}
use Rattle.conn_messages.specs.declared.message.Message.TheVariants.{Station}
use Rattle.conn_messages.specs.declared.out.Out.{Out}
use Rattle.conn_messages.specs.Out.{IsReadOf, out_of}
use Rattle.controller_model.specs.LifeLaws.Sending.{IsSent}
use Rattle.controller_model.proofs.LifeLaws.Acting.{conn_of}
use Rattle.controller_model.proofs.LifeLaws.SeenFrames.{apart}
use Rattle.rsl_codec.specs.declared.rsl.Rsl.{Rsl}
use Rattle.rsl_codec.specs.declared.rsl.Rsl.TheVariants as rsl
use Rattle.rsl_codec.specs.RslReading.{rsl_reading}
use Rattle.rsl_codec.specs.RslText.{rsl_element_text, rsl_text}
use Rattle.world_model.specs.Stations.{rsl_in}

-- ---- frames

-- the connections for which CHANNEL ACTIVATION was put, place by place, the last one first
abbrev pub Activated : Type 0
Activated = Place → List ℕ

abbrev pub none_activated : Activated
none_activated at = []

-- the channel that is to be activated
abbrev pub activation_in : Option Rsl → Option ℕ
activation_in (Some (rsl.ChannelActivation a)) = Some a.channel
activation_in _ = None

-- the channel on which something is handed
abbrev pub request_in : Option Rsl → Option ℕ
request_in (Some (rsl.DataRequest d)) = Some d.channel
request_in _ = None

abbrev pub is_number : ℕ → Option ℕ → Bool
is_number number None = false
is_number number (Some channel) = channel == number

unfoldable pub activates : Place → Out → Bool
activates at out = (out.to == at.station) && is_number at.number (activation_in (rsl_in out.frame))

unfoldable pub requests : Place → Out → Bool
requests at out = (out.to == at.station) && is_number at.number (request_in (rsl_in out.frame))

abbrev pub after_out : Activated → Out → Activated
after_out activated out at = if activates at out then out.conn ∷ activated at else activated at

-- the connection for which the last tenure so far began
abbrev pub latest : List ℕ → Option ℕ
latest [] = None
latest (n ∷ ns) = Some n

-- where a frame hands something on a channel, the channel was last activated for its connection
pub record IsOwned (activated : Activated) (out : Out) : Type 0 where
  pub each : (at : Place) → requests at out ≡ true → (latest (activated at) ≡ Some out.conn) × (1 ≤ out.conn)

-- each of them
abbrev pub AreOwned : Activated → List Out → Type 0
AreOwned activated [] = Unit {0}
AreOwned activated (out ∷ outs) = IsOwned activated out × AreOwned (after_out activated out) outs

-- ---- messages

abbrev pub takes : Place → Message → Bool
takes at (Station station x) = (station == at.station) && is_number at.number (activation_in (Some x))
takes at _ = false

abbrev pub hands : Place → Message → Bool
hands at (Station station x) = (station == at.station) && is_number at.number (request_in (Some x))
hands at _ = false

-- ---- what the frame of a message is read as

-- the channel of a text with this discriminator and this type
abbrev text_number : ℕ → ℕ → List ℕ → Option ℕ
text_number discriminator kind text =
    if (slice_index_or text 0 0 == discriminator) && (slice_index_or text 1 0 == kind) then Some (slice_index_or text 3 0) else None

activation_text : (x : Rsl) → activation_in (Some x) ≡ text_number 8 0x21 (rsl_text x)
unfolding rsl_element_text
activation_text (rsl.ChannelActivation a) = refl
activation_text _ = refl

request_text : (x : Rsl) → request_in (Some x) ≡ text_number 3 1 (rsl_text x)
unfolding rsl_element_text
request_text (rsl.DataRequest d) = refl
request_text _ = refl

read_by : (f : Option Rsl → Option ℕ) (text : List ℕ → Option ℕ) →
    ((x : Rsl) → f (Some x) ≡ text (rsl_text x)) →
    (n station : ℕ) (x : Rsl) (m : Message) →
    out_of n (Station station x) ≡ out_of n m →
    IsReadOf n m (rsl_text x) →
    f (result_ok (rsl_reading (rsl_text x))) ≡ f (Some x)
unfolding out_of
read_by f text is n station x (Station station' x') same read =
    ap (λ r. f (result_ok r)) read ∙ is x' ∙ sym (ap (λ (o : Out). text o.frame.body) same) ∙ sym (is x)
read_by f text is n station x _ same read = absurd (apart 0 0xfd refl (ap (λ (o : Out). o.frame.stream) same))

read_number : (f : Option Rsl → Option ℕ) (text : List ℕ → Option ℕ) →
    ((x : Rsl) → f (Some x) ≡ text (rsl_text x)) →
    (n station : ℕ) (x : Rsl) →
    IsSent (out_of n (Station station x)) →
    f (rsl_in (out_of n (Station station x)).frame) ≡ f (Some x)
unfolding out_of
read_number f text is n station x sent = elim sent.is [
  | inl message ↦ read_by f text is n station x message.message message.put message.read
  | inr pong_is ↦ absurd (apart 0 0xfe refl (ap (λ (o : Out). o.frame.stream) pong_is))
]

pub and_none : (b : Bool) → (b && false) ≡ false
and_none true = refl
and_none false = refl

pub activates_is : (n : ℕ) (m : Message) (at : Place) → IsSent (out_of n m) → activates at (out_of n m) ≡ takes at m
unfolding activates out_of
activates_is n (Station station x) at sent = ap (λ (o : Option ℕ). (station == at.station) && is_number at.number o) (read_number activation_in (text_number 8 0x21) activation_text n station x sent)
activates_is n m at sent = and_none (0 == at.station)

pub requests_is : (n : ℕ) (m : Message) (at : Place) → IsSent (out_of n m) → requests at (out_of n m) ≡ hands at m
unfolding requests out_of
requests_is n (Station station x) at sent = ap (λ (o : Option ℕ). (station == at.station) && is_number at.number o) (read_number request_in (text_number 3 1) request_text n station x sent)
requests_is n m at sent = and_none (0 == at.station)

-- the connections, after the frame of a message
pub after_message : (activated : Activated) (n : ℕ) (m : Message) (at : Place) →
    IsSent (out_of n m) →
    after_out activated (out_of n m) at ≡ (if takes at m then n ∷ activated at else activated at)
after_message activated n m at sent =
    ap (λ (b : Bool). if b then (out_of n m).conn ∷ activated at else activated at) (activates_is n m at sent)
    ∙ ap (λ (k : ℕ). if takes at m then k ∷ activated at else activated at) (conn_of n m)
