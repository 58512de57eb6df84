-- SPDX-License-Identifier: MIT OR Apache-2.0
-- Activations, releases and assignments, and the texts that carry them.
use Rattle.world_laws.proofs.Prelude.{◌≡◌, ◌≢◌, ℕ, ◌==◌, ◌&&◌, ◌≤◌, Bool, true, false, if◌then◌else◌, List, drop, slice_index_or, Some}
use Rattle.world_laws.proofs.Prelude.{None, Ok, refl, sym, ap, ◌∙◌, subst, inl, inr, arith, true≢false, cases_Bool, eqb-true, eq-eqb}
use Rattle.world_laws.proofs.Prelude.{result_ok, Place, Message, Station, Request, Data, ReleaseComplete, Out, SWITCH_LINK, IsReadOf}
use Rattle.world_laws.proofs.Prelude.{IsSent, Avoids, Activation, DataMessage, Rsl, rsl_reading, rsl_text, Passes, said_to, rsl_in}
use Rattle.std.proofs.Common.{append-nil}
use Rattle.conn_messages.specs.Out.{out_of}
use Rattle.controller_model.proofs.LifeLaws.SeenFrames.{apart}
use Rattle.rsl_codec.specs.declared.common_channel.ImmediateAssignment.{ImmediateAssignment as Assignment}
use Rattle.rsl_codec.specs.declared.rsl.Rsl.TheVariants as rsl
use Rattle.rsl_codec.specs.RslText.{rsl_element_text}
use Rattle.rsl_codec.specs.RslType.{rsl_discriminator, rsl_octet, type_of}

-- ---- messages of a kind, by the first two octets of their texts

is_of_kind : ℕ → ℕ → Rsl → Bool
is_of_kind discriminator octet x = (rsl_discriminator (type_of x) == discriminator) && (rsl_octet (type_of x) == octet)

same_kind : (discriminator octet : ℕ) (x y : Rsl) →
    rsl_text x ≡ rsl_text y →
    is_of_kind discriminator octet x ≡ is_of_kind discriminator octet y
unfolding is_of_kind
same_kind discriminator octet x y same = ap (λ (xs : List ℕ). (slice_index_or xs 0 0 == discriminator) && (slice_index_or xs 1 0 == octet)) same

activation_is : (x : Rsl) → is_of_kind 0x08 0x21 x ≡ true → (a : Activation) × (x ≡ rsl.ChannelActivation a)
unfolding is_of_kind
activation_is (rsl.ChannelActivation a) is = (a, refl)
activation_is _ is = absurd (true≢false (sym is))

activation_channel : (a b : Activation) → rsl_text (rsl.ChannelActivation a) ≡ rsl_text (rsl.ChannelActivation b) → a.channel ≡ b.channel
unfolding rsl_element_text
activation_channel a b same = ap (λ (xs : List ℕ). slice_index_or xs 3 0) same

pub activation_back : (x : Rsl) (b : Activation) →
    rsl_text x ≡ rsl_text (rsl.ChannelActivation b) →
    (a : Activation) × (x ≡ rsl.ChannelActivation a) × (a.channel ≡ b.channel)
unfolding is_of_kind
activation_back x b same =
    let found = activation_is x (same_kind 0x08 0x21 x (rsl.ChannelActivation b) same) in
    (found.0, found.1, activation_channel found.0 b (ap rsl_text (sym found.1) ∙ same))

release_is : (x : Rsl) → is_of_kind 0x08 0x2e x ≡ true → (channel : ℕ) × (x ≡ rsl.RfChannelRelease channel)
unfolding is_of_kind
release_is (rsl.RfChannelRelease channel) is = (channel, refl)
release_is _ is = absurd (true≢false (sym is))

release_channel : (a b : ℕ) → rsl_text (rsl.RfChannelRelease a) ≡ rsl_text (rsl.RfChannelRelease b) → a ≡ b
unfolding rsl_element_text
release_channel a b same = ap (λ (xs : List ℕ). slice_index_or xs 3 0) same

pub release_back : (x : Rsl) (channel : ℕ) → rsl_text x ≡ rsl_text (rsl.RfChannelRelease channel) → x ≡ rsl.RfChannelRelease channel
unfolding is_of_kind
release_back x channel same =
    let found = release_is x (same_kind 0x08 0x2e x (rsl.RfChannelRelease channel) same) in
    found.1 ∙ ap (λ (k : ℕ). rsl.RfChannelRelease k) (release_channel found.0 channel (ap rsl_text (sym found.1) ∙ same))

assignment_is : (x : Rsl) → is_of_kind 0x0c 0x16 x ≡ true → (i : Assignment) × (x ≡ rsl.ImmediateAssignCommand i)
unfolding is_of_kind
assignment_is (rsl.ImmediateAssignCommand i) is = (i, refl)
assignment_is _ is = absurd (true≢false (sym is))

assignment_information : (i j : Assignment) →
    rsl_text (rsl.ImmediateAssignCommand i) ≡ rsl_text (rsl.ImmediateAssignCommand j) →
    i.information ≡ j.information
unfolding rsl_element_text
assignment_information i j same = sym (append-nil i.information) ∙ ap (drop 6) same ∙ append-nil j.information

pub assignment_back : (x : Rsl) (j : Assignment) →
    rsl_text x ≡ rsl_text (rsl.ImmediateAssignCommand j) →
    (i : Assignment) × (x ≡ rsl.ImmediateAssignCommand i) × (i.information ≡ j.information)
unfolding is_of_kind
assignment_back x j same =
    let found = assignment_is x (same_kind 0x0c 0x16 x (rsl.ImmediateAssignCommand j) same) in
    (found.0, found.1, assignment_information found.0 j (ap rsl_text (sym found.1) ∙ same))

-- an assignment is no DATA REQUEST
pub assignment_apart : (i : Assignment) (d : DataMessage) → rsl_text (rsl.ImmediateAssignCommand i) ≡ rsl_text (rsl.DataRequest d) → ⊥
unfolding is_of_kind
assignment_apart i d same = true≢false (same_kind 0x0c 0x16 (rsl.ImmediateAssignCommand i) (rsl.DataRequest d) same)

-- ---- what a station reads of a frame for it

pub record ReadAs (x y : Rsl) : Type 0 where
  pub text : rsl_text x ≡ rsl_text y
  pub reading : rsl_reading (rsl_text x) ≡ Ok y

read_message : (n station : ℕ) (x : Rsl) (m : Message) →
    out_of n (Station station x) ≡ out_of n m →
    IsReadOf n m (rsl_text x) →
    (y : Rsl) × ReadAs x y
unfolding out_of
read_message n station x (Station station' y) same read = (y, record { text = ap (λ (o : Out). o.frame.body) same; reading = read })
read_message n station x _ same read = absurd (apart 0 0xfd refl (ap (λ (o : Out). o.frame.stream) same))

pub read_of : (n station : ℕ) (x : Rsl) → IsSent (out_of n (Station station x)) → (y : Rsl) × ReadAs x y
unfolding out_of
read_of n station x sent = elim sent.is [
  | inl message ↦ read_message n station x message.message message.put message.read
  | inr pong ↦ absurd (apart 0 0xfe refl (ap (λ (o : Out). o.frame.stream) pong))
]

pub said_own : (at : Place) (n station : ℕ) (x y : Rsl) →
    (station == at.station) ≡ true →
    ReadAs x y →
    said_to at (out_of n (Station station x)) ≡ Some y
unfolding out_of
said_own at n station x y hit read = ap (λ (b : Bool). if b then rsl_in (out_of n (Station station x)).frame else None) hit ∙ ap result_ok read.reading

pub said_other : (at : Place) (n station : ℕ) (x : Rsl) → (station == at.station) ≡ false → said_to at (out_of n (Station station x)) ≡ None
unfolding out_of
said_other at n station x miss = ap (λ (b : Bool). if b then rsl_in (out_of n (Station station x)).frame else None) miss

-- ---- what passes a channel by

read_passes : (at : Place) (station : ℕ) (x y : Rsl) →
    station ≡ at.station →
    rsl_text x ≡ rsl_text y →
    Avoids at (Station station x) →
    Passes at.number (Some y)
read_passes at station x (rsl.ChannelActivation b) same text avoids =
    let found = activation_back x b text in
    let away : record { station = station; number = found.0.channel } ≢ at = subst (λ (z : Rsl). Avoids at (Station station z)) found.1 avoids in
    λ is. away (ap (λ (s : ℕ). record { station = s; number = found.0.channel }) same ∙ ap (λ (k : ℕ). record { station = at.station; number = k }) (found.2 ∙ is))
read_passes at station x (rsl.RfChannelRelease channel) same text avoids =
    let away : record { station = station; number = channel } ≢ at = subst (λ (z : Rsl). Avoids at (Station station z)) (release_back x channel text) avoids in
    λ is. away (ap (λ (s : ℕ). record { station = s; number = channel }) same ∙ ap (λ (k : ℕ). record { station = at.station; number = k }) is)
read_passes at station x _ same text avoids = tt

pub no_switch : (at : Place) → 1 ≤ at.station → (SWITCH_LINK == at.station) ≡ false
no_switch at least = elim (cases_Bool (SWITCH_LINK == at.station)) [
  | inr miss ↦ miss
  | inl hit ↦ absurd (let same : SWITCH_LINK ≡ at.station = eqb-true SWITCH_LINK at.station hit in omega (arith, same, least))
]

pub seen_avoids : (n : ℕ) (m : Message) (at : Place) →
    1 ≤ at.station →
    IsSent (out_of n m) →
    Avoids at m →
    Passes at.number (said_to at (out_of n m))
unfolding out_of
seen_avoids n (Station station x) at least sent avoids = elim (cases_Bool (station == at.station)) [
  | inl hit ↦
      let read = read_of n station x sent in
      subst (Passes at.number) (sym (said_own at n station x read.0 hit read.1)) (read_passes at station x read.0 (eqb-true station at.station hit) read.1.text avoids)
  | inr miss ↦ subst (Passes at.number) (sym (said_other at n station x miss)) tt
]
seen_avoids n (Request message) at least sent avoids = subst (Passes at.number) (sym (ap (λ (b : Bool). if b then rsl_in (out_of n (Request message)).frame else None) (no_switch at least))) tt
seen_avoids n (Data destination message) at least sent avoids = subst (Passes at.number) (sym (ap (λ (b : Bool). if b then rsl_in (out_of n (Data destination message)).frame else None) (no_switch at least))) tt
seen_avoids n (ReleaseComplete destination) at least sent avoids = subst (Passes at.number) (sym (ap (λ (b : Bool). if b then rsl_in (out_of n (ReleaseComplete destination)).frame else None) (no_switch at least))) tt

pub seen_release : (n : ℕ) (at : Place) →
    IsSent (out_of n (Station at.station (rsl.RfChannelRelease at.number))) →
    said_to at (out_of n (Station at.station (rsl.RfChannelRelease at.number))) ≡ Some (rsl.RfChannelRelease at.number)
seen_release n at sent =
    let read = read_of n at.station (rsl.RfChannelRelease at.number) sent in
    said_own at n at.station (rsl.RfChannelRelease at.number) read.0 (eq-eqb at.station at.station refl) read.1
    ∙ ap (λ (y : Rsl). Some y) (release_back read.0 at.number (sym read.1.text))

pub seen_activation : (n : ℕ) (at : Place) (a : Activation) →
    IsSent (out_of n (Station at.station (rsl.ChannelActivation a))) →
    (b : Activation) × (said_to at (out_of n (Station at.station (rsl.ChannelActivation a))) ≡ Some (rsl.ChannelActivation b)) × (b.channel ≡ a.channel)
seen_activation n at a sent =
    let read = read_of n at.station (rsl.ChannelActivation a) sent in
    let back = activation_back read.0 a (sym read.1.text) in
    (back.0, said_own at n at.station (rsl.ChannelActivation a) read.0 (eq-eqb at.station at.station refl) read.1 ∙ ap (λ (y : Rsl). Some y) back.1, back.2)
