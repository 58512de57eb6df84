-- SPDX-License-Identifier: MIT OR Apache-2.0
-- Lemmas: message by message, a row's messages change the judge's connection as the row does.
use Rattle.std.proofs.Common.{◌≡◌, ℕ, ◌%◌, ◌==◌, ◌&&◌, ◌⊎◌, Bool, true, false, List, [], ◌∷◌, Option, Some, None, refl, sym, subst, ap, ◌∙◌, inl, inr}
use Rattle.std.proofs.lemmas.Bool.{cond-false, cond-true, eq-eqb, eqb-true}
use Rattle.std.specs.List.{AllByRecursion}
use Rattle.std.specs.Prelude.{if◌then◌else◌, Ok, Result, map}
use Rattle.dtap_codec.specs.declared.rr.RrMessage.{RrMessage}
use Rattle.dtap_codec.specs.declared.rr.RrMessage.TheVariants as rr
use Rattle.dtap_codec.specs.declared.rr_fault.RrFault.{RrFault}
use Rattle.dtap_codec.specs.RrReading.{rr_reading}
use Rattle.bssmap_codec.specs.declared.bssap.Bssap.TheVariants.{Management, Transfer}
use Rattle.bssmap_codec.specs.declared.bssmap.Bssmap.{Bssmap}
use Rattle.bssmap_codec.specs.declared.bssmap.Bssmap.TheVariants as bssmap
use Rattle.conn_messages.specs.declared.channel.Channel.{Channel}
use Rattle.conn_messages.specs.declared.message.Message.{Message}
use Rattle.conn_messages.specs.declared.message.Message.TheVariants.{Station, Data, ReleaseComplete, Request}
use Rattle.conn_rules.specs.Streams.{IsHandedTo, handed, handed_by, is_dtap as rules_dtap, is_reject, relayed_by}
use Rattle.dtap_codec.specs.declared.sapi.Sapi.{Sapi}
use Rattle.dtap_codec.specs.declared.sapi.Sapi.TheVariants.{Zero, Three}
use Rattle.dtap_codec.specs.Number.{number_in}
use Rattle.rsl_codec.specs.declared.radio_link.Data.{Data as RadioData}
use Rattle.rsl_codec.specs.declared.rsl.Rsl.{Rsl}
use Rattle.rsl_codec.specs.declared.rsl.Rsl.TheVariants as rsl
use Rattle.run_judge.specs.declared.connection.Awaited.{Awaited}
use Rattle.run_judge.specs.declared.connection.Counts.{Counts}
use Rattle.run_judge.specs.declared.connection.Flows.{Flows}
use Rattle.run_judge.specs.declared.connection.Tenure.{Tenure}
use Rattle.run_judge.specs.declared.said.Said.{Said}
use Rattle.run_judge.specs.declared.said.Said.TheVariants as says
use Rattle.run_judge.specs.declared.said.StationChannel.{StationChannel}
use Rattle.run_judge.specs.Connection.{begun, blamed_if, first_of, flow_of as judged_flow, handed as handed_on, handed_by as handed_in, is_misnumbered, is_same, managed, numbered, numbered_by, opened_connection, passed_up, rejected_down, sent_up, with_flow}
use Rattle.run_judge.specs.ConnectionState.{ConnectionState}
use Rattle.run_judge.specs.Flow.{is_in_order, new_flow, passed_on, rejected}
use Rattle.run_judge.specs.Judging.{Numbered}
use Rattle.run_judge.specs.OpeningState.{OpeningState}
use Rattle.run_judge.specs.Reading.{channel_at, command, dlci_sapi, is_dtap, handed as reads_handed, link_sapi, passed}
use Rattle.judge_laws.proofs.Telling.{UpIs, down_handed, down_other, down_rejected, down_zero_rejected, up_other, up_passed}
use Rattle.judge_laws.specs.Agreeing.{DownIs, Future, Messages, Remains, flow_of, tells, told}
use Rattle.judge_laws.specs.Places.{at_of}
use Rattle.judge_laws.specs.Saying.{said_of, said_to}

pub same_dtap : (l3 : List ℕ) → is_dtap l3 ≡ rules_dtap l3
same_dtap [] = refl
same_dtap (first ∷ rest) = refl

no_and : (b : Bool) (l3 : List ℕ) → (if (b && false) then l3 ∷ [] else []) ≡ []
no_and true l3 = refl
no_and false l3 = refl

command_silent : (m frame : ℕ) (at : StationChannel) (r : Result RrMessage RrFault) (c : ConnectionState) →
    told m frame (command at r) c ≡ c
command_silent m frame at (Ok (rr.AssignmentCommand channel)) c = refl
command_silent m frame at (Ok (rr.HandoverCommand cell channel reference)) c = refl
command_silent m frame at _ c = refl

pub told_command : (m frame : ℕ) (at : StationChannel) (o : Option Sapi) (l3 : List ℕ) (c : ConnectionState) →
    told m frame (reads_handed false at o l3) c ≡ c
told_command m frame at (Some Zero) l3 c = command_silent m frame at (rr_reading l3) c
told_command m frame at (Some Three) l3 c = refl
told_command m frame at None l3 c = refl

-- ---- what is kept while messages are applied

pub record Telling (rest : Sapi → Future → Messages) (holds : Sapi → Messages) (t : Tenure) (ts : List Tenure) (far : ℕ) (serving : Channel) (outs : List Message) (c : ConnectionState) : Type 0 where
  pub up : (sapi : Sapi) → UpIs sapi (rest sapi) t ts far outs (flow_of sapi c.up)
  pub down : (sapi : Sapi) → DownIs sapi (holds sapi) outs (flow_of sapi c.down)
  pub at : c.serving.at ≡ at_of serving
  pub hush : (c.awaited ≡ None) ⊎ ((sapi : Sapi) → handed sapi outs ≡ [])
  pub is_open : c.is_cleared ≡ false

pub remains_same : (c : ConnectionState) → Remains c c
remains_same c = record { number = refl; reference = refl; switch = refl; serving = refl; old = refl; awaited = refl; is_cleared = refl; unjudged = refl }

-- but for its flows and what a switch makes of them
pub remains_flows : (c : ConnectionState) (up down : Flows) (n : Counts) (p o : Option ℕ) →
    Remains c (record c { up = up; down = down; counts = n; progress = p; mobile = o })
remains_flows c up down n p o = record { number = refl; reference = refl; switch = refl; serving = refl; old = refl; awaited = refl; is_cleared = refl; unjudged = refl }

pub remains_then : (a b c : ConnectionState) → Remains a b → Remains b c → Remains a c
remains_then a b c one two = record {
  number = two.number ∙ one.number;
  reference = two.reference ∙ one.reference;
  switch = two.switch ∙ one.switch;
  serving = two.serving ∙ one.serving;
  old = two.old ∙ one.old;
  awaited = two.awaited ∙ one.awaited;
  is_cleared = two.is_cleared ∙ one.is_cleared;
  unjudged = two.unjudged ∙ one.unjudged;
}

-- what may be applied: no initial message and no CLEAR COMPLETE; DTAP of SAPI 0 or 3; on the channel
-- that serves
abbrev pub IsTold : Channel → Message → Type 0
IsTold serving (Request message) = ⊥
IsTold serving (Data destination (Management bssmap.ClearComplete)) = ⊥
IsTold serving (Data destination (Transfer dlci message)) = (dlci % 8 ≡ 0) ⊎ (dlci % 8 ≡ 3)
IsTold serving (Data destination message) = Unit {0}
IsTold serving (ReleaseComplete destination) = Unit {0}
IsTold serving (Station station message) = IsHandedTo serving (Station station message)

pub numbered_keeps : (P : ConnectionState → Type 0) (m : ℕ) (message : List ℕ) (c : ConnectionState) →
    P c →
    ((n : Counts) (p : Option ℕ) → P (record c { counts = n; progress = p })) →
    P (numbered m message c)
numbered_keeps P m message c same other = by (number_in m message)
  where
    by : (o : Option ℕ) → P (numbered_by m o c)
    by None = same
    by (Some number) = other _ _

-- nor does it matter whom the judge blames for a number
pub blamed_keeps : (P : ConnectionState → Type 0) (b : Bool) (sapi : Sapi) (frame : ℕ) (c : ConnectionState) →
    P c →
    ((o : Option ℕ) → P (record c { mobile = o })) →
    P (blamed_if b sapi frame c)
blamed_keeps P false sapi frame c same other = same
blamed_keeps P true sapi frame c same other = by (is_in_order (judged_flow sapi c.up).order)
  where
    by : (b : Bool) → P (if b then record c { mobile = first_of c.mobile frame } else c)
    by true = other _
    by false = same

pub opened_keeps : (P : ConnectionState → Type 0) (m number reference : ℕ) (at : StationChannel) (opening : OpeningState) →
    ((n : Counts) (p o : Option ℕ) → P (record (begun number reference at opening) { counts = n; progress = p; mobile = o })) →
    P (opened_connection m number reference at opening)
opened_keeps P m number reference at opening all =
    let c : ConnectionState = begun number reference at opening in
    blamed_keeps P (is_misnumbered m (Some 0) opening.message new_flow) Zero opening.frame (numbered m opening.message c)
    (numbered_keeps P m opening.message c (all c.counts c.progress c.mobile) (λ n p. all n p c.mobile))
    (λ o. numbered_keeps (λ (x : ConnectionState). P (record x { mobile = o })) m opening.message c (all c.counts c.progress o) (λ n p. all n p o))

pub sent_keeps : (P : ConnectionState → Type 0) (m : ℕ) (of : Sapi) (message : List ℕ) (frame : ℕ) (c : ConnectionState) →
    ((n : Counts) (p o : Option ℕ) → P (record c { up = with_flow of (passed_on message frame) c.up; counts = n; progress = p; mobile = o })) →
    P (sent_up m of message frame c)
sent_keeps P m of message frame c all =
    let after : ConnectionState = record c { up = with_flow of (passed_on message frame) c.up } in
    blamed_keeps P (is_misnumbered m c.progress message (judged_flow of c.up)) of frame (numbered m message after)
    (numbered_keeps P m message after (all c.counts c.progress c.mobile) (λ n p. all n p c.mobile))
    (λ o. numbered_keeps (λ (x : ConnectionState). P (record x { mobile = o })) m message after (all c.counts c.progress o) (λ n p. all n p o))

module _ (modulus number : ℕ) (rest : Sapi → Future → Messages) (holds : Sapi → Messages) (t : Tenure) (ts : List Tenure) (far : ℕ) (serving : Channel) where
  abbrev pub Is : List Message → ConnectionState → Type 0
  Is outs c = Telling rest holds t ts far serving outs c

  -- it remains so, but for its flows
  abbrev pub Tells : List Message → ConnectionState → ConnectionState → Type 0
  Tells outs c after = Is outs after × Remains c after

  less_hush : (m : Message) (outs : List Message) (c : ConnectionState) →
      ((sapi : Sapi) → handed_by sapi m ≡ []) →
      (c.awaited ≡ None) ⊎ ((sapi : Sapi) → handed sapi (m ∷ outs) ≡ []) →
      (c.awaited ≡ None) ⊎ ((sapi : Sapi) → handed sapi outs ≡ [])
  less_hush m outs c none (inl still) = inl still
  less_hush m outs c none (inr quiet) = inr (λ sapi. (let is = quiet sapi in rw (none sapi) at is))

  -- one that passes nothing on
  other : (m : Message) (outs : List Message) (c : ConnectionState) →
      ((sapi : Sapi) → relayed_by sapi m ≡ []) →
      ((sapi : Sapi) → handed_by sapi m ≡ []) →
      is_reject m ≡ false →
      Is (m ∷ outs) c →
      Is outs c
  other m outs c relays hands keeps is = record {
    up = λ sapi. up_other sapi (rest sapi) t ts far m outs (flow_of sapi c.up) (relays sapi) (is.up sapi);
    down = λ sapi. down_other sapi (holds sapi) m outs (flow_of sapi c.down) (hands sapi) keeps (is.down sapi);
    at = is.at;
    hush = less_hush m outs c hands is.hush;
    is_open = is.is_open;
  }

  -- ---- DTAP up

  passes : (of : Sapi) (m : Message) (outs : List Message) (message : List ℕ) (frame : ℕ) (c : ConnectionState) →
      relayed_by of m ≡ message ∷ [] →
      ((sapi : Sapi) → (sapi ≡ of) ⊎ (relayed_by sapi m ≡ [])) →
      ((sapi : Sapi) → handed_by sapi m ≡ []) →
      is_reject m ≡ false →
      Is (m ∷ outs) c →
      Tells outs c (passed_up modulus of message frame c)
  passes of m outs message frame c one others hands keeps is =
      subst (Tells outs c) (sym (cond-false _ _ _ is.is_open))
      (sent_keeps (Tells outs c) modulus of message frame c
      (λ n p o. (record { up = up of one others; down = down; at = is.at; hush = hush; is_open = is.is_open }, remains_flows c after.up c.down n p o)))
    where
      after : ConnectionState
      after = record c { up = with_flow of (passed_on message frame) c.up }

      hush : (c.awaited ≡ None) ⊎ ((sapi : Sapi) → handed sapi outs ≡ [])
      hush = less_hush m outs c hands is.hush

      down : (sapi : Sapi) → DownIs sapi (holds sapi) outs (flow_of sapi c.down)
      down sapi = down_other sapi (holds sapi) m outs (flow_of sapi c.down) (hands sapi) keeps (is.down sapi)

      up : (of : Sapi) →
          relayed_by of m ≡ message ∷ [] →
          ((sapi : Sapi) → (sapi ≡ of) ⊎ (relayed_by sapi m ≡ [])) →
          (sapi : Sapi) →
          UpIs sapi (rest sapi) t ts far outs (flow_of sapi (with_flow of (passed_on message frame) c.up))
      up Zero one others Zero = up_passed Zero (rest Zero) t ts far m outs message frame c.up.zero one (is.up Zero)
      up Three one others Three = up_passed Three (rest Three) t ts far m outs message frame c.up.three one (is.up Three)
      up Zero one others Three = elim (others Three) [
        | inl same ↦ absurd cc
        | inr none ↦ up_other Three (rest Three) t ts far m outs c.up.three none (is.up Three)
      ]
      up Three one others Zero = elim (others Zero) [
        | inl same ↦ absurd cc
        | inr none ↦ up_other Zero (rest Zero) t ts far m outs c.up.zero none (is.up Zero)
      ]

  -- ---- SAPI "n" REJECT

  rejects_down : (m : Message) (outs : List Message) (frame : ℕ) (c : ConnectionState) →
      ((sapi : Sapi) → relayed_by sapi m ≡ []) →
      ((sapi : Sapi) → handed_by sapi m ≡ []) →
      is_reject m ≡ true →
      Is (m ∷ outs) c →
      Tells outs c (rejected_down frame c)
  rejects_down m outs frame c relays hands rejecting is =
      subst (Tells outs c) (sym (cond-false _ _ _ is.is_open)) (
        record {
          up = λ sapi. up_other sapi (rest sapi) t ts far m outs (flow_of sapi c.up) (relays sapi) (is.up sapi);
          down = down;
          at = is.at;
          hush = less_hush m outs c hands is.hush;
          is_open = is.is_open;
        },
        remains_flows c c.up (with_flow Three rejected c.down) c.counts c.progress c.mobile,
      )
    where
      down : (sapi : Sapi) → DownIs sapi (holds sapi) outs (flow_of sapi (with_flow Three rejected c.down))
      down Zero = down_zero_rejected (holds Zero) m outs c.down.zero (hands Zero) (is.down Zero)
      down Three = down_rejected (holds Three) m outs c.down.three (hands Three) rejecting (is.down Three)

  manages : (m : Message) (outs : List Message) (frame : ℕ) (c : ConnectionState) →
      ((sapi : Sapi) → relayed_by sapi m ≡ []) →
      ((sapi : Sapi) → handed_by sapi m ≡ []) →
      is_reject m ≡ false →
      Is (m ∷ outs) c →
      Tells outs c (managed frame c)
  manages m outs frame c relays hands keeps is = subst (Tells outs c) (sym (cond-false _ _ _ is.is_open)) (other m outs c relays hands keeps is, remains_same c)

  -- ---- DTAP down

  hands_on : (of : Sapi) (m : Message) (outs : List Message) (at : StationChannel) (message : List ℕ) (frame : ℕ) (c : ConnectionState) →
      ((sapi : Sapi) → relayed_by sapi m ≡ []) →
      handed_by of m ≡ message ∷ [] →
      ((sapi : Sapi) → (sapi ≡ of) ⊎ (handed_by sapi m ≡ [])) →
      is_reject m ≡ false →
      is_same (at_of serving) at ≡ true →
      Is (m ∷ outs) c →
      Tells outs c (handed_on at of message frame c)
  hands_on of m outs at message frame c relays one others keeps there is = elim is.hush [
    | inr quiet ↦ absurd (never (quiet of))
    | inl still ↦
        let here : is_same c.serving.at at ≡ true = ap (λ (s : StationChannel). is_same s at) is.at ∙ there in
        subst (λ (o : Option Awaited). Tells outs c (handed_in o at of message frame c)) (sym still)
        (subst (Tells outs c) (sym (cond-true _ _ _ here)) (
          record {
            up = λ sapi. up_other sapi (rest sapi) t ts far m outs (flow_of sapi c.up) (relays sapi) (is.up sapi);
            down = down of one others;
            at = is.at;
            hush = inl still;
            is_open = is.is_open;
          },
          remains_flows c c.up (with_flow of (passed_on message frame) c.down) c.counts c.progress c.mobile,
        ))
  ]
    where
      never : handed of (m ∷ outs) ≡ [] → ⊥
      never quiet = let none = rw one at quiet in absurd cc

      down : (of : Sapi) →
          handed_by of m ≡ message ∷ [] →
          ((sapi : Sapi) → (sapi ≡ of) ⊎ (handed_by sapi m ≡ [])) →
          (sapi : Sapi) →
          DownIs sapi (holds sapi) outs (flow_of sapi (with_flow of (passed_on message frame) c.down))
      down Zero one others Zero = down_handed Zero (holds Zero) m outs message frame c.down.zero one keeps (is.down Zero)
      down Three one others Three = down_handed Three (holds Three) m outs message frame c.down.three one keeps (is.down Three)
      down Zero one others Three = elim (others Three) [
        | inl same ↦ absurd cc
        | inr none ↦ down_other Three (holds Three) m outs c.down.three none keeps (is.down Three)
      ]
      down Three one others Zero = elim (others Zero) [
        | inl same ↦ absurd cc
        | inr none ↦ down_other Zero (holds Zero) m outs c.down.zero none keeps (is.down Zero)
      ]

  -- ---- by messages

  none_of_station : (station : ℕ) (x : Rsl) (sapi : Sapi) → relayed_by sapi (Station station x) ≡ []
  none_of_station station x Zero = refl
  none_of_station station x Three = refl

  of_request : (station : ℕ) (d : RadioData) (outs : List Message) (frame : ℕ) (c : ConnectionState) →
      IsHandedTo serving (Station station (rsl.DataRequest d)) →
      Is (Station station (rsl.DataRequest d) ∷ outs) c →
      Tells outs c (told modulus frame (said_to station (rsl.DataRequest d)) c)
  of_request station d outs frame c there is = by (rules_dtap d.l3) refl (d.link % 8 == 0) refl (d.link % 8 == 3) refl
    where
      m : Message
      m = Station station (rsl.DataRequest d)

      at : StationChannel
      at = channel_at station d.channel

      Goal : Said → Type 0
      Goal said = Tells outs c (told modulus frame said c)

      relays : (sapi : Sapi) → relayed_by sapi m ≡ []
      relays Zero = refl
      relays Three = refl

      -- of no SAPI it is handed
      quiet : handed_by Zero m ≡ [] → handed_by Three m ≡ [] → (sapi : Sapi) → handed_by sapi m ≡ []
      quiet zero three Zero = zero
      quiet zero three Three = three

      of_zero : handed_by Three m ≡ [] → (sapi : Sapi) → (sapi ≡ Zero) ⊎ (handed_by sapi m ≡ [])
      of_zero none Zero = inl refl
      of_zero none Three = inr none

      of_three : handed_by Zero m ≡ [] → (sapi : Sapi) → (sapi ≡ Three) ⊎ (handed_by sapi m ≡ [])
      of_three none Zero = inr none
      of_three none Three = inl refl

      here : rules_dtap d.l3 ≡ true → is_same (at_of serving) at ≡ true
      here dtap = let place = there dtap in rw (eq-eqb serving.station station (sym place.0), eq-eqb serving.number d.channel (sym place.1)) refl

      three_not : (d.link % 8 == 0) ≡ true → (d.link % 8 == 3) ≡ false
      three_not zero = ap (λ (k : ℕ). k == 3) (eqb-true (d.link % 8) 0 zero)

      by : (b : Bool) →
          rules_dtap d.l3 ≡ b →
          (z : Bool) →
          (d.link % 8 == 0) ≡ z →
          (t : Bool) →
          (d.link % 8 == 3) ≡ t →
          Goal (reads_handed (is_dtap d.l3) at (link_sapi d.link) d.l3)
      by true dtap true zero t three =
          let said : reads_handed (is_dtap d.l3) at (link_sapi d.link) d.l3 ≡ says.Hands at Zero d.l3 = rw (same_dtap d.l3, dtap, zero) refl in
          let one : handed_by Zero m ≡ d.l3 ∷ [] = rw (zero, dtap) refl in
          let none : handed_by Three m ≡ [] = rw (three_not zero) refl in
          subst Goal (sym said) (hands_on Zero m outs at d.l3 frame c relays one (of_zero none) refl (here dtap) is)
      by true dtap false zero true three =
          let said : reads_handed (is_dtap d.l3) at (link_sapi d.link) d.l3 ≡ says.Hands at Three d.l3 = rw (same_dtap d.l3, dtap, zero, three) refl in
          let one : handed_by Three m ≡ d.l3 ∷ [] = rw (three, dtap) refl in
          let none : handed_by Zero m ≡ [] = rw zero refl in
          subst Goal (sym said) (hands_on Three m outs at d.l3 frame c relays one (of_three none) refl (here dtap) is)
      by true dtap false zero false three =
          let said : reads_handed (is_dtap d.l3) at (link_sapi d.link) d.l3 ≡ says.Nothing = rw (same_dtap d.l3, dtap, zero, three) refl in
          let none_zero : handed_by Zero m ≡ [] = rw zero refl in
          let none_three : handed_by Three m ≡ [] = rw three refl in
          subst Goal (sym said) (other m outs c relays (quiet none_zero none_three) refl is, remains_same c)
      by false dtap z zero t three =
          let none_zero : handed_by Zero m ≡ [] = rw dtap (no_and (d.link % 8 == 0) d.l3) in
          let none_three : handed_by Three m ≡ [] = rw dtap (no_and (d.link % 8 == 3) d.l3) in
          let said : told modulus frame (reads_handed (is_dtap d.l3) at (link_sapi d.link) d.l3) c ≡ c = rw (same_dtap d.l3, dtap) (told_command modulus frame at (link_sapi d.link) d.l3 c) in
          subst (Tells outs c) (sym said) (other m outs c relays (quiet none_zero none_three) refl is, remains_same c)

  of_station : (station : ℕ) (x : Rsl) (outs : List Message) (frame : ℕ) (c : ConnectionState) →
      IsHandedTo serving (Station station x) →
      Is (Station station x ∷ outs) c →
      Tells outs c (told modulus frame (said_to station x) c)
  of_station station (rsl.DataRequest d) outs frame c there is = of_request station d outs frame c there is
  of_station station (rsl.ChannelActivation a) outs frame c there is = (other (Station station (rsl.ChannelActivation a)) outs c (none_of_station station (rsl.ChannelActivation a)) none refl is, remains_same c)
    where
      none : (sapi : Sapi) → handed_by sapi (Station station (rsl.ChannelActivation a)) ≡ []
      none Zero = refl
      none Three = refl
  of_station station x outs frame c there is = (other (Station station x) outs c (none_of_station station x) none refl is, remains_same c)
    where
      none : (sapi : Sapi) → handed_by sapi (Station station x) ≡ []
      none Zero = refl
      none Three = refl

  of_transfer : (destination dlci : ℕ) (message : List ℕ) (outs : List Message) (frame : ℕ) (c : ConnectionState) →
      (dlci % 8 ≡ 0) ⊎ (dlci % 8 ≡ 3) →
      Is (Data destination (Transfer dlci message) ∷ outs) c →
      Tells outs c (passed_up modulus (dlci_sapi dlci) message frame c)
  of_transfer destination dlci message outs frame c (inl zero) is =
      let of : dlci_sapi dlci ≡ Zero = rw zero refl in
      let one : relayed_by Zero (Data destination (Transfer dlci message)) ≡ message ∷ [] = rw zero refl in
      subst (λ (sapi : Sapi). Tells outs c (passed_up modulus sapi message frame c)) (sym of) (passes Zero (Data destination (Transfer dlci message)) outs message frame c one others none refl is)
    where
      others : (sapi : Sapi) → (sapi ≡ Zero) ⊎ (relayed_by sapi (Data destination (Transfer dlci message)) ≡ [])
      others Zero = inl refl
      others Three = inr (rw zero refl)

      none : (sapi : Sapi) → handed_by sapi (Data destination (Transfer dlci message)) ≡ []
      none Zero = refl
      none Three = refl
  of_transfer destination dlci message outs frame c (inr three) is =
      let of : dlci_sapi dlci ≡ Three = rw three refl in
      let one : relayed_by Three (Data destination (Transfer dlci message)) ≡ message ∷ [] = rw three refl in
      subst (λ (sapi : Sapi). Tells outs c (passed_up modulus sapi message frame c)) (sym of) (passes Three (Data destination (Transfer dlci message)) outs message frame c one others none refl is)
    where
      others : (sapi : Sapi) → (sapi ≡ Three) ⊎ (relayed_by sapi (Data destination (Transfer dlci message)) ≡ [])
      others Zero = inr (rw three refl)
      others Three = inl refl

      none : (sapi : Sapi) → handed_by sapi (Data destination (Transfer dlci message)) ≡ []
      none Zero = refl
      none Three = refl

  of_management : (destination : ℕ) (b : Bssmap) (outs : List Message) (frame : ℕ) (c : ConnectionState) →
      IsTold serving (Data destination (Management b)) →
      Is (Data destination (Management b) ∷ outs) c →
      Tells outs c (told modulus frame (passed destination (Ok (Management b))) c)
  of_management destination bssmap.ClearComplete outs frame c may is = absurd may
  of_management destination (bssmap.SapiNReject dlci cause) outs frame c may is = rejects_down (Data destination (Management (bssmap.SapiNReject dlci cause))) outs frame c none_up none_down refl is
    where
      none_up : (sapi : Sapi) → relayed_by sapi (Data destination (Management (bssmap.SapiNReject dlci cause))) ≡ []
      none_up Zero = refl
      none_up Three = refl

      none_down : (sapi : Sapi) → handed_by sapi (Data destination (Management (bssmap.SapiNReject dlci cause))) ≡ []
      none_down Zero = refl
      none_down Three = refl
  of_management destination b outs frame c may is = manages (Data destination (Management b)) outs frame c none_up none_down refl is
    where
      none_up : (sapi : Sapi) → relayed_by sapi (Data destination (Management b)) ≡ []
      none_up Zero = refl
      none_up Three = refl

      none_down : (sapi : Sapi) → handed_by sapi (Data destination (Management b)) ≡ []
      none_down Zero = refl
      none_down Three = refl

  pub tell_one : (m : Message) (outs : List Message) (frame : ℕ) (c : ConnectionState) →
      IsTold serving m →
      Is (m ∷ outs) c →
      Tells outs c (told modulus frame (said_of number m) c)
  tell_one (Request message) outs frame c may is = absurd may
  tell_one (ReleaseComplete destination) outs frame c may is = (other (ReleaseComplete destination) outs c none_up none_down refl is, remains_same c)
    where
      none_up : (sapi : Sapi) → relayed_by sapi (ReleaseComplete destination) ≡ []
      none_up Zero = refl
      none_up Three = refl

      none_down : (sapi : Sapi) → handed_by sapi (ReleaseComplete destination) ≡ []
      none_down Zero = refl
      none_down Three = refl
  tell_one (Station station x) outs frame c may is = of_station station x outs frame c may is
  tell_one (Data destination (Transfer dlci message)) outs frame c may is = of_transfer destination dlci message outs frame c may is
  tell_one (Data destination (Management b)) outs frame c may is = of_management destination b outs frame c may is

  pub tell_all : (ns : List Numbered) (outs : List Message) (c : ConnectionState) →
      map (λ (n : Numbered). n.said) ns ≡ map (said_of number) outs →
      AllByRecursion (IsTold serving) outs →
      Is outs c →
      Tells [] c (tells modulus ns c)
  tell_all [] [] c are may is = (is, remains_same c)
  tell_all [] (m ∷ ms) c are may is = absurd cc
  tell_all (n ∷ ns) [] c are may is = absurd cc
  tell_all (n ∷ ns) (m ∷ ms) c are may is =
      let said : n.said ≡ said_of number m = cc in
      let rest : map (λ (k : Numbered). k.said) ns ≡ map (said_of number) ms = cc in
      let after = told modulus n.frame n.said c in
      let one : Tells ms c after = subst (λ (s : Said). Tells ms c (told modulus n.frame s c)) (sym said) (tell_one m ms n.frame c may.0 is) in
      let all = tell_all ns ms after rest may.1 one.0 in
      (all.0, remains_then c after (tells modulus ns after) one.1 all.1)
