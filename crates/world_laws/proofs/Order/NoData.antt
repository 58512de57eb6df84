-- SPDX-License-Identifier: MIT OR Apache-2.0
-- Outputs and entries that carry no DATA REQUEST on a channel.
use Rattle.world_laws.proofs.Prelude.{◌≡◌, ◌≢◌, inl, inr, ℕ, ◌≤◌, ◌==◌, Bool, true, false, cond, if◌then◌else◌, List, [], ◌∷◌, map, Option}
use Rattle.world_laws.proofs.Prelude.{Some, None, refl, sym, ap, ◌∙◌, subst, cases_Bool, cond-false, cond-true, eqb-true, eq-eqb}
use Rattle.world_laws.proofs.Prelude.{AllByRecursion, Place, Message, Station, Request, Data, ReleaseComplete, Out, outs_of, is_for}
use Rattle.world_laws.proofs.Prelude.{outs_for, IsSent, IsNotOn, same_channel, place_at, pong, Rsl, rsl_text, OutboxEntry, Tenure, to_link}
use Rattle.world_laws.proofs.Prelude.{rsl_in, said_to, none-some, request_is, request_known, same_kind, NoDataEntry, NoDataOn, entry_out}
use Rattle.conn_messages.specs.Out.{out_of}
use Rattle.rsl_codec.specs.declared.rsl.Rsl.TheVariants as rsl
use Rattle.world_model.specs.Relay.{entry_of}
use Rattle.world_laws.proofs.OrderTexts.{no_switch, read_of, said_other, said_own}
use Rattle.world_laws.proofs.References.Numbered.{AreOfOne, IsOfOne}

abbrev pub NoDataOut : Place → Out → Type 0
NoDataOut at out = NoDataOn at.number (said_to at out)

nothing_said : (k : ℕ) (o : Option Rsl) → o ≡ None → NoDataOn k o
nothing_said k o none d is same = none-some _ (sym none ∙ is)

message_none : (at : Place) (m : ℕ) (x : Message) → 1 ≤ at.station → IsSent (out_of m x) → IsNotOn at x → NoDataOut at (out_of m x)
unfolding out_of
message_none at m (Station station x) least sent off = λ d is same. elim (cases_Bool (station == at.station)) [
  | inr miss ↦ none-some _ (sym (said_other at m station x miss) ∙ is)
  | inl hit ↦
      let read = read_of m station x sent in
      let said : read.0 ≡ rsl.DataRequest d = (let both : Some read.0 ≡ Some (rsl.DataRequest d) = sym (said_own at m station x read.0 hit read.1) ∙ is in cc) in
      let text : rsl_text x ≡ rsl_text (rsl.DataRequest d) = read.1.text ∙ ap rsl_text said in
      let one = request_is x (same_kind x (rsl.DataRequest d) text ∙ request_known d) in
      let channel : one.0.channel ≡ d.channel = same_channel one.0 d (ap rsl_text (sym one.1) ∙ text) in
      let away : place_at station one.0.channel ≢ at = subst (λ (y : Rsl). IsNotOn at (Station station y)) one.1 off in
      away (ap (λ (n : ℕ). place_at n one.0.channel) (eqb-true station at.station hit) ∙ ap (place_at at.station) (channel ∙ same))
]
message_none at m (Request message) least sent off = nothing_said at.number _ (ap (λ (b : Bool). if b then rsl_in (out_of m (Request message)).frame else None) (no_switch at least))
message_none at m (Data destination message) least sent off = nothing_said at.number _ (ap (λ (b : Bool). if b then rsl_in (out_of m (Data destination message)).frame else None) (no_switch at least))
message_none at m (ReleaseComplete destination) least sent off = nothing_said at.number _ (ap (λ (b : Bool). if b then rsl_in (out_of m (ReleaseComplete destination)).frame else None) (no_switch at least))

pub messages_none : (at : Place) (m : ℕ) (xs : List Message) →
    1 ≤ at.station →
    AllByRecursion IsSent (outs_of m xs) →
    AllByRecursion (IsNotOn at) xs →
    AllByRecursion (NoDataOut at) (outs_of m xs)
messages_none at m [] least sent off = tt
messages_none at m (x ∷ xs) least sent off = (message_none at m x least sent.0 off.0, messages_none at m xs least sent.1 off.1)

pub pong_none : (at : Place) (source : ℕ) → NoDataOut at (pong source)
pong_none at source = nothing_said at.number (said_to at (pong source)) (by (source == at.station)) where
  by : (b : Bool) → (if b then rsl_in (pong source).frame else None) ≡ None
  by true = refl
  by false = refl

-- of each output, where it is of those for each connection
pub by_each : (P : Out → Type 0) (outs : List Out) →
    AreOfOne outs →
    ((source : ℕ) → P (pong source)) →
    ((k : ℕ) → 1 ≤ k → AllByRecursion P (outs_for k outs)) →
    AllByRecursion P outs
by_each P [] numbered pongs each = tt
by_each P (out ∷ outs) numbered pongs each = (one numbered.0, by_each P outs numbered.1 pongs (λ k from_one. rest k (each k from_one) (is_for k out) refl)) where
  one : IsOfOne out → P out
  one (inr is) = subst P (sym is) (pongs out.to)
  one (inl from_one) = (subst (AllByRecursion P) (cond-true (is_for out.conn out) (out ∷ outs_for out.conn outs) (outs_for out.conn outs) (eq-eqb out.conn out.conn refl)) (each out.conn from_one)).0

  rest : (k : ℕ) → AllByRecursion P (outs_for k (out ∷ outs)) → (b : Bool) → is_for k out ≡ b → AllByRecursion P (outs_for k outs)
  rest k all true hit = (subst (AllByRecursion P) (cond-true (is_for k out) (out ∷ outs_for k outs) (outs_for k outs) hit) all).1
  rest k all false miss = subst (AllByRecursion P) (cond-false (is_for k out) (out ∷ outs_for k outs) (outs_for k outs) miss) all

-- so it is of the entries for the station
pub entries_none : (at : Place) (target : Option Tenure) (outs : List Out) →
    AllByRecursion (NoDataOut at) outs →
    AllByRecursion (NoDataEntry at.number) (to_link at.station (map (entry_of target) outs))
entries_none at target [] none = tt
entries_none at target (out ∷ outs) none = by ((entry_of target out).out.to == at.station) refl (entries_none at target outs none.1) where
  others : List OutboxEntry
  others = to_link at.station (map (entry_of target) outs)

  by : (b : Bool) →
      ((entry_of target out).out.to == at.station) ≡ b →
      AllByRecursion (NoDataEntry at.number) others →
      AllByRecursion (NoDataEntry at.number) (cond ((entry_of target out).out.to == at.station) (entry_of target out ∷ others) others)
  by true hit rest = subst (AllByRecursion (NoDataEntry at.number)) (sym (cond-true ((entry_of target out).out.to == at.station) (entry_of target out ∷ others) others hit))
      ((λ d is same. none.0 d (ap (λ (b : Bool). if b then rsl_in out.frame else None) (sym (ap (λ (o : Out). o.to == at.station) (entry_out target out)) ∙ hit) ∙ sym (ap (λ (o : Out). rsl_in o.frame) (entry_out target out)) ∙ is) same), rest)
  by false miss rest = subst (AllByRecursion (NoDataEntry at.number)) (sym (cond-false ((entry_of target out).out.to == at.station) (entry_of target out ∷ others) others miss)) rest
