-- SPDX-License-Identifier: MIT OR Apache-2.0
-- What a turn of the controller puts for one channel: it releases the channel, or activates it, or
-- passes it by.
use Rattle.world_model.proofs.Prelude.{◌≡◌, ◌≢◌, ◌⊎◌, inl, inr, ℕ, ◌+◌, ◌<◌, ◌==◌, ◌&&◌, ◌||◌, not, nat_eq, Bool, true, false, cond}
use Rattle.world_model.proofs.Prelude.{if◌then◌else◌, List, [], ◌∷◌, ◌++◌, map, Option, Some, None, refl, sym, ap, ◌∙◌, subst, append_assoc}
use Rattle.world_model.proofs.Prelude.{cases_Bool, ne_eqb, eq-eqb, append-nil, AllByRecursion, Place, Out, ChannelState, Free, InUse}
use Rattle.world_model.proofs.Prelude.{Releasing, CHANNEL_NUMBERS, rr_reading, activation_ack, Activation, Rsl, DataRequest}
use Rattle.world_model.proofs.Prelude.{ImmediateAssignCommand, ChannelActivation, RfChannelRelease, RfChannelReleaseAck, or-false}
use Rattle.world_model.proofs.Prelude.{OutboxEntry, Tenure, nothing, began, begins, ends, begins_and_ends, acknowledgement, active_all, due}
use Rattle.world_model.proofs.Prelude.{is_active_then, to_link, entry_of, rsl_in, LeadsBy}
use Rattle.world_model.specs.OwnerLines.{AreFitting, AssignsIn, IsOwed, FitsTenure, is_in_use, tenure_all, tenure_then}

-- ---- what the outputs of a turn do to a channel

-- what an output says to the station of a channel
abbrev pub said_to : Place → Out → Option Rsl
said_to at out = if out.to == at.station then rsl_in out.frame else None

-- it neither activates nor releases the channel
abbrev pub Passes : ℕ → Option Rsl → Type 0
Passes k (Some (ChannelActivation a)) = a.channel ≢ k
Passes k (Some (RfChannelRelease number)) = number ≢ k
Passes k _ = Unit {0}

-- from a state to a state: a channel in use may be released
pub data Runs (at : Place) : ChannelState → List Out → ChannelState → Type 0 where
  over : {state : ChannelState} → Runs at state [] state
  passes : {state end : ChannelState} {out : Out} {outs : List Out} →
      Passes at.number (said_to at out) →
      Runs at state outs end →
      Runs at state (out ∷ outs) end
  releases : {number : ℕ} {end : ChannelState} {out : Out} {outs : List Out} →
      said_to at out ≡ Some (RfChannelRelease at.number) →
      Runs at (Releasing number) outs end →
      Runs at (InUse number) (out ∷ outs) end

-- or a free one is activated, once
pub data RunsThrough (at : Place) : ChannelState → List Out → ChannelState → Type 0 where
  runs : {state end : ChannelState} {outs : List Out} → Runs at state outs end → RunsThrough at state outs end
  first_passes : {state end : ChannelState} {out : Out} {outs : List Out} →
      Passes at.number (said_to at out) →
      RunsThrough at state outs end →
      RunsThrough at state (out ∷ outs) end
  activates : {number : ℕ} {end : ChannelState} {out : Out} {outs : List Out} (a : Activation) →
      said_to at out ≡ Some (ChannelActivation a) →
      a.channel ≡ at.number →
      at.number < CHANNEL_NUMBERS →
      Runs at (InUse number) outs end →
      RunsThrough at Free (out ∷ outs) end

pub runs_kept : {at : Place} {state end : ChannelState} {outs : List Out} (number : ℕ) →
    Runs at state outs end →
    end ≡ InUse number →
    state ≡ InUse number
runs_kept number over is = is
runs_kept number (passes by rest) is = runs_kept number rest is
runs_kept number (releases says rest) is = absurd (other (runs_kept number rest is)) where
  other : {m : ℕ} → Releasing m ≡ InUse number → ⊥
  other same = absurd cc

-- ---- an entry that passes a channel by

-- of a message that doesn't activate
abbrev pub FitsBeside : (Tenure → ℕ) → Place → ℕ → Option Tenure → Option Rsl → Type 0
FitsBeside owner at tenure target (Some (ImmediateAssignCommand i)) = AssignsIn owner at tenure (rr_reading i.information)
FitsBeside owner at tenure target (Some (DataRequest d)) = d.channel ≡ at.number → LeadsBy owner (record { at = at; number = tenure }) target
FitsBeside owner at tenure target _ = Unit {0}

-- an output that fits the tenures, with the target of a command
abbrev pub FitsOut : (Tenure → ℕ) → Place → ℕ → Option Tenure → Out → Type 0
FitsOut owner at tenure target out = FitsBeside owner at tenure (entry_of target out).target (said_to at out)

record Passing (owner : Tenure → ℕ) (at : Place) (active : Bool) (tenure : ℕ) (target : Option Tenure) (o : Option Rsl) : Type 0 where
  asks : acknowledgement at.number active o ≡ []
  unchanged : is_active_then at.number active o ≡ active
  same : tenure_then at.number active tenure o ≡ tenure
  fits : FitsTenure owner at active tenure target o

passing : (owner : Tenure → ℕ) (at : Place) (active : Bool) (tenure : ℕ) (target : Option Tenure) (o : Option Rsl) →
    Passes at.number o →
    FitsBeside owner at tenure target o →
    Passing owner at active tenure target o
passing owner at active tenure target (Some (ChannelActivation a)) beside fits =
    let miss : (a.channel == at.number) ≡ false = ne_eqb a.channel at.number beside in
    record {
      asks = ap (λ (b : Bool). if b && not active then activation_ack at.number ∷ [] else []) miss;
      unchanged = ap (λ (b : Bool). active || b) miss ∙ or-false active;
      same = ap (λ (b : Bool). if b && not active then tenure + 1 else tenure) miss;
      fits = λ is. absurd (beside is);
    }
passing owner at active tenure target (Some (RfChannelRelease number)) beside fits =
    let miss : (number == at.number) ≡ false = ne_eqb number at.number beside in
    record {
      asks = ap (λ (b : Bool). if b then RfChannelReleaseAck at.number ∷ [] else []) miss;
      unchanged = ap (λ (b : Bool). not b && active) miss;
      same = refl;
      fits = tt;
    }
passing owner at active tenure target (Some (ImmediateAssignCommand i)) beside fits = record { asks = refl; unchanged = refl; same = refl; fits = fits }
passing owner at active tenure target
    (Some (DataRequest d)) beside fits = record { asks = refl; unchanged = refl; same = refl; fits = fits }
passing owner at active tenure target _ beside fits = record { asks = refl; unchanged = refl; same = refl; fits = tt }

-- ---- what entries do behind what waits

pub record Works (owner : Tenure → ℕ) (at : Place) (active : Bool) (tenure : ℕ) (entries : List OutboxEntry) (state end : ChannelState) (last : ℕ) : Type 0 where
  pub fits : AreFitting owner at active tenure entries
  pub owed : (xs : List Rsl) → IsOwed at.number state xs → IsOwed at.number end (xs ++ due at.number active entries)
  pub active_then : active_all at.number active entries ≡ is_in_use end
  pub tenure_then : tenure_all at.number active tenure entries ≡ last

works_over : (owner : Tenure → ℕ) (at : Place) (active : Bool) (tenure : ℕ) (state : ChannelState) →
    active ≡ is_in_use state →
    Works owner at active tenure [] state state tenure
works_over owner at active tenure state is = record {
  fits = tt;
  owed = λ xs owed. subst (IsOwed at.number state) (sym (append-nil xs)) owed;
  active_then = is;
  tenure_then = refl;
}

works_behind : (owner : Tenure → ℕ) (at : Place) (active : Bool) (tenure : ℕ) (x : OutboxEntry) (entries : List OutboxEntry) (state end : ChannelState) (last : ℕ) →
    Passing owner at active tenure x.target (rsl_in x.out.frame) →
    Works owner at active tenure entries state end last →
    Works owner at active tenure (x ∷ entries) state end last
works_behind owner at active tenure x entries state end last p works =
    let o : Option Rsl = rsl_in x.out.frame in
    record {
      fits = (p.fits, subst (λ (b : Bool). AreFitting owner at b (tenure_then at.number active tenure o) entries) (sym p.unchanged) (subst (λ (n : ℕ). AreFitting owner at active n entries) (sym p.same) works.fits));
      owed = λ xs owed. subst (λ (ys : List Rsl). IsOwed at.number end (xs ++ ys)) (sym (ap (λ (ys : List Rsl). ys ++ due at.number (is_active_then at.number active o) entries) p.asks ∙ ap (λ (b : Bool). due at.number b entries) p.unchanged)) (works.owed xs owed);
      active_then = ap (λ (b : Bool). active_all at.number b entries) p.unchanged ∙ works.active_then;
      tenure_then = ap (λ (b : Bool). tenure_all at.number b (tenure_then at.number active tenure o) entries) p.unchanged ∙ ap (λ (n : ℕ). tenure_all at.number active n entries) p.same ∙ works.tenure_then;
    }

released_comes : (k number : ℕ) (state : ChannelState) (xs : List Rsl) →
    state ≡ InUse number →
    IsOwed k state xs →
    IsOwed k (Releasing number) (xs ++ RfChannelReleaseAck k ∷ [])
released_comes k number (InUse m) xs is began = ends
released_comes k number (InUse m) xs is begins = begins_and_ends
released_comes k number _ xs is owed = absurd cc

-- a release of a channel that is in use
works_release : (owner : Tenure → ℕ) (at : Place) (number tenure : ℕ) (x : OutboxEntry) (entries : List OutboxEntry) (end : ChannelState) →
    rsl_in x.out.frame ≡ Some (RfChannelRelease at.number) →
    Works owner at false tenure entries (Releasing number) end tenure →
    Works owner at true tenure (x ∷ entries) (InUse number) end tenure
works_release owner at number tenure x entries end says works =
    let hit : (at.number == at.number) ≡ true = eq-eqb at.number at.number refl in
    let off : is_active_then at.number true (rsl_in x.out.frame) ≡ false = ap (is_active_then at.number true) says ∙ ap (λ (b : Bool). not b && true) hit in
    let same : tenure_then at.number true tenure (rsl_in x.out.frame) ≡ tenure = ap (tenure_then at.number true tenure) says in
    let asks : acknowledgement at.number true (rsl_in x.out.frame) ≡ RfChannelReleaseAck at.number ∷ [] = ap (acknowledgement at.number true) says ∙ ap (λ (b : Bool). if b then RfChannelReleaseAck at.number ∷ [] else []) hit in
    record {
      fits = (
        subst (FitsTenure owner at true tenure x.target) (sym says) tt,
        subst (λ (b : Bool). AreFitting owner at b (tenure_then at.number true tenure (rsl_in x.out.frame)) entries) (sym off) (subst (λ (n : ℕ). AreFitting owner at false n entries) (sym same) works.fits),
      );
      owed = λ xs owed.
          subst (IsOwed at.number end) (append_assoc xs (RfChannelReleaseAck at.number ∷ []) (due at.number false entries)
          ∙ sym (ap (λ (ys : List Rsl). xs ++ (ys ++ due at.number (is_active_then at.number true (rsl_in x.out.frame)) entries)) asks ∙ ap (λ (b : Bool). xs ++ (RfChannelReleaseAck at.number ∷ [] ++ due at.number b entries)) off))
          (works.owed (xs ++ RfChannelReleaseAck at.number ∷ []) (released_comes at.number number (InUse number) xs refl owed));
      active_then = ap (λ (b : Bool). active_all at.number b entries) off ∙ works.active_then;
      tenure_then = ap (λ (b : Bool). tenure_all at.number b (tenure_then at.number true tenure (rsl_in x.out.frame)) entries) off ∙ ap (λ (n : ℕ). tenure_all at.number false n entries) same ∙ works.tenure_then;
    }

began_comes : (k number : ℕ) (xs : List Rsl) → IsOwed k Free xs → IsOwed k (InUse number) (xs ++ activation_ack k ∷ [])
began_comes k number xs nothing = begins

-- an activation of a channel that is free
works_activation : (owner : Tenure → ℕ) (at : Place) (number tenure last : ℕ) (x : OutboxEntry) (a : Activation) (entries : List OutboxEntry) (end : ChannelState) →
    rsl_in x.out.frame ≡ Some (ChannelActivation a) →
    a.channel ≡ at.number →
    at.number < CHANNEL_NUMBERS →
    Works owner at true (tenure + 1) entries (InUse number) end last →
    Works owner at false tenure (x ∷ entries) Free end last
works_activation owner at number tenure last x a entries end says is few works =
    let hit : (a.channel == at.number) ≡ true = eq-eqb a.channel at.number is in
    let on : is_active_then at.number false (rsl_in x.out.frame) ≡ true = ap (is_active_then at.number false) says ∙ hit in
    let next : tenure_then at.number false tenure (rsl_in x.out.frame) ≡ tenure + 1 = ap (tenure_then at.number false tenure) says ∙ ap (λ (b : Bool). if b && true then tenure + 1 else tenure) hit in
    let asks : acknowledgement at.number false (rsl_in x.out.frame) ≡ activation_ack at.number ∷ [] = ap (acknowledgement at.number false) says ∙ ap (λ (b : Bool). if b && true then activation_ack at.number ∷ [] else []) hit in
    record {
      fits = (
        subst (FitsTenure owner at false tenure x.target) (sym says) (λ _. (refl, few)),
        subst (λ (b : Bool). AreFitting owner at b (tenure_then at.number false tenure (rsl_in x.out.frame)) entries) (sym on) (subst (λ (n : ℕ). AreFitting owner at true n entries) (sym next) works.fits),
      );
      owed = λ xs owed.
          subst (IsOwed at.number end) (append_assoc xs (activation_ack at.number ∷ []) (due at.number true entries)
          ∙ sym (ap (λ (ys : List Rsl). xs ++ (ys ++ due at.number (is_active_then at.number false (rsl_in x.out.frame)) entries)) asks ∙ ap (λ (b : Bool). xs ++ (activation_ack at.number ∷ [] ++ due at.number b entries)) on))
          (works.owed (xs ++ activation_ack at.number ∷ []) (began_comes at.number number xs owed));
      active_then = ap (λ (b : Bool). active_all at.number b entries) on ∙ works.active_then;
      tenure_then = ap (λ (b : Bool). tenure_all at.number b (tenure_then at.number false tenure (rsl_in x.out.frame)) entries) on ∙ ap (λ (n : ℕ). tenure_all at.number true n entries) next ∙ works.tenure_then;
    }

-- ---- of the outputs, the entries of the channel's station

abbrev pub entries_to : Place → Option Tenure → List Out → List OutboxEntry
entries_to at target outs = to_link at.station (map (entry_of target) outs)

pub entry_out : (target : Option Tenure) (out : Out) → (entry_of target out).out ≡ out
entry_out None out = refl
entry_out (Some tenure) out = refl

entries_own : (at : Place) (target : Option Tenure) (out : Out) (outs : List Out) →
    (out.to == at.station) ≡ true →
    entries_to at target (out ∷ outs) ≡ entry_of target out ∷ entries_to at target outs
entries_own at target out outs is =
    ap (λ (o : Out). cond (nat_eq o.to at.station) (entry_of target out ∷ entries_to at target outs) (entries_to at target outs)) (entry_out target out)
    ∙ ap (λ (b : Bool). cond b (entry_of target out ∷ entries_to at target outs) (entries_to at target outs)) is

entries_other : (at : Place) (target : Option Tenure) (out : Out) (outs : List Out) →
    (out.to == at.station) ≡ false →
    entries_to at target (out ∷ outs) ≡ entries_to at target outs
entries_other at target out outs is =
    ap (λ (o : Out). cond (nat_eq o.to at.station) (entry_of target out ∷ entries_to at target outs) (entries_to at target outs)) (entry_out target out)
    ∙ ap (λ (b : Bool). cond b (entry_of target out ∷ entries_to at target outs) (entries_to at target outs)) is

-- what is said to the station is the entry's message
own_says : (at : Place) (target : Option Tenure) (out : Out) →
    (out.to == at.station) ≡ true →
    rsl_in (entry_of target out).out.frame ≡ said_to at out
own_says at target out is = ap (λ (o : Out). rsl_in o.frame) (entry_out target out) ∙ sym (ap (λ (b : Bool). if b then rsl_in out.frame else None) is)

other_says : (at : Place) (out : Out) → (out.to == at.station) ≡ false → said_to at out ≡ None
other_says at out is = ap (λ (b : Bool). if b then rsl_in out.frame else None) is

never_none : {m : Rsl} → None ≡ Some m → ⊥
never_none is = absurd cc

works_passes : (owner : Tenure → ℕ) (at : Place) (target : Option Tenure) (active : Bool) (tenure : ℕ) (out : Out) (outs : List Out) (state end : ChannelState) (last : ℕ) →
    Passes at.number (said_to at out) →
    FitsOut owner at tenure target out →
    Works owner at active tenure (entries_to at target outs) state end last →
    Works owner at active tenure (entries_to at target (out ∷ outs)) state end last
works_passes owner at target active tenure out outs state end last beside fits works =
    elim (cases_Bool (out.to == at.station)) [
      | inl own ↦
          subst (λ (es : List OutboxEntry). Works owner at active tenure es state end last) (sym (entries_own at target out outs own))
          (works_behind owner at active tenure (entry_of target out) (entries_to at target outs) state end last
          (subst (Passing owner at active tenure (entry_of target out).target) (sym (own_says at target out own)) (passing owner at active tenure (entry_of target out).target (said_to at out) beside fits)) works)
      | inr other ↦ subst (λ (es : List OutboxEntry). Works owner at active tenure es state end last) (sym (entries_other at target out outs other)) works
    ]

pub runs_work : (owner : Tenure → ℕ) (at : Place) (target : Option Tenure) (tenure : ℕ) {state end : ChannelState} {outs : List Out} →
    Runs at state outs end →
    AllByRecursion (FitsOut owner at tenure target) outs →
    (active : Bool) →
    active ≡ is_in_use state →
    Works owner at active tenure (entries_to at target outs) state end tenure
runs_work owner at target tenure {state} over fits active is = works_over owner at active tenure state is
runs_work owner at target tenure {state} {end} (passes {out} {outs} beside rest) fits active is =
    works_passes owner at target active tenure out outs state end tenure beside fits.0 (runs_work owner at target tenure rest fits.1 active is)
runs_work owner at target tenure {end} (releases {number} {out} {outs} says rest) fits active is =
    elim (cases_Bool (out.to == at.station)) [
      | inl own ↦
          subst (λ (es : List OutboxEntry). Works owner at active tenure es (InUse number) end tenure) (sym (entries_own at target out outs own))
          (subst (λ (b : Bool). Works owner at b tenure (entry_of target out ∷ entries_to at target outs) (InUse number) end tenure) (sym is)
          (works_release owner at number tenure (entry_of target out) (entries_to at target outs) end (own_says at target out own ∙ says) (runs_work owner at target tenure rest fits.1 false refl)))
      | inr other ↦ absurd (never_none (sym (other_says at out other) ∙ says))
    ]

-- either no tenure begins, and the channel was in use by whom it is; or one does
pub record Puts (owner : Tenure → ℕ) (at : Place) (active : Bool) (tenure : ℕ) (entries : List OutboxEntry) (state end : ChannelState) : Type 0 where
  pub last : ℕ
  pub works : Works owner at active tenure entries state end last
  pub counts : ((last ≡ tenure) × ((number : ℕ) → end ≡ InUse number → state ≡ InUse number)) ⊎ ((last ≡ tenure + 1) × (state ≡ Free))

-- the outputs fit the tenures, and where the channel is free any
abbrev pub FitAll : (Tenure → ℕ) → Place → Option Tenure → ℕ → ChannelState → List Out → Type 0
FitAll owner at target tenure state outs = (number : ℕ) → (number ≡ tenure) ⊎ (state ≡ Free) → AllByRecursion (FitsOut owner at number target) outs

pub runs_put_before : (owner : Tenure → ℕ) (at : Place) (target : Option Tenure) (tenure : ℕ) {state end : ChannelState} {outs : List Out} →
    RunsThrough at state outs end →
    FitAll owner at target tenure state outs →
    (active : Bool) →
    active ≡ is_in_use state →
    Puts owner at active tenure (entries_to at target outs) state end
runs_put_before owner at target tenure (runs all) fits active is = record {
  last = tenure;
  works = runs_work owner at target tenure all (fits tenure (inl refl)) active is;
  counts = inl (refl, λ number same. runs_kept number all same);
}
runs_put_before owner at target tenure {state} {end} (first_passes {out} {outs} beside rest) fits active is =
    let puts = runs_put_before owner at target tenure rest (λ number which. (fits number which).1) active is in
    record {
      last = puts.last;
      works = works_passes owner at target active tenure out outs state end puts.last beside (fits tenure (inl refl)).0 puts.works;
      counts = puts.counts;
    }
runs_put_before owner at target tenure {end} (activates {number} {out} {outs} a says channel few rest) fits active is =
    elim (cases_Bool (out.to == at.station)) [
      | inl own ↦ record {
        last = tenure + 1;
        works = subst (λ (es : List OutboxEntry). Works owner at active tenure es Free end (tenure + 1)) (sym (entries_own at target out outs own))
            (subst (λ (b : Bool). Works owner at b tenure (entry_of target out ∷ entries_to at target outs) Free end (tenure + 1)) (sym is)
            (works_activation owner at number tenure (tenure + 1) (entry_of target out) a (entries_to at target outs) end (own_says at target out own ∙ says) channel few
            (runs_work owner at target (tenure + 1) rest (fits (tenure + 1) (inr refl)).1 true refl)));
        counts = inr (refl, refl);
      }
      | inr other ↦ absurd (never_none (sym (other_says at out other) ∙ says))
    ]

-- ---- where the link is down, nothing is put, and what was still on its way is lost

runs_lost : {at : Place} {state end : ChannelState} {outs : List Out} →
    Runs at state outs end →
    (xs lost : List Rsl) →
    IsOwed at.number state (xs ++ lost) →
    (more : List Rsl) × IsOwed at.number end (xs ++ more)
runs_lost over xs lost owed = (lost, owed)
runs_lost (passes beside rest) xs lost owed = runs_lost rest xs lost owed
runs_lost {at} (releases {number} says rest) xs lost owed =
    runs_lost rest xs (lost ++ RfChannelReleaseAck at.number ∷ [])
    (subst (IsOwed at.number (Releasing number)) (append_assoc xs lost (RfChannelReleaseAck at.number ∷ [])) (released_comes at.number number (InUse number) (xs ++ lost) refl owed))

pub lost_in_run : {at : Place} {state end : ChannelState} {outs : List Out} →
    RunsThrough at state outs end →
    (xs lost : List Rsl) →
    IsOwed at.number state (xs ++ lost) →
    ((more : List Rsl) × IsOwed at.number end (xs ++ more)) × (((number : ℕ) → end ≡ InUse number → state ≡ InUse number) ⊎ (state ≡ Free))
lost_in_run (runs all) xs lost owed = (runs_lost all xs lost owed, inl (λ number is. runs_kept number all is))
lost_in_run (first_passes beside rest) xs lost owed = lost_in_run rest xs lost owed
lost_in_run {at} (activates {number} a says channel few rest) xs lost owed = (
  runs_lost rest xs (lost ++ activation_ack at.number ∷ []) (subst (IsOwed at.number (InUse number)) (append_assoc xs lost (activation_ack at.number ∷ [])) (began_comes at.number number (xs ++ lost) owed)),
  inr refl,
)
