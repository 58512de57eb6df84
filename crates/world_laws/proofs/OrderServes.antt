-- SPDX-License-Identifier: MIT OR Apache-2.0
-- The controller serves each channel, by the laws of its life.
use Rattle.world_laws.proofs.Prelude.{◌≡◌, ◌⊎◌, inl, inr, ℕ, zero, suc, ◌==◌, ◌≤◌, nat_eq, Bool, true, false, cond, if◌then◌else◌, List, []}
use Rattle.world_laws.proofs.Prelude.{◌∷◌, option_map, set, slice_index_or, Contains, Option, Some, None, Ok, refl, sym, ap, ◌∙◌}
use Rattle.world_laws.proofs.Prelude.{subst, arith, true≢false, cases_Bool, eqb-true, AllByRecursion, Place, Out, connection_of}
use Rattle.world_laws.proofs.Prelude.{NamesItsMobile, SameRequest, is_link_up, AreUsed, links_with, step_keeps_rest, find_above, contains_none}
use Rattle.world_laws.proofs.Prelude.{Ready, ChannelState, Free, InUse, Releasing, Step, Take, Controller, Entry, channel_state, entry_of}
use Rattle.world_laws.proofs.Prelude.{hears, step, RrMessage, ImmediateAssignment, RrFault, What, DataMessage, Rsl, Tenure, Agrees, asker}
use Rattle.world_laws.proofs.Prelude.{tenure_behind, rsl_in, Actors, is_up, entries_to, said_to, Serves, hear, Result, unwrap_or-slice_get}
use Rattle.world_laws.proofs.Prelude.{SendsMessages, used_places, rr_reading, LeadsBy, FitAll, FitsBeside, entry_out}
use Rattle.controller_model.specs.LifeLaws.Reach.{PutsOnUpLinks}
use Rattle.controller_model.specs.declared.step.Step.TheVariants.{Tick}
use Rattle.ruled_relay.specs.declared.item.What.TheVariants as whats
use Rattle.rsl_codec.specs.declared.rsl.Rsl.TheVariants as rsl
use Rattle.world_model.specs.OwnerLines.{AssignsIn}
use Rattle.world_model.specs.Relay.{commands, entry_of as outbox_entry}
use Rattle.world_laws.proofs.OrderNames.{NamesIn, NamesOut, NamesUser}
use Rattle.world_laws.proofs.OrderTurns.{Serving}

-- ---- links

is_up_at : (links : List Bool) (link : ℕ) → is_link_up links link ≡ slice_index_or links link false
is_up_at links link = unwrap_or-slice_get links link false

was_at : (links : List Bool) (source link : ℕ) →
    slice_index_or (set links source false) link false ≡ true →
    slice_index_or links link false ≡ true
was_at (b ∷ links) zero zero up = absurd cc
was_at (b ∷ links) (suc source) (suc link) up = was_at links source link up
was_at _ _ _ up = up

down_at : (links : List Bool) (source : ℕ) → slice_index_or (set links source false) source false ≡ false
down_at [] source = refl
down_at (b ∷ links) zero = refl
down_at (b ∷ links) (suc source) = down_at links source

pub broken_down : (links : List Bool) (source : ℕ) → is_link_up (set links source false) source ≡ false
broken_down links source = is_up_at (set links source false) source ∙ down_at links source

heard_with : (up : Bool) (source : ℕ) (what : What) (c : Controller) (link : ℕ) →
    is_link_up (links_with up source what c) link ≡ true →
    is_link_up c.links link ≡ true
heard_with true source whats.Down c link up = is_up_at c.links link ∙ was_at c.links source link (sym (is_up_at (set c.links source false) link) ∙ up)
heard_with _ source _ c link up = up

pub heard_before : (c : Controller) (s : Step) (link : ℕ) → hears (step c s).next link ≡ true → hears c link ≡ true
heard_before c (Take item) link up = heard_with (hears c item.source) item.source item.what c link (ap (λ (links : List Bool). is_link_up links link) (sym (step_keeps_rest c (Take item)).links_are) ∙ up)
heard_before c (Tick ms) link up = ap (λ (links : List Bool). is_link_up links link) (sym (step_keeps_rest c (Tick ms)).links_are) ∙ up

-- ---- what is put is for links that are up

pub none_to : (next : Controller) (at : Place) (target : Option Tenure) (outs : List Out) →
    AllByRecursion (λ out. hears next out.to ≡ true) outs →
    hears next at.station ≡ false →
    entries_to at target outs ≡ []
none_to next at target [] all down = refl
none_to next at target (out ∷ outs) all down =
    ap (λ (o : Out). cond (nat_eq o.to at.station) (outbox_entry target out ∷ entries_to at target outs) (entries_to at target outs)) (entry_out target out)
    ∙ ap (λ (b : Bool). cond b (outbox_entry target out ∷ entries_to at target outs) (entries_to at target outs)) (other (cases_Bool (out.to == at.station)))
    ∙ none_to next at target outs all.1 down
  where
    other : ((out.to == at.station) ≡ true) ⊎ ((out.to == at.station) ≡ false) → (out.to == at.station) ≡ false
    other (inr miss) = miss
    other (inl hit) = absurd (true≢false (sym all.0 ∙ ap (hears next) (eqb-true out.to at.station hit) ∙ down))

-- ---- what is known of the controller before a step, by the laws of its life

pub record Lawful (c : Controller) (s : Step) : Type 0 where
  pub ready : Ready c
  pub used : AreUsed c
  pub sent : SendsMessages c s
  pub up : PutsOnUpLinks c s
  pub names : (number : ℕ) → 1 ≤ number → NamesItsMobile number c s

same_access : (o now : Option Entry) (mobile : ℕ) →
    SameRequest (option_map (λ (e : Entry). e.connection) o) (option_map (λ (e : Entry). e.connection) now) →
    option_map (λ (e : Entry). e.connection.request.access) now ≡ Some mobile →
    (o ≡ None → ⊥) →
    option_map (λ (e : Entry). e.connection.request.access) o ≡ Some mobile
same_access None now mobile same is there = absurd (there refl)
same_access (Some e) None mobile same is there = absurd cc
same_access (Some e) (Some x) mobile same is there = ap (λ (r : _). Some r.access) (sym same) ∙ is

users_of : (c : Controller) (s : Step) (at : Place) (number mobile : ℕ) →
    Lawful c s →
    asker (step c s).next number ≡ Some mobile →
    channel_state c at ≡ InUse number →
    asker c number ≡ Some mobile
users_of c s at number mobile laws asks used = by number asks (laws.used.using at number).0 used where
  by : (number : ℕ) →
      asker (step c s).next number ≡ Some mobile →
      (channel_state c at ≡ InUse number → Contains (used_places (connection_of c number)) at) →
      channel_state c at ≡ InUse number →
      asker c number ≡ Some mobile
  by zero asks uses used =
      let none : entry_of c 0 ≡ None = find_above 0 c.entries laws.ready.numbered.above in
      absurd (contains_none at (subst (λ (o : Option Entry). Contains (used_places (option_map (λ (e : Entry). e.connection) o)) at) none (uses used)))
  by (suc n) asks uses used =
      same_access (entry_of c (suc n)) (entry_of (step c s).next (suc n)) mobile (laws.names (suc n) (omega arith)).keeps_request asks
      (λ none. contains_none at (subst (λ (o : Option Entry). Contains (used_places (option_map (λ (e : Entry). e.connection) o)) at) none (uses used)))

-- ---- what is put fits the tenures

pub use_free : (heard : List Rsl) (state : ChannelState) (number : ℕ) → state ≡ InUse number → hear heard state ≡ Free → ⊥
use_free (rsl.RfChannelReleaseAck channel ∷ rest) (Releasing m) number used free = absurd cc
use_free (rsl.RfChannelReleaseAck channel ∷ rest) Free number used free = absurd cc
use_free (rsl.RfChannelReleaseAck channel ∷ rest) (InUse m) number used free = absurd cc
use_free _ state number used free = absurd (let both : InUse number ≡ Free = sym used ∙ free in cc)

-- a command leads to a tenure of the mobile whose connection uses the channel
abbrev pub LeadsOwn : (Tenure → ℕ) → Actors → Place → Option Tenure → Out → Type 0
LeadsOwn owner w at target out =
    (tenure : Tenure) → target ≡ Some tenure → (d : DataMessage) → said_to at out ≡ Some (rsl.DataRequest d) → d.channel ≡ at.number → (number : ℕ) × (channel_state w.controller at ≡ InUse number) × (owner tenure ≡ owner (tenure_behind w at))

module _ (owner : Tenure → ℕ) (w : Actors) (at : Place) (heard : List Rsl) (agrees : Agrees owner w at) (up : is_up w at.station ≡ true) (hearing : hears w.controller at.station ≡ true) where
  abbrev state : ChannelState
  state = channel_state w.controller at

  abbrev Which : ℕ → Type 0
  Which number = (number ≡ (tenure_behind w at).number) ⊎ (hear heard state ≡ Free)

  assigns_fit : (number : ℕ) → Which number → (r : Result RrMessage RrFault) → NamesUser at w.controller r → AssignsIn owner at number r
  assigns_fit number which (Ok (ImmediateAssignment channel request advance)) names = λ is. by (names is) which where
    by : (n : ℕ) × (state ≡ InUse n) × (asker w.controller n ≡ Some (slice_index_or request 0 0)) →
        Which number →
        owner (record { at = at; number = number }) ≡ slice_index_or request 0 0
    by (n, used, asks) (inl same) = ap (λ (k : ℕ). owner (record { at = at; number = k })) same ∙ agrees.own n (slice_index_or request 0 0) hearing used asks (λ down silent. true≢false (sym up ∙ down))
    by (n, used, asks) (inr free) = absurd (use_free heard state n used free)
  assigns_fit number which _ names = tt

  beside_fits : (number : ℕ) →
      Which number →
      (target : Option Tenure) (o : Option Rsl) →
      NamesIn at w.controller o →
      ((d : DataMessage) → o ≡ Some (rsl.DataRequest d) → d.channel ≡ at.number → LeadsBy owner (record { at = at; number = number }) target) →
      FitsBeside owner at number target o
  beside_fits number which target (Some (rsl.ImmediateAssignCommand i)) names leads = assigns_fit number which (rr_reading i.information) names
  beside_fits number which target (Some (rsl.DataRequest d)) names leads = leads d refl
  beside_fits number which target _ names leads = tt

  out_leads : (number : ℕ) →
      Which number →
      (target : Option Tenure) (out : Out) →
      LeadsOwn owner w at target out →
      (d : DataMessage) →
      said_to at out ≡ Some (rsl.DataRequest d) →
      d.channel ≡ at.number →
      LeadsBy owner (record { at = at; number = number }) (outbox_entry target out).target
  out_leads number which None out leads d is same = tt
  out_leads number which (Some tenure) out leads d is same = by (commands (rsl_in out.frame)) (leads tenure refl d is same) which where
    by : (b : Bool) → (n : ℕ) × (state ≡ InUse n) × (owner tenure ≡ owner (tenure_behind w at)) →
        Which number →
        LeadsBy owner (record { at = at; number = number }) (if b then Some tenure else None)
    by false own which = tt
    by true (n, used, own) (inl now) = own ∙ ap (λ (k : ℕ). owner (record { at = at; number = k })) (sym now)
    by true (n, used, own) (inr free) = absurd (use_free heard state n used free)

  fit_all : (target : Option Tenure) (outs : List Out) →
      AllByRecursion (NamesOut at w.controller) outs →
      AllByRecursion (LeadsOwn owner w at target) outs →
      FitAll owner at target (tenure_behind w at).number (hear heard state) outs
  fit_all target [] names leads = λ number which. tt
  fit_all target (out ∷ outs) names leads = λ number which. (
    beside_fits number which (outbox_entry target out).target (said_to at out) names.0 (out_leads number which target out leads.0),
    fit_all target outs names.1 leads.1 number which,
  )

-- ---- so it serves the channel

pub serves_by : (owner : Tenure → ℕ) (w : Actors) (at : Place) (least : 1 ≤ at.station) (target : Option Tenure) (s : Step) (heard : List Rsl) → Agrees owner w at → Lawful w.controller s
    → (hears (step w.controller s).next at.station ≡ true → Serving at least w.controller (hear heard (channel_state w.controller at)) (step w.controller s))
    → (hears (step w.controller s).next at.station ≡ true → is_up w at.station ≡ true → AllByRecursion (LeadsOwn owner w at target) (step w.controller s).outs) → Serves owner w at target (step w.controller s) heard
serves_by owner w at least target s heard agrees laws serving leads = record {
  hearing = heard_before w.controller s at.station;
  silent = none_to (step w.controller s).next at target (step w.controller s).outs laws.up;
  moves = λ hearing. (serving hearing laws.sent).0;
  fits = λ hearing up. fit_all owner w at heard agrees up (heard_before w.controller s at.station hearing) target (step w.controller s).outs (serving hearing laws.sent).1 (leads hearing up);
  users = λ number mobile asks used. users_of w.controller s at number mobile laws asks used;
}
