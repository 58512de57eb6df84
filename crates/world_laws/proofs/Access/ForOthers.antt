-- SPDX-License-Identifier: MIT OR Apache-2.0
-- What the controller puts for others when it handles an item, or time passes for it, isn't a
-- connection's.
use Rattle.world_laws.proofs.Prelude.{◌≡◌, ◌≢◌, ℕ, zero, suc, ◌+◌, ◌≤◌, ◌⊎◌, nat_eq, Bool, true, false, List, [], ◌∷◌, option_map, Option}
use Rattle.world_laws.proofs.Prelude.{Some, None, refl, sym, ap, ◌∙◌, subst, arith, inl, inr, AllByRecursion, eqb-true, eqb-false}
use Rattle.world_laws.proofs.Prelude.{Message, Out, outs_of, Connection, connection_of, IsNumbered, IsOctetStep, IsOfOctets, conn_of}
use Rattle.world_laws.proofs.Prelude.{life_fits, Step, Take, Controller, Entry, hears, step, concerned, Frame, AreOctets, RelayItem, What}
use Rattle.world_laws.proofs.Prelude.{AreAllowed, Parameters, Event, Tenure, actors_after_all, target_in, rsl_in, all_steps, Actors}
use Rattle.world_laws.proofs.Prelude.{new_actors, FollowsTable-new, frame_leaves, frame_silent, PassesBy, frame_passes, life, word_of}
use Rattle.world_laws.proofs.Prelude.{leading_by, leading_from_outbox, commanded_target, IsHad, commanded_channels, IsForOthers}
use Rattle.world_laws.proofs.Prelude.{AreForOthers, entry_out}
use Rattle.controller_model.specs.Life.{take}
use Rattle.ruled_relay.specs.declared.item.What.TheVariants as whats
use Rattle.world_model.specs.Relay.{entry_of}
use Rattle.world_laws.proofs.OthersFrame.{frames_are_for_others_new}
use Rattle.world_laws.proofs.Quiet.{all_of}
use Rattle.world_laws.proofs.Access.Numbered.{IsFrom, step_from}
use Rattle.world_laws.proofs.Access.Turning.{none_own}
use Rattle.world_laws.proofs.OwnTurn.{none_leads}
use Rattle.world_laws.proofs.References.Right.{other_carries}

-- ---- one output

-- no message of a station
leads_nowhere : (channel : ℕ) (target : Option Tenure) (out : Out) →
    rsl_in out.frame ≡ None →
    leading_from_outbox channel (entry_of target out) ≡ []
leads_nowhere channel target out none = ap (λ (o : Out). leading_by channel (entry_of target out).target (rsl_in o.frame)) (entry_out target out) ∙ ap (leading_by channel (entry_of target out).target) none

without_target : (s : Connection) (out : Out) → out.conn ≢ s.number → IsForOthers None s out
without_target s out differs = record {
  carries = other_carries s.number out differs;
  leads = all_of (λ c. out.to ≡ c.station → leading_from_outbox c.number (entry_of None out) ≡ []) (s.serving ∷ commanded_channels (commanded_target s.state)) (λ c to. none_leads c.number out);
}

pub all_without : (s : Connection) (outs : List Out) → AreForOthers None s outs
all_without s [] = tt
all_without s (out ∷ outs) = ((λ differs. without_target s out differs), all_without s outs)

of_nobody : (target : Option Tenure) (s : Connection) (outs : List Out) →
    AllByRecursion (λ out. rsl_in out.frame ≡ None) outs →
    AreForOthers target s outs
of_nobody target s [] all = tt
of_nobody target s (out ∷ outs) all = (
  (λ differs. record {
    carries = other_carries s.number out differs;
    leads = all_of (λ c. out.to ≡ c.station → leading_from_outbox c.number (entry_of target out) ≡ []) (s.serving ∷ commanded_channels (commanded_target s.state)) (λ c to. leads_nowhere c.number target out all.0);
  }),
  of_nobody target s outs all.1,
)

of_others : (target : Option Tenure) (s : Connection) (outs : List Out) →
    AllByRecursion (IsForOthers target s) outs →
    AreForOthers target s outs
of_others target s [] all = tt
of_others target s (out ∷ outs) all = ((λ differs. all.0), of_others target s outs all.1)

own_alone : (target : Option Tenure) (s : Connection) (put : List Message) → AreForOthers target s (outs_of s.number put)
own_alone target s [] = tt
own_alone target s (m ∷ put) = ((λ differs. absurd (differs (conn_of s.number m))), own_alone target s put)

-- outputs of which none is a connection's
nobodys : (outs : List Out) →
    AllByRecursion IsFrom outs →
    ((m : ℕ) → 1 ≤ m → AllByRecursion (λ out. out.conn ≢ m) outs) →
    AllByRecursion (λ out. rsl_in out.frame ≡ None) outs
nobodys [] from none = tt
nobodys (out ∷ outs) from none = (by from.0, nobodys outs from.1 (λ m least. (none m least).1)) where
  by : (1 ≤ out.conn) ⊎ (rsl_in out.frame ≡ None) → rsl_in out.frame ≡ None
  by (inl least) = absurd ((none out.conn least).0 refl)
  by (inr is) = is

module _ (settings : Parameters) (done : List Event) (s : Connection) where
  abbrev world : Actors
  world = actors_after_all (new_actors settings) done

  abbrev steps : List Step
  steps = all_steps (new_actors settings) done

  -- a frame
  frame_others : (source : ℕ) (frame : Frame) → AreAllowed settings → AllByRecursion IsOctetStep steps → AreOctets frame.body → 1 ≤ s.number → IsHad world s
      → (o : Option ℕ) → concerned world.controller (word_of source frame) ≡ o → AreForOthers (target_in world source (whats.Frame frame)) s (step world.controller (Take (record { source = source; what = whats.Frame frame }))).outs
  unfolding take
  frame_others source frame allowed octets own least had o is = by o is where
    item : RelayItem
    item = record { source = source; what = whats.Frame frame }

    numbered : IsNumbered world.controller
    numbered = subst IsNumbered (sym (FollowsTable-new settings done)) (life_fits settings steps 1 (omega arith)).numbered

    none : ((m : ℕ) → 1 ≤ m → concerned world.controller (word_of source frame) ≢ Some m) →
        AreForOthers (target_in world source (whats.Frame frame)) s (step world.controller (Take item)).outs
    none isnt = of_nobody (target_in world source (whats.Frame frame)) s (step world.controller (Take item)).outs (nobodys (step world.controller (Take item)).outs (step_from world.controller (Take item) numbered)
        (λ m from_one. none_own m (step world.controller (Take item)).outs (frame_silent (hears world.controller source) m source frame world.controller (λ ping. from_one) (isnt m from_one))))

    by : (o : Option ℕ) →
        concerned world.controller (word_of source frame) ≡ o →
        AreForOthers (target_in world source (whats.Frame frame)) s (step world.controller (Take item)).outs
    by None is = none (λ m from_one same. absurd (let both : None ≡ Some m = sym is ∙ same in cc))
    by (Some zero) is = none (λ m from_one same. absurd (let zero_is : zero ≡ m = (let both : Some zero ≡ Some m = sym is ∙ same in cc) in omega (arith, zero_is, from_one)))
    by (Some (suc k)) is = either (nat_eq (suc k) s.number) refl where
      either : (b : Bool) →
          nat_eq (suc k) s.number ≡ b →
          AreForOthers (target_in world source (whats.Frame frame)) s (step world.controller (Take item)).outs
      either false miss =
          of_others (target_in world source (whats.Frame frame)) s (step world.controller (Take item)).outs
          (frames_are_for_others_new settings done s item allowed octets had (record { frame = frame; is = refl; octets = own; other = suc k; concerns = is; from_one = (omega arith); differs = λ same. eqb-false (suc k) s.number miss (sym same) }))
      either true hit =
          let same : suc k ≡ s.number = eqb-true (suc k) s.number hit in
          let by_table = FollowsTable-new settings done in
          let passes : PassesBy (s.number + 1) s.number (life settings steps).next (Take item) = frame_passes settings steps (s.number + 1) s.number source frame allowed (omega arith) least (λ e. absurd (omega (arith, e))) (ap (λ (c : Controller). concerned c (word_of source frame)) (sym by_table) ∙ is ∙ ap (λ (n : ℕ). Some n) same) in
          subst (AreForOthers (target_in world source (whats.Frame frame)) s) (sym (ap (λ (c : Controller). (step c (Take item)).outs) by_table ∙ passes.outs)) (own_alone (target_in world source (whats.Frame frame)) s passes.put)

  -- whatever arrives
  pub item_others : (item : RelayItem) →
      AreAllowed settings →
      AllByRecursion IsOctetStep steps →
      IsOfOctets item.what →
      1 ≤ s.number →
      IsHad world s →
      AreForOthers (target_in world item.source item.what) s (take item world.controller).outs
  item_others item allowed octets own least had = by item.what refl own where
    by : (what : What) →
        item.what ≡ what →
        IsOfOctets what →
        AreForOthers (target_in world item.source item.what) s (take item world.controller).outs
    by whats.Down is own = subst (λ (x : What). AreForOthers (target_in world item.source x) s (take item world.controller).outs) (sym is) (all_without s (take item world.controller).outs)
    by (whats.Frame frame) is own =
        subst (λ (x : What). AreForOthers (target_in world item.source x) s (take (record { source = item.source; what = x }) world.controller).outs) (sym is)
        (frame_others item.source frame allowed octets own least had (concerned world.controller (word_of item.source frame)) refl)

  -- a connection begins: all is its own
  frame_begins : (source : ℕ) (frame : Frame) → AreAllowed settings → 1 ≤ s.number → connection_of world.controller s.number ≡ None → connection_of (step world.controller (Take (record { source = source; what = whats.Frame frame }))).next s.number ≡ Some s
      → (o : Option ℕ) → concerned world.controller (word_of source frame) ≡ o → AreForOthers (target_in world source (whats.Frame frame)) s (step world.controller (Take (record { source = source; what = whats.Frame frame }))).outs
  frame_begins source frame allowed least none there o is = by o is where
    item : RelayItem
    item = record { source = source; what = whats.Frame frame }

    by_table : world.controller ≡ (life settings steps).next
    by_table = FollowsTable-new settings done

    left : (concerned world.controller (word_of source frame) ≢ Some s.number) → ⊥
    left isnt =
        let same : connection_of (step world.controller (Take item)).next s.number ≡ connection_of world.controller s.number = subst (λ (c : Controller). connection_of (step c (Take item)).next s.number ≡ connection_of c s.number) (sym by_table)
        (ap (λ (x : Option Entry). option_map (λ e. e.connection) x) (frame_leaves settings steps s.number source frame allowed least (subst (λ (c : Controller). concerned c (word_of source frame) ≢ Some s.number) by_table isnt)).entry) in
        absurd (let both : None ≡ Some s = sym none ∙ sym same ∙ there in cc)

    by : (o : Option ℕ) →
        concerned world.controller (word_of source frame) ≡ o →
        AreForOthers (target_in world source (whats.Frame frame)) s (step world.controller (Take item)).outs
    by None is = absurd (left (λ same. absurd (let both : None ≡ Some s.number = sym is ∙ same in cc)))
    by (Some k) is = either (nat_eq k s.number) refl where
      either : (b : Bool) →
          nat_eq k s.number ≡ b →
          AreForOthers (target_in world source (whats.Frame frame)) s (step world.controller (Take item)).outs
      either false miss = absurd (left (λ same. eqb-false k s.number miss (let both : Some k ≡ Some s.number = sym is ∙ same in cc)))
      either true hit =
          let passes : PassesBy (s.number + 1) s.number (life settings steps).next (Take item) = frame_passes settings steps (s.number + 1) s.number source frame allowed (omega arith) least (λ e. absurd (omega (arith, e))) (ap (λ (c : Controller). concerned c (word_of source frame)) (sym by_table) ∙ is ∙ ap (λ (n : ℕ). Some n) (eqb-true k s.number hit)) in
          subst (AreForOthers (target_in world source (whats.Frame frame)) s) (sym (ap (λ (c : Controller). (step c (Take item)).outs) by_table ∙ passes.outs)) (own_alone (target_in world source (whats.Frame frame)) s passes.put)

  pub item_begins : (item : RelayItem) →
      AreAllowed settings →
      1 ≤ s.number →
      connection_of world.controller s.number ≡ None →
      connection_of (take item world.controller).next s.number ≡ Some s →
      AreForOthers (target_in world item.source item.what) s (take item world.controller).outs
  item_begins item allowed least none there = by item.what refl where
    by : (what : What) → item.what ≡ what → AreForOthers (target_in world item.source item.what) s (take item world.controller).outs
    by whats.Down is = subst (λ (x : What). AreForOthers (target_in world item.source x) s (take item world.controller).outs) (sym is) (all_without s (take item world.controller).outs)
    by (whats.Frame frame) is =
        let same : item ≡ record { source = item.source; what = whats.Frame frame } = ap (λ (x : What). record { source = item.source; what = x }) is in
        subst (λ (i : RelayItem). AreForOthers (target_in world i.source i.what) s (take i world.controller).outs) (sym same)
        (frame_begins item.source frame allowed least none (ap (λ (i : RelayItem). connection_of (take i world.controller).next s.number) (sym same) ∙ there) (concerned world.controller (word_of item.source frame)) refl)
