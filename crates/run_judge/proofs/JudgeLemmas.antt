-- SPDX-License-Identifier: MIT OR Apache-2.0
-- Lemmas: how a change of a map's entries changes the judge's state, and a frame its connection.
use Rattle.std.proofs.Common.{◌≡◌, ℕ, ◌==◌, ◌<◌, ◌≤◌, Bool, true, false, cond, if◌then◌else◌, List, [], ◌∷◌, length, get_or, Option, Some, None, option_map, refl, sym, ap, ◌∙◌, arith, ◌+◌, zero, suc, slice_get, add-one}
use Rattle.std.specs.Map.{lookup, values_of}
use Rattle.indexmap.specs.Layout.{set_value_at}
use Rattle.std.proofs.lemmas.Bool.{eq-eqb, eqb-true}
use Rattle.run_judge.specs.declared.channels.ChannelView.{ChannelView}
use Rattle.run_judge.specs.declared.channels.ChannelView.TheVariants as views
use Rattle.run_judge.specs.declared.connection.Reason.{Reason}
use Rattle.run_judge.specs.declared.connection.Reason.TheVariants as reasons
use Rattle.run_judge.specs.declared.connection.Unjudged.{Unjudged}
use Rattle.run_judge.specs.declared.judge.Named.{Named}
use Rattle.run_judge.specs.declared.judge.Named.TheVariants.{One, Shared}
use Rattle.run_judge.specs.declared.said.StationChannel.{StationChannel}
use Rattle.run_judge.specs.Channels.{view_at}
use Rattle.run_judge.specs.Connection.{confirmed, first_of, unjudged_from, while_judged, while_judged_of}
use Rattle.run_judge.specs.ConnectionState.{ConnectionState}
use Rattle.run_judge.specs.Judging.{Judging, begun_at, begun_nowhere, begun_on, ended, freed_reference, handed_over_to, named_by, numbered_connection, owner_in, owner_of, put, with_connection, with_destination, with_judged, with_named, with_new, with_owner, with_owner_in, without, without_switch_reference}
use Rattle.run_judge.specs.JudgeState.{entries_at, reference_named}

module _ {A : Type 0} where
  pub entries_at-lookup : (entries : List (ℕ × A)) (key : ℕ) → entries_at entries key ≡ lookup (λ other. key == other) entries
  unfolding entries_at
  entries_at-lookup entries key = refl

  -- one key changes
  pub entries_at-changed : (old new : List (ℕ × A)) (key : ℕ) (value : Option A)
      → ((q : ℕ) → lookup (λ other. q == other) new ≡ cond (key == q) value (lookup (λ other. q == other) old))
      → entries_at new ≡ put key value (entries_at old)
  unfolding entries_at
  entries_at-changed old new key value h = λ i q. h q i

  put_same_at : (entries : ℕ → Option A) (key q : ℕ) (value : Option A) (b : Bool) →
      (key == q) ≡ b →
      entries key ≡ value →
      (if b then value else entries q) ≡ entries q
  put_same_at entries key q value true e h = sym h ∙ ap entries (eqb-true key q e)
  put_same_at entries key q value false e h = refl

  pub put-same : (entries : ℕ → Option A) (key : ℕ) (value : Option A) → entries key ≡ value → put key value entries ≡ entries
  put-same entries key value h = λ i q. put_same_at entries key q value (key == q) refl h i

module _ (j : Judging) (reference : ℕ) (change : ConnectionState → ConnectionState) where
  pub with_connection-some : (c : ConnectionState) →
      j.connections reference ≡ Some c →
      record j { connections = put reference (Some (change c)) j.connections } ≡ with_connection reference change j
  with_connection-some c is = ap (λ (o : Option ConnectionState). record j { connections = put reference (option_map change o) j.connections }) (sym is)

  pub with_connection-none : j.connections reference ≡ None → j ≡ with_connection reference change j
  with_connection-none none =
      ap (λ (h : ℕ → Option ConnectionState). record j { connections = h })
      (sym (put-same j.connections reference (option_map change (j.connections reference)) (none ∙ ap (option_map change) (sym none))))

-- the connection of a reference was written, or there is none
module _ (j : Judging) (old : List (ℕ × ConnectionState)) (reference : ℕ) (change : ConnectionState → ConnectionState) where
  pub with_connection-written : (new : List (ℕ × ConnectionState)) (c d : ConnectionState) → Some c ≡ lookup (λ other. reference == other) old → d ≡ change c
      → ((q : ℕ) → lookup (λ other. q == other) new ≡ cond (reference == q) (Some d) (lookup (λ other. q == other) old))
      → record j { connections = entries_at new } ≡ with_connection reference change (record j { connections = entries_at old })
  with_connection-written new c d found done written =
      let is : entries_at old reference ≡ Some c = entries_at-lookup old reference ∙ sym found in
      ap (λ (h : ℕ → Option ConnectionState). record j { connections = h })
      (entries_at-changed old new reference (Some d) written ∙ ap (λ (x : ConnectionState). put reference (Some x) (entries_at old)) done)
      ∙ with_connection-some (record j { connections = entries_at old }) reference change c is

  pub with_connection-missing : (new : List (ℕ × ConnectionState)) → None ≡ lookup (λ other. reference == other) old → new ≡ old
      → record j { connections = entries_at new } ≡ with_connection reference change (record j { connections = entries_at old })
  with_connection-missing new none same =
      ap (λ (es : List (ℕ × ConnectionState)). record j { connections = entries_at es }) same
      ∙ with_connection-none (record j { connections = entries_at old }) reference change (entries_at-lookup old reference ∙ sym none)

-- ---- whose a channel is
pub if_other : {A : Type 0} (m n : ℕ) (x : A) → (m ≡ n → ⊥) → (if m == n then Some x else None) ≡ None
if_other {A} m n x other = by (m == n) refl
  where
    by : (b : Bool) → (m == n) ≡ b → (if m == n then Some x else None) ≡ None
    by true e = absurd (other (eqb-true m n e))
    by false e = ap (λ (b : Bool). if b then Some x else None) e

module _ (j : Judging) (at : StationChannel) (reference number : ℕ) (owned : views.Owned reference number ≡ view_at j.channels at) where
  pub owner_of-missing : None ≡ j.connections reference → None ≡ owner_of at j
  owner_of-missing none = ap (numbered_connection number) none ∙ ap (λ (v : ChannelView). owner_in v j) owned

  pub owner_of-found : (c : ConnectionState) →
      Some c ≡ j.connections reference →
      (if c.number == number then Some c else None) ≡ owner_of at j
  owner_of-found c found = ap (numbered_connection number) found ∙ ap (λ (v : ChannelView). owner_in v j) owned

module _ (change : ConnectionState → ConnectionState) (j : Judging) where
  of_owner : (o : Option ConnectionState) (reference : ℕ) →
      option_map (λ c. c.reference) o ≡ Some reference →
      with_owner_in o change j ≡ with_judged reference change j
  of_owner None reference e = absurd (cc)
  of_owner (Some c) reference e =
      let same : c.reference ≡ reference = cc in
      ap (λ r. with_judged r change j) same

  of_none : (o : Option ConnectionState) → option_map (λ c. c.reference) o ≡ None → with_owner_in o change j ≡ j
  of_none None e = refl
  of_none (Some c) e = absurd (cc)

  pub with_owner-some : (at : StationChannel) (reference : ℕ) →
      Some reference ≡ option_map (λ c. c.reference) (owner_of at j) →
      with_owner at change j ≡ with_judged reference change j
  with_owner-some at reference e = of_owner (owner_of at j) reference (sym e)

  pub with_owner-none : (at : StationChannel) → None ≡ option_map (λ c. c.reference) (owner_of at j) → with_owner at change j ≡ j
  with_owner-none at e = of_none (owner_of at j) (sym e)

  of_named : (n : Option Named) (reference : ℕ) →
      reference_named n ≡ Some reference →
      with_named n change j ≡ with_judged reference change j
  of_named None reference e = absurd (cc)
  of_named (Some Shared) reference e = absurd (cc)
  of_named (Some (One r)) reference e =
      let same : r ≡ reference = cc in
      ap (λ q. with_judged q change j) same

  of_no_name : (n : Option Named) → reference_named n ≡ None → with_named n change j ≡ j
  of_no_name None e = refl
  of_no_name (Some Shared) e = refl
  of_no_name (Some (One r)) e = absurd (cc)

  pub with_destination-some : (destination reference : ℕ) →
      Some reference ≡ reference_named (j.by_switch destination) →
      with_destination destination change j ≡ with_judged reference change j
  with_destination-some destination reference e = of_named (j.by_switch destination) reference (sym e)

  pub with_destination-none : (destination : ℕ) →
      None ≡ reference_named (j.by_switch destination) →
      with_destination destination change j ≡ j
  with_destination-none destination e = of_no_name (j.by_switch destination) (sym e)

-- what isn't judged stays so
pub while_judged-unjudged_from : (reason : Reason) (frame : ℕ) (c : ConnectionState) →
    while_judged (unjudged_from reason frame) c ≡ unjudged_from reason frame c
while_judged-unjudged_from reason frame c = by c.unjudged refl
  where
    by : (o : Option Unjudged) → c.unjudged ≡ o → while_judged (unjudged_from reason frame) c ≡ unjudged_from reason frame c
    by None e = ap (λ (o : Option Unjudged). while_judged_of o (unjudged_from reason frame) c) e
    by (Some u) e =
        ap (λ (o : Option Unjudged). while_judged_of o (unjudged_from reason frame) c) e
        ∙ ap (λ (o : Option Unjudged). record c { unjudged = o }) (e ∙ sym (ap (λ (o : Option Unjudged). first_of o (record { reason = reason; frame = frame })) e))

-- ---- the switch's references
module _ (j : Judging) (old new : List (ℕ × Named)) (reference source frame : ℕ) where
  abbrev shown_names : Judging
  shown_names = record j { by_switch = entries_at old }

  abbrev Puts : Option Named → Type 0
  Puts value = (q : ℕ) → lookup (λ other. q == other) new ≡ cond (source == q) value (lookup (λ other. q == other) old)

  pub named_first : None ≡ lookup (λ other. source == other) old → Puts (Some (One reference))
      → with_connection reference (confirmed source) (record j { by_switch = entries_at new }) ≡ named_by (entries_at old source) reference source frame shown_names
  named_first none puts =
      ap (λ (h : ℕ → Option Named). with_connection reference (confirmed source) (record j { by_switch = h })) (entries_at-changed old new source (Some (One reference)) puts)
      ∙ ap (λ (n : Option Named). named_by n reference source frame shown_names) (none ∙ sym (entries_at-lookup old source))

  pub named_again : (other : ℕ) → Some (One other) ≡ lookup (λ other. source == other) old → Puts (Some Shared)
      → with_judged other (unjudged_from reasons.SharedReference frame) (with_judged reference (unjudged_from reasons.SharedReference frame) (record j { by_switch = entries_at new }))
      ≡ named_by (entries_at old source) reference source frame shown_names
  named_again other one puts =
      ap (λ (h : ℕ → Option Named). with_judged other (unjudged_from reasons.SharedReference frame) (with_judged reference (unjudged_from reasons.SharedReference frame) (record j { by_switch = h })))
      (entries_at-changed old new source (Some Shared) puts)
      ∙ ap (λ (n : Option Named). named_by n reference source frame shown_names) (one ∙ sym (entries_at-lookup old source))

  pub named_shared : Some Shared ≡ lookup (λ other. source == other) old
      → with_judged reference (unjudged_from reasons.SharedReference frame) shown_names ≡ named_by (entries_at old source) reference source frame shown_names
  named_shared shared = ap (λ (n : Option Named). named_by n reference source frame shown_names) (shared ∙ sym (entries_at-lookup old source))

  -- a connection that ended frees the reference that it alone had
  freed_at : (n : Option Named) →
      reference_named n ≡ Some reference →
      record j { by_switch = put source None (entries_at old) } ≡ freed_reference n source reference shown_names
  freed_at None e = absurd (cc)
  freed_at (Some Shared) e = absurd (cc)
  freed_at (Some (One r)) e =
      let same : r ≡ reference = cc in
      sym (ap (λ (b : Bool). if b then record j { by_switch = put source None (entries_at old) } else shown_names) (eq-eqb r reference same))

  kept_at : (n : Option Named) → (reference_named n ≡ Some reference → ⊥) → shown_names ≡ freed_reference n source reference shown_names
  kept_at None other = refl
  kept_at (Some Shared) other = refl
  kept_at (Some (One r)) other = by (r == reference) refl
    where
      by : (b : Bool) → (r == reference) ≡ b → shown_names ≡ freed_reference (Some (One r)) source reference shown_names
      by true e = absurd (other (ap Some (eqb-true r reference e)))
      by false e = sym (ap (λ (b : Bool). if b then record j { by_switch = put source None (entries_at old) } else shown_names) e)

  pub freed_reference-named : Some reference ≡ reference_named (entries_at old source) → Puts None
      → record j { by_switch = entries_at new } ≡ freed_reference (entries_at old source) source reference shown_names
  freed_reference-named named puts =
      ap (λ (h : ℕ → Option Named). record j { by_switch = h }) (entries_at-changed old new source None puts)
      ∙ freed_at (entries_at old source) (sym named)

  pub freed_reference-other : (Some reference ≡ reference_named (entries_at old source) → ⊥) →
      shown_names ≡ freed_reference (entries_at old source) source reference shown_names
  freed_reference-other other = kept_at (entries_at old source) (λ e. other (sym e))

-- ---- a connection begins
module _ (j : Judging) (old new : List (ℕ × ConnectionState)) (source : ℕ) where
  pub with_new-inserted : (c d : ConnectionState) → d ≡ c → ((q : ℕ) → lookup (λ other. q == other) new ≡ cond (source == q) (Some d) (lookup (λ other. q == other) old))
      → record j { connections = entries_at new } ≡ with_new source c (record j { connections = entries_at old })
  with_new-inserted c d same puts =
      ap (λ (h : ℕ → Option ConnectionState). record j { connections = h })
      (entries_at-changed old new source (Some d) puts ∙ ap (λ (x : ConnectionState). put source (Some x) (entries_at old)) same)

-- ---- a connection ends
module _ (j : Judging) (old new : List (ℕ × ConnectionState)) (reference : ℕ) where
  abbrev shown_open : Judging
  shown_open = record j { connections = entries_at old }

  pub ended-missing : None ≡ lookup (λ other. reference == other) old →
      new ≡ old →
      record j { connections = entries_at new } ≡ ended reference shown_open
  ended-missing none same =
      ap (λ (es : List (ℕ × ConnectionState)). record j { connections = entries_at es }) same
      ∙ ap (λ (o : Option ConnectionState). without o reference shown_open) (none ∙ sym (entries_at-lookup old reference))

  pub ended-found : (c : ConnectionState) → Some c ≡ lookup (λ other. reference == other) old
      → ((q : ℕ) → lookup (λ other. q == other) new ≡ cond (reference == q) None (lookup (λ other. q == other) old))
      → without_switch_reference c.switch reference (record j { connections = entries_at new }) ≡ ended reference shown_open
  ended-found c found puts =
      ap (λ (h : ℕ → Option ConnectionState). without_switch_reference c.switch reference (record j { connections = h })) (entries_at-changed old new reference None puts)
      ∙ ap (λ (o : Option ConnectionState). without o reference shown_open) (found ∙ sym (entries_at-lookup old reference))

-- ---- how many channels there are
pub begun_on_one : (channels : List StationChannel) (source : ℕ) (message : List ℕ) (frame : ℕ) (j : Judging) (d : StationChannel) → 1 ≤ length channels → length channels < 2
    → begun_on channels source message frame j ≡ begun_at (get_or channels 0 d) source frame j
begun_on_one [] source message frame j d h below = absurd (omega arith)
begun_on_one (at ∷ []) source message frame j d h below = refl
begun_on_one (at ∷ other ∷ others) source message frame j d h below = absurd (omega arith)

pub begun_on_several : (channels : List StationChannel) (source : ℕ) (message : List ℕ) (frame : ℕ) (j : Judging) → 2 ≤ length channels
    → begun_on channels source message frame j ≡ begun_nowhere reasons.TwoBeginnings source message frame j
begun_on_several [] source message frame j h = absurd (omega arith)
begun_on_several (at ∷ []) source message frame j h = absurd (omega arith)
begun_on_several (at ∷ other ∷ others) source message frame j h = refl

pub handed_over_to_several : (channels : List StationChannel) (c : ConnectionState) (frame : ℕ) (j : Judging) → 2 ≤ length channels
    → handed_over_to channels c frame j ≡ with_judged c.reference (unjudged_from reasons.TwoChannels frame) j
handed_over_to_several [] c frame j h = absurd (omega arith)
handed_over_to_several (at ∷ []) c frame j h = absurd (omega arith)
handed_over_to_several (at ∷ other ∷ others) c frame j h = refl

-- ---- nothing is kept yet
abbrev nothing : {A : Type 0} → ℕ → Option A
nothing key = None

pub entries_at-empty : {A : Type 0} (entries : List (ℕ × A)) → entries ≡ [] → entries_at entries ≡ nothing
unfolding entries_at
entries_at-empty entries empty = ap entries_at empty

-- ---- frames are missing
module _ (frame : ℕ) where
  abbrev unjudged_here : ConnectionState → ConnectionState
  unjudged_here = unjudged_from reasons.Hole frame

  -- with the first n connections not judged from here on
  abbrev pub unjudged_first : ℕ → List (ℕ × ConnectionState) → List (ℕ × ConnectionState)
  unjudged_first zero es = es
  unjudged_first (suc n) [] = []
  unjudged_first (suc n) (e ∷ es) = (e.0, unjudged_here e.1) ∷ unjudged_first n es

  unjudged_first_next : (n : ℕ) (es : List (ℕ × ConnectionState)) (v : ConnectionState) → Some v ≡ slice_get (values_of (unjudged_first n es)) n
      → set_value_at (unjudged_first n es) n (unjudged_here v) ≡ unjudged_first (suc n) es
  unjudged_first_next zero [] v at = refl
  unjudged_first_next zero (e ∷ es) v at =
      let same : v ≡ e.1 = cc in
      ap (λ w. (e.0, unjudged_here w) ∷ es) same
  unjudged_first_next (suc n) [] v at = refl
  unjudged_first_next (suc n) (e ∷ es) v at = ap (λ rest. (e.0, unjudged_here e.1) ∷ rest) (unjudged_first_next n es v at)

  pub unjudged_first-more : (n : ℕ) (es : List (ℕ × ConnectionState)) (v : ConnectionState) → Some v ≡ slice_get (values_of (unjudged_first n es)) n
      → set_value_at (unjudged_first n es) n (unjudged_here v) ≡ unjudged_first (n + 1) es
  unjudged_first-more n es v at = unjudged_first_next n es v at ∙ ap (λ m. unjudged_first m es) (sym (add-one n))

  unjudged_first_none : (n : ℕ) (es : List (ℕ × ConnectionState)) →
      None ≡ slice_get (values_of (unjudged_first n es)) n →
      unjudged_first n es ≡ unjudged_first (suc n) es
  unjudged_first_none zero [] none = refl
  unjudged_first_none zero (e ∷ es) none = absurd (cc)
  unjudged_first_none (suc n) [] none = refl
  unjudged_first_none (suc n) (e ∷ es) none = ap (λ rest. (e.0, unjudged_here e.1) ∷ rest) (unjudged_first_none n es none)

  pub unjudged_first-past : (n : ℕ) (es : List (ℕ × ConnectionState)) →
      None ≡ slice_get (values_of (unjudged_first n es)) n →
      unjudged_first n es ≡ unjudged_first (n + 1) es
  unjudged_first-past n es none = unjudged_first_none n es none ∙ ap (λ m. unjudged_first m es) (sym (add-one n))

  -- what all of them show
  lookup_unjudged_by : (b : Bool) (c : ConnectionState) (after before : Option ConnectionState) → after ≡ option_map (while_judged unjudged_here) before
      → cond b (Some (unjudged_here c)) after ≡ option_map (while_judged unjudged_here) (cond b (Some c) before)
  lookup_unjudged_by true c after before rest = ap Some (sym (while_judged-unjudged_from reasons.Hole frame c))
  lookup_unjudged_by false c after before rest = rest

  lookup_unjudged : (test : ℕ → Bool) (n : ℕ) (es : List (ℕ × ConnectionState)) → length es ≤ n
      → lookup test (unjudged_first n es) ≡ option_map (while_judged unjudged_here) (lookup test es)
  lookup_unjudged test zero [] h = refl
  lookup_unjudged test zero (e ∷ es) h = absurd (omega arith)
  lookup_unjudged test (suc n) [] h = refl
  lookup_unjudged test (suc n) (e ∷ es) h = lookup_unjudged_by (test e.0) e.1 (lookup test (unjudged_first n es)) (lookup test es) (lookup_unjudged test n es (omega arith))

  pub entries_at-unjudged : (n : ℕ) (es : List (ℕ × ConnectionState)) → length es ≤ n
      → entries_at (unjudged_first n es) ≡ (λ (reference : ℕ). option_map (while_judged unjudged_here) (entries_at es reference))
  unfolding entries_at
  entries_at-unjudged n es h = λ i reference. lookup_unjudged (λ other. reference == other) n es h i
