-- SPDX-License-Identifier: MIT OR Apache-2.0
-- A step that brings a connection no input of a frame: a report, a break, or time. The connection
-- continues in the same line, or ends.
use Rattle.world_laws.proofs.Prelude.{◌≡◌, ℕ, ◌≤◌, Bool, true, false, List, [], length, Option, Some, None, refl, sym, ap, ◌∙◌, subst}
use Rattle.world_laws.proofs.Prelude.{AllByRecursion, Handover, Channel, Message, outs_of, Input, Active, Draining}
use Rattle.world_laws.proofs.Prelude.{State, WaitConfirm, Live, Connection, Row, IsOpen}
use Rattle.world_laws.proofs.Prelude.{OfRow, relayed, on_move, row_if, Acts, Brought, IsAged, IsBrought, kept, kept_in, ages, takes_row}
use Rattle.world_laws.proofs.Prelude.{opens}
use Rattle.world_laws.proofs.Prelude.{rests, nothing, IsThere, connection_of, outs_for, IsSent, aged_holds, break_shut, timer_shut}
use Rattle.world_laws.proofs.Prelude.{PutsUsual, usual_row, Turn, Sapi, Three, Zero, same_Some, none-some, nat_lt, IsFinal-row, begin}
use Rattle.world_laws.proofs.Prelude.{IsFinal, of_frame, reports, IsLinkBreak, row_is, kept_there, forwarded, commanded_target}
use Rattle.world_laws.proofs.Prelude.{is_confirmed}
use Rattle.world_laws.proofs.Prelude.{is_opening, IsRequested}
use Rattle.conn_rules.specs.declared.input.Input.TheVariants as inputs
use Rattle.conn_rules.specs.declared.limits.TheConstants.{DRAIN_LIMIT}
use Rattle.conn_rules.specs.declared.state.Stage.{Stage}
use Rattle.conn_rules.specs.Table.{row_of}
use Rattle.controller_model.specs.LifeLaws.Acts.Brought.{breaks, passes}
use Rattle.world_laws.proofs.Handling.Finishing.{IsSame}
use Rattle.world_laws.proofs.Handling.Leaving.{SameLine, line_itself, none_forwarded, silent_forwards}

-- ---- the result of it

pub data Outcome (s : Connection) (t : Turn) : Type 0 where
  same : (next : Connection) → IsSame s next t → forwarded t.outs s.number ≡ [] → Outcome s t
  over : (IsThere (connection_of t.next s.number) → ⊥) → forwarded t.outs s.number ≡ [] → Outcome s t

-- what a step of the controller brings of its own
abbrev pub IsOwnStep : Brought → Type 0
IsOwnStep (of_frame input) = ⊥
IsOwnStep (breaks input) = IsLinkBreak input
IsOwnStep _ = Unit {0}

-- ---- time passes for it

-- as it was, but for its timers
record IsOlder (s next : Connection) : Type 0 where
  line : SameLine s next
  state : next.state ≡ s.state
  request : next.request ≡ s.request

older : (s next : Connection) → IsAged s next → IsOlder s next
older s next aged = aged_holds (IsOlder s)
    (λ ms c is. record {
      line = record { number = is.line.number; serving = is.line.serving; draining = is.line.draining; tenures = is.line.tenures; target = is.line.target; confirmed = is.line.confirmed; opening = is.line.opening };
      state = is.state;
      request = is.request;
    }) s next aged (record { line = line_itself s; state = refl; request = refl })

line_trans : {a b c : Connection} → SameLine a b → SameLine b c → SameLine a c
line_trans f g = record {
  number = g.number ∙ f.number;
  serving = g.serving ∙ f.serving;
  draining = g.draining ∙ f.draining;
  tenures = g.tenures ∙ f.tenures;
  target = g.target ∙ f.target;
  confirmed = g.confirmed ∙ f.confirmed;
  opening = g.opening ∙ f.opening;
}

-- ---- a handover begins

-- the row keeps the line, and puts nothing for the switch but the activation
record Begins (s : Connection) (r : Row) : Type 0 where
  line : SameLine s r.next
  requested : IsRequested r.next.state
  request : r.next.request ≡ s.request
  relays : (sapi : Sapi) → relayed sapi r.outs ≡ []

begin_keeps : (reference : ℕ) (stage : Stage) (s : Connection) (offer : Option Channel) →
    s.state ≡ Live reference stage →
    commanded_target (Live reference stage) ≡ None →
    Begins s (begin reference Handover offer s)
begin_keeps reference stage s None is none = record { line = line_itself s; requested = subst IsRequested (sym is) tt; request = refl; relays = nothing_relayed } where
  nothing_relayed : (sapi : Sapi) → relayed sapi [] ≡ []
  nothing_relayed sapi = refl
begin_keeps reference stage s (Some channel) is none = record {
  line = record { number = refl; serving = refl; draining = refl; tenures = refl; target = sym (ap commanded_target is ∙ none); confirmed = sym (ap is_confirmed is); opening = sym (ap is_opening is) };
  requested = tt;
  request = refl;
  relays = nothing_relayed;
} where
  nothing_relayed : (sapi : Sapi) → relayed sapi (begin reference Handover (Some channel) s).outs ≡ []
  nothing_relayed Zero = refl
  nothing_relayed Three = refl

by_test : (b : Bool) (s : Connection) (q r : Row) → row_if b q ≡ Some r → Begins s q → Begins s r
by_test true s q r is begins = subst (Begins s) (row_is q r is) begins
by_test false s q r is begins = absurd cc

move_begins : (state : State) (s : Connection) (offer : Option Channel) (r : Row) →
    s.state ≡ state →
    on_move state s offer ≡ Some r →
    Begins s r
move_begins (Live reference Active) s offer r is fits = by_test true s (begin reference Handover offer s) r fits (begin_keeps reference Active s offer is refl)
move_begins (Live reference Draining) s offer r is fits = by_test (nat_lt (length s.draining) DRAIN_LIMIT) s (begin reference Handover offer s) r fits (begin_keeps reference Draining s offer is refl)
move_begins _ s offer r is fits = absurd cc

move_row : (s : Connection) (offer : Option Channel) (r : Row) → row_of s inputs.Move offer ≡ Some r → Begins s r
unfolding row_of
move_row s offer r fits = move_begins s.state s offer r refl fits

-- ---- the step

kept_requested : (state : State) (s : Connection) → IsRequested state → kept_in state s ≡ Some s
kept_requested WaitConfirm s requested = refl
kept_requested (Live reference stage) s requested = refl
kept_requested _ s requested = absurd requested

-- the connection after it, and what the row put
record Acted (s next : Connection) (input : Input) (offer : Option Channel) (r : Row) (t : Turn) : Type 0 where
  aged : IsAged s next
  fits : row_of next input offer ≡ Some r
  put : outs_for s.number t.outs ≡ outs_of s.number r.outs
  after : connection_of t.next s.number ≡ kept r.next

ended_by : {s next : Connection} {input : Input} {offer : Option Channel} {r : Row} {t : Turn} →
    1 ≤ s.number →
    AllByRecursion IsSent t.outs →
    Acted s next input offer r t →
    (IsOpen r.next.state → ⊥) →
    Outcome s t
ended_by {s} {next} {input} {offer} {r} {t} from_one sent acted_row shut =
    let final : IsFinal next r = subst (OfRow (IsFinal next)) acted_row.fits (IsFinal-row next input offer) in
    over (λ there. shut (kept_there r.next.state r.next (subst IsThere acted_row.after there)))
    (none_forwarded s.number t.outs r.outs from_one acted_row.put (subst (OfRow PutsUsual) acted_row.fits (usual_row next input offer)) sent (final.relays shut))

begun_by : {s next : Connection} {offer : Option Channel} {r : Row} {t : Turn} →
    1 ≤ s.number →
    AllByRecursion IsSent t.outs →
    Acted s next inputs.Move offer r t →
    Outcome s t
begun_by {s} {next} {offer} {r} {t} from_one sent acted_row =
    let aged = older s next acted_row.aged in
    let begins = move_row next offer r acted_row.fits in
    same r.next
    (record { line = line_trans aged.line begins.line; there = acted_row.after ∙ kept_requested r.next.state r.next begins.requested; requested = begins.requested; request = begins.request ∙ aged.request })
    (none_forwarded s.number t.outs r.outs from_one acted_row.put (subst (OfRow PutsUsual) acted_row.fits (usual_row next inputs.Move offer)) sent begins.relays)

acted_by : (brought : Brought) {s next : Connection} {offer : Option Channel} {r : Row} {t : Turn} (input : Input) →
    IsOwnStep brought →
    IsBrought brought input →
    1 ≤ s.number →
    AllByRecursion IsSent t.outs →
    Acted s next input offer r t →
    Outcome s t
acted_by nothing input own by from_one sent acted_row = absurd by
acted_by (of_frame arrived) input own by from_one sent acted_row = absurd own
acted_by reports {s} {next} {offer} {r} {t} input own by from_one sent acted_row = begun_by from_one sent (subst (λ (i : Input). Acted s next i offer r t) by acted_row)
acted_by (breaks arrived) {s} {next} {offer} {r} input own by from_one sent acted_row = ended_by from_one sent acted_row (break_shut input (subst IsLinkBreak (sym by) own) next offer r acted_row.fits)
acted_by passes {s} {next} {offer} {r} input own by from_one sent acted_row = ended_by from_one sent acted_row (timer_shut input by next offer r acted_row.fits)

silent_put : (s : Connection) (t : Turn) (put : List Message) →
    outs_for s.number t.outs ≡ outs_of s.number put →
    put ≡ [] →
    forwarded t.outs s.number ≡ []
silent_put s t put outs none = silent_forwards s.number t.outs (outs ∙ ap (outs_of s.number) none)

pub by_acts : {n : ℕ} {up : Bool} (brought : Brought) {before : Option Connection} {put : List Message} (s : Connection) (t : Turn) → IsOwnStep brought → 1 ≤ s.number → IsRequested s.state → before ≡ Some s → AllByRecursion IsSent t.outs → outs_for s.number t.outs ≡ outs_of s.number put
    → Acts s.number n up brought before put (connection_of t.next s.number) → Outcome s t
by_acts brought {before} {put} s t own from_one requested was sent outs (rests silent unchanged none) =
    same s (record { line = line_itself s; there = unchanged ∙ was; requested = requested; request = refl })
    (silent_put s t put outs silent)
by_acts brought {before} {put} s t own from_one requested was sent outs (ages old next is_time is aged silent unchanged) =
    let older_one = older s next (subst (λ (x : Connection). IsAged x next) (same_Some _ _ (sym is ∙ was)) aged) in
    same next (record { line = older_one.line; there = unchanged; requested = subst IsRequested (sym older_one.state) requested; request = older_one.request }) (silent_put s t put outs silent)
by_acts brought s t own from_one requested was sent outs (opens begins linked channel request delay is_nothing none put_is unchanged) = absurd (none-some _ (sym none ∙ was))
by_acts brought {before} {put} s t own from_one requested was sent outs
    (takes_row old next input offer r is aged by fits put_is unchanged) =
    acted_by brought input own by from_one sent
    (record { aged = subst (λ (x : Connection). IsAged x next) (same_Some _ _ (sym is ∙ was)) aged; fits = fits; put = outs ∙ ap (outs_of s.number) put_is; after = unchanged })
