-- SPDX-License-Identifier: MIT OR Apache-2.0
-- The calls of a connection keep its invariant.
use Rattle.std.proofs.Common.{◌≡◌, ◌++◌, refl, ℕ, Bool, true, false, List, [], ◌∷◌, Option, Some, None, Result, Ok, Err, IfErr, sym, subst, ap, ◌∙◌, arith}
use Rattle.std.specs.Option.{is_some}
use Rattle.conn_messages.specs.declared.channel.Channel.{Channel}
use Rattle.conn_messages.specs.declared.out.Out.{Out}
use Rattle.conn_rules.specs.declared.input.Input.{Input}
use Rattle.conn_rules.specs.declared.input.Input.TheVariants as inputs
use Rattle.conn_rules.specs.declared.state.State.{State}
use Rattle.conn_rules.specs.declared.state.Drain.{Drain}
use Rattle.conn_rules.specs.Connection.{Connection, new_connection}
use Rattle.conn_rules.specs.Validity.{DrainTime, IsCarried, IsValid}
use Rattle.conn_rules.specs.Steps.{Row}
use Rattle.conn_rules.specs.Streams.{OfRow}
use Rattle.conn_rules.specs.Table.{row_if, row_of}
use Rattle.conn_rules.proofs.ValidTable.{IsValid-row}
use Rattle.conn_rules.proofs.ValidSteps.{IsValid-new}
use Rattle.rsl_codec.specs.declared.values.RequestReference.{RequestReference}
use Rattle.octets.specs.declared.memory.Memory.{Memory}
use Rattle.conn_fsm.specs.Doing.{Closes, Commits, Does, Finishes, IsPlanned, Plans, IsUnchanged, Steps, WantsForRow}
use Rattle.conn_rules.specs.Timers.{after_pass, drained_after}

row_is_valid : (r : Option Row) (fits : Bool) (old new : Connection) (outs outs_after : List Out) →
    IsValid old → OfRow (λ r. IsValid r.next) r → Steps r fits old new outs outs_after → IsValid new
row_is_valid (Some r) fits old new outs outs_after was_valid next done = subst IsValid (sym done.1.0) next
row_is_valid None fits old new outs outs_after was_valid next done = subst IsValid (sym done.1.0) was_valid

pub step_is_valid : (input : Input) (offer : Option Channel) (fits : Bool) (old new : Connection) (outs outs_after : List Out) →
    IsValid old → IsCarried input → Steps (row_of old input offer) fits old new outs outs_after → IsValid new
step_is_valid input offer fits old new outs outs_after was_valid carried done =
    row_is_valid (row_of old input offer) fits old new outs outs_after was_valid (IsValid-row old input offer was_valid carried) done

pub unchanged_is_valid : (old new : Connection) (outs outs_after : List Out) →
    IsValid old →
    IsUnchanged old new outs outs_after →
    IsValid new
unchanged_is_valid old new outs outs_after was_valid stays = subst IsValid (sym stays.0) was_valid

planned_carried : (input : Input) → IsPlanned input → IsCarried input
planned_carried inputs.Expiry planned = tt
planned_carried inputs.DrainExpiry planned = tt
planned_carried (inputs.StationDown station) planned = tt
planned_carried inputs.SwitchDown planned = tt
planned_carried _ planned = absurd planned

commits_by : (r : Option Row) (old new : Connection) (outs : List Out) →
    IsValid old →
    OfRow (λ r. IsValid r.next) r →
    Commits r old new outs →
    IsValid new
commits_by (Some r) old new outs was_valid next done = subst IsValid (sym done.0) next
commits_by None old new outs was_valid next done = subst IsValid (sym done.0) was_valid

pub commit_is_valid : (input : Input) (old new : Connection) (outs : List Out) →
    IsValid old →
    IsPlanned input →
    Commits (row_of old input None) old new outs →
    IsValid new
commit_is_valid input old new outs was_valid planned done =
    commits_by (row_of old input None) old new outs was_valid (IsValid-row old input None was_valid (planned_carried input planned)) done

-- ---- plans

pub finished : (last : Option State) (made : List Out) (r : Option Row) (fits : Bool) (old new : Connection) (outs outs_after : List Out) →
    Plans made last r old → Finishes last made fits old new outs outs_after → Steps r fits old new outs outs_after
finished (Some last) made (Some r) fits old new outs outs_after plans done =
    (done.0, (done.1 ∙ sym plans.1, done.2 ∙ ap (λ more. outs ++ more) plans.0, plans.2))
finished None made None fits old new outs outs_after plans done =
    (done.0, done.1)
finished (Some last) made None fits old new outs outs_after plans done = absurd plans.1
finished None made (Some r) fits old new outs outs_after plans done = absurd plans.1

-- it ends in a state only where a row fits
ends_fit : (last : Option State) (made : List Out) (r : Option Row) (s : Connection) →
    Plans made last r s →
    is_some last ≡ true →
    is_some r ≡ true
ends_fit (Some last) made (Some r) s plans ends = refl
ends_fit (Some last) made None s plans ends = absurd plans.1
ends_fit None made r s plans ends = absurd (cc)

pub ending_fits : (result : Result Bool Memory) (last : Option State) (made : List Out) (r : Option Row) (s : Connection) →
    Plans made last r s → IfErr result (λ _. is_some last ≡ true) → WantsForRow result r
ending_fits (Ok fits) last made r s plans wants = tt
ending_fits (Err memory) last made r s plans wants = ends_fit last made r s plans wants

pub committed : (last : Option State) (made : List Out) (r : Option Row) (s new : Connection) →
    Plans made last r s →
    Closes last s new →
    Commits r s new made
committed (Some last) made (Some r) s new plans closes = (closes ∙ sym plans.1, plans.0, plans.2)
committed None made None s new plans closes = (closes, plans.0)
committed (Some last) made None s new plans closes = absurd plans.1
committed None made (Some r) s new plans closes = absurd plans.1

-- ---- beginnings, and time

pub new_is_valid : (number : ℕ) (channel : Channel) (request : RequestReference) (delay : ℕ) →
    IsValid (new_connection number channel request delay)
new_is_valid number channel request delay = IsValid-new number channel request delay

drain_time : (ms : ℕ) (draining : List Drain) (drained : ℕ) →
    DrainTime draining drained →
    DrainTime draining (drained_after ms draining drained)
drain_time ms [] drained time = time
drain_time ms (d ∷ ds) drained time = tt

pub pass_is_valid : (ms : ℕ) (s : Connection) → IsValid s → IsValid (after_pass ms s)
pass_is_valid ms s was_valid = record {
  state = was_valid.state;
  down_limit = was_valid.down_limit;
  up_limit = was_valid.up_limit;
  down_within = was_valid.down_within;
  up_within = was_valid.up_within;
  down_zero = was_valid.down_zero;
  down_three = was_valid.down_three;
  up_messages = was_valid.up_messages;
  drain_time = drain_time ms s.draining s.drained was_valid.drain_time;
}

-- ---- a row that fits

pub fitting : (test : Bool) (r : Row) (old new : Connection) (outs outs_after : List Out) →
    test ≡ true →
    Does r old new outs outs_after →
    Steps (row_if test r) true old new outs outs_after
fitting true r old new outs outs_after holds done = (refl, done)
fitting false r old new outs outs_after holds done = absurd (grind (arith, holds))
