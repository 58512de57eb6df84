-- SPDX-License-Identifier: MIT OR Apache-2.0
-- A step of the controller assigns no channel to a mobile without a connection.
use Rattle.world_laws.proofs.Prelude.{◌≡◌, ◌≢◌, inl, inr, ℕ, ◌+◌, ◌≤◌, nat_eq, Bool, true, false, if◌then◌else◌, cond, List, [], ◌∷◌, fold}
use Rattle.world_laws.proofs.Prelude.{map, Option, Some, None, Ok, refl, sym, ap, ◌∙◌, subst, arith, AllByRecursion, result_ok, eqb-false}
use Rattle.world_laws.proofs.Prelude.{Channel, Message, Station, Out, outs_of, immediate_assign_command, Connection, connection_of}
use Rattle.world_laws.proofs.Prelude.{outs_for, Names, NamesItsMobile, IsOctetStep, IsSent, life_fits, life_names, life_sends, Step}
use Rattle.world_laws.proofs.Prelude.{Controller, pong, step, ImmediateAssignment, Rsl, RequestReference, rsl_text, AreAllowed, Parameters}
use Rattle.world_laws.proofs.Prelude.{Event, Tenure, to_link, joined_by, rsl_in, all_steps, Actors, is_up, new_actors, outbox_of}
use Rattle.world_laws.proofs.Prelude.{FollowsTable-new, all_join, same_Some, AllByRecursion-append, NamesOf, life, rr_reading}
use Rattle.world_laws.proofs.Prelude.{AssignsAnother, NamesAnother, NoneNames, IsUnanswered, entry_out}
use Rattle.conn_messages.specs.Out.{out_of}
use Rattle.rsl_codec.specs.declared.common_channel.ImmediateAssignment.{ImmediateAssignment as Assignment}
use Rattle.rsl_codec.specs.declared.rsl.Rsl.TheVariants as rsl
use Rattle.world_model.specs.Relay.{entry_of}
use Rattle.world_laws.proofs.OrderTexts.{assignment_back, read_of}
use Rattle.world_laws.proofs.References.Numbered.{AreOfOne, IsOfOne, outs_of_one}
use Rattle.world_laws.proofs.OrderNames.{information_in, assignment_read}
use Rattle.world_laws.proofs.Events.{world}

-- ---- a message that assigns, as it is read

another_in : (k : ℕ) (o : Option Rsl) →
    ((j : Assignment) → o ≡ Some (rsl.ImmediateAssignCommand j) → NamesAnother k (rr_reading j.information)) →
    AssignsAnother k o
another_in k (Some (rsl.ImmediateAssignCommand j)) names = names j refl
another_in k _ names = tt

assigns_another : (k station : ℕ) (serving : Channel) (request : RequestReference) (delay : ℕ) (i j : Assignment) →
    i.information ≡ j.information →
    Station station (rsl.ImmediateAssignCommand i) ≡ immediate_assign_command serving request delay →
    request.access ≢ k →
    NamesAnother k (rr_reading j.information)
assigns_another k station serving request delay i j same is differs =
    let read = assignment_read serving request delay in
    let reads : rr_reading j.information ≡ Ok (ImmediateAssignment read.channel read.named read.advance) = ap rr_reading (sym same ∙ ap information_in is) ∙ read.reads in
    subst (NamesAnother k) (sym reads) (λ named. differs (sym read.access ∙ named))

message_another : (k n : ℕ) (serving : Channel) (request : RequestReference) (m : Message) →
    IsSent (out_of n m) →
    Names serving request m →
    request.access ≢ k →
    AssignsAnother k (rsl_in (out_of n m).frame)
unfolding out_of
message_another k n serving request (Station station x) sent names differs =
    let read = read_of n station x sent in
    subst (AssignsAnother k) (sym (ap result_ok read.1.reading)) (another_in k (Some read.0) (λ j is.
    let back = assignment_back x j (read.1.text ∙ ap rsl_text (same_Some _ _ is)) in
    let assigns : (delay : ℕ) × (Station station (rsl.ImmediateAssignCommand back.0) ≡ immediate_assign_command serving request delay) = subst (λ (z : Rsl). Names serving request (Station station z)) back.1 names in
    assigns_another k station serving request assigns.0 back.0 j back.2 assigns.1 differs))
message_another k n serving request _ sent names differs = tt

-- ---- what is put for a connection

AssignsNot : ℕ → Out → Type 0
AssignsNot k out = AssignsAnother k (rsl_in out.frame)

own_another : (k n : ℕ) (serving : Channel) (request : RequestReference) (outs : List Out) (put : List Message) →
    request.access ≢ k →
    outs_for n outs ≡ outs_of n put →
    AllByRecursion (Names serving request) put →
    AllByRecursion IsSent outs →
    AllByRecursion (λ out. out.conn ≡ n → AssignsNot k out) outs
unfolding AssignsNot
own_another k n serving request [] put differs is names sent = tt
own_another k n serving request (o ∷ os) put differs is names sent = by (nat_eq o.conn n) refl is (λ more same others. own_another k n serving request os more differs same others sent.1) where
  Rest : Type 0
  Rest = (more : List Message) → outs_for n os ≡ outs_of n more → AllByRecursion (Names serving request) more → AllByRecursion (λ out. out.conn ≡ n → AssignsNot k out) os

  first : (put : List Message) →
      o ∷ outs_for n os ≡ outs_of n put →
      AllByRecursion (Names serving request) put →
      Rest →
      (o.conn ≡ n → AssignsNot k o) × AllByRecursion (λ out. out.conn ≡ n → AssignsNot k out) os
  first [] is names rest = absurd cc
  first (x ∷ more) is names rest =
      let own : o ≡ out_of n x = (let both : o ∷ outs_for n os ≡ out_of n x ∷ outs_of n more = is in cc) in
      (λ _. subst (AssignsNot k) (sym own) (message_another k n serving request x (subst IsSent own sent.0) names.0 differs), rest more (let both : o ∷ outs_for n os ≡ out_of n x ∷ outs_of n more = is in cc) names.1)

  by : (b : Bool) →
      nat_eq o.conn n ≡ b →
      cond b (o ∷ outs_for n os) (outs_for n os) ≡ outs_of n put →
      Rest →
      (o.conn ≡ n → AssignsNot k o) × AllByRecursion (λ out. out.conn ≡ n → AssignsNot k out) os
  by true hit is rest = first put is names rest
  by false miss is rest = (λ same. absurd (eqb-false o.conn n miss same), rest put is names)

-- of a connection that isn't there nothing is assigned at all, so nothing to this mobile
any_channel : Channel
any_channel = record { station = 0; number = 0; cell = []; description = record { arfcn = 0; ncc = 0; bcc = 0 }; reference = record { 0 = 0 } }

other_request : ℕ → RequestReference
other_request k = record { access = k + 1; frame = 0 }

named_none : (c : Channel) (request : RequestReference) (put : List Message) → NamesOf None put → AllByRecursion (Names c request) put
named_none c request [] all = tt
named_none c request (m ∷ ms) all = (all.0 c request, named_none c request ms all.1)

of_connection : (k n : ℕ) (o : Option Connection) (outs : List Out) (put : List Message) →
    ((s : Connection) → o ≡ Some s → s.request.access ≢ k) →
    outs_for n outs ≡ outs_of n put →
    NamesOf o put →
    AllByRecursion IsSent outs →
    AllByRecursion (λ out. out.conn ≡ n → AssignsNot k out) outs
unfolding other_request
of_connection k n None outs put unanswered is names sent = own_another k n any_channel (other_request k) outs put (λ same. absurd (omega (arith, same))) is (named_none any_channel (other_request k) put names) sent
of_connection k n (Some s) outs put unanswered is names sent = own_another k n s.serving s.request outs put (unanswered s refl) is names sent

-- ---- a step

-- what holds of the outputs of each connection holds of all
each_one : (P : Out → Type 0) (outs : List Out) →
    ((n : ℕ) → 1 ≤ n → AllByRecursion (λ out. out.conn ≡ n → P out) outs) →
    ((out : Out) → out ≡ pong out.to → P out) →
    AreOfOne outs →
    AllByRecursion P outs
each_one P [] each pongs ones = tt
each_one P (o ∷ os) each pongs ones = (either ones.0, each_one P os (λ n least. (each n least).1) pongs ones.1) where
  either : IsOfOne o → P o
  either (inl least) = (each o.conn least).0 refl
  either (inr is) = pongs o is

pong_not : (k : ℕ) (out : Out) → out ≡ pong out.to → AssignsNot k out
unfolding AssignsNot
pong_not k out is = subst (λ (o : Out). AssignsAnother k (rsl_in o.frame)) (sym is) tt

pub step_names : (settings : Parameters) (done : List Event) (s : Step) (k : ℕ) → AreAllowed settings → AllByRecursion IsOctetStep (all_steps (new_actors settings) done) → IsOctetStep s → IsUnanswered (world settings done) k
    → AllByRecursion (λ out. AssignsAnother k (rsl_in out.frame)) (step (world settings done).controller s).outs
unfolding AssignsNot
step_names settings done s k allowed octets own unanswered =
    subst (λ (c : Controller). AllByRecursion (λ out. AssignsAnother k (rsl_in out.frame)) (step c s).outs) (sym by_table)
    (each_one (AssignsNot k) (step c s).outs
    (λ n least. of n least (life_names settings steps s n least)) (pong_not k) (outs_of_one c s (life_fits settings steps 1 (omega arith)).numbered)) where
      steps : List Step
      steps = all_steps (new_actors settings) done

      c : Controller
      c = (life settings steps).next

      by_table : (world settings done).controller ≡ c
      by_table = FollowsTable-new settings done

      of : (n : ℕ) → 1 ≤ n → NamesItsMobile n c s → AllByRecursion (λ out. out.conn ≡ n → AssignsNot k out) (step c s).outs
      of n least named =
          of_connection k n (connection_of c n) (step c s).outs named.put (λ t is. unanswered n t (ap (λ (d : Controller). connection_of d n) by_table ∙ is)) named.outs named.names (life_sends settings steps s allowed octets own)

-- ---- what waits after a turn

linked : (k : ℕ) (target : Option Tenure) (n : ℕ) (outs : List Out) →
    AllByRecursion (λ out. AssignsAnother k (rsl_in out.frame)) outs →
    AllByRecursion (λ entry. AssignsAnother k (rsl_in entry.out.frame)) (to_link n (map (entry_of target) outs))
linked k target n [] all = tt
linked k target n (out ∷ outs) all = by (nat_eq (entry_of target out).out.to n) (linked k target n outs all.1) where
  by : (b : Bool) →
      AllByRecursion (λ entry. AssignsAnother k (rsl_in entry.out.frame)) (to_link n (map (entry_of target) outs)) →
      AllByRecursion (λ entry. AssignsAnother k (rsl_in entry.out.frame)) (cond b (entry_of target out ∷ to_link n (map (entry_of target) outs)) (to_link n (map (entry_of target) outs)))
  by false others = others
  by true others = (subst (λ (o : Out). AssignsAnother k (rsl_in o.frame)) (sym (entry_out target out)) all.0, others)

pub turn_names : (k : ℕ) (target : Option Tenure) (outs : List Out) (u : Actors) →
    NoneNames u k →
    AllByRecursion (λ out. AssignsAnother k (rsl_in out.frame)) outs →
    NoneNames (fold (joined_by target) u outs) k
turn_names k target outs u none all station =
    subst (AllByRecursion (λ entry. AssignsAnother k (rsl_in entry.out.frame))) (sym (all_join station target outs u).outbox)
    (AllByRecursion-append (λ entry. AssignsAnother k (rsl_in entry.out.frame)) (outbox_of u station) (if is_up u station then to_link station (map (entry_of target) outs) else []) (none station) (by (is_up u station))) where
      by : (b : Bool) →
          AllByRecursion (λ entry. AssignsAnother k (rsl_in entry.out.frame)) (if b then to_link station (map (entry_of target) outs) else [])
      by true = linked k target station outs all
      by false = tt
