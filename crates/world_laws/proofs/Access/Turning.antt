-- SPDX-License-Identifier: MIT OR Apache-2.0
-- What a turn of the controller leaves unchanged in a world, and whose its outputs are.
use Rattle.world_laws.proofs.Prelude.{◌≡◌, ◌≢◌, ℕ, nat_eq, Bool, true, false, if◌then◌else◌, cond, List, [], ◌∷◌, ◌++◌, fold, map, Option}
use Rattle.world_laws.proofs.Prelude.{Some, Ok, refl, sym, ap, ◌∙◌, subst, AllByRecursion, result_ok, eqb-true, eqb-false}
use Rattle.world_laws.proofs.Prelude.{Channel, Message, Out, outs_of, immediate_assign_command, immediate_assignment, WaitEstablish}
use Rattle.world_laws.proofs.Prelude.{Connection, outs_for, IsSent, Forwarded, place_at, place_of, messages_on, RrMessage}
use Rattle.world_laws.proofs.Prelude.{ImmediateAssignment, RrFault, Sapi, Zero, Three, rr_text, Rsl, RequestReference, rsl_text, Tenure}
use Rattle.world_laws.proofs.Prelude.{to_link, joined_by, rsl_in, Actors, is_up, outbox_of, with_outbox, all_join, AllByRecursion-append}
use Rattle.world_laws.proofs.Prelude.{Result, is_same_sapi, rr_reading, PCH_AND_AGCH, going_down, leading_by, leading_from_outbox}
use Rattle.world_laws.proofs.Prelude.{AreAssigned, Assigns, AssignsBy, AssignsIn, AssignsAnother, NamesAnother, entry_out}
use Rattle.conn_messages.specs.Out.{out_of}
use Rattle.rsl_codec.specs.declared.common_channel.ImmediateAssignment.{ImmediateAssignment as Assignment}
use Rattle.rsl_codec.specs.declared.rsl.Rsl.TheVariants as rsl
use Rattle.world_model.specs.Relay.{entry_of}
use Rattle.world_laws.proofs.Others.{down_joined}
use Rattle.world_laws.proofs.OrderTexts.{assignment_apart, assignment_back, read_of}
use Rattle.world_laws.proofs.OrderNames.{assignment_read}

-- ---- whose an output is

pub none_own : (n : ℕ) (outs : List Out) → outs_for n outs ≡ [] → AllByRecursion (λ out. out.conn ≢ n) outs
none_own n [] is = tt
none_own n (o ∷ os) is = by (nat_eq o.conn n) refl is (none_own n os) where
  by : (b : Bool) →
      nat_eq o.conn n ≡ b →
      cond b (o ∷ outs_for n os) (outs_for n os) ≡ [] →
      (outs_for n os ≡ [] → AllByRecursion (λ out. out.conn ≢ n) os) →
      (o.conn ≢ n) × AllByRecursion (λ out. out.conn ≢ n) os
  by true hit is others = absurd cc
  by false miss is others = (eqb-false o.conn n miss, others is)

-- those of this number are of what was put for it
pub own_among : (P : Message → Type 0) (n : ℕ) (outs : List Out) (put : List Message) →
    outs_for n outs ≡ outs_of n put →
    AllByRecursion P put →
    AllByRecursion (λ out. out.conn ≡ n → (x : Message) × (out ≡ out_of n x) × P x) outs
own_among P n [] put is all = tt
own_among P n (o ∷ os) put is all = by (nat_eq o.conn n) refl is (own_among P n os) where
  Own : Out → Type 0
  Own out = out.conn ≡ n → (x : Message) × (out ≡ out_of n x) × P x

  first : (put : List Message) →
      o ∷ outs_for n os ≡ outs_of n put →
      AllByRecursion P put →
      ((put : List Message) → outs_for n os ≡ outs_of n put → AllByRecursion P put → AllByRecursion Own os) →
      Own o × AllByRecursion Own os
  first [] is all others = absurd cc
  first (x ∷ put) is all others = (λ _. (x, (let both : o ∷ outs_for n os ≡ out_of n x ∷ outs_of n put = is in cc), all.0), others put (let both : o ∷ outs_for n os ≡ out_of n x ∷ outs_of n put = is in cc) all.1)

  by : (b : Bool) →
      nat_eq o.conn n ≡ b →
      cond b (o ∷ outs_for n os) (outs_for n os) ≡ outs_of n put →
      ((put : List Message) → outs_for n os ≡ outs_of n put → AllByRecursion P put → AllByRecursion Own os) →
      Own o × AllByRecursion Own os
  by true hit is others = first put is all others
  by false miss is others = (λ same. absurd (eqb-false o.conn n miss same), others put is all)

-- what holds of others' outputs and of its own holds of all
pub of_all : (P Q : Out → Type 0) (n : ℕ) (outs : List Out) →
    ((out : Out) → P out → Q out) →
    AllByRecursion (λ out. out.conn ≢ n → P out) outs →
    AllByRecursion (λ out. out.conn ≡ n → Q out) outs →
    AllByRecursion Q outs
of_all P Q n [] others all own = tt
of_all P Q n (o ∷ os) others all own = (by (nat_eq o.conn n) refl, of_all P Q n os others all.1 own.1) where
  by : (b : Bool) → nat_eq o.conn n ≡ b → Q o
  by true hit = own.0 (eqb-true o.conn n hit)
  by false miss = others o (all.0 (eqb-false o.conn n miss))

-- ---- what joins the outboxes

pub all_down : (target : Option Tenure) (c : Channel) (outs : List Out) (u : Actors) →
    AllByRecursion (λ out. out.to ≡ c.station → leading_from_outbox c.number (entry_of target out) ≡ []) outs →
    going_down (fold (joined_by target) u outs) (place_of c) ≡ going_down u (place_of c)
all_down target c [] u all = refl
all_down target c (out ∷ outs) u all = all_down target c outs (joined_by target u out) all.1 ∙ by (is_up u out.to) where
  by : (b : Bool) →
      going_down (if b then with_outbox out.to (outbox_of u out.to ++ entry_of target out ∷ []) u else u) (place_of c) ≡ going_down u (place_of c)
  by true = down_joined u target out c all.0
  by false = refl

linked : (mobile : ℕ) (next : Connection) (target : Option Tenure) (n : ℕ) (outs : List Out) →
    AllByRecursion (λ out. AssignsBy mobile next out.to (rsl_in out.frame)) outs →
    AllByRecursion (AssignsIn mobile next n) (to_link n (map (entry_of target) outs))
linked mobile next target n [] all = tt
linked mobile next target n (out ∷ outs) all = by (nat_eq (entry_of target out).out.to n) refl (linked mobile next target n outs all.1) where
  by : (b : Bool) →
      nat_eq (entry_of target out).out.to n ≡ b →
      AllByRecursion (AssignsIn mobile next n) (to_link n (map (entry_of target) outs)) →
      AllByRecursion (AssignsIn mobile next n) (cond b (entry_of target out ∷ to_link n (map (entry_of target) outs)) (to_link n (map (entry_of target) outs)))
  by false miss others = others
  by true hit others =
      (subst (λ (o : Out). AssignsBy mobile next n (rsl_in o.frame)) (sym (entry_out target out)) (subst (λ (k : ℕ). AssignsBy mobile next k (rsl_in out.frame)) (ap (λ (o : Out). o.to) (sym (entry_out target out)) ∙ eqb-true (entry_of target out).out.to n hit) all.0), others)

pub assigned_turn : (mobile : ℕ) (next : Connection) (target : Option Tenure) (outs : List Out) (u : Actors) →
    AreAssigned u mobile next →
    AllByRecursion (λ out. AssignsBy mobile next out.to (rsl_in out.frame)) outs →
    AreAssigned (fold (joined_by target) u outs) mobile next
assigned_turn mobile next target outs u assigned all station =
    subst (AllByRecursion (AssignsIn mobile next station)) (sym (all_join station target outs u).outbox)
    (AllByRecursion-append (AssignsIn mobile next station) (outbox_of u station) (if is_up u station then to_link station (map (entry_of target) outs) else []) (assigned station) (by (is_up u station))) where
      by : (b : Bool) → AllByRecursion (AssignsIn mobile next station) (if b then to_link station (map (entry_of target) outs) else [])
      by true = linked mobile next target station outs all
      by false = tt

-- ---- IMMEDIATE ASSIGNMENTs

pub another_names : (mobile : ℕ) (next : Connection) (station : ℕ) (r : Result RrMessage RrFault) →
    NamesAnother mobile r →
    Assigns mobile next station r
another_names mobile next station (Ok (ImmediateAssignment channel request advance)) names = λ same. absurd (names same)
another_names mobile next station _ names = tt

pub another_assigns : (mobile : ℕ) (next : Connection) (station : ℕ) (o : Option Rsl) →
    AssignsAnother mobile o →
    AssignsBy mobile next station o
another_assigns mobile next station (Some (rsl.ImmediateAssignCommand i)) names = another_names mobile next station (rr_reading i.information) names
another_assigns mobile next station _ names = tt

-- the connection's own
abbrev pub command_of : Channel → RequestReference → ℕ → Assignment
command_of c request delay = record { channel = PCH_AND_AGCH; information = rr_text (immediate_assignment c request delay) }

-- what is read of it
pub record AssignsOwn (n : ℕ) (c : Channel) (request : RequestReference) (delay : ℕ) : Type 0 where
  pub as_read : Rsl
  pub reads : rsl_in (out_of n (immediate_assign_command c request delay)).frame ≡ Some as_read
  pub text : rsl_text (rsl.ImmediateAssignCommand (command_of c request delay)) ≡ rsl_text as_read

pub assigns_own : (n : ℕ) (c : Channel) (request : RequestReference) (delay : ℕ) →
    IsSent (out_of n (immediate_assign_command c request delay)) →
    AssignsOwn n c request delay
unfolding out_of
assigns_own n c request delay sent = let read = read_of n c.station (rsl.ImmediateAssignCommand (command_of c request delay)) sent in record { as_read = read.0; reads = ap result_ok read.1.reading; text = read.1.text }

pub own_leads : (i : Assignment) (channel : ℕ) (target : Option Tenure) (y : Rsl) →
    rsl_text (rsl.ImmediateAssignCommand i) ≡ rsl_text y →
    leading_by channel target (Some y) ≡ []
own_leads i channel target (rsl.DataRequest d) text = absurd (assignment_apart i d text)
own_leads i channel target _ text = refl

information_in : Rsl → List ℕ
information_in (rsl.ImmediateAssignCommand i) = i.information
information_in _ = []

-- it is of this channel
names_own : (mobile : ℕ) (next : Connection) (c : Channel) (request : RequestReference) (delay : ℕ) (information : List ℕ) →
    information ≡ rr_text (immediate_assignment c request delay) →
    ((number : ℕ) → number ≡ c.number → (place_at c.station number ≡ place_of next.serving) × (next.state ≡ WaitEstablish)) →
    Assigns mobile next c.station (rr_reading information)
names_own mobile next c request delay information is all =
    let read = assignment_read c request delay in
    subst (Assigns mobile next c.station) (sym (ap rr_reading is ∙ read.reads)) (λ same. all read.channel.channel.0 read.number)

pub own_assigns : (mobile : ℕ) (next : Connection) (c : Channel) (request : RequestReference) (delay : ℕ) (y : Rsl) → rsl_text (rsl.ImmediateAssignCommand (command_of c request delay)) ≡ rsl_text y
    → ((number : ℕ) → number ≡ c.number → (place_at c.station number ≡ place_of next.serving) × (next.state ≡ WaitEstablish)) → AssignsBy mobile next c.station (Some y)
unfolding information_in
own_assigns mobile next c request delay (rsl.ImmediateAssignCommand j) text all =
    let back = assignment_back (rsl.ImmediateAssignCommand (command_of c request delay)) j text in
    let same : (command_of c request delay).information ≡ back.0.information = ap information_in back.1 in
    names_own mobile next c request delay j.information (sym back.2 ∙ sym same) all
own_assigns mobile next c request delay _ text all = tt

-- ---- the messages that are forwarded

pub all_zero : (fs : List Forwarded) → messages_on Three fs ≡ [] → map (λ f. f.message) fs ≡ messages_on Zero fs
all_zero [] none = refl
all_zero (f ∷ fs) none = by f.sapi none (all_zero fs) where
  by : (sapi : Sapi) → (if is_same_sapi Three sapi then f.message ∷ [] else []) ++ messages_on Three fs ≡ [] → (messages_on Three fs ≡ [] → map (λ f. f.message) fs ≡ messages_on Zero fs)
      → f.message ∷ map (λ f. f.message) fs ≡ (if is_same_sapi Zero sapi then f.message ∷ [] else []) ++ messages_on Zero fs
  by Zero none others = ap (λ (ms : List (List ℕ)). f.message ∷ ms) (others none)
  by Three none others = absurd cc
