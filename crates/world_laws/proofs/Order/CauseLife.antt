-- SPDX-License-Identifier: MIT OR Apache-2.0
-- What the controller puts for the switch is fair: CR has a reference, and a CLEAR REQUEST a cause
-- of one octet.
use Rattle.world_laws.proofs.Prelude.{◌≡◌, ◌⊎◌, inl, inr, ℕ, ◌^◌, ◌<◌, ◌≤◌, ◌==◌, Bool, true, false, if◌then◌else◌, List, [], ◌∷◌, ◌++◌}
use Rattle.world_laws.proofs.Prelude.{drop, slice_index_or, option_map, Option, Some, None, Ok, leb, append_assoc, refl, sym, ap, ◌∙◌}
use Rattle.world_laws.proofs.Prelude.{subst, arith, true≢false, AllByRecursion, result_ok, cases_Bool, eq-eqb, leb-false, leb-true}
use Rattle.world_laws.proofs.Prelude.{append-nil, none-some, Bssap, Management, Transfer, Bssmap, InterfaceFault, Sccp, bssap_text}
use Rattle.world_laws.proofs.Prelude.{IsReference, Message, Station, Request, Data, ReleaseComplete, Out, SWITCH_LINK, IsReadOf, outs_of}
use Rattle.world_laws.proofs.Prelude.{Input, State, Removed, Connection, Row, OfRow, Acts, Brought, IsAged, brought_in, kept_in, ages}
use Rattle.world_laws.proofs.Prelude.{takes_row}
use Rattle.world_laws.proofs.Prelude.{opens, rests, connection_of, outs_for, IsNumbered, IsOctetStep, IsSent, find_below, aged_holds}
use Rattle.world_laws.proofs.Prelude.{life_fits, life_sends, life_sound, step_does, Step, Controller, Entry, each, new_controller, pong}
use Rattle.world_laws.proofs.Prelude.{step, Frame, SCCP_STREAM, Rsl, AreAllowed, Parameters, sccp_in, eqb-false, Result, sccp_reading}
use Rattle.world_laws.proofs.Prelude.{row_of, IsMessage, HasFairCause, IsFair}
use Rattle.bssmap_codec.specs.declared.bssmap.Bssmap.TheVariants as bssmap
use Rattle.bssmap_codec.specs.declared.sccp.Sccp.TheVariants as sccp
use Rattle.bssmap_codec.specs.declared.values.Cause.{Cause}
use Rattle.conn_messages.specs.Out.{out_of}
use Rattle.controller_model.specs.Controller.{is_up}
use Rattle.controller_model.specs.Life.{life}
use Rattle.world_laws.proofs.Order.CauseRows.{HasSmall, IsSmallMessage, IsSmallRow, row_small}
use Rattle.world_laws.proofs.References.Numbered.{IsOfOne, outs_of_one}
use Rattle.world_laws.proofs.References.Moving.{each-append}
use Rattle.world_laws.proofs.Framing.{all_left}

-- ---- a connection of the controller

abbrev HasSmallOf : Option Connection → Type 0
HasSmallOf None = Unit {0}
HasSmallOf (Some s) = HasSmall s.state

kept_small : (state : State) (s : Connection) → HasSmall s.state → HasSmallOf (kept_in state s)
kept_small Removed s is = tt
kept_small _ s is = is

aged_small : (old s : Connection) → IsAged old s → HasSmall old.state → HasSmall s.state
aged_small old s aged is = aged_holds (λ (c : Connection). HasSmall c.state) (λ ms c is. is) old s aged is

-- what is put for it to the switch has its number for a reference
abbrev IsReferred : ℕ → Message → Type 0
IsReferred number (Station station message) = Unit {0}
IsReferred number _ = IsReference number

abbrev IsFine : ℕ → Message → Type 0
IsFine number m = IsSmallMessage m × IsReferred number m

all_fine : (number : ℕ) (put : List Message) → IsReference number → AllByRecursion IsSmallMessage put → AllByRecursion (IsFine number) put
all_fine number [] is all = tt
all_fine number (m ∷ ms) is all = ((all.0, by m), all_fine number ms is all.1) where
  by : (m : Message) → IsReferred number m
  by (Station station message) = tt
  by _ = is

row_fine : (old s : Connection) (input : Input) (offer : _) (r : Row) →
    IsAged old s →
    row_of s input offer ≡ Some r →
    HasSmall old.state →
    IsSmallRow r
row_fine old s input offer r aged fits small = subst (OfRow IsSmallRow) fits (row_small s input offer (aged_small old s aged small))

record IsFineStep (number : ℕ) (put : List Message) (after : Option Connection) : Type 0 where
  small : HasSmallOf after
  fine : AllByRecursion (IsFine number) put

acts_fine : (number next : ℕ) (up : Bool) (brought : Brought) (before after : Option Connection) (put : List Message) →
    ((s : Connection) → before ≡ Some s → IsReference number) →
    HasSmallOf before →
    Acts number next up brought before put after →
    IsFineStep number put after
acts_fine number next up brought before after put below small (rests silent same none) = record { small = subst HasSmallOf (sym same) small; fine = subst (AllByRecursion (IsFine number)) (sym silent) tt }
acts_fine number next up brought before after put below small (ages old s is_time is aged silent same) =
    record { small = subst HasSmallOf (sym same) (aged_small old s aged (subst HasSmallOf is small)); fine = subst (AllByRecursion (IsFine number)) (sym silent) tt }
acts_fine number next up brought before after put below small (opens begins linked channel request delay is_nothing none put_is same) =
    record { small = subst HasSmallOf (sym same) tt; fine = subst (AllByRecursion (IsFine number)) (sym put_is) ((tt, tt), tt) }
acts_fine number next up brought before after put below small (takes_row old s input offer r is aged by fits put_is same) =
    let row = row_fine old s input offer r aged fits (subst HasSmallOf is small) in
    record {
      small = subst HasSmallOf (sym same) (kept_small r.next.state r.next row.0);
      fine = subst (AllByRecursion (IsFine number)) (sym put_is) (all_fine number r.outs (below old is) row.1);
    }

-- ---- a life

below_next : (number : ℕ) (c : Controller) (s : Connection) →
    IsNumbered c →
    connection_of c number ≡ Some s →
    c.next_number ≤ 2 ^ 24 →
    IsReference number
below_next number c s numbered there few = elim (cases_Bool (leb c.next_number number)) [
  | inl past ↦ absurd (none-some s (sym (ap (option_map (λ (e : Entry). e.connection)) (find_below number c.entries (weaker c.entries (leb-true c.next_number number past) numbered.below))) ∙ there))
  | inr less ↦ omega (arith, leb-false c.next_number number less, few)
] where
  weaker : (es : List Entry) →
      c.next_number ≤ number →
      AllByRecursion (λ (e : Entry). e.connection.number < c.next_number) es →
      AllByRecursion (λ (e : Entry). e.connection.number < number) es
  weaker [] past all = tt
  weaker (e ∷ es) past all = (omega (arith, all.0, past), weaker es past all.1)

module _ (p : Parameters) (allowed : AreAllowed p) (number : ℕ) (from_one : 1 ≤ number) where
  step_fine : (steps : List Step) (s : Step) → AllByRecursion IsOctetStep steps → HasSmallOf (connection_of (life p steps).next number)
      → (put : List Message) × (outs_for number (step (life p steps).next s).outs ≡ outs_of number put) × IsFineStep number put (connection_of (step (life p steps).next s).next number)
  step_fine steps s octets small =
      let c : Controller = (life p steps).next in
      let numbered = (life_fits p steps number from_one).numbered in
      let does = step_does number c s from_one numbered in (
        does.put,
        does.outs,
        acts_fine number c.next_number (is_up c SWITCH_LINK) (brought_in c number s) (connection_of c number) (connection_of (step c s).next number) does.put
            (λ old there. below_next number c old numbered there (life_sound p steps allowed octets).next) small does.acts,
      )

  small_through : (done rest : List Step) →
      AllByRecursion IsOctetStep (done ++ rest) →
      HasSmallOf (connection_of (life p done).next number) →
      HasSmallOf (connection_of (life p (done ++ rest)).next number)
  unfolding life
  small_through done [] octets small = subst (λ (steps : List Step). HasSmallOf (connection_of (life p steps).next number)) (sym (append-nil done)) small
  small_through done (s ∷ rest) octets small =
      let same : (done ++ s ∷ []) ++ rest ≡ done ++ s ∷ rest = append_assoc done (s ∷ []) rest in
      let own = step_fine done s (all_left IsOctetStep done (s ∷ rest) octets) small in
      subst (λ (steps : List Step). HasSmallOf (connection_of (life p steps).next number)) same
      (small_through (done ++ s ∷ []) rest (subst (AllByRecursion IsOctetStep) (sym same) octets)
      (subst (λ (c : Controller). HasSmallOf (connection_of c number)) (sym (each-append (new_controller p) done (s ∷ []))) own.2.small))

  small_life : (steps : List Step) → AllByRecursion IsOctetStep steps → HasSmallOf (connection_of (life p steps).next number)
  unfolding life
  small_life steps octets = small_through [] steps octets tt

-- ---- each frame of a step

-- it is of a message that is fine
abbrev IsFineOut : Out → Type 0
IsFineOut out = (number : ℕ) × (m : Message) × (out ≡ out_of number m) × IsFine number m

fine_outs : (number : ℕ) (put : List Message) → AllByRecursion (IsFine number) put → AllByRecursion IsFineOut (outs_of number put)
fine_outs number [] all = tt
fine_outs number (m ∷ ms) all = ((number, m, refl, all.0), fine_outs number ms all.1)

all_own : (xs : List Out) →
    ((number : ℕ) → 1 ≤ number → AllByRecursion IsFineOut (outs_for number xs)) →
    AllByRecursion (λ (out : Out). 1 ≤ out.conn → IsFineOut out) xs
all_own [] each = tt
all_own (x ∷ xs) each = ((λ from_one. first (x.conn == x.conn) (eq-eqb x.conn x.conn refl) (each x.conn from_one)), all_own xs (λ number from_one. others (x.conn == number) number (each number from_one))) where
  first : (b : Bool) → b ≡ true → AllByRecursion IsFineOut (if b then x ∷ outs_for x.conn xs else outs_for x.conn xs) → IsFineOut x
  first true is all = all.0
  first false is all = absurd (true≢false (sym is))

  others : (b : Bool) (number : ℕ) →
      AllByRecursion IsFineOut (if b then x ∷ outs_for number xs else outs_for number xs) →
      AllByRecursion IsFineOut (outs_for number xs)
  others true number all = all.1
  others false number all = all

-- ---- what the switch reads of it

read_fair : (frame : Frame) (message : Sccp) → sccp_reading frame.body ≡ Ok message → IsFair (Some message) → IsFair (sccp_in frame)
read_fair frame message read fair = by (frame.stream == SCCP_STREAM) where
  by : (b : Bool) → IsFair (if b then result_ok (sccp_reading frame.body) else None)
  by true = subst (λ (r : Result Sccp InterfaceFault). IsFair (result_ok r)) (sym read) fair
  by false = tt

pong_fair : (out : Out) → out ≡ pong out.to → IsFair (sccp_in out.frame)
pong_fair out is = subst (λ (o : Out). IsFair (sccp_in o.frame)) (sym is) tt

third : {xs ys : List ℕ} → xs ≡ ys → slice_index_or xs 2 0 ≡ slice_index_or ys 2 0
third same = ap (λ (xs : List ℕ). slice_index_or xs 2 0) same

first_of : {xs ys : List ℕ} → xs ≡ ys → slice_index_or xs 0 0 ≡ slice_index_or ys 0 0
first_of same = ap (λ (xs : List ℕ). slice_index_or xs 0 0) same

-- two texts of CLEAR REQUEST have one cause
clear_of : (b : Bssmap) (cause : Cause) →
    bssap_text (Management b) ≡ bssap_text (Management (bssmap.ClearRequest cause)) →
    HasFairCause (Some (Management b)) →
    HasFairCause (Some (Management (bssmap.ClearRequest cause)))
clear_of (bssmap.ClearRequest own) cause same fair =
    (fair.0, fair.1, sym (sym (append-nil own.0) ∙ ap (drop 5) same ∙ append-nil cause.0) ∙ fair.2)
clear_of _ cause same fair = absurd (eqb-false _ _ refl (third same))

text_fair : (b own : Bssap) → bssap_text b ≡ bssap_text own → HasFairCause (Some b) → HasFairCause (Some own)
text_fair (Management b) (Management (bssmap.ClearRequest cause)) same fair = clear_of b cause same fair
text_fair (Transfer dlci message) (Management (bssmap.ClearRequest cause)) same fair = absurd (eqb-false _ _ refl (first_of same))
text_fair b _ same fair = tt

-- a frame of a message that is read so, and is that of one that is fine
data_fair : (conn number destination : ℕ) (own : Bssap) (m : Message) →
    out_of conn (Data destination own) ≡ out_of number m →
    IsFine number m →
    HasFairCause (Some own)
unfolding out_of
data_fair conn number destination own (Station station message) same fine = absurd (eqb-false _ _ refl (ap (λ (o : Out). o.frame.stream) same))
data_fair conn number destination own (Data reference message) same fine = text_fair message own (sym (ap (λ (o : Out). drop 7 o.frame.body) same)) fine.0
data_fair conn number destination own _ same fine = absurd (eqb-false _ _ refl (first_of (ap (λ (o : Out). o.frame.body) same)))

request_fair : (conn number : ℕ) (own : Bssap) (m : Message) →
    out_of conn (Request own) ≡ out_of number m →
    IsFine number m →
    IsReference conn
unfolding out_of
request_fair conn number own (Station station message) same fine = absurd (eqb-false _ _ refl (ap (λ (o : Out). o.frame.stream) same))
request_fair conn number own _ same fine = subst IsReference (sym (ap (λ (o : Out). o.conn) same)) fine.1

station_fair : (conn station : ℕ) (message : Rsl) → IsFair (sccp_in (out_of conn (Station station message)).frame)
unfolding out_of
station_fair conn station message = tt

message_fair : (out : Out) (own : Message) →
    out ≡ out_of out.conn own →
    IsReadOf out.conn own out.frame.body →
    IsFineOut out →
    IsFair (sccp_in out.frame)
message_fair out (Station station message) put read fine = subst (λ (o : Out). IsFair (sccp_in o.frame)) (sym put) (station_fair out.conn station message)
message_fair out (Request own) put read fine = read_fair out.frame (sccp.ConnectionRequest out.conn (Some read.0)) read.1 (request_fair out.conn fine.0 own fine.1 (sym put ∙ fine.2) fine.3)
message_fair out (Data destination own) put read fine =
    read_fair out.frame (sccp.DataForm1 destination read.0) read.1
    (subst (λ (r : Result Bssap InterfaceFault). HasFairCause (result_ok r)) (sym read.2) (data_fair out.conn fine.0 destination own fine.1 (sym put ∙ fine.2) fine.3))
message_fair out (ReleaseComplete destination) put read fine = read_fair out.frame (sccp.ReleaseComplete destination out.conn) read tt

out_fair : (out : Out) → IsSent out → IsOfOne out → (1 ≤ out.conn → IsFineOut out) → IsFair (sccp_in out.frame)
out_fair out sent (inr is) fine = pong_fair out is
out_fair out sent (inl from_one) fine = by sent.is where
  by : IsMessage out ⊎ (out ≡ pong out.to) → IsFair (sccp_in out.frame)
  by (inl message) = message_fair out message.message message.put message.read (fine from_one)
  by (inr is) = pong_fair out is

all_fair : (xs : List Out) →
    AllByRecursion IsSent xs →
    AllByRecursion IsOfOne xs →
    AllByRecursion (λ (out : Out). 1 ≤ out.conn → IsFineOut out) xs →
    AllByRecursion (λ (out : Out). IsFair (sccp_in out.frame)) xs
all_fair [] sent ones fine = tt
all_fair (x ∷ xs) sent ones fine = (out_fair x sent.0 ones.0 fine.0, all_fair xs sent.1 ones.1 fine.1)

pub step_fair : (p : Parameters) (steps : List Step) (s : Step) →
    AreAllowed p →
    AllByRecursion IsOctetStep steps →
    IsOctetStep s →
    AllByRecursion (λ (out : Out). IsFair (sccp_in out.frame)) (step (life p steps).next s).outs
step_fair p steps s allowed octets own =
    let c : Controller = (life p steps).next in
    all_fair (step c s).outs (life_sends p steps s allowed octets own) (outs_of_one c s (life_fits p steps 1 (omega arith)).numbered)
    (all_own (step c s).outs (λ number from_one.
    let fine = step_fine p allowed number from_one steps s octets (small_life p allowed number from_one steps octets) in
    subst (AllByRecursion IsFineOut) (sym fine.1) (fine_outs number fine.0 fine.2.fine)))
