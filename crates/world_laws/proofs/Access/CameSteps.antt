-- SPDX-License-Identifier: MIT OR Apache-2.0
-- What each step of the controller makes of a connection that is coming.
use Rattle.world_laws.proofs.Prelude.{◌≡◌, ◌≢◌, ℕ, ◌+◌, ◌≤◌, ◌==◌, Bool, true, false, if◌then◌else◌, cond, List, [], ◌∷◌, ◌++◌, length, map}
use Rattle.world_laws.proofs.Prelude.{option_to_list, Ok, Option, Some, None, refl, sym, ap, ◌∙◌, subst, arith, AllByRecursion, flat_map}
use Rattle.world_laws.proofs.Prelude.{Channel, Place, Message, Out, SWITCH_LINK, outs_of, immediate_assign_command, complete_layer3, Input}
use Rattle.world_laws.proofs.Prelude.{WaitActivation, WaitEstablish, WaitConfirm, Connection, enter, is_at, relayed, IsAged, IsBrought}
use Rattle.world_laws.proofs.Prelude.{brought_by, brought_in, brought_with, if_held, connection_of, outs_for, IsSent, messages_on}
use Rattle.world_laws.proofs.Prelude.{aged_holds, forwarded_seen, Forwarded, Take, Word, OnChannel, Reports, OnConnection, Controller, Turn}
use Rattle.world_laws.proofs.Prelude.{channel_state, holder, hears, place_at, place_of, sapi_of, Sapi, Zero, Three, Frame, to_be_taken}
use Rattle.world_laws.proofs.Prelude.{RelayItem, What, Establishment, Rsl, AreAllowed, Parameters, Event, On, Tenure, actors_after_all}
use Rattle.world_laws.proofs.Prelude.{rsl_in, AllSitBy, Actors, base_of, is_up, mobile_of, modulus_in, new_actors, outbox_of, tenure_at}
use Rattle.world_laws.proofs.Prelude.{and_left, and_right, RrMessage, ImmediateAssignment, RrFault, OutboxEntry, Result, brings_nothing}
use Rattle.world_laws.proofs.Prelude.{brings_input, brings_time, word_of, forwarded, controls_in, controls_of, messages_in, read_by}
use Rattle.world_laws.proofs.Prelude.{read_of, brings_by, brings_if, brings_in, coming_up, made_of, of_establishment, going_down}
use Rattle.world_laws.proofs.Prelude.{leading_by, leading_from_outbox, taken_in, taken_of, waiting_of, initial_by, initials_up, LinedUp}
use Rattle.world_laws.proofs.Prelude.{AreLinedUp, IsForOthers, AreAssigned, Assigns, AssignsBy, AssignsIn, BeginsOnce, IsComing, AreBeside}
use Rattle.world_laws.proofs.Prelude.{HasAccess, IsBeside, has_requested, rr_reading, entry_out}
use Rattle.conn_messages.specs.Out.{out_of}
use Rattle.conn_rules.specs.declared.input.Input.TheVariants as inputs
use Rattle.world_laws.specs.LineUp.Places.{Item}
use Rattle.world_laws.specs.LineUp.Places.Item.{brought}
use Rattle.ruled_relay.specs.declared.item.What.TheVariants as whats
use Rattle.rsl_codec.specs.declared.rsl.Rsl.TheVariants as rsl
use Rattle.world_model.specs.Relay.{entry_of}
use Rattle.world_laws.proofs.OwnTurn.{turn_waiting}
use Rattle.world_laws.proofs.ValidConnections.{connections_are_valid_new}
use Rattle.world_laws.specs.Access.Arriving.{IsKnown}
use Rattle.world_laws.specs.Access.Coming.{IsAccessing}
use Rattle.world_laws.specs.Access.Coming.BeginsOnce.{began, to_begin}
use Rattle.world_laws.specs.Access.Coming.IsAccessing.{arrived, asks}
use Rattle.world_laws.proofs.Access.Arriving.{serving_placed}
use Rattle.world_laws.proofs.Access.Beginning.{IsBareOf, bare_of}
use Rattle.world_laws.proofs.Access.Behind.{controls_sub}
use Rattle.world_laws.proofs.Access.Brings.{Establishes, frame_establishes}
use Rattle.world_laws.proofs.Access.Served.{served_by}
use Rattle.world_laws.proofs.Access.Turning.{all_down, all_zero, another_assigns, assigned_turn, assigns_own, command_of, none_own, of_all}
use Rattle.world_laws.proofs.Access.Turning.{own_among, own_assigns, own_leads}
use Rattle.world_laws.proofs.Access.Came.{IsLess, IsLike, aged_like, asks_lined, before, remains_came, assigned_came, assigned_comes, turn_comes}
use Rattle.world_laws.proofs.Access.Came.{turned, v_controller, v_initials, v_mobile, v_tenure, v_coming}
use Rattle.world_laws.proofs.Access.Upcoming.{controls_up}
use Rattle.world_laws.proofs.Apart.{all_both}

-- ---- a frame that says an ESTABLISH INDICATION to the connection

pub record SaysOpening (item : RelayItem) (place : Place) (initial : List ℕ) : Type 0 where
  frame : Frame
  is : item.what ≡ whats.Frame frame
  establishment : Establishment
  read : rsl_in frame ≡ Some (rsl.EstablishIndication establishment)
  sapi : sapi_of establishment.link ≡ Some Zero
  l3 : establishment.l3 ≡ Some initial
  channel : place ≡ place_at item.source establishment.channel

by_word : (c : Controller) (n source : ℕ) (frame : Frame) (word : Word) (place : Place) (initial : List ℕ) →
    Establishes source (rsl_in frame) word →
    IsBrought (brought_by c n word) (inputs.EstablishIndication place Zero (Some initial)) →
    Establishes source (rsl_in frame) (OnChannel place (inputs.EstablishIndication place Zero (Some initial)))
by_word c n source frame (OnChannel holds input) place initial says brought_it = by (holder (channel_state c holds)) brought_it where
  by : (o : Option ℕ) →
      IsBrought (if_held n o input) (inputs.EstablishIndication place Zero (Some initial)) →
      Establishes source (rsl_in frame) (OnChannel place (inputs.EstablishIndication place Zero (Some initial)))
  by None none = absurd none
  by (Some k) own = either (k == n) own where
    either : (b : Bool) →
        IsBrought (if b then brings_input input else brings_nothing) (inputs.EstablishIndication place Zero (Some initial)) →
        Establishes source (rsl_in frame) (OnChannel place (inputs.EstablishIndication place Zero (Some initial)))
    either true is = subst (λ (i : Input). Establishes source (rsl_in frame) (OnChannel holds i)) (sym is) says
    either false none = absurd none
by_word c n source frame (OnConnection d input) place initial says brought_it = either (d == n) brought_it where
  either : (b : Bool) →
      IsBrought (if b then brings_input input else brings_nothing) (inputs.EstablishIndication place Zero (Some initial)) →
      Establishes source (rsl_in frame) (OnChannel place (inputs.EstablishIndication place Zero (Some initial)))
  either true is = absurd (subst (λ (i : Input). Establishes source (rsl_in frame) (OnConnection d i)) (sym is) says)
  either false none = absurd none
by_word c n source frame (Reports p of report) place initial says brought_it = absurd cc
by_word c n source frame _ place initial says brought_it = absurd brought_it

pub opening_of : (c : Controller) (n : ℕ) (item : RelayItem) (place : Place) (initial : List ℕ) →
    IsBrought (brought_in c n (Take item)) (inputs.EstablishIndication place Zero (Some initial)) →
    SaysOpening item place initial
opening_of c n item place initial brought_it = by (hears c item.source) item.what refl brought_it where
  breaks : (b : Bool) →
      inputs.EstablishIndication place Zero (Some initial) ≡ (if b then inputs.SwitchDown else inputs.StationDown item.source) →
      SaysOpening item place initial
  breaks true is = absurd cc
  breaks false is = absurd cc

  by : (b : Bool) (what : What) →
      item.what ≡ what →
      IsBrought (if b then brought_with c n item.source what else brings_nothing) (inputs.EstablishIndication place Zero (Some initial)) →
      SaysOpening item place initial
  by false what is none = absurd none
  by true whats.Down is broke = breaks (item.source == SWITCH_LINK) broke
  by true (whats.Frame frame) is own =
      let says = by_word c n item.source frame (word_of item.source frame) place initial (frame_establishes item.source frame) own in
      record { frame = frame; is = is; establishment = says.0; read = says.1; sapi = says.2; l3 = says.3; channel = says.4 }

-- an IMMEDIATE ASSIGNMENT that was of the channel remains so
assigned_within : (mobile : ℕ) (s : Connection) (station : ℕ) (r : Result RrMessage RrFault) →
    Assigns mobile s station r →
    Assigns mobile (enter WaitEstablish s) station r
assigned_within mobile s station (Ok (ImmediateAssignment channel request advance)) assigns = λ same. ((assigns same).0, refl)
assigned_within mobile s station _ assigns = tt

assigned_by : (mobile : ℕ) (s : Connection) (station : ℕ) (o : Option Rsl) →
    AssignsBy mobile s station o →
    AssignsBy mobile (enter WaitEstablish s) station o
assigned_by mobile s station (Some (rsl.ImmediateAssignCommand i)) assigns = assigned_within mobile s station (rr_reading i.information) assigns
assigned_by mobile s station _ assigns = tt

assigned_all : (mobile : ℕ) (s : Connection) (station : ℕ) (entries : List OutboxEntry) →
    AllByRecursion (AssignsIn mobile s station) entries →
    AllByRecursion (AssignsIn mobile (enter WaitEstablish s) station) entries
assigned_all mobile s station [] all = tt
assigned_all mobile s station (entry ∷ entries) all = (assigned_by mobile s station (rsl_in entry.out.frame) all.0, assigned_all mobile s station entries all.1)

none_longer : (initial : List ℕ) (rest : List (List ℕ)) → length (initial ∷ rest) ≤ 1 → rest ≡ []
none_longer initial [] few = refl
none_longer initial (x ∷ rest) few = absurd (omega (arith, few))

pub not_time : (c : Controller) (n : ℕ) (item : RelayItem) → brought_in c n (Take item) ≡ brings_time → ⊥
not_time c n item = by (hears c item.source) item.what where
  held : (o : Option ℕ) (input : Input) → if_held n o input ≡ brings_time → ⊥
  held None input is = absurd cc
  held (Some k) input is = either (k == n) is where
    either : (b : Bool) → (if b then brings_input input else brings_nothing) ≡ brings_time → ⊥
    either true is = absurd cc
    either false is = absurd cc

  by_said : (word : Word) → brought_by c n word ≡ brings_time → ⊥
  by_said (OnChannel holds input) is = held (holder (channel_state c holds)) input is
  by_said (OnConnection d input) is = held (Some d) input is
  by_said _ is = absurd cc

  by : (b : Bool) (what : What) → (if b then brought_with c n item.source what else brings_nothing) ≡ brings_time → ⊥
  by false what is = absurd cc
  by true whats.Down is = absurd cc
  by true (whats.Frame frame) is = by_said (word_of item.source frame) is

to-switch : (n : ℕ) (c : Channel) (initial : List ℕ) → (out_of n (complete_layer3 c initial)).to ≡ SWITCH_LINK
unfolding out_of
to-switch n c initial = refl

module _ (settings : Parameters) (done : List Event) (mobile : ℕ) (s : Connection) where
  abbrev world : Actors
  world = actors_after_all (new_actors settings) done

  abbrev modulus : ℕ
  modulus = modulus_in settings

  abbrev at : Place
  at = place_of s.serving

  abbrev after : Option Tenure → Turn → List RelayItem → Actors
  after target t items = turned settings done mobile s target t items

  abbrev waiting : List RelayItem → Actors
  waiting items = before settings done mobile s items

  -- the first that is on its way up is the initial message
  pub record Opens (items : List RelayItem) (initial : List ℕ) : Type 0 where
    pub on_way_up : coming_up world at ≡ brought initial ∷ coming_up (waiting items) at
    pub one : initials_up world at ≡ initial ∷ initials_up (waiting items) at

  pub opens_with_item : (item : RelayItem) (items : List RelayItem) (place : Place) (initial : List ℕ) →
      world.inbox ≡ item ∷ items →
      SaysOpening item place initial →
      is_at place s.serving ≡ true →
      Opens items initial
  opens_with_item item items place initial pending says is =
      let there : is_at (place_at item.source says.establishment.channel) s.serving ≡ true = ap (λ (p : Place). is_at p s.serving) (sym says.channel) ∙ is in
      let station : (item.source == s.serving.station) ≡ true = and_left (item.source == s.serving.station) (says.establishment.channel == s.serving.number) there in
      let number : (says.establishment.channel == s.serving.number) ≡ true = and_right (item.source == s.serving.station) (says.establishment.channel == s.serving.number) there in
      let brings_it : brings_in at item ≡ brought initial ∷ [] =
      ap (brings_by at item.source) says.is
      ∙ ap (λ (b : Bool). cond b (brings_if s.serving.number (rsl_in says.frame)) []) station
      ∙ ap (brings_if s.serving.number) says.read
      ∙ ap (λ (b : Bool). cond b (of_establishment (sapi_of says.establishment.link) says.establishment.l3) []) number
      ∙ ap (λ (o : Option Sapi). of_establishment o says.establishment.l3) says.sapi
      ∙ ap (of_establishment (Some Zero)) says.l3 in
      let reads_it : read_of at.station item ≡ rsl.EstablishIndication says.establishment ∷ [] =
      ap (read_by at.station item.source) says.is
      ∙ ap (λ (b : Bool). cond b (option_to_list (rsl_in says.frame)) []) station
      ∙ ap option_to_list says.read in
      let opens_it : initial_by s.serving.number (rsl.EstablishIndication says.establishment) ≡ initial ∷ [] =
      ap (λ (b : Bool). cond b (messages_in (of_establishment (sapi_of says.establishment.link) says.establishment.l3)) []) number
      ∙ ap (λ (o : Option Sapi). messages_in (of_establishment o says.establishment.l3)) says.sapi
      ∙ ap (λ (o : Option (List ℕ)). messages_in (of_establishment (Some Zero) o)) says.l3 in
      record {
        on_way_up = ap (λ (xs : List RelayItem). flat_map (brings_in at) xs ++ made_of at.number (base_of world at.station).messages)
            pending
            ∙ ap (λ (xs : List Item). (xs ++ flat_map (brings_in at) items) ++ made_of at.number (base_of world at.station).messages) brings_it;
        one = ap (λ (xs : List RelayItem). flat_map (initial_by at.number) (flat_map (read_of at.station) xs ++ (base_of world at.station).messages)) pending
            ∙ ap (λ (xs : List Rsl). flat_map (initial_by at.number) ((xs ++ flat_map (read_of at.station) items) ++ (base_of world at.station).messages)) reads_it
            ∙ ap (λ (xs : List (List ℕ)). xs ++ flat_map (initial_by at.number) (flat_map (read_of at.station) items ++ (base_of world at.station).messages)) opens_it;
      }

  -- ---- nothing is put for it

  pub quiet_came : (target : Option Tenure) (t : Turn) (items : List RelayItem) (x : Connection) (coming : IsComing modulus world mobile s) → IsLess settings done mobile s items → IsAged s x → connection_of t.next s.number ≡ Some x → outs_for s.number t.outs ≡ []
      → AreBeside target mobile s t.outs → (AllByRecursion (IsForOthers target s) t.outs → s.state ≡ WaitEstablish → AreLinedUp modulus world mobile s → AreLinedUp modulus (after target t items) mobile s) → HasAccess (IsComing modulus) modulus (after target t items) mobile s.number
  quiet_came target t items x coming less aged there none beside lined =
      let all : AllByRecursion (IsBeside target mobile s) t.outs = all_both (λ (out : Out). out.conn ≢ s.number) (λ (out : Out). out.conn ≢ s.number → IsBeside target mobile s out) (IsBeside target mobile s) t.outs (λ out other is. is other) (none_own s.number t.outs none) beside in
      let u : Actors = record (waiting items) { controller = t.next } in
      let down : going_down (after target t items) at ≡ going_down world at = all_down target s.serving t.outs u (all_both (IsBeside target mobile s) (IsBeside target mobile s) (λ (out : Out). out.to ≡ s.serving.station → leading_from_outbox s.serving.number (entry_of target out) ≡ []) t.outs (λ out one two. one.for_others.leads.0) all all) in
      let others : AllByRecursion (IsForOthers target s) t.outs = all_both (IsBeside target mobile s) (IsBeside target mobile s) (IsForOthers target s) t.outs (λ out one two. one.for_others) all all in
      let assigned : AreAssigned (after target t items) mobile s = assigned_turn mobile s target t.outs u (λ station. coming.assigned station) (all_both (IsBeside target mobile s) (IsBeside target mobile s) (λ (out : Out). AssignsBy mobile s out.to (rsl_in out.frame)) t.outs (λ out one two. another_assigns mobile s out.to (rsl_in out.frame) one.assigns) all all) in
      remains_came settings done mobile s target t items x coming aged there (turn_comes settings done mobile s target t items coming.one less down (lined others) coming.found coming.accessing) assigned

  -- ---- the mobile is assigned its channel

  own_at : (target : Option Tenure) (s1 : Connection) (out : Out) → IsLike s s1 → IsSent out → (x : Message) × (out ≡ out_of s.number x) × (x ≡ immediate_assign_command s1.serving s1.request s1.delay)
      → (out.to ≡ s.serving.station → leading_from_outbox s.serving.number (entry_of target out) ≡ []) × AssignsBy mobile (enter WaitEstablish s) out.to (rsl_in out.frame)
  unfolding out_of
  own_at target s1 out like sent own =
      let is : out ≡ out_of s.number (immediate_assign_command s1.serving s1.request s1.delay) = own.1 ∙ ap (out_of s.number) own.2 in
      let reads = assigns_own s.number s1.serving s1.request s1.delay (subst IsSent is sent) in
      let frame : rsl_in out.frame ≡ Some reads.as_read = ap (λ (o : Out). rsl_in o.frame) is ∙ reads.reads in
      let to : out.to ≡ s1.serving.station = ap (λ (o : Out). o.to) is in (
        λ _. ap (λ (o : Out). leading_by s.serving.number (entry_of target out).target (rsl_in o.frame)) (entry_out target out) ∙ ap (leading_by s.serving.number (entry_of target out).target) frame ∙ own_leads (command_of s1.serving s1.request s1.delay) s.serving.number (entry_of target out).target reads.as_read reads.text,
        subst (AssignsBy mobile (enter WaitEstablish s) out.to) (sym frame) (subst (λ (n : ℕ). AssignsBy mobile (enter WaitEstablish s) n (Some reads.as_read)) (sym to)
            (own_assigns mobile (enter WaitEstablish s) s1.serving s1.request s1.delay reads.as_read reads.text (λ number same. (ap (place_at s1.serving.station) same ∙ ap place_of like.serving, refl)))),
      )

  pub acked_came : (target : Option Tenure) (t : Turn) (items : List RelayItem) (s1 : Connection) (coming : IsComing modulus world mobile s) → IsLess settings done mobile s items → IsAged s s1 → s1.state ≡ WaitActivation → connection_of t.next s.number ≡ Some (enter WaitEstablish s1)
      → outs_for s.number t.outs ≡ outs_of s.number (immediate_assign_command s1.serving s1.request s1.delay ∷ []) → AllByRecursion IsSent t.outs → AreBeside target mobile s t.outs → HasAccess (IsComing modulus) modulus (after target t items) mobile s.number
  acked_came target t items s1 coming less aged state there put sent beside =
      let like : IsLike s s1 = aged_like s s1 aged in
      let u : Actors = record (waiting items) { controller = t.next } in
      let own = own_among (λ (x : Message). x ≡ immediate_assign_command s1.serving s1.request s1.delay) s.number t.outs (immediate_assign_command s1.serving s1.request s1.delay ∷ []) put (refl, tt) in
      let both = all_both (λ (out : Out). out.conn ≡ s.number → (x : Message) × (out ≡ out_of s.number x) × (x ≡ immediate_assign_command s1.serving s1.request s1.delay)) IsSent
      (λ (out : Out). out.conn ≡ s.number → (out.to ≡ s.serving.station → leading_from_outbox s.serving.number (entry_of target out) ≡ []) × AssignsBy mobile (enter WaitEstablish s) out.to (rsl_in out.frame)) t.outs (λ out is is_sent. λ same. own_at target s1 out like is_sent (is same)) own sent in
      let all = of_all (IsBeside target mobile s) (λ (out : Out). (out.to ≡ s.serving.station → leading_from_outbox s.serving.number (entry_of target out) ≡ []) × AssignsBy mobile (enter WaitEstablish s) out.to (rsl_in out.frame)) s.number t.outs
      (λ out one. (one.for_others.leads.0, another_assigns mobile (enter WaitEstablish s) out.to (rsl_in out.frame) one.assigns)) beside both in
      let down : going_down (after target t items) at ≡ going_down world at = all_down target s.serving t.outs u (all_both _ _ (λ (out : Out). out.to ≡ s.serving.station → leading_from_outbox s.serving.number (entry_of target out) ≡ []) t.outs (λ out one two. one.0) all all) in
      let assigned : AreAssigned (after target t items) mobile (enter WaitEstablish s) = assigned_turn mobile (enter WaitEstablish s) target t.outs u (λ station. assigned_all mobile s station (outbox_of world station) (coming.assigned station)) (all_both _ _ (λ (out : Out). AssignsBy mobile (enter WaitEstablish s) out.to (rsl_in out.frame)) t.outs (λ out one two. one.1) all all) in
      assigned_came settings done mobile s target t items s1 coming aged there (assigned_comes settings done mobile s target t items coming.one (sym like.state ∙ state) less down coming.accessing) assigned

  -- ---- it asks the switch

  pub asked_came : (target : Option Tenure) (t : Turn) (items : List RelayItem) (s1 : Connection) (initial : List ℕ) (owner : Tenure → ℕ) (coming : IsComing modulus world mobile s) → AreAllowed settings → IsKnown modulus world mobile s → IsLess settings done mobile s items → IsAged s s1 → s1.state ≡ WaitEstablish → Opens items initial → is_up world SWITCH_LINK ≡ true
      → connection_of t.next s.number ≡ Some (enter WaitConfirm s1) → outs_for s.number t.outs ≡ outs_of s.number (complete_layer3 s1.serving initial ∷ []) → AllByRecursion IsSent t.outs → AreBeside target mobile s t.outs → AllSitBy owner (after target t items) → HasAccess (IsComing modulus) modulus (after target t items) mobile s.number
  asked_came target t items s1 initial owner coming allowed known less aged state opens_with up there put sent beside sits = by coming.accessing where
    v : Actors
    v = after target t items

    u : Actors
    u = record (waiting items) { controller = t.next }

    like : IsLike s s1
    like = aged_like s s1 aged

    placed : s.serving.station ≢ SWITCH_LINK
    placed = serving_placed settings done s allowed coming.had

    on_way_up : coming_up world at ≡ brought initial ∷ coming_up v at
    on_way_up = opens_with.on_way_up ∙ ap (λ (xs : List Item). brought initial ∷ xs)
        (sym (v_coming settings done mobile s target t items at))

    -- its own is put for the switch
    own_to : (out : Out) → (x : Message) × (out ≡ out_of s.number x) × (x ≡ complete_layer3 s1.serving initial) → out.to ≡ SWITCH_LINK
    own_to out own = ap (λ (o : Out). o.to) (own.1 ∙ ap (out_of s.number) own.2) ∙ to-switch s.number s1.serving initial

    down : going_down v at ≡ going_down world at
    down = all_down target s.serving t.outs u
        (of_all (IsBeside target mobile s) (λ (out : Out). out.to ≡ s.serving.station → leading_from_outbox s.serving.number (entry_of target out) ≡ []) s.number t.outs (λ out one. one.for_others.leads.0) beside
        (all_both (λ (out : Out). out.conn ≡ s.number → (x : Message) × (out ≡ out_of s.number x) × (x ≡ complete_layer3 s1.serving initial)) IsSent (λ (out : Out). out.conn ≡ s.number → out.to ≡ s.serving.station → leading_from_outbox s.serving.number (entry_of target out) ≡ []) t.outs
        (λ out is is_sent. λ same to. absurd (placed (sym to ∙ own_to out (is same))))
        (own_among (λ (x : Message). x ≡ complete_layer3 s1.serving initial) s.number t.outs (complete_layer3 s1.serving initial ∷ []) put (refl, tt)) sent))

    seen : (sapi : Sapi) → messages_on sapi (forwarded t.outs s.number) ≡ relayed sapi (complete_layer3 s1.serving initial ∷ [])
    seen sapi = forwarded_seen s.number t.outs (complete_layer3 s1.serving initial ∷ []) coming.had.from_one put (tt, tt) sent sapi

    said : waiting_of v s.number ≡ initial ∷ []
    said = turn_waiting target t.outs u s.number up ∙ ap (λ (ms : List (List ℕ)). ms ++ map (λ (f : Forwarded). f.message) (forwarded t.outs s.number)) known.none_waits ∙ all_zero (forwarded t.outs s.number) (seen Three) ∙ seen Zero

    untaken : taken_of world s.number ≡ []
    untaken = ap taken_in known.none_taken

    by : IsAccessing modulus world s coming.one → HasAccess (IsComing modulus) modulus v mobile s.number
    by (asks seat new none uncommanded) = absurd (let both : initial ∷ messages_in (coming_up v at) ≡ [] = sym (ap messages_in on_way_up) ∙ none in cc)
    by (arrived own_state seat lined begun) = once begun where
      once : BeginsOnce world coming.one at → HasAccess (IsComing modulus) modulus v mobile s.number
      once (to_begin opens none behind) = absurd (let both : initial ∷ messages_in (coming_up v at) ≡ [] = sym (ap messages_in on_way_up) ∙ none in cc)
      once (began opens few none) =
          let none_left : initials_up (waiting items) at ≡ [] = none_longer initial (initials_up (waiting items) at) (let count = ap length opens_with.one in omega (arith, few, count)) in
          let none_up : initials_up v (place_of s1.serving) ≡ [] = ap (λ (c : Channel). initials_up v (place_of c)) like.serving ∙ v_initials settings done mobile s target t items at ∙ none_left in
          let left : controls_in (coming_up v at) + controls_of (to_be_taken coming.one.end.zero) ≡ 0 =
          let all = ap controls_in (v_coming settings done mobile s target t items at) ∙ controls_up (waiting items) at in
          let first = ap controls_of none_left in
          let fewer = controls_sub less.later in
          omega (arith, all, first, fewer, none) in
          let bare : IsBareOf s = bare_of s own_state (connections_are_valid_new settings done s.number s coming.had.there) in
          let own : LinedUp modulus v coming.one (enter WaitConfirm s) = asks_lined settings done mobile s target t items initial coming.one own_state bare seat lined placed on_way_up down known.none_waits untaken said left in
          let aged_own : LinedUp modulus v coming.one (enter WaitConfirm s1) = aged_holds (λ (y : Connection). LinedUp modulus v coming.one (enter WaitConfirm y)) (λ ms y l. record { alive = l.alive; sits = l.sits; led = l.led; none_on_target = l.none_on_target; apart = l.apart; placed = l.placed }) s s1 aged own in
          let none_drains : s1.draining ≡ [] = aged_holds (λ (y : Connection). y.draining ≡ []) (λ ms y is. is) s s1 aged bare.draining in
          let found : mobile_of v mobile ≡ Some coming.one = v_mobile settings done mobile s target t items mobile ∙ coming.found in
          let sits_there : coming.one.seat ≡ On (tenure_at v (place_of s1.serving)) None = seat ∙ ap (λ (x : Tenure). On x None) (sym (v_tenure settings done mobile s target t items at) ∙ ap (λ (c : Channel). tenure_at v (place_of c)) (sym like.serving)) in
          has_requested (enter WaitConfirm s1) like.number refl (record {
            had = record {
              there = ap (connection_of v.controller) like.number ∙ ap (λ (c : Controller). connection_of c s.number) (v_controller settings done mobile s target t items) ∙ there;
              is_open = tt;
              from_one = subst (λ (n : ℕ). 1 ≤ n) (sym like.number) coming.had.from_one;
            };
            requested = tt;
            asked = ap (λ (r : _). r.access) like.request ∙ coming.asked;
            lined = record { one = coming.one; found = found; lined = aged_own };
            fresh = record { silent = tt; uncommanded = tt; led = tt };
            opened = record { opened = opens; none_arrives = rw (none_drains) (none_up, tt) };
          }) (served_by owner v (tenure_at v (place_of s1.serving)) mobile coming.one sits found sits_there)
