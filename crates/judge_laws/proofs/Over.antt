-- SPDX-License-Identifier: MIT OR Apache-2.0
-- The messages of a row that closes a connection, or of a closed one: the judge finds no fault.
use Rattle.std.proofs.Common.{◌≡◌, ℕ, ◌%◌, ◌==◌, Bool, true, false, List, [], ◌∷◌, ◌++◌, refl, sym, subst, ap, ◌∙◌, inl, inr}
use Rattle.std.proofs.lemmas.Bool.{cond-false}
use Rattle.std.specs.List.{AllByRecursion}
use Rattle.std.specs.Prelude.{Ok, map}
use Rattle.bssmap_codec.specs.declared.bssap.Bssap.TheVariants.{Management, Transfer}
use Rattle.bssmap_codec.specs.declared.bssmap.Bssmap.{Bssmap}
use Rattle.bssmap_codec.specs.declared.bssmap.Bssmap.TheVariants as bssmap
use Rattle.conn_messages.specs.declared.message.Message.{Message}
use Rattle.conn_messages.specs.declared.message.Message.TheVariants.{Station, Data, ReleaseComplete, Request}
use Rattle.conn_rules.specs.Streams.{handed, handed_by, is_dtap as rules_dtap, relayed, relayed_by}
use Rattle.dtap_codec.specs.declared.sapi.Sapi.{Sapi}
use Rattle.dtap_codec.specs.declared.sapi.Sapi.TheVariants.{Zero, Three}
use Rattle.rsl_codec.specs.declared.radio_link.Data.{Data as RadioData}
use Rattle.rsl_codec.specs.declared.rsl.Rsl.{Rsl}
use Rattle.rsl_codec.specs.declared.rsl.Rsl.TheVariants as rsl
use Rattle.run_judge.specs.declared.said.Said.{Said}
use Rattle.run_judge.specs.declared.said.Said.TheVariants as says
use Rattle.run_judge.specs.declared.said.StationChannel.{StationChannel}
use Rattle.run_judge.specs.Connection.{managed}
use Rattle.run_judge.specs.ConnectionState.{ConnectionState}
use Rattle.run_judge.specs.Judging.{Numbered}
use Rattle.run_judge.specs.Reading.{channel_at, handed as reads_handed, is_dtap, link_sapi, passed}
use Rattle.conn_messages.specs.SwitchMessage.{clear_complete}
use Rattle.judge_laws.proofs.RowTold.{HasSapi}
use Rattle.judge_laws.proofs.Told.{same_dtap, told_command}
use Rattle.judge_laws.proofs.Well.{Well, well_cleared, well_rejected}
use Rattle.judge_laws.specs.Agreeing.{tells, told}
use Rattle.judge_laws.specs.Saying.{said_of, said_to}

-- it neither relays nor hands, and isn't CLEAR COMPLETE
pub record IsMild (m : Message) : Type 0 where
  pub relays : (sapi : Sapi) → relayed_by sapi m ≡ []
  pub hands : (sapi : Sapi) → handed_by sapi m ≡ []
  pub sapi : HasSapi m

abbrev pub IsNoClear : Message → Type 0
IsNoClear (Request message) = ⊥
IsNoClear (Data destination (Management bssmap.ClearComplete)) = ⊥
IsNoClear _ = Unit {0}

-- ---- one message

module _ (modulus n : ℕ) where
  abbrev pub Ends : ConnectionState → ConnectionState → Type 0
  Ends c after = Well n after × (after.is_cleared ≡ false) × (after.unjudged ≡ c.unjudged) × (after.switch ≡ c.switch)

  ends_same : (c : ConnectionState) → Well n c → c.is_cleared ≡ false → Ends c c
  ends_same c well may = (well, may, refl, refl)

  of_request : (station : ℕ) (d : RadioData) (frame : ℕ) (c : ConnectionState) →
      IsMild (Station station (rsl.DataRequest d)) →
      Well n c →
      c.is_cleared ≡ false →
      Ends c (told modulus frame (said_to station (rsl.DataRequest d)) c)
  of_request station d frame c mild well may = by (rules_dtap d.l3) refl (d.link % 8 == 0) refl (d.link % 8 == 3) refl
    where
      at : StationChannel
      at = channel_at station d.channel

      Goal : Said → Type 0
      Goal said = Ends c (told modulus frame said c)

      by : (b : Bool) →
          rules_dtap d.l3 ≡ b →
          (z : Bool) →
          (d.link % 8 == 0) ≡ z →
          (t : Bool) →
          (d.link % 8 == 3) ≡ t →
          Goal (reads_handed (is_dtap d.l3) at (link_sapi d.link) d.l3)
      by true dtap true zero t three =
          let some : handed_by Zero (Station station (rsl.DataRequest d)) ≡ d.l3 ∷ [] = rw (zero, dtap) refl in
          let none = mild.hands Zero in absurd cc
      by true dtap false zero true three =
          let some : handed_by Three (Station station (rsl.DataRequest d)) ≡ d.l3 ∷ [] = rw (three, dtap) refl in
          let none = mild.hands Three in absurd cc
      by true dtap false zero false three =
          let said : reads_handed (is_dtap d.l3) at (link_sapi d.link) d.l3 ≡ says.Nothing = rw (same_dtap d.l3, dtap, zero, three) refl in
          subst Goal (sym said) (ends_same c well may)
      by false dtap z zero t three =
          let said : told modulus frame (reads_handed (is_dtap d.l3) at (link_sapi d.link) d.l3) c ≡ c = rw (same_dtap d.l3, dtap) (told_command modulus frame at (link_sapi d.link) d.l3 c) in
          subst (Ends c) (sym said) (ends_same c well may)

  of_station : (station : ℕ) (x : Rsl) (frame : ℕ) (c : ConnectionState) →
      IsMild (Station station x) →
      Well n c →
      c.is_cleared ≡ false →
      Ends c (told modulus frame (said_to station x) c)
  of_station station (rsl.DataRequest d) frame c mild well may = of_request station d frame c mild well may
  of_station station x frame c mild well may = ends_same c well may

  of_transfer : (destination dlci : ℕ) (message : List ℕ) → IsMild (Data destination (Transfer dlci message)) → ⊥
  of_transfer destination dlci message mild = elim mild.sapi [
    | inl zero ↦ (let some : relayed_by Zero (Data destination (Transfer dlci message)) ≡ message ∷ [] = rw zero refl in let none = mild.relays Zero in absurd cc)
    | inr three ↦ (let some : relayed_by Three (Data destination (Transfer dlci message)) ≡ message ∷ [] = rw three refl in let none = mild.relays Three in absurd cc)
  ]

  managed_ends : (frame : ℕ) (c : ConnectionState) → Well n c → c.is_cleared ≡ false → Ends c (managed frame c)
  managed_ends frame c well may = subst (Ends c) (sym (cond-false _ _ _ may)) (ends_same c well may)

  of_management : (destination : ℕ) (b : Bssmap) (frame : ℕ) (c : ConnectionState) →
      IsNoClear (Data destination (Management b)) →
      Well n c →
      c.is_cleared ≡ false →
      Ends c (told modulus frame (passed destination (Ok (Management b))) c)
  of_management destination bssmap.ClearComplete frame c keeps well may = absurd keeps
  of_management destination (bssmap.SapiNReject dlci cause) frame c keeps well may =
      subst (Ends c) (sym (cond-false _ _ _ may)) (subst (Well n) (cond-false _ _ _ may) (well_rejected n frame c may well), may, refl, refl)
  of_management destination b frame c keeps well may = managed_ends frame c well may

  pub mild_told : (m : Message) (frame : ℕ) (c : ConnectionState) →
      IsMild m →
      IsNoClear m →
      Well n c →
      c.is_cleared ≡ false →
      Ends c (told modulus frame (said_of n m) c)
  mild_told (Request message) frame c mild keeps well may = absurd keeps
  mild_told (ReleaseComplete destination) frame c mild keeps well may = ends_same c well may
  mild_told (Station station x) frame c mild keeps well may = of_station station x frame c mild well may
  mild_told (Data destination (Transfer dlci message)) frame c mild keeps well may = absurd (of_transfer destination dlci message mild)
  mild_told (Data destination (Management b)) frame c mild keeps well may = of_management destination b frame c keeps well may

  pub all_mild : (ns : List Numbered) (ms : List Message) (c : ConnectionState) →
      map (λ (k : Numbered). k.said) ns ≡ map (said_of n) ms →
      AllByRecursion IsMild ms →
      AllByRecursion IsNoClear ms →
      Well n c →
      c.is_cleared ≡ false →
      Ends c (tells modulus ns c)
  all_mild [] [] c are mild keeps well may = ends_same c well may
  all_mild [] (m ∷ ms) c are mild keeps well may = absurd cc
  all_mild (k ∷ ks) [] c are mild keeps well may = absurd cc
  all_mild (k ∷ ks) (m ∷ ms) c are mild keeps well may =
      let said : k.said ≡ said_of n m = cc in
      let rest : map (λ (x : Numbered). x.said) ks ≡ map (said_of n) ms = cc in
      let after : ConnectionState = told modulus k.frame k.said c in
      let one : Ends c after = subst (λ (s : Said). Ends c (told modulus k.frame s c)) (sym said) (mild_told m k.frame c mild.0 keeps.0 well may) in
      let all : Ends after (tells modulus ks after) = all_mild ks ms after rest mild.1 keeps.1 one.0 one.1 in
      (all.0, all.1, all.2 ∙ one.2, all.3 ∙ one.3)

  -- CLEAR COMPLETE behind them
  pub all_cleared : (ns : List Numbered) (ms : List Message) (destination : ℕ) (c : ConnectionState) →
      map (λ (k : Numbered). k.said) ns ≡ map (said_of n) (ms ++ clear_complete destination ∷ []) →
      AllByRecursion IsMild ms →
      AllByRecursion IsNoClear ms →
      Well n c →
      c.is_cleared ≡ false →
      Well n (tells modulus ns c)
  all_cleared [] [] destination c are mild keeps well may = absurd cc
  all_cleared [] (m ∷ ms) destination c are mild keeps well may = absurd cc
  all_cleared (k ∷ []) [] destination c are mild keeps well may =
      let said : k.said ≡ says.Clears destination = cc in
      subst (λ (s : Said). Well n (told modulus k.frame s c)) (sym said) (well_cleared n k.frame c may well)
  all_cleared (k ∷ (x ∷ ks)) [] destination c are mild keeps well may = absurd cc
  all_cleared (k ∷ ks) (m ∷ ms) destination c are mild keeps well may =
      let said : k.said ≡ said_of n m = cc in
      let rest : map (λ (y : Numbered). y.said) ks ≡ map (said_of n) (ms ++ clear_complete destination ∷ []) = cc in
      let after : ConnectionState = told modulus k.frame k.said c in
      let one : Ends c after = subst (λ (s : Said). Ends c (told modulus k.frame s c)) (sym said) (mild_told m k.frame c mild.0 keeps.0 well may) in
      all_cleared ks ms destination after rest mild.1 keeps.1 one.0 one.1

-- ---- of a row that closes: nothing is relayed or handed

none_first : (xs ys : List (List ℕ)) → xs ++ ys ≡ [] → (xs ≡ []) × (ys ≡ [])
none_first [] ys none = (refl, none)
none_first (x ∷ xs) ys none = absurd cc

pub are_mild : (ms : List Message) →
    ((sapi : Sapi) → relayed sapi ms ≡ []) →
    ((sapi : Sapi) → handed sapi ms ≡ []) →
    AllByRecursion HasSapi ms →
    AllByRecursion IsMild ms
are_mild [] relays hands has = tt
are_mild (m ∷ ms) relays hands has = (
  record {
    relays = λ sapi. (none_first (relayed_by sapi m) (relayed sapi ms) (relays sapi)).0;
    hands = λ sapi. (none_first (handed_by sapi m) (handed sapi ms) (hands sapi)).0;
    sapi = has.0;
  },
  are_mild ms (λ sapi. (none_first (relayed_by sapi m) (relayed sapi ms) (relays sapi)).1) (λ sapi. (none_first (handed_by sapi m) (handed sapi ms) (hands sapi)).1) has.1,
)

-- ---- behind CLEAR COMPLETE: nothing is applied

request_silent : (m station : ℕ) (d : RadioData) (frame : ℕ) (c : ConnectionState) →
    IsMild (Station station (rsl.DataRequest d)) →
    told m frame (said_to station (rsl.DataRequest d)) c ≡ c
request_silent m station d frame c mild = by (rules_dtap d.l3) refl (d.link % 8 == 0) refl (d.link % 8 == 3) refl
  where
    at : StationChannel
    at = channel_at station d.channel

    by : (b : Bool) →
        rules_dtap d.l3 ≡ b →
        (z : Bool) →
        (d.link % 8 == 0) ≡ z →
        (t : Bool) →
        (d.link % 8 == 3) ≡ t →
        told m frame (reads_handed (is_dtap d.l3) at (link_sapi d.link) d.l3) c ≡ c
    by true dtap true zero t three =
        let some : handed_by Zero (Station station (rsl.DataRequest d)) ≡ d.l3 ∷ [] = rw (zero, dtap) refl in
        let none = mild.hands Zero in absurd cc
    by true dtap false zero true three =
        let some : handed_by Three (Station station (rsl.DataRequest d)) ≡ d.l3 ∷ [] = rw (three, dtap) refl in
        let none = mild.hands Three in absurd cc
    by true dtap false zero false three = rw (same_dtap d.l3, dtap, zero, three) refl
    by false dtap z zero t three = rw (same_dtap d.l3, dtap) (told_command m frame at (link_sapi d.link) d.l3 c)

station_silent : (m station : ℕ) (x : Rsl) (frame : ℕ) (c : ConnectionState) →
    IsMild (Station station x) →
    told m frame (said_to station x) c ≡ c
station_silent m station (rsl.DataRequest d) frame c mild = request_silent m station d frame c mild
station_silent m station x frame c mild = refl

-- for stations, or RLC
abbrev pub IsSilentKind : Message → Type 0
IsSilentKind (Station station message) = Unit {0}
IsSilentKind (ReleaseComplete destination) = Unit {0}
IsSilentKind _ = ⊥

pub silent_told : (m n : ℕ) (x : Message) (frame : ℕ) (c : ConnectionState) → IsMild x → IsSilentKind x → told m frame (said_of n x) c ≡ c
silent_told m n (Station station message) frame c mild kind = station_silent m station message frame c mild
silent_told m n (ReleaseComplete destination) frame c mild kind = refl
silent_told m n (Request message) frame c mild kind = absurd kind
silent_told m n (Data destination message) frame c mild kind = absurd kind

pub all_silent : (m n : ℕ) (ns : List Numbered) (ms : List Message) (c : ConnectionState) →
    map (λ (k : Numbered). k.said) ns ≡ map (said_of n) ms →
    AllByRecursion IsMild ms →
    AllByRecursion IsSilentKind ms →
    tells m ns c ≡ c
all_silent m n [] [] c are mild kinds = refl
all_silent m n [] (x ∷ xs) c are mild kinds = absurd cc
all_silent m n (k ∷ ks) [] c are mild kinds = absurd cc
all_silent m n (k ∷ ks) (x ∷ xs) c are mild kinds =
    let said : k.said ≡ said_of n x = cc in
    let rest : map (λ (y : Numbered). y.said) ks ≡ map (said_of n) xs = cc in
    ap (λ (s : Said). tells m ks (told m k.frame s c)) said ∙ ap (tells m ks) (silent_told m n x k.frame c mild.0 kinds.0) ∙ all_silent m n ks xs c rest mild.1 kinds.1
