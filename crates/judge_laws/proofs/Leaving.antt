-- SPDX-License-Identifier: MIT OR Apache-2.0
-- A former channel of an open, judged connection leaves when its release is acknowledged.
use Rattle.std.proofs.Common.{◌≡◌, ℕ, suc, ◌<◌, ◌&&◌, Bool, true, false, not, List, [], ◌∷◌, ◌++◌, Option, Some, None, refl, sym, subst, ap, ◌∙◌, inl, inr, filter, option_map}
use Rattle.std.proofs.lemmas.Bool.{and_parts, cases_Bool, cond-false, cond-true, true≢false}
use Rattle.std.proofs.lemmas.List.Elements.{filter-append}
use Rattle.std.specs.List.{AllByRecursion}
use Rattle.std.specs.Prelude.{if◌then◌else◌, map}
use Rattle.conn_messages.specs.declared.channel.Channel.{Channel}
use Rattle.conn_rules.specs.Connection.{Connection, drain_at, is_at}
use Rattle.conn_rules.specs.declared.input.Input.{Input}
use Rattle.conn_rules.specs.declared.input.Input.TheVariants as inputs
use Rattle.conn_rules.specs.declared.state.Drain.{Drain}
use Rattle.conn_rules.specs.Roles.{RemainsOpen, RoleStep, leaves_at, roles_of, step_by}
use Rattle.conn_rules.specs.Roles.RoleStep.{leaves, unchanged}
use Rattle.conn_rules.specs.Steps.{Row, done_at}
use Rattle.conn_rules.specs.Streams.{AreApart, IsApart, relayed, still_to_relay, undone}
use Rattle.conn_rules.proofs.RolesAccount.{undone-still_draining}
use Rattle.conn_rules.proofs.RolesApart.{are_apart_front}
use Rattle.run_judge.specs.declared.connection.Awaited.{Awaited}
use Rattle.run_judge.specs.declared.connection.Tenure.{Tenure}
use Rattle.run_judge.specs.declared.said.StationChannel.{StationChannel}
use Rattle.run_judge.specs.Connection.{is_same, old_rank, released}
use Rattle.run_judge.specs.ConnectionState.{ConnectionState}
use Rattle.judge_laws.proofs.Agreeing.{After, after_row, awaited_role, carried_on, rising_lines, uplink}
use Rattle.judge_laws.proofs.Arrivals.{apart_known, known_in, lines_are, more_by, more_places, plain_future}
use Rattle.judge_laws.proofs.Changing.{all_without, cleared_at, line_without, without_at}
use Rattle.judge_laws.proofs.Moves.{prepared_down, same_at}
use Rattle.judge_laws.proofs.Ranks.{is_itself, same_is}
use Rattle.judge_laws.proofs.Stays.{SameOn, cleared_here, relay_same, target_by}
use Rattle.judge_laws.specs.Agreeing.{Agrees, Future, IsFrom, IsOpenRow, IsRising, Messages, Prepared, UpAgrees, awaited_in, flow_of, lines_by, lines_of}
use Rattle.judge_laws.specs.Places.{at_of, spot}

abbrev pub Kept : StationChannel → List Tenure → List Tenure
Kept at ts = filter (λ t. not (is_same t.at at)) ts

kept_in : (at : StationChannel) (t : Tenure) (ts : List Tenure) → is_same t.at at ≡ false → Kept at (t ∷ ts) ≡ t ∷ Kept at ts
kept_in at t ts there = rw there refl

kept_out : (at : StationChannel) (t : Tenure) (ts : List Tenure) → is_same t.at at ≡ true → Kept at (t ∷ ts) ≡ Kept at ts
kept_out at t ts here = rw here refl

kept_all : (at : StationChannel) (ts : List Tenure) → AllByRecursion (λ (t : Tenure). is_same t.at at ≡ false) ts → Kept at ts ≡ ts
kept_all at [] all = refl
kept_all at (t ∷ ts) all = kept_in at t ts all.0 ∙ ap (λ (us : List Tenure). t ∷ us) (kept_all at ts all.1)

-- tenures on channels that are apart from one of this place
away : (at : StationChannel) (d : Channel) (ts : List Tenure) (cs : List Channel) →
    at_of d ≡ at →
    map (λ (t : Tenure). t.at) ts ≡ map at_of cs →
    AllByRecursion (IsApart d) cs →
    AllByRecursion (λ (t : Tenure). is_same t.at at ≡ false) ts
away at d [] cs here are all = tt
away at d (t ∷ ts) [] here are all = absurd cc
away at d (t ∷ ts) (c ∷ cs) here are all =
    let one : t.at ≡ at_of c = cc in
    let others : map (λ (x : Tenure). x.at) ts ≡ map at_of cs = cc in
    (differs one all.0, away at d ts cs here others all.1)
  where
    differs : t.at ≡ at_of c → IsApart d c → is_same t.at at ≡ false
    differs one apart = elim (cases_Bool (is_same t.at at)) [
      | inr miss ↦ miss
      | inl hit ↦
          let same : at_of d ≡ at_of c = here ∙ sym (same_is t.at at hit) ∙ one in
          absurd (true≢false (sym (is_itself (at_of c)) ∙ ap (λ (x : StationChannel). is_same x (at_of c)) (sym same) ∙ apart))
    ]

abbrev IsKept : StationChannel → List Drain → Type 0
IsKept at ds = (place : ℕ) (ts : List Tenure) → drain_at (spot at) ds ≡ Some place → AreApart (undone ds) → map (λ (t : Tenure). t.at) ts ≡ map at_of (undone ds) → map (λ (t : Tenure). t.at) (Kept at ts) ≡ map at_of (undone (done_at place ds))

-- the tenures that are left are on the channels that still drain
pub kept_undone : (at : StationChannel) (place : ℕ) (ds : List Drain) (ts : List Tenure) →
    drain_at (spot at) ds ≡ Some place →
    AreApart (undone ds) →
    map (λ (t : Tenure). t.at) ts ≡ map at_of (undone ds) →
    map (λ (t : Tenure). t.at) (Kept at ts) ≡ map at_of (undone (done_at place ds))
kept_undone at place [] ts is apart are = absurd cc
kept_undone at place (d ∷ ds) ts is apart are = elim (cases_Bool (is_at (spot at) d.channel && not d.is_done)) [
  | inl here ↦
      let parts = and_parts (is_at (spot at) d.channel) (not d.is_done) here in
      let drains : d.is_done ≡ false = undo d.is_done parts.1 in
      let same : Some 0 ≡ Some place = sym (cond-true _ _ _ here) ∙ is in
      let first : 0 ≡ place = cc in
      let undone_is : undone (d ∷ ds) ≡ d.channel ∷ undone ds = cond-false _ _ _ drains in
      first_goes ts (subst AreApart undone_is apart) (are ∙ ap (map at_of) undone_is) (same_at at d.channel ∙ parts.0)
      ∙ ap (λ (k : ℕ). map at_of (undone (done_at k (d ∷ ds)))) first
  | inr there ↦ later (λ p us found apart are. kept_undone at p ds us found apart are) (drain_at (spot at) ds) refl (sym (cond-false _ _ _ there) ∙ is) there
]
  where
    undo : (b : Bool) → not b ≡ true → b ≡ false
    undo true is = absurd (true≢false (sym is))
    undo false is = refl

    first_goes : (ts : List Tenure) →
        AreApart (d.channel ∷ undone ds) →
        map (λ (t : Tenure). t.at) ts ≡ map at_of (d.channel ∷ undone ds) →
        is_same (at_of d.channel) at ≡ true →
        map (λ (t : Tenure). t.at) (Kept at ts) ≡ map at_of (undone ds)
    first_goes [] apart are hit = absurd cc
    first_goes (t ∷ us) apart are hit =
        let one : t.at ≡ at_of d.channel = cc in
        let others : map (λ (x : Tenure). x.at) us ≡ map at_of (undone ds) = cc in
        let gone : is_same t.at at ≡ true = ap (λ (x : StationChannel). is_same x at) one ∙ hit in
        ap (map (λ (x : Tenure). x.at)) (kept_out at t us gone ∙ kept_all at us (away at d.channel us (undone ds) (same_is (at_of d.channel) at hit) others apart.0)) ∙ others

    later : IsKept at ds →
        (o : Option ℕ) →
        drain_at (spot at) ds ≡ o →
        option_map (λ p. suc p) o ≡ Some place →
        (is_at (spot at) d.channel && not d.is_done) ≡ false →
        map (λ (t : Tenure). t.at) (Kept at ts) ≡ map at_of (undone (done_at place (d ∷ ds)))
    later others None found is there = absurd (let none : (let o : Option ℕ = None in o) ≡ Some place = is in cc)
    later others (Some p) found is there =
        let next : suc p ≡ place = (let same : Some (suc p) ≡ Some place = is in cc) in
        elim (cases_Bool d.is_done) [
          | inl done ↦
              let undone_is : undone (d ∷ ds) ≡ undone ds = cond-true _ _ _ done in
              let rest = others p ts found (subst AreApart undone_is apart) (are ∙ ap (map at_of) undone_is) in
              rest ∙ ap (map at_of) (sym (cond-true _ _ _ done)) ∙ ap (λ (k : ℕ). map at_of (undone (done_at k (d ∷ ds)))) next
          | inr drains ↦
              let undone_is : undone (d ∷ ds) ≡ d.channel ∷ undone ds = cond-false _ _ _ drains in
              remains others p found ts (subst AreApart undone_is apart) (are ∙ ap (map at_of) undone_is) (not_at drains there) drains
              ∙ ap (λ (k : ℕ). map at_of (undone (done_at k (d ∷ ds)))) next
        ]
      where
        not_at : d.is_done ≡ false → (is_at (spot at) d.channel && not d.is_done) ≡ false → is_same (at_of d.channel) at ≡ false
        not_at drains there = same_at at d.channel ∙ (let both : (is_at (spot at) d.channel && true) ≡ false = rw drains at there in only (is_at (spot at) d.channel) both)
          where
            only : (b : Bool) → (b && true) ≡ false → b ≡ false
            only true is = is
            only false is = refl

        remains : IsKept at ds →
            (p : ℕ) →
            drain_at (spot at) ds ≡ Some p →
            (ts : List Tenure) →
            AreApart (d.channel ∷ undone ds) →
            map (λ (t : Tenure). t.at) ts ≡ map at_of (d.channel ∷ undone ds) →
            is_same (at_of d.channel) at ≡ false →
            d.is_done ≡ false →
            map (λ (t : Tenure). t.at) (Kept at ts) ≡ map at_of (undone (d ∷ done_at p ds))
        remains hold p found [] apart are miss drains = absurd cc
        remains hold p found (t ∷ us) apart are miss drains =
            let one : t.at ≡ at_of d.channel = cc in
            let others : map (λ (x : Tenure). x.at) us ≡ map at_of (undone ds) = cc in
            let stays : is_same t.at at ≡ false = ap (λ (x : StationChannel). is_same x at) one ∙ miss in
            let rest = hold p us found apart.1 others in
            ap (map (λ (x : Tenure). x.at)) (kept_in at t us stays) ∙ (let both : map (λ (x : Tenure). x.at) (t ∷ Kept at us) ≡ map at_of (d.channel ∷ undone (done_at p ds)) = cc in both) ∙ ap (map at_of) (sym (cond-false _ _ _ drains))

-- ---- it is applied

-- there is an old channel at a place where one drains
pub old_there : (at : StationChannel) (ds : List Drain) (ts : List Tenure) →
    drain_at (spot at) ds ≡ None →
    map (λ (t : Tenure). t.at) ts ≡ map at_of (undone ds) →
    old_rank at ts ≡ None
old_there at [] [] is are = refl
old_there at [] (t ∷ ts) is are = absurd cc
old_there at (d ∷ ds) ts is are = elim (cases_Bool (is_at (spot at) d.channel && not d.is_done)) [
  | inl here ↦ absurd (let none : (let o : Option ℕ = Some 0 in o) ≡ None = sym (cond-true _ _ _ here) ∙ is in cc)
  | inr there ↦ rest (λ us found are. old_there at ds us found are) (drain_at (spot at) ds) refl (sym (cond-false _ _ _ there) ∙ is) there
]
  where
    rest : ((us : List Tenure) → drain_at (spot at) ds ≡ None → map (λ (t : Tenure). t.at) us ≡ map at_of (undone ds) → old_rank at us ≡ None) →
        (o : Option ℕ) →
        drain_at (spot at) ds ≡ o →
        option_map (λ p. suc p) o ≡ None →
        (is_at (spot at) d.channel && not d.is_done) ≡ false →
        old_rank at ts ≡ None
    rest others (Some p) found is there = absurd (let some : (let o : Option ℕ = Some (suc p) in o) ≡ None = is in cc)
    rest others None found is there = elim (cases_Bool d.is_done) [
      | inl done ↦ others ts found (are ∙ ap (map at_of) (cond-true _ _ _ done))
      | inr drains ↦ by ts (are ∙ ap (map at_of) (cond-false _ _ _ drains)) (not_at drains)
    ]
      where
        not_at : d.is_done ≡ false → is_same (at_of d.channel) at ≡ false
        not_at drains = same_at at d.channel ∙ (let both : (is_at (spot at) d.channel && true) ≡ false = rw drains at there in only (is_at (spot at) d.channel) both)
          where
            only : (b : Bool) → (b && true) ≡ false → b ≡ false
            only true is = is
            only false is = refl

        by : (ts : List Tenure) →
            map (λ (t : Tenure). t.at) ts ≡ map at_of (d.channel ∷ undone ds) →
            is_same (at_of d.channel) at ≡ false →
            old_rank at ts ≡ None
        by [] are miss = absurd cc
        by (t ∷ us) are miss =
            let one : t.at ≡ at_of d.channel = cc in
            let tail : map (λ (x : Tenure). x.at) us ≡ map at_of (undone ds) = cc in
            let stays : is_same t.at at ≡ false = ap (λ (x : StationChannel). is_same x at) one ∙ miss in
            cond-false _ _ _ stays ∙ others us found tail

pub not_released : (s : Connection) (c : ConnectionState) (at : StationChannel) →
    Agrees s c →
    step_by (inputs.ReleaseAck (spot at)) (roles_of s) ≡ unchanged →
    old_rank at c.former ≡ None
not_released s c at agrees is = by (drain_at (spot at) s.draining) refl is
  where
    by : (o : Option ℕ) → drain_at (spot at) s.draining ≡ o → leaves_at o ≡ unchanged → old_rank at c.former ≡ None
    by None found is = old_there at s.draining c.former found agrees.old
    by (Some place) found is = absurd (let differ : leaves place ≡ unchanged = is in cc)

pub drains_there : (s : Connection) (at : StationChannel) (place : ℕ) →
    step_by (inputs.ReleaseAck (spot at)) (roles_of s) ≡ leaves place →
    drain_at (spot at) s.draining ≡ Some place
drains_there s at place is = by (drain_at (spot at) s.draining) is
  where
    by : (o : Option ℕ) → leaves_at o ≡ leaves place → o ≡ Some place
    by None is = absurd (let differ : unchanged ≡ leaves place = is in cc)
    by (Some p) is = (let same : leaves p ≡ leaves place = is in cc)

-- ---- those that remain aren't there

pub all_kept_away : (at : StationChannel) (ts : List Tenure) → AllByRecursion (λ (t : Tenure). is_same t.at at ≡ false) (Kept at ts)
all_kept_away at [] = tt
all_kept_away at (t ∷ ts) = elim (cases_Bool (is_same t.at at)) [
  | inl here ↦ subst (AllByRecursion (λ (x : Tenure). is_same x.at at ≡ false)) (sym (kept_out at t ts here)) (all_kept_away at ts)
  | inr there ↦ subst (AllByRecursion (λ (x : Tenure). is_same x.at at ≡ false)) (sym (kept_in at t ts there)) (there, all_kept_away at ts)
]

-- of tenures and of their channels the same holds
all_channels : (P : StationChannel → Type 0) (ts : List Tenure) (cs : List Channel) →
    map (λ (t : Tenure). t.at) ts ≡ map at_of cs →
    AllByRecursion (λ (t : Tenure). P t.at) ts →
    AllByRecursion (λ (c : Channel). P (at_of c)) cs
all_channels P [] [] are all = tt
all_channels P [] (c ∷ cs) are all = absurd cc
all_channels P (t ∷ ts) [] are all = absurd cc
all_channels P (t ∷ ts) (c ∷ cs) are all =
    let one : t.at ≡ at_of c = cc in
    let others : map (λ (x : Tenure). x.at) ts ≡ map at_of cs = cc in
    (subst P one all.0, all_channels P ts cs others all.1)

pub rest_away : (at : StationChannel) (place : ℕ) (ds : List Drain) (cs : List Channel) (us : List Tenure) →
    drain_at (spot at) ds ≡ Some place →
    AreApart (undone ds ++ cs) →
    map (λ (t : Tenure). t.at) us ≡ map at_of cs →
    AllByRecursion (λ (t : Tenure). is_same t.at at ≡ false) us
rest_away at place [] cs us is apart are = absurd cc
rest_away at place (d ∷ ds) cs us is apart are = elim (cases_Bool (is_at (spot at) d.channel && not d.is_done)) [
  | inl here ↦
      let parts = and_parts (is_at (spot at) d.channel) (not d.is_done) here in
      let drains : d.is_done ≡ false = undo d.is_done parts.1 in
      let these : AreApart (d.channel ∷ (undone ds ++ cs)) = subst (λ (xs : List Channel). AreApart (xs ++ cs)) (cond-false _ _ _ drains) apart in
      away at d.channel us cs (same_is (at_of d.channel) at (same_at at d.channel ∙ parts.0)) are (back (undone ds) these.0)
  | inr there ↦ later (λ p found others. rest_away at p ds cs us found others are) (drain_at (spot at) ds) refl (sym (cond-false _ _ _ there) ∙ is) d.is_done refl
]
  where
    undo : (b : Bool) → not b ≡ true → b ≡ false
    undo true is = absurd (true≢false (sym is))
    undo false is = refl

    back : (xs : List Channel) → AllByRecursion (IsApart d.channel) (xs ++ cs) → AllByRecursion (IsApart d.channel) cs
    back [] all = all
    back (x ∷ xs) all = back xs all.1

    later : ((p : ℕ) → drain_at (spot at) ds ≡ Some p → AreApart (undone ds ++ cs) → AllByRecursion (λ (t : Tenure). is_same t.at at ≡ false) us) →
        (o : Option ℕ) →
        drain_at (spot at) ds ≡ o →
        option_map (λ p. suc p) o ≡ Some place →
        (b : Bool) →
        d.is_done ≡ b →
        AllByRecursion (λ (t : Tenure). is_same t.at at ≡ false) us
    later others None found is b done = absurd (let none : (let o : Option ℕ = None in o) ≡ Some place = is in cc)
    later others (Some p) found is true done = others p found (subst (λ (xs : List Channel). AreApart (xs ++ cs)) (cond-true _ _ _ done) apart)
    later others (Some p) found is false drains = others p found (subst (λ (xs : List Channel). AreApart (xs ++ cs)) (cond-false _ _ _ drains) apart).1

rising_kept : (at : StationChannel) (ts us : List Tenure) → IsRising (ts ++ us) → IsRising (Kept at ts ++ us)
rising_kept at [] us rising = rising
rising_kept at (t ∷ ts) us rising = elim (cases_Bool (is_same t.at at)) [
  | inl here ↦ subst (λ (xs : List Tenure). IsRising (xs ++ us)) (sym (kept_out at t ts here)) (rising_kept at ts us rising.1)
  | inr there ↦ subst (λ (xs : List Tenure). IsRising (xs ++ us)) (sym (kept_in at t ts there)) (all_kept ts rising.0, rising_kept at ts us rising.1)
]
  where
    all_kept : (xs : List Tenure) →
        AllByRecursion (λ (u : Tenure). t.rank < u.rank) (xs ++ us) →
        AllByRecursion (λ (u : Tenure). t.rank < u.rank) (Kept at xs ++ us)
    all_kept [] all = all
    all_kept (x ∷ xs) all = by (not (is_same x.at at)) (all_kept xs all.1)
      where
        by : (b : Bool) →
            AllByRecursion (λ (u : Tenure). t.rank < u.rank) (Kept at xs ++ us) →
            AllByRecursion (λ (u : Tenure). t.rank < u.rank) ((if b then x ∷ Kept at xs else Kept at xs) ++ us)
        by true rest = (all.0, rest)
        by false rest = rest

target_away : (at : StationChannel) (future : Future) (serving : Tenure) (o : Option Awaited) →
    AllByRecursion (λ (t : Tenure). is_same t.at at ≡ false) (more_by serving o) →
    target_by future o ≡ target_by (cleared_at (spot at) future) o
target_away at future serving None all = refl
target_away at future serving (Some a) all = sym (cond-false _ _ _ all.0)

same_away : (at : StationChannel) (future : Future) (cs : List Channel) →
    AllByRecursion (λ (c : Channel). is_same (at_of c) at ≡ false) cs →
    AllByRecursion (SameOn future (cleared_at (spot at) future)) cs
same_away at future [] all = tt
same_away at future (c ∷ cs) all = (sym (cond-false _ _ _ all.0), same_away at future cs all.1)

pub prepared_leaves : (s : Connection) (offer : Option Channel) (r : Row) (c : ConnectionState) (at : StationChannel) (place : ℕ) →
    IsOpenRow s (inputs.ReleaseAck (spot at)) offer r →
    step_by (inputs.ReleaseAck (spot at)) (roles_of s) ≡ leaves place →
    Agrees s c →
    Prepared r (released at c)
prepared_leaves s offer r c at place row is agrees =
    let input : Input = inputs.ReleaseAck (spot at) in
    let on : RemainsOpen (leaves place) (roles_of s) s.down input offer r = subst (λ (step : RoleStep). RemainsOpen step (roles_of s) s.down input offer r) is (carried_on s input offer r row) in
    let after : After (leaves place) s r = after_row (leaves place) s input offer r on in
    let found : drain_at (spot at) s.draining ≡ Some place = drains_there s at place is in
    let behind : List Tenure = c.serving ∷ more_by c.serving c.awaited in
    let known : AreApart (undone s.draining ++ s.serving ∷ known_in s.state) = apart_known s s.state refl row.apart in
    let apart : AreApart (undone s.draining) = are_apart_front (undone s.draining) (s.serving ∷ known_in s.state) known in
    let places : map (λ (t : Tenure). t.at) behind ≡ map at_of (s.serving ∷ known_in s.state) = (let more = more_places c.serving s.state c.awaited agrees.awaited in let serves = agrees.at in cc) in
    let others : AllByRecursion (λ (t : Tenure). is_same t.at at ≡ false) behind = rest_away at place s.draining (s.serving ∷ known_in s.state) behind found known places in
    let left : map (λ (t : Tenure). t.at) (Kept at c.former) ≡ map at_of (undone (done_at place s.draining)) = kept_undone at place s.draining c.former found apart agrees.old in
    let drains : undone r.next.draining ≡ undone (done_at place s.draining) = ap undone after.draining ∙ undone-still_draining (done_at place s.draining) in
    let lines : without_at (spot at) (lines_of c) ≡ lines_by (Kept at c.former) c.serving c.awaited =
    ap (Kept at) (lines_are c.former c.serving c.awaited)
    ∙ filter-append (λ (t : Tenure). not (is_same t.at at)) c.former behind
    ∙ ap (λ (ts : List Tenure). Kept at c.former ++ ts) (kept_all at behind others)
    ∙ sym (lines_are (Kept at c.former) c.serving c.awaited) in
    let rising : IsRising (lines_of c) = rising_lines c.former c.serving c.awaited agrees.rising in
    record {
      at = agrees.at ∙ ap at_of (sym after.serving);
      old = left ∙ ap (map at_of) (sym drains);
      awaited = agrees.awaited ∙ sym (awaited_role s.state) ∙ sym after.awaited;
      rising = rising_kept at c.former (c.serving ∷ []) agrees.rising;
      up = λ sapi.
          let before = agrees.up sapi in
          subst (λ (ts : List Tenure). UpAgrees (λ future. relayed sapi r.outs ++ still_to_relay sapi future r.next) ts c.serving.rank (flow_of sapi c.up)) lines (record {
            held = before.held;
            low = before.low;
            carries = before.carries;
            from = all_without (IsFrom before.low) (spot at) (lines_of c) before.from;
            within = before.within;
            are = λ future.
                let g : Future = cleared_at (spot at) future in
                let same : still_to_relay sapi future r.next ≡ still_to_relay sapi g r.next =
                relay_same sapi future g r.next
                (subst (AllByRecursion (SameOn future g)) (sym drains) (same_away at future (undone (done_at place s.draining)) (all_channels (λ (x : StationChannel). is_same x at ≡ false) (Kept at c.former) (undone (done_at place s.draining)) left (all_kept_away at c.former))))
                (subst (SameOn future g) (sym after.serving) (same_away at future (s.serving ∷ []) (all_channels (λ (x : StationChannel). is_same x at ≡ false) (c.serving ∷ []) (s.serving ∷ []) (let serves = agrees.at in cc) (others.0, tt))).0)
                (let awaits : awaited_in r.next.state ≡ c.awaited = after.awaited ∙ awaited_role s.state ∙ sym agrees.awaited in
                ap (target_by future) awaits ∙ target_away at future c.serving c.awaited others.1 ∙ sym (ap (target_by g) awaits)) in
                ap (λ (ms : Messages). relayed sapi r.outs ++ ms) same
                ∙ uplink s input offer r row sapi g (cleared_here (spot at) future)
                ∙ ap (λ (f : Future). still_to_relay sapi f s) (plain_future sapi input g tt)
                ∙ before.are g
                ∙ line_without (spot at) future (lines_of c) before.held rising;
          });
      down = prepared_down s input offer r c row tt agrees;
      is_open = agrees.is_open;
    }
