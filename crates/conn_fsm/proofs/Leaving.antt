-- SPDX-License-Identifier: MIT OR Apache-2.0
-- A row in which old channels leave, as the code does it: one after the other.
use Rattle.std.proofs.Common.{◌≡◌, ◌≢◌, inl, inr, ◌<◌, ◌≤◌, ◌+◌, ℕ, zero, suc, List, [], ◌∷◌, ◌++◌, length, Bool, true, false, ◌&&◌, ◌-◌, drop, get_or, add-one, nat_lt, Option, Some, slice_get, if◌then◌else◌, append_assoc, refl, ap, sym, subst, ◌∙◌, arith}
use Rattle.std.proofs.lemmas.Bool.{cases_Bool, cond-true, cond-false}
use Rattle.std.proofs.lemmas.List.{append-nil, drop_all, length-drop}
use Rattle.conn_messages.specs.declared.channel.Channel.{Channel}
use Rattle.conn_messages.specs.declared.message.Message.{Message}
use Rattle.conn_rules.specs.declared.limits.TheConstants.{DRAIN_LIMIT}
use Rattle.conn_rules.specs.declared.state.Drain.{Drain}
use Rattle.conn_rules.specs.declared.state.Stage.{Stage}
use Rattle.conn_rules.specs.declared.state.Stage.TheVariants.{Draining}
use Rattle.conn_rules.specs.Connection.{Connection, first_channel}
use Rattle.conn_rules.specs.Validity.{FirstIsEmpty}
use Rattle.conn_rules.specs.Steps.{Row, row, ◌then◌, after_waiting, done_at, leave, may_begin, relay_held, settled, settled_stage, shifted, tenure_outs, waiting_outs}
use Rattle.conn_rules.specs.Table.{release}
use Rattle.hold_queue.specs.ChainState.{TenureHold, empty_tenure, first_cleared}
use Rattle.conn_fsm.specs.Leaving.{leaving, left, left_outs, oldest_left}

-- ---- one channel is done

pub length_done : (place : ℕ) (ds : List Drain) → length (done_at place ds) ≡ length ds
length_done place [] = refl
length_done zero (d ∷ ds) = refl
length_done (suc place) (d ∷ ds) = ap (λ (n : ℕ). suc n) (length_done place ds)

first_done : (n place : ℕ) (ds : List Drain) (serving : Channel) →
    first_channel (drop n (done_at place ds)) serving ≡ first_channel (drop n ds) serving
first_done n place [] serving = refl
first_done zero zero (d ∷ ds) serving = refl
first_done zero (suc place) (d ∷ ds) serving = refl
first_done (suc n) zero (d ∷ ds) serving = refl
first_done (suc n) (suc place) (d ∷ ds) serving = first_done n place ds serving

-- the same is relayed
outs_done : (reference n place : ℕ) (s : Connection) →
    left_outs reference n (record s { draining = done_at place s.draining }) ≡ left_outs reference n s
outs_done reference zero place s = refl
outs_done reference (suc n) place s = rw (outs_done reference n place s, first_done (suc n) place s.draining s.serving) refl

-- ---- how many leave, one place after the other

leaving_at : (k : ℕ) (ds : List Drain) (d : Drain) →
    k < length ds →
    d ≡ get_or ds k d →
    d.is_done ≡ true →
    leaving (drop k ds) ≡ suc (leaving (drop (suc k) ds))
leaving_at k [] d within at done = absurd (omega arith)
leaving_at zero (x ∷ xs) d within at done = cond-true x.is_done _ _ (sym (ap (λ (y : Drain). y.is_done) at) ∙ done)
leaving_at (suc k) (x ∷ xs) d within at done = leaving_at k xs d (omega arith) at done

more_done : (place k : ℕ) (ds : List Drain) (d : Drain) → k < length ds → d ≡ get_or ds k d → d.is_done ≡ true →
    leaving (drop k (done_at place ds)) ≡ suc (leaving (drop (suc k) (done_at place ds)))
more_done place k [] d within at done = absurd (omega arith)
more_done zero zero (x ∷ xs) d within at done = refl
more_done (suc place) zero (x ∷ xs) d within at done = cond-true x.is_done _ _ (sym (ap (λ (y : Drain). y.is_done) at) ∙ done)
more_done zero (suc k) (x ∷ xs) d within at done = leaving_at k xs d (omega arith) at done
more_done (suc place) (suc k) (x ∷ xs) d within at done = more_done place k xs d (omega arith) at done

more_here : (k : ℕ) (ds : List Drain) → k < length ds → leaving (drop k (done_at k ds)) ≡ suc (leaving (drop (suc k) (done_at k ds)))
more_here k [] within = absurd (omega arith)
more_here zero (x ∷ xs) within = refl
more_here (suc k) (x ∷ xs) within = more_here k xs (omega arith)

one_more : (k n : ℕ) (ds : List Drain) →
    leaving (drop k ds) ≡ suc (leaving (drop (suc k) ds)) →
    k + leaving (drop k ds) ≡ n →
    (k + 1) + leaving (drop (k + 1) ds) ≡ n
one_more k n ds more so_far = rw (add-one k) (omega arith)

pub continues_done : (place k : ℕ) (ds : List Drain) (d : Drain) → k < length ds → d ≡ get_or ds k d → d.is_done ≡ true →
    k + leaving (drop k (done_at place ds)) ≡ leaving (done_at place ds) → (k + 1) + leaving (drop (k + 1) (done_at place ds)) ≡ leaving (done_at place ds)
continues_done place k ds d within at done so_far = one_more k _ (done_at place ds) (more_done place k ds d within at done) so_far

pub continues_here : (place k : ℕ) (ds : List Drain) → k < length ds → k ≡ place →
    k + leaving (drop k (done_at place ds)) ≡ leaving (done_at place ds) → (k + 1) + leaving (drop (k + 1) (done_at place ds)) ≡ leaving (done_at place ds)
continues_here place k ds within same so_far =
    one_more k _ (done_at place ds) (subst (λ p. leaving (drop k (done_at p ds)) ≡ suc (leaving (drop (suc k) (done_at p ds)))) same (more_here k ds within)) so_far

staying_at : (k : ℕ) (ds : List Drain) (d : Drain) → k < length ds → d ≡ get_or ds k d → d.is_done ≡ false → leaving (drop k ds) ≡ 0
staying_at k [] d within at drains = absurd (omega arith)
staying_at zero (x ∷ xs) d within at drains = cond-false x.is_done _ _ (sym (ap (λ (y : Drain). y.is_done) at) ∙ drains)
staying_at (suc k) (x ∷ xs) d within at drains = staying_at k xs d (omega arith) at drains

none_more : (place k : ℕ) (ds : List Drain) (d : Drain) → k < length ds → d ≡ get_or ds k d → k ≢ place → d.is_done ≡ false →
    leaving (drop k (done_at place ds)) ≡ 0
none_more place k [] d within at other drains = absurd (omega arith)
none_more zero zero (x ∷ xs) d within at other drains = absurd (other refl)
none_more (suc place) zero (x ∷ xs) d within at other drains = cond-false x.is_done _ _ (sym (ap (λ (y : Drain). y.is_done) at) ∙ drains)
none_more zero (suc k) (x ∷ xs) d within at other drains = staying_at k xs d (omega arith) at drains
none_more (suc place) (suc k) (x ∷ xs) d within at other drains = none_more place k xs d (omega arith) at (λ same. other (ap (λ (n : ℕ). suc n) same)) drains

pub stops : (place k : ℕ) (ds : List Drain) (d : Drain) → k < length ds → d ≡ get_or ds k d → k ≢ place → d.is_done ≡ false →
    k + leaving (drop k (done_at place ds)) ≡ leaving (done_at place ds) → k ≡ leaving (done_at place ds)
stops place k ds d within at other drains so_far = let none = none_more place k ds d within at other drains in omega arith

pub ends : (place k : ℕ) (ds : List Drain) →
    length ds ≤ k →
    k + leaving (drop k (done_at place ds)) ≡ leaving (done_at place ds) →
    k ≡ leaving (done_at place ds)
ends place k ds past so_far =
    let none : drop k (done_at place ds) ≡ [] = drop_all k (done_at place ds) (omega (arith, length_done place ds)) in
    let zero_left : leaving (drop k (done_at place ds)) ≡ 0 = ap (λ es. leaving es) none in
    omega arith

-- ---- the tenures

pub first_of : (ts : List TenureHold) → FirstIsEmpty ts → slice_get ts 0 ≡ Some empty_tenure
first_of [] first = absurd first
first_of (t ∷ ts) first = ap (λ (u : TenureHold). Some u) first

pub length_left : (ts : List TenureHold) (n : ℕ) → length ts ≡ n + 1 → 1 ≤ n → length (first_cleared (drop 1 ts)) ≡ n
length_left [] n long some = absurd (omega arith)
length_left (t ∷ []) n long some = absurd (omega arith)
length_left (t ∷ (u ∷ ts)) n long some = omega arith

pub first_left : (ts : List TenureHold) (n : ℕ) → length ts ≡ n + 1 → 1 ≤ n → FirstIsEmpty (first_cleared (drop 1 ts))
first_left [] n long some = absurd (omega arith)
first_left (t ∷ []) n long some = absurd (omega arith)
first_left (t ∷ (u ∷ ts)) n long some = refl

-- ---- one after the other

left_front : (n : ℕ) (s : Connection) → left n (oldest_left s) ≡ oldest_left (left n s)
left_front zero s = refl
left_front (suc n) s = ap (λ (t : Connection). oldest_left t) (left_front n s)

drop_more : {X : Type 0} (n : ℕ) (xs : List X) → drop (suc n) (drop 1 xs) ≡ drop (suc (suc n)) xs
drop_more n [] = refl
drop_more n (x ∷ xs) = refl

drop_cleared : (n : ℕ) (ts : List TenureHold) → drop (suc n) (first_cleared (drop 1 ts)) ≡ drop (suc (suc n)) ts
drop_cleared n [] = refl
drop_cleared n (t ∷ []) = refl
drop_cleared n (t ∷ (u ∷ ts)) = refl

outs_front : (reference n : ℕ) (s : Connection) →
    tenure_outs reference (first_channel (drop 1 s.draining) s.serving) (drop 1 s.up.tenures) ++ left_outs reference n (oldest_left s) ≡ left_outs reference (suc n) s
outs_front reference zero s = append-nil _
outs_front reference (suc n) s =
    rw (← append_assoc, outs_front reference n s, drop_more n s.draining, drop_cleared n s.up.tenures) refl

leave_next : (reference : ℕ) (ds : List Drain) (s : Connection) →
    (leave reference ds s).next ≡ left (leaving ds) (record s { draining = ds })
leave_next reference [] s = refl
leave_next reference (d ∷ ds) s =
    elim (cases_Bool d.is_done) [
      | inl done ↦
          let first : Row = row [] (shifted ds s) then relay_held reference in
          ap (λ (r : Row). r.next) (cond-true _ _ _ done) ∙ leave_next reference ds first.next
          ∙ left_front (leaving ds) (record s { draining = d ∷ ds })
          ∙ ap (λ (n : ℕ). left n (record s { draining = d ∷ ds })) (sym (cond-true _ _ _ done))
      | inr drains ↦ ap (λ (r : Row). r.next) (cond-false _ _ _ drains) ∙ ap (λ (n : ℕ). left n (record s { draining = d ∷ ds })) (sym (cond-false _ _ _ drains))
    ]

leave_outs : (reference : ℕ) (ds : List Drain) (s : Connection) →
    (leave reference ds s).outs ≡ left_outs reference (leaving ds) (record s { draining = ds })
leave_outs reference [] s = refl
leave_outs reference (d ∷ ds) s =
    elim (cases_Bool d.is_done) [
      | inl done ↦
          let first : Row = row [] (shifted ds s) then relay_held reference in
          ap (λ (r : Row). r.outs) (cond-true _ _ _ done) ∙ ap (λ (outs : List Message). first.outs ++ outs) (leave_outs reference ds first.next)
          ∙ outs_front reference (leaving ds) (record s { draining = d ∷ ds })
          ∙ ap (λ (n : ℕ). left_outs reference n (record s { draining = d ∷ ds })) (sym (cond-true _ _ _ done))
      | inr drains ↦ ap (λ (r : Row). r.outs) (cond-false _ _ _ drains) ∙ ap (λ (n : ℕ). left_outs reference n (record s { draining = d ∷ ds })) (sym (cond-false _ _ _ drains))
    ]

-- ---- what is unchanged

left_waits : (n : ℕ) (s : Connection) → (left n s).waits ≡ s.waits
left_waits zero s = refl
left_waits (suc n) s = left_waits n s

drop_behind : {X : Type 0} (n : ℕ) (xs : List X) → drop 1 (drop n xs) ≡ drop (suc n) xs
drop_behind zero xs = refl
drop_behind (suc n) [] = refl
drop_behind (suc n) (x ∷ xs) = drop_behind n xs

left_draining : (n : ℕ) (s : Connection) → (left n s).draining ≡ drop n s.draining
left_draining zero s = refl
left_draining (suc n) s = ap (λ ds. drop 1 ds) (left_draining n s) ∙ drop_behind n s.draining

settled_waits : (reference : ℕ) (stage : Stage) (ds : List Drain) (s : Connection) → (settled reference stage ds s).waits ≡ s.waits
settled_waits reference Draining [] s = refl
settled_waits reference stage ds s = refl

settled_draining : (reference : ℕ) (stage : Stage) (ds : List Drain) (s : Connection) → (settled reference stage ds s).draining ≡ s.draining
settled_draining reference Draining [] s = refl
settled_draining reference stage ds s = refl

settled_begins : (stage : Stage) (ds : List Drain) → may_begin (settled_stage stage ds) ds ≡ may_begin stage ds
settled_begins Draining [] = refl
settled_begins stage ds = refl

begins_by_length : (stage : Stage) (ds es : List Drain) → length ds ≡ length es → may_begin stage ds ≡ may_begin stage es
begins_by_length Draining ds es same = ap (λ n. nat_lt n DRAIN_LIMIT) same
begins_by_length stage ds es same = refl

-- ---- the row

-- the connection from which they leave
abbrev marked : ℕ → Connection → Connection
marked place s = record s { draining = done_at place s.draining }

abbrev all_left : ℕ → Connection → Connection
all_left place s = left (leaving (done_at place s.draining)) (marked place s)

abbrev begins_after : Stage → ℕ → Connection → Bool
begins_after stage place s = s.waits && may_begin stage (drop (leaving (done_at place s.draining)) s.draining)

begins_is : (reference : ℕ) (stage : Stage) (place : ℕ) (s t : Connection) → t ≡ settled reference stage (all_left place s).draining (all_left place s) →
    (t.waits && may_begin (settled_stage stage t.draining) t.draining) ≡ begins_after stage place s
begins_is reference stage place s t is =
    let n : ℕ = leaving (done_at place s.draining) in
    let waits : t.waits ≡ s.waits =
    ap (λ (u : Connection). u.waits) is ∙ settled_waits reference stage (all_left place s).draining (all_left place s) ∙ left_waits n (marked place s) in
    let behind : t.draining ≡ drop n (done_at place s.draining) =
    ap (λ (u : Connection). u.draining) is ∙ settled_draining reference stage (all_left place s).draining (all_left place s) ∙ left_draining n (marked place s) in
    let as_many : length t.draining ≡ length (drop n s.draining) =
    ap (λ (ds : List Drain). length ds) behind ∙ length-drop n (done_at place s.draining) ∙ ap (λ m. m - n) (length_done place s.draining) ∙ sym (length-drop n s.draining) in
    ap (λ b. t.waits && b) (settled_begins stage t.draining ∙ begins_by_length stage t.draining (drop n s.draining) as_many)
    ∙ ap (λ b. b && may_begin stage (drop n s.draining)) waits

-- the row's connection before a waiting request begins
settled_is : (reference : ℕ) (stage : Stage) (place : ℕ) (s : Connection) →
    settled reference stage (leave reference (done_at place s.draining) s).next.draining (leave reference (done_at place s.draining) s).next
    ≡ settled reference stage (all_left place s).draining (all_left place s)
settled_is reference stage place s = ap (λ (u : Connection). settled reference stage u.draining u) (leave_next reference (done_at place s.draining) s)

release_next : (reference : ℕ) (stage : Stage) (place : ℕ) (offer : Option Channel) (s : Connection) →
    (release reference stage place offer s).next
    ≡ after_waiting (begins_after stage place s) reference offer (settled reference stage (all_left place s).draining (all_left place s))
release_next reference stage place offer s =
    let rests : Connection = settled reference stage (leave reference (done_at place s.draining) s).next.draining (leave reference (done_at place s.draining) s).next in
    let is = settled_is reference stage place s in
    ap (λ b. after_waiting b reference offer rests) (begins_is reference stage place s rests is)
    ∙ ap (λ (u : Connection). after_waiting (begins_after stage place s) reference offer u) is

release_outs : (reference : ℕ) (stage : Stage) (place : ℕ) (offer : Option Channel) (s : Connection) →
    (release reference stage place offer s).outs
    ≡ left_outs reference (leaving (done_at place s.draining)) s ++ waiting_outs (begins_after stage place s) reference offer
release_outs reference stage place offer s =
    let rests : Connection = settled reference stage (leave reference (done_at place s.draining) s).next.draining (leave reference (done_at place s.draining) s).next in
    let n : ℕ = leaving (done_at place s.draining) in
    let relayed : (leave reference (done_at place s.draining) s).outs ++ [] ≡ left_outs reference n s =
    append-nil _ ∙ leave_outs reference (done_at place s.draining) s ∙ outs_done reference n place s in
    ap (λ (outs : List Message). outs ++ waiting_outs (rests.waits && may_begin (settled_stage stage rests.draining) rests.draining) reference offer) relayed
    ∙ ap (λ b. left_outs reference n s ++ waiting_outs b reference offer) (begins_is reference stage place s rests (settled_is reference stage place s))

-- the steps one after the other make the row
pub does_next : (reference : ℕ) (stage : Stage) (place : ℕ) (offer : Option Channel) (n : ℕ) (begins : Bool) (s was behind rests next : Connection) →
    n ≡ leaving (done_at place s.draining) → begins ≡ (s.waits && may_begin stage (drop n s.draining)) →
    was ≡ marked place s → behind ≡ left n was → rests ≡ settled reference stage behind.draining behind →
    next ≡ after_waiting begins reference offer rests → next ≡ (release reference stage place offer s).next
does_next reference stage place offer n begins s was behind rests next number may is leaves settles waits =
    let same_begins : begins ≡ begins_after stage place s = may ∙ ap (λ m. s.waits && may_begin stage (drop m s.draining)) number in
    let same_left : behind ≡ all_left place s = leaves ∙ ap (λ (u : Connection). left n u) is ∙ ap (λ m. left m (marked place s)) number in
    let same_rests : rests ≡ settled reference stage (all_left place s).draining (all_left place s) =
    settles ∙ ap (λ (u : Connection). settled reference stage u.draining u) same_left in
    waits ∙ ap (λ b. after_waiting b reference offer rests) same_begins
    ∙ ap (λ (u : Connection). after_waiting (begins_after stage place s) reference offer u) same_rests
    ∙ sym (release_next reference stage place offer s)

pub does_outs : (reference : ℕ) (stage : Stage) (place : ℕ) (offer : Option Channel) (n : ℕ) (begins : Bool) (s : Connection) (none relayed all : List Message) →
    n ≡ leaving (done_at place s.draining) → begins ≡ (s.waits && may_begin stage (drop n s.draining)) →
    none ≡ [] → relayed ≡ none ++ left_outs reference n s → all ≡ relayed ++ waiting_outs begins reference offer →
    all ≡ (release reference stage place offer s).outs
does_outs reference stage place offer n begins s none relayed all number may empty held waits =
    let same_begins : begins ≡ begins_after stage place s = may ∙ ap (λ m. s.waits && may_begin stage (drop m s.draining)) number in
    let same_relayed : relayed ≡ left_outs reference (leaving (done_at place s.draining)) s =
    held ∙ ap (λ (outs : List Message). outs ++ left_outs reference n s) empty ∙ ap (λ m. left_outs reference m s) number in
    waits ∙ ap (λ (outs : List Message). outs ++ waiting_outs begins reference offer) same_relayed
    ∙ ap (λ b. left_outs reference (leaving (done_at place s.draining)) s ++ waiting_outs b reference offer) same_begins
    ∙ sym (release_outs reference stage place offer s)
