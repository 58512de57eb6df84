-- SPDX-License-Identifier: MIT OR Apache-2.0
-- The line-up is unchanged if nothing changes from which it is drawn.
use Rattle.world_laws.proofs.Prelude.{◌≡◌, ℕ, ◌+◌, ◌&&◌, not, Bool, true, false, if◌then◌else◌, List, [], ◌∷◌, ◌++◌, length, Some, refl, ap}
use Rattle.world_laws.proofs.Prelude.{◌∙◌, AllByRecursion, Channel, Place, Drain, Changing, State, Live, Connection, undone}
use Rattle.world_laws.proofs.Prelude.{used_channels, place_of, Held, DataLinkState, AirMessage, MobileSeat, Mobile, ended, flow, seat_from}
use Rattle.world_laws.proofs.Prelude.{remembered, draining_tenure, old_tenure, old_tenures, serving_tenure, serving_hold, commanded_target}
use Rattle.world_laws.proofs.Prelude.{target_tenure, assembled, lined}
use Rattle.conn_rules.specs.Streams.{target_in}
use Rattle.world_laws.specs.LineUp.Places.{Item, LineTenure, Seat}
use Rattle.world_laws.specs.LineUps.{has_arrived}

-- ---- all of a list

pub all_left : {X : Type 0} (P : X → Type 0) (xs ys : List X) → AllByRecursion P (xs ++ ys) → AllByRecursion P xs
all_left P [] ys all = tt
all_left P (x ∷ xs) ys all = (all.0, all_left P xs ys all.1)

pub all_right : {X : Type 0} (P : X → Type 0) (xs ys : List X) → AllByRecursion P (xs ++ ys) → AllByRecursion P ys
all_right P [] ys all = all
all_right P (x ∷ xs) ys all = all_right P xs ys all.1

-- ---- tenures

-- what is on its way up is the same on these channels
abbrev pub AreSame : (Place → List Item) → (Place → List Item) → List Channel → Type 0
AreSame f g channels = AllByRecursion (λ c. f (place_of c) ≡ g (place_of c)) channels

-- the same links are up
abbrev pub AreUp : (ℕ → Bool) → (ℕ → Bool) → Type 0
AreUp up up2 = (n : ℕ) → up n ≡ up2 n

one_same : (f g : Place → List Item) (up up2 : ℕ → Bool) (d : Drain) (ds : List Drain) (hold : List (List ℕ)) →
    AreUp up up2 →
    AreSame f g (undone (d ∷ ds)) →
    (old_tenure f up d hold ≡ old_tenure g up2 d hold) × AreSame f g (undone ds)
one_same f g up up2 d ds hold ups same = by_done d.is_done same where
  by_done : (b : Bool) → AreSame f g (if b then undone ds else d.channel ∷ undone ds)
      → ((if b then ended hold else draining_tenure (up d.channel.station) (f (place_of d.channel)) hold) ≡ (if b then ended hold else draining_tenure (up2 d.channel.station) (g (place_of d.channel)) hold)) × AreSame f g (undone ds)
  by_done true all = (refl, all)
  by_done false all = (ap (λ (items : List Item). draining_tenure (up d.channel.station) items hold) all.0 ∙ ap (λ (b : Bool). draining_tenure b (g (place_of d.channel)) hold) (ups d.channel.station), all.1)

pub old_same : (f g : Place → List Item) (up up2 : ℕ → Bool) (ds : List Drain) (holds : List Held) →
    AreUp up up2 →
    AreSame f g (undone ds) →
    old_tenures f up ds holds ≡ old_tenures g up2 ds holds
old_same f g up up2 [] holds ups same = refl
old_same f g up up2 (d ∷ ds) [] ups same =
    let a = one_same f g up up2 d ds [] ups same in
    ap (λ (t : LineTenure). t ∷ old_tenures f up ds []) a.0 ∙ ap (λ (ts : List LineTenure). old_tenure g up2 d [] ∷ ts) (old_same f g up up2 ds [] ups a.1)
old_same f g up up2 (d ∷ ds) (held ∷ others) ups same =
    let a = one_same f g up up2 d ds held.zero ups same in
    ap (λ (t : LineTenure). t ∷ old_tenures f up ds others) a.0 ∙ ap (λ (ts : List LineTenure). old_tenure g up2 d held.zero ∷ ts) (old_same f g up up2 ds others ups a.1)

pub serving_same : (f g : Place → List Item) (up up2 : ℕ → Bool) (c : Channel) (hold : List (List ℕ)) →
    AreUp up up2 →
    f (place_of c) ≡ g (place_of c) →
    serving_tenure f up c hold ≡ serving_tenure g up2 c hold
serving_same f g up up2 c hold ups same = ap (λ (items : List Item). record (serving_tenure g up c hold) { items = items }) same ∙ ap (λ (b : Bool). record (serving_tenure g up2 c hold) { is_lost = not b }) (ups c.station)

pub target_same : (f g : Place → List Item) (up up2 : ℕ → Bool) (seat : Seat) (state : State) →
    AreUp up up2 →
    AreSame f g (target_in state) →
    target_tenure f up seat (commanded_target state) ≡ target_tenure g up2 seat (commanded_target state)
target_same f g up up2 seat (Live reference (Changing target)) ups same =
    ap (λ (items : List Item). record (target_tenure g up seat (Some target)) { items = items }) same.0 ∙ ap (λ (b : Bool). record (target_tenure g up2 seat (Some target)) { is_lost = not b && has_arrived seat }) (ups target.channel.station)
target_same f g up up2 seat _ ups same = refl

-- ---- line-ups

pub assembled-same : {sent sent2 : List (List ℕ)} {link link2 : DataLinkState} {seat seat2 : Seat} (state : State) {commands commands2 : ℕ} {old old2 : List LineTenure} {serving serving2 target target2 : LineTenure} {out out2 taken taken2 : List (List ℕ)}
    → sent ≡ sent2 → link ≡ link2 → seat ≡ seat2 → commands ≡ commands2 → old ≡ old2 → serving ≡ serving2 → target ≡ target2 → out ≡ out2 → taken ≡ taken2
    → assembled sent link seat state commands old serving target out taken ≡ assembled sent2 link2 seat2 state commands2 old2 serving2 target2 out2 taken2
assembled-same state a b c d e f g h i = rw (a, b, c, d, e, f, g, h, i) refl

pub lined-same : (f g : Place → List Item) (up up2 : ℕ → Bool) (commands commands2 : List AirMessage) (out out2 taken taken2 : List (List ℕ)) (p q : Mobile) (s : Connection) → AreSame f g (used_channels s) → AreUp up up2 → commands ≡ commands2 → out ≡ out2 → taken ≡ taken2
    → p.end.sent ≡ q.end.sent → p.end.zero ≡ q.end.zero → p.seat ≡ q.seat → lined f up commands out taken p s ≡ lined g up2 commands2 out2 taken2 q s
lined-same f g up up2 commands commands2 out out2 taken taken2 p q s same ups same_commands same_out same_taken sent zero seat =
    let rest : AreSame f g (s.serving ∷ target_in s.state) = all_right (λ c. f (place_of c) ≡ g (place_of c)) (undone s.draining) (s.serving ∷ target_in s.state) same in
    assembled-same s.state sent zero (ap (seat_from s.serving) seat) (ap (λ (entries : List AirMessage). length entries + remembered p.seat) same_commands ∙ ap (λ (seat : MobileSeat). length commands2 + remembered seat) seat)
    (old_same f g up up2 s.draining s.up.tenures ups (all_left (λ c. f (place_of c) ≡ g (place_of c)) (undone s.draining) (s.serving ∷ target_in s.state) same))
    (serving_same f g up up2 s.serving (serving_hold s.draining s.up.tenures) ups rest.0)
    (target_same f g up up2 (seat_from s.serving p.seat) s.state ups rest.1 ∙ ap (λ (seat : MobileSeat). target_tenure g up2 (seat_from s.serving seat) (commanded_target s.state)) seat) (ap flow same_out) (ap flow same_taken)
