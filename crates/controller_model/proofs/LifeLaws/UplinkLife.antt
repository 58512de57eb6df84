-- SPDX-License-Identifier: MIT OR Apache-2.0
-- The mobile's messages of a connection over a whole life.
use Rattle.controller_model.proofs.Prelude.{◌≡◌, ℕ, ◌+◌, ◌≤◌, ◌<◌, List, [], ◌∷◌, ◌++◌, length, fold, Bool, true, false, if◌then◌else◌}
use Rattle.controller_model.proofs.Prelude.{Option, Some, None, option_map, refl, sym, subst, ap, ◌∙◌, arith, append_assoc, append-nil}
use Rattle.controller_model.proofs.Prelude.{flat_map, Channel, Message, SWITCH_LINK, access_activation, AllByRecursion-append, by_state}
use Rattle.controller_model.proofs.Prelude.{Drain, State, WaitActivation, WaitEstablish, WaitConfirm, Live, Closed, Removed, Connection}
use Rattle.controller_model.proofs.Prelude.{new_connection, roles_of, IsValid, AreApart, IsOpen, OfRow, relayed, still_of, undone}
use Rattle.controller_model.proofs.Prelude.{used_channels, after_pass, Sapi, Zero, Three, HeldTenure, AreAllowed, Parameters, Acts, Brought}
use Rattle.controller_model.proofs.Prelude.{FitsNone, IsAged, brought_in, kept_in, ages, takes_row, opens, rests, IsThere, Moment}
use Rattle.controller_model.proofs.Prelude.{all_messages}
use Rattle.controller_model.proofs.Prelude.{connection_of, word_in, Owns, OwnsOpen, used_in, ServedTenure, UplinkIsConserved, after_moment}
use Rattle.controller_model.proofs.Prelude.{after_word, joined, service, Step, Word, Controller, Entry, Turn, each, entry_of, is_up}
use Rattle.controller_model.proofs.Prelude.{new_controller, step, held_up, held_up_for, empty_tenure, tenure_messages}
use Rattle.conn_rules.proofs.RolesApart.{target_in_role}
use Rattle.controller_model.proofs.LifeLaws.Beside.{step_keeps_rest}
use Rattle.controller_model.proofs.LifeLaws.DownlinkLife.{begun_in, frames_in_life, history_of, moments_of}
use Rattle.controller_model.proofs.LifeLaws.Fitting.{Fits, IsBreak, IsFine, aged_holds, fine_old, in_break, new_fits, step_fits}
use Rattle.controller_model.proofs.LifeLaws.Following.{Follows}
use Rattle.controller_model.proofs.LifeLaws.FollowingSteps.{AreOwn, SaysUp, rest_tenures, row_tenures, step_says, up_own, word_none}
use Rattle.controller_model.proofs.LifeLaws.FollowingTable.{UpIn, row_up}
use Rattle.controller_model.proofs.LifeLaws.Lives.{life_fits}
use Rattle.controller_model.proofs.LifeLaws.OwningLife.{AllFine, fine_at, new_holds, step_holds}
use Rattle.controller_model.proofs.LifeLaws.OwningWords.{Holds}
use Rattle.controller_model.proofs.LifeLaws.SeenFrames.{forwarded_seen}
use Rattle.controller_model.proofs.LifeLaws.Silence.{kept_holds, same_state}
use Rattle.controller_model.proofs.LifeLaws.SoundLife.{life_sends_all}
use Rattle.controller_model.proofs.LifeLaws.Switched.{IsBegun, some_begun, was}
use Rattle.controller_model.proofs.LifeLaws.Tenures.{joined_none}
use Rattle.controller_model.proofs.LifeLaws.Turns.{step_does}
use Rattle.controller_model.proofs.LifeLaws.UsualRows.{AreUsual, IsUsual, PutsUsual, usual_row}
use Rattle.controller_model.specs.Life.{life}

-- what was put so far, and the tenures, follow one another while the connection is open
unfoldable pub AgreesUp : ℕ → ℕ → List Message → List ServedTenure → Option Connection → Type 0
AgreesUp number next put ts None = next ≤ number → (ts ≡ []) × (put ≡ [])
AgreesUp number next put ts (Some s) = IsOpen s.state → UpIn s.state s put ts

-- ---- time passes

pass_up : (state : State) (ms : ℕ) (s : Connection) (put : List Message) (ts : List ServedTenure) →
    UpIn state s put ts →
    UpIn state (after_pass ms s) put ts
pass_up WaitConfirm ms s put ts up = record { serves = up.serves; old = up.old; up = up.up }
pass_up (Live reference stage) ms s put ts up = record { serves = up.serves; old = up.old; up = up.up }
pass_up (Closed clearing) ms s put ts up = absurd up
pass_up Removed ms s put ts up = absurd up
pass_up _ ms s put ts up = up

aged_up : (old s : Connection) (put : List Message) (ts : List ServedTenure) → IsAged old s → UpIn old.state old put ts
    → UpIn s.state s put ts
aged_up old s put ts aged up = aged_holds (λ (c : Connection). UpIn c.state c put ts) (λ ms c holds. pass_up c.state ms c put ts holds) old s aged up

aged_owns : (c : Controller) (number : ℕ) (old s : Connection) →
    IsAged old s →
    Owns c.channels c.links number (roles_of old) →
    Owns c.channels c.links number (roles_of s)
aged_owns c number old s aged owns = aged_holds (λ (d : Connection). Owns c.channels c.links number (roles_of d)) (λ ms d owns. owns) old s aged owns

-- ---- a row

pub used_apart : (s : Connection) → AreApart (used_in (roles_of s)) → AreApart (used_channels s)
used_apart s apart = subst (λ (cs : List Channel). AreApart (undone s.draining ++ s.serving ∷ cs)) (target_in_role s.state) apart

kept_up : (number next : ℕ) (put : List Message) (ts : List ServedTenure) (state : State) (s : Connection) →
    s.state ≡ state →
    number < next →
    (IsOpen s.state → UpIn s.state s put ts) →
    AgreesUp number next put ts (kept_in state s)
unfolding AgreesUp
kept_up number next put ts state s is less up = kept_holds (AgreesUp number next put ts) state s (λ more. absurd (omega arith)) up

some_up : (number next : ℕ) (put : List Message) (ts : List ServedTenure) (before : Option Connection) (s : Connection) →
    before ≡ Some s →
    AgreesUp number next put ts before →
    IsOpen s.state →
    UpIn s.state s put ts
unfolding AgreesUp
some_up number next put ts before s is agrees = subst (AgreesUp number next put ts) is agrees

some_owns : (c : Controller) (number : ℕ) (before : Option Connection) (s : Connection) →
    before ≡ Some s →
    OwnsOpen c.channels c.links number before →
    IsOpen s.state →
    Owns c.channels c.links number (roles_of s)
some_owns c number before s is owns = subst (OwnsOpen c.channels c.links number) is owns

-- ---- each step

rest_up : (number next later : ℕ) (c : Controller) (given : List Message) (ts : List ServedTenure) (o : Option Connection) (word : Word) (brought : Brought) → next ≤ later → IsFine o → OwnsOpen c.channels c.links number o → (AreOwn c number ts → SaysUp word ts brought) → FitsNone brought o → AgreesUp number next given ts o →
    AgreesUp number later (given ++ []) (after_word word [] ts) o
unfolding AgreesUp IsFine
rest_up number next later c given ts None word brought more fine owns says none agrees = λ less.
    let fresh = agrees (omega arith) in
    (ap (after_word word []) fresh.0 ∙ word_none word [] refl, append-nil given ∙ fresh.1)
rest_up number next later c given ts (Some s) word brought more fine owns says none agrees = λ there.
    let up = agrees there in
    subst (λ (ms : List Message). UpIn s.state s ms (after_word word [] ts)) (sym (append-nil given))
    (subst (UpIn s.state s given) (sym (rest_tenures s word brought given ts (says (up_own s.state c number s given ts (owns there) up)) fine.1 none up)) up)

pub acts_up : (number next later : ℕ) (linked : Bool) (c : Controller) (brought : Brought) (before after : Option Connection) (put given : List Message) (ts : List ServedTenure) (word : Word) → Acts number next linked brought before put after → next ≤ later → IsBegun number next before → IsFine before → IsBreak brought → OwnsOpen c.channels c.links number before →
    (AreOwn c number ts → SaysUp word ts brought) → AgreesUp number next given ts before → AgreesUp number later (given ++ put) (after_word word put ts) after
unfolding AgreesUp
acts_up number next later linked c brought before after put given ts word (rests silent same none) more begins fine break owns says agrees =
    subst (AgreesUp number later (given ++ put) (after_word word put ts)) (sym same)
    (subst (λ (ms : List Message). AgreesUp number later (given ++ ms) (after_word word ms ts) before) (sym silent)
    (rest_up number next later c given ts before word brought more fine owns says none agrees))
acts_up number next later linked c brought before after put given ts word (ages old now is_time is aged silent same) more begins fine break owns says agrees =
    subst (AgreesUp number later (given ++ put) (after_word word put ts)) (sym same)
    (subst (λ (ms : List Message). AgreesUp number later (given ++ ms) (after_word word ms ts) (Some now)) (sym silent)
    (λ there. aged_up old now (given ++ []) (after_word word [] ts) aged
    (subst (AgreesUp number later (given ++ []) (after_word word [] ts)) is
    (rest_up number next later c given ts before word brought more fine owns says (subst (λ (b : Brought). FitsNone b before) (sym is_time) tt) agrees)
    (subst IsOpen (same_state old now aged) there))))
acts_up number next later linked c brought before after put given ts word (opens begins_as linked_up channel request delay is_nothing none_before put_is same) more begins fine break owns says agrees =
    let fresh = subst (AgreesUp number next given ts) none_before agrees (omega arith) in
    subst (AgreesUp number later (given ++ put) (after_word word put ts)) (sym same)
    (subst (λ (ms : List Message). AgreesUp number later (given ++ ms) (after_word word ms ts) (Some (new_connection number channel request delay))) (sym put_is)
    (λ there. (
      ap (after_word word (access_activation channel ∷ [])) fresh.0 ∙ word_none word (access_activation channel ∷ []) refl,
      λ sapi. ap (λ (ms : List Message). relayed sapi (ms ++ access_activation channel ∷ [])) fresh.1 ∙ silent sapi channel,
    )))
  where
    silent : (sapi : Sapi) (channel : Channel) → relayed sapi (access_activation channel ∷ []) ≡ []
    silent Zero channel = refl
    silent Three channel = refl
acts_up number next later linked c brought before after put given ts word (takes_row old s input offer r is aged by fits put_is same) more begins fine break owns says agrees =
    let less : number < next = some_begun number next before old is begins in
    subst (AgreesUp number later (given ++ put) (after_word word put ts)) (sym same)
    (subst (λ (ms : List Message). AgreesUp number later (given ++ ms) (after_word word ms ts) (kept_in r.next.state r.next)) (sym put_is)
    (kept_up number later (given ++ r.outs) (after_word word r.outs ts) r.next.state r.next refl (omega arith)
    (λ there.
    let was_open : IsOpen old.state = subst IsOpen (same_state old s aged) (was s input offer r fits there) in
    let up = some_up number next given ts before old is agrees was_open in
    let mine = some_owns c number before old is owns was_open in
    let apart = (aged_owns c number old s aged mine).apart in
    subst (UpIn r.next.state r.next (given ++ r.outs)) (sym (row_tenures word brought input r.outs ts break by (says (up_own old.state c number old given ts mine up))))
    (row_up s.state s refl input offer r given ts (fine_old before old s is aged fine).1 (used_apart s apart) apart fits there (aged_up old s given ts aged up)))))

-- ---- a life

up_run : (number : ℕ) (c : Controller) (from_one : 1 ≤ number) (fits : (n : ℕ) → 1 ≤ n → Fits n c) → Holds c.links c → (given : List Message) (ts : List ServedTenure) (steps : List Step) → AgreesUp number c.next_number given ts (connection_of c number) →
    AgreesUp number (each step c steps).next.next_number (given ++ all_messages (moments_of number c from_one (fits number from_one) steps)) (fold after_moment ts (moments_of number c from_one (fits number from_one) steps)) (connection_of (each step c steps).next number)
unfolding moments_of AllFine
up_run number c from_one fits holds given ts [] agrees = subst (λ (ms : List Message). AgreesUp number c.next_number ms ts (connection_of c number)) (sym (append-nil given)) agrees
up_run number c from_one fits holds given ts (s ∷ ss) agrees =
    let mine = fits number from_one in
    let does = step_does number c s from_one mine.numbered in
    let next : Controller = (step c s).next in
    let more : (n : ℕ) → 1 ≤ n → Fits n next = λ n first. step_fits n c s first (fits n first) in
    let rest : List Message = all_messages (moments_of number next from_one (more number from_one) ss) in
    subst (λ (ms : List Message). AgreesUp number (each step next ss).next.next_number ms (fold after_moment (after_word (word_in s) does.put ts) (moments_of number next from_one (more number from_one) ss)) (connection_of (each step next ss).next number)) (append_assoc given does.put rest)
    (up_run number next from_one more (step_holds c s mine.numbered (fine_at c mine.numbered (λ n first. (fits n first).fine)) holds) (given ++ does.put) (after_word (word_in s) does.put ts) ss
    (acts_up number c.next_number next.next_number (is_up c SWITCH_LINK) c (brought_in c number s) (connection_of c number) (connection_of next number) does.put given ts (word_in s) does.acts (step_keeps_rest c s).numbers (begun_in number c mine.numbered) mine.fine (in_break c number s) (holds.each number)
    (step_says c number s ts) agrees))

-- ---- what is held

held_still : (sapi : Sapi) (serving : Channel) (ds : List Drain) (ts : List HeldTenure) →
    length ts ≡ length ds + 1 →
    still_of sapi (λ place. []) serving ds ts ≡ flat_map (λ tenure. tenure_messages tenure sapi) ts
held_still sapi serving ds [] same = refl
held_still sapi serving [] (t ∷ []) same = refl
held_still sapi serving [] (t ∷ u ∷ ts) same = absurd cc
held_still sapi serving (d ∷ ds) (t ∷ ts) same =
    ap (λ (xs : List (List ℕ)). tenure_messages t sapi ++ (xs ++ still_of sapi (λ place. []) serving ds ts)) (none d.is_done)
    ∙ ap (λ (xs : List (List ℕ)). tenure_messages t sapi ++ xs) (held_still sapi serving ds ts (let one = same in omega arith))
  where
    none : (b : Bool) → (let xs : List (List ℕ) = if b then [] else [] in xs) ≡ []
    none true = refl
    none false = refl

follows_held : (s : Connection) (put : List Message) (ts : List ServedTenure) (sapi : Sapi) →
    length s.up.tenures ≡ length s.draining + 1 →
    Follows s put ts →
    relayed sapi put ++ flat_map (λ tenure. tenure_messages tenure sapi) s.up.tenures ≡ joined sapi ts
follows_held s put ts sapi same follows =
    ap (λ (xs : List (List ℕ)). relayed sapi put ++ xs) (sym (held_still sapi s.serving s.draining s.up.tenures same))
    ∙ follows.up sapi (λ place. []) ∙ joined_none sapi ts

early_held : (s : Connection) (put : List Message) (ts : List ServedTenure) (sapi : Sapi) →
    s.up.tenures ≡ empty_tenure ∷ [] →
    ts ≡ [] →
    relayed sapi put ≡ [] →
    relayed sapi put ++ flat_map (λ tenure. tenure_messages tenure sapi) s.up.tenures ≡ joined sapi ts
early_held s put ts sapi one none silent =
    ap (λ (xs : List (List ℕ)). xs ++ flat_map (λ tenure. tenure_messages tenure sapi) s.up.tenures) silent
    ∙ ap (λ (us : List HeldTenure). flat_map (λ tenure. tenure_messages tenure sapi) us) one ∙ empty sapi ∙ ap (joined sapi) (sym none)
  where
    empty : (sapi : Sapi) → flat_map (λ tenure. tenure_messages tenure sapi) (empty_tenure ∷ []) ≡ []
    empty Zero = refl
    empty Three = refl

up_held : (state : State) (s : Connection) →
    s.state ≡ state →
    (put : List Message) (ts : List ServedTenure) (sapi : Sapi) →
    IsValid s →
    UpIn state s put ts →
    relayed sapi put ++ flat_map (λ tenure. tenure_messages tenure sapi) s.up.tenures ≡ joined sapi ts
up_held WaitActivation s is put ts sapi valid up = early_held s put ts sapi (by_state WaitActivation s is valid).0.one_tenure up.0 (up.1 sapi)
up_held WaitEstablish s is put ts sapi valid up = early_held s put ts sapi (by_state WaitEstablish s is valid).0.one_tenure up.0 (up.1 sapi)
up_held WaitConfirm s is put ts sapi valid up =
    let awaits = by_state WaitConfirm s is valid in
    follows_held s put ts sapi (awaits.one_tenure ∙ ap (λ (ds : List Drain). length ds + 1) (sym awaits.none_drains)) up
up_held (Live reference stage) s is put ts sapi valid up = follows_held s put ts sapi (by_state (Live reference stage) s is valid).a_tenure_each up
up_held _ s is put ts sapi valid up = absurd up

conserved : (number next : ℕ) (moments : List Moment) (o : Option Entry) (sapi : Sapi) →
    IsFine (option_map (λ e. e.connection) o) →
    AgreesUp number next (all_messages moments) (service moments) (option_map (λ e. e.connection) o) →
    IsThere (option_map (λ e. e.connection) o) →
    relayed sapi (all_messages moments) ++ held_up_for sapi o ≡ joined sapi (service moments)
unfolding AgreesUp IsFine
conserved number next moments None sapi fine agrees there = absurd there
conserved number next moments (Some e) sapi fine agrees there =
    up_held e.connection.state e.connection refl (all_messages moments) (service moments) sapi fine.1 (agrees there)

new_agrees : (number : ℕ) (p : Parameters) → AgreesUp number 1 [] [] (connection_of (new_controller p) number)
unfolding AgreesUp
new_agrees number p = λ less. (refl, refl)

uplink_in_life : (p : Parameters) (steps : List Step) (number : ℕ) → AreAllowed p → (from_one : 1 ≤ number) → IsThere (connection_of (life p steps).next number) → (sapi : Sapi) →
    relayed sapi (all_messages (moments_of number (new_controller p) from_one (new_fits number p) steps)) ++ held_up (life p steps).next number sapi ≡ joined sapi (service (moments_of number (new_controller p) from_one (new_fits number p) steps))
unfolding life
uplink_in_life p steps number allowed from_one there sapi =
    let last : Controller = (each step (new_controller p) steps).next in
    conserved number last.next_number (moments_of number (new_controller p) from_one (new_fits number p) steps) (entry_of last number) sapi (life_fits p steps number from_one).fine
    (up_run number (new_controller p) from_one (λ n first. new_fits n p) (new_holds p allowed) [] [] steps (new_agrees number p)) there

-- ---- what is read from the frames

pub acts_usual : (number next : ℕ) (up : Bool) (brought : Brought) (before after : Option Connection) (put : List Message) →
    Acts number next up brought before put after →
    AreUsual put
acts_usual number next up brought before after put (rests silent same none) = subst AreUsual (sym silent) tt
acts_usual number next up brought before after put (ages old s is_time is aged silent same) = subst AreUsual (sym silent) tt
acts_usual number next up brought before after put (opens begins linked channel request delay is_nothing none put_is same) = subst AreUsual (sym put_is) (tt, tt)
acts_usual number next up brought before after put (takes_row old s input offer r is aged by fits put_is same) = subst AreUsual (sym put_is) (subst (OfRow PutsUsual) fits (usual_row s input offer))

usual_run : (number : ℕ) (c : Controller) (from_one : 1 ≤ number) (fits : Fits number c) (steps : List Step) →
    AreUsual (all_messages (moments_of number c from_one fits steps))
unfolding moments_of
usual_run number c from_one fits [] = tt
usual_run number c from_one fits (s ∷ ss) =
    let does = step_does number c s from_one fits.numbered in
    let next = step_fits number c s from_one fits in
    AllByRecursion-append IsUsual does.put (all_messages (moments_of number (step c s).next from_one next ss))
    (acts_usual number c.next_number (is_up c SWITCH_LINK) (brought_in c number s) (connection_of c number) (connection_of (step c s).next number) does.put does.acts)
    (usual_run number (step c s).next from_one next ss)

pub life_conserves_up : (p : Parameters) (steps : List Step) (number : ℕ) →
    AreAllowed p →
    1 ≤ number →
    UplinkIsConserved number p steps (life p steps)
life_conserves_up p steps number allowed from_one =
    let moments : List Moment = moments_of number (new_controller p) from_one (new_fits number p) steps in
    let whole : Turn = life p steps in
    let frames = frames_in_life p steps number from_one in
    let uplink = uplink_in_life p steps number allowed from_one in
    record {
      moments = moments;
      history = history_of number (new_controller p) from_one (new_fits number p) steps;
      frames = frames;
      uplink = uplink;
      read = λ octets there sapi.
          ap (λ (xs : List (List ℕ)). xs ++ held_up whole.next number sapi)
          (forwarded_seen number whole.outs (all_messages moments) from_one frames (usual_run number (new_controller p) from_one (new_fits number p) steps) (life_sends_all p steps allowed octets) sapi)
          ∙ uplink there sapi;
    }
