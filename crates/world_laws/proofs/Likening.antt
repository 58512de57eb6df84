-- SPDX-License-Identifier: MIT OR Apache-2.0
-- Tenures that are the same on the line.
use Rattle.world_laws.proofs.Prelude.{◌≡◌, ℕ, Bool, ◌||◌, if◌then◌else◌, List, [], ◌∷◌, ◌++◌, length, refl, sym, ap, ◌∙◌, subst, arith}
use Rattle.world_laws.proofs.Prelude.{append-nil, State, DataLinkState, Alive, Follows, FirstRelays, Condition, some_lost, flow}
use Rattle.world_laws.proofs.Prelude.{messages_in, part_of, parts_of, with_items, controls_of, released, is_confirmed, is_intact, assembled}
use Rattle.world_laws.specs.LineUp.Places.{LineTenure, Seat}
use Rattle.world_laws.proofs.LineUp.Following.{follows_line}
use Rattle.world_laws.proofs.LineUp.Lines.{messages_in-append}
use Rattle.world_laws.proofs.LineUp.Phases.{phase_fewer}

pub record Like (t u : LineTenure) : Type 0 where
  pub hold : u.hold ≡ t.hold
  pub messages : messages_in u.items ≡ messages_in t.items
  pub lost : u.is_lost ≡ t.is_lost

abbrev pub AllLike : List LineTenure → List LineTenure → Type 0
AllLike [] [] = Unit {0}
AllLike (t ∷ ts) (u ∷ us) = Like t u × AllLike ts us
AllLike _ _ = ⊥

pub like_itself : (t : LineTenure) → Like t t
like_itself t = record { hold = refl; messages = refl; lost = refl }

-- an RF CHANNEL RELEASE ACK brings no message
pub like_released : (t : LineTenure) → Like t (with_items t (t.items ++ released ∷ []))
like_released t = record { hold = refl; messages = messages_in-append t.items (released ∷ []) ∙ append-nil (messages_in t.items); lost = refl }

part_like : {t u : LineTenure} → Like t u → part_of u ≡ part_of t
part_like {t} {u} like = ap (λ (hold : List (List ℕ)). flow hold ++ flow (messages_in u.items)) like.hold ∙ ap (λ (ms : List (List ℕ)). flow t.hold ++ flow ms) like.messages

parts_like : (ts us : List LineTenure) → AllLike ts us → parts_of us ≡ parts_of ts
parts_like [] [] all = refl
parts_like (t ∷ ts) (u ∷ us) all =
    ap (λ (part : List (List ℕ)). part ++ (if u.is_lost then [] else parts_of us)) (part_like all.0) ∙ ap (λ (b : Bool). part_of t ++ (if b then [] else parts_of us)) all.0.lost
    ∙ ap (λ (parts : List (List ℕ)). part_of t ++ (if t.is_lost then [] else parts)) (parts_like ts us all.1)
parts_like [] (u ∷ us) all = elim all [ ]
parts_like (t ∷ ts) [] all = elim all [ ]

lost_like : (ts us : List LineTenure) → AllLike ts us → some_lost us ≡ some_lost ts
lost_like [] [] all = refl
lost_like (t ∷ ts) (u ∷ us) all = ap (λ (b : Bool). b || some_lost us) all.0.lost ∙ ap (λ (b : Bool). t.is_lost || b) (lost_like ts us all.1)
lost_like [] (u ∷ us) all = elim all [ ]
lost_like (t ∷ ts) [] all = elim all [ ]

behind_like : (ts us xs ys : List LineTenure) → AllLike ts us → AllLike xs ys → AllLike (ts ++ xs) (us ++ ys)
behind_like [] [] xs ys all more = more
behind_like (t ∷ ts) (u ∷ us) xs ys all more = (all.0, behind_like ts us xs ys all.1 more)
behind_like [] (u ∷ us) xs ys all more = elim all [ ]
behind_like (t ∷ ts) [] xs ys all more = elim all [ ]

first_like : (confirmed : Bool) (ts us : List LineTenure) (hold hold2 : List (List ℕ)) →
    AllLike ts us →
    hold2 ≡ hold →
    FirstRelays confirmed ts hold →
    FirstRelays confirmed us hold2
first_like confirmed [] [] hold hold2 all same first = λ is. same ∙ first is
first_like confirmed (t ∷ ts) (u ∷ us) hold hold2 all same first = all.0.hold ∙ first
first_like confirmed [] (u ∷ us) hold hold2 all same first = elim all [ ]
first_like confirmed (t ∷ ts) [] hold hold2 all same first = elim all [ ]

follows_to : {m : ℕ} {sent xs ys : List (List ℕ)} {link : DataLinkState} {ok ok2 : Bool} →
    xs ≡ ys →
    ok ≡ ok2 →
    Follows m sent xs link ok →
    Follows m sent ys link ok2
follows_to {m} {sent} {xs} {ys} {link} same intact follows = subst (Follows m sent ys link) intact (follows_line same follows)

condition_to : {seat : Seat} {a b c d a2 b2 c2 d2 : Bool} →
    a ≡ a2 →
    b ≡ b2 →
    c ≡ c2 →
    d ≡ d2 →
    Condition seat a b c d →
    Condition seat a2 b2 c2 d2
condition_to {seat} {a} {b} {c} {d} {a2} {b2} {c2} {d2} e f g h condition =
    subst (λ (x : Bool). Condition seat x b2 c2 d2) e (subst (λ (x : Bool). Condition seat a x c2 d2) f (subst (λ (x : Bool). Condition seat a b x d2) g (subst (λ (x : Bool). Condition seat a b c x) h condition)))

pub alive_like : {m : ℕ} (sent : List (List ℕ)) (link : DataLinkState) (seat : Seat) (state : State) (commands : ℕ) (old old2 : List LineTenure) (serving serving2 target target2 : LineTenure) (out taken : List (List ℕ)) → AllLike old old2 → Like serving serving2 → Like target target2
    → Alive m (assembled sent link seat state commands old serving target out taken) → Alive m (assembled sent link seat state commands old2 serving2 target2 out taken)
alive_like {m} sent link seat state commands old old2 serving serving2 target target2 out taken all like_serving like_target alive = record {
  follows = follows_to (ap (λ (parts : List (List ℕ)). flow taken ++ flow out ++ parts)
      (sym (parts_like (old ++ serving ∷ target ∷ []) (old2 ++ serving2 ∷ target2 ∷ []) (behind_like old old2 (serving ∷ target ∷ []) (serving2 ∷ target2 ∷ []) all (like_serving, (like_target, tt)))))) (sym intact) alive.follows;
  first = first_like (is_confirmed state) old old2 serving.hold serving2.hold all like_serving.hold alive.first;
  phase =
      let a = ap controls_of like_serving.messages in
      let b = ap (λ (ms : List (List ℕ)). length (flow ms)) like_target.messages in
      let c = ap controls_of like_target.messages in
      phase_fewer (omega arith) (omega arith) (omega arith) (omega arith) (omega arith) alive.phase;
  condition = condition_to (sym (lost_like old old2 all)) (sym like_serving.lost) (sym like_target.lost) (sym intact) alive.condition;
  bare = like_target.hold ∙ alive.bare;
} where
  intact : is_intact seat old2 serving2 target2 ≡ is_intact seat old serving target
  intact = rw (lost_like old old2 all, like_serving.lost, like_target.lost) refl
