-- SPDX-License-Identifier: MIT OR Apache-2.0
-- Where a line ends, and what follows it.
use Rattle.world_laws.proofs.Prelude.{◌≡◌, ℕ, Bool, true, false, Some, List, [], ◌∷◌, ◌++◌, refl, sym, subst, Rise, lent_message}
use Rattle.world_laws.proofs.Prelude.{after_lending, to_be_taken, DataLinkState, Rise-front, Rise-grow, RunsToEnd-lent, flow, Follows, rises}
use Rattle.mobile_end.specs.RunsToEnd.{RunsToEnd}
use Rattle.world_laws.specs.LineUp.Alive.Follows.{carries_on}

-- the same line
pub follows_line : {m : ℕ} {sent xs ys : List (List ℕ)} {link : DataLinkState} {ok : Bool} →
    xs ≡ ys →
    Follows m sent xs link ok →
    Follows m sent ys link ok
follows_line {m} {sent} {link} {ok} same follows = subst (λ (list : List (List ℕ)). Follows m sent list link ok) same follows

-- in any case it rises
pub follows_rise : {m : ℕ} {sent xs : List (List ℕ)} {link : DataLinkState} {ok : Bool} →
    Follows m sent xs link ok →
    (k : ℕ) × Rise m sent 0 xs k
follows_rise {xs} {link} (carries_on going) = Rise-front xs (flow (to_be_taken link)) going.now
follows_rise (rises k rise) = (k, rise)

-- and so does a front of it
pub follows_front : {m : ℕ} {sent xs : List (List ℕ)} {link : DataLinkState} {ok : Bool} (ys zs : List (List ℕ)) →
    xs ≡ ys ++ zs →
    Follows m sent xs link ok →
    Follows m sent ys link false
follows_front {m} {sent} ys zs front follows =
    let whole = follows_rise follows in
    let cut = Rise-front ys zs (subst (λ (list : List (List ℕ)). Rise m sent 0 list whole.0) front whole.1) in
    rises cut.0 cut.1

-- another link behind it
pub follows_link : {m : ℕ} {sent xs : List (List ℕ)} {link new : DataLinkState} {ok : Bool} →
    (RunsToEnd m sent xs link → RunsToEnd m sent xs new) →
    Follows m sent xs link ok →
    Follows m sent xs new ok
follows_link change (carries_on going) = carries_on (change going)
follows_link change (rises k rise) = rises k rise

-- more is sent
pub follows_sent : {m : ℕ} {sent xs : List (List ℕ)} {link new : DataLinkState} {ok : Bool} (more : List (List ℕ)) →
    (RunsToEnd m sent xs link → RunsToEnd m (sent ++ more) xs new) →
    Follows m sent xs link ok →
    Follows m (sent ++ more) xs new ok
follows_sent more change (carries_on going) = carries_on (change going)
follows_sent more change (rises k rise) = rises k (Rise-grow more rise)

-- a station takes a message: where the line is intact it is the next on it, and else it isn't on it
pub follows_taken : {m : ℕ} {sent : List (List ℕ)} {ok : Bool} (xs ys : List (List ℕ)) (link : DataLinkState) (x : List ℕ) →
    lent_message link ≡ Some x →
    (ok ≡ true → ys ≡ xs ++ flow (x ∷ [])) →
    (ok ≡ false → ys ≡ xs) →
    Follows m sent xs link ok →
    Follows m sent ys (after_lending link) ok
follows_taken {m} {sent} xs ys link x lent grows same (carries_on going) =
    carries_on (subst (λ (list : List (List ℕ)). RunsToEnd m sent list (after_lending link)) (sym (grows refl)) (RunsToEnd-lent link x lent going))
follows_taken {m} {sent} xs ys link x lent grows same (rises k rise) = rises k (subst (λ (list : List (List ℕ)). Rise m sent 0 list k) (sym (same refl)) rise)
