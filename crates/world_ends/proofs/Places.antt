-- SPDX-License-Identifier: MIT OR Apache-2.0
-- The mobile of a number is in one place.
use Rattle.std.proofs.Common.{◌≡◌, ℕ, zero, suc, ◌<◌, Bool, false, List, [], ◌∷◌, length, get_or, set, slice_get, unwrap_or, Option, Some, None, Result, Ok, Err, IsSome, IfOk, OnOk, OnErr, refl, sym, ap, ◌∙◌, subst}
use Rattle.std.specs.Option.{option_and_then, option_map}
use Rattle.std.proofs.lemmas.Option.{slice_get-get_or}
use Rattle.octets.specs.declared.memory.Memory.{Memory}
use Rattle.world_model.specs.Takes.{Takes}
use Rattle.world_model.specs.World.{Mobile}
use Rattle.world_ends.specs.Mobiles.{by_mobile, mobile_in, place_in, with_mobile_in}
use Rattle.world_ends.specs.MobilesState.{MobilesState}

-- ---- what happens to one of them, where it can

-- one that is put back as it is
as_it_is : (p : Mobile) (mobiles : List Mobile) (k : ℕ) → slice_get mobiles k ≡ Some p → set mobiles k p ≡ mobiles
as_it_is p [] k is = absurd cc
as_it_is p (q ∷ qs) zero is = ap (λ (x : Mobile). x ∷ qs) (cc)
as_it_is p (q ∷ qs) (suc k) is = ap (λ (xs : List Mobile). q ∷ xs) (as_it_is p qs k is)

same_back : (number : ℕ) (s : MobilesState) (p : Mobile) → mobile_in number s.mobiles ≡ Some p → with_mobile_in number p s ≡ s
same_back number s p found = ap (λ (mobiles : List Mobile). record s { mobiles = mobiles }) (as_it_is p s.mobiles (place_in number s.mobiles) found)

by_found : (number : ℕ) (happens : Mobile → Option Mobile) (s : MobilesState) (o : Option Mobile) → mobile_in number s.mobiles ≡ o
    → by_mobile number happens s ≡ option_map (λ p. with_mobile_in number p s) (option_and_then happens o)
by_found number happens s o is = ap (λ (o : Option Mobile). option_map (λ p. with_mobile_in number p s) (option_and_then happens o)) is

takes_here : (number : ℕ) (happens : Mobile → Option Mobile) (s : MobilesState) (p q : Mobile) (taken : Bool) → mobile_in number s.mobiles ≡ Some p
    → Takes p (happens p) taken q → Takes s (by_mobile number happens s) taken (with_mobile_in number q s)
takes_here number happens s p q taken found takes =
    subst (λ (o : Option MobilesState). Takes s o taken (with_mobile_in number q s)) (sym (by_found number happens s (Some p) found)) (by_next (happens p) takes) where
      by_next : (o : Option Mobile) →
          Takes p o taken q →
          Takes s (option_map (λ p. with_mobile_in number p s) o) taken (with_mobile_in number q s)
      by_next None (not, same) = (not, ap (λ (m : Mobile). with_mobile_in number m s) same ∙ same_back number s p found)
      by_next (Some next) (is, same) = (is, ap (λ (m : Mobile). with_mobile_in number m s) same)

-- the mobile at this place
is_found : (number : ℕ) (s : MobilesState) (o : Option Mobile) (k : ℕ) →
    k ≡ place_in number s.mobiles →
    slice_get s.mobiles k ≡ o →
    mobile_in number s.mobiles ≡ o
is_found number s o k at found = sym (ap (λ (j : ℕ). slice_get s.mobiles j) at) ∙ found

pub takes_found : (number : ℕ) (happens : Mobile → Option Mobile) (s : MobilesState) (p q : Mobile) (taken : Bool) (k : ℕ) → k ≡ place_in number s.mobiles → slice_get s.mobiles k ≡ Some p
    → Takes p (happens p) taken q → Takes s (by_mobile number happens s) taken (record s { mobiles = set s.mobiles k q })
takes_found number happens s p q taken k at found takes =
    subst (λ (j : ℕ). Takes s (by_mobile number happens s) taken (record s { mobiles = set s.mobiles j q })) (sym at)
    (takes_here number happens s p q taken (is_found number s (Some p) k at found) takes)

pub takes_none : (number : ℕ) (happens : Mobile → Option Mobile) (s : MobilesState) (k : ℕ) →
    k ≡ place_in number s.mobiles →
    slice_get s.mobiles k ≡ None →
    Takes s (by_mobile number happens s) false s
takes_none number happens s k at none =
    subst (λ (o : Option MobilesState). Takes s o false s) (sym (by_found number happens s None (is_found number s None k at none))) (refl, refl)

pub carries_on : (number : ℕ) (happens : Mobile → Option Mobile) (s : MobilesState) (p q : Mobile) (k : ℕ) → k ≡ place_in number s.mobiles → slice_get s.mobiles k ≡ Some p
    → q ≡ unwrap_or (happens p) p → record s { mobiles = set s.mobiles k q } ≡ unwrap_or (by_mobile number happens s) s
carries_on number happens s p q k at found is =
    ap (λ (j : ℕ). record s { mobiles = set s.mobiles j q }) at ∙ ap (λ (m : Mobile). with_mobile_in number m s) is ∙ by_next (happens p)
    ∙ ap (λ (o : Option MobilesState). unwrap_or o s) (sym (by_found number happens s (Some p) here)) where
      here : mobile_in number s.mobiles ≡ Some p
      here = is_found number s (Some p) k at found

      by_next : (o : Option Mobile) → with_mobile_in number (unwrap_or o p) s ≡ unwrap_or (option_map (λ p. with_mobile_in number p s) o) s
      by_next None = same_back number s p here
      by_next (Some next) = refl

pub changed_none : (number : ℕ) (happens : Mobile → Option Mobile) (s : MobilesState) (k : ℕ) →
    k ≡ place_in number s.mobiles →
    slice_get s.mobiles k ≡ None →
    s ≡ unwrap_or (by_mobile number happens s) s
changed_none number happens s k at none = ap (λ (o : Option MobilesState). unwrap_or o s) (sym (by_found number happens s None (is_found number s None k at none)))

pub some_found : (number : ℕ) (happens : Mobile → Option Mobile) (s : MobilesState) (p : Mobile) (k : ℕ) → k ≡ place_in number s.mobiles → slice_get s.mobiles k ≡ Some p
    → IsSome (happens p) → IsSome (by_mobile number happens s)
some_found number happens s p k at found some =
    subst (λ (o : Option MobilesState). IsSome o) (sym (by_found number happens s (Some p) (is_found number s (Some p) k at found))) (by_next (happens p) some) where
      by_next : (o : Option Mobile) → IsSome o → IsSome (option_map (λ p. with_mobile_in number p s) o)
      by_next None some = some
      by_next (Some next) some = refl

-- ---- the same of a call that may run out of memory

pub sends_found : (r : Result Bool Memory) (number : ℕ) (happens : Mobile → Option Mobile) (s : MobilesState) (p q : Mobile) (k : ℕ) → k ≡ place_in number s.mobiles → slice_get s.mobiles k ≡ Some p
    → IfOk r (λ taken. Takes p (happens p) taken q) → IfOk r (λ taken. Takes s (by_mobile number happens s) taken (record s { mobiles = set s.mobiles k q }))
sends_found (Ok taken) number happens s p q k at found takes = takes_found number happens s p q taken k at found takes
sends_found (Err memory) number happens s p q k at found takes = tt

pub wants_found : {X : Type 0} (r : Result X Memory) (number : ℕ) (happens : Mobile → Option Mobile) (s : MobilesState) (p : Mobile) (k : ℕ) → k ≡ place_in number s.mobiles → slice_get s.mobiles k ≡ Some p
    → OnErr r (IsSome (happens p)) → OnErr r (IsSome (by_mobile number happens s))
wants_found (Ok x) number happens s p k at found wants = tt
wants_found (Err memory) number happens s p k at found wants = some_found number happens s p k at found wants

pub frames_found : {X : Type 0} (r : Result X Memory) (number : ℕ) (happens : Mobile → Option Mobile) (s : MobilesState) (p q : Mobile) (k : ℕ) → k ≡ place_in number s.mobiles → slice_get s.mobiles k ≡ Some p
    → OnOk r (q ≡ unwrap_or (happens p) p) → OnOk r (record s { mobiles = set s.mobiles k q } ≡ unwrap_or (by_mobile number happens s) s)
frames_found (Ok x) number happens s p q k at found is = carries_on number happens s p q k at found is
frames_found (Err memory) number happens s p q k at found is = tt

pub frame_wanted : {X : Type 0} (r : Result X Memory) (number : ℕ) (frame : Mobile → Option (List ℕ)) (s : MobilesState) (p : Mobile) (k : ℕ) → k ≡ place_in number s.mobiles → slice_get s.mobiles k ≡ Some p
    → OnErr r (IsSome (frame p)) → OnErr r (IsSome (option_and_then frame (mobile_in number s.mobiles)))
frame_wanted (Ok x) number frame s p k at found wants = tt
frame_wanted (Err memory) number frame s p k at found wants =
    subst (λ (o : Option Mobile). IsSome (option_and_then frame o)) (sym (is_found number s (Some p) k at found)) wants

pub is_there : (mobiles : List Mobile) (k : ℕ) (p : Mobile) → k < length mobiles → p ≡ get_or mobiles k p → slice_get mobiles k ≡ Some p
is_there mobiles k p within is = slice_get-get_or mobiles k p within ∙ ap (λ (q : Mobile). Some q) (sym is)
