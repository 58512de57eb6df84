-- SPDX-License-Identifier: MIT OR Apache-2.0
-- Which messages hand, relay and reject.
use Rattle.conn_rules.proofs.Prelude.{◌≡◌, ℕ, ◌||◌, Bool, true, false, ◌&&◌, List, [], ◌∷◌, ◌++◌, map, filter, refl, sym, ◌∙◌, leb}
use Rattle.conn_rules.proofs.Prelude.{if◌then◌else◌, true≢false, filter-append, AllByRecursion, Channel, Message, Station, handing}
use Rattle.conn_rules.proofs.Prelude.{cond_both, Sapi, Zero, Three, DataRequest, flat_map-append, Request, Data, link_on, is_of, is_dtap}
use Rattle.conn_rules.proofs.Prelude.{relayed_by, relayed, handed_by, handed, IsHandedTo, is_reject, rejects, without_rejected, FIRST_SDCCH}
use Rattle.bssmap_codec.specs.declared.bssap.Bssap.TheVariants.{Management, Transfer}
use Rattle.bssmap_codec.specs.declared.bssmap.Bssmap.TheVariants.{SapiNReject}

-- all of one list and of another
pub AllByRecursion-append : {A : Type 0} (P : A → Type 0) (xs ys : List A) →
    AllByRecursion P xs →
    AllByRecursion P ys →
    AllByRecursion P (xs ++ ys)
AllByRecursion-append P [] ys left right = right
AllByRecursion-append P (x ∷ xs) ys left right = (left.0, AllByRecursion-append P xs ys left.1 right)

pub AllByRecursion-filter : {A : Type 0} (P : A → Type 0) (test : A → Bool) (xs : List A) →
    AllByRecursion P xs →
    AllByRecursion P (filter test xs)
AllByRecursion-filter P test [] all = tt
AllByRecursion-filter P test (x ∷ xs) all =
    let rest = AllByRecursion-filter P test xs all.1 in
    cond_both (test x) (x ∷ filter test xs) (filter test xs) (AllByRecursion P) (λ _. (all.0, rest)) (λ _. rest)

pub AllByRecursion-so : {A : Type 0} (P Q : A → Type 0) → ((x : A) → P x → Q x) → (xs : List A) → AllByRecursion P xs → AllByRecursion Q xs
AllByRecursion-so P Q so [] all = tt
AllByRecursion-so P Q so (x ∷ xs) all = (so x all.0, AllByRecursion-so P Q so xs all.1)

-- ---- messages that hand and reject nothing

abbrev pub IsQuiet : Message → Type 0
IsQuiet (Station station (DataRequest request)) = is_dtap request.l3 ≡ false
IsQuiet (Data reference (Management (SapiNReject dlci cause))) = ⊥
IsQuiet _ = Unit {0}

abbrev pub AreQuiet : List Message → Type 0
AreQuiet outs = AllByRecursion IsQuiet outs

-- messages that hand and relay nothing
abbrev pub IsParting : Message → Type 0
IsParting (Station station (DataRequest request)) = is_dtap request.l3 ≡ false
IsParting (Data reference (Transfer dlci message)) = ⊥
IsParting (Request message) = ⊥
IsParting _ = Unit {0}

abbrev pub AreParting : List Message → Type 0
AreParting outs = AllByRecursion IsParting outs

-- no list where a part of a test fails
nothing_where : (of dtap : Bool) (list : List (List ℕ)) → dtap ≡ false → (if (of && dtap) then list else []) ≡ []
nothing_where true true list mute = absurd (true≢false mute)
nothing_where true false list mute = refl
nothing_where false dtap list mute = refl

handed_by-quiet : (sapi : Sapi) (m : Message) → IsQuiet m → handed_by sapi m ≡ []
handed_by-quiet sapi (Station station (DataRequest request)) quiet = nothing_where (is_of sapi request.link) (is_dtap request.l3) (request.l3 ∷ []) quiet
handed_by-quiet sapi _ quiet = refl

pub handed-quiet : (sapi : Sapi) (outs : List Message) → AreQuiet outs → handed sapi outs ≡ []
handed-quiet sapi [] quiet = refl
handed-quiet sapi (m ∷ ms) quiet = rw (handed_by-quiet sapi m quiet.0, handed-quiet sapi ms quiet.1) refl

handed_by-parting : (sapi : Sapi) (m : Message) → IsParting m → handed_by sapi m ≡ []
handed_by-parting sapi (Station station (DataRequest request)) parting = nothing_where (is_of sapi request.link) (is_dtap request.l3) (request.l3 ∷ []) parting
handed_by-parting sapi _ parting = refl

pub handed-parting : (sapi : Sapi) (outs : List Message) → AreParting outs → handed sapi outs ≡ []
handed-parting sapi [] parting = refl
handed-parting sapi (m ∷ ms) parting = rw (handed_by-parting sapi m parting.0, handed-parting sapi ms parting.1) refl

relayed_by-parting : (sapi : Sapi) (m : Message) → IsParting m → relayed_by sapi m ≡ []
relayed_by-parting sapi (Data reference (Transfer dlci message)) parting = absurd parting
relayed_by-parting sapi (Request message) parting = absurd parting
relayed_by-parting Zero _ parting = refl
relayed_by-parting Three _ parting = refl

pub relayed-parting : (sapi : Sapi) (outs : List Message) → AreParting outs → relayed sapi outs ≡ []
relayed-parting sapi [] parting = refl
relayed-parting sapi (m ∷ ms) parting = rw (relayed_by-parting sapi m parting.0, relayed-parting sapi ms parting.1) refl

-- such messages go anywhere
pub quiet_is_handed : (c : Channel) (m : Message) → IsQuiet m → IsHandedTo c m
quiet_is_handed c (Station station (DataRequest request)) quiet = λ dtap. absurd (true≢false (sym dtap ∙ quiet))
quiet_is_handed c _ quiet = tt

pub parting_is_handed : (c : Channel) (m : Message) → IsParting m → IsHandedTo c m
parting_is_handed c (Station station (DataRequest request)) parting = λ dtap. absurd (true≢false (sym dtap ∙ parting))
parting_is_handed c _ parting = tt

is_reject-quiet : (m : Message) → IsQuiet m → is_reject m ≡ false
is_reject-quiet (Data reference (Management (SapiNReject dlci cause))) quiet = absurd quiet
is_reject-quiet _ quiet = refl

pub rejects-quiet : (outs : List Message) → AreQuiet outs → rejects outs ≡ false
rejects-quiet [] quiet = refl
rejects-quiet (m ∷ ms) quiet = rw (is_reject-quiet m quiet.0, rejects-quiet ms quiet.1) refl

false_too : (a b c : Bool) → (a || b) ≡ false → (b ≡ false → c ≡ false) → (a || c) ≡ false
false_too true b c both so = absurd (true≢false both)
false_too false b c both so = so both

pub rejects-append : (xs ys : List Message) → rejects xs ≡ false → rejects ys ≡ false → rejects (xs ++ ys) ≡ false
rejects-append [] ys left right = right
rejects-append (m ∷ ms) ys left right = false_too (is_reject m) (rejects ms) (rejects (ms ++ ys)) left (λ rest. rejects-append ms ys rest right)

-- without a reject nothing is rejected
pub without_rejected-none : (sapi : Sapi) (outs : List Message) (list : List (List ℕ)) →
    rejects outs ≡ false →
    without_rejected sapi outs list ≡ list
without_rejected-none Zero outs list none = refl
without_rejected-none Three outs list none = rw none refl

-- ---- what is handed

-- the messages of one SAPI in a list of another
abbrev pub of_sapi : Sapi → Sapi → List (List ℕ) → List (List ℕ)
of_sapi Zero Zero list = list
of_sapi Three Three list = list
of_sapi sapi other list = []

is_short_link : (number : ℕ) → (is_of Three (link_on number Three) ≡ true) × (is_of Zero (link_on number Three) ≡ false)
is_short_link number = by (leb FIRST_SDCCH number)
  where
    by : (b : Bool) → (is_of Three (if b then 3 else 67) ≡ true) × (is_of Zero (if b then 3 else 67) ≡ false)
    by true = (refl, refl)
    by false = (refl, refl)

handed_by-handing : (c : Channel) (of sapi : Sapi) (message : List ℕ) →
    handed_by of (handing c sapi message) ≡ filter is_dtap (of_sapi of sapi (message ∷ []))
handed_by-handing c Zero Zero message = refl
handed_by-handing c Zero Three message = rw (is_short_link c.number).1 refl
handed_by-handing c Three Zero message = refl
handed_by-handing c Three Three message = rw (is_short_link c.number).0 refl

pub handed-handing : (c : Channel) (of sapi : Sapi) (messages : List (List ℕ)) →
    handed of (map (handing c sapi) messages) ≡ filter is_dtap (of_sapi of sapi messages)
handed-handing c Zero Zero (m ∷ ms) = rw (handed_by-handing c Zero Zero m, handed-handing c Zero Zero ms) (sym (filter-append is_dtap (m ∷ []) ms))
handed-handing c Three Three (m ∷ ms) = rw (handed_by-handing c Three Three m, handed-handing c Three Three ms) (sym (filter-append is_dtap (m ∷ []) ms))
handed-handing c Zero Three (m ∷ ms) = rw (handed_by-handing c Zero Three m, handed-handing c Zero Three ms) refl
handed-handing c Three Zero (m ∷ ms) = rw (handed_by-handing c Three Zero m, handed-handing c Three Zero ms) refl
handed-handing c _ _ _ = refl

pub handed-append : (sapi : Sapi) (xs ys : List Message) → handed sapi (xs ++ ys) ≡ handed sapi xs ++ handed sapi ys
handed-append sapi xs ys = flat_map-append (handed_by sapi) xs ys

pub handing_is_handed : (c : Channel) (sapi : Sapi) (messages : List (List ℕ)) →
    AllByRecursion (IsHandedTo c) (map (handing c sapi) messages)
handing_is_handed c sapi [] = tt
handing_is_handed c sapi (m ∷ ms) = (λ dtap. (refl, refl), handing_is_handed c sapi ms)

pub rejects-handing : (c : Channel) (sapi : Sapi) (messages : List (List ℕ)) → rejects (map (handing c sapi) messages) ≡ false
rejects-handing c sapi [] = refl
rejects-handing c sapi (m ∷ ms) = rejects-handing c sapi ms
