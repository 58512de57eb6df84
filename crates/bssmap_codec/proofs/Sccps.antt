-- SPDX-License-Identifier: MIT OR Apache-2.0
-- The reading of SCCP agrees with the grammar.
use Rattle.std.proofs.Common.{◌≡◌, ℕ, ◌<◌, Bool, true, false, cond, eqb, List, [], ◌∷◌, ◌++◌, length, drop, Option, Some, None, Ok, refl, sym, ap, subst, ◌∙◌, arith, inl, inr}
use Rattle.std.specs.List.{find}
use Rattle.std.specs.Option.{ok_or}
use Rattle.std.proofs.lemmas.Bool.{eqb-true}
use Rattle.octets.proofs.Grammar.{octets_drop}
use Rattle.octets.proofs.Steps.{bind_ok, ok_is, octet_ok, passed, result_map_ok}
use Rattle.octets.specs.Answer.{◌>>=◌, result_map}
use Rattle.octets.specs.Element.{AreOctets}
use Rattle.octets.specs.Front.{octet_at, counted_at}
use Rattle.bssmap_codec.specs.declared.fault.InterfaceFault.{InterfaceFault}
use Rattle.bssmap_codec.specs.declared.fault.InterfaceFault.TheVariants.{Short, UnknownType}
use Rattle.bssmap_codec.specs.declared.sccp.Sccp.{Sccp}
use Rattle.bssmap_codec.specs.declared.sccp.Sccp.TheVariants.{ConnectionRequest, ConnectionConfirm, ConnectionRefused, Released, ReleaseComplete, DataForm1}
use Rattle.bssmap_codec.specs.declared.sccp_parameters.TheConstants.{NO_PART, UNSEGMENTED}
use Rattle.bssmap_codec.specs.declared.sccp_type.SccpType.{SccpType}
use Rattle.bssmap_codec.specs.declared.sccp_type.SccpType.TheVariants as kinds
use Rattle.bssmap_codec.specs.declared.sccp_type.TheConstants.{SCCP_TYPES}
use Rattle.bssmap_codec.specs.Reference.{IsReference, reference_text, reference_at, references_at}
use Rattle.bssmap_codec.specs.Sccp.{Points, HasOptions, AreReferences, IsRequest, IsFixedPair, IsRefusal, IsData, IsContent, IsSccp}
use Rattle.bssmap_codec.specs.SccpReading.{part_at, user_data_at, request_at, fixed_references_at, refused_at, data_behind_at, data_form_at, content_at, sccp_reading}
use Rattle.bssmap_codec.specs.SccpType.{sccp_octet, sccp_type, type_of}
use Rattle.bssmap_codec.proofs.Fronts.{octets_behind, reference_again, reference_ok, references_again, references_ok, counted_again, counted_is, part_again, part_ok}
use Rattle.bssmap_codec.proofs.OptionsGrammar.{user_none, user_again, user_ok}

-- ---- a text is read

request_with : (source class address pointer : ℕ) (rest called number behind : List ℕ) (user : Option (List ℕ)) →
    IsReference source → part_at address (address ∷ pointer ∷ rest) ≡ Ok called →
    counted_at Short called ≡ Ok (number, behind)
    → user_data_at pointer (pointer ∷ rest) ≡ Ok user → request_at (reference_text source ++ class ∷ address ∷ pointer ∷ rest) ≡ Ok (ConnectionRequest source user)
unfolding request_at octet_at
request_with source class address pointer rest called number behind user h points counted carries =
    rw (reference_again source (class ∷ address ∷ pointer ∷ rest) h, points, counted, carries) refl

-- what a pointer that is the first octet leads to
points_again : (pointer : ℕ) (rest part : List ℕ) (p : Points (pointer ∷ rest) part) → part_at pointer (pointer ∷ rest) ≡ Ok part
points_again pointer rest part p =
    let first : pointer ≡ p.pointer = cc (p.is) in
    let forward : 0 < pointer = omega (arith, p.forward) in
    let within : pointer < length (pointer ∷ rest) = omega (arith, p.within) in
    part_again pointer (pointer ∷ rest) forward within
    ∙ ap (λ (n : ℕ). Ok (drop n (pointer ∷ rest))) first ∙ ap (λ (xs : List ℕ). Ok xs) p.leads

carried_again : (octets : List ℕ) (user : Option (List ℕ)) → HasOptions octets user →
    (pointer : ℕ) × (rest : List ℕ) × (octets ≡ pointer ∷ rest) × (user_data_at pointer (pointer ∷ rest) ≡ Ok user)
carried_again octets user (inl (none, is)) = (NO_PART, none.rest, none.is, user_none none.rest ∙ ap (λ (u : Option (List ℕ)). Ok u) (sym is))
carried_again octets user (inr p) =
    (p.points.pointer, p.points.rest, p.points.is, ap (user_data_at p.points.pointer) (sym p.points.is) ∙ user_again octets user p)

request_again : (octets : List ℕ) (source : ℕ) (user : Option (List ℕ)) → IsRequest octets source user →
    request_at octets ≡ Ok (ConnectionRequest source user)
request_again octets source user r =
    let o = carried_again r.options user r.carries in
    let is : octets ≡ reference_text source ++ r.class ∷ r.address ∷ o.0 ∷ o.1 =
    r.is ∙ ap (λ (xs : List ℕ). reference_text source ++ r.class ∷ r.address ∷ xs) o.2 in
    let points : Points (r.address ∷ o.0 ∷ o.1) r.called = subst (λ (xs : List ℕ). Points (r.address ∷ xs) r.called) o.2 r.points in
    ap request_at is
    ∙ request_with source r.class r.address o.0 o.1 r.called r.number r.counted.more user r.reference (points_again r.address (o.0 ∷ o.1) r.called points) (counted_again r.called r.number r.counted) o.3

fixed_again : (octets : List ℕ) (destination source : ℕ) → IsFixedPair octets destination source →
    fixed_references_at octets ≡ Ok (destination, source)
unfolding fixed_references_at octet_at
fixed_again octets destination source r = rw (references_again octets destination source (r.class ∷ r.pointer ∷ r.more) r.are) refl

refused_again : (octets : List ℕ) (destination : ℕ) → IsRefusal octets destination → refused_at octets ≡ Ok (ConnectionRefused destination)
unfolding refused_at octet_at
refused_again octets destination r =
    ap refused_at r.is ∙ rw (reference_again destination (r.cause ∷ r.pointer ∷ r.more) r.to) refl

data_with : (destination pointer : ℕ) (rest part user behind : List ℕ) → IsReference destination →
    part_at pointer (pointer ∷ rest) ≡ Ok part → counted_at Short part ≡ Ok (user, behind)
    → data_form_at (reference_text destination ++ UNSEGMENTED ∷ pointer ∷ rest) ≡ Ok (DataForm1 destination user)
unfolding data_form_at data_behind_at octet_at
data_with destination pointer rest part user behind h points counted =
    rw (reference_again destination (UNSEGMENTED ∷ pointer ∷ rest) h, points, counted) refl

data_again : (octets : List ℕ) (destination : ℕ) (user : List ℕ) → IsData octets destination user →
    data_form_at octets ≡ Ok (DataForm1 destination user)
data_again octets destination user r =
    let p = r.points in
    let is : octets ≡ reference_text destination ++ UNSEGMENTED ∷ p.pointer ∷ p.rest =
    r.is ∙ ap (λ (xs : List ℕ). reference_text destination ++ UNSEGMENTED ∷ xs) p.is in
    let points : Points (p.pointer ∷ p.rest) r.part = subst (λ (xs : List ℕ). Points xs r.part) p.is p in
    ap data_form_at is ∙ data_with destination p.pointer p.rest r.part user r.counted.more r.to (points_again p.pointer p.rest r.part points) (counted_again r.part user r.counted)

content_again : (octets : List ℕ) (message : Sccp) → IsContent octets message → content_at (type_of message) octets ≡ Ok message
content_again octets (ConnectionRequest source user) is = request_again octets source user is
content_again octets (ConnectionConfirm destination source) is = ap (result_map (λ p. ConnectionConfirm p.0 p.1)) (fixed_again octets destination source is)
content_again octets (ConnectionRefused destination) is = refused_again octets destination is
content_again octets (Released destination source) is = ap (result_map (λ p. Released p.0 p.1)) (fixed_again octets destination source is)
content_again octets (ReleaseComplete destination source) is =
    ap (result_map (λ p. ReleaseComplete p.0 p.1)) (references_again octets destination source is.more is.are)
content_again octets (DataForm1 destination user) is = data_again octets destination user is

type_again : (kind : SccpType) → sccp_type (sccp_octet kind) ≡ Some kind
unfolding sccp_type
type_again kinds.ConnectionRequest = refl
type_again kinds.ConnectionConfirm = refl
type_again kinds.ConnectionRefused = refl
type_again kinds.Released = refl
type_again kinds.ReleaseComplete = refl
type_again kinds.DataForm1 = refl

pub sccp_again : (octets : List ℕ) (message : Sccp) → IsSccp octets message → sccp_reading octets ≡ Ok message
unfolding sccp_reading octet_at
sccp_again octets message s =
    ap sccp_reading s.is ∙ ap (λ kind. ok_or kind UnknownType >>= (λ k. content_at k s.rest)) (type_again (type_of message)) ∙ content_again s.rest message s.content

-- ---- what is read is a text

-- what the content of a type is read as
record IsOf (kind : SccpType) (octets : List ℕ) (message : Sccp) : Type 0 where
  pub kind_is : kind ≡ type_of message
  pub content : IsContent octets message

request_ok : (octets : List ℕ) (message : Sccp) → AreOctets octets → request_at octets ≡ Ok message →
    IsOf kinds.ConnectionRequest octets message
unfolding request_at
request_ok octets message fits e =
    let a = bind_ok (reference_at octets) _ message e in
    let b = bind_ok (octet_at Short a.0.1) _ message a.2 in
    let c = bind_ok (octet_at Short b.0.1) _ message b.2 in
    let d = bind_ok (octet_at Short c.0.1) _ message c.2 in
    let f = bind_ok (part_at c.0.0 b.0.1) _ message d.2 in
    let g = bind_ok (counted_at Short f.0) _ message f.2 in
    let h = bind_ok (user_data_at d.0.0 c.0.1) _ message g.2 in
    let ra = reference_ok octets a.0 fits a.1 in
    let ib = octet_ok Short a.0.1 b.0 b.1 in
    let ic = octet_ok Short b.0.1 c.0 c.1 in
    let id = octet_ok Short c.0.1 d.0 d.1 in
    let fb = octets_behind b.0.0 b.0.1 a.0.1 ib ra.octets_rest in
    let fc = octets_behind c.0.0 c.0.1 b.0.1 ic fb in
    let points : Points (c.0.0 ∷ c.0.1) f.0 = part_ok c.0.0 c.0.1 f.0 (ap (part_at c.0.0) (sym ic) ∙ f.1) in
    let ff : AreOctets f.0 = subst AreOctets points.leads (octets_drop points.pointer (c.0.0 ∷ c.0.1) (subst AreOctets ic fb)) in
    let number = counted_is f.0 g.0 ff g.1 in
    let has : HasOptions c.0.1 h.0 =
    subst (λ (xs : List ℕ). HasOptions xs h.0) (sym id) (user_ok d.0.0 d.0.1 h.0 (subst AreOctets id fc) (ap (user_data_at d.0.0) (sym id) ∙ h.1)) in
    let is : octets ≡ reference_text a.0.0 ++ b.0.0 ∷ c.0.0 ∷ c.0.1 =
    ra.is ∙ ap (λ (xs : List ℕ). reference_text a.0.0 ++ xs) ib ∙ ap (λ (xs : List ℕ). reference_text a.0.0 ++ b.0.0 ∷ xs) ic in
    subst (IsOf kinds.ConnectionRequest octets) (ok_is {A = Sccp} {F = InterfaceFault} (ConnectionRequest a.0.0 h.0) message h.2) (record {
      kind_is = refl;
      content = record {
        class = b.0.0;
        address = c.0.0;
        options = c.0.1;
        is = is;
        reference = ra.fits;
        called = f.0;
        points = points;
        number = g.0.0;
        counted = record { more = g.0.1; is = number.0; short = number.1 };
        carries = has;
      };
    })

fixed_ok : (octets : List ℕ) (p : ℕ × ℕ) → AreOctets octets → fixed_references_at octets ≡ Ok p → IsFixedPair octets p.0 p.1
unfolding fixed_references_at
fixed_ok octets p fits e =
    let a = bind_ok (references_at octets) _ p e in
    let b = bind_ok (octet_at Short a.0.2) _ p a.2 in
    let c = bind_ok (octet_at Short b.0.1) _ p b.2 in
    let ra = references_ok octets a.0 fits a.1 in
    let ib = octet_ok Short a.0.2 b.0 b.1 in
    let ic = octet_ok Short b.0.1 c.0 c.1 in
    let more : a.0.2 ≡ b.0.0 ∷ c.0.0 ∷ c.0.1 = ib ∙ ap (λ (xs : List ℕ). b.0.0 ∷ xs) ic in
    subst (λ (q : ℕ × ℕ). IsFixedPair octets q.0 q.1) (ok_is {A = ℕ × ℕ} {F = InterfaceFault} (a.0.0, a.0.1) p c.2) (record {
      class = b.0.0;
      pointer = c.0.0;
      more = c.0.1;
      are = subst (λ (xs : List ℕ). AreReferences octets a.0.0 a.0.1 xs) more ra.are;
    })

refused_ok : (octets : List ℕ) (message : Sccp) → AreOctets octets → refused_at octets ≡ Ok message →
    IsOf kinds.ConnectionRefused octets message
unfolding refused_at
refused_ok octets message fits e =
    let a = bind_ok (reference_at octets) _ message e in
    let b = bind_ok (octet_at Short a.0.1) _ message a.2 in
    let c = bind_ok (octet_at Short b.0.1) _ message b.2 in
    let ra = reference_ok octets a.0 fits a.1 in
    let ib = octet_ok Short a.0.1 b.0 b.1 in
    let ic = octet_ok Short b.0.1 c.0 c.1 in
    subst (IsOf kinds.ConnectionRefused octets) (ok_is {A = Sccp} {F = InterfaceFault} (ConnectionRefused a.0.0) message c.2) (record {
      kind_is = refl;
      content = record {
        cause = b.0.0;
        pointer = c.0.0;
        more = c.0.1;
        is = ra.is ∙ ap (λ (xs : List ℕ). reference_text a.0.0 ++ xs) ib ∙ ap (λ (xs : List ℕ). reference_text a.0.0 ++ b.0.0 ∷ xs) ic;
        to = ra.fits;
      };
    })

data_ok : (octets : List ℕ) (message : Sccp) → AreOctets octets → data_form_at octets ≡ Ok message → IsOf kinds.DataForm1 octets message
unfolding data_form_at data_behind_at
data_ok octets message fits e =
    let a = bind_ok (reference_at octets) _ message e in
    let b = bind_ok (octet_at Short a.0.1) _ message a.2 in
    let c = bind_ok (octet_at Short b.0.1) _ message b.2 in
    let d = bind_ok (data_behind_at b.0.0 b.0.1 c.0.0) _ message c.2 in
    let s = passed (eqb b.0.0 UNSEGMENTED) UnknownType (part_at c.0.0 b.0.1 >>= counted_at Short) d.0 d.1 in
    let first : b.0.0 ≡ UNSEGMENTED = eqb-true b.0.0 UNSEGMENTED s.0 in
    let f = bind_ok (part_at c.0.0 b.0.1) (counted_at Short) d.0 s.1 in
    let ra = reference_ok octets a.0 fits a.1 in
    let ib = octet_ok Short a.0.1 b.0 b.1 in
    let ic = octet_ok Short b.0.1 c.0 c.1 in
    let fb = octets_behind b.0.0 b.0.1 a.0.1 ib ra.octets_rest in
    let points : Points (c.0.0 ∷ c.0.1) f.0 = part_ok c.0.0 c.0.1 f.0 (ap (part_at c.0.0) (sym ic) ∙ f.1) in
    let ff : AreOctets f.0 = subst AreOctets points.leads (octets_drop points.pointer (c.0.0 ∷ c.0.1) (subst AreOctets ic fb)) in
    let number = counted_is f.0 d.0 ff f.2 in
    subst (IsOf kinds.DataForm1 octets) (ok_is {A = Sccp} {F = InterfaceFault} (DataForm1 a.0.0 d.0.0) message d.2) (record {
      kind_is = refl;
      content = record {
        rest = c.0.0 ∷ c.0.1;
        is = ra.is ∙ ap (λ (xs : List ℕ). reference_text a.0.0 ++ xs) (ib ∙ ap (λ (n : ℕ). n ∷ b.0.1) first ∙ ap (λ (xs : List ℕ). UNSEGMENTED ∷ xs) ic);
        to = ra.fits;
        part = f.0;
        points = points;
        counted = record { more = d.0.1; is = number.0; short = number.1 };
      };
    })

content_ok : (kind : SccpType) (octets : List ℕ) (message : Sccp) → AreOctets octets →
    content_at kind octets ≡ Ok message → IsOf kind octets message
content_ok kinds.ConnectionRequest octets message fits e = request_ok octets message fits e
content_ok kinds.ConnectionConfirm octets message fits e =
    let a = result_map_ok (λ p. ConnectionConfirm p.0 p.1) (fixed_references_at octets) message e in
    subst (IsOf kinds.ConnectionConfirm octets) a.2 (record { kind_is = refl; content = fixed_ok octets a.0 fits a.1 })
content_ok kinds.ConnectionRefused octets message fits e = refused_ok octets message fits e
content_ok kinds.Released octets message fits e =
    let a = result_map_ok (λ p. Released p.0 p.1) (fixed_references_at octets) message e in
    subst (IsOf kinds.Released octets) a.2 (record { kind_is = refl; content = fixed_ok octets a.0 fits a.1 })
content_ok kinds.ReleaseComplete octets message fits e =
    let a = result_map_ok (λ p. ReleaseComplete p.0 p.1) (references_at octets) message e in
    subst (IsOf kinds.ReleaseComplete octets) a.2 (record { kind_is = refl; content = record { more = a.0.2; are = (references_ok octets a.0 fits a.1).are } })
content_ok kinds.DataForm1 octets message fits e = data_ok octets message fits e

found_by : {K : Type 0} (p : K → Bool) (x : K) (b : Bool) (kinds : List K) (k : K) → p x ≡ b →
    cond b (Some x) (find p kinds) ≡ Some k → (find p kinds ≡ Some k → p k ≡ true) → p k ≡ true
found_by {K} p x true kinds k is e on = let same : x ≡ k = cc in subst (λ (y : K). p y ≡ true) same is
found_by p x false kinds k is e on = on e

-- a type that is found has the octet
pub found_is : {K : Type 0} (p : K → Bool) (kinds : List K) (k : K) → find p kinds ≡ Some k → p k ≡ true
found_is p [] k e = absurd cc
found_is {K} p (x ∷ kinds) k e = found_by {K = K} p x (p x) kinds k refl e (found_is p kinds k)

-- a step that wants a value to be there
pub ok_or_ok : {A : Type 0} (found : Option A) (fault : InterfaceFault) (x : A) → ok_or found fault ≡ Ok x → found ≡ Some x
ok_or_ok None fault x e = absurd cc
ok_or_ok {A} (Some y) fault x e = ap (λ (z : A). Some z) (ok_is {A = A} {F = InterfaceFault} y x e)

pub octet_is : (octet : ℕ) (kind : SccpType) → sccp_type octet ≡ Some kind → octet ≡ sccp_octet kind
unfolding sccp_type
octet_is octet kind e = sym (eqb-true (sccp_octet kind) octet (found_is (λ k. eqb (sccp_octet k) octet) SCCP_TYPES kind e))

pub sccp_ok : (octets : List ℕ) (message : Sccp) → AreOctets octets → sccp_reading octets ≡ Ok message → IsSccp octets message
unfolding sccp_reading
sccp_ok octets message fits e =
    let a = bind_ok (octet_at Short octets) _ message e in
    let b = bind_ok (ok_or (sccp_type a.0.0) UnknownType) _ message a.2 in
    let is = octet_ok Short octets a.0 a.1 in
    let of = content_ok b.0 a.0.1 message (octets_behind a.0.0 a.0.1 octets is fits) b.2 in
    record {
      rest = a.0.1;
      is = is ∙ ap (λ (n : ℕ). n ∷ a.0.1) (octet_is a.0.0 b.0 (ok_or_ok (sccp_type a.0.0) UnknownType b.0 b.1) ∙ ap sccp_octet of.kind_is);
      content = of.content;
    }

-- ---- octets that are read as DT1 begin with its type

pub is_form_type : (octet : ℕ) → octet ≡ sccp_octet kinds.DataForm1 → sccp_type octet ≡ Some kinds.DataForm1
is_form_type octet e = ap sccp_type e ∙ type_again kinds.DataForm1

pub form_first : (octets : List ℕ) (destination : ℕ) (user : List ℕ) (first : ℕ) (rest : List ℕ) → AreOctets octets → octets ≡ first ∷ rest
    → sccp_reading octets ≡ Ok (DataForm1 destination user) → sccp_type first ≡ Some kinds.DataForm1
form_first octets destination user first rest fits is e =
    let s = sccp_ok octets (DataForm1 destination user) fits e in
    let begins : octets ≡ sccp_octet kinds.DataForm1 ∷ s.rest = s.is in
    let same : first ≡ sccp_octet kinds.DataForm1 = cc (is, begins) in
    is_form_type first same
