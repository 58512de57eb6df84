-- SPDX-License-Identifier: MIT OR Apache-2.0
-- If octets are read as a MEASUREMENT RESULT with its elements in written order, each step of
-- `measured_values` finds its element.
use Rattle.std.proofs.Common.{◌≡◌, ℕ, ◌/◌, ◌%◌, ◌≤◌, Bool, true, false, cond, ◌&&◌, eqb, List, [], ◌∷◌, ◌++◌, length, get_or, map, Option, Some, None, Ok, refl, sym, ap, subst, ◌∙◌, append_assoc, inl, inr, arith}
use Rattle.std.proofs.lemmas.Bool.{eqb-true}
use Rattle.std.specs.List.{find}
use Rattle.octets.proofs.Steps.{bind_ok, guard, result_map_ok}
use Rattle.octets.specs.declared.element.Format.{Format}
use Rattle.octets.specs.declared.element.Format.TheVariants.{Tv, Tlv, TlvE}
use Rattle.octets.specs.Element.{AreElements, AreOctets, Element, HasSize, Stops, element, format_in, length_octets}
use Rattle.octets.specs.Walk.{finding, walk}
use Rattle.rsl_codec.specs.declared.fault.RslFault.{RslFault}
use Rattle.rsl_codec.specs.declared.fault.RslFault.TheVariants as faults
use Rattle.rsl_codec.specs.declared.dedicated_channel.MeasurementResult.{MeasurementResult}
use Rattle.rsl_codec.specs.declared.identifiers.TheConstants.{ELEMENTS}
use Rattle.rsl_codec.specs.declared.rsl.Rsl.{Rsl}
use Rattle.rsl_codec.specs.declared.rsl.Rsl.TheVariants as messages
use Rattle.rsl_codec.specs.declared.rsl_type.RslType.{RslType}
use Rattle.rsl_codec.specs.declared.rsl_type.RslType.TheVariants as types
use Rattle.rsl_codec.specs.declared.rsl_type.TheConstants.{RSL_TYPES}
use Rattle.rsl_codec.specs.ChannelNumber.{channel_by}
use Rattle.rsl_codec.specs.Fields.{number_value}
use Rattle.rsl_codec.specs.RslReading.{breaks_off, elements_of, measurement_result_at, message_at, optional_l3_at, rsl_reading, rsl_reading_by}
use Rattle.rsl_codec.specs.RslType.{rsl_type, rsl_discriminator, rsl_octet}
use Rattle.rsl_codec.specs.WrittenOrder.{AreInOrder, IsInOrder, l3_elements, measured_elements}
use Rattle.rsl_codec.proofs.Messages.{read_is_text, whole_elements}
use Rattle.rsl_codec.proofs.Steps.{optional_l3_ok}
use Rattle.rsl_codec.proofs.WrittenOrder.{are_these, reads_in_order}

-- ---- the element at the front

-- it has this identifier, and these identifiers are behind it
record Front (octets : List ℕ) (id : ℕ) (format : Format) (ids : List ℕ) : Type 0 where
  value : List ℕ
  rest : List ℕ
  size : HasSize format (length value)
  text : octets ≡ id ∷ (length_octets format (length value) ++ (value ++ rest))
  behind : List Element
  are : AreElements ELEMENTS rest behind false
  ids_are : map (λ e. e.id) behind ≡ ids

same_id : (a b : ℕ) (xs ys : List ℕ) → a ∷ xs ≡ b ∷ ys → a ≡ b
same_id a b xs ys h = cc

same_ids : (a b : ℕ) (xs ys : List ℕ) → a ∷ xs ≡ b ∷ ys → xs ≡ ys
same_ids a b xs ys h = cc

some_format : (a b : Format) → (let x : Option Format = Some a in x) ≡ Some b → a ≡ b
some_format a b e = cc

front : (octets : List ℕ) (es : List Element) (id : ℕ) (format : Format) (ids : List ℕ) → format_in ELEMENTS id ≡ Some format →
    AreElements ELEMENTS octets es false → map (λ e. e.id) es ≡ id ∷ ids → Front octets id format ids
front octets [] id format ids known are same = absurd cc
front octets (e ∷ es) id format ids known are same =
    let is = are.2 in
    let rest = are.1 in
    let n = length e.value in
    let id_is : e.id ≡ id = same_id _ _ (map (λ e. e.id) es) ids same in
    let format_is : is.format ≡ format = some_format is.format format (sym is.known ∙ ap (format_in ELEMENTS) id_is ∙ known) in
    record {
      value = e.value;
      rest = rest;
      size = subst (λ (f : Format). HasSize f n) format_is is.size;
      text =
          are.3 ∙ ap (λ (t : List ℕ). t ++ rest) is.text ∙ ap (λ (t : List ℕ). e.id ∷ t) (append_assoc (length_octets is.format n) e.value rest)
          ∙ ap (λ (x : ℕ). x ∷ (length_octets is.format n ++ (e.value ++ rest))) id_is
          ∙ ap (λ (f : Format). id ∷ (length_octets f n ++ (e.value ++ rest))) format_is;
      behind = es;
      are = are.4;
      ids_are = same_ids e.id id (map (λ e. e.id) es) ids same;
    }

-- ---- values of one octet and of two

record One (octets : List ℕ) (id : ℕ) (rest : List ℕ) : Type 0 where
  value : ℕ
  text : octets ≡ id ∷ (value ∷ rest)

one : (octets : List ℕ) (id : ℕ) (value rest : List ℕ) → length value ≡ 1 → octets ≡ id ∷ (value ++ rest) → One octets id rest
one octets id [] rest long text = absurd (omega arith)
one octets id (a ∷ []) rest long text = record { value = a; text = text }
one octets id (a ∷ b ∷ value) rest long text = absurd (omega arith)

record Two (octets : List ℕ) (id : ℕ) (rest : List ℕ) : Type 0 where
  high : ℕ
  low : ℕ
  text : octets ≡ id ∷ (high ∷ (low ∷ rest))

two : (octets : List ℕ) (id : ℕ) (value rest : List ℕ) → length value ≡ 2 → octets ≡ id ∷ (value ++ rest) → Two octets id rest
two octets id [] rest long text = absurd (omega arith)
two octets id (a ∷ []) rest long text = absurd (omega arith)
two octets id (a ∷ b ∷ []) rest long text = record { high = a; low = b; text = text }
two octets id (a ∷ b ∷ c ∷ value) rest long text = absurd (omega arith)

-- ---- L3 information alone, or nothing

record Last (octets : List ℕ) : Type 0 where
  pub l3 : Option (List ℕ)
  pub are : AreElements ELEMENTS octets (l3_elements l3) false

last_none : (octets : List ℕ) (es : List Element) → AreElements ELEMENTS octets es false → map (λ e. e.id) es ≡ [] → Last octets
last_none octets [] are same = record { l3 = None; are = are }
last_none octets (e ∷ es) are same = absurd cc

one_more : (octets : List ℕ) (e : Element) → e.id ≡ 0x0b → AreElements ELEMENTS octets (e ∷ []) false → Last octets
one_more octets e is are =
    let this : e ≡ element 0x0b e.value = ap (λ (id : ℕ). element id e.value) is in
    record { l3 = Some e.value; are = subst (λ (x : Element). AreElements ELEMENTS octets (x ∷ []) false) this are }

last_one : (octets : List ℕ) (es : List Element) → AreElements ELEMENTS octets es false → map (λ e. e.id) es ≡ 0x0b ∷ [] → Last octets
last_one octets [] are same = absurd cc
last_one octets (e ∷ []) are same = one_more octets e (same_id e.id 0x0b [] [] same) are
last_one octets (e ∷ f ∷ es) are same = absurd cc

-- ---- the whole body

-- its octets, where its elements have these identifiers, and those of L3 information behind them
pub record InThisOrder (body : List ℕ) : Type 0 where
  pub channel : ℕ
  pub number : ℕ
  pub uplink : List ℕ
  pub power : ℕ
  pub high : ℕ
  pub low : ℕ
  pub first : List ℕ
  pub second : List ℕ
  pub third : List ℕ
  pub fourth : List ℕ
  pub fifth : List ℕ
  pub channel_is : body ≡ 0x01 ∷ (channel ∷ first)
  pub number_is : first ≡ 0x1b ∷ (number ∷ second)
  pub uplink_is : second ≡ 0x19 ∷ (length uplink ∷ (uplink ++ third))
  pub power_is : third ≡ 0x04 ∷ (power ∷ fourth)
  pub l1_is : fourth ≡ 0x0a ∷ (high ∷ (low ∷ fifth))
  pub l3 : Option (List ℕ)
  pub last : AreElements ELEMENTS fifth (l3_elements l3) false

in_order_by : (body : List ℕ) (es : List Element) (ids : List ℕ) → AreElements ELEMENTS body es false →
    map (λ e. e.id) es ≡ 0x01 ∷ 0x1b ∷ 0x19 ∷ 0x04 ∷ 0x0a ∷ ids →
    ((octets : List ℕ) (last : List Element) → AreElements ELEMENTS octets last false → map (λ e. e.id) last ≡ ids → Last octets) →
    InThisOrder body
in_order_by body es ids are same ends =
    let a = front body es 0x01 (Tv 1) (0x1b ∷ 0x19 ∷ 0x04 ∷ 0x0a ∷ ids) refl are same in
    let b = front a.rest a.behind 0x1b (Tv 1) (0x19 ∷ 0x04 ∷ 0x0a ∷ ids) refl a.are a.ids_are in
    let c = front b.rest b.behind 0x19 Tlv (0x04 ∷ 0x0a ∷ ids) refl b.are b.ids_are in
    let d = front c.rest c.behind 0x04 (Tv 1) (0x0a ∷ ids) refl c.are c.ids_are in
    let e = front d.rest d.behind 0x0a (Tv 2) ids refl d.are d.ids_are in
    let channel = one body 0x01 a.value a.rest a.size a.text in
    let number = one a.rest 0x1b b.value b.rest b.size b.text in
    let power = one c.rest 0x04 d.value d.rest d.size d.text in
    let l1 = two d.rest 0x0a e.value e.rest e.size e.text in
    let last = ends e.rest e.behind e.are e.ids_are in
    record {
      channel = channel.value;
      number = number.value;
      uplink = c.value;
      power = power.value;
      high = l1.high;
      low = l1.low;
      first = a.rest;
      second = b.rest;
      third = c.rest;
      fourth = d.rest;
      fifth = e.rest;
      channel_is = channel.text;
      number_is = number.text;
      uplink_is = c.text;
      power_is = power.text;
      l1_is = l1.text;
      l3 = last.l3;
      last = last.are;
    }

pub in_this_order : (body : List ℕ) →
    AreOctets body →
    AreInOrder (map (λ e. e.id) (elements_of body)) →
    breaks_off body ≡ false →
    InThisOrder body
in_this_order body fits order whole =
    let are = whole_elements body fits whole in
    elim order [
      | inl ids ↦ in_order_by body (elements_of body) [] are ids last_none
      | inr ids ↦ in_order_by body (elements_of body) (0x0b ∷ []) are ids last_one
    ]

-- ---- what is behind an element is one alone

pub behind_one : (octets : List ℕ) (id a b : ℕ) (xs ys : List ℕ) → octets ≡ id ∷ (a ∷ xs) → octets ≡ id ∷ (b ∷ ys) → xs ≡ ys
behind_one octets id a b xs ys h k = cc

pub behind_two : (octets : List ℕ) (id n a b : ℕ) (xs ys : List ℕ) →
    octets ≡ id ∷ (n / 256 ∷ n % 256 ∷ xs) →
    octets ≡ id ∷ (a ∷ (b ∷ ys)) →
    xs ≡ ys
behind_two octets id n a b xs ys h k = cc

same_rest : (v w xs ys : List ℕ) → length v ≡ length w → v ++ xs ≡ w ++ ys → xs ≡ ys
same_rest [] [] xs ys long e = e
same_rest [] (b ∷ w) xs ys long e = absurd (omega arith)
same_rest (a ∷ v) [] xs ys long e = absurd (omega arith)
same_rest (a ∷ v) (b ∷ w) xs ys long e = same_rest v w xs ys (omega arith) (same_ids a b (v ++ xs) (w ++ ys) e)

same_counted : (a b n m : ℕ) (xs ys : List ℕ) → a ∷ (n ∷ xs) ≡ b ∷ (m ∷ ys) → (n ≡ m) × (xs ≡ ys)
same_counted a b n m xs ys h = (cc, cc)

pub behind_counted : (octets : List ℕ) (id : ℕ) (v w xs ys : List ℕ) → octets ≡ id ∷ (length v ∷ (v ++ xs)) →
    octets ≡ id ∷ (length w ∷ (w ++ ys)) → xs ≡ ys
behind_counted octets id v w xs ys h k =
    let is = same_counted id id (length v) (length w) (v ++ xs) (w ++ ys) (sym h ∙ k) in
    same_rest v w xs ys is.0 is.1

-- ---- L3 information that is found, and none

same_long : (a b n m : ℕ) (xs ys : List ℕ) → a ∷ (n / 256 ∷ n % 256 ∷ xs) ≡ b ∷ (m / 256 ∷ m % 256 ∷ ys) →
    (n / 256 ≡ m / 256) × (n % 256 ≡ m % 256) × (xs ≡ ys)
same_long a b n m xs ys h = (cc, cc, cc)

behind_long : (octets : List ℕ) (id : ℕ) (v w xs ys : List ℕ) → octets ≡ id ∷ (number_value (length v) ++ (v ++ xs)) →
    octets ≡ id ∷ (number_value (length w) ++ (w ++ ys)) → xs ≡ ys
behind_long octets id v w xs ys h k =
    let is = same_long id id (length v) (length w) (v ++ xs) (w ++ ys) (sym h ∙ k) in
    same_rest v w xs ys (omega (arith, is.0, is.1)) is.2

stops_behind : (octets : List ℕ) (es : List Element) →
    AreElements ELEMENTS octets es false →
    map (λ e. e.id) es ≡ [] →
    Stops ELEMENTS octets
stops_behind octets [] are same = are
stops_behind octets (e ∷ es) are same = absurd cc

begins : (octets rest : List ℕ) → octets ≡ 0x0b ∷ rest → Stops ELEMENTS octets → false ≡ true
begins [] rest is stops = absurd cc
begins (a ∷ octets) rest is stops =
    let known : format_in ELEMENTS a ≡ Some TlvE = ap (format_in ELEMENTS) (same_id a 0x0b octets rest is) in
    let no : (let x : Option Format = Some TlvE in x) ≡ None = sym known ∙ stops in
    absurd cc

-- behind L3 information no element begins
pub stops_after : (octets l3 rest : List ℕ) → octets ≡ 0x0b ∷ (number_value (length l3) ++ (l3 ++ rest)) → (o : Option (List ℕ)) →
    AreElements ELEMENTS octets (l3_elements o) false → (Stops ELEMENTS rest → false ≡ true) → false ≡ true
stops_after octets l3 rest is None are stops = begins octets _ is are
stops_after octets l3 rest is (Some v) are stops =
    let f = front octets (l3_elements (Some v)) 0x0b TlvE [] refl are refl in
    let same : f.rest ≡ rest = behind_long octets 0x0b f.value l3 f.rest rest f.text is in
    stops (subst (Stops ELEMENTS) same (stops_behind f.rest f.behind f.are f.ids_are))

-- there is L3 information, or no element begins
pub begins_or_stops : (octets : List ℕ) →
    ((value rest : List ℕ) → octets ≡ 0x0b ∷ (number_value (length value) ++ (value ++ rest)) → false ≡ true) → (o : Option (List ℕ)) →
    AreElements ELEMENTS octets (l3_elements o) false → (Stops ELEMENTS octets → false ≡ true) → false ≡ true
begins_or_stops octets none None are stops = stops are
begins_or_stops octets none (Some v) are stops =
    let f = front octets (l3_elements (Some v)) 0x0b TlvE [] refl are refl in
    none f.value f.rest f.text

-- ---- the type

found_by : {X : Type 0} (p : X → Bool) (y x : X) (behind : Option X) (b : Bool) → p y ≡ b → (behind ≡ Some x → p x ≡ true) →
    cond b (Some y) behind ≡ Some x → p x ≡ true
found_by p y x behind true is later e = let same : y ≡ x = cc in subst (λ z. p z ≡ true) same is
found_by p y x behind false is later e = later e

found_passes : {X : Type 0} (p : X → Bool) (xs : List X) (x : X) → find p xs ≡ Some x → p x ≡ true
found_passes p [] x e = absurd cc
found_passes p (y ∷ ys) x e = found_by p y x (find p ys) (p y) refl (found_passes p ys x) e

both : (a b : Bool) → (a && b) ≡ true → (a ≡ true) × (b ≡ true)
both true b e = (refl, e)
both false b e = absurd cc

pub octets_are : (discriminator octet : ℕ) → rsl_type discriminator octet ≡ Some types.MeasurementResult →
    (discriminator / 2 ≡ 4) × (octet ≡ 0x28)
unfolding rsl_type
octets_are discriminator octet e =
    let passes = found_passes (λ (kind : RslType). eqb (rsl_discriminator kind / 2) (discriminator / 2) && eqb (rsl_octet kind) octet) RSL_TYPES types.MeasurementResult e in
    let is = both (eqb 4 (discriminator / 2)) (eqb 0x28 octet) passes in
    (sym (eqb-true 4 (discriminator / 2) is.0), sym (eqb-true 0x28 octet is.1))

-- octets that are read as one begin with it
pub record Begins (octets : List ℕ) : Type 0 where
  pub long : 2 ≤ length octets
  pub names : rsl_type (get_or octets 0 0) (get_or octets 1 0) ≡ Some types.MeasurementResult

pub begins_so : (octets body : List ℕ) → AreOctets octets → IsInOrder (rsl_reading octets) body → Begins octets
begins_so octets body fits is =
    let text = read_is_text octets (messages.MeasurementResult is.message) fits is.reads in
    record {
      long = omega (arith, ap length text.is);
      names = ap (λ (xs : List ℕ). rsl_type (get_or xs 0 0) (get_or xs 1 0)) text.is ∙ text.names;
    }

-- ---- the values

ids_in_order : (channel number : ℕ) (uplink : List ℕ) (power l1 : ℕ) (l3 : Option (List ℕ)) →
    AreInOrder (map (λ e. e.id) (measured_elements channel number uplink power l1 l3))
ids_in_order channel number uplink power l1 None = inl refl
ids_in_order channel number uplink power l1 (Some l3) = inr refl

-- what is answered is in order
pub is_in_order : (body : List ℕ) (octet channel number : ℕ) (uplink : List ℕ) (power l1 : ℕ) (l3 : Option (List ℕ)) →
    walk ELEMENTS body ≡ finding (measured_elements octet number uplink power l1 l3) false →
    channel_by octet ≡ Ok channel → optional_l3_at l3 ≡ Ok l3 →
    IsInOrder (rsl_reading_by (Some types.MeasurementResult) body) body
is_in_order body octet channel number uplink power l1 l3 walked channel_is l3_is =
    let m = reads_in_order body octet channel number uplink power l1 l3 walked channel_is l3_is in
    let these = are_these body _ walked in
    record {
      message = m.message;
      reads = m.reads;
      order = subst (λ (es : List Element). AreInOrder (map (λ e. e.id) es)) (sym these) (ids_in_order octet number uplink power l1 l3);
    }

-- the values of what is read have a channel, and room
pub record Lawful (octet : ℕ) (l3 : Option (List ℕ)) : Type 0 where
  pub channel : ℕ
  pub channel_is : channel_by octet ≡ Ok channel
  pub l3_is : optional_l3_at l3 ≡ Ok l3

same_l3 : (l3 found : Option (List ℕ)) → optional_l3_at l3 ≡ Ok found → optional_l3_at l3 ≡ Ok l3
same_l3 l3 found e = e ∙ ap (λ (o : Option (List ℕ)). Ok o) (sym (optional_l3_ok l3 found e).0)

lawful_at : (octet number : ℕ) (uplink : List ℕ) (power l1 : ℕ) (l3 : Option (List ℕ)) (m : MeasurementResult) →
    measurement_result_at (measured_elements octet number uplink power l1 l3) ≡ Ok m → Lawful octet l3
unfolding measurement_result_at
lawful_at octet number uplink power l1 None m e =
    let a = bind_ok (channel_by octet) _ m e in
    record { channel = a.0; channel_is = a.1; l3_is = refl }
lawful_at octet number uplink power l1 (Some l3) m e =
    let a = bind_ok (channel_by octet) _ m e in
    let b = bind_ok (optional_l3_at (Some l3)) _ m a.2 in
    record { channel = a.0; channel_is = a.1; l3_is = same_l3 (Some l3) b.0 b.1 }

whole_reading : (body : List ℕ) (m : MeasurementResult) → rsl_reading_by (Some types.MeasurementResult) body ≡ Ok (messages.MeasurementResult m) →
    (breaks_off body ≡ false) × (message_at types.MeasurementResult (elements_of body) ≡ Ok (messages.MeasurementResult m))
whole_reading body m e =
    guard {A = Rsl} {F = RslFault} (breaks_off body) faults.Short (message_at types.MeasurementResult (elements_of body)) (messages.MeasurementResult m) e

read_by : (es : List Element) (v : Rsl) →
    message_at types.MeasurementResult es ≡ Ok v →
    (m : MeasurementResult) × (measurement_result_at es ≡ Ok m)
unfolding message_at
read_by es v e = let m = result_map_ok (λ x. messages.MeasurementResult x) (measurement_result_at es) v e in (m.0, m.1)

pub lawful_in_order : (body : List ℕ) (octet number : ℕ) (uplink : List ℕ) (power l1 : ℕ) (l3 : Option (List ℕ)) →
    walk ELEMENTS body ≡ finding (measured_elements octet number uplink power l1 l3) false →
    IsInOrder (rsl_reading_by (Some types.MeasurementResult) body) body → Lawful octet l3
lawful_in_order body octet number uplink power l1 l3 walked is =
    let these = are_these body _ walked in
    let at = ap (message_at types.MeasurementResult) (sym these) ∙ (whole_reading body is.message is.reads).1 in
    let m = read_by (measured_elements octet number uplink power l1 l3) (messages.MeasurementResult is.message) at in
    lawful_at octet number uplink power l1 l3 m.0 m.1
