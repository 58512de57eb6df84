-- SPDX-License-Identifier: MIT OR Apache-2.0
-- The first fault of a table, by the rules of its keys.
use Rattle.std.specs.Prelude.{ℕ, ◌+◌, ◌==◌, nat_le, ℤ, pos, int_le, Bool}
use Rattle.std.specs.Prelude.{true, false, not, ◌&&◌, if◌then◌else◌, List, []}
use Rattle.std.specs.Prelude.{◌∷◌, length, map, Option, Some, None, is_some}
use Rattle.std.specs.List.{list_all, list_any}
use Rattle.std.specs.Char.{is_ascii_digit}
use Rattle.std.specs.Str.{bytes_eq}
use Rattle.std.specs.Cmp.Lexicographic.{slice_cmp}
use Rattle.std.specs.Ordering.{nat_cmp, is_lt}
use Rattle.octets.specs.Refusal.{first_refusal}
use Rattle.rsl_codec.specs.declared.channel_number.TheConstants.{FIRST_TCH, LAST_SDCCH}
use Rattle.toml.specs.Data.{Data, string, integer, boolean, array, table, Items, no_items, item}
use Rattle.toml.specs.Data.{Members, no_members, member, get_member, as_integer, as_table}
use Rattle.settings.specs.declared.key.Key.{Key}
use Rattle.settings.specs.declared.fault.SettingsFault.{SettingsFault}
use Rattle.settings.specs.declared.fault.SettingsFault.TheVariants.{Unknown, Missing}
use Rattle.settings.specs.declared.fault.SettingsFault.TheVariants.{BadType, BadValue}
use Rattle.settings.specs.Keys.{name_of, path_in}
use Rattle.settings.specs.Rules.{Kind, text, digits, number, flag, channels, Rule}

-- ---- one value

-- `BadValue` unless the value passes its test.
abbrev pub valued : Key → Bool → Option SettingsFault
valued key passes = if passes then None else Some (BadValue key)

abbrev pub typed : Key → Bool → Option SettingsFault
typed key passes = if passes then None else Some (BadType key)

abbrev pub is_within : ℕ → ℕ → ℕ → Bool
is_within least most n = nat_le least n && nat_le n most

abbrev pub is_between : ℕ → ℕ → ℤ → Bool
is_between least greatest z = int_le (pos least) z && int_le z (pos greatest)

abbrev pub all_items : (Data → Bool) → Items → Bool
all_items test no_items = true
all_items test (item d ds) = test d && all_items test ds

abbrev pub count_items : Items → ℕ
count_items no_items = 0
count_items (item d ds) = count_items ds + 1

abbrev pub is_integer : Data → Bool
is_integer d = is_some (as_integer d)

abbrev pub is_table : Data → Bool
is_table d = is_some (as_table d)

-- Whether the value is the number of a TCH or an SDCCH.
abbrev pub is_channel : Data → Bool
is_channel (integer z) = is_between FIRST_TCH LAST_SDCCH z
is_channel _ = false

-- The fault of a value at a key that has to hold a value of this kind.
abbrev pub value_fault : Key → Kind → Data → Option SettingsFault
value_fault key text (string s) = valued key (not (length s == 0))
value_fault key (digits least most) (string s) =
    valued key (is_within least most (length s) && list_all is_ascii_digit s)
value_fault key (number least greatest) (integer z) = valued key (is_between least greatest z)
value_fault key flag (boolean b) = None
value_fault key (channels least most) (array ds) =
    first_refusal (typed key (all_items is_integer ds))
    (valued key (is_within least most (count_items ds) && all_items is_channel ds))
value_fault key _ _ = Some (BadType key)

-- ---- the keys of a table

-- The fault of an absent key: Missing, unless the key has a default.
abbrev pub absent_fault : Key → Option Data → Option SettingsFault
absent_fault key None = Some (Missing key)
absent_fault key (Some default) = None

abbrev pub held_fault : Rule → Option Data → Option SettingsFault
held_fault rule None = absent_fault rule.key rule.default
held_fault rule (Some d) = value_fault rule.key rule.kind d

abbrev pub key_fault : Rule → Members → Option SettingsFault
key_fault rule ms = held_fault rule (get_member (name_of rule.key) ms)

-- The first fault of the keys, in the order of their rules.
abbrev pub keys_fault : List Rule → Members → Option SettingsFault
keys_fault [] ms = None
keys_fault (rule ∷ rules) ms = first_refusal (key_fault rule ms) (keys_fault rules ms)

-- ---- a table

abbrev pub is_known : List Key → List ℕ → Bool
is_known known name = list_any (λ key. bytes_eq (name_of key) name) known

-- The lesser of two names, compared octet by octet.
abbrev pub lesser : List ℕ → Option (List ℕ) → List ℕ
lesser name None = name
lesser name (Some other) = if is_lt (slice_cmp nat_cmp other name) then other else name

-- The least name in a table that is none of the known keys.
abbrev pub least_unknown : List Key → Members → Option (List ℕ)
least_unknown known no_members = None
least_unknown known (member name d ms) =
    if is_known known name
    then least_unknown known ms
    else Some (lesser name (least_unknown known ms))

abbrev pub named_fault : Option Key → Option (List ℕ) → Option SettingsFault
named_fault place None = None
named_fault place (Some name) = Some (Unknown (path_in place name))

-- The fault of the least unknown key in the table `place`, or at the top level if `place` is
-- `None`.
abbrev pub unknown_fault : Option Key → List Key → Members → Option SettingsFault
unknown_fault place known ms = named_fault place (least_unknown known ms)

-- The first fault of a table: an unknown key, then the faults of the keys in order.
abbrev pub table_fault : Key → List Rule → Members → Option SettingsFault
table_fault key rules ms =
    first_refusal (unknown_fault (Some key) (map (λ rule. rule.key) rules) ms) (keys_fault rules ms)

-- The first fault of a required table.
abbrev pub required_table_fault : Key → List Rule → Option Data → Option SettingsFault
required_table_fault key rules None = Some (Missing key)
required_table_fault key rules (Some (table ms)) = table_fault key rules ms
required_table_fault key rules (Some _) = Some (BadType key)

-- The first fault of an optional table. Each of its keys has a default, so the absence of the table
-- is no fault.
abbrev pub optional_table_fault : Key → List Rule → Option Data → Option SettingsFault
optional_table_fault key rules None = None
optional_table_fault key rules (Some d) = required_table_fault key rules (Some d)
