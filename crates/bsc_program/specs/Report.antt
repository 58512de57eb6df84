-- SPDX-License-Identifier: MIT OR Apache-2.0
-- The report of a world.
use Rattle.std.specs.Prelude.{◌≡◌, ℕ, zero, suc, ◌<◌, ◌≤◌, ◌-◌, ◌^◌, List}
use Rattle.std.specs.Prelude.{[], ◌++◌, length, codes}
use Rattle.std.specs.Prelude.{decimal, Option, Some, None, IsSome, unwrap_or, Bool, true, false}
use Rattle.std.specs.Io.KnownBytes.{Appends, Keeps}
use Rattle.std.specs.List.{flat_map}
use Rattle.hex.specs.Hex.{encode_lower}
use Rattle.world.specs.declared.world.Scene.{Scene}
use Rattle.world.specs.Views.{sent_list, received_list, taken_list, accepted_list, unnumbered_list}
use Rattle.world.specs.WorldState.{WorldState}

-- a line for each message, with two hexadecimal digits for each octet
abbrev pub message_lines : List (List ℕ) → List ℕ
message_lines messages = flat_map (λ message. encode_lower message ++ codes "\n") messages

-- the number of messages, which ends a line, and then a line for each message
abbrev pub counted_lines : List (List ℕ) → List ℕ
counted_lines messages = decimal (length messages) ++ codes "\n" ++ message_lines messages

-- a list of messages: the list's owner and kind, and then the messages
abbrev pub list_text : List ℕ → ℕ → List ℕ → List (List ℕ) → List ℕ
list_text whose number what messages = whose ++ decimal number ++ what ++ counted_lines messages

abbrev pub mobile_by : ℕ → Option (List (List ℕ)) → Option (List (List ℕ)) → List ℕ
mobile_by number (Some sent) (Some received) =
    list_text (codes "mobile ") number (codes " sent ") sent
    ++ list_text (codes "mobile ") number (codes " received ") received
mobile_by number _ _ = []

-- the lists of the mobile with this number; empty if there is no such mobile
abbrev pub mobile_text : Scene → ℕ → List ℕ
mobile_text scene number = mobile_by number (sent_list scene number) (received_list scene number)

abbrev pub connection_by : ℕ → Option (List (List ℕ)) → Option (List (List ℕ))
    → Option (List (List ℕ)) → Option (List ℕ)
connection_by number (Some taken) (Some accepted) (Some unnumbered) =
    Some (
    list_text (codes "conn ") number (codes " taken ") taken
    ++ list_text (codes "conn ") number (codes " accepted ") accepted
    ++ list_text (codes "conn ") number (codes " unnumbered ") unnumbered
    )
connection_by number _ _ _ = None

-- the lists of the switch's connection with this number; `None` if there is no such connection
abbrev pub connection_text : Scene → ℕ → Option (List ℕ)
connection_text scene number = connection_by number
    (taken_list scene number) (accepted_list scene number) (unnumbered_list scene number)

-- the texts of the numbers 1 to `n`, in order
unfoldable pub texts_to : (ℕ → List ℕ) → ℕ → List ℕ
texts_to text zero = []
texts_to text (suc n) = texts_to text n ++ text (suc n)

-- The text is the lists of the switch's connections, from connection 1 up to the first number
-- without a connection.
pub record AreConnections (scene : Scene) (text : List ℕ) : Type 0 where
  pub count : ℕ
  pub numbers : count ≤ 2 ^ 32 - 1
  pub each : (n : ℕ) → n < count → IsSome (connection_text scene (suc n))
  pub no_more : count < 2 ^ 32 - 1 → connection_text scene (suc count) ≡ None
  pub is : text ≡ texts_to (λ number. unwrap_or (connection_text scene number) []) count

-- the line with the number of events that were not taken
abbrev pub not_taken_line : ℕ → List ℕ
not_taken_line n = codes "events not taken " ++ decimal n ++ codes "\n"

-- The text is the report: the lists of the mobiles 1 to 255, the lists of the connections, and the
-- number of events that were not taken.
abbrev pub IsReport : WorldState → List ℕ → Type 0
IsReport world text =
    (connections : List ℕ) × AreConnections world.scene connections
    × (text ≡ texts_to (mobile_text world.scene) 255 ++ connections
    ++ not_taken_line world.not_taken)

-- If there is a text (`Some`), the text was written and the flag is true. If there is no text,
-- nothing was written and the flag is false.
abbrev pub WritesIfSome : Bool → Option (List ℕ) → Option (List ℕ) → Option (List ℕ) → Type 0
WritesIfSome true (Some text) old new = Appends old new text
WritesIfSome true None old new = ⊥
WritesIfSome false (Some text) old new = ⊥
WritesIfSome false None old new = Keeps old new
