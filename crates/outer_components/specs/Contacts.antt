-- Labels, which of them are in contact, and which of them chains of contacts join.
use Rattle.std.specs.Prelude.{◌≡◌, ◌≢◌, ◌⊎◌, ℕ, ◌<◌, List, [], ◌∷◌, ◌++◌, length, slice_index}
use Rattle.bip_defs.specs.Lists.{StandsAt}
use Rattle.bip_graph.specs.Matching.{none}
use Rattle.outer_components.specs.declared.contacts.Contacts.{Contacts}

-- the two labels are the first and the second of a contact
abbrev pub IsContact : Contacts → ℕ → ℕ → Type 0
IsContact c l k = (i : ℕ) × StandsAt c.firsts.items l i × (slice_index c.seconds.items i ≡ k)

-- either of the two may be the first
abbrev pub Touch : Contacts → ℕ → ℕ → Type 0
Touch c l k = IsContact c l k ⊎ IsContact c k l

-- a chain of contacts leads from the one label to the other
pub data Linked (c : Contacts) (l : ℕ) : ℕ → Type 0 where
  linked_self : Linked c l l
  linked_on : {j k : ℕ} → Linked c l j → Touch c j k → Linked c l k

-- both ends of each contact are labels
pub record AreEnds (c : Contacts) : Type 0 where
  pub long : length c.seconds.items ≡ length c.firsts.items
  pub first : (i : ℕ) → i < length c.firsts.items → slice_index c.firsts.items i < c.count
  pub second : (i : ℕ) → i < length c.firsts.items → slice_index c.seconds.items i < c.count

abbrev pub HasNoContacts : Contacts → Type 0
HasNoContacts c = (c.firsts.items ≡ []) × (c.seconds.items ≡ [])

-- one contact more
pub record AddsContact (c : Contacts) (l k : ℕ) (d : Contacts) : Type 0 where
  pub count : d.count ≡ c.count
  pub firsts : d.firsts.items ≡ c.firsts.items ++ l ∷ []
  pub seconds : d.seconds.items ≡ c.seconds.items ++ k ∷ []

-- labels in contact have one number, once one of them has a number
abbrev pub IsClosed : Contacts → List ℕ → Type 0
IsClosed c numbers = (l k : ℕ) → Touch c l k → slice_index numbers l ≢ none
    → slice_index numbers k ≡ slice_index numbers l

-- labels in contact have the same value
abbrev pub IsAlong : (ℕ → ℕ) → Contacts → Type 0
IsAlong f c = (l k : ℕ) → IsContact c l k → f l ≡ f k
