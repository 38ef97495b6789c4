-- The labels of rows and columns while the columns of a part are gone over.
use Rattle.std.specs.Prelude.{◌≡◌, ◌≢◌, ◌⊎◌, ℕ, ◌+◌, ◌<◌, ◌≤◌, List, length, slice_index, slice_set}
use Rattle.bip_defs.specs.Blocks.{ColAt, RowAt}
use Rattle.bip_defs.specs.ConnectedComponents.{IsHorizontalVertex, Joined}
use Rattle.bip_defs.specs.Lists.{Among, IsRising, Lists}
use Rattle.bip_defs.specs.Matrix.{IsEntry, Matrix, cols}
use Rattle.bip_defs.specs.Parts.{IsHorizontalCol}
use Rattle.bip_graph.specs.Matching.{none}
use Rattle.outer_components.specs.Contacts.{AddsContact, AreEnds, IsAlong, IsContact}
use Rattle.outer_components.specs.Numbers.{IsOfRoot}
use Rattle.outer_components.specs.declared.contacts.Contacts.{Contacts}

-- what has one label is joined by chains of the part, so is what labels in contact have, and entries of the columns
-- before one join labels that chains of contacts join alone
pub record AreLabels (a : Matrix) (list : List ℕ) (at : ℕ) (c : Contacts) (rs cs : List ℕ)
    : Type 0 where
  pub roots : List ℕ
  pub count_is : length roots ≡ c.count
  pub few : c.count ≤ at
  pub small : c.count ≤ none
  pub columns : Lists (IsHorizontalCol a) list
  pub rising : IsRising roots
  pub root : (l : ℕ) → l < c.count
      → IsHorizontalCol a (slice_index roots l) × (slice_index cs (slice_index roots l) ≡ l)
  pub later : (l i : ℕ) → l < c.count → at ≤ i → i < length list
      → slice_index roots l < slice_index list i
  pub long_rows : length rs ≡ a.rows
  pub long_cols : length cs ≡ cols a
  pub ends : AreEnds c
  pub row : (r : ℕ) → r < a.rows → slice_index rs r ≢ none
      → IsOfRoot a roots (slice_index rs r) (RowAt r)
  pub col : (j : ℕ) → j < cols a → slice_index cs j ≢ none
      → IsOfRoot a roots (slice_index cs j) (ColAt j) × (slice_index roots (slice_index cs j) ≤ j)
  pub contact : (l k : ℕ) → IsContact c l k
      → Joined a (IsHorizontalVertex a) (ColAt (slice_index roots l)) (ColAt (slice_index roots k))
  pub done : (i : ℕ) → i < at → i < length list → slice_index cs (slice_index list i) ≢ none
  pub entry : (i r : ℕ) → i < at → i < length list → IsEntry a r (slice_index list i)
      → (slice_index rs r ≢ none) × ((f : ℕ → ℕ) → IsAlong f c
      → f (slice_index rs r) ≡ f (slice_index cs (slice_index list i)))

-- the labels are those that were given
pub record FitLabels (c : Contacts) (rs cs : List ℕ) : Type 0 where
  pub ends : AreEnds c
  pub row : (r : ℕ) → r < length rs → slice_index rs r ≢ none → slice_index rs r < c.count
  pub col : (j : ℕ) → j < length cs → slice_index cs j ≢ none → slice_index cs j < c.count

-- what is known of the labels is known still
abbrev pub KeepsLabels : Contacts → List ℕ → List ℕ → Contacts → List ℕ → List ℕ → Type 0
KeepsLabels c rs cs c2 rs2 cs2 = (a : Matrix) (list : List ℕ) (at : ℕ)
    → AreLabels a list at c rs cs → AreLabels a list at c2 rs2 cs2

-- each label has become its number
pub record AreRenamed (numbers old new : List ℕ) : Type 0 where
  pub long : length new ≡ length old
  pub label : (v : ℕ) → v < length old → slice_index old v ≢ none
      → slice_index new v ≡ slice_index numbers (slice_index old v)
  pub none_stays : (v : ℕ) → slice_index old v ≡ none → slice_index new v ≡ none

-- a label that one of the rows has, or a new one
abbrev pub IsLabelFor : List ℕ → List ℕ → ℕ → Contacts → Contacts → Type 0
IsLabelFor entries rs label c d = ((d ≡ c) × (label ≢ none) × (r : ℕ) × Among r entries
    × (slice_index rs r ≡ label)) ⊎ ((d ≡ record c { count = c.count + 1 }) × (label ≡ c.count))

-- the rows at the places before one have labels, this one or ones that are in contact with it
pub record AreMet (entries : List ℕ) (at label : ℕ) (old new : List ℕ) (c d : Contacts)
    : Type 0 where
  pub long : length new ≡ length old
  pub kept : (r : ℕ) → slice_index old r ≢ none → slice_index new r ≡ slice_index old r
  pub told : (r : ℕ) → slice_index old r ≡ none → slice_index new r ≢ none
      → (slice_index new r ≡ label) × Among r entries
  pub count : d.count ≡ c.count
  pub long_contacts : length d.seconds.items ≡ length d.firsts.items
  pub had : (l k : ℕ) → IsContact c l k → IsContact d l k
  pub only : (l k : ℕ) → IsContact d l k → IsContact c l k ⊎ ((l ≡ label) × (k ≢ none)
      × (r : ℕ) × Among r entries × (slice_index new r ≡ k))
  pub met : (i : ℕ) → i < at → (slice_index new (slice_index entries i) ≢ none)
      × ((f : ℕ → ℕ) → IsAlong f d → f (slice_index new (slice_index entries i)) ≡ f label)

-- nothing changed, or the row got the label, or the contact with its own label was added
abbrev pub IsMet : ℕ → ℕ → ℕ → ℕ → List ℕ → List ℕ → Contacts → Contacts → Type 0
IsMet row label last now old new c d =
    ((new ≡ old) × (d ≡ c) × (now ≡ last)
    × ((slice_index old row ≡ label) ⊎ (slice_index old row ≡ last)))
    ⊎ ((slice_index old row ≡ none) × (new ≡ slice_set old row label) × (d ≡ c) × (now ≡ last))
    ⊎ ((slice_index old row ≢ none) × (new ≡ old) × AddsContact c label now d
    × (now ≡ slice_index old row))

-- the column has a label, and its rows have it or labels that are in contact with it
pub record LabelsColumn (a : Matrix) (col : ℕ) (c : Contacts) (rs cs : List ℕ)
    (d : Contacts) (rs2 cs2 : List ℕ) : Type 0 where
  pub entries : List ℕ
  pub sound : (r : ℕ) → Among r entries → IsEntry a r col
  pub complete : (r : ℕ) → IsEntry a r col → Among r entries
  pub label : ℕ
  pub mid : Contacts
  pub label_for : IsLabelFor entries rs label c mid
  pub met : AreMet entries (length entries) label rs rs2 mid d
  pub written : cs2 ≡ slice_set cs col label
