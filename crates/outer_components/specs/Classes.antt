-- The classes of labels that chains of contacts join, and how searches find them.
use Rattle.std.specs.Prelude.{◌≡◌, ◌≢◌, ◌⊎◌, ℕ, ◌+◌, ◌<◌, ◌≤◌, List, length, slice_index}
use Rattle.bip_defs.specs.Lists.{Among, IsRising}
use Rattle.bip_defs.specs.Tallies.{tally}
use Rattle.bip_graph.specs.Matching.{none}
use Rattle.id_groups.specs.Groups.{AreGroups}
use Rattle.outer_components.specs.Contacts.{AreEnds, IsClosed, IsContact, Linked, Touch}
use Rattle.outer_components.specs.declared.classes.Ends.{Ends}
use Rattle.outer_components.specs.declared.contacts.Contacts.{Contacts}

-- a class is what chains of contacts join; the classes have numbers in the order of their least labels
pub record AreClasses (c : Contacts) (count : ℕ) (numbers : List ℕ) : Type 0 where
  pub firsts : List ℕ
  pub count_is : length firsts ≡ count
  pub few : count ≤ c.count
  pub rising : IsRising firsts
  pub first : (k : ℕ) → k < count
      → (slice_index firsts k < c.count) × (slice_index numbers (slice_index firsts k) ≡ k)
  pub long : length numbers ≡ c.count
  pub number : (l : ℕ) → l < c.count → slice_index numbers l < count
  pub least : (l : ℕ) → l < c.count → slice_index firsts (slice_index numbers l) ≤ l
  pub linked : (l : ℕ) → l < c.count → Linked c (slice_index firsts (slice_index numbers l)) l
  pub same : (l k : ℕ) → IsContact c l k → slice_index numbers l ≡ slice_index numbers k

-- the contacts are listed for both ends
pub record AreEndLists (c : Contacts) (e : Ends) : Type 0 where
  pub of : e.contacts.now ≡ c
  pub ends : AreEnds c
  pub by_first : AreGroups c.firsts.items c.count e.by_first
  pub by_second : AreGroups c.seconds.items c.count e.by_second

-- a number was given to labels that had none, and these were stacked
pub record Spreads (number : ℕ) (old new stack stack2 : List ℕ) : Type 0 where
  pub long : length new ≡ length old
  pub kept : (l : ℕ) → slice_index old l ≢ none → slice_index new l ≡ slice_index old l
  pub told : (l : ℕ) → slice_index old l ≡ none → slice_index new l ≢ none
      → (slice_index new l ≡ number) × Among l stack2
  pub stays : (l : ℕ) → Among l stack → Among l stack2
  pub stacked : (l : ℕ) → Among l stack2
      → Among l stack ⊎ ((slice_index old l ≡ none) × (slice_index new l ≢ none))
  pub left : tally none new + length stack2 ≡ tally none old + length stack

-- the labels of a kind have numbers now, and only they got one
pub record AreTouched (Kind : ℕ → Type 0) (old new : List ℕ) : Type 0 where
  pub only : (l : ℕ) → slice_index old l ≡ none → slice_index new l ≢ none → Kind l
  pub all : (l : ℕ) → Kind l → slice_index new l ≢ none

-- so have the other ends of the first contacts of a list
pub record AreReached (contacts ends : List ℕ) (at : ℕ) (old new : List ℕ) : Type 0 where
  pub only : (l : ℕ) → slice_index old l ≡ none → slice_index new l ≢ none
      → (i : ℕ) × Among i contacts × (slice_index ends i ≡ l)
  pub all : (j : ℕ) → j < at → slice_index new (slice_index ends (slice_index contacts j)) ≢ none

-- a number is being given to all that chains of contacts join with a label; what is stacked was not gone over
pub record IsFlooding (c : Contacts) (label number : ℕ) (old new stack : List ℕ) : Type 0 where
  pub long : length new ≡ length old
  pub kept : (l : ℕ) → slice_index old l ≢ none → slice_index new l ≡ slice_index old l
  pub mine : (l : ℕ) → slice_index old l ≡ none → slice_index new l ≢ none
      → (slice_index new l ≡ number) × Linked c label l
  pub here : slice_index new label ≢ none
  pub stacked : (l : ℕ) → Among l stack
      → (l < c.count) × (slice_index old l ≡ none) × (slice_index new l ≢ none)
  pub closed : (l k : ℕ) → Touch c l k → slice_index new l ≢ none
      → Among l stack ⊎ (slice_index new k ≡ slice_index new l)

-- the labels before one have numbers, and so has all that chains of contacts join with them
pub record IsNumbering (c : Contacts) (at count : ℕ) (numbers : List ℕ) : Type 0 where
  pub firsts : List ℕ
  pub count_is : length firsts ≡ count
  pub few : count ≤ at
  pub rising : IsRising firsts
  pub first : (k : ℕ) → k < count
      → (slice_index firsts k < at) × (slice_index numbers (slice_index firsts k) ≡ k)
  pub long : length numbers ≡ c.count
  pub done : (l : ℕ) → l < at → slice_index numbers l ≢ none
  pub number : (l : ℕ) → l < c.count → slice_index numbers l ≢ none
      → (slice_index numbers l < count) × (slice_index firsts (slice_index numbers l) ≤ l)
      × Linked c (slice_index firsts (slice_index numbers l)) l
  pub closed : IsClosed c numbers
