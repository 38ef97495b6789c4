-- What the seats of a board have done once the trees of a forest are augmented.
use Rattle.std.specs.Prelude.{◌≡◌, ◌⊎◌, ◌↔◌, ℕ, ◌*◌, ◌/◌, ◌<◌, List, [], ◌∷◌, ◌++◌, drop, length, take}
use Rattle.bip_defs.specs.Forest.{State, roots_of}
use Rattle.bip_defs.specs.Lists.{Among}
use Rattle.bip_defs.specs.Matrix.{Place}
use Rattle.flip_words.specs.Board.{Board, col_vertex}
use Rattle.bip_graph.specs.Mates.{Mated}
use Rattle.flip_words.specs.ClosedBoards.{SettlesAll}
use Rattle.flip_words.specs.Seat.{HasSeen, HasSetTo, HoldsAllSeats, Seat, Took}
use Rattle.forest_core.specs.Current.{OnPath}
use Rattle.forest_core.specs.Exchanged.{AreExchanged}
use Rattle.level_sharing.specs.Each.{EachFrom}

-- a row on the path of a root, with the column that claimed it, which is its mate once the path is
-- exchanged
abbrev pub IsPathPair : State → ℕ → Place → Type 0
IsPathPair s x p = OnPath s.base s.claims s.leaves x p.0 × Among p s.claims

-- such a row of a root whose tree the seat took
abbrev pub IsOnTakenPath : State → Seat → Place → Type 0
IsOnTakenPath s t p = (x : ℕ) × Took t x × IsPathPair s x p

-- no seat has taken a tree
abbrev pub HaveTakenNone : List Seat → Type 0
HaveTakenNone ts = (t : Seat) → Among t ts → t.listed.taken ≡ []

-- the seat took the tree of the root, or has seen which seat did
abbrev pub HasMet : Seat → ℕ → Type 0
HasMet t x = Took t x ⊎ ((number : ℕ) × HasSeen t x number)

-- The seat took trees of roots with a leaf alone, and set exactly the vertices of their paths: each
-- row to the column that claimed it, and that column to the row
pub record ExchangesItsPaths (s : State) (b : Board) (t : Seat) : Type 0 where
  pub taken : (x : ℕ) → Took t x → Among x (roots_of s.leaves)
  pub rows : (r c : ℕ) → r < b.rows → HasSetTo t r c ↔ IsOnTakenPath s t (r, c)
  pub cols : (r c : ℕ) → HasSetTo t (col_vertex b c) r ↔ IsOnTakenPath s t (r, c)

-- the list once round, from the place on at which the share of the worker i of so many begins
abbrev pub once_round : {X : Type 0} → List X → ℕ → ℕ → List X
once_round xs workers i = drop (i * length xs / workers) xs ++ take (i * length xs / workers) xs

-- a seat of this number asked for these trees in their order, and took each or saw which seat had
-- it
pub data AreAsked (number : ℕ) : List ℕ → List (ℕ × ℕ) → List (ℕ × ℕ) → Type 0 where
  none : AreAsked number [] [] []
  took : {xs : List ℕ} {taken seen : List (ℕ × ℕ)} (x : ℕ) → AreAsked number xs taken seen
      → AreAsked number (x ∷ xs) ((x, number) ∷ taken) seen
  saw : {xs : List ℕ} {taken seen : List (ℕ × ℕ)} (x holder : ℕ) → AreAsked number xs taken seen
      → AreAsked number (x ∷ xs) taken ((x, holder) ∷ seen)

-- the seat asked for these trees in their order, after all that it saw before, and for no other
-- that it took
pub record HasAsked (xs : List ℕ) (t : Seat) : Type 0 where
  pub before : List (ℕ × ℕ)
  pub seen : List (ℕ × ℕ)
  pub saw : t.listed.seen ≡ before ++ seen
  pub asked : AreAsked t.number xs t.listed.taken seen

-- These are all seats of the board, in any order. Each went once round the roots with a leaf, from
-- the start of its share of them on, and asked for the tree of each. It has met each of these roots,
-- and has exchanged the paths of the trees that it took. The board closes with the mates in which
-- the path of every leaf is exchanged
pub record HaveAugmented (s : State) (b : Board) (ts : List Seat) : Type 0 where
  pub all : HoldsAllSeats b ts
  pub rounds : EachFrom (λ (i : ℕ). HasAsked (roots_of (once_round s.leaves (length ts) i))) 0 ts
  pub met : (t : Seat) (x : ℕ) → Among t ts → Among x (roots_of s.leaves) → HasMet t x
  pub paths : (t : Seat) → Among t ts → ExchangesItsPaths s b t
  pub exchanged : (m : Mated) → SettlesAll b m ts → AreExchanged s m
