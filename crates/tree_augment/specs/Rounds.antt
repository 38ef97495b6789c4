-- One worker's round over the roots with a leaf, and its visit of each.
use Rattle.std.specs.Prelude.{◌≡◌, ◌⊎◌, ◌↔◌, ℕ, ◌<◌, List, [], ◌++◌, length}
use Rattle.bip_defs.specs.Forest.{State, roots_of}
use Rattle.flip_words.specs.Board.{Board, col_vertex}
use Rattle.flip_words.specs.Seat.{HasSetTo, IsSameSeat, Seat}
use Rattle.level_sharing.specs.Each.{EachPairFrom}
use Rattle.tree_augment.specs.Augmented.{AreAsked, ExchangesItsPaths, IsPathPair, once_round}
use Rattle.tree_augment.specs.ForestBoards.{IsSoundBoardOf}

-- the same seat, after it asked for these trees in their order
pub record AsksFor (xs : List ℕ) (t u : Seat) : Type 0 where
  pub same : IsSameSeat t u
  pub taken : List (ℕ × ℕ)
  pub seen : List (ℕ × ℕ)
  pub asked : AreAsked t.number xs taken seen
  pub took : u.listed.taken ≡ t.listed.taken ++ taken
  pub saw : u.listed.seen ≡ t.listed.seen ++ seen

-- the same seat, after it set the vertices of the path of a root
pub record HasExchanged (s : State) (b : Board) (x : ℕ) (t u : Seat) : Type 0 where
  pub same : IsSameSeat t u
  pub taken : u.listed.taken ≡ t.listed.taken
  pub seen : u.listed.seen ≡ t.listed.seen
  pub rows : (r c : ℕ) → r < b.rows → HasSetTo u r c ↔ (HasSetTo t r c ⊎ IsPathPair s x (r, c))
  pub cols : (r c : ℕ) → HasSetTo u (col_vertex b c) r
      ↔ (HasSetTo t (col_vertex b c) r ⊎ IsPathPair s x (r, c))

-- of so many workers, the one with this number has a seat that has taken nothing
pub record CanGoRound (s : State) (b : Board) (workers number : ℕ) (t : Seat) : Type 0 where
  pub board : IsSoundBoardOf s b
  pub few : number < workers
  pub seat : t.board ≡ b
  pub none_taken : t.listed.taken ≡ []

-- the same seat, after its round as the worker of this number
pub record HasGoneRound (s : State) (b : Board) (workers number : ℕ) (t u : Seat) : Type 0 where
  pub asked : AsksFor (roots_of (once_round s.leaves workers number)) t u
  pub paths : ExchangesItsPaths s b u

-- these seats after their rounds, each as the worker of the number of its place
abbrev pub HaveGoneRound : State → Board → List Seat → List Seat → Type 0
HaveGoneRound s b ts us = EachPairFrom (λ k t u. HasGoneRound s b (length ts) k t u) 0 ts us
