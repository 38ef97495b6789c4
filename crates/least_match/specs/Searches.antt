-- What searches within the tail of a class ask and leave.
use Rattle.std.specs.Prelude.{◌≡◌, ℕ, ◌<◌, List, length}
use Rattle.bip_defs.specs.Lists.{Among}
use Rattle.bip_defs.specs.Matching.{cols_of}
use Rattle.bip_defs.specs.Matrix.{Place, cols}
use Rattle.bip_defs.specs.Queues.{IsPrefix}
use Rattle.bip_graph.specs.Matching.{IsMatchingOf, Pairing}
use Rattle.least_match.specs.Classes.{IsInTail}
use Rattle.least_match.specs.Exchanges.{Meets}
use Rattle.least_match.specs.Outcomes.{IsIn}
use Rattle.least_match.specs.Trees.{AreSearchTrees, HaveCols, Looks}
use Rattle.least_match.specs.declared.exchange.Meeting.{Meeting}
use Rattle.least_match.specs.declared.parts.ColPart.{ColPart}
use Rattle.least_match.specs.declared.tail.ClassTail.{ClassTail}
use Rattle.least_match.specs.declared.tree.SearchTrees.{SearchTrees}

-- the trees of a search from the column d to the tail's own
abbrev pub AreTreesFor : ClassTail → List Place → ℕ → SearchTrees → Type 0
AreTreesFor tail m d t = AreSearchTrees tail.pattern.now m tail.classes.now tail.col d
    t.forward.queue t.backward.queue

-- a path leads from one of these trees to the other, or out of one
abbrev pub MeetsIn : ClassTail → List Place → SearchTrees → Meeting → Type 0
MeetsIn tail m t meeting = Meets tail.pattern.now m tail.col t.forward.queue t.backward.queue meeting

-- a search begins at the column d, which is behind the tail's own; both are matched, and the part is theirs
pub record CanSearch (tail : ClassTail) (m : Pairing) (p : ColPart) (d : ℕ)
    (t : SearchTrees) : Type 0 where
  pub matching : IsMatchingOf tail.pattern.now m
  pub own : Among tail.col (cols_of m.pairs)
  pub part : IsIn tail.pattern.now tail.col p
  pub first : IsInTail tail.pattern.now tail.classes.now tail.col d
  pub behind : tail.col < d
  pub matched : Among d (cols_of m.pairs)
  pub cols : HaveCols (cols tail.pattern.now) t

-- the column at the place of the forward tree is looked at
pub record CanLookForward (tail : ClassTail) (m : Pairing) (i : ℕ) (t : SearchTrees) : Type 0 where
  pub matching : IsMatchingOf tail.pattern.now m
  pub cols : HaveCols (cols tail.pattern.now) t
  pub place : i < length t.forward.queue

-- the column at the place of the backward tree is looked at
pub record CanLookBack (tail : ClassTail) (m : Pairing) (i : ℕ) (t : SearchTrees) : Type 0 where
  pub matching : IsMatchingOf tail.pattern.now m
  pub own : Among tail.col (cols_of m.pairs)
  pub cols : HaveCols (cols tail.pattern.now) t
  pub place : i < length t.backward.queue

-- the row is matched, and its mate was looked at from the place of the forward tree
abbrev pub SeesForward : ClassTail → List Place → ℕ → ℕ → SearchTrees → SearchTrees → Type 0
SeesForward tail m row i old new = (d : ℕ) × Among (row, d) m
    × Looks tail.pattern.now m tail.classes.now tail.col d i
    old.forward.queue new.forward.queue old.backward.queue

-- the column was looked at from the place of the backward tree
abbrev pub SeesBack : ClassTail → List Place → ℕ → ℕ → SearchTrees → SearchTrees → Type 0
SeesBack tail m c i old new = Looks tail.pattern.now m tail.classes.now tail.col c i
    old.backward.queue new.backward.queue old.forward.queue

-- the forward tree grows at its end, the other stays, and they are still the trees of their search
pub record GrowsForward (tail : ClassTail) (m : List Place) (old new : SearchTrees) : Type 0 where
  pub cols : HaveCols (cols tail.pattern.now) new
  pub other : new.backward ≡ old.backward
  pub grows : IsPrefix old.forward.queue new.forward.queue
  pub trees : (d : ℕ) → AreTreesFor tail m d old → AreTreesFor tail m d new

-- the backward tree grows at its end, the other stays, and they are still the trees of their search
pub record GrowsBack (tail : ClassTail) (m : List Place) (old new : SearchTrees) : Type 0 where
  pub cols : HaveCols (cols tail.pattern.now) new
  pub other : new.forward ≡ old.forward
  pub grows : IsPrefix old.backward.queue new.backward.queue
  pub trees : (d : ℕ) → AreTreesFor tail m d old → AreTreesFor tail m d new
