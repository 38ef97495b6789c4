-- Answers of one matrix agree with each other, and with what a report lists.
use Rattle.std.specs.Prelude.{◌≡◌, ℕ, IfSome, List, Option, length, true}
use Rattle.bip_defs.specs.ConnectedComponents.{Components}
use Rattle.bip_defs.specs.Decomposition.{Decomposition}
use Rattle.bip_defs.specs.Matching.{IsRank}
use Rattle.bip_defs.specs.Matrix.{Matrix, Place}
use Rattle.blocktri.specs.Answers.{TellsMatching}
use Rattle.blocktri.specs.Forms.{FormLists, TellsBlocks, TellsForm}
use Rattle.blocktri.specs.OuterComponents.{TellsComponents}
use Rattle.blocktri.specs.declared.sizes.ComponentCounts.{ComponentCounts}
use Rattle.blocktri.specs.declared.sizes.Sizes.{Sizes}
use Rattle.blocktri.specs.declared.sizes.Wants.{Wants}
use Rattle.sp_pattern.specs.Pairs.{HaveSame}

-- the blocks and orders that are told are those of one decomposition
abbrev pub OrdersAgree : Matrix → Type 0
OrdersAgree a = (j k : Option ℕ) (old new old2 new2 : FormLists) (t : TellsBlocks a j old new)
    (u : TellsBlocks a k old2 new2) → t.decomposition ≡ u.decomposition

-- the components that are told are the same twice
abbrev pub ComponentsAgree : Matrix → Type 0
ComponentsAgree a = (s t : Option ComponentCounts) (xs rows ys columns xs2 rows2 ys2 columns2 :
    List ℕ) (x : TellsComponents a s xs rows ys columns)
    (y : TellsComponents a t xs2 rows2 ys2 columns2) → x.components ≡ y.components

-- the sizes that are told where the same is wanted are the same twice
abbrev pub SizesAgree : Matrix → Type 0
SizesAgree a = (wants : Wants) (s t : Sizes) (old new old2 new2 : FormLists)
    → TellsForm a wants s old new → TellsForm a wants t old2 new2 → s ≡ t

-- the least matchings that are told have the same size and the same pairs
abbrev pub LeastMatchingsAgree : Matrix → Type 0
LeastMatchingsAgree a = (j k : ℕ) (xs rows ys columns xs2 rows2 ys2 columns2 : List ℕ)
    (t : TellsMatching a true j xs rows ys columns)
    (u : TellsMatching a true k xs2 rows2 ys2 columns2) → (j ≡ k) × HaveSame t.pairs u.pairs

-- each rank is this one
abbrev pub EachRankIs : Matrix → ℕ → Type 0
EachRankIs a rank = (k : ℕ) → IsRank a k → k ≡ rank

-- the blocks and orders that are told are those of this decomposition
abbrev pub EachFormIsOf : Matrix → Decomposition → Type 0
EachFormIsOf a d = (k : Option ℕ) (old new : FormLists) (t : TellsBlocks a k old new)
    → t.decomposition ≡ d

-- all components that are told are these, where these are listed
abbrev pub EachComponentsAre : Matrix → Option Components → Type 0
EachComponentsAre a listed = (s : Option ComponentCounts) (xs rows ys columns : List ℕ)
    (x : TellsComponents a s xs rows ys columns) → IfSome listed (λ c. x.components ≡ c)

-- each least matching that is told has these pairs and as many, where these are listed
abbrev pub EachLeastMatchingIs : Matrix → Option (List Place) → Type 0
EachLeastMatchingIs a listed = (k : ℕ) (xs rows ys columns : List ℕ)
    (t : TellsMatching a true k xs rows ys columns)
    → IfSome listed (λ m. (k ≡ length m) × HaveSame t.pairs m)
