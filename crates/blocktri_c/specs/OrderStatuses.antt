-- What a call on orders with a full diagonal leaves, by its status.
use Rattle.std.specs.Prelude.{◌≡◌, ◌≢◌, ◌⊎◌, ℕ, ℤ, Bool, Option, None, Some, pos}
use Rattle.bip_defs.specs.Matrix.{Matrix, cols}
use Rattle.bip_graph.specs.Matching.{none}
use Rattle.blocktri.specs.BlockOrders.{HaveOrderRoom, IsSingular, OrderLists, TellsFullRank}
use Rattle.blocktri.specs.Causes.{IsRefusal}
use Rattle.blocktri.specs.Compressed.{CompressedLists, HasMatrix, row_count}
use Rattle.blocktri_c.specs.Statuses.{Refuses}

-- the lists that the orders are written to, the number of blocks and the rank
pub record OrderOutputs : Type 0 where
  pub lists : OrderLists
  pub blocks : ℕ
  pub rank : ℕ

abbrev pub outputs_of : OrderLists → ℕ → ℕ → OrderOutputs
outputs_of lists blocks rank = record { lists = lists; blocks = blocks; rank = rank }

-- how many blocks there are, or what stands for a number that is not known
abbrev pub blocks_or_none : Option ℕ → ℕ
blocks_or_none None = none
blocks_or_none (Some n) = n

-- the orders of a square matrix of full rank
pub record TellsSquareOutputs (a : Matrix) (wanted : Bool) (old new : OrderOutputs)
    : Type 0 where
  pub square : a.rows ≡ cols a
  pub count : Option ℕ
  pub orders : TellsFullRank a wanted count old.lists new.lists
  pub blocks : new.blocks ≡ blocks_or_none count

-- at status 0 the answer stands in the lists, and the rank is the number of rows; at 1 the matrix is
-- singular, and its rank is told; at 2 it is not square; else all is as it was
pub record AnswersOrder (status : ℤ) (l : CompressedLists) (wanted : Bool)
    (old new : OrderOutputs) : Type 0 where
  pub found : status ≡ pos 0 → HasMatrix l (λ a. TellsSquareOutputs a wanted old new)
  pub full : status ≡ pos 0 → new.rank ≡ row_count l
  pub singular : status ≡ pos 1 → HasMatrix l (λ a. IsSingular a new.rank)
  pub not_square : status ≡ pos 2 → HasMatrix l (λ a. a.rows ≢ cols a)
  pub kept : status ≢ pos 0 → (new.lists ≡ old.lists) × (new.blocks ≡ old.blocks)
  pub kept_rank : status ≢ pos 0 → status ≢ pos 1 → new.rank ≡ old.rank

-- at a refusal the status and the place of the fault tell its cause
pub record TellsOrderFault (status : ℤ) (l : CompressedLists) (lists : OrderLists) (old new : ℕ)
    : Type 0 where
  pub fit : (status ≡ pos 0) ⊎ (status ≡ pos 1) ⊎ (status ≡ pos 2)
      → HaveOrderRoom l lists × (new ≡ old)
  pub refused : status ≢ pos 0 → status ≢ pos 1 → status ≢ pos 2
      → Refuses (IsRefusal (HaveOrderRoom l lists) l.others l.starts l.ids) status old new
