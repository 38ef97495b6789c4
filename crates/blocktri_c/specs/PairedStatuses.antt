-- What a call on the orders of a square matrix by pairs leaves, by its status.
use Rattle.std.specs.Prelude.{◌≡◌, ◌≢◌, ◌⊎◌, ℕ, ℤ, Bool, List, Option, pos}
use Rattle.bip_defs.specs.Matrix.{Matrix, cols}
use Rattle.blocktri.specs.BlockOrders.{HaveOrderRoom, OrderLists}
use Rattle.blocktri.specs.Causes.{IsRefusal}
use Rattle.blocktri.specs.Compressed.{CompressedLists, HasMatrix}
use Rattle.blocktri.specs.GivenOrders.{HavePairingRoom, IsPairingRefusal, TellsOrderedBy}
use Rattle.blocktri.specs.PairedOrders.{TellsCompletedOrder}
use Rattle.blocktri.specs.declared.pairing_refusals.PairingRefusal.{PairingRefusal}
use Rattle.blocktri.specs.declared.pairing_refusals.PairingRefusal.TheVariants.{Lists, BadPair}
use Rattle.blocktri_c.specs.OrderStatuses.{OrderOutputs, blocks_or_none}
use Rattle.blocktri_c.specs.Statuses.{Refuses, fault_of, status_of}

-- the orders of a square matrix by a completed matching
pub record TellsCompletedOutputs (a : Matrix) (wanted : Bool) (old new : OrderOutputs)
    : Type 0 where
  pub count : Option ℕ
  pub orders : TellsCompletedOrder a wanted new.rank count old.lists new.lists
  pub blocks : new.blocks ≡ blocks_or_none count

-- at status 0 the answer stands in the lists; at 2 the matrix is not square, and then, as at any
-- other, all is as it was
pub record AnswersCompleted (status : ℤ) (l : CompressedLists) (wanted : Bool)
    (old new : OrderOutputs) : Type 0 where
  pub found : status ≡ pos 0 → HasMatrix l (λ a. TellsCompletedOutputs a wanted old new)
  pub not_square : status ≡ pos 2 → HasMatrix l (λ a. a.rows ≢ cols a)
  pub kept : status ≢ pos 0 → new ≡ old

-- at a refusal the status and the place of the fault tell its cause
pub record TellsCompletedFault (status : ℤ) (l : CompressedLists) (lists : OrderLists)
    (old new : ℕ) : Type 0 where
  pub fit : (status ≡ pos 0) ⊎ (status ≡ pos 2) → HaveOrderRoom l lists × (new ≡ old)
  pub refused : status ≢ pos 0 → status ≢ pos 2
      → Refuses (IsRefusal (HaveOrderRoom l lists) l.others l.starts l.ids) status old new

-- the lists that the orders by given pairs are written to, and the number of blocks
pub record OrderByOutputs : Type 0 where
  pub lists : OrderLists
  pub blocks : ℕ

abbrev pub order_by_outputs : OrderLists → ℕ → OrderByOutputs
order_by_outputs lists blocks = record { lists = lists; blocks = blocks }

-- at status 0 the orders by the pairs stand in the lists; at 2 the matrix is not square, and then, as
-- at any other, all is as it was
pub record AnswersOrderBy (status : ℤ) (l : CompressedLists) (pairs : List ℕ)
    (old new : OrderByOutputs) : Type 0 where
  pub found : status ≡ pos 0 → HasMatrix l
      (λ a. TellsOrderedBy a pairs new.blocks old.lists new.lists)
  pub not_square : status ≡ pos 2 → HasMatrix l (λ a. a.rows ≢ cols a)
  pub kept : status ≢ pos 0 → new ≡ old

abbrev pub pairing_status_of : PairingRefusal → ℤ
pairing_status_of (Lists refusal) = status_of refusal
pairing_status_of (BadPair column) = pos 27

-- the place of the fault; of what has no place, what stood there
abbrev pub pairing_fault_of : PairingRefusal → ℕ → ℕ
pairing_fault_of (Lists refusal) old = fault_of refusal old
pairing_fault_of (BadPair column) old = column

-- the status and the fault's place tell a refusal of which P holds
pub record RefusesPairingAs (P : PairingRefusal → Type 0) (status : ℤ) (old new : ℕ) : Type 0 where
  pub refusal : PairingRefusal
  pub cause : P refusal
  pub status_is : status ≡ pairing_status_of refusal
  pub fault_is : new ≡ pairing_fault_of refusal old

-- at a refusal the status and the place of the fault tell its cause
pub record TellsOrderByFault (status : ℤ) (l : CompressedLists) (pairs : List ℕ)
    (lists : OrderLists) (old new : ℕ) : Type 0 where
  pub fit : (status ≡ pos 0) ⊎ (status ≡ pos 2) → HavePairingRoom l pairs lists × (new ≡ old)
  pub refused : status ≢ pos 0 → status ≢ pos 2
      → RefusesPairingAs (IsPairingRefusal (HavePairingRoom l pairs lists) l pairs) status old new
