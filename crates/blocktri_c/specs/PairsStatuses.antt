-- What a call on matchings from given pairs leaves, by its status.
use Rattle.std.specs.Prelude.{◌≡◌, ◌≢◌, ℕ, ℤ, Bool, pos}
use Rattle.blocktri.specs.Compressed.{CompressedLists, HasMatrix}
use Rattle.blocktri.specs.GivenPairs.{HavePairsRoom, IsPairsRefusal, TellsMatchingFrom}
use Rattle.blocktri.specs.declared.pairs_refusals.PairsRefusal.{PairsRefusal}
use Rattle.blocktri.specs.declared.pairs_refusals.PairsRefusal.TheVariants.{BadPair, Columns, Lengths}
use Rattle.blocktri.specs.declared.refusals.Refusal.TheVariants as refusal
use Rattle.blocktri_c.specs.MatchingStatuses.{MatesLists}
use Rattle.blocktri_c.specs.Statuses.{fault_of, status_of}

abbrev pub pairs_status_of : PairsRefusal → ℤ
pairs_status_of Lengths = pos 22
pairs_status_of (Columns error) = status_of (refusal.Columns error)
pairs_status_of (BadPair column) = pos 27

-- the place of the fault; of what has no place, what stood there
abbrev pub pairs_fault_of : PairsRefusal → ℕ → ℕ
pairs_fault_of Lengths old = old
pairs_fault_of (Columns error) old = fault_of (refusal.Columns error) old
pairs_fault_of (BadPair column) old = column

-- the lists have room for the mates
abbrev pub HasRoomForPairs : CompressedLists → MatesLists → Type 0
HasRoomForPairs l x = HavePairsRoom l x.row_of_column x.column_of_row

-- at status 0 the answer stands in the lists; at any other all is as it was
pub record AnswersMatchingFrom (status : ℤ) (l : CompressedLists) (least : Bool)
    (old new : MatesLists) : Type 0 where
  pub found : status ≡ pos 0 → HasMatrix l (λ a. TellsMatchingFrom a least new.size
      old.row_of_column new.row_of_column old.column_of_row new.column_of_row)
  pub fit : status ≡ pos 0 → HasRoomForPairs l old
  pub kept : status ≢ pos 0 → new ≡ old

-- the status and the fault's place tell a refusal of which P holds
pub record RefusesPairs (P : PairsRefusal → Type 0) (status : ℤ) (old new : ℕ) : Type 0 where
  pub refusal : PairsRefusal
  pub cause : P refusal
  pub status_is : status ≡ pairs_status_of refusal
  pub fault_is : new ≡ pairs_fault_of refusal old

-- at a refusal the status and the place of the fault tell its cause
pub record TellsPairsFault (status : ℤ) (l : CompressedLists) (lists : MatesLists) (old new : ℕ)
    : Type 0 where
  pub no_fault : status ≡ pos 0 → new ≡ old
  pub refused : status ≢ pos 0
      → RefusesPairs (IsPairsRefusal (HasRoomForPairs l lists) l lists.row_of_column) status old
      new
