-- A worker's share of a batch, and the answers to all of its files.
use Rattle.std.specs.Prelude.{◌≡◌, ◌≢◌, ◌≤◌, ◌<◌, ◌⊎◌, ℕ, zero, suc, List, [], ◌∷◌, ◌++◌, length, map, slice_get, slice_index_or, Option, Some, None}
use Rattle.std.specs.List.{All}
use Rattle.bip_defs.specs.Lists.{Among}
use Rattle.btf_tool.specs.FileAnswer.{IsFileAnswer}
use Rattle.btf_tool.specs.declared.file_answer.FileAnswer.{FileAnswer}
use Rattle.claim_words.specs.Board.{Board}
use Rattle.claim_words.specs.Listed.{Listed, followed_by, row_word}
use Rattle.claim_words.specs.Seat.{Seat, with_listed}
use Rattle.sp_ids.specs.Limits.{max_batch_file_bytes, max_batch_files}

-- a batch that is answered: at most so many files, each within the limit
pub record IsWithinLimits (files : List (List ℕ)) : Type 0 where
  pub few : length files ≤ max_batch_files
  pub small : All (λ file. length file ≤ max_batch_file_bytes) files

-- the answer to the file at this place
pub record IsAnswerAt (files : List (List ℕ)) (i : ℕ) (answer : FileAnswer) : Type 0 where
  pub file : List ℕ
  pub at : slice_get files i ≡ Some file
  pub is_answer : IsFileAnswer file answer

-- ---- what one worker has

-- the files, its seat at the board of all workers, and the answers that it has found
pub record Share : Type 0 where
  pub files : List (List ℕ)
  pub seat : Seat
  pub answers : List (ℕ × FileAnswer)

-- a share with no answers
abbrev pub new_share : List (List ℕ) → Seat → Share
new_share files seat = record { files = files; seat = seat; answers = [] }

abbrev pub AreAnswers : List (List ℕ) → List (ℕ × FileAnswer) → Type 0
AreAnswers files answers = All (λ (p : ℕ × FileAnswer). IsAnswerAt files p.0 p.1) answers

-- the files that these answers answer
abbrev pub answered : List (ℕ × FileAnswer) → List ℕ
answered answers = map (λ (p : ℕ × FileAnswer). p.0) answers

-- its seat is one of this board, which has a row for each file
pub record IsAtBoard (board : Board) (share : Share) : Type 0 where
  pub seat : share.seat.board ≡ board
  pub rows : length board.rows ≡ length share.files

-- the files that each of them has
abbrev pub files_in : List Share → List (List (List ℕ))
files_in shares = map (λ (share : Share). share.files) shares

-- From what a worker has to what it has later, always: the files stay, the same seat has listed more, and more answers
-- stand behind those before.
pub record Continues (old new : Share) : Type 0 where
  pub files : new.files ≡ old.files
  pub listed : Listed
  pub seat : new.seat ≡ with_listed old.seat (followed_by old.seat.listed listed)
  pub more : List (ℕ × FileAnswer)
  pub answers : new.answers ≡ old.answers ++ more

-- where it had memory: it has claimed meanwhile for this worker alone, and has the answer to each file that it has claimed
pub record AnswersItsClaims (worker : ℕ) (old new : Share) : Type 0 where
  pub continues : Continues old new
  pub claimed : (i other : ℕ) → Among (i, other) continues.listed.claims
      → (other ≡ worker) × Among i (answered new.answers)

-- the seat lists the file as claimed for some worker, or has seen it held by one
abbrev pub IsKnown : Seat → ℕ → Type 0
IsKnown seat i = (worker : ℕ) × (Among (i, worker) seat.listed.claims
    ⊎ Among (row_word i (Some worker)) seat.listed.seen)

-- where it had memory for a whole round: each file is listed or was seen held, and this worker's are answered
pub record GoesRound (worker : ℕ) (old new : Share) : Type 0 where
  pub known : (i : ℕ) → i < length new.files → IsKnown new.seat i
  pub own : AnswersItsClaims worker old new

-- ---- the answers to all files

-- a slot for each file, empty or full
pub record Slots : Type 0 where
  pub files : List (List ℕ)
  pub slots : List (Option FileAnswer)

-- what stands in a slot; nothing past the last one
abbrev pub slot_at : List (Option FileAnswer) → ℕ → Option FileAnswer
slot_at slots i = slice_index_or slots i None

-- there is a slot for each file, and each full slot has the answer to its own file
pub record AreSlotsOf (files : List (List ℕ)) (slots : List (Option FileAnswer)) : Type 0 where
  pub count : length slots ≡ length files
  pub right : (i : ℕ) (answer : FileAnswer) → slot_at slots i ≡ Some answer
      → IsAnswerAt files i answer

-- the slot of each file is full
abbrev pub AreFull : Slots → Type 0
AreFull s = (i : ℕ) → i < length s.files → slot_at s.slots i ≢ None

-- no slot is full yet
abbrev pub empty_slots : ℕ → List (Option FileAnswer)
empty_slots zero = []
empty_slots (suc files) = None ∷ empty_slots files

-- full slots stay as they are
abbrev pub FillsOnly : List (Option FileAnswer) → List (Option FileAnswer) → Type 0
FillsOnly old new = (i : ℕ) (answer : FileAnswer) → slot_at old i ≡ Some answer
    → slot_at new i ≡ Some answer
