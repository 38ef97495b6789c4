-- What `edit` answers.
use Rattle.std.specs.Prelude.{◌≡◌, ℕ, false, List, [], ◌∷◌, ◌++◌}
use Rattle.bip_defs.specs.EditedMatrix.{with_place, without_place}
use Rattle.bip_defs.specs.Matching.{IsRank}
use Rattle.bip_defs.specs.Matrix.{Matrix}
use Rattle.bip_graph.specs.Answers.{IsAnalysis}
use Rattle.bip_graph.specs.Texts.{rank_line, text_of}
use Rattle.mm_frames.specs.declared.edit.Edit.{Edit}
use Rattle.mm_frames.specs.declared.edit.Edit.TheVariants.{Clear, Report, Set}

-- the matrix that an edit leaves
abbrev pub after : Matrix → Edit → Matrix
after a (Set row col) = with_place a (row, col)
after a (Clear row col) = without_place a (row, col)
after a Report = a

-- the line of the matrix's rank
pub record IsRankReply (a : Matrix) (text : List ℕ) : Type 0 where
  pub rank : ℕ
  pub is_rank : IsRank a rank
  pub spelled : text ≡ text_of (rank_line rank ∷ [])

-- the reply to an edit that left this matrix: its rank or, where it was asked for, its report in version 2 without orders
-- and pairs
abbrev pub IsReply : Edit → Matrix → List ℕ → Type 0
IsReply (Set row col) a text = IsRankReply a text
IsReply (Clear row col) a text = IsRankReply a text
IsReply Report a text = IsAnalysis a 2 false false false text

-- the replies to edits, one after the other, each of the matrix that the edits up to it leave
abbrev pub AreReplies : Matrix → List Edit → List ℕ → Type 0
AreReplies a [] text = text ≡ []
AreReplies a (e ∷ es) text = (reply : List ℕ) × (others : List ℕ) × IsReply e (after a e) reply
    × AreReplies (after a e) es others × (text ≡ reply ++ others)

-- the rank of a matrix, and the replies to the edits that follow it
pub record IsSessionText (a : Matrix) (es : List Edit) (text : List ℕ) : Type 0 where
  pub first : List ℕ
  pub others : List ℕ
  pub is_rank : IsRankReply a first
  pub are_replies : AreReplies a es others
  pub spelled : text ≡ first ++ others
