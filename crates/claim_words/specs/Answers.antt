-- What the answers of a claim and of a win tell of the word.
use Rattle.std.specs.Prelude.{ℕ, Option, None, Some}
use Rattle.claim_words.specs.declared.answers.Claimed.{Claimed}
use Rattle.claim_words.specs.declared.answers.Claimed.TheVariants as claimed
use Rattle.claim_words.specs.declared.answers.Won.{Won}
use Rattle.claim_words.specs.declared.answers.Won.TheVariants as won

-- the column that held the row before the claim
abbrev pub col_before : Claimed → Option ℕ
col_before claimed.Mine = None
col_before (claimed.Held col) = Some col

-- the leaf that the root had before the win
abbrev pub leaf_before : Won → Option ℕ
leaf_before won.Mine = None
leaf_before (won.Held leaf) = Some leaf
