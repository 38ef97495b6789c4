-- What `check` answers.
use Rattle.std.specs.Prelude.{◌≡◌, ℕ, List}
use Rattle.bip_defs.specs.Matrix.{Matrix}
use Rattle.btf_check.specs.Verdicts.{IsVerdict}
use Rattle.btf_check.specs.declared.verdict.Verdict.{Verdict}
use Rattle.btf_check.specs.declared.verdict.Verdict.TheVariants.{Invalid, Valid}
use Rattle.btf_lines.specs.Lines.{invalid_line, valid_line}
use Rattle.btf_tool.specs.declared.answers.Answer.{Answer}
use Rattle.btf_tool.specs.declared.answers.Answer.TheVariants.{Negative, Positive}

-- the line of a verdict
abbrev pub verdict_text : Verdict → List ℕ
verdict_text Valid = valid_line
verdict_text (Invalid reason) = invalid_line reason

abbrev pub answer_of : Verdict → Answer
answer_of Valid = Positive
answer_of (Invalid reason) = Negative

-- the line of the verdict on these bytes
pub record IsVerdictText (a : Matrix) (bytes : List ℕ) (answer : Answer)
    (text : List ℕ) : Type 0 where
  pub verdict : Verdict
  pub is_verdict : IsVerdict a bytes verdict
  pub answer_is : answer ≡ answer_of verdict
  pub spelled : text ≡ verdict_text verdict
