-- The verdict on the bytes of a report.
use Rattle.std.specs.Prelude.{◌≡◌, ℕ, ◌<◌, Bool, false, true, List, Option, Some}
use Rattle.bip_defs.specs.ConnectedComponents.{Components}
use Rattle.bip_defs.specs.Decomposition.{Decomposition, IsDecompositionOf}
use Rattle.bip_defs.specs.Lists.{IsRising}
use Rattle.bip_defs.specs.Matching.{IsMaximum, cols_of}
use Rattle.bip_defs.specs.Matrix.{Matrix, Place}
use Rattle.bip_graph.specs.Answers.{AreOfVersion, IsAnalysis, report_of}
use Rattle.bip_graph.specs.Texts.{Report, report_text}
use Rattle.report_reader.specs.Readable.{IsReadable}
use Rattle.btf_check.specs.Reasons.{IsMet}
use Rattle.btf_check.specs.declared.verdict.Verdict.{Verdict}
use Rattle.btf_check.specs.declared.verdict.Verdict.TheVariants.{Invalid, Valid}

-- the report with pairs of the matrix, in some version, with orders or without
pub record IsReportOf (a : Matrix) (r : Report) : Type 0 where
  pub decomposition : Decomposition
  pub is_decomposition : IsDecompositionOf a decomposition
  pub version : ℕ
  pub components : Option Components
  pub of_version : AreOfVersion a version components
  pub order : Bool
  pub matching : List Place
  pub maximum : IsMaximum a matching
  pub rising : IsRising (cols_of matching)
  pub same : r ≡ report_of a decomposition components order (Some matching)

-- the first number at which what is asked does not hold
pub record IsFirst (asked : ℕ → Type 0) (k : ℕ) : Type 0 where
  pub fails : ¬ asked k
  pub before : (j : ℕ) → j < k → asked j

-- a report is that of the matrix, or the first reason that applies is told
abbrev pub IsJudged : Matrix → Report → Verdict → Type 0
IsJudged a r Valid = IsReportOf a r
IsJudged a r (Invalid k) = IsFirst (IsMet a r) k

-- the bytes are this report, with pairs and of numbers that are read
pub record Spells (bytes : List ℕ) (r : Report) : Type 0 where
  pub readable : IsReadable r
  pub spelled : bytes ≡ report_text r

-- what is asked of bytes under each number: under 1 that they are a report, and under the others what is asked of the report
pub record IsMetBy (a : Matrix) (bytes : List ℕ) (k : ℕ) : Type 0 where
  pub grammar : k ≡ 1 → (r : Report) × Spells bytes r
  pub report : (r : Report) → Spells bytes r → IsMet a r k

-- the bytes are the report with pairs of the matrix, in some version, with orders or without
abbrev pub IsValid : Matrix → List ℕ → Type 0
IsValid a bytes = (version : ℕ) × (order : Bool) × IsAnalysis a version order true false bytes

-- the bytes are valid, or the first reason that applies is told
abbrev pub IsVerdict : Matrix → List ℕ → Verdict → Type 0
IsVerdict a bytes Valid = IsValid a bytes
IsVerdict a bytes (Invalid k) = IsFirst (IsMetBy a bytes) k
