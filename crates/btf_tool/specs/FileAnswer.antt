-- What is answered for the bytes of a file.
use Rattle.std.specs.Prelude.{◌≡◌, ℕ, Bool, true, List, [], Some}
use Rattle.bip_defs.specs.ConnectedComponents.{AreConnectedComponents}
use Rattle.bip_defs.specs.Matrix.{HasPlaces, Matrix}
use Rattle.bip_graph.specs.Decompositions.{Decomposes, components_of}
use Rattle.bip_graph.specs.declared.answers.Components.{Components}
use Rattle.bip_graph.specs.declared.answers.Decomposition.{Decomposition}
use Rattle.btf_tool.specs.declared.file_answer.FileAnswer.{FileAnswer}
use Rattle.btf_tool.specs.declared.file_answer.FileAnswer.TheVariants.{Bad, Report}
use Rattle.mm_defs.specs.Faults.{is_limit}
use Rattle.mm_defs.specs.File.{Reads, first_fault}
use Rattle.mm_defs.specs.declared.answers.End.TheVariants.{File}
use Rattle.mm_defs.specs.declared.kinds.Kind.{Kind}
use Rattle.sp_ids.specs.Entries.{Entries, places}

-- the bytes are a good matrix file, and this is found of its matrix
pub record IsAnalysed (bytes : List ℕ) (d : Decomposition) (c : Components) : Type 0 where
  pub entries : Entries
  pub matrix : Matrix
  pub reads : Reads bytes File entries []
  pub is_matrix : HasPlaces entries.rows entries.cols (places entries) matrix
  pub decomposes : Decomposes matrix d
  pub are_components : AreConnectedComponents matrix (components_of c)

-- this is the first fault of the file that the bytes are, and it passes a limit or it does not
pub record IsFaulty (bytes : List ℕ) (limit : Bool) (line : ℕ) (kind : Kind) : Type 0 where
  pub first : first_fault File true bytes ≡ Some (record { line = line; kind = kind })
  pub limit_is : limit ≡ is_limit kind

abbrev pub IsFileAnswer : List ℕ → FileAnswer → Type 0
IsFileAnswer bytes (Report d c) = IsAnalysed bytes d c
IsFileAnswer bytes (Bad limit line kind) = IsFaulty bytes limit line kind
