-- The report of an answer is the report of its matrix.
use Rattle.std.proofs.Common.{◌≡◌, Bool, List, Option, ap}
use Rattle.bip_defs.specs.ConnectedComponents.{Components}
use Rattle.bip_defs.specs.Matrix.{Matrix, Place}
use Rattle.bip_graph.specs.Answers.{report_of}
use Rattle.bip_graph.specs.Decompositions.{Decomposes, decomposition_of}
use Rattle.bip_graph.specs.declared.answers.Decomposition.{Decomposition}
use Rattle.btf_text.specs.Reports.{report_with, reported}

pub same_report : (a : Matrix) (d : Decomposition) (components : Option Components) (order : Bool) (pairs : Option (List Place)) → Decomposes a d → reported d components order pairs ≡ report_of a (decomposition_of d) components order pairs
same_report a d components order pairs is = ap (λ sizes. report_with sizes d components order pairs) (λ i. record { rows = is.rows i; cols = is.cols_are i; entries = is.entries i })
