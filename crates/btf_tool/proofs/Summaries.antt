-- A matrix has one summary.
use Rattle.std.proofs.Common.{◌≡◌, ◌∙◌, ℕ, List, sym, ap, subst}
use Rattle.bip_defs.specs.Decomposition.{Decomposition}
use Rattle.bip_defs.specs.Matrix.{Matrix}
use Rattle.bip_defs.proofs.Uniqueness.{same_decomposition, same_matrix}
use Rattle.sp_pattern.specs.Load.{load_places}
use Rattle.btf_tool.specs.Summaries.{IsLoadMatrix, IsSummary, summary_of}

pub same_summary : (a : Matrix) (s t : List ℕ) → IsSummary a s → IsSummary a t → s ≡ t
same_summary a s t p q = p.spelled ∙ ap (λ (d : Decomposition). summary_of a d) (same_decomposition a p.decomposition q.decomposition p.is_decomposition q.is_decomposition) ∙ sym q.spelled

pub same_load : (size seed : ℕ) (a b : Matrix) (s t : List ℕ) → IsLoadMatrix size seed a → IsLoadMatrix size seed b → IsSummary a s → IsSummary b t → s ≡ t
same_load size seed a b s t made also p q = same_summary b s t (subst (λ (m : Matrix). IsSummary m s) (same_matrix size size (load_places size seed) a b made also) p) q
