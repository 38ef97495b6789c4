-- How a job ends that asks for a full matching of an integer file's matrix: by the matrix, and where the file has no weights.
use Rattle.std.proofs.Common.{◌≡◌, ◌≢◌, ◌<◌, ◌⊎◌, ℕ, Bool, List, arith, inl, inr, refl, subst, sym}
use Rattle.bip_defs.specs.Bottleneck.{IsFull, IsSingular}
use Rattle.bip_defs.specs.Matching.{IsRank}
use Rattle.bip_defs.specs.Matrix.{Matrix, Place, cols}
use Rattle.bip_defs.proofs.Uniqueness.{same_matrix, same_rank}
use Rattle.btf_tool.specs.declared.answers.Answer.{Answer}
use Rattle.btf_tool.specs.declared.answers.Answer.TheVariants.{Negative, Positive}
use Rattle.btf_tool.specs.Jobs.{IsMatrixOf}
use Rattle.btf_tool.specs.Refusals.{status_of_answer}
use Rattle.btf_tool.specs.Runs.{ComesToDiagonal, IsOrNoMemory, IsWithin}
use Rattle.sp_ids.specs.Entries.{Entries}
use Rattle.sp_ids.specs.declared.outcomes.Status.{Status}
use Rattle.sp_ids.specs.declared.outcomes.Status.TheVariants as statuses
use Rattle.sp_pattern.specs.Weights.{IsFirstPast}

-- what the law `full_matching_shows_rank` says
abbrev pub FullHasRank : Type 0
FullHasRank = (a : Matrix) (m : List Place) → IsFull a m → IsRank a (cols a)

-- the answer is whether the matrix has a full matching
pub record TellsFull (a : Matrix) (answer : Answer) : Type 0 where
  pub rectangular : ¬ (a.rows ≡ cols a) → answer ≡ Negative
  pub singular : (k : ℕ) → IsRank a k → k < cols a → answer ≡ Negative
  pub full : a.rows ≡ cols a → IsRank a (cols a) → answer ≡ Positive

pub tells_rectangular : (a : Matrix) → a.rows ≢ cols a → TellsFull a Negative
tells_rectangular a not = record {
  rectangular = λ _. refl;
  singular = λ k rank below. refl;
  full = λ square rank. absurd (not square);
}

pub tells_singular : (a : Matrix) (rank : ℕ) (hall : List ℕ) → IsSingular a rank hall → TellsFull a Negative
tells_singular a r hall is = record {
  rectangular = λ _. refl;
  singular = λ k rank below. refl;
  full = λ square rank.
      let same : r ≡ cols a = same_rank a r (cols a) is.is_rank rank in
      let below = is.below in
      absurd (omega (arith, same, below));
}

pub tells_full : FullHasRank → (a : Matrix) (m : List Place) → a.rows ≡ cols a → IsFull a m → TellsFull a Positive
tells_full full_rank a m square is = record {
  rectangular = λ not. absurd (not square);
  singular = λ k rank below.
      let same : k ≡ cols a = same_rank a k (cols a) rank (full_rank a m is) in
      absurd (omega (arith, same, below));
  full = λ _ rank. refl;
}

-- such an answer over the entries comes to what was asked for
pub comes_to : (drop_zeros : Bool) (t : Entries) (a : Matrix) (answer : Answer) (status : Status) → IsMatrixOf drop_zeros t a → TellsFull a answer → IsOrNoMemory status (status_of_answer answer)
    → ComesToDiagonal drop_zeros t status
comes_to drop_zeros t a answer status of tells ends = record {
  comes = λ within. either answer ends;
  rectangular = λ within b of_b not. ended Negative (tells.rectangular (λ e. not (subst (λ (x : Matrix). x.rows ≡ cols x) (same b of_b) e)));
  singular = λ within b k of_b rank below. ended Negative
      (tells.singular k (subst (λ (x : Matrix). IsRank x k) (sym (same b of_b)) rank) (subst (λ (x : Matrix). k < cols x) (sym (same b of_b)) below));
  full = λ within b of_b square rank. ended Positive
      (tells.full (subst (λ (x : Matrix). x.rows ≡ cols x) (sym (same b of_b)) square) (subst (λ (x : Matrix). IsRank x (cols x)) (sym (same b of_b)) rank));
}
  where
    same : (b : Matrix) → IsMatrixOf drop_zeros t b → a ≡ b
    same b of_b = same_matrix _ _ _ a b of of_b

    either : (x : Answer) → IsOrNoMemory status (status_of_answer x) → (status ≡ statuses.Negative) ⊎ IsOrNoMemory status statuses.Ok
    either Positive e = inr e
    either Negative (inl is) = inl is
    either Negative (inr none) = inr (inr none)

    ended : (wanted : Answer) → answer ≡ wanted → IsOrNoMemory status (status_of_answer wanted)
    ended wanted is = subst (λ (x : Answer). IsOrNoMemory status (status_of_answer x)) is ends

-- where memory ran out
pub no_diagonal_memory : (drop_zeros : Bool) (t : Entries) (status : Status) → status ≡ statuses.OutOfMemory → ComesToDiagonal drop_zeros t status
no_diagonal_memory drop_zeros t status said = record {
  comes = λ within. inr (inr said);
  rectangular = λ within a of not. inr said;
  singular = λ within a k of rank below. inr said;
  full = λ within a of square rank. inr said;
}

-- where a sum passes the limit
pub past_ends : (drop_zeros : Bool) (t : Entries) (a : Matrix) (r c : ℕ) (status : Status) → IsFirstPast t a r c → ComesToDiagonal drop_zeros t status
past_ends drop_zeros t a r c status first = record {
  comes = λ within. absurd (too_large within);
  rectangular = λ within b of not. absurd (too_large within);
  singular = λ within b k of rank below. absurd (too_large within);
  full = λ within b of square rank. absurd (too_large within);
}
  where
    too_large : IsWithin t → ⊥
    too_large within = let small = within r c in let past = first.past in omega (arith, small, past)
