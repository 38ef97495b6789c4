-- What clap's answers say of the words of `btf_batch`.
use Rattle.std.proofs.Common.{◌≡◌, ◌∙◌, ℕ, true, List, [], ap, sym, subst, inl, inr}
use Rattle.clap.specs.Words.{App, HasKind, HasMatchesOf, Kinds, Text, fault_of, found_of, is_simple, is_simple_and_free, kind_of, matches_of, rows_of}
use Rattle.clap.specs.declared.error.Error.{Error}
use Rattle.clap.specs.declared.error.kind.ErrorKind.TheVariants as kind
use Rattle.clap.specs.declared.parser.matches.ArgMatches.{ArgMatches}
use Rattle.sp_ids.specs.Limits.{max_workers}
use Rattle.btf_words.specs.BatchWords.{AreTaken, btf_batch, workers_of}
use Rattle.btf_words.specs.Words.{number_in}
use Rattle.std.specs.Prelude.{codes}

-- words with which clap finds no fault are taken
pub taken : (app : App) (words : List Text) → app ≡ btf_batch → (is_simple_and_free app ≡ true → fault_of app words ≡ []) → AreTaken words
unfolding AreTaken
taken app words line none = sym (ap (λ (a : App). fault_of a words) line) ∙ none (ap is_simple_and_free line)

-- the number that was found is that of the words
pub number_found : (app : App) (words : List Text) (m : ArgMatches) (n : ℕ) → app ≡ btf_batch → HasMatchesOf app words m
    → n ≡ number_in 1 max_workers (codes "workers") (rows_of (found_of m)) → n ≡ workers_of words
unfolding workers_of
number_found app words m n line matches is =
    is ∙ ap (number_in 1 max_workers (codes "workers")) ((matches (ap is_simple line)).0 ∙ ap (λ (a : App). matches_of a words) line)

-- words that clap refuses for another cause than memory are not taken
pub refused : (app : App) (words : List Text) (e : Error) → app ≡ btf_batch
    → (is_simple_and_free app ≡ true → HasKind (fault_of app words) e) → (kind_of e ≡ kind.OutOfMemory → ⊥) → AreTaken words → ⊥
unfolding AreTaken
refused app words e line kinds other taken =
    elim (subst (λ (ks : Kinds). HasKind ks e) (ap (λ (a : App). fault_of a words) line ∙ taken) (kinds (ap is_simple_and_free line))) [ inl h ↦ other h | inr h ↦ absurd h ]
