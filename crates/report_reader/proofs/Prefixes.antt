-- A list that is read in a loop: what was read before, and what is read now.
use Rattle.std.proofs.Common.{◌≡◌, ℕ, List, [], ◌∷◌, ◌++◌, Option, Some, None, refl, sym, ap, append_assoc}
use Rattle.report_reader.specs.declared.stop.Stop.{Stop}
use Rattle.report_reader.specs.declared.stop.Stop.TheVariants.{Memory, Other}
use Rattle.report_reader.specs.ReportGrammar.{◌>>=◌, Stops}

abbrev pub with_prefix : {X : Type 0} → List X → Option (List X × List ℕ) → Option (List X × List ℕ)
with_prefix prefix read = read >>= λ x. Some (prefix ++ x.0, x.1)

pub no_prefix : {X : Type 0} (read : Option (List X × List ℕ)) → with_prefix [] read ≡ read
no_prefix (Some x) = refl
no_prefix None = refl

pub regroup : {X : Type 0} (prefix : List X) (n : X) (read : Option (List X × List ℕ)) → with_prefix prefix (read >>= λ x. Some (n ∷ x.0, x.1)) ≡ with_prefix (prefix ++ n ∷ []) read
regroup {X = X} prefix n (Some x) = ap (λ (ns : List X). Some (ns, x.1)) (sym (append_assoc prefix (n ∷ []) x.0))
regroup prefix n None = refl

-- where nothing is read of the whole because nothing is read of a part, they stop alike
pub stops_so : {A B : Type 0} (e : Stop) (r : Option A) (s : Option B) → (r ≡ None → s ≡ None) → Stops e r → Stops e s
stops_so Memory r s f h = tt
stops_so Other r s f h = f h
