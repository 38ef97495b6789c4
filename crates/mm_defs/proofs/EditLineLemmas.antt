-- What more edit lines add to the faults.
use Rattle.std.proofs.Common.{◌≡◌, ℕ, suc, ◌+◌, Bool, true, false, not, List, [], ◌∷◌, ◌++◌, length, map, refl, sym, ap, ◌∙◌, append_assoc, arith, add-zero}
use Rattle.std.proofs.lemmas.List.Elements.{filter-append}
use Rattle.mm_defs.specs.EditLines.{edit_rules, edit_lines, edit_faults_from, edit_faults}
use Rattle.mm_defs.specs.File.{Fault, fault_by}
use Rattle.mm_defs.specs.Words.{Line, Word, is_skipped, numbered, kept, words}
use Rattle.mm_defs.proofs.Roles.{numbered-append}

pub faults_from-append : (rows cols k : ℕ) (ls ms : List Line) → edit_faults_from rows cols k (ls ++ ms) ≡ edit_faults_from rows cols k ls ++ edit_faults_from rows cols (k + length ls) ms
faults_from-append rows cols k [] ms = rw add-zero refl
faults_from-append rows cols k (l ∷ ls) ms =
    let e : k + 1 + length ls ≡ k + length (l ∷ ls) = omega arith in
    ap (λ (t : List Fault). fault_by (edit_rules rows cols k) l ++ t) (faults_from-append rows cols (k + 1) ls ms ∙ ap (λ i. edit_faults_from rows cols (k + 1) ls ++ edit_faults_from rows cols i ms) e)
    ∙ sym (append_assoc (fault_by (edit_rules rows cols k) l) (edit_faults_from rows cols (k + 1) ls) (edit_faults_from rows cols (k + length (l ∷ ls)) ms))

pub edit_lines-append : (n : ℕ) (ls ms : List (List ℕ)) → edit_lines n (ls ++ ms) ≡ edit_lines n ls ++ kept (numbered (n + 1 + length ls) ms)
edit_lines-append n ls ms = ap kept (numbered-append (n + 1) ls ms) ∙ filter-append (λ (l : Line). not (is_skipped l.words)) (numbered (n + 1) ls) (numbered (n + 1 + length ls) ms)

-- the faults of lines stay the first ones
pub edit_faults-append : (n rows cols : ℕ) (ls ms : List (List ℕ)) → (more : List Fault) × (edit_faults n rows cols (ls ++ ms) ≡ edit_faults n rows cols ls ++ more)
unfolding edit_faults
edit_faults-append n rows cols ls ms = (
  edit_faults_from rows cols (0 + length (edit_lines n ls)) (kept (numbered (n + 1 + length ls) ms)),
  ap (edit_faults_from rows cols 0) (edit_lines-append n ls ms) ∙ faults_from-append rows cols 0 (edit_lines n ls) (kept (numbered (n + 1 + length ls) ms)),
)

-- no line, no fault
pub edit_faults-none : (n rows cols : ℕ) → edit_faults n rows cols [] ≡ []
unfolding edit_faults
edit_faults-none n rows cols = refl

-- what lines say by their words does not depend on their numbers
pub said_alike : {X : Type 0} (says : List Word → X) (n m : ℕ) (ls : List (List ℕ)) → map (λ (l : Line). says l.words) (kept (numbered n ls)) ≡ map (λ (l : Line). says l.words) (kept (numbered m ls))
said_alike says n m [] = refl
said_alike says n m (l ∷ ls) = by (is_skipped (words l)) refl (said_alike says (suc n) (suc m) ls)
  where
    by : (skipped : Bool) → is_skipped (words l) ≡ skipped → map (λ (k : Line). says k.words) (kept (numbered (suc n) ls)) ≡ map (λ (k : Line). says k.words) (kept (numbered (suc m) ls))
        → map (λ (k : Line). says k.words) (kept (numbered n (l ∷ ls))) ≡ map (λ (k : Line). says k.words) (kept (numbered m (l ∷ ls)))
    by true e same = rw e same
    by false e same = rw e (ap (λ t. says (words l) ∷ t) same)
