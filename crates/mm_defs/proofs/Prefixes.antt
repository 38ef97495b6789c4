-- What is found in a prefix of the bytes stays, whatever follows.
use Rattle.std.proofs.Common.{◌≡◌, ℕ, Bool, true, false, List, [], ◌∷◌, ◌++◌, refl, slice_get, Option, Some, None}
use Rattle.mm_defs.specs.declared.answers.End.{End}
use Rattle.mm_defs.specs.Words.{lines}
use Rattle.mm_defs.specs.File.{Fault, line_faults, faults, first_fault, missing}
use Rattle.mm_defs.proofs.Lines.{lines-append}
use Rattle.mm_defs.proofs.Roles.{line_faults-append, line_faults-none}

pub first-append : (xs ys : List Fault) (x : Fault) → slice_get xs 0 ≡ Some x → slice_get (xs ++ ys) 0 ≡ Some x
first-append [] ys x h = absurd cc
first-append (a ∷ xs) ys x h = h

line_fault_stays : (end : End) (ls ms : List (List ℕ)) (x : Fault) → slice_get (line_faults end ls) 0 ≡ Some x → slice_get (line_faults end (ls ++ ms)) 0 ≡ Some x
line_fault_stays end ls ms x h =
    let r = line_faults-append end ls ms in
    rw r.1 (first-append (line_faults end ls) r.0 x h)

-- the first fault of lines stays the first one, also where the input ends behind more lines
pub fault_stays : (end : End) (ended : Bool) (ls ms : List (List ℕ)) (x : Fault) → slice_get (line_faults end ls) 0 ≡ Some x → slice_get (faults end ended (ls ++ ms)) 0 ≡ Some x
fault_stays end ended [] ms x h = let e = line_faults-none end in let n : None ≡ Some x = rw e at h in absurd cc
fault_stays end false (l ∷ ls) ms x h = line_fault_stays end (l ∷ ls) ms x h
fault_stays end true (l ∷ ls) ms x h = first-append (line_faults end ((l ∷ ls) ++ ms)) (missing ((l ∷ ls) ++ ms)) x (line_fault_stays end (l ∷ ls) ms x h)

-- a bad line stays the first one
pub bad_stays : (end : End) (ended : Bool) (bytes more : List ℕ) (x : Fault) → first_fault end false bytes ≡ Some x → first_fault end ended (bytes ++ more) ≡ Some x
unfolding first_fault
bad_stays end ended bytes more x h =
    let r = lines-append ended bytes more in
    rw r.1 (fault_stays end ended (lines false bytes) r.0 x h)

-- a good file has no fault
pub good_file : (end : End) (bytes : List ℕ) → faults end true (lines true bytes) ≡ [] → first_fault end true bytes ≡ None
unfolding first_fault
good_file end bytes good = rw good refl

-- no line of a prefix of a good file is bad
pub good_prefix : (end : End) (bytes more : List ℕ) → faults end true (lines true (bytes ++ more)) ≡ [] → first_fault end false bytes ≡ None
good_prefix end bytes more good = by (first_fault end false bytes) refl
  where
    by : (o : Option Fault) → first_fault end false bytes ≡ o → first_fault end false bytes ≡ None
    by None e = e
    by (Some x) e =
        let h = bad_stays end true bytes more x e in
        let n = good_file end (bytes ++ more) good in
        absurd cc
