-- What follows from an answer.
use Rattle.std.proofs.Common.{◌≡◌, ◌≢◌, ℕ, zero, suc, ◌+◌, ◌-◌, ◌<◌, ◌≤◌, Bool, true, false, not, ◌&&◌, List, [], ◌∷◌, ◌++◌, length, take, drop, refl, sym, ap, ◌∙◌, Option, Some, None, Result, Ok, Err, append_assoc, take-append-drop, take_all, length-append, length-take, length-take-le, length-drop, arith, leb-true, nat_le, ne_eqb, ◌==◌}
use Rattle.std.proofs.lemmas.Bool.{lt-leb}
use Rattle.std.proofs.Math.Seq.{take-length}
use Rattle.sp_ids.specs.Entries as entries
use Rattle.mm_defs.specs.declared.answers.End.{End}
use Rattle.mm_defs.specs.declared.answers.ReadError.{ReadError}
use Rattle.mm_defs.specs.declared.answers.ReadError.TheVariants as errors
use Rattle.mm_defs.specs.Words.{has_bytes, lines}
use Rattle.mm_defs.specs.File.{Fault, Reads, faults, first_fault}
use Rattle.mm_defs.specs.Calls.{Call, offered, got, given, ended, first_bad, IsAnswer, FellShort, LacksLines, IsAnswerTo, IsRefusal, IsOkOrNoMemory, IsTooLongOrNoMemory}
use Rattle.mm_defs.proofs.Enough.{prefix_lacks_none}
use Rattle.mm_defs.proofs.Prefixes.{bad_stays, good_file}

pub and_left : (a b : Bool) → (a && b) ≡ true → a ≡ true
and_left true b h = refl
and_left false b h = h

pub and_right : (a b : Bool) → (a && b) ≡ true → b ≡ true
and_right true b h = h
and_right false b h = absurd cc

no_bytes : (bytes : List ℕ) → not (has_bytes bytes) ≡ true → bytes ≡ []
no_bytes [] h = refl
no_bytes (b ∷ bytes) h = absurd cc

-- what was given is a prefix of what was offered
pub given_prefix : (call : Call) → (more : List ℕ) × (given call ++ more ≡ offered call)
given_prefix call =
    let n : ℕ = length call.before - length call.after in
    let a : given call ++ drop call.room (got call) ≡ got call = take-append-drop call.room (got call) in
    let b : take n call.before ++ drop n call.before ≡ call.before = take-append-drop n call.before in
    let c : (given call ++ drop call.room (got call)) ++ drop n call.before ≡ got call ++ drop n call.before = ap (λ (t : List ℕ). t ++ drop n call.before) a in
    let d : call.ahead ++ (take n call.before ++ drop n call.before) ≡ offered call = ap (λ (t : List ℕ). call.ahead ++ t) b in (
      drop call.room (got call) ++ drop n call.before,
      sym (append_assoc (given call) (drop call.room (got call)) (drop n call.before)) ∙ c ∙ append_assoc call.ahead (take n call.before) (drop n call.before) ∙ d,
    )

-- what was given is all, where it has ended
pub given_all : (call : Call) → ended call ≡ true → given call ≡ offered call
given_all call h =
    let left = and_left _ _ h in
    let fits : length (got call) ≤ call.room = leb-true _ _ (and_left _ _ left) in
    let none : call.after ≡ [] = no_bytes call.after (and_right _ _ left) in
    let n : length call.before - length call.after ≡ length call.before = rw none (omega arith) in
    let k : got call ≡ offered call = rw n (ap (λ (t : List ℕ). call.ahead ++ t) (take-length call.before)) in
    take_all call.room (got call) fits ∙ k

take-append : (n : ℕ) (xs ys : List ℕ) → take n (xs ++ ys) ≡ take n xs ++ take (n - length xs) ys
take-append zero [] ys = refl
take-append zero (x ∷ xs) ys = let e : 0 - length (x ∷ xs) ≡ 0 = omega arith in rw e refl
take-append (suc n) [] ys = let e : suc n - length {A = ℕ} [] ≡ suc n = omega arith in rw e refl
take-append (suc n) (x ∷ xs) ys = let e : suc n - length (x ∷ xs) ≡ n - length xs = omega arith in rw e (ap (λ (t : List ℕ). x ∷ t) (take-append n xs ys))

-- what was given is a prefix of what the limit lets the call use
pub given_within : (call : Call) → (more : List ℕ) × (take call.room (offered call) ≡ given call ++ more)
given_within call =
    let n : ℕ = length call.before - length call.after in
    let d : got call ++ drop n call.before ≡ offered call = append_assoc call.ahead (take n call.before) (drop n call.before) ∙ ap (λ (t : List ℕ). call.ahead ++ t) (take-append-drop n call.before) in
    (take (call.room - length (got call)) (drop n call.before), rw (← d) (take-append call.room (got call) (drop n call.before)))

-- an input that gave more than it may, or failed, has not ended
pub past_goes_on : (call : Call) → call.room < length (got call) → ended call ≡ false
past_goes_on call past = let e : nat_le (length (got call)) call.room ≡ false = lt-leb (length (got call)) call.room past in rw e refl

pub failed_goes_on : (call : Call) → call.failures_before < call.failures_after → ended call ≡ false
failed_goes_on call failed =
    let e : (call.failures_before == call.failures_after) ≡ false = ne_eqb call.failures_before call.failures_after (λ same. omega (arith, same, failed)) in
    rw e (and_false (nat_le (length (got call)) call.room && not (has_bytes call.after)))
  where
    and_false : (b : Bool) → (b && false) ≡ false
    and_false true = refl
    and_false false = refl

-- ---- of what was given, where a first fault stays the first one whatever follows

module _ (first : Bool → List ℕ → Option Fault) (stays : (ended : Bool) (bytes more : List ℕ) (x : Fault) → first false bytes ≡ Some x → first ended (bytes ++ more) ≡ Some x) where
  stays_none : (ended : Bool) (bytes more : List ℕ) → first ended (bytes ++ more) ≡ None → first false bytes ≡ None
  stays_none ended bytes more none = by (first false bytes) refl
    where
      by : (o : Option Fault) → first false bytes ≡ o → first false bytes ≡ None
      by None e = e
      by (Some x) e = let h = stays ended bytes more x e in absurd cc

  -- no line is bad, where none is of all that was offered
  pub none_of_all : (call : Call) → first true (offered call) ≡ None → first (ended call) (given call) ≡ None
  none_of_all call none = by (ended call) refl
    where
      by : (e : Bool) → ended call ≡ e → first (ended call) (given call) ≡ None
      by true e = let k = given_all call e in rw (e, k) none
      by false e = let r = given_prefix call in rw e (stays_none true (given call) r.0 (rw r.1 none))

  -- or where none within the limit is
  pub none_of_limit : (call : Call) → call.room < length (offered call) → first false (take call.room (offered call)) ≡ None → first (ended call) (given call) ≡ None
  none_of_limit call past none = by (ended call) refl
    where
      by : (e : Bool) → ended call ≡ e → first (ended call) (given call) ≡ None
      by true e =
          let k : length (given call) ≡ length (offered call) = ap length (given_all call e) in
          let m : length (given call) ≤ call.room = rw (length-take call.room (got call)) (omega arith) in
          absurd (omega arith)
      by false e = let r = given_within call in rw e (stays_none false (given call) r.0 (rw (← r.1) none))

-- of a good file no line is bad, however much of it was given
good_given : (end : End) (call : Call) → faults end true (lines true (offered call)) ≡ [] → first_bad end call ≡ None
good_given end call good = none_of_all (first_fault end) (bad_stays end) call (good_file end (offered call) good)

-- a bad line is answered, and the first one
pub bad_line_known : (end : End) (call : Call) (rest : List ℕ) (result : Result entries.Entries ReadError) (fault : Fault) → IsAnswer end call rest result → first_bad end call ≡ Some fault → IsAnswerTo fault result
bad_line_known end call rest (Ok t) fault h bad = let n = good_given end call h.reads.good in absurd cc
bad_line_known end call rest (Err (errors.Malformed line kind)) fault h bad = cc
bad_line_known end call rest (Err (errors.Limit line kind)) fault h bad = cc
bad_line_known end call rest (Err errors.TooLong) fault h bad = cc
bad_line_known end call rest (Err errors.ReadFault) fault h bad = cc
bad_line_known end call rest (Err errors.OutOfMemory) fault h bad = tt

-- what came is no longer than what was offered
pub length_got : (call : Call) → length (got call) ≤ length (offered call)
length_got call = simp (length-append, length-take) (omega arith)

-- a good file within the limit is read, where no read failed
pub good_file_answer : (end : End) (call : Call) (rest : List ℕ) (result : Result entries.Entries ReadError) (t : entries.Entries) (follows : List ℕ)
    → IsAnswer end call rest result → Reads (offered call) end t follows → length (offered call) ≤ call.room → call.failures_after ≡ call.failures_before
    → IsOkOrNoMemory result
good_file_answer end call rest (Ok u) t follows h reads fits steady = tt
good_file_answer end call rest (Err (errors.Malformed line kind)) t follows h reads fits steady = let n = good_given end call reads.good in cc
good_file_answer end call rest (Err (errors.Limit line kind)) t follows h reads fits steady = let n = good_given end call reads.good in cc
good_file_answer end call rest (Err errors.TooLong) t follows h reads fits steady = let k = length_got call in omega (arith, h.1)
good_file_answer end call rest (Err errors.ReadFault) t follows h reads fits steady = omega (arith, h.1)
good_file_answer end call rest (Err errors.OutOfMemory) t follows h reads fits steady = tt

-- what is read says what a good file says
pub good_file_entries : (end : End) (call : Call) (rest : List ℕ) (t u : entries.Entries) (follows : List ℕ) → IsAnswer end call rest (Ok u) → Reads (offered call) end t follows → (u ≡ t) × (rest ≡ follows)
good_file_entries end call rest t u follows h reads = (h.reads.entries ∙ sym reads.entries, h.reads.follows ∙ sym reads.follows)

-- other bytes are refused, where no read failed
pub bad_file_answer : (end : End) (call : Call) (rest : List ℕ) (result : Result entries.Entries ReadError)
    → IsAnswer end call rest result → ((t : entries.Entries) (follows : List ℕ) → Reads (offered call) end t follows → ⊥) → call.failures_after ≡ call.failures_before
    → IsRefusal result
bad_file_answer end call rest (Ok t) h none steady = none t rest h.reads
bad_file_answer end call rest (Err (errors.Malformed line kind)) h none steady = tt
bad_file_answer end call rest (Err (errors.Limit line kind)) h none steady = tt
bad_file_answer end call rest (Err errors.TooLong) h none steady = tt
bad_file_answer end call rest (Err errors.ReadFault) h none steady = omega (arith, h.1)
bad_file_answer end call rest (Err errors.OutOfMemory) h none steady = tt

-- ---- the limit

length_given : (call : Call) → call.room < length (got call) → length (given call) ≡ call.room
length_given call past = length-take-le call.room (got call) (omega arith)

-- a matrix that ends within the limit is not too long
not_too_long : (end : End) (call : Call) (t : entries.Entries) (follows : List ℕ) → Reads (offered call) end t follows → length (offered call) - length follows ≤ call.room → call.room < length (got call)
    → LacksLines end (lines false (given call)) → ⊥
not_too_long end call t follows reads fits past lacks =
    let r = given_prefix call in
    let g = length_given call past in
    let o = length_got call in
    let n : length (given call) + length r.0 ≡ length (offered call) = sym (length-append (given call) r.0) ∙ ap length r.1 in
    let some : r.0 ≢ [] = λ e. let z : length r.0 ≡ 0 = ap length e in omega arith in
    prefix_lacks_none end (given call) r.0 t follows (rw r.1 reads) (rw (r.1, g) fits) some lacks

-- a matrix that ends within the limit is read, where no read failed
pub good_matrix_answer : (end : End) (call : Call) (rest : List ℕ) (result : Result entries.Entries ReadError) (t : entries.Entries) (follows : List ℕ)
    → IsAnswer end call rest result → FellShort end call result → Reads (offered call) end t follows → length (offered call) - length follows ≤ call.room
    → call.failures_after ≡ call.failures_before → IsOkOrNoMemory result
good_matrix_answer end call rest (Ok u) t follows h short reads fits steady = tt
good_matrix_answer end call rest (Err (errors.Malformed line kind)) t follows h short reads fits steady = let n = good_given end call reads.good in cc
good_matrix_answer end call rest (Err (errors.Limit line kind)) t follows h short reads fits steady = let n = good_given end call reads.good in cc
good_matrix_answer end call rest (Err errors.TooLong) t follows h short reads fits steady = absurd (not_too_long end call t follows reads fits h.1 short)
good_matrix_answer end call rest (Err errors.ReadFault) t follows h short reads fits steady = omega (arith, h.1)
good_matrix_answer end call rest (Err errors.OutOfMemory) t follows h short reads fits steady = tt

-- no line is bad, where none within the limit is
pub none_given : (end : End) (call : Call) → call.room < length (offered call) → first_fault end false (take call.room (offered call)) ≡ None → first_bad end call ≡ None
none_given end call past none = none_of_limit (first_fault end) (bad_stays end) call past none

-- bytes past the limit are told, where the matrix has not ended within it and no line within it is bad
pub too_long_answer : (end : End) (call : Call) (rest : List ℕ) (result : Result entries.Entries ReadError)
    → IsAnswer end call rest result → call.room < length (offered call) → first_fault end false (take call.room (offered call)) ≡ None → LacksLines end (lines false (take call.room (offered call)))
    → call.failures_after ≡ call.failures_before → IsTooLongOrNoMemory result
too_long_answer end call rest (Ok t) h past good lacks steady =
    let n : length (take call.room (offered call)) ≡ call.room = length-take-le call.room (offered call) (omega arith) in
    let d = length-drop call.room (offered call) in
    let some : drop call.room (offered call) ≢ [] = λ e. let z : length (drop call.room (offered call)) ≡ 0 = ap length e in omega arith in
    let all = take-append-drop call.room (offered call) in
    absurd (prefix_lacks_none end (take call.room (offered call)) (drop call.room (offered call)) t rest (rw all h.reads) (rw (all, n) h.within) some lacks)
too_long_answer end call rest (Err (errors.Malformed line kind)) h past good lacks steady = let n = none_given end call past good in cc
too_long_answer end call rest (Err (errors.Limit line kind)) h past good lacks steady = let n = none_given end call past good in cc
too_long_answer end call rest (Err errors.TooLong) h past good lacks steady = tt
too_long_answer end call rest (Err errors.ReadFault) h past good lacks steady = omega (arith, h.1)
too_long_answer end call rest (Err errors.OutOfMemory) h past good lacks steady = tt
