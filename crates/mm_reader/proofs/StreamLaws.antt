-- From what the machine was given to what the answers say.
use Rattle.std.proofs.Common.{◌≡◌, ℕ, zero, suc, ◌+◌, ◌-◌, ◌<◌, ◌≤◌, Bool, true, false, ◌&&◌, ◌==◌, nat_le, List, [], ◌∷◌, ◌++◌, length, take, refl, sym, ap, subst, ◌∙◌, arith, append-nil, append_assoc, length-append, take_all, Some, None, Ok, Err, le-leb, ne_eqb, eq-eqb}
use Rattle.std.proofs.Math.Seq.{take-append_seam, take-append-add}
use Rattle.std.proofs.lemmas.Bool.{lt-leb}
use Rattle.sp_ids.specs.Entries as entries
use Rattle.mm_defs.specs.declared.answers.End.{End}
use Rattle.mm_defs.specs.declared.answers.ReadError.{ReadError}
use Rattle.mm_defs.specs.declared.answers.ReadError.TheVariants as errors
use Rattle.mm_defs.specs.Words.{lines}
use Rattle.mm_defs.specs.File.{Fault, Reads, line_faults, first_fault, behind}
use Rattle.mm_defs.specs.Calls.{Call, got, given, offered, ended, first_bad, FellShort, IsAnswer, IsNear, LacksLines}
use Rattle.mm_defs.proofs.Behind.{behind-prefix}
use Rattle.mm_defs.proofs.Prefixes.{bad_stays}
use Rattle.mm_reader.specs.Windows.{HasBadPrefix, Refuses, RefusesAtEnd}

first_is : (end : End) (bytes : List ℕ) (x : Fault) → line_faults end (lines false bytes) ≡ x ∷ [] → first_fault end false bytes ≡ Some x
unfolding first_fault
first_is end bytes x h = rw h refl

first_none : (end : End) (bytes : List ℕ) → line_faults end (lines false bytes) ≡ [] → first_fault end false bytes ≡ None
unfolding first_fault
first_none end bytes h = rw h refl

take-prefix : (n : ℕ) (xs ys : List ℕ) → length xs ≤ n → take n (xs ++ ys) ≡ xs ++ take (n - length xs) ys
take-prefix n xs ys h =
    let e : n ≡ length xs + (n - length xs) = omega arith in
    ap (λ k. take k (xs ++ ys)) e ∙ take-append-add xs ys (n - length xs)

module _ (end : End) (ahead before after gave used rest : List ℕ) (room fb fa : ℕ) (b : before ≡ gave ++ after) (split : ahead ++ gave ≡ used ++ rest) (fits : length used ≤ room) where
  abbrev call : Call
  call = record { room = room; ahead = ahead; before = before; after = after; failures_before = fb; failures_after = fa }

  gave-is : take (length before - length after) before ≡ gave
  gave-is =
      let n : length before ≡ length gave + length after = ap length b ∙ length-append gave after in
      let e : length before - length after ≡ length gave = omega arith in
      rw (e, b) (take-append_seam gave after)

  pub got-is : got call ≡ used ++ rest
  got-is = ap (λ (t : List ℕ). ahead ++ t) gave-is ∙ split

  pub offered-is : offered call ≡ used ++ (rest ++ after)
  offered-is = ap (λ (t : List ℕ). ahead ++ t) b ∙ sym (append_assoc ahead gave after) ∙ ap (λ (t : List ℕ). t ++ after) split ∙ append_assoc used rest after

  given-is : given call ≡ used ++ take (room - length used) rest
  given-is = ap (take room) got-is ∙ take-prefix room used rest fits

  -- ---- a bad line in what was used, or in the bytes ahead

  bad-first : (fault : Fault) → HasBadPrefix end used rest (room - length used) fault → first_bad end call ≡ Some fault
  bad-first fault h =
      let n : length h.prefix ≤ room - length used = h.short in
      let e : take (room - length used) rest ≡ h.prefix ++ take ((room - length used) - length h.prefix) h.rest = ap (take (room - length used)) h.ahead_is ∙ take-prefix (room - length used) h.prefix h.rest n in
      let k : given call ≡ (used ++ h.prefix) ++ take ((room - length used) - length h.prefix) h.rest =
      given-is ∙ ap (λ (t : List ℕ). used ++ t) e ∙ sym (append_assoc used h.prefix (take ((room - length used) - length h.prefix) h.rest)) in
      rw k (bad_stays end (ended call) (used ++ h.prefix) (take ((room - length used) - length h.prefix) h.rest) fault (first_is end (used ++ h.prefix) fault h.ends.bad))

  bad-near : (fault : Fault) → length rest ≤ 65536 → HasBadPrefix end used rest (room - length used) fault → length (behind fault.line (got call)) ≤ 65536
  bad-near fault small h =
      let k : got call ≡ (used ++ h.prefix) ++ h.rest = got-is ∙ ap (λ (t : List ℕ). used ++ t) h.ahead_is ∙ sym (append_assoc used h.prefix h.rest) in
      let e : behind fault.line (got call) ≡ h.rest = rw (k, h.ends.number_is) (behind-prefix (used ++ h.prefix) h.rest h.ends.closed) in
      let n : length rest ≡ length h.prefix + length h.rest = ap length h.ahead_is ∙ length-append h.prefix h.rest in
      rw e (omega arith)

  not-ended-past : room < length (got call) → ended call ≡ false
  not-ended-past h = let e = lt-leb (length (got call)) room h in rw e refl

  pub past : room - length used < length rest → room < length (got call)
  past h = let n : length (got call) ≡ length used + length rest = ap length got-is ∙ length-append used rest in omega arith

  too_long : (room - length used < length rest) → line_faults end (lines false (used ++ take (room - length used) rest)) ≡ [] → (first_bad end call ≡ None) × (room < length (got call))
  too_long h good =
      let p = past h in
      let e = not-ended-past p in
      (rw (e, given-is) (first_none end (used ++ take (room - length used) rest) good), p)

  pub refused_answer : (t : List ℕ) (error : ReadError) → length rest ≤ 65536 → Refuses end used rest (room - length used) error
      → IsAnswer end call t (Err error) × IsNear {T = entries.Entries} call (Err error) × FellShort {T = entries.Entries} end call (Err error)
  refused_answer t (errors.Malformed line kind) small h = ((bad-first _ h.0, h.1), bad-near _ small h.0, tt)
  refused_answer t (errors.Limit line kind) small h = ((bad-first _ h.0, h.1), bad-near _ small h.0, tt)
  refused_answer t errors.TooLong small h = (too_long h.0 h.1, tt, rw given-is h.2)
  refused_answer t errors.ReadFault small h = absurd h
  refused_answer t errors.OutOfMemory small h = (tt, tt, tt)

  -- ---- a read failed

  both_false : (a : Bool) → (a && false) ≡ false
  both_false true = refl
  both_false false = refl

  not-ended-failed : fb < fa → ended call ≡ false
  not-ended-failed h = let e : (fb == fa) ≡ false = ne_eqb fb fa (omega arith) in rw e (both_false _)

  append-nil-take : (n : ℕ) (xs : List ℕ) → xs ++ take n [] ≡ xs
  append-nil-take zero xs = append-nil xs
  append-nil-take (suc n) xs = append-nil xs

  given-all : rest ≡ [] → given call ≡ used
  given-all none = given-is ∙ rw none (append-nil-take (room - length used) used)

  pub fault_answer : (t : List ℕ) → rest ≡ [] → fb < fa → line_faults end (lines false used) ≡ [] → IsAnswer end call t (Err errors.ReadFault)
  fault_answer t none h good =
      let e = not-ended-failed h in
      let k = given-all none in
      (rw (e, k) (first_none end used good), h)

  pub fault_short : rest ≡ [] → LacksLines end (lines false used) → FellShort {T = entries.Entries} end call (Err errors.ReadFault)
  fault_short none lacks =
      let k = given-all none in
      let g : got call ≡ used = got-is ∙ rw none (append-nil used) in
      (rw k lacks, rw g fits)

  -- ---- the input ended

  module _ (none : rest ≡ []) (over : after ≡ []) (steady : fa ≡ fb) where
    got-used : got call ≡ used
    got-used = got-is ∙ rw none (append-nil used)

    given-used : given call ≡ used
    given-used = ap (take room) got-used ∙ take_all room used fits

    has-ended : ended call ≡ true
    has-ended =
        let a : nat_le (length (got call)) room ≡ true = rw got-used (le-leb (length used) room fits) in
        let c : (fb == fa) ≡ true = eq-eqb fb fa (sym steady) in
        rw (a, over, c) refl

    pub end_refused : (t : List ℕ) (error : ReadError) → RefusesAtEnd end used error
        → IsAnswer end call t (Err error) × IsNear {T = entries.Entries} call (Err error) × FellShort {T = entries.Entries} end call (Err error)
    end_refused t (errors.Malformed line kind) h = let e = has-ended in let k = given-used in let u = got-used in ((rw (e, k) h.0, h.2), rw (u, h.1) (omega arith), tt)
    end_refused t (errors.Limit line kind) h = let e = has-ended in let k = given-used in let u = got-used in ((rw (e, k) h.0, h.2), rw (u, h.1) (omega arith), tt)
    end_refused t errors.TooLong h = absurd h
    end_refused t errors.ReadFault h = absurd h
    end_refused t errors.OutOfMemory h = (tt, tt, tt)

    pub offered-used : offered call ≡ used
    offered-used = offered-is ∙ rw (none, over) (append-nil used)

    pub end_read : (t : entries.Entries) (r : List ℕ) → r ≡ [] → Reads used end t [] → IsAnswer end call r (Ok t)
    end_read t r e h =
        let o = offered-used in
        record {
          reads = record { good = rw o h.good; entries = rw o h.entries; follows = rw o (e ∙ h.follows) };
          within = rw (o, e) (omega arith);
        }

  -- ---- the matrix is read, and what follows is left

  pub read_on : (t : entries.Entries) (r : List ℕ) → r ≡ rest ++ after → Reads (used ++ r) end t r → IsAnswer end call r (Ok t)
  read_on t r e h =
      let o : offered call ≡ used ++ r = offered-is ∙ ap (λ (x : List ℕ). used ++ x) (sym e) in
      let n : length (offered call) ≡ length used + length r = ap length o ∙ length-append used r in
      record {
        reads = subst (λ (x : List ℕ). Reads x end t r) (sym o) h;
        within = omega arith;
      }
