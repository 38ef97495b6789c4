-- What an answer of the reader says of a file whose bytes were all at hand.
use Rattle.std.proofs.Common.{◌≡◌, ◌++◌, ℕ, Bool, true, false, List, [], Some, Ok, Err, refl, subst, sym}
use Rattle.sp_ids.specs.Entries.{Entries}
use Rattle.mm_defs.specs.Calls.{Call, Intake, IsAnswer, call_on, ended, first_bad, given, offered, room}
use Rattle.mm_defs.specs.File.{Fault, Reads, first_fault, rest_of}
use Rattle.mm_defs.specs.declared.answers.End.TheVariants.{File}
use Rattle.mm_defs.specs.declared.answers.ReadError.{ReadError}
use Rattle.mm_defs.specs.declared.answers.ReadError.TheVariants as errors
use Rattle.mm_defs.specs.declared.kinds.Kind.{Kind}
use Rattle.mm_defs.proofs.AnswerLemmas.{given_all, given_prefix}
use Rattle.mm_defs.proofs.Prefixes.{bad_stays}
use Rattle.btf_tool.specs.FileAnswer.{IsFaulty}

-- the call that reads a source of these bytes which never fails
abbrev pub lent_call : Intake → List ℕ → List ℕ → Call
lent_call start before after = call_on (room start) start.ahead 0 0 before after

-- the file was read to its end
whole_file : (call : Call) (rest : List ℕ) (t : Entries) → call.ahead ≡ [] → IsAnswer File call rest (Ok t) → Reads call.before File t []
unfolding rest_of
whole_file call rest t none h =
    let reads : Reads call.before File t rest = subst (λ (ahead : List ℕ). Reads (ahead ++ call.before) File t rest) none h.reads in
    record { good = reads.good; entries = reads.entries; follows = refl }

-- its first fault is that of what was given
whole_fault : (call : Call) (fault : Fault) → call.ahead ≡ [] → first_bad File call ≡ Some fault → first_fault File true call.before ≡ Some fault
whole_fault call fault none h =
    subst (λ (ahead : List ℕ). first_fault File true (ahead ++ call.before) ≡ Some fault) none (by (ended call) refl)
  where
    by : (e : Bool) → ended call ≡ e → first_fault File true (offered call) ≡ Some fault
    by true e = let k : first_fault File true (given call) ≡ Some fault = rw e at h in subst (λ (bytes : List ℕ). first_fault File true bytes ≡ Some fault) (given_all call e) k
    by false e =
        let r = given_prefix call in
        let k : first_fault File false (given call) ≡ Some fault = rw e at h in
        subst (λ (bytes : List ℕ). first_fault File true bytes ≡ Some fault) r.1 (bad_stays File true (given call) r.0 fault k)

-- what is said of the source's bytes is said of those that were lent
pub lent_read : (start : Intake) (bytes before after rest : List ℕ) (t : Entries) → start.ahead ≡ [] → before ≡ bytes
    → IsAnswer File (lent_call start before after) rest (Ok t) → Reads bytes File t []
lent_read start bytes before after rest t none same h =
    subst (λ (b : List ℕ). Reads b File t []) same (whole_file (lent_call start before after) rest t none h)

faulty : (start : Intake) (bytes before after : List ℕ) (line : ℕ) (kind : Kind) → start.ahead ≡ [] → before ≡ bytes
    → first_bad File (lent_call start before after) ≡ Some (record { line = line; kind = kind })
    → first_fault File true bytes ≡ Some (record { line = line; kind = kind })
faulty start bytes before after line kind none same h =
    subst (λ (b : List ℕ). first_fault File true b ≡ Some (record { line = line; kind = kind })) same (whole_fault (lent_call start before after) _ none h)

pub lent_malformed : (start : Intake) (bytes before after rest : List ℕ) (e : ReadError) (line : ℕ) (kind : Kind) → start.ahead ≡ [] → before ≡ bytes
    → e ≡ errors.Malformed line kind → IsAnswer File (lent_call start before after) rest (Err e) → IsFaulty bytes false line kind
lent_malformed start bytes before after rest e line kind none same is h =
    let answer = subst (λ (x : ReadError). IsAnswer File (lent_call start before after) rest (Err x)) is h in
    record { first = faulty start bytes before after line kind none same answer.0; limit_is = sym answer.1 }

pub lent_limit : (start : Intake) (bytes before after rest : List ℕ) (e : ReadError) (line : ℕ) (kind : Kind) → start.ahead ≡ [] → before ≡ bytes
    → e ≡ errors.Limit line kind → IsAnswer File (lent_call start before after) rest (Err e) → IsFaulty bytes true line kind
lent_limit start bytes before after rest e line kind none same is h =
    let answer = subst (λ (x : ReadError). IsAnswer File (lent_call start before after) rest (Err x)) is h in
    record { first = faulty start bytes before after line kind none same answer.0; limit_is = sym answer.1 }
