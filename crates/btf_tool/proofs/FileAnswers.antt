-- What the reading of a file says, from what the reader answers.
use Rattle.std.proofs.Common.{◌≡◌, ◌+◌, ◌-◌, ◌<◌, ◌≤◌, ◌++◌, ◌∙◌, ℕ, List, [], ◌∷◌, Ok, Err, false, true, Option, Some, None, append_assoc, arith, ap, length, length-append, length-take, refl, subst, sym}
use Rattle.sp_ids.specs.Entries.{Entries}
use Rattle.sp_ports.specs.Bytes.{Gives, GivesPrefix, WhereKnown}
use Rattle.sp_ports.specs.Device.{SourceRose}
use Rattle.mm_defs.specs.File.{Reads, rest_of}
use Rattle.mm_defs.specs.Calls.{Call, FellShort, HasItsKind, Intake, IsAnswer, IsRest, JudgesNoLine, ReadsAll, RefusesRest, TakesAtMostOnePast, call_on, got, room}
use Rattle.mm_defs.specs.declared.answers.End.TheVariants.{File, LastEntry}
use Rattle.mm_defs.specs.declared.answers.ReadError.{ReadError}
use Rattle.mm_defs.specs.declared.answers.ReadError.TheVariants as errors
use Rattle.mm_defs.proofs.AnswerLemmas.{failed_goes_on, past_goes_on}
use Rattle.mm_defs.proofs.Behind.{length-behind}
use Rattle.sp_ports.specs.Device.{Device, HasReadFault}
use Rattle.btf_tool.specs.Jobs.{GavePrefix, OfReading, WasRead, reading}
use Rattle.btf_tool.specs.Refusals.{refusal_for}
use Rattle.btf_tool.specs.Runs.{IsReadAs, IsUnread}
use Rattle.btf_tool.specs.Inputs.{Form, end_in, first_bad_in}
use Rattle.btf_tool.specs.Inputs as forms
use Rattle.btf_tool.proofs.Completeness.{where_known}
use Rattle.btf_tool.proofs.Inputs.{matrix_bad, matrix_good, no_bad_line}

pub second_empty : (xs ys : List ℕ) → xs ++ ys ≡ [] → ys ≡ []
second_empty [] ys e = e
second_empty (x ∷ xs) ys e = cc

-- two facts on one call
pub both : (P Q : List ℕ → List ℕ → Type 0) (old new : Option (List ℕ)) → WhereKnown old new P → WhereKnown old new Q → WhereKnown old new (λ x y. P x y × Q x y)
both P Q None new p q = tt
both P Q (Some x) None p q = absurd p
both P Q (Some x) (Some y) p q = (p, q)

pub given_known : (old new : Option (List ℕ)) (given : List ℕ) → Gives old new given → WhereKnown old new (λ x y. x ≡ given ++ y)
given_known None new given h = tt
given_known (Some x) None given h = absurd h
given_known (Some x) (Some y) given h = h

-- an input before its first byte
abbrev pub fresh : Intake
fresh = record { limit = 68719476736; taken = 0; ahead = []; at_end = false; lines = 0; good = true }

-- ---- a file alone

-- a file that was read to its end
was_read : (call : Call) (ahead : List ℕ) (t : Entries) → ReadsAll File call t (ahead ++ call.after) → WasRead forms.Alone call t []
unfolding rest_of
was_read call ahead t h =
    let all : ReadsAll File call t [] = subst (λ (rest : List ℕ). ReadsAll File call t rest) h.reads.follows h in
    record { good = record { reads = all.reads; edits = tt }; within = let w = all.within in omega (arith, w); to_the_end = second_empty ahead call.after h.reads.follows }

-- the reader has read the file
pub file_read : (input : Device) (ahead : List ℕ) (t : Entries)
    → WhereKnown input.before input.after (λ before after. IsAnswer File (reading input before after) (ahead ++ after) (Ok t))
    → input.failed_after ≡ input.failed_before → IsReadAs forms.Alone input t []
file_read input ahead t answer steady = (steady, where_known input.before input.after answer (λ x y before h. was_read (reading input x y) ahead t h))

-- the reader has refused the matrix
not_read : (form : Form) (input : Device) (ahead : List ℕ) (e : ReadError)
    → WhereKnown input.before input.after (λ before after. IsAnswer (end_in form) (reading input before after) (ahead ++ after) (Err e))
    → WhereKnown input.before input.after (λ before after. FellShort {T = Entries} (end_in form) (reading input before after) (Err e))
    → HasItsKind {T = Entries} (Err e) → (e ≡ errors.ReadFault → HasReadFault input) → IsUnread form input (refusal_for e)
not_read form input ahead (errors.Malformed line kind) answer short is rose = (is, where_known input.before input.after answer (λ x y before h. matrix_bad form (reading input x y) _ h.0))
not_read form input ahead (errors.Limit line kind) answer short is rose = (is, where_known input.before input.after answer (λ x y before h. matrix_bad form (reading input x y) _ h.0))
not_read form input ahead errors.TooLong answer short is rose =
    where_known input.before input.after (both _ _ input.before input.after answer short)
    (λ x y before h. (matrix_good form (reading input x y) (past_goes_on (reading input x y) h.0.1) h.0.0 h.1, h.0.1))
not_read form input ahead errors.ReadFault answer short is rose = (
  rose refl,
  where_known input.before input.after (both _ _ input.before input.after answer short)
      (λ x y before h. (matrix_good form (reading input x y) (failed_goes_on (reading input x y) h.0.1) h.0.0 h.1.0, h.1.1)),
)
not_read form input ahead errors.OutOfMemory answer short is rose = where_known input.before input.after answer (λ x y before h. tt)

pub file_not_read : (form : Form) (input : Device) (start : Intake) (ahead : List ℕ) (e : ReadError) → start ≡ fresh
    → WhereKnown input.before input.after (λ before after. IsAnswer (end_in form) (call_on (room start) start.ahead input.failed_before input.failed_after before after) (ahead ++ after) (Err e))
    → WhereKnown input.before input.after (λ before after. FellShort {T = Entries} (end_in form) (call_on (room start) start.ahead input.failed_before input.failed_after before after) (Err e))
    → HasItsKind {T = Entries} (Err e) → (e ≡ errors.ReadFault → HasReadFault input) → IsUnread form input (refusal_for e)
file_not_read form input start ahead e is answer short kind rose =
    not_read form input ahead e
    (subst (λ (i : Intake). WhereKnown input.before input.after (λ before after. IsAnswer (end_in form) (call_on (room i) i.ahead input.failed_before input.failed_after before after) (ahead ++ after) (Err e))) is answer)
    (subst (λ (i : Intake). WhereKnown input.before input.after (λ before after. FellShort {T = Entries} (end_in form) (call_on (room i) i.ahead input.failed_before input.failed_after before after) (Err e))) is short)
    kind rose

-- what the reader took of the input
pub file_gave : (input : Device) (start : Intake) → start ≡ fresh → GivesPrefix input.before input.after
    → WhereKnown input.before input.after (λ before after. TakesAtMostOnePast (call_on (room start) start.ahead input.failed_before input.failed_after before after)) → OfReading input GavePrefix
file_gave input start is prefix most =
    where_known input.before input.after
    (both _ _ input.before input.after (given_known input.before input.after prefix.0 prefix.1)
    (subst (λ (i : Intake). WhereKnown input.before input.after (λ before after. TakesAtMostOnePast (call_on (room i) i.ahead input.failed_before input.failed_after before after))) is most))
    (λ x y before h.
    let k : length x ≡ length prefix.0 + length y = ap length h.0 ∙ length-append prefix.0 y in
    let m : length (got (reading input x y)) ≤ 68719476736 + 1 = h.1 in
    let g : length (got (reading input x y)) ≡ length prefix.0 = simp (length-take) (omega (arith, k)) in
    record { gave = prefix.0; in_order = h.0; few = omega (arith, m, g) })

-- ---- a file and what follows it

-- what holds of a source's bytes before two calls and after them
pub over_both : {P Q R : List ℕ → List ℕ → Type 0} (old mid new : Option (List ℕ)) → WhereKnown old mid P → WhereKnown mid new Q
    → ((x y z : List ℕ) → P x y → Q y z → R x z) → WhereKnown old new R
over_both None mid new first second f = tt
over_both (Some x) None new first second f = absurd first
over_both (Some x) (Some y) None first second f = absurd second
over_both (Some x) (Some y) (Some z) first second f = f x y z first second

-- a failure of a later call is one of both calls
pub rose_before : (P : List ℕ → List ℕ → Type 0) (old mid : Option (List ℕ)) (first between last : ℕ) → WhereKnown old mid P → between ≡ first → SourceRose mid between last → SourceRose old first last
rose_before P None None first between last known same rose = subst (λ (n : ℕ). SourceRose None n last) same rose
rose_before P None (Some y) first between last known same rose = omega (arith, same, rose)
rose_before P (Some x) None first between last known same rose = absurd known
rose_before P (Some x) (Some y) first between last known same rose = omega (arith, same, rose)

-- what the first call has read of these bytes, and what it leaves to be used
pub record HasRead (new : Intake) (t : Entries) (before between : List ℕ) : Type 0 where
  pub reads : Reads before LastEntry t (new.ahead ++ between)
  pub within : length before - length (new.ahead ++ between) ≤ 68719476736
  pub taken : new.taken + length between ≡ length before

-- a good file has no bad line, whatever is seen of the call
no_bad : (input : Device) (new : Intake) (t : Entries) (x y z : List ℕ) → HasRead new t x y → first_bad_in forms.Followed (reading input x z) ≡ None
no_bad input new t x y z h = no_bad_line forms.Followed (reading input x z) t (new.ahead ++ y) (record { reads = h.reads; edits = tt })

rest_read : (input : Device) (new : Intake) (f : ℕ) (t : Entries) (x y z bytes ahead : List ℕ) → new.limit ≡ 68719476736 → HasRead new t x y
    → IsRest (call_on (room new) new.ahead f input.failed_after y z) (ahead ++ z) bytes → WasRead forms.Followed (reading input x z) t bytes
rest_read input new f t x y z bytes ahead limit h rest =
    let n : length (new.ahead ++ y) ≡ length new.ahead + length y = length-append new.ahead y in
    let w = h.within in
    let fits = rest.within in
    let taken = h.taken in
    record {
      good = record { reads = subst (λ (r : List ℕ). Reads x LastEntry t r) (sym rest.bytes_are) h.reads; edits = tt };
      within = omega (arith, limit, taken, n, w, fits);
      to_the_end = second_empty ahead z rest.nothing_left;
    }

-- what follows is no longer than all
rest_short : (bytes rest : List ℕ) (t : Entries) → Reads bytes LastEntry t rest → length rest ≤ length bytes
unfolding rest_of
rest_short bytes rest t h = rw h.follows (length-behind _ bytes)

pub too_long : (input : Device) (new : Intake) (f : ℕ) (t : Entries) (x y z given : List ℕ) → new.limit ≡ 68719476736 → HasRead new t x y → y ≡ given ++ z
    → room new < length (got (call_on (room new) new.ahead f input.failed_after y z)) → 68719476736 < length (got (reading input x z))
too_long input new f t x y z given limit h gave past =
    let n : length (new.ahead ++ y) ≡ length new.ahead + length y = length-append new.ahead y in
    let k : length y ≡ length given + length z = ap length gave ∙ length-append given z in
    let w = h.within in
    let s = rest_short x (new.ahead ++ y) t h.reads in
    let taken = h.taken in
    let g : length (got (call_on (room new) new.ahead f input.failed_after y z)) ≤ length new.ahead + (length y - length z) = simp (length-append, length-take) (omega arith) in
    simp (length-take) (omega (arith, limit, taken, k, n, w, s, g, past))

pub within : (input : Device) (new : Intake) (f : ℕ) (t : Entries) (x y z given : List ℕ) → new.limit ≡ 68719476736 → HasRead new t x y → y ≡ given ++ z
    → length (got (call_on (room new) new.ahead f input.failed_after y z)) ≤ room new → length (got (reading input x z)) ≤ 68719476736
within input new f t x y z given limit h gave few =
    let n : length (new.ahead ++ y) ≡ length new.ahead + length y = length-append new.ahead y in
    let k : length y ≡ length given + length z = ap length gave ∙ length-append given z in
    let w = h.within in
    let s = rest_short x (new.ahead ++ y) t h.reads in
    let taken = h.taken in
    let g : length (got (call_on (room new) new.ahead f input.failed_after y z)) ≡ length new.ahead + (length y - length z) = simp (length-append, length-take) (omega arith) in
    simp (length-take) (omega (arith, limit, taken, k, n, w, s, g, few))

-- both were read
pub followed_read : (input : Device) (mid : Option (List ℕ)) (new : Intake) (f : ℕ) (t : Entries) (bytes ahead : List ℕ) → new.limit ≡ 68719476736
    → WhereKnown input.before mid (λ x y. HasRead new t x y) → WhereKnown mid input.after (λ y z. IsRest (call_on (room new) new.ahead f input.failed_after y z) (ahead ++ z) bytes)
    → input.failed_after ≡ input.failed_before → IsReadAs forms.Followed input t bytes
followed_read input mid new f t bytes ahead limit first second steady =
    (steady, over_both input.before mid input.after first second (λ x y z h rest. rest_read input new f t x y z bytes ahead limit h rest))

both_few : (input : Device) (new : Intake) (f : ℕ) (t : Entries) (x y z one two : List ℕ) → new.limit ≡ 68719476736 → HasRead new t x y → x ≡ one ++ y → y ≡ two ++ z
    → TakesAtMostOnePast (call_on (room new) new.ahead f input.failed_after y z) → length (one ++ two) ≤ 68719476736 + 1
both_few input new f t x y z one two limit h first second most =
    let n : length (new.ahead ++ y) ≡ length new.ahead + length y = length-append new.ahead y in
    let j : length x ≡ length one + length y = ap length first ∙ length-append one y in
    let k : length y ≡ length two + length z = ap length second ∙ length-append two z in
    let l : length (one ++ two) ≡ length one + length two = length-append one two in
    let w = h.within in
    let s = rest_short x (new.ahead ++ y) t h.reads in
    let taken = h.taken in
    let m : length (got (call_on (room new) new.ahead f input.failed_after y z)) ≤ room new + 1 = most in
    let g : length (got (call_on (room new) new.ahead f input.failed_after y z)) ≡ length new.ahead + (length y - length z) = simp (length-append, length-take) (omega arith) in
    omega (arith, limit, taken, j, k, l, n, w, s, g, m)

-- what both calls took of the input
pub followed_gave : (input : Device) (mid : Option (List ℕ)) (new : Intake) (f : ℕ) (t : Entries) → new.limit ≡ 68719476736 → WhereKnown input.before mid (λ x y. HasRead new t x y)
    → GivesPrefix input.before mid → GivesPrefix mid input.after → WhereKnown mid input.after (λ y z. TakesAtMostOnePast (call_on (room new) new.ahead f input.failed_after y z)) → OfReading input GavePrefix
followed_gave input mid new f t limit read one two most =
    over_both input.before mid input.after
    (both _ _ input.before mid read (given_known input.before mid one.0 one.1)) (both _ _ mid input.after most (given_known mid input.after two.0 two.1))
    (λ x y z h k. record {
      gave = one.0 ++ two.0;
      in_order = h.1 ∙ ap (λ (r : List ℕ). one.0 ++ r) k.1 ∙ sym (append_assoc one.0 two.0 z);
      few = both_few input new f t x y z one.0 two.0 limit h.0 h.1 k.1 k.0;
    })

-- what follows could not be read
pub rest_not_read : (input : Device) (mid : Option (List ℕ)) (new : Intake) (f : ℕ) (t : Entries) (given : List ℕ) (e : ReadError) → new.limit ≡ 68719476736
    → WhereKnown input.before mid (λ x y. HasRead new t x y) → WhereKnown mid input.after (λ y z. RefusesRest (call_on (room new) new.ahead f input.failed_after y z) e)
    → JudgesNoLine e → Gives mid input.after given → f ≡ input.failed_before → (e ≡ errors.ReadFault → SourceRose mid f input.failed_after) → IsUnread forms.Followed input (refusal_for e)
rest_not_read input mid new f t given (errors.Malformed line kind) limit first second unjudged gave steady rose = absurd unjudged
rest_not_read input mid new f t given (errors.Limit line kind) limit first second unjudged gave steady rose = absurd unjudged
rest_not_read input mid new f t given errors.TooLong limit first second unjudged gave steady rose =
    over_both input.before mid input.after first (both _ _ mid input.after second (given_known mid input.after given gave))
    (λ x y z h past. (no_bad input new t x y z h, too_long input new f t x y z given limit h past.1 past.0))
rest_not_read input mid new f t given errors.ReadFault limit first second unjudged gave steady rose = (
  rose_before _ input.before mid input.failed_before f input.failed_after first steady (rose refl),
  over_both input.before mid input.after first (both _ _ mid input.after second (given_known mid input.after given gave))
      (λ x y z h failed. (no_bad input new t x y z h, within input new f t x y z given limit h failed.1 failed.0.1)),
)
rest_not_read input mid new f t given errors.OutOfMemory limit first second unjudged gave steady rose = over_both input.before mid input.after first second (λ x y z h none. tt)

-- what the first call says of such an input
pub has_read : (start new : Intake) (old mid : Option (List ℕ)) (f g : ℕ) (t : Entries) → start ≡ fresh
    → WhereKnown old mid (λ x y. IsAnswer LastEntry (call_on (room start) start.ahead f g x y) (new.ahead ++ y) (Ok t))
    → WhereKnown old mid (λ x y. new.taken + length y ≡ start.taken + length x) → WhereKnown old mid (λ x y. HasRead new t x y)
has_read start new old mid f g t is answer taken =
    where_known old mid (both _ _ old mid (subst (λ (i : Intake). WhereKnown old mid (λ x y. IsAnswer LastEntry (call_on (room i) i.ahead f g x y) (new.ahead ++ y) (Ok t))) is answer)
    (subst (λ (i : Intake). WhereKnown old mid (λ x y. new.taken + length y ≡ i.taken + length x)) is taken))
    (λ x y before h. let taken : new.taken + length y ≡ 0 + length x = h.1 in record { reads = h.0.reads; within = h.0.within; taken = omega (arith, taken) })
