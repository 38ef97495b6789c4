-- What a reader has used of an input, byte by byte, and what its call was given.
use Rattle.std.proofs.Common.{◌≡◌, ℕ, zero, suc, ◌+◌, ◌-◌, ◌<◌, ◌≤◌, Bool, true, false, ◌&&◌, ◌==◌, nat_le, List, [], ◌∷◌, ◌++◌, length, take, refl, sym, ap, ◌∙◌, append_assoc, append-nil, arith, length-append, eq-eqb, ne_eqb, le-leb, Option, Some, None}
use Rattle.std.proofs.Math.Seq.{take-append_seam, take-append-add}
use Rattle.std.proofs.lemmas.Bool.{lt-leb}
use Rattle.sp_ports.specs.Bytes.{Gives, WhereKnown}
use Rattle.sp_ports.specs.Device.{Device, SourceRose}
use Rattle.mm_defs.specs.declared.answers.ReadError.{ReadError}
use Rattle.mm_defs.specs.declared.answers.ReadError.TheVariants as errors
use Rattle.mm_defs.specs.Calls.{Call, Intake, room, call_on, ended, given, got, offered, TakesAtMostOnePast}
use Rattle.mm_reader.specs.Fronts.{Front, IsOver, Stops, UsesByte}
use Rattle.mm_reader.specs.Inputs.{Asks, CanRead, OnCall}
use Rattle.mm_frames.specs.Stages.{HasUsed}

gives_then : (a b c : Option (List ℕ)) (x y : List ℕ) → Gives a b x → Gives b c y → Gives a c (x ++ y)
gives_then None b c x y h k = tt
gives_then (Some l) None c x y h k = absurd h
gives_then (Some l) (Some r) None x y h k = absurd k
gives_then (Some l) (Some r) (Some q) x y h k = h ∙ ap (λ (t : List ℕ). x ++ t) k ∙ sym (append_assoc x y q)

gives_none : (o : Option (List ℕ)) → Gives o o []
gives_none None = tt
gives_none (Some xs) = refl

-- a read that failed later has failed since the start
pub rose_since : (old now : Option (List ℕ)) (gave : List ℕ) (fb fa : ℕ) → Gives old now gave → SourceRose now fb fa → SourceRose old fb fa
rose_since None None gave fb fa g r = r
rose_since None (Some left) gave fb fa g r = omega arith
rose_since (Some before) None gave fb fa g r = absurd g
rose_since (Some before) (Some left) gave fb fa g r = r

-- ---- byte by byte

pub none_used : (f : Front) (left : Option (List ℕ)) → HasUsed f f left left []
none_used f left = record { gave = []; given = gives_none left; split = append-nil f.ahead; size = omega arith }

module _ (f0 f f2 : Front) (old now now2 : Option (List ℕ)) (fb fa : ℕ) (used : List ℕ) (h : HasUsed f0 f old now used) where
  abbrev device : Device
  device = record { before = now; after = now2; failed_before = fb; failed_after = fa }

  -- the source gave these
  with_gave : (gave ahead : List ℕ) → f.ahead ++ gave ≡ ahead → f0.ahead ++ (h.gave ++ gave) ≡ used ++ ahead
  with_gave gave ahead e =
      sym (append_assoc f0.ahead h.gave gave) ∙ ap (λ (t : List ℕ). t ++ gave) h.split ∙ append_assoc used f.ahead gave ∙ ap (λ (t : List ℕ). used ++ t) e

  none_more : (gave : List ℕ) → Gives now now2 gave → f.ahead ++ gave ≡ f2.ahead → f2.room ≡ f.room → HasUsed f0 f2 old now2 used
  none_more gave g e r = record {
    gave = h.gave ++ gave;
    given = gives_then old now now2 h.gave gave h.given g;
    split = with_gave gave f2.ahead e;
    size = omega (arith, h.size, r);
  }

  pub one_more : (b : ℕ) → UsesByte f f2 device b → HasUsed f0 f2 old now2 (used ++ b ∷ [])
  one_more b u =
      let n = length-append used (b ∷ []) in
      record {
        gave = h.gave ++ u.gave;
        given = gives_then old now now2 h.gave u.gave h.given u.given;
        split = with_gave u.gave (b ∷ f2.ahead) u.bytes_are ∙ sym (append_assoc used (b ∷ []) f2.ahead);
        size = omega (arith, h.size, u.room_is, n);
      }

  pub over_used : IsOver f f2 device → HasUsed f0 f2 old now2 used
  over_used p = none_more [] p.given (append-nil f.ahead ∙ p.none_before ∙ sym p.none) p.room_is

  pub stopped_used : (error : ReadError) → Stops f f2 device error → HasUsed f0 f2 old now2 used
  stopped_used (errors.Malformed line kind) p = absurd p
  stopped_used (errors.Limit line kind) p = absurd p
  stopped_used errors.TooLong p = none_more p.gave p.given p.bytes_are p.room_is
  stopped_used errors.ReadFault p = none_more [] (rw p.same (gives_none now)) (append-nil f.ahead ∙ p.none_before ∙ sym p.none) p.room_is
  stopped_used errors.OutOfMemory p = absurd p

-- what one reader used, and then another
pub used_then : (f0 f f2 : Front) (old now now2 : Option (List ℕ)) (used more : List ℕ) → HasUsed f0 f old now used → HasUsed f f2 now now2 more → HasUsed f0 f2 old now2 (used ++ more)
used_then f0 f f2 old now now2 used more h k =
    let n = length-append used more in
    record {
      gave = h.gave ++ k.gave;
      given = gives_then old now now2 h.gave k.gave h.given k.given;
      split = sym (append_assoc f0.ahead h.gave k.gave) ∙ ap (λ (t : List ℕ). t ++ k.gave) h.split ∙ append_assoc used f.ahead k.gave ∙ ap (λ (t : List ℕ). used ++ t) k.split ∙ sym (append_assoc used more f2.ahead);
      size = omega (arith, h.size, k.size, n);
    }

-- ---- of a source that tells its bytes

module _ (f0 f : Front) (fb fa : ℕ) (used before after : List ℕ) (h : HasUsed f0 f (Some before) (Some after) used) where
  abbrev call : Call
  call = call_on f0.room f0.ahead fb fa before after

  pub fits : length used ≤ f0.room
  fits = omega (arith, h.size)

  gave-is : take (length before - length after) before ≡ h.gave
  gave-is =
      let known : before ≡ h.gave ++ after = h.given in
      let m : length before ≡ length h.gave + length after = ap length known ∙ length-append h.gave after in
      let e : length before - length after ≡ length h.gave = omega arith in
      rw (e, known) (take-append_seam h.gave after)

  got-is : got call ≡ used ++ f.ahead
  got-is = ap (λ (t : List ℕ). f0.ahead ++ t) gave-is ∙ h.split

  length-got : length (got call) ≡ length used + length f.ahead
  length-got = ap length got-is ∙ length-append used f.ahead

  offered-is : offered call ≡ used ++ (f.ahead ++ after)
  offered-is =
      ap (λ (t : List ℕ). f0.ahead ++ t) h.given ∙ sym (append_assoc f0.ahead h.gave after) ∙ ap (λ (t : List ℕ). t ++ after) h.split
      ∙ append_assoc used f.ahead after

  given-is : given call ≡ used ++ take (f0.room - length used) f.ahead
  given-is =
      let n = fits in
      let e : f0.room ≡ length used + (f0.room - length used) = omega arith in
      ap (take f0.room) got-is ∙ ap (λ k. take k (used ++ f.ahead)) e ∙ take-append-add used f.ahead (f0.room - length used)

  take_none : (k : ℕ) → take {A = ℕ} k [] ≡ []
  take_none zero = refl
  take_none (suc k) = refl

  both_false : (a : Bool) → (a && false) ≡ false
  both_false true = refl
  both_false false = refl

  given_used : f.ahead ≡ [] → given call ≡ used
  given_used none = given-is ∙ rw (none, take_none (f0.room - length used)) (append-nil used)

  -- what was used is the start of what was given
  pub used_first : (more : List ℕ) × (given call ≡ used ++ more)
  used_first = (take (f0.room - length used) f.ahead, given-is)

  pub most_one_past : length f.ahead ≤ f.room + 1 → TakesAtMostOnePast call
  most_one_past one = omega (arith, h.size, length-got)

  -- one byte more has come than may be used
  pub past_given : length f.ahead ≡ 1 → f.room ≡ 0 → (ended call ≡ false) × (given call ≡ used) × (f0.room < length (got call))
  past_given one none =
      let k : f0.room < length (got call) = omega (arith, h.size, length-got) in
      let z : f0.room - length used ≡ 0 = omega (arith, h.size) in
      (rw (lt-leb (length (got call)) f0.room k) refl, given-is ∙ rw z (append-nil used), k)

  -- a read has failed, and no byte is ahead
  pub failed_given : f.ahead ≡ [] → fb < fa → (ended call ≡ false) × (given call ≡ used) × (length (got call) ≤ f0.room)
  failed_given none rose =
      let e : (fb == fa) ≡ false = ne_eqb fb fa (omega arith) in
      let n : length f.ahead ≡ 0 = ap length none in
      (rw e (both_false _), given_used none, omega (arith, h.size, length-got))

  -- the input has ended
  pub over_given : f.ahead ≡ [] → after ≡ [] → fa ≡ fb → (ended call ≡ true) × (given call ≡ used) × (offered call ≡ used)
  over_given none over steady =
      let g : got call ≡ used = got-is ∙ rw none (append-nil used) in
      let a : nat_le (length (got call)) f0.room ≡ true = rw g (le-leb (length used) f0.room fits) in
      let c : (fb == fa) ≡ true = eq-eqb fb fa (sym steady) in
      (rw (a, over, c) refl, given_used none, offered-is ∙ rw (none, over) (append-nil used))

-- ---- of a source that may tell its bytes

module _ (f0 f : Front) (old now : Option (List ℕ)) (used : List ℕ) (h : HasUsed f0 f old now used) where
  module _ (fb fa : ℕ) where
    pub where_known : (P : Call → List ℕ → Type 0)
        → ((before after : List ℕ) → old ≡ Some before → now ≡ Some after → HasUsed f0 f (Some before) (Some after) used → P (call_on f0.room f0.ahead fb fa before after) after)
        → WhereKnown old now (λ before after. P (call_on f0.room f0.ahead fb fa before after) after)
    where_known P k = by old now refl refl h
      where
        by : (o n : Option (List ℕ)) → old ≡ o → now ≡ n → HasUsed f0 f o n used → WhereKnown o n (λ before after. P (call_on f0.room f0.ahead fb fa before after) after)
        by None n e d u = tt
        by (Some before) None e d u = absurd u.given
        by (Some before) (Some after) e d u = k before after e d u

    pub most_known : length f.ahead ≤ f.room + 1 → WhereKnown old now (λ before after. TakesAtMostOnePast (call_on f0.room f0.ahead fb fa before after))
    most_known one = where_known (λ call after. TakesAtMostOnePast call) (λ before after e d u. most_one_past f0 f fb fa used before after u one)

-- no call was made yet
pub asks_none : {S : Type 0} {left : S → Option (List ℕ)} {source : S} {input : Intake} → CanRead (left source) input → Asks left source source input input
asks_none can = record { at_end = can.at_end; unasked = λ t. refl; stays = λ t. t; limit = refl }

-- one call after the other
pub asks_then : {S : Type 0} {left : S → Option (List ℕ)} {s0 s1 s2 : S} {i0 i1 i2 : Intake} → Asks left s0 s1 i0 i1 → Asks left s1 s2 i1 i2 → Asks left s0 s2 i0 i2
asks_then a b = record {
  at_end = b.at_end;
  unasked = λ t. b.unasked (a.stays t) ∙ a.unasked t;
  stays = λ t. b.stays (a.stays t);
  limit = b.limit ∙ a.limit;
}

-- what follows of a call from what holds of it
pub on_call : (input : Intake) (source : Device) (P Q : Call → Type 0) → ((call : Call) → P call → Q call) → OnCall input source P → OnCall input source Q
on_call input source P Q k h = by source.before source.after h
  where
    by : (old now : Option (List ℕ)) → WhereKnown old now (λ before after. P (call_on (room input) input.ahead source.failed_before source.failed_after before after))
        → WhereKnown old now (λ before after. Q (call_on (room input) input.ahead source.failed_before source.failed_after before after))
    by None now p = tt
    by (Some before) None p = p
    by (Some before) (Some after) p = k (call_on (room input) input.ahead source.failed_before source.failed_after before after) p
