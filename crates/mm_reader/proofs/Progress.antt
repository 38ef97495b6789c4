-- What a reading has used so far, of a source that may tell its bytes.
use Rattle.std.proofs.Common.{◌≡◌, ℕ, ◌+◌, ◌-◌, ◌≤◌, List, [], ◌++◌, length, take, count_by, refl, sym, ap, ◌∙◌, arith, append-nil, append_assoc, length-append, take-append-drop, length-take-le, Option, Some, None, Bool, IsTrue}
use Rattle.std.proofs.Math.Seq.{take-append_seam}
use Rattle.std.proofs.lemmas.List.Sums.{sum_by-append, count_by-le-length}
use Rattle.sp_ports.specs.Bytes.{Gives, WhereKnown}
use Rattle.mm_defs.specs.declared.answers.End.{End}
use Rattle.mm_defs.specs.declared.answers.End.TheVariants.{File}
use Rattle.mm_defs.specs.Words.{is_lf, open_line}
use Rattle.mm_defs.specs.Calls as reading
use Rattle.mm_defs.specs.Calls.{LacksLf, TakesAtMostOnePast, got, call_on}
use Rattle.mm_reader.specs.declared.machine.Machine.{Machine}
use Rattle.mm_reader.specs.declared.window.Window.{Window}
use Rattle.mm_reader.specs.Stages.{IsAfter}
use Rattle.mm_reader.specs.Windows.{ahead_of, Consumes, HasCounted, IsWindow, KeepsWindow, TakesAhead, Uses}
use Rattle.mm_reader.proofs.StreamLaws.{got-is}
use Rattle.mm_reader.proofs.WindowLaws.{length-ahead_of}

-- These bytes were used and their LFs counted: the bytes ahead first, then what the source gave.
pub record HasUsed (w0 w : Window) (old now : Option (List ℕ)) (used : List ℕ) : Type 0 where
  pub gave : List ℕ
  pub known : Gives old now gave
  pub split : ahead_of w0 ++ gave ≡ used ++ ahead_of w
  pub size : length used + w.room ≡ w0.room
  pub lines_are : w.lines ≡ w0.lines + count_by is_lf used

-- the machine was given what was used
pub record Fed (end : End) (w0 w : Window) (old now : Option (List ℕ)) (m : Machine) : Type 0 where
  pub used : List ℕ
  pub so_far : HasUsed w0 w old now used
  pub stands : IsAfter end m used

-- ---- from turn to turn

pub gives_none : (o : Option (List ℕ)) → Gives o o []
gives_none None = tt
gives_none (Some xs) = refl

gives_then : (a b c : Option (List ℕ)) (x y : List ℕ) → Gives a b x → Gives b c y → Gives a c (x ++ y)
gives_then None b c x y h k = tt
gives_then (Some l) None c x y h k = absurd h
gives_then (Some l) (Some r) None x y h k = absurd k
gives_then (Some l) (Some r) (Some q) x y h k = h ∙ ap (λ (t : List ℕ). x ++ t) k ∙ sym (append_assoc x y q)

pub none_used : (w : Window) (left : Option (List ℕ)) → HasUsed w w left left []
none_used w left = record {
  gave = [];
  known = gives_none left;
  split = append-nil (ahead_of w);
  size = omega arith;
  lines_are = omega arith;
}

module _ (w0 w w2 : Window) (old now : Option (List ℕ)) (used : List ℕ) (h : HasUsed w0 w old now used) where
  pub more_used : (n : ℕ) → Uses w w2 n → HasUsed w0 w2 old now (used ++ take n (ahead_of w))
  more_used n u =
      let k : length (take n (ahead_of w)) ≡ n = length-take-le n (ahead_of w) u.some in
      let l = length-append used (take n (ahead_of w)) in
      let c : count_by is_lf (used ++ take n (ahead_of w)) ≡ count_by is_lf used + count_by is_lf (take n (ahead_of w)) = sum_by-append _ used (take n (ahead_of w)) in
      record {
        gave = h.gave;
        known = h.known;
        split = h.split ∙ ap (λ (t : List ℕ). used ++ t) (sym (take-append-drop n (ahead_of w)) ∙ ap (λ (t : List ℕ). take n (ahead_of w) ++ t) (sym u.ahead_is)) ∙ sym (append_assoc used (take n (ahead_of w)) (ahead_of w2));
        size = omega (arith, h.size, u.room_is);
        lines_are = omega (arith, h.lines_are, u.lines_are);
      }

  pub all_taken : (used2 : List ℕ) → TakesAhead w w2 used used2 → HasUsed w0 w2 old now used2
  all_taken used2 t =
      let n : length used2 ≡ length used + length (ahead_of w) = ap length t.bytes_are ∙ length-append used (ahead_of w) in
      let k : count_by is_lf used2 ≡ count_by is_lf used + count_by is_lf (ahead_of w) = ap (count_by is_lf) t.bytes_are ∙ sum_by-append _ used (ahead_of w) in
      record {
        gave = h.gave;
        known = h.known;
        split = h.split ∙ sym t.bytes_are ∙ sym (ap (λ (x : List ℕ). used2 ++ x) t.ahead_is ∙ append-nil used2);
        size = omega (arith, h.size, t.room_is);
        lines_are = omega (arith, h.lines_are, t.lines_are);
      }

  pub refilled : (now2 : Option (List ℕ)) → ahead_of w ≡ [] → Gives now now2 (ahead_of w2) → w2.room ≡ w.room → w2.lines ≡ w.lines → HasUsed w0 w2 old now2 used
  refilled now2 none g r l = record {
    gave = h.gave ++ ahead_of w2;
    known = gives_then old now now2 h.gave (ahead_of w2) h.known g;
    split = sym (append_assoc (ahead_of w0) h.gave (ahead_of w2)) ∙ ap (λ (t : List ℕ). t ++ ahead_of w2) (h.split ∙ ap (λ (t : List ℕ). used ++ t) none ∙ append-nil used);
    size = ap (λ k. length used + k) r ∙ h.size;
    lines_are = l ∙ h.lines_are;
  }

  pub not_refilled : (now2 : Option (List ℕ)) → ahead_of w ≡ [] → now2 ≡ now → ahead_of w2 ≡ [] → w2.room ≡ w.room → w2.lines ≡ w.lines → HasUsed w0 w2 old now2 used
  not_refilled now2 none same none2 r l = refilled now2 none (rw (same, none2) (gives_none now)) r l

pub fed_start : (end : End) (w : Window) (m : Machine) (left : Option (List ℕ)) → IsAfter end m [] → Fed end w w left left m
fed_start end w m left a = record { used = []; so_far = none_used w left; stands = a }

pub fed_consumed : (end : End) (w0 w w2 : Window) (old now : Option (List ℕ)) (m m2 : Machine) (done : Bool) → Fed end w0 w old now m → Consumes end w w2 m m2 done → Fed end w0 w2 old now m2
fed_consumed end w0 w w2 old now m m2 done f c = record {
  used = f.used ++ take c.count (ahead_of w);
  so_far = more_used w0 w w2 old now f.used f.so_far c.count c.uses;
  stands = c.stands f.used f.stands;
}

pub fed_refilled : (end : End) (w0 w w2 : Window) (old now now2 : Option (List ℕ)) (m : Machine) → Fed end w0 w old now m → ahead_of w ≡ [] → Gives now now2 (ahead_of w2) → w2.room ≡ w.room → w2.lines ≡ w.lines
    → Fed end w0 w2 old now2 m
fed_refilled end w0 w w2 old now now2 m f none g r l = record {
  used = f.used;
  so_far = refilled w0 w w2 old now f.used f.so_far now2 none g r l;
  stands = f.stands;
}

-- ---- what it says of the windows and the bytes

module _ (w0 w : Window) (used : List ℕ) where
  pub keeps : (old now : Option (List ℕ)) → HasUsed w0 w old now used → IsWindow w → KeepsWindow w0 w
  keeps old now h win =
      let n = count_by-le-length is_lf used in
      record {
        window = win;
        room = omega (arith, h.size);
        counts = omega (arith, h.size, h.lines_are);
      }

  -- all that there was, from what was used to what is left
  all-is : (before after : List ℕ) → HasUsed w0 w (Some before) (Some after) used → ahead_of w0 ++ before ≡ used ++ (ahead_of w ++ after)
  all-is before after h =
      ap (λ (t : List ℕ). ahead_of w0 ++ t) h.known ∙ sym (append_assoc (ahead_of w0) h.gave after) ∙ ap (λ (t : List ℕ). t ++ after) h.split ∙ append_assoc used (ahead_of w) after

  used-is : (before after : List ℕ) → HasUsed w0 w (Some before) (Some after) used → reading.used (ahead_of w0 ++ before) (ahead_of w ++ after) ≡ used
  used-is before after h =
      let all = all-is before after h in
      let n : length (ahead_of w0 ++ before) ≡ length used + length (ahead_of w ++ after) = ap length all ∙ length-append used (ahead_of w ++ after) in
      let e : length (ahead_of w0 ++ before) - length (ahead_of w ++ after) ≡ length used = omega arith in
      rw (e, all) (take-append_seam used (ahead_of w ++ after))

  counted : (before after : List ℕ) → HasUsed w0 w (Some before) (Some after) used → HasCounted w0 w before after
  counted before after h =
      let all = all-is before after h in
      let n : length (ahead_of w0 ++ before) ≡ length used + length (ahead_of w ++ after) = ap length all ∙ length-append used (ahead_of w ++ after) in
      let k : count_by is_lf (ahead_of w0 ++ before) ≡ count_by is_lf used + count_by is_lf (ahead_of w ++ after) = ap (count_by is_lf) all ∙ sum_by-append _ used (ahead_of w ++ after) in
      record { bytes = omega (arith, h.size); lfs = omega (arith, h.lines_are) }

  pub counted_known : (old now : Option (List ℕ)) → HasUsed w0 w old now used → WhereKnown old now (λ before after. HasCounted w0 w before after)
  counted_known None now h = tt
  counted_known (Some before) None h = absurd h.known
  counted_known (Some before) (Some after) h = counted before after h

  -- at most one of the bytes that came is past what may be used
  pub most_known : (fb fa : ℕ) (old now : Option (List ℕ)) → HasUsed w0 w old now used → IsWindow w → WhereKnown old now (λ before after. TakesAtMostOnePast (call_on w0.room (ahead_of w0) fb fa before after))
  most_known fb fa None now h win = tt
  most_known fb fa (Some before) None h win = absurd h.known
  most_known fb fa (Some before) (Some after) h win =
      let n = length-ahead_of w win in
      let fits : length used ≤ w0.room = omega (arith, h.size) in
      let g : length (got (call_on w0.room (ahead_of w0) fb fa before after)) ≡ length used + length (ahead_of w) =
      ap length (got-is File (ahead_of w0) before after h.gave used (ahead_of w) w0.room fb fa h.known h.split fits) ∙ length-append used (ahead_of w) in
      omega (arith, h.size, g, n, win.asked)

  -- what was used ends with an LF, or is empty
  pub closed_known : (old now : Option (List ℕ)) → HasUsed w0 w old now used → open_line used ≡ [] → WhereKnown old now (λ before after. LacksLf (ahead_of w0 ++ before) (ahead_of w ++ after) → IsTrue w.at_end)
  closed_known None now h closed = tt
  closed_known (Some before) None h closed = absurd h.known
  closed_known (Some before) (Some after) h closed = λ lacks. absurd (lacks (ap open_line (used-is before after h) ∙ closed))

  -- the input is at its end
  pub at_end_known : (old now : Option (List ℕ)) → HasUsed w0 w old now used → IsTrue w.at_end → WhereKnown old now (λ before after. LacksLf (ahead_of w0 ++ before) (ahead_of w ++ after) → IsTrue w.at_end)
  at_end_known None now h over = tt
  at_end_known (Some before) None h over = absurd h.known
  at_end_known (Some before) (Some after) h over = λ lacks. over
