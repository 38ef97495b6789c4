-- Bytes ahead that are used, and refused.
use Rattle.std.proofs.Common.{◌≡◌, ℕ, zero, suc, ◌+◌, ◌-◌, ◌<◌, ◌≤◌, Bool, count_by, true, false, if◌then◌else◌, List, [], ◌++◌, length, take, drop, refl, sym, ap, subst, ◌∙◌, arith, length-take-le, length-drop, drop-drop, length-append, append-nil, drop_of_length-le}
use Rattle.std.proofs.lemmas.List.{drop-take}
use Rattle.std.proofs.lemmas.List.Sums.{sum_by-append, count_by-le-length}
use Rattle.mm_defs.specs.declared.answers.End.{End}
use Rattle.mm_defs.specs.declared.answers.ReadError.TheVariants as errors
use Rattle.mm_defs.specs.declared.kinds.Kind.{Kind}
use Rattle.mm_defs.specs.Words.{is_lf, lines}
use Rattle.mm_defs.specs.Faults.{is_limit}
use Rattle.mm_defs.specs.File.{Fault}
use Rattle.mm_defs.proofs.Behind.{length-lines}
use Rattle.mm_reader.specs.declared.machine.Stop.{Stop}
use Rattle.mm_reader.specs.declared.machine.Stop.TheVariants as stops
use Rattle.mm_reader.specs.declared.machine.Machine.{Machine}
use Rattle.mm_reader.specs.declared.window.Window.{Window}
use Rattle.mm_reader.specs.Machine.{IsReady, is_complete}
use Rattle.mm_reader.specs.Stages.{begun_lines, IsAfter, StandsSomewhere, StopsWithin}
use Rattle.mm_reader.specs.Windows.{ahead_of, IsWindow, Consumes, HasBadPrefix, Refuses, Uses, refusal_of}
use Rattle.mm_reader.proofs.MissingLines.{lacks_lines}

-- what stopped the machine within the bytes ahead, all of which may be used
module _ (end : End) (bytes ahead : List ℕ) (room : ℕ) (short : length ahead ≤ room) where
  bad_prefix : (fault : Fault) → StopsWithin end bytes ahead (stops.Bad fault) → HasBadPrefix end bytes ahead room fault
  bad_prefix fault s =
      let n : length ahead ≡ length s.prefix + length s.rest = ap length s.piece_is ∙ length-append s.prefix s.rest in
      record {
        prefix = s.prefix;
        rest = s.rest;
        ahead_is = s.piece_is;
        short = omega arith;
        ends = s.stops;
      }

  by_kind : (line : ℕ) (kind : Kind) (limit : Bool) → is_limit kind ≡ limit → HasBadPrefix end bytes ahead room (record { line = line; kind = kind })
      → Refuses end bytes ahead room (if limit then errors.Limit line kind else errors.Malformed line kind)
  by_kind line kind true e h = (h, e)
  by_kind line kind false e h = (h, e)

  pub refuses : (stop : Stop) → StopsWithin end bytes ahead stop → Refuses end bytes ahead room (refusal_of stop)
  refuses (stops.Bad fault) s = by_kind fault.line fault.kind (is_limit fault.kind) refl (bad_prefix fault s)
  refuses stops.Memory s = tt

-- the bytes ahead of a window
pub length-ahead : (items : List ℕ) (from to : ℕ) → from ≤ to → to ≤ length items → length (take (to - from) (drop from items)) ≡ to - from
length-ahead items from to h k =
    let n = length-drop from items in
    let low : to - from ≤ length (drop from items) = omega arith in
    length-take-le (to - from) (drop from items) low

pub ahead-used : (items : List ℕ) (from to used : ℕ) → used ≤ to - from → take (to - (from + used)) (drop (from + used) items) ≡ drop used (take (to - from) (drop from items))
ahead-used items from to used h =
    let e : to - from ≡ used + (to - (from + used)) = omega arith in
    rw (e, drop-take used (to - (from + used)) (drop from items), drop-drop used from items) refl

pub none_left : (xs : List ℕ) (n : ℕ) → n ≡ length xs → drop n xs ≡ []
none_left xs n h = let e : length xs ≤ n = omega arith in drop_of_length-le xs e

pub length-ahead_of : (w : Window) → IsWindow w → length (ahead_of w) ≡ w.to - w.from
length-ahead_of w win =
    let n : w.to ≤ length w.buffer.items = omega (arith, win.long, win.within, w.buffer.ok.0) in
    length-ahead w.buffer.items w.from w.to win.in_order n

-- as many lines have ended as LFs have come
pub lfs_more : (end : End) (m m2 : Machine) (bytes more : List ℕ) → IsAfter end m bytes → IsAfter end m2 (bytes ++ more) → m2.number ≡ m.number + count_by is_lf more
lfs_more end m m2 bytes more a b =
    let k = a.number_is ∙ length-lines bytes in
    let n = b.number_is ∙ length-lines (bytes ++ more) in
    let s : count_by is_lf (bytes ++ more) ≡ count_by is_lf bytes + count_by is_lf more = sum_by-append _ bytes more in
    omega (arith, k, n)

-- ---- so many of the bytes ahead are used

module _ (w : Window) (used lfs : ℕ) (win : IsWindow w) (some : used ≤ length (ahead_of w)) (room : used ≤ w.room) (lfs_are : lfs ≡ count_by is_lf (take used (ahead_of w))) where
  abbrev advanced : Window
  advanced = record { buffer = w.buffer; from = w.from + used; to = w.to; at_end = w.at_end; room = w.room - used; lines = w.lines + lfs }

  pub few_lfs : lfs ≤ used
  few_lfs = let n = count_by-le-length is_lf (take used (ahead_of w)) in let k = length-take-le used (ahead_of w) some in omega arith

  pub uses : Uses w advanced used
  uses =
      let n = length-ahead_of w win in
      let k : used ≤ w.to - w.from = omega arith in
      record {
        some = some;
        ahead_is = ahead-used w.buffer.items w.from w.to used k;
        room_is = omega arith;
        lines_are = ap (λ k. w.lines + k) lfs_are;
        at_end_same = refl;
      }

  pub still_window : IsWindow advanced
  still_window =
      let n = length-ahead_of w win in
      let k = few_lfs in
      record {
        long = win.long;
        in_order = omega (arith, win.in_order);
        within = win.within;
        fits = omega (arith, win.fits);
        asked = omega (arith, win.asked);
        in_room = λ some_left. let r : 0 < w.room = omega arith in omega (arith, win.in_room r);
      }

-- the machine goes on by so many of the bytes ahead
module _ (end : End) (w : Window) (m m2 : Machine) (used : ℕ) (some : used ≤ length (ahead_of w))
    (stands : (bytes : List ℕ) → IsAfter end m bytes → IsAfter end m2 (bytes ++ take used (ahead_of w))) where
  more_lines : StandsSomewhere end m → m2.number ≡ m.number + count_by is_lf (take used (ahead_of w))
  more_lines stood = lfs_more end m m2 stood.0 (take used (ahead_of w)) stood.1 (stands stood.0 stood.1)

  pub no_fewer_lines : StandsSomewhere end m → m.number ≤ m2.number
  no_fewer_lines stood = omega (arith, more_lines stood)

  pub lfs_are : StandsSomewhere end m → m2.number - m.number ≡ count_by is_lf (take used (ahead_of w))
  lfs_are stood = omega (arith, more_lines stood)

  pub consumed : (w2 : Window) (done : Bool) → Uses w w2 used → done ≡ is_complete end m2.phase → (done ≡ false → used ≡ length (ahead_of w)) → (done ≡ true → m2.begun ≡ false)
      → begun_lines m2 ≤ begun_lines m + used → IsReady m2.phase m2.triples → Consumes end w w2 m m2 done
  consumed w2 done u done_is all closed number ready = record {
    count = used;
    uses = u;
    stands = stands;
    done_is = done_is;
    all = λ e. u.ahead_is ∙ none_left (ahead_of w) used (all e);
    closed = closed;
    number = number;
    ready = ready;
  }

-- nothing was used
pub uses_none : (w : Window) → Uses w w 0
uses_none w = record {
  some = omega arith;
  ahead_is = refl;
  room_is = omega arith;
  lines_are = omega arith;
  at_end_same = refl;
}

-- where more bytes are ahead than may be used, none may be used
none_may : (room from to : ℕ) → (0 < room → to ≤ from + room) → from + room < to → room ≡ 0
none_may zero from to in_room over = refl
none_may (suc n) from to in_room over = let k = in_room (omega arith) in absurd (omega arith)

pub no_room : (w : Window) → IsWindow w → w.room < length (ahead_of w) → w.room ≡ 0
no_room w win over = let k = length-ahead_of w win in none_may w.room w.from w.to win.in_room (omega (arith, win.in_order))

-- so the machine has no matrix of the bytes that may be used
pub too_many : (end : End) (w : Window) (m : Machine) (bytes : List ℕ) → IsWindow w → w.room < length (ahead_of w) → IsAfter end m bytes → is_complete end m.phase ≡ false
    → Refuses end bytes (ahead_of w) w.room errors.TooLong
too_many end w m bytes win over a out =
    let e : bytes ++ take w.room (ahead_of w) ≡ bytes = ap (λ k. bytes ++ take k (ahead_of w)) (no_room w win over) ∙ append-nil bytes in
    let k = subst (λ (t : List ℕ). IsAfter end m t) (sym e) a in
    (over, k.lines_are.good, lacks_lines end m.phase m.triples (lines false (bytes ++ take w.room (ahead_of w))) k.lines_are out)
