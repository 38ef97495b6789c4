-- The first of the bytes ahead.
use Rattle.std.proofs.Common.{◌≡◌, ℕ, zero, suc, ◌-◌, ◌<◌, ◌≤◌, Bool, true, false, cond, count_by, List, [], ◌∷◌, length, take, drop, get_or, refl, sym, ap, ◌∙◌, arith, IsTrue, get_or-drop}
use Rattle.std.proofs.lemmas.List.{get_or_default}
use Rattle.std.proofs.lemmas.List.Sums.{sum_by-cons}
use Rattle.sp_ports.specs.Bytes.{Gives, IsAtEnd}
use Rattle.sp_ports.specs.Device.{Device}
use Rattle.mm_defs.specs.Words.{is_lf}
use Rattle.mm_reader.specs.declared.window.Window.{Window}
use Rattle.mm_reader.specs.Fronts.{IsOver, front_of}
use Rattle.mm_reader.specs.Windows.{ahead_of, IsWindow}
use Rattle.mm_reader.proofs.WindowLaws.{length-ahead_of}

first_of : (xs : List ℕ) → 0 < length xs → xs ≡ get_or xs 0 0 ∷ drop 1 xs
first_of [] h = absurd (omega arith)
first_of (x ∷ xs) h = refl

get_or-take_first : (n : ℕ) (xs : List ℕ) → 0 < n → get_or (take n xs) 0 0 ≡ get_or xs 0 0
get_or-take_first zero xs h = absurd (omega arith)
get_or-take_first (suc n) [] h = refl
get_or-take_first (suc n) (x ∷ xs) h = refl

pub ahead_first : (w : Window) → IsWindow w → w.from < w.to → ahead_of w ≡ get_or w.buffer.items w.from 0 ∷ drop 1 (ahead_of w)
ahead_first w win some =
    let n = length-ahead_of w win in
    let f = first_of (ahead_of w) (omega arith) in
    let g : get_or (ahead_of w) 0 0 ≡ get_or w.buffer.items w.from 0 =
    get_or-take_first (w.to - w.from) (drop w.from w.buffer.items) (omega arith) ∙ get_or-drop w.from w.buffer.items 0 0 ∙ ap (λ i. get_or w.buffer.items i 0) (omega arith) in
    f ∙ ap (λ b. b ∷ drop 1 (ahead_of w)) g

one : (b : ℕ) → count_by is_lf (b ∷ []) ≡ cond (is_lf b) 1 0
one b = let e = sum_by-cons (λ x. cond (is_lf x) 1 0) b [] in omega arith

pub first_lfs : (w : Window) → IsWindow w → w.from < w.to → count_by is_lf (take 1 (ahead_of w)) ≡ cond (is_lf (get_or w.buffer.items w.from 0)) 1 0
first_lfs w win some =
    let a = ahead_first w win some in
    ap (λ (t : List ℕ). count_by is_lf (take 1 t)) a ∙ one (get_or w.buffer.items w.from 0)

pub first_counts : (w : Window) (b n : ℕ) → IsWindow w → w.from < w.to → b ≡ get_or w.buffer.items w.from b → n ≡ cond (is_lf b) 1 0 → n ≡ count_by is_lf (take 1 (ahead_of w))
first_counts w b n win some byte is =
    let low : w.from < length w.buffer.items = omega (arith, win.long, win.within, w.buffer.ok.0) in
    let e : b ≡ get_or w.buffer.items w.from 0 = byte ∙ get_or_default w.buffer.items w.from b 0 low in
    is ∙ ap (λ x. cond (is_lf x) 1 0) e ∙ sym (first_lfs w win some)

pub none_ahead : (w : Window) → IsWindow w → w.to ≤ w.from → ahead_of w ≡ []
none_ahead w win none = let e : w.to - w.from ≡ 0 = omega arith in rw e refl

pub over : (w w2 : Window) (source : Device) (at_end : IsTrue w2.at_end) → IsWindow w → w.to ≤ w.from → ahead_of w2 ≡ [] → Gives source.before source.after (ahead_of w2) → IsAtEnd source.after
    → w2.room ≡ w.room → w2.lines ≡ w.lines → source.failed_after ≡ source.failed_before → IsOver (front_of w) (front_of w2) source
over w w2 source at_end win none none2 given left room lines steady = record {
  none_before = none_ahead w win none;
  none = none2;
  given = rw none2 at given;
  over = left;
  at_end = at_end;
  room_is = room;
  lines_are = lines;
  steady = steady;
}

pub empty_ahead : (xs : List ℕ) (n : ℕ) → n ≡ length xs → n ≡ 0 → xs ≡ []
empty_ahead [] n e z = refl
empty_ahead (x ∷ xs) n e z = absurd (omega arith)

pub end_shown : (at_end : Bool) (count : ℕ) → (at_end ≡ false → 0 < count) → count ≡ 0 → at_end ≡ true
end_shown true count some none = refl
end_shown false count some none = let k = some refl in absurd (omega arith)
