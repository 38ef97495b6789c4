-- What a reading leaves, by what it has used.
use Rattle.std.proofs.Common.{◌≡◌, ℕ, List, Option, refl, false, IsTrue}
use Rattle.sp_ports.specs.Bytes.{IsAtEnd}
use Rattle.mm_defs.specs.declared.answers.End.{End}
use Rattle.mm_reader.specs.declared.window.Window.{Window}
use Rattle.mm_reader.specs.Readings.{AsksOnce, EndsFor, Leaves}
use Rattle.mm_reader.specs.Windows.{IsWindow}
use Rattle.mm_reader.proofs.Progress.{HasUsed, at_end_known, counted_known, keeps, most_known}

-- no read was made yet
pub asks_none : {S : Type 0} {left : S → Option (List ℕ)} {source : S} {w : Window} → (IsTrue w.at_end → IsAtEnd (left source)) → AsksOnce left source source w w
asks_none over = record { at_end = over; unasked = λ t. refl; stays = λ t. t }

-- some bytes were used, and no read was made
pub asks_same : {S : Type 0} {left : S → Option (List ℕ)} {s0 s1 : S} {w0 w w2 : Window} → AsksOnce left s0 s1 w0 w → w2.at_end ≡ w.at_end → AsksOnce left s0 s1 w0 w2
asks_same a same = record {
  at_end = λ t. a.at_end (rw (← same) t);
  unasked = a.unasked;
  stays = λ t. rw same (a.stays t);
}

-- a read was made, since none had given no bytes
pub asks_more : {S : Type 0} {left : S → Option (List ℕ)} {s0 s1 s2 : S} {w0 w w2 : Window} → AsksOnce left s0 s1 w0 w → w.at_end ≡ false → (IsTrue w2.at_end → IsAtEnd (left s2)) → AsksOnce left s0 s2 w0 w2
asks_more a more over = record {
  at_end = over;
  unasked = λ t. let k = a.stays t in absurd cc;
  stays = λ t. let k = a.stays t in absurd cc;
}

pub leaves : {S : Type 0} (left : S → Option (List ℕ)) (faults : S → ℕ) (s0 s1 : S) (w0 w : Window) (used : List ℕ) → HasUsed w0 w (left s0) (left s1) used → IsWindow w → AsksOnce left s0 s1 w0 w → Leaves left faults s0 s1 w0 w
leaves left faults s0 s1 w0 w used h win asks = record {
  gave = (h.gave, h.known);
  most = most_known w0 w used (faults s0) (faults s1) (left s0) (left s1) h win;
  counted = counted_known w0 w used (left s0) (left s1) h;
  window = keeps w0 w used (left s0) (left s1) h win;
  asks = asks;
}

-- a read has given no bytes
pub ends_over : (end : End) (w0 w : Window) (used : List ℕ) (old now : Option (List ℕ)) → HasUsed w0 w old now used → IsTrue w.at_end → EndsFor end old now w0 w
ends_over end w0 w used old now h over = record { ended = λ e. over; last_line = at_end_known w0 w used old now h over }
