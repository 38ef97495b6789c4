-- Reading all that follows, of a source that may tell its bytes.
use Rattle.std.proofs.Common.{◌≡◌, ℕ, ◌-◌, ◌<◌, ◌≤◌, List, [], ◌++◌, length, refl, sym, ap, ◌∙◌, arith, append-nil, Option, Some, None, Result, Err}
use Rattle.sp_ports.specs.Bytes.{IsAtEnd, WhereKnown}
use Rattle.sp_ports.specs.Device.{SourceRose}
use Rattle.mm_defs.specs.declared.answers.End.TheVariants.{File}
use Rattle.mm_defs.specs.declared.answers.ReadError.{ReadError}
use Rattle.mm_defs.specs.declared.answers.ReadError.TheVariants as errors
use Rattle.mm_defs.specs.Calls.{IsRest, JudgesNoLine, RefusesRest, got, call_on}
use Rattle.mm_reader.specs.declared.window.Window.{Window}
use Rattle.mm_reader.specs.Windows.{ahead_of, IsOnePast, IsWindow, RefusesAhead}
use Rattle.mm_reader.proofs.Progress.{HasUsed}
use Rattle.mm_reader.proofs.StreamLaws.{past, got-is, offered-used}
use Rattle.mm_reader.proofs.WindowLaws.{length-ahead_of}

module _ (w0 : Window) (fb fa : ℕ) (bytes : List ℕ) (w : Window) where
  refused : (before after : List ℕ) (error : ReadError) → HasUsed w0 w (Some before) (Some after) bytes → RefusesAhead w error → RefusesRest (call_on w0.room (ahead_of w0) fb fa before after) error
  refused before after (errors.Malformed line kind) h k = absurd k
  refused before after (errors.Limit line kind) h k = absurd k
  refused before after errors.TooLong h k =
      let fits : length bytes ≤ w0.room = omega (arith, h.size) in
      let over : w0.room - length bytes < length (ahead_of w) = omega (arith, h.size) in
      past File (ahead_of w0) before after h.gave bytes (ahead_of w) w0.room fb fa h.known h.split fits over
  refused before after errors.ReadFault h k = absurd k
  refused before after errors.OutOfMemory h k = tt

  pub rest_refused : (old now : Option (List ℕ)) (error : ReadError) → HasUsed w0 w old now bytes → RefusesAhead w error
      → WhereKnown old now (λ before after. RefusesRest (call_on w0.room (ahead_of w0) fb fa before after) error)
  rest_refused None now error h k = tt
  rest_refused (Some before) None error h k = absurd h.known
  rest_refused (Some before) (Some after) error h k = refused before after error h k

  pub rest_fault : (old now : Option (List ℕ)) → HasUsed w0 w old now bytes → ahead_of w ≡ [] → SourceRose old fb fa
      → WhereKnown old now (λ before after. RefusesRest (call_on w0.room (ahead_of w0) fb fa before after) errors.ReadFault)
  rest_fault None now h none rose = tt
  rest_fault (Some before) None h none rose = absurd h.known
  rest_fault (Some before) (Some after) h none rose =
      let fits : length bytes ≤ w0.room = omega (arith, h.size) in
      let g : got (call_on w0.room (ahead_of w0) fb fa before after) ≡ bytes =
      got-is File (ahead_of w0) before after h.gave bytes (ahead_of w) w0.room fb fa h.known h.split fits ∙ ap (λ (t : List ℕ). bytes ++ t) none ∙ append-nil bytes in
      (rose, rw g fits)

  pub rest_read : (old now : Option (List ℕ)) → HasUsed w0 w old now bytes → ahead_of w ≡ [] → IsAtEnd now → fa ≡ fb → WhereKnown old now (λ before after. IsRest (call_on w0.room (ahead_of w0) fb fa before after) (ahead_of w ++ after) bytes)
  rest_read None now h none over steady = tt
  rest_read (Some before) None h none over steady = absurd h.known
  rest_read (Some before) (Some after) h none over steady =
      let fits : length bytes ≤ w0.room = omega (arith, h.size) in
      let o = offered-used File (ahead_of w0) before after h.gave bytes (ahead_of w) w0.room fb fa h.known h.split fits none over steady in
      record {
        bytes_are = sym o;
        nothing_left = rw (none, over) refl;
        within = rw o fits;
      }

-- the bytes ahead are too many by one
pub past_ahead : (V : Type 0) (w : Window) → IsWindow w → (error : ReadError) → RefusesAhead w error → ◌≡◌ {A = Result V ReadError} (Err error) (Err errors.TooLong) → IsOnePast w
past_ahead V w win (errors.Malformed line kind) h e = absurd h
past_ahead V w win (errors.Limit line kind) h e = absurd h
past_ahead V w win errors.TooLong h e = let n = length-ahead_of w win in omega (arith, h, win.asked, win.in_order)
past_ahead V w win errors.ReadFault h e = absurd h
past_ahead V w win errors.OutOfMemory h e = absurd cc

pub refused_no_rest_fault : (V : Type 0) (w : Window) (error : ReadError) → RefusesAhead w error → ◌≡◌ {A = Result V ReadError} (Err error) (Err errors.ReadFault) → ⊥
refused_no_rest_fault V w error h e = let k : error ≡ errors.ReadFault = cc in rw k at h

pub unjudged : (w : Window) (error : ReadError) → RefusesAhead w error → JudgesNoLine error
unjudged w (errors.Malformed line kind) h = absurd h
unjudged w (errors.Limit line kind) h = absurd h
unjudged w errors.TooLong h = tt
unjudged w errors.ReadFault h = absurd h
unjudged w errors.OutOfMemory h = tt
