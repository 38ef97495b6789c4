-- From a reading within a window to a call on an input.
use Rattle.std.proofs.Common.{◌≡◌, ℕ, List, ◌++◌, ap, subst, ◌∙◌, arith, Option, Some, None, Result, IsTrue}
use Rattle.sp_ids.specs.Entries as entries
use Rattle.sp_ports.specs.Bytes.{WhereKnown}
use Rattle.mm_defs.specs.declared.answers.End.{End}
use Rattle.mm_defs.specs.declared.answers.ReadError.{ReadError}
use Rattle.mm_defs.specs.Calls.{Intake, Call, call_on, room, first_bad, FellShort, IsAnswer, IsAnswerTo, IsNear, LacksLf}
use Rattle.mm_defs.specs.File.{Fault}
use Rattle.mm_defs.proofs.AnswerLemmas.{bad_line_known}
use Rattle.mm_reader.specs.declared.input.Input.TheInside.{Inside}
use Rattle.mm_reader.specs.declared.window.Window.{Window}
use Rattle.mm_reader.specs.Inputs.{intake_of, IsInput, Tells}
use Rattle.mm_reader.specs.Windows.{ahead_of, Answers}

module _ (end : End) (i : Inside) (is : IsInput i) (input : Intake) (view : intake_of i ≡ input) (w3 : Window) (fb fa : ℕ) where
  pub call_same : (before after : List ℕ) → call_on i.window.room (ahead_of i.window) fb fa before after ≡ call_on (room input) input.ahead fb fa before after
  call_same before after =
      let e : i.window.room ≡ room (intake_of i) = omega (arith, is.room) in
      ap (λ (k : ℕ). record { room = k; ahead = ahead_of i.window; before = before; after = after; failures_before = fb; failures_after = fa }) e
      ∙ ap (λ (x : Intake). call_on (room x) x.ahead fb fa before after) view

  -- what follows of the call, seen from outside
  known : (P Q : Call → Type 0) → ((call : Call) → P call → Q call) → (old new : Option (List ℕ))
      → WhereKnown old new (λ before after. P (call_on i.window.room (ahead_of i.window) fb fa before after))
      → WhereKnown old new (λ before after. Q (call_on (room input) input.ahead fb fa before after))
  known P Q f None new h = tt
  known P Q f (Some before) None h = h
  known P Q f (Some before) (Some after) h = subst Q (call_same before after) (f (call_on i.window.room (ahead_of i.window) fb fa before after) h)

  pub tells_known : (old new : Option (List ℕ)) (result : Result entries.Entries ReadError) → WhereKnown old new (λ before after. Answers end (call_on i.window.room (ahead_of i.window) fb fa before after) w3 result)
      → Tells end input (record { before = old; after = new; failed_before = fb; failed_after = fa }) (ahead_of w3) result
  tells_known old new result h =
      let P : Call → Type 0 = λ call. Answers end call w3 result in
      record {
        answer = known P (λ call. IsAnswer end call (ahead_of w3 ++ call.after) result) (λ call a. a.answer) old new h;
        bad = known P (λ call. (fault : Fault) → first_bad end call ≡ Some fault → IsAnswerTo fault result)
            (λ call a fault k. bad_line_known end call (ahead_of w3 ++ call.after) result fault a.answer k) old new h;
        near = known P (λ call. IsNear call result) (λ call a. a.near) old new h;
        short = known P (λ call. FellShort end call result) (λ call a. a.short) old new h;
      }

  pub last_line_known : (old new : Option (List ℕ)) → WhereKnown old new (λ before after. LacksLf (ahead_of i.window ++ before) (ahead_of w3 ++ after) → IsTrue w3.at_end)
      → WhereKnown old new (λ before after. LacksLf (input.ahead ++ before) (ahead_of w3 ++ after) → IsTrue w3.at_end)
  last_line_known old new h =
      subst (λ (a : List ℕ). WhereKnown old new (λ before after. LacksLf (a ++ before) (ahead_of w3 ++ after) → IsTrue w3.at_end)) (ap (λ (x : Intake). x.ahead) view) h
