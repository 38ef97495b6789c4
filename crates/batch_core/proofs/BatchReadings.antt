-- What the reading of a batch says, from what the reader answers.
use Rattle.std.proofs.Common.{◌≡◌, ℕ, Ok, refl, List, [], Err, Option, Some, None, Result, sym, subst}
use Rattle.std.specs.Result.{IsErrAnd}
use Rattle.sp_ids.specs.Limits.{max_input_bytes}
use Rattle.sp_ports.specs.Bytes.{WhereKnown}
use Rattle.sp_ports.specs.Device.{Device, HasReadFault}
use Rattle.mm_defs.specs.Calls.{Intake, call_on, room}
use Rattle.mm_frames.specs.Batches.{RefusesBatch}
use Rattle.mm_frames.specs.declared.batch.BatchError.{BatchError}
use Rattle.mm_frames.specs.declared.batch.BatchError.TheVariants as errors
use Rattle.btf_tool.specs.Jobs.{reading}
use Rattle.batch_core.specs.BatchRefusals.{refusal_for}
use Rattle.batch_core.specs.BatchRuns.{IsUnread}
use Rattle.batch_core.specs.declared.refusals.BatchRefusal.{BatchRefusal}

-- what follows of what holds where bytes are told
pub where_known : {P Q : List ℕ → List ℕ → Type 0} (before after : Option (List ℕ)) → WhereKnown before after P
    → ((x y : List ℕ) → before ≡ Some x → P x y → Q x y) → WhereKnown before after Q
where_known None after h f = tt
where_known (Some x) None h f = absurd h
where_known (Some x) (Some y) h f = f x y refl h

-- what holds of this refusal holds of a result that is it
pub as_refusal : {T : Type 0} (result : Result T BatchRefusal) (refusal : BatchRefusal) (Q : Result T BatchRefusal → Type 0)
    → IsErrAnd result (λ e. e ≡ refusal) → Q (Err refusal) → Q result
as_refusal (Ok v) refusal Q is q = absurd is
as_refusal (Err e) refusal Q is q = subst (λ (r : BatchRefusal). Q (Err r)) (sym is) q

refused : (input : Device) (e : BatchError) → WhereKnown input.before input.after (λ x y. RefusesBatch (reading input x y) e)
    → (e ≡ errors.ReadFault → HasReadFault input) → IsUnread input (refusal_for e)
refused input (errors.Malformed file kind) h rose = h
refused input (errors.Limit file kind) h rose = h
refused input errors.TooLong h rose = h
refused input errors.ReadFault h rose = (rose refl, where_known input.before input.after h (λ x y before f. (f.0, f.2)))
refused input errors.OutOfMemory h rose = where_known input.before input.after h (λ x y before f. tt)

-- an input of which nothing was taken could not be read
pub batch_refused : (input : Device) (start : Intake) (e : BatchError) → room start ≡ max_input_bytes → start.ahead ≡ []
    → WhereKnown input.before input.after (λ x y. RefusesBatch (call_on (room start) start.ahead input.failed_before input.failed_after x y) e)
    → (e ≡ errors.ReadFault → HasReadFault input) → IsUnread input (refusal_for e)
batch_refused input start e room_is ahead_is answer rose = refused input e (subst (λ (n : ℕ). OverCall n []) room_is (subst (λ (xs : List ℕ). OverCall (room start) xs) ahead_is answer)) rose
  where
    OverCall : ℕ → List ℕ → Type 0
    OverCall n xs = WhereKnown input.before input.after (λ x y. RefusesBatch (call_on n xs input.failed_before input.failed_after x y) e)
