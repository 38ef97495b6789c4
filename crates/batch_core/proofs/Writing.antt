-- A text that is written piece by piece, and then handed on.
use Rattle.std.proofs.Common.{◌≡◌, ◌++◌, ◌∙◌, ℕ, List, [], Option, Result, Ok, Err, ap, append-nil, append_assoc, arith, sym, subst}
use Rattle.std.specs.Result.{IsErr}
use Rattle.sp_ports.specs.Bytes.{Takes, TakesPrefix}
use Rattle.sp_ports.specs.Device.{Device, FailsByWrites, Rose, Took, TookPrefix, Writes}
use Rattle.btf_text.specs.Buffered.{since}

-- a prefix of a text is one of what goes on with it
pub prefix_more : (d : Device) (text more : List ℕ) → TookPrefix d text → TookPrefix d (text ++ more)
prefix_more d text more h =
    let (prefix, rest, is, takes) : TakesPrefix d.before d.after text = h.bytes in record {
      bytes = (prefix, rest ++ more, ap (λ (t : List ℕ). t ++ more) is ∙ append_assoc prefix rest more, takes);
      counts = h.counts;
      fault = h.fault;
    }

-- all was taken, and then the device was to hand it on
pub handed_on : {T E : Type 0} (t0 t1 t2 : Option (List ℕ)) (f0 f1 f2 : ℕ) (text : List ℕ) (result : Result T E) → Took (since t0 f0 t1 f1) text → t2 ≡ t1
    → FailsByWrites (since t1 f1 t2 f2) result → Writes (since t0 f0 t2 f2) text result
handed_on t0 t1 t2 f0 f1 f2 text (Ok v) took same cause = record {
  bytes = subst (λ (t : Option (List ℕ)). Takes t0 t text) (sym same) took.bytes;
  steady = cause.steady ∙ took.steady;
}
handed_on t0 t1 t2 f0 f1 f2 text (Err e) took same cause = record {
  bytes = (text, [], sym (append-nil text), subst (λ (t : Option (List ℕ)). Takes t0 t text) (sym same) took.bytes);
  counts = omega (arith, took.steady, cause.counts);
  fault = subst (λ (n : ℕ). Rose n f2) took.steady cause.failed;
}

-- a result that is a failure tells one
pub as_failure : {T E : Type 0} (d : Device) (text : List ℕ) (result : Result T E) → IsErr result → TookPrefix d text → Writes d text result
as_failure d text (Ok v) is took = cc
as_failure d text (Err e) is took = took
