use Rattle.std.proofs.Common.{◌≡◌, ◌<◌, ◌≤◌, ℕ, List, [], Result, Ok, Err, IsOk, IfOk, OnErr, Some, length, min, take, drop, arith, refl, sym, take-append-drop, ◌++◌}
use Rattle.sp_ports.specs.Device.{FailsByReads, seen}
use Rattle.sp_ports.specs.declared.ports.Failed.{Failed}
use Rattle.sp_ports.proofs.lent.LentSourceSource.TheImpl.Goals as goal

-- the counts of a source that never fails
abbrev never : List ℕ → ℕ
never s = 0

bound : (room : ℕ) (old : List ℕ) (r : Result ℕ Failed) → IfOk r (λ k. k ≡ min (length old) room) → IfOk r (λ k. k ≤ room)
bound room old (Ok k) count = omega (arith, count)
bound room old (Err e) count = tt

given : (old new held : List ℕ) (r : Result ℕ Failed) → IfOk r (λ k. take k held ≡ take k old) → IfOk r (λ k. new ≡ drop k old)
    → IfOk r (λ k. old ≡ take k held ++ new)
given old new held (Ok k) bytes left = rw (bytes, left) (sym (take-append-drop k old))
given old new held (Err e) bytes left = tt

at_end : (room : ℕ) (old new : List ℕ) (r : Result ℕ Failed) → IfOk r (λ k. new ≡ drop k old) → IfOk r (λ k. k ≡ 0 → 0 < room → old ≡ [])
    → IfOk r (λ k. k ≡ 0 → 0 < room → new ≡ [])
at_end room old new (Ok k) left end = λ none some. let e = end none some in rw (left, none) e
at_end room old new (Err e) left end = tt

kept : (P : Type 0) (r : Result ℕ Failed) → IsOk r → OnErr r P
kept P (Ok k) succeeds = tt
kept P (Err e) succeeds = absurd cc

cause : (old new : List ℕ) (r : Result ℕ Failed) → IsOk r → FailsByReads (seen (λ (s : List ℕ). Some s) never old new) r
cause old new (Ok k) succeeds = record { counts = omega arith; steady = refl; failed = tt }
cause old new (Err e) succeeds = absurd cc

pub read-tells : goal.read-tells
read-tells g c = record {
  bound = bound (length c.args.buf.now) c.args.self.now c.result c.ensures.count;
  bytes = given c.args.self.now c.new.self.now c.new.buf.now c.result c.ensures.bytes c.ensures.ok;
  end = at_end (length c.args.buf.now) c.args.self.now c.new.self.now c.result c.ensures.ok c.ensures.end;
  kept = kept _ c.result c.ensures.succeeds;
  cause = cause c.args.self.now c.new.self.now c.result c.ensures.succeeds;
}
