-- What the clauses on an answer tell, which may be an error or nothing.
use Rattle.std.proofs.Common.{◌≡◌, true, true≢false, Option, Some, None, Result, Ok, Err, OnOk, sym}
use Rattle.std.specs.Option.{is_some}
use Rattle.std.specs.Prelude.{IfSome}

-- what two clauses tell together of an answer that is no error
pub ok_both : {A E P Q R : Type 0} (r : Result A E) → (P → Q → R) → OnOk r P → OnOk r Q → OnOk r R
ok_both (Ok a) f p q = f p q
ok_both (Err e) f p q = tt

-- what was looked for and found
pub some_found : {X : Type 0} (P : X → Type 0) (o : Option X) → is_some o ≡ true → IfSome o P → (x : X) × P x
some_found P None e h = absurd (true≢false (sym e))
some_found P (Some x) e h = (x, h)
