use Rattle.std.proofs.Common.{◌≡◌, false, take, nat_eq}
use Rattle.std.specs.List.{list_any}
use Rattle.btf_text.proofs.hall.PatternRowLookup.has_entry_in.Given as goal

abbrev pub invariant-loop-col : goal.invariant-loop-col
invariant-loop-col l = list_any (λ c. list_any (nat_eq c) l.hall) (take l.col-index l.cols) ≡ false
