-- Phases that go on until one finds nothing.
use Rattle.std.proofs.Common.{◌≡◌, ◌⊎◌, ◌↔◌, ◌∙◌, ◌+◌, ◌-◌, ◌<◌, Bool, true, false, if◌then◌else◌, IsTrue, length, refl, sym, ap, true≢false, subst, inl, inr, arith}
use Rattle.std.specs.Bool.{OnFalse}
use Rattle.bip_defs.specs.Matching.{IsMatching, IsMaximum}
use Rattle.bip_defs.specs.Matrix.{Matrix, cols}
use Rattle.bip_defs.proofs.Full.{matching_few}
use Rattle.bip_graph.specs.Matching.{Pairing}

-- a phase that has not grown the matching is the last
pub last_phase : (a : Matrix) (start m : Pairing) (grew : Bool) → (IsTrue grew ↔ (length start.pairs < length m.pairs)) → ((m ≡ start) × IsMaximum a start.pairs) ⊎ (length start.pairs < length m.pairs) → grew ≡ false → IsMaximum a m.pairs
last_phase a start m grew fact (inl same) e = subst (λ (p : Pairing). IsMaximum a p.pairs) (sym same.0) same.1
last_phase a start m grew fact (inr more) e = absurd (true≢false (sym (fact.1 more) ∙ e))

pub on_false : {P : Type 0} (b : Bool) → b ≡ false → OnFalse b P → P
on_false true e p = absurd (true≢false e)
on_false false e p = p

-- the columns without a pair, and one while phases go on, fall
pub phases_fall : (a : Matrix) (start m : Pairing) (grew : Bool) → (IsTrue grew ↔ (length start.pairs < length m.pairs)) → ((m ≡ start) × IsMaximum a start.pairs) ⊎ (length start.pairs < length m.pairs) → IsMatching a m.pairs → (cols a - length m.pairs) + (if grew then 1 else 0) < (cols a - length start.pairs) + 1
phases_fall a start m true fact out k = let more = fact.0 refl in let le = matching_few a m.pairs k in omega arith
phases_fall a start m false fact (inl same) k = let e = ap (λ (p : Pairing). length p.pairs) same.0 in omega arith
phases_fall a start m false fact (inr more) k = absurd (true≢false (sym (fact.1 more)))
