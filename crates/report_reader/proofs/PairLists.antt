-- Pairs, one after the other.
use Rattle.std.proofs.Common.{◌≡◌, ◌<◌, ◌≤◌, ◌+◌, ◌-◌, ℕ, suc, List, [], ◌∷◌, ◌++◌, Option, Some, None, refl, sym, ap, ◌∙◌, append-nil, arith}
use Rattle.bip_defs.specs.Matrix.{Place}
use Rattle.report_reader.specs.declared.stop.Stop.{Stop}
use Rattle.report_reader.specs.ReportGrammar.{Stops, pair_at, pair_list_at}
use Rattle.report_reader.proofs.Prefixes.{regroup, stops_so, with_prefix}

pub pairs_more : (prefix : List Place) (count i : ℕ) (bytes : List ℕ) (p : Place × List ℕ) (total : Option (List Place × List ℕ)) → i < count → pair_at bytes ≡ Some p
    → with_prefix prefix (pair_list_at (count - i) bytes) ≡ total → with_prefix (prefix ++ p.0 ∷ []) (pair_list_at (count - (i + 1)) p.1) ≡ total
unfolding pair_list_at
pairs_more prefix count i bytes p total inside pair so_far =
    let k : count - i ≡ suc (count - (i + 1)) = omega (arith, inside) in
    let one : with_prefix prefix (pair_list_at (count - i) bytes) ≡ with_prefix (prefix ++ p.0 ∷ []) (pair_list_at (count - (i + 1)) p.1) = rw (k, pair) (regroup prefix p.0 (pair_list_at (count - (i + 1)) p.1)) in
    sym one ∙ so_far

pub pairs_stop : (e : Stop) (prefix : List Place) (count i : ℕ) (bytes : List ℕ) (total : Option (List Place × List ℕ)) → i < count → Stops e (pair_at bytes)
    → with_prefix prefix (pair_list_at (count - i) bytes) ≡ total → Stops e total
unfolding pair_list_at
pairs_stop e prefix count i bytes total inside stops so_far = stops_so e (pair_at bytes) total none stops
  where
    none : pair_at bytes ≡ None → total ≡ None
    none pair =
        let k : count - i ≡ suc (count - (i + 1)) = omega (arith, inside) in
        let one : with_prefix prefix (pair_list_at (count - i) bytes) ≡ None = rw (k, pair) refl in
        sym so_far ∙ one

pub pairs_done : (prefix : List Place) (count i : ℕ) (bytes : List ℕ) (total : Option (List Place × List ℕ)) → count ≤ i → with_prefix prefix (pair_list_at (count - i) bytes) ≡ total → total ≡ Some (prefix, bytes)
unfolding pair_list_at
pairs_done prefix count i bytes total ended so_far =
    let k : count - i ≡ 0 = omega (arith, ended) in
    let one : with_prefix prefix (pair_list_at (count - i) bytes) ≡ Some (prefix, bytes) = rw k (ap (λ (ps : List Place). Some (ps, bytes)) (append-nil prefix)) in
    sym so_far ∙ one
