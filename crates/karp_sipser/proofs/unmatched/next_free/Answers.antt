use Rattle.std.proofs.Common.{ℕ, List, map, subst, inl, inr, arith}
use Rattle.std.proofs.lemmas.Bool.{cases_eq}
use Rattle.std.proofs.lemmas.List.{map-id}
use Rattle.bip_defs.proofs.Sets.{col_among, entry_col}
use Rattle.bip_defs.specs.Lists.{Among, Lists}
use Rattle.bip_defs.specs.Matching.{cols_of}
use Rattle.bip_defs.specs.Matrix.{IsEntry, Matrix}
use Rattle.bip_defs.specs.Start.{IsFree}
use Rattle.karp_sipser.proofs.Prefixes.{none_found, some_found}
use Rattle.karp_sipser.proofs.unmatched.next_free.Goals as goal
use Rattle.karp_sipser.proofs.unmatched.next_free.Goals.{then-is_none+in_default, else-is_none}

-- a list with its elements written as themselves
written : (a : Matrix) (c : ℕ) (xs : List ℕ) → Lists (λ r. IsEntry a r c) xs → Lists (λ r. IsEntry a r c) (map (λ (x : ℕ). x) xs)
written a c xs l = rw map-id l

pub first_unmatched-requires-clause-in_range : goal.first_unmatched-requires-clause-in_range
first_unmatched-requires-clause-in_range c x h =
    let l = written c.args.pattern.now c.loop-at.at _ c.rows_of.ensures.rows in
    omega (arith, (l.sound x h).0, c.requires.rows)

pub returns-in-Some-clause-row : goal.returns-in-Some-clause-row
returns-in-Some-clause-row c =
    let l = written c.args.pattern.now c.loop-at.at _ c.rows_of.ensures.rows in
    let least = c.in-Some.ensures.least in
    let apart : ¬ Among c.loop-at.at (cols_of c.args.matching.now.pairs) = none_found c.row_of.result c.is_none.result _ c.is_none.ensures c.if-is_none.true c.row_of.ensures.none in
    ((l.sound _ least.0.0, least.0.1, apart), λ y f. least.1 y (l.complete y f.0, f.1))

pub loop-at-preserved : goal.loop-at-preserved
loop-at-preserved c = λ r d from lt f. elim (cases_eq d c.loop-at.at) [
  | inl e ↦
      let here : IsFree c.args.pattern.now c.args.matching.now.pairs r c.loop-at.at = subst (λ x. IsFree c.args.pattern.now c.args.matching.now.pairs r x) e f in
      elim c.if-is_none.branch [
        | then-is_none+in_default w ↦
            let l = written c.args.pattern.now c.loop-at.at _ w.rows_of.ensures.rows in
            here.1 (w.in_default.ensures.none r (l.complete r here.0))
        | else-is_none w ↦
            let (mate, pair) = some_found c.row_of.result c.is_none.result _ c.is_none.ensures w.if-is_none.false c.row_of.ensures.found in
            here.2 (col_among mate c.loop-at.at _ pair)
      ]
  | inr ne ↦ c.loop-at.invariant r d from (omega arith) f
]

pub returns-clause-none : goal.returns-clause-none
returns-clause-none c = λ r d from f.
    let inside = entry_col c.args.pattern.now r d f.0 in
    let past = c.loop-at-test.false in
    c.loop-at.invariant r d from (omega (arith, inside, past, c.cols-at-end.ensures)) f
