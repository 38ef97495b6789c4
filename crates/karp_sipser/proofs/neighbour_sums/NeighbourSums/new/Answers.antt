use Rattle.std.proofs.Common.{◌≡◌, ◌∙◌, ◌<◌, ◌≤◌, ℕ, [], length, map, sym, ap, inl, inr, refl, arith}
use Rattle.std.proofs.lemmas.Bool.{cases_eq, true≢false}
use Rattle.std.proofs.lemmas.Bool.Decides.{nat_tests}
use Rattle.std.proofs.lemmas.List.{length-map, length-set}
use Rattle.std.specs.Ordering.{nat_cmp, ord_max}
use Rattle.bip_defs.proofs.Sets.{entry_col, lists_same}
use Rattle.bip_defs.specs.Lists.{Among, Lists}
use Rattle.bip_defs.specs.Matrix.{cols, column, Matrix}
use Rattle.bip_defs.specs.Start.{IsFree}
use Rattle.karp_sipser.specs.NeighbourSums.{IsSum, LooksLikeOne}
use Rattle.karp_sipser.proofs.Prefixes.{each_next}
use Rattle.karp_sipser.proofs.Sums.{one_looks}
use Rattle.karp_sipser.proofs.neighbour_sums.NeighbourSums.new.Goals as goal
use Rattle.karp_sipser.proofs.neighbour_sums.NeighbourSums.new.Goals.{then-looks_like_one, else-looks_like_one}

-- the greater of two numbers
greater : (a b n : ℕ) → n ≡ ord_max nat_cmp a b → (a ≤ n) × (b ≤ n)
greater a b n is = grind (arith, nat_tests)

pub loop-vertex-preserved : goal.loop-vertex-preserved
loop-vertex-preserved g c =
    let a : Matrix = g.S.Side.matrix c.args.side.now in
    let inv = c.loop-vertex.invariant in
    let v : ℕ = c.loop-vertex.vertex in
    let listed : Lists (λ r. IsFree a [] r v) (map g.I.Id.number c.rows_of-ids.result.now) = lists_same _ _ _ (λ r e. (e, (λ h. h), (λ h. h))) (λ r f. f.0) c.rows_of-ids.ensures.rows in
    let last : IsSum c.args.unit (λ r. IsFree a [] r v) c.sum_of-word.result = record { having = map g.I.Id.number c.rows_of-ids.result.now; lists = listed; sum_is = sym c.sum_of-word.ensures } in
    let held : (c.if-looks_like_one.of_one.bound ≡ cols a) × ((x : ℕ) → Among x c.loop-vertex.of_one.members → Among x c.if-looks_like_one.of_one.members) × (LooksLikeOne c.args.unit c.sum_of-word.result → Among v c.if-looks_like_one.of_one.members) = elim c.if-looks_like_one.branch [
      | then-looks_like_one w ↦ rw w.of_one-is (w.insert.ensures.bound ∙ inv.bound, (λ x h. (w.insert.ensures.members x).1 (inr h)), (λ looks. (w.insert.ensures.members v).1 (inl refl)))
      | else-looks_like_one w ↦ rw w.of_one-is (inv.bound, (λ x h. h), (λ looks. absurd (true≢false (sym (c.looks_like_one.ensures.1 looks) ∙ w.if-looks_like_one.false))))
    ] in
    let long_is : length c.rows_of-ids.result.now ≡ length (column a v) = sym (length-map c.rows_of-ids.result.now g.I.Id.number) ∙ ap length c.rows_of-ids.ensures.column in
    let most : (c.loop-vertex.longest ≤ c.max-longest.result) × (length c.rows_of-ids.result.now ≤ c.max-longest.result) = greater c.loop-vertex.longest (length c.rows_of-ids.result.now) c.max-longest.result c.max-longest.ensures in
    let inside : v < length c.loop-vertex.words.items = omega (arith, inv.long, inv.count, c.loop-vertex-test.true) in
    record {
      count = inv.count;
      long = length-set c.loop-vertex.words.items v c.sum_of-word.result ∙ inv.long;
      bound = held.0;
      sums = each_next (λ x s. IsSum c.args.unit (λ r. IsFree a [] r x) s) c.loop-vertex.words.items v c.sum_of-word.result inside inv.sums last;
      ones = each_next (λ x s. LooksLikeOne c.args.unit s → Among x c.if-looks_like_one.of_one.members) c.loop-vertex.words.items v c.sum_of-word.result inside (λ x lt looks. held.1 x (inv.ones x lt looks)) held.2;
      longest = λ x lt. elim (cases_eq x v) [
        | inl e ↦ rw e (omega (arith, long_is, most.1))
        | inr ne ↦ omega (arith, inv.longest x (omega arith), most.0)
      ];
    }

pub returns-clause-ones : goal.returns-clause-ones
returns-clause-ones g c x o =
    let a : Matrix = g.S.Side.matrix c.args.side.now in
    let inv = c.loop-vertex.invariant in
    let inside = entry_col a o.0 x o.1.0.0 in
    let past = c.loop-vertex-test.false in
    let lt : x < c.loop-vertex.vertex = omega (arith, inside, past, inv.count) in
    inv.ones x lt (one_looks c.args.unit (λ r. IsFree a [] r x) _ o.0 c.requires.unit.fits (omega (arith, o.1.0.0.0, c.requires.unit.rows_below)) (inv.sums x lt) o.1)
