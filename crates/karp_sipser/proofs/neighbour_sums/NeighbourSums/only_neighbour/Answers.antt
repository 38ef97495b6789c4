use Rattle.std.proofs.Common.{◌≡◌, ◌∙◌, ℕ, List, length, map, slice_index, sym, subst, ap, arith}
use Rattle.std.proofs.lemmas.List.{length-map}
use Rattle.bip_defs.proofs.Sets.{col_among}
use Rattle.bip_defs.specs.Lists.{Among}
use Rattle.bip_defs.specs.Matching.{cols_of, rows_of}
use Rattle.bip_defs.specs.Matrix.{column, Matrix, Place}
use Rattle.bip_defs.specs.Start.{IsFree, IsOnly}
use Rattle.karp_sipser.specs.NeighbourSums.{IsShort, LooksLikeOne, wrapping_sub}
use Rattle.karp_sipser.proofs.LeftOut.{col_looks, col_only}
use Rattle.karp_sipser.proofs.Prefixes.{if_none_only, if_some_only, none_is, read_at, some_is}
use Rattle.karp_sipser.proofs.neighbour_sums.NeighbourSums.only_neighbour.Goals as goal
use Rattle.karp_sipser.proofs.neighbour_sums.NeighbourSums.only_neighbour.Goals.{then-mate-self-via-then-mate-self, then-mate-self-via-else-mate-self+then-is_some}

pub returns-then-mate-self-clause-none : goal.returns-then-mate-self-clause-none
returns-then-mate-self-clause-none g c o =
    let s = c.args.self.now in
    let read : slice_index s.words.items c.args.vertex ≡ c.index.result.now = read_at s.words.items c.args.vertex c.index.result.now (omega (arith, c.requires.vertex, c.requires.sums.sums.long)) c.index.ensures in
    elim c.then-mate-self.branch [
      | then-mate-self-via-then-mate-self w ↦
          let looks : LooksLikeOne s.unit c.index.result.now = subst (LooksLikeOne s.unit) read (col_looks _ _ s c.args.vertex c.requires.sums.sums o) in
          let off = w.if-mate-self.true in
          absurd (omega (arith, looks, off))
      | then-mate-self-via-else-mate-self+then-is_some w ↦
          let (mate, pair) = some_is w.row_of.result w.is_some.result _ w.is_some.ensures w.if-is_some.true w.row_of.ensures.found in
          o.1.0.2 (col_among mate c.args.vertex _ pair)
    ]

pub returns-then-not-self-clause-only : goal.returns-then-not-self-clause-only
returns-then-not-self-clause-only g c =
    let s = c.args.self.now in
    let a : Matrix = g.S.Side.matrix c.args.side.now in
    let m : List Place = (g.I.Opposite.seen c.args.matching.now).pairs in
    let read : slice_index s.words.items c.args.vertex ≡ c.index.result.now = read_at s.words.items c.args.vertex c.index.result.now (omega (arith, c.requires.vertex, c.requires.sums.sums.long)) c.index.ensures in
    let apart : ¬ Among c.args.vertex (cols_of m) = none_is c.row_of.result c.is_some.result _ c.is_some.ensures c.if-is_some.false c.row_of.ensures.none in
    let looks : LooksLikeOne s.unit (slice_index s.words.items c.args.vertex) = subst (LooksLikeOne s.unit) (sym read) c.if-mate-self.false in
    subst (λ w. IsOnly (λ r. IsFree a m r c.args.vertex) (wrapping_sub w s.unit)) read
    (col_only a m s c.args.vertex c.requires.sums.sums c.requires.vertex apart (c.requires.sums.sums.short c.if-not-self.true c.args.vertex c.requires.vertex) looks)

pub returns-then-not-is_long-clause-only : goal.returns-then-not-is_long-clause-only
returns-then-not-is_long-clause-only g c =
    let s = c.args.self.now in
    let a : Matrix = g.S.Side.matrix c.args.side.now in
    let m : List Place = (g.I.Opposite.seen c.args.matching.now).pairs in
    let read : slice_index s.words.items c.args.vertex ≡ c.index.result.now = read_at s.words.items c.args.vertex c.index.result.now (omega (arith, c.requires.vertex, c.requires.sums.sums.long)) c.index.ensures in
    let apart : ¬ Among c.args.vertex (cols_of m) = none_is c.row_of.result c.is_some.result _ c.is_some.ensures c.if-is_some.false c.row_of.ensures.none in
    let looks : LooksLikeOne s.unit (slice_index s.words.items c.args.vertex) = subst (LooksLikeOne s.unit) (sym read) c.if-mate-self.false in
    let long_is : length c.rows_of-ids.result.now ≡ length (column a c.args.vertex) = sym (length-map c.rows_of-ids.result.now g.I.Id.number) ∙ ap length c.rows_of-ids.ensures.column in
    subst (λ w. IsOnly (λ r. IsFree a m r c.args.vertex) (wrapping_sub w s.unit)) read
    (col_only a m s c.args.vertex c.requires.sums.sums c.requires.vertex apart (subst (IsShort s.unit) long_is (c.is_long.ensures c.if-not-is_long.true)) looks)

pub only_unmatched-requires-clause-in_range : goal.only_unmatched-requires-clause-in_range
only_unmatched-requires-clause-in_range g c x h = omega (arith, (c.rows_of-ids.ensures.rows.sound x h).0, c.requires.sums.rows)

pub returns-clause-only : goal.returns-clause-only
returns-clause-only g c =
    let a : Matrix = g.S.Side.matrix c.args.side.now in
    let m : List Place = (g.I.Opposite.seen c.args.matching.now).pairs in
    let ids : List ℕ = map g.I.Id.number c.rows_of-ids.result.now in
    let apart : ¬ Among c.args.vertex (cols_of m) = none_is c.row_of.result c.is_some.result _ c.is_some.ensures c.if-is_some.false c.row_of.ensures.none in
    if_some_only c.only_unmatched.result (λ x. Among x ids × (¬ Among x (rows_of m))) (λ r. IsFree a m r c.args.vertex)
    (λ x h. (c.rows_of-ids.ensures.rows.sound x h.0, h.1, apart)) (λ x f. (c.rows_of-ids.ensures.rows.complete x f.0, f.1)) c.only_unmatched.ensures.only

pub returns-clause-none : goal.returns-clause-none
returns-clause-none g c =
    let a : Matrix = g.S.Side.matrix c.args.side.now in
    let m : List Place = (g.I.Opposite.seen c.args.matching.now).pairs in
    let ids : List ℕ = map g.I.Id.number c.rows_of-ids.result.now in
    let apart : ¬ Among c.args.vertex (cols_of m) = none_is c.row_of.result c.is_some.result _ c.is_some.ensures c.if-is_some.false c.row_of.ensures.none in
    if_none_only c.only_unmatched.result (λ x. Among x ids × (¬ Among x (rows_of m))) (λ r. IsFree a m r c.args.vertex)
    (λ x h. (c.rows_of-ids.ensures.rows.sound x h.0, h.1, apart)) (λ x f. (c.rows_of-ids.ensures.rows.complete x f.0, f.1)) c.only_unmatched.ensures.none
