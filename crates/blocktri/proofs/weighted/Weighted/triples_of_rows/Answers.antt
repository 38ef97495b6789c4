use Rattle.std.proofs.Common.{◌≡◌, ◌∙◌, ◌+◌, ℤ, List, FitsSigned, ap, arith, get_or, pos, rules}
use Rattle.std.specs.Int.{w64}
use Rattle.std.proofs.lemmas.Int.{to_z-of_z}
use Rattle.bip_defs.proofs.Pieces.{start_within}
use Rattle.blocktri.specs.Compressed.{CompressedLists}
use Rattle.blocktri.specs.Weighted.{WeightedLists}
use Rattle.sp_ids.specs.Entries.{Entries}
use Rattle.blocktri.proofs.WeightedLemmas.{row_done, row_pushed}
use Rattle.blocktri.proofs.weighted.Weighted.triples_of_rows.Goals as goal

pub at-requires : goal.at-requires
at-requires g c =
    let m = c.args.self.now in
    let ids : g.N.NumberList.numbers c.matrix.inside.ids ≡ m.lists.ids = ap (λ (l : CompressedLists). l.ids) c.matrix.view_is ∙ ap (λ (w : WeightedLists). w.lists.ids) c.self.view_is in
    let starts : g.N.NumberList.numbers c.matrix.inside.starts ≡ m.lists.starts = ap (λ (l : CompressedLists). l.starts) c.matrix.view_is ∙ ap (λ (w : WeightedLists). w.lists.starts) c.self.view_is in
    let lt = c.loop-k-test.true in
    let to = rw starts at c.at-to.ensures in
    let len = rw starts at c.len.ensures in
    let row = c.loop-row-test.true in
    let within = start_within m.lists.starts m.lists.ids c.requires.compressed.starts_are (c.loop-row.row + 1) (omega (arith, len, row)) in
    rw ids (omega (arith, lt, to, within))

pub offset_bounds-self-inside-k : goal.offset_bounds-self-inside-k
offset_bounds-self-inside-k g c =
    let m = c.args.self.now in
    let starts : g.N.NumberList.numbers c.matrix.inside.starts ≡ m.lists.starts = ap (λ (l : CompressedLists). l.starts) c.matrix.view_is ∙ ap (λ (w : WeightedLists). w.lists.starts) c.self.view_is in
    let lt = c.loop-k-test.true in
    let to = rw starts at c.at-to.ensures in
    let len = rw starts at c.len.ensures in
    let row = c.loop-row-test.true in
    let within = start_within m.lists.starts m.lists.ids c.requires.compressed.starts_are (c.loop-row.row + 1) (omega (arith, len, row)) in
    let few = c.requires.compressed.few_ids in
    omega (arith, lt, to, within, few)

pub bounds-self-inside-k : goal.bounds-self-inside-k
bounds-self-inside-k g c =
    let m = c.args.self.now in
    let starts : g.N.NumberList.numbers c.matrix.inside.starts ≡ m.lists.starts = ap (λ (l : CompressedLists). l.starts) c.matrix.view_is ∙ ap (λ (w : WeightedLists). w.lists.starts) c.self.view_is in
    let values : c.self.inside.values.now ≡ m.values = ap (λ (w : WeightedLists). w.values) c.self.view_is in
    let lt = c.loop-k-test.true in
    let to = rw starts at c.at-to.ensures in
    let len = rw starts at c.len.ensures in
    let row = c.loop-row-test.true in
    let within = start_within m.lists.starts m.lists.ids c.requires.compressed.starts_are (c.loop-row.row + 1) (omega (arith, len, row)) in
    let valued = c.requires.values in
    rw values (omega (arith, lt, to, within, valued))

pub push-requires-clause-col : goal.push-requires-clause-col
push-requires-clause-col g c =
    let m = c.args.self.now in
    let ids : g.N.NumberList.numbers c.matrix.inside.ids ≡ m.lists.ids = ap (λ (l : CompressedLists). l.ids) c.matrix.view_is ∙ ap (λ (w : WeightedLists). w.lists.ids) c.self.view_is in
    let starts : g.N.NumberList.numbers c.matrix.inside.starts ≡ m.lists.starts = ap (λ (l : CompressedLists). l.starts) c.matrix.view_is ∙ ap (λ (w : WeightedLists). w.lists.starts) c.self.view_is in
    let lt = c.loop-k-test.true in
    let to = rw starts at c.at-to.ensures in
    let len = rw starts at c.len.ensures in
    let row = c.loop-row-test.true in
    let within = start_within m.lists.starts m.lists.ids c.requires.compressed.starts_are (c.loop-row.row + 1) (omega (arith, len, row)) in
    let inside = c.requires.compressed.inside c.loop-k.k (omega (arith, lt, to, within)) in
    let at = rw ids at c.at.ensures in
    let wide = c.loop-k.invariant.cols_are in
    omega (arith, inside, at, wide)

pub push-requires-clause-few : goal.push-requires-clause-few
push-requires-clause-few g c =
    let m = c.args.self.now in
    let starts : g.N.NumberList.numbers c.matrix.inside.starts ≡ m.lists.starts = ap (λ (l : CompressedLists). l.starts) c.matrix.view_is ∙ ap (λ (w : WeightedLists). w.lists.starts) c.self.view_is in
    let lt = c.loop-k-test.true in
    let to = rw starts at c.at-to.ensures in
    let len = rw starts at c.len.ensures in
    let row = c.loop-row-test.true in
    let within = start_within m.lists.starts m.lists.ids c.requires.compressed.starts_are (c.loop-row.row + 1) (omega (arith, len, row)) in
    let few = c.requires.compressed.few_ids in
    let long = c.loop-k.invariant.long in
    omega (arith, lt, to, within, few, long)

pub loop-k-preserved : goal.loop-k-preserved
loop-k-preserved g c =
    let m = c.args.self.now in
    let ids : g.N.NumberList.numbers c.matrix.inside.ids ≡ m.lists.ids = ap (λ (l : CompressedLists). l.ids) c.matrix.view_is ∙ ap (λ (w : WeightedLists). w.lists.ids) c.self.view_is in
    let starts : g.N.NumberList.numbers c.matrix.inside.starts ≡ m.lists.starts = ap (λ (l : CompressedLists). l.starts) c.matrix.view_is ∙ ap (λ (w : WeightedLists). w.lists.starts) c.self.view_is in
    let values : c.self.inside.values.now ≡ m.values = ap (λ (w : WeightedLists). w.values) c.self.view_is in
    let lt = c.loop-k-test.true in
    let to = rw starts at c.at-to.ensures in
    let len = rw starts at c.len.ensures in
    let row = c.loop-row-test.true in
    let within = start_within m.lists.starts m.lists.ids c.requires.compressed.starts_are (c.loop-row.row + 1) (omega (arith, len, row)) in
    let i = c.loop-k.invariant in
    let pushed = c.in_ok-push.ensures.ok in
    let narrow : FitsSigned w64 (get_or c.self.inside.values.now c.loop-k.k (pos 0)) = search rules in
    let value = to_z-of_z w64 (get_or c.self.inside.values.now c.loop-k.k (pos 0)) narrow ∙ ap (λ (vs : List ℤ). get_or vs c.loop-k.k (pos 0)) values in
    let (long, items) = row_pushed m c.loop-k.triples c.push.new.self c.loop-row.row c.at-from.result c.loop-k.k _ _ c.requires.values c.loop-k.auto.k (omega (arith, lt, to, within)) pushed (rw ids at c.at.ensures) value i.long i.items in
    record {
      rows_are = ap (λ (t : Entries). t.rows) pushed ∙ i.rows_are;
      cols_are = ap (λ (t : Entries). t.cols) pushed ∙ i.cols_are;
      field_is = ap (λ (t : Entries). t.field) pushed ∙ i.field_is;
      long = long;
      items = items;
    }

pub loop-row-preserved : goal.loop-row-preserved
loop-row-preserved g c =
    let m = c.args.self.now in
    let starts : g.N.NumberList.numbers c.matrix.inside.starts ≡ m.lists.starts = ap (λ (l : CompressedLists). l.starts) c.matrix.view_is ∙ ap (λ (w : WeightedLists). w.lists.starts) c.self.view_is in
    let from = rw starts at c.at-from.ensures in
    let to = rw starts at c.at-to.ensures in
    let len = rw starts at c.len.ensures in
    let row = c.loop-row-test.true in
    let rise = c.requires.compressed.starts_are.rise c.loop-row.row (omega (arith, len, row)) in
    let most = c.loop-k.auto.k-end (omega (arith, from, to, rise)) in
    let end = c.loop-k-test.false in
    let i = c.loop-k.invariant in
    let long = i.long in
    record {
      rows_are = i.rows_are;
      cols_are = i.cols_are;
      field_is = i.field_is;
      long = omega (arith, long, most, end, to);
      items = i.items ∙ row_done m c.loop-row.row c.at-from.result c.loop-k.k from (omega (arith, most, end, to));
    }
