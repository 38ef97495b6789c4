use Rattle.std.proofs.Common.{◌≡◌, slice_index_or, subst, sym, arith}
use Rattle.std.proofs.lemmas.List.{take_more}
use Rattle.bip_defs.specs.Lists.{Among}
use Rattle.bip_defs.specs.Matrix.{IsEntry}
use Rattle.bip_defs.proofs.Slices.{read_among, read_at}
use Rattle.path_search.specs.declared.batches.RowCandidate.{RowCandidate}
use Rattle.path_search.specs.declared.reached.Reached.{Reached}
use Rattle.path_search.proofs.BatchLemmas.{follows_more, follows_none}
use Rattle.path_search.proofs.GrownTrees.{extended_at, extended_length, grow_more, grow_none}
use Rattle.path_search.proofs.forest.SearchForest.follow_all.Goals as goal

pub loop-next-init : goal.loop-next-init
loop-next-init g c = record { grown = grow_none _ _ _ c.requires.growing; follows = follows_none _ _ _ }

pub follow-requires-clause-candidate : goal.follow-requires-clause-candidate
follow-requires-clause-candidate g c =
    let on : Among c.next-item.result c.args.candidates.now = read_among _ c.args.candidates.now _ c.loop-next-test.true c.next-item.is in
    let leads = c.requires.candidates c.next-item.result on in
    let lt = leads.within in
    let extends = c.loop-next.invariant.grown.extends in
    let longer = extended_length _ _ extends in
    record {
      within = omega (arith, lt, longer);
      entry = subst (λ (x : Reached). IsEntry (g.S.Side.matrix c.args.side.now) c.next-item.result.row x.col) (sym (extended_at _ _ c.next-item.result.place extends lt)) leads.entry;
    }

pub loop-next-preserved : goal.loop-next-preserved
loop-next-preserved g c =
    let k = c.loop-next.invariant in
    let e = c.follow.ensures in
    let none : RowCandidate = record { row = 0; place = 0 } in
    let at : c.next-item.result ≡ slice_index_or c.args.candidates.now c.loop-next.next-index none = read_at _ none c.args.candidates.now _ c.loop-next-test.true c.next-item.is in
    record {
      grown = grow_more _ _ _ _ _ _ _ k.grown e.grown;
      follows = rw (take_more c.args.candidates.now c.loop-next.next-index none c.loop-next-test.true, ← at) (follows_more _ _ _ _ _ _ _ _ _ k.grown.extends e.grown.extends k.follows e.follows);
    }
