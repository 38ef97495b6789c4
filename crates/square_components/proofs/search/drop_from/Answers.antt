use Rattle.std.proofs.Common.{◌∙◌, arith, sym, subst, rules}
use Rattle.bip_defs.specs.Lists.{Among}
use Rattle.square_components.proofs.Changes.{IsCut, cut_end, cut_more}
use Rattle.square_components.proofs.search.drop_from.Goals as goal

pub last_of-last-requires-in-loop-last : goal.last_of-last-requires-in-loop-last
last_of-last-requires-in-loop-last c =
    let k = c.loop-last.invariant in
    let left = cut_more _ _ _ k.last.0 _ k.cut k.last.1 c.loop-last-test.true in
    λ e. subst (Among 0) (sym (c.cut.ensures.items k.last.0 _ k.last.1) ∙ (sym c.as_slice-in-loop-last.ensures.value ∙ e)) (left.kept 0 c.requires.first c.requires.met)

pub loop-last-preserved : goal.loop-last-preserved
loop-last-preserved c =
    let k = c.loop-last.invariant in
    record {
      cut = subst (IsCut c.args.met c.args.starts.now.items) (sym (c.cut.ensures.items k.last.0 _ k.last.1)) (cut_more _ _ _ k.last.0 _ k.cut k.last.1 c.loop-last-test.true);
      last = search rules;
      capacity = omega arith;
    }

pub returns-clause-starts : goal.returns-clause-starts
returns-clause-starts c = cut_end _ _ _ c.loop-last.invariant.last.0 _ c.loop-last.invariant.cut c.loop-last.invariant.last.1 c.loop-last-test.false
