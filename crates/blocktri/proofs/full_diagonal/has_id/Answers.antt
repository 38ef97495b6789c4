use Rattle.std.proofs.Common.{◌∙◌, arith, refl, subst, sym}
use Rattle.std.specs.List.{slice_range}
use Rattle.bip_defs.specs.Lists.{Among}
use Rattle.blocktri.proofs.FullDiagonalLemmas.{not_in_part}
use Rattle.blocktri.proofs.LookLemmas.{read_part}
use Rattle.blocktri.proofs.full_diagonal.has_id.Goals as goal

pub returns-then-at-id : goal.returns-then-at-id
returns-then-at-id g c =
    let ids = g.N.NumberList.numbers c.args.ids in
    (λ yes. subst (λ z. Among z (slice_range ids c.args.from c.args.to)) (sym c.at.ensures ∙ c.if-at-id.true) (read_part ids c.args.from c.args.to c.loop-at.at c.loop-at.invariant.from c.loop-at-test.true c.requires), λ on. refl)

pub returns : goal.returns
returns g c = (
  λ yes. absurd (cc),
  λ on. absurd (not_in_part (g.N.NumberList.numbers c.args.ids) c.args.from c.args.to c.args.id c.requires (λ k from to. let end = c.loop-at-test.false in c.loop-at.invariant.before k from (omega (arith, to, end))) on),
)
