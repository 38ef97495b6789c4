use Rattle.std.proofs.Common.{◌∙◌, sym}
use Rattle.std.proofs.lemmas.List.{map-id}
use Rattle.blocktri.proofs.PerfectLemmas.{perfect_parts}
use Rattle.blocktri.proofs.forms.square_parts.Goals as goal

pub returns : goal.returns
returns c = λ a is.
    perfect_parts a c.args.matching.now _ c.rows.result c.cols.result is (c.rows.ensures.count ∙ is.maximum.matching.rows) (c.cols.ensures.count ∙ is.maximum.matching.cols)
    (sym (map-id c.in_ok-sr.sr.items) ∙ c.in_ok-sr.ensures) (sym (map-id c.in_ok-sc.sc.items) ∙ c.in_ok-sc.ensures) c.new.ensures.items c.new-2.ensures.items c.new-3.ensures.items c.new-4.ensures.items
