use Rattle.bip_graph.specs.Texts.{pair_lines}
use Rattle.btf_text.proofs.Parts.{asked_for}
use Rattle.btf_text.proofs.Puts.{puts_as, puts_none}
use Rattle.btf_text.proofs.pairs.put_pairs.Goals as goal

pub returns-then-not-pairs : goal.returns-then-not-pairs
returns-then-not-pairs g c = puts_as (asked_for pair_lines c.args.matching.now.pairs c.if-not-pairs.true) (puts_none _)

pub returns : goal.returns
returns g c = puts_as (asked_for pair_lines c.args.matching.now.pairs c.if-not-pairs.false) c.put_list_of_pairs.ensures
