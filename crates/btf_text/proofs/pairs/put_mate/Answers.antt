use Rattle.std.proofs.Common.{map, sym, ap}
use Rattle.bip_graph.specs.Texts.{pair_line}
use Rattle.btf_text.proofs.Mates.{none_at, one_at}
use Rattle.btf_text.proofs.Puts.{puts_as, puts_none}
use Rattle.btf_text.proofs.pairs.put_mate.Goals as goal

pub returns-in_default : goal.returns-in_default
returns-in_default g c = puts_as (sym (ap (map pair_line) (none_at _ _ c.in_default.ensures.none))) (puts_none _)

pub returns : goal.returns
returns g c = puts_as (ap (map pair_line) (one_at _ _ _ c.is_matching.ensures.cols_rise c.in-Some.ensures.found)) c.put_pair.ensures
