use Rattle.std.proofs.Common.{◌≡◌, ◌-◌}
use Rattle.report_reader.specs.ReportGrammar.{pair_list_at}
use Rattle.report_reader.proofs.Prefixes.{with_prefix}
use Rattle.report_reader.proofs.sections.pair_list_at.Given as goal

abbrev pub invariant-loop : goal.invariant-loop
invariant-loop l = with_prefix l.pairs.items (pair_list_at (l.count - l.counter) l.rest) ≡ pair_list_at l.count l.bytes
