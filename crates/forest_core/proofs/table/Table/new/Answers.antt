use Rattle.std.proofs.Common.{◌≡◌, refl, replicate, rules}
use Rattle.forest_core.specs.Tables.{read}
use Rattle.forest_core.proofs.TableLemmas.{read_none, seen_new}
use Rattle.forest_core.proofs.table.Table.new.Goals as goal

pub returns-clause-none : goal.returns-clause-none
returns-clause-none c = λ k.
    let values : c.in_ok-values.values.items ≡ replicate c.args.len 4294967295 = search rules in
    seen_new read c.args.len 4294967295 c.in_ok-values.values.items k (read_none 4294967295 refl) values
