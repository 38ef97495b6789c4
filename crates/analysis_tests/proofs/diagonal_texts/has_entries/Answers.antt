use Rattle.std.proofs.Common.{subst, sym}
use Rattle.bip_defs.specs.Matrix.{AreEntries}
use Rattle.btf_text.specs.Diagonals.{PairsAreEntries}
use Rattle.analysis_tests.proofs.diagonal_texts.has_entries.Goals as goal

pub returns-in-Diagonal : goal.returns-in-Diagonal
returns-in-Diagonal c t =
    let entries : AreEntries c.args.pattern.now c.in-Diagonal.pairs.items = subst (AreEntries c.args.pattern.now) c.as_slice.ensures.value (c.are_entries.ensures t) in
    subst (PairsAreEntries c.args.pattern.now) (sym c.in-Diagonal.is) entries
