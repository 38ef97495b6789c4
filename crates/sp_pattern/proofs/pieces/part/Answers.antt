use Rattle.std.proofs.Common.{rules, arith, ◌+◌}
use Rattle.bip_defs.proofs.Pieces.{start_within}
use Rattle.sp_pattern.proofs.pieces.part.Goals as goal

pub offset_bounds-flat-starts : goal.offset_bounds-flat-starts
offset_bounds-flat-starts g c = start_within _ _ c.requires.starts c.args.at (omega arith)

pub slice_bounds-result-end : goal.slice_bounds-result-end
slice_bounds-result-end g c =
    let within = start_within _ _ c.requires.starts (c.args.at + 1) c.requires.at in
    let rise = c.requires.starts.rise c.args.at c.requires.at in
    search rules
