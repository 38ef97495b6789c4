use Rattle.std.proofs.Common.{arith}
use Rattle.mm_reader.proofs.WindowLaws.{few_lfs, uses, still_window}
use Rattle.mm_reader.proofs.window.advance.Goals as goal

pub overflow_add-window-2 : goal.overflow_add-window-2
overflow_add-window-2 c =
    let k = few_lfs c.args.window.now c.args.used c.args.lfs c.requires.window c.requires.some c.requires.room c.requires.lfs in
    omega (arith, c.requires.window.fits, c.requires.room)

pub returns-clause-window : goal.returns-clause-window
returns-clause-window c = still_window c.args.window.now c.args.used c.args.lfs c.requires.window c.requires.some c.requires.room c.requires.lfs

pub returns-clause-used : goal.returns-clause-used
returns-clause-used c = uses c.args.window.now c.args.used c.args.lfs c.requires.window c.requires.some c.requires.room c.requires.lfs
