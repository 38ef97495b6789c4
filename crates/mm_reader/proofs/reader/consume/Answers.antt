use Rattle.std.proofs.Common.{◌≤◌, length, sym, subst, ◌∙◌, arith}
use Rattle.mm_defs.specs.declared.answers.ReadError.{ReadError}
use Rattle.mm_reader.specs.Windows.{ahead_of, Refuses}
use Rattle.mm_reader.proofs.WindowLaws.{refuses, length-ahead_of, no_fewer_lines, lfs_are, consumed, uses_none, too_many}
use Rattle.mm_reader.proofs.reader.consume.Goals as goal

pub returns-then-window-clause-err : goal.returns-then-window-clause-err
returns-then-window-clause-err c bytes h =
    let n = length-ahead_of c.args.window.now c.requires.window in
    too_many c.args.end c.args.window.now c.args.m.now bytes c.requires.window (omega (arith, c.if-window.true)) h c.requires.can.unfinished

pub returns-in-Err-clause-err : goal.returns-in-Err-clause-err
returns-in-Err-clause-err c bytes h =
    let s = rw c.deref.ensures.value at (c.in-Err.ensures.steps bytes h) in
    let n = length-ahead_of c.args.window.now c.requires.window in
    let short : length (ahead_of c.args.window.now) ≤ c.args.window.now.room = omega (arith, c.if-window.false) in
    let r = refuses c.args.end bytes (ahead_of c.args.window.now) c.args.window.now.room short c.in-Err.stop s in
    subst (λ (e : ReadError). Refuses c.args.end bytes (ahead_of c.args.window.now) c.args.window.now.room e) (sym c.refusal.ensures) r

pub returns-in-Err-clause-used : goal.returns-in-Err-clause-used
returns-in-Err-clause-used c = (0, uses_none c.args.window.now)

pub overflow_sub-lfs : goal.overflow_sub-lfs
overflow_sub-lfs c =
    no_fewer_lines c.args.end c.args.window.now c.args.m.now c.feed.new.m c.in-Ok.used (rw c.deref.ensures.value at c.in-Ok.ensures.ok.within)
    (λ bytes h. rw c.deref.ensures.value at (c.in-Ok.ensures.steps bytes h)) c.requires.can.stands

pub advance-requires : goal.advance-requires
advance-requires c =
    let n = length-ahead_of c.args.window.now c.requires.window in
    let some = rw c.deref.ensures.value at c.in-Ok.ensures.ok.within in
    record {
      window = c.requires.window;
      some = some;
      room = omega (arith, c.if-window.false);
      lfs = lfs_are c.args.end c.args.window.now c.args.m.now c.feed.new.m c.in-Ok.used some (λ bytes h. rw c.deref.ensures.value at (c.in-Ok.ensures.steps bytes h)) c.requires.can.stands;
    }

pub returns-clause-used : goal.returns-clause-used
returns-clause-used c = (c.in-Ok.used, c.advance.ensures.used)

pub returns-clause-ok : goal.returns-clause-ok
returns-clause-ok c =
    let done_is = c.is_complete.ensures in
    consumed c.args.end c.args.window.now c.args.m.now c.feed.new.m c.in-Ok.used (rw c.deref.ensures.value at c.in-Ok.ensures.ok.within)
    (λ bytes h. rw c.deref.ensures.value at (c.in-Ok.ensures.steps bytes h))
    c.advance.new.window c.is_complete.result c.advance.ensures.used done_is
    (λ e. rw c.deref.ensures.value at (c.in-Ok.ensures.ok.whole (sym done_is ∙ e)))
    (λ e. c.in-Ok.ensures.ok.closed (sym done_is ∙ e))
    c.in-Ok.ensures.ok.number c.in-Ok.ensures.ok.ready
