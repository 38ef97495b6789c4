use Rattle.std.proofs.Common.{ℕ, arith}
use Rattle.std.proofs.lemmas.Result.{on_ok_weaker}
use Rattle.bip_defs.specs.Forest.{State}
use Rattle.level_sharing.specs.Level.{Level, level_of}
use Rattle.level_sharing.specs.LevelWork.{IsLevel}
use Rattle.level_sharing.specs.Shares.{Share}
use Rattle.level_sharing.proofs.LevelWorkLemmas.{goes_through, leaves_level, may_begin, progressed}
use Rattle.level_sharing.proofs.levels.share_level.Goals as goal

pub share_work-result-requires-clause-few : goal.share_work-result-requires-clause-few
share_work-result-requires-clause-few g c κs within =
    let (s, own, is) = c.requires.level in
    let few = c.workers_are_few.ensures c.args.board.now is.agree.listed.all_workers in omega (arith, few)

pub share_work-result-requires-clause-begin : goal.share_work-result-requires-clause-begin
share_work-result-requires-clause-begin g c κs within =
    let (s, own, is) = c.requires.level in
    may_begin s own c.args.board.now _ _ c.args.workers.now is

pub gather-requires : goal.gather-requires
gather-requires g c =
    let (s, own, is) = c.requires.level in
    c.words_tell_of_levels.ensures.seats s own c.args.board.now c.args.workers.now c.share_work-result.new.workers (progressed s own _ c.args.workers.now c.share_work-result.new.workers is.advances c.share_work-result.ensures.always) is.agree.listed.all_workers

pub returns : goal.returns
returns g c =
    let before = c.args.workers.now in
    let after = c.share_work-result.new.workers in
    let level : (s : State) (own : ℕ → Share) → IsLevel s own c.args.board.now (g.W.Work.can_begin c.args.work.now) (g.W.Work.leaves c.args.work.now) before → Level = λ s own is.
    level_of c.args.board.now s own before after c.gather.new.workers is.agree (progressed s own _ before after is.advances c.share_work-result.ensures.always) (c.gather.ensures.all, c.gather.ensures.fresh, c.gather.ensures.words) in
    record {
      always = λ s own is. leaves_level (level s own is) (c.words_tell_of_levels.ensures.words (level s own is));
      ok = on_ok_weaker c.share_work-result.result (λ each s own is. goes_through (level s own is) _ (c.words_tell_of_levels.ensures.words (level s own is)) each) c.share_work-result.ensures.ok;
    }
