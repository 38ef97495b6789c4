use Rattle.std.proofs.Common.{length, subst, sym}
use Rattle.std.proofs.lemmas.Result.{on_ok_weaker}
use Rattle.level_sharing.specs.Shares.{KeepToShares, shares_of_rows}
use Rattle.bottom_up.proofs.LevelLemmas.{up_same}
use Rattle.bottom_up.proofs.level.attach_under.Goals as goal

pub share_level-requires-clause-level : goal.share_level-requires-clause-level
share_level-requires-clause-level g c κs within =
    let is = up_same c.new-search.result c.args.forest.now c.args.board.now c.args.free.now c.args.workers.now c.new-search.ensures.forest c.new-search.ensures.board c.new-search.ensures.free c.new-search.ensures.workers c.requires.agree in
    (c.args.forest.now, shares_of_rows c.args.free.now (length c.args.workers.now), is.level)

pub returns : goal.returns
returns g c =
    let is = up_same c.new-search.result c.args.forest.now c.args.board.now c.args.free.now c.args.workers.now c.new-search.ensures.forest c.new-search.ensures.board c.new-search.ensures.free c.new-search.ensures.workers c.requires.agree in
    let s = c.args.forest.now in
    let own = shares_of_rows c.args.free.now (length c.args.workers.now) in
    let left = c.share_level.ensures.always s own is.level in
    record {
      legal = c.new-search.ensures.runs _ _ left.legal;
      words = left.words;
      shares = subst (λ n. KeepToShares (shares_of_rows c.args.free.now n) c.share_level.new.workers) (sym left.many) left.shares;
      settled = on_ok_weaker c.share_level.result (λ through. (through s own is.level).settled (λ i v w h. (is.through i w h).settled) c.requires.settled) c.share_level.ensures.ok;
      rows = on_ok_weaker c.share_level.result (λ through. (through s own is.level).rows c.args.free.now (λ i v w h. is.through i w h)) c.share_level.ensures.ok;
    }
