use Rattle.std.proofs.Common.{length, refl, subst, sym}
use Rattle.std.proofs.lemmas.Result.{on_ok_weaker}
use Rattle.level_sharing.specs.Shares.{KeepToShares, shares_by_columns}
use Rattle.frontier_levels.proofs.LevelLemmas.{down_same}
use Rattle.frontier_levels.proofs.levels.top_down_under.Goals as goal

pub share_level-requires-clause-level : goal.share_level-requires-clause-level
share_level-requires-clause-level g c κs within =
    let is = down_same _ c.new-down.result c.args.workers.now c.new-down.ensures.level refl c.requires.agree (record { sized = c.requires.sized; each = c.requires.inside }) in
    (c.args.forest.now, shares_by_columns c.args.frontier.now (length c.args.workers.now), is.level)

pub returns : goal.returns
returns g c =
    let is = down_same _ c.new-down.result c.args.workers.now c.new-down.ensures.level refl c.requires.agree (record { sized = c.requires.sized; each = c.requires.inside }) in
    let s = c.args.forest.now in
    let own = shares_by_columns c.args.frontier.now (length c.args.workers.now) in
    let left = c.share_level.ensures.always s own is.level in
    record {
      legal = c.new-down.ensures.runs _ _ left.legal;
      words = left.words;
      shares = subst (λ n. KeepToShares (shares_by_columns c.args.frontier.now n) c.share_level.new.workers) (sym left.many) left.shares;
      settled = on_ok_weaker c.share_level.result (λ through. (through s own is.level).settled (λ i v w h. (is.through i w h).settled) c.requires.settled) c.share_level.ensures.ok;
      frontier = on_ok_weaker c.share_level.result (λ through. (through s own is.level).columns c.args.frontier.now (λ i v w h. is.through i w h)) c.share_level.ensures.ok;
    }
