use Rattle.std.proofs.Common.{◌∙◌, sym, refl}
use Rattle.path_search.proofs.Steps.{goes_back_by, search_fails}
use Rattle.path_search.proofs.TrailLemmas.{trail_length}
use Rattle.path_search.proofs.search.Search.advance.Goals as goal

pub back-requires : goal.back-requires
back-requires g c = rw c.in-Stuck.ensures.0 (trail_length _ _ _ _ _ _ _ _ c.requires.search.trail)

pub returns-in-Some : goal.returns-in-Some
returns-in-Some g c =
    let stuck = c.in-Stuck.ensures in
    let left = c.in-Some.ensures.some in
    goes_back_by (g.S.Side.matrix c.args.side.now) (g.F.Opposite.seen c.args.matching.now).pairs c.args.reversed c.args.self.now c.back.new.self c.args.at.col c.args.at.place left.0 c.in-Some.before.col c.in-Some.before.place (sym stuck.0 ∙ left.1) c.requires.search stuck.1

pub returns-in-None : goal.returns-in-None
returns-in-None g c =
    let stuck = c.in-Stuck.ensures in
    let none = c.in-None.ensures.none in
    rw (none.0, stuck.0) (record { cols_stay = refl; root_stays = refl; marks = λ start k. k }, search_fails _ _ _ _ _ _ c.requires.search stuck.1 (rw stuck.0 at none.1))
