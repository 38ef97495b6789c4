use Rattle.std.proofs.Common.{◌≡◌, ◌∙◌, List, ap, subst, sym}
use Rattle.bip_defs.specs.Lists.{Among}
use Rattle.bip_defs.specs.Matrix.{AreEntries, Place}
use Rattle.bip_defs.specs.Paths.{Exchanges}
use Rattle.path_search.specs.Forests.{Trees}
use Rattle.path_search.proofs.forest.SearchForest.flip.Goals as goal

pub exchange-requires-clause-in_range : goal.exchange-requires-clause-in_range
exchange-requires-clause-in_range g c = λ r x h. c.requires.in_range r x (subst (λ (z : List Place). Among (r, x) z) (let path : c.as_mut_slice.result.now ≡ c.args.self.now.path = c.as_mut_slice.ensures.value ∙ ap (λ (s : Trees). s.path) c.self.view_is in path) h)

pub returns-clause-flips : goal.returns-clause-flips
returns-clause-flips g c =
    let path : c.as_mut_slice.result.now ≡ c.args.self.now.path = c.as_mut_slice.ensures.value ∙ ap (λ (s : Trees). s.path) c.self.view_is in
    record {
      pairs = subst (λ (z : List Place). Exchanges z (g.F.Opposite.seen c.args.matching.now).pairs (g.F.Opposite.seen c.exchange.new.matching).pairs) path c.exchange.ensures.pairs;
      size = c.exchange.ensures.size;
      matching = λ a of entries. c.exchange.ensures.matching a of (subst (λ (z : List Place). AreEntries a z) (sym path) entries);
      covered = c.exchange.ensures.covered;
    }
