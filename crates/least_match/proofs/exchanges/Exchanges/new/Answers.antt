use Rattle.std.proofs.Common.{length, refl, subst, sym, List}
use Rattle.least_match.specs.Classes.{AreClasses, HaveParts}
use Rattle.least_match.specs.Trees.{HaveCols}
use Rattle.least_match.specs.declared.parts.ColPart.{ColPart}
use Rattle.least_match.proofs.ClassLemmas.{first_classes}
use Rattle.least_match.proofs.exchanges.Exchanges.new.Goals as goal

pub returns : goal.returns
returns c = record {
  ready = λ m maximum. record {
    pattern = refl;
    parts = c.requires;
    classes = subst (AreClasses c.args.pattern.now m 0 c.in_ok-classes.classes.numbers.items) (sym c.in_ok-classes.ensures.count) (first_classes _ _ c.args.parts.items _ maximum c.requires (subst (λ (z : List ColPart). HaveParts z (length z) c.in_ok-classes.classes.numbers.items) c.as_slice.ensures.value c.in_ok-classes.ensures.parts));
    trees = subst (λ n. HaveCols n c.in_ok-trees.trees) c.cols.ensures c.in_ok-trees.ensures;
  };
}
