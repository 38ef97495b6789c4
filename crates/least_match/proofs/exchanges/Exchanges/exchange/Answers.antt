use Rattle.std.proofs.Common.{◌≡◌, ◌∙◌, ℕ, List, arith, get_or, refl, subst, sym}
use Rattle.bip_defs.specs.Queues.{heads}
use Rattle.bip_defs.proofs.Sets.{col_among, entry_col, rising_distinct}
use Rattle.least_match.specs.Classes.{AreClasses, IsSplit}
use Rattle.least_match.proofs.ClassLemmas.{other_excluded}
use Rattle.least_match.proofs.EndLemmas.{backward_excludes, backward_splits, forward_excludes, forward_splits, has_maximum, part_at, root_frees, split_or_not}
use Rattle.least_match.proofs.WayLemmas.{frees_then_gives}
use Rattle.least_match.proofs.exchanges.Exchanges.exchange.Goals as goal

pub has-requires : goal.has-requires
has-requires c = record { col = entry_col _ _ _ (c.requires.maximum.maximum.matching.entries _ _ c.requires.mate) }

pub search-requires : goal.search-requires
search-requires c = record {
  matching = c.requires.maximum.matching;
  own = c.requires.matched;
  part = part_at _ _ _ _ c.requires.ready.parts (entry_col _ _ _ c.requires.entry) (subst (λ x. c.index-part.result.now ≡ get_or c.args.self.now.parts.items x c.index-part.result.now) c.col.view_is c.index-part.ensures);
  first = c.if-not-has.ensures.yes;
  behind = c.requires.behind;
  matched = col_among _ _ _ c.requires.mate;
  cols = c.requires.ready.trees;
}

pub exchange_path-requires-clause-trees : goal.exchange_path-requires-clause-trees
exchange_path-requires-clause-trees c = (c.args.other, c.search.ensures.trees)

pub pair-requires-clause-row_free : goal.pair-requires-clause-row_free
pair-requires-clause-row_free c = (root_frees c.search.ensures.trees c.exchange_path.ensures.frees c.requires.mate).row_free

pub pair-requires-clause-col_free : goal.pair-requires-clause-col_free
pair-requires-clause-col_free c = (root_frees c.search.ensures.trees c.exchange_path.ensures.frees c.requires.mate).col_free

pub returns-in-Path-clause-found : goal.returns-in-Path-clause-found
returns-in-Path-clause-found c = frees_then_gives _ _ _ _ _ _ c.requires.maximum.maximum (root_frees c.search.ensures.trees c.exchange_path.ensures.frees c.requires.mate) c.requires.entry c.pair.ensures.pairing.rows_differ (rising_distinct _ c.pair.ensures.pairing.cols_rise) c.pair.ensures.pairs c.pair.ensures.size

pub returns-in-Path-clause-maximum : goal.returns-in-Path-clause-maximum
returns-in-Path-clause-maximum c = has_maximum _ _ _ _ _ c.requires.maximum (c.pair.ensures.sizes.0 ∙ c.exchange_path.ensures.sizes.0) (c.pair.ensures.sizes.1 ∙ c.exchange_path.ensures.sizes.1) (returns-in-Path-clause-found c)

pub split-requires : goal.split-requires
split-requires c = record { cols = λ x h. let within = (c.search.ensures.trees.forward_tree.tail x h).within in omega (arith, within, c.requires.ready.classes.long) }

pub split-requires-in-BackwardEnds : goal.split-requires-in-BackwardEnds
split-requires-in-BackwardEnds c = record { cols = λ x h. let within = (c.search.ensures.trees.backward_tree.tail x h).within in omega (arith, within, c.requires.ready.classes.long) }

pub returns-then-not-has-clause-none : goal.returns-then-not-has-clause-none
returns-then-not-has-clause-none c =
    let classes = subst (λ (z : List ℕ). AreClasses c.args.self.now.pattern.now c.args.matching.now.pairs c.args.col z c.args.self.now.classes.count) (sym c.as_slice.ensures.value) c.requires.ready.classes in
    (refl, other_excluded _ _ _ _ _ _ _ classes c.requires.maximum.maximum (entry_col _ _ _ c.requires.entry) c.requires.mate c.if-not-has.ensures.no)

pub returns-in-ForwardEnds-clause-ready : goal.returns-in-ForwardEnds-clause-ready
returns-in-ForwardEnds-clause-ready c =
    let classes = subst (λ (z : List ℕ). AreClasses c.args.self.now.pattern.now c.args.matching.now.pairs c.args.col z c.args.self.now.classes.count) (sym c.as_slice.ensures.value) c.requires.ready.classes in
    let ends = c.in-ForwardEnds.ensures.ends in
    record {
      pattern = refl;
      parts = c.requires.ready.parts;
      classes = split_or_not c.requires.ready.classes (λ s. forward_splits _ _ _ _ _ _ _ _ _ classes c.requires.maximum.maximum (entry_col _ _ _ c.requires.entry) c.search.ensures.trees c.requires.mate ends.0 ends.1 _ (subst (λ (z : List ℕ). IsSplit z c.args.self.now.classes.count (heads c.search.new.trees.forward.queue) c.split.new.self.numbers.items) (sym c.as_slice.ensures.value) s)) c.split.ensures;
      trees = c.search.ensures.cols;
    }

pub returns-in-ForwardEnds-clause-none : goal.returns-in-ForwardEnds-clause-none
returns-in-ForwardEnds-clause-none c =
    let classes = subst (λ (z : List ℕ). AreClasses c.args.self.now.pattern.now c.args.matching.now.pairs c.args.col z c.args.self.now.classes.count) (sym c.as_slice.ensures.value) c.requires.ready.classes in
    let ends = c.in-ForwardEnds.ensures.ends in
    (refl, forward_excludes _ _ _ _ _ _ _ _ _ classes c.requires.maximum.maximum (entry_col _ _ _ c.requires.entry) c.search.ensures.trees c.requires.mate ends.0 ends.1)

pub returns-in-BackwardEnds-clause-ready : goal.returns-in-BackwardEnds-clause-ready
returns-in-BackwardEnds-clause-ready c =
    let classes = subst (λ (z : List ℕ). AreClasses c.args.self.now.pattern.now c.args.matching.now.pairs c.args.col z c.args.self.now.classes.count) (sym c.as_slice.ensures.value) c.requires.ready.classes in
    let ends = c.in-BackwardEnds.ensures.ends in
    record {
      pattern = refl;
      parts = c.requires.ready.parts;
      classes = split_or_not c.requires.ready.classes (λ s. backward_splits _ _ _ _ _ _ _ _ _ classes c.requires.maximum.maximum (entry_col _ _ _ c.requires.entry) c.search.ensures.trees c.requires.mate ends.0 ends.1 _ (subst (λ (z : List ℕ). IsSplit z c.args.self.now.classes.count (heads c.search.new.trees.backward.queue) c.split-in-BackwardEnds.new.self.numbers.items) (sym c.as_slice.ensures.value) s)) c.split-in-BackwardEnds.ensures;
      trees = c.search.ensures.cols;
    }

pub returns-in-BackwardEnds-clause-none : goal.returns-in-BackwardEnds-clause-none
returns-in-BackwardEnds-clause-none c =
    let classes = subst (λ (z : List ℕ). AreClasses c.args.self.now.pattern.now c.args.matching.now.pairs c.args.col z c.args.self.now.classes.count) (sym c.as_slice.ensures.value) c.requires.ready.classes in
    let ends = c.in-BackwardEnds.ensures.ends in
    (refl, backward_excludes _ _ _ _ _ _ _ _ _ classes c.requires.maximum.maximum (entry_col _ _ _ c.requires.entry) c.search.ensures.trees c.requires.mate ends.0 ends.1)
