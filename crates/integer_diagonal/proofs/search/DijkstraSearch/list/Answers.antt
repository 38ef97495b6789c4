use Rattle.std.proofs.Common.{◌∙◌, sym, subst, inl, refl, [], ◌∷◌}
use Rattle.std.proofs.lemmas.List.{get_or_read}
use Rattle.bip_defs.specs.Lists.{Among}
use Rattle.bip_defs.proofs.Sets.{among_right}
use Rattle.integer_diagonal.proofs.AmountTests.{unequal}
use Rattle.integer_diagonal.proofs.SearchInvariant.{listed_more, listed_on}
use Rattle.integer_diagonal.specs.Labels.{AreListed, labels_of}
use Rattle.integer_diagonal.specs.Amounts.{infinity}
use Rattle.integer_diagonal.proofs.search.DijkstraSearch.list.Goals as goal

pub returns-then-eq-clause-listed : goal.returns-then-eq-clause-listed
returns-then-eq-clause-listed g c listed = (subst (AreListed (labels_of c.args.self.now)) (sym c.in_ok-push.ensures.items) (listed_more _ _ c.args.row c.requires listed), subst (Among c.args.row) (sym c.in_ok-push.ensures.items) (among_right c.args.row c.args.self.now.reached.items (c.args.row ∷ []) (inl refl)))

pub returns-clause-listed : goal.returns-clause-listed
returns-clause-listed g c listed =
    let read = get_or_read c.args.self.now.distances.items _ _ c.requires c.index.ensures infinity in
    let apart = unequal _ _ _ c.eq.ensures c.if-eq.false in
    (listed, listed_on (labels_of c.args.self.now) c.args.self.now.reached.items c.args.row listed (λ e. apart (read ∙ e ∙ sym c.infinity.ensures)))
