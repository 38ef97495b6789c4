use Rattle.std.proofs.Common.{sym, subst, ap, inl, inr, ⊎_elim, refl}
use Rattle.bip_defs.specs.Lists.{Among}
use Rattle.integer_diagonal.proofs.SearchInvariant.{listed_put}
use Rattle.integer_diagonal.specs.Labels.{AreListed, Labels, labels_of, put}
use Rattle.integer_diagonal.proofs.search.DijkstraSearch.reach.Goals as goal

pub returns-clause-put : goal.returns-clause-put
returns-clause-put g c = record {
  heap = c.push.new.self;
  is = ap (λ (z : Labels). put z c.push.new.self c.args.row c.args.distance c.args.place) c.list.ensures.labels;
  holds = λ e h. ⊎_elim (λ is. inl is) (λ g. inr (subst (Among e) (ap (λ (z : Labels). z.waiting) c.list.ensures.labels) g)) ((c.in_ok-push.ensures e).0 h);
  has = (c.in_ok-push.ensures (c.args.distance, c.args.row)).1 (inl refl);
  keeps = λ e h. (c.in_ok-push.ensures e).1 (inr (subst (Among e) (sym (ap (λ (z : Labels). z.waiting) c.list.ensures.labels)) h));
}

pub returns-clause-listed : goal.returns-clause-listed
returns-clause-listed g c listed =
    let both = c.in_ok-list.ensures.listed listed in
    listed_put (labels_of c.args.self.now) _ c.list.new.self.reached.items c.args.row c.args.distance c.args.place (returns-clause-put g c) (subst (λ (z : Labels). AreListed z c.list.new.self.reached.items) c.list.ensures.labels both.0) both.1
