-- A phase of searches from all unmatched columns at once.
use Rattle.std.proofs.Common.{◌≡◌, ◌⊎◌, ◌∙◌, ℕ, ◌+◌, ◌<◌, ◌≤◌, List, length, refl, sym, ap, subst, inl, inr, ⊎_elim, arith}
use Rattle.std.proofs.Math.Decide.{dec_lt}
use Rattle.std.proofs.lemmas.List.{length-map}
use Rattle.bip_defs.specs.Lists.{Among}
use Rattle.bip_defs.specs.Matching.{IsMatching, IsMaximum, cols_of}
use Rattle.bip_defs.specs.Matrix.{Matrix, Place, cols}
use Rattle.bip_defs.proofs.Sets.{among_at, among_either, place_among}
use Rattle.bip_graph.specs.Matching.{Pairing}
use Rattle.path_search.specs.Forests.{Extends, HaveNoPath, IsForest, LeadOn, Progresses, Spreads, Trees, reached_at, reached_cols}
use Rattle.bip_defs.specs.Marks.{AreClosed, IsExplored}
use Rattle.path_search.specs.declared.reached.Reached.{Reached}
use Rattle.bip_defs.proofs.Closed.{closed_maximum}
use Rattle.bip_defs.proofs.Full.{few_below}
use Rattle.path_search.proofs.MarkLemmas.{explored_grows}
use Rattle.path_search.proofs.Queues.{place_of}
use Rattle.path_search.proofs.GrownTrees.{extended_among, extended_at, spreads_extends}

-- no more columns are reached than there are
pub forest_short : (a : Matrix) (m : List Place) (t : Trees) → IsForest a m t → length t.queue ≤ cols a
forest_short a m t f = let le = few_below (cols a) (reached_cols t.queue) f.cols_differ (λ c h. let (i, lt, e) = place_of t.queue c h in subst (λ x. x < cols a) e (f.in_range i lt).0) in omega (arith, length-map t.queue (λ (x : Reached). x.col))

-- rows were visited from a tree, and no unmatched row was found
pub no_path_spread : (a : Matrix) (m : List Place) (root : ℕ) (old new : Trees) (place : ℕ) → HaveNoPath a m old place → place ≤ length old.queue → ¬ Among root (cols_of m) → Spreads root old new → LeadOn m old new → HaveNoPath a m new place
no_path_spread a m root old new place f le free s on = record {
  unmatched = λ c below un. extended_among old new c onward (f.unmatched c below un);
  roots_unmatched = λ i in_i. let (more, e, all) = s.more in ⊎_elim (λ g. let (j, in_j, at) = place_among (reached_at new.queue i) none old.queue g in subst (λ (x : Reached). ¬ Among x.root (cols_of m)) at (f.roots_unmatched j in_j)) (λ g. subst (λ x. ¬ Among x (cols_of m)) (sym (all (reached_at new.queue i) g)) free) (among_either (reached_at new.queue i) old.queue more (subst (λ (q : List Reached). Among (reached_at new.queue i) q) e (among_at new.queue i none in_i)));
  explored = λ i below. subst (λ (x : Reached). IsExplored a new.marks x.col) (sym (extended_at old new i onward (omega arith))) (explored_grows a old.marks new.marks (reached_at old.queue i).col s.marked (f.explored i below));
  leads_on = λ r h. ⊎_elim (λ g. let (d, pair, had) = f.leads_on r g in (d, pair, extended_among old new d onward had)) (λ g. g) (on r h);
}
  where
    none : Reached
    none = record { col = 0; from = 0; root = 0 }

    onward : Extends old new
    onward = spreads_extends root old new s

-- more columns have been looked through
pub no_path_explored : (a : Matrix) (m : List Place) (t : Trees) (from to : ℕ) → HaveNoPath a m t from → ((i : ℕ) → from ≤ i → i < to → IsExplored a t.marks (reached_at t.queue i).col) → HaveNoPath a m t to
no_path_explored a m t from to f more = record {
  unmatched = f.unmatched;
  roots_unmatched = f.roots_unmatched;
  explored = λ i lt. by i lt (dec_lt i from);
  leads_on = f.leads_on;
}
  where
    by : (i : ℕ) → i < to → Dec (i < from) → IsExplored a t.marks (reached_at t.queue i).col
    by i lt (yes before) = f.explored i before
    by i lt (no not) = more i (omega arith) lt

-- a column is looked through, and no unmatched row is found
pub no_path_more : (a : Matrix) (m : List Place) (root : ℕ) (old new : Trees) (place : ℕ) → HaveNoPath a m old place → place < length old.queue → ¬ Among root (cols_of m) → Spreads root old new → LeadOn m old new → IsExplored a new.marks (reached_at old.queue place).col → HaveNoPath a m new (place + 1)
no_path_more a m root old new place f lt free s on explored = no_path_explored a m new place (place + 1) (no_path_spread a m root old new place f (omega arith) free s on) (λ i from below. let e : i ≡ place = omega arith in subst (λ (x : Reached). IsExplored a new.marks x.col) (sym (ap (λ j. reached_at new.queue j) e ∙ extended_at old new place (spreads_extends root old new s) lt)) explored)

-- where no path was found the marked rows cover what their mates have
explored_reached : (a : Matrix) (m : List Place) (t : Trees) (place c : ℕ) → HaveNoPath a m t place → length t.queue ≤ place → Among c (reached_cols t.queue) → IsExplored a t.marks c
explored_reached a m t place c f le h = let (i, lt, e) = place_of t.queue c h in subst (λ x. IsExplored a t.marks x) e (f.explored i (omega arith))

pub no_path_closed : (a : Matrix) (m : List Place) (t : Trees) (place : ℕ) → HaveNoPath a m t place → length t.queue ≤ place → AreClosed a m t.marks
no_path_closed a m t place f le r h = let (d, pair, had) = f.leads_on r h in (d, pair, explored_reached a m t place d f le had)

pub no_path_explored_all : (a : Matrix) (m : List Place) (t : Trees) (place : ℕ) → HaveNoPath a m t place → length t.queue ≤ place → (c : ℕ) → c < cols a → ¬ Among c (cols_of m) → IsExplored a t.marks c
no_path_explored_all a m t place f le c lt free = explored_reached a m t place c f le (f.unmatched c lt free)

pub no_path_maximum : (a : Matrix) (m : List Place) (t : Trees) (place : ℕ) → IsMatching a m → HaveNoPath a m t place → length t.queue ≤ place → IsMaximum a m
no_path_maximum a m t place k f le = closed_maximum a m t.marks k (no_path_closed a m t place f le) (no_path_explored_all a m t place f le)

pub progresses_none : (a : Matrix) (m : Pairing) (t : Trees) (place : ℕ) → Progresses a m m t t place (place + 0)
progresses_none a m t place = inl (refl, λ f. subst (λ n. HaveNoPath a m.pairs t n) (let e : place ≡ place + 0 = omega arith in e) f)

pub progresses_more : (a : Matrix) (m n o : Pairing) (old mid new : Trees) (place next after : ℕ) → Progresses a m n old mid place next → Progresses a n o mid new next after → Progresses a m o old new place after
progresses_more a m n o old mid new place next after (inr grown) (inr more) = inr (omega arith)
progresses_more a m n o old mid new place next after (inr grown) (inl stays) = inr (subst (λ (p : Pairing). length m.pairs < length p.pairs) (sym stays.0) grown)
progresses_more a m n o old mid new place next after (inl stayed) (inr more) = inr (subst (λ (p : Pairing). length p.pairs < length o.pairs) stayed.0 more)
progresses_more a m n o old mid new place next after (inl stayed) (inl stays) = inl (stays.0 ∙ stayed.0, λ f. subst (λ (p : Pairing). HaveNoPath a p.pairs mid next → HaveNoPath a p.pairs new after) stayed.0 stays.1 (stayed.1 f))

-- the matching is as at the start, and the columns before the place have been looked through, or it has grown
abbrev pub HasGrown : Matrix → Pairing → Pairing → Trees → ℕ → Type 0
HasGrown a start m t place = ((m ≡ start) × HaveNoPath a m.pairs t place) ⊎ (length start.pairs < length m.pairs)

pub grown_more : (a : Matrix) (start m n : Pairing) (old new : Trees) (place next : ℕ) → HasGrown a start m old place → Progresses a m n old new place next → HasGrown a start n new next
grown_more a start m n old new place next (inr grown) (inr more) = inr (omega arith)
grown_more a start m n old new place next (inr grown) (inl stays) = inr (subst (λ (p : Pairing). length start.pairs < length p.pairs) (sym stays.0) grown)
grown_more a start m n old new place next (inl same) (inr more) = inr (subst (λ (p : Pairing). length p.pairs < length n.pairs) same.0 more)
grown_more a start m n old new place next (inl same) (inl stays) = inl (stays.0 ∙ same.0, subst (λ (p : Pairing). HaveNoPath a p.pairs new next) (sym stays.0) (stays.1 same.1))

pub grown_end : (a : Matrix) (start m : Pairing) (t : Trees) (place : ℕ) → HasGrown a start m t place → IsMatching a m.pairs → length t.queue ≤ place → ((m ≡ start) × IsMaximum a start.pairs) ⊎ (length start.pairs < length m.pairs)
grown_end a start m t place (inr grown) k le = inr grown
grown_end a start m t place (inl same) k le = inl (same.0, subst (λ (p : Pairing). IsMaximum a p.pairs) same.0 (no_path_maximum a m.pairs t place k same.1 le))
