-- Each step of the order by waiting keeps what holds between them.
use Rattle.std.proofs.Common.{◌≡◌, ◌≢◌, ◌⊎◌, ◌↔◌, ◌∙◌, ℕ, zero, suc, ◌+◌, ◌<◌, ◌≤◌, List, [], ◌∷◌, ◌++◌, length, get_or, refl, sym, ap, subst, inl, inr, ⊎_elim, arith}
use Rattle.bip_defs.specs.Lists.{Among, AreDistinct, IsRising}
use Rattle.bip_defs.proofs.Sets.{among_last, among_left, among_right, below_each_sound, number_among, number_same}
use Rattle.bip_graph.specs.Matching.{none}
use Rattle.dm_fine.specs.BlockOrder.{IsNext}
use Rattle.dm_fine.specs.Layout.{IsLayout, Layout, LeadsTo}
use Rattle.dm_fine.specs.Waiting.{AreMarkedOff, IsHeld, IsReady, IsWaiting, Stands}
use Rattle.dm_fine.specs.Waiting.Stands.{is_held, is_hole, is_placed, is_ready}
use Rattle.dm_fine.specs.Waits.{Chain, Holds, IsPassed, IsStop, at_of, col_of, first_of}
use Rattle.dm_fine.specs.declared.waits.Halt.{Halt}
use Rattle.dm_fine.specs.declared.waits.Wait.{Wait}
use Rattle.dm_fine.proofs.LookLemmas.{below_or}
use Rattle.dm_fine.proofs.OrderLemmas.{follow_more}
use Rattle.dm_fine.proofs.WaitLemmas.{chain_kept, free_of, head_either, head_more, passed_all, passed_kept, put, put_either, put_else, put_here, StopsOn, stops_on}
use Rattle.id_groups.specs.Groups.{group}

-- no component has the number that stands for none
pub some_of : (t : Layout) (j : ℕ) → IsLayout t → j < length t.cols → j ≢ none
some_of t j h lt e = let few = h.few in absurd (omega (arith, lt, e, few))

-- the least ready one is taken out
pub taken_out : (t : Layout) (placed : List ℕ) (lists : ℕ → List ℕ) (marks : List ℕ) (ws : List Wait) (k : ℕ) (ready : List ℕ) (cursor : ℕ) → IsWaiting t placed lists none none marks ws (k ∷ ready) cursor → IsRising (k ∷ ready) → IsWaiting t placed lists k none marks ws ready cursor
taken_out t placed lists marks ws k ready cursor s rising = record {
  laid_out = s.laid_out;
  many = s.many;
  within = s.within;
  marked = s.marked;
  follow = s.follow;
  early = s.early;
  hole_in = λ some. (mine.before, mine.left);
  are_ready = λ j on. let r = s.are_ready j (inr on) in record {
    before = r.before;
    left = r.left;
    other = λ e. let lt = below_each_sound k j ready rising.0 on in absurd (omega (arith, lt, e));
    passed = r.passed;
  };
  are_held = λ j v on. let r = s.are_held j v on in record {
    before = r.before;
    left = r.left;
    idle = λ h. r.idle (inr h);
    other = λ e. r.idle (inl e);
    on = r.on;
    leads = r.leads;
    passed = r.passed;
  };
  apart = s.apart;
  distinct = s.distinct;
  chains = s.chains;
  stand = λ j lt. by j lt (s.stand j lt);
  no_more = s.no_more;
}
  where
    mine : IsReady t placed none marks cursor k
    mine = s.are_ready k (inl refl)

    by : (j : ℕ) → j < cursor → Stands placed lists none (k ∷ ready) j → Stands placed lists k ready j
    by j lt (is_placed h) = is_placed h
    by j lt (is_ready (inl e)) = is_hole e
    by j lt (is_ready (inr h)) = is_ready h
    by j lt (is_hole e) = let w = s.within in absurd (some_of t j s.laid_out (omega (arith, lt, w)) e)
    by j lt (is_held v h) = is_held v h

-- the next one is looked at
pub looked_at : (t : Layout) (placed : List ℕ) (lists : ℕ → List ℕ) (marks : List ℕ) (ws : List Wait) (ready : List ℕ) (cursor : ℕ) → IsWaiting t placed lists none none marks ws ready cursor → cursor < length t.cols → IsWaiting t placed lists cursor none marks ws ready (cursor + 1)
looked_at t placed lists marks ws ready cursor s lt = record {
  laid_out = s.laid_out;
  many = s.many;
  within = omega (arith, lt);
  marked = s.marked;
  follow = s.follow;
  early = λ j on. let b = s.early j on in omega (arith, b);
  hole_in = λ some. (omega arith, λ on. let b = s.early cursor on in absurd (omega (arith, b)));
  are_ready = λ j on. let r = s.are_ready j on in let b = r.before in record {
    before = omega (arith, b);
    left = r.left;
    other = λ e. absurd (omega (arith, b, e));
    passed = r.passed;
  };
  are_held = λ j v on. let r = s.are_held j v on in let b = r.before in record {
    before = omega (arith, b);
    left = r.left;
    idle = r.idle;
    other = λ e. absurd (omega (arith, b, e));
    on = r.on;
    leads = r.leads;
    passed = r.passed;
  };
  apart = s.apart;
  distinct = s.distinct;
  chains = s.chains;
  stand = λ j jt. ⊎_elim (λ (e : j ≡ cursor). is_hole e) (λ ne. by j (omega (arith, jt, ne)) (s.stand j (omega (arith, jt, ne)))) (number_same j cursor);
  no_more = s.no_more;
}
  where
    by : (j : ℕ) → j < cursor → Stands placed lists none ready j → Stands placed lists cursor ready j
    by j jt (is_placed h) = is_placed h
    by j jt (is_ready h) = is_ready h
    by j jt (is_hole e) = absurd (some_of t j s.laid_out (omega (arith, jt, lt)) e)
    by j jt (is_held v h) = is_held v h

-- a component whose entries are all passed is the next, where none that is ready is less
pub is_next : (t : Layout) (placed : List ℕ) (lists : ℕ → List ℕ) (k : ℕ) (marks : List ℕ) (ws : List Wait) (ready : List ℕ) (cursor : ℕ) → IsWaiting t placed lists k none marks ws ready cursor → k ≢ none → IsPassed t marks k (length (group t.cols k)) 0 → ((j : ℕ) → Among j ready → k ≤ j) → IsNext t placed k
is_next t placed lists k marks ws ready cursor s some passed least = record {
  in_range = in_range;
  fresh = (s.hole_in some).1;
  free = free_of t placed marks k s.laid_out s.marked in_range passed;
  first = λ j jt left all. ⊎_elim (λ (lt : j < cursor). by j left all (s.stand j lt)) (λ ge. let b = (s.hole_in some).0 in omega (arith, b, ge)) (below_or j cursor);
}
  where
    in_range : k < length t.cols
    in_range = let b = (s.hole_in some).0 in let w = s.within in omega (arith, b, w)

    by : (j : ℕ) → ¬ Among j placed → ((p : ℕ) → p < length t.cols → LeadsTo t j p → Among p placed) → Stands placed lists k ready j → k ≤ j
    by j left all (is_placed h) = absurd (left h)
    by j left all (is_ready h) = least j h
    by j left all (is_hole e) = omega (arith, e)
    by j left all (is_held v h) =
        let r = s.are_held j v h in
        let on = all v r.on r.leads in
        absurd (s.no_more v j on (some_of t v s.laid_out r.on) h)

-- the next one is placed
pub placed_next : (t : Layout) (placed : List ℕ) (lists : ℕ → List ℕ) (k : ℕ) (marks marks2 : List ℕ) (ws : List Wait) (ready : List ℕ) (cursor : ℕ) → IsWaiting t placed lists k none marks ws ready cursor → IsNext t placed k → AreMarkedOff t k marks marks2 → IsWaiting t (placed ++ k ∷ []) lists none k marks2 ws ready cursor
placed_next t placed lists k marks marks2 ws ready cursor s next off = record {
  laid_out = s.laid_out;
  many = s.many;
  within = s.within;
  marked = record {
    long = off.long ∙ s.marked.long;
    sound = λ r rt some. ⊎_elim
        (λ (on : Among r (group t.rows k)). absurd (some (off.gone r on)))
        (λ (not_on : ¬ Among r (group t.rows k)).
        let same = off.others r not_on in
        let (range, on, left) = s.marked.sound r rt (λ e. some (same ∙ e)) in (
          omega (arith, range, same),
          subst (λ v. Among r (group t.rows v)) (sym same) on,
          λ h. ⊎_elim
              (λ g. left (subst (λ v. Among v placed) same g))
              (λ (e : get_or marks2 r 0 ≡ k). not_on (subst (λ v. Among r (group t.rows v)) (sym same ∙ e) on))
              (among_last (get_or marks2 r 0) k placed h),
        ))
        (number_among r (group t.rows k));
    complete = λ j r jt on left.
        let other : j ≢ k = λ e. left (among_right j placed (k ∷ []) (inl e)) in
        off.others r (λ h. other (s.laid_out.by_row.apart j k r jt next.in_range on h)) ∙ s.marked.complete j r jt on (λ g. left (among_left j placed (k ∷ []) g));
  };
  follow = follow_more t [] placed k s.follow next;
  early = λ j on. ⊎_elim (λ g. s.early j g) (λ (e : j ≡ k). let b = (s.hole_in some).0 in omega (arith, b, e)) (among_last j k placed on);
  hole_in = λ ne. absurd (ne refl);
  are_ready = λ j on. let r = s.are_ready j on in record {
    before = r.before;
    left = λ h. ⊎_elim (λ g. r.left g) (λ (e : j ≡ k). r.other e) (among_last j k placed h);
    other = λ e. let b = r.before in let w = s.within in absurd (some_of t j s.laid_out (omega (arith, b, w)) e);
    passed = passed_kept t marks marks2 j (length (group t.cols j)) 0 kept r.passed;
  };
  are_held = λ j v on. let r = s.are_held j v on in record {
    before = r.before;
    left = λ h. ⊎_elim (λ g. r.left g) (λ (e : j ≡ k). r.other e) (among_last j k placed h);
    idle = r.idle;
    other = λ e. let b = r.before in let w = s.within in absurd (some_of t j s.laid_out (omega (arith, b, w)) e);
    on = r.on;
    leads = r.leads;
    passed = passed_kept t marks marks2 j (col_of ws j) (at_of ws j) kept r.passed;
  };
  apart = s.apart;
  distinct = s.distinct;
  chains = λ v vt left. s.chains v vt (λ g. left (among_left v placed (k ∷ []) g));
  stand = λ j lt. by j (s.stand j lt);
  no_more = λ v j on ne. ⊎_elim (λ g. s.no_more v j g (λ e. let b = s.early v g in let w = s.within in absurd (some_of t v s.laid_out (omega (arith, b, w)) e))) (λ (e : v ≡ k). absurd (ne e)) (among_last v k placed on);
}
  where
    some : k ≢ none
    some = some_of t k s.laid_out next.in_range

    kept : (r : ℕ) → (get_or marks2 r 0 ≡ none) ⊎ (get_or marks2 r 0 ≡ get_or marks r 0)
    kept r = ⊎_elim (λ (on : Among r (group t.rows k)). inl (off.gone r on)) (λ not_on. inr (off.others r not_on)) (number_among r (group t.rows k))

    by : (j : ℕ) → Stands placed lists k ready j → Stands (placed ++ k ∷ []) lists none ready j
    by j (is_placed h) = is_placed (among_left j placed (k ∷ []) h)
    by j (is_ready h) = is_ready h
    by j (is_hole e) = is_placed (among_right j placed (k ∷ []) (inl e))
    by j (is_held v h) = is_held v h

-- a component is put at the head of the list of the one at which it stopped
pub held_at : (t : Layout) (placed : List ℕ) (lists : ℕ → List ℕ) (k o : ℕ) (marks : List ℕ) (ws ws2 : List Wait) (ready : List ℕ) (cursor : ℕ) (stop : Halt) → IsWaiting t placed lists k o marks ws ready cursor → k ≢ none → IsStop t marks k stop → stop.on ≢ none → Holds ws k stop ws2 → IsWaiting t placed (put lists stop.on (k ∷ lists stop.on)) none o marks ws2 ready cursor
held_at t placed lists k o marks ws ws2 ready cursor stop s some is_stop on h = record {
  laid_out = s.laid_out;
  many = h.long ∙ s.many;
  within = s.within;
  marked = s.marked;
  follow = s.follow;
  early = s.early;
  hole_in = λ ne. absurd (ne refl);
  are_ready = λ j on_ready. let r = s.are_ready j on_ready in record {
    before = r.before;
    left = r.left;
    other = no_hole j r.before;
    passed = r.passed;
  };
  are_held = λ j u among. ⊎_elim (λ (p : (u ≡ stop.on) × (j ≡ k)). new j u p.0 p.1) (λ g. old j u (s.are_held j u g)) (head_either lists stop.on k u j among);
  apart = λ u v j one two. both u v j (head_either lists stop.on k u j one) (head_either lists stop.on k v j two);
  distinct = λ v. ⊎_elim
      (λ (e : v ≡ stop.on). subst AreDistinct (sym (put_here lists stop.on (k ∷ lists stop.on) v e)) (λ g. (s.are_held k stop.on g).other refl, s.distinct stop.on))
      (λ ne. subst AreDistinct (sym (put_else lists stop.on (k ∷ lists stop.on) v ne)) (s.distinct v))
      (number_same v stop.on);
  chains = λ v vt left. ⊎_elim
      (λ (e : v ≡ stop.on). subst (Chain ws2 (first_of ws2 v)) (sym (put_here lists stop.on (k ∷ lists stop.on) v e))
      (ap (first_of ws2) e ∙ h.head, subst (λ p. Chain ws2 p (lists stop.on)) (sym h.next) (chain_kept ws ws2 (first_of ws stop.on) (lists stop.on) (s.chains stop.on to.in_range to.left) (λ x g. h.nexts x (s.are_held x stop.on g).other))))
      (λ ne. subst (Chain ws2 (first_of ws2 v)) (sym (put_else lists stop.on (k ∷ lists stop.on) v ne))
      (subst (λ p. Chain ws2 p (lists v)) (sym (h.heads v ne)) (chain_kept ws ws2 (first_of ws v) (lists v) (s.chains v vt left) (λ x g. h.nexts x (s.are_held x v g).other))))
      (number_same v stop.on);
  stand = λ j lt. by j (s.stand j lt);
  no_more = λ v j on_placed ne among. ⊎_elim (λ (p : (v ≡ stop.on) × (j ≡ k)). to.left (subst (λ u. Among u placed) p.0 on_placed)) (λ g. s.no_more v j on_placed ne g) (head_either lists stop.on k v j among);
}
  where
    before : k < cursor
    before = (s.hole_in some).0

    in_range : k < length t.cols
    in_range = let b = before in let w = s.within in omega (arith, b, w)

    to : StopsOn t placed k stop.on
    to = stops_on t placed marks k stop s.laid_out s.marked in_range is_stop on

    no_hole : (j : ℕ) → j < cursor → j ≢ none
    no_hole j b e = let w = s.within in absurd (some_of t j s.laid_out (omega (arith, b, w)) e)

    new : (j u : ℕ) → u ≡ stop.on → j ≡ k → IsHeld t placed none marks ws2 ready cursor j u
    new j u e is = subst (λ x. IsHeld t placed none marks ws2 ready cursor x u) (sym is) (subst (IsHeld t placed none marks ws2 ready cursor k) (sym e) (record {
      before = before;
      left = (s.hole_in some).1;
      idle = λ g. (s.are_ready k g).other refl;
      other = some;
      on = to.in_range;
      leads = to.leads;
      passed = subst (λ c. IsPassed t marks k c (at_of ws2 k)) (sym h.col) (subst (IsPassed t marks k stop.col) (sym h.at) is_stop.passed);
    }))

    old : (j u : ℕ) → IsHeld t placed k marks ws ready cursor j u → IsHeld t placed none marks ws2 ready cursor j u
    old j u r = record {
      before = r.before;
      left = r.left;
      idle = r.idle;
      other = no_hole j r.before;
      on = r.on;
      leads = r.leads;
      passed = subst (λ c. IsPassed t marks j c (at_of ws2 j)) (sym (h.col_stays j r.other)) (subst (IsPassed t marks j (col_of ws j)) (sym (h.at_stays j r.other)) r.passed);
    }

    both : (u v j : ℕ) → ((u ≡ stop.on) × (j ≡ k)) ⊎ Among j (lists u) → ((v ≡ stop.on) × (j ≡ k)) ⊎ Among j (lists v) → u ≡ v
    both u v j (inl p) (inl q) = p.0 ∙ sym q.0
    both u v j (inl p) (inr g) = absurd ((s.are_held j v g).other p.1)
    both u v j (inr g) (inl q) = absurd ((s.are_held j u g).other q.1)
    both u v j (inr g) (inr f) = s.apart u v j g f

    by : (j : ℕ) → Stands placed lists k ready j → Stands placed (put lists stop.on (k ∷ lists stop.on)) none ready j
    by j (is_placed g) = is_placed g
    by j (is_ready g) = is_ready g
    by j (is_hole e) = is_held stop.on (subst (Among j) (sym (put_here lists stop.on (k ∷ lists stop.on) stop.on refl)) (inl e))
    by j (is_held v g) = is_held v (head_more lists stop.on k v j g)

-- a component whose entries are all passed is ready
pub made_ready : (t : Layout) (placed : List ℕ) (lists : ℕ → List ℕ) (k o : ℕ) (marks : List ℕ) (ws : List Wait) (ready ready2 : List ℕ) (cursor : ℕ) → IsWaiting t placed lists k o marks ws ready cursor → k ≢ none → IsPassed t marks k (length (group t.cols k)) 0 → ((x : ℕ) → Among x ready2 ↔ ((x ≡ k) ⊎ Among x ready)) → IsWaiting t placed lists none o marks ws ready2 cursor
made_ready t placed lists k o marks ws ready ready2 cursor s some passed members = record {
  laid_out = s.laid_out;
  many = s.many;
  within = s.within;
  marked = s.marked;
  follow = s.follow;
  early = s.early;
  hole_in = λ ne. absurd (ne refl);
  are_ready = λ j on. ⊎_elim
      (λ (e : j ≡ k). subst (IsReady t placed none marks cursor) (sym e) (record { before = (s.hole_in some).0; left = (s.hole_in some).1; other = some; passed = passed }))
      (λ g. let r = s.are_ready j g in record { before = r.before; left = r.left; other = no_hole j r.before; passed = r.passed })
      ((members j).0 on);
  are_held = λ j v on. let r = s.are_held j v on in record {
    before = r.before;
    left = r.left;
    idle = λ g. ⊎_elim (λ (e : j ≡ k). r.other e) (λ f. r.idle f) ((members j).0 g);
    other = no_hole j r.before;
    on = r.on;
    leads = r.leads;
    passed = r.passed;
  };
  apart = s.apart;
  distinct = s.distinct;
  chains = s.chains;
  stand = λ j lt. by j (s.stand j lt);
  no_more = s.no_more;
}
  where
    no_hole : (j : ℕ) → j < cursor → j ≢ none
    no_hole j b e = let w = s.within in absurd (some_of t j s.laid_out (omega (arith, b, w)) e)

    by : (j : ℕ) → Stands placed lists k ready j → Stands placed lists none ready2 j
    by j (is_placed g) = is_placed g
    by j (is_ready g) = is_ready ((members j).1 (inr g))
    by j (is_hole e) = is_ready ((members j).1 (inl e))
    by j (is_held v g) = is_held v g

-- the first one is taken out of the list of a placed one
pub released : (t : Layout) (placed : List ℕ) (lists : ℕ → List ℕ) (o x : ℕ) (xs marks : List ℕ) (ws : List Wait) (ready : List ℕ) (cursor : ℕ) → IsWaiting t placed lists none o marks ws ready cursor → Among o placed → lists o ≡ x ∷ xs → IsWaiting t placed (put lists o xs) x o marks ws ready cursor
released t placed lists o x xs marks ws ready cursor s on_placed are = record {
  laid_out = s.laid_out;
  many = s.many;
  within = s.within;
  marked = s.marked;
  follow = s.follow;
  early = s.early;
  hole_in = λ some. (mine.before, mine.left);
  are_ready = λ j on. let r = s.are_ready j on in record { before = r.before; left = r.left; other = λ e. mine.idle (subst (λ y. Among y ready) e on); passed = r.passed };
  are_held = λ j v on. ⊎_elim (λ (p : (v ≡ o) × Among j xs). here j v p.0 p.1) (λ (p : (v ≢ o) × Among j (lists v)). else j v p.0 p.1) (put_either lists o xs v j on);
  apart = λ u v j one two. s.apart u v j (was u j one) (was v j two);
  distinct = λ v. ⊎_elim
      (λ (e : v ≡ o). subst AreDistinct (sym (put_here lists o xs v e)) first.1)
      (λ ne. subst AreDistinct (sym (put_else lists o xs v ne)) (s.distinct v))
      (number_same v o);
  chains = λ v vt left. subst (Chain ws (first_of ws v)) (sym (put_else lists o xs v (λ e. left (subst (λ u. Among u placed) (sym e) on_placed)))) (s.chains v vt left);
  stand = λ j lt. by j lt (s.stand j lt);
  no_more = λ v j on ne among. s.no_more v j on ne (was v j among);
}
  where
    first : AreDistinct (x ∷ xs)
    first = subst AreDistinct are (s.distinct o)

    mine : IsHeld t placed none marks ws ready cursor x o
    mine = s.are_held x o (subst (Among x) (sym are) (inl refl))

    was : (v j : ℕ) → Among j (put lists o xs v) → Among j (lists v)
    was v j h = ⊎_elim (λ (p : (v ≡ o) × Among j xs). subst (λ u. Among j (lists u)) (sym p.0) (subst (Among j) (sym are) (inr p.1))) (λ p. p.1) (put_either lists o xs v j h)

    with_other : (j v : ℕ) → j ≢ x → Among j (lists v) → IsHeld t placed x marks ws ready cursor j v
    with_other j v ne h = let r = s.are_held j v h in record { before = r.before; left = r.left; idle = r.idle; other = ne; on = r.on; leads = r.leads; passed = r.passed }

    here : (j v : ℕ) → v ≡ o → Among j xs → IsHeld t placed x marks ws ready cursor j v
    here j v e h = with_other j v (λ is. first.0 (subst (λ y. Among y xs) is h)) (subst (λ u. Among j (lists u)) (sym e) (subst (Among j) (sym are) (inr h)))

    else : (j v : ℕ) → v ≢ o → Among j (lists v) → IsHeld t placed x marks ws ready cursor j v
    else j v ne h = with_other j v (λ is. ne (s.apart v o x (subst (λ y. Among y (lists v)) is h) (subst (Among x) (sym are) (inl refl)))) h

    in_rest : (j : ℕ) → Among j (x ∷ xs) → Stands placed (put lists o xs) x ready j
    in_rest j (inl e) = is_hole e
    in_rest j (inr h) = is_held o (subst (Among j) (sym (put_here lists o xs o refl)) h)

    by : (j : ℕ) → j < cursor → Stands placed lists none ready j → Stands placed (put lists o xs) x ready j
    by j lt (is_placed g) = is_placed g
    by j lt (is_ready g) = is_ready g
    by j lt (is_hole e) = let w = s.within in absurd (some_of t j s.laid_out (omega (arith, lt, w)) e)
    by j lt (is_held v g) = ⊎_elim
        (λ (e : v ≡ o). in_rest j (subst (Among j) are (subst (λ u. Among j (lists u)) e g)))
        (λ ne. is_held v (subst (Among j) (sym (put_else lists o xs v ne)) g))
        (number_same v o)

-- the list of a placed one is gone over
pub closed : (t : Layout) (placed : List ℕ) (lists : ℕ → List ℕ) (o : ℕ) (marks : List ℕ) (ws : List Wait) (ready : List ℕ) (cursor : ℕ) → IsWaiting t placed lists none o marks ws ready cursor → lists o ≡ [] → IsWaiting t placed lists none none marks ws ready cursor
closed t placed lists o marks ws ready cursor s none_left = record {
  laid_out = s.laid_out;
  many = s.many;
  within = s.within;
  marked = s.marked;
  follow = s.follow;
  early = s.early;
  hole_in = s.hole_in;
  are_ready = s.are_ready;
  are_held = s.are_held;
  apart = s.apart;
  distinct = s.distinct;
  chains = s.chains;
  stand = s.stand;
  no_more = λ v j on ne among. ⊎_elim (λ (e : v ≡ o). subst (Among j) none_left (subst (λ u. Among j (lists u)) e among)) (λ other. s.no_more v j on other among) (number_same v o);
}

-- Where nothing is ready and all were looked at, all are placed: of the others the one that was finished first would wait
-- at none.
pub all_placed : (t : Layout) (finished : ℕ → ℕ) (placed : List ℕ) (lists : ℕ → List ℕ) (marks : List ℕ) (ws : List Wait) (cursor : ℕ) → ((j p : ℕ) → j < length t.cols → p < length t.cols → LeadsTo t j p → finished p < finished j) → IsWaiting t placed lists none none marks ws [] cursor → cursor ≡ length t.cols → (k : ℕ) → k < length t.cols → Among k placed
all_placed t finished placed lists marks ws cursor falls s seen k lt = up_to (suc (finished k)) k (omega arith) lt
  where
    by : (m k : ℕ) → ((j : ℕ) → finished j < m → j < length t.cols → Among j placed) → finished k < suc m → k < length t.cols → Stands placed lists none [] k → Among k placed
    by m k rest fk kt (is_placed g) = g
    by m k rest fk kt (is_ready g) = elim g [ ]
    by m k rest fk kt (is_hole e) = absurd (some_of t k s.laid_out kt e)
    by m k rest fk kt (is_held v g) =
        let r = s.are_held k v g in
        let less = falls k v kt r.on r.leads in
        let on = rest v (omega (arith, less, fk)) r.on in
        absurd (s.no_more v k on (some_of t v s.laid_out r.on) g)

    up_to : (m k : ℕ) → finished k < m → k < length t.cols → Among k placed
    up_to zero k fk kt = absurd (omega (arith, fk))
    up_to (suc m) k fk kt = by m k (λ j fj jt. up_to m j fj jt) fk kt (s.stand k (omega (arith, kt, seen)))

-- Steps of the program.

-- the least ready one is the next
pub taken_next : (t : Layout) (placed : List ℕ) (lists : ℕ → List ℕ) (marks : List ℕ) (ws : List Wait) (members : List ℕ) (k : ℕ) (ready : List ℕ) (cursor : ℕ) → IsWaiting t placed lists none none marks ws members cursor → members ≡ k ∷ ready → IsRising members → IsWaiting t placed lists k none marks ws ready cursor × IsNext t placed k
taken_next t placed lists marks ws members k ready cursor all are all_rise = (out, is_next t placed lists k marks ws ready cursor out (some_of t k s.laid_out (omega (arith, b, w))) mine.passed (λ j on. let lt = below_each_sound k j ready rising.0 on in omega (arith, lt)))
  where
    s : IsWaiting t placed lists none none marks ws (k ∷ ready) cursor
    s = subst (λ m. IsWaiting t placed lists none none marks ws m cursor) are all

    rising : IsRising (k ∷ ready)
    rising = subst IsRising are all_rise

    mine : IsReady t placed none marks cursor k
    mine = s.are_ready k (inl refl)

    b : k < cursor
    b = mine.before

    w : cursor ≤ length t.cols
    w = s.within

    out : IsWaiting t placed lists k none marks ws ready cursor
    out = taken_out t placed lists marks ws k ready cursor s rising

-- where none is ready, a component that a look passes is the next
pub looked_next : (t : Layout) (placed : List ℕ) (lists : ℕ → List ℕ) (marks : List ℕ) (ws : List Wait) (members : List ℕ) (cursor : ℕ) (stop : Halt) → IsWaiting t placed lists none none marks ws members cursor → members ≡ [] → cursor < length t.cols → IsStop t marks cursor stop → stop.on ≡ none → IsWaiting t placed lists cursor none marks ws members (cursor + 1) × IsNext t placed cursor
looked_next t placed lists marks ws members cursor stop s are lt is_stop ends =
    let out = looked_at t placed lists marks ws members cursor s lt in
    (out, is_next t placed lists cursor marks ws members (cursor + 1) out (some_of t cursor s.laid_out lt) (passed_all t marks cursor stop is_stop ends) (λ j on. let no : ⊥ = subst (Among j) are on in absurd no))

-- and one that stops waits
pub looked_held : (t : Layout) (placed : List ℕ) (lists : ℕ → List ℕ) (marks : List ℕ) (ws ws2 : List Wait) (members : List ℕ) (cursor : ℕ) (stop : Halt) → IsWaiting t placed lists none none marks ws members cursor → cursor < length t.cols → IsStop t marks cursor stop → stop.on ≢ none → Holds ws cursor stop ws2 → IsWaiting t placed (put lists stop.on (cursor ∷ lists stop.on)) none none marks ws2 members (cursor + 1)
looked_held t placed lists marks ws ws2 members cursor stop s lt is_stop on h =
    held_at t placed lists cursor none marks ws ws2 members (cursor + 1) stop (looked_at t placed lists marks ws members cursor s lt) (some_of t cursor s.laid_out lt) is_stop on h
