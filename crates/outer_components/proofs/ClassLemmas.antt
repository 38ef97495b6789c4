-- What the searches over contacts keep, and the classes that they give.
use Rattle.std.proofs.Common.{◌≡◌, ◌≢◌, ◌⊎◌, ◌∙◌, ℕ, zero, suc, ◌+◌, ◌<◌, ◌≤◌, List, [], ◌∷◌, ◌++◌, length, get_or, set, refl, sym, ap, subst, inl, inr, arith, nat_eq, if◌then◌else◌, false, eq-eqb, length-append, length-set, get_or-set_same, get_or-set_other}
use Rattle.std.proofs.Math.Decide.{dec_lt}
use Rattle.std.proofs.lemmas.Bool.Decides.{nat_tests}
use Rattle.std.proofs.lemmas.List.{get_or_append_left, get_or_push}
use Rattle.bip_defs.specs.Lists.{Among}
use Rattle.bip_defs.specs.Tallies.{tally}
use Rattle.bip_defs.proofs.Sets.{among_last, among_left, among_right, number_same, place_among, rising_last}
use Rattle.bip_graph.specs.Matching.{none}
use Rattle.id_groups.specs.Groups.{AreGroups, group}
use Rattle.outer_components.specs.Classes.{AreClasses, AreReached, AreTouched, IsFlooding, IsNumbering, Spreads}
use Rattle.outer_components.specs.Contacts.{AreEnds, IsClosed, IsContact, Linked, Touch, linked_on, linked_self}
use Rattle.outer_components.specs.declared.contacts.Contacts.{Contacts}

-- Contacts.

pub contact_ends : (c : Contacts) (l k : ℕ) → AreEnds c → IsContact c l k → (l < c.count) × (k < c.count)
contact_ends c l k x (i, (lt, e), f) = (subst (λ z. z < c.count) e (x.first i lt), subst (λ z. z < c.count) f (x.second i lt))

pub touch_ends : (c : Contacts) (l k : ℕ) → AreEnds c → Touch c l k → (l < c.count) × (k < c.count)
touch_ends c l k x (inl t) = contact_ends c l k x t
touch_ends c l k x (inr t) = let (a, b) = contact_ends c k l x t in (b, a)

pub touch_back : (c : Contacts) (l k : ℕ) → Touch c l k → Touch c k l
touch_back c l k (inl t) = inr t
touch_back c l k (inr t) = inl t

-- How many have no number.

test_other : (x y : ℕ) → x ≢ y → nat_eq x y ≡ false
test_other x y ne = grind (arith, nat_tests)

tally_hit : (v y : ℕ) (ys : List ℕ) → v ≡ y → tally v (y ∷ ys) ≡ suc (tally v ys)
tally_hit v y ys e = ap (λ b. if b then suc (tally v ys) else tally v ys) (eq-eqb v y e)

tally_miss : (v y : ℕ) (ys : List ℕ) → v ≢ y → tally v (y ∷ ys) ≡ tally v ys
tally_miss v y ys ne = ap (λ b. if b then suc (tally v ys) else tally v ys) (test_other v y ne)

-- one less in the rest is one less in all
tally_later : (v y : ℕ) (ys zs : List ℕ) → tally v zs + 1 ≡ tally v ys → tally v (y ∷ zs) + 1 ≡ tally v (y ∷ ys)
tally_later v y ys zs rest = by (number_same v y)
  where
    by : (v ≡ y) ⊎ (v ≢ y) → tally v (y ∷ zs) + 1 ≡ tally v (y ∷ ys)
    by (inl f) = let a = tally_hit v y zs f in let b = tally_hit v y ys f in omega (arith, a, b, rest)
    by (inr f) = let a = tally_miss v y zs f in let b = tally_miss v y ys f in omega (arith, a, b, rest)

tally_set : (v : ℕ) (xs : List ℕ) (k x : ℕ) → k < length xs → get_or xs k 0 ≡ v → x ≢ v → tally v (set xs k x) + 1 ≡ tally v xs
tally_set v [] k x lt e ne = absurd (omega (arith, lt))
tally_set v (y ∷ ys) zero x lt e ne = let had = tally_hit v y ys (sym e) in let now = tally_miss v x ys (λ f. ne (sym f)) in omega (arith, had, now)
tally_set v (y ∷ ys) (suc k) x lt e ne = tally_later v y ys (set ys k x) (tally_set v ys k x (omega (arith, lt)) e ne)

-- One label more.

pub spreads_same : (number : ℕ) (ns s : List ℕ) → Spreads number ns ns s s
spreads_same number ns s = record {
  long = refl;
  kept = λ l ne. refl;
  told = λ l e ne. absurd (ne e);
  stays = λ l h. h;
  stacked = λ l h. inl h;
  left = refl;
}

module _ (number label : ℕ) (ns s : List ℕ) (some : number ≢ none) (lt : label < length ns) (was : get_or ns label 0 ≡ none) where
  here : get_or (set ns label number) label 0 ≡ number
  here = get_or-set_same ns label number 0 lt

  there : (l : ℕ) → l ≢ label → get_or (set ns label number) l 0 ≡ get_or ns l 0
  there l ne = get_or-set_other ns label l number 0 ne

  last : Among label (s ++ label ∷ [])
  last = among_right label s (label ∷ []) (inl refl)

  pub spreads_one : Spreads number ns (set ns label number) s (s ++ label ∷ [])
  spreads_one = record {
    long = length-set ns label number;
    kept = λ l ne. there l (λ e. ne (ap (λ z. get_or ns z 0) e ∙ was));
    told = λ l e ne. told l e ne (number_same l label);
    stays = λ l h. among_left l s (label ∷ []) h;
    stacked = λ l h. stacked l (among_last l label s h);
    left = let t = tally_set none ns label number lt was some in let a = length-append s (label ∷ []) in omega (arith, t, a);
  }
    where
      told : (l : ℕ) → get_or ns l 0 ≡ none → get_or (set ns label number) l 0 ≢ none → (l ≡ label) ⊎ (l ≢ label) → (get_or (set ns label number) l 0 ≡ number) × Among l (s ++ label ∷ [])
      told l e ne (inl f) = rw f (here, last)
      told l e ne (inr off) = absurd (ne (there l off ∙ e))

      stacked : (l : ℕ) → Among l s ⊎ (l ≡ label) → Among l s ⊎ ((get_or ns l 0 ≡ none) × (get_or (set ns label number) l 0 ≢ none))
      stacked l (inl h) = inl h
      stacked l (inr f) = inr (rw f (was, λ z. some (sym here ∙ z)))

  pub touched_one : AreTouched (λ l. l ≡ label) ns (set ns label number)
  touched_one = record {
    only = λ l e ne. only l e ne (number_same l label);
    all = λ l f. rw f (λ z. some (sym here ∙ z));
  }
    where
      only : (l : ℕ) → get_or ns l 0 ≡ none → get_or (set ns label number) l 0 ≢ none → (l ≡ label) ⊎ (l ≢ label) → l ≡ label
      only l e ne (inl f) = f
      only l e ne (inr off) = absurd (ne (there l off ∙ e))

-- the label has a number
pub touched_none : (label : ℕ) (ns : List ℕ) → get_or ns label 0 ≢ none → AreTouched (λ l. l ≡ label) ns ns
touched_none label ns some = record { only = λ l e ne. absurd (ne e); all = λ l f. rw f some }

-- Several labels.

module _ (number : ℕ) (some : number ≢ none) (os ms ns s t u : List ℕ) (x : Spreads number os ms s t) (y : Spreads number ms ns t u) where
  still : (l : ℕ) → get_or ms l 0 ≢ none → get_or ns l 0 ≢ none
  still l ne e = ne (sym (y.kept l ne) ∙ e)

  was_none : (l : ℕ) → get_or ms l 0 ≡ none → get_or os l 0 ≡ none
  was_none l e = by (number_same (get_or os l 0) none)
    where
      by : (get_or os l 0 ≡ none) ⊎ (get_or os l 0 ≢ none) → get_or os l 0 ≡ none
      by (inl f) = f
      by (inr ne) = absurd (ne (sym (x.kept l ne) ∙ e))

  pub spreads_on : Spreads number os ns s u
  spreads_on = record {
    long = y.long ∙ x.long;
    kept = λ l ne. y.kept l (λ e. ne (sym (x.kept l ne) ∙ e)) ∙ x.kept l ne;
    told = λ l e ne. told l e ne (number_same (get_or ms l 0) none);
    stays = λ l h. y.stays l (x.stays l h);
    stacked = λ l h. stacked l (y.stacked l h);
    left = y.left ∙ x.left;
  }
    where
      told : (l : ℕ) → get_or os l 0 ≡ none → get_or ns l 0 ≢ none → (get_or ms l 0 ≡ none) ⊎ (get_or ms l 0 ≢ none) → (get_or ns l 0 ≡ number) × Among l u
      told l e ne (inl f) = y.told l f ne
      told l e ne (inr f) = let (is, h) = x.told l e f in (y.kept l f ∙ is, y.stays l h)

      first : (l : ℕ) → Among l s ⊎ ((get_or os l 0 ≡ none) × (get_or ms l 0 ≢ none)) → Among l s ⊎ ((get_or os l 0 ≡ none) × (get_or ns l 0 ≢ none))
      first l (inl h) = inl h
      first l (inr (e, ne)) = inr (e, still l ne)

      stacked : (l : ℕ) → Among l t ⊎ ((get_or ms l 0 ≡ none) × (get_or ns l 0 ≢ none)) → Among l s ⊎ ((get_or os l 0 ≡ none) × (get_or ns l 0 ≢ none))
      stacked l (inl h) = first l (x.stacked l h)
      stacked l (inr (e, ne)) = inr (was_none l e, ne)

  -- one contact more
  pub reached_more : (contacts ends : List ℕ) (at i l : ℕ) → AreReached contacts ends at os ms → AreTouched (λ j. j ≡ l) ms ns → Among i contacts → i ≡ get_or contacts at 0 → l ≡ get_or ends i 0 → AreReached contacts ends (at + 1) os ns
  reached_more contacts ends at i l r one among is end = record {
    only = λ j e ne. only j e ne (number_same (get_or ms j 0) none);
    all = λ j lt. all j lt (number_same j at);
  }
    where
      only : (j : ℕ) → get_or os j 0 ≡ none → get_or ns j 0 ≢ none → (get_or ms j 0 ≡ none) ⊎ (get_or ms j 0 ≢ none) → (h : ℕ) × Among h contacts × (get_or ends h 0 ≡ j)
      only j e ne (inl f) = (i, among, sym end ∙ sym (one.only j f ne))
      only j e ne (inr f) = r.only j e f

      all : (j : ℕ) → j < at + 1 → (j ≡ at) ⊎ (j ≢ at) → get_or ns (get_or ends (get_or contacts j 0) 0) 0 ≢ none
      all j lt (inl f) = one.all (get_or ends (get_or contacts j 0) 0) (sym (end ∙ ap (λ z. get_or ends z 0) (is ∙ ap (λ z. get_or contacts z 0) (sym f))))
      all j lt (inr ne) = still (get_or ends (get_or contacts j 0) 0) (r.all j (omega (arith, lt, ne)))

  -- both lists of a label's contacts
  pub touched_both : (c : Contacts) (l : ℕ) (by_first by_second : List (List ℕ)) → AreEnds c → l < c.count → AreGroups c.firsts.items c.count by_first → AreGroups c.seconds.items c.count by_second → AreReached (group by_first l) c.seconds.items (length (group by_first l)) os ms → AreReached (group by_second l) c.firsts.items (length (group by_second l)) ms ns → AreTouched (Touch c l) os ns
  touched_both c l by_first by_second ends lt firsts seconds a b = record {
    only = λ j e ne. only j e ne (number_same (get_or ms j 0) none);
    all = all;
  }
    where
      only : (j : ℕ) → get_or os j 0 ≡ none → get_or ns j 0 ≢ none → (get_or ms j 0 ≡ none) ⊎ (get_or ms j 0 ≢ none) → Touch c l j
      only j e ne (inl f) =
          let (h, among, is) = b.only j f ne in
          let (within, stands) = (seconds.lists l lt).sound h among in
          inr (h, (let same = ends.long in omega (arith, within, same), is), stands)
      only j e ne (inr f) =
          let (h, among, is) = a.only j e f in
          let stands = (firsts.lists l lt).sound h among in
          inl (h, stands, is)

      all : (j : ℕ) → Touch c l j → get_or ns j 0 ≢ none
      all j (inl (h, stands, is)) =
          let (k, low, same) = place_among h 0 (group by_first l) ((firsts.lists l lt).complete h stands) in
          still j (subst (λ z. get_or ms z 0 ≢ none) (ap (λ z. get_or c.seconds.items z 0) same ∙ is) (a.all k low))
      all j (inr (h, (within, is), stands)) =
          let (k, low, same) = place_among h 0 (group by_second l) ((seconds.lists l lt).complete h (let e = ends.long in omega (arith, within, e), stands)) in
          subst (λ z. get_or ns z 0 ≢ none) (ap (λ z. get_or c.firsts.items z 0) same ∙ is) (b.all k low)

pub reached_start : (contacts ends ns : List ℕ) → AreReached contacts ends 0 ns ns
reached_start contacts ends ns = record { only = λ l e ne. absurd (ne e); all = λ j lt. absurd (omega (arith, lt)) }

-- All that chains of contacts join with a label.

pub flooding_start : (c : Contacts) (label number : ℕ) (ns : List ℕ) → AreEnds c → label < c.count → length ns ≡ c.count → number ≢ none → get_or ns label 0 ≡ none → IsClosed c ns → IsFlooding c label number ns (set ns label number) (label ∷ [])
flooding_start c label number ns ends lt long some was closed_before = record {
  long = length-set ns label number;
  kept = λ l ne. there l (λ e. ne (ap (λ z. get_or ns z 0) e ∙ was));
  mine = λ l e ne. mine l e ne (number_same l label);
  here = λ z. some (sym here ∙ z);
  stacked = λ l h. stacked l h;
  closed = λ l k t ne. closed l k t ne (number_same l label);
}
  where
    here : get_or (set ns label number) label 0 ≡ number
    here = get_or-set_same ns label number 0 (omega (arith, lt, long))

    there : (l : ℕ) → l ≢ label → get_or (set ns label number) l 0 ≡ get_or ns l 0
    there l ne = get_or-set_other ns label l number 0 ne

    mine : (l : ℕ) → get_or ns l 0 ≡ none → get_or (set ns label number) l 0 ≢ none → (l ≡ label) ⊎ (l ≢ label) → (get_or (set ns label number) l 0 ≡ number) × Linked c label l
    mine l e ne (inl f) = rw f (here, linked_self)
    mine l e ne (inr off) = absurd (ne (there l off ∙ e))

    stacked : (l : ℕ) → Among l (label ∷ []) → (l < c.count) × (get_or ns l 0 ≡ none) × (get_or (set ns label number) l 0 ≢ none)
    stacked l (inl f) = rw f (lt, was, λ z. some (sym here ∙ z))
    stacked l (inr h) = elim h [ ]

    closed : (l k : ℕ) → Touch c l k → get_or (set ns label number) l 0 ≢ none → (l ≡ label) ⊎ (l ≢ label) → Among l (label ∷ []) ⊎ (get_or (set ns label number) k 0 ≡ get_or (set ns label number) l 0)
    closed l k t ne (inl f) = inl (inl f)
    closed l k t ne (inr off) =
        let had : get_or ns l 0 ≢ none = λ z. ne (there l off ∙ z) in
        let same = closed_before l k t had in
        let apart : k ≢ label = λ f. had (sym same ∙ ap (λ z. get_or ns z 0) f ∙ was) in
        inr (there k apart ∙ same ∙ sym (there l off))

module _ (c : Contacts) (label number at : ℕ) (os ms ns s t u : List ℕ) (ends : AreEnds c) (closed_before : IsClosed c os) (x : IsFlooding c label number os ms t) (popped : t ≡ s ++ at ∷ []) (y : Spreads number ms ns s u) (z : AreTouched (Touch c at) ms ns) where
  at_stacked : (at < c.count) × (get_or os at 0 ≡ none) × (get_or ms at 0 ≢ none)
  at_stacked = x.stacked at (subst (Among at) (sym popped) (among_right at s (at ∷ []) (inl refl)))

  mine : (l : ℕ) → get_or os l 0 ≡ none → get_or ns l 0 ≢ none → (get_or ms l 0 ≡ none) ⊎ (get_or ms l 0 ≢ none) → (get_or ns l 0 ≡ number) × Linked c label l
  mine l e ne (inl f) = ((y.told l f ne).0, linked_on (x.mine at at_stacked.1 at_stacked.2).1 (z.only l f ne))
  mine l e ne (inr f) = let (is, chain) = x.mine l e f in (y.kept l f ∙ is, chain)

  pub flooding_more : IsFlooding c label number os ns u
  flooding_more = record {
    long = y.long ∙ x.long;
    kept = λ l ne. y.kept l (λ e. ne (sym (x.kept l ne) ∙ e)) ∙ x.kept l ne;
    mine = λ l e ne. mine l e ne (number_same (get_or ms l 0) none);
    here = λ e. x.here (sym (y.kept label x.here) ∙ e);
    stacked = λ l h. stacked l (y.stacked l h);
    closed = λ l k w ne. closed l k w ne (number_same (get_or ms l 0) none);
  }
    where
      earlier : (l : ℕ) → Among l s → (l < c.count) × (get_or os l 0 ≡ none) × (get_or ms l 0 ≢ none)
      earlier l h = x.stacked l (subst (Among l) (sym popped) (among_left l s (at ∷ []) h))

      was_none : (l : ℕ) → get_or ms l 0 ≡ none → (get_or os l 0 ≡ none) ⊎ (get_or os l 0 ≢ none) → get_or os l 0 ≡ none
      was_none l e (inl f) = f
      was_none l e (inr ne) = absurd (ne (sym (x.kept l ne) ∙ e))

      stacked : (l : ℕ) → Among l s ⊎ ((get_or ms l 0 ≡ none) × (get_or ns l 0 ≢ none)) → (l < c.count) × (get_or os l 0 ≡ none) × (get_or ns l 0 ≢ none)
      stacked l (inl h) = let (lt, e, ne) = earlier l h in (lt, e, λ f. ne (sym (y.kept l ne) ∙ f))
      stacked l (inr (e, ne)) = ((touch_ends c at l ends (z.only l e ne)).1, was_none l e (number_same (get_or os l 0) none), ne)

      -- what is in contact with the label that was gone over has its number
      beside : (k : ℕ) → Touch c at k → get_or ns k 0 ≡ number
      beside k w = by (number_same (get_or os k 0) none)
        where
          by : (get_or os k 0 ≡ none) ⊎ (get_or os k 0 ≢ none) → get_or ns k 0 ≡ number
          by (inl e) = (mine k e (z.all k w) (number_same (get_or ms k 0) none)).0
          by (inr ne) = absurd (ne (sym (closed_before k at (touch_back c at k w) ne) ∙ at_stacked.1))

      closed : (l k : ℕ) → Touch c l k → get_or ns l 0 ≢ none → (get_or ms l 0 ≡ none) ⊎ (get_or ms l 0 ≢ none) → Among l u ⊎ (get_or ns k 0 ≡ get_or ns l 0)
      closed l k w ne (inl f) = inl (y.told l f ne).1
      closed l k w ne (inr f) = by (x.closed l k w f)
        where
          top : Among l s ⊎ (l ≡ at) → Among l u ⊎ (get_or ns k 0 ≡ get_or ns l 0)
          top (inl h) = inl (y.stays l h)
          top (inr e) = inr (beside k (subst (λ j. Touch c j k) e w) ∙ sym (ap (λ j. get_or ns j 0) e ∙ (mine at at_stacked.1 (λ g. at_stacked.2 (sym (y.kept at at_stacked.2) ∙ g)) (inr at_stacked.2)).0))

          by : Among l t ⊎ (get_or ms k 0 ≡ get_or ms l 0) → Among l u ⊎ (get_or ns k 0 ≡ get_or ns l 0)
          by (inl h) = top (among_last l at s (subst (Among l) popped h))
          by (inr e) = inr (y.kept k (λ g. f (sym e ∙ g)) ∙ e ∙ sym (y.kept l f))

  -- fewer are left: without a number or stacked
  pub flooding_less : tally none ns + length u < tally none ms + length t
  flooding_less = let left = y.left in let a = ap length popped ∙ length-append s (at ∷ []) in omega (arith, left, a)

-- nothing is stacked any more
pub flooded_closed : (c : Contacts) (label number : ℕ) (os ns : List ℕ) → IsFlooding c label number os ns [] → IsClosed c ns
flooded_closed c label number os ns x l k t ne = by (x.closed l k t ne)
  where
    by : Among l [] ⊎ (get_or ns k 0 ≡ get_or ns l 0) → get_or ns k 0 ≡ get_or ns l 0
    by (inl h) = elim h [ ]
    by (inr e) = e

-- All classes.

pub numbering_start : (c : Contacts) (ns : List ℕ) → AreEnds c → length ns ≡ c.count → ((l : ℕ) → l < length ns → get_or ns l 0 ≡ none) → IsNumbering c 0 0 ns
numbering_start c ns ends long empty = record {
  firsts = [];
  count_is = refl;
  few = omega arith;
  rising = tt;
  first = λ k lt. absurd (omega (arith, lt));
  long = long;
  done = λ l lt. absurd (omega (arith, lt));
  number = λ l lt ne. absurd (ne (empty l (omega (arith, lt, long))));
  closed = λ l k t ne. absurd (ne (empty l (let lt = (touch_ends c l k ends t).0 in omega (arith, lt, long))));
}

-- the label has a number
pub numbering_same : (c : Contacts) (at count : ℕ) (ns : List ℕ) → IsNumbering c at count ns → get_or ns at 0 ≢ none → IsNumbering c (at + 1) count ns
numbering_same c at count ns x some = record {
  firsts = x.firsts;
  count_is = x.count_is;
  few = let f = x.few in omega (arith, f);
  rising = x.rising;
  first = λ k lt. let (low, is) = x.first k lt in (omega (arith, low), is);
  long = x.long;
  done = λ l lt. done l lt (number_same l at);
  number = x.number;
  closed = x.closed;
}
  where
    done : (l : ℕ) → l < at + 1 → (l ≡ at) ⊎ (l ≢ at) → get_or ns l 0 ≢ none
    done l lt (inl e) = rw e some
    done l lt (inr ne) = x.done l (omega (arith, lt, ne))

module _ (c : Contacts) (at count : ℕ) (os ns : List ℕ) (x : IsNumbering c at count os) (lt : at < c.count) (was : get_or os at 0 ≡ none) (y : IsFlooding c at count os ns []) where
  firsts2 : List ℕ
  firsts2 = x.firsts ++ at ∷ []

  newest : get_or firsts2 count 0 ≡ at
  unfolding firsts2
  newest = get_or_push x.firsts at 0 count x.count_is

  before : (k : ℕ) → k < count → get_or firsts2 k 0 ≡ get_or x.firsts k 0
  unfolding firsts2
  before k less = get_or_append_left x.firsts (at ∷ []) 0 k (let e = x.count_is in omega (arith, less, e))

  kept_first : (k : ℕ) → k < count → get_or ns (get_or x.firsts k 0) 0 ≡ k
  kept_first k less = let (low, is) = x.first k less in y.kept (get_or x.firsts k 0) (x.done (get_or x.firsts k 0) low) ∙ is

  own : get_or ns at 0 ≡ count
  own = (y.mine at was y.here).0

  first : (k : ℕ) → k < count + 1 → (k ≡ count) ⊎ (k ≢ count) → (get_or firsts2 k 0 < at + 1) × (get_or ns (get_or firsts2 k 0) 0 ≡ k)
  first k less (inl e) = rw (e, newest) (omega arith, own)
  first k less (inr ne) = let lo : k < count = omega (arith, less, ne) in rw (before k lo) (let low = (x.first k lo).0 in omega (arith, low), kept_first k lo)

  done : (l : ℕ) → l < at + 1 → (l ≡ at) ⊎ (l ≢ at) → get_or ns l 0 ≢ none
  done l less (inl e) = rw e y.here
  done l less (inr ne) = let had = x.done l (omega (arith, less, ne)) in λ z. had (sym (y.kept l had) ∙ z)

  number : (l : ℕ) → l < c.count → get_or ns l 0 ≢ none → (get_or os l 0 ≡ none) ⊎ (get_or os l 0 ≢ none) → (get_or ns l 0 < count + 1) × (get_or firsts2 (get_or ns l 0) 0 ≤ l) × Linked c (get_or firsts2 (get_or ns l 0) 0) l
  number l less ne (inl e) = let (is, chain) = y.mine l e ne in rw (is, newest) (omega arith, above, chain)
    where
      above : at ≤ l
      above = by (dec_lt l at)
        where
          by : Dec (l < at) → at ≤ l
          by (yes low) = absurd (x.done l low e)
          by (no high) = omega (arith, high)
  number l less ne (inr f) =
      let (low, le, chain) = x.number l less f in
      let same = y.kept l f in
      rw (same, before (get_or os l 0) low) (omega (arith, low), le, chain)

  pub numbering_more : IsNumbering c (at + 1) (count + 1) ns
  unfolding firsts2
  numbering_more = record {
    firsts = firsts2;
    count_is = length-append x.firsts (at ∷ []) ∙ ap (λ z. z + 1) x.count_is;
    few = let f = x.few in omega (arith, f);
    rising = rising_last x.firsts at x.rising (λ j among. let (k, less, same) = place_among j 0 x.firsts among in let low = (x.first k (let e = x.count_is in omega (arith, less, e))).0 in omega (arith, low, same));
    first = λ k less. first k less (number_same k count);
    long = y.long ∙ x.long;
    done = λ l less. done l less (number_same l at);
    number = λ l less ne. number l less ne (number_same (get_or os l 0) none);
    closed = flooded_closed c at count os ns y;
  }

pub numbering_end : (c : Contacts) (at count : ℕ) (ns : List ℕ) → AreEnds c → IsNumbering c at count ns → at ≡ c.count → AreClasses c count ns
numbering_end c at count ns ends x all = record {
  firsts = x.firsts;
  count_is = x.count_is;
  few = let f = x.few in omega (arith, f, all);
  rising = x.rising;
  first = λ k lt. let (low, is) = x.first k lt in (omega (arith, low, all), is);
  long = x.long;
  number = λ l lt. (x.number l lt (done l lt)).0;
  least = λ l lt. (x.number l lt (done l lt)).1;
  linked = λ l lt. (x.number l lt (done l lt)).2;
  same = λ l k t. sym (x.closed l k (inl t) (done l (contact_ends c l k ends t).0));
}
  where
    done : (l : ℕ) → l < c.count → get_or ns l 0 ≢ none
    done l lt = x.done l (omega (arith, lt, all))

-- The contacts of a label, by the lists of both ends.

pub seconds_in : (c : Contacts) (l n : ℕ) (by_first : List (List ℕ)) (is es : List ℕ) → AreEnds c → l < c.count → AreGroups c.firsts.items c.count by_first → is ≡ group by_first l → es ≡ c.seconds.items → n ≡ c.count → (i : ℕ) → Among i is → (i < length es) × (get_or es i 0 < n)
seconds_in c l n by_first is es ends lt groups listed are same i on =
    let (within, stands) = (groups.lists l lt).sound i (subst (Among i) listed on) in
    rw (are, same) ((let e = ends.long in omega (arith, within, e)), ends.second i within)

pub firsts_in : (c : Contacts) (l n : ℕ) (by_second : List (List ℕ)) (is es : List ℕ) → AreEnds c → l < c.count → AreGroups c.seconds.items c.count by_second → is ≡ group by_second l → es ≡ c.firsts.items → n ≡ c.count → (i : ℕ) → Among i is → (i < length es) × (get_or es i 0 < n)
firsts_in c l n by_second is es ends lt groups listed are same i on =
    let (within, stands) = (groups.lists l lt).sound i (subst (Among i) listed on) in
    let low : i < length c.firsts.items = (let e = ends.long in omega (arith, within, e)) in
    rw (are, same) (low, ends.first i low)
