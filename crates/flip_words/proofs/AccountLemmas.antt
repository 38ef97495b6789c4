-- One tree more that is taken, one vertex more that is set, and lists in another order.
use Rattle.std.proofs.Common.{◌≡◌, ◌≢◌, ◌∙◌, ◌⊎◌, ℕ, ◌+◌, ◌<◌, ◌≤◌, ◌==◌, if◌then◌else◌, Option, None, Some, List, [], ◌∷◌, ◌++◌, set, flat_map, length, refl, sym, ap, subst, inl, inr, ⊎_elim, arith, length-set, get_or-set_same, get_or-set_other}
use mathlib.Core.Option.{some}
use lib.ListN.{get_elem?}
use Rattle.bip_defs.specs.Lists.{Among}
use Rattle.bip_defs.specs.Occurrences.{times}
use Rattle.bip_defs.specs.WordValues.{held}
use Rattle.bip_defs.proofs.Occurrences.{one_else, one_here}
use Rattle.bip_defs.proofs.Sets.{number_same}
use Rattle.bip_defs.proofs.WordValues.{held_grows}
use Rattle.flip_words.specs.Accounts.{Sets, Settles, Takes, is_held}
use Rattle.flip_words.specs.Listed.{Listed, all_listed, followed_by, looked, nothing, put, took}
use Rattle.board_seats.proofs.Flat.{among_moved, flat_same, flat_snoc, from_last, times_more, times_moved, times_some}

-- The tree i, which no seat had taken, is taken by the seat x.
module _ (trees : ℕ) (now : List (Option ℕ)) (listed more : List (ℕ × ℕ)) (i x : ℕ) (a : Takes trees now listed) (lt : i < length now) (empty : held now i ≡ None)
    (count : (j : ℕ) → times j more ≡ times j listed + (if i == j then 1 else 0)) (from : (p : ℕ × ℕ) → Among p more → (p ≡ (i, x)) ⊎ Among p listed) where
  takes_once : (j : ℕ) → (i ≡ j) ⊎ (i ≢ j) → times j more ≡ is_held (held (set now i (Some x)) j)
  takes_once j (inl e) = subst (λ k. times k more ≡ is_held (held (set now i (Some x)) k)) e
      (let was : times i listed ≡ 0 = a.once i ∙ ap is_held empty in let is : is_held (held (set now i (Some x)) i) ≡ 1 = ap is_held (get_or-set_same now i (Some x) None lt) in omega (arith, count i, one_here i i refl, was, is))
  takes_once j (inr ne) =
      let same : is_held (held (set now i (Some x)) j) ≡ is_held (held now j) = ap is_held (get_or-set_other now i j (Some x) None (λ e. ne (sym e))) in
      let was = a.once j in
      omega (arith, count j, one_else i j ne, same, was)

  pub takes_more : Takes trees (set now i (Some x)) more
  takes_more = record {
    as_many = length-set now i (Some x) ∙ a.as_many;
    stands = λ j y h. ⊎_elim (λ (e : ◌≡◌ {A = ℕ × ℕ} (j, y) (i, x)). subst (λ (p : ℕ × ℕ). held (set now i (Some x)) p.0 ≡ Some p.1) (sym e) (get_or-set_same now i (Some x) None lt)) (λ t. held_grows now i x j y empty (a.stands j y t)) (from (j, y) h);
    once = λ j. takes_once j (number_same i j);
  }

-- The vertex i, which no seat had set, is set to the mate x.
module _ (opened now : List (Option ℕ)) (listed more : List (ℕ × ℕ)) (i x : ℕ) (a : Sets opened now listed) (lt : i < length now) (unset : times i listed ≡ 0)
    (count : (j : ℕ) → times j more ≡ times j listed + (if i == j then 1 else 0)) (from : (p : ℕ × ℕ) → Among p more → (p ≡ (i, x)) ⊎ Among p listed) where
  sets_stays : (j : ℕ) → times j more ≡ 0 → held (set now i (Some x)) j ≡ held opened j
  sets_stays j none = ⊎_elim (λ (e : i ≡ j). absurd (omega (arith, none, count j, one_here i j e))) (λ ne. get_or-set_other now i j (Some x) None (λ e. ne (sym e)) ∙ a.stays j (omega (arith, none, count j))) (number_same i j)

  sets_once : (j : ℕ) → (i ≡ j) ⊎ (i ≢ j) → times j more ≤ 1
  sets_once j (inl e) = let was = subst (λ k. times k listed ≡ 0) e unset in omega (arith, count j, one_here i j e, was)
  sets_once j (inr ne) = let was = a.once j in omega (arith, count j, one_else i j ne, was)

  -- an entry that is listed is of another vertex
  listed_other : (j y : ℕ) → Among (j, y) listed → j ≢ i
  listed_other j y h e = let some = times_some j y listed h in let none = subst (λ k. times k listed ≡ 0) (sym e) unset in omega (arith, some, none)

  pub sets_more : Sets opened (set now i (Some x)) more
  sets_more = record {
    as_many = length-set now i (Some x) ∙ a.as_many;
    stands = λ j y h. ⊎_elim (λ (e : ◌≡◌ {A = ℕ × ℕ} (j, y) (i, x)). subst (λ (p : ℕ × ℕ). held (set now i (Some x)) p.0 ≡ Some p.1) (sym e) (get_or-set_same now i (Some x) None lt)) (λ t. get_or-set_other now i j (Some x) None (listed_other j y t) ∙ a.stands j y t) (from (j, y) h);
    stays = sets_stays;
    once = λ j. sets_once j (number_same i j);
  }

-- The same entries in another order.

pub takes_moved : (trees : ℕ) (now : List (Option ℕ)) (listed moved : List (ℕ × ℕ)) → Takes trees now listed → ((i : ℕ) → times i moved ≡ times i listed) → ((p : ℕ × ℕ) → Among p moved → Among p listed) → Takes trees now moved
takes_moved trees now listed moved a count from = record { as_many = a.as_many; stands = λ i x h. a.stands i x (from (i, x) h); once = λ i. count i ∙ a.once i }

pub sets_moved : (opened now : List (Option ℕ)) (listed moved : List (ℕ × ℕ)) → Sets opened now listed → ((i : ℕ) → times i moved ≡ times i listed) → ((p : ℕ × ℕ) → Among p moved → Among p listed) → Sets opened now moved
sets_moved opened now listed moved a count from = record { as_many = a.as_many; stands = λ i x h. a.stands i x (from (i, x) h); stays = λ i e. a.stays i (sym (count i) ∙ e); once = λ i. subst (λ n. n ≤ 1) (sym (count i)) (a.once i) }

-- The lists of all seats, after each kind of step.

abbrev taken_of : Listed → List (ℕ × ℕ)
taken_of l = l.taken

abbrev seen_of : Listed → List (ℕ × ℕ)
seen_of l = l.seen

abbrev pub sets_of : Listed → List (ℕ × ℕ)
sets_of l = l.sets

module _ {trees : ℕ} {opened takers mates : List (Option ℕ)} (ls : List Listed) (a : Settles trees opened takers mates (all_listed ls)) where
  module _ (id : ℕ) (l : Listed) (at : get_elem? ls id ≡ some l) where
    pub settles_take : (root number : ℕ) → root < length takers → held takers root ≡ None → Settles trees opened (set takers root (Some number)) mates (all_listed (set ls id (took l root number None)))
    settles_take root number lt empty = record {
      takes = takes_more trees takers (flat_map taken_of ls) (flat_map taken_of (set ls id (took l root number None))) root number a.takes lt empty
          (times_more taken_of ls id l (took l root number None) root number at refl) (from_last taken_of ls id l (took l root number None) (root, number) at refl);
      seen = λ r n h. held_grows takers root number r n empty (a.seen r n (subst (Among (r, n)) (flat_same seen_of ls id l (took l root number None) at refl) h));
      sets = subst (Sets opened mates) (sym (flat_same sets_of ls id l (took l root number None) at refl)) a.sets;
    }

    pub settles_seen : (root number found : ℕ) → held takers root ≡ Some found → Settles trees opened takers mates (all_listed (set ls id (took l root number (Some found))))
    settles_seen root number found e = record {
      takes = subst (Takes trees takers) (sym (flat_same taken_of ls id l (took l root number (Some found)) at refl)) a.takes;
      seen = λ r n h. ⊎_elim (λ (s : ◌≡◌ {A = ℕ × ℕ} (r, n) (root, found)). subst (λ (p : ℕ × ℕ). held takers p.0 ≡ Some p.1) (sym s) e) (a.seen r n) (from_last seen_of ls id l (took l root number (Some found)) (root, found) at refl (r, n) h);
      sets = subst (Sets opened mates) (sym (flat_same sets_of ls id l (took l root number (Some found)) at refl)) a.sets;
    }

    pub settles_put : (v mate : ℕ) → v < length mates → times v (flat_map sets_of ls) ≡ 0 → Settles trees opened takers (set mates v (Some mate)) (all_listed (set ls id (put l v mate)))
    settles_put v mate lt unset = record {
      takes = subst (Takes trees takers) (sym (flat_same taken_of ls id l (put l v mate) at refl)) a.takes;
      seen = λ r n h. a.seen r n (subst (Among (r, n)) (flat_same seen_of ls id l (put l v mate) at refl) h);
      sets = sets_more opened mates (flat_map sets_of ls) (flat_map sets_of (set ls id (put l v mate))) v mate a.sets lt unset
          (times_more sets_of ls id l (put l v mate) v mate at refl) (from_last sets_of ls id l (put l v mate) (v, mate) at refl);
    }

    pub settles_look : (v : ℕ) (mate : Option ℕ) → Settles trees opened takers mates (all_listed (set ls id (looked l v mate)))
    settles_look v mate = record {
      takes = subst (Takes trees takers) (sym (flat_same taken_of ls id l (looked l v mate) at refl)) a.takes;
      seen = λ r n h. a.seen r n (subst (Among (r, n)) (flat_same seen_of ls id l (looked l v mate) at refl) h);
      sets = subst (Sets opened mates) (sym (flat_same sets_of ls id l (looked l v mate) at refl)) a.sets;
    }

    -- the lists of one seat are put before those of another
    pub settles_join : (other : ℕ) (m : Listed) → other ≢ id → get_elem? (set ls id (followed_by m l)) other ≡ some m → Settles trees opened takers mates (all_listed (set (set ls id (followed_by m l)) other nothing))
    settles_join other m ne there = record {
      takes = takes_moved trees takers (flat_map taken_of ls) (flat_map taken_of (set (set ls id (followed_by m l)) other nothing)) a.takes
          (λ i. times_moved taken_of ls id other l m (followed_by m l) nothing i at there refl refl) (λ p. among_moved taken_of ls id other l m (followed_by m l) nothing p at ne there refl refl);
      seen = λ r n h. a.seen r n (among_moved seen_of ls id other l m (followed_by m l) nothing (r, n) at ne there refl refl h);
      sets = sets_moved opened mates (flat_map sets_of ls) (flat_map sets_of (set (set ls id (followed_by m l)) other nothing)) a.sets
          (λ i. times_moved sets_of ls id other l m (followed_by m l) nothing i at there refl refl) (λ p. among_moved sets_of ls id other l m (followed_by m l) nothing p at ne there refl refl);
    }

  -- a seat that lists nothing
  pub settles_new : Settles trees opened takers mates (all_listed (ls ++ nothing ∷ []))
  settles_new = record {
    takes = subst (Takes trees takers) (sym (flat_snoc taken_of ls nothing refl)) a.takes;
    seen = λ r n h. a.seen r n (subst (Among (r, n)) (flat_snoc seen_of ls nothing refl) h);
    sets = subst (Sets opened mates) (sym (flat_snoc sets_of ls nothing refl)) a.sets;
  }
