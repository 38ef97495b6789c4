-- What workers list, step by step.
use Rattle.std.proofs.Common.{◌≡◌, ◌∙◌, ◌⊎◌, ◌↔◌, ℕ, ◌+◌, List, [], ◌∷◌, ◌++◌, flat_map, length, map, refl, sym, ap, subst, inl, inr, ⊎_elim, arith, append_assoc, append-nil}
use Rattle.std.proofs.lemmas.Grind.{flat_map-append}
use Rattle.std.proofs.lemmas.List.{length-map}
use Rattle.std.proofs.lemmas.List.Folds.{flat_map-map}
use Rattle.bip_defs.specs.Lists.{Among}
use Rattle.bip_defs.specs.Occurrences.{times}
use Rattle.bip_defs.proofs.Occurrences.{times_append}
use Rattle.bip_defs.proofs.Sets.{among_either, among_left, among_right}
use Rattle.claim_words.specs.Board.{Board}
use Rattle.claim_words.specs.Listed.{Listed, Sight, followed_by, nothing}
use Rattle.claim_words.specs.Seat.{AreNumbered, Seat, lists_of, with_listed}
use Rattle.claim_words.specs.WorkerState.{AreAllWorkers, HasGrown, HaveGrown, WorkerState, fresh_claims_of, fresh_lists, fresh_wins_of, seated, seats_of, settled, with_more}

-- Steps.

-- a worker with other lists
abbrev listing : WorkerState → List (ℕ × ℕ) → List (ℕ × ℕ) → List Sight → List (ℕ × ℕ) → List (ℕ × ℕ) → WorkerState
listing w claims wins seen fresh_claims fresh_wins = record { seat = with_listed w.seat (record { claims = claims; wins = wins; seen = seen }); fresh_claims = fresh_claims; fresh_wins = fresh_wins }

pub more_none : (w : WorkerState) → with_more w nothing ≡ w
more_none w = λ i. listing w (append-nil w.seat.listed.claims i) (append-nil w.seat.listed.wins i) (append-nil w.seat.listed.seen i) (append-nil w.fresh_claims i) (append-nil w.fresh_wins i)

pub more_both : (w : WorkerState) (l m : Listed) → with_more (with_more w l) m ≡ with_more w (followed_by l m)
more_both w l m = λ i. listing w (append_assoc w.seat.listed.claims l.claims m.claims i) (append_assoc w.seat.listed.wins l.wins m.wins i) (append_assoc w.seat.listed.seen l.seen m.seen i) (append_assoc w.fresh_claims l.claims m.claims i) (append_assoc w.fresh_wins l.wins m.wins i)

-- Growth.

grows_on : (u v w : WorkerState) → HasGrown u v → HasGrown v w → HasGrown u w
grows_on u v w (l, e) (m, f) = (followed_by l m, f ∙ ap (λ (x : WorkerState). with_more x m) e ∙ more_both u l m)

pub grow_here : (ws : List WorkerState) → HaveGrown ws ws
grow_here [] = tt
grow_here (w ∷ ws) = ((nothing, sym (more_none w)), grow_here ws)

pub grow_on : (us vs ws : List WorkerState) → HaveGrown us vs → HaveGrown vs ws → HaveGrown us ws
grow_on [] [] ws g h = h
grow_on [] (v ∷ vs) ws g h = absurd g
grow_on (u ∷ us) [] ws g h = absurd g
grow_on (u ∷ us) (v ∷ vs) [] g h = absurd h
grow_on (u ∷ us) (v ∷ vs) (w ∷ ws) (first, g) (then, h) = (grows_on u v w first then, grow_on us vs ws g h)

pub grow_both : (vs ws xs ys : List WorkerState) → HaveGrown vs ws → HaveGrown xs ys → HaveGrown (vs ++ xs) (ws ++ ys)
grow_both [] [] xs ys g h = h
grow_both [] (w ∷ ws) xs ys g h = absurd g
grow_both (v ∷ vs) [] xs ys g h = absurd g
grow_both (v ∷ vs) (w ∷ ws) xs ys (first, g) h = (first, grow_both vs ws xs ys g h)

pub grow_many : (vs ws : List WorkerState) → HaveGrown vs ws → length ws ≡ length vs
grow_many [] [] g = refl
grow_many [] (w ∷ ws) g = absurd g
grow_many (v ∷ vs) [] g = absurd g
grow_many (v ∷ vs) (w ∷ ws) (first, g) = let rest = grow_many vs ws g in omega (arith, rest)

grow_numbered : (b : Board) (n : ℕ) (vs ws : List WorkerState) → HaveGrown vs ws → AreNumbered b n (seats_of vs) → AreNumbered b n (seats_of ws)
grow_numbered b n [] [] g all = tt
grow_numbered b n [] (w ∷ ws) g all = absurd g
grow_numbered b n (v ∷ vs) [] g all = absurd g
grow_numbered b n (v ∷ vs) (w ∷ ws) ((l, e), g) (board, number, all) = (ap (λ (x : WorkerState). x.seat.board) e ∙ board, ap (λ (x : WorkerState). x.seat.number) e ∙ number, grow_numbered b (1 + n) vs ws g all)

pub grow_all : (b : Board) (vs ws : List WorkerState) → HaveGrown vs ws → AreAllWorkers b vs → AreAllWorkers b ws
grow_all b [] ws g all = absurd all
grow_all b (v ∷ vs) [] g all = absurd g
grow_all b (v ∷ vs) (w ∷ ws) ((l, e), g) (board, number, seats, all) = (
  ap (λ (x : WorkerState). x.seat.board) e ∙ board,
  ap (λ (x : WorkerState). x.seat.number) e ∙ number,
  ap (λ (x : WorkerState). x.seat.seats) e ∙ seats ∙ ap (λ n. 1 + n) (length-map vs (λ (x : WorkerState). x.seat) ∙ sym (grow_many vs ws g) ∙ sym (length-map ws (λ (x : WorkerState). x.seat))),
  grow_numbered b 1 vs ws g all,
)

-- One kind of list, of all seats and of all workers: what is added to the one is added to the other.

module _ (list : Listed → List (ℕ × ℕ)) (fresh : WorkerState → List (ℕ × ℕ))
    (lists : (l m : Listed) → list (followed_by l m) ≡ list l ++ list m) (adds : (w : WorkerState) (l : Listed) → fresh (with_more w l) ≡ fresh w ++ list l) where
  abbrev listed_by : List WorkerState → List (ℕ × ℕ)
  listed_by ws = flat_map list (lists_of (seats_of ws))

  own_list : (v w : WorkerState) (l : Listed) → w ≡ with_more v l → list w.seat.listed ≡ list v.seat.listed ++ list l
  own_list v w l e = ap (λ (x : WorkerState). list x.seat.listed) e ∙ lists v.seat.listed l

  own_fresh : (v w : WorkerState) (l : Listed) → w ≡ with_more v l → fresh w ≡ fresh v ++ list l
  own_fresh v w l e = ap fresh e ∙ adds v l

  pub times_grow : (vs ws : List WorkerState) (i : ℕ) → HaveGrown vs ws → times i (listed_by ws) + times i (flat_map fresh vs) ≡ times i (listed_by vs) + times i (flat_map fresh ws)
  times_grow [] [] i g = refl
  times_grow [] (w ∷ ws) i g = absurd g
  times_grow (v ∷ vs) [] i g = absurd g
  times_grow (v ∷ vs) (w ∷ ws) i ((l, e), g) =
      let rest = times_grow vs ws i g in
      let own = ap (times i) (own_list v w l e) ∙ times_append i (list v.seat.listed) (list l) in
      let new = ap (times i) (own_fresh v w l e) ∙ times_append i (fresh v) (list l) in
      let after = times_append i (list w.seat.listed) (listed_by ws) in
      let before = times_append i (list v.seat.listed) (listed_by vs) in
      let fresh_after = times_append i (fresh w) (flat_map fresh ws) in
      let fresh_before = times_append i (fresh v) (flat_map fresh vs) in
      omega (arith, rest, own, new, after, before, fresh_after, fresh_before)

  had : (vs ws : List WorkerState) (p : ℕ × ℕ) → HaveGrown vs ws → Among p (listed_by vs) → Among p (listed_by ws)
  had [] [] p g h = h
  had [] (w ∷ ws) p g h = absurd g
  had (v ∷ vs) [] p g h = absurd g
  had (v ∷ vs) (w ∷ ws) p ((l, e), g) h = ⊎_elim
      (λ k. among_left p (list w.seat.listed) (listed_by ws) (subst (Among p) (sym (own_list v w l e)) (among_left p (list v.seat.listed) (list l) k)))
      (λ k. among_right p (list w.seat.listed) (listed_by ws) (had vs ws p g k))
      (among_either p (list v.seat.listed) (listed_by vs) h)

  new : (vs ws : List WorkerState) (p : ℕ × ℕ) → HaveGrown vs ws → Among p (flat_map fresh ws) → Among p (flat_map fresh vs) ⊎ Among p (listed_by ws)
  new [] [] p g h = absurd h
  new [] (w ∷ ws) p g h = absurd g
  new (v ∷ vs) [] p g h = absurd g
  new (v ∷ vs) (w ∷ ws) p ((l, e), g) h = ⊎_elim
      (λ k. ⊎_elim
      (λ (t : Among p (fresh v)). inl (among_left p (fresh v) (flat_map fresh vs) t))
      (λ (t : Among p (list l)). inr (among_left p (list w.seat.listed) (listed_by ws) (subst (Among p) (sym (own_list v w l e)) (among_right p (list v.seat.listed) (list l) t))))
      (among_either p (fresh v) (list l) (subst (Among p) (own_fresh v w l e) k)))
      (λ k. ⊎_elim
      (λ (t : Among p (flat_map fresh vs)). inl (among_right p (fresh v) (flat_map fresh vs) t))
      (λ (t : Among p (listed_by ws)). inr (among_right p (list w.seat.listed) (listed_by ws) t))
      (new vs ws p g k))
      (among_either p (fresh w) (flat_map fresh ws) h)

  from : (vs ws : List WorkerState) (p : ℕ × ℕ) → HaveGrown vs ws → Among p (listed_by ws) → Among p (listed_by vs) ⊎ Among p (flat_map fresh ws)
  from [] [] p g h = absurd h
  from [] (w ∷ ws) p g h = absurd g
  from (v ∷ vs) [] p g h = absurd g
  from (v ∷ vs) (w ∷ ws) p ((l, e), g) h = ⊎_elim
      (λ k. ⊎_elim
      (λ (t : Among p (list v.seat.listed)). inl (among_left p (list v.seat.listed) (listed_by vs) t))
      (λ (t : Among p (list l)). inr (among_left p (fresh w) (flat_map fresh ws) (subst (Among p) (sym (own_fresh v w l e)) (among_right p (fresh v) (list l) t))))
      (among_either p (list v.seat.listed) (list l) (subst (Among p) (own_list v w l e) k)))
      (λ k. ⊎_elim
      (λ (t : Among p (listed_by vs)). inl (among_right p (list v.seat.listed) (listed_by vs) t))
      (λ (t : Among p (flat_map fresh ws)). inr (among_right p (fresh w) (flat_map fresh ws) t))
      (from vs ws p g k))
      (among_either p (list w.seat.listed) (listed_by ws) h)

  pub listed_grow : (vs ws : List WorkerState) (p : ℕ × ℕ) → HaveGrown vs ws → flat_map fresh vs ≡ [] → Among p (listed_by ws) ↔ (Among p (listed_by vs) ⊎ Among p (flat_map fresh ws))
  listed_grow vs ws p g none = (from vs ws p g, ⊎_elim (had vs ws p g) (λ k. ⊎_elim (λ (t : Among p (flat_map fresh vs)). absurd (subst (Among p) none t)) (λ t. t) (new vs ws p g k)))

-- Fresh lists.

pub claims_join : (vs ws : List WorkerState) → fresh_claims_of (vs ++ ws) ≡ fresh_claims_of vs ++ fresh_claims_of ws
claims_join vs ws = flat_map-append (λ (w : WorkerState). w.fresh_claims) vs ws

pub wins_join : (vs ws : List WorkerState) → fresh_wins_of (vs ++ ws) ≡ fresh_wins_of vs ++ fresh_wins_of ws
wins_join vs ws = flat_map-append (λ (w : WorkerState). w.fresh_wins) vs ws

abbrev two_lists : WorkerState → List (ℕ × ℕ) × List (ℕ × ℕ)
two_lists w = (w.fresh_claims, w.fresh_wins)

abbrev claims_in : List (ℕ × ℕ) × List (ℕ × ℕ) → List (ℕ × ℕ)
claims_in p = p.0

abbrev wins_in : List (ℕ × ℕ) × List (ℕ × ℕ) → List (ℕ × ℕ)
wins_in p = p.1

pub claims_same : (vs ws : List WorkerState) → fresh_lists vs ≡ fresh_lists ws → fresh_claims_of vs ≡ fresh_claims_of ws
claims_same vs ws e = sym (flat_map-map claims_in two_lists vs) ∙ ap (flat_map claims_in) e ∙ flat_map-map claims_in two_lists ws

pub wins_same : (vs ws : List WorkerState) → fresh_lists vs ≡ fresh_lists ws → fresh_wins_of vs ≡ fresh_wins_of ws
wins_same vs ws e = sym (flat_map-map wins_in two_lists vs) ∙ ap (flat_map wins_in) e ∙ flat_map-map wins_in two_lists ws

-- Seats that stay.

pub seated_seats : (ss : List Seat) → seats_of (map seated ss) ≡ ss
seated_seats [] = refl
seated_seats (s ∷ ss) = ap (λ (ts : List Seat). s ∷ ts) (seated_seats ss)

pub settled_seats : (ws : List WorkerState) → seats_of (map settled ws) ≡ seats_of ws
settled_seats [] = refl
settled_seats (w ∷ ws) = ap (λ (ts : List Seat). w.seat ∷ ts) (settled_seats ws)

pub seated_claims : (ss : List Seat) → fresh_claims_of (map seated ss) ≡ []
seated_claims [] = refl
seated_claims (s ∷ ss) = seated_claims ss

pub seated_wins : (ss : List Seat) → fresh_wins_of (map seated ss) ≡ []
seated_wins [] = refl
seated_wins (s ∷ ss) = seated_wins ss

pub settled_claims : (ws : List WorkerState) → fresh_claims_of (map settled ws) ≡ []
settled_claims [] = refl
settled_claims (w ∷ ws) = settled_claims ws

pub settled_wins : (ws : List WorkerState) → fresh_wins_of (map settled ws) ≡ []
settled_wins [] = refl
settled_wins (w ∷ ws) = settled_wins ws
