-- Runs of events, part by part, and workers that are settled one after the other.
use Rattle.std.proofs.Common.{◌≡◌, ◌∙◌, ℕ, ◌+◌, ◌<◌, ◌≤◌, List, [], ◌∷◌, ◌++◌, flat_map, get_or, length, map, set, take, drop, sym, ap, ap₂, subst, arith, append_assoc, append-nil, length-set}
use Rattle.std.proofs.lemmas.Grind.{drop_more_same, flat_map-append}
use Rattle.std.proofs.lemmas.List.{drop-set-lt, drop_more, map-append, take-append-drop, take_all, take_more, take_more_set}
use Rattle.bip_defs.specs.Forest.{State, grown_by}
use Rattle.claim_words.specs.WorkerState.{WorkerState, fresh_claims_of, fresh_wins_of}
use Rattle.forest_core.specs.Events.{Becomes, Grows, IsLegal, Runs}
use Rattle.level_sharing.specs.Growth.{fresh_events, grown}
use Rattle.sp_ids.specs.Events.{claim_events, claims_then_wins, win_events}
use Rattle.sp_ids.specs.declared.events.Event.{Event}
use Rattle.sp_ids.specs.declared.events.Event.TheVariants.{Claim, Win}

-- One kind of event, of which each adds a pair to one of the forest's lists.
module _ (event : ℕ × ℕ → Event) (add : State → List (ℕ × ℕ) → State)
    (none : (s : State) → add s [] ≡ s) (joins : (s : State) (ps qs : List (ℕ × ℕ)) → add (add s ps) qs ≡ add s (ps ++ qs))
    (adds : (s t : State) (p : ℕ × ℕ) → Becomes s (event p) t → t ≡ add s (p ∷ [])) where
  -- a run of the events of some pairs and then of other events
  pub split_at : (s t : State) (ps : List (ℕ × ℕ)) (ds : List Event) → Runs s (map event ps ++ ds) t → Runs s (map event ps) (add s ps) × Runs (add s ps) ds t
  split_at s t [] ds r = (none s, subst (λ (v : State). Runs v ds t) (sym (none s)) r)
  split_at s t (p ∷ ps) ds (legal, u, becomes, r) =
      let (prefix, suffix) = split_at u t ps ds r in
      let is : add u ps ≡ add s (p ∷ ps) = ap (λ (v : State). add v ps) (adds s u p becomes) ∙ joins s (p ∷ []) ps in
      ((legal, u, becomes, subst (Runs u (map event ps)) is prefix), subst (λ (v : State). Runs v ds t) is suffix)

  -- in a run each event is legal after those before it
  pub next_legal : (s t : State) (ps : List (ℕ × ℕ)) (i : ℕ) (p d : ℕ × ℕ) → Runs s (map event ps) t → i < length ps → p ≡ get_or ps i d → IsLegal (add s (take i ps)) (event p)
  next_legal s t ps i p d r lt is = (split_at s t (take i ps) (event p ∷ map event (drop (i + 1) ps)) (subst (λ es. Runs s es t) parts r)).1.0
    where
      pairs : ps ≡ take i ps ++ p ∷ drop (i + 1) ps
      pairs = sym (take-append-drop i ps) ∙ ap (λ qs. take i ps ++ qs) (drop_more ps i d lt ∙ ap (λ q. q ∷ drop (i + 1) ps) (sym is))

      parts : map event ps ≡ map event (take i ps) ++ event p ∷ map event (drop (i + 1) ps)
      parts = ap (map event) pairs ∙ map-append event (take i ps) (p ∷ drop (i + 1) ps)

  -- The pairs of several, one after the other.
  module _ {W : Type 0} (pairs : W → List (ℕ × ℕ)) where
    pub next_runs : (s t : State) (ws : List W) (i : ℕ) (w d : W) → Runs s (map event (flat_map pairs ws)) t → i < length ws → w ≡ get_or ws i d
        → Runs (add s (flat_map pairs (take i ws))) (map event (pairs w)) (add (add s (flat_map pairs (take i ws))) (pairs w))
    next_runs s t ws i w d r lt is =
        let (prefix, suffix) = split_at s t (flat_map pairs (take i ws)) (map event (pairs w) ++ map event (flat_map pairs (drop (i + 1) ws))) (subst (λ es. Runs s es t) parts r) in
        (split_at (add s (flat_map pairs (take i ws))) t (pairs w) (map event (flat_map pairs (drop (i + 1) ws))) suffix).0
      where
        rest : ws ≡ take i ws ++ w ∷ drop (i + 1) ws
        rest = sym (take-append-drop i ws) ∙ ap (λ vs. take i ws ++ vs) (drop_more ws i d lt ∙ ap (λ v. v ∷ drop (i + 1) ws) (sym is))

        parts : map event (flat_map pairs ws) ≡ map event (flat_map pairs (take i ws)) ++ (map event (pairs w) ++ map event (flat_map pairs (drop (i + 1) ws)))
        parts = ap (λ vs. map event (flat_map pairs vs)) rest ∙ ap (map event) (flat_map-append pairs (take i ws) (w ∷ drop (i + 1) ws)) ∙ map-append event (flat_map pairs (take i ws)) (pairs w ++ flat_map pairs (drop (i + 1) ws))
            ∙ ap (λ es. map event (flat_map pairs (take i ws)) ++ es) (map-append event (pairs w) (flat_map pairs (drop (i + 1) ws)))

-- Claims, and wins.

abbrev pub claim_event : ℕ × ℕ → Event
claim_event p = Claim p.0 p.1

abbrev pub win_event : ℕ × ℕ → Event
win_event p = Win p.0 p.1

abbrev pub with_claims : State → List (ℕ × ℕ) → State
with_claims s ps = record s { claims = s.claims ++ ps }

abbrev pub with_leaves : State → List (ℕ × ℕ) → State
with_leaves s ps = record s { leaves = s.leaves ++ ps }

pub no_claims : (s : State) → with_claims s [] ≡ s
no_claims s = λ i. record s { claims = append-nil s.claims i }

pub no_leaves : (s : State) → with_leaves s [] ≡ s
no_leaves s = λ i. record s { leaves = append-nil s.leaves i }

pub more_claims : (s : State) (ps qs : List (ℕ × ℕ)) → with_claims (with_claims s ps) qs ≡ with_claims s (ps ++ qs)
more_claims s ps qs = λ i. record s { claims = append_assoc s.claims ps qs i }

pub more_leaves : (s : State) (ps qs : List (ℕ × ℕ)) → with_leaves (with_leaves s ps) qs ≡ with_leaves s (ps ++ qs)
more_leaves s ps qs = λ i. record s { leaves = append_assoc s.leaves ps qs i }

pub by_claim : (s t : State) (p : ℕ × ℕ) → Becomes s (claim_event p) t → t ≡ with_claims s (p ∷ [])
by_claim s t p e = e

pub by_win : (s t : State) (p : ℕ × ℕ) → Becomes s (win_event p) t → t ≡ with_leaves s (p ∷ [])
by_win s t p e = e

-- a level's claims run, and then its wins
pub level_runs : (s : State) (claims wins : List (ℕ × ℕ)) → Runs s (claims_then_wins claims wins) (grown_by s claims wins)
    → Runs s (claim_events claims) (with_claims s claims) × Runs (with_claims s claims) (win_events wins) (grown_by s claims wins)
level_runs s claims wins r = split_at claim_event with_claims no_claims more_claims by_claim s (grown_by s claims wins) claims (win_events wins) r

-- A list whose elements are changed one after the other.

module _ {X : Type 0} (change : X → X) where
  -- the elements before the i-th are changed, and the others are not
  pub record IsChangedTo (i : ℕ) (was now : List X) : Type 0 where
    pub prefix : take i now ≡ map change (take i was)
    pub rest : drop i now ≡ drop i was
    pub long : length now ≡ length was

  heads_same : {x y : X} {xs ys : List X} → x ∷ xs ≡ y ∷ ys → x ≡ y
  heads_same e = cc

  pub changed_more : (i : ℕ) (was now : List X) (d y : X) → IsChangedTo i was now → i < length was → y ≡ change (get_or now i d) → IsChangedTo (i + 1) was (set now i y)
  changed_more i was now d y changed lt new =
      let below : i < length now = let long = changed.long in omega (arith, lt, long) in
      -- the next element is still as it was
      let same : get_or now i d ≡ get_or was i d = heads_same (sym (drop_more now i d below) ∙ changed.rest ∙ drop_more was i d lt) in
      record {
        prefix = take_more_set now i y below ∙ ap₂ (λ xs z. xs ++ z ∷ []) changed.prefix (new ∙ ap change same) ∙ sym (map-append change (take i was) (get_or was i d ∷ [])) ∙ ap (map change) (sym (take_more was i d lt));
        rest = drop-set-lt (i + 1) now i y (omega arith) ∙ drop_more_same now was i changed.rest;
        long = length-set now i y ∙ changed.long;
      }

  -- once all are changed
  pub changed_all : (i : ℕ) (was now : List X) → IsChangedTo i was now → length was ≤ i → now ≡ map change was
  changed_all i was now changed past =
      let ends : length now ≤ i = let long = changed.long in omega (arith, past, long) in
      sym (take_all i now ends) ∙ changed.prefix ∙ ap (map change) (take_all i was past)

-- the workers' fresh lists let the forest grow
pub level_grows : (s t : State) (ws : List WorkerState) → ((u v : State) (claims wins : List (ℕ × ℕ)) → Runs u (claims_then_wins claims wins) v → Grows u v) → Runs s (fresh_events ws) (grown s ws) → t ≡ grown s ws → Grows s t
level_grows s t ws grow runs made = subst (Grows s) (sym made) (grow s (grown s ws) (fresh_claims_of ws) (fresh_wins_of ws) runs)
