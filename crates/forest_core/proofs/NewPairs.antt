-- New claims and then new wins are legal in whatever order they stand.
use Rattle.std.proofs.Common.{◌≡◌, ◌⊎◌, ℕ, List, [], ◌∷◌, ◌++◌, refl, ap, subst, inl, inr, ⊎_elim}
use Rattle.bip_defs.specs.Lists.{Among, AreNew, numbers_of}
use Rattle.bip_defs.specs.Matching.{cols_of, rows_of}
use Rattle.bip_defs.specs.Matrix.{IsEntry, Place}
use Rattle.std.proofs.lemmas.List.{append_assoc}
use Rattle.forest_core.specs.Events.{Becomes, Grows, IsLegal, Runs}
use Rattle.bip_defs.specs.Forest.{InForest, IsRootOfRow, State, grown_by}
use Rattle.sp_ids.specs.declared.events.Event.{Event}
use Rattle.sp_ids.specs.declared.events.Event.TheVariants.{Claim}
use Rattle.sp_ids.specs.Events.{claim_events, claims_then_wins, win_events}

-- the rest of new pairs is new beside the first of them
pub rest_new : (old : List (ℕ × ℕ)) (p : ℕ × ℕ) (ps : List (ℕ × ℕ)) → AreNew old (p ∷ ps) → AreNew (old ++ p ∷ []) ps
rest_new old p ps n = record {
  differ = n.differ.1;
  apart = λ i h k. ⊎_elim (λ m. n.apart i (inr h) m) (λ (e : i ≡ p.0). n.differ.0 (subst (λ j. Among j (numbers_of ps)) e h)) (last i old k);
}
  where
    last : (i : ℕ) (xs : List (ℕ × ℕ)) → Among i (numbers_of (xs ++ p ∷ [])) → Among i (numbers_of xs) ⊎ (i ≡ p.0)
    last i [] (inl e) = inr e
    last i [] (inr h) = absurd h
    last i (x ∷ xs) (inl e) = inl (inl e)
    last i (x ∷ xs) (inr h) = ⊎_elim (λ m. inl (inr m)) (λ e. inr e) (last i xs h)

-- what the forest is, by its lists
abbrev pub of_lists : State → List Place → List (ℕ × ℕ) → State
of_lists s claims leaves = record { matrix = s.matrix; base = s.base; claims = claims; leaves = leaves; flipped = s.flipped }

pub claims_run : ((s t : State) (r c : ℕ) → IsLegal s (Claim r c) → Becomes s (Claim r c) t → Grows s t)
    → (s : State) (ps : List Place) → AreNew s.claims ps → ((r c : ℕ) → Among (r, c) ps → IsEntry s.matrix r c × InForest s c)
    → Runs s (claim_events ps) (of_lists s (s.claims ++ ps) s.leaves)
claims_run grows s [] n ok = ap (λ (ps : List Place). of_lists s ps s.leaves) (append_nil s.claims)
  where
    append_nil : (xs : List Place) → xs ++ [] ≡ xs
    append_nil [] = refl
    append_nil (x ∷ xs) = ap (λ (ys : List Place). x ∷ ys) (append_nil xs)
claims_run grows s ((r, c) ∷ ps) n ok =
    let legal : IsLegal s (Claim r c) = (n.apart r (inl refl), (ok r c (inl refl)).0, (ok r c (inl refl)).1) in
    let u : State = of_lists s (s.claims ++ (r, c) ∷ []) s.leaves in
    let rest : Runs u (claim_events ps) (of_lists s ((s.claims ++ (r, c) ∷ []) ++ ps) s.leaves) = claims_run grows u ps (rest_new s.claims (r, c) ps n) (λ q d h. let (e, i) = ok q d (inr h) in (e, (grows s u r c legal refl).inside d i)) in
    (legal, u, refl, subst (λ (all : List Place). Runs u (claim_events ps) (of_lists s all s.leaves)) (append_assoc s.claims ((r, c) ∷ []) ps) rest)

pub wins_run : (s : State) (ps : List (ℕ × ℕ)) → AreNew s.leaves ps
    → ((x r : ℕ) → Among (x, r) ps → (¬ Among x (cols_of s.base)) × (¬ Among r (rows_of s.base)) × IsRootOfRow s.base s.claims x r)
    → Runs s (win_events ps) (of_lists s s.claims (s.leaves ++ ps))
wins_run s [] n ok = ap (λ (ps : List (ℕ × ℕ)). of_lists s s.claims ps) (append_nil s.leaves)
  where
    append_nil : (xs : List (ℕ × ℕ)) → xs ++ [] ≡ xs
    append_nil [] = refl
    append_nil (x ∷ xs) = ap (λ (ys : List (ℕ × ℕ)). x ∷ ys) (append_nil xs)
wins_run s ((x, r) ∷ ps) n ok =
    let (free, leaf, tree) = ok x r (inl refl) in
    let u : State = of_lists s s.claims (s.leaves ++ (x, r) ∷ []) in
    let rest : Runs u (win_events ps) (of_lists s s.claims ((s.leaves ++ (x, r) ∷ []) ++ ps)) = wins_run u ps (rest_new s.leaves (x, r) ps n) (λ y q h. ok y q (inr h)) in
    ((free, n.apart x (inl refl), leaf, tree), u, refl, subst (λ (all : List (ℕ × ℕ)). Runs u (win_events ps) (of_lists s s.claims all)) (append_assoc s.leaves ((x, r) ∷ []) ps) rest)

pub pairs_run : ((s t : State) (r c : ℕ) → IsLegal s (Claim r c) → Becomes s (Claim r c) t → Grows s t)
    → ((s t u : State) (es ds : List Event) → Runs s es t → Runs t ds u → Runs s (es ++ ds) u)
    → (s : State) (claims : List Place) (wins : List (ℕ × ℕ)) → AreNew s.claims claims
    → ((r c : ℕ) → Among (r, c) claims → IsEntry s.matrix r c × InForest s c) → AreNew s.leaves wins
    → ((x r : ℕ) → Among (x, r) wins → (¬ Among x (cols_of s.base)) × (¬ Among r (rows_of s.base)) × IsRootOfRow s.base (s.claims ++ claims) x r)
    → Runs s (claims_then_wins claims wins) (grown_by s claims wins)
pairs_run grows join s claims wins n ok m won =
    let t : State = of_lists s (s.claims ++ claims) s.leaves in
    join s t (grown_by s claims wins) (claim_events claims) (win_events wins) (claims_run grows s claims n ok) (wins_run t wins m won)
