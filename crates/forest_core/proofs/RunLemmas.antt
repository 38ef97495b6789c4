-- Forests that grow, and what legal events lead to.
use Rattle.std.proofs.Common.{◌≡◌, ◌∙◌, ℕ, ◌<◌, List, [], ◌∷◌, ◌++◌, refl, sym, ap, subst, inl, inr, ⊎_elim}
use Rattle.bip_defs.specs.Forest.{InForest, RootOf, State, grown_by, roots_of}
use Rattle.bip_defs.specs.Lists.{Among}
use Rattle.bip_defs.specs.Matching.{Covers, cols_of, rows_of}
use Rattle.bip_defs.specs.Matrix.{IsEntry, Matrix, Place, cols}
use Rattle.bip_defs.proofs.Covers.{covers_more}
use Rattle.bip_defs.proofs.Sets.{among_left, col_among, col_pair, number_among, one_col, row_among, row_pair}
use Rattle.sp_ids.specs.Events.{claim_events, claims_then_wins, win_events}
use Rattle.std.proofs.lemmas.List.{append_assoc, append-nil}
use Rattle.sp_ids.specs.declared.events.Event.{Event}
use Rattle.sp_ids.specs.declared.events.Event.TheVariants.{Claim, Win, Flip, Graft, Rebuild, Done}
use Rattle.forest_core.specs.Current.{IsCurrent, OnPath, leaf, up}
use Rattle.forest_core.specs.Events.{AreClaimsAndWins, Becomes, Grows, IsLegal, LeadsTo, Runs}
use Rattle.forest_core.specs.Sound.{IsSound}
use Rattle.forest_core.proofs.Roots.{path_root, root_more}
use Rattle.forest_core.proofs.Soundness.{event_sound, run_last, run_matrix}

-- Runs one after the other.

pub leads_here : (s : State) → LeadsTo s s
leads_here s = ([], refl)

-- one event more
pub leads_event : (s t u : State) (e : Event) → LeadsTo s t → IsLegal t e → Becomes t e u → LeadsTo s u
leads_event s t u e (es, h) l k = (es ++ e ∷ [], run_last s t u es e h l k)

pub runs_on : (s t u : State) (es ds : List Event) → Runs s es t → Runs t ds u → Runs s (es ++ ds) u
runs_on s t u [] ds h g = subst (λ (v : State). Runs v ds u) h g
runs_on s t u (e ∷ es) ds (l, v, k, rest) g = (l, v, k, runs_on v t u es ds rest g)

pub runs_split : (s u : State) (es ds : List Event) → Runs s (es ++ ds) u → (t : State) × Runs s es t × Runs t ds u
runs_split s u [] ds h = (s, refl, h)
runs_split s u (e ∷ es) ds (l, v, k, rest) = let (t, prefix, suffix) = runs_split v u es ds rest in (t, (l, v, k, prefix), suffix)

pub leads_on : (s t u : State) → LeadsTo s t → LeadsTo t u → LeadsTo s u
leads_on s t u (es, h) (ds, g) = (es ++ ds, runs_on s t u es ds h g)

pub leads_matrix : (s t : State) → LeadsTo s t → t.matrix ≡ s.matrix
leads_matrix s t (es, h) = run_matrix s t es h

-- What stays matched.

covers_same : (m n : List Place) → n ≡ m → Covers m n
covers_same m n e = record { rows = λ r h. subst (λ (ps : List Place). Among r (rows_of ps)) (sym e) h; cols = λ c h. subst (λ (ps : List Place). Among c (cols_of ps)) (sym e) h }

-- a row on an exchanged path goes to the column that claimed it, and its base mate to the next row
-- of the path
pub current_covers : (s : State) (now : List Place) → IsSound s → IsCurrent s now → Covers s.base now
current_covers s now k cur = record {
  rows = λ r h. ⊎_elim (λ g. g) (λ gone. absurd (row r h gone)) (number_among r (rows_of now));
  cols = λ c h. ⊎_elim (λ g. g) (λ gone. absurd (col c h gone)) (number_among c (cols_of now));
}
  where
    row : (r : ℕ) → Among r (rows_of s.base) → ¬ ¬ Among r (rows_of now)
    row r h gone =
        let (c, m) = row_pair r s.base h in
        gone (row_among r c now ((cur.pairs (r, c)).1 (inr (m, λ (x, f, w). let (d, g, v) = path_root s k w in gone (row_among r d now ((cur.pairs (r, d)).1 (inl (g, (x, f, w)))))))))

    next : (x c : ℕ) {r : ℕ} → Among x s.flipped → Among (r, c) s.base → OnPath s.base s.claims s.leaves x r → Among c (cols_of now)
    next x c {r = r} f m (leaf h) = absurd ((k.leaves x r h).leaf_unmatched (row_among r c s.base m))
    next x c {r = r} f m (up q d w g n) = let e : d ≡ c = one_col s.base k.base.rows_differ r d c n m in subst (λ z. Among z (cols_of now)) e (col_among q d now ((cur.pairs (q, d)).1 (inl (g, (x, f, w)))))

    col : (c : ℕ) → Among c (cols_of s.base) → ¬ ¬ Among c (cols_of now)
    col c h gone =
        let (r, m) = col_pair c s.base h in
        gone (col_among r c now ((cur.pairs (r, c)).1 (inr (m, λ (x, f, w). gone (next x c f m w)))))

event_covers : (s t : State) (e : Event) → IsSound s → Becomes s e t → Covers s.base t.base
event_covers s t (Claim r c) k h = covers_same s.base t.base (ap (λ (u : State). u.base) h)
event_covers s t (Win x r) k h = covers_same s.base t.base (ap (λ (u : State). u.base) h)
event_covers s t (Flip x) k h = covers_same s.base t.base (ap (λ (u : State). u.base) h)
event_covers s t Graft k (n, kept) = current_covers s t.base k n.base
event_covers s t Rebuild k (n, gone) = current_covers s t.base k n.base
event_covers s t Done k h = covers_same s.base t.base (ap (λ (u : State). u.base) h)

run_covers : (s t : State) (es : List Event) → IsSound s → Runs s es t → Covers s.base t.base
run_covers s t [] k h = covers_same s.base t.base (ap (λ (u : State). u.base) h)
run_covers s t (e ∷ es) k (l, u, h, rest) = covers_more (event_covers s u e k h) (run_covers u t es (event_sound s u e k l h) rest)

pub leads_covers : (s t : State) → IsSound s → LeadsTo s t → Covers s.base t.base
leads_covers s t k (es, h) = run_covers s t es k h

-- Growth.

grown : (s t : State) → LeadsTo s t → t.matrix ≡ s.matrix → t.base ≡ s.base → t.flipped ≡ s.flipped → ((p : Place) → Among p s.claims → Among p t.claims) → ((p : Place) → Among p s.leaves → Among p t.leaves) → Grows s t
grown s t legal matrix base flipped claims leaves = record {
  legal = legal;
  matrix = matrix;
  base = base;
  flipped = flipped;
  claims = claims;
  leaves = leaves;
  inside = λ c i. inside c i;
  root = λ x c w. root x c w;
  row_won = λ r (x, (d, h, w), l). (x, (d, claims (r, d) h, root x d w), roots x l);
  won = λ c (x, w, l). (x, root x c w, roots x l);
  used_up = λ c all r e. rows r (all r (subst (λ (a : Matrix). IsEntry a r c) matrix e));
}
  where
    rows : (r : ℕ) → Among r (rows_of s.claims) → Among r (rows_of t.claims)
    rows r h = let (c, i) = row_pair r s.claims h in row_among r c t.claims (claims (r, c) i)

    roots : (x : ℕ) → Among x (roots_of s.leaves) → Among x (roots_of t.leaves)
    roots x h = let (r, i) = row_pair x s.leaves h in row_among x r t.leaves (leaves (x, r) i)

    root : (x c : ℕ) → RootOf s.base s.claims x c → RootOf t.base t.claims x c
    root x c w = subst (λ (m : List Place). RootOf m t.claims x c) (sym base) (root_more s.base s.claims t.claims claims w)

    inside : (c : ℕ) → InForest s c → InForest t c
    inside c (lt, i) = (
      subst (λ (a : Matrix). c < cols a) (sym matrix) lt,
      ⊎_elim (λ free. inl (subst (λ (m : List Place). ¬ Among c (cols_of m)) (sym base) free)) (λ (r, m, h). inr (r, subst (λ (ps : List Place). Among {X = Place} (r, c) ps) (sym base) m, rows r h)) i,
    )

pub grows_here : (s : State) → Grows s s
grows_here s = grown s s (leads_here s) refl refl refl (λ p h. h) (λ p h. h)

pub grows_on : (s t u : State) → Grows s t → Grows t u → Grows s u
grows_on s t u g h = grown s u (leads_on s t u g.legal h.legal) (h.matrix ∙ g.matrix) (h.base ∙ g.base) (h.flipped ∙ g.flipped) (λ p i. h.claims p (g.claims p i)) (λ p i. h.leaves p (g.leaves p i))

pub claim_grows : (s t : State) (r c : ℕ) → IsLegal s (Claim r c) → Becomes s (Claim r c) t → Grows s t
claim_grows s t r c l e = grown s t (leads_event s s t (Claim r c) (leads_here s) l e) (ap (λ (u : State). u.matrix) e) (ap (λ (u : State). u.base) e) (ap (λ (u : State). u.flipped) e) (λ p h. subst (λ (u : State). Among p u.claims) (sym e) (among_left p s.claims ((r, c) ∷ []) h)) (λ p h. subst (λ (u : State). Among p u.leaves) (sym e) h)

pub win_grows : (s t : State) (x r : ℕ) → IsLegal s (Win x r) → Becomes s (Win x r) t → Grows s t
win_grows s t x r l e = grown s t (leads_event s s t (Win x r) (leads_here s) l e) (ap (λ (u : State). u.matrix) e) (ap (λ (u : State). u.base) e) (ap (λ (u : State). u.flipped) e) (λ p h. subst (λ (u : State). Among p u.claims) (sym e) h) (λ p h. subst (λ (u : State). Among p u.leaves) (sym e) (among_left p s.leaves ((x, r) ∷ []) h))

-- by the lists that they leave

pub claim_grows_at : (s u : State) (r c : ℕ) (claims : List Place) → s ≡ u → claims ≡ s.claims ++ (r, c) ∷ [] → IsLegal u (Claim r c) → Grows u (record { matrix = s.matrix; base = s.base; claims = claims; leaves = s.leaves; flipped = s.flipped })
claim_grows_at s u r c claims e f l = claim_grows u (record { matrix = s.matrix; base = s.base; claims = claims; leaves = s.leaves; flipped = s.flipped }) r c l (ap (λ (ps : List Place). record s { claims = ps }) f ∙ ap (λ (v : State). record v { claims = v.claims ++ (r, c) ∷ [] }) e)

pub win_grows_at : (s u : State) (x r : ℕ) (leaves : List Place) → s ≡ u → leaves ≡ s.leaves ++ (x, r) ∷ [] → IsLegal u (Win x r) → Grows u (record { matrix = s.matrix; base = s.base; claims = s.claims; leaves = leaves; flipped = s.flipped })
win_grows_at s u x r leaves e f l = win_grows u (record { matrix = s.matrix; base = s.base; claims = s.claims; leaves = leaves; flipped = s.flipped }) x r l (ap (λ (ps : List Place). record s { leaves = ps }) f ∙ ap (λ (v : State). record v { leaves = v.leaves ++ (x, r) ∷ [] }) e)

pub run_grows : (s t : State) (es : List Event) → AreClaimsAndWins es → Runs s es t → Grows s t
run_grows s t [] a h = subst (Grows s) (sym h) (grows_here s)
run_grows s t (Claim r c ∷ es) a (l, u, h, rest) = grows_on s u t (claim_grows s u r c l h) (run_grows u t es a rest)
run_grows s t (Win x r ∷ es) a (l, u, h, rest) = grows_on s u t (win_grows s u x r l h) (run_grows u t es a rest)
run_grows s t (Flip x ∷ es) a h = absurd a
run_grows s t (Graft ∷ es) a h = absurd a
run_grows s t (Rebuild ∷ es) a h = absurd a
run_grows s t (Done ∷ es) a h = absurd a

wins_grow : (wins : List (ℕ × ℕ)) → AreClaimsAndWins (win_events wins)
wins_grow [] = tt
wins_grow (p ∷ wins) = wins_grow wins

pub claims_then_wins_grow : (claims wins : List (ℕ × ℕ)) → AreClaimsAndWins (claims_then_wins claims wins)
claims_then_wins_grow [] wins = wins_grow wins
claims_then_wins_grow (p ∷ claims) wins = claims_then_wins_grow claims wins

-- The lists that claims and wins leave.

nothing_added : (s t : State) → t ≡ s → t ≡ grown_by s [] []
nothing_added s t e = e ∙ ap (λ (ps : List Place). record s { claims = ps }) (sym (append-nil s.claims)) ∙ ap (λ (ls : List (ℕ × ℕ)). record s { claims = s.claims ++ []; leaves = ls }) (sym (append-nil s.leaves))

pub claims_stand : (s t : State) (ps : List Place) → Runs s (claim_events ps) t → t ≡ grown_by s ps []
claims_stand s t [] h = nothing_added s t h
claims_stand s t (p ∷ ps) (l, u, e, rest) =
    claims_stand u t ps rest
    ∙ ap (λ (v : State). grown_by v ps []) e
    ∙ ap (λ (qs : List Place). record s { claims = qs; leaves = s.leaves ++ [] }) (append_assoc s.claims (p ∷ []) ps)

pub wins_stand : (s t : State) (ps : List (ℕ × ℕ)) → Runs s (win_events ps) t → t ≡ grown_by s [] ps
wins_stand s t [] h = nothing_added s t h
wins_stand s t (p ∷ ps) (l, u, e, rest) =
    wins_stand u t ps rest
    ∙ ap (λ (v : State). grown_by v [] ps) e
    ∙ ap (λ (ls : List (ℕ × ℕ)). record s { claims = s.claims ++ []; leaves = ls }) (append_assoc s.leaves (p ∷ []) ps)
