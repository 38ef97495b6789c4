-- Flips of all roots with a leaf that are not flipped.
use Rattle.std.proofs.Common.{◌≡◌, ◌∙◌, ℕ, ◌+◌, ◌<◌, ◌==◌, Bool, true, false, not, cond, List, [], ◌∷◌, ◌++◌, append-nil, filter, length, take, slice_index_or, refl, sym, ap, subst, inl, inr, ⊎_elim, true≢false, arith}
use Rattle.std.proofs.lemmas.List.{append_assoc, length-map, take-map, take_more}
use Rattle.std.proofs.lemmas.List.Elements.{filter-append}
use Rattle.std.specs.Set.{is_member}
use Rattle.bip_defs.specs.Lists.{Among, AreDistinct}
use Rattle.bip_defs.specs.Matrix.{Place}
use Rattle.bip_defs.proofs.Counts.{distinct_append}
use Rattle.bip_defs.proofs.Sets.{among_either, among_left, among_right, among_test, apart_from_front, few_distinct, filter_complete, filter_distinct, filter_sound, number_among, number_at}
use Rattle.forest_core.specs.Events.{Runs}
use Rattle.forest_core.specs.Exchanged.{flip_events, is_unflipped, unflipped}
use Rattle.forest_core.specs.Paths.{with_flipped}
use Rattle.forest_core.specs.Sound.{IsSound}
use Rattle.bip_defs.specs.Forest.{State, roots_of}
use Rattle.forest_core.proofs.Members.{is_not, map_last}

-- What the test for unflipped roots says.

unflipped_sound : (s : State) (x : ℕ) → is_unflipped s x ≡ true → ¬ Among x s.flipped
unflipped_sound s x e h = true≢false (sym e ∙ ap not ((among_test x s.flipped).1 h))

unflipped_complete : (s : State) (x : ℕ) → ¬ Among x s.flipped → is_unflipped s x ≡ true
unflipped_complete s x n = is_not (is_member ◌==◌ s.flipped x) (λ e. n ((among_test x s.flipped).0 e))

-- The roots that are flipped then.

pub all_flipped : (s : State) (x : ℕ) → Among x (roots_of s.leaves) → Among x (s.flipped ++ unflipped s)
all_flipped s x h = ⊎_elim (λ f. among_left x s.flipped (unflipped s) f) (λ n. among_right x s.flipped (unflipped s) (filter_complete (is_unflipped s) x (roots_of s.leaves) h (unflipped_complete s x n))) (number_among x s.flipped)

pub flipped_only : (s : State) → IsSound s → (x : ℕ) → Among x (s.flipped ++ unflipped s) → Among x (roots_of s.leaves)
flipped_only s k x h = ⊎_elim (k.flipped x) (λ g. (filter_sound (is_unflipped s) x (roots_of s.leaves) g).0) (among_either x s.flipped (unflipped s) h)

flipped_distinct : (s : State) → IsSound s → AreDistinct (s.flipped ++ unflipped s)
flipped_distinct s k = distinct_append s.flipped (unflipped s) k.flipped_differ (filter_distinct (is_unflipped s) (roots_of s.leaves) k.roots_differ) (λ x f h. unflipped_sound s x (filter_sound (is_unflipped s) x (roots_of s.leaves) h).1 f)

pub flipped_count : (s : State) → IsSound s → length (s.flipped ++ unflipped s) ≡ length s.leaves
flipped_count s k =
    let le = few_distinct (s.flipped ++ unflipped s) (roots_of s.leaves) (flipped_distinct s k) (flipped_only s k) in
    let ge = few_distinct (roots_of s.leaves) (s.flipped ++ unflipped s) k.roots_differ (all_flipped s) in
    omega (arith, le, ge, length-map s.leaves (λ (p : Place). p.0))

-- As events.

flips_run : (s : State) (xs : List ℕ) → AreDistinct xs → ((x : ℕ) → Among x xs → Among x (roots_of s.leaves)) → ((x : ℕ) → Among x xs → ¬ Among x s.flipped) → Runs s (flip_events xs) (with_flipped s (s.flipped ++ xs))
flips_run s [] d within new = ap (with_flipped s) (append-nil s.flipped)
flips_run s (x ∷ xs) d within new = (
  (within x (inl refl), new x (inl refl)),
  with_flipped s (s.flipped ++ x ∷ []),
  refl,
  subst (λ fs. Runs (with_flipped s (s.flipped ++ x ∷ [])) (flip_events xs) (with_flipped s fs)) (append_assoc s.flipped (x ∷ []) xs)
      (flips_run (with_flipped s (s.flipped ++ x ∷ [])) xs d.1 (λ y h. within y (inr h)) (λ y h g. ⊎_elim (new y (inr h)) (λ e. d.0 (⊎_elim (λ (f : y ≡ x). subst (λ z. Among z xs) f h) (λ n. absurd n) e)) (among_either y s.flipped (x ∷ []) g))),
)

pub all_flips_run : (s : State) → IsSound s → Runs s (flip_events (unflipped s)) (with_flipped s (s.flipped ++ unflipped s))
all_flips_run s k = flips_run s (unflipped s) (filter_distinct (is_unflipped s) (roots_of s.leaves) k.roots_differ) (λ x h. (filter_sound (is_unflipped s) x (roots_of s.leaves) h).0) (λ x h. unflipped_sound s x (filter_sound (is_unflipped s) x (roots_of s.leaves) h).1)

-- One leaf after the other.

-- the unflipped roots of the first leaves
abbrev pub unflipped_to : State → ℕ → List ℕ
unflipped_to s i = filter (is_unflipped s) (roots_of (take i s.leaves))

-- what is left of the test for one root
unflipped_more : (s : State) (i : ℕ) (p : Place) (b : Bool) → i < length s.leaves → p ≡ slice_index_or s.leaves i p → is_unflipped s p.0 ≡ b → unflipped_to s (i + 1) ≡ unflipped_to s i ++ cond b (p.0 ∷ []) []
unflipped_more s i p b lt at e =
    ap (filter (is_unflipped s)) (ap roots_of (take_more s.leaves i p lt ∙ ap (λ (q : Place). take i s.leaves ++ q ∷ []) (sym at)) ∙ map_last (λ (q : Place). q.0) (take i s.leaves) p)
    ∙ filter-append (is_unflipped s) (roots_of (take i s.leaves)) (p.0 ∷ [])
    ∙ ap (λ (c : Bool). unflipped_to s i ++ cond c (p.0 ∷ []) []) e

pub flips_next : (s t u : State) (i : ℕ) (p : Place) → t ≡ with_flipped s (s.flipped ++ unflipped_to s i) → i < length s.leaves → p ≡ slice_index_or s.leaves i p → ¬ Among p.0 t.flipped → u ≡ with_flipped t (t.flipped ++ p.0 ∷ []) → u ≡ with_flipped s (s.flipped ++ unflipped_to s (i + 1))
flips_next s t u i p e lt at new f =
    f ∙ ap (λ (v : State). with_flipped v (v.flipped ++ p.0 ∷ [])) e ∙ ap (with_flipped s) (append_assoc s.flipped (unflipped_to s i) (p.0 ∷ []) ∙ ap (λ (xs : List ℕ). s.flipped ++ xs) (sym (unflipped_more s i p true lt at (unflipped_complete s p.0 not_before))))
  where
    not_before : ¬ Among p.0 s.flipped
    not_before h = new (subst (λ (v : State). Among p.0 v.flipped) (sym e) (among_left p.0 s.flipped (unflipped_to s i) h))

pub passes_next : (s t u : State) (i : ℕ) (p : Place) → IsSound s → t ≡ with_flipped s (s.flipped ++ unflipped_to s i) → i < length s.leaves → p ≡ slice_index_or s.leaves i p → Among p.0 t.flipped → u ≡ t → u ≡ with_flipped s (s.flipped ++ unflipped_to s (i + 1))
passes_next s t u i p k e lt at there f =
    f ∙ e ∙ ap (λ (xs : List ℕ). with_flipped s (s.flipped ++ xs)) (sym (append-nil (unflipped_to s i)) ∙ sym (unflipped_more s i p false lt at (ap not ((among_test p.0 s.flipped).1 before))))
  where
    -- the root of this leaf is none of the leaves before it
    apart : ¬ Among p.0 (roots_of (take i s.leaves))
    apart h =
        let long = length-map s.leaves (λ (q : Place). q.0) in
        apart_from_front i 0 (roots_of s.leaves) (omega (arith, lt, long)) k.roots_differ
        (subst (λ y. Among y (take i (roots_of s.leaves))) (sym (number_at (λ (q : Place). q.0) s.leaves i p at lt)) (subst (Among p.0) (sym (take-map (λ (q : Place). q.0) i s.leaves)) h))

    before : Among p.0 s.flipped
    before = ⊎_elim (λ h. h) (λ h. absurd (apart (filter_sound (is_unflipped s) p.0 (roots_of (take i s.leaves)) h).0)) (among_either p.0 s.flipped (unflipped_to s i) (subst (λ (v : State). Among p.0 v.flipped) e there))
