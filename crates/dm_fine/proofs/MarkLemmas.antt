-- Numbers of rows that are taken off, and the rows that have them at first.
use Rattle.std.proofs.Common.{◌≡◌, ◌⊎◌, ◌∙◌, ℕ, ◌+◌, ◌<◌, List, [], ◌∷◌, length, get_or, set, take, sym, ap, subst, inl, inr, ⊎_elim, get_or-set_same, get_or-set_other}
use Rattle.std.proofs.lemmas.List.{take_more}
use Rattle.bip_defs.specs.Lists.{Among}
use Rattle.bip_defs.proofs.Sets.{among_last, among_left, among_right, number_same}
use Rattle.bip_graph.specs.Matching.{none}

-- the items up to the next one
pub taken_either : (xs : List ℕ) (i d x r : ℕ) → i < length xs → x ≡ get_or xs i d → Among r (take (i + 1) xs) → Among r (take i xs) ⊎ (r ≡ x)
taken_either xs i d x r lt is h = ⊎_elim (λ g. inl g) (λ (e : r ≡ get_or xs i d). inr (e ∙ sym is)) (among_last r (get_or xs i d) (take i xs) (subst (Among r) (take_more xs i d lt) h))

pub taken_more : (xs : List ℕ) (i d x r : ℕ) → i < length xs → x ≡ get_or xs i d → Among r (take i xs) ⊎ (r ≡ x) → Among r (take (i + 1) xs)
taken_more xs i d x r lt is h = subst (Among r) (sym (take_more xs i d lt)) (⊎_elim (λ g. among_left r (take i xs) (get_or xs i d ∷ []) g) (λ (e : r ≡ x). among_right r (take i xs) (get_or xs i d ∷ []) (inl (e ∙ is))) h)

-- one row more has no number
pub gone_more : (xs marks : List ℕ) (i d x r : ℕ) → i < length xs → x ≡ get_or xs i d → x < length marks → ((y : ℕ) → Among y (take i xs) → get_or marks y 0 ≡ none) → Among r (take (i + 1) xs) → get_or (set marks x none) r 0 ≡ none
gone_more xs marks i d x r lt is inside gone h = ⊎_elim
    (λ (e : r ≡ x). ap (λ z. get_or (set marks x none) z 0) e ∙ get_or-set_same marks x none 0 inside)
    (λ ne. get_or-set_other marks x r none 0 ne ∙ gone r (⊎_elim (λ g. g) (λ e. absurd (ne e)) (taken_either xs i d x r lt is h)))
    (number_same r x)

pub others_more : (xs old marks : List ℕ) (i d x r : ℕ) → i < length xs → x ≡ get_or xs i d → ((y : ℕ) → ¬ Among y (take i xs) → get_or marks y 0 ≡ get_or old y 0) → ¬ Among r (take (i + 1) xs) → get_or (set marks x none) r 0 ≡ get_or old r 0
others_more xs old marks i d x r lt is same h =
    get_or-set_other marks x r none 0 (λ e. h (taken_more xs i d x r lt is (inr e))) ∙ same r (λ g. h (taken_more xs i d x r lt is (inl g)))
