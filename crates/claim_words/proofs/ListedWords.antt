-- What a list that accounts for words tells of them.
use Rattle.std.proofs.Common.{◌≡◌, ◌≢◌, ◌∙◌, ◌⊎◌, ℕ, zero, suc, ◌<◌, ◌≤◌, Option, None, Some, List, [], ◌∷◌, map, flat_map, length, refl, sym, ap, subst, inl, inr, ⊎_elim, arith, eq-eqb, ne_eqb}
use Rattle.std.proofs.lemmas.Option.{none-some, same_Some}
use Rattle.bip_defs.specs.Lists.{Among, AreDistinct}
use Rattle.bip_defs.specs.Matrix.{upto}
use Rattle.bip_defs.specs.Occurrences.{times}
use Rattle.bip_defs.specs.WordValues.{held, is_added}
use Rattle.bip_defs.proofs.Occurrences.{one_else, one_here}
use Rattle.bip_defs.proofs.Sets.{among_left, among_right, number_same, few_distinct, upto_complete, upto_length, among_map_back}
use Rattle.bip_defs.proofs.WordValues.{added_few}
use Rattle.claim_words.specs.Accounts.{Accounts, first_listed, listed_word, value_or}
use Rattle.claim_words.specs.Board.{Board, Words}
use Rattle.claim_words.specs.Listed.{Listed, root_word, row_word}
use Rattle.claim_words.specs.Seat.{KnowsRoot, KnowsRow, Seat, lists_of}
use Rattle.claim_words.specs.Settles.{Settles, SettlesAll}
use Rattle.std.proofs.lemmas.List.{length-map}

-- How often a word is listed.

pub times_some : (i : ℕ) (xs : List (ℕ × ℕ)) → 1 ≤ times i xs → (x : ℕ) × Among (i, x) xs
times_some i [] le = absurd (omega arith)
times_some i ((j, x) ∷ xs) le = ⊎_elim (λ (e : j ≡ i). (x, inl (λ k. (sym e k, x)))) (λ ne. let (y, h) = times_some i xs (let no = one_else j i ne in omega (arith, le, no)) in (y, inr h)) (number_same j i)

pub times_listed : (i x : ℕ) (xs : List (ℕ × ℕ)) → Among (i, x) xs → 1 ≤ times i xs
times_listed i x [] h = absurd h
times_listed i x ((j, y) ∷ xs) (inl e) = let here = one_here j i (sym (ap (λ (p : ℕ × ℕ). p.0) e)) in omega (arith, here)
times_listed i x ((j, y) ∷ xs) (inr h) = let rest = times_listed i x xs h in omega (arith, rest)

word_listed : (i : ℕ) (xs : List (ℕ × ℕ)) → Among i (map (λ (p : ℕ × ℕ). p.0) xs) → 1 ≤ times i xs
word_listed i [] h = absurd h
word_listed i ((j, y) ∷ xs) (inl e) = let here = one_here j i (sym e) in omega (arith, here)
word_listed i ((j, y) ∷ xs) (inr h) = let rest = word_listed i xs h in omega (arith, rest)

pub times_distinct : (xs : List (ℕ × ℕ)) → ((i : ℕ) → times i xs ≤ 1) → AreDistinct (map (λ (p : ℕ × ℕ). p.0) xs)
times_distinct [] few = tt
times_distinct ((j, y) ∷ xs) few = (
  (λ h. let rest = word_listed j xs h in let here = one_here j j refl in let all = few j in absurd (omega (arith, rest, here, all))),
  times_distinct xs (λ i. let all = few i in omega (arith, all)),
)

pub times_once : (i : ℕ) (xs : List (ℕ × ℕ)) → AreDistinct (map (λ (p : ℕ × ℕ). p.0) xs) → times i xs ≤ 1
times_once i [] apart = omega arith
times_once i ((j, y) ∷ xs) (new, apart) = ⊎_elim
    (λ (e : j ≡ i). let here = one_here j i e in let none = no_times xs (subst (λ k. ¬ Among k (map (λ (p : ℕ × ℕ). p.0) xs)) e new) in omega (arith, here, none))
    (λ ne. let no = one_else j i ne in let rest = times_once i xs apart in omega (arith, no, rest)) (number_same j i)
  where
    no_times : (ys : List (ℕ × ℕ)) → ¬ Among i (map (λ (p : ℕ × ℕ). p.0) ys) → times i ys ≡ 0
    no_times [] none = refl
    no_times ((k, z) ∷ ys) none = let no = one_else k i (λ e. none (inl (sym e))) in let rest = no_times ys (λ h. none (inr h)) in omega (arith, no, rest)

-- Words and their lists.

pub listed_apart : (opened now : List (Option ℕ)) (listed : List (ℕ × ℕ)) → Accounts opened now listed → AreDistinct (map (λ (p : ℕ × ℕ). p.0) listed)
listed_apart opened now listed a = times_distinct listed (λ i. let e = a.once i in let few = added_few (held opened i) (held now i) in omega (arith, e, few))

-- what is listed was opened empty
pub listed_opened : (opened now : List (Option ℕ)) (listed : List (ℕ × ℕ)) (i x : ℕ) → Accounts opened now listed → Among (i, x) listed → held opened i ≡ None
listed_opened opened now listed i x a h = by (held opened i) refl
  where
    by : (o : Option ℕ) → held opened i ≡ o → o ≡ None
    by None e = refl
    by (Some y) e = let some = times_listed i x listed h in let none : times i listed ≡ 0 = a.once i ∙ ap (λ o. is_added o (held now i)) e in absurd (omega (arith, some, none))

-- a value that a word holds was there at first, or is listed
pub held_from : (opened now : List (Option ℕ)) (listed : List (ℕ × ℕ)) (i x : ℕ) → Accounts opened now listed → held now i ≡ Some x → (held opened i ≡ Some x) ⊎ Among (i, x) listed
held_from opened now listed i x a holds = by (held opened i) refl
  where
    by : (o : Option ℕ) → held opened i ≡ o → (o ≡ Some x) ⊎ Among (i, x) listed
    by None e =
        let some : times i listed ≡ 1 = a.once i ∙ subst (λ o. is_added o (held now i) ≡ 1) (sym e) (subst (λ n. is_added None n ≡ 1) (sym holds) refl) in
        let (y, h) = times_some i listed (omega (arith, some)) in
        inr (subst (λ z. Among (i, z) listed) (same_Some _ _ (sym (a.stands i y h) ∙ holds)) h)
    by (Some y) e = inl (sym (a.stays i y e) ∙ holds)

first_here : (i j y : ℕ) (xs : List (ℕ × ℕ)) → j ≡ i → first_listed i ((j, y) ∷ xs) ≡ Some y
first_here i j y xs e = rw (eq-eqb j i e) refl

first_else : (i j y : ℕ) (xs : List (ℕ × ℕ)) → j ≢ i → first_listed i ((j, y) ∷ xs) ≡ first_listed i xs
first_else i j y xs ne = rw (ne_eqb j i ne) refl

first_is : (i : ℕ) (xs : List (ℕ × ℕ)) (o : Option ℕ) → ((x : ℕ) → Among (i, x) xs → o ≡ Some x) → (1 ≤ times i xs) ⊎ (o ≡ None) → o ≡ first_listed i xs
first_is i [] o same some = ⊎_elim (λ le. absurd (omega arith)) (λ e. e) some
first_is i ((j, y) ∷ xs) o same some = ⊎_elim
    (λ (e : j ≡ i). same y (inl (λ k. (sym e k, y))) ∙ sym (first_here i j y xs e))
    (λ (ne : j ≢ i). first_is i xs o (λ x h. same x (inr h)) (⊎_elim (λ le. inl (let no = one_else j i ne in omega (arith, le, no))) inr some) ∙ sym (first_else i j y xs ne)) (number_same j i)

-- a word is what its list tells
pub word_is_listed : (opened now : List (Option ℕ)) (listed : List (ℕ × ℕ)) (i : ℕ) → Accounts opened now listed → held now i ≡ listed_word opened listed i
word_is_listed opened now listed i a = by (held opened i) refl
  where
    some : (o n : Option ℕ) → held opened i ≡ o → held now i ≡ n → o ≡ None → (1 ≤ times i listed) ⊎ (held now i ≡ None)
    some o None e f none = inr f
    some o (Some x) e f none = inl (let one : times i listed ≡ 1 = a.once i ∙ subst (λ p. is_added p (held now i) ≡ 1) (sym (e ∙ none)) (subst (λ n. is_added None n ≡ 1) (sym f) refl) in omega (arith, one))

    by : (o : Option ℕ) → held opened i ≡ o → held now i ≡ value_or o (first_listed i listed)
    by None e = first_is i listed (held now i) (λ x h. a.stands i x h) (some None (held now i) e refl refl)
    by (Some y) e = a.stays i y e

pub same_lists : (opened now : List (Option ℕ)) (listed other : List (ℕ × ℕ)) (i : ℕ) → Accounts opened now listed → Accounts opened now other → listed_word opened listed i ≡ listed_word opened other i
same_lists opened now listed other i a b = sym (word_is_listed opened now listed i a) ∙ word_is_listed opened now other i b

same_held : (xs ys : List (Option ℕ)) → length xs ≡ length ys → ((i : ℕ) → held xs i ≡ held ys i) → xs ≡ ys
same_held [] [] long same = refl
same_held [] (y ∷ ys) long same = absurd (omega (arith, long))
same_held (x ∷ xs) [] long same = absurd (omega (arith, long))
same_held (x ∷ xs) (y ∷ ys) long same = λ k. same 0 k ∷ same_held xs ys (omega (arith, long)) (λ i. same (suc i)) k

pub same_words : (opened now other : List (Option ℕ)) (listed : List (ℕ × ℕ)) → Accounts opened now listed → Accounts opened other listed → now ≡ other
same_words opened now other listed a b = same_held now other (a.as_many ∙ sym b.as_many) (λ i. word_is_listed opened now listed i a ∙ sym (word_is_listed opened other listed i b))

-- no more words are listed than there are

held_below : (xs : List (Option ℕ)) (i x : ℕ) → held xs i ≡ Some x → i < length xs
held_below [] i x e = absurd (none-some _ e)
held_below (y ∷ xs) zero x e = omega arith
held_below (y ∷ xs) (suc i) x e = let rest = held_below xs i x e in omega (arith, rest)

pub listed_few : (opened now : List (Option ℕ)) (listed : List (ℕ × ℕ)) → Accounts opened now listed → length listed ≤ length opened
listed_few opened now listed a =
    let few = few_distinct (map (λ (p : ℕ × ℕ). p.0) listed) (upto (length opened)) (listed_apart opened now listed a) inside in
    omega (arith, few, length-map listed (λ (p : ℕ × ℕ). p.0), upto_length 0 (length opened))
  where
    inside : (i : ℕ) → Among i (map (λ (p : ℕ × ℕ). p.0) listed) → Among i (upto (length opened))
    inside i h = let (p, k, e) = among_map_back (λ (p : ℕ × ℕ). p.0) i listed h in
        let below = held_below now p.0 p.1 (a.stands p.0 p.1 k) in
        upto_complete 0 (length opened) i (omega arith) (let many = a.as_many in omega (arith, below, many, e))

-- What a seat knows.

flat_among : {X : Type 0} (g : Listed → List X) (ss : List Seat) (s : Seat) (x : X) → Among s ss → Among x (g s.listed) → Among x (flat_map g (lists_of ss))
flat_among g [] s x h k = absurd h
flat_among g (t ∷ ss) s x (inl e) k = among_left x (g t.listed) (flat_map g (lists_of ss)) (subst (λ (u : Seat). Among x (g u.listed)) e k)
flat_among g (t ∷ ss) s x (inr h) k = among_right x (g t.listed) (flat_map g (lists_of ss)) (flat_among g ss s x h k)

pub row_known : (b : Board) (words : Words) (ss : List Seat) (s : Seat) (row col : ℕ) → SettlesAll b words ss → Among s ss → s.board ≡ b → KnowsRow s row col → held words.rows row ≡ Some col
row_known b words ss s row col a h same knows = ⊎_elim
    (λ (e : held s.board.rows row ≡ Some col). a.claims.stays row col (subst (λ (d : Board). held d.rows row ≡ Some col) same e))
    (λ t. ⊎_elim
    (λ (k : Among (row, col) s.listed.claims). a.claims.stands row col (flat_among (λ (l : Listed). l.claims) ss s (row, col) h k))
    (λ (k : Among (row_word row (Some col)) s.listed.seen). a.seen (row_word row (Some col)) (flat_among (λ (l : Listed). l.seen) ss s (row_word row (Some col)) h k)) t) knows

pub root_known : (b : Board) (words : Words) (ss : List Seat) (s : Seat) (root leaf : ℕ) → SettlesAll b words ss → Among s ss → s.board ≡ b → KnowsRoot s root leaf → held words.roots root ≡ Some leaf
root_known b words ss s root leaf a h same knows = ⊎_elim
    (λ (e : held s.board.roots root ≡ Some leaf). a.wins.stays root leaf (subst (λ (d : Board). held d.roots root ≡ Some leaf) same e))
    (λ t. ⊎_elim
    (λ (k : Among (root, leaf) s.listed.wins). a.wins.stands root leaf (flat_among (λ (l : Listed). l.wins) ss s (root, leaf) h k))
    (λ (k : Among (root_word root (Some leaf)) s.listed.seen). a.seen (root_word root (Some leaf)) (flat_among (λ (l : Listed). l.seen) ss s (root_word root (Some leaf)) h k)) t) knows

pub seen_col : (rows roots : List (Option ℕ)) (words : Words) (l : Listed) (row col : ℕ) → Settles rows roots words l → Among (row_word row (Some col)) l.seen → (held rows row ≡ Some col) ⊎ Among (row, col) l.claims
seen_col rows roots words l row col a h = held_from rows words.rows l.claims row col a.claims (a.seen (row_word row (Some col)) h)

pub seen_leaf : (rows roots : List (Option ℕ)) (words : Words) (l : Listed) (root leaf : ℕ) → Settles rows roots words l → Among (root_word root (Some leaf)) l.seen → (held roots root ≡ Some leaf) ⊎ Among (root, leaf) l.wins
seen_leaf rows roots words l root leaf a h = held_from roots words.roots l.wins root leaf a.wins (a.seen (root_word root (Some leaf)) h)
