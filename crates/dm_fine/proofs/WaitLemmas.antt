-- Components that wait for one another: what holds after each step.
use Rattle.std.proofs.Common.{◌≡◌, ◌≢◌, ◌⊎◌, ◌∙◌, ℕ, zero, suc, ◌<◌, ◌≤◌, Bool, true, false, cond, if◌then◌else◌, List, [], ◌∷◌, length, nat_eq, get_or, refl, sym, ap, subst, inl, inr, ⊎_elim, arith, eqb-true, eq-eqb}
use Rattle.bip_defs.specs.Lists.{Among}
use Rattle.bip_defs.proofs.Sets.{among_at, number_among, number_same, place_among}
use Rattle.bip_graph.specs.Matching.{none}
use Rattle.dm_fine.specs.Layout.{IsLayout, Layout, LeadsTo}
use Rattle.dm_fine.specs.Waiting.{AreMarks}
use Rattle.dm_fine.specs.Waits.{Chain, IsPassed, IsQuiet, IsStop, line_of, next_of}
use Rattle.dm_fine.specs.declared.waits.Halt.{Halt}
use Rattle.dm_fine.specs.declared.waits.Wait.{Wait}
use Rattle.dm_fine.proofs.LookLemmas.{col_within}
use Rattle.id_groups.specs.Groups.{group}

-- Lists of which one changes.

abbrev pub put : (ℕ → List ℕ) → ℕ → List ℕ → ℕ → List ℕ
put lists v xs u = if nat_eq u v then xs else lists u

pub put_here : (lists : ℕ → List ℕ) (v : ℕ) (xs : List ℕ) (u : ℕ) → u ≡ v → put lists v xs u ≡ xs
put_here lists v xs u e = ap (λ b. cond b xs (lists u)) (eq-eqb u v e)

pub put_else : (lists : ℕ → List ℕ) (v : ℕ) (xs : List ℕ) (u : ℕ) → u ≢ v → put lists v xs u ≡ lists u
put_else lists v xs u ne = by (nat_eq u v) refl
  where
    by : (b : Bool) → nat_eq u v ≡ b → put lists v xs u ≡ lists u
    by true e = absurd (ne (eqb-true u v e))
    by false e = ap (λ b. cond b xs (lists u)) e

-- what stands in the list that changed, or in others
pub put_either : (lists : ℕ → List ℕ) (v : ℕ) (xs : List ℕ) (u j : ℕ) → Among j (put lists v xs u) → ((u ≡ v) × Among j xs) ⊎ ((u ≢ v) × Among j (lists u))
put_either lists v xs u j h = ⊎_elim
    (λ (e : u ≡ v). inl (e, subst (Among j) (put_here lists v xs u e) h))
    (λ (ne : u ≢ v). inr (ne, subst (Among j) (put_else lists v xs u ne) h))
    (number_same u v)

-- one more at the head
pub head_either : (lists : ℕ → List ℕ) (v x u j : ℕ) → Among j (put lists v (x ∷ lists v) u) → ((u ≡ v) × (j ≡ x)) ⊎ Among j (lists u)
head_either lists v x u j h = ⊎_elim (λ (p : (u ≡ v) × Among j (x ∷ lists v)). by p.0 p.1) (λ p. inr p.1) (put_either lists v (x ∷ lists v) u j h)
  where
    by : u ≡ v → Among j (x ∷ lists v) → ((u ≡ v) × (j ≡ x)) ⊎ Among j (lists u)
    by e (inl is) = inl (e, is)
    by e (inr g) = inr (subst (λ w. Among j (lists w)) (sym e) g)

pub head_more : (lists : ℕ → List ℕ) (v x u j : ℕ) → Among j (lists u) → Among j (put lists v (x ∷ lists v) u)
head_more lists v x u j h = ⊎_elim
    (λ (e : u ≡ v). subst (Among j) (sym (put_here lists v (x ∷ lists v) u e)) (inr (subst (λ w. Among j (lists w)) e h)))
    (λ (ne : u ≢ v). subst (Among j) (sym (put_else lists v (x ∷ lists v) u ne)) h)
    (number_same u v)

-- Chains.

pub chain_kept : (ws ws2 : List Wait) (p : ℕ) (xs : List ℕ) → Chain ws p xs → ((x : ℕ) → Among x xs → next_of ws2 x ≡ next_of ws x) → Chain ws2 p xs
chain_kept ws ws2 p [] c same = c
chain_kept ws ws2 p (x ∷ xs) c same = (c.0, subst (λ q. Chain ws2 q xs) (sym (same x (inl refl))) (chain_kept ws ws2 (next_of ws x) xs c.1 (λ y h. same y (inr h))))

-- how many stand in the list that begins with p, of n at most
abbrev pub walk : List Wait → ℕ → ℕ → ℕ
walk ws zero p = 0
walk ws (suc n) p = if nat_eq p none then 0 else suc (walk ws n (next_of ws p))

pub walk_is : (ws : List Wait) (n p : ℕ) (xs : List ℕ) → Chain ws p xs → ((x : ℕ) → Among x xs → x ≢ none) → length xs ≤ n → walk ws n p ≡ length xs
walk_is ws zero p [] c some le = refl
walk_is ws zero p (x ∷ xs) c some le = absurd (omega (arith, le))
walk_is ws (suc n) p [] c some le = ap (λ b. cond b 0 (suc (walk ws n (next_of ws p)))) (eq-eqb p none c)
walk_is ws (suc n) p (x ∷ xs) c some le = by (nat_eq p none) refl (walk_is ws n (next_of ws x) xs c.1 (λ y h. some y (inr h)) (omega (arith, le)))
  where
    by : (b : Bool) → nat_eq p none ≡ b → walk ws n (next_of ws x) ≡ length xs → cond b 0 (suc (walk ws n (next_of ws p))) ≡ suc (length xs)
    by true e rest = absurd (some x (inl refl) (sym c.0 ∙ eqb-true p none e))
    by false e rest = ap suc (ap (λ q. walk ws n (next_of ws q)) c.0 ∙ rest)

-- Looks.

pub passed_none : (t : Layout) (marks : List ℕ) (own : ℕ) → IsPassed t marks own 0 0
passed_none t marks own = record { before = λ k i lt it. absurd (omega (arith, lt)); here = λ i lt it. absurd (omega (arith, lt)) }

-- a look that came to its end
pub passed_all : (t : Layout) (marks : List ℕ) (own : ℕ) (stop : Halt) → IsStop t marks own stop → stop.on ≡ none → IsPassed t marks own (length (group t.cols own)) 0
passed_all t marks own stop s e = record { before = λ k i lt it. s.passed.before k i (let end = s.ends e in omega (arith, lt, end)) it; here = λ i lt it. absurd (omega (arith, lt)) }

-- where only numbers of rows were taken off
pub passed_kept : (t : Layout) (marks marks2 : List ℕ) (own k at : ℕ) → ((r : ℕ) → (get_or marks2 r 0 ≡ none) ⊎ (get_or marks2 r 0 ≡ get_or marks r 0)) → IsPassed t marks own k at → IsPassed t marks2 own k at
passed_kept t marks marks2 own k at off p = record { before = λ j i lt it. over (get_or (line_of t own j) i 0) (p.before j i lt it); here = λ i lt it. over (get_or (line_of t own k) i 0) (p.here i lt it) }
  where
    over : (r : ℕ) → IsQuiet marks own r → IsQuiet marks2 own r
    over r q = ⊎_elim (λ (gone : get_or marks2 r 0 ≡ none). inr gone) (λ same. ⊎_elim (λ (e : get_or marks r 0 ≡ own). inl (same ∙ e)) (λ e. inr (same ∙ e)) q) (off r)

-- a component whose entries are all passed leads to placed ones alone
pub free_of : (t : Layout) (placed marks : List ℕ) (j : ℕ) → IsLayout t → AreMarks t placed marks → j < length t.cols → IsPassed t marks j (length (group t.cols j)) 0 → (p : ℕ) → p < length t.cols → LeadsTo t j p → Among p placed
free_of t placed marks j h m lt passed p pt to = ⊎_elim (λ g. g) (λ (left : ¬ Among p placed).
    let is = m.complete p to.row pt to.in_row left in
    let (k, kt, at) = place_among to.col 0 (group t.cols j) to.in_col in
    let on = (h.listed.entries to.row to.col (h.by_col.below j to.col lt to.in_col)).0 to.entry in
    let (i, it, here) = place_among to.row 0 (line_of t j k) (subst (λ c. Among to.row (t.line c)) (sym at) on) in
    let quiet = subst (IsQuiet marks j) here (passed.before k i kt it) in
    let few = h.few in
    absurd (⊎_elim (λ (own : get_or marks to.row 0 ≡ j). to.other (sym own ∙ is)) (λ none_is. omega (arith, none_is, is, pt, few)) quiet)) (number_among p placed)

-- a component leads to the one at which it stopped, which is not placed
pub record StopsOn (t : Layout) (placed : List ℕ) (own v : ℕ) : Type 0 where
  pub in_range : v < length t.cols
  pub left : ¬ Among v placed
  pub leads : LeadsTo t own v

pub stops_on : (t : Layout) (placed marks : List ℕ) (own : ℕ) (stop : Halt) → IsLayout t → AreMarks t placed marks → own < length t.cols → IsStop t marks own stop → stop.on ≢ none → StopsOn t placed own stop.on
stops_on t placed marks own stop h m lt s some =
    let (kt, it) = s.within some in
    let (other, is) = s.other some in
    let col = col_within t own stop.col h lt kt in
    let entry = (h.listed.entries (get_or (line_of t own stop.col) stop.at 0) (get_or (group t.cols own) stop.col 0) col).1 (among_at (line_of t own stop.col) stop.at 0 it) in
    let (range, on, left) = m.sound (get_or (line_of t own stop.col) stop.at 0) entry.0 (λ e. some (sym is ∙ e)) in
    record {
      in_range = omega (arith, range, is);
      left = subst (λ v. ¬ Among v placed) is left;
      leads = record {
        other = λ e. other (sym e);
        row = get_or (line_of t own stop.col) stop.at 0;
        col = get_or (group t.cols own) stop.col 0;
        in_col = among_at (group t.cols own) stop.col 0 kt;
        in_row = subst (λ v. Among (get_or (line_of t own stop.col) stop.at 0) (group t.rows v)) is on;
        entry = entry;
      };
    }
