-- What the loop of a search keeps.
use Rattle.std.proofs.Common.{◌≡◌, ◌∙◌, ℕ, suc, ◌+◌, ◌<◌, ◌≤◌, ◌^◌, List, [], ◌∷◌, ◌++◌, length, take, get_or, refl, sym, ap, subst, inl, ⊎_elim, arith, length-append}
use Rattle.std.proofs.lemmas.List.{get_or_append_left, get_or_push}
use Rattle.bip_defs.specs.Lists.{Among, IsRising, numbers_of}
use Rattle.bip_defs.specs.Matrix.{Matrix, Place}
use Rattle.bip_defs.specs.Parts.{IsSquareRow}
use Rattle.bip_defs.proofs.Sets.{among_at, among_last, among_left, among_right}
use Rattle.square_components.specs.Found.{col_in}
use Rattle.square_components.specs.Numbers.{look}
use Rattle.square_components.specs.Stacks.{IsDepthFirst, PathState, work}
use Rattle.square_components.specs.Steps.{GoesBack, HasRoom, Leaves, Passes, StopsAt, entering, finishes, goes_back, merging, with_top}
use Rattle.square_components.proofs.Changes.{number_of_pair, numbers_more, rising_end}
use Rattle.square_components.proofs.GraphLemmas.{inside_or, mate_square}
use Rattle.square_components.proofs.SearchLemmas.{graph_of, has_room, passes, top_in, top_inside, top_rows}

-- no more entries of a row that waits were gone over than it has
abbrev pub Waits : (ℕ → List ℕ) → List Place → PathState → Type 0
Waits line pairs s = (i k : ℕ) → Among (i, k) s.frames → k ≤ length (line (col_in pairs (get_or s.stack i 0)))

pub waits_first : (line : ℕ → List ℕ) (pairs : List Place) (s : PathState) → s.frames ≡ [] → Waits line pairs s
waits_first line pairs s e i k h = absurd (subst (λ fs. Among (i, k) fs) e h)

pub entered_top : (s t : PathState) (d p : ℕ) → t ≡ entering s d → p ≡ length s.stack → get_or t.stack p 0 ≡ d
entered_top s t d p h e = subst (λ (x : PathState). get_or x.stack p 0 ≡ d) (sym h) (subst (λ n. get_or (s.stack ++ d ∷ []) n 0 ≡ d) (sym e) (get_or_push s.stack d 0 (length s.stack) refl))

-- the search after entries were passed
pub scanned : (a : Matrix) (line : ℕ → List ℕ) (pairs : List Place) (s t : PathState) (p l at : ℕ) (list : List ℕ) → IsDepthFirst a line pairs (with_top s p l) → list ≡ line (col_in pairs (get_or s.stack p 0)) → t ≡ merging s t.starts → Passes s.state list l s.starts at t.starts → IsDepthFirst a line pairs (with_top t p at)
scanned a line pairs s t p l at list k e same ps = subst (λ (x : PathState). IsDepthFirst a line pairs (with_top x p at)) (sym same) (passes a line pairs s p l at t.starts k (subst (λ xs. Passes s.state xs l s.starts at t.starts) e ps))

pub list_after : (line : ℕ → List ℕ) (pairs : List Place) (s t : PathState) (p : ℕ) (list : List ℕ) → list ≡ line (col_in pairs (get_or s.stack p 0)) → t ≡ merging s t.starts → list ≡ line (col_in pairs (get_or t.stack p 0))
list_after line pairs s t p list e same = e ∙ ap (λ (x : PathState). line (col_in pairs (get_or x.stack p 0))) (sym same)

pub waits_after : (line : ℕ → List ℕ) (pairs : List Place) (s t : PathState) → Waits line pairs s → t ≡ merging s t.starts → Waits line pairs t
waits_after line pairs s t w same = subst (Waits line pairs) (sym same) w

pub top_few : (a : Matrix) (line : ℕ → List ℕ) (pairs : List Place) (s : PathState) (p l : ℕ) (list : List ℕ) → IsDepthFirst a line pairs (with_top s p l) → list ≡ line (col_in pairs (get_or s.stack p 0)) → length list < 2 ^ 32
top_few a line pairs s p l list k e = subst (λ xs. length xs < 2 ^ 32) (sym e) (k.graph.listed.few (col_in pairs (get_or s.stack p 0)) (mate_square (graph_of k) (get_or s.stack p 0) k.graph (top_inside a line pairs s p l k)).0)

-- the row that the next entry leads to
pub next_in : (a : Matrix) (line : ℕ → List ℕ) (pairs : List Place) (s : PathState) (p at d : ℕ) (list : List ℕ) → IsDepthFirst a line pairs (with_top s p at) → list ≡ line (col_in pairs (get_or s.stack p 0)) → at < length list → d ≡ get_or list at 0 → d < length s.state
next_in a line pairs s p at d list k e lt is = top_rows a line pairs s p at d k (subst (Among d) e (subst (λ x. Among x list) (sym is) (among_at list at 0 lt)))

pub next_fresh : (s t : PathState) (at d : ℕ) (list : List ℕ) → t ≡ merging s t.starts → StopsAt s.state list at → at < length list → d ≡ get_or list at 0 → look t.state d ≡ 0
next_fresh s t at d list same stops lt is = subst (λ (x : PathState). look x.state d ≡ 0) (sym same) (subst (λ x. look s.state x ≡ 0) (sym is) (stops.fresh lt))

pub fresh_inside : (a : Matrix) (line : ℕ → List ℕ) (pairs : List Place) (s : PathState) (d : ℕ) → IsDepthFirst a line pairs s → look s.state d ≡ 0 → IsSquareRow a d
fresh_inside a line pairs s d k fresh = ⊎_elim (λ h. h) (λ o. absurd (let z = k.state.outside d o in omega (arith, z, fresh))) (inside_or (graph_of k) d k.graph)

pub room_next : (a : Matrix) (line : ℕ → List ℕ) (pairs : List Place) (s : PathState) (p l m d : ℕ) → IsDepthFirst a line pairs (with_top s p l) → d < length s.state → look s.state d ≡ 0 → HasRoom (with_top s p m)
room_next a line pairs s p l m d k lt fresh = let r = has_room a line pairs (with_top s p l) d k lt fresh in record { few = r.few; stack = r.stack; starts = r.starts }

pub waits_next : (a : Matrix) (line : ℕ → List ℕ) (pairs : List Place) (s : PathState) (p l d : ℕ) → IsDepthFirst a line pairs (with_top s p l) → Waits line pairs s → l < length (line (col_in pairs (get_or s.stack p 0))) → Waits line pairs (entering (with_top s p (l + 1)) d)
waits_next a line pairs s p l d k w lt i x h = ⊎_elim
    (λ y. longer i x (k.state.todo_in i (number_of_pair (s.frames ++ (p, l) ∷ []) i x (among_left (i, x) s.frames ((p, l) ∷ []) y))) (w i x y))
    (λ (e : (i, x) ≡ (p, l + 1)).
    let i_is : i ≡ p = ap (λ (q : ℕ × ℕ). q.0) e in
    let x_is : x ≡ l + 1 = ap (λ (q : ℕ × ℕ). q.1) e in
    longer i x (subst (λ j. j < length s.stack) (sym i_is) (top_in a line pairs s p l k)) (subst (λ j. x ≤ length (line (col_in pairs (get_or s.stack j 0)))) (sym i_is) (omega arith)))
    (among_last (i, x) (p, l + 1) s.frames h)
  where
    longer : (j y : ℕ) → j < length s.stack → y ≤ length (line (col_in pairs (get_or s.stack j 0))) → y ≤ length (line (col_in pairs (get_or (s.stack ++ d ∷ []) j 0)))
    longer j y lj le = subst (λ r. y ≤ length (line (col_in pairs r))) (sym (get_or_append_left s.stack (d ∷ []) 0 j lj)) le

take_at : (xs : List ℕ) (n i : ℕ) → i < n → get_or (take n xs) i 0 ≡ get_or xs i 0
take_at [] Prim.Native.Nat.zero i lt = absurd (omega arith)
take_at [] (suc n) i lt = refl
take_at (x ∷ xs) Prim.Native.Nat.zero i lt = absurd (omega arith)
take_at (x ∷ xs) (suc n) Prim.Native.Nat.zero lt = refl
take_at (x ∷ xs) (suc n) (suc i) lt = take_at xs n i (omega arith)

pub waits_left : (a : Matrix) (line : ℕ → List ℕ) (pairs : List Place) (s t : PathState) (p l : ℕ) → IsDepthFirst a line pairs (with_top s p l) → Waits line pairs s → Leaves s p t → Waits line pairs t
waits_left a line pairs s t p l k w (goes_back starts b e ne same) = subst (Waits line pairs) (sym same) w
waits_left a line pairs s t p l k w (finishes starts state e given same) = subst (Waits line pairs) (sym same) (λ i x h.
    let below : i < p = rising_end (numbers_of s.frames) p i (subst IsRising (numbers_more s.frames p l) k.state.todo_rises) (number_of_pair s.frames i x h) in
    subst (λ r. x ≤ length (line (col_in pairs r))) (sym (take_at s.stack p i below)) (w i x h))

pub waits_back : (line : ℕ → List ℕ) (pairs : List Place) (s t : PathState) (p l : ℕ) → Waits line pairs s → GoesBack s (p, l) t → Waits line pairs t × (l ≤ length (line (col_in pairs (get_or t.stack p 0))))
waits_back line pairs s t p l w b = (rest, last)
  where
    stack_is : t.stack ≡ s.stack
    stack_is = ap (λ (x : PathState). x.stack) b.same

    at_i : (i x : ℕ) → Among (i, x) s.frames → x ≤ length (line (col_in pairs (get_or t.stack i 0)))
    at_i i x h = subst (λ xs. x ≤ length (line (col_in pairs (get_or xs i 0)))) (sym stack_is) (w i x h)

    rest : Waits line pairs t
    rest i x h = at_i i x (subst (Among (i, x)) (sym b.frames) (among_left (i, x) t.frames ((p, l) ∷ []) h))

    last : l ≤ length (line (col_in pairs (get_or t.stack p 0)))
    last = at_i p l (subst (Among (p, l)) (sym b.frames) (among_right (p, l) t.frames ((p, l) ∷ []) (inl refl)))

pub less_back : (s t : PathState) (f : ℕ × ℕ) → GoesBack s f t → work t < work s
less_back s t f b =
    let z : length s.frames ≡ length t.frames + 1 = ap length b.frames ∙ length-append t.frames (f ∷ []) in
    subst (λ (x : PathState). work x < work s) (sym b.same) (omega (arith, z))

pub work_after : (s t : PathState) → t ≡ merging s t.starts → work t ≡ work s
work_after s t same = ap work same

pub met_back : (s t : PathState) (f : ℕ × ℕ) → GoesBack s f t → t.state ≡ s.state
met_back s t f b = ap (λ (x : PathState). x.state) b.same
