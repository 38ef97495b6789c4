-- The list of a component that is placed is gone over.
use Rattle.std.proofs.Common.{◌≡◌, ◌≢◌, ◌⊎◌, ◌↔◌, ◌∙◌, ℕ, ◌<◌, ◌≤◌, List, [], ◌∷◌, length, refl, sym, ap, subst, inl, inr, arith}
use Rattle.bip_defs.specs.Lists.{Among, AreDistinct}
use Rattle.bip_defs.specs.Matrix.{upto}
use Rattle.bip_defs.proofs.Sets.{few_distinct, upto_length, upto_lists}
use Rattle.bip_graph.specs.Matching.{none}
use Rattle.dm_fine.specs.Layout.{Layout}
use Rattle.dm_fine.specs.Waiting.{IsWaiting}
use Rattle.dm_fine.specs.Waits.{Chain, Holds, IsPassed, IsStop, at_of, col_of, next_of, wait_of}
use Rattle.dm_fine.specs.declared.waits.Halt.{Halt}
use Rattle.dm_fine.specs.declared.waits.Wait.{Wait}
use Rattle.dm_fine.proofs.StepLemmas.{held_at, made_ready, released, some_of}
use Rattle.dm_fine.proofs.WaitLemmas.{chain_kept, passed_all, put, put_else, put_here, stops_on, walk, walk_is}

-- the first one of the list, and the others
pub record HasHead (t : Layout) (lists : ℕ → List ℕ) (o p : ℕ) (marks : List ℕ) (ws : List Wait) : Type 0 where
  pub rest : List ℕ
  pub are : lists o ≡ p ∷ rest
  pub chain : Chain ws (next_of ws p) rest
  pub in_range : p < length t.cols
  pub passed : IsPassed t marks p (col_of ws p) (at_of ws p)
  pub few : length (p ∷ rest) ≤ length t.cols
  pub distinct : AreDistinct (p ∷ rest)
  pub some : (x : ℕ) → Among x (p ∷ rest) → x ≢ none

pub head_of : (t : Layout) (placed : List ℕ) (lists : ℕ → List ℕ) (o p : ℕ) (marks : List ℕ) (ws : List Wait) (ready : List ℕ) (cursor : ℕ) → IsWaiting t placed lists none o marks ws ready cursor → Chain ws p (lists o) → p ≢ none → HasHead t lists o p marks ws
head_of t placed lists o p marks ws ready cursor s chain ne = by (lists o) refl chain
  where
    below : (x : ℕ) → Among x (lists o) → x < length t.cols
    below x h = let b = (s.are_held x o h).before in let w = s.within in omega (arith, b, w)

    make : (xs : List ℕ) → lists o ≡ p ∷ xs → Chain ws (next_of ws p) xs → HasHead t lists o p marks ws
    make xs are rest =
        let within : (x : ℕ) → Among x (p ∷ xs) → x < length t.cols = λ x h. below x (subst (Among x) (sym are) h) in
        let distinct : AreDistinct (p ∷ xs) = subst AreDistinct are (s.distinct o) in
        record {
          rest = xs;
          are = are;
          chain = rest;
          in_range = within p (inl refl);
          passed = (s.are_held p o (subst (Among p) (sym are) (inl refl))).passed;
          few =
              let few = few_distinct (p ∷ xs) (upto (length t.cols)) distinct (λ x h. (upto_lists (length t.cols)).complete x (within x h)) in
              let long = upto_length 0 (length t.cols) in
              omega (arith, few, long);
          distinct = distinct;
          some = λ x h. some_of t x s.laid_out (within x h);
        }

    by : (xs : List ℕ) → lists o ≡ xs → Chain ws p xs → HasHead t lists o p marks ws
    by [] are c = absurd (ne c)
    by (x ∷ xs) are c = make xs (are ∙ ap (λ y. y ∷ xs) (sym c.0)) (subst (λ y. Chain ws (next_of ws y) xs) (sym c.0) c.1)

-- the rest of the list is shorter
pub shorter : (t : Layout) (lists : ℕ → List ℕ) (o p : ℕ) (marks : List ℕ) (ws ws2 : List Wait) (next : ℕ) → (h : HasHead t lists o p marks ws) → Chain ws2 next h.rest → Chain ws p (p ∷ h.rest) → walk ws2 (length t.cols) next < walk ws (length t.cols) p
shorter t lists o p marks ws ws2 next h rest chain =
    let few = h.few in
    let old = walk_is ws (length t.cols) p (p ∷ h.rest) chain h.some h.few in
    let new = walk_is ws2 (length t.cols) next h.rest rest (λ x on. h.some x (inr on)) (omega (arith, few)) in
    omega (arith, old, new)

-- where the first one's entries are all passed
pub record IsReleased (t : Layout) (placed : List ℕ) (o next : ℕ) (marks : List ℕ) (ws : List Wait) (ready : List ℕ) (cursor more : ℕ) : Type 0 where
  pub lists : ℕ → List ℕ
  pub waiting : IsWaiting t placed lists none o marks ws ready cursor
  pub chain : Chain ws next (lists o)
  pub shorter : walk ws (length t.cols) next < more

pub released_ready : (t : Layout) (placed : List ℕ) (lists : ℕ → List ℕ) (o p : ℕ) (marks : List ℕ) (ws : List Wait) (ready ready2 : List ℕ) (cursor : ℕ) (stop : Halt) (w : Wait) → IsWaiting t placed lists none o marks ws ready cursor → Among o placed → Chain ws p (lists o) → p ≢ none → w ≡ wait_of ws p → IsStop t marks p stop → stop.on ≡ none → ((x : ℕ) → Among x ready2 ↔ ((x ≡ p) ⊎ Among x ready)) → IsReleased t placed o w.next marks ws ready2 cursor (walk ws (length t.cols) p)
released_ready t placed lists o p marks ws ready ready2 cursor stop w s on chain ne is is_stop ends members =
    let h = head_of t placed lists o p marks ws ready cursor s chain ne in
    let next : w.next ≡ next_of ws p = ap (λ (v : Wait). v.next) is in
    let rest : Chain ws w.next h.rest = subst (λ q. Chain ws q h.rest) (sym next) h.chain in
    record {
      lists = put lists o h.rest;
      waiting = made_ready t placed (put lists o h.rest) p o marks ws ready ready2 cursor (released t placed lists o p h.rest marks ws ready cursor s on h.are) ne (passed_all t marks p stop is_stop ends) members;
      chain = subst (Chain ws w.next) (sym (put_here lists o h.rest o refl)) rest;
      shorter = shorter t lists o p marks ws ws w.next h rest (refl, h.chain);
    }

pub released_held : (t : Layout) (placed : List ℕ) (lists : ℕ → List ℕ) (o p : ℕ) (marks : List ℕ) (ws ws2 : List Wait) (ready : List ℕ) (cursor : ℕ) (stop : Halt) (w : Wait) → IsWaiting t placed lists none o marks ws ready cursor → Among o placed → Chain ws p (lists o) → p ≢ none → w ≡ wait_of ws p → IsStop t marks p stop → stop.on ≢ none → Holds ws p stop ws2 → IsReleased t placed o w.next marks ws2 ready cursor (walk ws (length t.cols) p)
released_held t placed lists o p marks ws ws2 ready cursor stop w s on chain ne is is_stop some held =
    let h = head_of t placed lists o p marks ws ready cursor s chain ne in
    let next : w.next ≡ next_of ws p = ap (λ (v : Wait). v.next) is in
    let rest : Chain ws2 w.next h.rest = chain_kept ws ws2 w.next h.rest (subst (λ q. Chain ws q h.rest) (sym next) h.chain) (λ x g. held.nexts x (λ e. h.distinct.0 (subst (λ y. Among y h.rest) e g))) in
    let to = stops_on t placed marks p stop s.laid_out s.marked h.in_range is_stop some in
    let other : o ≢ stop.on = λ e. to.left (subst (λ v. Among v placed) e on) in
    record {
      lists = put (put lists o h.rest) stop.on (p ∷ put lists o h.rest stop.on);
      waiting = held_at t placed (put lists o h.rest) p o marks ws ws2 ready cursor stop (released t placed lists o p h.rest marks ws ready cursor s on h.are) ne is_stop some held;
      chain = subst (Chain ws2 w.next) (sym (put_else (put lists o h.rest) stop.on (p ∷ put lists o h.rest stop.on) o other ∙ put_here lists o h.rest o refl)) rest;
      shorter = shorter t lists o p marks ws ws2 w.next h rest (refl, h.chain);
    }

-- nothing is left in the list
pub list_empty : (ws : List Wait) (p : ℕ) (xs : List ℕ) → Chain ws p xs → ((x : ℕ) → Among x xs → x ≢ none) → p ≡ none → xs ≡ []
list_empty ws p [] c some e = refl
list_empty ws p (x ∷ xs) c some e = absurd (some x (inl refl) (sym c.0 ∙ e))
