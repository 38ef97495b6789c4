-- What a step asks of the table, for each kind of step.
use Rattle.std.proofs.Common.{◌≡◌, ◌≢◌, ◌∙◌, ℕ, zero, suc, ◌+◌, ◌-◌, ◌%◌, ◌<◌, ◌≤◌, ◌==◌, Option, None, Some, List, [], ◌∷◌, ◌++◌, map, set, length, slice_index, refl, sym, ap, subst, ⊎_elim, arith}
use Rattle.std.proofs.lemmas.List.{map-append, map-set, set-get_or}
use mathlib.Core.Option.{none, some}
use lib.ListN.{get_elem?}
use prog.Atomic.{either}
use Rattle.atomic_table.specs.Table.{Act, Allows, Joins, Me, Splits, State, Valid, carried_after, keeps, step, stepped}
use Rattle.atomic_table.proofs.Lists.{at_map, at_set, at_snoc, set_again, set_else}
use Rattle.bip_defs.specs.Lists.{Among}
use Rattle.bip_defs.specs.WordValues.{held, value_of}
use Rattle.bip_defs.proofs.WordValues.{unwritten}
use Rattle.flip_words.specs.Accounts.{Settles}
use Rattle.flip_words.specs.WordCodes.{half, mate_of, mates_in, takers_in, trees_in, vertex_word}
use Rattle.flip_words.specs.Listed.{all_listed, followed_by, looked, nothing, put, took}
use Rattle.flip_words.specs.Rule.{IsOfTaken, Kept, Known, SetsItsOwn, opened_in, nobody}
use Rattle.flip_words.specs.Steps.{TellsLook, TellsMate, TellsSet, TellsTake, TellsTaken, counting_more, knowing}
use Rattle.flip_words.proofs.AccountLemmas.{settles_join, settles_new}
use Rattle.flip_words.proofs.Keeps.{kept_look, kept_put, kept_seen, kept_take, mate_stands, mate_stays, owns_both, taker_stands}
use Rattle.board_seats.proofs.SeatNumbers.{known_same, seated_fewer, seated_more}
use Rattle.board_seats.proofs.States.{with_words}
use Rattle.board_seats.specs.View.{IsOpen, joined, known_or, listed_or, newcomer}

module _ {S : Type 0} (rows cols : ℕ) (opened : List ℕ) (slots id : ℕ) (me : Me S (Option Known)) (live : IsOpen nobody me) where
  -- what is told of the seat's view and of the word
  of_word : (P : Known → ℕ → Type 0) (i : ℕ) → P (known_or nobody me.0) i → (k : Known) (j : ℕ) → me.0 ≡ Some k → i ≡ j → P k j
  of_word P i p k j e f = subst (λ m. P m j) (known_same (sym live.0 ∙ e)) (subst (P (known_or nobody me.0)) f p)

  there : (s : State S (Option Known)) → get_elem? s.views id ≡ some me.0 → get_elem? s.views id ≡ some (Some (known_or nobody me.0))
  there s at = at ∙ ap some live.0

  -- the seat's view of a vertex's word is of the board's columns
  vertex_is : (s : State S (Option Known)) → Kept rows cols opened s → get_elem? s.views id ≡ some me.0 → (k : Known) (v w : ℕ) → me.0 ≡ Some k → 1 + cols + v ≡ 1 + k.opened.cols + w → v ≡ w
  vertex_is s kept at k v w same e = let many : k.opened.cols ≡ cols = ap (λ o. o.cols) (kept.seats.opened id k (at ∙ ap some same)) in omega (arith, many, e)

  pub allows_take : (root number : ℕ) → root < cols → number ≡ (known_or nobody me.0).number → number < half → Allows (Kept rows cols opened) slots id me (1 + root) (λ x. either (x == 0) (1 + number) x) (TellsTake (step slots (1 + root) 0 (1 + number) none) me)
  allows_take root number lt own few s kept many at fits = by (slice_index s.words (1 + root)) refl
    where
      Result : ℕ → Type 0
      Result x = (w : Option Known) × (a : Act S) × Valid s.homes me.1 a × Kept rows cols opened (stepped s (1 + root) (either (x == 0) (1 + number) x) id me.1 w a) × TellsTake (step slots (1 + root) 0 (1 + number) none) me x (w, carried_after me.1 a)

      fact : (x : ℕ) → slice_index s.words (1 + root) ≡ x → TellsTaken (known_or nobody me.0) root x me (knowing (known_or nobody me.0) (took (known_or nobody me.0).listed root (known_or nobody me.0).number (value_of x)), me.1)
      fact x e = record {
        fits = subst (λ n. n ≤ half) e (kept.fits root lt);
        same = λ n knew. sym (ap value_of e) ∙ taker_stands rows cols opened s kept id (known_or nobody me.0) (there s at) root n lt knew;
        after_is = refl;
      }

      tells : (x : ℕ) → slice_index s.words (1 + root) ≡ x → TellsTake (step slots (1 + root) 0 (1 + number) none) me x (knowing (known_or nobody me.0) (took (known_or nobody me.0).listed root (known_or nobody me.0).number (value_of x)), me.1)
      tells x e k r same at_root = of_word (λ m i. TellsTaken m i x me (knowing (known_or nobody me.0) (took (known_or nobody me.0).listed root (known_or nobody me.0).number (value_of x)), me.1)) root (fact x e) k r same (omega arith)

      by : (x : ℕ) → slice_index s.words (1 + root) ≡ x → Result x
      by zero e = (
        knowing (known_or nobody me.0) (took (known_or nobody me.0).listed root (known_or nobody me.0).number None),
        keeps,
        tt,
        subst (λ n. Kept rows cols opened (with_words s (set s.words (1 + root) (1 + n)) (set s.views id (knowing (known_or nobody me.0) (took (known_or nobody me.0).listed root (known_or nobody me.0).number None))))) (sym own)
            (kept_take rows cols opened s kept id (known_or nobody me.0) (there s at) root (known_or nobody me.0).number lt (omega arith) e),
        tells zero e,
      )
      by (suc y) e = (
        knowing (known_or nobody me.0) (took (known_or nobody me.0).listed root (known_or nobody me.0).number (Some y)),
        keeps,
        tt,
        subst (λ ws. Kept rows cols opened (with_words s ws (set s.views id (knowing (known_or nobody me.0) (took (known_or nobody me.0).listed root (known_or nobody me.0).number (Some y)))))) (sym (unwritten s.words (1 + root) (1 + number) y e))
            (kept_seen rows cols opened s kept id (known_or nobody me.0) (there s at) root (known_or nobody me.0).number y lt e),
        tells (suc y) e,
      )

  allows_set_at : (v root mate stored : ℕ) → v < length (mates_in cols opened) → IsOfTaken (trees_in cols opened) (known_or nobody me.0).listed v → held (trees_in cols opened) v ≡ Some root → ((x : ℕ) → ¬ Among (v, x) (known_or nobody me.0).listed.sets) → 1 + mate < half
      → stored ≡ vertex_word (Some root) (Some mate) → stored % half - 1 ≡ mate
      → Allows (Kept rows cols opened) slots id me (1 + cols + v) (λ _. stored) (λ _. TellsSet (step slots (1 + cols + v) stored 0 none) me stored)
  allows_set_at v root mate stored lt of tree unset few is fact s kept many at fits = (
    knowing (known_or nobody me.0) (put (known_or nobody me.0).listed v (stored % half - 1)),
    keeps,
    tt,
    subst (λ w. Kept rows cols opened (with_words s (set s.words (1 + cols + v) w) (set s.views id (knowing (known_or nobody me.0) (put (known_or nobody me.0).listed v (stored % half - 1)))))) (sym is)
        (subst (λ n. Kept rows cols opened (with_words s (set s.words (1 + cols + v) (vertex_word (Some root) (Some mate))) (set s.views id (knowing (known_or nobody me.0) (put (known_or nobody me.0).listed v n))))) (sym fact)
        (kept_put rows cols opened s kept id (known_or nobody me.0) (there s at) v root of.1 mate lt tree taken unset few)),
    (λ k w same at_vertex. of_word (λ m i. ◌≡◌ {A = Me S (Option Known)} (knowing (known_or nobody me.0) (put (known_or nobody me.0).listed v (stored % half - 1)), me.1) (knowing m (put m.listed i (stored % half - 1)), me.1)) v refl k w same (vertex_is s kept at k v w same at_vertex)),
  )
    where
      taken : Among (root, of.1) (known_or nobody me.0).listed.taken
      taken = let e : ◌≡◌ {A = ℕ} of.0 root = (let f : ◌≡◌ {A = Option ℕ} (Some of.0) (Some root) = sym of.2 ∙ tree in cc) in subst (λ r. Among (r, of.1) (known_or nobody me.0).listed.taken) e of.3

  pub allows_set : (n v root mate stored : ℕ) → cols ≡ n → v < length (mates_in cols opened) → IsOfTaken (trees_in cols opened) (known_or nobody me.0).listed v → held (trees_in cols opened) v ≡ Some root → ((x : ℕ) → ¬ Among (v, x) (known_or nobody me.0).listed.sets) → 1 + mate < half
      → stored ≡ vertex_word (Some root) (Some mate) → stored % half - 1 ≡ mate
      → Allows (Kept rows cols opened) slots id me (1 + n + v) (λ _. stored) (λ _. TellsSet (step slots (1 + n + v) stored 0 none) me stored)
  allows_set n v root mate stored same lt of tree unset few is fact = subst (λ m. Allows (Kept rows cols opened) slots id me (1 + m + v) (λ _. stored) (λ _. TellsSet (step slots (1 + m + v) stored 0 none) me stored)) same (allows_set_at v root mate stored lt of tree unset few is fact)

  allows_look_at : (v : ℕ) → v < length (mates_in cols opened) → Allows (Kept rows cols opened) slots id me (1 + cols + v) (λ x. x) (TellsLook (step slots (1 + cols + v) 0 0 none) me)
  allows_look_at v lt s kept many at fits = (
    knowing (known_or nobody me.0) (looked (known_or nobody me.0).listed v (mate_of (slice_index s.words (1 + cols + v)))),
    keeps,
    tt,
    subst (λ ws. Kept rows cols opened (with_words s ws (set s.views id (knowing (known_or nobody me.0) (looked (known_or nobody me.0).listed v (mate_of (slice_index s.words (1 + cols + v)))))))) (sym (set-get_or s.words (1 + cols + v) 0))
        (kept_look rows cols opened s kept id (known_or nobody me.0) (there s at) v (mate_of (slice_index s.words (1 + cols + v)))),
    (λ k w same at_vertex. of_word (λ m i. TellsMate m i (slice_index s.words (1 + cols + v)) me (knowing (known_or nobody me.0) (looked (known_or nobody me.0).listed v (mate_of (slice_index s.words (1 + cols + v)))), me.1)) v fact k w same (vertex_is s kept at k v w same at_vertex)),
  )
    where
      opened_is : (known_or nobody me.0).opened ≡ opened_in rows cols opened
      opened_is = kept.seats.opened id (known_or nobody me.0) (there s at)

      fact : TellsMate (known_or nobody me.0) v (slice_index s.words (1 + cols + v)) me (knowing (known_or nobody me.0) (looked (known_or nobody me.0).listed v (mate_of (slice_index s.words (1 + cols + v)))), me.1)
      fact = record {
        set = λ mate h. mate_stands rows cols opened s kept id (known_or nobody me.0) (there s at) v mate lt h;
        alone = λ of unset. mate_stays rows cols opened s kept id (known_or nobody me.0) (there s at) v lt (subst (λ o. IsOfTaken o.trees (known_or nobody me.0).listed v) opened_is of) unset ∙ ap (λ o. held o.mates v) (sym opened_is);
        after_is = refl;
      }

  pub allows_look : (n v : ℕ) → cols ≡ n → v < length (mates_in cols opened) → Allows (Kept rows cols opened) slots id me (1 + n + v) (λ x. x) (TellsLook (step slots (1 + n + v) 0 0 none) me)
  allows_look n v same lt = subst (λ m. Allows (Kept rows cols opened) slots id me (1 + m + v) (λ x. x) (TellsLook (step slots (1 + m + v) 0 0 none) me)) same (allows_look_at v lt)

  pub splits : (known_or nobody me.0).number ≡ 0 → Splits (Kept {S = S} rows cols opened) id me.0 (counting_more me.0) (newcomer nothing me.0)
  splits zeroth s kept at = subst (λ o. Kept rows cols opened (with_words s s.words (set s.views id (counting_more o) ++ newcomer nothing o ∷ []))) (sym live.0) record {
    spare = kept.spare;
    as_many = kept.as_many;
    fits = kept.fits;
    trees = kept.trees;
    seats = seated_more kept.seats id (known_or nobody me.0) (there s at) nothing zeroth;
    settles = subst (λ ls. Settles cols (mates_in cols opened) (takers_in cols s.words) (mates_in cols s.words) (all_listed ls)) (sym lists) (settles_new (map (listed_or nothing) s.views) kept.settles);
    owners = λ i v v_at. ⊎_elim (owners i v) (λ (e : newcomer nothing (Some (known_or nobody me.0)) ≡ v). subst (λ w. SetsItsOwn (trees_in cols opened) (listed_or nothing w)) e (λ vertex mate h. elim h [ ])) (at_snoc (set s.views id (counting_more (Some (known_or nobody me.0)))) (newcomer nothing (Some (known_or nobody me.0))) v i v_at);
  }
    where
      lists : map (listed_or nothing) (set s.views id (counting_more (Some (known_or nobody me.0))) ++ newcomer nothing (Some (known_or nobody me.0)) ∷ []) ≡ map (listed_or nothing) s.views ++ nothing ∷ []
      lists = map-append (listed_or nothing) (set s.views id (counting_more (Some (known_or nobody me.0)))) (newcomer nothing (Some (known_or nobody me.0)) ∷ [])
          ∙ ap (λ ls. ls ++ nothing ∷ []) (map-set (listed_or nothing) s.views id (counting_more (Some (known_or nobody me.0))) ∙ set_again (map (listed_or nothing) s.views) id (known_or nobody me.0).listed (at_map (listed_or nothing) s.views id (Some (known_or nobody me.0)) (there s at)))

      owners : (i : ℕ) (v : Option Known) → get_elem? (set s.views id (counting_more (Some (known_or nobody me.0)))) i ≡ some v → SetsItsOwn (trees_in cols opened) (listed_or nothing v)
      owners i v v_at = ⊎_elim (λ (t : (i ≡ id) × (counting_more (Some (known_or nobody me.0)) ≡ v)). subst (λ w. SetsItsOwn (trees_in cols opened) (listed_or nothing w)) t.1 (kept.owners id (Some (known_or nobody me.0)) (there s at))) (λ (t : (i ≢ id) × (get_elem? s.views i ≡ some v)). kept.owners i v t.1) (at_set s.views id i (counting_more (Some (known_or nobody me.0))) v v_at)

  pub joins : (other : ℕ) (mine : Option Known) → mine ≡ Some (known_or nobody mine) → (known_or nobody me.0).number ≡ 0 → (known_or nobody me.0).seats ≡ 1 + (known_or nobody mine).number → Joins (Kept {S = S} rows cols opened) id me.0 other mine (joined followed_by me.0 mine) None
  joins other mine is_live zeroth highest s kept at ne other_at = subst (λ o. Kept rows cols opened (with_words s s.words (set (set s.views id o) other None))) (sym both) record {
    spare = kept.spare;
    as_many = kept.as_many;
    fits = kept.fits;
    trees = kept.trees;
    seats = seated_fewer kept.seats id (known_or nobody me.0) (there s at) followed_by zeroth other (known_or nobody mine) ne other_there highest;
    settles = subst (λ ls. Settles cols (mates_in cols opened) (takers_in cols s.words) (mates_in cols s.words) (all_listed ls)) (sym lists)
        (settles_join (map (listed_or nothing) s.views) kept.settles id (known_or nobody me.0).listed (at_map (listed_or nothing) s.views id (Some (known_or nobody me.0)) (there s at)) other (known_or nobody mine).listed ne list_there);
    owners = λ i v v_at. ⊎_elim (λ (t : (i ≡ other) × (None ≡ v)). subst (λ w. SetsItsOwn (trees_in cols opened) (listed_or nothing w)) t.1 (λ vertex mate h. elim h [ ])) (λ (t : (i ≢ other) × (get_elem? (set s.views id (joined followed_by (Some (known_or nobody me.0)) (Some (known_or nobody mine)))) i ≡ some v)). owners i v t.1) (at_set (set s.views id (joined followed_by (Some (known_or nobody me.0)) (Some (known_or nobody mine)))) other i None v v_at);
  }
    where
      both : joined followed_by me.0 mine ≡ joined followed_by (Some (known_or nobody me.0)) (Some (known_or nobody mine))
      both = ap (λ o. joined followed_by o mine) live.0 ∙ ap (joined followed_by (Some (known_or nobody me.0))) is_live

      other_there : get_elem? s.views other ≡ some (Some (known_or nobody mine))
      other_there = sym (set_else s.views id other (joined followed_by me.0 mine) ne) ∙ other_at ∙ ap some is_live

      lists : map (listed_or nothing) (set (set s.views id (joined followed_by (Some (known_or nobody me.0)) (Some (known_or nobody mine)))) other None) ≡ set (set (map (listed_or nothing) s.views) id (listed_or nothing (joined followed_by (Some (known_or nobody me.0)) (Some (known_or nobody mine))))) other nothing
      lists = map-set (listed_or nothing) (set s.views id (joined followed_by (Some (known_or nobody me.0)) (Some (known_or nobody mine)))) other None ∙ ap (λ ls. set ls other nothing) (map-set (listed_or nothing) s.views id (joined followed_by (Some (known_or nobody me.0)) (Some (known_or nobody mine))))

      list_there : get_elem? (set (map (listed_or nothing) s.views) id (listed_or nothing (joined followed_by (Some (known_or nobody me.0)) (Some (known_or nobody mine))))) other ≡ some (known_or nobody mine).listed
      list_there = set_else (map (listed_or nothing) s.views) id other (listed_or nothing (joined followed_by (Some (known_or nobody me.0)) (Some (known_or nobody mine)))) ne ∙ at_map (listed_or nothing) s.views other (Some (known_or nobody mine)) other_there

      owners : (i : ℕ) (v : Option Known) → get_elem? (set s.views id (joined followed_by (Some (known_or nobody me.0)) (Some (known_or nobody mine)))) i ≡ some v → SetsItsOwn (trees_in cols opened) (listed_or nothing v)
      owners i v v_at = ⊎_elim
          (λ (t : (i ≡ id) × (joined followed_by (Some (known_or nobody me.0)) (Some (known_or nobody mine)) ≡ v)). subst (λ w. SetsItsOwn (trees_in cols opened) (listed_or nothing w)) t.1
          (owns_both (trees_in cols opened) (known_or nobody me.0).listed (known_or nobody mine).listed (kept.owners id (Some (known_or nobody me.0)) (there s at)) (kept.owners other (Some (known_or nobody mine)) other_there)))
          (λ (t : (i ≢ id) × (get_elem? s.views i ≡ some v)). kept.owners i v t.1) (at_set s.views id i (joined followed_by (Some (known_or nobody me.0)) (Some (known_or nobody mine))) v v_at)
