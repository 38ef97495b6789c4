-- What a step asks of the table, for each kind of step.
use Rattle.std.proofs.Common.{◌≡◌, ◌∙◌, ℕ, zero, suc, ◌+◌, ◌<◌, ◌≤◌, ◌==◌, Option, None, Some, List, [], ◌∷◌, ◌++◌, map, set, length, slice_index, refl, sym, ap, subst, arith}
use Rattle.std.proofs.lemmas.List.{map-append, map-set, set-get_or}
use mathlib.Core.Option.{none, some}
use lib.ListN.{get_elem?}
use prog.Atomic.{either}
use Rattle.atomic_table.specs.Table.{Act, Allows, Joins, Me, Splits, State, Valid, carried_after, keeps, step, stepped}
use Rattle.atomic_table.proofs.Lists.{at_map, set_again, set_else}
use Rattle.bip_defs.specs.WordValues.{value_of}
use Rattle.bip_defs.proofs.WordValues.{unwritten}
use Rattle.claim_words.specs.Board.{Words}
use Rattle.claim_words.specs.WordCodes.{decoded, roots_in, rows_in}
use Rattle.claim_words.specs.Listed.{Listed, all_listed, claimed, followed_by, looked, nothing, root_word, row_word, won}
use Rattle.claim_words.specs.Rule.{Kept, Known, nobody}
use Rattle.claim_words.specs.Settles.{Settles}
use Rattle.claim_words.specs.Steps.{KnewRoot, KnewRow, Tells, TellsAll, TellsClaim, TellsRoot, TellsRow, TellsWin, counting_more, knowing}
use Rattle.board_seats.proofs.WordCodes.{firsts_long}
use Rattle.claim_words.proofs.Keeps.{kept_claim, kept_look, kept_win, root_sight, root_stands, root_within, row_sight, row_stands, row_within}
use Rattle.claim_words.proofs.SettledWords.{alone}
use Rattle.board_seats.proofs.SeatNumbers.{known_same, seated_fewer, seated_more}
use Rattle.claim_words.proofs.SettledWords.{settles_join, settles_new}
use Rattle.board_seats.proofs.States.{with_words}
use Rattle.board_seats.specs.View.{IsOpen, joined, known_or, listed_or, newcomer}

module _ {S : Type 0} (n : ℕ) (opened : List ℕ) (slots id : ℕ) (me : Me S (Option Known)) (live : IsOpen nobody me) where
  -- what is told of the seat's view, and of the operands
  of_operands : (P : Known → ℕ → ℕ → Type 0) (i x : ℕ) → P (known_or nobody me.0) i x → (k : Known) (j y : ℕ) → me.0 ≡ Some k → i ≡ j → x ≡ y → P k j y
  of_operands P i x p k j y e f g = subst (λ m. P m j y) (known_same (sym live.0 ∙ e)) (subst (λ a. P (known_or nobody me.0) a y) f (subst (λ b. P (known_or nobody me.0) i b) g p))

  -- what a word told that was found as the rule has it
  fact : (Knew : ℕ → Type 0) (s : State S (Option Known)) (i x : ℕ) (now : Listed) → Kept n opened s → slice_index s.words i ≡ x → ((y : ℕ) → Knew y → value_of (slice_index s.words i) ≡ Some y)
      → Tells (known_or nobody me.0) Knew now x me (knowing (known_or nobody me.0) now, me.1)
  fact Knew s i x now kept e stands = record {
    fits = subst (λ m. m ≤ 4294967296) e (kept.fits i);
    same = λ y knew. sym (ap value_of e) ∙ stands y knew;
    after_is = refl;
  }

  pub allows_claim : (row col : ℕ) → row < length (known_or nobody me.0).opened.rows → col < 4294967296 → Allows (Kept n opened) slots id me (1 + row) (λ x. either (x == 0) (1 + col) x) (TellsClaim (step slots (1 + row) 0 (1 + col) none) me)
  allows_claim row col lt few s kept many at fits = by (slice_index s.words (1 + row)) refl
    where
      there : get_elem? s.views id ≡ some (Some (known_or nobody me.0))
      there = at ∙ ap some live.0

      Result : ℕ → Type 0
      Result x = (w : Option Known) × (a : Act S) × Valid s.homes me.1 a × Kept n opened (stepped s (1 + row) (either (x == 0) (1 + col) x) id me.1 w a) × TellsClaim (step slots (1 + row) 0 (1 + col) none) me x (w, carried_after me.1 a)

      tells : (x : ℕ) → slice_index s.words (1 + row) ≡ x → TellsClaim (step slots (1 + row) 0 (1 + col) none) me x (knowing (known_or nobody me.0) (claimed (known_or nobody me.0).listed row col (value_of x)), me.1)
      tells x e k r c same at_row as_col = of_operands (λ m i y. Tells m (KnewRow m i) (claimed m.listed i y (value_of x)) x me (knowing (known_or nobody me.0) (claimed (known_or nobody me.0).listed row col (value_of x)), me.1)) row col
          (fact (KnewRow (known_or nobody me.0) row) s (1 + row) x (claimed (known_or nobody me.0).listed row col (value_of x)) kept e (λ y. row_stands n opened s kept id (known_or nobody me.0) there row y lt)) k r c same (omega arith) (omega arith)

      by : (x : ℕ) → slice_index s.words (1 + row) ≡ x → Result x
      by zero e = (knowing (known_or nobody me.0) (claimed (known_or nobody me.0).listed row col None), keeps, tt, kept_claim n opened s kept id (known_or nobody me.0) there row col lt (omega arith) e, tells zero e)
      by (suc y) e = (
        knowing (known_or nobody me.0) (looked (known_or nobody me.0).listed (row_word row (Some y))),
        keeps,
        tt,
        subst (λ ws. Kept n opened (with_words s ws (set s.views id (knowing (known_or nobody me.0) (looked (known_or nobody me.0).listed (row_word row (Some y))))))) (sym (unwritten s.words (1 + row) (1 + col) y e))
            (kept_look n opened s kept id (known_or nobody me.0) there (row_word row (Some y)) (row_sight n s.words row (suc y) (row_within n opened s kept id (known_or nobody me.0) there row lt) e)),
        tells (suc y) e,
      )

  pub allows_row : (row : ℕ) → row < length (known_or nobody me.0).opened.rows → Allows (Kept n opened) slots id me (1 + row) (λ x. x) (TellsRow (step slots (1 + row) 0 0 none) me)
  allows_row row lt s kept many at fits = (
    knowing (known_or nobody me.0) (looked (known_or nobody me.0).listed (row_word row (value_of (slice_index s.words (1 + row))))),
    keeps,
    tt,
    subst (λ ws. Kept n opened (with_words s ws (set s.views id (knowing (known_or nobody me.0) (looked (known_or nobody me.0).listed (row_word row (value_of (slice_index s.words (1 + row))))))))) (sym (set-get_or s.words (1 + row) 0))
        (kept_look n opened s kept id (known_or nobody me.0) there (row_word row (value_of (slice_index s.words (1 + row)))) (row_sight n s.words row (slice_index s.words (1 + row)) (row_within n opened s kept id (known_or nobody me.0) there row lt) refl)),
    tells,
  )
    where
      there : get_elem? s.views id ≡ some (Some (known_or nobody me.0))
      there = at ∙ ap some live.0

      tells : TellsRow (step slots (1 + row) 0 0 none) me (slice_index s.words (1 + row)) (knowing (known_or nobody me.0) (looked (known_or nobody me.0).listed (row_word row (value_of (slice_index s.words (1 + row))))), me.1)
      tells k r same at_row = of_operands (λ m i y. Tells m (KnewRow m i) (looked m.listed (row_word i (value_of (slice_index s.words (1 + row))))) (slice_index s.words (1 + row)) me (knowing (known_or nobody me.0) (looked (known_or nobody me.0).listed (row_word row (value_of (slice_index s.words (1 + row))))), me.1)) row 0
          (fact (KnewRow (known_or nobody me.0) row) s (1 + row) (slice_index s.words (1 + row)) (looked (known_or nobody me.0).listed (row_word row (value_of (slice_index s.words (1 + row))))) kept refl (λ y. row_stands n opened s kept id (known_or nobody me.0) there row y lt)) k r 0 same (omega arith) refl

  -- the rows are as many as the board has
  rows_are : (s : State S (Option Known)) → Kept n opened s → get_elem? s.views id ≡ some me.0 → 1 + n ≤ length opened → (k : Known) → me.0 ≡ Some k → length k.opened.rows ≡ n
  rows_are s kept at le k same = ap length (ap (λ (o : Words). o.rows) (kept.seats.opened id k (at ∙ ap some same))) ∙ firsts_long n opened le

  allows_win : (root leaf : ℕ) → root < length (known_or nobody me.0).opened.roots → leaf < 4294967296 → 1 + n ≤ length opened
      → Allows (Kept n opened) slots id me (1 + n + root) (λ x. either (x == 0) (1 + leaf) x) (TellsWin (step slots (1 + n + root) 0 (1 + leaf) none) me)
  allows_win root leaf lt few le s kept many at fits = by (slice_index s.words (1 + n + root)) refl
    where
      there : get_elem? s.views id ≡ some (Some (known_or nobody me.0))
      there = at ∙ ap some live.0

      Result : ℕ → Type 0
      Result x = (w : Option Known) × (a : Act S) × Valid s.homes me.1 a × Kept n opened (stepped s (1 + n + root) (either (x == 0) (1 + leaf) x) id me.1 w a) × TellsWin (step slots (1 + n + root) 0 (1 + leaf) none) me x (w, carried_after me.1 a)

      tells : (x : ℕ) → slice_index s.words (1 + n + root) ≡ x → TellsWin (step slots (1 + n + root) 0 (1 + leaf) none) me x (knowing (known_or nobody me.0) (won (known_or nobody me.0).listed root leaf (value_of x)), me.1)
      tells x e k r c same at_root as_leaf = of_operands (λ m i y. Tells m (KnewRoot m i) (won m.listed i y (value_of x)) x me (knowing (known_or nobody me.0) (won (known_or nobody me.0).listed root leaf (value_of x)), me.1)) root leaf
          (fact (KnewRoot (known_or nobody me.0) root) s (1 + n + root) x (won (known_or nobody me.0).listed root leaf (value_of x)) kept e (λ y. root_stands n opened s kept id (known_or nobody me.0) there root y lt)) k r c same (let many = rows_are s kept at le k same in omega (arith, many, at_root)) (omega arith)

      by : (x : ℕ) → slice_index s.words (1 + n + root) ≡ x → Result x
      by zero e = (knowing (known_or nobody me.0) (won (known_or nobody me.0).listed root leaf None), keeps, tt, kept_win n opened s kept id (known_or nobody me.0) there root leaf lt (omega arith) e, tells zero e)
      by (suc y) e = (
        knowing (known_or nobody me.0) (looked (known_or nobody me.0).listed (root_word root (Some y))),
        keeps,
        tt,
        subst (λ ws. Kept n opened (with_words s ws (set s.views id (knowing (known_or nobody me.0) (looked (known_or nobody me.0).listed (root_word root (Some y))))))) (sym (unwritten s.words (1 + n + root) (1 + leaf) y e))
            (kept_look n opened s kept id (known_or nobody me.0) there (root_word root (Some y)) (root_sight n s.words root (suc y) (root_within n opened s kept id (known_or nobody me.0) there root lt) e)),
        tells (suc y) e,
      )

  allows_root : (root : ℕ) → root < length (known_or nobody me.0).opened.roots → 1 + n ≤ length opened → Allows (Kept n opened) slots id me (1 + n + root) (λ x. x) (TellsRoot (step slots (1 + n + root) 0 0 none) me)
  allows_root root lt le s kept many at fits = (
    knowing (known_or nobody me.0) (looked (known_or nobody me.0).listed (root_word root (value_of (slice_index s.words (1 + n + root))))),
    keeps,
    tt,
    subst (λ ws. Kept n opened (with_words s ws (set s.views id (knowing (known_or nobody me.0) (looked (known_or nobody me.0).listed (root_word root (value_of (slice_index s.words (1 + n + root))))))))) (sym (set-get_or s.words (1 + n + root) 0))
        (kept_look n opened s kept id (known_or nobody me.0) there (root_word root (value_of (slice_index s.words (1 + n + root)))) (root_sight n s.words root (slice_index s.words (1 + n + root)) (root_within n opened s kept id (known_or nobody me.0) there root lt) refl)),
    tells,
  )
    where
      there : get_elem? s.views id ≡ some (Some (known_or nobody me.0))
      there = at ∙ ap some live.0

      tells : TellsRoot (step slots (1 + n + root) 0 0 none) me (slice_index s.words (1 + n + root)) (knowing (known_or nobody me.0) (looked (known_or nobody me.0).listed (root_word root (value_of (slice_index s.words (1 + n + root))))), me.1)
      tells k r same at_root = of_operands (λ m i y. Tells m (KnewRoot m i) (looked m.listed (root_word i (value_of (slice_index s.words (1 + n + root))))) (slice_index s.words (1 + n + root)) me (knowing (known_or nobody me.0) (looked (known_or nobody me.0).listed (root_word root (value_of (slice_index s.words (1 + n + root))))), me.1)) root 0
          (fact (KnewRoot (known_or nobody me.0) root) s (1 + n + root) (slice_index s.words (1 + n + root)) (looked (known_or nobody me.0).listed (root_word root (value_of (slice_index s.words (1 + n + root))))) kept refl (λ y. root_stands n opened s kept id (known_or nobody me.0) there root y lt)) k r 0 same (let many = rows_are s kept at le k same in omega (arith, many, at_root)) refl

  -- the same where the board has the number of rows by itself

  pub allows_win_at : (rows root leaf : ℕ) → n ≡ rows → root < length (known_or nobody me.0).opened.roots → leaf < 4294967296 → 1 + n ≤ length opened
      → Allows (Kept n opened) slots id me (1 + rows + root) (λ x. either (x == 0) (1 + leaf) x) (TellsWin (step slots (1 + rows + root) 0 (1 + leaf) none) me)
  allows_win_at rows root leaf e lt few le = subst (λ m. Allows (Kept n opened) slots id me (1 + m + root) (λ x. either (x == 0) (1 + leaf) x) (TellsWin (step slots (1 + m + root) 0 (1 + leaf) none) me)) e (allows_win root leaf lt few le)

  pub allows_root_at : (rows root : ℕ) → n ≡ rows → root < length (known_or nobody me.0).opened.roots → 1 + n ≤ length opened → Allows (Kept n opened) slots id me (1 + rows + root) (λ x. x) (TellsRoot (step slots (1 + rows + root) 0 0 none) me)
  allows_root_at rows root e lt le = subst (λ m. Allows (Kept n opened) slots id me (1 + m + root) (λ x. x) (TellsRoot (step slots (1 + m + root) 0 0 none) me)) e (allows_root root lt le)

  -- the seat 0, once no other is left
  pub allows_all : (known_or nobody me.0).number ≡ 0 → (known_or nobody me.0).seats ≡ 1 → Allows (Kept n opened) slots id me 0 (λ x. x) (TellsAll (step slots 0 0 0 none) me)
  allows_all zeroth one s kept many at fits = (
    me.0,
    keeps,
    tt,
    subst (λ ws. Kept n opened (with_words s ws (set s.views id me.0))) (sym (set-get_or s.words 0 0)) (subst (λ vs. Kept n opened (with_words s s.words vs)) (sym (set_again s.views id me.0 at)) kept),
    (refl, (λ k same. subst (λ m. (words : Words) × Settles m.opened.rows m.opened.roots words m.listed) (known_same (sym live.0 ∙ same)) (decoded n s.words, account))),
  )
    where
      there : get_elem? s.views id ≡ some (Some (known_or nobody me.0))
      there = at ∙ ap some live.0

      account : Settles (known_or nobody me.0).opened.rows (known_or nobody me.0).opened.roots (decoded n s.words) (known_or nobody me.0).listed
      account = subst (Settles (known_or nobody me.0).opened.rows (known_or nobody me.0).opened.roots (decoded n s.words)) (alone kept.seats id (known_or nobody me.0) there zeroth one)
          (subst (λ rows. Settles rows (known_or nobody me.0).opened.roots (decoded n s.words) (all_listed (map (listed_or nothing) s.views))) (sym (ap (λ (o : Words). o.rows) (kept.seats.opened id (known_or nobody me.0) there)))
          (subst (λ roots. Settles (rows_in n opened) roots (decoded n s.words) (all_listed (map (listed_or nothing) s.views))) (sym (ap (λ (o : Words). o.roots) (kept.seats.opened id (known_or nobody me.0) there))) kept.settles))

  pub splits : (known_or nobody me.0).number ≡ 0 → Splits (Kept {S = S} n opened) id me.0 (counting_more me.0) (newcomer nothing me.0)
  splits zeroth s kept at = subst (λ o. Kept n opened (with_words s s.words (set s.views id (counting_more o) ++ newcomer nothing o ∷ []))) (sym live.0) record {
    spare = kept.spare;
    as_many = kept.as_many;
    fits = kept.fits;
    seats = seated_more kept.seats id (known_or nobody me.0) there nothing zeroth;
    settles = subst (λ ls. Settles (rows_in n opened) (roots_in n opened) (decoded n s.words) (all_listed ls)) (sym lists) (settles_new (map (listed_or nothing) s.views) kept.settles);
  }
    where
      there : get_elem? s.views id ≡ some (Some (known_or nobody me.0))
      there = at ∙ ap some live.0

      lists : map (listed_or nothing) (set s.views id (counting_more (Some (known_or nobody me.0))) ++ newcomer nothing (Some (known_or nobody me.0)) ∷ []) ≡ map (listed_or nothing) s.views ++ nothing ∷ []
      lists = map-append (listed_or nothing) (set s.views id (counting_more (Some (known_or nobody me.0)))) (newcomer nothing (Some (known_or nobody me.0)) ∷ [])
          ∙ ap (λ ls. ls ++ nothing ∷ []) (map-set (listed_or nothing) s.views id (counting_more (Some (known_or nobody me.0))) ∙ set_again (map (listed_or nothing) s.views) id (known_or nobody me.0).listed (at_map (listed_or nothing) s.views id (Some (known_or nobody me.0)) there))

  pub joins : (other : ℕ) (mine : Option Known) → mine ≡ Some (known_or nobody mine) → (known_or nobody me.0).number ≡ 0 → (known_or nobody me.0).seats ≡ 1 + (known_or nobody mine).number → Joins (Kept {S = S} n opened) id me.0 other mine (joined followed_by me.0 mine) None
  joins other mine is_live zeroth highest s kept at ne other_at = subst (λ o. Kept n opened (with_words s s.words (set (set s.views id o) other None))) (sym both) record {
    spare = kept.spare;
    as_many = kept.as_many;
    fits = kept.fits;
    seats = seated_fewer kept.seats id (known_or nobody me.0) there followed_by zeroth other (known_or nobody mine) ne other_there highest;
    settles = subst (λ ls. Settles (rows_in n opened) (roots_in n opened) (decoded n s.words) (all_listed ls)) (sym lists)
        (settles_join (map (listed_or nothing) s.views) kept.settles id (known_or nobody me.0).listed (at_map (listed_or nothing) s.views id (Some (known_or nobody me.0)) there) other (known_or nobody mine).listed ne list_there);
  }
    where
      there : get_elem? s.views id ≡ some (Some (known_or nobody me.0))
      there = at ∙ ap some live.0

      both : joined followed_by me.0 mine ≡ joined followed_by (Some (known_or nobody me.0)) (Some (known_or nobody mine))
      both = ap (λ o. joined followed_by o mine) live.0 ∙ ap (joined followed_by (Some (known_or nobody me.0))) is_live

      other_there : get_elem? s.views other ≡ some (Some (known_or nobody mine))
      other_there = sym (set_else s.views id other (joined followed_by me.0 mine) ne) ∙ other_at ∙ ap some is_live

      lists : map (listed_or nothing) (set (set s.views id (joined followed_by (Some (known_or nobody me.0)) (Some (known_or nobody mine)))) other None) ≡ set (set (map (listed_or nothing) s.views) id (listed_or nothing (joined followed_by (Some (known_or nobody me.0)) (Some (known_or nobody mine))))) other nothing
      lists = map-set (listed_or nothing) (set s.views id (joined followed_by (Some (known_or nobody me.0)) (Some (known_or nobody mine)))) other None ∙ ap (λ ls. set ls other nothing) (map-set (listed_or nothing) s.views id (joined followed_by (Some (known_or nobody me.0)) (Some (known_or nobody mine))))

      list_there : get_elem? (set (map (listed_or nothing) s.views) id (listed_or nothing (joined followed_by (Some (known_or nobody me.0)) (Some (known_or nobody mine))))) other ≡ some (known_or nobody mine).listed
      list_there = set_else (map (listed_or nothing) s.views) id other (listed_or nothing (joined followed_by (Some (known_or nobody me.0)) (Some (known_or nobody mine)))) ne ∙ at_map (listed_or nothing) s.views other (Some (known_or nobody mine)) other_there
