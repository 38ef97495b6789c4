-- A seat and the board that it is of.
use Rattle.std.proofs.Common.{◌≡◌, ◌∙◌, ℕ, ◌+◌, ◌<◌, ◌≤◌, Option, None, Some, List, length, option_map, refl, sym, ap, subst, subst₂, arith}
use Rattle.atomic_table.specs.Seated.{TableId}
use Rattle.bip_defs.specs.WordValues.{value_of}
use Rattle.claim_words.specs.Board.{Board}
use Rattle.claim_words.specs.WordCodes.{roots_in, rows_in}
use Rattle.claim_words.specs.Rule.{Known}
use Rattle.claim_words.specs.Seat.{Seat}
use Rattle.board_seats.proofs.WordCodes.{firsts_long, rest_below}
use Rattle.claim_words.specs.Stored.{IsLaid, board_in, shown}

-- A seat of a board is of the board's table, and knows what the words held when it was opened
pub record IsOf (table id : TableId) (k : Known) (rows : ℕ) (opened : List ℕ) : Type 0 where
  pub same_table : table ≡ id
  pub same_rows : k.opened.rows ≡ rows_in rows opened
  pub same_roots : k.opened.roots ≡ roots_in rows opened

pub is_of : (table id : TableId) (k : Known) (rows : ℕ) (opened : List ℕ) (s : Seat) (b : Board) → shown table k ≡ s → s.board ≡ b → board_in id rows opened ≡ b → IsOf table id k rows opened
is_of table id k rows opened s b view same board =
    let e : (shown table k).board ≡ board_in id rows opened = ap (λ (t : Seat). t.board) view ∙ same ∙ sym board in
    record {
      same_table = ap (λ (d : Board). d.id) e;
      same_rows = ap (λ (d : Board). d.rows) e;
      same_roots = ap (λ (d : Board). d.roots) e;
    }

-- a row of the board has a word

pub row_in_range : (id : TableId) (rows : ℕ) (opened : List ℕ) (b : Board) (row : ℕ) → board_in id rows opened ≡ b → row < length b.rows → row < length (rows_in rows opened)
row_in_range id rows opened b row board lt = subst (λ (d : Board). row < length d.rows) (sym board) lt

pub root_in_range : (id : TableId) (rows : ℕ) (opened : List ℕ) (b : Board) (root : ℕ) → board_in id rows opened ≡ b → root < length b.roots → root < length (roots_in rows opened)
root_in_range id rows opened b root board lt = subst (λ (d : Board). root < length d.roots) (sym board) lt

-- the word of a root stands behind those of the rows
pub root_at : (fact rows : ℕ) (opened : List ℕ) (known : List (Option ℕ)) (x root : ℕ) → fact ≡ rows → 1 + fact ≤ length opened → known ≡ rows_in fact opened → x ≡ root → 1 + rows + x ≡ 1 + length known + root
root_at fact rows opened known x root is there same e = let many = ap length same ∙ firsts_long fact opened there in omega (arith, many, is, e)

pub root_word_below : (id : TableId) (fact rows root : ℕ) (opened : List ℕ) → IsLaid id rows fact opened → root < length (roots_in fact opened) → 1 + rows + root < id.words
root_word_below id fact rows root opened a lt = subst₂ (λ m i. 1 + m + root < i) a.rows_known (sym a.all) (rest_below value_of fact opened root lt)

-- a row or a column is its number
pub numbered : (o : Option ℕ) → option_map (λ (x : ℕ). x) o ≡ o
numbered None = refl
numbered (Some x) = refl

-- the spare word
pub some_words : (id : TableId) (fact rows : ℕ) (opened : List ℕ) → IsLaid id rows fact opened → 0 < id.words
some_words id fact rows opened a = let all = a.all in let there = a.rows_there in omega (arith, all, there)
