-- A board as it is opened.
use Rattle.std.proofs.Common.{◌≡◌, ◌∙◌, ◌⊎◌, ℕ, ◌+◌, ◌-◌, ◌<◌, ◌≤◌, List, [], ◌∷◌, ◌++◌, Option, None, map, replicate, drop, length, slice_index, refl, sym, ap, subst, ⊎_elim, arith}
use Rattle.std.proofs.lemmas.List.{get_or-map, get_or-replicate, get_or_past, length-append, length-map, length-replicate}
use Rattle.std.proofs.Math.ListN.{get_or-append}
use Rattle.std.proofs.Math.Seq.{drop-append_seam}
use Rattle.atomic_table.specs.Seated.{TableId}
use Rattle.atomic_table.specs.Table.{opening}
use Rattle.bip_defs.specs.WordValues.{held, value_of}
use Rattle.bip_graph.specs.Matching.{Pairing}
use Rattle.flip_words.specs.Accounts.{is_held}
use Rattle.flip_words.specs.Board.{Board, IsOpenedFrom}
use Rattle.flip_words.specs.WordCodes.{mate_of, mates_in, takers_in, tree_of, trees_in}
use Rattle.flip_words.specs.Listed.{nothing}
use Rattle.flip_words.specs.OpenedBoards.{AreLaid, AreOpening, IsMateIn}
use Rattle.flip_words.specs.Rule.{Kept, SetsItsOwn, opened_in, opener}
use Rattle.flip_words.specs.Seat.{first_seat, more_seats, new_seat}
use Rattle.flip_words.specs.Stored.{board_in}
use Rattle.board_seats.proofs.WordCodes.{first_read, firsts_long}
use Rattle.board_seats.proofs.Numbered.{more_last}
use Rattle.board_seats.proofs.SeatNumbers.{only_view, seated_alone}
use Rattle.board_seats.specs.View.{listed_or}

pub kept_opening : {S : Type 0} (rows cols : ℕ) (words : List ℕ) → AreOpening rows cols words → Kept rows cols words (opening {S = S} words [] (opener rows cols words))
kept_opening rows cols words a = record {
  spare = a.empty 0 (omega arith);
  as_many = refl;
  fits = λ root lt. let e = a.empty (1 + root) (omega arith) in omega (arith, e);
  trees = refl;
  seats = seated_alone nothing (opened_in rows cols words);
  settles = record {
    takes = record {
      as_many = firsts_long cols words (omega (arith, a.as_many));
      stands = λ root number h. elim h [ ];
      once = λ root. sym (ap is_held (untaken root));
    };
    seen = λ root number h. elim h [ ];
    sets = record { as_many = refl; stands = λ v mate h. elim h [ ]; stays = λ v none. refl; once = λ v. omega arith };
  };
  owners = λ id v at. subst (λ w. SetsItsOwn (trees_in cols words) (listed_or nothing w)) (only_view id v at) (λ vertex mate h. elim h [ ]);
}
  where
    below_or : (i n : ℕ) → (i < n) ⊎ (n ≤ i)
    below_or i n = grind arith

    untaken : (root : ℕ) → held (takers_in cols words) root ≡ None
    untaken root = ⊎_elim
        (λ lt. first_read cols words root (subst (λ n. root < n) (sym (firsts_long cols words (omega (arith, a.as_many)))) lt) ∙ ap value_of (a.empty (1 + root) (omega arith)))
        (λ le. get_or_past (takers_in cols words) root None (omega (arith, firsts_long cols words (omega (arith, a.as_many))))) (below_or root cols)

-- Words that were laid are words with which a board may be opened.

module _ (m : Pairing) (trees : List (Option ℕ)) (words : List ℕ) (a : AreLaid m trees words) (many : length trees ≡ m.rows + m.cols) where
  vertices_many : length a.vertices ≡ m.rows + m.cols
  vertices_many = sym (length-map a.vertices tree_of) ∙ ap length a.their_trees ∙ many

  pub laid_opening : AreOpening m.rows m.cols words
  laid_opening = record {
    as_many = ap length a.order ∙ length-append (replicate (1 + m.cols) 0) a.vertices ∙ (λ i. length-replicate {A = ℕ} (1 + m.cols) 0 i + vertices_many i);
    empty = λ i lt. ap (λ ws. slice_index ws i) a.order ∙ get_or-append (replicate (1 + m.cols) 0) a.vertices 0 i (omega (arith, length-replicate {A = ℕ} (1 + m.cols) 0)) ∙ get_or-replicate (1 + m.cols) i 0 0 lt;
  }

  after : drop (1 + m.cols) words ≡ a.vertices
  after = (λ i. drop (sym (length-replicate {A = ℕ} (1 + m.cols) 0) i) (a.order i)) ∙ drop-append_seam (replicate (1 + m.cols) 0) a.vertices

  mate_at : (v : ℕ) → v < m.rows + m.cols → IsMateIn m v (held (mates_in m.cols words) v)
  mate_at v lt =
      let within : v < length a.vertices = subst (λ n. v < n) (sym vertices_many) lt in
      subst (IsMateIn m v) (sym (ap (λ vs. held (map mate_of vs) v) after ∙ get_or-map mate_of a.vertices v 0 None within)) (a.mates v within)

  pub laid_board : (id : TableId) → IsOpenedFrom m trees (board_in id (opened_in m.rows m.cols words))
  laid_board id = record {
    rows = refl;
    cols = refl;
    trees = ap (map tree_of) after ∙ a.their_trees;
    as_many = ap (λ vs. length (map mate_of vs)) after ∙ length-map a.vertices mate_of ∙ vertices_many;
    row = λ r c lt. (mate_at r (omega (arith, lt))).of_row c lt;
    col = λ r c lt. (mate_at (m.rows + c) (omega (arith, lt))).of_col r c refl;
  }

-- New seats.

pub seats_more : (b : Board) (n : ℕ) → 1 ≤ n → first_seat b (1 + n) nothing ∷ (more_seats nothing b 1 (n - 1) ++ new_seat b n ∷ []) ≡ first_seat b (n + 1) nothing ∷ more_seats nothing b 1 (n + 1 - 1)
seats_more b n least = λ i. first_seat b (count i) nothing ∷ (sym (more_last nothing b 1 (n - 1) ∙ ap (λ m. more_seats nothing b 1 (n - 1) ++ new_seat b m ∷ []) last) ∙ ap (more_seats nothing b 1) same) i
  where
    count : 1 + n ≡ n + 1
    count = omega arith

    last : 1 + (n - 1) ≡ n
    last = omega (arith, least)

    same : n - 1 + 1 ≡ n + 1 - 1
    same = omega (arith, least)
