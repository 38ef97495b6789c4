-- A board that is closed: all seats in one, and the mates that the words hold.
use Rattle.std.proofs.Common.{◌≡◌, ◌∙◌, ℕ, zero, suc, ◌+◌, ◌-◌, ◌<◌, List, [], ◌∷◌, ◌++◌, Option, None, Some, flat_map, map, set, take, drop, length, get_or, refl, sym, ap, subst, ⊎_elim, arith}
use Rattle.std.specs.List.Sorted.{IsPermutation}
use Rattle.std.proofs.lemmas.List.{get_or-drop, length-append, length-drop, take_more, take_more_set}
use mathlib.Core.Option.{some, some-injective, some-ne-none}
use lib.ListN.{get_elem?}
use Rattle.atomic_table.specs.Seated.{TableId}
use Rattle.atomic_table.specs.Table.{Final, Seen}
use Rattle.bip_defs.specs.Lists.{Among}
use Rattle.bip_defs.specs.WordValues.{held}
use Rattle.bip_defs.proofs.Sets.{among_last}
use Rattle.bip_graph.specs.Mates.{Mated}
use Rattle.flip_words.specs.Accounts.{Settles}
use Rattle.flip_words.specs.Board.{Board}
use Rattle.flip_words.specs.WordCodes.{mate_of, mates_in, takers_in}
use Rattle.flip_words.specs.Listed.{Listed, all_listed, followed_by, nothing}
use Rattle.flip_words.specs.Rule.{Kept, Known, Opened, opened_in, nobody}
use Rattle.flip_words.specs.ClosedBoards.{gathered, SettlesAll}
use Rattle.flip_words.specs.Seat.{AreNumbered, IsRightful, Seat, first_seat, lists_of}
use Rattle.flip_words.specs.Stored.{AreLeft, AreSized, board_in}
use Rattle.flip_words.proofs.AccountLemmas.{sets_moved, takes_moved}
use Rattle.board_seats.proofs.WordCodes.{rest_long, rest_read}
use Rattle.board_seats.proofs.Flat.{among_turned, times_turned, flat_last}
use Rattle.board_seats.proofs.Numbered.{among_moved_seats, numbered_last, times_moved_seats, IsGathering, listed_last}
use Rattle.board_seats.proofs.SeatNumbers.{only_flat, only_seat}
use Rattle.board_seats.specs.View.{AreSeated, known_or, listed_or}

-- one seat more has a property
pub each_more : (P : Seat → Type 0) (seats : List Seat) (i : ℕ) (seat : Seat) → i < length seats → seat ≡ get_or seats i seat → ((s : Seat) → Among s (take i seats) → P s) → P seat → (s : Seat) → Among s (take (i + 1) seats) → P s
each_more P seats i seat lt at before own s h = ⊎_elim (before s) (λ (e : s ≡ seat). subst P (sym e) own) (among_last s seat (take i seats) (subst (Among s) (take_more seats i seat lt ∙ ap (λ t. take i seats ++ t ∷ []) (sym at)) h))

-- All seats in one.

-- the first has taken in all but these others
pub record IsJoined (b : Board) (whole : Listed) (others : List Seat) (first : Seat) : Type 0 where
  pub numbered : AreNumbered b 1 others
  pub first_is : first ≡ first_seat b (1 + length others) first.listed
  pub lists : followed_by (all_listed (lists_of others)) first.listed ≡ whole

gathering : IsGathering followed_by all_listed
gathering = record {
  last = λ ls l m. λ i. record {
    taken = flat_last (λ (k : Listed). k.taken) ls l m.taken i;
    seen = flat_last (λ (k : Listed). k.seen) ls l m.seen i;
    sets = flat_last (λ (k : Listed). k.sets) ls l m.sets i;
    looks = flat_last (λ (k : Listed). k.looks) ls l m.looks i;
  };
}

module _ {b : Board} {whole : Listed} {others : List Seat} {first : Seat} (rest : List Seat) (last : Seat) (j : IsJoined b whole others first) (popped : others ≡ rest ++ last ∷ []) where
  pub last_is : AreNumbered b 1 rest × (last.board ≡ b) × (last.number ≡ 1 + length rest)
  last_is = numbered_last b 1 rest last (subst (AreNumbered b 1) popped j.numbered)

  pub first_counts : first ≡ first_seat b (1 + last.number) first.listed
  first_counts = j.first_is ∙ (λ i. first_seat b (1 + (ap length popped ∙ length-append rest (last ∷ []) ∙ (let e : length rest + 1 ≡ 1 + length rest = omega arith in e) ∙ sym last_is.2) i) first.listed)

  pub joined_more : {now : Seat} → now ≡ first_seat b last.number (followed_by last.listed first.listed) → IsJoined b whole rest now
  joined_more is = subst (IsJoined b whole rest) (sym is) record {
    numbered = last_is.0;
    first_is = λ i. first_seat b (last_is.2 i) (followed_by last.listed first.listed);
    lists = sym (listed_last gathering rest last first.listed) ∙ ap (λ ss. followed_by (all_listed (lists_of ss)) first.listed) (sym popped) ∙ j.lists;
  }

-- The words that are left.

-- where the seat 0 is the only one, its lists are all that there are
alone : {o : Opened} {views : List (Option Known)} → AreSeated o views → (id : ℕ) (k : Known) → get_elem? views id ≡ some (Some k) → k.number ≡ 0 → k.seats ≡ 1 → all_listed (map (listed_or nothing) views) ≡ k.listed
alone {views = views} a id k at zeroth one = λ i. record {
  taken = only_flat nothing (λ (l : Listed). l.taken) refl views id k at (only_seat a id k at zeroth one) i;
  seen = only_flat nothing (λ (l : Listed). l.seen) refl views id k at (only_seat a id k at zeroth one) i;
  sets = only_flat nothing (λ (l : Listed). l.sets) refl views id k at (only_seat a id k at zeroth one) i;
  looks = only_flat nothing (λ (l : Listed). l.looks) refl views id k at (only_seat a id k at zeroth one) i;
}

pub left : {S : Type 0} (table : TableId) (rows cols : ℕ) (opened : List ℕ) (id : ℕ) (v : Option Known) (words : List ℕ) (homes : List S) → Final (Seen (Kept rows cols opened) id v) words homes → v ≡ Some (known_or nobody v) → (known_or nobody v).number ≡ 0 → (known_or nobody v).seats ≡ 1
    → length opened ≡ 1 + cols + (rows + cols) → AreLeft (board_in table (opened_in rows cols opened)) (known_or nobody v).listed words
left table rows cols opened id v words homes final live zeroth one many = record {
  as_many = ap length (sym final.2) ∙ final.1.0.as_many ∙ many;
  settles = subst (λ ws. Settles cols (mates_in cols opened) (takers_in cols ws) (mates_in cols ws) (known_or nobody v).listed) final.2
      (subst (Settles cols (mates_in cols opened) (takers_in cols final.0.words) (mates_in cols final.0.words)) (alone final.1.0.seats id (known_or nobody v) (final.1.1 ∙ ap some live) zeroth one) final.1.0.settles);
}

-- Their mates.

found_at : (ws : List ℕ) (i w d : ℕ) → get_elem? ws i ≡ some w → get_or ws i d ≡ w
found_at [] i w d e = absurd (some-ne-none w (sym e))
found_at (x ∷ ws) zero w d e = some-injective x w e
found_at (x ∷ ws) (suc i) w d e = found_at ws i w d e

mate_found : (cols : ℕ) (ws : List ℕ) (v word : ℕ) → v < length (mates_in cols ws) → get_elem? ws (1 + cols + v) ≡ some word → held (mates_in cols ws) v ≡ mate_of word
mate_found cols ws v word lt e = rest_read mate_of cols ws v lt ∙ ap mate_of (found_at ws (1 + cols + v) word 0 e)

module _ (rows cols : ℕ) (ws : List ℕ) (many : length ws ≡ 1 + cols + (rows + cols)) where
  all_vertices : length (mates_in cols ws) ≡ rows + cols
  all_vertices = rest_long mate_of cols ws ∙ (let e : length ws - (1 + cols) ≡ rows + cols = omega (arith, many) in e)

  pub row_more : (mates : List (Option ℕ)) (r word : ℕ) (mate : Option ℕ) → length mates ≡ rows → r < rows → get_elem? ws (1 + cols + r) ≡ some word → mate ≡ mate_of word → take r mates ≡ take r (mates_in cols ws) → take (r + 1) (set mates r mate) ≡ take (r + 1) (mates_in cols ws)
  row_more mates r word mate long lt at is before =
      take_more_set mates r mate (omega (arith, long, lt)) ∙ (λ i. before i ++ (is ∙ sym (mate_found cols ws r word (omega (arith, all_vertices, lt)) at)) i ∷ []) ∙ sym (take_more (mates_in cols ws) r None (omega (arith, all_vertices, lt)))

  pub col_more : (mates : List (Option ℕ)) (c word : ℕ) (mate : Option ℕ) → length mates ≡ cols → c < cols → get_elem? ws (1 + cols + rows + c) ≡ some word → mate ≡ mate_of word → take c mates ≡ take c (drop rows (mates_in cols ws)) → take (c + 1) (set mates c mate) ≡ take (c + 1) (drop rows (mates_in cols ws))
  col_more mates c word mate long lt at is before =
      take_more_set mates c mate (omega (arith, long, lt)) ∙ (λ i. before i ++ (is ∙ sym found) i ∷ []) ∙ sym (take_more (drop rows (mates_in cols ws)) c None (omega (arith, length-drop rows (mates_in cols ws), all_vertices, lt)))
    where
      found : held (drop rows (mates_in cols ws)) c ≡ mate_of word
      found = get_or-drop rows (mates_in cols ws) c None ∙ mate_found cols ws (rows + c) word (omega (arith, all_vertices, lt)) (ap (get_elem? ws) (let e : 1 + cols + (rows + c) ≡ 1 + cols + rows + c = omega arith in e) ∙ at)

-- The lists of all seats, in another order.

settles_turned : {trees : ℕ} {opened takers mates : List (Option ℕ)} (l m : Listed) → Settles trees opened takers mates (followed_by m l) → Settles trees opened takers mates (followed_by l m)
settles_turned {trees = trees} {opened = opened} {takers = takers} {mates = mates} l m a = record {
  takes = takes_moved trees takers (m.taken ++ l.taken) (l.taken ++ m.taken) a.takes (λ i. times_turned i l.taken m.taken) (λ p. among_turned p l.taken m.taken);
  seen = λ r n h. a.seen r n (among_turned (r, n) l.seen m.seen h);
  sets = sets_moved opened mates (m.sets ++ l.sets) (l.sets ++ m.sets) a.sets (λ i. times_turned i l.sets m.sets) (λ p. among_turned p l.sets m.sets);
}

settles_permuted : {trees : ℕ} {opened takers mates : List (Option ℕ)} (ss ts : List Seat) → IsPermutation ss ts → Settles trees opened takers mates (all_listed (lists_of ts)) → Settles trees opened takers mates (all_listed (lists_of ss))
settles_permuted {trees = trees} {opened = opened} {takers = takers} {mates = mates} ss ts moved a = record {
  takes = takes_moved trees takers (flat_map (λ (l : Listed). l.taken) (lists_of ts)) (flat_map (λ (l : Listed). l.taken) (lists_of ss)) a.takes
      (λ i. sym (times_moved_seats (λ (l : Listed). l.taken) i ss ts moved)) (λ p. among_moved_seats (λ (l : Listed). l.taken) ss ts p moved);
  seen = λ r n h. a.seen r n (among_moved_seats (λ (l : Listed). l.seen) ss ts (r, n) moved h);
  sets = sets_moved opened mates (flat_map (λ (l : Listed). l.sets) (lists_of ts)) (flat_map (λ (l : Listed). l.sets) (lists_of ss)) a.sets
      (λ i. sym (times_moved_seats (λ (l : Listed). l.sets) i ss ts moved)) (λ p. among_moved_seats (λ (l : Listed). l.sets) ss ts p moved);
}

settles_gathered : {trees : ℕ} {opened takers mates : List (Option ℕ)} (ss : List Seat) → Settles trees opened takers mates (gathered ss) → Settles trees opened takers mates (all_listed (lists_of ss))
settles_gathered [] a = a
settles_gathered (s ∷ ss) a = settles_turned s.listed (all_listed (lists_of ss)) a

pub settles_all : (b : Board) (ss ts : List Seat) (l : Listed) (words : List ℕ) (m : Mated) → IsPermutation ss ts → AreLeft b l words → l ≡ gathered ts → ((s : Seat) → Among s ss → IsRightful s) → AreSized m b.rows b.cols → m.rows ++ m.cols ≡ mates_in b.cols words → SettlesAll b m ss
settles_all b ss ts l words m moved a is own sized mates = record {
  rows = sized.rows_are;
  cols = sized.cols_are;
  rightful = own;
  takers = takers_in b.cols words;
  settles = settles_permuted ss ts moved (settles_gathered ts (subst (Settles b.cols b.mates (takers_in b.cols words) (m.rows ++ m.cols)) is (subst (λ ms. Settles b.cols b.mates (takers_in b.cols words) ms l) (sym mates) a.settles)));
}
