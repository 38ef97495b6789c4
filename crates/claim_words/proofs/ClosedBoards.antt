-- A board that is closed with its last seat.
use Rattle.std.proofs.Common.{◌≡◌, ◌∙◌, ℕ, zero, suc, ◌+◌, ◌<◌, ◌≤◌, Option, Some, List, [], ◌∷◌, get_or, map, length, sym, ap, subst, arith}
use Rattle.std.specs.List.Sorted.{IsPermutation}
use mathlib.Core.Option.{some, some-injective, some-ne-none}
use lib.ListN.{get_elem?}
use Rattle.atomic_table.specs.Table.{Final, Me, Seen}
use Rattle.bip_defs.specs.WordValues.{held, value_of}
use Rattle.claim_words.specs.Board.{Board, Words}
use Rattle.claim_words.specs.WordCodes.{AllFit, decoded, rows_in}
use Rattle.claim_words.specs.Listed.{all_listed, nothing}
use Rattle.claim_words.specs.Rule.{Kept, Known, nobody}
use Rattle.claim_words.specs.Seat.{Seat, first_seat, gathered}
use Rattle.claim_words.specs.Settles.{Settles, SettlesAll}
use Rattle.claim_words.specs.Stored.{IsLeft, shown}
use Rattle.board_seats.proofs.WordCodes.{first_read, rest_read}
use Rattle.claim_words.proofs.GatherLemmas.{settles_gathered, settles_permuted}
use Rattle.claim_words.proofs.SettledWords.{alone}
use Rattle.board_seats.specs.View.{IsOpen, known_or, listed_or}

-- What is read.

found : (ws : List ℕ) (i w : ℕ) → get_elem? ws i ≡ some w → get_or ws i 0 ≡ w
found [] i w at = absurd (some-ne-none w (sym at))
found (x ∷ ws) zero w at = some-injective x w at
found (x ∷ ws) (suc i) w at = found ws i w at

pub found_fits : (ws : List ℕ) (i w : ℕ) → AllFit ws → get_elem? ws i ≡ some w → w ≤ 4294967296
found_fits ws i w fits at = subst (λ x. x ≤ 4294967296) (found ws i w at) (fits i)

pub row_held : (n : ℕ) (ws : List ℕ) (now : Words) (x row w : ℕ) → decoded n ws ≡ now → row < length now.rows → x ≡ row → get_elem? ws (1 + x) ≡ some w → value_of w ≡ held now.rows row
row_held n ws now x row w view lt e at = subst (λ (m : Words). row < length m.rows → value_of w ≡ held m.rows row) view
    (λ lt'. sym (first_read n ws row lt' ∙ ap value_of (found ws (1 + row) w (subst (λ r. get_elem? ws (1 + r) ≡ some w) e at)))) lt

pub root_held : (n : ℕ) (ws : List ℕ) (now : Words) (x root w : ℕ) → decoded n ws ≡ now → root < length now.roots → x ≡ root → get_elem? ws (1 + n + x) ≡ some w → value_of w ≡ held now.roots root
root_held n ws now x root w view lt e at = subst (λ (m : Words). root < length m.roots → value_of w ≡ held m.roots root) view
    (λ lt'. sym (rest_read value_of n ws root lt' ∙ ap value_of (found ws (1 + n + root) w (subst (λ r. get_elem? ws (1 + n + r) ≡ some w) e at)))) lt

-- What the last seat is told.

pub left : {S : Type 0} (n rows : ℕ) (opened words : List ℕ) (xs : List S) (id : ℕ) (v : Option Known) → n ≡ rows → 1 + n ≤ length opened → Final (Seen (Kept n opened) id v) words xs → IsLeft rows words
left n rows opened words xs id v fact there (s, (kept, at), same, long, homes) = record {
  fits = subst AllFit same kept.fits;
  rows_there = let many = sym (ap length same) ∙ kept.as_many in omega (arith, many, fact, there);
}

pub last_known : {S : Type 0} (n rows : ℕ) (opened words : List ℕ) (xs : List S) (id : ℕ) (table : Rattle.atomic_table.specs.Seated.TableId) (me : Me S (Option Known)) (b : Board) (ss ts : List Seat)
    → IsPermutation ss ts → IsOpen nobody me → n ≡ rows → shown table (known_or nobody me.0) ≡ first_seat b 1 (gathered ts) → Final (Seen (Kept n opened) id me.0) words xs → SettlesAll b (decoded rows words) ss
last_known n rows opened words xs id table me b ss ts moved live fact view (s, (kept, at), same, long, homes) =
    settles_permuted b.rows b.roots (decoded rows words) ss ts moved (settles_gathered b.rows b.roots (decoded rows words) ts
    (subst (λ (t : Seat). Settles t.board.rows t.board.roots (decoded rows words) t.listed) view
    (subst (λ m. Settles (known_or nobody me.0).opened.rows (known_or nobody me.0).opened.roots (decoded m words) (known_or nobody me.0).listed) fact
    (subst (λ ws. Settles (known_or nobody me.0).opened.rows (known_or nobody me.0).opened.roots (decoded n ws) (known_or nobody me.0).listed) same account))))
  where
    there : get_elem? s.views id ≡ some (Some (known_or nobody me.0))
    there = at ∙ ap some live.0

    account : Settles (known_or nobody me.0).opened.rows (known_or nobody me.0).opened.roots (decoded n s.words) (known_or nobody me.0).listed
    account = subst (Settles (known_or nobody me.0).opened.rows (known_or nobody me.0).opened.roots (decoded n s.words)) (alone kept.seats id (known_or nobody me.0) there (ap (λ (t : Seat). t.number) view) (ap (λ (t : Seat). t.seats) view))
        (subst (λ rows. Settles rows (known_or nobody me.0).opened.roots (decoded n s.words) (all_listed (map (listed_or nothing) s.views))) (sym (ap (λ (o : Words). o.rows) (kept.seats.opened id (known_or nobody me.0) there)))
        (subst (λ roots. Settles (rows_in n opened) roots (decoded n s.words) (all_listed (map (listed_or nothing) s.views))) (sym (ap (λ (o : Words). o.roots) (kept.seats.opened id (known_or nobody me.0) there))) kept.settles))
