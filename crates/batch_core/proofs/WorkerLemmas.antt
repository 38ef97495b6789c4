-- The shares of all workers, before their work and after it.
use Rattle.std.proofs.Common.{◌≡◌, ◌∙◌, ◌+◌, ◌<◌, ℕ, zero, suc, List, [], ◌∷◌, ◌++◌, length, map, Some, refl, sym, ap, arith, ap₂, get_or, take, drop, take_all}
use Rattle.std.specs.List.{All}
use Rattle.std.proofs.lemmas.List.{append-nil, drop_all, length-map}
use Rattle.std.proofs.lemmas.List.Elements.{All-cons, All-head, All-nil, All-pop, All-tail}
use Rattle.claim_words.specs.Board.{Board}
use Rattle.claim_words.specs.Seat.{Seat, more_seats, new_seats}
use Rattle.batch_core.specs.Shares.{IsAtBoard, Share, files_in, new_share}

-- ---- at the start

more_at_board : (b : Board) (files : List (List ℕ)) (number count : ℕ) → length b.rows ≡ length files → All (IsAtBoard b) (map (new_share files) (more_seats b number count))
more_at_board b files number zero rows = All-nil (IsAtBoard b)
more_at_board b files number (suc count) rows = All-cons (IsAtBoard b) _ _ (record { seat = refl; rows = rows }) (more_at_board b files (1 + number) count rows)

pub all_at_board : (b : Board) (files : List (List ℕ)) (seats : ℕ) → length b.rows ≡ length files → All (IsAtBoard b) (map (new_share files) (new_seats b seats))
all_at_board b files zero rows = All-nil (IsAtBoard b)
all_at_board b files (suc others) rows = All-cons (IsAtBoard b) _ _ (record { seat = refl; rows = rows }) (more_at_board b files 1 others rows)

-- a share of these files
abbrev pub IsOver : List (List ℕ) → Share → Type 0
IsOver files share = share.files ≡ files

pub new_files : (files : List (List ℕ)) (seats : List Seat) → All (IsOver files) (map (new_share files) seats)
new_files files [] = All-nil (IsOver files)
new_files files (seat ∷ seats) = All-cons (IsOver files) (new_share files seat) (map (new_share files) seats) refl (new_files files seats)

-- ---- afterwards

-- each has the files that it had
pub files_stay : (old new : List Share) → length new ≡ length old → ((i : ℕ) (d : Share) → i < length old → (get_or new i d).files ≡ (get_or old i d).files) → files_in new ≡ files_in old
files_stay [] [] same each = refl
files_stay [] (n ∷ ns) same each = absurd (omega (arith, same))
files_stay (o ∷ os) [] same each = absurd (omega (arith, same))
files_stay (o ∷ os) (n ∷ ns) same each =
    ap₂ (λ (x : List (List ℕ)) (xs : List (List (List ℕ))). x ∷ xs) (each 0 o (omega arith)) (files_stay os ns (omega (arith, same)) (λ i d lt. each (suc i) d (omega (arith, lt))))

-- all have the same files
pub same_files : (files : List (List ℕ)) (old new : List Share) → files_in new ≡ files_in old → All (IsOver files) old → All (IsOver files) new
same_files files [] [] e h = h
same_files files [] (n ∷ ns) e h = absurd cc
same_files files (o ∷ os) [] e h = absurd cc
same_files files (o ∷ os) (n ∷ ns) e h =
    let first : n.files ≡ files = one o n os ns e ∙ All-head (IsOver files) o os h in
    All-cons (IsOver files) n ns first (same_files files os ns (others o n os ns e) (All-tail (IsOver files) o os h))
  where
    one : (o n : Share) (os ns : List Share) → files_in (n ∷ ns) ≡ files_in (o ∷ os) → n.files ≡ o.files
    one o n os ns e = cc

    others : (o n : Share) (os ns : List Share) → files_in (n ∷ ns) ≡ files_in (o ∷ os) → files_in ns ≡ files_in os
    others o n os ns e = cc

-- all of a list is overwritten
pub all_written : (old new : List Share) (count : ℕ) → count ≡ length old → files_in new ≡ files_in old → take count (new ++ drop (length new) old) ≡ new
all_written old new count is e =
    let same : length new ≡ length old = sym (length-map new _) ∙ ap length e ∙ length-map old _ in
    let none : drop (length new) old ≡ [] = drop_all (length new) old (omega (arith, same)) in
    rw none (rw (append-nil new) (take_all count new (omega (arith, is, same))))

-- taken from the end

pub last_files : (files : List (List ℕ)) (all others : List Share) (share : Share) → all ≡ others ++ share ∷ [] → All (IsOver files) all → share.files ≡ files
last_files files all others share is over = (All-pop (IsOver files) all others (Some share) is over).1

pub other_files : (files : List (List ℕ)) (all others : List Share) (share : Share) → all ≡ others ++ share ∷ [] → All (IsOver files) all → All (IsOver files) others
other_files files all others share is over = (All-pop (IsOver files) all others (Some share) is over).0
