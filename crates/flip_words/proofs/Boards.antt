-- A seat, the board that it is of, and what a step leaves of it.
use Rattle.std.proofs.Common.{◌≡◌, ◌∙◌, ℕ, ◌+◌, ◌<◌, Option, Some, List, length, refl, sym, ap, subst, arith}
use Rattle.atomic_table.specs.Seated.{TableId}
use Rattle.atomic_table.specs.Table.{Me}
use Rattle.bip_defs.specs.Lists.{Among}
use Rattle.flip_words.specs.Board.{Board}
use Rattle.flip_words.specs.Rule.{IsOfTaken, Known, Opened, opened_in, nobody}
use Rattle.flip_words.specs.Seat.{HasSet, Seat, TookTreeOf}
use Rattle.flip_words.specs.Stored.{IsLaid, board_in, shown}
use Rattle.flip_words.specs.WordCodes.{mate_of}
use Rattle.board_seats.proofs.WordCodes.{rest_long}
use Rattle.board_seats.specs.View.{IsOpen}

-- A seat of a board is of the board's table, and knows what the board was opened with
pub record IsOf (table id : TableId) (k : Known) (o : Opened) : Type 0 where
  pub same_table : table ≡ id
  pub same_opened : k.opened ≡ o

pub is_of : {table id : TableId} {k : Known} {o : Opened} {s : Seat} {b : Board} → shown table k ≡ s → s.board ≡ b → board_in id o ≡ b → IsOf table id k o
is_of {table = table} {id = id} {k = k} {o = o} view same board =
    let e : board_in table k.opened ≡ board_in id o = ap (λ (t : Seat). t.board) view ∙ same ∙ sym board in
    record {
      same_table = ap (λ (d : Board). d.id) e;
      same_opened = λ i. record { rows = (e i).rows; cols = (e i).cols; mates = (e i).mates; trees = (e i).trees };
    }

-- after a step that tells what the seat knows now
pub open_after : {S : Type 0} {me after : Me S (Option Known)} {k : Known} → IsOpen nobody me → after ≡ (Some k, me.1) → IsOpen nobody after
open_after live e = subst (IsOpen nobody) (sym e) (refl, live.1)

-- Where words stand.

pub taker_place : {id : TableId} {rows cols known_rows known_cols : ℕ} {opened : List ℕ} → IsLaid id rows cols known_rows known_cols opened → (root : ℕ) → root < known_cols → 1 + root < id.words
taker_place laid root lt = omega (arith, laid.all, laid.many)

pub vertex_place : {id : TableId} {rows cols known_rows known_cols : ℕ} {opened : List ℕ} → IsLaid id rows cols known_rows known_cols opened → (v : ℕ) → v < length (opened_in known_rows known_cols opened).mates → 1 + cols + v < id.words
vertex_place {known_cols = known_cols} {opened = opened} laid v lt = omega (arith, laid.all, laid.many, laid.cols_known, lt, rest_long mate_of known_cols opened)

-- the seat knows where the word is
pub vertex_word_is : {table id : TableId} {k : Known} {o : Opened} {cols : ℕ} → IsOf table id k o → o.cols ≡ cols → (v : ℕ) → 1 + cols + v ≡ 1 + k.opened.cols + v
vertex_word_is of fact v = ap (λ n. 1 + n + v) (sym fact ∙ ap (λ (p : Opened). p.cols) (sym of.same_opened))

-- What a seat has done, as its view has it.

pub of_taken : {table : TableId} {k : Known} {s : Seat} → shown table k ≡ s → (v : ℕ) → TookTreeOf s v → IsOfTaken k.opened.trees k.listed v
of_taken {table = table} {k = k} view v took = let t : TookTreeOf (shown table k) v = subst (λ (s : Seat). TookTreeOf s v) (sym view) took in (t.0, k.number, t.1, t.2)

pub never_set : {table : TableId} {k : Known} {s : Seat} → shown table k ≡ s → (v : ℕ) → ¬ HasSet s v → (mate : ℕ) → ¬ Among (v, mate) k.listed.sets
never_set {table = table} {k = k} view v unset mate h = unset (subst (λ (s : Seat). HasSet s v) view (mate, h))
