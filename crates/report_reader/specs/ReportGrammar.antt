-- Reading a report from its start: each function gives what stands there and the bytes behind it, or nothing.
use Rattle.std.specs.Prelude.{◌≡◌, ℕ, zero, suc, ◌+◌, ◌-◌, ◌*◌, ◌==◌, nat_lt, nat_eq, if◌then◌else◌, Bool, true, false, ◌&&◌, ◌||◌, List, [], ◌∷◌, ◌++◌, length, drop, Option, Some, None, Result, Ok, Err, codes}
use Rattle.std.specs.Char.{is_ascii_digit}
use Rattle.std.specs.List.{starts_with}
use Rattle.bip_defs.specs.Blocks.{Block, all_rows}
use Rattle.bip_defs.specs.Matching.{cols_of}
use Rattle.bip_defs.specs.Matrix.{Place}
use Rattle.bip_graph.specs.Answers.{where_asked}
use Rattle.bip_graph.specs.Texts.{Report, Sizes}
use Rattle.report_reader.specs.declared.stop.Stop.{Stop}
use Rattle.report_reader.specs.declared.stop.Stop.TheVariants.{Memory, Other}

infixl 10 ◌>>=◌
abbrev pub ◌>>=◌ : {A B : Type 0} → Option A → (A → Option B) → Option B
(Some x) >>= f = f x
None >>= f = None

-- What a function returned, seen by view, is what reading gives, unless memory ran out.
abbrev pub Stops : {Y : Type 0} → Stop → Option Y → Type 0
Stops Memory read = Unit {0}
Stops Other read = read ≡ None

abbrev pub ReadsAs : {X Y : Type 0} → (X → Y) → Result X Stop → Option Y → Type 0
ReadsAs view (Ok x) read = read ≡ Some (view x)
ReadsAs view (Err e) read = Stops e read

-- ---- words and numbers

unfoldable pub word_at : List ℕ → List ℕ → Option (List ℕ)
word_at word bytes = if starts_with nat_eq bytes word then Some (drop (length word) bytes) else None

-- a number goes on with the digits that stand there
unfoldable pub digits_on : ℕ → List ℕ → Option (ℕ × List ℕ)
digits_on n [] = Some (n, [])
digits_on n (c ∷ cs) =
    if is_ascii_digit c
    then (if nat_lt 4294967295 (n * 10 + (c - 48)) then None else digits_on (n * 10 + (c - 48)) cs)
    else Some (n, c ∷ cs)

unfoldable pub number_at : List ℕ → Option (ℕ × List ℕ)
number_at [] = None
number_at (c ∷ cs) =
    if c == 48
    then Some (0, cs)
    else (if is_ascii_digit c then digits_on (c - 48) cs else None)

-- a space and a number
unfoldable pub field_at : List ℕ → Option (ℕ × List ℕ)
field_at bytes = do
  rest ← word_at (codes " ") bytes
  number_at rest

-- rows and columns count from 1
unfoldable pub id_of : ℕ × List ℕ → Option (ℕ × List ℕ)
id_of n = if n.0 == 0 then None else Some (n.0 - 1, n.1)

-- ---- lines

unfoldable pub line_end : List ℕ → Option (List ℕ)
line_end bytes = word_at (10 ∷ []) bytes

-- a word and one number
unfoldable pub one_at : List ℕ → List ℕ → Option (ℕ × List ℕ)
one_at word bytes = do
  rest ← word_at word bytes
  a ← field_at rest
  after ← line_end a.1
  Some (a.0, after)

-- a word and two numbers
unfoldable pub two_at : List ℕ → List ℕ → Option ((ℕ × ℕ) × List ℕ)
two_at word bytes = do
  rest ← word_at word bytes
  a ← field_at rest
  b ← field_at a.1
  after ← line_end b.1
  Some ((a.0, b.0), after)

-- a word and three numbers
unfoldable pub three_at : List ℕ → List ℕ → Option ((ℕ × ℕ × ℕ) × List ℕ)
three_at word bytes = do
  rest ← word_at word bytes
  a ← field_at rest
  b ← field_at a.1
  c ← field_at b.1
  after ← line_end c.1
  Some ((a.0, b.0, c.0), after)

unfoldable pub sizes_at : List ℕ → Option (Sizes × List ℕ)
sizes_at bytes = do
  rest ← word_at (codes "matrix") bytes
  m ← field_at rest
  n ← field_at m.1
  e ← field_at n.1
  after ← line_end e.1
  Some (record { rows = m.0; cols = n.0; entries = e.0 }, after)

-- the rows or columns of a line, up to its end; there are less of them than `most`
unfoldable pub ids_at : ℕ → List ℕ → Option (List ℕ × List ℕ)
ids_at zero bytes = None
ids_at (suc most) bytes = if starts_with nat_eq bytes (codes " ") then (do
  n ← field_at bytes
  first ← id_of n
  others ← ids_at most first.1
  Some (first.0 ∷ others.0, others.1)) else (do
    after ← line_end bytes
    Some ([], after))

unfoldable pub list_at : List ℕ → List ℕ → Option (List ℕ × List ℕ)
list_at word bytes = do
  rest ← word_at word bytes
  ids_at (suc (length rest)) rest

-- ---- parts and blocks

-- each number is below all later ones, and none is below the least
unfoldable pub rises_from : ℕ → List ℕ → Bool
rises_from least [] = true
rises_from least (x ∷ xs) = if nat_lt x least then false else rises_from (suc x) xs

abbrev pub rises : List ℕ → Bool
rises xs = rises_from 0 xs

-- two rising lists of these lengths
unfoldable pub lists_at : ℕ → ℕ → List ℕ → Option ((List ℕ × List ℕ) × List ℕ)
lists_at m n bytes = do
  rows ← list_at (codes "rows") bytes
  cols ← list_at (codes "columns") rows.1
  if length rows.0 == m && length cols.0 == n
      then (if rises rows.0 && rises cols.0 then Some ((rows.0, cols.0), cols.1) else None)
      else None

unfoldable pub part_at : List ℕ → List ℕ → Option ((List ℕ × List ℕ) × List ℕ)
part_at word bytes = do
  sizes ← two_at word bytes
  if sizes.0.0 == 0 && sizes.0.1 == 0
      then Some (([], []), sizes.1)
      else lists_at sizes.0.0 sizes.0.1 sizes.1

-- the block of this number, of at most so many rows
unfoldable pub block_at : ℕ → ℕ → List ℕ → Option ((List ℕ × List ℕ) × List ℕ)
block_at number room bytes = do
  head ← two_at (codes "block") bytes
  if head.0.0 == number && (nat_lt 0 head.0.1 && nat_lt head.0.1 (suc room))
      then lists_at head.0.1 head.0.1 head.1
      else None

-- so many blocks from this number on, of at most so many rows in all
unfoldable pub blocks_at : ℕ → ℕ → ℕ → List ℕ → Option (List Block × List ℕ)
blocks_at zero number room bytes = Some ([], bytes)
blocks_at (suc count) number room bytes = do
  b ← block_at number room bytes
  others ← blocks_at count (suc number) (room - length b.0.0) b.1
  Some (record { rows = b.0.0; cols = b.0.1 } ∷ others.0, others.1)

unfoldable pub square_at : List ℕ → Option (List Block × List ℕ)
square_at bytes = do
  head ← two_at (codes "square") bytes
  blocks ← blocks_at head.0.1 1 head.0.0 head.1
  if length (all_rows blocks.0) == head.0.0 then Some blocks else None

-- ---- components

-- the component of this number
unfoldable pub component_at : ℕ → List ℕ → Option ((List ℕ × List ℕ) × List ℕ)
component_at number bytes = do
  head ← three_at (codes "component") bytes
  if head.0.0 == number
      then (if head.0.1 == 0 && head.0.2 == 0 then None else lists_at head.0.1 head.0.2 head.1)
      else None

-- so many components from this number on
unfoldable pub numbered_at : ℕ → ℕ → List ℕ → Option (List Block × List ℕ)
numbered_at zero number bytes = Some ([], bytes)
numbered_at (suc count) number bytes = do
  c ← component_at number bytes
  others ← numbered_at count (suc number) c.1
  Some (record { rows = c.0.0; cols = c.0.1 } ∷ others.0, others.1)

-- how many there are, and they
unfoldable pub counted_at : List ℕ → List ℕ → Option (List Block × List ℕ)
counted_at word bytes = do
  count ← one_at word bytes
  numbered_at count.0 1 count.1

-- the components of a part; version 1 has none
unfoldable pub components_at : ℕ → List ℕ → List ℕ → Option (List Block × List ℕ)
components_at version word bytes = if version == 2 then counted_at word bytes else Some ([], bytes)

-- ---- orders and pairs

unfoldable pub both_orders_at : List ℕ → Option (Option (List ℕ × List ℕ) × List ℕ)
both_orders_at bytes = do
  rows ← list_at (codes "row_order") bytes
  cols ← list_at (codes "column_order") rows.1
  Some (Some (rows.0, cols.0), cols.1)

unfoldable pub orders_at : List ℕ → Option (Option (List ℕ × List ℕ) × List ℕ)
orders_at bytes =
    if starts_with nat_eq bytes (codes "row_order")
    then both_orders_at bytes
    else Some (None, bytes)

unfoldable pub pair_at : List ℕ → Option (Place × List ℕ)
pair_at bytes = do
  r ← number_at bytes
  row ← id_of r
  c ← field_at row.1
  col ← id_of c
  after ← line_end col.1
  Some ((row.0, col.0), after)

unfoldable pub pair_list_at : ℕ → List ℕ → Option (List Place × List ℕ)
pair_list_at zero bytes = Some ([], bytes)
pair_list_at (suc count) bytes = do
  p ← pair_at bytes
  others ← pair_list_at count p.1
  Some (p.0 ∷ others.0, others.1)

unfoldable pub pairs_at : List ℕ → Option (List Place × List ℕ)
pairs_at bytes = do
  count ← one_at (codes "pairs") bytes
  pairs ← pair_list_at count.0 count.1
  if rises (cols_of pairs.0) then Some pairs else None

-- ---- the whole

-- the version, which is 1 or 2
unfoldable pub version_at : List ℕ → Option (ℕ × List ℕ)
version_at bytes = do
  version ← one_at (codes "btf") bytes
  if version.0 == 1 || version.0 == 2 then Some version else None

-- what stands between the version and the parts
unfoldable pub head_at : List ℕ → Option ((Sizes × ℕ) × List ℕ)
head_at bytes = do
  sizes ← sizes_at bytes
  rank ← one_at (codes "rank") sizes.1
  Some ((sizes.0, rank.0), rank.1)

-- what stands behind them, up to the end of the bytes
unfoldable pub tail_at : List ℕ → Option (Option (List ℕ × List ℕ) × List Place)
tail_at bytes = do
  orders ← orders_at bytes
  pairs ← pairs_at orders.1
  rest ← word_at (codes "end" ++ 10 ∷ []) pairs.1
  if length rest == 0 then Some (orders.0, pairs.0) else None

-- the lists of the parts, the components and the blocks
pub record Body : Type 0 where
  pub horizontal : List ℕ × List ℕ
  pub first : List Block
  pub blocks : List Block
  pub vertical : List ℕ × List ℕ
  pub second : List Block

unfoldable pub body_at : ℕ → List ℕ → Option (Body × List ℕ)
body_at version bytes = do
  horizontal ← part_at (codes "horizontal") bytes
  first ← components_at version (codes "horizontal_components") horizontal.1
  blocks ← square_at first.1
  vertical ← part_at (codes "vertical") blocks.1
  second ← components_at version (codes "vertical_components") vertical.1
  Some (
    record {
      horizontal = horizontal.0;
      first = first.0;
      blocks = blocks.0;
      vertical = vertical.0;
      second = second.0;
    },
    second.1,
  )

unfoldable pub report_at : List ℕ → Option Report
report_at bytes = do
  version ← version_at bytes
  head ← head_at version.1
  body ← body_at version.0 head.1
  rest ← tail_at body.1
  Some (record {
    sizes = head.0.0;
    rank = head.0.1;
    components = where_asked (version.0 == 2)
        (record { horizontal = body.0.first; vertical = body.0.second });
    horizontal_rows = body.0.horizontal.0;
    horizontal_cols = body.0.horizontal.1;
    blocks = body.0.blocks;
    vertical_rows = body.0.vertical.0;
    vertical_cols = body.0.vertical.1;
    orders = rest.0;
    pairs = Some rest.1;
  })
