-- What the table of a board keeps of its seats, and what a split and a join do to it.
use Rattle.std.specs.Prelude.{◌≡◌, ℕ, ◌+◌, ◌-◌, ◌≤◌, ◌==◌, if◌then◌else◌, List, [], Option, None, Some, sum_by}
use mathlib.Core.Option.{some}
use lib.ListN.{get_elem?}
use Rattle.atomic_table.specs.Table.{Me}
use Rattle.bip_defs.specs.Occurrences.{below}

-- what a seat knows: what its board was opened with, its number, how many seats there are (which
-- the seat 0 alone keeps), and its lists
pub record Known (O L : Type 0) : Type 0 where
  pub opened : O
  pub number : ℕ
  pub seats : ℕ
  pub listed : L

module _ {O L : Type 0} where
  -- The view of a seat; none once it was joined to another.

  -- what it knows, or this where there is none
  abbrev pub known_or : Known O L → Option (Known O L) → Known O L
  known_or nobody None = nobody
  known_or nobody (Some k) = k

  -- a seat at the table that was not joined to another, and holds no slot
  abbrev pub IsOpen : {S : Type 0} → Known O L → Me S (Option (Known O L)) → Type 0
  IsOpen nobody me = (me.0 ≡ Some (known_or nobody me.0)) × (me.1 ≡ [])

  -- what it lists, or nothing
  abbrev pub listed_or : L → Option (Known O L) → L
  listed_or nothing None = nothing
  listed_or nothing (Some k) = k.listed

  -- 1 where the seat has this number, and else 0
  abbrev pub view_number : ℕ → Option (Known O L) → ℕ
  view_number n None = 0
  view_number n (Some k) = if k.number == n then 1 else 0

  -- Of each number below the count there is one seat, and no other seat is left. The seat 0 keeps
  -- the count
  pub record AreSeated (o : O) (views : List (Option (Known O L))) : Type 0 where
    pub count : ℕ
    pub some_seat : 1 ≤ count
    pub numbers : (n : ℕ) → sum_by (view_number n) views ≡ below n count
    pub keeps_count : (id : ℕ) (k : Known O L) → get_elem? views id ≡ some (Some k)
        → k.number ≡ 0 → k.seats ≡ count
    pub opened : (id : ℕ) (k : Known O L) → get_elem? views id ≡ some (Some k) → k.opened ≡ o

  -- the first seat of a board that is opened with this
  abbrev pub opener : L → O → Option (Known O L)
  opener nothing o = Some (record { opened = o; number = 0; seats = 1; listed = nothing })

  -- the seat with other lists
  abbrev pub knowing : Known O L → L → Option (Known O L)
  knowing k l = Some (record { opened = k.opened; number = k.number; seats = k.seats; listed = l })

  -- The seat 0 splits off a seat with the next number.

  abbrev pub counting_more : Option (Known O L) → Option (Known O L)
  counting_more None = None
  counting_more (Some k) = Some (record {
    opened = k.opened;
    number = k.number;
    seats = 1 + k.seats;
    listed = k.listed;
  })

  abbrev pub newcomer : L → Option (Known O L) → Option (Known O L)
  newcomer nothing None = None
  newcomer nothing (Some k) = Some (record {
    opened = k.opened;
    number = k.seats;
    seats = 0;
    listed = nothing;
  })

  -- the seat 0 takes in the lists of the seat with the highest number, before its own
  abbrev pub joined : (L → L → L) → Option (Known O L) → Option (Known O L) → Option (Known O L)
  joined followed_by None w = None
  joined followed_by (Some k) None = Some k
  joined followed_by (Some k) (Some j) = Some (record {
    opened = k.opened;
    number = k.number;
    seats = k.seats - 1;
    listed = followed_by j.listed k.listed;
  })
