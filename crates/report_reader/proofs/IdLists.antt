-- Rows or columns, one after the other.
use Rattle.std.proofs.Common.{◌≡◌, ◌<◌, ℕ, zero, suc, true, false, List, [], ◌∷◌, ◌++◌, length, Option, Some, None, refl, sym, ap, ◌∙◌, append-nil, nat_eq, codes, arith, length-append}
use Rattle.std.specs.Fmt.{decimal}
use Rattle.std.specs.List.{starts_with}
use Rattle.report_reader.specs.declared.stop.Stop.{Stop}
use Rattle.report_reader.specs.ReportGrammar.{Stops, field_at, id_of, ids_at, line_end}
use Rattle.report_reader.proofs.Prefixes.{no_prefix, regroup, stops_so, with_prefix}
use Rattle.report_reader.proofs.Spelled.{field_takes, id_takes}

-- What is read from here on, behind what was read, is what is read of all. Each number takes a byte at least.
pub record GoesOn (prefix rest : List ℕ) (total : Option (List ℕ × List ℕ)) : Type 0 where
  pub most : ℕ
  pub enough : length rest < most
  pub same : with_prefix prefix (ids_at most rest) ≡ total

-- nothing yet
pub begins : (bytes : List ℕ) → GoesOn [] bytes (ids_at (suc (length bytes)) bytes)
begins bytes = record { most = suc (length bytes); enough = omega arith; same = no_prefix (ids_at (suc (length bytes)) bytes) }

-- a number takes bytes
pub shorter : (bytes : List ℕ) (n first : ℕ × List ℕ) → field_at bytes ≡ Some n → id_of n ≡ Some first → length first.1 < length bytes
shorter bytes n first field id =
    omega (arith, ap length (field_takes bytes n field).0, length-append (decimal n.0) n.1, ap length (id_takes n first id).1)

-- one more
more : (prefix : List ℕ) (most : ℕ) (bytes : List ℕ) (n first : ℕ × List ℕ)
    → starts_with nat_eq bytes (codes " ") ≡ true → field_at bytes ≡ Some n → id_of n ≡ Some first
    → with_prefix prefix (ids_at (suc most) bytes) ≡ with_prefix (prefix ++ first.0 ∷ []) (ids_at most first.1)
unfolding ids_at
more prefix most bytes n first space field id = rw (space, field, id) (regroup prefix first.0 (ids_at most first.1))

pub ids_more : (prefix bytes : List ℕ) (total : Option (List ℕ × List ℕ)) (n first : ℕ × List ℕ)
    → GoesOn prefix bytes total → starts_with nat_eq bytes (codes " ") ≡ true → field_at bytes ≡ Some n → id_of n ≡ Some first → GoesOn (prefix ++ first.0 ∷ []) first.1 total
ids_more prefix bytes total n first so_far space field id = by so_far.most so_far.enough so_far.same
  where
    by : (most : ℕ) → length bytes < most → with_prefix prefix (ids_at most bytes) ≡ total → GoesOn (prefix ++ first.0 ∷ []) first.1 total
    by zero enough same = absurd (omega (arith, enough))
    by (suc most) enough same = record { most = most; enough = omega (arith, enough, shorter bytes n first field id); same = sym (more prefix most bytes n first space field id) ∙ same }

-- what is read of the whole, where a step reads nothing
nothing : (prefix bytes : List ℕ) (total : Option (List ℕ × List ℕ)) → GoesOn prefix bytes total → ((most : ℕ) → ids_at (suc most) bytes ≡ None) → total ≡ None
nothing prefix bytes total so_far none = by so_far.most so_far.enough so_far.same
  where
    by : (most : ℕ) → length bytes < most → with_prefix prefix (ids_at most bytes) ≡ total → total ≡ None
    by zero enough same = absurd (omega (arith, enough))
    by (suc most) enough same = sym same ∙ ap (with_prefix prefix) (none most)

no_field : (bytes : List ℕ) (most : ℕ) → starts_with nat_eq bytes (codes " ") ≡ true → field_at bytes ≡ None → ids_at (suc most) bytes ≡ None
unfolding ids_at
no_field bytes most space field = rw (space, field) refl

no_id : (bytes : List ℕ) (most : ℕ) (n : ℕ × List ℕ) → starts_with nat_eq bytes (codes " ") ≡ true → field_at bytes ≡ Some n → id_of n ≡ None → ids_at (suc most) bytes ≡ None
unfolding ids_at
no_id bytes most n space field id = rw (space, field, id) refl

no_end : (bytes : List ℕ) (most : ℕ) → starts_with nat_eq bytes (codes " ") ≡ false → line_end bytes ≡ None → ids_at (suc most) bytes ≡ None
unfolding ids_at
no_end bytes most space ended = rw (space, ended) refl

pub field_stops : (e : Stop) (prefix bytes : List ℕ) (total : Option (List ℕ × List ℕ)) → GoesOn prefix bytes total → starts_with nat_eq bytes (codes " ") ≡ true → Stops e (field_at bytes) → Stops e total
field_stops e prefix bytes total so_far space = stops_so e (field_at bytes) total (λ none. nothing prefix bytes total so_far (λ most. no_field bytes most space none))

pub id_stops : (e : Stop) (prefix bytes : List ℕ) (total : Option (List ℕ × List ℕ)) (n : ℕ × List ℕ) → GoesOn prefix bytes total → starts_with nat_eq bytes (codes " ") ≡ true → field_at bytes ≡ Some n → Stops e (id_of n) → Stops e total
id_stops e prefix bytes total n so_far space field = stops_so e (id_of n) total (λ none. nothing prefix bytes total so_far (λ most. no_id bytes most n space field none))

pub end_stops : (e : Stop) (prefix bytes : List ℕ) (total : Option (List ℕ × List ℕ)) → GoesOn prefix bytes total → starts_with nat_eq bytes (codes " ") ≡ false → Stops e (line_end bytes) → Stops e total
end_stops e prefix bytes total so_far space = stops_so e (line_end bytes) total (λ none. nothing prefix bytes total so_far (λ most. no_end bytes most space none))

-- the line ends
last : (prefix bytes rest : List ℕ) (most : ℕ) → starts_with nat_eq bytes (codes " ") ≡ false → line_end bytes ≡ Some rest → with_prefix prefix (ids_at (suc most) bytes) ≡ Some (prefix, rest)
unfolding ids_at
last prefix bytes rest most space ended = rw (space, ended) (ap (λ (ns : List ℕ). Some (ns, rest)) (append-nil prefix))

pub ids_end : (prefix bytes rest : List ℕ) (total : Option (List ℕ × List ℕ)) → GoesOn prefix bytes total → starts_with nat_eq bytes (codes " ") ≡ false → line_end bytes ≡ Some rest → total ≡ Some (prefix, rest)
ids_end prefix bytes rest total so_far space ended = by so_far.most so_far.enough so_far.same
  where
    by : (most : ℕ) → length bytes < most → with_prefix prefix (ids_at most bytes) ≡ total → total ≡ Some (prefix, rest)
    by zero enough same = absurd (omega (arith, enough))
    by (suc most) enough same = sym same ∙ last prefix bytes rest most space ended
