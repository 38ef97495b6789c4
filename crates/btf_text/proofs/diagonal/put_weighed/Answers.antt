use Rattle.std.proofs.Common.{◌≡◌, ◌∷◌, [], ℤ, pos, length, codes, ap₂, arith, to_z, to_z-of_z}
use Rattle.std.specs.Int.{w128}
use Rattle.std.proofs.lemmas.Int.{ints}
use Rattle.btf_text.specs.Diagonals.{signed_line}
use Rattle.btf_text.proofs.Puts.{puts_as, puts_then}
use Rattle.btf_text.proofs.diagonal.put_weighed.Goals as goal

pub returns : goal.returns
returns g c =
    let count : to_z w128 (length c.args.pairs.now) ≡ pos (length c.args.pairs.now) = omega (arith, ints) in
    puts_then (puts_as (ap₂ (λ (n z : ℤ). signed_line (codes "diagonal") (n ∷ z ∷ []) ∷ []) count (to_z-of_z c.ranges.sum)) c.put_signed_line.ensures)
    (puts_then c.put_entries.ensures (puts_then c.put_signed_line-2.ensures (puts_then c.put_signed_line-3.ensures c.put_line.ensures)))
