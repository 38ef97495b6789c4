use Rattle.std.proofs.Common.{◌-◌, ◌^◌, ◌<◌, subst, arith, rules}
use Rattle.std.proofs.lemmas.Nat.{mul-le}
use Rattle.bip_defs.specs.Matrix.{cols}
use Rattle.integer_diagonal.specs.Amounts.{HasRoom}
use Rattle.integer_diagonal.proofs.answer.heaviest_of_full.Goals as goal

pub heaviest_by_width-requires-clause-room : goal.heaviest_by_width-requires-clause-room
heaviest_by_width-requires-clause-room c =
    let room = subst (λ n. HasRoom n c.highest_price-most.result (2 ^ 64 - 1)) c.cols.ensures (c.has_room.ensures.0 c.if-has_room.true) in
    let least = c.highest_price-most.ensures in
    let product = mul-le (cols c.args.weights.now.matrix) c.greatest_of_all-top.result (cols c.args.weights.now.matrix) c.highest_price-most.result (omega arith) least in
    omega (arith, room, least, product)

pub heaviest_by_width-requires-else-has_room-clause-room : goal.heaviest_by_width-requires-else-has_room-clause-room
heaviest_by_width-requires-else-has_room-clause-room c =
    let few : cols c.args.weights.now.matrix < 2 ^ 32 = search rules in
    let small : c.greatest_of_all-top.result < 2 ^ 64 = search rules in
    let product = mul-le (cols c.args.weights.now.matrix) c.greatest_of_all-top.result (2 ^ 32) (2 ^ 64) (omega (arith, few)) (omega (arith, small)) in
    omega (arith, small, product)
