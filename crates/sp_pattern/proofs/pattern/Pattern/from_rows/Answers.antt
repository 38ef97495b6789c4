use Rattle.std.proofs.Common.{arith}
use Rattle.std.proofs.lemmas.Result.{IfOk-weaker}
use Rattle.sp_pattern.proofs.Both.{order_numbers}
use Rattle.sp_pattern.proofs.pattern.Pattern.from_rows.Goals as goal

pub from_row_order-requires-clause-order : goal.from_row_order-requires-clause-order
from_row_order-requires-clause-order g c = (order_numbers _ _ _ _ _ c.in_ok-row_starts.ensures).order

pub from_row_order-requires-clause-few : goal.from_row_order-requires-clause-few
from_row_order-requires-clause-few g c = let few = c.requires.few in let f = (order_numbers _ _ _ _ _ c.in_ok-row_starts.ensures).few in omega (arith, few, f)

pub returns-clause-places : goal.returns-clause-places
returns-clause-places g c = IfOk-weaker c.from_row_order.result _ _ (λ a h. h (g.P.Pairs.pairs c.args.pairs) (order_numbers _ _ _ _ _ c.in_ok-row_starts.ensures)) c.from_row_order.ensures.places

pub returns-clause-few : goal.returns-clause-few
returns-clause-few g c = IfOk-weaker c.from_row_order.result _ _ (λ a h. let f = (order_numbers _ _ _ _ _ c.in_ok-row_starts.ensures).few in omega (arith, f, h)) c.from_row_order.ensures.few
