use Rattle.std.proofs.Common.{ℕ, List, ap, arith, length, subst, sym}
use Rattle.bip_defs.specs.Blocks.{all_cols, all_rows}
use Rattle.bip_defs.specs.Matrix.{cols}
use Rattle.bip_defs.proofs.Triangular.{cols_once, rows_once}
use Rattle.blocktri.specs.BlockForms.{decomposition_of}
use Rattle.blocktri.specs.Compressed.{IsRoom}
use Rattle.blocktri.proofs.DmpermLemmas.{cuts_fit, cuts_in_room, parts_long}
use Rattle.blocktri.proofs.WriteLemmas.{once_long}
use Rattle.blocktri.proofs.dm_permutations.write_permutations.Goals as goal

pub write_permuted-requires-clause-p : goal.write_permuted-requires-clause-p
write_permuted-requires-clause-p c =
    let (a, wants, is, rows, columns, room) = c.requires.some in
    let form = rw c.in-Fine.is at is.shape in
    let order = c.in_ok-order-in-Fine.ensures a (record { form = form.1; maximum = is.maximum }) in
    subst (λ n. IsRoom n c.args.p.now) (sym (once_long a.rows c.in_ok-order-in-Fine.order.rows.items order.rows.once)) room.p

pub write_permuted-requires-clause-q : goal.write_permuted-requires-clause-q
write_permuted-requires-clause-q c =
    let (a, wants, is, rows, columns, room) = c.requires.some in
    let form = rw c.in-Fine.is at is.shape in
    let order = c.in_ok-order-in-Fine.ensures a (record { form = form.1; maximum = is.maximum }) in
    subst (λ n. IsRoom n c.args.q.now) (sym (once_long (cols a) c.in_ok-order-in-Fine.order.columns.items order.columns.once)) room.q

pub write_permuted-requires-clause-r : goal.write_permuted-requires-clause-r
write_permuted-requires-clause-r c =
    let (a, wants, is, rows, columns, room) = c.requires.some in
    let form = rw c.in-Fine.is at is.shape in
    let order = c.in_ok-order-in-Fine.ensures a (record { form = form.1; maximum = is.maximum }) in
    let d = decomposition_of c.in-Fine.form in
    let few = cuts_fit a d (length d.parts.horizontal_rows) (a.rows) form.1.decomposition (parts_long a.rows d.parts.horizontal_rows (all_rows d.blocks) d.parts.vertical_rows (rows_once a d form.1.decomposition)) (parts_long (cols a) d.parts.horizontal_cols (all_cols d.blocks) d.parts.vertical_cols (cols_once a d form.1.decomposition)) in
    let many = ap (λ (xs : List ℕ). length xs) order.row_cuts_are in
    λ wanted. cuts_in_room a.rows (cols a) (length c.in_ok-order-in-Fine.order.row_cuts.items) c.args.r.now room.r (let f = few.0 in omega (arith, many, f), let f = few.1 in omega (arith, many, f)) wanted

pub write_permuted-requires-clause-s : goal.write_permuted-requires-clause-s
write_permuted-requires-clause-s c =
    let (a, wants, is, rows, columns, room) = c.requires.some in
    let form = rw c.in-Fine.is at is.shape in
    let order = c.in_ok-order-in-Fine.ensures a (record { form = form.1; maximum = is.maximum }) in
    let d = decomposition_of c.in-Fine.form in
    let few = cuts_fit a d (length d.parts.horizontal_cols) (cols a) form.1.decomposition (parts_long a.rows d.parts.horizontal_rows (all_rows d.blocks) d.parts.vertical_rows (rows_once a d form.1.decomposition)) (parts_long (cols a) d.parts.horizontal_cols (all_cols d.blocks) d.parts.vertical_cols (cols_once a d form.1.decomposition)) in
    let many = ap (λ (xs : List ℕ). length xs) order.column_cuts_are in
    λ wanted. cuts_in_room a.rows (cols a) (length c.in_ok-order-in-Fine.order.column_cuts.items) c.args.s.now room.s (let f = few.0 in omega (arith, many, f), let f = few.1 in omega (arith, many, f)) wanted
