use Rattle.std.proofs.Common.{◌≡◌, ◌∙◌, ◌+◌, ◌++◌, [], ◌∷◌, length, rules, ap, arith, length-append}
use Rattle.bip_graph.proofs.Offsets.{Grown, grown_shown, grown_stretches, seen_all_cols, seen_all_rows}
use Rattle.bip_graph.proofs.blocks.Blocks.append.Goals as goal

pub overflow_cast-len : goal.overflow_cast-len
overflow_cast-len c =
    let rows : c.extend_from_slice.new.self.items ≡ c.self.inside.rows.items ++ c.args.rows.now = search rules in
    let long : c.len.result ≡ length c.extend_from_slice.new.self.items = search rules in
    omega (arith, long, ap length rows, length-append c.self.inside.rows.items c.args.rows.now, ap length (seen_all_rows c.self.invariant c.self.view_is), c.requires.few_rows)

pub overflow_cast-len-2 : goal.overflow_cast-len-2
overflow_cast-len-2 c =
    let cols : c.extend_from_slice-2.new.self.items ≡ c.self.inside.cols.items ++ c.args.cols.now = search rules in
    let long : c.len-2.result ≡ length c.extend_from_slice-2.new.self.items = search rules in
    omega (arith, long, ap length cols, length-append c.self.inside.cols.items c.args.cols.now, ap length (seen_all_cols c.self.invariant c.self.view_is), c.requires.few_cols)

-- what is appended to each array
grown : (c : goal.After-push_reserved-2) → Grown c.self.inside.row_ends.items c.self.inside.col_ends.items c.self.inside.rows.items c.self.inside.cols.items c.push_reserved.new.self.items c.push_reserved-2.new.self.items c.extend_from_slice.new.self.items c.extend_from_slice-2.new.self.items c.args.rows.now c.args.cols.now
grown c =
    let rows : c.extend_from_slice.new.self.items ≡ c.self.inside.rows.items ++ c.args.rows.now = search rules in
    let cols : c.extend_from_slice-2.new.self.items ≡ c.self.inside.cols.items ++ c.args.cols.now = search rules in
    let row_end : c.len.result ≡ length c.self.inside.rows.items + length c.args.rows.now = (let long : c.len.result ≡ length c.extend_from_slice.new.self.items = search rules in long ∙ ap length rows ∙ length-append c.self.inside.rows.items c.args.rows.now) in
    let col_end : c.len-2.result ≡ length c.self.inside.cols.items + length c.args.cols.now = (let long : c.len-2.result ≡ length c.extend_from_slice-2.new.self.items = search rules in long ∙ ap length cols ∙ length-append c.self.inside.cols.items c.args.cols.now) in
    let row_ends : c.push_reserved.new.self.items ≡ c.self.inside.row_ends.items ++ c.len.result ∷ [] = search rules in
    let col_ends : c.push_reserved-2.new.self.items ≡ c.self.inside.col_ends.items ++ c.len-2.result ∷ [] = search rules in
    record { rows_are = rows; cols_are = cols; row_ends_are = row_ends ∙ ap (λ n. c.self.inside.row_ends.items ++ n ∷ []) row_end; col_ends_are = col_ends ∙ ap (λ n. c.self.inside.col_ends.items ++ n ∷ []) col_end }

pub invariant_of-self-2 : goal.invariant_of-self-2
invariant_of-self-2 c = grown_stretches c.self.invariant (grown c)

pub returns-clause-ok : goal.returns-clause-ok
returns-clause-ok c = grown_shown c.self.invariant c.self.view_is (grown c)
