use Rattle.std.proofs.Common.{◌≡◌, ◌∙◌, ℕ, ◌<◌, ◌≤◌, ◌+◌, ◌++◌, List, ap, length, map, sym, take, arith}
use Rattle.std.proofs.lemmas.List.{length-map, take_all}
use Rattle.path_search.specs.Batches.{candidates_of}
use Rattle.path_search.proofs.BatchLemmas.{appended_more}
use Rattle.path_search.proofs.batches.append.Goals as goal

pub loop-at-preserved : goal.loop-at-preserved
loop-at-preserved g c =
    let within : c.loop-at.at < length (map g.F.Id.number c.args.rows.now) = omega (arith, length-map c.args.rows.now g.F.Id.number) in
    rw c.row_at-row.ensures.at (appended_more c.args.place c.args.len c.loop-at.at (map g.F.Id.number c.args.rows.now) c.args.candidates.now c.loop-at.candidates within (omega arith) c.loop-at.invariant)

pub returns : goal.returns
returns g c =
    let end : c.loop-at.at ≡ length c.args.rows.now = omega arith in
    let all : length (map g.F.Id.number c.args.rows.now) ≤ c.loop-at.at = omega (arith, length-map c.args.rows.now g.F.Id.number) in
    ap (λ n. take (c.args.len + n) c.loop-at.candidates) (sym end) ∙ c.loop-at.invariant ∙ ap (λ (rows : List ℕ). take c.args.len c.args.candidates.now ++ candidates_of c.args.place rows) (take_all c.loop-at.at (map g.F.Id.number c.args.rows.now) all)
