use Rattle.std.proofs.Common.{rules, ◌≡◌, ◌<◌, sym, subst}
use Rattle.std.proofs.lemmas.List.{length-map}
use Rattle.bip_defs.specs.Matrix.{cols}
use Rattle.sp_ids.specs.Entries.{place, places}
use Rattle.edit_session.proofs.PatternLemmas.{placed_matrix, places_fit}
use Rattle.edit_session.proofs.patterns.triples_of.Goals as goal

pub push_column-requires-clause-rows : goal.push_column-requires-clause-rows
push_column-requires-clause-rows c = λ r h. subst (λ n. r < n) (sym c.loop-col.invariant.rows) (c.rows_of.ensures.rows.sound r h).0

pub push_column-requires-clause-few : goal.push_column-requires-clause-few
push_column-requires-clause-few c =
    let within : c.loop-col.col < cols c.args.columns.now.matrix = search rules in
    places_fit c.args.columns.now.matrix c.loop-col.col _ (places c.loop-col.triples) c.rows_of.result.now c.cols.ensures.pattern within c.loop-col.invariant.places (length-map c.loop-col.triples.items place) c.rows_of.ensures.column

pub returns : goal.returns
returns c =
    let all : c.loop-col.col ≡ cols c.args.columns.now.matrix = search rules in
    placed_matrix c.args.columns.now.matrix c.loop-col.triples.rows c.loop-col.triples.cols c.loop-col.col (places c.loop-col.triples) c.cols.ensures.pattern c.loop-col.invariant.rows c.loop-col.invariant.cols all c.loop-col.invariant.places
