use Rattle.std.proofs.Common.{rules, arith, ◌≡◌, ◌≢◌, length, List, ◌∷◌, [], ◌++◌, pos, ap}
use Rattle.std.proofs.lemmas.Grind.{common_steps}
use Rattle.sp_ids.specs.declared.triples.Field.TheVariants.{Integer}
use Rattle.sp_ids.specs.Entries.{Triple}
use Rattle.sp_ids.proofs.Kept.{length-items_of, items_of-place, items_of-both, all_inside_push}
use Rattle.sp_ids.proofs.triples.Triples.push.Goals as goal

pub invariant_of-self-then-ne : goal.invariant_of-self-then-ne
invariant_of-self-then-ne c =
    let few = rw (← c.self.view_is, length-items_of) at c.requires.few in
    let row = rw (← c.self.view_is) at c.requires.row in
    let col = rw (← c.self.view_is) at c.requires.col in
    let ne : c.self.inside.field ≢ Integer = search rules in
    record {
      few = rw c.in_ok-push.ensures.items (grind (arith, common_steps, few));
      in_range = rw c.in_ok-push.ensures.items
          (all_inside_push c.self.inside.rows c.self.inside.cols c.self.inside.places.items (c.args.row, c.args.col)
          c.self.invariant.in_range (row, col));
      with_values = λ e. absurd (ne e);
      without_values = c.self.invariant.without_values;
    }

pub returns-then-ne-clause-ok : goal.returns-then-ne-clause-ok
returns-then-ne-clause-ok c =
    let ne : c.self.inside.field ≢ Integer = search rules in
    let zero : c.args.value ≡ pos 0 = (rw (← c.self.view_is) at c.requires.value) ne in
    rw (← c.self.view_is)
    (ap (λ (ts : List Triple). record { rows = c.self.inside.rows; cols = c.self.inside.cols; field = c.self.inside.field; items = ts })
    (items_of-place c.self.inside.places.items c.push.new.self.items c.self.inside.values.items (c.args.row, c.args.col) c.args.value
    c.in_ok-push.ensures.items (c.self.invariant.without_values ne) zero))

pub invariant_of-self-else-is_err : goal.invariant_of-self-else-is_err
invariant_of-self-else-is_err c =
    let few = rw (← c.self.view_is, length-items_of) at c.requires.few in
    let row = rw (← c.self.view_is) at c.requires.row in
    let col = rw (← c.self.view_is) at c.requires.col in
    let is : c.self.inside.field ≡ Integer = search rules in
    let same : length c.self.inside.values.items ≡ length c.self.inside.places.items = c.self.invariant.with_values is in
    let values : c.push-2.new.self.items ≡ c.self.inside.values.items ++ c.args.value ∷ [] = search rules in
    record {
      few = rw c.in_ok-push.ensures.items (grind (arith, common_steps, few));
      in_range = rw c.in_ok-push.ensures.items
          (all_inside_push c.self.inside.rows c.self.inside.cols c.self.inside.places.items (c.args.row, c.args.col)
          c.self.invariant.in_range (row, col));
      with_values = λ e. rw (c.in_ok-push.ensures.items, values) (grind (arith, common_steps, same));
      without_values = λ ne. absurd (ne is);
    }

pub returns-clause-ok : goal.returns-clause-ok
returns-clause-ok c =
    let is : c.self.inside.field ≡ Integer = search rules in
    let same : length c.self.inside.values.items ≡ length c.self.inside.places.items = c.self.invariant.with_values is in
    let values : c.push-2.new.self.items ≡ c.self.inside.values.items ++ c.args.value ∷ [] = search rules in
    rw (← c.self.view_is)
    (ap (λ (ts : List Triple). record { rows = c.self.inside.rows; cols = c.self.inside.cols; field = c.self.inside.field; items = ts })
    (items_of-both c.self.inside.places.items c.push.new.self.items c.self.inside.values.items c.push-2.new.self.items (c.args.row, c.args.col) c.args.value
    c.in_ok-push.ensures.items values same))
