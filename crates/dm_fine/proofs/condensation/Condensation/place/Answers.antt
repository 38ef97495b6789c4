use Rattle.std.proofs.Common.{rules, ◌∙◌, ◌++◌, ◌∷◌, [], List, length, inl, refl, sym, ap, subst, arith}
use Rattle.std.proofs.lemmas.List.{map-append, map-id}
use Rattle.bip_defs.specs.Blocks.{Block}
use Rattle.bip_defs.specs.Lists.{Among}
use Rattle.bip_defs.proofs.Sets.{among_right, written_over}
use Rattle.dm_fine.specs.Layout.{layout}
use Rattle.dm_fine.specs.Waiting.{AreMarkedOff}
use Rattle.dm_fine.proofs.StepLemmas.{placed_next}
use Rattle.id_groups.specs.Groups.{block_of}
use Rattle.dm_fine.proofs.condensation.Condensation.place.Goals as goal

pub mark_off-requires : goal.mark_off-requires
mark_off-requires g c = λ r on.
    let s = c.requires in
    let rows = rw map-id at c.of-rows.ensures in
    let lt = s.waiting.laid_out.by_row.below c.args.own r s.next.in_range (subst (Among r) rows on) in
    let long = s.waiting.marked.long in
    let same = ap length c.as_mut_slice.ensures.value in
    omega (arith, lt, long, same)

pub release-requires : goal.release-requires
release-requires g c =
    let s = c.requires in
    let t = layout (g.C.ColumnLists.matrix c.args.self.now.columns) (g.C.ColumnLists.listed c.args.self.now.columns) c.args.self.now.rows c.args.self.now.cols in
    let rows = rw map-id at c.of-rows.ensures in
    let cols = rw map-id at c.of.ensures in
    let value = c.as_mut_slice.ensures.value in
    let long = c.mark_off.auto.of_rows ∙ ap length value in
    let items = written_over c.mark_off.new.of_rows c.args.s.now.of_rows.items c.args.s.now.of_rows.len long (search rules) in
    let off : AreMarkedOff t c.args.own c.args.s.now.of_rows.items c.mark_off.new.of_rows = record {
      long = long;
      gone = λ r on. c.mark_off.ensures.gone r (subst (Among r) (sym rows) on);
      others = λ r not_on. rw value at (c.mark_off.ensures.others r (λ on. not_on (subst (Among r) rows on)));
    } in
    record {
      placed = s.placed ++ c.args.own ∷ [];
      lists = s.lists;
      waiting = placed_next t s.placed s.lists c.args.own _ _ _ _ _ s.waiting s.next (subst (AreMarkedOff t c.args.own c.args.s.now.of_rows.items) (sym items) off);
      on = among_right c.args.own s.placed (c.args.own ∷ []) (inl refl);
      chain = s.waiting.chains c.args.own s.next.in_range s.next.fresh;
      bound = s.bound;
      blocks = rw (rows, cols) at c.in_ok-push.ensures.ok
          ∙ ap (λ (bs : List Block). bs ++ block_of c.args.self.now.rows c.args.self.now.cols c.args.own ∷ []) s.blocks
          ∙ sym (map-append (block_of c.args.self.now.rows c.args.self.now.cols) s.placed (c.args.own ∷ []));
    }
