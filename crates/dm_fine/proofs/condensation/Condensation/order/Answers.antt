use Rattle.std.proofs.Common.{◌∙◌, [], length, replicate, ap, sym, subst, arith}
use Rattle.bip_graph.specs.Matching.{none}
use Rattle.dm_fine.specs.Layout.{layout}
use Rattle.dm_fine.specs.Waiting.{IsWaiting}
use Rattle.int_set.specs.Numbers.{Numbers}
use Rattle.dm_fine.specs.Waits.{idle}
use Rattle.dm_fine.proofs.BeginLemmas.{ended, first_waiting, taken_few}
use Rattle.dm_fine.proofs.condensation.Condensation.order.Goals as goal

pub loop-own-init : goal.loop-own-init
loop-own-init g c =
    let fresh = c.in_ok-new.ensures in
    record {
      placed = [];
      lists = λ v. [];
      waiting = subst (λ m. IsWaiting (layout (g.C.ColumnLists.matrix c.args.self.now.columns) (g.C.ColumnLists.listed c.args.self.now.columns) c.args.self.now.rows c.args.self.now.cols) [] (λ v. []) none none c.args.of_rows.items c.in_ok-vec.field-0.items m 0) (sym (ap (λ (s : Numbers). s.members) fresh)) (first_waiting _ _ c.in_ok-vec.field-0.items c.requires.made (c.in_ok-vec.ensures.items_if_clones_equal (λ y e. e) ∙ ap (λ n. replicate n idle) c.count-count.ensures));
      bound = ap (λ (s : Numbers). s.bound) fresh ∙ c.count-count.ensures;
      blocks = c.requires.none;
    }

pub loop-own-smaller : goal.loop-own-smaller
loop-own-smaller g c =
    let few = taken_few _ _ _ c.in-Some.ensures.some in
    let same = ap length c.in-Some.ensures.blocks in
    let longer = c.in_ok-place.ensures.longer in
    omega (arith, few, same, longer)

pub returns : goal.returns
returns g c = ended _ _ _ c.requires.made c.in_default.ensures.none
