use Rattle.std.proofs.Common.{◌≡◌, ◌<◌, length, map, arith, rules, ◌∙◌, refl, true, Some}
use Rattle.std.specs.Option.{option_eq}
use Rattle.std.proofs.lemmas.List.{map-append}
use Rattle.sp_pattern.proofs.Numbers.{length_numbers}
use Rattle.sp_pattern.proofs.Orders.{compressing_start, compressing_again, compressing_more, compressing_end, inside_at, last_again, last_differs, last_kept, last_next, same_pair}
use Rattle.sp_pattern.proofs.compress.compress.Goals as goal
use Rattle.sp_pattern.proofs.compress.compress.Goals.{then-ne+in_ok-push, else-ne}

pub loop-k-init : goal.loop-k-init
loop-k-init g c = record {
  compressing = rw (c.in_ok-starts.ensures.items, c.in_ok-flat.ensures.items) (compressing_start c.args.outer (g.P.Pairs.pairs c.args.pairs.now));
  last = refl;
}

pub loop-k-preserved : goal.loop-k-preserved
loop-k-preserved g c =
    let ps = g.P.Pairs.pairs c.args.pairs.now in
    let flat = map g.I.Id.number c.loop-k.flat.items in
    let last = c.loop-k.invariant.last in
    let lt : c.loop-k.k < length ps = let n = c.len-len.ensures in let t = c.loop-k-test.true in omega (arith, n, t) in
    let long : length flat ≡ c.len.result = length_numbers g.I.Id.number c.loop-k.flat.items ∙ (let n = c.len.ensures in let ok = c.loop-k.flat.ok in omega (arith, n, ok)) in
    let inside = inside_at c.args.outer c.args.inner ps c.loop-k.k c.at-pair.result c.requires.inside lt c.at-pair.ensures in
    elim c.if-ne.branch [
      | then-ne+in_ok-push w ↦ record {
        compressing = compressing_more c.args.outer ps c.loop-k.k c.loop-k.starts.items c.fill_starts.new.starts.items flat (map g.I.Id.number c.if-ne.flat.items) c.at-pair.result c.requires.sorted c.loop-k.invariant.compressing lt c.at-pair.ensures
            (last_differs ps c.loop-k.k c.loop-k.last c.at-pair.result last (search rules)) c.in_ok-fill_starts.ensures.opened inside (λ ds f. c.in_ok-fill_starts.ensures.compressed ds flat long f)
            (rw (w.flat-is, w.in_ok-push.ensures.items, map-append, w.of.ensures) refl);
        last = w.last-is ∙ last_next ps c.loop-k.k c.at-pair.result c.at-pair.ensures;
      }
      | else-ne w ↦
          let again : option_eq same_pair c.loop-k.last (Some c.at-pair.result) ≡ true = search rules in
          let twice = last_again ps c.loop-k.k c.loop-k.last c.at-pair.result last again in
          record {
            compressing = rw w.flat-is (compressing_again c.args.outer ps c.loop-k.k c.loop-k.starts.items c.fill_starts.new.starts.items flat c.at-pair.result c.requires.sorted c.loop-k.invariant.compressing lt c.at-pair.ensures
                twice.0 twice.1 c.in_ok-fill_starts.ensures.opened inside (λ ds f. c.in_ok-fill_starts.ensures.compressed ds flat long f));
            last = w.last-is ∙ last_kept ps c.loop-k.k c.loop-k.last c.at-pair.result last again c.at-pair.ensures;
          }
    ]

pub returns : goal.returns
returns g c =
    let ps = g.P.Pairs.pairs c.args.pairs.now in
    let flat = map g.I.Id.number c.loop-k.flat.items in
    let long : length flat ≡ c.len-2.result = length_numbers g.I.Id.number c.loop-k.flat.items ∙ (let n = c.len-2.ensures in let ok = c.loop-k.flat.ok in omega (arith, n, ok)) in
    let done : c.loop-k.k ≡ length ps = let n = c.len-len.ensures in let t = c.loop-k-test.false in let e = c.loop-k.auto.k-end in omega (arith, n, t, e) in
    compressing_end c.args.outer c.args.inner ps c.loop-k.k c.loop-k.starts.items c.fill_starts-2.new.starts.items flat c.loop-k.invariant.compressing c.in_ok-fill_starts-2.ensures.opened done c.requires.inside (λ ds f. c.in_ok-fill_starts-2.ensures.compressed ds flat long f)
