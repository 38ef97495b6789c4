use Rattle.std.proofs.Common.{◌≡◌, ◌≢◌, ◌<◌, ◌∙◌, length, map, ap, arith, refl, subst, take_all}
use Rattle.std.proofs.lemmas.List.{map-append}
use Rattle.sp_pattern.specs.Mirror.{AreSymmetric, lowered}
use Rattle.sp_pattern.specs.Pairs.{IsAtMost, Pair, pair_at}
use Rattle.sp_pattern.proofs.HalfLemmas.{half_read, halved_again, halved_behind, halved_end, halved_more, halved_start, length-halves, pair_again, pair_differs}
use Rattle.sp_pattern.proofs.MirrorLemmas.{behind_within, symmetric_more}
use Rattle.sp_pattern.proofs.Numbers.{length_numbers}
use Rattle.sp_pattern.proofs.Orders.{inside_at}
use Rattle.sp_pattern.proofs.halves.compress_half.Goals as goal
use Rattle.sp_pattern.proofs.halves.compress_half.Goals.{then-k-eq0-via-then-k-eq0, then-k-eq0-via-else-k-eq0+then-ne}

pub loop-k-init : goal.loop-k-init
loop-k-init g c = record {
  within = omega arith;
  symmetric = λ r d h. h;
  halved = rw (c.in_ok-starts.ensures.items, c.in_ok-flat.ensures.items) (halved_start c.args.n (map g.H.Half.pair (lowered c.args.places.now)));
}

pub loop-k-preserved-in_ok-push : goal.loop-k-preserved-in_ok-push
loop-k-preserved-in_ok-push g c =
    let ps = c.args.places.now in
    let k = c.loop-k.k in
    let pairs = map g.H.Half.pair (lowered ps) in
    let flat = map g.I.Id.number c.loop-k.flat.items in
    let more = c.loop-k-test.true in
    let behind = behind_within ps k c.in-Some.next more c.in-Some.ensures in
    let all = length-halves g.H.Half.pair ps in
    let lt : k < length pairs = omega (arith, more, all) in
    let long : length flat ≡ c.len.result = length_numbers g.I.Id.number c.loop-k.flat.items ∙ (let n = c.len.ensures in let ok = c.loop-k.flat.ok in omega (arith, n, ok)) in
    let is : c.pair_of-pair.result ≡ pair_at pairs k = c.pair_of-pair.ensures ∙ half_read g.H.Half.pair ps k _ _ _ _ more refl refl in
    let most : IsAtMost c.loop-k.last c.pair_of-pair.result = c.is_at_most.ensures.0 c.if-not-is_at_most.false in
    let new : 0 < k → c.loop-k.last ≢ c.pair_of-pair.result = λ some. elim c.then-k-eq0.branch [
      | then-k-eq0-via-then-k-eq0 w ↦ absurd (let none = w.if-k-eq0.true in omega (arith, some, none))
      | then-k-eq0-via-else-k-eq0+then-ne w ↦ pair_differs c.pair_of-pair.result c.loop-k.last w.ne.result w.ne.ensures w.if-ne.true
    ] in
    record {
      within = behind.1;
      symmetric = symmetric_more ps k c.in-Some.next more c.in-Some.ensures c.loop-k.invariant.symmetric;
      halved = halved_behind c.args.n g.H.Half.pair ps k c.in-Some.next c.pair_of-pair.result c.fill_starts.new.starts.items (map g.I.Id.number c.push.new.self.items)
          (halved_more c.args.n pairs k c.loop-k.last c.loop-k.starts.items c.fill_starts.new.starts.items flat (map g.I.Id.number c.push.new.self.items) c.pair_of-pair.result c.loop-k.invariant.halved lt is most new c.in_ok-fill_starts.ensures.opened
          (inside_at c.args.n c.args.n pairs k c.pair_of-pair.result c.requires.inside lt is) (λ ds f. c.in_ok-fill_starts.ensures.compressed ds flat long f)
          (rw (c.in_ok-push.ensures.items, map-append, c.of.ensures) refl))
          more is c.in-Some.ensures;
    }

pub loop-k-preserved : goal.loop-k-preserved
loop-k-preserved g c =
    let ps = c.args.places.now in
    let k = c.loop-k.k in
    let pairs = map g.H.Half.pair (lowered ps) in
    let flat = map g.I.Id.number c.loop-k.flat.items in
    let more = c.loop-k-test.true in
    let behind = behind_within ps k c.in-Some.next more c.in-Some.ensures in
    let all = length-halves g.H.Half.pair ps in
    let lt : k < length pairs = omega (arith, more, all) in
    let long : length flat ≡ c.len.result = length_numbers g.I.Id.number c.loop-k.flat.items ∙ (let n = c.len.ensures in let ok = c.loop-k.flat.ok in omega (arith, n, ok)) in
    let is : c.pair_of-pair.result ≡ pair_at pairs k = c.pair_of-pair.ensures ∙ half_read g.H.Half.pair ps k _ _ _ _ more refl refl in
    let again : c.loop-k.last ≡ c.pair_of-pair.result = pair_again c.pair_of-pair.result c.loop-k.last c.ne.result c.ne.ensures c.if-ne.false in
    let first = ap (λ (z : Pair). z.0) again in
    let opened = c.in_ok-fill_starts.ensures.opened in
    let inside = inside_at c.args.n c.args.n pairs k c.pair_of-pair.result c.requires.inside lt is in
    let none = c.if-k-eq0.false in
    record {
      within = behind.1;
      symmetric = symmetric_more ps k c.in-Some.next more c.in-Some.ensures c.loop-k.invariant.symmetric;
      halved = halved_behind c.args.n g.H.Half.pair ps k c.in-Some.next c.loop-k.last c.fill_starts.new.starts.items flat
          (halved_again c.args.n pairs k c.loop-k.last c.loop-k.starts.items c.fill_starts.new.starts.items flat c.loop-k.invariant.halved lt (again ∙ is) (omega (arith, none))
          (omega (arith, opened, first)) (omega (arith, opened, inside)) (λ ds f. c.in_ok-fill_starts.ensures.compressed ds flat long f))
          more (again ∙ is) c.in-Some.ensures;
    }

pub returns-clause-mirrored : goal.returns-clause-mirrored
returns-clause-mirrored g c = subst AreSymmetric (take_all c.loop-k.k c.args.places.now c.loop-k-test.false) c.loop-k.invariant.symmetric

pub returns-clause-order : goal.returns-clause-order
returns-clause-order g c =
    let ps = c.args.places.now in
    let pairs = map g.H.Half.pair (lowered ps) in
    let flat = map g.I.Id.number c.loop-k.flat.items in
    let all = length-halves g.H.Half.pair ps in
    let long : length flat ≡ c.len-2.result = length_numbers g.I.Id.number c.loop-k.flat.items ∙ (let n = c.len-2.ensures in let ok = c.loop-k.flat.ok in omega (arith, n, ok)) in
    let done : c.loop-k.k ≡ length pairs = let t = c.loop-k-test.false in let w = c.loop-k.invariant.within in omega (arith, t, w, all) in
    halved_end c.args.n c.args.n pairs c.loop-k.k c.loop-k.last c.loop-k.starts.items c.fill_starts-2.new.starts.items flat c.loop-k.invariant.halved c.in_ok-fill_starts-2.ensures.opened done c.requires.inside (λ ds f. c.in_ok-fill_starts-2.ensures.compressed ds flat long f)
