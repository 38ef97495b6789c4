use Rattle.std.proofs.Common.{◌≡◌, ◌∙◌, ◌<◌, length, map, rules, false, refl, sym, subst, arith, true≢false, vec_len}
use Rattle.std.proofs.lemmas.List.{get_or_default, get_or_past, length-map}
use Rattle.bip_defs.specs.Lists.{Among}
use Rattle.bip_defs.proofs.Sets.{among_at, number_at}
use Rattle.bip_defs.specs.Lists.{IsMarked}
use Rattle.btf_check.proofs.MarkLemmas.{marking_more, once_long, striking_end, striking_more, striking_stop}
use Rattle.btf_check.proofs.compare.are_once.Goals as goal
use Rattle.btf_check.proofs.compare.are_once.Goals.{then-number-len-via-then-number-len, then-number-len-via-else-number-len+then-not-index}

pub returns-then-list-once : goal.returns-then-list-once
returns-then-list-once g c = (
  λ t. absurd (true≢false (sym t)),
  λ all.
      let same = once_long (map g.N.Id.number c.args.once.now) (map g.N.Id.number c.args.list.now) c.requires.distinct all in
      absurd (omega (arith, same, length-map c.args.once.now g.N.Id.number, length-map c.args.list.now g.N.Id.number, c.if-list-once.true)),
)

pub index_mut-requires : goal.index_mut-requires
index_mut-requires g c =
    let is = number_at g.N.Id.number c.args.once.now c.loop-at.at c.index-once-at.result c.index-once-at.is c.loop-at-test.true ∙ sym c.number.ensures in
    let listed = among_at (map g.N.Id.number c.args.once.now) c.loop-at.at 0 (omega (arith, length-map c.args.once.now g.N.Id.number, c.loop-at-test.true)) in
    let below = c.requires.below c.number.result (subst (λ x. Among x (map g.N.Id.number c.args.once.now)) is listed) in
    let long : vec_len c.loop-at.waiting ≡ length c.loop-at.waiting.items = search rules in
    omega (arith, below, long, c.loop-at.invariant.long)

pub loop-at-preserved : goal.loop-at-preserved
loop-at-preserved g c =
    let is = number_at g.N.Id.number c.args.once.now c.loop-at.at c.index-once-at.result c.index-once-at.is c.loop-at-test.true ∙ sym c.number.ensures in
    let lt : c.loop-at.at < length (map g.N.Id.number c.args.once.now) = omega (arith, length-map c.args.once.now g.N.Id.number, c.loop-at-test.true) in
    let listed = among_at (map g.N.Id.number c.args.once.now) c.loop-at.at 0 lt in
    let below = c.requires.below c.number.result (subst (λ x. Among x (map g.N.Id.number c.args.once.now)) is listed) in
    marking_more (map g.N.Id.number c.args.once.now) c.loop-at.at c.args.bound c.number.result c.loop-at.waiting.items lt below is c.loop-at.invariant

pub returns-then-number-len : goal.returns-then-number-len
returns-then-number-len g c =
    let is = number_at g.N.Id.number c.args.list.now c.loop-at-2.at c.index-list-at.result c.index-list-at.is c.loop-at-2-test.true ∙ sym c.number-number.ensures in
    let off : ¬ IsMarked c.loop-at-2.waiting.items c.number-number.result =
    elim c.then-number-len.branch [
      | then-number-len-via-then-number-len w ↦
          let long : vec_len c.loop-at-2.waiting ≡ length c.loop-at-2.waiting.items = search rules in
          λ h. true≢false (sym h ∙ get_or_past c.loop-at-2.waiting.items c.number-number.result false (omega (arith, long, c.len.ensures, w.if-number-len.true)))
      | then-number-len-via-else-number-len+then-not-index w ↦ search rules
    ] in
    (λ t. absurd (true≢false (sym t)), λ all. absurd (striking_stop (map g.N.Id.number c.args.once.now) (map g.N.Id.number c.args.list.now) c.loop-at-2.at c.args.bound c.number-number.result c.loop-at-2.waiting.items (omega (arith, length-map c.args.list.now g.N.Id.number, c.loop-at-2-test.true)) is off c.loop-at-2.invariant all))

pub loop-at-2-preserved : goal.loop-at-2-preserved
loop-at-2-preserved g c =
    let is = number_at g.N.Id.number c.args.list.now c.loop-at-2.at c.index-list-at.result c.index-list-at.is c.loop-at-2-test.true ∙ sym c.number-number.ensures in
    let long : vec_len c.loop-at-2.waiting ≡ length c.loop-at-2.waiting.items = search rules in
    let within : c.number-number.result < length c.loop-at-2.waiting.items = omega (arith, long, c.len.ensures, c.if-number-len.false) in
    let on : IsMarked c.loop-at-2.waiting.items c.number-number.result = sym (c.index.ensures ∙ get_or_default c.loop-at-2.waiting.items c.number-number.result c.index.result.now false within) ∙ c.if-not-index.false in
    striking_more (map g.N.Id.number c.args.once.now) (map g.N.Id.number c.args.list.now) c.loop-at-2.at c.args.bound c.number-number.result c.loop-at-2.waiting.items (omega (arith, length-map c.args.list.now g.N.Id.number, c.loop-at-2-test.true)) is on c.loop-at-2.invariant

pub returns : goal.returns
returns g c = (λ t. striking_end (map g.N.Id.number c.args.once.now) (map g.N.Id.number c.args.list.now) c.loop-at-2.at c.args.bound c.loop-at-2.waiting.items (omega (arith, length-map c.args.list.now g.N.Id.number, c.loop-at-2-test.false, c.loop-at-2.auto.at-end)) (omega (arith, length-map c.args.list.now g.N.Id.number, length-map c.args.once.now g.N.Id.number, c.if-list-once.false)) c.loop-at-2.invariant, λ all. refl)
