use Rattle.std.proofs.Common.{arith}
use Rattle.outer_components.proofs.LabelLemmas.{meeting_end, meeting_more, meeting_start, stands_on}
use Rattle.outer_components.proofs.labels.meet_all.Goals as goal

pub loop-at-init : goal.loop-at-init
loop-at-init g c = meeting_start (g.R.NumberList.numbers c.args.entries) c.args.label c.args.rows.now c.args.contacts.now c.requires.label c.requires.long

pub meet-requires : goal.meet-requires
meet-requires g c =
    let within = rw c.len-at-end.ensures at c.loop-at-test.true in
    let lt = c.requires.rows c.at.result (stands_on _ _ _ within c.at.ensures) in
    let l = c.loop-at.invariant.met.long in
    omega (arith, lt, l)

pub loop-at-preserved : goal.loop-at-preserved
loop-at-preserved g c =
    let list = g.R.NumberList.numbers c.args.entries in
    let within = rw c.len-at-end.ensures at c.loop-at-test.true in
    let lt = c.requires.rows c.at.result (stands_on list _ _ within c.at.ensures) in
    let l = c.loop-at.invariant.met.long in
    meeting_more list c.loop-at.at c.args.label c.loop-at.last c.at.result c.args.rows.now c.loop-at.rows c.args.contacts.now c.loop-at.contacts c.loop-at.invariant c.requires.label within c.at.ensures (omega (arith, lt, l)) _ c.meet.new.rows c.meet.new.contacts c.in_ok-last.ensures

pub returns : goal.returns
returns g c = meeting_end (g.R.NumberList.numbers c.args.entries) c.loop-at.at _ c.args.label c.loop-at.last c.args.rows.now c.loop-at.rows c.args.contacts.now c.loop-at.contacts c.loop-at.invariant (let long = c.len-at-end.ensures in omega (arith, long, c.loop-at-test.false))
