use Rattle.std.proofs.Common.{◌≡◌, ◌≢◌, ◌∙◌, ◌<◌, length, false, refl, slice_index_or, subst, take, arith, get_or-set_other}
use Rattle.std.proofs.lemmas.List.{take_more}
use Rattle.path_search.specs.Batches.{KeepsUnmarked}
use Rattle.path_search.proofs.BatchLemmas.{count_small, keeps_more, keeps_none, taken_among}
use Rattle.path_search.proofs.batches.keep_unmarked.Goals as goal

pub unmarked-kept-requires : goal.unmarked-kept-requires
unmarked-kept-requires c =
    let x = c.index-candidates-at.result in
    let same : x ≡ slice_index_or c.args.candidates.now c.loop-at.at x = c.index-candidates-at.is ∙ c.loop-at.invariant.rest c.loop-at.at x (omega arith) in
    c.requires.in_range x (taken_among x c.args.candidates.now c.args.len c.loop-at.at c.loop-at-test.true c.requires.len same)

pub loop-at-init : goal.loop-at-init
loop-at-init c = record { behind = omega arith; rest = λ i x le. refl; kept = keeps_none _ }

pub loop-at-preserved : goal.loop-at-preserved
loop-at-preserved c =
    let k = c.loop-at.invariant in
    let x = c.index-candidates-at.result in
    let same : x ≡ slice_index_or c.args.candidates.now c.loop-at.at x = c.index-candidates-at.is ∙ k.rest c.loop-at.at x (omega arith) in
    let within : c.loop-at.at < length c.args.candidates.now = (let le = c.requires.len in let lt = c.loop-at-test.true in omega arith) in
    let room : c.loop-at.kept < length c.loop-at.candidates = (let before = k.behind in omega arith) in
    record {
      behind = (let before = k.behind in let few = count_small (slice_index_or c.args.marks.now x.row false) c.unmarked-kept.result c.unmarked-kept.ensures in omega arith);
      rest = λ i y le. let apart : i ≢ c.loop-at.kept = (let before = k.behind in omega arith) in get_or-set_other c.loop-at.candidates c.loop-at.kept i x y apart ∙ k.rest i y (omega arith);
      kept = rw (take_more c.args.candidates.now c.loop-at.at x within, ← same) (keeps_more _ x _ _ c.loop-at.kept c.unmarked-kept.result (slice_index_or c.args.marks.now x.row false) refl c.unmarked-kept.ensures room k.kept);
    }

pub returns-clause-kept : goal.returns-clause-kept
returns-clause-kept c =
    let end : c.loop-at.at ≡ c.args.len = omega arith in
    subst (λ n. KeepsUnmarked c.args.marks.now (take n c.args.candidates.now) (take c.loop-at.kept c.loop-at.candidates)) end c.loop-at.invariant.kept
