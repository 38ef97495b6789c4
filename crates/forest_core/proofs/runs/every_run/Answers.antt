use Rattle.std.proofs.Common.{◌≤◌, ◌∙◌, List, ap, arith, length, subst, sym, take, ◌++◌, ◌∷◌, []}
use Rattle.std.proofs.lemmas.List.{take_all, take_more}
use Rattle.sp_ids.specs.declared.events.Event.{Event}
use Rattle.forest_core.specs.Events.{Runs}
use Rattle.bip_defs.specs.Forest.{new_forest}
use Rattle.forest_core.proofs.Soundness.{new_forest_sound, run_current, run_last, run_matrix, run_sound}
use Rattle.forest_core.proofs.runs.every_run.Goals as goal

pub loop-made-init : goal.loop-made-init
loop-made-init c = c.in_ok-forest.ensures

pub returns-then-not-may-clause-made : goal.returns-then-not-may-clause-made
returns-then-not-may-clause-made c = c.loop-made.invariant

pub returns-then-not-may-clause-pattern : goal.returns-then-not-may-clause-pattern
returns-then-not-may-clause-pattern c = run_matrix _ _ _ c.loop-made.invariant

pub returns-then-not-may-clause-sound : goal.returns-then-not-may-clause-sound
returns-then-not-may-clause-sound c = run_sound _ _ _ (new_forest_sound _ _ c.requires.matching.matching) c.loop-made.invariant

pub returns-then-not-may-clause-current : goal.returns-then-not-may-clause-current
returns-then-not-may-clause-current c = run_current _ _ _ _ c.requires.matching.matching c.loop-made.invariant

pub loop-made-preserved : goal.loop-made-preserved
loop-made-preserved c =
    let events = c.args.events.now in
    let more = take_more events c.loop-made.made c.index-events-made.result c.loop-made-test.true ∙ ap (λ (e : Event). take c.loop-made.made events ++ e ∷ []) (sym c.index-events-made.is) in
    subst (λ (es : List Event). Runs (new_forest c.args.pattern.now c.args.matching.pairs) es c.make.new.forest) (sym more) (run_last _ c.loop-made.forest c.make.new.forest _ c.index-events-made.result c.loop-made.invariant (c.may.ensures.0 c.if-not-may.false) c.make.ensures)

-- all events were made
all_made : (c : goal.After-loop-made) → Runs (new_forest c.args.pattern.now c.args.matching.pairs) (take (length c.args.events.now) c.args.events.now) c.loop-made.forest
all_made c =
    let le : length c.args.events.now ≤ c.loop-made.made = omega arith in
    subst (λ (es : List Event). Runs (new_forest c.args.pattern.now c.args.matching.pairs) es c.loop-made.forest) (take_all c.loop-made.made c.args.events.now le ∙ sym (take_all (length c.args.events.now) c.args.events.now (omega arith))) c.loop-made.invariant

pub returns-clause-made : goal.returns-clause-made
returns-clause-made c = all_made c

pub returns-clause-pattern : goal.returns-clause-pattern
returns-clause-pattern c = run_matrix _ _ _ c.loop-made.invariant

pub returns-clause-sound : goal.returns-clause-sound
returns-clause-sound c = run_sound _ _ _ (new_forest_sound _ _ c.requires.matching.matching) (all_made c)

pub returns-clause-current : goal.returns-clause-current
returns-clause-current c = run_current _ _ _ _ c.requires.matching.matching (all_made c)
