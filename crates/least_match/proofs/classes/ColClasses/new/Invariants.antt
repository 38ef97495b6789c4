use Rattle.least_match.specs.Classes.{HaveParts}
use Rattle.least_match.proofs.classes.ColClasses.new.Given as goal

abbrev pub invariant-loop-part : goal.invariant-loop-part
invariant-loop-part l = HaveParts l.parts l.part-index l.numbers.items
