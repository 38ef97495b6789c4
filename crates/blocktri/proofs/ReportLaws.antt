-- What is told of a matrix is what its report says.
use Rattle.std.proofs.Common.{ℕ, Bool, true, List, Option, None, Some}
use Rattle.bip_defs.specs.ConnectedComponents.{Components}
use Rattle.bip_defs.specs.Matrix.{Matrix, Place}
use Rattle.bip_defs.proofs.Connected.{same_components}
use Rattle.bip_graph.specs.Answers.{AreOfVersion, ArePairs}
use Rattle.blocktri.specs.Agreements.{EachComponentsAre, EachLeastMatchingIs}
use Rattle.blocktri.proofs.LawLemmas.{same_least}

pub told_listed : (a : Matrix) (version : ℕ) (listed : Option Components) → AreOfVersion a version listed → EachComponentsAre a listed
told_listed a version None are s xs rows ys columns told = tt
told_listed a version (Some c) are s xs rows ys columns told = same_components a told.components c told.are_components are.1

pub told_least : (a : Matrix) (pairs : Bool) (listed : Option (List Place)) → ArePairs a pairs true listed → EachLeastMatchingIs a listed
told_least a pairs None are k xs rows ys columns told = tt
told_least a pairs (Some m) are k xs rows ys columns told = same_least a k xs rows ys columns m told are.1
