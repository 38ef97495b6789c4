use Rattle.std.proofs.Common.{◌≡◌, ◌++◌, map, take}
use Rattle.claim_words.specs.WordCodes.{AllFit, code_by}
use Rattle.claim_words.proofs.board.lay.Given as goal

-- the values so far are laid
abbrev pub invariant-loop-value : goal.invariant-loop-value
invariant-loop-value g l = record {
  words : l.words.items ≡ l.initial.words.items ++ map (code_by g.I.Id.number) (take l.value-index l.values);
  fit : AllFit l.words.items;
}
