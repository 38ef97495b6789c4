use Rattle.std.proofs.Common.{◌≡◌, drop}
use Rattle.bip_defs.specs.Matrix.{cols}
use Rattle.btf_tool.proofs.Sessions.{HasReplied}
use Rattle.btf_tool.proofs.replies.counted.Given as goal

abbrev pub invariant-loop-edit : goal.invariant-loop-edit
invariant-loop-edit g l = record {
  replied : HasReplied l.fn.pattern l.session.matrix l.edits (drop l.edit-index l.edits) l.replies.items;
  rows : l.session.matrix.rows ≡ l.fn.pattern.rows;
  cols_are : cols l.session.matrix ≡ cols l.fn.pattern;
}
