use Rattle.std.proofs.Common.{◌≡◌, ◌≤◌, length}
use Rattle.std.specs.List.{All}
use Rattle.sp_ids.specs.Limits.{max_batch_file_bytes}
use Rattle.mm_defs.specs.Calls.{room}
use Rattle.mm_reader.specs.Fronts.{front}
use Rattle.mm_reader.specs.Inputs.{Asks, CanRead}
use Rattle.mm_frames.specs.Batches.{files_of}
use Rattle.mm_frames.specs.Frames.{HasFiles}
use Rattle.mm_frames.proofs.files.read_files.Given as goal

abbrev pub invariant-reading : goal.invariant-reading
invariant-reading g l = record {
  files : HasFiles (front l.fn.input) (front l.input) (g.S.Source.left l.fn.source) (g.S.Source.left l.source) (files_of l.files.items);
  small : All (λ file. length file.items ≤ max_batch_file_bytes) l.files.items;
  steady : g.S.Source.faults l.source ≡ g.S.Source.faults l.fn.source;
  can : CanRead (g.S.Source.left l.source) l.input;
  asks : Asks g.S.Source.left l.fn.source l.source l.fn.input l.input;
}

abbrev pub decreases-reading : goal.decreases-reading
decreases-reading g l = room l.input
