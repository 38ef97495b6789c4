-- What is written of the replies in a session of edits.
use Rattle.std.specs.Prelude.{ℕ, false, List, ◌∷◌, [], Some, None}
use Rattle.std.specs.List.{flat_map}
use Rattle.bip_graph.specs.Decompositions.{components_of}
use Rattle.bip_graph.specs.Texts.{TextLine, rank_line, report_lines, text_of}
use Rattle.btf_text.specs.Reports.{reported}
use Rattle.btf_text.specs.declared.replies.Reply.{Reply}
use Rattle.btf_text.specs.declared.replies.Reply.TheVariants.{Rank, Report}

-- the rank, or a report of version 2 without orders and pairs
abbrev pub reply_lines : Reply → List TextLine
reply_lines (Rank rank) = rank_line rank ∷ []
reply_lines (Report report) =
    report_lines (reported report.value.0 (Some (components_of report.value.1)) false None)

abbrev pub replies_text : List Reply → List ℕ
replies_text replies = text_of (flat_map reply_lines replies)
