-- The replies to edits, one after the other.
use Rattle.std.proofs.Common.{◌≡◌, ◌∙◌, ℕ, false, List, [], ◌∷◌, ◌++◌, Some, None, append_assoc, append-nil, refl, sym, ap, subst, Box, Global}
use Rattle.std.specs.List.{flat_map}
use Rattle.std.proofs.lemmas.Grind.{flat_map-append}
use Rattle.std.proofs.lemmas.List.{length-set}
use Rattle.bip_defs.specs.ConnectedComponents.{AreConnectedComponents}
use Rattle.bip_defs.specs.EditedMatrix.{with_number, without_number}
use Rattle.bip_defs.specs.Matching.{IsRank}
use Rattle.bip_defs.specs.Matrix.{Matrix, cols, column}
use Rattle.bip_graph.specs.Decompositions.{Decomposes, components_of, decomposition_of}
use Rattle.bip_graph.specs.Texts.{TextLine, rank_line, report_text, spelled, text_of}
use Rattle.bip_graph.specs.declared.answers.Components.{Components}
use Rattle.bip_graph.specs.declared.answers.Decomposition.{Decomposition}
use Rattle.btf_text.specs.Replies.{replies_text, reply_lines}
use Rattle.btf_text.specs.declared.replies.Reply.{Reply}
use Rattle.btf_text.specs.declared.replies.Reply.TheVariants.{Rank}
use Rattle.btf_text.specs.declared.replies.Reply.TheVariants as replied
use Rattle.mm_frames.specs.declared.edit.Edit.{Edit}
use Rattle.mm_frames.specs.declared.edit.Edit.TheVariants.{Clear, Report, Set}
use Rattle.btf_tool.specs.Sessions.{AreReplies, IsReply, IsSessionText, after}
use Rattle.btf_tool.proofs.Analyses.{report_is}

-- a session that began with the matrix a and has b now: the rank of a, and these replies, which any replies to the edits that
-- are left complete
pub record HasReplied (a b : Matrix) (es left : List Edit) (replies : List Reply) : Type 0 where
  pub rank : ℕ
  pub others : List Reply
  pub is_rank : IsRank a rank
  pub replies_are : replies ≡ Rank rank ∷ others
  pub complete : (rest : List ℕ) → AreReplies b left rest → AreReplies a es (replies_text others ++ rest)

-- the text of replies, and one more
text_more : (replies : List Reply) (reply : Reply) (rest : List ℕ) → replies_text (replies ++ reply ∷ []) ++ rest ≡ replies_text replies ++ (text_of (reply_lines reply) ++ rest)
text_more replies reply rest =
    ap (λ (ls : List TextLine). text_of ls ++ rest) (flat_map-append reply_lines replies (reply ∷ []) ∙ ap (λ (ls : List TextLine). flat_map reply_lines replies ++ ls) (append-nil (reply_lines reply)))
    ∙ ap (λ (t : List ℕ). t ++ rest) (flat_map-append spelled (flat_map reply_lines replies) (reply_lines reply))
    ∙ append_assoc (replies_text replies) (text_of (reply_lines reply)) rest

-- an edit leaves the numbers of rows and columns
pub rows_after : (a : Matrix) (e : Edit) → (after a e).rows ≡ a.rows
rows_after a (Set row col) = refl
rows_after a (Clear row col) = refl
rows_after a Report = refl

pub cols_after : (a : Matrix) (e : Edit) → cols (after a e) ≡ cols a
cols_after a (Set row col) = length-set a.columns col (with_number row (column a col))
cols_after a (Clear row col) = length-set a.columns col (without_number row (column a col))
cols_after a Report = refl

-- a report of the matrix replies to the request for it
pub report_replies : (a : Matrix) (report : Box (Decomposition × Components) Global) → Decomposes a report.value.0 → AreConnectedComponents a (components_of report.value.1)
    → IsReply Report a (text_of (reply_lines (replied.Report report)))
report_replies a report decomposes joined =
    let d = report.value.0 in
    let components = Some (components_of report.value.1) in
    record {
      decomposition = decomposition_of d;
      is_decomposition = decomposes.decomposition;
      components = components;
      of_version = (refl, joined);
      matching = None;
      are_pairs = refl;
      spelled = ap report_text (report_is a d components false None decomposes);
    }

-- one more edit
pub one_replied : (a b : Matrix) (es left : List Edit) (replies : List Reply) (e : Edit) (reply : Reply) → HasReplied a b es (e ∷ left) replies → IsReply e (after b e) (text_of (reply_lines reply))
    → HasReplied a (after b e) es left (replies ++ reply ∷ [])
one_replied a b es left replies e reply h is = record {
  rank = h.rank;
  others = h.others ++ reply ∷ [];
  is_rank = h.is_rank;
  replies_are = ap (λ (rs : List Reply). rs ++ reply ∷ []) h.replies_are;
  complete = λ rest more. subst (AreReplies a es) (sym (text_more h.others reply rest)) (h.complete (text_of (reply_lines reply) ++ rest) (text_of (reply_lines reply), rest, is, more, refl));
}

-- after the last edit
pub all_replied : (a b : Matrix) (es : List Edit) (replies : List Reply) → HasReplied a b es [] replies → IsSessionText a es (replies_text replies)
all_replied a b es replies h = record {
  first = text_of (rank_line h.rank ∷ []);
  others = replies_text h.others;
  is_rank = record { rank = h.rank; is_rank = h.is_rank; spelled = refl };
  are_replies = subst (AreReplies a es) (append-nil (replies_text h.others)) (h.complete [] refl);
  spelled = ap replies_text h.replies_are ∙ flat_map-append spelled (rank_line h.rank ∷ []) (flat_map reply_lines h.others);
}

-- the text of equal replies to equal edits
pub same_session : (a : Matrix) {es fs : List Edit} {rs ss : List Reply} → es ≡ fs → rs ≡ ss → IsSessionText a es (replies_text rs) → IsSessionText a fs (replies_text ss)
same_session a {fs = fs} {rs = rs} edits replies h =
    subst (λ (xs : List Reply). IsSessionText a fs (replies_text xs)) replies (subst (λ (xs : List Edit). IsSessionText a xs (replies_text rs)) edits h)
