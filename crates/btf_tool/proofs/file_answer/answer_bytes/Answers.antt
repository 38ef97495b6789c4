use Rattle.std.proofs.Common.{◌≡◌, ◌++◌, ℕ, Bool, List, ap, subst, sym}
use Rattle.std.proofs.lemmas.Result.{IfOk-weaker}
use Rattle.mm_defs.specs.Calls.{Intake}
use Rattle.mm_defs.specs.declared.kinds.Kind.{Kind}
use Rattle.btf_tool.specs.FileAnswer.{IsFaulty}
use Rattle.btf_tool.proofs.LentFiles.{lent_limit, lent_malformed, lent_read}
use Rattle.btf_tool.proofs.file_answer.answer_bytes.Goals as goal

pub returns-in-Ok : goal.returns-in-Ok
returns-in-Ok g c =
    IfOk-weaker c.analysed.result _ _ (λ answer is. is c.args.bytes.now
    (lent_read c.in_ok-input.input c.args.bytes.now c.new-source.result c.read_matrix.new.source _ c.in-Ok.triples (ap (λ (i : Intake). i.ahead) c.in_ok-input.ensures) c.new-source.ensures c.in-Ok.ensures.tells.answer))
    c.analysed.ensures

same_fault : {bytes : List ℕ} {limit : Bool} {line told : ℕ} {kind known : Kind} → line ≡ told → kind ≡ known → IsFaulty bytes limit told known → IsFaulty bytes limit line kind
same_fault {bytes = bytes} {limit = limit} {told = told} {kind = kind} line-is kind-is h =
    subst (λ (l : ℕ). IsFaulty bytes limit l kind) (sym line-is) (subst (λ (k : Kind). IsFaulty bytes limit told k) (sym kind-is) h)

pub returns-in-Err-Malformed : goal.returns-in-Err-Malformed
returns-in-Err-Malformed g c =
    same_fault c.in-Err-Malformed.line-is c.in-Err-Malformed.kind-is
    (lent_malformed c.in_ok-input.input c.args.bytes.now c.new-source.result c.read_matrix.new.source (c.read_matrix.new.input.ahead ++ c.read_matrix.new.source) c.in-Err-Malformed.field-0 c.in-Err-Malformed.line c.in-Err-Malformed.kind
    (ap (λ (i : Intake). i.ahead) c.in_ok-input.ensures) c.new-source.ensures c.in-Err-Malformed.field-0-is c.in-Err-Malformed.ensures.tells.answer)

pub returns-in-Err-Limit : goal.returns-in-Err-Limit
returns-in-Err-Limit g c =
    same_fault c.in-Err-Limit.line-is c.in-Err-Limit.kind-is
    (lent_limit c.in_ok-input.input c.args.bytes.now c.new-source.result c.read_matrix.new.source (c.read_matrix.new.input.ahead ++ c.read_matrix.new.source) c.in-Err-Limit.field-0 c.in-Err-Limit.line c.in-Err-Limit.kind
    (ap (λ (i : Intake). i.ahead) c.in_ok-input.ensures) c.new-source.ensures c.in-Err-Limit.field-0-is c.in-Err-Limit.ensures.tells.answer)
