use Rattle.std.proofs.Common.{[], ◌∷◌, ◌∙◌, ap, List, ℕ, to_z-of_z}
use Rattle.std.specs.Fmt.{signed_decimal}
use Rattle.btf_text.proofs.BufferLaws.{appends_as, appends_then}
use Rattle.btf_text.proofs.buffer.TextBuf.put_signed.Goals as goal

pub returns : goal.returns
returns g c =
    appends_as _ _ (ap (λ (t : List ℕ). 32 ∷ t) (c.as_bytes-text.ensures.value ∙ c.format.ensures.text ∙ ap signed_decimal (to_z-of_z c.ranges.number)))
    (appends_then (32 ∷ []) _ c.put_piece.ensures c.put_piece-2.ensures)
